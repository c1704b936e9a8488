use Rattle.std.proofs.Common.{◌≡◌, ◌+◌, sym, ap, ◌∙◌, rules, tests}
use Rattle.std.specs.Option.{option_map}
use Rattle.std.proofs.lemmas.Iterator.{YieldsList-from_slice, YieldsList-from_zip}
use Rattle.std.proofs.lemmas.Iterator.Search.{position_from_yields_List}
use Rattle.certificate_pairing.specs.Pairing.{limit}
use Rattle.certificate_certify.specs.Certified.{beyond, first_beyond}
use Rattle.certificate_certify.proofs.Places.{place_is}
use Rattle.certificate_certify.proofs.Promise.{limited_from}
use Rattle.certificate_certify.proofs.out_of_limit.Goals as goal

pub returns : goal.returns
returns c =
    let held = c.args.marked.now.held.now in
    let marks = c.args.marked.now.marks.now in
    let found = position_from_yields_List (λ p. beyond p.1 (limit p.0.kind)) c.position.new.self _ c.position.result c.position.ensures.ran (YieldsList-from_zip {s = c.zip.result} (YieldsList-from_slice held cc) (YieldsList-from_slice marks cc)) (λ x b q k. search (rules, tests)) in
    let place = ap (option_map (λ n. n + 1)) found ∙ place_is held marks c.args.marked.now.each in
    let value : c.map.result ≡ first_beyond held marks = search rules in
    record { value = value; within = λ e. limited_from held marks (sym value ∙ e) }
