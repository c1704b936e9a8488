use Rattle.std.proofs.Common.{◌≡◌, ◌≤◌, ◌∷◌, length, take, drop, slice_get, eqb, Some, sym, ap, ◌∙◌, arith, rules, tests}
use Rattle.std.specs.List.{position}
use Rattle.std.proofs.lemmas.List.{length-take-le}
use Rattle.std.proofs.lemmas.Iterator.{YieldsList-from_slice}
use Rattle.std.proofs.lemmas.Iterator.Search.{position_from_yields_List}
use Rattle.file_fields.specs.Fields.{remaining, place_after}
use Rattle.file_fields.proofs.Parting.{taken}
use Rattle.file_fields.proofs.fields.Fields.take_field.Goals as goal

pub returns : goal.returns
returns c =
    let s = c.args.self.now in
    let bs = c.in_ok-rest.rest.now in
    let o = c.position.result in
    let n = c.unwrap_or-n.result in
    let p : o ≡ position (λ b. eqb b 44) bs = position_from_yields_List (λ b. eqb b 44) _ _ o c.position.ensures.ran (YieldsList-from_slice bs cc) (λ x b q k. search (rules, tests)) in
    let e : s.rest ≡ Some c.in_ok-rest.rest = search rules in
    let h : remaining s.rest ≡ take n bs ∷ remaining c.get-self.result = ap remaining e ∙ taken bs o c.get-self.result n p c.unwrap_or-n.ensures c.get-self.ensures.lookup in
    let le : n ≤ length bs = search rules in
    record {
      value = sym (ap (λ fs. slice_get fs 0) h);
      rest = sym (ap (drop 1) h);
      place = omega (arith, ap (place_after s.place) h, length-take-le n bs le);
    }
