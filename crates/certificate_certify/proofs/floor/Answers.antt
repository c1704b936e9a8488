use Rattle.std.proofs.Common.{◌≡◌, ℕ, ◌+◌, ◌-◌, length, get_or, pos, ◌*ℤ◌, ap, ◌∙◌, arith, rules, w64, SFits}
use Rattle.std.proofs.lemmas.Int.{ints, to_z-of_z}
use Rattle.std.proofs.lemmas.List.{length_push}
use Rattle.std.proofs.lemmas.Slice.Zip.{zip_turn, zip_end}
use Rattle.certificate_pairing.specs.Sums.{sum_z}
use Rattle.certificate_pairing.specs.Pairing.{no_record, at, mark}
use Rattle.certificate_certify.proofs.Sums.{sum_z_more}
use Rattle.certificate_certify.proofs.floor.Goals as goal

pub overflow_add-total : goal.overflow_add-total
overflow_add-total c =
    let t = zip_turn c.args.marked.now.held.now c.args.marked.now.marks.now c.loop-record.yielded c.into_iter-record-iterator.result c.loop-record.record-iterator c.next.new.self c.next.result (cc) (cc) c.loop-record.yielded_by _ c.in-Some.is c.next.ensures.steps in
    omega (arith, ints)

pub loop-record-preserved : goal.loop-record-preserved
loop-record-preserved c =
    let held = c.args.marked.now.held.now in
    let marks = c.args.marked.now.marks.now in
    let n = length c.loop-record.yielded in
    let f = λ (p : ℕ). mark marks p *ℤ pos (at held p).quantity in
    let t = zip_turn held marks c.loop-record.yielded c.into_iter-record-iterator.result c.loop-record.record-iterator c.next.new.self c.next.result (cc) (cc) c.loop-record.yielded_by _ c.in-Some.is c.next.ensures.steps in
    let next : n ≡ n + 1 - 1 = omega arith in
    let fits : SFits w64 c.in-Some.mark.now = search rules in
    let here : c.mark_times-total.result ≡ f (n + 1) =
    c.mark_times-total.ensures.value
    ∙ ap (λ z. z *ℤ pos c.in-Some.record.now.quantity) (to_z-of_z w64 c.in-Some.mark.now fits ∙ t.3 (pos 0) ∙ ap (λ i. get_or marks i (pos 0)) next)
    ∙ ap (λ r. mark marks (n + 1) *ℤ pos r.quantity) (t.2 no_record ∙ ap (λ i. get_or held i no_record) next) in
    let more = sum_z_more n f in
    let long = length_push c.loop-record.yielded (c.in-Some.record, c.in-Some.mark) in
    let same = ap (λ i. sum_z i f) long in
    (omega (arith, ints), omega (arith, ints), omega (arith, ints))

pub returns : goal.returns
returns c =
    let held = c.args.marked.now.held.now in
    let marks = c.args.marked.now.marks.now in
    let f = λ (p : ℕ). mark marks p *ℤ pos (at held p).quantity in
    let all = zip_end held marks c.loop-record.yielded c.into_iter-record-iterator.result c.loop-record.record-iterator c.next.new.self c.next.result (cc) (cc) c.loop-record.yielded_by c.in-None.is c.next.ensures.steps in
    let same : sum_z (length c.loop-record.yielded) f ≡ sum_z (length held) f = ap (λ i. sum_z i f) (let w : length c.loop-record.yielded ≡ length held = omega arith in w) in
    omega (arith, ints)
