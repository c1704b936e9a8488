use Rattle.std.proofs.Common.{◌+◌, ◌*◌, ◌^◌, length, arith, rules, tests}
use Rattle.std.proofs.lemmas.Iterator.{YieldsList-from_map}
use Rattle.std.proofs.lemmas.Iterator.Adapters.{total_from_yields_List, fits_from_length, at_most_from_yields_List}
use Rattle.std.proofs.lemmas.List.FromFn.{length-range_with_len}
use Rattle.std.proofs.lemmas.List.Sums.{sum-map}
use Rattle.std.specs.List.{range_with_len}
use Rattle.certificate_certify.specs.Accounts.{account_by}
use Rattle.certificate_certify.specs.Totals.{free_amount}
use Rattle.certificate_certify.proofs.Sums.{sum_places}
use Rattle.certificate_certify.proofs.Ranges.{yields_up_to}
use Rattle.certificate_certify.proofs.Account.free_total.Goals as goal

pub sum-requires-clause-fits : goal.sum-requires-clause-fits
sum-requires-clause-fits g c =
    let n = length c.args.self.now.held.now in
    let s = c.new.ensures in
    fits_from_length _ _ 32 _ (at_most_from_yields_List (yields_up_to c.new.result n c.map.ensures.source s.start s.end s.exhausted) (omega (arith, c.args.self.now.few_positions, length-range_with_len 1 n)))
    c.map.ensures.closure (omega arith) (λ x r q k. search (rules, tests))

pub returns-clause-value : goal.returns-clause-value
returns-clause-value g c =
    let n = length c.args.self.now.held.now in
    let s = c.new.ensures in
    let f = free_amount (account_by g.B.Book.tables c.args.self.now) in
    let all = total_from_yields_List (λ a x. a + x) 0 c.sum.result c.sum.ensures.ran
    (YieldsList-from_map _ f (yields_up_to c.new.result n c.map.ensures.source s.start s.end s.exhausted) c.map.ensures.closure (λ x r q k. search (rules, tests))) in
    omega (arith, all, sum-map f (range_with_len 1 n), sum_places f n)

pub returns-clause-bound : goal.returns-clause-bound
returns-clause-bound g c =
    let n = length c.args.self.now.held.now in
    let s = c.new.ensures in
    let run = c.sum.ensures.runs tt in
    let most = fits_from_length _ _ 32 (2 ^ 96 * 32 + 1) (at_most_from_yields_List (yields_up_to c.new.result n c.map.ensures.source s.start s.end s.exhausted) (omega (arith, c.args.self.now.few_positions, length-range_with_len 1 n)))
    c.map.ensures.closure (omega arith) (λ x r q k. search (rules, tests)) run.0 run.0.seen run.1 in
    omega (arith, most, run.3)
