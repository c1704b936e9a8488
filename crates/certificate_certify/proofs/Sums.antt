-- Steps of sums, and the limit of what a claim adds to one.
use Rattle.std.proofs.Common.{◌≡◌, ℕ, zero, suc, ◌+◌, ◌*◌, ◌≤◌, Bool, true, false, cond, ◌&&◌, eqb, leb, List, [], ◌∷◌, map, length, sum_by, ℤ, ◌+ℤ◌, None, Ok, Err, Option, Result, unwrap_or, sym, ap, ◌∙◌, subst, ⊎_elim, add-one, arith}
use lib.ListN.{length-map}
use Rattle.std.specs.List.{range_with_len}
use Rattle.std.specs.Result.{result_ok}
use Rattle.std.proofs.lemmas.List.Sums.{sum_by-cons}
use Rattle.std.proofs.lemmas.Bool.{eqb-true, leb-true, and_parts, cond-true, cond-false, cases_Bool}
use Rattle.rules_positions.specs.declared.record.Record.{Record}
use Rattle.rules_positions.specs.declared.Kind.{Kind}
use Rattle.rules_positions.specs.declared.Kind.TheVariants.{Units, Call, Put, Futures, Receipt}
use Rattle.rules_books.specs.declared.BookFault.{BookFault}
use Rattle.rules_books.specs.Tables.{Tables, Has, IsSize, IsAnswer, IsLawful}
use Rattle.certificate_pairing.specs.declared.Claim.{Claim}
use Rattle.certificate_pairing.specs.Sums.{sum_n, sum_z}
use Rattle.certificate_pairing.specs.Pairing.{at, of_leg, lot, takes}
use Rattle.certificate_pairing.specs.Dockets.{Docket}
use Rattle.certificate_pairing.specs.Claims.{legs_of, set_of, answer_in}
use Rattle.certificate_certify.specs.Totals.{known, set_amount}

pub sum_n_more : (n : ℕ) (f : ℕ → ℕ) → sum_n (n + 1) f ≡ sum_n n f + f (n + 1)
sum_n_more n f = ap (λ (k : ℕ). sum_n k f) (add-one n) ∙ ap (λ (k : ℕ). sum_n n f + f k) (sym (add-one n))

pub sum_z_more : (n : ℕ) (f : ℕ → ℤ) → sum_z (n + 1) f ≡ sum_z n f +ℤ f (n + 1)
sum_z_more n f = ap (λ (k : ℕ). sum_z k f) (add-one n) ∙ ap (λ (k : ℕ). sum_z n f +ℤ f k) (sym (add-one n))

-- f of each of the n numbers after a
sum_up : (f : ℕ → ℕ) (n a : ℕ) → sum_n a f + sum_by f (range_with_len (a + 1) n) ≡ sum_n (a + n) f
sum_up f zero a = let w : a + 0 ≡ a = omega arith in omega (arith, ap (λ (n : ℕ). sum_n n f) w)
sum_up f (suc n) a =
    let first = sum_by-cons f (a + 1) (range_with_len (a + 1 + 1) n) in
    let more = sum_n_more a f in
    let rest = sum_up f n (a + 1) in
    let w : a + suc n ≡ a + 1 + n = omega arith in
    omega (arith, ap (λ (n : ℕ). sum_n n f) w)

pub sum_places : (f : ℕ → ℕ) (n : ℕ) → sum_by f (range_with_len 1 n) ≡ sum_n n f
sum_places f n = let w : 0 + n ≡ n = omega arith in omega (arith, sum_up f n 0, ap (λ (n : ℕ). sum_n n f) w)

ok_limit : (o : Result ℕ BookFault) → IsAnswer o → unwrap_or (result_ok o) 0 ≤ 10000000000000
ok_limit (Ok n) h = h
ok_limit (Err f) h = omega arith

-- a set of a claim requires no more than a book may ask
pub set_limit : (d : Docket Tables) → IsLawful d.book → (l : Claim) → IsSize d.size → set_amount d l ≤ 10000000000000
set_limit d law l size =
    let t = d.book in
    let set = result_ok (answer_in d (set_of l)) in
    ⊎_elim
    (λ e.
    let parts = and_parts (leb 1 l.article && leb l.article t.articles) (eqb (length (legs_of l)) (t.legs l.article)) e in
    let ends = and_parts (leb 1 l.article) (leb l.article t.articles) parts.0 in
    let has : Has t l.article = (leb-true 1 l.article ends.0, leb-true l.article t.articles ends.1) in
    let whole = length-map (legs_of l) (at d.tally.held) ∙ eqb-true (length (legs_of l)) (t.legs l.article) parts.1 in
    let most = ok_limit (answer_in d (set_of l)) (law.paired_limit d.size l.article (map (at d.tally.held) (legs_of l)) size has whole) in
    subst (λ (o : Option ℕ). unwrap_or o 0 ≤ 10000000000000) (sym (cond-true (known t l) set None e)) most)
    (λ e. subst (λ (o : Option ℕ). unwrap_or o 0 ≤ 10000000000000) (sym (cond-false (known t l) set None e)) (let w : 0 ≤ 10000000000000 = omega arith in w))
    (cases_Bool (known t l))

-- a set takes at most 1,000 of each leg
takes_at : (s : ℕ) (k : Kind) → s ≤ 1000 → of_leg s k ≤ 1000
takes_at s Units h = h
takes_at s Call h = omega arith
takes_at s Put h = omega arith
takes_at s Futures h = omega arith
takes_at s Receipt h = omega arith

one_limit : (b : Bool) (n : ℕ) → n ≤ 1000 → cond b n 0 ≤ 1000
one_limit true n h = h
one_limit false n h = omega arith

pub takes_limit : (s : ℕ) (held : List Record) (qs : List ℕ) (p : ℕ) → s ≤ 1000 → takes s held qs p ≤ 1000 * length qs
takes_limit s held [] p h = omega arith
takes_limit s held (q ∷ qs) p h =
    let here = one_limit (eqb q p) (lot s held q) (takes_at s (at held q).kind h) in
    let rest = takes_limit s held qs p h in
    omega arith
