-- Sound claims are a lawful pairing.
use Rattle.std.proofs.Common.{◌≡◌, ℕ, zero, suc, ◌+◌, ◌-◌, ◌*◌, ◌≤◌, List, [], ◌∷◌, ◌++◌, length, replicate, ℤ, pos, ◌≤ℤ◌, sym, refl, ap, ◌∙◌, subst, suc-mul, arith}
use Rattle.std.proofs.lemmas.Int.{ints}
use Rattle.rules_positions.specs.declared.record.Record.{Record}
use Rattle.rules_books.specs.Tables.{Tables}
use Rattle.certificate_pairing.specs.declared.Claim.{Claim}
use Rattle.certificate_pairing.specs.Pairing.{Set, IsAllowed, at, takes, requirement, floor, used, required, AllAllowed, cost}
use Rattle.certificate_pairing.specs.Claims.{legs_of, set_of, taken, required_by, ClaimsAllowed, IsSound, total, pairing_of, ClaimsPair, CertificateShows, FairIn}
use Rattle.certificate_pairing.proofs.Sums.{sum_n_same}
use Rattle.certificate_pairing.proofs.Floors.{floor_under_cost}
use Rattle.certificate_pairing.specs.Dockets.{holding, docket_of, Docket}

module _ (t : Tables) (s : ℕ) (held : List Record) where
  used_many : (n : ℕ) (x : Set) (xs : List Set) (p : ℕ) → used s held (replicate n x ++ xs) p ≡ n * takes s held x.legs p + used s held xs p
  used_many zero x xs p = omega arith
  used_many (suc n) x xs p = let more = used_many n x xs p in omega (arith, suc-mul n (takes s held x.legs p))

  required_many : (n : ℕ) (x : Set) (xs : List Set) → required t s held (replicate n x ++ xs) ≡ n * requirement t s held x + required t s held xs
  required_many zero x xs = omega arith
  required_many (suc n) x xs = let more = required_many n x xs in omega (arith, suc-mul n (requirement t s held x))

  allowed_many : (n : ℕ) (x : Set) (xs : List Set) → IsAllowed t s held x → AllAllowed t s held xs → AllAllowed t s held (replicate n x ++ xs)
  allowed_many zero x xs h k = k
  allowed_many (suc n) x xs h k = (h, allowed_many n x xs h k)

  used_lines : (ls : List Claim) (p : ℕ) → used s held (pairing_of ls) p ≡ taken s held ls p
  used_lines [] p = refl
  used_lines (l ∷ ls) p = used_many l.sets (set_of l) (pairing_of ls) p ∙ ap (λ (n : ℕ). l.sets * takes s held (legs_of l) p + n) (used_lines ls p)

  required_lines : (ls : List Claim) → required t s held (pairing_of ls) ≡ required_by t s held ls
  required_lines [] = refl
  required_lines (l ∷ ls) = required_many l.sets (set_of l) (pairing_of ls) ∙ ap (λ (n : ℕ). l.sets * requirement t s held (set_of l) + n) (required_lines ls)

  allowed_lines : (ls : List Claim) → ClaimsAllowed t s held ls → AllAllowed t s held (pairing_of ls)
  allowed_lines [] h = tt
  allowed_lines (l ∷ ls) h = allowed_many l.sets (set_of l) (pairing_of ls) h.0 (allowed_lines ls h.1)

  cost_lines : (ls : List Claim) → cost t s held (pairing_of ls) ≡ total (docket_of t s (holding held ls))
  cost_lines ls =
      let rest = sum_n_same (length held) (λ p. t.alone s (at held p) * ((at held p).quantity - used s held (pairing_of ls) p)) (λ p. t.alone s (at held p) * ((at held p).quantity - taken s held ls p))
      (λ p. ap (λ (u : ℕ). t.alone s (at held p) * ((at held p).quantity - u)) (used_lines ls p)) in
      let sets = required_lines ls in
      omega arith

pub lines_pair : ClaimsPair
lines_pair d h =
    let t = d.book in
    let s = d.size in
    let held = d.tally.held in
    let ls = d.tally.claims in (
      record {
        allowed = allowed_lines t s held ls h.allowed;
        fits = λ p at_p. subst (λ (u : ℕ). u ≤ (at held p).quantity) (sym (used_lines t s held ls p)) (h.fits p at_p);
      },
      cost_lines t s held ls,
    )

pub shown : (d : Docket Tables) (marks : List ℤ) → IsSound d → FairIn d marks → CertificateShows d marks (total d) (floor d.tally.held marks)
shown d marks sound fair =
    let lines = lines_pair d sound in
    let under = floor_under_cost d.book d.size d.tally.held marks in
    record {
      fair = fair;
      figure = refl;
      bounds = λ xs h. under xs fair h;
      standing = lines.0;
      costs = lines.1;
      sums = refl;
      under = subst (λ (n : ℕ). floor d.tally.held marks ≤ℤ pos n) lines.1 (under (pairing_of d.tally.claims) fair lines.0);
      least = λ e xs h. let least = under xs fair h in omega (arith, ints);
    }
