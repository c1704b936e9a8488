-- Searches for a first answer.
use Rattle.std.proofs.Common.{◌≡◌, ℕ, zero, suc, ◌+◌, ◌-◌, ◌<◌, ◌≤◌, false, ◌⊎◌, Some, None, Option, sym, refl, ap, ◌∙◌, subst, inl, inr, ⊎_elim, arith}
use Rattle.std.specs.Bool.{IsTrue}
use Rattle.std.specs.Fn.{Called}
use Rattle.std.specs.Iterator.Runs.{SomeRun, CallKeepsClosure, AllItemsGive, IsFirstToGive}
use Rattle.std.specs.Option.{option_or, option_map, IfSome, IsSomeAnd, MatchOption}
use Rattle.std.specs.Range.{range_inclusive_start, range_inclusive_end, range_inclusive_exhausted}
use Rattle.std.specs.declared.ops.RangeInclusive.{RangeInclusive}
use Rattle.std.proofs.iter.runs.Sources.{nat_range_inclusive_steps, inclusive_listed}
use denote.Param.Members.{Mut}
use Rattle.std.proofs.lemmas.Bool.{cases_eq}
use Rattle.std.proofs.lemmas.Option.{same_Some}
use Rattle.certificate_fairness.specs.Search.{first_of}

-- one answer, or else the other

pub or_none : {X : Type 0} (r o : Option X) → option_or r o ≡ None → (r ≡ None) × (o ≡ None)
or_none (Some x) o h = absurd (let w : ⊥ = cc in w)
or_none None o h = (refl, h)

pub none_or : {X : Type 0} (r o : Option X) → r ≡ None → option_or r o ≡ o
none_or r o h = ap (λ z. option_or z o) h

pub or_some : {X : Type 0} (r o : Option X) (b : X) → option_or r o ≡ Some b → (r ≡ Some b) ⊎ ((r ≡ None) × (o ≡ Some b))
or_some (Some x) o b h = inl h
or_some None o b h = inr (refl, h)

-- where nothing is found, f answers nothing anywhere
pub none_found : {X : Type 0} (f : ℕ → Option X) (i k : ℕ) → first_of f i k ≡ None → (p : ℕ) → i ≤ p → p < i + k → f p ≡ None
none_found f i zero e p low high = absurd (let w : ⊥ = omega arith in w)
none_found f i (suc k) e p low high =
    let both = or_none (f i) (first_of f (i + 1) k) e in
    ⊎_elim (λ z. ap f z ∙ both.0) (λ d. none_found f (i + 1) k both.1 p (omega arith) (omega arith)) (cases_eq p i)

-- where f answers nothing anywhere, nothing is found
pub none_anywhere : {X : Type 0} (f : ℕ → Option X) (i k : ℕ) → ((p : ℕ) → i ≤ p → p < i + k → f p ≡ None) → first_of f i k ≡ None
none_anywhere f i zero h = refl
none_anywhere f i (suc k) h =
    none_or (f i) (first_of f (i + 1) k) (h i (omega arith) (omega arith))
    ∙ none_anywhere f (i + 1) k (λ p low high. h p (omega arith) (omega arith))

-- where something is found, f answers it at a place, and nothing at the places before
pub record Hit {X : Type 0} (f : ℕ → Option X) (i k : ℕ) (b : X) : Type 0 where
  pub place : ℕ
  pub low : i ≤ place
  pub high : place < i + k
  pub is : f place ≡ Some b
  pub before : (q : ℕ) → i ≤ q → q < place → f q ≡ None

pub found : {X : Type 0} (f : ℕ → Option X) (i k : ℕ) (b : X) → first_of f i k ≡ Some b → Hit f i k b
found f i zero b h = absurd (let w : ⊥ = cc in w)
found f i (suc k) b h =
    ⊎_elim
    (λ here. record { place = i; low = omega arith; high = omega arith; is = here; before = λ q l u. absurd (let w : ⊥ = omega arith in w) })
    (λ later.
    let r = found f (i + 1) k b later.1 in
    let lo = r.low in
    let hi = r.high in
    record {
      place = r.place;
      low = omega arith;
      high = omega arith;
      is = r.is;
      before = λ q l u. ⊎_elim (λ z. ap f z ∙ later.0) (λ d. r.before q (omega arith) u) (cases_eq q i);
    })
    (or_some (f i) (first_of f (i + 1) k) b h)

-- and the other way
pub found_by : {X : Type 0} (f : ℕ → Option X) (i k : ℕ) (b : X) → Hit f i k b → first_of f i k ≡ Some b
found_by f i zero b h = let lo = h.low in let hi = h.high in absurd (let w : ⊥ = omega arith in w)
found_by f i (suc k) b h =
    let lo = h.low in
    let hi = h.high in
    ⊎_elim
    (λ z. ap (λ o. option_or o (first_of f (i + 1) k)) (sym (ap f z) ∙ h.is))
    (λ d.
    none_or (f i) (first_of f (i + 1) k) (h.before i (omega arith) (omega arith))
    ∙ found_by f (i + 1) k b (record { place = h.place; low = omega arith; high = omega arith; is = h.is; before = λ q l u. h.before q (omega arith) u }))
    (cases_eq h.place i)

-- `(1..=n).find_map(..)`, where the closure answers h

if_at : (P : ℕ → Type 0) (o : Option ℕ) (k : ℕ) → option_map (λ y. y) o ≡ Some k → IfSome o P → P k
if_at P (Some x) k e h = subst P (same_Some x k e) h
if_at P None k e h = absurd (let w : ⊥ = cc in w)

some_at : (P : ℕ → Type 0) (o : Option ℕ) (k : ℕ) → option_map (λ y. y) o ≡ Some k → IsSomeAnd o P → P k
some_at P (Some x) k e h = subst P (same_Some x k e) h
some_at P None k e h = absurd h

module _ {X F : Type 0} (g : Mut F (ℕ × Unit {0}) (Option X)) (f : F) (h : ℕ → Option X) (n : ℕ) (keeps : CallKeepsClosure g f) (answers : (x : ℕ) (o : Option X) → 1 ≤ x → x ≤ n → Called g f (x, tt) o f → o ≡ h x) where
  pub find_map_first : (s : RangeInclusive ℕ) (r : Option X)
      → SomeRun nat_range_inclusive_steps s (λ p. MatchOption r (IsTrue p.whole × AllItemsGive p g f None) (λ y. (i : ℕ) × (i < p.len) × (p.len ≡ i + 1) × IsFirstToGive p g f (Some y) None i))
      → range_inclusive_start s ≡ 1 → range_inclusive_end s ≡ n → range_inclusive_exhausted s ≡ false → r ≡ first_of h 1 n
  find_map_first s None run a b e =
      let p = run.0 in
      let up = inclusive_listed p p.seen in
      let counted = (up.4 (ap range_inclusive_exhausted run.1 ∙ e)).0 in
      let low : up.0 ≡ 1 = up.2 ∙ ap range_inclusive_start run.1 ∙ a in
      let high : up.1 ≡ n + 1 = up.3 ∙ ap (λ z. range_inclusive_end z + 1) run.1 ∙ ap (λ z. z + 1) b in
      let long = counted.1 run.2.0 in
      sym (none_anywhere h 1 n
      (λ q l u.
      let at : up.0 + (q - 1) ≡ q = omega arith in
      sym (answers q None l (omega arith) (if_at (λ x. Called g f (x, tt) None f) (p.at (q - 1)) q (counted.3 (q - 1) (omega arith) ∙ ap Some at) (run.2.1 keeps (q - 1))))))
  find_map_first s (Some y) run a b e =
      let p = run.0 in
      let up = inclusive_listed p p.seen in
      let counted = (up.4 (ap range_inclusive_exhausted run.1 ∙ e)).0 in
      let low : up.0 ≡ 1 = up.2 ∙ ap range_inclusive_start run.1 ∙ a in
      let high : up.1 ≡ n + 1 = up.3 ∙ ap (λ z. range_inclusive_end z + 1) run.1 ∙ ap (λ z. z + 1) b in
      let short = counted.0 in
      let i = run.2.0 in
      let inside = run.2.1 in
      let first = run.2.3 keeps in
      let at : (k q : ℕ) → k + 1 ≡ q → k ≤ i → option_map (λ z. z) (p.at k) ≡ Some q = λ k q l u. let e : up.0 + k ≡ q = omega arith in counted.3 k (omega arith) ∙ ap Some e in
      sym (found_by h 1 n y
      (record {
        place = i + 1;
        low = omega arith;
        high = omega arith;
        is = sym (answers (i + 1) (Some y) (omega arith) (omega arith) (some_at (λ x. Called g f (x, tt) (Some y) f) (p.at i) (i + 1) (at i (i + 1) refl (omega arith)) first.0));
        before = λ q l u. sym (answers q None l (omega arith) (some_at (λ x. Called g f (x, tt) None f) (p.at (q - 1)) q (at (q - 1) q (omega arith) (omega arith)) (first.1 (q - 1) (omega arith))));
      }))
