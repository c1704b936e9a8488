-- Sums over the positions.
use Rattle.std.proofs.Common.{◌≡◌, ℕ, zero, suc, ◌+◌, ◌*◌, ◌≤◌, cond, eqb, ℤ, pos, negsuc, ◌+ℤ◌, ◌*ℤ◌, neg_ℤ, ◌≤ℤ◌, sym, refl, ap, ◌∙◌, ⊎_elim, mul-le-mul, mul-add, arith}
use lib.IntN.{neg_ℤ-+ℤ, *ℤ-zero}
use Rattle.std.proofs.lemmas.Int.{ints}
use Rattle.std.proofs.lemmas.Bool.{cases_eq, eq-eqb, ne_eqb, cond-true, cond-false}
use Rattle.certificate_pairing.specs.Sums.{sum_z, sum_n}

-- ---- integers

pub times_sum : (m : ℤ) (a b : ℕ) → m *ℤ pos (a + b) ≡ m *ℤ pos a +ℤ m *ℤ pos b
times_sum (pos k) a b = ap pos (mul-add k a b)
times_sum (negsuc k) a b = ap (λ (n : ℕ). neg_ℤ (pos n)) (mul-add (suc k) a b) ∙ neg_ℤ-+ℤ (pos (suc k * a)) (pos (suc k * b))

pub times_le : (m : ℤ) (k u : ℕ) → m ≤ℤ pos k → (m *ℤ pos u) ≤ℤ pos (k * u)
times_le (pos a) k u h = let l : a ≤ k = omega (arith, ints) in let p : a * u ≤ k * u = mul-le-mul l (omega arith) in omega (arith, ints)
times_le (negsuc a) k u h = omega (arith, ints)

-- ---- sums

pub sum_z_add : (n : ℕ) (f g : ℕ → ℤ) → sum_z n (λ p. f p +ℤ g p) ≡ sum_z n f +ℤ sum_z n g
sum_z_add zero f g = refl
sum_z_add (suc n) f g = let rest = sum_z_add n f g in omega (arith, ints)

pub sum_z_same : (n : ℕ) (f g : ℕ → ℤ) → ((p : ℕ) → 1 ≤ p → p ≤ n → f p ≡ g p) → sum_z n f ≡ sum_z n g
sum_z_same zero f g h = refl
sum_z_same (suc n) f g h =
    let rest = sum_z_same n f g (λ p low high. h p low (omega arith)) in
    let last = h (suc n) (omega arith) (omega arith) in
    cc

pub sum_n_same : (n : ℕ) (f g : ℕ → ℕ) → ((p : ℕ) → f p ≡ g p) → sum_n n f ≡ sum_n n g
sum_n_same zero f g h = refl
sum_n_same (suc n) f g h =
    let rest = sum_n_same n f g h in
    let last = h (suc n) in
    cc

pub sum_z_le : (n : ℕ) (f : ℕ → ℤ) (g : ℕ → ℕ) → ((p : ℕ) → 1 ≤ p → p ≤ n → f p ≤ℤ pos (g p)) → sum_z n f ≤ℤ pos (sum_n n g)
sum_z_le zero f g h = omega (arith, ints)
sum_z_le (suc n) f g h =
    let rest = sum_z_le n f g (λ p low high. h p low (omega arith)) in
    let last = h (suc n) (omega arith) (omega arith) in
    omega (arith, ints)

pub sum_z_none : (n : ℕ) (f : ℕ → ℤ) → ((p : ℕ) → 1 ≤ p → p ≤ n → f p ≡ pos 0) → sum_z n f ≡ pos 0
sum_z_none zero f h = refl
sum_z_none (suc n) f h =
    let rest = sum_z_none n f (λ p low high. h p low (omega arith)) in
    let last = h (suc n) (omega arith) (omega arith) in
    omega (arith, ints)

-- ---- one position alone

abbrev pub at_one : ℕ → ℕ → ℕ → ℕ
at_one a t p = cond (eqb a p) t 0

at_other : (m : ℕ → ℤ) (a t p : ℕ) → (a ≡ p → ⊥) → m p *ℤ pos (at_one a t p) ≡ pos 0
at_other m a t p h = ap (λ (u : ℕ). m p *ℤ pos u) (cond-false (eqb a p) t 0 (ne_eqb a p h)) ∙ *ℤ-zero (m p)

at_same : (m : ℕ → ℤ) (a t p : ℕ) → a ≡ p → m p *ℤ pos (at_one a t p) ≡ m a *ℤ pos t
at_same m a t p e = ap (λ (u : ℕ). m p *ℤ pos u) (cond-true (eqb a p) t 0 (eq-eqb a p e)) ∙ ap (λ (q : ℕ). m q *ℤ pos t) (sym e)

pub sum_z_at : (n : ℕ) (m : ℕ → ℤ) (a t : ℕ) → 1 ≤ a → a ≤ n → sum_z n (λ p. m p *ℤ pos (at_one a t p)) ≡ m a *ℤ pos t
sum_z_at zero m a t low high = absurd (omega arith)
sum_z_at (suc n) m a t low high =
    ⊎_elim
    (λ e.
    let rest = sum_z_none n (λ p. m p *ℤ pos (at_one a t p)) (λ p l h. at_other m a t p (λ z. omega arith)) in
    let last = at_same m a t (suc n) e in
    omega (arith, ints))
    (λ d.
    let rest = sum_z_at n m a t low (omega arith) in
    let last = at_other m a t (suc n) d in
    omega (arith, ints))
    (cases_eq a (suc n))
