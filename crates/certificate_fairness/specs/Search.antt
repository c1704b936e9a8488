-- The first breach of fairness: positions alone in order, then articles, then legs 1, 2 and 3 ascending.
use Rattle.std.specs.Prelude.{◌≡◌, ℕ, zero, suc, ◌+◌, Bool, false, cond, ◌&&◌, List, ◌∷◌, length, ℤ, pos, Some, None, Ok, Err, Option, Result, ◌==◌, int_lt}
use Rattle.std.specs.Bool.{then_some}
use Rattle.std.specs.Option.{option_or, option_to_list}
use Rattle.rules_positions.specs.declared.record.Record.{Record}
use Rattle.rules_books.specs.declared.BookFault.{BookFault}
use Rattle.rules_books.specs.Tables.{Tables}
use Rattle.certificate_pairing.specs.Pairing.{at, mark, Set, distinct, answer, worth, IsWithin, limit, IsPosition, IsFair}
use Rattle.certificate_fairness.specs.declared.Breach.{Breach}
use Rattle.certificate_fairness.specs.declared.Legs.{Legs}
use Rattle.certificate_fairness.specs.declared.Breach.TheVariants as breach

-- the first answer of f at i and the k - 1 numbers after it
abbrev pub first_of : {X : Type 0} → (ℕ → Option X) → ℕ → ℕ → Option X
first_of f i zero = None
first_of f i (suc k) = option_or (f i) (first_of f (i + 1) k)

-- marks above a requirement that the book states
abbrev pub exceeds : Result ℕ BookFault → ℤ → Bool
exceeds (Ok n) m = int_lt (pos n) m
exceeds (Err f) m = false

-- the marks of what the set takes are above its requirement
abbrev pub unfair : Tables → ℕ → List Record → List ℤ → Set → Bool
unfair t s held ms x = exceeds (answer t s held x) (worth s held ms x.legs)

-- a set of distinct positions that is unfair
abbrev pub breaks : Tables → ℕ → List Record → List ℤ → Set → Bool
breaks t s held ms x = distinct x.legs && unfair t s held ms x

-- the first leg, the second, and the third if there is one
abbrev pub legs_from : ℕ → ℕ → Option ℕ → Legs
legs_from i j k = record { first = i; second = j; third = k }

-- the positions that are legs, in order
abbrev pub legs_in : Legs → List ℕ
legs_in l = l.first ∷ l.second ∷ option_to_list l.third

-- an article and its legs
abbrev pub set_at : ℕ → Legs → Set
set_at a l = record { article = a; legs = legs_in l }

-- a mark above its position's requirement alone
abbrev pub alone_breach : Tables → ℕ → List Record → List ℤ → ℕ → Option Breach
alone_breach t s held ms p = then_some (int_lt (pos (t.alone s (at held p))) (mark ms p)) (breach.Alone p)

-- of an article and its legs, if that set is a breach
abbrev pub set_breach : Tables → ℕ → List Record → List ℤ → ℕ → Legs → Option Breach
set_breach t s held ms a l = then_some (breaks t s held ms (set_at a l)) (breach.Set a l)

-- the first third leg that makes a breach
abbrev pub third_of_three : Tables → ℕ → List Record → List ℤ → ℕ → ℕ → ℕ → Option Breach
third_of_three t s held ms a i j = first_of (λ k. set_breach t s held ms a (legs_from i j (Some k))) 1 (length held)

-- with the first two legs given: the set of two, or the first third leg
abbrev pub third_leg : Tables → ℕ → List Record → List ℤ → ℕ → ℕ → ℕ → Option Breach
third_leg t s held ms a i j = cond (t.legs a == 2) (set_breach t s held ms a (legs_from i j None)) (third_of_three t s held ms a i j)

-- the first second leg that makes a breach
abbrev pub second_leg : Tables → ℕ → List Record → List ℤ → ℕ → ℕ → Option Breach
second_leg t s held ms a i = first_of (third_leg t s held ms a i) 1 (length held)

-- the first leg that makes a breach
abbrev pub first_leg : Tables → ℕ → List Record → List ℤ → ℕ → Option Breach
first_leg t s held ms a = first_of (second_leg t s held ms a) 1 (length held)

-- the first position alone
abbrev pub first_alone : Tables → ℕ → List Record → List ℤ → Option Breach
first_alone t s held ms = first_of (alone_breach t s held ms) 1 (length held)

-- the first article
abbrev pub first_article : Tables → ℕ → List Record → List ℤ → Option Breach
first_article t s held ms = first_of (first_leg t s held ms) 1 t.articles

-- positions alone, then articles
abbrev pub first_breach : Tables → ℕ → List Record → List ℤ → Option Breach
first_breach t s held ms = option_or (first_alone t s held ms) (first_article t s held ms)

-- marks within their limits
abbrev pub AreWithinLimits : List Record → List ℤ → Type 0
AreWithinLimits held ms = (p : ℕ) → IsPosition held p → IsWithin (mark ms p) (limit (at held p).kind)

-- nothing is found exactly where the marks are fair
abbrev pub NoneExactlyIfFair : Tables → ℕ → List Record → List ℤ → Option Breach → Type 0
NoneExactlyIfFair t s held ms r = (r ≡ None → IsFair t s held ms) × (IsFair t s held ms → r ≡ None)
