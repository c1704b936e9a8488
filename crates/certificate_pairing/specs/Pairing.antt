-- Sets, fair marks, lawful pairings and their cost, over a book's tables, a contract size and the positions held.
-- A position is told by its number, from 1 in order of entry; its record's quantity is the units (or contracts) entered of it.
use Rattle.std.specs.Prelude.{◌≡◌, ℕ, ◌+◌, ◌-◌, ◌*◌, ◌≤◌, Bool, true, false, cond, not, ◌&&◌, ◌||◌, List, [], ◌∷◌, map, length, ℤ, pos, ◌+ℤ◌, ◌*ℤ◌, neg_ℤ, ◌≤ℤ◌, Ok, Err, Result, ◌==◌, slice_index_or}
use Rattle.rules_positions.specs.declared.record.Record.{Record}
use Rattle.rules_books.specs.declared.BookFault.{BookFault}
use Rattle.rules_positions.specs.declared.Kind.{Kind}
use Rattle.rules_positions.specs.declared.Kind.TheVariants.{Units, Call, Put, Futures, Receipt}
pub use Rattle.rules_positions.specs.Records.{in_range_lem, no_record}
use Rattle.rules_books.specs.Tables.{Tables, Has}
use Rattle.certificate_pairing.specs.Sums.{sum_z, sum_n}

-- positions; no_record is what is read where there is none

-- a number that a position has
abbrev pub IsPosition : List Record → ℕ → Type 0
IsPosition held p = (1 ≤ p) × (p ≤ length held)

-- the record of a position
abbrev pub at : List Record → ℕ → Record
at held p = slice_index_or held (p - 1) no_record

-- the mark of a position
abbrev pub mark : List ℤ → ℕ → ℤ
mark marks p = slice_index_or marks (p - 1) (pos 0)

-- sets

-- an article, and the numbers of the positions that are its legs, in its order
pub record Set : Type 0 where
  pub article : ℕ
  pub legs : List ℕ

-- each leg is a position
abbrev pub ArePositions : List Record → List ℕ → Type 0
ArePositions held [] = Unit {0}
ArePositions held (p ∷ ps) = IsPosition held p × ArePositions held ps

-- the position is one of the legs
abbrev pub among : ℕ → List ℕ → Bool
among p [] = false
among p (q ∷ qs) = p == q || among p qs

-- no position is a leg twice
abbrev pub distinct : List ℕ → Bool
distinct [] = true
distinct (p ∷ ps) = not (among p ps) && distinct ps

-- what the book says of a set
abbrev pub answer : Tables → ℕ → List Record → Set → Result ℕ BookFault
answer t s held x = t.paired s x.article (map (at held) x.legs)

-- the requirement in an answer
abbrev pub answered_parts : Result ℕ BookFault → ℕ
answered_parts (Ok n) = n
answered_parts (Err f) = 0

-- what a set requires
abbrev pub requirement : Tables → ℕ → List Record → Set → ℕ
requirement t s held x = answered_parts (answer t s held x)

-- an article that the book has, with all its legs, distinct positions that are held, and not refused
pub record IsAllowed (t : Tables) (s : ℕ) (held : List Record) (x : Set) : Type 0 where
  pub article : Has t x.article
  pub legs : length x.legs ≡ t.legs x.article
  pub positions : ArePositions held x.legs
  pub apart : distinct x.legs ≡ true
  pub granted : answer t s held x ≡ Ok (requirement t s held x)

-- a set takes the contract size in units of a leg of the underlying, and one contract of any other
abbrev pub of_leg : ℕ → Kind → ℕ
of_leg s Units = s
of_leg s Call = 1
of_leg s Put = 1
of_leg s Futures = 1
of_leg s Receipt = 1

-- what a set takes of a position that is its leg
abbrev pub lot : ℕ → List Record → ℕ → ℕ
lot s held p = of_leg s (at held p).kind

-- what the legs take of position p
abbrev pub takes : ℕ → List Record → List ℕ → ℕ → ℕ
takes s held [] p = 0
takes s held (q ∷ qs) p = cond (q == p) (lot s held q) 0 + takes s held qs p

-- the marks of what the legs take
abbrev pub worth : ℕ → List Record → List ℤ → List ℕ → ℤ
worth s held marks [] = pos 0
worth s held marks (q ∷ qs) = (mark marks q *ℤ pos (lot s held q)) +ℤ worth s held marks qs

-- fair marks

-- a mark is within this, above and below zero
abbrev pub limit : Kind → ℕ
limit Units = 50000000000
limit Call = 50000000000000
limit Put = 50000000000000
limit Futures = 50000000000000
limit Receipt = 50000000000000

-- no further from zero than the limit
abbrev pub IsWithin : ℤ → ℕ → Type 0
IsWithin m n = (neg_ℤ (pos n) ≤ℤ m) × (m ≤ℤ pos n)

-- one mark for each position, each within its limit and at most its position's requirement alone; and for each allowed set
-- the marks of what it takes are at most its requirement
pub record IsFair (t : Tables) (s : ℕ) (held : List Record) (marks : List ℤ) : Type 0 where
  pub each : length marks ≡ length held
  pub within : (p : ℕ) → IsPosition held p → IsWithin (mark marks p) (limit (at held p).kind)
  pub alone : (p : ℕ) → IsPosition held p → mark marks p ≤ℤ pos (t.alone s (at held p))
  pub sets : (x : Set) → IsAllowed t s held x → worth s held marks x.legs ≤ℤ pos (requirement t s held x)

-- the sum of mark × units entered
abbrev pub floor : List Record → List ℤ → ℤ
floor held marks = sum_z (length held) (λ p. mark marks p *ℤ pos (at held p).quantity)

-- pairings

-- what a list of sets takes of a position
abbrev pub used : ℕ → List Record → List Set → ℕ → ℕ
used s held [] p = 0
used s held (x ∷ xs) p = takes s held x.legs p + used s held xs p

-- what the sets require together
abbrev pub required : Tables → ℕ → List Record → List Set → ℕ
required t s held [] = 0
required t s held (x ∷ xs) = requirement t s held x + required t s held xs

-- each set is allowed
abbrev pub AllAllowed : Tables → ℕ → List Record → List Set → Type 0
AllAllowed t s held [] = Unit {0}
AllAllowed t s held (x ∷ xs) = IsAllowed t s held x × AllAllowed t s held xs

-- allowed sets, that take together no more of any position than its units entered
pub record IsLawfulPairing (t : Tables) (s : ℕ) (held : List Record) (xs : List Set) : Type 0 where
  pub allowed : AllAllowed t s held xs
  pub fits : (p : ℕ) → IsPosition held p → used s held xs p ≤ (at held p).quantity

-- the sets' requirements, and all unused units alone
abbrev pub cost : Tables → ℕ → List Record → List Set → ℕ
cost t s held xs = required t s held xs + sum_n (length held) (λ p. t.alone s (at held p) * ((at held p).quantity - used s held xs p))

-- fair marks: no lawful pairing costs less than the floor
abbrev pub FloorUnderCost : Type 0
FloorUnderCost =
    (t : Tables) (s : ℕ) (held : List Record) (marks : List ℤ) (xs : List Set)
    → IsFair t s held marks → IsLawfulPairing t s held xs → floor held marks ≤ℤ pos (cost t s held xs)
