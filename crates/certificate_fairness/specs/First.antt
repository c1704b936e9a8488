-- The first breach, as a relation: a breach that no other comes before.
use Rattle.std.specs.Prelude.{◌≡◌, ℕ, ◌<◌, ◌≤◌, ◌⊎◌, List, ℤ, pos, ◌<ℤ◌, Some, None, Option}
use Rattle.rules_positions.specs.declared.record.Record.{Record}
use Rattle.rules_books.specs.Tables.{Tables, IsLawful}
use Rattle.certificate_pairing.specs.Pairing.{IsPosition, at, mark, Set, IsAllowed, requirement, worth}
use Rattle.certificate_fairness.specs.declared.Breach.{Breach}
use Rattle.certificate_fairness.specs.declared.Legs.{Legs}
use Rattle.certificate_fairness.specs.declared.Breach.TheVariants as breach
use Rattle.certificate_fairness.specs.Search.{set_at, first_breach}

-- a position whose mark is above its requirement alone
pub record IsAloneBreach (t : Tables) (s : ℕ) (held : List Record) (ms : List ℤ) (p : ℕ) : Type 0 where
  pub position : IsPosition held p
  pub over : pos (t.alone s (at held p)) <ℤ mark ms p

-- an allowed set whose marks are above its requirement
pub record IsSetBreach (t : Tables) (s : ℕ) (held : List Record) (ms : List ℤ) (x : Set) : Type 0 where
  pub allowed : IsAllowed t s held x
  pub over : pos (requirement t s held x) <ℤ worth s held ms x.legs

-- the one or the other
abbrev pub Breaks : Tables → ℕ → List Record → List ℤ → Breach → Type 0
Breaks t s held ms (breach.Alone p) = IsAloneBreach t s held ms p
Breaks t s held ms (breach.Set a l) = IsSetBreach t s held ms (set_at a l)

-- no third leg comes before any
abbrev pub LegNotAfter : Option ℕ → Option ℕ → Type 0
LegNotAfter None m = Unit {0}
LegNotAfter (Some k) None = ⊥
LegNotAfter (Some k) (Some m) = k ≤ m

-- in order of legs 1, 2 and 3
abbrev pub LegsNotAfter : Legs → Legs → Type 0
LegsNotAfter l m =
    (l.first < m.first)
    ⊎ ((l.first ≡ m.first) × ((l.second < m.second)
    ⊎ ((l.second ≡ m.second) × LegNotAfter l.third m.third)))

-- positions alone in order, before sets in order of article, then of legs
abbrev pub NotAfter : Breach → Breach → Type 0
NotAfter (breach.Alone p) (breach.Alone q) = p ≤ q
NotAfter (breach.Alone p) (breach.Set b m) = Unit {0}
NotAfter (breach.Set a l) (breach.Alone q) = ⊥
NotAfter (breach.Set a l) (breach.Set b m) = (a < b) ⊎ ((a ≡ b) × LegsNotAfter l m)

-- a breach, and none comes before it
pub record IsFirst (t : Tables) (s : ℕ) (held : List Record) (ms : List ℤ) (b : Breach) : Type 0 where
  pub breaks : Breaks t s held ms b
  pub first : (c : Breach) → Breaks t s held ms c → NotAfter b c

-- what the search finds is the first
abbrev pub SearchFindsFirst : Type 0
SearchFindsFirst =
    (t : Tables) → IsLawful t → (s : ℕ) (held : List Record) (ms : List ℤ) (b : Breach)
    → first_breach t s held ms ≡ Some b → IsFirst t s held ms b
