-- The claims standing, as a pairing.
use Rattle.std.specs.Prelude.{◌≡◌, ℕ, ◌+◌, ◌-◌, ◌*◌, ◌≤◌, cond, List, [], ◌∷◌, ◌++◌, length, replicate, ℤ, pos, ◌≤ℤ◌, ◌==◌, Result}
use Rattle.rules_positions.specs.declared.record.Record.{Record}
use Rattle.rules_books.specs.declared.BookFault.{BookFault}
use Rattle.rules_books.specs.Tables.{Tables}
use Rattle.certificate_pairing.specs.declared.Claim.{Claim}
use Rattle.certificate_pairing.specs.Sums.{sum_n}
use Rattle.certificate_pairing.specs.Dockets.{Docket}
use Rattle.certificate_pairing.specs.Pairing.{Set, IsAllowed, IsPosition, at, answer, takes, requirement, IsFair, floor, IsLawfulPairing, cost}

-- the third leg is 0 where there are two
abbrev pub legs_of : Claim → List ℕ
legs_of l = cond (l.third == 0) (l.first ∷ l.second ∷ []) (l.first ∷ l.second ∷ l.third ∷ [])

-- one set of a claim
abbrev pub set_of : Claim → Set
set_of l = record { article = l.article; legs = legs_of l }

-- what the claims take of a position
abbrev pub taken : ℕ → List Record → List Claim → ℕ → ℕ
taken s held [] p = 0
taken s held (l ∷ ls) p = l.sets * takes s held (legs_of l) p + taken s held ls p

-- what the claims require
abbrev pub required_by : Tables → ℕ → List Record → List Claim → ℕ
required_by t s held [] = 0
required_by t s held (l ∷ ls) = l.sets * requirement t s held (set_of l) + required_by t s held ls

-- each claim's set is allowed
abbrev pub ClaimsAllowed : Tables → ℕ → List Record → List Claim → Type 0
ClaimsAllowed t s held [] = Unit {0}
ClaimsAllowed t s held (l ∷ ls) = IsAllowed t s held (set_of l) × ClaimsAllowed t s held ls

-- each claim's set is allowed, and the claims take no more of a position than its units entered
pub record IsSound (d : Docket Tables) : Type 0 where
  pub allowed : ClaimsAllowed d.book d.size d.tally.held d.tally.claims
  pub fits : (p : ℕ) → IsPosition d.tally.held p → taken d.size d.tally.held d.tally.claims p ≤ (at d.tally.held p).quantity

-- the whole requirement: the sets of each claim, and all free units alone
abbrev pub total : Docket Tables → ℕ
total d =
    required_by d.book d.size d.tally.held d.tally.claims
    + sum_n (length d.tally.held) (λ p. d.book.alone d.size (at d.tally.held p) * ((at d.tally.held p).quantity - taken d.size d.tally.held d.tally.claims p))

-- each claim, set by set
abbrev pub pairing_of : List Claim → List Set
pairing_of [] = []
pairing_of (l ∷ ls) = replicate l.sets (set_of l) ++ pairing_of ls

-- of a docket's positions: what the book says of a set, what an allowed one requires, fair marks, a lawful pairing, and what it costs
abbrev pub answer_in : Docket Tables → Set → Result ℕ BookFault
answer_in d x = answer d.book d.size d.tally.held x

-- the set is allowed in a docket
abbrev pub AllowedIn : Docket Tables → Set → Type 0
AllowedIn d x = IsAllowed d.book d.size d.tally.held x

-- what a set requires in a docket
abbrev pub requirement_in : Docket Tables → Set → ℕ
requirement_in d x = requirement d.book d.size d.tally.held x

-- the marks are fair for a docket's positions
abbrev pub FairIn : Docket Tables → List ℤ → Type 0
FairIn d marks = IsFair d.book d.size d.tally.held marks

-- the sets are a lawful pairing of a docket's positions
abbrev pub LawfulIn : Docket Tables → List Set → Type 0
LawfulIn d xs = IsLawfulPairing d.book d.size d.tally.held xs

-- what a pairing of a docket's positions costs
abbrev pub cost_in : Docket Tables → List Set → ℕ
cost_in d xs = cost d.book d.size d.tally.held xs

-- sound claims are a lawful pairing, which costs their total
abbrev pub ClaimsPair : Type 0
ClaimsPair =
    (d : Docket Tables) → IsSound d
    → LawfulIn d (pairing_of d.tally.claims) × (cost_in d (pairing_of d.tally.claims) ≡ total d)

-- what a certificate shows, of a total and a floor: the marks are fair and the floor is theirs; every lawful pairing costs at least the floor;
-- the claims standing are one, and cost the total; where the two figures are equal, every lawful pairing costs at least the total
pub record CertificateShows (d : Docket Tables) (marks : List ℤ) (whole : ℕ) (low : ℤ) : Type 0 where
  pub fair : FairIn d marks
  pub figure : low ≡ floor d.tally.held marks
  pub bounds : (xs : List Set) → LawfulIn d xs → low ≤ℤ pos (cost_in d xs)
  pub standing : LawfulIn d (pairing_of d.tally.claims)
  pub costs : cost_in d (pairing_of d.tally.claims) ≡ whole
  pub sums : whole ≡ total d
  pub under : low ≤ℤ pos whole
  pub least : low ≡ pos whole → (xs : List Set) → LawfulIn d xs → whole ≤ cost_in d xs
