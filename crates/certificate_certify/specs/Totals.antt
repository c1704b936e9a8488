-- The total, as it is computed of any claims.
use Rattle.std.specs.Prelude.{ℕ, ◌+◌, ◌-◌, ◌*◌, Bool, cond, ◌&&◌, List, [], ◌∷◌, length, None, Option, unwrap_or, ◌==◌, nat_le}
use Rattle.std.specs.Result.{result_ok}
use Rattle.rules_books.specs.Tables.{Tables}
use Rattle.certificate_pairing.specs.declared.Claim.{Claim}
use Rattle.certificate_pairing.specs.Sums.{sum_n}
use Rattle.certificate_pairing.specs.Pairing.{at, answer}
use Rattle.certificate_pairing.specs.Dockets.{Docket}
use Rattle.certificate_pairing.specs.Claims.{legs_of, set_of, taken}

-- an article that the book has, with as many legs as the claim
abbrev pub known : Tables → Claim → Bool
known t l = (nat_le 1 l.article && nat_le l.article t.articles) && length (legs_of l) == t.legs l.article

-- what the book requires of a set of the claim; none where it does not know the claim, or refuses the set
abbrev pub claim_requirement : Docket Tables → Claim → Option ℕ
claim_requirement d l = cond (known d.book l) (result_ok (answer d.book d.size d.tally.held (set_of l))) None

-- what a set of the claim requires; where the book does not know the claim, or refuses the set, nothing
abbrev pub set_amount : Docket Tables → Claim → ℕ
set_amount d l = unwrap_or (claim_requirement d l) 0

-- what all sets of some claims require
abbrev pub claims_amount : Docket Tables → List Claim → ℕ
claims_amount d [] = 0
claims_amount d (l ∷ ls) = l.sets * set_amount d l + claims_amount d ls

-- the units entered of a position that no claim takes
abbrev pub free : {B : Type 0} → Docket B → ℕ → ℕ
free d p = (at d.tally.held p).quantity - taken d.size d.tally.held d.tally.claims p

-- what the free units of a position require alone
abbrev pub free_amount : Docket Tables → ℕ → ℕ
free_amount d p = d.book.alone d.size (at d.tally.held p) * free d p

-- the claims' sets, and all free units alone
abbrev pub computed_total : Docket Tables → ℕ
computed_total d = claims_amount d d.tally.claims + sum_n (length d.tally.held) (free_amount d)
