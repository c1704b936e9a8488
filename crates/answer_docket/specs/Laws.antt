-- What the answer to a file shows of the docket that the file describes.
use Rattle.std.specs.Prelude.{◌≡◌, ℕ, ◌≤◌, List, length, ℤ, pos, ◌≤ℤ◌, Some, Ok, Err, Result}
use Rattle.rules_books.specs.Tables.{Tables}
use Rattle.calls_docket.specs.Pairing.{Set, IsFair, floor, IsLawfulPairing, cost}
use Rattle.calls_docket.specs.Claims.{total, pairing_of}
use Rattle.file_head.specs.Rates.{tables_by}
use Rattle.file_reading.specs.Files.{Content, read_file}
use Rattle.answer_docket.specs.declared.FileFault.{FileFault}
use Rattle.answer_docket.specs.declared.FileFault.TheVariants.{TooLong, Read, Certify}
use Rattle.answer_docket.specs.declared.Summary.{Summary}
use Rattle.answer_docket.specs.declared.Verdict.TheVariants.{Least}
use Rattle.answer_docket.specs.Answers.{verdict_of}
use Rattle.calls_docket.specs.Claims.{FairIn, LawfulIn, cost_in}
use Rattle.file_reading.specs.Files.{docket_described}

-- the figures count positions and claims; the total is the claims at the book's requirements plus every other unit alone, and the claims are
-- a lawful pairing that costs it; a floor comes of fair marks, is theirs, and lies under every lawful pairing; and where the verdict is
-- least, no lawful pairing of the file's positions costs less than the total
pub record SummaryShows (c : Content) (s : Summary) : Type 0 where
  pub positions : s.positions ≡ length c.tally.held
  pub claims : s.claims ≡ length c.tally.claims
  pub sums : s.total ≡ total (docket_described c)
  pub standing : LawfulIn (docket_described c) (pairing_of c.tally.claims)
  pub costs : cost_in (docket_described c) (pairing_of c.tally.claims) ≡ s.total
  pub fair : (low : ℤ) → s.floor ≡ Some low → FairIn (docket_described c) c.marks
  pub figure : (low : ℤ) → s.floor ≡ Some low → low ≡ floor c.tally.held c.marks
  pub under : (low : ℤ) → s.floor ≡ Some low → (xs : List Set) → LawfulIn (docket_described c) xs → low ≤ℤ pos (cost_in (docket_described c) xs)
  pub least : verdict_of s.total s.floor ≡ Least → (xs : List Set) → LawfulIn (docket_described c) xs → s.total ≤ cost_in (docket_described c) xs

-- the file describes a docket of which something holds
abbrev pub Describes : List ℕ → (Content → Type 0) → Type 0
Describes file P = (c : Content) × ((read_file file ≡ Ok c) × P c)

-- an accepted file shows its figures; marks that are not certified are not fair
abbrev pub IsToldBy : List ℕ → Result Summary FileFault → Type 0
IsToldBy file (Ok s) = Describes file (λ c. SummaryShows c s)
IsToldBy file (Err TooLong) = Unit {0}
IsToldBy file (Err (Read f)) = Unit {0}
IsToldBy file (Err (Certify f)) = Describes file (λ c. FairIn (docket_described c) c.marks → ⊥)
