-- What the verdict on a page says of the positions in its file.
use Rattle.std.specs.Prelude.{◌≡◌, ℕ, ◌≤◌, List, pos, Some, Ok, codes}
use Rattle.certificate_pairing.specs.Pairing.{Set}
use Rattle.file_reading.specs.Files.{Content}
use Rattle.answer_docket.specs.declared.Summary.{Summary}
use Rattle.answer_docket.specs.Answers.{answer_to}
use Rattle.answer_docket.specs.Laws.{Describes}
use Rattle.page_statement.specs.Verdict.{verdict_line}
use Rattle.certificate_pairing.specs.Claims.{LawfulIn, cost_in}
use Rattle.file_reading.specs.Files.{docket_described}

-- the verdict that no pairing costs less
abbrev pub least_line : List ℕ
least_line = codes "least: no lawful pairing of these positions costs less\n"

-- that verdict stands under a total and a floor exactly where they are equal, and then no lawful pairing of the positions costs less than that total
pub record ShowsLeast (c : Content) (x : Summary) : Type 0 where
  pub equal : verdict_line x ≡ least_line → x.floor ≡ Some (pos x.total)
  pub shown : x.floor ≡ Some (pos x.total) → verdict_line x ≡ least_line
  pub least : verdict_line x ≡ least_line → (xs : List Set) → LawfulIn (docket_described c) xs → x.total ≤ cost_in (docket_described c) xs

-- so it is for every file that is answered with figures
abbrev pub LeastHolds : List ℕ → Type 0
LeastHolds file = (x : Summary) → answer_to file ≡ Ok x → Describes file (λ c. ShowsLeast c x)
