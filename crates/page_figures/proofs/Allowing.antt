-- The figures of a claim of an allowed set.
use Rattle.std.proofs.Common.{◌≡◌, ℕ, true, cond, nat_le, ◌==◌, ◌&&◌, List, length, Some, None, is_some, ap, ◌∙◌, rules, tests}
use Rattle.std.specs.Option.{option_map, IsSome}
use Rattle.std.specs.Result.{result_ok}
use Rattle.rules_amounts.specs.Ranges.{inside}
use Rattle.rules_positions.specs.declared.record.Record.{Record}
use Rattle.rules_books.specs.Tables.{Tables}
use Rattle.certificate_pairing.specs.declared.Claim.{Claim}
use Rattle.certificate_pairing.specs.Pairing.{IsAllowed, answer, requirement}
use Rattle.certificate_pairing.specs.Claims.{legs_of, set_of, AllowedIn}
use Rattle.certificate_certify.proofs.Promise.{required_if}
use Rattle.page_figures.specs.Shown.{legs_alone, claim_figures_of, claim_figures}
use Rattle.certificate_pairing.specs.Dockets.{Docket}

module _ (d : Docket Tables) (c : Claim) (a : AllowedIn d (set_of c)) where
  -- of 1 to 5,000 sets all figures are there
  pub allowed_figures : inside 1 5000 c.sets ≡ true → IsSome (claim_figures d c)
  allowed_figures h =
      ap is_some (λ i. cond (h i) (option_map (claim_figures_of c.sets (legs_alone d (legs_of c))) (required_if d c a i)) None)
