-- The lines of a sheet from a number to its last.
use Rattle.std.proofs.Common.{◌≡◌, ℕ, suc, ◌+◌, ◌-◌, ◌<◌, ◌≤◌, List, Some, None, ap, ◌∙◌, arith}
use Rattle.page_refusals.specs.declared.forms.LineKind.{LineKind}
use Rattle.page_wording.specs.Lines.{line_at}
use Rattle.page_refusals.specs.Sheets.{kind_out_of_range, value_or, value_words, no_value_words, values_from}

module _ (file : List ℕ) (last number : ℕ) where
  -- one line, and then the others
  one_line : number ≤ last → values_from file last number (last + 1 - number) ≡ value_or (kind_out_of_range (line_at file number)) number last (values_from file last (number + 1) (last - number))
  one_line h =
      let more : last + 1 - number ≡ suc (last - number) = omega arith in
      ap (values_from file last number) more

  -- its value is outside the range
  pub found : (kind : LineKind) → number ≤ last → kind_out_of_range (line_at file number) ≡ Some kind → values_from file last number (last + 1 - number) ≡ value_words kind number last
  found kind h e = one_line h ∙ ap (λ k. value_or k number last (values_from file last (number + 1) (last - number))) e

  -- or it has no such value
  pub passed : number ≤ last → kind_out_of_range (line_at file number) ≡ None → values_from file last number (last + 1 - number) ≡ values_from file last (number + 1) (last + 1 - (number + 1))
  passed h e =
      let same : last - number ≡ last + 1 - (number + 1) = omega arith in
      one_line h ∙ ap (λ k. value_or k number last (values_from file last (number + 1) (last - number))) e ∙ ap (values_from file last (number + 1)) same

  -- no line is left
  pub none_left : last < number → values_from file last number (last + 1 - number) ≡ no_value_words
  none_left h =
      let none : last + 1 - number ≡ 0 = omega arith in
      ap (values_from file last number) none
