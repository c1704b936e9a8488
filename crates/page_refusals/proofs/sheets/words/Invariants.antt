use Rattle.std.proofs.Common.{◌≡◌, ◌+◌, ◌-◌}
use Rattle.page_refusals.specs.Sheets.{sheet_words, values_from}
use Rattle.page_refusals.proofs.sheets.words.Given as goal

abbrev pub invariant-loop-number : goal.invariant-loop-number
invariant-loop-number l = sheet_words l.file l.last ≡ values_from l.file l.last l.number (l.last + 1 - l.number)
