use Rattle.std.proofs.Common.{◌≡◌, ◌+◌, Some, None, sym, ap, ◌∙◌, arith}
use Rattle.std.proofs.lemmas.Result.{IfOk-weaker}
use Rattle.page_wording.specs.Lines.{line_at}
use Rattle.page_refusals.specs.Sheets.{kind_out_of_range, no_value_words, sheet_words}
use Rattle.page_refusals.proofs.SheetLines.{found, passed, none_left}
use Rattle.page_refusals.proofs.sheets.words.Goals as goal
use Rattle.page_refusals.proofs.sheets.words.Goals.{else-loop-number-test, then-loop-number-test+in_default+else-number-last}

pub returns-in-Some : goal.returns-in-Some
returns-in-Some c =
    let kind : kind_out_of_range (line_at c.args.file.now c.loop-number.number) ≡ Some c.in-Some.kind = ap kind_out_of_range (sym c.at.ensures) ∙ sym c.kind_out_of_range.ensures ∙ c.in-Some.is in
    let e = c.loop-number.invariant ∙ found c.args.file.now c.args.last c.loop-number.number c.in-Some.kind (omega arith) kind in
    IfOk-weaker c.value_words.result _ _ (λ w h. h ∙ sym e) c.value_words.ensures

pub loop-number-preserved : goal.loop-number-preserved
loop-number-preserved c =
    let none : kind_out_of_range (line_at c.args.file.now c.loop-number.number) ≡ None = ap kind_out_of_range (sym c.at.ensures) ∙ sym c.kind_out_of_range.ensures ∙ c.in_default.is in
    c.loop-number.invariant ∙ passed c.args.file.now c.args.last c.loop-number.number (omega arith) none

pub returns : goal.returns
returns c =
    let file = c.args.file.now in
    let last = c.args.last in
    let number = c.loop-number.number in
    let e : sheet_words file last ≡ no_value_words =
    elim c.loop-number-test.branch [
      | else-loop-number-test w ↦ c.loop-number.invariant ∙ none_left file last number (omega arith)
      | then-loop-number-test+in_default+else-number-last w ↦
          let none : kind_out_of_range (line_at file number) ≡ None = ap kind_out_of_range (sym w.at.ensures) ∙ sym w.kind_out_of_range.ensures ∙ w.in_default.is in
          c.loop-number.invariant ∙ passed file last number (omega arith) none ∙ none_left file last (number + 1) (omega arith)
    ] in
    IfOk-weaker c.plain.result _ _ (λ w h. h ∙ sym e) c.plain.ensures
