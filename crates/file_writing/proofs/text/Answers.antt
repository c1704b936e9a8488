use Rattle.std.proofs.Common.{take, refl, ap, ◌∙◌}
use Rattle.std.specs.List.{flat_map}
use Rattle.std.specs.Fmt.{signed_decimal}
use Rattle.std.proofs.Math.Nat.{min_comm}
use Rattle.std.proofs.lemmas.List.{take_min}
use Rattle.std.proofs.lemmas.Result.{IfOk-weaker}
use Rattle.rules_positions.specs.Texts.{record_text}
use Rattle.certificate_pairing.specs.Texts.{claim_text}
use Rattle.file_head.specs.Rates.{rates_on}
use Rattle.file_writing.specs.Texts.{ended, position_line, claim_line, mark_line, sheet_lines, described}
use Rattle.file_writing.proofs.Forms.{file_text_lem}
use Rattle.file_writing.proofs.text.Goals as goal

pub returns : goal.returns
returns c =
    let d = c.args.docket.now in
    let marks = c.args.marks.now in
    let whole =
    file_text_lem (described d (take 32 marks))
    c.size-size.ensures
    (c.in_ok-rates.ensures ∙ ap (λ s. flat_map ended (sheet_lines (rates_on s))) c.book.ensures)
    (c.in_ok-positions.ensures record_text (λ r. refl) ∙ ap (flat_map (λ r. ended (position_line r))) c.positions.ensures.items)
    (c.in_ok-claims.ensures claim_text (λ l. refl) ∙ ap (flat_map (λ l. ended (claim_line l))) c.claims.ensures.items)
    (c.in_ok-marks.ensures signed_decimal (λ m. refl) ∙ ap (flat_map (λ m. ended (mark_line m))) (ap (λ n. take n marks) (c.min.ensures ∙ min_comm _ 32) ∙ take_min 32 marks))
    in
    IfOk-weaker c.format.result _ _ (λ t e. e ∙ whole) c.format.ensures.ok
