use Rattle.std.proofs.Common.{◌≡◌, ◌+◌, List, length, take, drop, eqb, ℕ, Some, Ok, Err, sym, ap, ◌∙◌, arith, drop-drop, rules, tests}
use Rattle.std.specs.List.{position, slice_range}
use Rattle.std.specs.Option.{option_map as mappedSome}
use Rattle.std.specs.Result.{result_map_both}
use Rattle.std.proofs.lemmas.Iterator.{YieldsList-from_slice}
use Rattle.std.proofs.lemmas.Iterator.Search.{position_from_yields_List}
use Rattle.std.proofs.lemmas.List.Splits.{length-slice_split}
use Rattle.std.proofs.lemmas.Slice.{between_to_end}
use Rattle.rules_positions.proofs.Made.{made_of}
use Rattle.file_fields.specs.Fields.{got, split}
use Rattle.file_fields.proofs.Parting.{first_piece, last_piece}
use Rattle.file_head.specs.Faults.{on_line, no_line}
use Rattle.file_head.specs.Lines.{pieces}
use Rattle.file_head.proofs.Turns.{unended, one_line, missed}
use Rattle.file_head.proofs.reader.Reader.next_line.Goals as goal

pub returns-in_err-n : goal.returns-in_err-n
returns-in_err-n c =
    let s = c.args.self.now in
    let rest : List ℕ = slice_range s.file.now s.at (length s.file.now) in
    let e : rest ≡ drop s.at s.file.now = between_to_end s.file.now s.at _ (omega arith) in
    let p : c.position.result ≡ position (λ b. eqb b 10) rest = position_from_yields_List (λ b. eqb b 10) _ _ c.position.result c.position.ensures.ran (YieldsList-from_slice rest cc) (λ x b q k. search (rules, tests)) in
    let some : (length rest ≡ 0 → ⊥) = search rules in
    let f : c.on.result ≡ on_line s.line_number no_line = λ i. record { line = c.on.ensures.0 i; fault = c.on.ensures.1 i } in
    let q : c.from_residual.result ≡ Err c.on.result = search rules in
    ap (λ r. got (result_map_both (mappedSome (λ x. x.now)) (λ e. e) r) s.line_number (pieces s)) q ∙ ap Err f ∙ unended s.line_number _ rest (ap (split 10) (sym e) ∙ last_piece 10 rest (missed c.position.result c.on.result _ (sym c.ok_or.ensures.value ∙ c.in_err-n.was) ∙ p)) (omega (arith, some))

pub returns : goal.returns
returns c =
    let s = c.args.self.now in
    let n = c.in_ok-n.n in
    let bs = drop s.at s.file.now in
    let rest : List ℕ = slice_range s.file.now s.at (length s.file.now) in
    let e : rest ≡ bs = between_to_end s.file.now s.at _ (omega arith) in
    let p : c.position.result ≡ position (λ b. eqb b 10) rest = position_from_yields_List (λ b. eqb b 10) _ _ c.position.result c.position.ensures.ran (YieldsList-from_slice rest cc) (λ x b q k. search (rules, tests)) in
    let h = first_piece 10 bs n (made_of c.position.result c.on.result n (sym c.in_ok-n.was ∙ c.ok_or.ensures.value) ∙ p ∙ ap (position (λ b. eqb b 10)) e) in
    let d = drop-drop (n + 1) s.at s.file.now in
    (λ i. Ok (record { value = Some (take n (e i)); place = s.line_number + 1; left = split 10 (sym d i) }))
    ∙ one_line s.line_number (split 10 bs) _ (take n bs) h.1 (omega (arith, length-slice_split (λ b. eqb b 10) (drop (n + 1) bs)))
