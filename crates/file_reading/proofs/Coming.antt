-- The lines of a body that is written are read to it.
use Rattle.std.proofs.Common.{◌≡◌, ℕ, ◌+◌, ◌≤◌, List, [], ◌∷◌, ◌++◌, map, length, ℤ, is_some, Ok, codes, sym, refl, ap, ◌∙◌, subst, append_assoc, append-nil, arith}
use Rattle.std.specs.List.{join_with_byte}
use Rattle.std.specs.Fmt.{signed_decimal}
use Rattle.std.proofs.lemmas.List.{length_push}
use Rattle.std.proofs.lemmas.Bool.{lt-ltb}
use Rattle.rules_positions.specs.declared.Side.{Side}
use Rattle.rules_positions.specs.declared.Side.TheVariants as side
use Rattle.rules_positions.specs.declared.Kind.{Kind}
use Rattle.rules_positions.specs.declared.Kind.TheVariants as kind
use Rattle.rules_positions.specs.declared.record.Record.{Record}
use Rattle.rules_books.specs.Tables.{Tables}
use Rattle.certificate_pairing.specs.declared.Claim.{Claim}
use Rattle.certificate_pairing.specs.Dockets.{Tally, holding, docket_of}
use Rattle.rules_positions.specs.Letters.{side_letter, kind_letter}
use Rattle.calls_replay.specs.Entries.{entry_of}
use Rattle.calls_replay.specs.Replay.{EntersAgain, ClaimsAgain, IsReplayed}
use Rattle.file_body.specs.Body.{Body, no_body, line_taken, then_others, body_from}
use Rattle.file_reading.proofs.Takes.{mark_kept, by_position, by_claim, by_mark, position_entered, claim_granted}
use Rattle.file_writing.specs.Texts.{position_line, claim_line, mark_line}
use Rattle.file_reading.specs.Faithful.{AreShort, AreFileMarks}
use Rattle.file_reading.proofs.Parts.{AtLeast, EachAtLeast, least}
use Rattle.file_reading.proofs.Numbers.{SmallSigned, reads_integer}
use Rattle.file_reading.proofs.Words.{Upper}
use Rattle.file_reading.proofs.Values.{GoodEntry, entry_texts, entry_bytes, entry_given, GoodClaim, claim_texts, claim_bytes, claim_given, one_given}
use Rattle.file_reading.proofs.Heads.{line_bytes, value_bytes}
use Rattle.file_reading.proofs.Growing.{body_of, body_lines}

-- the lines lead from one body to another, whatever the number of the first, and no byte of a line ends it
pub record Comes (t : Tables) (size : ℕ) (b : Body) (ls : List (List ℕ)) (d : Body) : Type 0 where
  pub reads : (n : ℕ) → body_from t size n b (ls ++ ([] ∷ [])) ≡ Ok d
  pub bytes : EachAtLeast 11 ls

module _ (t : Tables) (size : ℕ) where
  line_more : (b c : Body) (f : List ℕ) (ls : List (List ℕ)) (d : Body) → line_taken t size b f ≡ Ok c → ((n : ℕ) → body_from t size n c (ls ++ ([] ∷ [])) ≡ Ok d) → (n : ℕ) → body_from t size n b (f ∷ (ls ++ ([] ∷ []))) ≡ Ok d
  line_more b c f [] d e h n = ap (λ r. then_others n r (λ next. body_from t size (n + 1) next ([] ∷ []))) e ∙ h (n + 1)
  line_more b c f (l ∷ ls) d e h n = ap (λ r. then_others n r (λ next. body_from t size (n + 1) next (l ∷ (ls ++ ([] ∷ []))))) e ∙ h (n + 1)

  comes_more : (b c : Body) (f : List ℕ) (ls : List (List ℕ)) (d : Body) → line_taken t size b f ≡ Ok c → AtLeast 11 f → Comes t size c ls d → Comes t size b (f ∷ ls) d
  comes_more b c f ls d e k h = record { reads = line_more b c f ls d e h.reads; bytes = (k, h.bytes) }

  -- ---- marks

  mark_line_lem : (b : Body) (z : ℤ) → length b.marks + 1 ≤ 32 → SmallSigned z → line_taken t size b (mark_line z) ≡ Ok (body_of b.tally (b.marks ++ (z ∷ [])))
  mark_line_lem b z room g =
      sym
      (mark_kept b (signed_decimal z) (lt-ltb (length b.marks) 32 (omega arith)) z _ (sym (one_given reads_integer 6 z g)) refl
      ∙ by_mark t size b (mark_line z) (signed_decimal z) refl refl refl)

  marks_come : (y : Tally) (zs before : List ℤ) → length before + length zs ≤ 32 → AreShort zs → Comes t size (body_of y before) (map mark_line zs) (body_of y (before ++ zs))
  marks_come y [] before few h = record { reads = λ n. ap (λ l. Ok (body_of y l)) (sym (append-nil before)); bytes = tt }
  marks_come y (z ∷ zs) before few h =
      comes_more (body_of y before) (body_of y (before ++ (z ∷ []))) (mark_line z) (map mark_line zs) (body_of y (before ++ (z ∷ zs)))
      (mark_line_lem (body_of y before) z (omega arith) h.0)
      (value_bytes reads_integer (codes "mark=") z refl h.0)
      (subst (λ l. Comes t size (body_of y (before ++ (z ∷ []))) (map mark_line zs) (body_of y l)) (append_assoc before (z ∷ []) zs)
      (marks_come y zs (before ++ (z ∷ [])) (omega (arith, length_push before z)) h.1))

  -- ---- claims

  good_claim : (held : List Record) (before : List Claim) (c : Claim) → ClaimsAgain t size held before c → GoodClaim c
  good_claim held before c a = record { article = a.article; first = a.first; second = a.second; third = a.third; sets = a.sets }

  claim_line_lem : (held : List Record) (before : List Claim) (c : Claim) → ClaimsAgain t size held before c → line_taken t size (body_of (holding held before) []) (claim_line c) ≡ Ok (body_of (holding held (before ++ (c ∷ []))) [])
  claim_line_lem held before c a =
      let v = join_with_byte 44 (claim_texts c) in
      sym
      (claim_granted t size (body_of (holding held before) []) v refl c (sym (claim_given 7 c (good_claim held before c a))) (ap is_some a.fresh) c.sets (holding held (before ++ (c ∷ []))) (sym a.granted) (sym a.after)
      ∙ by_claim t size (body_of (holding held before) []) (claim_line c) v refl refl)

  module _ (y : Tally) (marks : List ℤ) (all : IsReplayed (docket_of t size y)) where
    claims_come : (cs before : List Claim) → y.claims ≡ before ++ cs → AreFileMarks marks → Comes t size (body_of (holding y.held before) []) (map claim_line cs ++ map mark_line marks) (body_of y marks)
    claims_come [] before e m = subst (λ l. Comes t size (body_of (holding y.held l) []) (map mark_line marks) (body_of y marks)) (e ∙ append-nil before) (marks_come y marks [] (omega (arith, m.few)) m.short)
    claims_come (c ∷ cs) before e m =
        let a = all.claims before c cs e in
        comes_more (body_of (holding y.held before) []) (body_of (holding y.held (before ++ (c ∷ []))) []) (claim_line c) (map claim_line cs ++ map mark_line marks) (body_of y marks)
        (claim_line_lem y.held before c a)
        (line_bytes (codes "claim=") (claim_texts c) (least 11 (codes "claim=") refl) (claim_bytes c (good_claim y.held before c a)))
        (claims_come cs (before ++ (c ∷ [])) (e ∙ sym (append_assoc before (c ∷ []) cs)) m)

  -- ---- positions

  side_upper : (s : Side) → Upper (side_letter s)
  side_upper side.Long = refl
  side_upper side.Short = refl

  kind_upper : (k : Kind) → Upper (kind_letter k)
  kind_upper kind.Units = refl
  kind_upper kind.Call = refl
  kind_upper kind.Put = refl
  kind_upper kind.Futures = refl
  kind_upper kind.Receipt = refl

  good_entry : (before : List Record) (r : Record) → EntersAgain size before r → GoodEntry (entry_of r)
  good_entry before r a = record { side = side_upper r.side; kind = kind_upper r.kind; strike = a.strike; days = a.days; price = a.price; quantity = a.quantity }

  position_line_lem : (before : List Record) (r : Record) → EntersAgain size before r → line_taken t size (body_of (holding before []) []) (position_line r) ≡ Ok (body_of (holding (before ++ (r ∷ [])) []) [])
  position_line_lem before r a =
      let v = join_with_byte 44 (entry_texts (entry_of r)) in
      sym
      (position_entered size (body_of (holding before []) []) v refl (entry_of r) (length before + 1) (holding (before ++ (r ∷ [])) []) (sym (entry_given 5 (entry_of r) (good_entry before r a))) (sym a.granted) (sym a.after)
      ∙ by_position t size (body_of (holding before []) []) (position_line r) v refl)

  module _ (y : Tally) (marks : List ℤ) (all : IsReplayed (docket_of t size y)) (m : AreFileMarks marks) where
    enters_come : (rs before : List Record) → y.held ≡ before ++ rs → Comes t size (body_of (holding before []) []) (map position_line rs ++ (map claim_line y.claims ++ map mark_line marks)) (body_of y marks)
    enters_come [] before e = subst (λ l. Comes t size (body_of (holding l []) []) (map claim_line y.claims ++ map mark_line marks) (body_of y marks)) (e ∙ append-nil before) (claims_come y marks all y.claims [] refl m)
    enters_come (r ∷ rs) before e =
        let a = all.enters before r rs e in
        comes_more (body_of (holding before []) []) (body_of (holding (before ++ (r ∷ [])) []) []) (position_line r) (map position_line rs ++ (map claim_line y.claims ++ map mark_line marks)) (body_of y marks)
        (position_line_lem before r a)
        (line_bytes (codes "pos=") (entry_texts (entry_of r)) (least 11 (codes "pos=") refl) (entry_bytes (entry_of r) (good_entry before r a)))
        (enters_come rs (before ++ (r ∷ [])) (e ∙ sym (append_assoc before (r ∷ []) rs)))

    pub body_comes : Comes t size no_body (body_lines (body_of y marks)) (body_of y marks)
    body_comes = enters_come y.held [] refl
