-- What the lines of a body that is read add.
use Rattle.std.proofs.Common.{◌≡◌, ℕ, ◌+◌, ◌≤◌, Bool, true, false, cond, ◌&&◌, ltb, List, [], ◌∷◌, ◌++◌, map, length, ℤ, is_some, Some, None, Ok, Err, codes, Option, Result, sym, refl, ap, ◌∙◌, subst, append_assoc, append-nil, arith}
use Rattle.std.proofs.lemmas.Bool.Decides.{nat_tests}
use Rattle.std.specs.List.{join_with_byte}
use Rattle.std.proofs.lemmas.List.{map_push, length_push}
use Rattle.std.proofs.lemmas.Bool.{ltb-true}
use Rattle.rules_positions.specs.declared.Entry.{Entry}
use Rattle.rules_positions.specs.declared.RecordFault.{RecordFault}
use Rattle.rules_positions.specs.declared.record.Record.{Record}
use Rattle.rules_positions.specs.Records.{record_of}
use Rattle.rules_books.specs.Tables.{Tables}
use Rattle.certificate_pairing.specs.declared.Claim.{Claim}
use Rattle.calls_docket.specs.declared.Refusal.{Refusal}
use Rattle.certificate_pairing.specs.Dockets.{Tally, empty, docket_of}
use Rattle.calls_docket.specs.Finding.{claim_like}
use Rattle.calls_docket.specs.Calls as call
use Rattle.calls_serve.specs.declared.Call.{Call}
use Rattle.calls_serve.specs.declared.Call.TheVariants.{Enter, Claim as ClaimCall}
use Rattle.calls_serve.specs.Runs.{after}
use Rattle.calls_serve.specs.Laws.{IsReached}
use Rattle.calls_serve.proofs.Passed.{unless_ok, if_good_ok}
use Rattle.calls_serve.proofs.Prefixes.{ran_push}
use Rattle.calls_replay.proofs.Records.{made}
use Rattle.file_fields.specs.declared.BadField.{BadField}
use Rattle.file_fields.specs.Fields.{split, one_field}
use Rattle.file_fields.specs.Numbers.{integer}
use Rattle.file_head.specs.declared.faults.LineFault.{LineFault}
use Rattle.file_head.specs.Faults.{wrong_key, repeated}
use Rattle.file_head.specs.Lines.{strip}
use Rattle.file_body.specs.Values.{entry_at, claim_at}
use Rattle.file_body.specs.Body.{Body, none, call_taken, entry_taken, position_taken, claim_value_taken, claim_taken, mark_value_taken, mark_taken, if_key, line_taken, at_end, then_others, body_from}
use Rattle.file_writing.specs.Texts.{position_line, claim_line, mark_line}
use Rattle.file_reading.specs.Faithful.{AreShort, AreFileMarks}
use Rattle.file_reading.proofs.Numbers.{SmallSigned, reads_integer}
use Rattle.file_reading.proofs.Values.{entry_texts, entry_read, claim_read, one_read}
use Rattle.file_reading.proofs.Heads.{strip_text}

abbrev pub body_of : Tally → List ℤ → Body
body_of y marks = record { tally = y; marks = marks }

-- the lines of a body
abbrev pub body_lines : Body → List (List ℕ)
body_lines b = map position_line b.tally.held ++ (map claim_line b.tally.claims ++ map mark_line b.marks)

-- the lines lead from one body to another, by calls, and keep the marks within their limits
pub record Grown (t : Tables) (size : ℕ) (b : Body) (ls : List (List ℕ)) (d : Body) : Type 0 where
  pub lines : body_lines d ≡ body_lines b ++ ls
  pub led : IsReached (docket_of t size b.tally) → IsReached (docket_of t size d.tally)
  pub marks : AreFileMarks b.marks → AreFileMarks d.marks

none_grown : (t : Tables) (size : ℕ) (b : Body) → Grown t size b [] b
none_grown t size b = record { lines = sym (append-nil (body_lines b)); led = λ l. l; marks = λ m. m }

more_grown : (t : Tables) (size : ℕ) (b c d : Body) (f : List ℕ) (ls : List (List ℕ)) → Grown t size b (f ∷ []) c → Grown t size c ls d → Grown t size b (f ∷ ls) d
more_grown t size b c d f ls g h = record {
  lines = h.lines ∙ ap (λ l. l ++ ls) g.lines ∙ append_assoc (body_lines b) (f ∷ []) ls;
  led = λ l. h.led (g.led l);
  marks = λ m. h.marks (g.marks m);
}

-- one call more
led_more : (t : Tables) (size : ℕ) (y : Tally) (k : Call) → IsReached (docket_of t size y) → IsReached (docket_of t size (after (docket_of t size y) k))
led_more t size y k led = (led.0 ++ (k ∷ []), ap (λ w. after (docket_of t size w) k) led.1 ∙ sym (ran_push t size empty led.0 k))

short_push : (zs : List ℤ) (z : ℤ) → AreShort zs → SmallSigned z → AreShort (zs ++ (z ∷ []))
short_push [] z h g = (g, tt)
short_push (y ∷ zs) z h g = (h.0, short_push zs z h.1 g)

-- ---- where a line more stands

position_last : (held : List Record) (claims : List Claim) (marks : List ℤ) (r : Record) → (none claims && none marks) ≡ true → map position_line (held ++ (r ∷ [])) ++ (map claim_line claims ++ map mark_line marks) ≡ (map position_line held ++ (map claim_line claims ++ map mark_line marks)) ++ (position_line r ∷ [])
position_last held [] [] r h = append-nil (map position_line (held ++ (r ∷ []))) ∙ map_push position_line held r ∙ ap (λ l. l ++ (position_line r ∷ [])) (sym (append-nil (map position_line held)))
position_last held [] (m ∷ marks) r h = absurd (grind (arith, nat_tests))
position_last held (c ∷ claims) marks r h = absurd (grind (arith, nat_tests))

claim_last : (held : List Record) (claims : List Claim) (marks : List ℤ) (c : Claim) → none marks ≡ true → map position_line held ++ (map claim_line (claims ++ (c ∷ [])) ++ map mark_line marks) ≡ (map position_line held ++ (map claim_line claims ++ map mark_line marks)) ++ (claim_line c ∷ [])
claim_last held claims [] c h =
    ap (λ l. map position_line held ++ l)
    (append-nil (map claim_line (claims ++ (c ∷ []))) ∙ map_push claim_line claims c ∙ ap (λ l. l ++ (claim_line c ∷ [])) (sym (append-nil (map claim_line claims))))
    ∙ sym (append_assoc (map position_line held) (map claim_line claims ++ []) (claim_line c ∷ []))
claim_last held claims (m ∷ marks) c h = absurd (grind (arith, nat_tests))

mark_last : (held : List Record) (claims : List Claim) (marks : List ℤ) (z : ℤ) → map position_line held ++ (map claim_line claims ++ map mark_line (marks ++ (z ∷ []))) ≡ (map position_line held ++ (map claim_line claims ++ map mark_line marks)) ++ (mark_line z ∷ [])
mark_last held claims marks z =
    ap (λ l. map position_line held ++ l)
    (ap (λ l. map claim_line claims ++ l) (map_push mark_line marks z) ∙ sym (append_assoc (map claim_line claims) (map mark_line marks) (mark_line z ∷ [])))
    ∙ sym (append_assoc (map position_line held) (map claim_line claims ++ map mark_line marks) (mark_line z ∷ []))

-- ---- a reply, taken apart

is_none : (o : Option ℕ) → is_some o ≡ false → o ≡ None
is_none None h = refl
is_none (Some i) h = absurd cc

same_sets : (m n : ℕ) → ◌≡◌ {A = Result ℕ Refusal} (Ok m) (Ok n) → m ≡ n
same_sets m n h = cc

module _ (t : Tables) (size : ℕ) (small : size ≤ 1000) (b d : Body) where
  -- ---- a position

  entry_made : (e : Entry) (a : Result Record RecordFault) (reply : Result ℕ Refusal) → record_of size e ≡ a → call.after_enter size b.tally e ≡ call.tally_entered b.tally a reply → (none b.tally.claims && none b.marks) ≡ true → call_taken b (call.tally_entered b.tally a reply) reply ≡ Ok d → call.record_reply b.tally.held a ≡ reply → Grown t size b ((codes "pos=" ++ join_with_byte 44 (entry_texts e)) ∷ []) d
  entry_made e (Err f) (Ok n) is at due h granted = absurd cc
  entry_made e (Err f) (Err x) is at due h granted = absurd cc
  entry_made e (Ok r) (Err x) is at due h granted = absurd cc
  entry_made e (Ok r) (Ok n) is at due h granted =
      let i : body_of (record { held = b.tally.held ++ (r ∷ []); claims = b.tally.claims }) b.marks ≡ d = cc in
      let m = made size small e r is in
      subst (Grown t size b ((codes "pos=" ++ join_with_byte 44 (entry_texts e)) ∷ [])) i
      (record {
        lines = position_last b.tally.held b.tally.claims b.marks r due ∙ ap (λ x. body_lines b ++ ((codes "pos=" ++ join_with_byte 44 (entry_texts x)) ∷ [])) (sym m.entry);
        led = λ l. subst (λ y. IsReached (docket_of t size y)) at (led_more t size b.tally (Enter e) l);
        marks = λ k. k;
      })

  position_read : (v : List ℕ) (due : Bool) → (none b.tally.claims && none b.marks) ≡ due → (r : Result Entry BadField) → entry_at 5 (split 44 v) ≡ r → cond due (entry_taken size b r) (Err wrong_key) ≡ Ok d → Grown t size b ((codes "pos=" ++ v) ∷ []) d
  position_read v false k r q h = absurd cc
  position_read v true k (Err f) q h = absurd cc
  position_read v true k (Ok e) q h =
      subst (λ l. Grown t size b ((codes "pos=" ++ l) ∷ []) d) (entry_read 5 v e q)
      (entry_made e (record_of size e) (call.enter_reply size b.tally e) refl refl k h refl)

  -- ---- a claim

  claim_made : (c : Claim) (reply : Result ℕ Refusal) → call.claim_reply (docket_of t size b.tally) c ≡ reply → none b.marks ≡ true → claim_like b.tally.claims c ≡ None → call_taken b (call.tally_claimed b.tally c reply) reply ≡ Ok d → Grown t size b (claim_line c ∷ []) d
  claim_made c (Err x) granted due fresh h = absurd cc
  claim_made c (Ok n) granted due fresh h =
      let ls = b.tally.claims in
      let line : call.sets_reply ls None c ≡ Ok n = ap (λ o. call.sets_reply ls o c) (sym fresh) ∙ (if_good_ok (call.claim_judged (docket_of t size b.tally) c) _ n granted).1 in
      let sets : c.sets ≡ n = same_sets c.sets n (unless_ok (ltb (length ls) 64) _ _ n line).1 in
      let new : call.claims_with ls (claim_like ls c) c n ≡ ls ++ (c ∷ []) = ap (λ o. call.claims_with ls o c n) fresh ∙ ap (λ k. call.claims_with ls None c k) (sym sets) in
      let i : body_of (call.tally_claimed b.tally c (Ok n)) b.marks ≡ d = cc in
      subst (Grown t size b (claim_line c ∷ [])) i
      (record {
        lines = ap (λ l. map position_line b.tally.held ++ (map claim_line l ++ map mark_line b.marks)) new ∙ claim_last b.tally.held ls b.marks c due;
        led = λ l. subst (λ y. IsReached (docket_of t size y)) (ap (call.tally_claimed b.tally c) granted) (led_more t size b.tally (ClaimCall c) l);
        marks = λ k. k;
      })

  claim_fresh : (c : Claim) (o : Bool) → is_some (claim_like b.tally.claims c) ≡ o → none b.marks ≡ true → cond o (Err repeated) (call_taken b (call.after_claim (docket_of t size b.tally) c) (call.claim_reply (docket_of t size b.tally) c)) ≡ Ok d → Grown t size b (claim_line c ∷ []) d
  claim_fresh c true s due h = absurd cc
  claim_fresh c false s due h = claim_made c (call.claim_reply (docket_of t size b.tally) c) refl due (is_none (claim_like b.tally.claims c) s) h

  claim_line_read : (v : List ℕ) (due : Bool) → none b.marks ≡ due → (r : Result Claim BadField) → claim_at 7 (split 44 v) ≡ r → cond due (claim_value_taken t size b r) (Err wrong_key) ≡ Ok d → Grown t size b ((codes "claim=" ++ v) ∷ []) d
  claim_line_read v false k r q h = absurd cc
  claim_line_read v true k (Err f) q h = absurd cc
  claim_line_read v true k (Ok c) q h =
      subst (λ l. Grown t size b ((codes "claim=" ++ l) ∷ []) d) (claim_read 7 v c q)
      (claim_fresh c (is_some (claim_like b.tally.claims c)) refl k h)

  -- ---- a mark

  mark_read : (v : List ℕ) (room : Bool) → ltb (length b.marks) 32 ≡ room → (r : Result ℤ BadField) → one_field integer 6 (split 44 v) ≡ r → cond room (mark_value_taken b r) (Err wrong_key) ≡ Ok d → Grown t size b ((codes "mark=" ++ v) ∷ []) d
  mark_read v false k r q h = absurd cc
  mark_read v true k (Err f) q h = absurd cc
  mark_read v true k (Ok z) q h =
      let i : body_of b.tally (b.marks ++ (z ∷ [])) ≡ d = cc in
      let o = one_read reads_integer 6 v z q in
      let few = ltb-true (length b.marks) 32 k in
      subst (λ l. Grown t size b ((codes "mark=" ++ l) ∷ []) d) o.text_is
      (subst (Grown t size b (mark_line z ∷ [])) i
      (record {
        lines = mark_last b.tally.held b.tally.claims b.marks z;
        led = λ l. l;
        marks = λ m. record { few = omega (arith, length_push b.marks z); short = short_push b.marks z m.short o.good };
      }))

  -- ---- any line

  position_taken_lem : (v : List ℕ) → position_taken size b v ≡ Ok d → Grown t size b ((codes "pos=" ++ v) ∷ []) d
  position_taken_lem v h = position_read v (none b.tally.claims && none b.marks) refl (entry_at 5 (split 44 v)) refl h

  claim_taken_lem : (v : List ℕ) → claim_taken t size b v ≡ Ok d → Grown t size b ((codes "claim=" ++ v) ∷ []) d
  claim_taken_lem v h = claim_line_read v (none b.marks) refl (claim_at 7 (split 44 v)) refl h

  mark_taken_lem : (v : List ℕ) → mark_taken b v ≡ Ok d → Grown t size b ((codes "mark=" ++ v) ∷ []) d
  mark_taken_lem v h = mark_read v (ltb (length b.marks) 32) refl (one_field integer 6 (split 44 v)) refl h

  -- by the key, or else by the other keys
  keyed : (f key : List ℕ) (o : Option (List ℕ)) (taken : List ℕ → Result Body LineFault) (other : Result Body LineFault) → strip key f ≡ o → ((v : List ℕ) → taken v ≡ Ok d → Grown t size b ((key ++ v) ∷ []) d) → (other ≡ Ok d → Grown t size b (f ∷ []) d) → if_key o taken other ≡ Ok d → Grown t size b (f ∷ []) d
  keyed f key (Some v) taken other q one next h = subst (λ l. Grown t size b (l ∷ []) d) (strip_text key f v q) (one v h)
  keyed f key None taken other q one next h = next h

  line_taken_lem : (f : List ℕ) → line_taken t size b f ≡ Ok d → Grown t size b (f ∷ []) d
  unfolding line_taken
  line_taken_lem f h =
      keyed f (codes "pos=") (strip (codes "pos=") f) (position_taken size b) _ refl position_taken_lem
      (keyed f (codes "claim=") (strip (codes "claim=") f) (claim_taken t size b) _ refl claim_taken_lem
      (keyed f (codes "mark=") (strip (codes "mark=") f) (mark_taken b) (Err wrong_key) refl mark_taken_lem
      (λ z. absurd cc)))
      h

-- ---- all lines

-- the pieces are lines, and the empty one after the last ending byte
pub record BodyRead (t : Tables) (size : ℕ) (b : Body) (fs : List (List ℕ)) (d : Body) : Type 0 where
  pub lines : List (List ℕ)
  pub is : fs ≡ lines ++ ([] ∷ [])
  pub grown : Grown t size b lines d

module _ (t : Tables) (size : ℕ) (small : size ≤ 1000) (d : Body) where
  end_taken : (n : ℕ) (b : Body) (f : List ℕ) → at_end n b f ≡ Ok d → BodyRead t size b (f ∷ []) d
  end_taken n b [] h = let i : b ≡ d = cc in record { lines = []; is = refl; grown = subst (Grown t size b []) i (none_grown t size b) }
  end_taken n b (c ∷ cs) h = absurd cc

  pub body_read : (n : ℕ) (b : Body) (f : List ℕ) (fs : List (List ℕ)) → body_from t size n b (f ∷ fs) ≡ Ok d → BodyRead t size b (f ∷ fs) d
  body_read n b f [] h = end_taken n b f h
  body_read n b f (g ∷ fs) h = at (λ c. body_read (n + 1) c g fs) (line_taken t size b f) refl h
    where
      at : ((c : Body) → body_from t size (n + 1) c (g ∷ fs) ≡ Ok d → BodyRead t size c (g ∷ fs) d) → (r : Result Body LineFault) → line_taken t size b f ≡ r → then_others n r (λ next. body_from t size (n + 1) next (g ∷ fs)) ≡ Ok d → BodyRead t size b (f ∷ g ∷ fs) d
      at rest (Ok c) q h =
          let m = rest c h in
          record { lines = f ∷ m.lines; is = ap (λ l. f ∷ l) m.is; grown = more_grown t size b c d f m.lines (line_taken_lem t size small b c f q) m.grown }
      at rest (Err x) q h = absurd cc
