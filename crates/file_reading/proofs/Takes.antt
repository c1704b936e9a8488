-- What a line is taken to: a position or a claim that is granted, one mark more, and each by its key.
use Rattle.std.proofs.Common.{◌≡◌, ℕ, true, false, ◌&&◌, ltb, List, [], ◌∷◌, ◌++◌, length, ℤ, is_some, Some, None, Ok, Err, codes, sym, ap, ◌∙◌}
use Rattle.std.proofs.lemmas.Bool.{cond-true, cond-false}
use Rattle.rules_positions.specs.declared.Entry.{Entry}
use Rattle.rules_books.specs.Tables.{Tables}
use Rattle.certificate_pairing.specs.declared.Claim.{Claim}
use Rattle.certificate_pairing.specs.Dockets.{Tally, docket_of}
use Rattle.calls_docket.specs.Finding.{claim_like}
use Rattle.calls_docket.specs.Calls.{enter_reply, after_enter, claim_reply, after_claim}
use Rattle.file_fields.specs.Fields.{split, one_field}
use Rattle.file_fields.specs.Numbers.{integer}
use Rattle.file_head.specs.Faults.{wrong_key, repeated}
use Rattle.file_head.specs.Lines.{strip}
use Rattle.file_body.specs.Values.{entry_at, claim_at}
use Rattle.file_body.specs.Body.{Body, none, call_taken, entry_taken, position_taken, claim_value_taken, claim_taken, mark_value_taken, mark_taken, line_taken}

pub position_entered : (size : ℕ) (b : Body) (v : List ℕ) → (none b.tally.claims && none b.marks) ≡ true → (e : Entry) (n : ℕ) (y : Tally) → Ok e ≡ entry_at 5 (split 44 v) → Ok n ≡ enter_reply size b.tally e → y ≡ after_enter size b.tally e → Ok (record { tally = y; marks = b.marks }) ≡ position_taken size b v
position_entered size b v h e n y q r a =
    (λ i. call_taken b (a i) (r i))
    ∙ ap (entry_taken size b) q
    ∙ sym (cond-true _ (entry_taken size b (entry_at 5 (split 44 v))) (Err wrong_key) h)

pub claim_granted : (t : Tables) (size : ℕ) (b : Body) (v : List ℕ) → none b.marks ≡ true → (c : Claim) → Ok c ≡ claim_at 7 (split 44 v) → is_some (claim_like b.tally.claims c) ≡ false → (n : ℕ) (y : Tally) → Ok n ≡ claim_reply (docket_of t size b.tally) c → y ≡ after_claim (docket_of t size b.tally) c → Ok (record { tally = y; marks = b.marks }) ≡ claim_taken t size b v
claim_granted t size b v h c q s n y r a =
    (λ i. call_taken b (a i) (r i))
    ∙ sym (cond-false _ (Err repeated) (call_taken b (after_claim (docket_of t size b.tally) c) (claim_reply (docket_of t size b.tally) c)) s)
    ∙ ap (claim_value_taken t size b) q
    ∙ sym (cond-true _ (claim_value_taken t size b (claim_at 7 (split 44 v))) (Err wrong_key) h)

-- one mark more
pub mark_kept : (b : Body) (v : List ℕ) → ltb (length b.marks) 32 ≡ true → (z : ℤ) (ms : List ℤ) → Ok z ≡ one_field integer 6 (split 44 v) → ms ≡ b.marks ++ (z ∷ []) → Ok (record { tally = b.tally; marks = ms }) ≡ mark_taken b v
mark_kept b v h z ms e m =
    ap (λ l. Ok (record { tally = b.tally; marks = l })) m
    ∙ ap (mark_value_taken b) e
    ∙ sym (cond-true _ (mark_value_taken b (one_field integer 6 (split 44 v))) (Err wrong_key) h)

-- by the key
module _ (t : Tables) (size : ℕ) (b : Body) (f v : List ℕ) where
  pub by_position : Some v ≡ strip (codes "pos=") f → position_taken size b v ≡ line_taken t size b f
  unfolding line_taken
  by_position e = rw (← e)

  pub by_claim : None ≡ strip (codes "pos=") f → Some v ≡ strip (codes "claim=") f → claim_taken t size b v ≡ line_taken t size b f
  unfolding line_taken
  by_claim p e = rw (← p, ← e)

  pub by_mark : None ≡ strip (codes "pos=") f → None ≡ strip (codes "claim=") f → Some v ≡ strip (codes "mark=") f → mark_taken b v ≡ line_taken t size b f
  unfolding line_taken
  by_mark p q e = rw (← p, ← q, ← e)
