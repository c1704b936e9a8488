-- The lines after the head: positions, then claims, then marks.
use Rattle.std.specs.Prelude.{ℕ, ◌+◌, Bool, cond, ◌&&◌, List, [], ◌∷◌, ◌++◌, length, ℤ, is_some, Some, None, Ok, Err, codes, Option, Result, ◌==◌, nat_lt}
use Rattle.rules_positions.specs.declared.Entry.{Entry}
use Rattle.rules_books.specs.Tables.{Tables}
use Rattle.certificate_pairing.specs.declared.Claim.{Claim}
use Rattle.calls_docket.specs.declared.Refusal.{Refusal}
use Rattle.certificate_pairing.specs.Dockets.{Tally, empty, docket_of}
use Rattle.calls_docket.specs.Finding.{claim_like}
use Rattle.calls_docket.specs.Calls.{enter_reply, after_enter, claim_reply, after_claim}
use Rattle.file_fields.specs.declared.BadField.{BadField}
use Rattle.file_fields.specs.Fields.{split, one_field}
use Rattle.file_fields.specs.Numbers.{integer}
use Rattle.file_head.specs.declared.faults.LineFault.{LineFault}
use Rattle.file_head.specs.declared.faults.ReadFault.{ReadFault}
use Rattle.file_head.specs.Faults.{on_line, no_line, wrong_key, repeated, from_field, from_call}
use Rattle.file_head.specs.Lines.{strip}
use Rattle.file_body.specs.Values.{entry_at, claim_at}

-- what the lines so far have led to
pub record Body : Type 0 where
  pub tally : Tally
  pub marks : List ℤ

-- none has come
abbrev pub no_body : Body
no_body = record { tally = empty; marks = [] }

-- nothing is in the list
abbrev pub none : {A : Type 0} → List A → Bool
none xs = length xs == 0

-- a granted call leads to another tally; the refusal of a call is the line's fault
abbrev pub call_taken : Body → Tally → Result ℕ Refusal → Result Body LineFault
call_taken b y (Ok number) = Ok (record { tally = y; marks = b.marks })
call_taken b y (Err refusal) = Err (from_call refusal)

-- the entry that a value makes is entered; an ill-formed value comes first
abbrev pub entry_taken : ℕ → Body → Result Entry BadField → Result Body LineFault
entry_taken size b (Ok e) = call_taken b (after_enter size b.tally e) (enter_reply size b.tally e)
entry_taken size b (Err bad) = Err (from_field bad)

-- a position may come while no claim and no mark has come
abbrev pub position_taken : ℕ → Body → List ℕ → Result Body LineFault
position_taken size b v = cond (none b.tally.claims && none b.marks) (entry_taken size b (entry_at 5 (split 44 v))) (Err wrong_key)

-- the claim that a value makes is claimed, unless an earlier line has its article and legs
abbrev pub claim_value_taken : Tables → ℕ → Body → Result Claim BadField → Result Body LineFault
claim_value_taken t size b (Ok c) =
    cond (is_some (claim_like b.tally.claims c)) (Err repeated)
    (call_taken b (after_claim (docket_of t size b.tally) c) (claim_reply (docket_of t size b.tally) c))
claim_value_taken t size b (Err bad) = Err (from_field bad)

-- a claim may come while no mark has come
abbrev pub claim_taken : Tables → ℕ → Body → List ℕ → Result Body LineFault
claim_taken t size b v = cond (none b.marks) (claim_value_taken t size b (claim_at 7 (split 44 v))) (Err wrong_key)

-- one mark more
abbrev pub mark_value_taken : Body → Result ℤ BadField → Result Body LineFault
mark_value_taken b (Ok z) = Ok (record { tally = b.tally; marks = b.marks ++ (z ∷ []) })
mark_value_taken b (Err bad) = Err (from_field bad)

-- a mark may come while fewer than 32 have come
abbrev pub mark_taken : Body → List ℕ → Result Body LineFault
mark_taken b v = cond (nat_lt (length b.marks) 32) (mark_value_taken b (one_field integer 6 (split 44 v))) (Err wrong_key)

-- what stands after a key, taken; or else, where another key stands there
abbrev pub if_key : {A : Type 0} → Option (List ℕ) → (List ℕ → A) → A → A
if_key (Some v) taken other = taken v
if_key None taken other = other

-- a line is taken by its key
unfoldable pub line_taken : Tables → ℕ → Body → List ℕ → Result Body LineFault
line_taken t size b f =
    if_key (strip (codes "pos=") f) (position_taken size b)
    (if_key (strip (codes "claim=") f) (claim_taken t size b)
    (if_key (strip (codes "mark=") f) (mark_taken b)
    (Err wrong_key)))

-- the file ends where a line would begin
abbrev pub at_end : ℕ → Body → List ℕ → Result Body ReadFault
at_end n b [] = Ok b
at_end n b (c ∷ cs) = Err (on_line n no_line)

-- a line taken, and then the others
abbrev pub then_others : ℕ → Result Body LineFault → (Body → Result Body ReadFault) → Result Body ReadFault
then_others n (Ok b) others = others b
then_others n (Err f) others = Err (on_line n f)

-- the lines from line n on, after those that led to b
abbrev pub body_from : Tables → ℕ → ℕ → Body → List (List ℕ) → Result Body ReadFault
body_from t size n b [] = Ok b
body_from t size n b (f ∷ []) = at_end n b f
body_from t size n b (f ∷ g ∷ fs) = then_others n (line_taken t size b f) (λ next. body_from t size (n + 1) next (g ∷ fs))
