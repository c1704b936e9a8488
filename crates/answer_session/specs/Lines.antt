-- The call that a line sends.
use Rattle.std.specs.Prelude.{ℕ, ◌+◌, cond, List, [], ◌∷◌, length, ℤ, Some, None, Ok, Err, codes, Option, Result}
use Rattle.std.specs.Result.{result_map_both}
use Rattle.std.specs.Str.{bytes_eq}
use Rattle.calls_serve.specs.declared.Call.{Call}
use Rattle.calls_serve.specs.declared.Call.TheVariants.{Enter, Claim, Release, Free, Total, Certify}
use Rattle.file_fields.specs.declared.BadField.{BadField}
use Rattle.file_fields.specs.Fields.{split, bad_at, one_field}
use Rattle.file_fields.specs.Numbers.{natural, integer}
use Rattle.file_head.specs.declared.faults.LineFault.{LineFault}
use Rattle.file_head.specs.Faults.{wrong_key, from_field}
use Rattle.file_head.specs.Lines.{strip}
use Rattle.file_body.specs.Body.{if_key}
use Rattle.file_body.specs.Values.{entry_at, claim_at}

-- a mark at place p, and those after it; a bad mark is named before any after it
abbrev pub with_mark : ℕ → Option ℤ → Result (List ℤ) BadField → Result (List ℤ) BadField
with_mark p None others = Err (bad_at p)
with_mark p (Some mark) (Ok marks) = Ok (mark ∷ marks)
with_mark p (Some mark) (Err bad) = Err bad

-- marks, any number of them, of which the first begins at place p
abbrev pub marks_at : ℕ → List (List ℕ) → Result (List ℤ) BadField
marks_at p [] = Ok []
marks_at p (f ∷ fs) = with_mark p (integer f) (marks_at (p + (length f + 1)) fs)

-- a call of certify with these marks; where they lie in memory does not matter
abbrev pub certify : List ℤ → Call
certify marks = Certify (record { now = marks; ref_ptr = (0, 0) })

-- the call that a value makes; an ill-formed value has the place of its first bad, missing or surplus field
abbrev pub making : {A : Type 0} → (A → Call) → Result A BadField → Result Call LineFault
making call r = result_map_both call from_field r

-- a word alone: total, or certify, which then sends no mark
abbrev pub word_at : List ℕ → Result Call LineFault
word_at f = cond (bytes_eq f (codes "total")) (Ok Total) (cond (bytes_eq f (codes "certify")) (Ok (certify [])) (Err wrong_key))

-- the call that a line sends, by its name; a line with no name of a call is bad from its first byte on
unfoldable pub call_at : List ℕ → Result Call LineFault
call_at f =
    if_key (strip (codes "enter=") f) (λ v. making Enter (entry_at 7 (split 44 v)))
    (if_key (strip (codes "claim=") f) (λ v. making Claim (claim_at 7 (split 44 v)))
    (if_key (strip (codes "release=") f) (λ v. making Release (claim_at 9 (split 44 v)))
    (if_key (strip (codes "free=") f) (λ v. making Free (one_field natural 6 (split 44 v)))
    (if_key (strip (codes "certify=") f) (λ v. making certify (marks_at 9 (split 44 v)))
    (word_at f)))))
