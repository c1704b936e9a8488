-- Calls and what is granted as text.
use Rattle.std.specs.Prelude.{ℕ, List, ◌++◌, ℤ, codes, decimal}
use Rattle.std.specs.List.{flat_map}
use Rattle.std.specs.Fmt.{signed_decimal}
use Rattle.rules_positions.specs.Texts.{entry_text}
use Rattle.certificate_pairing.specs.Texts.{claim_text}
use Rattle.calls_serve.specs.declared.Call.{Call}
use Rattle.calls_serve.specs.declared.Call.TheVariants as call
use Rattle.calls_serve.specs.declared.Granted.{Granted}
use Rattle.calls_serve.specs.declared.Granted.TheVariants.{Entered, Claimed, Released, Free, Total, Certified}

-- a space before each mark
abbrev pub marks_text : List ℤ → List ℕ
marks_text marks = flat_map (λ m. codes " " ++ signed_decimal m) marks

-- the name of the call, and what it is sent
abbrev pub call_text : Call → List ℕ
call_text (call.Enter entry) = codes "enter=" ++ entry_text entry
call_text (call.Claim claim) = codes "claim=" ++ claim_text claim
call_text (call.Release claim) = codes "release=" ++ claim_text claim
call_text (call.Free position) = codes "free=" ++ decimal position
call_text call.Total = codes "total"
call_text (call.Certify marks) = codes "certify" ++ marks_text marks.now

-- the number answered, and of a certificate the total and the floor
abbrev pub granted_text : Granted → List ℕ
granted_text (Entered position) = decimal position
granted_text (Claimed sets) = decimal sets
granted_text (Released sets) = decimal sets
granted_text (Free units) = decimal units
granted_text (Total parts) = decimal parts
granted_text (Certified certificate) = decimal certificate.total ++ (codes "," ++ signed_decimal certificate.floor)
