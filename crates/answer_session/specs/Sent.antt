-- What is made in code, as the definitions speak of it.
use Rattle.std.specs.Prelude.{◌≡◌, Ok, Err, Result}
use Rattle.calls_serve.specs.declared.Call.{Call}
use Rattle.calls_serve.specs.declared.Call.TheVariants as call
use Rattle.file_head.specs.declared.faults.LineFault.{LineFault}
use Rattle.file_head.specs.Lines.{pieces}
use Rattle.file_head.specs.Rates.{rates_on}
use Rattle.file_head.specs.Head.{Head}
use Rattle.file_fields.specs.Fields.{Got}
use Rattle.answer_session.specs.declared.sent.Sent.{Sent}
use Rattle.answer_session.specs.declared.sent.Sent.TheVariants.{Enter, Claim, Release, Free, Total, Certify}
use Rattle.answer_session.specs.declared.sent.CallFault.{CallFault}
use Rattle.answer_session.specs.declared.sent.CallFault.TheVariants.{Bad, Memory}
use Rattle.answer_session.specs.declared.serving.Opened.{Opened}
use Rattle.answer_session.specs.Lines.{certify}

-- the call that is sent
abbrev pub call_of : Sent → Call
call_of (Enter entry) = call.Enter entry
call_of (Claim claim) = call.Claim claim
call_of (Release claim) = call.Release claim
call_of (Free position) = call.Free position
call_of Total = call.Total
call_of (Certify marks) = certify marks.items

-- a call, wherever its marks lie in memory
abbrev pub anywhere : Call → Call
anywhere (call.Enter entry) = call.Enter entry
anywhere (call.Claim claim) = call.Claim claim
anywhere (call.Release claim) = call.Release claim
anywhere (call.Free position) = call.Free position
anywhere call.Total = call.Total
anywhere (call.Certify marks) = certify marks.now

-- what was read is what a definition gives, or the fault that it gives; want of memory tells nothing of the line
abbrev pub ReadAs : {A B : Type 0} → (A → B) → Result A CallFault → Result B LineFault → Type 0
ReadAs shown (Ok x) given = Ok (shown x) ≡ given
ReadAs shown (Err (Bad fault)) given = Err fault ≡ given
ReadAs shown (Err (Memory error)) given = Unit {0}

-- the size and the values of the docket that the head opens, the line that comes next, and what is left of the input
abbrev pub opening : Opened → Got Head
opening o = record { value = record { size = o.docket.size; rates = rates_on o.docket.book }; place = o.reader.line_number; left = pieces o.reader }
