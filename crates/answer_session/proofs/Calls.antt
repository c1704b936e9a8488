-- Where the marks of a call lie in memory does not change its reply.
use Rattle.std.proofs.Common.{◌≡◌, ℕ, refl}
use Rattle.rules_books.specs.Tables.{Tables}
use Rattle.certificate_pairing.specs.Dockets.{Tally, Docket}
use Rattle.calls_serve.specs.declared.Call.{Call}
use Rattle.calls_serve.specs.declared.Call.TheVariants.{Enter, Claim, Release, Free, Total, Certify}
use Rattle.calls_serve.specs.Runs.{reply_to}
use Rattle.answer_session.specs.Sent.{anywhere}

pub same_reply : (d : Docket Tables) (call : Call) → reply_to d (anywhere call) ≡ reply_to d call
same_reply d (Enter entry) = refl
same_reply d (Claim claim) = refl
same_reply d (Release claim) = refl
same_reply d (Free position) = refl
same_reply d Total = refl
same_reply d (Certify marks) = refl
