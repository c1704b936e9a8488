-- What is printed for a line.
use Rattle.std.specs.Prelude.{ℕ, List, ◌++◌, codes}
use Rattle.calls_docket.specs.Texts.{refusal_text}
use Rattle.calls_serve.specs.Texts.{granted_text}
use Rattle.answer_docket.specs.declared.FileFault.TheVariants.{Read}
use Rattle.answer_docket.specs.Texts.{fault_text}
use Rattle.answer_session.specs.declared.replies.LineReply.{LineReply}
use Rattle.answer_session.specs.declared.replies.LineReply.TheVariants.{Granted, Refused, Bad}

-- what the call is granted, its own refusal, or that of a bad line
abbrev pub reply_text : LineReply → List ℕ
reply_text (Granted granted) = codes "granted=" ++ (granted_text granted ++ codes "\n")
reply_text (Refused refusal) = codes "refused=" ++ (refusal_text refusal ++ codes "\n")
reply_text (Bad fault) = fault_text (Read fault)
