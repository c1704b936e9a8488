-- Replies and tallies of runs of calls.
use Rattle.std.specs.Prelude.{ℕ, List, [], ◌∷◌, Ok, Result}
use Rattle.std.specs.Result.{result_map_both}
use Rattle.rules_books.specs.Tables.{Tables}
use Rattle.calls_docket.specs.declared.Refusal.{Refusal}
use Rattle.certificate_pairing.specs.Dockets.{Tally, Docket}
use Rattle.calls_docket.specs.Calls.{enter_reply, after_enter, claim_reply, after_claim, release_reply, after_release, free_reply, total_reply, certificate_reply}
use Rattle.calls_serve.specs.declared.Call.{Call}
use Rattle.calls_serve.specs.declared.Call.TheVariants.{Enter, Claim, Release, Free, Total, Certify}
use Rattle.calls_serve.specs.declared.Granted.{Granted}
use Rattle.calls_serve.specs.declared.Granted.TheVariants as granted

-- what is granted, or the refusal
abbrev pub Reply : Type 0
Reply = Result Granted Refusal

-- a reply says of which call it is granted
abbrev pub told : {A : Type 0} → (A → Granted) → Result A Refusal → Reply
told of r = result_map_both of (λ e. e) r

-- the reply to a call
abbrev pub reply_to : Docket Tables → Call → Reply
reply_to d (Enter e) = told granted.Entered (enter_reply d.size d.tally e)
reply_to d (Claim c) = told granted.Claimed (claim_reply d c)
reply_to d (Release c) = told granted.Released (release_reply d.tally c)
reply_to d (Free p) = told granted.Free (free_reply d p)
reply_to d Total = Ok (granted.Total (total_reply d))
reply_to d (Certify marks) = told granted.Certified (certificate_reply d marks.now)

-- the tally after a call
abbrev pub after : Docket Tables → Call → Tally
after d (Enter e) = after_enter d.size d.tally e
after d (Claim c) = after_claim d c
after d (Release c) = after_release d.tally c
after d (Free p) = d.tally
after d Total = d.tally
after d (Certify marks) = d.tally

-- the tally after a list of calls
abbrev pub ran : Docket Tables → List Call → Tally
ran d [] = d.tally
ran d (c ∷ cs) = ran (record d { tally = after d c }) cs

-- the replies to a list of calls
abbrev pub replies : Docket Tables → List Call → List Reply
replies d [] = []
replies d (c ∷ cs) = reply_to d c ∷ replies (record d { tally = after d c }) cs
