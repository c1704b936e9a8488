-- What holds of a docket after every call.
use Rattle.std.specs.Prelude.{◌≡◌, ℕ, ◌+◌, min, List, ◌++◌, length, take, drop, ℤ, Ok}
use Rattle.rules_books.specs.Tables.{Tables, IsLawful}
use Rattle.certificate_pairing.specs.Pairing.{IsPosition, at, IsLawfulPairing, cost}
use Rattle.certificate_pairing.specs.Claims.{taken, total, pairing_of, LawfulIn, cost_in}
use Rattle.certificate_certify.specs.Certified.{certify_reply, Certifies}
use Rattle.certificate_pairing.specs.Dockets.{Tally, Docket, docket_of, empty}
use Rattle.calls_docket.specs.Calls.{free_reply, total_reply}
use Rattle.calls_serve.specs.declared.Call.{Call}
use Rattle.calls_serve.specs.Runs.{Reply, ran, replies}

-- of a position: the free units answered, and those that the claims standing take, are together the units entered
pub record IsBalanced (d : Docket Tables) (p : ℕ) : Type 0 where
  pub units : ℕ
  pub answered : free_reply d p ≡ Ok units
  pub balance : units + taken d.size d.tally.held d.tally.claims p ≡ (at d.tally.held p).quantity

-- every position balances; the total answered is the claims standing at the book's requirements plus every other unit entered at
-- its requirement alone; the claims standing are a lawful pairing, and it costs that total; and certify is granted exactly when the
-- marks are fair, and shows what a certificate shows
pub record Holds (d : Docket Tables) : Type 0 where
  pub balanced : (p : ℕ) → IsPosition d.tally.held p → IsBalanced d p
  pub totals : total_reply d ≡ total d
  pub standing : LawfulIn d (pairing_of d.tally.claims)
  pub costs : cost_in d (pairing_of d.tally.claims) ≡ total_reply d
  pub certified : (marks : List ℤ) → Certifies d marks (certify_reply d marks)

-- a docket just opened over a book's tables
abbrev pub opened : Tables → ℕ → Docket Tables
opened t size = docket_of t size empty

-- for a docket just opened over any lawful book, after any list of calls
abbrev pub RunsHold : Type 0
RunsHold = (t : Tables) (size : ℕ) (calls : List Call) → IsLawful t → Holds (docket_of t size (ran (opened t size) calls))

-- some list of calls led here from a docket just opened
abbrev pub IsReached : Docket Tables → Type 0
IsReached d = (calls : List Call) × (d.tally ≡ ran (opened d.book d.size) calls)

-- where calls led to the docket before a call, all that should hold does with the tally after it, and calls led there
abbrev pub Onward : Docket Tables → Tally → Type 0
Onward d y = IsReached d → Holds (record d { tally = y }) × IsReached (record d { tally = y })

-- as many calls are served as there are places for their replies
abbrev pub served : List Call → List Reply → ℕ
served calls places = min (length calls) (length places)

-- a docket just opened and a list of calls: each reply is the one that is fixed, in its place, and later places stay; the docket holds the
-- tally made from the calls; and all that should hold does after every one of them
pub record IsRun (d : Docket Tables) (calls : List Call) (places filled : List Reply) (y : Tally) : Type 0 where
  pub replied : filled ≡ replies d (take (served calls places) calls) ++ drop (served calls places) places
  pub tallied : y ≡ ran d (take (served calls places) calls)
  pub held : (k : ℕ) → Holds (record d { tally = ran d (take k calls) })
