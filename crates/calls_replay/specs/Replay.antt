-- A docket made again from what it holds.
use Rattle.std.specs.Prelude.{◌≡◌, ℕ, ◌+◌, ◌<◌, List, [], ◌∷◌, ◌++◌, length, None, Ok}
use Rattle.rules_positions.specs.declared.record.Record.{Record}
use Rattle.rules_books.specs.Tables.{Tables, IsLawful, IsSize}
use Rattle.certificate_pairing.specs.declared.Claim.{Claim}
use Rattle.certificate_pairing.specs.Dockets.{Tally, holding, docket_of, Docket}
use Rattle.calls_docket.specs.Finding.{claim_like}
use Rattle.calls_docket.specs.Calls.{enter_reply, after_enter, claim_reply, after_claim}
use Rattle.calls_serve.specs.Laws.{IsReached}
use Rattle.calls_replay.specs.Entries.{entry_of}

-- after the positions before it, a position is entered again: it is granted the next number, and is the record that it was
pub record EntersAgain (size : ℕ) (before : List Record) (r : Record) : Type 0 where
  pub granted : enter_reply size (holding before []) (entry_of r) ≡ Ok (length before + 1)
  pub after : after_enter size (holding before []) (entry_of r) ≡ holding (before ++ (r ∷ [])) []
  pub strike : r.strike < 1000000000000000
  pub days : r.days < 1000000000000000
  pub price : r.price < 1000000000000000
  pub quantity : r.quantity < 1000000000000000

-- after the claims before it, a claim is made again: none before it has its article and legs, it is granted its sets, and stands as it stood
pub record ClaimsAgain (t : Tables) (size : ℕ) (held : List Record) (before : List Claim) (c : Claim) : Type 0 where
  pub fresh : claim_like before c ≡ None
  pub granted : claim_reply (docket_of t size (holding held before)) c ≡ Ok c.sets
  pub after : after_claim (docket_of t size (holding held before)) c ≡ holding held (before ++ (c ∷ []))
  pub article : c.article < 1000000000000000
  pub first : c.first < 1000000000000000
  pub second : c.second < 1000000000000000
  pub third : c.third < 1000000000000000
  pub sets : c.sets < 1000000000000000

-- every position held is entered again, and then every claim is made again
pub record IsReplayed (d : Docket Tables) : Type 0 where
  pub enters : (before : List Record) (r : Record) (others : List Record) → d.tally.held ≡ before ++ (r ∷ others) → EntersAgain d.size before r
  pub claims : (before : List Claim) (c : Claim) (others : List Claim) → d.tally.claims ≡ before ++ (c ∷ others) → ClaimsAgain d.book d.size d.tally.held before c

-- of a docket that any calls led to
abbrev pub Replay : Type 0
Replay = (d : Docket Tables) → IsLawful d.book → IsSize d.size → IsReached d → IsReplayed d
