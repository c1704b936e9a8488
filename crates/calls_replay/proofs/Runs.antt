-- What every call leaves can be made again.
use Rattle.std.proofs.Common.{◌≡◌, ℕ, ◌≤◌, List, [], ◌∷◌, Ok, Err, Result, sym, refl, subst, arith}
use Rattle.rules_positions.specs.Records.{record_of}
use Rattle.rules_books.specs.Tables.{Tables, IsLawful}
use Rattle.certificate_pairing.specs.declared.Claim.{Claim}
use Rattle.certificate_pairing.specs.Claims.{IsSound}
use Rattle.calls_docket.specs.declared.Refusal.{Refusal}
use Rattle.certificate_pairing.specs.Dockets.{Tally, empty, holding, docket_of, Docket}
use Rattle.calls_docket.specs.Calls.{enter_reply, claim_reply, tally_claimed, release_reply, tally_released}
use Rattle.calls_serve.specs.declared.Call.{Call}
use Rattle.calls_serve.specs.declared.Call.TheVariants.{Enter, Claim as ClaimCall, Release, Free, Total, Certify}
use Rattle.calls_serve.specs.Runs.{after, ran}
use Rattle.calls_serve.specs.Laws.{opened, Holds, IsReached}
use Rattle.calls_serve.proofs.Holding.{runs_hold}
use Rattle.calls_replay.specs.Replay.{IsReplayed, Replay}
use Rattle.calls_replay.proofs.Enters.{Entered, enters_again, enter_keeps, enter_claims}
use Rattle.calls_replay.proofs.Lines.{Standing, claim_keeps, release_keeps}
use Rattle.calls_replay.proofs.Claims.{sound, claims_again}

claim_held : (y : Tally) (c : Claim) (r : Result ℕ Refusal) → (tally_claimed y c r).held ≡ y.held
claim_held y c (Ok n) = refl
claim_held y c (Err x) = refl

release_held : (y : Tally) (c : Claim) (r : Result ℕ Refusal) → (tally_released y c r).held ≡ y.held
release_held y c (Ok n) = refl
release_held y c (Err x) = refl

pub record Kept (size : ℕ) (y : Tally) : Type 0 where
  pub held : Entered size y.held
  pub claims : Standing y.claims

module _ (t : Tables) (size : ℕ) (small : size ≤ 1000) where
  after_kept : (y : Tally) (k : Call) → Kept size y → Kept size (after (docket_of t size y) k)
  after_kept y (Enter e) h = record {
    held = enter_keeps size small y e (record_of size e) (enter_reply size y e) refl refl h.held;
    claims = subst Standing (sym (enter_claims y (record_of size e) (enter_reply size y e))) h.claims;
  }
  after_kept y (ClaimCall c) h = record {
    held = subst (Entered size) (sym (claim_held y c (claim_reply (docket_of t size y) c))) h.held;
    claims = claim_keeps t size y c (claim_reply (docket_of t size y) c) refl h.claims;
  }
  after_kept y (Release c) h = record {
    held = subst (Entered size) (sym (release_held y c (release_reply y c))) h.held;
    claims = release_keeps y c (release_reply y c) refl h.claims;
  }
  after_kept y (Free p) h = h
  after_kept y Total h = h
  after_kept y (Certify marks) h = h

  ran_kept : (y : Tally) (ks : List Call) → Kept size y → Kept size (ran (docket_of t size y) ks)
  ran_kept y [] h = h
  ran_kept y (k ∷ ks) h = ran_kept (after (docket_of t size y) k) ks (after_kept y k h)

opened_kept : (size : ℕ) → Kept size empty
opened_kept size = record { held = record { again = tt; few = omega arith }; claims = record { lines = tt; few = omega arith } }

replayed : (d : Docket Tables) → IsLawful d.book → Kept d.size d.tally → Holds d → IsReplayed d
replayed d law k h = record {
  enters = λ before r others e. enters_again d.size d.tally.held before r others k.held.again e;
  claims = λ before c others e.
      claims_again d.book law d.size d.tally.held before c others
      (subst (λ (ls : List Claim). IsSound (docket_of d.book d.size (holding d.tally.held ls))) e (sound d.book d.size d.tally k.claims.lines h))
      (subst Standing e k.claims)
      k.held.few;
}

pub led_kept : (d : Docket Tables) → d.size ≤ 1000 → IsReached d → Kept d.size d.tally
led_kept d small led = subst (Kept d.size) (sym led.1) (ran_kept d.book d.size small empty led.0 (opened_kept d.size))

pub replay : Replay
replay d law sized led =
    let t = d.book in
    let cs = led.0 in
    subst (λ (y : Tally). IsReplayed (docket_of t d.size y)) (sym led.1)
    (replayed (docket_of t d.size (ran (opened t d.size) cs)) law (ran_kept t d.size sized.1 empty cs (opened_kept d.size)) (runs_hold t d.size cs law))
