-- Positions entered again, in their order.
use Rattle.std.proofs.Common.{◌≡◌, ℕ, ◌+◌, ◌<◌, ◌≤◌, ltb, List, [], ◌∷◌, ◌++◌, length, Some, None, Ok, Err, Option, Result, sym, refl, ap, ◌∙◌, subst, append_assoc, append-nil, arith}
use Rattle.std.proofs.lemmas.List.{length_push}
use Rattle.std.proofs.lemmas.Bool.{ltb-true}
use Rattle.rules_positions.specs.declared.Entry.{Entry}
use Rattle.rules_positions.specs.declared.RecordFault.{RecordFault}
use Rattle.rules_positions.specs.declared.record.Record.{Record}
use Rattle.rules_positions.specs.Records.{record_of}
use Rattle.calls_docket.specs.declared.Refusal.{Refusal}
use Rattle.certificate_pairing.specs.Dockets.{Tally, holding}
use Rattle.calls_docket.specs.Finding.{position_like}
use Rattle.calls_docket.specs.Calls.{number_reply, record_reply, enter_reply, tally_entered}
use Rattle.calls_serve.proofs.Passed.{unless_ok}
use Rattle.calls_replay.specs.Entries.{entry_of}
use Rattle.calls_replay.specs.Replay.{EntersAgain}
use Rattle.calls_replay.proofs.Records.{made}

-- each of the positions is entered again, after those before it
abbrev pub AllEnter : ℕ → List Record → List Record → Type 0
AllEnter size before [] = Unit {0}
AllEnter size before (r ∷ rs) = EntersAgain size before r × AllEnter size (before ++ (r ∷ [])) rs

module _ (size : ℕ) where
  one_more : (before rs : List Record) (r : Record) → AllEnter size before rs → EntersAgain size (before ++ rs) r → AllEnter size before (rs ++ (r ∷ []))
  one_more before [] r h k = (subst (λ (xs : List Record). EntersAgain size xs r) (append-nil before) k, tt)
  one_more before (x ∷ rs) r h k = (h.0, one_more (before ++ (x ∷ [])) rs r h.1 (subst (λ (xs : List Record). EntersAgain size xs r) (sym (append_assoc before (x ∷ []) rs)) k))

  among_all : (first before : List Record) (r : Record) (others : List Record) → AllEnter size first (before ++ (r ∷ others)) → EntersAgain size (first ++ before) r
  among_all first [] r others h = subst (λ (xs : List Record). EntersAgain size xs r) (sym (append-nil first)) h.0
  among_all first (b ∷ before) r others h = subst (λ (xs : List Record). EntersAgain size xs r) (append_assoc first (b ∷ []) before) (among_all (first ++ (b ∷ [])) before r others h.1)

  pub enters_again : (held before : List Record) (r : Record) (others : List Record) → AllEnter size [] held → held ≡ before ++ (r ∷ others) → EntersAgain size before r
  enters_again held before r others h e = among_all [] before r others (subst (AllEnter size []) e h)

-- a granted enter has the next number, of 32 at most
number : (held : List Record) (o : Option ℕ) (n : ℕ) → number_reply held o ≡ Ok n → (length held < 32) × (n ≡ length held + 1)
number held (Some i) n h = cc
number held None n h =
    let parts = unless_ok (ltb (length held) 32) _ _ n h in
    let same = parts.1 in
    (ltb-true (length held) 32 parts.0, cc)

-- the positions are entered again, and are 32 at most
pub record Entered (size : ℕ) (held : List Record) : Type 0 where
  pub again : AllEnter size [] held
  pub few : length held ≤ 32

again : (size : ℕ) → size ≤ 1000 → (held : List Record) (e : Entry) (r : Record) (n : ℕ) → record_of size e ≡ Ok r → record_reply held (Ok r) ≡ Ok n → EntersAgain size held r
again size small held e r n is granted =
    let m = made size small e r is in
    let makes : record_of size (entry_of r) ≡ Ok r = ap (record_of size) (sym m.entry) ∙ is in
    let next = (number held (position_like held r) n granted).1 in
    let reply : enter_reply size (holding held []) (entry_of r) ≡ Ok n = ap (record_reply held) makes ∙ granted in
    record {
      granted = reply ∙ ap (λ (k : ℕ). Ok k) next;
      after = ap (λ (a : Result Record RecordFault). tally_entered (holding held []) a (enter_reply size (holding held []) (entry_of r))) makes ∙ ap (λ (a : Result ℕ Refusal). tally_entered (holding held []) (Ok r) a) reply;
      strike = omega (arith, m.strike);
      days = omega (arith, m.days);
      price = omega (arith, m.price);
      quantity = omega (arith, m.quantity);
    }

-- an enter keeps to this
pub enter_keeps : (size : ℕ) → size ≤ 1000 → (y : Tally) (e : Entry) (a : Result Record RecordFault) (reply : Result ℕ Refusal) → record_of size e ≡ a → record_reply y.held a ≡ reply → Entered size y.held → Entered size (tally_entered y a reply).held
enter_keeps size small y e (Err f) reply is granted h = h
enter_keeps size small y e (Ok r) (Err x) is granted h = h
enter_keeps size small y e (Ok r) (Ok n) is granted h =
    let fits = (number y.held (position_like y.held r) n granted).0 in
    record {
      again = one_more size [] y.held r h.again (again size small y.held e r n is granted);
      few = omega (arith, length_push y.held r);
    }

pub enter_claims : (y : Tally) (a : Result Record RecordFault) (reply : Result ℕ Refusal) → (tally_entered y a reply).claims ≡ y.claims
enter_claims y (Err f) reply = refl
enter_claims y (Ok r) (Err x) = refl
enter_claims y (Ok r) (Ok n) = refl
