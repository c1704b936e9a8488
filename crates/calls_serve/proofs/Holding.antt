-- Every call leaves the claims sound, and what sound claims answer.
use Rattle.std.proofs.Common.{◌≡◌, ℕ, ◌+◌, ◌-◌, Bool, true, false, cond, eqb, ltb, leb, List, [], ◌∷◌, ◌++◌, length, get_or, remove, set, Some, None, Ok, Err, Option, Result, sym, refl, ap, ◌∙◌, subst, add-one, arith}
use Rattle.std.proofs.lemmas.Bool.{and_from, le-leb}
use Rattle.rules_books.specs.Ranges.{inside}
use Rattle.rules_positions.specs.declared.RecordFault.{RecordFault}
use Rattle.rules_positions.specs.declared.record.Record.{Record}
use Rattle.rules_positions.specs.Records.{record_of}
use Rattle.rules_books.specs.Tables.{Tables, IsLawful}
use Rattle.certificate_pairing.specs.declared.Claim.{Claim}
use Rattle.certificate_pairing.specs.Pairing.{IsPosition, IsAllowed}
use Rattle.certificate_pairing.specs.Claims.{legs_of, set_of, IsSound}
use Rattle.certificate_pairing.specs.Kept.{no_claim, with_sets, IsCovered}
use Rattle.certificate_pairing.proofs.Keeps.{sound_kept}
use Rattle.certificate_pairing.proofs.Standing.{lines_pair}
use Rattle.certificate_certify.specs.Totals.{free}
use Rattle.certificate_certify.specs.Certified.{certify_reply}
use Rattle.certificate_certify.proofs.Promise.{certified, total_same}
use Rattle.calls_docket.specs.declared.Refusal.{Refusal}
use Rattle.calls_docket.specs.declared.Refusal.TheVariants.{NoSuchPosition}
use Rattle.certificate_pairing.specs.Dockets.{Tally, empty, holding, docket_of}
use Rattle.calls_docket.specs.Finding.{claim_like}
use Rattle.calls_docket.specs.Calls.{unless, enter_reply, tally_entered, sets_reply, claim_reply, claims_with, tally_claimed, release_from, release_reply, claims_left, tally_released}
use Rattle.rules_articles.specs.declared.Leg.TheVariants.{First}
use Rattle.calls_serve.specs.declared.Call.{Call}
use Rattle.calls_serve.specs.declared.Call.TheVariants.{Enter, Claim as ClaimCall, Release, Free, Total, Certify}
use Rattle.calls_serve.specs.Runs.{after, ran}
use Rattle.calls_serve.specs.Laws.{IsBalanced, Holds, RunsHold, opened}
use Rattle.calls_serve.proofs.Lines.{there}
use Rattle.calls_serve.proofs.Passed.{unless_ok, granted_claim}

abbrev Fine : Tables → ℕ → Tally → Type 0
Fine t s y = IsSound (docket_of t s y)

-- ---- each call keeps the claims sound

module _ (t : Tables) (law : IsLawful t) (s : ℕ) where
  put_fine : (y : Tally) (c : Claim) (n : ℕ) (o : Option ℕ) → IsAllowed t s y.held (set_of c) → IsCovered s y.held y.claims (legs_of c) c.sets → claim_like y.claims c ≡ o → sets_reply y.claims o c ≡ Ok n → Fine t s y → IsSound (docket_of t s (holding y.held (claims_with y.claims o c n)))
  put_fine y c n None a v found e h =
      let got = (unless_ok (ltb (length y.claims) 64) _ _ n e).1 in
      let is : c.sets ≡ n = cc in
      subst (λ (m : ℕ). IsSound (docket_of t s (holding y.held (y.claims ++ (with_sets c m ∷ []))))) is ((sound_kept t s).claims y.held y.claims c h a v)
  put_fine y c n (Some k) a v found e h =
      let line = there y.claims c k found in
      let got = (unless_ok (leb ((get_or y.claims k no_claim).sets + c.sets) 5000) _ _ n e).1 in
      let is : (get_or y.claims k no_claim).sets + c.sets ≡ n = cc in
      subst (λ (m : ℕ). IsSound (docket_of t s (holding y.held (claims_with y.claims (Some k) c m)))) is
      ((sound_kept t s).adds y.held y.claims k c.sets line.below h (subst (λ (qs : List ℕ). IsCovered s y.held y.claims qs c.sets) (sym line.same) v))

  claim_fine : (y : Tally) (c : Claim) (r : Result ℕ Refusal) → claim_reply (docket_of t s y) c ≡ r → Fine t s y → Fine t s (tally_claimed y c r)
  claim_fine y c (Ok n) e h = let g = granted_claim t law s y c n e in put_fine y c n (claim_like y.claims c) g.allowed g.covered refl g.line h
  claim_fine y c (Err x) e h = h

  line_left : (y : Tally) (k n : ℕ) (gone : Bool) → IsSound (docket_of t s (holding y.held (set y.claims k (with_sets (get_or y.claims k no_claim) n)))) → Fine t s y → IsSound (docket_of t s (holding y.held (cond gone (remove y.claims k) (set y.claims k (with_sets (get_or y.claims k no_claim) n)))))
  line_left y k n true fewer h = rw add-one at ((sound_kept t s).removes y.held y.claims k h)
  line_left y k n false fewer h = fewer

  left_fine : (y : Tally) (c : Claim) (n : ℕ) (o : Option ℕ) → claim_like y.claims c ≡ o → release_from y.claims o c ≡ Ok n → Fine t s y → IsSound (docket_of t s (holding y.held (claims_left y.claims o n)))
  left_fine y c n None found e h = h
  left_fine y c n (Some k) found e h =
      let line = there y.claims c k found in
      let got = (unless_ok (leb c.sets (get_or y.claims k no_claim).sets) _ _ n e).1 in
      let is : (get_or y.claims k no_claim).sets - c.sets ≡ n = cc in
      line_left y k n (eqb n 0) ((sound_kept t s).releases y.held y.claims k n line.below (omega arith) h) h

  release_fine : (y : Tally) (c : Claim) (r : Result ℕ Refusal) → release_reply y c ≡ r → Fine t s y → Fine t s (tally_released y c r)
  release_fine y c (Ok n) e h = left_fine y c n (claim_like y.claims c) refl (unless_ok (inside 1 5000 c.sets) _ _ n e).1 h
  release_fine y c (Err x) e h = h

  enter_fine : (y : Tally) (a : Result Record RecordFault) (r : Result ℕ Refusal) → Fine t s y → Fine t s (tally_entered y a r)
  enter_fine y (Err f) r h = h
  enter_fine y (Ok x) (Err e) h = h
  enter_fine y (Ok x) (Ok n) h = (sound_kept t s).enters y.held y.claims x h

  after_fine : (y : Tally) (k : Call) → Fine t s y → Fine t s (after (docket_of t s y) k)
  after_fine y (Enter e) h = enter_fine y (record_of s e) (enter_reply s y e) h
  after_fine y (ClaimCall c) h = claim_fine y c (claim_reply (docket_of t s y) c) refl h
  after_fine y (Release c) h = release_fine y c (release_reply y c) refl h
  after_fine y (Free p) h = h
  after_fine y Total h = h
  after_fine y (Certify marks) h = h

  ran_fine : (y : Tally) (ks : List Call) → Fine t s y → Fine t s (ran (docket_of t s y) ks)
  ran_fine y [] h = h
  ran_fine y (k ∷ ks) h = ran_fine (after (docket_of t s y) k) ks (after_fine y k h)

  -- ---- what sound claims answer

  balanced : (y : Tally) → Fine t s y → (p : ℕ) → IsPosition y.held p → IsBalanced (docket_of t s y) p
  balanced y h p at_p =
      let test = and_from (leb 1 p) (leb p (length y.held)) (le-leb 1 p at_p.0) (le-leb p (length y.held) at_p.1) in
      let fit = h.fits p at_p in
      record {
        units = free (docket_of t s y) p;
        answered = ap (λ (b : Bool). unless b (NoSuchPosition First) (Ok (free (docket_of t s y) p))) test;
        balance = omega arith;
      }

  holds : (y : Tally) → Fine t s y → Holds (docket_of t s y)
  holds y h = record {
    balanced = balanced y h;
    totals = total_same (docket_of t s y) h;
    standing = (lines_pair (docket_of t s y) h).0;
    costs = (lines_pair (docket_of t s y) h).1 ∙ sym (total_same (docket_of t s y) h);
    certified = λ marks. certified (docket_of t s y) law marks h (certify_reply (docket_of t s y) marks) refl;
  }

pub runs_hold : RunsHold
runs_hold t s calls law = holds t law s (ran (opened t s) calls) (ran_fine t law s empty calls (sound_kept t s).opened)
