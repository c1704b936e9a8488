-- One call more at the end of a run.
use Rattle.std.proofs.Common.{◌≡◌, ℕ, ◌+◌, ◌<◌, List, [], ◌∷◌, ◌++◌, length, get_or, take, drop, set, sym, refl, ap, ◌∙◌, subst, arith, drop-drop, drop-set-lt}
use Rattle.std.proofs.lemmas.List.{take_more, take_more_set}
use Rattle.rules_books.specs.Tables.{Tables, IsLawful}
use Rattle.certificate_pairing.specs.Dockets.{Tally, empty, docket_of, docket_by}
use Rattle.certificate_pairing.specs.Dockets.{Docket}
use Rattle.calls_serve.specs.declared.Call.{Call}
use Rattle.calls_serve.specs.Runs.{Reply, reply_to, after, ran, replies}
use Rattle.calls_serve.specs.Laws.{opened, Holds, Onward, served, IsRun}
use Rattle.calls_serve.proofs.Holding.{runs_hold}

pub ran_push : (t : Tables) (s : ℕ) (y : Tally) (cs : List Call) (k : Call) → ran (docket_of t s y) (cs ++ (k ∷ [])) ≡ after (docket_of t s (ran (docket_of t s y) cs)) k
ran_push t s y [] k = refl
ran_push t s y (c ∷ cs) k = ran_push t s (after (docket_of t s y) c) cs k

pub replies_push : (t : Tables) (s : ℕ) (y : Tally) (cs : List Call) (k : Call) → replies (docket_of t s y) (cs ++ (k ∷ [])) ≡ replies (docket_of t s y) cs ++ (reply_to (docket_of t s (ran (docket_of t s y) cs)) k ∷ [])
replies_push t s y [] k = refl
replies_push t s y (c ∷ cs) k = ap (λ (rs : List Reply). reply_to (docket_of t s y) c ∷ rs) (replies_push t s (after (docket_of t s y) c) cs k)

-- a turn of a loop over the calls
module _ (t : Tables) (s : ℕ) (y : Tally) (cs : List Call) (i : ℕ) (d : Call) (h : i < length cs) where
  pub ran_more : (z : Tally) → z ≡ after (docket_of t s (ran (docket_of t s y) (take i cs))) (get_or cs i d) → z ≡ ran (docket_of t s y) (take (i + 1) cs)
  ran_more z e =
      let push = ran_push t s y (take i cs) (get_or cs i d) in
      let more = take_more cs i d h in
      cc

  pub replies_more : (os : List Reply) (a : Reply) → i < length os → take i os ≡ replies (docket_of t s y) (take i cs) → a ≡ reply_to (docket_of t s (ran (docket_of t s y) (take i cs))) (get_or cs i d) → take (i + 1) (set os i a) ≡ replies (docket_of t s y) (take (i + 1) cs)
  replies_more os a k e r =
      let front = take_more_set os i a k in
      let push = replies_push t s y (take i cs) (get_or cs i d) in
      let more = take_more cs i d h in
      cc

pub places_more : (os ps : List Reply) (i : ℕ) (a : Reply) → drop i os ≡ drop i ps → drop (i + 1) (set os i a) ≡ drop (i + 1) ps
places_more os ps i a e = drop-set-lt (i + 1) os i a (omega arith) ∙ sym (drop-drop 1 i os) ∙ ap (drop 1) e ∙ drop-drop 1 i ps

pub onward : (d : Docket Tables) → IsLawful d.book → (z : Tally) (k : Call) → z ≡ after d k → Onward d z
onward d law z k e led =
    let t = d.book in
    let s = d.size in
    let cs = led.0 ++ (k ∷ []) in
    let there : z ≡ ran (opened t s) cs = e ∙ ap (λ (w : Tally). after (docket_of t s w) k) led.1 ∙ sym (ran_push t s empty led.0 k) in
    (subst (λ (w : Tally). Holds (docket_of t s w)) (sym there) (runs_hold t s cs law), (cs, there))

-- the same call, at dockets that are equal
module _ {K : Type 0} (T : K → Tables) {d e : Docket K} (p : d ≡ e) (k : Call) where
  pub after_same : (z : Docket K) → z ≡ record d { tally = after (docket_by T d) k } → z ≡ record e { tally = after (docket_by T e) k }
  after_same z h = cc

  pub reply_same : (a : Reply) → a ≡ reply_to (docket_by T d) k → a ≡ reply_to (docket_by T e) k
  reply_same a h = cc

-- calls leave the book and the size
pub parts_kept : {K : Type 0} {n d : Docket K} {b : K} {s : ℕ} {y : Tally} → n ≡ record d { tally = y } → d ≡ docket_of b s empty → n ≡ docket_of b s n.tally
parts_kept {K} {n} e o = (λ i. docket_of (e i).book (e i).size n.tally) ∙ (λ i. docket_of (o i).book (o i).size n.tally)

-- a run from a docket just opened
pub run_opened :
    {K : Type 0} (T : K → Tables) {d : Docket K} {b : K} {s : ℕ} → d ≡ docket_of b s empty → IsLawful (T b) → (calls : List Call) (places filled : List Reply) (z : Tally)
    → filled ≡ replies (docket_by T d) (take (served calls places) calls) ++ drop (served calls places) places → z ≡ ran (docket_by T d) (take (served calls places) calls)
    → IsRun (opened (T b) s) calls places filled z
run_opened T {d} {b} {s} p law calls places filled z f h = record {
  replied = f ∙ ap (λ (e : Docket _). replies (docket_by T e) (take (served calls places) calls) ++ drop (served calls places) places) p;
  tallied = h ∙ ap (λ (e : Docket _). ran (docket_by T e) (take (served calls places) calls)) p;
  held = λ k. runs_hold (T b) s (take k calls) law;
}
