-- Claims that are all unlike, each of 1 to 5,000 sets.
use Rattle.std.proofs.Common.{◌≡◌, ℕ, zero, suc, ◌+◌, ◌-◌, ◌≤◌, Bool, true, false, cond, eqb, ltb, leb, List, [], ◌∷◌, ◌++◌, length, get_or, remove, set, Some, None, Ok, Err, Option, Result, sym, refl, ap, ◌∙◌, subst, arith, length-set}
use Rattle.std.specs.List.{position_from}
use Rattle.std.proofs.lemmas.List.{length_push}
use Rattle.std.proofs.lemmas.Iterator.Adapters.{position_from-zero}
use Rattle.std.proofs.lemmas.Bool.{and_parts, eqb-false, leb-true, ltb-true}
use Rattle.rules_books.specs.Ranges.{inside}
use Rattle.rules_books.specs.Tables.{Tables}
use Rattle.certificate_pairing.specs.declared.Claim.{Claim}
use Rattle.certificate_pairing.specs.Kept.{no_claim, with_sets}
use Rattle.calls_docket.specs.declared.Refusal.{Refusal}
use Rattle.certificate_pairing.specs.Dockets.{Tally, docket_of}
use Rattle.calls_docket.specs.Finding.{like_claim, claim_like}
use Rattle.calls_docket.specs.Calls.{article_ok, claim_judged, sets_reply, claim_reply, claims_with, tally_claimed, release_from, release_reply, claims_left, tally_released}
use Rattle.calls_serve.proofs.Passed.{unless_ok, if_good_ok}

-- none of the claims is like the one before them
abbrev Unlike : Claim → List Claim → Type 0
Unlike c [] = Unit {0}
Unlike c (x ∷ xs) = (like_claim x c ≡ false) × Unlike c xs

abbrev Ranged : ℕ → Type 0
Ranged n = (1 ≤ n) × (n ≤ 5000)

-- each claim has its sets, and is unlike those after it
abbrev pub Lines : List Claim → Type 0
Lines [] = Unit {0}
Lines (c ∷ cs) = Ranged c.sets × Unlike c cs × Lines cs

-- ---- a claim with other sets

unlike_set : (c : Claim) (ls : List Claim) (i n : ℕ) → Unlike c ls → Unlike c (set ls i (with_sets (get_or ls i no_claim) n))
unlike_set c [] i n h = tt
unlike_set c (x ∷ ls) zero n h = h
unlike_set c (x ∷ ls) (suc i) n h = (h.0, unlike_set c ls i n h.1)

unlike_sets : (c : Claim) (n : ℕ) (ls : List Claim) → Unlike c ls → Unlike (with_sets c n) ls
unlike_sets c n [] h = tt
unlike_sets c n (x ∷ ls) h = (h.0, unlike_sets c n ls h.1)

lines_set : (ls : List Claim) (i n : ℕ) → Ranged n → Lines ls → Lines (set ls i (with_sets (get_or ls i no_claim) n))
lines_set [] i n k h = tt
lines_set (x ∷ ls) zero n k h = (k, unlike_sets x n ls h.1, h.2)
lines_set (x ∷ ls) (suc i) n k h = (h.0, unlike_set x ls i n h.1, lines_set ls i n k h.2)

-- ---- a claim less

unlike_less : (c : Claim) (ls : List Claim) (i : ℕ) → Unlike c ls → Unlike c (remove ls i)
unlike_less c [] zero h = tt
unlike_less c [] (suc i) h = tt
unlike_less c (x ∷ ls) zero h = h.1
unlike_less c (x ∷ ls) (suc i) h = (h.0, unlike_less c ls i h.1)

lines_less : (ls : List Claim) (i : ℕ) → Lines ls → Lines (remove ls i)
lines_less [] zero h = tt
lines_less [] (suc i) h = tt
lines_less (x ∷ ls) zero h = h.2
lines_less (x ∷ ls) (suc i) h = (h.0, unlike_less x ls i h.1, lines_less ls i h.2)

length_less : (ls : List Claim) (i : ℕ) → length (remove ls i) ≤ length ls
length_less [] zero = omega arith
length_less [] (suc i) = omega arith
length_less (x ∷ ls) zero = omega arith
length_less (x ∷ ls) (suc i) = let rest = length_less ls i in omega arith

-- ---- a claim more

no_first : (b : Bool) (i : ℕ) (o : Option ℕ) → cond b (Some i) o ≡ None → (b ≡ false) × (o ≡ None)
no_first true i o h = cc
no_first false i o h = (refl, h)

unlike_push : (c : Claim) (ls : List Claim) (l : Claim) → Unlike c ls → like_claim l c ≡ false → Unlike c (ls ++ (l ∷ []))
unlike_push c [] l h k = (k, tt)
unlike_push c (x ∷ ls) l h k = (h.0, unlike_push c ls l h.1 k)

lines_push : (ls : List Claim) (l : Claim) (i : ℕ) → Ranged l.sets → position_from (like_claim l) i ls ≡ None → Lines ls → Lines (ls ++ (l ∷ []))
lines_push [] l i k f h = (k, tt, tt)
lines_push (x ∷ ls) l i k f h =
    let none = no_first (like_claim l x) i (position_from (like_claim l) (i + 1) ls) f in
    (h.0, unlike_push x ls l h.1 none.0, lines_push ls l (i + 1) k none.1 h.2)

-- ---- what is so of a claim

unlike_there : (c : Claim) (before : List Claim) (l : Claim) (others : List Claim) → Unlike c (before ++ (l ∷ others)) → like_claim l c ≡ false
unlike_there c [] l others h = h.0
unlike_there c (b ∷ before) l others h = unlike_there c before l others h.1

-- no claim before it is like it
none_before : (before : List Claim) (c : Claim) (others : List Claim) (i : ℕ) → Lines (before ++ (c ∷ others)) → position_from (like_claim c) i before ≡ None
none_before [] c others i h = refl
none_before (b ∷ before) c others i h =
    ap (λ (x : Bool). cond x (Some i) (position_from (like_claim c) (i + 1) before)) (unlike_there b before c others h.1)
    ∙ none_before before c others (i + 1) h.2

pub fresh : (before : List Claim) (c : Claim) (others : List Claim) → Lines (before ++ (c ∷ others)) → claim_like before c ≡ None
fresh before c others h = position_from-zero (like_claim c) before ∙ none_before before c others 0 h

pub sets_there : (before : List Claim) (c : Claim) (others : List Claim) → Lines (before ++ (c ∷ others)) → (1 ≤ c.sets) × (c.sets ≤ 5000)
sets_there [] c others h = h.0
sets_there (b ∷ before) c others h = sets_there before c others h.2

sets_high : (ls : List Claim) (i : ℕ) → Lines ls → (get_or ls i no_claim).sets ≤ 5000
sets_high [] i h = omega arith
sets_high (x ∷ ls) zero h = h.0.1
sets_high (x ∷ ls) (suc i) h = sets_high ls i h.2

-- ---- each call

-- the claims are unlike and in range, and are 64 at most
pub record Standing (ls : List Claim) : Type 0 where
  pub lines : Lines ls
  pub few : length ls ≤ 64

ranged_sets : (n : ℕ) → inside 1 5000 n ≡ true → Ranged n
ranged_sets n h = let parts = and_parts (leb 1 n) (leb n 5000) h in (leb-true 1 n parts.0, leb-true n 5000 parts.1)

put_keeps : (ls : List Claim) (c : Claim) (n : ℕ) (o : Option ℕ) → Ranged c.sets → claim_like ls c ≡ o → sets_reply ls o c ≡ Ok n → Standing ls → Standing (claims_with ls o c n)
put_keeps ls c n None k found e h =
    let parts = unless_ok (ltb (length ls) 64) _ _ n e in
    let room = ltb-true (length ls) 64 parts.0 in
    let is : c.sets ≡ n = cc in
    subst (λ (m : ℕ). Standing (ls ++ (with_sets c m ∷ []))) is
    (record { lines = lines_push ls c 0 k (sym (position_from-zero (like_claim c) ls) ∙ found) h.lines; few = omega (arith, length_push ls c) })
put_keeps ls c n (Some i) k found e h =
    let sum = (get_or ls i no_claim).sets + c.sets in
    let parts = unless_ok (leb sum 5000) _ _ n e in
    let fits = leb-true sum 5000 parts.0 in
    let got = parts.1 in
    let is : sum ≡ n = cc in
    record { lines = lines_set ls i n (omega arith, omega arith) h.lines; few = omega (arith, length-set ls i (with_sets (get_or ls i no_claim) n)) }

pub claim_keeps : (t : Tables) (size : ℕ) (y : Tally) (c : Claim) (r : Result ℕ Refusal) → claim_reply (docket_of t size y) c ≡ r → Standing y.claims → Standing (tally_claimed y c r).claims
claim_keeps t size y c (Err x) e h = h
claim_keeps t size y c (Ok n) e h =
    let g = if_good_ok (claim_judged (docket_of t size y) c) _ n e in
    let a = if_good_ok (article_ok t.articles c) _ tt g.0 in
    let b = unless_ok (inside 1 t.articles c.article) _ _ tt a.0 in
    let d = unless_ok (inside 1 5000 c.sets) _ _ tt b.1 in
    put_keeps y.claims c n (claim_like y.claims c) (ranged_sets c.sets d.0) refl g.1 h

line_left : (ls : List Claim) (i n : ℕ) (gone : Bool) → n ≤ 5000 → eqb n 0 ≡ gone → Standing ls → Standing (cond gone (remove ls i) (set ls i (with_sets (get_or ls i no_claim) n)))
line_left ls i n true k e h = record { lines = lines_less ls i h.lines; few = omega (arith, length_less ls i) }
line_left ls i n false k e h =
    let some = eqb-false n 0 e in
    record { lines = lines_set ls i n (omega arith, k) h.lines; few = omega (arith, length-set ls i (with_sets (get_or ls i no_claim) n)) }

left_keeps : (ls : List Claim) (c : Claim) (n : ℕ) (o : Option ℕ) → release_from ls o c ≡ Ok n → Standing ls → Standing (claims_left ls o n)
left_keeps ls c n None e h = h
left_keeps ls c n (Some i) e h =
    let got = (unless_ok (leb c.sets (get_or ls i no_claim).sets) _ _ n e).1 in
    let is : (get_or ls i no_claim).sets - c.sets ≡ n = cc in
    line_left ls i n (eqb n 0) (omega (arith, sets_high ls i h.lines)) refl h

pub release_keeps : (y : Tally) (c : Claim) (r : Result ℕ Refusal) → release_reply y c ≡ r → Standing y.claims → Standing (tally_released y c r).claims
release_keeps y c (Err x) e h = h
release_keeps y c (Ok n) e h = left_keeps y.claims c n (claim_like y.claims c) (unless_ok (inside 1 5000 c.sets) _ _ n e).1 h
