-- What a granted claim has passed.
use Rattle.std.proofs.Common.{◌≡◌, ℕ, ◌*◌, ◌≤◌, Bool, true, false, not, ◌||◌, eqb, leb, List, [], ◌∷◌, length, Ok, Err, Result, sym, refl, ap, ◌∙◌, subst, ⊎_elim, arith}
use Rattle.std.proofs.lemmas.Bool.Decides.{nat_tests}
use Rattle.std.proofs.lemmas.Bool.{cases_eq, eqb-true, eq-eqb, ne_eqb, leb-true, cond-true, cond-false, and_parts, or_cases}
use Rattle.rules_books.specs.Ranges.{inside}
use Rattle.rules_books.specs.declared.BookFault.{BookFault}
use Rattle.rules_books.specs.Tables.{Tables, IsLawful, Has}
use Rattle.certificate_pairing.specs.declared.Claim.{Claim}
use Rattle.certificate_pairing.specs.Pairing.{IsPosition, ArePositions, distinct, answer, answered_parts, IsAllowed, lot}
use Rattle.certificate_pairing.specs.Claims.{legs_of, set_of}
use Rattle.certificate_pairing.specs.Kept.{IsCovered}
use Rattle.certificate_certify.specs.Totals.{free}
use Rattle.calls_docket.specs.declared.Refusal.{Refusal}
use Rattle.certificate_pairing.specs.Dockets.{Tally, docket_of}
use Rattle.calls_docket.specs.Finding.{claim_like}
use Rattle.calls_docket.specs.Calls.{Verdict, good, unless, if_good, article_ok, positions_ok, third_ok, apart_ok, book_ok, covers, covered_ok, claim_judged, sets_reply, claim_reply}

-- ---- a reply, taken apart

pub unless_ok : {A : Type 0} (b : Bool) (e : Refusal) (r : Result A Refusal) (x : A) → unless b e r ≡ Ok x → (b ≡ true) × (r ≡ Ok x)
unless_ok true e r x h = (refl, h)
unless_ok false e r x h = cc

pub if_good_ok : {A : Type 0} (v : Verdict) (r : Result A Refusal) (x : A) → if_good v r ≡ Ok x → (v ≡ good) × (r ≡ Ok x)
if_good_ok (Ok tt) r x h = (refl, h)
if_good_ok (Err e) r x h = cc

book_ok_lem : (a : Result ℕ BookFault) → book_ok a ≡ good → a ≡ Ok (answered_parts a)
book_ok_lem (Ok k) h = refl
book_ok_lem (Err f) h = cc

inside_from : (n p : ℕ) → inside 1 n p ≡ true → (1 ≤ p) × (p ≤ n)
inside_from n p h = let parts = and_parts (leb 1 p) (leb p n) h in (leb-true 1 p parts.0, leb-true p n parts.1)

-- ---- the legs

pub two_legs : (c : Claim) → c.third ≡ 0 → legs_of c ≡ c.first ∷ c.second ∷ []
two_legs c e = cond-true (eqb c.third 0) (c.first ∷ c.second ∷ []) (c.first ∷ c.second ∷ c.third ∷ []) (eq-eqb c.third 0 e)

pub three_legs : (c : Claim) → (c.third ≡ 0 → ⊥) → legs_of c ≡ c.first ∷ c.second ∷ c.third ∷ []
three_legs c e = cond-false (eqb c.third 0) (c.first ∷ c.second ∷ []) (c.first ∷ c.second ∷ c.third ∷ []) (ne_eqb c.third 0 e)

apart_two : (i j : ℕ) → not (eqb j i) ≡ true → distinct (i ∷ j ∷ []) ≡ true
apart_two i j h = grind (arith, nat_tests)

apart_three : (i j k : ℕ) → not (eqb j i) ≡ true → not (eqb k i || eqb k j) ≡ true → distinct (i ∷ j ∷ k ∷ []) ≡ true
apart_three i j k h g = grind (arith, nat_tests)

data Third (k third n : ℕ) : Type 0 where
  absent : k ≡ 2 → third ≡ 0 → Third k third n
  present : k ≡ 3 → (third ≡ 0 → ⊥) → (1 ≤ third) × (third ≤ n) → Third k third n

third_from : (k third n : ℕ) → 2 ≤ k → k ≤ 3 → third_ok n k third ≡ true → Third k third n
third_from k third n low high h =
    ⊎_elim
    (λ e. absent e (eqb-true third 0 (sym (cond-true (eqb k 2) (eqb third 0) (inside 1 n third) (eq-eqb k 2 e)) ∙ h)))
    (λ d.
    let r = inside_from n third (sym (cond-false (eqb k 2) (eqb third 0) (inside 1 n third) (ne_eqb k 2 d)) ∙ h) in
    present (omega arith) (λ z. omega arith) r)
    (cases_eq k 2)

-- ---- a granted claim

pub record Granted (t : Tables) (s : ℕ) (y : Tally) (c : Claim) (n : ℕ) : Type 0 where
  pub allowed : IsAllowed t s y.held (set_of c)
  pub covered : IsCovered s y.held y.claims (legs_of c) c.sets
  pub line : sets_reply y.claims (claim_like y.claims c) c ≡ Ok n

pub granted_claim : (t : Tables) → IsLawful t → (s : ℕ) (y : Tally) (c : Claim) (n : ℕ) → claim_reply (docket_of t s y) c ≡ Ok n → Granted t s y c n
granted_claim t law s y c n h =
    let held = y.held in
    let ls = y.claims in
    let g0 = if_good_ok (claim_judged (docket_of t s y) c) _ n h in
    let g1 = if_good_ok (article_ok t.articles c) _ tt g0.0 in
    let g2 = if_good_ok (positions_ok (length held) (t.legs c.article) c) _ tt g1.1 in
    let g3 = if_good_ok (apart_ok c) _ tt g2.1 in
    let g4 = if_good_ok (book_ok (answer t s held (set_of c))) (covered_ok (docket_of t s y) c) tt g3.1 in
    let a1 = unless_ok (inside 1 t.articles c.article) _ _ tt g1.0 in
    let p1 = unless_ok (inside 1 (length held) c.first) _ _ tt g2.0 in
    let p2 = unless_ok (inside 1 (length held) c.second) _ _ tt p1.1 in
    let p3 = unless_ok (third_ok (length held) (t.legs c.article) c.third) _ _ tt p2.1 in
    let d1 = unless_ok (not (eqb c.second c.first)) _ _ tt g3.0 in
    let d2 = unless_ok (not (eqb c.third c.first || eqb c.third c.second)) _ _ tt d1.1 in
    let f1 = unless_ok (covers (docket_of t s y) c c.first) _ _ tt g4.1 in
    let f2 = unless_ok (covers (docket_of t s y) c c.second) _ _ tt f1.1 in
    let f3 = unless_ok (eqb c.third 0 || covers (docket_of t s y) c c.third) _ _ tt f2.1 in
    let granted = book_ok_lem (answer t s held (set_of c)) g4.0 in
    let has : Has t c.article = inside_from t.articles c.article a1.0 in
    let i : IsPosition held c.first = inside_from (length held) c.first p1.0 in
    let j : IsPosition held c.second = inside_from (length held) c.second p2.0 in
    let enough = λ (q : ℕ) (z : covers (docket_of t s y) c q ≡ true). leb-true (c.sets * lot s held q) (free (docket_of t s y) q) z in
    let third = third_from (t.legs c.article) c.third (length held) (law.legs_low c.article has) (law.legs_high c.article has) p3.0 in
    elim third [
      | absent k z ↦
          let legs = sym (two_legs c z) in
          record {
            allowed = record {
              article = has;
              legs = ap length (two_legs c z) ∙ sym k;
              positions = subst (ArePositions held) legs (i, (j, tt));
              apart = subst (λ (qs : List ℕ). distinct qs ≡ true) legs (apart_two c.first c.second d1.0);
              granted = granted;
            };
            covered = subst (λ (qs : List ℕ). IsCovered s held ls qs c.sets) legs (enough c.first f1.0, (enough c.second f2.0, tt));
            line = g0.1;
          }
      | present k z p ↦
          let legs = sym (three_legs c z) in
          let last : covers (docket_of t s y) c c.third ≡ true = ⊎_elim (λ w. absurd (z (eqb-true c.third 0 w))) (λ w. w) (or_cases (eqb c.third 0) (covers (docket_of t s y) c c.third) f3.0) in
          record {
            allowed = record {
              article = has;
              legs = ap length (three_legs c z) ∙ sym k;
              positions = subst (ArePositions held) legs (i, (j, (p, tt)));
              apart = subst (λ (qs : List ℕ). distinct qs ≡ true) legs (apart_three c.first c.second c.third d1.0 d2.0);
              granted = granted;
            };
            covered = subst (λ (qs : List ℕ). IsCovered s held ls qs c.sets) legs (enough c.first f1.0, (enough c.second f2.0, (enough c.third last, tt)));
            line = g0.1;
          }
    ]
