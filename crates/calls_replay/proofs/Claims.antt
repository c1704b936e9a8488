-- A claim claimed again, after the claims before it.
use Rattle.std.proofs.Common.{◌≡◌, ℕ, zero, suc, ◌+◌, ◌-◌, ◌*◌, ◌<◌, ◌≤◌, true, not, ◌||◌, eqb, leb, List, [], ◌∷◌, ◌++◌, length, replicate, Ok, Option, sym, refl, ap, ◌∙◌, subst, ⊎_elim, mul-le-mul, arith, length-append}
use Rattle.std.proofs.lemmas.Bool.Decides.{nat_tests}
use Rattle.std.proofs.lemmas.Bool.{cases_eq, eqb-true, eq-eqb, ne_eqb, le-leb, lt-ltb, cond-true, cond-false, and_from, or_cases, or_left, or_right}
use Rattle.rules_books.specs.Ranges.{inside}
use Rattle.rules_positions.specs.declared.record.Record.{Record}
use Rattle.rules_books.specs.Tables.{Tables, IsLawful}
use Rattle.certificate_pairing.specs.declared.Claim.{Claim}
use Rattle.certificate_pairing.specs.Pairing.{Set, IsPosition, ArePositions, at, answer, among, distinct, IsAllowed, lot, takes, AllAllowed}
use Rattle.certificate_pairing.specs.Claims.{legs_of, set_of, taken, ClaimsAllowed, IsSound, pairing_of}
use Rattle.certificate_pairing.specs.Dockets.{Tally, holding, docket_of}
use Rattle.calls_docket.specs.Calls.{good, third_ok, book_ok, covers, claim_judged, claim_reply, tally_claimed, claims_with}
use Rattle.calls_serve.specs.Laws.{Holds}
use Rattle.calls_serve.proofs.Passed.{two_legs, three_legs}
use Rattle.calls_replay.specs.Replay.{ClaimsAgain}
use Rattle.calls_replay.proofs.Lines.{Lines, fresh, sets_there, Standing}

-- ---- what the claims take

takes_leg : (s : ℕ) (held : List Record) (qs : List ℕ) (p : ℕ) → among p qs ≡ true → lot s held p ≤ takes s held qs p
takes_leg s held [] p h = cc
takes_leg s held (q ∷ qs) p h =
    ⊎_elim
    (λ e.
    let same = eqb-true p q e in
    let here = cond-true (eqb q p) (lot s held q) 0 (eq-eqb q p (sym same)) in
    let lots = ap (lot s held) same in
    omega arith)
    (λ e. let rest = takes_leg s held qs p e in omega arith)
    (or_cases (eqb p q) (among p qs) h)

taken_there : (s : ℕ) (held : List Record) (before : List Claim) (c : Claim) (others : List Claim) (p : ℕ) → taken s held before p + c.sets * takes s held (legs_of c) p ≤ taken s held (before ++ (c ∷ others)) p
taken_there s held [] c others p = omega arith
taken_there s held (b ∷ before) c others p = let rest = taken_there s held before c others p in omega arith

allowed_there : (t : Tables) (s : ℕ) (held : List Record) (before : List Claim) (c : Claim) (others : List Claim) → ClaimsAllowed t s held (before ++ (c ∷ others)) → IsAllowed t s held (set_of c)
allowed_there t s held [] c others h = h.0
allowed_there t s held (b ∷ before) c others h = allowed_there t s held before c others h.1

-- ---- claims whose sets are a lawful pairing are sound

module _ (t : Tables) (s : ℕ) (held : List Record) where
  after_many : (n : ℕ) (x : Set) (xs : List Set) → AllAllowed t s held (replicate n x ++ xs) → AllAllowed t s held xs
  after_many zero x xs h = h
  after_many (suc n) x xs h = after_many n x xs h.1

  one_of_many : (n : ℕ) (x : Set) (xs : List Set) → 1 ≤ n → AllAllowed t s held (replicate n x ++ xs) → IsAllowed t s held x
  one_of_many zero x xs k h = absurd (let w : ⊥ = omega arith in w)
  one_of_many (suc n) x xs k h = h.0

  lines_allowed : (ls : List Claim) → Lines ls → AllAllowed t s held (pairing_of ls) → ClaimsAllowed t s held ls
  lines_allowed [] k h = tt
  lines_allowed (l ∷ ls) k h = (one_of_many l.sets (set_of l) (pairing_of ls) k.0.0 h, lines_allowed ls k.2 (after_many l.sets (set_of l) (pairing_of ls) h))

pub sound : (t : Tables) (s : ℕ) (y : Tally) → Lines y.claims → Holds (docket_of t s y) → IsSound (docket_of t s y)
sound t s y k h = record {
  allowed = lines_allowed t s y.held y.claims k h.standing.allowed;
  fits = λ p at_p. omega (arith, (h.balanced p at_p).balance);
}

-- ---- a reply, put together

in_range_lem : (n p : ℕ) → (1 ≤ p) × (p ≤ n) → inside 1 n p ≡ true
in_range_lem n p h = and_from (leb 1 p) (leb p n) (le-leb 1 p h.0) (le-leb p n h.1)

-- what the legs of a claim keep to
record Legs (count legs : ℕ) (c : Claim) : Type 0 where
  first : (1 ≤ c.first) × (c.first ≤ count)
  second : (1 ≤ c.second) × (c.second ≤ count)
  third : c.third ≤ count
  needed : third_ok count legs c.third ≡ true
  apart : not (eqb c.second c.first) ≡ true
  others : not (eqb c.third c.first || eqb c.third c.second) ≡ true
  one : among c.first (legs_of c) ≡ true
  two : among c.second (legs_of c) ≡ true
  three : (c.third ≡ 0 → ⊥) → among c.third (legs_of c) ≡ true

legs_two : (i j k : ℕ) → k ≡ 0 → 1 ≤ i → 1 ≤ j → not (eqb k i || eqb k j) ≡ true
legs_two i j k e p q = grind (arith, nat_tests)

apart_two : (i j : ℕ) → distinct (i ∷ j ∷ []) ≡ true → not (eqb j i) ≡ true
apart_two i j h = grind (arith, nat_tests)

apart_three : (i j k : ℕ) → distinct (i ∷ j ∷ k ∷ []) ≡ true → (not (eqb j i) ≡ true) × (not (eqb k i || eqb k j) ≡ true)
apart_three i j k h = (grind (arith, nat_tests), grind (arith, nat_tests))

legs : (t : Tables) (s : ℕ) (held : List Record) (c : Claim) → IsAllowed t s held (set_of c) → Legs (length held) (t.legs c.article) c
legs t s held c h =
    let n = length held in
    let k = t.legs c.article in
    ⊎_elim
    (λ e.
    let is = two_legs c e in
    let ps = subst (ArePositions held) is h.positions in
    let many : k ≡ 2 = sym h.legs ∙ ap length is in
    record {
      first = ps.0;
      second = ps.1.0;
      third = omega arith;
      needed = cond-true (eqb k 2) (eqb c.third 0) (inside 1 n c.third) (eq-eqb k 2 many) ∙ eq-eqb c.third 0 e;
      apart = apart_two c.first c.second (subst (λ (qs : List ℕ). distinct qs ≡ true) is h.apart);
      others = legs_two c.first c.second c.third e ps.0.0 ps.1.0.0;
      one = ap (among c.first) is ∙ or_left (eqb c.first c.first) _ (eq-eqb c.first c.first refl);
      two = ap (among c.second) is ∙ or_right (eqb c.second c.first) _ (or_left (eqb c.second c.second) _ (eq-eqb c.second c.second refl));
      three = λ z. absurd (z e);
    })
    (λ d.
    let is = three_legs c d in
    let ps = subst (ArePositions held) is h.positions in
    let many : k ≡ 3 = sym h.legs ∙ ap length is in
    let two : k ≡ 2 → ⊥ = λ z. omega arith in
    let apart = apart_three c.first c.second c.third (subst (λ (qs : List ℕ). distinct qs ≡ true) is h.apart) in
    record {
      first = ps.0;
      second = ps.1.0;
      third = ps.1.1.0.1;
      needed = cond-false (eqb k 2) (eqb c.third 0) (inside 1 n c.third) (ne_eqb k 2 two) ∙ in_range_lem n c.third ps.1.1.0;
      apart = apart.0;
      others = apart.1;
      one = ap (among c.first) is ∙ or_left (eqb c.first c.first) _ (eq-eqb c.first c.first refl);
      two = ap (among c.second) is ∙ or_right (eqb c.second c.first) _ (or_left (eqb c.second c.second) _ (eq-eqb c.second c.second refl));
      three = λ z. ap (among c.third) is ∙ or_right (eqb c.third c.first) _ (or_right (eqb c.third c.second) _ (or_left (eqb c.third c.third) _ (eq-eqb c.third c.third refl)));
    })
    (cases_eq c.third 0)

module _ (t : Tables) (law : IsLawful t) (s : ℕ) (held : List Record) (before : List Claim) (c : Claim) (others : List Claim) where
  abbrev y : Tally
  y = holding held before

  enough : IsSound (docket_of t s (holding held (before ++ (c ∷ others)))) → (p : ℕ) → IsPosition held p → among p (legs_of c) ≡ true → covers (docket_of t s y) c p ≡ true
  enough h p at_p leg =
      let fit = h.fits p at_p in
      let part = taken_there s held before c others p in
      let one = takes_leg s held (legs_of c) p leg in
      let same : c.sets ≤ c.sets = omega arith in
      let all : c.sets * lot s held p ≤ c.sets * takes s held (legs_of c) p = mul-le-mul same one in
      le-leb (c.sets * lot s held p) ((at held p).quantity - taken s held before p) (omega arith)

  judged : IsSound (docket_of t s (holding held (before ++ (c ∷ others)))) → Lines (before ++ (c ∷ others)) → claim_judged (docket_of t s y) c ≡ good
  judged h k =
      let a = allowed_there t s held before c others h.allowed in
      let l = legs t s held c a in
      let last : (eqb c.third 0 || covers (docket_of t s y) c c.third) ≡ true =
      ⊎_elim
      (λ e. or_left (eqb c.third 0) (covers (docket_of t s y) c c.third) (eq-eqb c.third 0 e))
      (λ d. or_right (eqb c.third 0) (covers (docket_of t s y) c c.third) (enough h c.third (omega arith, l.third) (l.three d)))
      (cases_eq c.third 0) in
      let article = in_range_lem t.articles c.article a.article in
      let sets = in_range_lem 5000 c.sets (sets_there before c others k) in
      let first = in_range_lem (length held) c.first l.first in
      let second = in_range_lem (length held) c.second l.second in
      let passed : book_ok (answer t s held (set_of c)) ≡ good = ap book_ok a.granted in
      let one = enough h c.first l.first l.one in
      let two = enough h c.second l.second l.two in
      simp (article, sets, first, second, l.needed, l.apart, l.others, passed, one, two, last)

  pub claims_again : IsSound (docket_of t s (holding held (before ++ (c ∷ others)))) → Standing (before ++ (c ∷ others)) → length held ≤ 32 → ClaimsAgain t s held before c
  claims_again h k few =
      let a = allowed_there t s held before c others h.allowed in
      let l = legs t s held c a in
      let none = fresh before c others k.lines in
      let room : length before < 64 = omega (arith, k.few, length-append before (c ∷ others)) in
      let sets = sets_there before c others k.lines in
      let good_claim = judged h k.lines in
      let few_lines = lt-ltb (length before) 64 room in
      let reply : claim_reply (docket_of t s y) c ≡ Ok c.sets = simp (good_claim, none, few_lines) in
      record {
        fresh = none;
        granted = reply;
        after = ap (tally_claimed y c) reply ∙ ap (λ (o : Option ℕ). holding held (claims_with before o c c.sets)) none;
        article = omega (arith, a.article, law.few_articles);
        first = omega (arith, l.first);
        second = omega (arith, l.second);
        third = omega (arith, l.third);
        sets = omega arith;
      }
