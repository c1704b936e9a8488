-- The search finds the first breach.
use Rattle.std.proofs.Common.{◌≡◌, ℕ, ◌<◌, ◌≤◌, Bool, true, false, eqb, ◌⊎◌, List, length, ℤ, pos, ◌<ℤ◌, Some, None, Ok, Err, Option, Result, sym, refl, ap, ◌∙◌, subst, inl, inr, ⊎_elim, arith}
use Rattle.std.specs.Bool.{then_some}
use lib.Signed.{lt_z}
use Rattle.std.proofs.lemmas.Int.{ints}
use Rattle.std.proofs.lemmas.Bool.{cases_eq, cases_lt, cases_order, eq-eqb, ne_eqb, cond-true, cond-false, and_parts, and_from}
use Rattle.rules_positions.specs.declared.record.Record.{Record}
use Rattle.rules_books.specs.declared.BookFault.{BookFault}
use Rattle.rules_books.specs.Tables.{Tables, IsLawful, Has}
use Rattle.certificate_pairing.specs.Pairing.{IsPosition, ArePositions, distinct, answer, answered_parts, requirement, worth}
use Rattle.certificate_fairness.specs.declared.Breach.{Breach}
use Rattle.certificate_fairness.specs.declared.Legs.{Legs}
use Rattle.certificate_fairness.specs.declared.Breach.TheVariants as breach
use Rattle.certificate_fairness.specs.Search.{exceeds, unfair, legs_from, legs_in, set_at, alone_breach, set_breach, third_of_three, third_leg, second_leg, first_leg, first_alone, first_article, first_breach}
use Rattle.certificate_fairness.proofs.Firsts.{Hit, found, none_found, or_none, or_some}
use Rattle.certificate_fairness.specs.First.{IsAloneBreach, IsSetBreach, Breaks, LegNotAfter, NotAfter, IsFirst, SearchFindsFirst}

-- ---- one test

then_some_is : {X : Type 0} (c : Bool) (x b : X) → then_some c x ≡ Some b → (c ≡ true) × (x ≡ b)
then_some_is true x b h = (refl, cc)
then_some_is false x b h = absurd (let w : ⊥ = cc in w)

then_some_none : {X : Type 0} (c : Bool) (x : X) → c ≡ true → then_some c x ≡ None → ⊥
then_some_none true x e h = cc
then_some_none false x e h = cc

over_from : (n : ℕ) (m : ℤ) → lt_z (pos n) m ≡ true → pos n <ℤ m
over_from n m h = grind (arith, ints)

from_over : (n : ℕ) (m : ℤ) → pos n <ℤ m → lt_z (pos n) m ≡ true
from_over n m h = grind (arith, ints)

by_answer : (r : Result ℕ BookFault) (m : ℤ) → exceeds r m ≡ true → (r ≡ Ok (answered_parts r)) × (pos (answered_parts r) <ℤ m)
by_answer (Ok n) m h = (refl, over_from n m h)
by_answer (Err f) m h = absurd (let w : ⊥ = cc in w)

-- the place of what is found is not after any other where f answers
order : {X R : Type 0} {f : ℕ → Option X} {n : ℕ} {b : X} (h : Hit f 1 n b) (y : ℕ) → 1 ≤ y → (f y ≡ None → ⊥) → (h.place ≡ y → R) → (h.place < y) ⊎ ((h.place ≡ y) × R)
order h y low some same =
    ⊎_elim
    (λ e. inr (e, same e))
    (λ r. ⊎_elim inl (λ g. absurd (some (h.before y low g))) r)
    (cases_order h.place y)

module _ (t : Tables) (law : IsLawful t) (s : ℕ) (held : List Record) (ms : List ℤ) where
  -- ---- a position alone, and a set

  alone_some : (p : ℕ) (b : Breach) → IsPosition held p → alone_breach t s held ms p ≡ Some b → (breach.Alone p ≡ b) × IsAloneBreach t s held ms p
  alone_some p b at_p h =
      let w = then_some_is _ (breach.Alone p) b h in
      (w.1, record { position = at_p; over = over_from _ _ w.0 })

  alone_none : (p : ℕ) → IsAloneBreach t s held ms p → alone_breach t s held ms p ≡ None → ⊥
  alone_none p h e = then_some_none _ (breach.Alone p) (from_over _ _ h.over) e

  set_some : (a : ℕ) (l : Legs) (b : Breach) → Has t a → length (legs_in l) ≡ t.legs a → ArePositions held (legs_in l) → set_breach t s held ms a l ≡ Some b → (breach.Set a l ≡ b) × IsSetBreach t s held ms (set_at a l)
  set_some a l b has legs ps h =
      let x = set_at a l in
      let w = then_some_is _ (breach.Set a l) b h in
      let parts = and_parts (distinct x.legs) (unfair t s held ms x) w.0 in
      let asked = by_answer (answer t s held x) (worth s held ms x.legs) parts.1 in
      (w.1, record { allowed = record { article = has; legs = legs; positions = ps; apart = parts.0; granted = asked.0 }; over = asked.1 })

  set_none : (a : ℕ) (l : Legs) → IsSetBreach t s held ms (set_at a l) → set_breach t s held ms a l ≡ None → ⊥
  set_none a l h e =
      let x = set_at a l in
      let allowed = h.allowed in
      then_some_none _ (breach.Set a l)
      (and_from (distinct x.legs) (unfair t s held ms x) allowed.apart
      (ap (λ r. exceeds r (worth s held ms x.legs)) allowed.granted ∙ from_over (requirement t s held x) (worth s held ms x.legs) h.over))
      e

  pub two_legs : (a i j : ℕ) → t.legs a ≡ 2 → third_leg t s held ms a i j ≡ set_breach t s held ms a (legs_from i j None)
  two_legs a i j e = cond-true (eqb (t.legs a) 2) _ _ (eq-eqb (t.legs a) 2 e)

  pub three_legs : (a i j : ℕ) → t.legs a ≡ 3 → third_leg t s held ms a i j ≡ third_of_three t s held ms a i j
  three_legs a i j e = cond-false (eqb (t.legs a) 2) _ _ (ne_eqb (t.legs a) 2 (λ z. omega arith))

  -- ---- a breach is not passed over

  third_none : (a i j : ℕ) (k : Option ℕ) → IsSetBreach t s held ms (set_at a (legs_from i j k)) → third_leg t s held ms a i j ≡ None → ⊥
  third_none a i j None h e = let allowed = h.allowed in set_none a (legs_from i j None) h (sym (two_legs a i j (sym allowed.legs)) ∙ e)
  third_none a i j (Some k) h e =
      let allowed = h.allowed in
      let ps = allowed.positions in
      let p = ps.1.1.0 in
      set_none a (legs_from i j (Some k)) h
      (none_found (λ q. set_breach t s held ms a (legs_from i j (Some q))) 1 (length held) (sym (three_legs a i j (sym allowed.legs)) ∙ e) k p.0 (omega arith))

  second_none : (a : ℕ) (l : Legs) → IsSetBreach t s held ms (set_at a l) → second_leg t s held ms a l.first ≡ None → ⊥
  second_none a l h e =
      let allowed = h.allowed in
      let ps = allowed.positions in
      let p = ps.1.0 in
      third_none a l.first l.second l.third h (none_found (third_leg t s held ms a l.first) 1 (length held) e l.second p.0 (omega arith))

  first_none : (a : ℕ) (l : Legs) → IsSetBreach t s held ms (set_at a l) → first_leg t s held ms a ≡ None → ⊥
  first_none a l h e =
      let allowed = h.allowed in
      let ps = allowed.positions in
      let p = ps.0 in
      second_none a l h (none_found (second_leg t s held ms a) 1 (length held) e l.first p.0 (omega arith))

  alone_passed : (p : ℕ) → IsAloneBreach t s held ms p → first_alone t s held ms ≡ None → ⊥
  alone_passed p h e = let q = h.position in alone_none p h (none_found (alone_breach t s held ms) 1 (length held) e p q.0 (omega arith))

  pub none_breaks : first_breach t s held ms ≡ None → (c : Breach) → Breaks t s held ms c → ⊥
  none_breaks e (breach.Alone p) h = alone_passed p h (or_none _ _ e).0
  none_breaks e (breach.Set a l) h =
      let allowed = h.allowed in
      let has = allowed.article in
      first_none a l h (none_found (first_leg t s held ms) 1 t.articles (or_none _ _ e).1 a has.0 (omega arith))

  -- ---- found alone

  alone_order : (b : Breach) (h : Hit (alone_breach t s held ms) 1 (length held) b) (c : Breach) → Breaks t s held ms c → NotAfter (breach.Alone h.place) c
  alone_order b h (breach.Alone q) k = ⊎_elim (λ l. let p = k.position in absurd (alone_none q k (h.before q p.0 l))) (λ l. l) (cases_lt q h.place)
  alone_order b h (breach.Set a l) k = tt

  alone_first : (b : Breach) → first_alone t s held ms ≡ Some b → IsFirst t s held ms b
  alone_first b e =
      let h = found (alone_breach t s held ms) 1 (length held) b e in
      let high = h.high in
      let w = alone_some h.place b (h.low, omega arith) h.is in
      subst (IsFirst t s held ms) w.0 (record { breaks = w.1; first = alone_order b h })

  -- ---- found in an article

  module _ (b : Breach) (none : first_alone t s held ms ≡ None) (ha : Hit (first_leg t s held ms) 1 t.articles b) (hi : Hit (second_leg t s held ms ha.place) 1 (length held) b) (hj : Hit (third_leg t s held ms ha.place hi.place) 1 (length held) b) where
    set_order : (k : Option ℕ) → ((n : Option ℕ) → IsSetBreach t s held ms (set_at ha.place (legs_from hi.place hj.place n)) → LegNotAfter k n) → (c : Breach) → Breaks t s held ms c → NotAfter (breach.Set ha.place (legs_from hi.place hj.place k)) c
    set_order k last (breach.Alone q) h = alone_passed q h none
    set_order k last (breach.Set d l) h =
        let allowed = h.allowed in
        let has = allowed.article in
        let ps = allowed.positions in
        let one = ps.0 in
        let other = ps.1.0 in
        order ha d has.0 (first_none d l h)
        (λ ea.
        let ka = subst (λ z. IsSetBreach t s held ms (set_at z l)) (sym ea) h in
        order hi l.first one.0 (second_none _ l ka)
        (λ ei.
        let ki = subst (λ z. IsSetBreach t s held ms (set_at ha.place (legs_from z l.second l.third))) (sym ei) ka in
        order hj l.second other.0 (third_none _ _ l.second l.third ki)
        (λ ej. last l.third (subst (λ z. IsSetBreach t s held ms (set_at ha.place (legs_from hi.place z l.third))) (sym ej) ki))))

    has_a : Has t ha.place
    has_a = let high = ha.high in (ha.low, omega arith)

    held_i : IsPosition held hi.place
    held_i = let high = hi.high in (hi.low, omega arith)

    held_j : IsPosition held hj.place
    held_j = let high = hj.high in (hj.low, omega arith)

    two_first : t.legs ha.place ≡ 2 → IsFirst t s held ms b
    two_first n =
        let w = set_some ha.place (legs_from hi.place hj.place None) b has_a (sym n) (held_i, (held_j, tt)) (sym (two_legs _ _ _ n) ∙ hj.is) in
        subst (IsFirst t s held ms) w.0 (record { breaks = w.1; first = set_order None (λ m h. tt) })

    third_order : t.legs ha.place ≡ 3 → (hk : Hit (λ k. set_breach t s held ms ha.place (legs_from hi.place hj.place (Some k))) 1 (length held) b) (n : Option ℕ) → IsSetBreach t s held ms (set_at ha.place (legs_from hi.place hj.place n)) → LegNotAfter (Some hk.place) n
    third_order legs hk None h = let allowed = h.allowed in let two = allowed.legs in omega arith
    third_order legs hk (Some n) h =
        let allowed = h.allowed in
        let ps = allowed.positions in
        let p = ps.1.1.0 in
        ⊎_elim (λ l. absurd (set_none _ (legs_from hi.place hj.place (Some n)) h (hk.before n p.0 l))) (λ l. l) (cases_lt n hk.place)

    three_first : t.legs ha.place ≡ 3 → IsFirst t s held ms b
    three_first n =
        let hk = found (λ k. set_breach t s held ms ha.place (legs_from hi.place hj.place (Some k))) 1 (length held) b (sym (three_legs _ _ _ n) ∙ hj.is) in
        let high = hk.high in
        let w = set_some ha.place (legs_from hi.place hj.place (Some hk.place)) b has_a (sym n) (held_i, (held_j, ((hk.low, omega arith), tt))) hk.is in
        subst (IsFirst t s held ms) w.0 (record { breaks = w.1; first = set_order (Some hk.place) (third_order n hk) })

    set_first : IsFirst t s held ms b
    set_first =
        let low = law.legs_low ha.place has_a in
        let high = law.legs_high ha.place has_a in
        ⊎_elim two_first (λ d. three_first (omega arith)) (cases_eq (t.legs ha.place) 2)

  article_first : (b : Breach) → first_alone t s held ms ≡ None → first_article t s held ms ≡ Some b → IsFirst t s held ms b
  article_first b none e =
      let ha = found (first_leg t s held ms) 1 t.articles b e in
      let hi = found (second_leg t s held ms ha.place) 1 (length held) b ha.is in
      let hj = found (third_leg t s held ms ha.place hi.place) 1 (length held) b hi.is in
      set_first b none ha hi hj

pub search_finds_first : SearchFindsFirst
search_finds_first t law s held ms b e =
    ⊎_elim
    (λ h. alone_first t law s held ms b h)
    (λ h. article_first t law s held ms b h.0 h.1)
    (or_some (first_alone t s held ms) (first_article t s held ms) b e)
