-- Sound claims stay sound.
use Rattle.std.proofs.Common.{◌≡◌, ℕ, zero, suc, ◌+◌, ◌-◌, ◌*◌, ◌<◌, ◌≤◌, true, false, cond, not, eqb, List, [], ◌∷◌, ◌++◌, map, length, get_or, take, drop, set, sum_by, Ok, Result, sym, refl, ap, ◌∙◌, subst, ⊎_elim, le_of_suc-le-suc, not-suc-le-zero, add-mul, mul-le-mul, mul-zero, add-one, arith}
use Rattle.std.proofs.lemmas.List.{length_push, get_or_append_left}
use Rattle.std.proofs.lemmas.List.Sums.{sum_by_push, sum_by-set}
use Rattle.std.proofs.lemmas.List.Recursion.{is_sum_by}
use Rattle.std.proofs.lemmas.Bool.{cases_eq, cases_Bool, cases_lt, eq-eqb, ne_eqb, eqb-true, cond-true, cond-false, and_parts, or_parts, or_cases, not-true}
use Rattle.rules_positions.specs.declared.record.Record.{Record}
use Rattle.rules_books.specs.declared.BookFault.{BookFault}
use Rattle.rules_books.specs.Tables.{Tables}
use Rattle.certificate_pairing.specs.declared.Claim.{Claim}
use Rattle.certificate_pairing.specs.Pairing.{no_record, IsPosition, ArePositions, at, Set, among, distinct, answer, answered_parts, IsAllowed, of_leg, lot, takes}
use Rattle.certificate_pairing.specs.Claims.{legs_of, set_of, taken, ClaimsAllowed, IsSound}
use Rattle.certificate_pairing.specs.Kept.{no_claim, with_sets, IsCovered, CallsKeepSound}
use Rattle.certificate_pairing.specs.Dockets.{holding, docket_of}

-- ---- what legs take of a position: one lot where it is among them, else nothing

takes_none : (s : ℕ) (held : List Record) (qs : List ℕ) (p : ℕ) → among p qs ≡ false → takes s held qs p ≡ 0
takes_none s held [] p h = refl
takes_none s held (q ∷ qs) p h =
    let parts = or_parts (eqb p q) (among p qs) h in
    let other : eqb q p ≡ false = ne_eqb q p (λ e. let z = eq-eqb p q (sym e) in let f = parts.0 in grind arith) in
    let here = cond-false (eqb q p) (lot s held q) 0 other in
    let rest = takes_none s held qs p parts.1 in
    omega arith

takes_one : (s : ℕ) (held : List Record) (qs : List ℕ) (p : ℕ) → distinct qs ≡ true → among p qs ≡ true → takes s held qs p ≡ lot s held p
takes_one s held [] p d h = cc
takes_one s held (q ∷ qs) p d h =
    let apart = and_parts (not (among q qs)) (distinct qs) d in
    let alone = not-true (among q qs) apart.0 in
    ⊎_elim
    (λ e.
    let here = cond-true (eqb q p) (lot s held q) 0 (eq-eqb q p e) in
    let rest = takes_none s held qs p (subst (λ (k : ℕ). among k qs ≡ false) e alone) in
    let same = ap (lot s held) e in
    omega arith)
    (λ d'.
    let here = cond-false (eqb q p) (lot s held q) 0 (ne_eqb q p d') in
    let in_rest : among p qs ≡ true = ⊎_elim (λ z. absurd (d' (sym (eqb-true p q z)))) (λ z. z) (or_cases (eqb p q) (among p qs) h) in
    let rest = takes_one s held qs p apart.1 in_rest in
    omega arith)
    (cases_eq q p)

covered_at : (s : ℕ) (held : List Record) (ls : List Claim) (qs : List ℕ) (n p : ℕ) → IsCovered s held ls qs n → among p qs ≡ true → n * lot s held p ≤ (at held p).quantity - taken s held ls p
covered_at s held ls [] n p c h = cc
covered_at s held ls (q ∷ qs) n p c h =
    ⊎_elim
    (λ z. subst (λ (k : ℕ). n * lot s held k ≤ (at held k).quantity - taken s held ls k) (sym (eqb-true p q z)) c.0)
    (λ z. covered_at s held ls qs n p c.1 z)
    (or_cases (eqb p q) (among p qs) h)

-- n sets more of distinct legs that are free
fits_more : (s : ℕ) (held : List Record) (ls : List Claim) (qs : List ℕ) (n p : ℕ) → distinct qs ≡ true → IsCovered s held ls qs n → taken s held ls p ≤ (at held p).quantity → taken s held ls p + n * takes s held qs p ≤ (at held p).quantity
fits_more s held ls qs n p d c h =
    ⊎_elim
    (λ z.
    let free = covered_at s held ls qs n p c z in
    let same = ap (λ (k : ℕ). n * k) (takes_one s held qs p d z) in
    omega arith)
    (λ z.
    let none = ap (λ (k : ℕ). n * k) (takes_none s held qs p z) ∙ mul-zero n in
    omega arith)
    (cases_Bool (among p qs))

-- ---- lists of claims

module _ (s : ℕ) (held : List Record) (p : ℕ) where
  -- what a claim takes
  abbrev line : Claim → ℕ
  line l = l.sets * takes s held (legs_of l) p

  sums : (ls : List Claim) → taken s held ls p ≡ sum_by line ls
  sums ls = is_sum_by (λ (ks : List Claim). taken s held ks p) line refl (λ _ _. refl) ls

  taken_push : (ls : List Claim) (l : Claim) → taken s held (ls ++ (l ∷ [])) p ≡ taken s held ls p + line l
  taken_push ls l = omega (arith, sums ls, sums (ls ++ (l ∷ [])), sum_by_push line ls l)

  -- a claim with other sets
  taken_set : (ls : List Claim) (i n : ℕ) → i < length ls → taken s held (set ls i (with_sets (get_or ls i no_claim) n)) p + line (get_or ls i no_claim) ≡ taken s held ls p + n * takes s held (legs_of (get_or ls i no_claim)) p
  taken_set ls i n h =
      let other = with_sets (get_or ls i no_claim) n in
      omega (arith, sums ls, sums (set ls i other), sum_by-set line ls i other no_claim h)

  taken_less : (ls : List Claim) (i : ℕ) → taken s held (take i ls ++ drop (suc i) ls) p ≤ taken s held ls p
  taken_less [] zero = omega arith
  taken_less [] (suc i) = omega arith
  taken_less (l ∷ ls) zero = omega arith
  taken_less (l ∷ ls) (suc i) = let rest = taken_less ls i in omega arith

module _ (t : Tables) (s : ℕ) (held : List Record) where
  allowed_push : (ls : List Claim) (l : Claim) → ClaimsAllowed t s held ls → IsAllowed t s held (set_of l) → ClaimsAllowed t s held (ls ++ (l ∷ []))
  allowed_push [] l h k = (k, tt)
  allowed_push (x ∷ ls) l h k = (h.0, allowed_push ls l h.1 k)

  allowed_at : (ls : List Claim) (i : ℕ) → i < length ls → ClaimsAllowed t s held ls → IsAllowed t s held (set_of (get_or ls i no_claim))
  allowed_at [] i h k = absurd (not-suc-le-zero h)
  allowed_at (x ∷ ls) zero h k = k.0
  allowed_at (x ∷ ls) (suc i) h k = allowed_at ls i (le_of_suc-le-suc h) k.1

  allowed_set : (ls : List Claim) (i n : ℕ) → ClaimsAllowed t s held ls → ClaimsAllowed t s held (set ls i (with_sets (get_or ls i no_claim) n))
  allowed_set [] i n h = tt
  allowed_set (x ∷ ls) zero n h = (h.0, h.1)
  allowed_set (x ∷ ls) (suc i) n h = (h.0, allowed_set ls i n h.1)

  allowed_less : (ls : List Claim) (i : ℕ) → ClaimsAllowed t s held ls → ClaimsAllowed t s held (take i ls ++ drop (suc i) ls)
  allowed_less [] zero h = tt
  allowed_less [] (suc i) h = tt
  allowed_less (x ∷ ls) zero h = h.1
  allowed_less (x ∷ ls) (suc i) h = (h.0, allowed_less ls i h.1)

-- ---- a position more

module _ (t : Tables) (s : ℕ) (held : List Record) (r : Record) where
  abbrev more : List Record
  more = held ++ (r ∷ [])

  at_more : (p : ℕ) → IsPosition held p → at more p ≡ at held p
  at_more p h = get_or_append_left held (r ∷ []) no_record (p - 1) (omega arith)

  records_more : (qs : List ℕ) → ArePositions held qs → map (at more) qs ≡ map (at held) qs
  records_more [] h = refl
  records_more (q ∷ qs) h = let here = at_more q h.0 in let rest = records_more qs h.1 in cc

  positions_more : (qs : List ℕ) → ArePositions held qs → ArePositions more qs
  positions_more [] h = tt
  positions_more (q ∷ qs) h = let n = length_push held r in let a = h.0 in ((omega arith, omega arith), positions_more qs h.1)

  takes_more : (qs : List ℕ) (p : ℕ) → ArePositions held qs → takes s more qs p ≡ takes s held qs p
  takes_more [] p h = refl
  takes_more (q ∷ qs) p h =
      let rest = takes_more qs p h.1 in
      let here = ap (λ (x : Record). cond (eqb q p) (of_leg s x.kind) 0) (at_more q h.0) in
      omega arith

  takes_new : (qs : List ℕ) (p : ℕ) → ArePositions held qs → length held < p → takes s held qs p ≡ 0
  takes_new [] p h k = refl
  takes_new (q ∷ qs) p h k =
      let a = h.0 in
      let here = cond-false (eqb q p) (lot s held q) 0 (ne_eqb q p (λ e. omega arith)) in
      let rest = takes_new qs p h.1 k in
      omega arith

  allowed_more : (x : Set) → IsAllowed t s held x → IsAllowed t s more x
  allowed_more x h =
      let same : answer t s more x ≡ answer t s held x = ap (t.paired s x.article) (records_more x.legs h.positions) in
      record {
        article = h.article;
        legs = h.legs;
        positions = positions_more x.legs h.positions;
        apart = h.apart;
        granted = same ∙ h.granted ∙ ap (λ (a : Result ℕ BookFault). Ok (answered_parts a)) (sym same);
      }

  lines_more : (ls : List Claim) → ClaimsAllowed t s held ls → ClaimsAllowed t s more ls
  lines_more [] h = tt
  lines_more (l ∷ ls) h = (allowed_more (set_of l) h.0, lines_more ls h.1)

  taken_more : (ls : List Claim) (p : ℕ) → ClaimsAllowed t s held ls → taken s more ls p ≡ taken s held ls p
  taken_more [] p h = refl
  taken_more (l ∷ ls) p h =
      let here = ap (λ (n : ℕ). l.sets * n) (takes_more (legs_of l) p h.0.positions) in
      let rest = taken_more ls p h.1 in
      omega arith

  taken_new : (ls : List Claim) (p : ℕ) → ClaimsAllowed t s held ls → length held < p → taken s held ls p ≡ 0
  taken_new [] p h k = refl
  taken_new (l ∷ ls) p h k =
      let here = ap (λ (n : ℕ). l.sets * n) (takes_new (legs_of l) p h.0.positions k) ∙ mul-zero l.sets in
      let rest = taken_new ls p h.1 k in
      omega arith

  enters : (ls : List Claim) → IsSound (docket_of t s (holding held ls)) → IsSound (docket_of t s (holding more ls))
  enters ls h = record {
    allowed = lines_more ls h.allowed;
    fits = λ p at_p.
        let same = taken_more ls p h.allowed in
        ⊎_elim
        (λ k. let none = taken_new ls p h.allowed k in omega arith)
        (λ k.
        let was = h.fits p (at_p.0, k) in
        let quantity = ap (λ (x : Record). x.quantity) (at_more p (at_p.0, k)) in
        omega arith)
        (cases_lt (length held) p);
  }

pub sound_kept : CallsKeepSound
sound_kept t s = record {
  opened = record { allowed = tt; fits = λ p h. omega arith };
  enters = λ held ls r h. enters t s held r ls h;
  claims = λ held ls l h a c. record {
    allowed = allowed_push t s held ls l h.allowed a;
    fits = λ p at_p. let sum = taken_push s held p ls l in let fit = fits_more s held ls (legs_of l) l.sets p a.apart c (h.fits p at_p) in omega arith;
  };
  adds = λ held ls i n lt h c. record {
    allowed = allowed_set t s held ls i ((get_or ls i no_claim).sets + n) h.allowed;
    fits = λ p at_p.
        let legs = legs_of (get_or ls i no_claim) in
        let sum = taken_set s held p ls i ((get_or ls i no_claim).sets + n) lt in
        let parts = add-mul (get_or ls i no_claim).sets n (takes s held legs p) in
        let fit = fits_more s held ls legs n p (allowed_at t s held ls i lt h.allowed).apart c (h.fits p at_p) in
        omega arith;
  };
  releases = λ held ls i n lt few h. record {
    allowed = allowed_set t s held ls i n h.allowed;
    fits = λ p at_p.
        let u = takes s held (legs_of (get_or ls i no_claim)) p in
        let sum = taken_set s held p ls i n lt in
        let same : u ≤ u = omega arith in
        let less : n * u ≤ (get_or ls i no_claim).sets * u = mul-le-mul few same in
        let was = h.fits p at_p in
        omega arith;
  };
  removes = λ held ls i h. subst (λ (k : ℕ). IsSound (docket_of t s (holding held (take i ls ++ drop k ls)))) (sym (add-one i)) (record {
    allowed = allowed_less t s held ls i h.allowed;
    fits = λ p at_p. let less = taken_less s held p ls i in let was = h.fits p at_p in omega arith;
  });
}
