-- Certify is granted exactly when the marks are fair, and its figures then bound every pairing.
use Rattle.std.proofs.Common.{◌≡◌, ℕ, ◌+◌, Bool, true, false, cond, ◌&&◌, eqb, leb, List, [], ◌∷◌, length, ℤ, pos, neg_ℤ, Some, None, Ok, Err, Option, unwrap_or, sym, refl, ap, ◌∙◌, subst, arith}
use lib.Signed.{lt_z}
use Rattle.std.proofs.lemmas.Int.{ints}
use Rattle.std.proofs.lemmas.Bool.{eq-eqb, eqb-true, le-leb, and_from, or_parts, or_from, cond-true}
use Rattle.rules_positions.specs.declared.record.Record.{Record}
use Rattle.rules_books.specs.Tables.{Tables, IsLawful}
use Rattle.certificate_pairing.specs.declared.Claim.{Claim}
use Rattle.certificate_pairing.specs.Sums.{sum_n}
use Rattle.certificate_pairing.specs.Pairing.{at, mark, limit, IsWithin, floor}
use Rattle.certificate_pairing.specs.Dockets.{Docket}
use Rattle.certificate_pairing.specs.Claims.{legs_of, set_of, required_by, ClaimsAllowed, answer_in, requirement_in, AllowedIn, FairIn, IsSound, total, CertificateShows}
use Rattle.certificate_pairing.proofs.Standing.{shown}
use Rattle.certificate_fairness.specs.declared.Breach.{Breach}
use Rattle.certificate_fairness.specs.Search.{first_breach, AreWithinLimits}
use Rattle.certificate_fairness.proofs.Firsts.{none_found, none_anywhere}
use Rattle.certificate_fairness.specs.First.{IsFirst}
use Rattle.certificate_fairness.proofs.Least.{search_finds_first}
use Rattle.certificate_fairness.proofs.Fairness.{none_exactly_if_fair}
use Rattle.certificate_certify.specs.declared.Certificate.{Certificate}
use Rattle.certificate_certify.specs.declared.CertifyFault.{CertifyFault}
use Rattle.certificate_certify.specs.declared.CertifyFault.TheVariants.{NotOneEach, Unfair}
use Rattle.std.specs.Result.{result_ok}
use Rattle.certificate_certify.specs.Totals.{known, claim_requirement, set_amount, claims_amount, free_amount, computed_total}
use Rattle.certificate_certify.specs.Certified.{CertifyReply, beyond, beyond_at, first_beyond, unless_beyond, unless_unfair, certify_reply, Certifies}

-- ---- limits

cond_none : (b : Bool) (p : ℕ) → cond b (Some p) None ≡ None → b ≡ false
cond_none true p h = cc
cond_none false p h = refl

none_cond : (b : Bool) (p : ℕ) → b ≡ false → cond b (Some p) None ≡ None
none_cond b p h = ap (λ (c : Bool). cond c (Some p) None) h

within_from : (m : ℤ) (n : ℕ) → beyond m n ≡ false → IsWithin m n
within_from m n h =
    let parts = or_parts (lt_z (pos n) m) (lt_z m (neg_ℤ (pos n))) h in
    let high = parts.0 in
    let low = parts.1 in
    (grind (arith, ints), grind (arith, ints))

not_beyond : (m : ℤ) (n : ℕ) → IsWithin m n → beyond m n ≡ false
not_beyond m n h =
    let low = h.0 in
    let high = h.1 in
    or_from (lt_z (pos n) m) (lt_z m (neg_ℤ (pos n))) (grind (arith, ints)) (grind (arith, ints))

pub limited_from : (held : List Record) (ms : List ℤ) → first_beyond held ms ≡ None → AreWithinLimits held ms
limited_from held ms e p at_p = within_from (mark ms p) (limit (at held p).kind) (cond_none _ p (none_found (beyond_at held ms) 1 (length held) e p at_p.0 (omega arith)))

none_beyond : (held : List Record) (ms : List ℤ) → AreWithinLimits held ms → first_beyond held ms ≡ None
none_beyond held ms h = none_anywhere (beyond_at held ms) 1 (length held) (λ p low high. none_cond _ p (not_beyond (mark ms p) (limit (at held p).kind) (h p (low, omega arith))))

-- ---- the total

known_if : (d : Docket Tables) (l : Claim) → AllowedIn d (set_of l) → known d.book l ≡ true
known_if d l h =
    let t = d.book in
    let has = h.article in
    and_from (leb 1 l.article && leb l.article t.articles) (eqb (length (legs_of l)) (t.legs l.article))
    (and_from (leb 1 l.article) (leb l.article t.articles) (le-leb 1 l.article has.0) (le-leb l.article t.articles has.1))
    (eq-eqb (length (legs_of l)) (t.legs l.article) h.legs)

-- a set that is allowed has its requirement
pub required_if : (d : Docket Tables) (l : Claim) → AllowedIn d (set_of l) → claim_requirement d l ≡ Some (requirement_in d (set_of l))
required_if d l h = cond-true (known d.book l) (result_ok (answer_in d (set_of l))) None (known_if d l h) ∙ ap result_ok h.granted

claims_same : (d : Docket Tables) (ls : List Claim) → ClaimsAllowed d.book d.size d.tally.held ls → claims_amount d ls ≡ required_by d.book d.size d.tally.held ls
claims_same d [] h = refl
claims_same d (l ∷ ls) h =
    let here : set_amount d l ≡ requirement_in d (set_of l) = ap (λ (o : Option ℕ). unwrap_or o 0) (required_if d l h.0) in
    let rest = claims_same d ls h.1 in
    cc

pub total_same : (d : Docket Tables) → IsSound d → computed_total d ≡ total d
total_same d h = ap (λ (n : ℕ). n + sum_n (length d.tally.held) (free_amount d)) (claims_same d d.tally.claims h.allowed)

-- ---- the reply, taken apart

record One (b : Bool) (r : CertifyReply) (c : Certificate) : Type 0 where
  test : b ≡ true
  rest : r ≡ Ok c

passed : (b : Bool) (r : CertifyReply) (e : CertifyFault) (c : Certificate) → cond b r (Err e) ≡ Ok c → One b r c
passed true r e c h = record { test = refl; rest = h }
passed false r e c h = cc

in_limit : (o : Option ℕ) (r : CertifyReply) (c : Certificate) → unless_beyond o r ≡ Ok c → (o ≡ None) × (r ≡ Ok c)
in_limit (Some p) r c h = cc
in_limit None r c h = (refl, h)

in_fairness : (o : Option Breach) (r : CertifyReply) (c : Certificate) → unless_unfair o r ≡ Ok c → (o ≡ None) × (r ≡ Ok c)
in_fairness (Some b) r c h = cc
in_fairness None r c h = (refl, h)

past_marks : (x : Bool) (r : CertifyReply) (m n : ℕ) (b : Breach) → cond x r (Err (NotOneEach m n)) ≡ Err (Unfair b) → r ≡ Err (Unfair b)
past_marks true r m n b h = h
past_marks false r m n b h = cc

past_limits : (o : Option ℕ) (r : CertifyReply) (b : Breach) → unless_beyond o r ≡ Err (Unfair b) → r ≡ Err (Unfair b)
past_limits (Some p) r b h = cc
past_limits None r b h = h

breach_in : (o : Option Breach) (c : Certificate) (b : Breach) → unless_unfair o (Ok c) ≡ Err (Unfair b) → o ≡ Some b
breach_in (Some x) c b h = cc
breach_in None c b h = cc

same_certificate : (a b : Certificate) → ◌≡◌ {A = CertifyReply} (Ok a) (Ok b) → a ≡ b
same_certificate a b h = cc

module _ (d : Docket Tables) (lawful : IsLawful d.book) (ms : List ℤ) (sound : IsSound d) where
  abbrev held : List Record
  held = d.tally.held

  abbrev breach : Option Breach
  breach = first_breach d.book d.size held ms

  abbrev figures : ℕ → Certificate
  figures n = record { total = n; floor = floor held ms }

  granted_if : FairIn d ms → certify_reply d ms ≡ Ok (figures (total d))
  granted_if fair =
      let fine = (none_exactly_if_fair d.book lawful d.size held ms fair.each fair.within breach refl).1 fair in
      cond-true (eqb (length ms) (length held)) _ (Err (NotOneEach (length ms) (length held))) (eq-eqb (length ms) (length held) fair.each)
      ∙ ap (λ (o : Option ℕ). unless_beyond o (unless_unfair breach (Ok (figures (computed_total d))))) (none_beyond held ms fair.within)
      ∙ ap (λ (o : Option Breach). unless_unfair o (Ok (figures (computed_total d)))) fine
      ∙ ap (λ (n : ℕ). Ok (figures n)) (total_same d sound)

  shown_by : (c : Certificate) → certify_reply d ms ≡ Ok c → CertificateShows d ms c.total c.floor
  shown_by c e =
      let one = passed (eqb (length ms) (length held)) _ _ c e in
      let two = in_limit (first_beyond held ms) _ c one.rest in
      let three = in_fairness breach _ c two.1 in
      let fair = (none_exactly_if_fair d.book lawful d.size held ms (eqb-true (length ms) (length held) one.test) (limited_from held ms two.0) breach refl).0 three.0 in
      let is : figures (total d) ≡ c = ap figures (sym (total_same d sound)) ∙ same_certificate (figures (computed_total d)) c three.1 in
      subst (λ (k : Certificate). CertificateShows d ms k.total k.floor) is (shown d ms sound fair)

  unfair_by : (b : Breach) → certify_reply d ms ≡ Err (Unfair b) → IsFirst d.book d.size held ms b
  unfair_by b e =
      search_finds_first d.book lawful d.size held ms b
      (breach_in breach (figures (computed_total d)) b
      (past_limits (first_beyond held ms) _ b
      (past_marks (eqb (length ms) (length held)) _ (length ms) (length held) b e)))

  pub certified : (r : CertifyReply) → r ≡ certify_reply d ms → Certifies d ms r
  certified r e = record { granted = λ fair. e ∙ granted_if fair; shown = λ c z. shown_by c (sym e ∙ z); unfair = λ b z. unfair_by b (sym e ∙ z) }
