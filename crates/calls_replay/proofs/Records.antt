-- The entry that made a record is the one that makes it again.
use Rattle.std.proofs.Common.{◌≡◌, ℕ, ◌≤◌, Bool, true, false, cond, Some, None, Ok, Err, Option, Result, refl, ap, ◌∙◌, arith}
use Rattle.std.proofs.lemmas.Bool.Decides.{nat_tests}
use Rattle.std.proofs.lemmas.Option.{cond_some}
use Rattle.rules_positions.specs.declared.Side.{Side}
use Rattle.rules_positions.specs.declared.Side.TheVariants.{Long, Short}
use Rattle.rules_positions.specs.declared.Kind.{Kind}
use Rattle.rules_positions.specs.declared.Kind.TheVariants.{Units, Call, Put, Futures, Receipt}
use Rattle.rules_positions.specs.declared.Entry.{Entry}
use Rattle.rules_positions.specs.declared.RecordFault.{RecordFault}
use Rattle.rules_positions.specs.declared.record.Record.{Record}
use Rattle.rules_positions.specs.Letters.{side_of, kind_of, side_letter, kind_letter, sided, on_side, kind_for}
use Rattle.rules_positions.specs.Ranges.{holds, strike_range, day_range, price_range, quantity_range, in_range}
use Rattle.rules_positions.specs.Records.{decide, judged, ranged, kinds_of, sides_of, record_of}
use Rattle.rules_positions.specs.Bounds.{holds_high, strike_high, price_high}
use Rattle.calls_replay.specs.Entries.{entry_of}

-- ---- letters

side_letter_lem : (c : ℕ) (s : Side) → side_of c ≡ Some s → c ≡ side_letter s
side_letter_lem c Long e = grind (arith, nat_tests)
side_letter_lem c Short e = grind (arith, nat_tests)

kind_letter_lem : (c : ℕ) (k : Kind) → kind_of c ≡ Some k → c ≡ kind_letter k
kind_letter_lem c Units e = grind (arith, nat_tests)
kind_letter_lem c Call e = grind (arith, nat_tests)
kind_letter_lem c Put e = grind (arith, nat_tests)
kind_letter_lem c Futures e = grind (arith, nat_tests)
kind_letter_lem c Receipt e = grind (arith, nat_tests)

on_side_lem : (side : Side) (o : Option Kind) (k : Kind) → on_side side o ≡ Some k → o ≡ Some k
on_side_lem side None k e = cc
on_side_lem side (Some j) k e = let same = (cond_some (sided side j) j k e).1 in cc

-- ---- numbers

passed : (b : Bool) (v : Result (Unit {0}) RecordFault) (f : RecordFault) → cond b v (Err f) ≡ Ok tt → (b ≡ true) × (v ≡ Ok tt)
passed true v f e = (refl, e)
passed false v f e = cc

days_top : (k : Kind) → (day_range k).high ≤ 4000
days_top Units = omega arith
days_top Call = omega arith
days_top Put = omega arith
days_top Futures = omega arith
days_top Receipt = omega arith

quantity_top : (size : ℕ) (k : Kind) → size ≤ 1000 → (quantity_range size k).high ≤ 5000000
quantity_top size Units h = omega arith
quantity_top size Call h = omega arith
quantity_top size Put h = omega arith
quantity_top size Futures h = omega arith
quantity_top size Receipt h = omega arith

record Small (e : Entry) : Type 0 where
  days : e.days ≤ 4000
  quantity : e.quantity ≤ 5000000

small : (size : ℕ) → size ≤ 1000 → (e : Entry) (k : Kind) → judged size e k ≡ Ok tt → Small e
small size few e k h =
    let a = passed (holds (strike_range k) e.strike) _ _ h in
    let b = passed (holds (day_range k) e.days) _ _ a.1 in
    let c = passed (holds (price_range k) e.price) _ _ b.1 in
    let d = passed (holds (quantity_range size k) e.quantity) _ _ c.1 in
    record {
      days = omega (arith, holds_high (day_range k) e.days b.0, days_top k);
      quantity = omega (arith, holds_high (quantity_range size k) e.quantity d.0, quantity_top size k few);
    }

-- ---- the record

-- the entry, with other letters
abbrev lettered : Entry → ℕ → ℕ → Entry
lettered e a b = record { side = a; kind = b; strike = e.strike; days = e.days; price = e.price; quantity = e.quantity }

same_record : (a b : Record) → ◌≡◌ {A = Result Record RecordFault} (Ok a) (Ok b) → a ≡ b
same_record a b h = cc

-- the entry that makes a record, and how large its numbers are
pub record Made (e : Entry) (r : Record) : Type 0 where
  pub entry : e ≡ entry_of r
  pub strike : r.strike ≤ 500000
  pub days : r.days ≤ 4000
  pub price : r.price ≤ 500000
  pub quantity : r.quantity ≤ 5000000

decided_from : {A : Type 0} (b : Bool) (make : b ≡ true → A) (other x : A) → (other ≡ x → ⊥) → decide b make other ≡ x → (ok : b ≡ true) × (make ok ≡ x)
decided_from true make other x never h = (refl, h)
decided_from false make other x never h = absurd (never h)

module _ (size : ℕ) (few : size ≤ 1000) (e : Entry) (r : Record) where
  from_range : (side : Side) (k : Kind) → e.side ≡ side_letter side → e.kind ≡ kind_letter k → Small e → ranged e side k (Ok tt) ≡ Ok r → Made e r
  from_range side k s l m h =
      let is = decided_from (in_range side k e.strike e.days e.price) _ _ _ (λ z. cc) h in
      let same = same_record _ r is.1 in
      let days = ap (λ (x : Record). x.days) same in
      let quantity = ap (λ (x : Record). x.quantity) same in
      record {
        entry = ap (λ (a : ℕ). lettered e a e.kind) s ∙ ap (lettered e (side_letter side)) l ∙ ap entry_of same;
        strike = strike_high r.side r.kind r.strike r.days r.price r.ranged;
        days = omega (arith, m.days);
        price = price_high r.side r.kind r.strike r.days r.price r.ranged;
        quantity = omega (arith, m.quantity);
      }

  from_judged : (side : Side) (k : Kind) (v : Result (Unit {0}) RecordFault) → judged size e k ≡ v → e.side ≡ side_letter side → e.kind ≡ kind_letter k → ranged e side k v ≡ Ok r → Made e r
  from_judged side k (Ok tt) j s l h = from_range side k s l (small size few e k j) h
  from_judged side k (Err f) j s l h = cc

  from_kind : (side : Side) (o : Option Kind) → kind_for side e.kind ≡ o → e.side ≡ side_letter side → kinds_of size e side o ≡ Ok r → Made e r
  from_kind side None k s h = cc
  from_kind side (Some kind) k s h = from_judged side kind (judged size e kind) refl s (kind_letter_lem e.kind kind (on_side_lem side (kind_of e.kind) kind k)) h

  from_side : (o : Option Side) → side_of e.side ≡ o → sides_of size e o ≡ Ok r → Made e r
  from_side None s h = cc
  from_side (Some side) s h = from_kind side (kind_for side e.kind) refl (side_letter_lem e.side side s) h

  pub made : record_of size e ≡ Ok r → Made e r
  made h = from_side (side_of e.side) refl h
