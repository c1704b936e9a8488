-- What passes every check is the record.
use Rattle.std.proofs.Common.{◌≡◌, ℕ, Bool, true, false, Some, None, Ok, Err, Option, ok_or, sym, refl, ap, ◌∙◌, arith}
use mathlib.Core.Bool.{Bool-set}
use Rattle.rules_positions.specs.declared.Side.{Side}
use Rattle.rules_positions.specs.declared.Kind.{Kind}
use Rattle.rules_positions.specs.declared.Field.TheVariants as field
use Rattle.rules_positions.specs.declared.Entry.{Entry}
use Rattle.rules_positions.specs.declared.RecordFault.TheVariants.{OutOfRange}
use Rattle.rules_positions.specs.Letters.{side_of, kind_for}
use Rattle.rules_positions.specs.Ranges.{in_range}
use Rattle.rules_positions.specs.Records.{decide, judged, ranged, kinds_of, sides_of, record_of}

-- what is made of an option is what it holds
pub made_of : {A E : Type 0} (o : Option A) (fault : E) (x : A) → Ok x ≡ ok_or o fault → Some x ≡ o
made_of (Some y) fault x e = grind arith
made_of None fault x e = grind arith

pub decided : {A : Type 0} (b : Bool) (make : b ≡ true → A) (other : A) (ok : b ≡ true) → decide b make other ≡ make ok
decided true make other ok = ap make (Bool-set true true refl ok)
decided false make other ok = grind arith

-- a record whose fields passed
pub recorded : (size : ℕ) (e : Entry) (side : Side) (kind : Kind) → Some side ≡ side_of e.side → Some kind ≡ kind_for side e.kind → Ok tt ≡ judged size e kind → (ok : in_range side kind e.strike e.days e.price ≡ true) → Ok (record { side = side; kind = kind; strike = e.strike; days = e.days; price = e.price; quantity = e.quantity; ranged = ok }) ≡ record_of size e
recorded size e side kind p q h ok =
    sym (decided (in_range side kind e.strike e.days e.price) (λ ok. Ok (record { side = side; kind = kind; strike = e.strike; days = e.days; price = e.price; quantity = e.quantity; ranged = ok })) (Err (OutOfRange field.Kind)) ok)
    ∙ ap (ranged e side kind) h
    ∙ ap (kinds_of size e side) q
    ∙ ap (sides_of size e) p
