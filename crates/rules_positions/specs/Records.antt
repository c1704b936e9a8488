-- The record that six fields make.
use Rattle.std.specs.Prelude.{◌≡◌, ℕ, Bool, true, false, cond, Some, None, Ok, Err, Option, Result, refl}
use Rattle.rules_positions.specs.declared.Side.{Side}
use Rattle.rules_positions.specs.declared.Kind.{Kind}
use Rattle.rules_positions.specs.declared.Side.TheVariants.{Long}
use Rattle.rules_positions.specs.declared.Kind.TheVariants.{Units}
use Rattle.rules_positions.specs.declared.Field.TheVariants as field
use Rattle.rules_positions.specs.declared.Entry.{Entry}
use Rattle.rules_positions.specs.declared.RecordFault.{RecordFault}
use Rattle.rules_positions.specs.declared.RecordFault.TheVariants.{OutOfRange}
use Rattle.rules_positions.specs.declared.record.Record.{Record}
use Rattle.rules_positions.specs.Letters.{side_of, kind_for}
use Rattle.rules_positions.specs.Ranges.{holds, strike_range, day_range, price_range, quantity_range, in_range}

-- what is read where there is no position
pub in_range_lem : in_range Long Units 0 0 0 ≡ true
unfolding in_range
in_range_lem = refl

-- a record that stands where a list has none
abbrev pub no_record : Record
no_record = record { side = Long; kind = Units; strike = 0; days = 0; price = 0; quantity = 0; ranged = in_range_lem }

-- what is held, whatever the quantity
pub record Terms : Type 0 where
  pub side : Side
  pub kind : Kind
  pub strike : ℕ
  pub days : ℕ
  pub price : ℕ

-- the terms of a record
abbrev pub terms : Record → Terms
terms r = record { side = r.side; kind = r.kind; strike = r.strike; days = r.days; price = r.price }

-- what a test that holds makes, else the other
abbrev pub decide : {A : Type 0} (test : Bool) → (test ≡ true → A) → A → A
decide true make other = make refl
decide false make other = other

-- the numbers are judged in their order, and the first out of its range is named
abbrev pub judged : ℕ → Entry → Kind → Result (Unit {0}) RecordFault
judged size e kind =
    cond (holds (strike_range kind) e.strike)
    (cond (holds (day_range kind) e.days)
    (cond (holds (price_range kind) e.price)
    (cond (holds (quantity_range size kind) e.quantity)
    (Ok tt)
    (Err (OutOfRange field.Quantity)))
    (Err (OutOfRange field.Price)))
    (Err (OutOfRange field.Days)))
    (Err (OutOfRange field.Strike))

-- what is in range is the record
abbrev pub ranged : Entry → Side → Kind → Result (Unit {0}) RecordFault → Result Record RecordFault
ranged e side kind (Err fault) = Err fault
ranged e side kind (Ok passed) =
    decide (in_range side kind e.strike e.days e.price)
    (λ ok. Ok (record { side = side; kind = kind; strike = e.strike; days = e.days; price = e.price; quantity = e.quantity; ranged = ok }))
    (Err (OutOfRange field.Kind))

-- an entry whose side is known: the kind is judged first
abbrev pub kinds_of : ℕ → Entry → Side → Option Kind → Result Record RecordFault
kinds_of size e side None = Err (OutOfRange field.Kind)
kinds_of size e side (Some kind) = ranged e side kind (judged size e kind)

-- the side of an entry is judged before all else
abbrev pub sides_of : ℕ → Entry → Option Side → Result Record RecordFault
sides_of size e None = Err (OutOfRange field.Side)
sides_of size e (Some side) = kinds_of size e side (kind_for side e.kind)

-- the record that an entry makes in a docket of contracts of so many units
abbrev pub record_of : ℕ → Entry → Result Record RecordFault
record_of size e = sides_of size e (side_of e.side)
