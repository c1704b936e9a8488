-- The parts of an option's requirement. The amounts themselves are those of `rules_pricing`.
use Rattle.std.specs.Prelude.{ℕ, cond, ℤ, pos, Some, None, Option, nat_le, int_lt}
use Rattle.rules_positions.specs.declared.Side.{Side}
use Rattle.rules_positions.specs.declared.Side.TheVariants.{Long, Short}
use Rattle.rules_positions.specs.declared.Kind.{Kind}
use Rattle.rules_positions.specs.declared.Kind.TheVariants as kind
use Rattle.rules_positions.specs.Records.{Terms}
use Rattle.rules_pricing.specs.declared.Right.{Right}
use Rattle.rules_pricing.specs.declared.Right.TheVariants.{Call, Put}
use Rattle.rules_pricing.specs.Options.{before_floor, floor_amount}
use Rattle.page_workings.specs.declared.Portion.{Portion}
use Rattle.page_workings.specs.declared.Portion.TheVariants.{Whole, Half}
use Rattle.page_workings.specs.declared.Ruling.{Ruling}
use Rattle.page_workings.specs.declared.Ruling.TheVariants.{BeforeFloor, FloorAmount}
use Rattle.page_workings.specs.declared.ShortWorking.{ShortWorking}
use Rattle.rules_pricing.specs.Priced.{Priced}

-- a call and a put give a right; no other kind does
abbrev pub right_of : Kind → Option Right
right_of kind.Units = None
right_of kind.Call = Some Call
right_of kind.Put = Some Put
right_of kind.Futures = None
right_of kind.Receipt = None

-- from 270 days up half of the time value counts, else the whole
abbrev pub portion_of : ℕ → Portion
portion_of days = cond (nat_le 270 days) Half Whole

-- what a cent of time value counts for, in parts
abbrev pub portion_points : Portion → ℕ
portion_points Whole = 10000
portion_points Half = 5000

-- the floor amount rules where it is above the first amount; else the first does
abbrev pub ruling_of : ℤ → ℕ → Ruling
ruling_of first floor = cond (int_lt first (pos floor)) FloorAmount BeforeFloor

-- the two amounts of a short option, and the one that rules
abbrev pub short_working_of : Priced → Right → Terms → ShortWorking
short_working_of c right o = record {
  before_floor = before_floor c right o;
  floor_amount = floor_amount c right o;
  ruling = ruling_of (before_floor c right o) (floor_amount c right o);
}

-- the amount of the two that is named
abbrev pub amount_named : Ruling → ℤ → ℕ → ℤ
amount_named BeforeFloor first floor = first
amount_named FloorAmount first floor = pos floor

-- the amount that rules
abbrev pub ruling_amount : ShortWorking → ℤ
ruling_amount w = amount_named w.ruling w.before_floor w.floor_amount

-- a short option has two amounts, a long one has none
abbrev pub short_by_side : Priced → Right → Terms → Side → Option ShortWorking
short_by_side c right o Long = None
short_by_side c right o Short = Some (short_working_of c right o)
