-- The conditions of the articles, each with its cause.
use Rattle.std.specs.Prelude.{ℕ, Bool, cond, ◌&&◌, Ok, Err, Result, ◌==◌, nat_le}
use Rattle.std.specs.Result.{result_map_both}
use Rattle.rules_market.specs.Quote.{Quote, tracked_of}
use Rattle.rules_positions.specs.declared.Side.{Side}
use Rattle.rules_positions.specs.declared.Kind.{Kind}
use Rattle.rules_positions.specs.Kinds.{same_side, same_kind}
use Rattle.rules_positions.specs.Records.{Terms}
use Rattle.rules_articles.specs.declared.Leg.{Leg}
use Rattle.rules_articles.specs.declared.Leg.TheVariants.{Second, Third}
use Rattle.rules_articles.specs.declared.ArticleFault.{ArticleFault}
use Rattle.rules_articles.specs.declared.ArticleFault.TheVariants.{WrongLeg, WrongDays}
use Rattle.rules_articles.specs.Causes.{from_market}

-- a condition holds, or its fault
abbrev pub Check : Type 0
Check = Result (Unit {0}) ArticleFault

-- refused by the fault unless the condition holds
abbrev pub condition : ArticleFault → Bool → Check
condition fault holds = cond holds (Ok tt) (Err fault)

-- a long call, a short put and so on: of the side and of the kind
abbrev pub is_a : Side → Kind → Terms → Bool
is_a side kind t = same_side t.side side && same_kind t.kind kind

-- the leg has the side and the kind
abbrev pub leg_is : Leg → Side → Kind → Terms → Check
leg_is leg side kind t = condition (WrongLeg leg) (is_a side kind t)

-- the second leg's days are not above the first's
abbrev pub not_later : Terms → Terms → Check
not_later first second = condition (WrongDays Second) (nat_le second.days first.days)

-- all days are equal; else the first leg unlike leg 1 is named
abbrev pub same_days : Terms → Terms → Terms → Check
same_days first second third =
    cond (second.days == first.days) (condition (WrongDays Third) (third.days == first.days)) (Err (WrongDays Second))

-- the tracking rate of the price, for a unit
abbrev pub tracked : Quote → Result ℕ ArticleFault
tracked q = result_map_both (λ parts. parts) from_market (tracked_of q)

-- one condition after another: the first that fails is the cause
abbrev pub and_then : {A B : Type 0} → Result A ArticleFault → (A → Result B ArticleFault) → Result B ArticleFault
and_then (Ok x) next = next x
and_then (Err fault) next = Err fault
