-- The causes of refusal, with their numbers and the leg that each names.
use Rattle.std.specs.Prelude.{ℕ, Some, None, Option}
use Rattle.rules_market.specs.declared.MarketFault.{MarketFault}
use Rattle.rules_market.specs.declared.MarketFault.TheVariants.{NoTracking}
use Rattle.rules_articles.specs.declared.Leg.{Leg}
use Rattle.rules_articles.specs.declared.Leg.TheVariants.{First, Second, Third}
use Rattle.rules_articles.specs.declared.ArticleFault.{ArticleFault}
use Rattle.rules_articles.specs.declared.ArticleFault.TheVariants.{WrongLeg, WrongDays, Market}

-- the number of a leg
abbrev pub leg_number : Leg → ℕ
leg_number First = 1
leg_number Second = 2
leg_number Third = 3

-- the number of a leg, 0 for none
abbrev pub leg_or_zero : Option Leg → ℕ
leg_or_zero None = 0
leg_or_zero (Some leg) = leg_number leg

-- 1: a leg's kind or side; 2: days; 3: no tracking rate
abbrev pub article_cause_number : ArticleFault → ℕ
article_cause_number (WrongLeg leg) = 1
article_cause_number (WrongDays leg) = 2
article_cause_number (Market NoTracking) = 3

-- the leg at fault; none for the market's cause
abbrev pub cause_leg : ArticleFault → Option Leg
cause_leg (WrongLeg leg) = Some leg
cause_leg (WrongDays leg) = Some leg
cause_leg (Market NoTracking) = None

-- the market's cause passes unaltered
abbrev pub from_market : MarketFault → ArticleFault
from_market fault = Market fault
