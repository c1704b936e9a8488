-- Each article by name: its legs, and what it says of a set.
use Rattle.std.specs.Prelude.{ℕ, Bool, false, List, [], ◌∷◌, Err, Result}
use Rattle.rules_positions.specs.declared.Side.TheVariants.{Long, Short}
use Rattle.rules_positions.specs.declared.Kind.TheVariants as kind
use Rattle.rules_positions.specs.Records.{Terms}
use Rattle.rules_pricing.specs.declared.Right.TheVariants.{Call, Put}
use Rattle.rules_articles.specs.declared.Article.{Article}
use Rattle.rules_articles.specs.declared.Article.TheVariants.{CallSpread, PutSpread, Straddle, ProtectivePut, Conversion, Reconversion, ReceiptCall}
use Rattle.rules_articles.specs.declared.Leg.{Leg}
use Rattle.rules_articles.specs.declared.Leg.TheVariants.{First, Second, Third}
use Rattle.rules_articles.specs.declared.ArticleFault.{ArticleFault}
use Rattle.rules_articles.specs.declared.ArticleFault.TheVariants.{WrongLeg}
use Rattle.rules_articles.specs.Conditions.{is_a}
use Rattle.rules_articles.specs.Articles.{spread, straddle, protective_put, conversion, reconversion, receipt_call}
use Rattle.rules_pricing.specs.Priced.{Priced}

-- conversions have three legs, the others two
abbrev pub leg_count : Article → ℕ
leg_count CallSpread = 2
leg_count PutSpread = 2
leg_count Straddle = 2
leg_count ProtectivePut = 2
leg_count Conversion = 3
leg_count Reconversion = 3
leg_count ReceiptCall = 2

-- a set of two legs
abbrev pub of_two : Priced → Article → Terms → Terms → Result ℕ ArticleFault
of_two c CallSpread a b = spread c Call a b
of_two c PutSpread a b = spread c Put a b
of_two c Straddle a b = straddle c a b
of_two c ProtectivePut a b = protective_put c a b
of_two c Conversion a b = Err (WrongLeg Third)
of_two c Reconversion a b = Err (WrongLeg Third)
of_two c ReceiptCall a b = receipt_call a b

-- a set of three legs
abbrev pub of_three : Priced → Article → Terms → Terms → Terms → Result ℕ ArticleFault
of_three c CallSpread first second third = Err (WrongLeg Third)
of_three c PutSpread first second third = Err (WrongLeg Third)
of_three c Straddle first second third = Err (WrongLeg Third)
of_three c ProtectivePut first second third = Err (WrongLeg Third)
of_three c Conversion first second third = conversion c first second third
of_three c Reconversion first second third = reconversion c first second third
of_three c ReceiptCall first second third = Err (WrongLeg Third)

-- the requirement of a set under an article, or the cause that refuses it; a leg too few or too many is a wrong leg
abbrev pub requirement_of : Priced → Article → List Terms → Result ℕ ArticleFault
requirement_of c article [] = Err (WrongLeg First)
requirement_of c article (first ∷ []) = Err (WrongLeg Second)
requirement_of c article (first ∷ second ∷ []) = of_two c article first second
requirement_of c article (first ∷ second ∷ third ∷ []) = of_three c article first second third
requirement_of c article (first ∷ second ∷ third ∷ d ∷ more) = Err (WrongLeg Third)

-- what is asked of the first leg, of the second and of the third
abbrev pub by_leg : (Terms → Bool) → (Terms → Bool) → (Terms → Bool) → Leg → Terms → Bool
by_leg first second third First = first
by_leg first second third Second = second
by_leg first second third Third = third

-- nothing is the third leg of an article of two
abbrev pub no_leg : Terms → Bool
no_leg t = false

-- the position has the side and the kind that the article asks of the leg
abbrev pub matches_leg : Article → Leg → Terms → Bool
matches_leg CallSpread = by_leg (is_a Long kind.Call) (is_a Short kind.Call) no_leg
matches_leg PutSpread = by_leg (is_a Long kind.Put) (is_a Short kind.Put) no_leg
matches_leg Straddle = by_leg (is_a Short kind.Call) (is_a Short kind.Put) no_leg
matches_leg ProtectivePut = by_leg (is_a Long kind.Put) (is_a Long kind.Units) no_leg
matches_leg Conversion = by_leg (is_a Long kind.Put) (is_a Short kind.Call) (is_a Long kind.Futures)
matches_leg Reconversion = by_leg (is_a Short kind.Put) (is_a Long kind.Call) (is_a Short kind.Futures)
matches_leg ReceiptCall = by_leg (is_a Short kind.Call) (is_a Long kind.Receipt) no_leg
