-- Amounts, requirements and breaches as text.
use Rattle.std.specs.Prelude.{ℕ, ◌*◌, List, ◌++◌, codes, decimal, pos, Some, None, Ok, Err, Option, Result}
use Rattle.rules_articles.specs.declared.ArticleFault.{ArticleFault}
use Rattle.certificate_fairness.specs.declared.Breach.{Breach}
use Rattle.certificate_fairness.specs.declared.Breach.TheVariants.{Alone, Set}
use Rattle.page_money.specs.Texts.{dollars_text}

-- parts, in dollars
abbrev pub parts_text : ℕ → List ℕ
parts_text parts = dollars_text (pos parts)

-- cents, in dollars
abbrev pub cents_text : ℕ → List ℕ
cents_text amount = parts_text (amount * 10000)

-- what an article says of a set
abbrev pub required_text : Result ℕ ArticleFault → List ℕ
required_text (Ok parts) = parts_text parts
required_text (Err fault) = codes "refused"

-- the positions that are legs
abbrev pub positions_text : ℕ → ℕ → Option ℕ → List ℕ
positions_text first second None = decimal first ++ (codes " and " ++ decimal second)
positions_text first second (Some third) = decimal first ++ (codes ", " ++ (decimal second ++ (codes " and " ++ decimal third)))

-- a breach: a position alone, or an article with its legs
abbrev pub breach_text : Breach → List ℕ
breach_text (Alone position) = codes "position " ++ decimal position
breach_text (Set article legs) = codes "article " ++ (decimal article ++ (codes " with positions " ++ positions_text legs.first legs.second legs.third))

-- a breach that is found, or none
abbrev pub found_text : Option Breach → List ℕ
found_text None = codes "none"
found_text (Some breach) = breach_text breach
