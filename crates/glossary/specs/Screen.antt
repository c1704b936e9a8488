-- The whole screen.
use Rattle.std.specs.Prelude.{ℕ, List, ◌++◌, codes}
use Rattle.std.specs.List.{flat_map}
use Rattle.rules_market.specs.Quote.{Quote}
use Rattle.glossary.specs.declared.terms.Term.{Term}
use Rattle.glossary.specs.Terms.{all_terms, name_text, sentence_text}
use Rattle.glossary.specs.Worked.{worked_text}
use Rattle.rules_pricing.specs.Priced.{Priced}

-- what stands above the terms
abbrev pub heading : List ℕ
heading = codes "The terms of the margin rules, each with a worked figure. Amounts are in dollars. The figures are of\na share at 50.00, not reduced, with a floor rate of 5%, a futures rate of 20% and a tracking rate of\n1.5%, and of contracts of 100 units.\n"

-- after an empty line the term, its sentence, and its worked figure
abbrev pub term_text : Priced → Term → List ℕ
term_text c term =
    codes "\n" ++ (name_text term
    ++ (codes "\n" ++ (sentence_text term
    ++ (codes "\n    " ++ (worked_text c term
    ++ codes "\n")))))

-- the heading, and each term with its sentence and its figure
abbrev pub screen_text : Priced → List ℕ
screen_text c = heading ++ flat_map (term_text c) all_terms
