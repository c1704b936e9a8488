-- A set is refused where a leg has not the side and the kind that its article asks of that leg.
use Rattle.std.proofs.Common.{◌≡◌, ℕ, false, List, [], ◌∷◌, map, Some, Result, IsErr, sym, subst, arith}
use Rattle.std.specs.Result.{result_map_both}
use Rattle.std.proofs.lemmas.Option.{same_Some}
use Rattle.rules_market.specs.Quote.{Quote}
use Rattle.rules_positions.specs.declared.record.Record.{Record}
use Rattle.rules_positions.specs.Records.{Terms, terms}
use Rattle.rules_articles.specs.declared.Article.{Article}
use Rattle.rules_articles.specs.declared.ArticleFault.{ArticleFault}
use Rattle.rules_articles.specs.declared.Leg.{Leg}
use Rattle.rules_articles.specs.declared.Leg.TheVariants.{First, Second, Third}
use Rattle.rules_articles.specs.ByArticle.{of_two, of_three, requirement_of, matches_leg}
use Rattle.rules_books.specs.Books.{raised}
use Rattle.rules_books.specs.Tables.{IsAtLeg}
use Rattle.rules_pricing.specs.Priced.{contracts_of}

abbrev Refused : Result ℕ ArticleFault → Type 0
Refused r = IsErr (result_map_both (λ parts. parts) raised r)

module _ (q : Quote) (s : ℕ) (article : Article) (a b : Terms) where
  two_first : matches_leg article First a ≡ false → Refused (of_two (contracts_of q s) article a b)
  two_first h = grind arith

  two_second : matches_leg article Second b ≡ false → Refused (of_two (contracts_of q s) article a b)
  two_second h = grind arith

  module _ (c : Terms) where
    three_first : matches_leg article First a ≡ false → Refused (of_three (contracts_of q s) article a b c)
    three_first h = grind arith

    three_second : matches_leg article Second b ≡ false → Refused (of_three (contracts_of q s) article a b c)
    three_second h = grind arith

    three_third : matches_leg article Third c ≡ false → Refused (of_three (contracts_of q s) article a b c)
    three_third h = grind arith

same_leg : (article : Article) (leg : Leg) (a r : Record) → Some a ≡ Some r → matches_leg article leg (terms r) ≡ false → matches_leg article leg (terms a) ≡ false
same_leg article leg a r e h = subst (λ z. matches_leg article leg (terms z) ≡ false) (sym (same_Some a r e)) h

pub refused_at : (q : Quote) (article : Article) (leg : Leg) (r : Record) → matches_leg article leg (terms r) ≡ false
    → (s : ℕ) (legs : List Record) → IsAtLeg leg r legs → Refused (requirement_of (contracts_of q s) article (map terms legs))
refused_at q article leg r h s [] e = grind arith
refused_at q article leg r h s (a ∷ []) e = grind arith
refused_at q article First r h s (a ∷ b ∷ []) e = two_first q s article (terms a) (terms b) (same_leg article First a r e h)
refused_at q article Second r h s (a ∷ b ∷ []) e = two_second q s article (terms a) (terms b) (same_leg article Second b r e h)
refused_at q article Third r h s (a ∷ b ∷ []) e = absurd (let w : ⊥ = cc in w)
refused_at q article First r h s (a ∷ b ∷ c ∷ []) e = three_first q s article (terms a) (terms b) (terms c) (same_leg article First a r e h)
refused_at q article Second r h s (a ∷ b ∷ c ∷ []) e = three_second q s article (terms a) (terms b) (terms c) (same_leg article Second b r e h)
refused_at q article Third r h s (a ∷ b ∷ c ∷ []) e = three_third q s article (terms a) (terms b) (terms c) (same_leg article Third c r e h)
refused_at q article leg r h s (a ∷ b ∷ c ∷ d ∷ more) e = grind arith
