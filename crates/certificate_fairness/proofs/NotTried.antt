-- No set is a breach that has a position at a leg where the book refuses it.
use Rattle.std.proofs.Common.{◌≡◌, ℕ, Bool, ◌&&◌, List, map, length, ℤ, Some, None, Option, Result, IsErr, refl, ◌∙◌, ⊎_elim, arith}
use Rattle.std.specs.Bool.{then_some}
use Rattle.std.proofs.lemmas.Bool.{cases_eq}
use Rattle.std.proofs.lemmas.List.{length-map}
use Rattle.rules_positions.specs.declared.record.Record.{Record}
use Rattle.rules_articles.specs.declared.Leg.TheVariants.{First, Second, Third}
use Rattle.rules_books.specs.declared.BookFault.{BookFault}
use Rattle.rules_books.specs.Tables.{Tables, Has, IsSize, IsLawful, IsRefusedAt}
use Rattle.certificate_pairing.specs.Pairing.{at, distinct, answer, worth}
use Rattle.certificate_fairness.specs.declared.Legs.{Legs}
use Rattle.certificate_fairness.specs.declared.Breach.TheVariants as breach
use Rattle.certificate_fairness.specs.Search.{exceeds, legs_from, legs_in, set_at, set_breach, third_leg, second_leg}
use Rattle.certificate_fairness.proofs.Firsts.{none_anywhere}
use Rattle.certificate_fairness.proofs.Least.{two_legs, three_legs}

unmade : {X : Type 0} (apart : Bool) (r : Result ℕ BookFault) (m : ℤ) (x : X) → IsErr r → then_some (apart && exceeds r m) x ≡ None
unmade apart r m x h = grind arith

module _ (t : Tables) (law : IsLawful t) (s : ℕ) (held : List Record) (ms : List ℤ) (size : IsSize s) (a : ℕ) (has : Has t a) where
  no_breach : (l : Legs) → IsErr (answer t s held (set_at a l)) → set_breach t s held ms a l ≡ None
  no_breach l h = let x = set_at a l in unmade (distinct x.legs) (answer t s held x) (worth s held ms x.legs) (breach.Set a l) h

  -- where every set with these two first legs is refused, whatever the third
  no_third : (i j : ℕ) → ((k : Option ℕ) → length (legs_in (legs_from i j k)) ≡ t.legs a → IsErr (answer t s held (set_at a (legs_from i j k)))) → third_leg t s held ms a i j ≡ None
  no_third i j h =
      let low = law.legs_low a has in
      let high = law.legs_high a has in
      ⊎_elim
      (λ two. two_legs t law s held ms a i j two ∙ no_breach (legs_from i j None) (h None (omega arith)))
      (λ other.
      let three : t.legs a ≡ 3 = omega arith in
      three_legs t law s held ms a i j three
      ∙ none_anywhere (λ k. set_breach t s held ms a (legs_from i j (Some k))) 1 (length held) (λ k _ _. no_breach (legs_from i j (Some k)) (h (Some k) (omega arith))))
      (cases_eq (t.legs a) 2)

  whole : (l : Legs) → length (legs_in l) ≡ t.legs a → length (map (at held) (legs_in l)) ≡ t.legs a
  whole l n = length-map (legs_in l) (at held) ∙ n

  pub third_refused : (i j k : ℕ) → t.legs a ≡ 3 → IsRefusedAt t a Third (at held k) → set_breach t s held ms a (legs_from i j (Some k)) ≡ None
  third_refused i j k three h =
      let l = legs_from i j (Some k) in
      no_breach l (h s (map (at held) (legs_in l)) size (whole l (omega arith)) refl)

  pub second_refused : (i j : ℕ) → IsRefusedAt t a Second (at held j) → third_leg t s held ms a i j ≡ None
  second_refused i j h =
      no_third i j (λ k n. let l = legs_from i j k in h s (map (at held) (legs_in l)) size (whole l n) refl)

  pub first_refused : (i : ℕ) → IsRefusedAt t a First (at held i) → second_leg t s held ms a i ≡ None
  first_refused i h =
      none_anywhere (third_leg t s held ms a i) 1 (length held)
      (λ j _ _. no_third i j (λ k n. let l = legs_from i j k in h s (map (at held) (legs_in l)) size (whole l n) refl))
