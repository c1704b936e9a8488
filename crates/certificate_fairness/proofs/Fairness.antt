-- Nothing is found exactly where the marks are fair.
use Rattle.std.proofs.Common.{◌≡◌, ℕ, List, [], ◌∷◌, length, ℤ, pos, ◌<ℤ◌, ◌≤ℤ◌, Some, None, Option, sym, refl, ◌∙◌, arith}
use Rattle.std.proofs.lemmas.Int.{ints}
use Rattle.rules_positions.specs.declared.record.Record.{Record}
use Rattle.rules_books.specs.Tables.{Tables, IsLawful}
use Rattle.certificate_pairing.specs.Pairing.{requirement, IsAllowed, worth, IsFair}
use Rattle.certificate_fairness.specs.declared.Breach.{Breach}
use Rattle.certificate_fairness.specs.declared.Breach.TheVariants as breach
use Rattle.certificate_fairness.specs.Search.{legs_from, set_at, first_breach, AreWithinLimits, NoneExactlyIfFair}
use Rattle.certificate_fairness.specs.First.{Breaks}
use Rattle.certificate_fairness.proofs.Least.{none_breaks, search_finds_first}

at_most : (n : ℕ) (m : ℤ) → (pos n <ℤ m → ⊥) → m ≤ℤ pos n
at_most n m h = grind (arith, ints)

not_over : (n : ℕ) (m : ℤ) → m ≤ℤ pos n → pos n <ℤ m → ⊥
not_over n m h k = grind (arith, ints)

module _ (t : Tables) (lawful : IsLawful t) (s : ℕ) (held : List Record) (ms : List ℤ) where
  -- an allowed set has two legs, or three
  by_legs : ((c : Breach) → Breaks t s held ms c → ⊥) → (a : ℕ) (qs : List ℕ) → IsAllowed t s held (record { article = a; legs = qs }) → pos (requirement t s held (record { article = a; legs = qs })) <ℤ worth s held ms qs → ⊥
  by_legs none a [] h o = let low = lawful.legs_low a h.article in omega (arith, h.legs)
  by_legs none a (i ∷ []) h o = let low = lawful.legs_low a h.article in omega (arith, h.legs)
  by_legs none a (i ∷ j ∷ []) h o = none (breach.Set a (legs_from i j None)) (record { allowed = h; over = o })
  by_legs none a (i ∷ j ∷ k ∷ []) h o = none (breach.Set a (legs_from i j (Some k))) (record { allowed = h; over = o })
  by_legs none a (i ∷ j ∷ k ∷ l ∷ qs) h o = let high = lawful.legs_high a h.article in omega (arith, h.legs)

  fair_from : length ms ≡ length held → AreWithinLimits held ms → first_breach t s held ms ≡ None → IsFair t s held ms
  fair_from n limited e =
      let none = none_breaks t lawful s held ms e in
      record {
        each = n;
        within = limited;
        alone = λ p at_p. at_most _ _ (λ o. none (breach.Alone p) (record { position = at_p; over = o }));
        sets = λ x h. at_most _ _ (by_legs none x.article x.legs h);
      }

  unbroken : IsFair t s held ms → (c : Breach) → Breaks t s held ms c → ⊥
  unbroken fair (breach.Alone p) h = not_over _ _ (fair.alone p h.position) h.over
  unbroken fair (breach.Set a l) h = not_over _ _ (fair.sets (set_at a l) h.allowed) h.over

  none_from : IsFair t s held ms → (r : Option Breach) → r ≡ first_breach t s held ms → r ≡ None
  none_from fair None e = refl
  none_from fair (Some b) e = let first = search_finds_first t lawful s held ms b (sym e) in absurd (unbroken fair b first.breaks)

  pub none_exactly_if_fair : length ms ≡ length held → AreWithinLimits held ms → (r : Option Breach) → r ≡ first_breach t s held ms → NoneExactlyIfFair t s held ms r
  none_exactly_if_fair n limited r e = (λ z. fair_from n limited (sym e ∙ z), λ fair. none_from fair r e)
