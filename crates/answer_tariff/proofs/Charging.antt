-- The line of one position more.
use Rattle.std.proofs.Common.{◌≡◌, ℕ, ◌+◌, ◌<◌, List, [], ◌∷◌, ◌++◌, length, get_or, take, sym, ap, ◌∙◌, append_assoc, append-nil, arith}
use Rattle.std.proofs.lemmas.List.{length-take, take_more}
use Rattle.answer_tariff.specs.Tariffs.{charge_text, charges_text}

charges_at_end : (first : ℕ) (xs : List ℕ) (x : ℕ) → charges_text first (xs ++ (x ∷ [])) ≡ charges_text first xs ++ charge_text (first + length xs) x
charges_at_end first [] x = append-nil (charge_text first x) ∙ ap (λ n. charge_text n x) (omega arith)
charges_at_end first (y ∷ ys) x =
    ap (λ l. charge_text first y ++ l) (charges_at_end (first + 1) ys x ∙ ap (λ n. charges_text (first + 1) ys ++ charge_text n x) (omega arith))
    ∙ sym (append_assoc (charge_text first y) (charges_text (first + 1) ys) (charge_text (first + length (y ∷ ys)) x))

pub charges_more : (xs : List ℕ) (i d : ℕ) → i < length xs → charges_text 1 (take i xs) ++ charge_text (i + 1) (get_or xs i d) ≡ charges_text 1 (take (i + 1) xs)
charges_more xs i d h =
    ap (λ n. charges_text 1 (take i xs) ++ charge_text n (get_or xs i d)) (omega (arith, length-take i xs))
    ∙ sym (charges_at_end 1 (take i xs) (get_or xs i d))
    ∙ ap (charges_text 1) (sym (take_more xs i d h))
