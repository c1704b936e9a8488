-- One row more.
use Rattle.std.proofs.Common.{◌≡◌, ℕ, ◌+◌, ◌<◌, List, [], ◌∷◌, ◌++◌, length, get_or, take, sym, ap, ◌∙◌, append_assoc, append-nil, arith}
use Rattle.std.proofs.lemmas.List.{length-take, take_more}
use Rattle.page_statement.specs.Columns.{rows_text}

rows_at_end : {A : Type 0} (row : ℕ → A → List ℕ) (first : ℕ) (xs : List A) (x : A) → rows_text row first (xs ++ (x ∷ [])) ≡ rows_text row first xs ++ row (first + length xs) x
rows_at_end row first [] x = append-nil (row first x) ∙ ap (λ n. row n x) (omega arith)
rows_at_end row first (y ∷ ys) x =
    ap (λ l. row first y ++ l) (rows_at_end row (first + 1) ys x ∙ ap (λ n. rows_text row (first + 1) ys ++ row n x) (omega arith))
    ∙ sym (append_assoc (row first y) (rows_text row (first + 1) ys) (row (first + length (y ∷ ys)) x))

pub rows_more : {A : Type 0} (row : ℕ → A → List ℕ) (xs : List A) (i : ℕ) (d : A) → i < length xs → rows_text row 1 (take i xs) ++ row (i + 1) (get_or xs i d) ≡ rows_text row 1 (take (i + 1) xs)
rows_more row xs i d h =
    ap (λ n. rows_text row 1 (take i xs) ++ row n (get_or xs i d)) (omega (arith, length-take i xs))
    ∙ sym (rows_at_end row 1 (take i xs) (get_or xs i d))
    ∙ ap (rows_text row 1) (sym (take_more xs i d h))
