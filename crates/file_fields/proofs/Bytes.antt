-- A token has the bytes that it was made of.
use Rattle.std.proofs.Common.{◌≡◌, ℕ, Bool, true, false, cond, ◌||◌, eqb, List, [], ◌∷◌, Some, None}
use Rattle.file_fields.specs.Numbers.{is_digit, is_upper, is_lower}
use Rattle.file_fields.specs.Tokens.{Word, key, letter, number, separator, word_of, longer, is_separator}

abbrev pub bytes_of : Word → List ℕ
bytes_of (key s) = s
bytes_of (letter s) = s
bytes_of (number s) = s
bytes_of (separator s) = s

by_longer : (c : ℕ) (cs : List ℕ) (w : Word) → longer c cs ≡ Some w → bytes_of w ≡ c ∷ cs
by_longer c cs w e = at (is_lower c) (eqb c 45 || is_digit c) e
  where
    at : (a b : Bool) → cond a (Some (key (c ∷ cs))) (cond b (Some (number (c ∷ cs))) None) ≡ Some w → bytes_of w ≡ c ∷ cs
    at true b i = cc
    at false true i = cc
    at false false i = cc

pub same_bytes : (f : List ℕ) (w : Word) → word_of f ≡ Some w → bytes_of w ≡ f
same_bytes [] w e = cc
same_bytes (c ∷ []) w e = at (is_separator c) (is_upper c) e
  where
    at : (a b : Bool) → cond a (Some (separator (c ∷ []))) (cond b (Some (letter (c ∷ []))) (longer c [])) ≡ Some w → bytes_of w ≡ c ∷ []
    at true b i = cc
    at false true i = cc
    at false false i = by_longer c [] w i
same_bytes (c ∷ d ∷ cs) w e = by_longer c (d ∷ cs) w e
