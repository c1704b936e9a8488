-- Numbers and words, by the bytes that write them.
use Rattle.std.specs.Prelude.{ℕ, ◌+◌, ◌-◌, ◌*◌, Bool, true, false, cond, ◌&&◌, List, [], ◌∷◌, length, ℤ, pos, neg_ℤ, Some, None, codes, Option, ◌==◌, nat_le}
use Rattle.std.specs.Option.{option_map}
use Rattle.std.specs.Str.{bytes_eq}

-- 0 to 9
abbrev pub is_digit : ℕ → Bool
is_digit c = nat_le 48 c && nat_le c 57

-- A to Z
abbrev pub is_upper : ℕ → Bool
is_upper c = nat_le 65 c && nat_le c 90

-- a to z
abbrev pub is_lower : ℕ → Bool
is_lower c = nat_le 97 c && nat_le c 122

-- the number that digits write after n
abbrev pub digits_after : ℕ → List ℕ → Option ℕ
digits_after n [] = Some n
digits_after n (c ∷ cs) = cond (is_digit c) (digits_after (n * 10 + (c - 48)) cs) None

-- a number has 1 to 15 digits, and no leading zero
abbrev pub natural : List ℕ → Option ℕ
natural [] = None
natural (c ∷ []) = cond (is_digit c) (Some (c - 48)) None
natural (c ∷ d ∷ cs) = cond (c == 48) None (cond (nat_le (length cs) 13) (digits_after 0 (c ∷ d ∷ cs)) None)

-- what may stand after a minus sign: a number, but not 0
abbrev pub negative : List ℕ → Option ℤ
negative [] = None
negative (c ∷ cs) = cond (c == 48) None (option_map (λ n. neg_ℤ (pos n)) (natural (c ∷ cs)))

-- a number before which a minus sign (45) may stand
abbrev pub integer : List ℕ → Option ℤ
integer [] = None
integer (c ∷ cs) = cond (c == 45) (negative cs) (option_map pos (natural (c ∷ cs)))

-- one letter, A to Z
abbrev pub letter : List ℕ → Option ℕ
letter [] = None
letter (c ∷ []) = cond (is_upper c) (Some c) None
letter (c ∷ d ∷ cs) = None

-- a number, or the word none
abbrev pub number_or_none : List ℕ → Option (Option ℕ)
number_or_none bs = cond (bytes_eq bs (codes "none")) (Some None) (option_map Some (natural bs))

-- yes or no
abbrev pub yes_or_no : List ℕ → Option Bool
yes_or_no bs = cond (bytes_eq bs (codes "yes")) (Some true) (cond (bytes_eq bs (codes "no")) (Some false) None)
