-- The amount that a text in dollars and cents stands for.
use Rattle.std.specs.Prelude.{◌≡◌, ℕ, ◌+◌, ◌-◌, ◌*◌, List, [], ◌∷◌, length, ℤ, pos, neg_ℤ, Some, None, Option, ◌==◌, if◌then◌else◌}
use Rattle.std.specs.Option.{option_map}
use Rattle.std.specs.Char.{is_ascii_digit}

-- the number that digits write after n; none at another byte
abbrev pub number_after : ℕ → List ℕ → Option ℕ
number_after n [] = Some n
number_after n (c ∷ cs) = if is_ascii_digit c then number_after (n * 10 + (c - 48)) cs else None

-- what stands after the point, in parts: two digits are cents, six are parts
abbrev pub cents_after_point : List ℕ → Option ℕ
cents_after_point s =
    if length s == 2 then option_map (λ cents. cents * 10000) (number_after 0 s)
    else (if length s == 6 then number_after 0 s else None)

-- the amount where n dollars have been read: a comma (44) is passed over, and after the point (46) stand the cents
abbrev pub dollars_after : ℕ → List ℕ → Option ℕ
dollars_after n [] = None
dollars_after n (c ∷ cs) =
    if c == 44 then dollars_after n cs
    else (if c == 46 then option_map (λ parts. n * 1000000 + parts) (cents_after_point cs)
    else (if is_ascii_digit c then dollars_after (n * 10 + (c - 48)) cs else None))

-- a minus sign (45) makes the amount negative
abbrev pub parts_written : List ℕ → Option ℤ
parts_written [] = None
parts_written (c ∷ cs) =
    if c == 45 then option_map (λ parts. neg_ℤ (pos parts)) (dollars_after 0 cs)
    else option_map pos (dollars_after 0 (c ∷ cs))

-- the text, read back, is the amount
abbrev pub StandsFor : List ℕ → ℤ → Type 0
StandsFor text parts = parts_written text ≡ Some parts
