-- The digits of a number as they are printed.
use Rattle.std.proofs.Common.{◌≡◌, ℕ, nat_lt, ◌==◌, ◌&&◌, if◌then◌else◌, zero, suc, ◌+◌, ◌-◌, ◌/◌, ◌%◌, ◌^◌, ◌<◌, ◌≤◌, List, [], ◌∷◌, ◌++◌, length, replicate, decimal, refl, sym, ap, ◌∙◌, inl, inr, append_assoc, append-nil, length-append, arith, rules, tests, true, false, pow-suc}
use Rattle.std.specs.Fmt.{padded_integral, char_count, styled_decimal, format_spec}
use Rattle.std.proofs.lemmas.Fmt.{decimal_digit, decimal_step_wide, length-decimal-le_wide, decimal_is_IsNumeral_wide}
use Rattle.std.proofs.lemmas.List.{replicate-append-replicate}
use Rattle.std.proofs.lemmas.Bool.{cases_lt}
use Rattle.page_money.specs.Digits.{last_digits, with_commas, comma_before}

zeros : (k : ℕ) → last_digits k 0 ≡ replicate k 48
zeros zero = refl
zeros (suc k) =
    let e : k + 1 ≡ suc k = omega arith in
    ap (λ l. l ++ 48 ∷ []) (zeros k) ∙ replicate-append-replicate k 1 48 ∙ ap (λ m. replicate m 48) e

abbrev Padded : ℕ → ℕ → Type 0
Padded k n = replicate (k - length (decimal n)) 48 ++ decimal n ≡ last_digits k n

one_digit : (k n : ℕ) → n < 10 → Padded (suc k) n
one_digit k n low =
    let q : 0 ≡ n / 10 = omega arith in
    let r : n ≡ n % 10 = omega arith in
    let missing : suc k - 1 ≡ k = omega arith in
    ap (λ ds. replicate (suc k - length ds) 48 ++ ds) (decimal_digit n low)
    ∙ ap (λ m. replicate m 48 ++ (48 + n) ∷ []) missing
    ∙ ap (λ l. l ++ (48 + n) ∷ []) (sym (zeros k))
    ∙ (λ i. last_digits k (q i) ++ (48 + r i) ∷ [])

digit_more : (k n : ℕ) → 10 ≤ n → n < 10 ^ 64 → Padded (suc k) (n / 10) → Padded (suc (suc k)) n
digit_more k n high wide h =
    let front = decimal (n / 10) in
    let last : List ℕ = (48 + n % 10) ∷ [] in
    let missing : suc (suc k) - length (front ++ last) ≡ suc k - length front = omega (arith, length-append front last) in
    ap (λ ds. replicate (suc (suc k) - length ds) 48 ++ ds) (decimal_step_wide n high wide)
    ∙ ap (λ m. replicate m 48 ++ (front ++ last)) missing
    ∙ sym (append_assoc (replicate (suc k - length front) 48) front last)
    ∙ ap (λ l. l ++ last) h

-- zeros before a shorter number make its last digits
zeros_before : (k n : ℕ) → n < 10 ^ suc k → n < 10 ^ 64 → Padded (suc k) n
zeros_before zero n h wide = one_digit zero n (omega arith)
zeros_before (suc k) n h wide = elim (cases_lt n 10) [ inl low ↦ one_digit (suc k) n low | inr high ↦ digit_more k n high wide (zeros_before k (n / 10) (omega (arith, pow-suc 10 (suc k))) (omega arith)) ]

-- a number of four digits or more is its thousands and its last three digits
thousands : (n : ℕ) → 1000 ≤ n → n < 10 ^ 64 → decimal n ≡ decimal (n / 1000) ++ last_digits 3 n
thousands n h wide =
    let a : n / 10 / 10 / 10 ≡ n / 1000 = omega arith in
    let x = 48 + n / 10 / 10 % 10 in
    let y = 48 + n / 10 % 10 in
    let z = 48 + n % 10 in
    decimal_step_wide n (omega arith) wide
    ∙ ap (λ l. l ++ z ∷ []) (decimal_step_wide (n / 10) (omega arith) (omega arith))
    ∙ ap (λ l. (l ++ y ∷ []) ++ z ∷ []) (decimal_step_wide (n / 10 / 10) (omega arith) (omega arith))
    ∙ ap (λ q. ((decimal q ++ x ∷ []) ++ y ∷ []) ++ z ∷ []) a
    ∙ ap (λ l. l ++ z ∷ []) (append_assoc (decimal (n / 1000)) (x ∷ []) (y ∷ []))
    ∙ append_assoc (decimal (n / 1000)) (x ∷ y ∷ []) (z ∷ [])

-- a comma stands before the last three digits of more than three
comma_between : (ds : List ℕ) (x y z : ℕ) → 0 < length ds → with_commas (ds ++ (x ∷ y ∷ z ∷ [])) ≡ with_commas ds ++ (44 ∷ x ∷ y ∷ z ∷ [])
comma_between [] x y z h = absurd (omega arith)
comma_between (c ∷ []) x y z h = refl
comma_between (c ∷ d ∷ ds) x y z h =
    let last : List ℕ = x ∷ y ∷ z ∷ [] in
    let n = length (d ∷ ds) in
    let long : length ((d ∷ ds) ++ last) ≡ n + 3 = length-append (d ∷ ds) last in
    let some : nat_lt 0 n ≡ true = search (rules, tests) in
    let more : nat_lt 0 (n + 3) ≡ true = search (rules, tests) in
    let threes : (n + 3) % 3 ≡ n % 3 = omega arith in
    let comma : comma_before (n + 3) ≡ comma_before n = λ i. if (more ∙ sym some) i && threes i == 0 then 44 ∷ [] else [] in
    (λ i. c ∷ ((ap comma_before long ∙ comma) i ++ comma_between (d ∷ ds) x y z (omega arith) i))
    ∙ ap (λ l. c ∷ l) (sym (append_assoc (comma_before n) (with_commas (d ∷ ds)) (44 ∷ last)))

-- what a hole of k digits writes under the option 0
padded : (k n : ℕ) → n < 10 ^ suc k → n < 10 ^ 64 → padded_integral (format_spec 32 0 4 (suc k) (2 ^ 64 - 1)) false [] (decimal n) ≡ last_digits (suc k) n
unfolding padded_integral char_count
padded k n h wide =
    let missing : suc k - length (decimal n) - 0 - 0 ≡ suc k - length (decimal n) = omega arith in
    ap (λ m. replicate m 48 ++ (decimal n ++ [])) missing
    ∙ ap (λ l. replicate (suc k - length (decimal n)) 48 ++ l) (append-nil (decimal n))
    ∙ zeros_before k n h wide

pub digits_printed : (k n : ℕ) (s : _) → s ≡ format_spec 32 0 4 (suc k) (2 ^ 64 - 1) → n < 10 ^ suc k → n < 10 ^ 64 → styled_decimal s n ≡ last_digits (suc k) n
digits_printed k n s e h wide =
    let some : (suc k == 0) ≡ false = search (rules, tests) in
    ap (λ o. styled_decimal o n) e
    ∙ ap (λ b. if b && true && true then decimal n else padded_integral (format_spec 32 0 4 (suc k) (2 ^ 64 - 1)) false [] (decimal n)) some
    ∙ padded k n h wide

-- a number of one to three digits has no comma
no_comma : (ds : List ℕ) → length ds ≤ 3 → with_commas ds ≡ ds
no_comma [] h = refl
no_comma (a ∷ []) h = refl
no_comma (a ∷ b ∷ []) h = refl
no_comma (a ∷ b ∷ c ∷ []) h = refl
no_comma (a ∷ b ∷ c ∷ d ∷ ds) h = absurd (omega arith)

pub below_thousand : (n : ℕ) → n < 1000 → decimal n ≡ with_commas (decimal n)
below_thousand n h = sym (no_comma (decimal n) (length-decimal-le_wide 3 n (omega arith) (omega arith) (omega arith)))

-- thousands, a comma and three digits
pub from_thousand : (n : ℕ) → 1000 ≤ n → n < 10 ^ 64 → with_commas (decimal (n / 1000)) ++ (44 ∷ last_digits 3 (n % 1000)) ≡ with_commas (decimal n)
from_thousand n h wide =
    let x : n % 1000 / 10 / 10 % 10 ≡ n / 10 / 10 % 10 = omega arith in
    let y : n % 1000 / 10 % 10 ≡ n / 10 % 10 = omega arith in
    let z : n % 1000 % 10 ≡ n % 10 = omega arith in
    let q = decimal (n / 1000) in
    (λ i. with_commas q ++ (44 ∷ (48 + x i) ∷ (48 + y i) ∷ (48 + z i) ∷ []))
    ∙ sym (comma_between q (48 + n / 10 / 10 % 10) (48 + n / 10 % 10) (48 + n % 10) (decimal_is_IsNumeral_wide (n / 1000) (omega arith)).0.0)
    ∙ ap with_commas (sym (thousands n h wide))
