-- A printed text, read back.
use Rattle.std.proofs.Common.{◌≡◌, ℕ, suc, ◌+◌, ◌-◌, ◌*◌, ◌/◌, ◌%◌, ◌^◌, ◌<◌, ◌≤◌, ◌==◌, if◌then◌else◌, nat_lt, ◌&&◌, Bool, true, false, List, [], ◌∷◌, ◌++◌, length, decimal, Some, None, ℤ, pos, negsuc, neg_ℤ, nat_abs, refl, sym, ap, ◌∙◌, append_assoc, arith, rules, tests}
use Rattle.std.specs.Char.{is_ascii_digit}
use Rattle.std.specs.Option.{option_map}
use Rattle.std.proofs.lemmas.Fmt.{decimal_by_steps_wide}
use Rattle.page_money.specs.Digits.{last_digits, comma_before, with_commas}
use Rattle.page_money.specs.Texts.{after_point_text, unsigned_text, dollars_text}
use Rattle.page_money.specs.Reading.{number_after, cents_after_point, dollars_after, parts_written, StandsFor}

is_digit : (d : ℕ) → d < 10 → is_ascii_digit (48 + d) ≡ true
is_digit d h = search rules

digit_read : (n d : ℕ) (cs : List ℕ) → d < 10 → number_after n ((48 + d) ∷ cs) ≡ number_after (n * 10 + d) cs
digit_read n d cs h =
    let e : n * 10 + (48 + d - 48) ≡ n * 10 + d = omega arith in
    rw (is_digit d h) (ap (λ m. number_after m cs) e)

-- digits after digits
read_on : (n v : ℕ) (ds es : List ℕ) → number_after n ds ≡ Some v → number_after n (ds ++ es) ≡ number_after v es
read_on n v [] es e = cc
read_on n v (c ∷ cs) es e = at (is_ascii_digit c) (read_on (n * 10 + (c - 48)) v cs es) e
  where
    at : (b : Bool) → (number_after (n * 10 + (c - 48)) cs ≡ Some v → number_after (n * 10 + (c - 48)) (cs ++ es) ≡ number_after v es) → (if b then number_after (n * 10 + (c - 48)) cs else None) ≡ Some v → (if b then number_after (n * 10 + (c - 48)) (cs ++ es) else None) ≡ number_after v es
    at true ih i = ih i
    at false ih i = absurd cc

-- a number's digits
decimal_read : (n : ℕ) → n < 10 ^ 64 → number_after 0 (decimal n) ≡ Some n
decimal_read n wide = decimal_by_steps_wide (λ m ds. number_after 0 ds ≡ Some m) one more n wide
  where
    one : (m : ℕ) → m < 10 → number_after 0 ((48 + m) ∷ []) ≡ Some m
    one m h =
        let e : 0 * 10 + m ≡ m = omega arith in
        digit_read 0 m [] h ∙ ap Some e

    more : (m : ℕ) (ds : List ℕ) → 10 ≤ m → number_after 0 ds ≡ Some (m / 10) → number_after 0 (ds ++ ((48 + m % 10) ∷ [])) ≡ Some m
    more m ds h e =
        let last : List ℕ = (48 + m % 10) ∷ [] in
        let back : m / 10 * 10 + m % 10 ≡ m = omega arith in
        read_on 0 (m / 10) ds last e ∙ digit_read (m / 10) (m % 10) [] (omega arith) ∙ ap Some back

-- its last two digits
two_read : (m n : ℕ) → number_after m (last_digits 2 n) ≡ Some (m * 100 + n % 100)
two_read m n =
    let x = n / 10 % 10 in
    let y = n % 10 in
    let e : (m * 10 + x) * 10 + y ≡ m * 100 + n % 100 = omega arith in
    digit_read m x ((48 + y) ∷ []) (omega arith) ∙ digit_read (m * 10 + x) y [] (omega arith) ∙ ap Some e

-- its last four
four_read : (m n : ℕ) → number_after m (last_digits 4 n) ≡ Some (m * 10000 + n % 10000)
four_read m n =
    let front : n / 10 / 10 ≡ n / 100 = omega arith in
    let e : (m * 100 + n / 10 / 10 % 100) * 100 + n % 100 ≡ m * 10000 + n % 10000 = omega arith in
    read_on m (m * 100 + n / 10 / 10 % 100) (last_digits 2 (n / 10 / 10)) (last_digits 2 n) (two_read m (n / 10 / 10))
    ∙ two_read (m * 100 + n / 10 / 10 % 100) n ∙ ap Some e

-- what stands after the point
cents_read : (n : ℕ) → cents_after_point (after_point_text n) ≡ Some (n % 1000000)
cents_read n = at (n % 10000 == 0) refl
  where
    at : (b : Bool) → (n % 10000 == 0) ≡ b → cents_after_point (last_digits 2 (n / 10000) ++ (if b then [] else last_digits 4 n)) ≡ Some (n % 1000000)
    at true w =
        let whole : n % 10000 ≡ 0 = search (rules, tests) in
        let e : (0 * 100 + n / 10000 % 100) * 10000 ≡ n % 1000000 = omega arith in
        ap (option_map (λ cents. cents * 10000)) (two_read 0 (n / 10000)) ∙ ap Some e
    at false w =
        let cents = 0 * 100 + n / 10000 % 100 in
        let e : cents * 10000 + n % 10000 ≡ n % 1000000 = omega arith in
        read_on 0 cents (last_digits 2 (n / 10000)) (last_digits 4 n) (two_read 0 (n / 10000)) ∙ four_read cents n ∙ ap Some e

-- a comma is passed over
comma_over : (n k : ℕ) (s : List ℕ) → dollars_after n (comma_before k ++ s) ≡ dollars_after n s
comma_over n k s = at (nat_lt 0 k && k % 3 == 0)
  where
    at : (b : Bool) → dollars_after n ((if b then 44 ∷ [] else []) ++ s) ≡ dollars_after n s
    at true = refl
    at false = refl

not_comma : (c : ℕ) → is_ascii_digit c ≡ true → (c == 44) ≡ false
not_comma c h = search (rules, tests)

not_point : (c : ℕ) → is_ascii_digit c ≡ true → (c == 46) ≡ false
not_point c h = search (rules, tests)

-- digits with commas, up to the point
dollars_read : (n v : ℕ) (ds s : List ℕ) → number_after n ds ≡ Some v → dollars_after n (with_commas ds ++ 46 ∷ s) ≡ option_map (λ parts. v * 1000000 + parts) (cents_after_point s)
dollars_read n v [] s e =
    let same : n ≡ v = cc in
    ap (λ m. option_map (λ parts. m * 1000000 + parts) (cents_after_point s)) same
dollars_read n v (c ∷ cs) s e = at (is_ascii_digit c) refl (dollars_read (n * 10 + (c - 48)) v cs s) e
  where
    at : (b : Bool) → is_ascii_digit c ≡ b → (number_after (n * 10 + (c - 48)) cs ≡ Some v → dollars_after (n * 10 + (c - 48)) (with_commas cs ++ 46 ∷ s) ≡ option_map (λ parts. v * 1000000 + parts) (cents_after_point s)) → (if b then number_after (n * 10 + (c - 48)) cs else None) ≡ Some v → dollars_after n (with_commas (c ∷ cs) ++ 46 ∷ s) ≡ option_map (λ parts. v * 1000000 + parts) (cents_after_point s)
    at true w ih i =
        let rest = with_commas cs ++ 46 ∷ s in
        rw (not_comma c w, not_point c w, w) (ap (dollars_after (n * 10 + (c - 48))) (append_assoc (comma_before (length cs)) (with_commas cs) (46 ∷ s)) ∙ comma_over (n * 10 + (c - 48)) (length cs) rest ∙ ih i)
    at false w ih i = absurd cc

-- an amount of 0 or more
unsigned_read : (n : ℕ) → n < 10 ^ 64 → dollars_after 0 (unsigned_text n) ≡ Some n
unsigned_read n wide =
    let e : n / 1000000 * 1000000 + n % 1000000 ≡ n = omega arith in
    dollars_read 0 (n / 1000000) (decimal (n / 1000000)) (after_point_text n) (decimal_read (n / 1000000) (omega arith))
    ∙ ap (option_map (λ parts. n / 1000000 * 1000000 + parts)) (cents_read n) ∙ ap Some e

-- it has no minus sign
no_sign : (n : ℕ) (s : List ℕ) → dollars_after 0 s ≡ Some n → parts_written s ≡ Some (pos n)
no_sign n [] e = absurd cc
no_sign n (c ∷ cs) e = at (c == 45) refl
  where
    at : (b : Bool) → (c == 45) ≡ b → (if b then option_map (λ parts. neg_ℤ (pos parts)) (dollars_after 0 cs) else option_map pos (dollars_after 0 (c ∷ cs))) ≡ Some (pos n)
    at true w =
        let sign : c ≡ 45 = search (rules, tests) in
        let none : None ≡ Some n = ap (λ d. dollars_after 0 (d ∷ cs)) (sym sign) ∙ e in
        absurd cc
    at false w = ap (option_map pos) e

pub reads_back : (z : ℤ) → nat_abs z < 10 ^ 64 → StandsFor (dollars_text z) z
reads_back (pos n) wide = no_sign n (unsigned_text n) (unsigned_read n wide)
reads_back (negsuc n) wide = ap (option_map (λ parts. neg_ℤ (pos parts))) (unsigned_read (suc n) wide)
