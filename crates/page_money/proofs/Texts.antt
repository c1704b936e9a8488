-- An amount as it is printed, part by part.
use Rattle.std.proofs.Common.{◌≡◌, ◌≢◌, ℕ, ◌+◌, ◌/◌, ◌%◌, ◌==◌, if◌then◌else◌, true, false, List, [], ◌∷◌, ◌++◌, decimal, refl, sym, ap, ◌∙◌, append_assoc, append-nil, arith, rules, tests}
use Rattle.std.specs.Fmt.{HasWritten, IsPlainFormatter}
use Rattle.std.specs.declared.fmt.Formatter.{Formatter}
use Rattle.std.proofs.lemmas.Grind.{put_two}
use Rattle.page_money.specs.declared.dollars.Dollars.{Dollars}
use Rattle.page_money.specs.Amounts.{dollars_amount}
use Rattle.page_money.specs.Digits.{last_digits, with_commas}
use Rattle.page_money.specs.Texts.{dollars_text}
use Rattle.page_money.proofs.Amounts.{sign_text, signed}

-- a text in two writes
pub in_two : {W B : Type 0} {took : W → List ℕ → W → Type 0} {f g h : Formatter W} {a b all : List ℕ} → (IsPlainFormatter f → true ≡ true → HasWritten took f a g) → (IsPlainFormatter g → B → HasWritten took g b h) → a ++ b ≡ all → IsPlainFormatter f → B → HasWritten took f all h
in_two {took} {f} {g} {h} {a} {b} {all} x y e p ok = let front = x p refl in put_two took f g h a b all front (y front.plain ok) e

same_cents : (n : ℕ) → last_digits 2 (n % 1000000 / 10000) ≡ last_digits 2 (n / 10000)
same_cents n =
    let x : n % 1000000 / 10000 / 10 % 10 ≡ n / 10000 / 10 % 10 = omega arith in
    let y : n % 1000000 / 10000 % 10 ≡ n / 10000 % 10 = omega arith in
    λ i. (48 + x i) ∷ (48 + y i) ∷ []

same_rest : (n : ℕ) → last_digits 4 (n % 10000) ≡ last_digits 4 n
same_rest n =
    let w : n % 10000 / 10 / 10 / 10 % 10 ≡ n / 10 / 10 / 10 % 10 = omega arith in
    let x : n % 10000 / 10 / 10 % 10 ≡ n / 10 / 10 % 10 = omega arith in
    let y : n % 10000 / 10 % 10 ≡ n / 10 % 10 = omega arith in
    let z : n % 10000 % 10 ≡ n % 10 = omega arith in
    λ i. (48 + w i) ∷ (48 + x i) ∷ (48 + y i) ∷ (48 + z i) ∷ []

-- an amount up to its two digits of cents
abbrev before_rest : Dollars → List ℕ
before_rest d = sign_text d.negative ++ (with_commas (decimal (d.parts / 1000000)) ++ 46 ∷ last_digits 2 (d.parts % 1000000 / 10000))

-- the whole amount, where it is a whole number of cents and where it is not
pub whole_cents : (d : Dollars) → d.parts % 10000 ≡ 0 → before_rest d ≡ dollars_text (dollars_amount d)
whole_cents d h =
    let n = d.parts in
    let e : (n % 10000 == 0) ≡ true = search (rules, tests) in
    ap (λ l. sign_text d.negative ++ (with_commas (decimal (n / 1000000)) ++ 46 ∷ l)) (same_cents n ∙ sym (append-nil (last_digits 2 (n / 10000))))
    ∙ (λ i. sign_text d.negative ++ (with_commas (decimal (n / 1000000)) ++ 46 ∷ (last_digits 2 (n / 10000) ++ (if sym e i then [] else last_digits 4 n))))
    ∙ signed d

pub with_rest : (d : Dollars) → d.parts % 10000 ≢ 0 → before_rest d ++ last_digits 4 (d.parts % 10000) ≡ dollars_text (dollars_amount d)
with_rest d h =
    let n = d.parts in
    let e : (n % 10000 == 0) ≡ false = search (rules, tests) in
    let sign = sign_text d.negative in
    let dollars = with_commas (decimal (n / 1000000)) in
    append_assoc sign (dollars ++ 46 ∷ last_digits 2 (n % 1000000 / 10000)) (last_digits 4 (n % 10000))
    ∙ ap (λ l. sign ++ l) (append_assoc dollars (46 ∷ last_digits 2 (n % 1000000 / 10000)) (last_digits 4 (n % 10000)))
    ∙ (λ i. sign ++ (dollars ++ 46 ∷ (same_cents n i ++ same_rest n i)))
    ∙ (λ i. sign ++ (dollars ++ 46 ∷ (last_digits 2 (n / 10000) ++ (if sym e i then [] else last_digits 4 n))))
    ∙ signed d
