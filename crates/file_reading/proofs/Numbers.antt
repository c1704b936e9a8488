-- Numbers, with or without a sign.
use Rattle.std.proofs.Common.{◌≡◌, ℕ, zero, suc, ◌+◌, ◌-◌, ◌*◌, ◌^◌, ◌<◌, ◌≤◌, Bool, true, false, cond, eqb, leb, List, [], ◌∷◌, length, get_or, ℤ, pos, negsuc, neg_ℤ, nat_abs, Some, None, decimal, Option, sym, refl, ap, ◌∙◌, subst, ⊎_elim, zero-add, arith}
use native.Mathlib.Nat.{pow-le-pow_right}
use Rattle.std.specs.Option.{option_map}
use Rattle.std.specs.Str.Parse.{AllDigits, digits_value as value, digits_value_after}
use Rattle.std.specs.Char.{digit_value as char_digit_value}
use Rattle.std.specs.Fmt.{signed_decimal}
use Rattle.std.proofs.str.Laws.{order}
use Rattle.std.proofs.lemmas.Fmt.{decimal-digits_value, decimal_digit, decimal_is_IsNumeral, decimal_nonempty, length-decimal-le, first_decimal, digits_decimal}
use Rattle.std.proofs.lemmas.Int.Digits.{digits_value-lt}
use Rattle.std.proofs.lemmas.Str.Parse.{numerals_by_value, tells_digits, digit_from_value}
use Rattle.std.proofs.lemmas.Bool.{eqb-true, eqb-false, ne_eqb}
use Rattle.std.proofs.lemmas.Bool.Decides.{nat_tests}
use Rattle.file_fields.specs.Numbers.{is_digit, digits_after, natural, negative, integer}
use Rattle.file_reading.proofs.Parts.{AtLeast, least_less}
use Rattle.file_reading.proofs.Again.{Reads}

-- at most 15 digits
abbrev pub Small : ℕ → Type 0
Small n = n < 1000000000000000

abbrev pub SmallSigned : ℤ → Type 0
SmallSigned z = Small (nat_abs z)

-- ---- a number that was read

digit_value : (c : ℕ) → is_digit c ≡ true → char_digit_value c ≡ c - 48
digit_value c h = grind (arith, nat_tests)

digits_value : (n m : ℕ) (ds : List ℕ) → digits_after n ds ≡ Some m → AllDigits 10 ds × (m ≡ digits_value_after 10 n ds)
digits_value n m [] e = (tt, cc)
digits_value n m (c ∷ cs) e = step (digits_value (n * 10 + (c - 48)) m cs) (is_digit c) refl e
  where
    step : (digits_after (n * 10 + (c - 48)) cs ≡ Some m → AllDigits 10 cs × (m ≡ digits_value_after 10 (n * 10 + (c - 48)) cs)) → (b : Bool) → is_digit c ≡ b → cond b (digits_after (n * 10 + (c - 48)) cs) None ≡ Some m → AllDigits 10 (c ∷ cs) × (m ≡ digits_value_after 10 n (c ∷ cs))
    step rest true h e =
        let d = digit_value c h in
        let low : c - 48 < 10 = grind (arith, nat_tests) in
        let more = rest e in
        ((omega arith, more.0), more.1 ∙ ap (λ k. digits_value_after 10 (n * 10 + k) cs) (sym d))
    step rest false h e = absurd cc

-- 1 to 15 digits with no leading zero
record Plain (n : ℕ) (ds : List ℕ) : Type 0 where
  same : decimal n ≡ ds
  small : Small n

plain : (ds : List ℕ) (n : ℕ) → length ds ≤ 15 → 0 < length ds → (get_or ds 0 0 ≡ 48 → length ds ≡ 1) → digits_after 0 ds ≡ Some n → Plain n ds
plain ds n most some first e =
    let v = digits_value 0 n ds e in
    let lt = digits_value-lt 10 ds v.0 in
    let p = pow-le-pow_right {n = 10} (omega arith) {i = length ds} {j = 15} most in
    record {
      same = ap decimal v.1 ∙ decimal-digits_value (numerals_by_value (AllDigits 10) tells_digits) ds v.0 some first (omega arith);
      small = omega (arith, v.1);
    }

read : (bs : List ℕ) (n : ℕ) → natural bs ≡ Some n → Plain n bs
read [] n e = absurd cc
read (c ∷ []) n e = step (is_digit c) refl e
  where
    step : (b : Bool) → is_digit c ≡ b → cond b (Some (c - 48)) None ≡ Some n → Plain n (c ∷ [])
    step true h e = plain (c ∷ []) n (omega arith) (omega arith) (λ _. refl) (ap (λ b. cond b (Some (0 * 10 + (c - 48))) None) h ∙ ap Some (zero-add (c - 48)) ∙ e)
    step false h e = absurd cc
read (c ∷ d ∷ cs) n e = step (eqb c 48) refl (leb (length cs) 13) refl e
  where
    step : (b : Bool) → eqb c 48 ≡ b → (k : Bool) → leb (length cs) 13 ≡ k → cond b None (cond k (digits_after 0 (c ∷ d ∷ cs)) None) ≡ Some n → Plain n (c ∷ d ∷ cs)
    step true h k m e = absurd cc
    step false h false m e = absurd cc
    step false h true m e = plain (c ∷ d ∷ cs) n (grind (arith, nat_tests)) (omega arith) (λ is. absurd (grind (arith, nat_tests))) e

-- ---- a number that is written

digit_back : (c : ℕ) → char_digit_value c < 10 → (is_digit c ≡ true) × (char_digit_value c ≡ c - 48)
digit_back c h = let d = digit_from_value c h in (grind (arith, nat_tests, d), grind (arith, nat_tests, d))

value_digits : (n : ℕ) (ds : List ℕ) → AllDigits 10 ds → digits_after n ds ≡ Some (digits_value_after 10 n ds)
value_digits n [] h = refl
value_digits n (c ∷ cs) h =
    let b = digit_back c h.0 in
    ap (λ t. cond t (digits_after (n * 10 + (c - 48)) cs) None) b.0
    ∙ value_digits (n * 10 + (c - 48)) cs h.1
    ∙ ap (λ k. Some (digits_value_after 10 (n * 10 + k) cs)) (sym b.1)

plain_natural : (ds : List ℕ) → AllDigits 10 ds → 0 < length ds → length ds ≤ 15 → (1 < length ds → 48 < get_or ds 0 0) → natural ds ≡ Some (value 10 ds)
plain_natural [] h some most first = absurd (omega arith)
plain_natural (c ∷ []) h some most first =
    let b = digit_back c h.0 in
    ap (λ t. cond t (Some (c - 48)) None) b.0 ∙ ap Some (omega (arith, b.1))
plain_natural (c ∷ d ∷ cs) h some most first =
    let more : eqb c 48 ≡ false = grind (arith, nat_tests, first (omega arith)) in
    let short : leb (length cs) 13 ≡ true = grind (arith, nat_tests) in
    ap (λ t. cond t None (cond (leb (length cs) 13) (digits_after 0 (c ∷ d ∷ cs)) None)) more
    ∙ ap (λ t. cond t (digits_after 0 (c ∷ d ∷ cs)) None) short
    ∙ value_digits 0 (c ∷ d ∷ cs) h

digits_of : (n : ℕ) → n < 2 ^ 64 → AllDigits 10 (decimal n)
digits_of n h = digits_decimal (numerals_by_value (AllDigits 10) tells_digits) n h

reread : (n : ℕ) → Small n → natural (decimal n) ≡ Some n
reread n h =
    let big : n < 2 ^ 64 = omega arith in
    let r = decimal_is_IsNumeral n big in
    plain_natural (decimal n) (digits_of n big) (decimal_nonempty n big)
    (length-decimal-le 15 n (omega arith) (omega arith) big)
    (λ l. ⊎_elim (λ p. first_decimal n p big) (λ none. absurd (omega (arith, ap length (decimal_digit n (omega arith))))) (order 0 n))
    ∙ ap Some r.1

digits_least : (ds : List ℕ) → AllDigits 10 ds → AtLeast 48 ds
digits_least [] h = tt
digits_least (c ∷ cs) h = let b = (digit_back c h.0).0 in (grind (arith, nat_tests), digits_least cs h.1)

-- the first byte of a number is a digit
pub record Leads (ds : List ℕ) : Type 0 where
  pub first : ℕ
  pub others : List ℕ
  pub is : ds ≡ first ∷ others
  pub digit : is_digit first ≡ true

leads_with : (ds : List ℕ) → AllDigits 10 ds → 0 < length ds → Leads ds
leads_with [] h some = absurd (omega arith)
leads_with (c ∷ cs) h some = record { first = c; others = cs; is = refl; digit = (digit_back c h.0).0 }

pub leads : (n : ℕ) → Small n → Leads (decimal n)
leads n h = leads_with (decimal n) (digits_of n (omega arith)) (decimal_nonempty n (omega arith))

pub reads_natural : Reads natural decimal Small
reads_natural = record {
  written = λ f x e. (read f x e).same;
  good = λ f x e. (read f x e).small;
  again = reread;
  bytes = λ x h. least_less 45 48 (decimal x) (omega arith) (digits_least (decimal x) (digits_of x (omega arith)));
}

-- ---- a sign

record Signs (z : ℤ) (bs : List ℕ) : Type 0 where
  same : signed_decimal z ≡ bs
  small : SmallSigned z

module _ (z : ℤ) where
  unsigned : (ds : List ℕ) (o : Option ℕ) → natural ds ≡ o → option_map pos o ≡ Some z → Signs z ds
  unsigned ds (Some n) h e =
      let i : pos n ≡ z = cc in
      let p = read ds n h in
      subst (λ y. Signs y ds) i (record { same = p.same; small = p.small })
  unsigned ds None h e = absurd cc

  minus : (d : ℕ) (ds : List ℕ) (n : ℕ) → eqb d 48 ≡ false → natural (d ∷ ds) ≡ Some n → Signs (neg_ℤ (pos n)) (45 ∷ d ∷ ds)
  minus d ds zero h e =
      let q : 48 ∷ [] ≡ d ∷ ds = sym (decimal_digit 0 (omega arith)) ∙ (read (d ∷ ds) 0 e).same in
      let i : d ≡ 48 = cc in
      absurd (eqb-false d 48 h i)
  minus d ds (suc n) h e = let p = read (d ∷ ds) (suc n) e in record { same = ap (λ l. 45 ∷ l) p.same; small = p.small }

  negated : (ds : List ℕ) → negative ds ≡ Some z → Signs z (45 ∷ ds)
  negated [] e = absurd cc
  negated (d ∷ ds) e = at (eqb d 48) refl (natural (d ∷ ds)) refl e
    where
      at : (b : Bool) → eqb d 48 ≡ b → (o : Option ℕ) → natural (d ∷ ds) ≡ o → cond b None (option_map (λ n. neg_ℤ (pos n)) o) ≡ Some z → Signs z (45 ∷ d ∷ ds)
      at true h o k e = absurd cc
      at false h None k e = absurd cc
      at false h (Some n) k e = let i : neg_ℤ (pos n) ≡ z = cc in subst (λ y. Signs y (45 ∷ d ∷ ds)) i (minus d ds n h k)

  read_signed : (bs : List ℕ) → integer bs ≡ Some z → Signs z bs
  read_signed [] e = absurd cc
  read_signed (c ∷ cs) e = step (eqb c 45) refl e
    where
      step : (b : Bool) → eqb c 45 ≡ b → cond b (negative cs) (option_map pos (natural (c ∷ cs))) ≡ Some z → Signs z (c ∷ cs)
      step true h e = subst (λ d. Signs z (d ∷ cs)) (sym (eqb-true c 45 h)) (negated cs e)
      step false h e = unsigned (c ∷ cs) (natural (c ∷ cs)) refl e

-- digits are no sign
natural_integer : (bs : List ℕ) → Leads bs → integer bs ≡ option_map pos (natural bs)
natural_integer bs l =
    let c = l.first in
    let cs = l.others in
    let d = l.digit in
    let other : eqb c 45 ≡ false = grind (arith, nat_tests) in
    ap integer l.is ∙ ap (λ b. cond b (negative cs) (option_map pos (natural (c ∷ cs)))) other ∙ ap (λ ds. option_map pos (natural ds)) (sym l.is)

-- digits with no leading zero may stand after a minus sign
negative_natural : (bs : List ℕ) → 48 < get_or bs 0 0 → 0 < length bs → negative bs ≡ option_map (λ n. neg_ℤ (pos n)) (natural bs)
negative_natural [] h some = absurd (omega arith)
negative_natural (c ∷ cs) h some = ap (λ b. cond b None (option_map (λ n. neg_ℤ (pos n)) (natural (c ∷ cs)))) (ne_eqb c 48 (λ e. omega arith))

reread_signed : (z : ℤ) → SmallSigned z → integer (signed_decimal z) ≡ Some z
reread_signed (pos n) h = natural_integer (decimal n) (leads n h) ∙ ap (option_map pos) (reread n h)
reread_signed (negsuc n) h =
    negative_natural (decimal (suc n)) (first_decimal (suc n) (omega arith) (omega arith)) (decimal_nonempty (suc n) (omega arith))
    ∙ ap (option_map (λ m. neg_ℤ (pos m))) (reread (suc n) h)

signed_least : (z : ℤ) → SmallSigned z → AtLeast 45 (signed_decimal z)
signed_least (pos n) h = reads_natural.bytes n h
signed_least (negsuc n) h = (omega arith, reads_natural.bytes (suc n) h)

pub reads_integer : Reads integer signed_decimal SmallSigned
reads_integer = record {
  written = λ f x e. (read_signed x f e).same;
  good = λ f x e. (read_signed x f e).small;
  again = reread_signed;
  bytes = signed_least;
}
