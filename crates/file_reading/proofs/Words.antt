-- Letters and words.
use Rattle.std.proofs.Common.{◌≡◌, ℕ, Bool, true, false, cond, ◌&&◌, eqb, List, [], ◌∷◌, Some, None, codes, decimal, Option, sym, refl, ap, ◌∙◌, arith}
use Rattle.std.specs.Option.{option_map}
use Rattle.std.specs.Str.{bytes_eq}
use Rattle.std.proofs.lemmas.Slice.Eq.{bytes_eq-Decides}
use Rattle.std.proofs.lemmas.Bool.Decides.{nat_tests}
use Rattle.file_fields.specs.Numbers.{is_upper, natural, letter, number_or_none, yes_or_no}
use Rattle.file_head.specs.declared.head.MarketName.{MarketName}
use Rattle.file_head.specs.declared.head.MarketName.TheVariants as name
use Rattle.file_head.specs.Head.{market_name}
use Rattle.file_writing.specs.Texts.{rate_text, reduced_text}
use Rattle.file_reading.proofs.Parts.{AtLeast, least}
use Rattle.file_reading.proofs.Again.{Reads}
use Rattle.file_reading.proofs.Numbers.{Small, Leads, leads, reads_natural}

-- ---- one letter

abbrev pub Upper : ℕ → Type 0
Upper c = is_upper c ≡ true

abbrev pub letter_text : ℕ → List ℕ
letter_text c = c ∷ []

record Lettered (c : ℕ) (f : List ℕ) : Type 0 where
  text : c ∷ [] ≡ f
  upper : Upper c

lettered : (f : List ℕ) (x : ℕ) → letter f ≡ Some x → Lettered x f
lettered [] x e = absurd cc
lettered (c ∷ []) x e = at (is_upper c) refl e
  where
    at : (b : Bool) → is_upper c ≡ b → cond b (Some c) None ≡ Some x → Lettered x (c ∷ [])
    at true u e = let i : c ≡ x = cc in record { text = ap letter_text (sym i); upper = ap is_upper (sym i) ∙ u }
    at false u e = absurd cc
lettered (c ∷ d ∷ cs) x e = absurd cc

pub reads_letter : Reads letter letter_text Upper
reads_letter = record {
  written = λ f x e. (lettered f x e).text;
  good = λ f x e. (lettered f x e).upper;
  again = λ x u. ap (λ b. cond b (Some x) None) u;
  bytes = λ x u. (grind (arith, nat_tests), tt);
}

-- ---- words

-- a word stands for x, and else the others are tried
worded : {A : Type 0} (text : A → List ℕ) (bs w : List ℕ) (x y : A) (other : Option A) → text x ≡ w → (other ≡ Some y → text y ≡ bs) → (b : Bool) → bytes_eq bs w ≡ b → cond b (Some x) other ≡ Some y → text y ≡ bs
worded text bs w x y other is next true s e = let i : x ≡ y = cc in ap text (sym i) ∙ is ∙ sym ((bytes_eq-Decides bs w).0 s)
worded text bs w x y other is next false s e = next e

never : {A : Type 0} {P : Type 0} (x : A) → None ≡ Some x → P
never x e = absurd cc

-- every value is good
abbrev pub Any : {A : Type 0} → A → Type 0
Any x = Unit {0}

pub reads_yes : Reads yes_or_no reduced_text Any
reads_yes = record {
  written = λ f x e.
      worded reduced_text f (codes "yes") true x _ refl
      (worded reduced_text f (codes "no") false x None refl (never x) (bytes_eq f (codes "no")) refl)
      (bytes_eq f (codes "yes")) refl e;
  good = λ f x e. tt;
  again = λ x u. elim x as (λ b. yes_or_no (reduced_text b) ≡ Some b) [ true ↦ refl | false ↦ refl ];
  bytes = λ x u. elim x as (λ b. AtLeast 45 (reduced_text b)) [ true ↦ least 45 (codes "yes") refl | false ↦ least 45 (codes "no") refl ];
}

abbrev pub market_text : MarketName → List ℕ
market_text name.Share = codes "share"
market_text name.Currency = codes "currency"

market_again : (x : MarketName) → market_name (market_text x) ≡ Some x
market_again name.Share = refl
market_again name.Currency = refl

market_bytes : (x : MarketName) → AtLeast 45 (market_text x)
market_bytes name.Share = least 45 (codes "share") refl
market_bytes name.Currency = least 45 (codes "currency") refl

pub reads_market : Reads market_name market_text Any
reads_market = record {
  written = λ f x e.
      worded market_text f (codes "share") name.Share x _ refl
      (worded market_text f (codes "currency") name.Currency x None refl (never x) (bytes_eq f (codes "currency")) refl)
      (bytes_eq f (codes "share")) refl e;
  good = λ f x e. tt;
  again = λ x u. market_again x;
  bytes = λ x u. market_bytes x;
}

-- ---- a number, or none

abbrev pub SmallIfAny : Option ℕ → Type 0
SmallIfAny None = Unit {0}
SmallIfAny (Some n) = Small n

record Rated (x : Option ℕ) (f : List ℕ) : Type 0 where
  text : rate_text x ≡ f
  small : SmallIfAny x

rated : (f : List ℕ) (x : Option ℕ) → (b : Bool) → bytes_eq f (codes "none") ≡ b → (o : Option ℕ) → natural f ≡ o → cond b (Some None) (option_map Some o) ≡ Some x → Rated x f
rated f None true s o q e = record { text = sym ((bytes_eq-Decides f (codes "none")).0 s); small = tt }
rated f (Some n) true s o q e = absurd cc
rated f x false s None q e = never x e
rated f None false s (Some n) q e = absurd cc
rated f (Some m) false s (Some n) q e = let i : n ≡ m = cc in let is : natural f ≡ Some m = cc in record { text = reads_natural.written f m is; small = reads_natural.good f m is }

digit_none : (bs : List ℕ) → Leads bs → bytes_eq bs (codes "none") ≡ false
digit_none bs l =
    let d = l.digit in
    let other : eqb l.first 110 ≡ false = grind (arith, nat_tests) in
    ap (λ ds. bytes_eq ds (codes "none")) l.is ∙ ap (λ b. b && bytes_eq l.others (codes "one")) other

rate_again : (x : Option ℕ) → SmallIfAny x → number_or_none (rate_text x) ≡ Some x
rate_again None h = refl
rate_again (Some n) h =
    ap (λ b. cond b (Some None) (option_map Some (natural (decimal n)))) (digit_none (decimal n) (leads n h))
    ∙ ap (option_map Some) (reads_natural.again n h)

rate_bytes : (x : Option ℕ) → SmallIfAny x → AtLeast 45 (rate_text x)
rate_bytes None h = least 45 (codes "none") refl
rate_bytes (Some n) h = reads_natural.bytes n h

pub reads_rate : Reads number_or_none rate_text SmallIfAny
reads_rate = record {
  written = λ f x e. (rated f x (bytes_eq f (codes "none")) refl (natural f) refl e).text;
  good = λ f x e. (rated f x (bytes_eq f (codes "none")) refl (natural f) refl e).small;
  again = rate_again;
  bytes = rate_bytes;
}
