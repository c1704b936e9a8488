-- An amount by its sign and its size.
use Rattle.std.proofs.Common.{◌≡◌, ℕ, zero, suc, ◌<◌, if◌then◌else◌, Bool, true, false, List, [], ◌∷◌, ◌++◌, pos, neg_ℤ, nat_abs, refl, arith}
use Rattle.page_money.specs.declared.dollars.Dollars.{Dollars}
use Rattle.page_money.specs.Amounts.{dollars_amount}
use Rattle.page_money.specs.Texts.{unsigned_text, dollars_text}

pub size : (d : Dollars) → nat_abs (dollars_amount d) ≡ d.parts
size d = at d.negative d.parts
  where
    at : (b : Bool) (n : ℕ) → nat_abs (if b then neg_ℤ (pos n) else pos n) ≡ n
    at false n = refl
    at true zero = refl
    at true (suc n) = refl

abbrev pub sign_text : Bool → List ℕ
sign_text negative = if negative then 45 ∷ [] else []

-- the sign and the amount without it
pub signed : (d : Dollars) → sign_text d.negative ++ unsigned_text d.parts ≡ dollars_text (dollars_amount d)
signed d = at d.negative d.parts d.nonzero
  where
    at : (b : Bool) (n : ℕ) → (b ≡ true → 0 < n) → sign_text b ++ unsigned_text n ≡ dollars_text (if b then neg_ℤ (pos n) else pos n)
    at false n h = refl
    at true zero h = absurd (let no : 0 < 0 = h refl in omega arith)
    at true (suc n) h = refl
