-- Where a line ends, and parts of a list.
use Rattle.std.proofs.Common.{◌≡◌, ℕ, ◌<◌, Bool, true, false, cond, ltb, not, inl, inr, List, [], length, take, drop, Some, None, Option, Bor, sym, refl, ◌∙◌, arith}
use borrow.Author.Tests.{ltb-false}
use Rattle.std.specs.List.{position, position_or_len}
use Rattle.std.specs.Option.{unwrap_or}
use Rattle.std.specs.Slice.{IsGetRangeResult}
use Rattle.std.proofs.lemmas.List.Sums.{prefix_len-le-length}
use Rattle.std.proofs.lemmas.Slice.{between_to_end, between_from_start}
use Rattle.std.proofs.lemmas.List.{drop_all, take_all}

-- the first place that passes, or the length
pub first_or_len : (p : ℕ → Bool) (bs : List ℕ) (o : Option ℕ) → o ≡ position p bs → unwrap_or o (length bs) ≡ position_or_len p bs
first_or_len p bs o e = at (ltb m (length bs)) refl o e
  where
    m : ℕ
    m = position_or_len p bs

    at : (b : Bool) → ltb m (length bs) ≡ b → (o : Option ℕ) → o ≡ cond b (Some m) None → unwrap_or o (length bs) ≡ m
    at true e (Some n) q = cc
    at true e None q = cc
    at false e (Some n) q = cc
    at false e None q = omega (arith, ltb-false _ _ e, prefix_len-le-length (λ x. not (p x)) bs)

-- what `get` gives of a list from a place on, or nothing
pub rest_from : (bs : List ℕ) (n : ℕ) (r : Option (Bor (List ℕ))) (other : Bor (List ℕ)) → other.now ≡ [] → IsGetRangeResult bs n (length bs) r → (unwrap_or r other).now ≡ drop n bs
rest_from bs n None other none g =
    let past : length bs < n = elim g.0 [ inl h ↦ h | inr h ↦ absurd (omega arith) ] in
    none ∙ sym (drop_all n bs (omega arith))
rest_from bs n (Some x) other none g = g.0.2 ∙ between_to_end bs n (length bs) (omega arith)

-- what it gives of a list up to a place, or the list
pub first_of : (bs : List ℕ) (n : ℕ) (r : Option (Bor (List ℕ))) (other : Bor (List ℕ)) → other.now ≡ bs → IsGetRangeResult bs 0 n r → (unwrap_or r other).now ≡ take n bs
first_of bs n None other all g =
    let past : length bs < n = elim g.0 [ inl h ↦ absurd (omega arith) | inr h ↦ h ] in
    all ∙ sym (take_all n bs (omega arith))
first_of bs n (Some x) other all g = g.0.2 ∙ between_from_start bs n
