-- The first piece, and the others.
use Rattle.std.proofs.Common.{◌≡◌, ℕ, suc, ◌+◌, ◌<◌, ◌≤◌, Bool, true, false, cond, eqb, ltb, not, List, [], ◌∷◌, length, take, drop, Some, None, Option, Bor, sym, refl, ap, subst, ◌∙◌, arith}
use borrow.Author.Tests.{ltb-true, ltb-false}
use Rattle.std.specs.List.{position, position_or_len, onto_first}
use Rattle.std.specs.Option.{unwrap_or}
use Rattle.std.specs.Slice.{IsGetRangeResult}
use Rattle.std.proofs.lemmas.List.{take_all}
use Rattle.std.proofs.lemmas.List.Splits.{slice_split_first}
use Rattle.std.proofs.lemmas.Bool.{false≢true}
use Rattle.std.proofs.lemmas.Slice.{between_to_end}
use Rattle.file_fields.specs.Fields.{split, remaining}

-- no s is left
split_last : (s : ℕ) (bs : List ℕ) → length bs ≤ position_or_len (λ c. eqb c s) bs → split s bs ≡ bs ∷ []
split_last s [] h = refl
split_last s (c ∷ cs) h = at (split_last s cs) (eqb c s) h
  where
    at : (length cs ≤ position_or_len (λ b. eqb b s) cs → split s cs ≡ cs ∷ []) → (b : Bool) → suc (length cs) ≤ cond (not b) (1 + position_or_len (λ d. eqb d s) cs) 0 → cond b ([] ∷ split s cs) (onto_first c (split s cs)) ≡ (c ∷ cs) ∷ []
    at k true h = absurd (omega arith)
    at k false h = ap (onto_first c) (k (omega arith))

module _ (s : ℕ) (bs : List ℕ) where
  -- a piece ends at the first s
  pub first_piece : (n : ℕ) → Some n ≡ position (λ c. eqb c s) bs → (n < length bs) × (split s bs ≡ take n bs ∷ split s (drop (n + 1) bs))
  first_piece n p = at (ltb m (length bs)) refl p
    where
      m : ℕ
      m = position_or_len (λ c. eqb c s) bs

      at : (b : Bool) → ltb m (length bs) ≡ b → Some n ≡ cond b (Some m) None → (n < length bs) × (split s bs ≡ take n bs ∷ split s (drop (n + 1) bs))
      at true e q =
          let i : m ≡ n = cc in
          subst (λ k. (k < length bs) × (split s bs ≡ take k bs ∷ split s (drop (k + 1) bs))) i (ltb-true _ _ e, slice_split_first (λ c. eqb c s) bs 0 (ltb-true _ _ e))
      at false e q = cc

  -- or with the list
  pub last_piece : None ≡ position (λ c. eqb c s) bs → split s bs ≡ bs ∷ []
  last_piece p = at (ltb m (length bs)) refl p
    where
      m : ℕ
      m = position_or_len (λ c. eqb c s) bs

      at : (b : Bool) → ltb m (length bs) ≡ b → None ≡ cond b (Some m) None → split s bs ≡ bs ∷ []
      at true e q = cc
      at false e q = split_last s bs (ltb-false _ _ e)

-- one field, and what `get` gives of the others
pub taken : (bs : List ℕ) (o : Option ℕ) (r : Option (Bor (List ℕ))) (n : ℕ) → o ≡ position (λ c. eqb c 44) bs → n ≡ unwrap_or o (length bs) → IsGetRangeResult bs (n + 1) (length bs) r → split 44 bs ≡ take n bs ∷ remaining r
taken bs None None n p u g = last_piece 44 bs p ∙ ap (λ l. l ∷ []) (sym (take_all n bs (omega arith)))
taken bs None (Some x) n p u g = absurd (omega arith)
taken bs (Some k) None n p u g = let h = first_piece 44 bs k p in absurd (false≢true (g.1 (omega arith, omega arith)))
taken bs (Some k) (Some x) n p u g =
    let h = first_piece 44 bs k p in
    let w : x.now ≡ drop (k + 1) bs = g.0.2 ∙ between_to_end bs (n + 1) (length bs) (omega arith) ∙ ap (λ i. drop (i + 1) bs) u in
    h.1 ∙ (λ i. take (sym u i) bs ∷ split 44 (sym w i))
