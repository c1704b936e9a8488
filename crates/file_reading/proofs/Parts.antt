-- Pieces that a byte parts, put together and parted again.
use Rattle.std.proofs.Common.{◌≡◌, ℕ, ◌<◌, ◌≤◌, Bool, true, false, cond, ◌&&◌, eqb, leb, List, [], ◌∷◌, ◌++◌, refl, ap, ◌∙◌, append_assoc, arith}
use Rattle.std.proofs.lemmas.Bool.{eq-eqb, ne_eqb, leb-true, and_parts}
use Rattle.std.specs.List.{flat_map, join_with_byte, onto_first}
use Rattle.file_fields.specs.Fields.{split}
use Rattle.file_writing.specs.Texts.{ended}

-- ---- put together and parted

-- each byte is at least k
abbrev pub AtLeast : ℕ → List ℕ → Type 0
AtLeast k [] = Unit {0}
AtLeast k (c ∷ cs) = (k ≤ c) × AtLeast k cs

-- the same, as a test
abbrev pub at_least : ℕ → List ℕ → Bool
at_least k [] = true
at_least k (c ∷ cs) = leb k c && at_least k cs

pub least : (k : ℕ) (bs : List ℕ) → at_least k bs ≡ true → AtLeast k bs
least k [] h = tt
least k (c ∷ cs) h = let p = and_parts (leb k c) (at_least k cs) h in (leb-true k c p.0, least k cs p.1)

abbrev pub EachAtLeast : ℕ → List (List ℕ) → Type 0
EachAtLeast k [] = Unit {0}
EachAtLeast k (f ∷ fs) = AtLeast k f × EachAtLeast k fs

pub least_append : (k : ℕ) (xs ys : List ℕ) → AtLeast k xs → AtLeast k ys → AtLeast k (xs ++ ys)
least_append k [] ys g h = h
least_append k (x ∷ xs) ys g h = (g.0, least_append k xs ys g.1 h)

pub least_less : (j k : ℕ) (bs : List ℕ) → j ≤ k → AtLeast k bs → AtLeast j bs
least_less j k [] le h = tt
least_less j k (c ∷ cs) le h = (omega (arith, h.0), least_less j k cs le h.1)

pub each_append : (k : ℕ) (xs ys : List (List ℕ)) → EachAtLeast k xs → EachAtLeast k ys → EachAtLeast k (xs ++ ys)
each_append k [] ys g h = h
each_append k (x ∷ xs) ys g h = (g.0, each_append k xs ys g.1 h)

pub least_rejoined : (j k s : ℕ) (fs : List (List ℕ)) → j ≤ k → j ≤ s → EachAtLeast k fs → AtLeast j (join_with_byte s fs)
least_rejoined j k s [] le sep h = tt
least_rejoined j k s (f ∷ []) le sep h = least_less j k f le h.0
least_rejoined j k s (f ∷ g ∷ fs) le sep h = least_append j f (s ∷ join_with_byte s (g ∷ fs)) (least_less j k f le h.0) (sep, least_rejoined j k s (g ∷ fs) le sep h.1)

module _ (s k : ℕ) (above : s < k) where
  other : (c : ℕ) → k ≤ c → eqb c s ≡ false
  other c h = ne_eqb c s (λ e. omega arith)

  split_one : (bs : List ℕ) → AtLeast k bs → split s bs ≡ bs ∷ []
  split_one [] h = refl
  split_one (c ∷ cs) h = ap (λ b. cond b ([] ∷ split s cs) (onto_first c (split s cs))) (other c h.0) ∙ ap (onto_first c) (split_one cs h.1)

  split_more : (bs rest : List ℕ) → AtLeast k bs → split s (bs ++ (s ∷ rest)) ≡ bs ∷ split s rest
  split_more [] rest h = ap (λ b. cond b ([] ∷ split s rest) (onto_first s (split s rest))) (eq-eqb s s refl)
  split_more (c ∷ cs) rest h =
      ap (λ b. cond b ([] ∷ split s (cs ++ (s ∷ rest))) (onto_first c (split s (cs ++ (s ∷ rest))))) (other c h.0)
      ∙ ap (onto_first c) (split_more cs rest h.1)

  pub split_rejoined : (f : List ℕ) (fs : List (List ℕ)) → EachAtLeast k (f ∷ fs) → split s (join_with_byte s (f ∷ fs)) ≡ f ∷ fs
  split_rejoined f [] h = split_one f h.0
  split_rejoined f (g ∷ fs) h = split_more f (join_with_byte s (g ∷ fs)) h.0 ∙ ap (λ l. f ∷ l) (split_rejoined g fs h.1)

-- ---- lines

-- lines that are ended are pieces, with an empty one after the last ending byte
pub ended_rejoined : (ls : List (List ℕ)) → flat_map ended ls ≡ join_with_byte 10 (ls ++ ([] ∷ []))
ended_rejoined [] = refl
ended_rejoined (l ∷ []) = append_assoc l (10 ∷ []) []
ended_rejoined (l ∷ m ∷ ls) = append_assoc l (10 ∷ []) (flat_map ended (m ∷ ls)) ∙ ap (λ t. l ++ (10 ∷ t)) (ended_rejoined (m ∷ ls))

pub split_ended : (ls : List (List ℕ)) → EachAtLeast 11 ls → split 10 (flat_map ended ls) ≡ ls ++ ([] ∷ [])
split_ended [] h = refl
split_ended (l ∷ ls) h = ap (split 10) (ended_rejoined (l ∷ ls)) ∙ split_rejoined 10 11 (omega arith) l (ls ++ ([] ∷ [])) (each_append 11 (l ∷ ls) ([] ∷ []) h (tt, tt))
