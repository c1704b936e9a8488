-- One field after another.
use Rattle.std.proofs.Common.{◌≡◌, slice_get, drop, ℕ, ◌-◌, List, [], ◌∷◌, Some, None, Err, Option, refl, ap, ◌∙◌}
use Rattle.std.specs.Option.{ok_or}
use Rattle.file_fields.specs.Fields.{got, field_at, bad_at, place_after}

module _ {A : Type 0} (reads : List ℕ → Option A) (p : ℕ) where
  -- no field is left
  pub none_left : (fs : List (List ℕ)) → None ≡ slice_get fs 0 → Err (bad_at (p - 1)) ≡ field_at reads p fs
  unfolding field_at
  none_left [] e = refl
  none_left (f ∷ fs) e = cc

  -- a field, with its value or none
  pub value_read : (f : List ℕ) (fs gs : List (List ℕ)) (q : ℕ) (r : Option A) → Some f ≡ slice_get fs 0 → gs ≡ drop 1 fs → q ≡ place_after p fs → r ≡ reads f → got (ok_or r (bad_at p)) q gs ≡ field_at reads p fs
  unfolding field_at
  value_read f [] gs q r e t a v = cc
  value_read f (g ∷ fs) gs q r e t a v =
      let i : f ≡ g = cc in
      λ j. got (ok_or ((v ∙ ap reads i) j) (bad_at p)) (a j) (t j)
