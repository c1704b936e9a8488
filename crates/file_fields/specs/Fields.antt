-- The pieces that a byte parts, and the fields of a value, which commas part.
use Rattle.std.specs.Prelude.{ℕ, ◌+◌, ◌-◌, List, [], ◌∷◌, length, Some, None, Ok, Err, Option, Result, ◌==◌}
use Rattle.std.specs.List.{slice_split}
use Rattle.std.specs.Option.{ok_or}
use denote.Ref.{Bor}
use Rattle.file_fields.specs.declared.BadField.{BadField}

-- what each s parts: one piece more than there are s
abbrev pub split : ℕ → List ℕ → List (List ℕ)
split s bs = slice_split (λ c. c == s) bs

-- the fields left in a value: none, or what commas (44) part
abbrev pub remaining : Option (Bor (List ℕ)) → List (List ℕ)
remaining None = []
remaining (Some r) = split 44 r.now

-- how many bytes are left in a value, with the one after it
abbrev pub width : Option (Bor (List ℕ)) → ℕ
width None = 0
width (Some r) = length r.now + 1

-- where the field after the first begins
abbrev pub place_after : ℕ → List (List ℕ) → ℕ
place_after p [] = p
place_after p (f ∷ fs) = p + (length f + 1)

-- what was read, and where reading goes on: the place or the line there, and the pieces left
pub record Got (A : Type 0) : Type 0 where
  pub value : A
  pub place : ℕ
  pub left : List (List ℕ)

-- what was read, with where the reader stands after it
abbrev pub got : {A E : Type 0} → Result A E → ℕ → List (List ℕ) → Result (Got A) E
got (Ok x) n fs = Ok (record { value = x; place = n; left = fs })
got (Err e) n fs = Err e

-- one reading after another: the first fault stands
abbrev pub then_read : {A B E : Type 0} → Result (Got A) E → (A → ℕ → List (List ℕ) → Result B E) → Result B E
then_read (Ok g) next = next g.value g.place g.left
then_read (Err e) next = Err e

-- a field that is bad, missing or too many, by its place in the line
abbrev pub bad_at : ℕ → BadField
bad_at p = record { place = p }

-- the next field, at place p: its value, the place after its comma and the fields left;
-- a missing field has the place of the ending byte, which is where the last field's comma would stand
unfoldable pub field_at : {A : Type 0} → (List ℕ → Option A) → ℕ → List (List ℕ) → Result (Got A) BadField
field_at reads p [] = Err (bad_at (p - 1))
field_at reads p (f ∷ fs) = got (ok_or (reads f) (bad_at p)) (p + (length f + 1)) fs

-- no field is left; a surplus one has its place
abbrev pub end_at : {A : Type 0} → A → ℕ → List (List ℕ) → Result A BadField
end_at x p [] = Ok x
end_at x p (f ∷ fs) = Err (bad_at p)

-- one field and no more
abbrev pub one_field : {A : Type 0} → (List ℕ → Option A) → ℕ → List (List ℕ) → Result A BadField
one_field reads p fs = then_read (field_at reads p fs) end_at
