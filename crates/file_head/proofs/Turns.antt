-- The next line, by what is left of the file.
use Rattle.std.proofs.Common.{◌≡◌, ℕ, ◌+◌, ◌<◌, List, [], ◌∷◌, length, Some, None, Ok, Err, Option, sym, ap, arith}
use Rattle.std.specs.Option.{ok_or}
use Rattle.file_head.specs.Faults.{on_line, no_line}
use Rattle.file_head.specs.Lines.{next_line}

pub unended : (n : ℕ) (fs : List (List ℕ)) (f : List ℕ) → fs ≡ f ∷ [] → 0 < length f → Err (on_line n no_line) ≡ next_line n fs
unended n fs [] e h = absurd (omega arith)
unended n fs (c ∷ cs) e h = sym (ap (next_line n) e)

pub one_line : (n : ℕ) (fs gs : List (List ℕ)) (f : List ℕ) → fs ≡ f ∷ gs → 0 < length gs → Ok (record { value = Some f; place = n + 1; left = gs }) ≡ next_line n fs
one_line n fs [] f e h = absurd (omega arith)
one_line n fs (g ∷ gs) f e h = sym (ap (next_line n) e)

-- the fault is of an option that is none
pub missed : {A E : Type 0} (o : Option A) (fault x : E) → ok_or o fault ≡ Err x → None ≡ o
missed None fault x e = cc
missed (Some y) fault x e = cc
