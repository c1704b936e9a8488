-- A field that is read to what it is the text of.
use Rattle.std.proofs.Common.{◌≡◌, ℕ, List, Some, Option}
use Rattle.file_reading.proofs.Parts.{AtLeast}

-- what is read was written so, and is good; what is good is read again, and its text has no comma and no ending byte
pub record Reads {A : Type 0} (reads : List ℕ → Option A) (text : A → List ℕ) (Good : A → Type 0) : Type 0 where
  pub written : (f : List ℕ) (x : A) → reads f ≡ Some x → text x ≡ f
  pub good : (f : List ℕ) (x : A) → reads f ≡ Some x → Good x
  pub again : (x : A) → Good x → reads (text x) ≡ Some x
  pub bytes : (x : A) → Good x → AtLeast 45 (text x)
