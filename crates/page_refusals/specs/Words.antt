-- What is said of a line that is refused.
use Rattle.std.specs.Prelude.{ℕ, List, Option, string_bytes}
use Rattle.page_refusals.specs.declared.words.Words.{Words}

-- the byte of the line that is marked, from 1, if one is; what is wrong; and what would be right
pub record Said : Type 0 where
  pub place : Option ℕ
  pub wrong : List ℕ
  pub right : List ℕ

-- what words say
abbrev pub said : Words → Said
said w = record { place = w.place; wrong = string_bytes w.wrong; right = string_bytes w.right }

-- with a byte marked, or none
abbrev pub saying : Option ℕ → List ℕ → List ℕ → Said
saying place wrong right = record { place = place; wrong = wrong; right = right }
