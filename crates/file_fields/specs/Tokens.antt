-- What a stretch of bytes is.
use Rattle.std.specs.Prelude.{ℕ, Bool, cond, ◌||◌, List, [], ◌∷◌, Some, None, Option, ◌==◌}
use Rattle.file_fields.specs.declared.tokens.Token.{Token}
use Rattle.file_fields.specs.declared.tokens.Token.TheVariants.{Key, Letter, Number, Separator}
use Rattle.file_fields.specs.Numbers.{is_digit, is_upper, is_lower}

-- a token with its bytes
pub data Word : Type 0 where
  key : List ℕ → Word
  letter : List ℕ → Word
  number : List ℕ → Word
  separator : List ℕ → Word

-- the bytes that a token shows
abbrev pub shown : Token → Word
shown (Key s) = key s.now
shown (Letter s) = letter s.now
shown (Number s) = number s.now
shown (Separator s) = separator s.now

-- a comma, an equals sign, or the byte that ends a line
abbrev pub is_separator : ℕ → Bool
is_separator c = c == 44 || (c == 61 || c == 10)

-- a word begins with a to z, a number with a digit or a minus sign
abbrev pub longer : ℕ → List ℕ → Option Word
longer c cs = cond (is_lower c) (Some (key (c ∷ cs))) (cond (c == 45 || is_digit c) (Some (number (c ∷ cs))) None)

-- a letter and a separator are one byte
abbrev pub word_of : List ℕ → Option Word
word_of [] = None
word_of (c ∷ []) = cond (is_separator c) (Some (separator (c ∷ []))) (cond (is_upper c) (Some (letter (c ∷ []))) (longer c []))
word_of (c ∷ d ∷ cs) = longer c (d ∷ cs)
