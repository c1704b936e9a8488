-- The floor as it prints.
use Rattle.std.proofs.Common.{◌≡◌, ℤ, Some, None, Option, refl}
use Rattle.std.specs.Fmt.{signed_decimal}
use Rattle.file_writing.specs.Texts.{text_or_none}
use Rattle.answer_docket.specs.Texts.{floor_text}

pub floor_printed : (floor : Option ℤ) → text_or_none (λ z. Some (signed_decimal z)) floor ≡ Some (floor_text floor)
floor_printed (Some floor) = refl
floor_printed None = refl
