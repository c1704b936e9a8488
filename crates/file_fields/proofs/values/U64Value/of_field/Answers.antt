use Rattle.std.proofs.Common.{◌≡◌, Some, ap, ◌∙◌, rules}
use Rattle.file_fields.specs.Numbers.{natural}
use Rattle.file_fields.specs.Tokens.{word_of, number}
use Rattle.file_fields.proofs.Bytes.{same_bytes}
use Rattle.file_fields.proofs.values.U64Value.of_field.Goals as goal

pub returns-in-Number : goal.returns-in-Number
returns-in-Number c =
    let f = c.args.field.now in
    let s = c.in-Number.digits.now in
    let e : word_of f ≡ Some (number s) = search rules in
    c.natural_of.ensures.value ∙ ap natural (same_bytes f (number s) e)
