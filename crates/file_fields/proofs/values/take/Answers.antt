use Rattle.std.proofs.Common.{◌≡◌, slice_get, ◌-◌, Some, None, Err, ap, ◌∙◌, rules}
use Rattle.std.specs.Option.{ok_or}
use Rattle.file_fields.specs.Cursors.{fields_left}
use Rattle.file_fields.specs.Fields.{got, bad_at}
use Rattle.file_fields.proofs.Taking.{none_left, value_read}
use Rattle.file_fields.proofs.values.take.Goals as goal

pub returns-in_err-field : goal.returns-in_err-field
returns-in_err-field g c =
    let s = c.args.f.now in
    let e : None ≡ slice_get (fields_left s) 0 = search rules in
    let r : c.from_residual.result ≡ Err (bad_at (s.place - 1)) = search rules in
    ap (λ x. got x c.take_field.new.self.place (fields_left c.take_field.new.self)) r ∙ none_left g.T.Value.reads s.place (fields_left s) e

pub returns : goal.returns
returns g c =
    let s = c.args.f.now in
    let f = c.in_ok-field.field.now in
    let e : Some f ≡ slice_get (fields_left s) 0 = search rules in
    ap (λ x. got x c.take_field.new.self.place (fields_left c.take_field.new.self)) (c.ok_or-2.ensures.value ∙ ap (λ p. ok_or c.of_field.result (bad_at p)) c.place-place.ensures.value)
    ∙ value_read g.T.Value.reads s.place f (fields_left s) (fields_left c.take_field.new.self) c.take_field.new.self.place c.of_field.result e c.take_field.ensures.rest c.take_field.ensures.place c.of_field.ensures
