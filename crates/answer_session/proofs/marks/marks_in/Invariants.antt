use Rattle.std.proofs.Common.{◌≡◌, ◌++◌, length}
use Rattle.std.specs.Result.{result_map_both}
use Rattle.file_fields.specs.Fields.{split}
use Rattle.file_fields.specs.Cursors.{fields_left}
use Rattle.answer_session.specs.Lines.{marks_at}
use Rattle.answer_session.proofs.marks.marks_in.Given as goal

-- the marks so far, and those that are left, are those of the whole value
abbrev pub invariant-loop-field : goal.invariant-loop-field
invariant-loop-field l = record {
  here : l.at ≡ l.fields.place;
  whole : result_map_both (λ zs. l.marks.items ++ zs) (λ e. e) (marks_at l.at (fields_left l.fields)) ≡ marks_at l.fn.place (split 44 l.fn.value);
}

abbrev pub decreases-loop-field : goal.decreases-loop-field
decreases-loop-field l = length (fields_left l.fields)
