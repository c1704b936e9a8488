-- What the body of a file has led to, in code.
use Rattle.std.specs.Prelude.{Ok, Err, Result}
use Rattle.file_body.specs.declared.body.Body.{Body as Taken}
use Rattle.file_body.specs.Body.{Body}

-- the body that was taken so far, in code
abbrev pub body_in : Taken → Body
body_in g = record { tally = g.docket.tally; marks = g.marks.items }

-- what stands after a call that was granted, or its fault
abbrev pub leaving : {A E : Type 0} → Result A E → Body → Result Body E
leaving (Ok x) b = Ok b
leaving (Err e) b = Err e
