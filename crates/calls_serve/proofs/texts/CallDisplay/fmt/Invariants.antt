use Rattle.std.proofs.Common.{◌++◌, codes, take}
use Rattle.std.specs.Fmt.{HasWritten, IsPlainFormatter}
use Rattle.calls_serve.specs.Texts.{marks_text}
use Rattle.calls_serve.proofs.texts.CallDisplay.fmt.Given as goal

abbrev pub invariant-loop-mark : goal.invariant-loop-mark
invariant-loop-mark g l = IsPlainFormatter l.fn.f → HasWritten g.W.Write.write_str_gives l.fn.f (codes "certify" ++ marks_text (take l.mark-index l.mark-items)) l.f
