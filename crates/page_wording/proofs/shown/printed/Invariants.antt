use Rattle.std.proofs.Common.{◌≡◌, ◌++◌, map, take, string_bytes}
use Rattle.page_wording.specs.Shown.{shown_byte}
use Rattle.page_wording.proofs.shown.printed.Given as goal

abbrev pub invariant-loop-byte : goal.invariant-loop-byte
invariant-loop-byte l = string_bytes l.out ≡ string_bytes l.initial.out ++ map shown_byte (take l.byte-index l.bytes)
