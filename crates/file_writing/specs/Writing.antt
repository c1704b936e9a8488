-- What writing a text into a buffer answers and leaves.
use Rattle.std.specs.Prelude.{◌≡◌, ℕ, ◌<◌, ◌≤◌, List, ◌++◌, length, drop, Ok, Err, Result}
use Rattle.calls_docket.specs.declared.Details.{Details}
use Rattle.calls_docket.specs.Refusals.{four_of}
use Rattle.file_writing.specs.declared.WriteFault.{WriteFault}
use Rattle.file_writing.specs.declared.WriteFault.TheVariants.{Short, Memory}

-- the text's length, with the text at the front and the bytes after it as they were;
-- or, where the buffer is too short, the bytes that the whole text needs, or no memory to write it in: then the buffer is as it was
abbrev pub IsWritten : List ℕ → List ℕ → Result ℕ WriteFault → List ℕ → Type 0
IsWritten text old (Ok n) new = (n ≡ length text) × (n ≤ length old) × (new ≡ text ++ drop n old)
IsWritten text old (Err (Short n)) new = (n ≡ length text) × (length old < n) × (new ≡ old)
IsWritten text old (Err Memory) new = new ≡ old

-- 21: the buffer is too short; want of memory has no number
abbrev pub write_number : WriteFault → ℕ
write_number (Short needed) = 21
write_number Memory = 0

-- with 21 the bytes needed
abbrev pub write_details : WriteFault → Details
write_details (Short needed) = four_of needed 0 0 0
write_details Memory = four_of 0 0 0 0
