-- The answer to a file.
use Rattle.std.specs.Prelude.{ℕ, Bool, false, cond, List, [], ◌∷◌, length, ℤ, pos, negsuc, Some, None, Ok, Err, Option, Result, ◌==◌}
use Rattle.certificate_certify.specs.declared.Certificate.{Certificate}
use Rattle.calls_docket.specs.declared.Details.{Details}
use Rattle.certificate_certify.specs.declared.CertifyFault.{CertifyFault}
use Rattle.certificate_certify.specs.Certified.{certify_reply}
use Rattle.calls_docket.specs.Refusals.{refusal_number, refusal_details, four_of, from_certify}
use Rattle.calls_docket.specs.Calls.{total_reply}
use Rattle.file_head.specs.declared.faults.ReadFault.{ReadFault}
use Rattle.file_head.specs.Limit.{fits}
use Rattle.file_head.specs.Faults.{fault_number, fault_details}
use Rattle.file_head.specs.Rates.{tables_by}
use Rattle.file_reading.specs.Files.{Content, read_file}
use Rattle.answer_docket.specs.declared.FileFault.{FileFault}
use Rattle.answer_docket.specs.declared.FileFault.TheVariants.{TooLong, Read, Certify}
use Rattle.answer_docket.specs.declared.Summary.{Summary}
use Rattle.answer_docket.specs.declared.Verdict.{Verdict}
use Rattle.answer_docket.specs.declared.Verdict.TheVariants.{Least, Gap, Absent}
use Rattle.file_reading.specs.Files.{docket_described}

-- a refusal from below is held whole
abbrev pub from_read : ReadFault → FileFault
from_read fault = Read fault

-- why certify refuses, as why a file has no figures
abbrev pub from_certificate : CertifyFault → FileFault
from_certificate fault = Certify fault

-- 22: the file is over 65,536 bytes; else the number of reading or of certify
abbrev pub file_number : FileFault → ℕ
file_number TooLong = 22
file_number (Read f) = fault_number f.fault
file_number (Certify f) = refusal_number (from_certify f)

-- and the details of that number
abbrev pub file_details : FileFault → Details
file_details TooLong = four_of 0 0 0 0
file_details (Read f) = fault_details f.line f.fault
file_details (Certify f) = refusal_details (from_certify f)

-- the floor meets the total
abbrev pub meets : ℕ → ℤ → Bool
meets total (pos n) = n == total
meets total (negsuc n) = false

-- least where the floor meets the total, else a gap; none without marks
abbrev pub verdict_of : ℕ → Option ℤ → Verdict
verdict_of total None = Absent
verdict_of total (Some floor) = cond (meets total floor) Least Gap

-- a total, and a floor where there are marks
pub record Figures : Type 0 where
  pub total : ℕ
  pub floor : Option ℤ

-- these two figures
abbrev pub figures : ℕ → Option ℤ → Figures
figures total floor = record { total = total; floor = floor }

-- those of a certificate
abbrev pub of_certificate : Result Certificate CertifyFault → Result Figures CertifyFault
of_certificate (Ok c) = Ok (figures c.total (Some c.floor))
of_certificate (Err f) = Err f

-- without marks nothing is certified
abbrev pub figures_by : Content → List ℤ → Result Figures CertifyFault
figures_by c [] = Ok (figures (total_reply (docket_described c)) None)
figures_by c (z ∷ zs) = of_certificate (certify_reply (docket_described c) (z ∷ zs))

-- positions held and claims standing besides; or why certify refuses
abbrev pub summed : Content → Result Figures CertifyFault → Result Summary FileFault
summed c (Ok f) = Ok (record { positions = length c.tally.held; claims = length c.tally.claims; total = f.total; floor = f.floor })
summed c (Err f) = Err (from_certificate f)

-- the figures of a docket and its marks
abbrev pub summary_in : Content → Result Summary FileFault
summary_in c = summed c (figures_by c c.marks)

-- those of what was read, or the fault of reading
abbrev pub summary_read : Result Content ReadFault → Result Summary FileFault
summary_read (Ok c) = summary_in c
summary_read (Err f) = Err (from_read f)

-- the answer to the bytes of a file; the length is tested first
abbrev pub answer_to : List ℕ → Result Summary FileFault
answer_to file = cond (fits file) (summary_read (read_file file)) (Err TooLong)
