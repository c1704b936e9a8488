-- The answer as text.
use Rattle.std.specs.Prelude.{ℕ, List, ◌++◌, ℤ, Some, None, Ok, Err, codes, decimal, Option, Result}
use Rattle.std.specs.Fmt.{signed_decimal}
use Rattle.calls_docket.specs.declared.Details.{Details}
use Rattle.calls_docket.specs.Texts.{details_text}
use Rattle.answer_docket.specs.declared.FileFault.{FileFault}
use Rattle.answer_docket.specs.declared.Summary.{Summary}
use Rattle.answer_docket.specs.declared.Verdict.{Verdict}
use Rattle.answer_docket.specs.declared.Verdict.TheVariants.{Least, Gap, Absent}
use Rattle.answer_docket.specs.Answers.{file_number, file_details, verdict_of}

-- the verdict in a word
abbrev pub verdict_text : Verdict → List ℕ
verdict_text Least = codes "least"
verdict_text Gap = codes "gap"
verdict_text Absent = codes "none"

-- the floor, or none
abbrev pub floor_text : Option ℤ → List ℕ
floor_text (Some floor) = signed_decimal floor
floor_text None = codes "none"

-- positions held, claims standing, total and floor in parts, verdict; a line each
abbrev pub summary_text : Summary → List ℕ
summary_text s =
    codes "positions=" ++ (decimal s.positions
    ++ (codes "\nclaims=" ++ (decimal s.claims
    ++ (codes "\ntotal=" ++ (decimal s.total
    ++ (codes "\nfloor=" ++ (floor_text s.floor
    ++ (codes "\nverdict=" ++ (verdict_text (verdict_of s.total s.floor) ++ codes "\n")))))))))

-- the number and four details
abbrev pub refused_text : ℕ → Details → List ℕ
refused_text n d =
    codes "refused=" ++ (decimal n ++ (codes "," ++ (details_text d ++ codes "\n")))

-- those of a refusal
abbrev pub fault_text : FileFault → List ℕ
fault_text f = refused_text (file_number f) (file_details f)

-- what a file is answered, or its refusal
abbrev pub answer_text : {A : Type 0} → (A → Option (List ℕ)) → Result A FileFault → Option (List ℕ)
answer_text output (Ok x) = output x
answer_text output (Err f) = Some (fault_text f)
