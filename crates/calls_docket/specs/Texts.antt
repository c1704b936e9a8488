-- Refusals as text.
use Rattle.std.specs.Prelude.{ℕ, List, ◌++◌, codes, decimal}
use Rattle.calls_docket.specs.declared.Details.{Details}
use Rattle.calls_docket.specs.declared.Refusal.{Refusal}
use Rattle.calls_docket.specs.Refusals.{refusal_number, refusal_details}

-- the four details in decimal, with commas between
abbrev pub details_text : Details → List ℕ
details_text d = decimal d.one ++ (codes "," ++ (decimal d.two ++ (codes "," ++ (decimal d.three ++ (codes "," ++ decimal d.four)))))

-- the number and the details
abbrev pub refusal_text : Refusal → List ℕ
refusal_text r = decimal (refusal_number r) ++ (codes "," ++ details_text (refusal_details r))
