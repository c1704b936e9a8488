-- The text of a file, line by line.
use Rattle.std.specs.Prelude.{◌≡◌, ℕ, Bool, true, false, List, [], ◌∷◌, ◌++◌, map, ℤ, Some, None, codes, decimal, Option}
use Rattle.std.specs.List.{flat_map, join_with_byte}
use Rattle.std.specs.Fmt.{signed_decimal}
use Rattle.rules_positions.specs.declared.record.Record.{Record}
use Rattle.rules_positions.specs.Texts.{record_text}
use Rattle.rules_books.specs.declared.sheets.Sheet.{Sheet}
use Rattle.certificate_pairing.specs.declared.Claim.{Claim}
use Rattle.certificate_pairing.specs.Texts.{claim_text}
use Rattle.calls_docket.specs.declared.docket.Docket.{Docket}
use Rattle.file_head.specs.Rates.{Rates, share, currency, rates_on}
use Rattle.file_body.specs.Files.{Content}

-- a line: its key, and its fields with commas (44) between them
abbrev pub line : List ℕ → List (List ℕ) → List ℕ
line key fields = key ++ join_with_byte 44 fields

-- a rate that may be none
abbrev pub rate_text : Option ℕ → List ℕ
rate_text (Some rate) = decimal rate
rate_text None = codes "none"

-- yes or no
abbrev pub reduced_text : Bool → List ℕ
reduced_text true = codes "yes"
reduced_text false = codes "no"

-- the lines of a sheet
abbrev pub sheet_lines : Rates → List (List ℕ)
sheet_lines (share s) =
    line (codes "market=") (codes "share" ∷ [])
    ∷ line (codes "price=") (decimal s.price ∷ [])
    ∷ line (codes "reduced=") (reduced_text s.reduced ∷ [])
    ∷ line (codes "floor=") (decimal s.floor ∷ [])
    ∷ line (codes "futures=") (rate_text s.futures ∷ [])
    ∷ line (codes "tracking=") (rate_text s.tracking ∷ [])
    ∷ []
sheet_lines (currency c) =
    line (codes "market=") (codes "currency" ∷ [])
    ∷ line (codes "price=") (decimal c.price ∷ [])
    ∷ line (codes "spot=") (decimal c.spot ∷ [])
    ∷ []

-- the line of the contract size
abbrev pub size_line : ℕ → List ℕ
size_line size = line (codes "size=") (decimal size ∷ [])

-- the line of a position
abbrev pub position_line : Record → List ℕ
position_line r = codes "pos=" ++ record_text r

-- the line of a claim
abbrev pub claim_line : Claim → List ℕ
claim_line c = codes "claim=" ++ claim_text c

-- the line of a mark
abbrev pub mark_line : ℤ → List ℕ
mark_line mark = codes "mark=" ++ signed_decimal mark

-- all lines, in their order
abbrev pub file_lines : Content → List (List ℕ)
file_lines c = size_line c.size ∷ (sheet_lines c.rates ++ (map position_line c.tally.held ++ (map claim_line c.tally.claims ++ map mark_line c.marks)))

-- a line is ended by byte 10
abbrev pub ended : List ℕ → List ℕ
ended l = l ++ (10 ∷ [])

-- the text of a docket and its marks
abbrev pub file_text : Content → List ℕ
file_text c = flat_map ended (file_lines c)

-- a docket and marks, as a file describes them
abbrev pub described : Docket Sheet → List ℤ → Content
described d marks = record { size = d.size; rates = rates_on d.book; tally = d.tally; marks = marks }

-- each value prints as its text
abbrev pub PrintsAs : {A : Type 0} → (A → Option (List ℕ)) → (A → List ℕ) → Type 0
PrintsAs output text = (x : _) → output x ≡ Some (text x)

-- the text of a value that may be none
abbrev pub text_or_none : {A : Type 0} → (A → Option (List ℕ)) → Option A → Option (List ℕ)
text_or_none output (Some x) = output x
text_or_none output None = Some (codes "none")
