-- The values of pos and claim lines, field by field.
use Rattle.std.specs.Prelude.{ℕ, List, Result}
use Rattle.rules_positions.specs.declared.Entry.{Entry}
use Rattle.certificate_pairing.specs.declared.Claim.{Claim}
use Rattle.file_fields.specs.declared.BadField.{BadField}
use Rattle.file_fields.specs.Fields.{then_read, field_at, end_at}
use Rattle.file_fields.specs.Numbers.{natural, letter}

-- side, kind, strike, days, price and quantity
abbrev pub entry_at : ℕ → List (List ℕ) → Result Entry BadField
entry_at p fs =
    then_read (field_at letter p fs) (λ side p fs.
    then_read (field_at letter p fs) (λ kind p fs.
    then_read (field_at natural p fs) (λ strike p fs.
    then_read (field_at natural p fs) (λ days p fs.
    then_read (field_at natural p fs) (λ price p fs.
    then_read (field_at natural p fs) (λ quantity p fs.
    end_at (record { side = side; kind = kind; strike = strike; days = days; price = price; quantity = quantity }) p fs))))))

-- article, three legs and sets
abbrev pub claim_at : ℕ → List (List ℕ) → Result Claim BadField
claim_at p fs =
    then_read (field_at natural p fs) (λ article p fs.
    then_read (field_at natural p fs) (λ first p fs.
    then_read (field_at natural p fs) (λ second p fs.
    then_read (field_at natural p fs) (λ third p fs.
    then_read (field_at natural p fs) (λ sets p fs.
    end_at (record { article = article; first = first; second = second; third = third; sets = sets }) p fs)))))
