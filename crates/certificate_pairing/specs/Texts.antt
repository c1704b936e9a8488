-- A claim as text.
use Rattle.std.specs.Prelude.{ℕ, List, [], ◌∷◌, decimal}
use Rattle.std.specs.List.{join_with_byte}
use Rattle.certificate_pairing.specs.declared.Claim.{Claim}

-- its five numbers, with commas (44) between them
abbrev pub claim_text : Claim → List ℕ
claim_text c = join_with_byte 44 (decimal c.article ∷ decimal c.first ∷ decimal c.second ∷ decimal c.third ∷ decimal c.sets ∷ [])
