-- Finding a position or a claim that is like another.
use Rattle.std.specs.Prelude.{ℕ, Bool, ◌&&◌, List, Option, ◌==◌, position}
use Rattle.rules_positions.specs.declared.record.Record.{Record}
use Rattle.rules_positions.specs.Kinds.{same_side, same_kind}
use Rattle.certificate_pairing.specs.declared.Claim.{Claim}

-- side, kind, strike and days all alike
abbrev pub like_position : Record → Record → Bool
like_position r x = same_side x.side r.side && (same_kind x.kind r.kind && (x.strike == r.strike && x.days == r.days))

-- article and legs all alike
abbrev pub like_claim : Claim → Claim → Bool
like_claim c x = x.article == c.article && (x.first == c.first && (x.second == c.second && x.third == c.third))

-- the place of the position held already
abbrev pub position_like : List Record → Record → Option ℕ
position_like held r = position (like_position r) held

-- the place of the claim standing that is like it
abbrev pub claim_like : List Claim → Claim → Option ℕ
claim_like claims c = position (like_claim c) claims
