-- A docket as the definitions see it.
use Rattle.std.specs.Prelude.{ℕ, List, []}
use Rattle.rules_positions.specs.declared.record.Record.{Record}
use Rattle.certificate_pairing.specs.declared.Claim.{Claim}

-- positions in order of entry, each record with the units entered; and the claims standing, one for each article and legs
pub record Tally : Type 0 where
  pub held : List Record
  pub claims : List Claim

-- nothing entered, nothing claimed
abbrev pub empty : Tally
empty = record { held = []; claims = [] }

-- so much held, and these claims
abbrev pub holding : List Record → List Claim → Tally
holding held claims = record { held = held; claims = claims }

-- the book that it keeps, or what stands for it, as its tables or the values of its sheet; the units of a contract; and the tally
pub record Docket (B : Type 0) : Type 0 where
  pub book : B
  pub size : ℕ
  pub tally : Tally

-- the docket of a book, a contract size and a tally
abbrev pub docket_of : {B : Type 0} → B → ℕ → Tally → Docket B
docket_of book size y = record { book = book; size = size; tally = y }

-- the same docket, where something else stands for its book
abbrev pub docket_by : {A B : Type 0} → (A → B) → Docket A → Docket B
docket_by standing d = record { book = standing d.book; size = d.size; tally = d.tally }
