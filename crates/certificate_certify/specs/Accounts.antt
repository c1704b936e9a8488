-- What an account holds.
use Rattle.certificate_pairing.specs.Dockets.{Docket, docket_by}
use Rattle.certificate_certify.specs.declared.Account.{Account}

-- the docket that an account lends
abbrev pub docket_in : {B : Type 0} → Account B → Docket B
docket_in a = record { book = a.book.now; size = a.size.units; tally = record { held = a.held.now; claims = a.claims.now } }

-- that docket, where something else stands for its book
abbrev pub account_by : {A B : Type 0} → (A → B) → Account A → Docket B
account_by standing a = docket_by standing (docket_in a)
