-- The sample docket: 300 units long, two long puts of strike 48.00 at 1.50, a short call of strike 55.00 at 1.20; two sets of article 4 claimed.
use Rattle.std.specs.Prelude.{◌≡◌, true, List, [], ◌∷◌, ℤ, pos, neg_ℤ, refl}
use Rattle.rules_market.specs.Share.{share_quote}
use Rattle.rules_positions.specs.declared.Side.TheVariants.{Long, Short}
use Rattle.rules_positions.specs.declared.Kind.TheVariants as kind
use Rattle.rules_positions.specs.declared.record.Record.{Record}
use Rattle.rules_positions.specs.Ranges.{in_range}
use Rattle.calls_docket.specs.Tables.{Tables}
use Rattle.calls_docket.specs.Books.{share_tables}
use Rattle.certificate_pairing.specs.declared.Claim.{Claim}
use Rattle.certificate_pairing.specs.Dockets.{Tally, docket_of, Docket}
use Rattle.rules_priced_examples.specs.Examples.{sample, sample_size}

-- the share book over the sample sheet
abbrev pub tables : Tables
tables = share_tables (share_quote sample)

-- the units are in range
pub units_ranged : in_range Long kind.Units 0 0 0 ≡ true
unfolding in_range
units_ranged = refl

-- the put is in range
pub put_ranged : in_range Long kind.Put 4800 100 150 ≡ true
unfolding in_range
put_ranged = refl

-- the call is in range
pub call_ranged : in_range Short kind.Call 5500 100 120 ≡ true
unfolding in_range
call_ranged = refl

-- its positions
abbrev pub units_held : Record
units_held = record { side = Long; kind = kind.Units; strike = 0; days = 0; price = 0; quantity = 300; ranged = units_ranged }

-- the put, with what was entered of it
abbrev pub put_held : Record
put_held = record { side = Long; kind = kind.Put; strike = 4800; days = 100; price = 150; quantity = 2; ranged = put_ranged }

-- the call, with what was entered of it
abbrev pub call_held : Record
call_held = record { side = Short; kind = kind.Call; strike = 5500; days = 100; price = 120; quantity = 1; ranged = call_ranged }

-- its claim: article 4, positions 2 and 1, two sets
abbrev pub claim : Claim
claim = record { article = 4; first = 2; second = 1; third = 0; sets = 2 }

-- what it holds
abbrev pub tally : Tally
tally = record { held = units_held ∷ put_held ∷ call_held ∷ []; claims = claim ∷ [] }

-- the docket itself
abbrev pub sample_docket : Docket Tables
sample_docket = docket_of tables sample_size tally

-- its marks
abbrev pub marks : List ℤ
marks = pos 25000000 ∷ neg_ℤ (pos 2150000000) ∷ pos 2120000000 ∷ []

-- the same with 0 for the put
abbrev pub other_marks : List ℤ
other_marks = pos 25000000 ∷ pos 0 ∷ pos 2120000000 ∷ []
