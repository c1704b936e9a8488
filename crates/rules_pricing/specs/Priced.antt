-- What is priced: contracts of so many units, in a market of such a quote.
use Rattle.std.specs.Prelude.{ℕ}
use Rattle.rules_market.specs.Quote.{Quote}

-- what the market tells, and the units of a contract
pub record Priced : Type 0 where
  pub quote : Quote
  pub size : ℕ

-- contracts of so many units, in a market of such a quote
abbrev pub contracts_of : Quote → ℕ → Priced
contracts_of q size = record { quote = q; size = size }
