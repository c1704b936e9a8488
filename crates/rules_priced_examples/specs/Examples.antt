-- A table of priced examples, and what it says.
use Rattle.std.specs.Prelude.{◌≡◌, ℕ, false, List, [], ◌∷◌, Some, Ok, Err}
use Rattle.rules_market.specs.Share.{Shares, share_quote}
use Rattle.rules_positions.specs.declared.Side.{Side}
use Rattle.rules_positions.specs.declared.Side.TheVariants.{Long, Short}
use Rattle.rules_positions.specs.declared.Kind.{Kind}
use Rattle.rules_positions.specs.declared.Kind.TheVariants.{Units, Call, Put, Futures}
use Rattle.rules_positions.specs.Records.{Terms}
use Rattle.rules_pricing.specs.Alone.{alone}
use Rattle.rules_articles.specs.declared.Leg.TheVariants.{First, Second, Third}
use Rattle.rules_articles.specs.declared.ArticleFault.{ArticleFault}
use Rattle.rules_articles.specs.declared.ArticleFault.TheVariants.{WrongLeg, WrongDays}
use Rattle.rules_articles.specs.ByArticle.{requirement_of}
use Rattle.rules_books.specs.Books.{share_article}
use Rattle.rules_pricing.specs.Priced.{contracts_of}

-- contracts of 100 units
abbrev pub sample_size : ℕ
sample_size = 100

-- the sample sheet
abbrev pub sample : Shares
sample = record { price = 5000; reduced = false; floor = 500; futures = Some 2000; tracking = Some 150 }

-- a position priced alone, or a set under an article of the share book; and its parts, or why the article refuses it
pub data Example : Type 0 where
  position : Terms → ℕ → Example
  set : ℕ → List Terms → ℕ → Example
  refused : ℕ → List Terms → ArticleFault → Example

-- the terms of a position
abbrev pub held : Side → Kind → ℕ → ℕ → ℕ → Terms
held side kind strike days price = record { side = side; kind = kind; strike = strike; days = days; price = price }

-- the table, row by row
abbrev pub rows : List Example
rows =
    position (held Short Call 5500 100 120) 2120000000
    ∷ position (held Short Call 9000 100 5) 255000000
    ∷ position (held Long Call 4500 269 620) 620000000
    ∷ position (held Long Call 4500 270 620) 560000000
    ∷ set 1 (held Long Call 5500 100 120 ∷ held Short Call 5000 100 300 ∷ []) 500000000
    ∷ set 3 (held Short Call 5500 100 120 ∷ held Short Put 5200 100 350 ∷ []) 2850000000
    ∷ set 4 (held Long Put 4800 100 150 ∷ held Long Units 0 0 0 ∷ []) 350000000
    ∷ set 5 (held Long Put 5000 100 180 ∷ held Short Call 5100 100 140 ∷ held Long Futures 0 100 5060 ∷ []) 100000000
    ∷ set 6 (held Short Put 5000 100 180 ∷ held Long Call 5100 100 140 ∷ held Short Futures 0 100 5060 ∷ []) 75000000
    ∷ refused 1 [] (WrongLeg First)
    ∷ refused 1 (held Long Call 5500 100 120 ∷ []) (WrongLeg Second)
    ∷ refused 1 (held Long Call 5500 100 120 ∷ held Short Call 5000 101 300 ∷ []) (WrongDays Second)
    ∷ refused 3 (held Short Call 5500 100 120 ∷ held Long Put 5200 100 350 ∷ []) (WrongLeg Second)
    ∷ refused 4 (held Long Put 4800 100 150 ∷ held Long Units 0 0 0 ∷ held Long Units 0 0 0 ∷ []) (WrongLeg Third)
    ∷ refused 5 (held Long Put 5000 100 180 ∷ held Short Call 5100 100 140 ∷ []) (WrongLeg Third)
    ∷ refused 5 (held Long Put 5000 100 180 ∷ held Long Call 5100 100 140 ∷ held Long Futures 0 100 5060 ∷ []) (WrongLeg Second)
    ∷ refused 6 (held Short Put 5000 100 180 ∷ held Long Call 5100 100 140 ∷ held Short Futures 0 99 5060 ∷ []) (WrongDays Third)
    ∷ []

-- the rules give the parts, or the cause and its leg
abbrev pub Comes : Example → Type 0
Comes (position t parts) = alone (contracts_of (share_quote sample) sample_size) t ≡ parts
Comes (set article legs parts) = requirement_of (contracts_of (share_quote sample) sample_size) (share_article article) legs ≡ Ok parts
Comes (refused article legs fault) = requirement_of (contracts_of (share_quote sample) sample_size) (share_article article) legs ≡ Err fault

-- each row comes out
abbrev pub AllCome : List Example → Type 0
AllCome [] = Unit {0}
AllCome (row ∷ more) = Comes row × AllCome more

-- the whole table comes out
abbrev pub TableComes : Type 0
TableComes = AllCome rows
