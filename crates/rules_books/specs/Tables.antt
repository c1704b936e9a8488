-- The meaning of a book, and the limits that every book keeps.
use Rattle.std.specs.Prelude.{◌≡◌, ℕ, ◌-◌, ◌≤◌, List, map, length, Some, Ok, Err, Result, IsErr, slice_get}
use Rattle.rules_positions.specs.declared.Kind.TheVariants.{Units}
use Rattle.rules_positions.specs.declared.record.Record.{Record}
use Rattle.rules_positions.specs.Records.{terms}
use Rattle.rules_articles.specs.declared.Leg.{Leg}
use Rattle.rules_articles.specs.Causes.{leg_number}
use Rattle.rules_books.specs.declared.BookFault.{BookFault}

-- the number of articles; the legs of each; what one unit or contract of a record requires alone, for a contract size;
-- and for a contract size, an article and its leg records, a requirement or a cause with a leg
pub record Tables : Type 0 where
  pub articles : ℕ
  pub legs : ℕ → ℕ
  pub alone : ℕ → Record → ℕ
  pub paired : ℕ → ℕ → List Record → Result ℕ BookFault

-- the book has the article
abbrev pub Has : Tables → ℕ → Type 0
Has t article = (1 ≤ article) × (article ≤ t.articles)

-- a contract has 1 to 1,000 units
abbrev pub IsSize : ℕ → Type 0
IsSize size = (1 ≤ size) × (size ≤ 1000)

-- a requirement is at most 10,000,000,000,000 parts; a cause is from 1 to 255, and a leg, if it names one, is of three by its type
abbrev pub IsAnswer : Result ℕ BookFault → Type 0
IsAnswer (Ok parts) = parts ≤ 10000000000000
IsAnswer (Err fault) = (1 ≤ fault.cause) × (fault.cause ≤ 255)

-- a book has 1 to 16 articles of 2 or 3 legs; its answers keep the limits, for a unit of the underlying alone 10,000,000,000 parts;
-- and the quantity does not matter: what is asked of records that are equal but for it is answered alike
pub record IsLawful (t : Tables) : Type 0 where
  pub some_article : 1 ≤ t.articles
  pub few_articles : t.articles ≤ 16
  pub legs_low : (article : ℕ) → Has t article → 2 ≤ t.legs article
  pub legs_high : (article : ℕ) → Has t article → t.legs article ≤ 3
  pub alone_limit : (size : ℕ) (r : Record) → IsSize size → t.alone size r ≤ 10000000000000
  pub unit_limit : (size : ℕ) (r : Record) → IsSize size → r.kind ≡ Units → t.alone size r ≤ 10000000000
  pub paired_limit : (size article : ℕ) (legs : List Record) → IsSize size → Has t article → length legs ≡ t.legs article → IsAnswer (t.paired size article legs)
  pub alone_alike : (size : ℕ) (r x : Record) → terms r ≡ terms x → t.alone size r ≡ t.alone size x
  pub paired_alike : (size article : ℕ) (legs others : List Record) → map terms legs ≡ map terms others → t.paired size article legs ≡ t.paired size article others

-- the record is that one of the legs
abbrev pub IsAtLeg : Leg → Record → List Record → Type 0
IsAtLeg leg r legs = slice_get legs (leg_number leg - 1) ≡ Some r

-- whatever the contract size and the other legs, every set of the article with the record at that leg is refused
abbrev pub IsRefusedAt : Tables → ℕ → Leg → Record → Type 0
IsRefusedAt t article leg r =
    (size : ℕ) (legs : List Record) → IsSize size → length legs ≡ t.legs article → IsAtLeg leg r legs → IsErr (t.paired size article legs)
