-- A refused call of a file's line, in words, by what the lines before it describe.
use Rattle.std.specs.Prelude.{ℕ, List, ◌++◌, Some, None, codes, decimal}
use Rattle.calls_docket.specs.declared.Refusal.{Refusal}
use Rattle.calls_docket.specs.declared.Refusal.TheVariants.{SizeOutOfRange, FieldOutOfRange, AlreadyHeld, PositionsFull, NoSuchArticle, SetsOutOfRange, NoSuchPosition, PositionTwice, BookRefuses, UnitsShort, ClaimsFull, ClaimTooLarge, NoSuchClaim, MoreThanClaimed, NotOneEach, BeyondLimit, Unfair}
use Rattle.file_head.specs.Rates.{Rates, share, currency, tables_by}
use Rattle.page_wording.specs.Fields.{place_of}
use Rattle.page_refusals.specs.Before.{Before}
use Rattle.page_refusals.specs.Words.{Said, saying}
use Rattle.page_refusals.specs.Sheets.{size_words}
use Rattle.page_refusals.specs.Ranges.{range_words}
use Rattle.page_refusals.specs.Legs.{claim_on, no_position_words, twice_words, short_words, book_words}

-- the book of a sheet's values
abbrev pub book_name : Rates → List ℕ
book_name (share s) = codes "share"
book_name (currency c) = codes "currency"

-- an article that the book has not
abbrev pub no_article_words : Rates → List ℕ → Said
no_article_words rates line =
    saying (Some (place_of line 1))
    (codes "there is no article " ++ decimal (claim_on line).article)
    (codes "the articles of the " ++ (book_name rates ++ (codes " book are 1 to " ++ decimal (tables_by rates).articles)))

-- a position that is entered a second time
abbrev pub held_words : List ℕ → ℕ → Said
held_words line position =
    saying (Some (place_of line 1))
    (codes "position " ++ (decimal position ++ codes " has the same side, kind, strike and days"))
    (codes "a position is entered once, with its whole quantity")

-- marks that are not one for each position
abbrev pub not_one_each_words : ℕ → ℕ → Said
not_one_each_words given held =
    saying None
    (decimal given ++ (codes " marks are given for " ++ (decimal held ++ codes " positions")))
    (codes "there is one mark for each position")

-- a mark beyond its limit
abbrev pub beyond_words : ℕ → Said
beyond_words position =
    saying None
    (codes "the mark of position " ++ (decimal position ++ codes " is beyond its limit"))
    (codes "a mark is within the limit of its position's kind")

-- a refused call by its refusal; a file makes no call of release and none of certify
abbrev pub call_words : Before → List ℕ → Refusal → Said
call_words b line SizeOutOfRange = size_words
call_words b line (FieldOutOfRange field) = range_words b.docket.size line field
call_words b line (AlreadyHeld position) = held_words line position
call_words b line PositionsFull = saying (Some 1) (codes "32 positions are held already") (codes "a docket holds at most 32 positions")
call_words b line NoSuchArticle = no_article_words b.docket.book line
call_words b line SetsOutOfRange = saying (Some (place_of line 5)) (codes "the fifth field (sets) is out of its range") (codes "a claim is for 1 to 5,000 sets")
call_words b line (NoSuchPosition leg) = no_position_words b line leg
call_words b line (PositionTwice leg) = twice_words line leg
call_words b line (BookRefuses fault) = book_words b line fault
call_words b line (UnitsShort leg) = short_words b line leg
call_words b line ClaimsFull = saying (Some 1) (codes "64 lines of claims stand already") (codes "a docket has at most 64 lines of claims")
call_words b line ClaimTooLarge = saying (Some (place_of line 5)) (codes "the line of claims would pass 5,000 sets") (codes "a line of claims has at most 5,000 sets")
call_words b line NoSuchClaim = saying (Some 1) (codes "no line of claims has this article and these legs") (codes "sets are released from a line that stands")
call_words b line MoreThanClaimed = saying (Some (place_of line 5)) (codes "the line of claims has fewer sets") (codes "at most the sets of the line are released")
call_words b line (NotOneEach given held) = not_one_each_words given held
call_words b line (BeyondLimit position) = beyond_words position
call_words b line (Unfair breach) = saying (Some 1) (codes "the marks are not fair") (codes "no mark and no set's marks are above what is required")
