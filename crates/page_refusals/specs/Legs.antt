-- A claim that is refused for one of its legs, in words.
use Rattle.std.specs.Prelude.{ℕ, ◌+◌, ◌*◌, cond, List, ◌++◌, length, Some, None, codes, decimal, Option, unwrap_or, ◌==◌}
use Rattle.std.specs.Option.{option_and_then}
use Rattle.std.specs.Result.{result_ok, result_unwrap_or}
use Rattle.rules_articles.specs.declared.Article.{Article}
use Rattle.rules_articles.specs.declared.Article.TheVariants.{CallSpread, PutSpread, Straddle, ProtectivePut, Conversion, Reconversion, ReceiptCall}
use Rattle.rules_articles.specs.declared.Leg.{Leg}
use Rattle.rules_articles.specs.declared.Leg.TheVariants.{First, Second, Third}
use Rattle.rules_articles.specs.ByArticle.{leg_count}
use Rattle.rules_articles.specs.Causes.{leg_number}
use Rattle.rules_books.specs.declared.BookFault.{BookFault}
use Rattle.rules_positions.specs.declared.record.Record.{Record}
use Rattle.certificate_pairing.specs.declared.Claim.{Claim}
use Rattle.certificate_pairing.specs.Pairing.{at, lot}
use Rattle.certificate_pairing.specs.Kept.{no_claim}
use Rattle.certificate_pairing.specs.Dockets.{Docket}
use Rattle.calls_docket.specs.Calls.{free_reply}
use Rattle.file_fields.specs.Fields.{split}
use Rattle.file_head.specs.Lines.{strip}
use Rattle.file_body.specs.Values.{claim_at}
use Rattle.page_wording.specs.Fields.{place_of}
use Rattle.page_wording.specs.Names.{side_name, kind_name, article_name, ordinal}
use Rattle.page_refusals.specs.Before.{Before, article_by}
use Rattle.page_refusals.specs.Words.{Said, saying}

-- the claim that a line sends; one of zeros where it sends none
abbrev pub claim_on : List ℕ → Claim
claim_on line = unwrap_or (option_and_then (λ value. result_ok (claim_at 7 (split 44 value))) (strip (codes "claim=") line)) no_claim

-- the number of the position that is a leg
abbrev pub position_of : Claim → Leg → ℕ
position_of c First = c.first
position_of c Second = c.second
position_of c Third = c.third

-- where a leg's field begins: the article stands before the legs
abbrev pub leg_place : List ℕ → Leg → ℕ
leg_place line leg = place_of line (leg_number leg + 1)

-- positions are numbered up to so many
abbrev pub held_text : ℕ → List ℕ
held_text held = cond (held == 0) (codes "no position is held") (codes "positions are numbered 1 to " ++ decimal held)

-- an article of two legs has no third
abbrev pub two_legs_text : Article → List ℕ
two_legs_text article = codes "a " ++ (article_name article ++ codes " has two legs, and the third leg is 0")

-- what would be right for a third leg that is none of the article, or no position
abbrev pub third_right : Option Article → ℕ → List ℕ
third_right (Some article) held = cond (leg_count article == 2) (two_legs_text article) (held_text held)
third_right None held = held_text held

-- what would be right for a leg that is no position
abbrev pub leg_right : Leg → Option Article → ℕ → List ℕ
leg_right First article held = held_text held
leg_right Second article held = held_text held
leg_right Third article held = third_right article held

-- a leg that is no position, or a third one beside two
abbrev pub no_position_words : Before → List ℕ → Leg → Said
no_position_words b line leg =
    saying (Some (leg_place line leg))
    (codes "the " ++ (ordinal (leg_number leg) ++ (codes " leg is " ++ decimal (position_of (claim_on line) leg))))
    (leg_right leg (article_by b.docket.book (claim_on line).article) (length b.docket.tally.held))

-- a position that is a leg twice
abbrev pub twice_words : List ℕ → Leg → Said
twice_words line leg =
    saying (Some (leg_place line leg))
    (codes "position " ++ (decimal (position_of (claim_on line) leg) ++ codes " is named twice"))
    (codes "the legs of a set are distinct positions")

-- what is free of a position; 0 where there is none
abbrev pub free_or_none : {B : Type 0} → Docket B → ℕ → ℕ
free_or_none d position = result_unwrap_or (free_reply d position) 0

-- what some sets take of a position, and what is free of it
abbrev pub short_text : Leg → ℕ → ℕ → ℕ → ℕ → List ℕ
short_text leg sets needed position free =
    codes "too few free units of leg " ++ (decimal (leg_number leg)
    ++ (codes ": " ++ (decimal sets
    ++ (codes " sets take " ++ (decimal needed
    ++ (codes " of position " ++ (decimal position
    ++ (codes ", " ++ (decimal free
    ++ codes " are free")))))))))

-- a position of which too little is free for a claim
abbrev pub short_leg_words : Before → List ℕ → Leg → Claim → ℕ → Said
short_leg_words b line leg c position =
    saying (Some (leg_place line leg))
    (short_text leg c.sets (c.sets * lot b.docket.size b.docket.tally.held position) position (free_or_none b.docket position))
    (codes "a set takes " ++ (decimal b.docket.size ++ codes " units of the underlying, and one contract of any other leg"))

-- a leg of which too little is free
abbrev pub short_words : Before → List ℕ → Leg → Said
short_words b line leg = short_leg_words b line leg (claim_on line) (position_of (claim_on line) leg)

-- what a leg of an article has to be
abbrev pub leg_words : Article → Leg → List ℕ
leg_words CallSpread First = codes "long call"
leg_words CallSpread Second = codes "short call"
leg_words PutSpread First = codes "long put"
leg_words PutSpread Second = codes "short put"
leg_words Straddle First = codes "short call"
leg_words Straddle Second = codes "short put"
leg_words ProtectivePut First = codes "long put"
leg_words ProtectivePut Second = codes "long units"
leg_words Conversion First = codes "long put"
leg_words Conversion Second = codes "short call"
leg_words Conversion Third = codes "long futures"
leg_words Reconversion First = codes "short put"
leg_words Reconversion Second = codes "long call"
leg_words Reconversion Third = codes "short futures"
leg_words ReceiptCall First = codes "short call"
leg_words ReceiptCall Second = codes "escrow receipt"
leg_words article Third = codes "none"

-- what a position is that is a leg of a wrong side or kind
abbrev pub wrong_side_text : Leg → ℕ → List ℕ → List ℕ → List ℕ
wrong_side_text leg position side kind =
    codes "leg " ++ (decimal (leg_number leg)
    ++ (codes " (position " ++ (decimal position
    ++ (codes ") is of a wrong side or kind: " ++ (side
    ++ (codes " " ++ kind))))))

-- a position that is such a leg
abbrev pub wrong_leg_of : List ℕ → Article → Leg → ℕ → Record → Said
wrong_leg_of line article leg position r =
    saying (Some (leg_place line leg))
    (wrong_side_text leg position (side_name r.side) (kind_name r.kind))
    (codes "leg " ++ (decimal (leg_number leg)
    ++ (codes " of a " ++ (article_name article
    ++ (codes ": " ++ leg_words article leg)))))

-- a leg of a wrong side or kind
abbrev pub wrong_leg_words : Before → List ℕ → Article → Leg → Said
wrong_leg_words b line article leg = wrong_leg_of line article leg (position_of (claim_on line) leg) (at b.docket.tally.held (position_of (claim_on line) leg))

-- what would be right for the days of a set
abbrev pub days_right : Article → List ℕ
days_right CallSpread = codes "the short option of a spread expires no later than the long one"
days_right PutSpread = codes "the short option of a spread expires no later than the long one"
days_right article = codes "all legs expire together"

-- days of a leg that do not go with those of the first
abbrev pub wrong_days_words : Before → List ℕ → Article → Leg → Said
wrong_days_words b line article leg =
    saying (Some (leg_place line leg))
    (codes "the days to expiry of leg " ++ (decimal (leg_number leg)
    ++ (codes " are " ++ (decimal (at b.docket.tally.held (position_of (claim_on line) leg)).days
    ++ (codes ", those of leg 1 are " ++ decimal (at b.docket.tally.held (claim_on line).first).days)))))
    (days_right article)

-- an article that needs a tracking rate, where the sheet has none
abbrev pub no_tracking_words : List ℕ → Article → Said
no_tracking_words line article =
    saying (Some (place_of line 1))
    (codes "the sheet has no tracking rate")
    (codes "a " ++ (article_name article ++ codes " needs a tracking rate, on the line of tracking="))

-- a cause of another book
abbrev pub other_cause_words : List ℕ → ℕ → Said
other_cause_words line cause =
    saying (Some (place_of line 1))
    (codes "the book refuses the set by cause " ++ decimal cause)
    (codes "a set that the book allows")

-- the cause of an article that names a leg: 1 its side or kind, 2 its days
abbrev pub leg_cause_words : Before → List ℕ → Article → ℕ → Leg → Said
leg_cause_words b line article cause leg =
    cond (cause == 1) (wrong_leg_words b line article leg) (cond (cause == 2) (wrong_days_words b line article leg) (other_cause_words line cause))

-- the cause of an article: 3 names no leg
abbrev pub cause_words : Before → List ℕ → Article → ℕ → Option Leg → Said
cause_words b line article cause (Some leg) = leg_cause_words b line article cause leg
cause_words b line article cause None = cond (cause == 3) (no_tracking_words line article) (other_cause_words line cause)

-- a set that the book refuses, by its article and the cause
abbrev pub refused_set_words : Before → List ℕ → Option Article → BookFault → Said
refused_set_words b line (Some article) fault = cause_words b line article fault.cause fault.leg
refused_set_words b line None fault = other_cause_words line fault.cause

-- by the article that the line's claim names
abbrev pub book_words : Before → List ℕ → BookFault → Said
book_words b line fault = refused_set_words b line (article_by b.docket.book (claim_on line).article) fault
