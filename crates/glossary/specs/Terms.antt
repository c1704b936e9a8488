-- The terms of the margin rules, in the order of the rules, and a sentence for each.
use Rattle.std.specs.Prelude.{ℕ, List, [], ◌∷◌, codes}
use Rattle.glossary.specs.declared.terms.Term.{Term}
use Rattle.glossary.specs.declared.terms.Term.TheVariants.{Part, Requirement, LongRequirement, ShortRequirement, InTheMoney, OutOfTheMoney, TimeValue, CountedTimeValue, LongOption, ShortOption, FloorAmount, Futures, EscrowReceipt, Set, Spread, Straddle, ProtectivePut, Conversion, Reconversion, ReceiptCall, FreeUnits, Total, Mark, Fair, Floor, LawfulPairing, Least}

-- the terms in the order of the screen
abbrev pub all_terms : List Term
all_terms =
    Part
    ∷ Requirement
    ∷ LongRequirement
    ∷ ShortRequirement
    ∷ InTheMoney
    ∷ OutOfTheMoney
    ∷ TimeValue
    ∷ CountedTimeValue
    ∷ LongOption
    ∷ ShortOption
    ∷ FloorAmount
    ∷ Futures
    ∷ EscrowReceipt
    ∷ Set
    ∷ Spread
    ∷ Straddle
    ∷ ProtectivePut
    ∷ Conversion
    ∷ Reconversion
    ∷ ReceiptCall
    ∷ FreeUnits
    ∷ Total
    ∷ Mark
    ∷ Fair
    ∷ Floor
    ∷ LawfulPairing
    ∷ Least
    ∷ []

-- the term itself
abbrev pub name_text : Term → List ℕ
name_text Part = codes "part"
name_text Requirement = codes "requirement"
name_text LongRequirement = codes "long requirement"
name_text ShortRequirement = codes "short requirement"
name_text InTheMoney = codes "in the money"
name_text OutOfTheMoney = codes "out of the money"
name_text TimeValue = codes "time value"
name_text CountedTimeValue = codes "counted time value"
name_text LongOption = codes "long option"
name_text ShortOption = codes "short option"
name_text FloorAmount = codes "floor amount"
name_text Futures = codes "futures"
name_text EscrowReceipt = codes "escrow receipt"
name_text Set = codes "set"
name_text Spread = codes "spread"
name_text Straddle = codes "straddle"
name_text ProtectivePut = codes "protective put"
name_text Conversion = codes "conversion"
name_text Reconversion = codes "reconversion"
name_text ReceiptCall = codes "call on an escrow receipt"
name_text FreeUnits = codes "free units"
name_text Total = codes "total"
name_text Mark = codes "mark"
name_text Fair = codes "fair"
name_text Floor = codes "floor"
name_text LawfulPairing = codes "lawful pairing"
name_text Least = codes "least"

-- its sentence
abbrev pub sentence_text : Term → List ℕ
sentence_text Part = codes "One ten-thousandth of a cent. Cents times a rate in basis points are parts, so nothing is\nrounded."
sentence_text Requirement = codes "What must stand as margin for a position, a set of positions or a whole docket."
sentence_text LongRequirement = codes "What one unit of the underlying held long requires."
sentence_text ShortRequirement = codes "What one unit of the underlying held short requires."
sentence_text InTheMoney = codes "What exercise would bring now, for one unit: the price above the strike for a call, the strike\nabove the price for a put, and 0 where it is not above."
sentence_text OutOfTheMoney = codes "How far exercise is from bringing anything, for one unit: the strike above the price for a call,\nthe price above the strike for a put, and 0 where it is not above."
sentence_text TimeValue = codes "The premium above the amount in the money, and 0 where it is not above."
sentence_text CountedTimeValue = codes "The time value of a long option counts whole, and half of it counts from 270 days to expiry up."
sentence_text LongOption = codes "It requires its counted time value, and the lesser of the long requirement of a unit and the\namount in the money, for each unit of the contract."
sentence_text ShortOption = codes "It requires the greater of two amounts, for each unit of the contract: the premium and the\noption rate of the price less the amount out of the money; or its floor amount."
sentence_text FloorAmount = codes "The premium and the floor rate, of the price for a call and of the strike for a put: a short\noption never requires less."
sentence_text Futures = codes "They require the futures rate of the daily settlement, or all of it where there is no such rate."
sentence_text EscrowReceipt = codes "A receipt for the underlying held in escrow. It requires nothing."
sentence_text Set = codes "What an article pairs: as many units of the underlying as a contract has, and one contract of\nany other leg."
sentence_text Spread = codes "A long and a short option of one kind, the short one expiring no later. It requires the lesser\nof the short option alone and the difference of the strikes."
sentence_text Straddle = codes "A short call and a short put. It requires the greatest of the call alone, the put alone, and the\nput's strike above the call's."
sentence_text ProtectivePut = codes "A long put and long units. It requires the lesser of the units' long requirement and the price\nand the premium less the strike."
sentence_text Conversion = codes "A long put, a short call and long futures that expire together. It requires the greater of the\ntracking rate of the price, and the settlement less the lesser strike with the put's premium\nadded and the call's taken off."
sentence_text Reconversion = codes "A short put, a long call and short futures that expire together. It requires the greater of the\ntracking rate of the price, and the greater strike less the settlement with the call's premium\nadded and the put's taken off."
sentence_text ReceiptCall = codes "A short call and an escrow receipt, on a currency. It requires nothing."
sentence_text FreeUnits = codes "The units entered of a position that no claim takes."
sentence_text Total = codes "What the whole docket requires: its claims at the requirements of their sets, and all free units\nalone."
sentence_text Mark = codes "An amount for one unit or contract of a position, in parts, which may be negative."
sentence_text Fair = codes "Marks are fair where there is one for each position, each within its limit and at most its\nposition's requirement alone, and the marks of what a set takes are never above the set's\nrequirement."
sentence_text Floor = codes "The sum of mark times units entered, over all positions. Of fair marks it lies under the cost of\nevery lawful pairing."
sentence_text LawfulPairing = codes "Allowed sets, each of distinct positions, that together take no more of any position than its\nunits entered. It costs the requirements of its sets and all unused units alone."
sentence_text Least = codes "The word for a total that meets the floor of fair marks: no lawful pairing of the positions\ncosts less."
