-- The refusals of a docket: the number of each, and what is returned with it.
use Rattle.std.specs.Prelude.{ℕ}
use Rattle.std.specs.Option.{unwrap_or}
use Rattle.rules_positions.specs.declared.RecordFault.{RecordFault}
use Rattle.rules_positions.specs.declared.RecordFault.TheVariants.{OutOfRange}
use Rattle.rules_positions.specs.Refusals.{field_number}
use Rattle.rules_articles.specs.Causes.{leg_number, leg_or_zero}
use Rattle.rules_books.specs.declared.BookFault.{BookFault}
use Rattle.certificate_fairness.specs.declared.Breach.{Breach}
use Rattle.certificate_fairness.specs.declared.Breach.TheVariants as breach
use Rattle.certificate_certify.specs.declared.CertifyFault.{CertifyFault}
use Rattle.certificate_certify.specs.declared.CertifyFault.TheVariants as fault
use Rattle.calls_docket.specs.declared.Details.{Details}
use Rattle.calls_docket.specs.declared.Refusal.{Refusal}
use Rattle.calls_docket.specs.declared.Refusal.TheVariants.{SizeOutOfRange, FieldOutOfRange, AlreadyHeld, PositionsFull, NoSuchArticle, SetsOutOfRange, NoSuchPosition, PositionTwice, BookRefuses, UnitsShort, ClaimsFull, ClaimTooLarge, NoSuchClaim, MoreThanClaimed, NotOneEach, BeyondLimit, Unfair}

-- the number by which a refusal is known
abbrev pub refusal_number : Refusal → ℕ
refusal_number SizeOutOfRange = 1
refusal_number (FieldOutOfRange field) = 2
refusal_number (AlreadyHeld position) = 3
refusal_number PositionsFull = 4
refusal_number NoSuchArticle = 5
refusal_number SetsOutOfRange = 6
refusal_number (NoSuchPosition leg) = 7
refusal_number (PositionTwice leg) = 8
refusal_number (BookRefuses cause) = 9
refusal_number (UnitsShort leg) = 10
refusal_number ClaimsFull = 11
refusal_number ClaimTooLarge = 12
refusal_number NoSuchClaim = 13
refusal_number MoreThanClaimed = 14
refusal_number (NotOneEach given held) = 15
refusal_number (BeyondLimit position) = 16
refusal_number (Unfair breach) = 17

-- up to four details; those that a refusal has not are 0
abbrev pub four_of : ℕ → ℕ → ℕ → ℕ → Details
four_of a b c d = record { one = a; two = b; three = c; four = d }

-- of a breach: the article and its positions; for a position alone 0 and the position
abbrev pub breach_details : Breach → Details
breach_details (breach.Alone p) = four_of 0 p 0 0
breach_details (breach.Set a l) = four_of a l.first l.second (unwrap_or l.third 0)

-- 2 the field; 3 the position; 7, 8 and 10 the leg; 9 the book's cause and leg; 15 the marks given and the positions held;
-- 16 the position; 17 the breach
abbrev pub refusal_details : Refusal → Details
refusal_details SizeOutOfRange = four_of 0 0 0 0
refusal_details (FieldOutOfRange field) = four_of (field_number field) 0 0 0
refusal_details (AlreadyHeld position) = four_of position 0 0 0
refusal_details PositionsFull = four_of 0 0 0 0
refusal_details NoSuchArticle = four_of 0 0 0 0
refusal_details SetsOutOfRange = four_of 0 0 0 0
refusal_details (NoSuchPosition leg) = four_of (leg_number leg) 0 0 0
refusal_details (PositionTwice leg) = four_of (leg_number leg) 0 0 0
refusal_details (BookRefuses cause) = four_of cause.cause (leg_or_zero cause.leg) 0 0
refusal_details (UnitsShort leg) = four_of (leg_number leg) 0 0 0
refusal_details ClaimsFull = four_of 0 0 0 0
refusal_details ClaimTooLarge = four_of 0 0 0 0
refusal_details NoSuchClaim = four_of 0 0 0 0
refusal_details MoreThanClaimed = four_of 0 0 0 0
refusal_details (NotOneEach given held) = four_of given held 0 0
refusal_details (BeyondLimit position) = four_of position 0 0 0
refusal_details (Unfair b) = breach_details b

-- a refusal from below comes up whole
abbrev pub from_record : RecordFault → Refusal
from_record (OutOfRange field) = FieldOutOfRange field

-- the book's cause, as why a call is refused
abbrev pub from_book : BookFault → Refusal
from_book cause = BookRefuses cause

-- why certify refuses, as why a call is refused
abbrev pub from_certify : CertifyFault → Refusal
from_certify (fault.NotOneEach given held) = NotOneEach given held
from_certify (fault.BeyondLimit position) = BeyondLimit position
from_certify (fault.Unfair breach) = Unfair breach
