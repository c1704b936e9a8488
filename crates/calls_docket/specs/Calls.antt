-- The reply to each call, and the tally after it. A call that asks the book takes the docket by its book's tables.
use Rattle.std.specs.Prelude.{ℕ, ◌+◌, ◌-◌, ◌*◌, Bool, true, false, cond, not, ◌||◌, List, [], ◌∷◌, ◌++◌, length, get_or, remove, ℤ, Some, None, Ok, Err, Option, Result, ◌==◌, nat_le, nat_lt, slice_index_or, slice_set}
use Rattle.std.specs.Result.{result_map_both}
use Rattle.rules_amounts.specs.Ranges.{inside}
use Rattle.rules_positions.specs.declared.Entry.{Entry}
use Rattle.rules_positions.specs.declared.RecordFault.{RecordFault}
use Rattle.rules_positions.specs.declared.record.Record.{Record}
use Rattle.rules_positions.specs.Records.{record_of}
use Rattle.rules_articles.specs.declared.Leg.{Leg}
use Rattle.rules_articles.specs.declared.Leg.TheVariants.{First, Second, Third}
use Rattle.rules_books.specs.declared.BookFault.{BookFault}
use Rattle.rules_books.specs.Tables.{Tables}
use Rattle.certificate_pairing.specs.declared.Claim.{Claim}
use Rattle.certificate_pairing.specs.Pairing.{lot}
use Rattle.certificate_pairing.specs.Dockets.{Tally, Docket}
use Rattle.certificate_pairing.specs.Claims.{set_of, answer_in}
use Rattle.certificate_pairing.specs.Kept.{no_claim, with_sets}
use Rattle.certificate_certify.specs.declared.Certificate.{Certificate}
use Rattle.certificate_certify.specs.Totals.{free, computed_total}
use Rattle.certificate_certify.specs.Certified.{certify_reply}
use Rattle.calls_docket.specs.declared.Refusal.{Refusal}
use Rattle.calls_docket.specs.declared.Refusal.TheVariants.{AlreadyHeld, PositionsFull, NoSuchArticle, SetsOutOfRange, NoSuchPosition, PositionTwice, UnitsShort, ClaimsFull, ClaimTooLarge, NoSuchClaim, MoreThanClaimed}
use Rattle.calls_docket.specs.Refusals.{from_record, from_book, from_certify}
use Rattle.calls_docket.specs.Finding.{position_like, claim_like}

-- passed, or a refusal
abbrev pub Verdict : Type 0
Verdict = Result (Unit {0}) Refusal

-- passed
abbrev pub good : Verdict
good = Ok tt

-- refused unless the test holds
abbrev pub unless : {A : Type 0} → Bool → Refusal → Result A Refusal → Result A Refusal
unless true refusal next = next
unless false refusal next = Err refusal

-- the first refusal stands
abbrev pub if_good : {A : Type 0} → Verdict → Result A Refusal → Result A Refusal
if_good (Ok passed) next = next
if_good (Err refusal) next = Err refusal

-- ---- enter

-- held already: 3; 32 held: 4; else the position's number
abbrev pub number_reply : List Record → Option ℕ → Result ℕ Refusal
number_reply held (Some i) = Err (AlreadyHeld (i + 1))
number_reply held None = unless (nat_lt (length held) 32) PositionsFull (Ok (length held + 1))

-- a field outside its range: 2
abbrev pub record_reply : List Record → Result Record RecordFault → Result ℕ Refusal
record_reply held (Err fault) = Err (from_record fault)
record_reply held (Ok r) = number_reply held (position_like held r)

-- the record is judged first
abbrev pub enter_reply : ℕ → Tally → Entry → Result ℕ Refusal
enter_reply size y e = record_reply y.held (record_of size e)

-- a granted enter adds the position
abbrev pub tally_entered : Tally → Result Record RecordFault → Result ℕ Refusal → Tally
tally_entered y (Err fault) reply = y
tally_entered y (Ok r) (Err refusal) = y
tally_entered y (Ok r) (Ok n) = record { held = y.held ++ (r ∷ []); claims = y.claims }

-- the tally after an enter
abbrev pub after_enter : ℕ → Tally → Entry → Tally
after_enter size y e = tally_entered y (record_of size e) (enter_reply size y e)

-- ---- claim

-- sets outside 1 to 5,000: 6
abbrev pub sets_ok : Claim → Verdict
sets_ok c = unless (inside 1 5000 c.sets) SetsOutOfRange good

-- article 0 or beyond the book: 5; and the sets
abbrev pub article_ok : ℕ → Claim → Verdict
article_ok articles c = unless (inside 1 articles c.article) NoSuchArticle (sets_ok c)

-- no such position: 7, and the leg
abbrev pub position_ok : ℕ → Leg → ℕ → Verdict
position_ok count leg p = unless (inside 1 count p) (NoSuchPosition leg) good

-- a third leg that is needed, or none
abbrev pub third_ok : ℕ → ℕ → ℕ → Bool
third_ok count legs third = cond (legs == 2) (third == 0) (inside 1 count third)

-- no such position, or a needless third leg: 7, legs 1, 2 and 3 in order
abbrev pub positions_ok : ℕ → ℕ → Claim → Verdict
positions_ok count legs c =
    unless (inside 1 count c.first) (NoSuchPosition First)
    (unless (inside 1 count c.second) (NoSuchPosition Second)
    (unless (third_ok count legs c.third) (NoSuchPosition Third) good))

-- a position twice: 8
abbrev pub apart_ok : Claim → Verdict
apart_ok c =
    unless (not (c.second == c.first)) (PositionTwice Second)
    (unless (not (c.third == c.first || c.third == c.second)) (PositionTwice Third) good)

-- the book refuses: 9
abbrev pub book_ok : Result ℕ BookFault → Verdict
book_ok (Ok parts) = good
book_ok (Err fault) = Err (from_book fault)

-- enough is free of a leg for all sets
abbrev pub covers : {B : Type 0} → Docket B → Claim → ℕ → Bool
covers d c p = nat_le (c.sets * lot d.size d.tally.held p) (free d p)

-- free units short of a leg: 10, and the leg
abbrev pub leg_covered : {B : Type 0} → Docket B → Claim → Leg → ℕ → Verdict
leg_covered d c leg p = unless (covers d c p) (UnitsShort leg) good

-- free units short: 10, legs 1, 2 and 3 in order
abbrev pub covered_ok : {B : Type 0} → Docket B → Claim → Verdict
covered_ok d c =
    unless (covers d c c.first) (UnitsShort First)
    (unless (covers d c c.second) (UnitsShort Second)
    (unless (c.third == 0 || covers d c c.third) (UnitsShort Third) good))

-- a claim past 5,000 sets: 12; else the sets then in it
abbrev pub sets_added : Claim → Claim → Result ℕ Refusal
sets_added standing c = unless (nat_le (standing.sets + c.sets) 5000) ClaimTooLarge (Ok (standing.sets + c.sets))

-- a new claim where 64 stand: 11; else the sets then in it
abbrev pub sets_reply : List Claim → Option ℕ → Claim → Result ℕ Refusal
sets_reply claims None c = unless (nat_lt (length claims) 64) ClaimsFull (Ok c.sets)
sets_reply claims (Some i) c = sets_added (get_or claims i no_claim) c

-- all that can refuse a claim before one like it is looked for
abbrev pub claim_judged : Docket Tables → Claim → Verdict
claim_judged d c =
    if_good (article_ok d.book.articles c)
    (if_good (positions_ok (length d.tally.held) (d.book.legs c.article) c)
    (if_good (apart_ok c)
    (if_good (book_ok (answer_in d (set_of c)))
    (covered_ok d c))))

-- judged first, and then added
abbrev pub claim_reply : Docket Tables → Claim → Result ℕ Refusal
claim_reply d c = if_good (claim_judged d c) (sets_reply d.tally.claims (claim_like d.tally.claims c) c)

-- so many sets in the claim that stands, or a new one
abbrev pub claims_with : List Claim → Option ℕ → Claim → ℕ → List Claim
claims_with claims None c n = claims ++ (with_sets c n ∷ [])
claims_with claims (Some i) c n = slice_set claims i (with_sets (slice_index_or claims i no_claim) n)

-- a granted claim adds its sets to the one like it
abbrev pub tally_claimed : Tally → Claim → Result ℕ Refusal → Tally
tally_claimed y c (Err refusal) = y
tally_claimed y c (Ok n) = record { held = y.held; claims = claims_with y.claims (claim_like y.claims c) c n }

-- the tally after a claim
abbrev pub after_claim : Docket Tables → Claim → Tally
after_claim d c = tally_claimed d.tally c (claim_reply d c)

-- ---- release

-- more than the claim has: 14; else the sets left
abbrev pub sets_left : Claim → Claim → Result ℕ Refusal
sets_left standing c = unless (nat_le c.sets standing.sets) MoreThanClaimed (Ok (standing.sets - c.sets))

-- no such claim: 13; else the sets left in it
abbrev pub release_from : List Claim → Option ℕ → Claim → Result ℕ Refusal
release_from claims None c = Err NoSuchClaim
release_from claims (Some i) c = sets_left (get_or claims i no_claim) c

-- sets outside 1 to 5,000: 6
abbrev pub release_reply : Tally → Claim → Result ℕ Refusal
release_reply y c = unless (inside 1 5000 c.sets) SetsOutOfRange (release_from y.claims (claim_like y.claims c) c)

-- so many sets left in the claim; at 0 it goes and later ones move up
abbrev pub claims_left : List Claim → Option ℕ → ℕ → List Claim
claims_left claims None n = claims
claims_left claims (Some i) n = cond (n == 0) (remove claims i) (slice_set claims i (with_sets (slice_index_or claims i no_claim) n))

-- a granted release takes its sets off the claim like it
abbrev pub tally_released : Tally → Claim → Result ℕ Refusal → Tally
tally_released y c (Err refusal) = y
tally_released y c (Ok n) = record { held = y.held; claims = claims_left y.claims (claim_like y.claims c) n }

-- the tally after a release
abbrev pub after_release : Tally → Claim → Tally
after_release y c = tally_released y c (release_reply y c)

-- ---- free, total, certify: nothing changes

-- no such position: 7, leg 1; else the units outside claims
abbrev pub free_reply : {B : Type 0} → Docket B → ℕ → Result ℕ Refusal
free_reply d p = unless (inside 1 (length d.tally.held) p) (NoSuchPosition First) (Ok (free d p))

-- the whole requirement
abbrev pub total_reply : Docket Tables → ℕ
total_reply d = computed_total d

-- marks not one each: 15; a mark beyond its limit: 16; unfair: 17; else total and floor
abbrev pub certificate_reply : Docket Tables → List ℤ → Result Certificate Refusal
certificate_reply d marks = result_map_both (λ c. c) from_certify (certify_reply d marks)
