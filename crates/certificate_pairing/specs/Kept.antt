-- What a granted call does to the positions held and the claims standing; and that sound claims stay sound.
use Rattle.std.specs.Prelude.{ℕ, ◌+◌, ◌-◌, ◌*◌, ◌<◌, ◌≤◌, List, [], ◌∷◌, ◌++◌, length, get_or, take, drop, slice_index_or, slice_set}
use Rattle.rules_positions.specs.declared.record.Record.{Record}
use Rattle.rules_books.specs.Tables.{Tables}
use Rattle.certificate_pairing.specs.declared.Claim.{Claim}
use Rattle.certificate_pairing.specs.Pairing.{at, lot, IsAllowed}
use Rattle.certificate_pairing.specs.Claims.{legs_of, set_of, taken, IsSound}
use Rattle.certificate_pairing.specs.Dockets.{holding, docket_of, empty}

-- what is read where there is no claim
abbrev pub no_claim : Claim
no_claim = record { article = 0; first = 0; second = 0; third = 0; sets = 0 }

-- the claim of the same article and legs, with n sets
abbrev pub with_sets : Claim → ℕ → Claim
with_sets l n = record { article = l.article; first = l.first; second = l.second; third = l.third; sets = n }

-- of each leg, enough is free for n sets
abbrev pub IsCovered : ℕ → List Record → List Claim → List ℕ → ℕ → Type 0
IsCovered s held ls [] n = Unit {0}
IsCovered s held ls (q ∷ qs) n = (n * lot s held q ≤ (at held q).quantity - taken s held ls q) × IsCovered s held ls qs n

-- each granted call keeps the claims standing sound
pub record KeepSound (t : Tables) (s : ℕ) : Type 0 where
  -- just opened
  pub opened : IsSound (docket_of t s empty)
  -- a position more
  pub enters : (held : List Record) (ls : List Claim) (r : Record) → IsSound (docket_of t s (holding held ls)) → IsSound (docket_of t s (holding (held ++ (r ∷ [])) ls))
  -- a new claim, of an allowed set whose legs are free
  pub claims : (held : List Record) (ls : List Claim) (l : Claim) → IsSound (docket_of t s (holding held ls)) → IsAllowed t s held (set_of l) → IsCovered s held ls (legs_of l) l.sets → IsSound (docket_of t s (holding held (ls ++ (l ∷ []))))
  -- n sets more in a claim
  pub adds : (held : List Record) (ls : List Claim) (i n : ℕ) → i < length ls → IsSound (docket_of t s (holding held ls)) → IsCovered s held ls (legs_of (slice_index_or ls i no_claim)) n → IsSound (docket_of t s (holding held (slice_set ls i (with_sets (slice_index_or ls i no_claim) ((get_or ls i no_claim).sets + n)))))
  -- fewer sets in a claim
  pub releases : (held : List Record) (ls : List Claim) (i n : ℕ) → i < length ls → n ≤ (get_or ls i no_claim).sets → IsSound (docket_of t s (holding held ls)) → IsSound (docket_of t s (holding held (slice_set ls i (with_sets (slice_index_or ls i no_claim) n))))
  -- a claim goes
  pub removes : (held : List Record) (ls : List Claim) (i : ℕ) → IsSound (docket_of t s (holding held ls)) → IsSound (docket_of t s (holding held (take i ls ++ drop (i + 1) ls)))

-- over any tables and any contract size
abbrev pub CallsKeepSound : Type 0
CallsKeepSound = (t : Tables) (s : ℕ) → KeepSound t s
