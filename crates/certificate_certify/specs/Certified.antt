-- What certify answers, and what its answer shows.
use Rattle.std.specs.Prelude.{◌≡◌, ℕ, Bool, cond, ◌||◌, List, length, ℤ, pos, neg_ℤ, Some, None, Ok, Err, Option, Result, ◌==◌, int_lt}
use Rattle.rules_positions.specs.declared.record.Record.{Record}
use Rattle.rules_books.specs.Tables.{Tables}
use Rattle.certificate_pairing.specs.Pairing.{at, mark, limit, floor}
use Rattle.certificate_pairing.specs.Dockets.{Docket}
use Rattle.certificate_pairing.specs.Claims.{FairIn, CertificateShows, total}
use Rattle.certificate_fairness.specs.declared.Breach.{Breach}
use Rattle.certificate_fairness.specs.Search.{first_of, first_breach}
use Rattle.certificate_fairness.specs.First.{IsFirst}
use Rattle.certificate_certify.specs.declared.Certificate.{Certificate}
use Rattle.certificate_certify.specs.declared.CertifyFault.{CertifyFault}
use Rattle.certificate_certify.specs.declared.CertifyFault.TheVariants.{NotOneEach, BeyondLimit, Unfair}
use Rattle.certificate_certify.specs.Totals.{computed_total}

-- a certificate, or why there is none
abbrev pub CertifyReply : Type 0
CertifyReply = Result Certificate CertifyFault

-- a mark above its limit, or further below zero than it
abbrev pub beyond : ℤ → ℕ → Bool
beyond m n = int_lt (pos n) m || int_lt m (neg_ℤ (pos n))

-- a position, if its mark is beyond its limit
abbrev pub beyond_at : List Record → List ℤ → ℕ → Option ℕ
beyond_at held ms p = cond (beyond (mark ms p) (limit (at held p).kind)) (Some p) None

-- the first such position
abbrev pub first_beyond : List Record → List ℤ → Option ℕ
first_beyond held ms = first_of (beyond_at held ms) 1 (length held)

-- refused for a mark beyond its limit
abbrev pub unless_beyond : Option ℕ → CertifyReply → CertifyReply
unless_beyond (Some p) r = Err (BeyondLimit p)
unless_beyond None r = r

-- refused for a breach
abbrev pub unless_unfair : Option Breach → CertifyReply → CertifyReply
unless_unfair (Some b) r = Err (Unfair b)
unless_unfair None r = r

-- one mark for each position, each within its limit, and no breach: then the total and the floor
abbrev pub certify_reply : Docket Tables → List ℤ → CertifyReply
certify_reply d ms =
    cond (length ms == length d.tally.held)
    (unless_beyond (first_beyond d.tally.held ms)
    (unless_unfair (first_breach d.book d.size d.tally.held ms)
    (Ok (record { total = computed_total d; floor = floor d.tally.held ms }))))
    (Err (NotOneEach (length ms) (length d.tally.held)))

-- granted exactly when the marks are fair, with the total and their floor; what these two figures then show;
-- and where they are refused as unfair, the first breach
pub record Certifies (d : Docket Tables) (ms : List ℤ) (r : CertifyReply) : Type 0 where
  pub granted : FairIn d ms → r ≡ Ok (record { total = total d; floor = floor d.tally.held ms })
  pub shown : (c : Certificate) → r ≡ Ok c → CertificateShows d ms c.total c.floor
  pub unfair : (b : Breach) → r ≡ Err (Unfair b) → IsFirst d.book d.size d.tally.held ms b
