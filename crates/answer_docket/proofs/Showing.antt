-- What the answer to a file that is read tells of its docket.
use Rattle.std.proofs.Common.{◌≡◌, ℕ, Bool, true, false, cond, List, [], ◌∷◌, length, ℤ, pos, negsuc, ◌≤ℤ◌, Some, None, Ok, Err, Result, sym, refl, ap, ◌∙◌, subst}
use Rattle.std.proofs.lemmas.Bool.{eqb-true}
use Rattle.std.proofs.lemmas.Option.{none-some}
use Rattle.rules_books.specs.declared.sheets.Sheet.{Sheet}
use Rattle.rules_books.specs.Tables.{Tables, IsLawful}
use Rattle.calls_docket.specs.Claims.{CertificateShows, cost_in}
use Rattle.certificate_certify.specs.declared.Certificate.{Certificate}
use Rattle.certificate_certify.specs.declared.CertifyFault.{CertifyFault}
use Rattle.certificate_certify.specs.Certified.{certify_reply}
use Rattle.calls_docket.specs.Dockets.{Tally, Docket, docket_of}
use Rattle.calls_docket.specs.Calls.{total_reply}
use Rattle.calls_serve.specs.Laws.{Holds, IsReached}
use Rattle.calls_serve.proofs.Holding.{runs_hold}
use Rattle.file_head.specs.Rates.{rates_on, tables_by}
use Rattle.file_reading.specs.Files.{Content, read_file, docket_described}
use Rattle.rules_books.specs.Lawful.{sheet_lawful}
use Rattle.file_reading.proofs.Whole.{sheet_tables_lem}
use Rattle.answer_docket.specs.declared.Summary.{Summary}
use Rattle.answer_docket.specs.declared.Verdict.TheVariants.{Least, Gap}
use Rattle.answer_docket.specs.Answers.{Figures, figures, figures_by, of_certificate, verdict_of, meets, summed, summary_in}
use Rattle.answer_docket.specs.Laws.{SummaryShows, IsToldBy}

pub rates_lawful : (b : Sheet) → IsLawful (tables_by (rates_on b))
rates_lawful b = subst IsLawful (sheet_tables_lem b) (sheet_lawful b)

pub led_holds : (d : Docket Tables) → IsLawful d.book → IsReached d → Holds d
led_holds d law led = subst (λ (y : Tally). Holds (docket_of d.book d.size y)) (sym led.1) (runs_hold d.book d.size led.0 law)

-- a verdict of least is of a floor that meets the total
meets_is : (total : ℕ) (z : ℤ) → meets total z ≡ true → z ≡ pos total
meets_is total (pos n) h = ap pos (eqb-true n total h)
meets_is total (negsuc n) h = absurd cc

least_is : (total : ℕ) (z : ℤ) → verdict_of total (Some z) ≡ Least → z ≡ pos total
least_is total z h = at (meets total z) refl h
  where
    at : (b : Bool) → meets total z ≡ b → cond b Least Gap ≡ Least → z ≡ pos total
    at true q h = meets_is total z q
    at false q h = absurd cc

module _ (c : Content) (h : Holds (docket_described c)) where
  abbrev summary : Figures → Summary
  summary f = record { positions = length c.tally.held; claims = length c.tally.claims; total = f.total; floor = f.floor }

  none_shown : SummaryShows c (summary (figures (total_reply (docket_described c)) None))
  none_shown = record {
    positions = refl;
    claims = refl;
    sums = h.totals;
    standing = h.standing;
    costs = h.costs;
    fair = λ low i. absurd (none-some low i);
    figure = λ low i. absurd (none-some low i);
    under = λ low i. absurd (none-some low i);
    least = λ v. absurd cc;
  }

  some_shown : (total : ℕ) (floor : ℤ) → CertificateShows (docket_described c) c.marks total floor → SummaryShows c (summary (figures total (Some floor)))
  some_shown total floor w = record {
    positions = refl;
    claims = refl;
    sums = w.sums;
    standing = w.standing;
    costs = w.costs;
    fair = λ low i. w.fair;
    figure = λ low i. let same : floor ≡ low = cc in sym same ∙ w.figure;
    under = λ low i xs l. let same : floor ≡ low = cc in subst (λ (z : ℤ). z ≤ℤ pos (cost_in (docket_described c) xs)) same (w.bounds xs l);
    least = λ v. w.least (least_is total floor v);
  }

  -- the docket of a file that is read: marks that are certified show their figures, and others are not fair
  pub told : (file : List ℕ) → read_file file ≡ Ok c → IsToldBy file (summary_in c)
  told file read = by c.marks refl
    where
      certified : (marks : List ℤ) → c.marks ≡ marks → (r : Result Certificate CertifyFault) → certify_reply (docket_described c) marks ≡ r → IsToldBy file (summed c (of_certificate r))
      certified marks m (Ok k) g = (c, (read, some_shown k.total k.floor ((h.certified c.marks).shown k (ap (certify_reply (docket_described c)) m ∙ g))))
      certified marks m (Err x) g = (c, (read, λ fair. let e = sym ((h.certified c.marks).granted fair) ∙ ap (certify_reply (docket_described c)) m ∙ g in cc))

      by : (marks : List ℤ) → c.marks ≡ marks → IsToldBy file (summed c (figures_by c marks))
      by [] m = (c, (read, none_shown))
      by (z ∷ zs) m = certified (z ∷ zs) m (certify_reply (docket_described c) (z ∷ zs)) refl
