-- The verdict in words, read back.
use Rattle.std.proofs.Common.{◌≡◌, ℕ, List, ◌==◌, Bool, true, false, cond, ℤ, pos, negsuc, Some, None, Ok, Option, Result, refl, sym, ap, ◌∙◌, subst, get_or, arith, rules, tests}
use Rattle.file_reading.specs.Files.{Content}
use Rattle.answer_docket.specs.declared.FileFault.{FileFault}
use Rattle.answer_docket.specs.declared.Summary.{Summary}
use Rattle.answer_docket.specs.declared.Verdict.TheVariants as verdict
use Rattle.answer_docket.specs.Answers.{verdict_of, answer_to}
use Rattle.answer_docket.specs.Laws.{SummaryShows, IsToldBy}
use Rattle.page_figures.specs.Shown.{gap_of}
use Rattle.page_statement.specs.Verdict.{gap_words, verdict_words}
use Rattle.page_statement.specs.Laws.{least_line, ShowsLeast, LeastHolds}

abbrev first : List ℕ → ℕ
first bs = get_or bs 0 0

other_word : ◌≡◌ {A = ℕ} 103 108 → ⊥
other_word e = omega arith

no_word : ◌≡◌ {A = ℕ} 110 108 → ⊥
no_word e = omega arith

gap_apart : (gap : Option ℤ) → gap_words gap ≡ least_line → ⊥
gap_apart (Some gap) e = other_word (ap first e)
gap_apart None e = other_word (ap first e)

-- the words of least are those of no other verdict
read_back : (total : ℕ) (floor : Option ℤ) → verdict_words (verdict_of total floor) total floor ≡ least_line → (verdict_of total floor ≡ verdict.Least) × (floor ≡ Some (pos total))
read_back total None e = absurd (no_word (ap first e))
read_back total (Some (negsuc n)) e = absurd (gap_apart (gap_of total (negsuc n)) e)
read_back total (Some (pos n)) e = at (n == total) refl e
  where
    at : (b : Bool) → (n == total) ≡ b → verdict_words (cond b verdict.Least verdict.Gap) total (Some (pos n)) ≡ least_line → (cond b verdict.Least verdict.Gap ≡ verdict.Least) × (Some (pos n) ≡ Some (pos total))
    at true w e = let same : n ≡ total = search (rules, tests) in (refl, ap (λ m. Some (pos m)) same)
    at false w e = absurd (gap_apart (gap_of total (pos n)) e)

equal_shown : (total : ℕ) → verdict_words (verdict_of total (Some (pos total))) total (Some (pos total)) ≡ least_line
equal_shown total =
    let same : (total == total) ≡ true = search (rules, tests) in
    ap (λ b. verdict_words (cond b verdict.Least verdict.Gap) total (Some (pos total))) same

least_shown : (c : Content) (x : Summary) → SummaryShows c x → ShowsLeast c x
least_shown c x s = record {
  equal = λ e. (read_back x.total x.floor e).1;
  shown = λ e. subst (λ (floor : Option ℤ). verdict_words (verdict_of x.total floor) x.total floor ≡ least_line) (sym e) (equal_shown x.total);
  least = λ e. s.least (read_back x.total x.floor e).0;
}

-- what an answer tells, in the words of its page
pub least_of : (file : List ℕ) (r : Result Summary FileFault) → r ≡ answer_to file → IsToldBy file r → LeastHolds file
least_of file r same told = λ x e.
    let t : IsToldBy file (Ok x) = subst (IsToldBy file) (same ∙ e) told in
    (t.0, (t.1.0, least_shown t.0 x t.1.1))
