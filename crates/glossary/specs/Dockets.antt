-- The worked figures of the sample docket as text: in each the words, and the definition of its term.
use Rattle.std.specs.Prelude.{ℕ, List, ◌++◌, codes, decimal, Some}
use Rattle.certificate_pairing.specs.Pairing.{mark, floor, cost}
use Rattle.certificate_pairing.specs.Claims.{total, pairing_of, cost_in}
use Rattle.certificate_fairness.specs.Search.{first_breach}
use Rattle.certificate_certify.specs.Totals.{free}
use Rattle.answer_docket.specs.Answers.{verdict_of}
use Rattle.answer_docket.specs.Texts.{verdict_text}
use Rattle.rules_priced_examples.specs.Examples.{sample_size}
use Rattle.page_money.specs.Texts.{dollars_text}
use Rattle.glossary.specs.Sample.{tables, tally, marks, other_marks, sample_docket}
use Rattle.glossary.specs.Words.{parts_text, found_text}

-- free units
abbrev pub free_units_figure : List ℕ
free_units_figure =
    codes "The sample docket: 300 units long, two long puts of strike 48.00 at 1.50 and one short call of\n    strike 55.00 at 1.20, with two protective puts claimed. Free: " ++ (decimal (free sample_docket 1)
    ++ (codes " units, " ++ (decimal (free sample_docket 2)
    ++ (codes " puts, " ++ (decimal (free sample_docket 3)
    ++ codes " call.")))))

-- total
abbrev pub total_figure : List ℕ
total_figure =
    codes "The sample docket, as claimed: " ++ (parts_text (total sample_docket)
    ++ codes ".")

-- mark
abbrev pub mark_figure : List ℕ
mark_figure =
    codes "In the sample docket: " ++ (dollars_text (mark marks 1)
    ++ (codes " for a unit, " ++ (dollars_text (mark marks 2)
    ++ (codes " for a put, " ++ (dollars_text (mark marks 3)
    ++ codes " for the call.")))))

-- fair
abbrev pub fair_figure : List ℕ
fair_figure =
    codes "Those marks are fair, and certify grants " ++ (dollars_text (floor tally.held marks)
    ++ (codes " as their floor. With 0.00 for a put they are\n    not, and certify names " ++ (found_text (first_breach tables sample_size tally.held other_marks)
    ++ codes ".")))

-- floor
abbrev pub floor_figure : List ℕ
floor_figure =
    dollars_text (mark marks 1)
    ++ (codes " for 300 units, " ++ (dollars_text (mark marks 2)
    ++ (codes " for two puts and " ++ (dollars_text (mark marks 3)
    ++ (codes " for one call: " ++ (dollars_text (floor tally.held marks)
    ++ codes "."))))))

-- lawful pairing
abbrev pub lawful_pairing_figure : List ℕ
lawful_pairing_figure =
    codes "The two protective puts of the sample docket are one. It costs " ++ (parts_text (cost_in sample_docket (pairing_of tally.claims))
    ++ codes ".")

-- least
abbrev pub least_figure : List ℕ
least_figure =
    codes "The sample docket's total is " ++ (parts_text (total sample_docket)
    ++ (codes ", and the floor of its marks " ++ (dollars_text (floor tally.held marks)
    ++ (codes ": " ++ (verdict_text (verdict_of (total sample_docket) (Some (floor tally.held marks)))
    ++ codes ".")))))
