-- Why marks are not certified, on the page.
use Rattle.std.specs.Prelude.{ℕ, List, ◌++◌, ℤ, pos, codes, decimal, unwrap_or}
use Rattle.rules_positions.specs.declared.Kind.{Kind}
use Rattle.rules_positions.specs.declared.Kind.TheVariants.{Units, Call, Put, Futures, Receipt}
use Rattle.rules_positions.specs.declared.record.Record.{Record}
use Rattle.rules_books.specs.Tables.{Tables}
use Rattle.certificate_pairing.specs.declared.Claim.{Claim}
use Rattle.certificate_pairing.specs.Pairing.{at, mark, worth}
use Rattle.certificate_fairness.specs.declared.Breach.{Breach}
use Rattle.certificate_fairness.specs.declared.Breach.TheVariants as breach
use Rattle.certificate_fairness.specs.declared.Legs.{Legs}
use Rattle.certificate_fairness.specs.Search.{legs_in}
use Rattle.certificate_certify.specs.declared.CertifyFault.{CertifyFault}
use Rattle.certificate_certify.specs.declared.CertifyFault.TheVariants.{NotOneEach, BeyondLimit, Unfair}
use Rattle.certificate_certify.specs.Totals.{claim_requirement}
use Rattle.page_money.specs.Texts.{dollars_text}
use Rattle.page_statement.specs.Rules.{Rules, tables_in}
use Rattle.page_statement.specs.Claims.{legs_text, article_words}
use Rattle.certificate_pairing.specs.Dockets.{docket_by, Docket}

-- the limit of a position's mark
abbrev pub limit_words : Kind → List ℕ
limit_words Units = codes "a mark of units is within 50,000.00 of 0"
limit_words Call = codes "a mark of contracts is within 50,000,000.00 of 0"
limit_words Put = codes "a mark of contracts is within 50,000,000.00 of 0"
limit_words Futures = codes "a mark of contracts is within 50,000,000.00 of 0"
limit_words Receipt = codes "a mark of contracts is within 50,000,000.00 of 0"

-- marks that are not one each
unfoldable pub not_one_each : ℕ → ℕ → List ℕ
not_one_each given held =
    codes "  Wrong: " ++ (decimal given
    ++ (codes " marks are given for " ++ (decimal held
    ++ codes " positions.\n  Right: there is one mark for each position.\n")))

-- a mark beyond its limit
unfoldable pub beyond_limit : List Record → List ℤ → ℕ → List ℕ
beyond_limit held marks p =
    codes "  Wrong: the mark of position " ++ (decimal p
    ++ (codes " is " ++ (dollars_text (mark marks p)
    ++ (codes ".\n  Right: " ++ (limit_words (at held p).kind
    ++ codes ".\n")))))

-- a mark above its position's requirement alone
unfoldable pub above_alone : Docket Tables → List ℤ → ℕ → List ℕ
above_alone d marks p =
    codes "  Wrong: the mark of position " ++ (decimal p
    ++ (codes " is " ++ (dollars_text (mark marks p)
    ++ (codes ", and one of it requires " ++ (dollars_text (pos (d.book.alone d.size (at d.tally.held p)))
    ++ codes " alone.\n  Right: a mark is at most what one unit or contract of its position requires alone.\n")))))

-- one set under an article
abbrev pub one_set : ℕ → Legs → Claim
one_set article legs = record { article = article; first = legs.first; second = legs.second; third = unwrap_or legs.third 0; sets = 1 }

-- the marks of an allowed set above its requirement
unfoldable pub above_set : Docket Rules → List ℤ → ℕ → Legs → List ℕ
above_set d marks article legs =
    codes "  Wrong: the marks of article " ++ (decimal article
    ++ (codes " (" ++ (article_words (d.book.article article)
    ++ (codes ") with the legs " ++ (legs_text (one_set article legs)
    ++ (codes " come to\n         " ++ (dollars_text (worth d.size d.tally.held marks (legs_in legs))
    ++ (codes ", and a set requires " ++ (dollars_text (pos (unwrap_or (claim_requirement (docket_by tables_in d) (one_set article legs)) 0))
    ++ codes ".\n  Right: the marks of what a set takes are at most what the set requires.\n")))))))))

-- a breach of fairness
abbrev pub breach_words : Docket Rules → List ℤ → Breach → List ℕ
breach_words d marks (breach.Alone p) = above_alone (docket_by tables_in d) marks p
breach_words d marks (breach.Set article legs) = above_set d marks article legs

-- why the marks are refused
abbrev pub refusal_words : Docket Rules → List ℤ → CertifyFault → List ℕ
refusal_words d marks (NotOneEach given count) = not_one_each given count
refusal_words d marks (BeyondLimit p) = beyond_limit d.tally.held marks p
refusal_words d marks (Unfair breach) = breach_words d marks breach
