use Rattle.std.proofs.Common.{◌≡◌, Ok, codes, sym, ap, ◌∙◌, rules}
use Rattle.std.proofs.lemmas.Slice.Eq.{text_from_reads}
use Rattle.answer_session.specs.Lines.{certify, word_at}
use Rattle.answer_session.proofs.sent.word_in.Goals as goal

pub returns-in-total : goal.returns-in-total
returns-in-total c =
    let e : c.args.line.now ≡ codes "total" = text_from_reads _ _ (search rules) (search rules) in
    sym (ap word_at e)

pub returns-in-certify : goal.returns-in-certify
returns-in-certify c =
    let e : c.args.line.now ≡ codes "certify" = text_from_reads _ _ (search rules) (search rules) in
    ap (λ marks. Ok (certify marks)) c.new.ensures.items ∙ sym (ap word_at e)
