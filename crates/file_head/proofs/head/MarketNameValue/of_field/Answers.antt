use Rattle.std.proofs.Common.{◌≡◌, codes, sym, ap, rules}
use Rattle.std.proofs.lemmas.Slice.Eq.{text_from_reads}
use Rattle.file_head.specs.Head.{market_name}
use Rattle.file_head.proofs.head.MarketNameValue.of_field.Goals as goal

pub returns-in-currency : goal.returns-in-currency
returns-in-currency c =
    let e : c.args.field.now ≡ codes "currency" = text_from_reads _ _ (search rules) (search rules) in
    sym (ap market_name e)
