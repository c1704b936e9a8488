use Rattle.std.proofs.Common.{ap, ◌∙◌}
use Rattle.certificate_pairing.specs.Dockets.{Docket}
use Rattle.calls_serve.proofs.Prefixes.{parts_kept, run_opened}
use Rattle.calls_serve.proofs.run.Goals as goal

pub returns : goal.returns
returns g c =
    let o = c.in_ok-docket.ensures in
    let all = c.serve_all.ensures in (
      o.0,
      parts_kept all.after o.1,
      run_opened g.B.Book.tables o.1 (g.met.B.Book.lawful c.args.book) c.args.calls.now c.args.places.now c.serve_all.new.places c.serve_all.new.docket.tally all.replies (ap (λ (d : Docket _). d.tally) all.after),
    )
