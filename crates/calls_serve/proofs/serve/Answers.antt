use Rattle.std.proofs.Common.{ap}
use Rattle.certificate_pairing.specs.Dockets.{Docket, docket_by}
use Rattle.calls_serve.proofs.Prefixes.{onward}
use Rattle.certificate_pairing.proofs.Keeps.{sound_kept}
use Rattle.calls_serve.proofs.serve.Goals as goal

pub returns-clause-onward : goal.returns-clause-onward
returns-clause-onward g c =
    let d = c.args.docket.now in
    onward (docket_by g.B.Book.tables d) (g.met.B.Book.lawful d.book) c.dispatch.new.docket.tally c.args.call.now (ap (λ (e : Docket _). e.tally) c.dispatch.ensures.after)

pub returns-clause-kept : goal.returns-clause-kept
returns-clause-kept g c = sound_kept
