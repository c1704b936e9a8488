use Rattle.std.proofs.Common.{◌≡◌, ◌≤◌, length, take, drop}
use Rattle.std.specs.Slice.Iter.{iter_rest}
use Rattle.calls_serve.specs.Runs.{ran, replies}
use Rattle.calls_serve.proofs.serve_all.Given as goal
use Rattle.certificate_pairing.specs.Dockets.{docket_of}

abbrev pub invariant-loop-place : goal.invariant-loop-place
invariant-loop-place g l =
    let t = g.B.Book.tables l.initial.docket.book in
    let s = l.initial.docket.size in
    let y = l.initial.docket.tally in
    let i = l.place-index in
    record {
      docket : l.docket ≡ record l.initial.docket { tally = ran (docket_of t s y) (take i l.fn.calls) };
      replied : take i l.places ≡ replies (docket_of t s y) (take i l.fn.calls);
      kept : drop i l.places ≡ drop i l.initial.places;
      rest : iter_rest l.calls ≡ drop i l.fn.calls;
      few : i ≤ length l.fn.calls;
    }
