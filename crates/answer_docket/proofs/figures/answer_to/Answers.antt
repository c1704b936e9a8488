use Rattle.std.proofs.Common.{sym, subst}
use Rattle.file_reading.specs.Content.{content_read}
use Rattle.file_reading.specs.Files.{Content}
use Rattle.file_reading.proofs.Whole.{faithful}
use Rattle.answer_docket.specs.Laws.{IsToldBy}
use Rattle.answer_docket.proofs.Showing.{rates_lawful, led_holds, told}
use Rattle.answer_docket.proofs.figures.answer_to.Goals as goal
use Rattle.file_reading.specs.Files.{docket_described}

pub returns-then-not-fits-clause-faithful : goal.returns-then-not-fits-clause-faithful
returns-then-not-fits-clause-faithful c = faithful

pub returns-clause-told : goal.returns-clause-told
returns-clause-told c =
    let x = c.in_ok-content.content in
    let file = c.args.file.now in
    let k : Content = content_read x c.read.new.marks in
    let read = sym c.in_ok-content.ensures.value in
    let h = led_holds (docket_described k) (rates_lawful x.docket.book) (c.read.ensures.faithful.led file k read) in
    subst (IsToldBy file) (sym c.summed.ensures) (told k h file read)
