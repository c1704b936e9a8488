use Rattle.file_reading.specs.Content.{content_read}
use Rattle.file_reading.proofs.Whole.{again, faithful}
use Rattle.file_reading.proofs.read.Goals as goal

pub returns : goal.returns
returns c =
    let e = c.read_into.ensures in
    record {
      value = e.value;
      places = e.places;
      few = e.few;
      again = again c.args.file.now (λ x. content_read x c.read_into.new.marks) c.read_into.result e.value;
      faithful = faithful;
    }
