-- What was read of a file, in code: the docket, and the marks in the first of the places.
use Rattle.std.specs.Prelude.{List, take, ℤ}
use Rattle.file_head.specs.Rates.{rates_on}
use Rattle.file_reading.specs.declared.Content.{Content as ReadContent}
use Rattle.file_body.specs.Files.{Content}

-- what was read, with its marks from the places that they fill
abbrev pub content_read : ReadContent → List ℤ → Content
content_read x places = record { size = x.docket.size; rates = rates_on x.docket.book; tally = x.docket.tally; marks = take x.marks places }
