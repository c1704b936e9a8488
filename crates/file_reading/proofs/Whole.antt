-- A whole file.
use Rattle.std.proofs.Common.{◌≡◌, ℕ, ◌≤◌, true, List, [], ◌∷◌, ◌++◌, length, ℤ, IfOk, Ok, Err, Result, sym, refl, ap, ◌∙◌, subst, append_assoc, arith}
use Rattle.std.specs.List.{join_with_byte}
use Rattle.std.specs.Result.{result_map_both}
use Rattle.std.proofs.lemmas.List.Splits.{join_with_byte-slice_split}
use Rattle.rules_amounts.specs.Ranges.{inside}
use Rattle.rules_books.specs.declared.sheets.Sheet.{Sheet}
use Rattle.rules_books.specs.declared.sheets.Sheet.TheVariants as sheet
use Rattle.rules_books.specs.Books.{sheet_tables}
use Rattle.rules_books.specs.Tables.{Tables}
use Rattle.rules_books.specs.Lawful.{sheet_lawful}
use Rattle.certificate_pairing.specs.Dockets.{Tally, docket_by, Docket}
use Rattle.calls_serve.specs.Laws.{IsReached}
use Rattle.calls_replay.proofs.Runs.{led_kept, replay}
use Rattle.file_fields.specs.Fields.{split, Got, then_read}
use Rattle.file_head.specs.declared.faults.ReadFault.{ReadFault}
use Rattle.file_head.specs.Rates.{Rates, rates_on, tables_by}
use Rattle.file_head.specs.Head.{Head, head_at}
use Rattle.file_body.specs.Body.{Body, no_body, body_from}
use Rattle.file_body.specs.Files.{Content, with_head, read_pieces, read_file, docket_described}
use Rattle.file_writing.specs.Texts.{size_line, sheet_lines, file_lines, file_text, described}
use Rattle.file_reading.specs.Faithful.{AreFileMarks, Faithful}
use Rattle.file_reading.proofs.Parts.{each_append, ended_rejoined, split_ended}
use Rattle.file_reading.proofs.Heads.{in_size, HeadRead, head_read, GoodRates, good_rates, head_given, size_bytes, sheet_bytes}
use Rattle.file_reading.proofs.Growing.{body_of, body_lines, body_read}
use Rattle.file_reading.proofs.Coming.{Comes, body_comes}
use Rattle.file_reading.proofs.Lengths.{text_short}

-- ---- read

-- the pieces of a file that is read
record FileRead (fs : List (List ℕ)) (c : Content) : Type 0 where
  is : fs ≡ file_lines c ++ ([] ∷ [])
  led : IsReached (docket_described c)
  held : AreFileMarks c.marks
  sized : inside 1 1000 c.size ≡ true

body_file : (fs : List (List ℕ)) (g : Got Head) (c : Content) (f : List ℕ) (others : List (List ℕ)) → HeadRead fs g → g.left ≡ f ∷ others → (r : Result Body ReadFault) → body_from (tables_by g.value.rates) g.value.size g.place no_body (f ∷ others) ≡ r → with_head g.value r ≡ Ok c → FileRead fs c
body_file fs g c f others h left (Err x) q e = absurd cc
body_file fs g c f others h left (Ok b) q e =
    let t = tables_by g.value.rates in
    let size = g.value.size in
    let i : record { size = g.value.size; rates = g.value.rates; tally = b.tally; marks = b.marks } ≡ c = cc in
    let m = body_read t size (in_size size h.sized).1 b g.place no_body f others q in
    let rest : g.left ≡ body_lines b ++ ([] ∷ []) = left ∙ m.is ∙ ap (λ l. l ++ ([] ∷ [])) (sym m.grown.lines) in
    subst (FileRead fs) i
    (record {
      is = h.is ∙ ap (λ l. size_line size ∷ l) (ap (λ l. sheet_lines g.value.rates ++ l) rest ∙ sym (append_assoc (sheet_lines g.value.rates) (body_lines b) ([] ∷ [])));
      led = m.grown.led ([], refl);
      held = m.grown.marks (record { few = omega arith; short = tt });
      sized = h.sized;
    })

pieces_read : (fs : List (List ℕ)) (c : Content) (r : Result (Got Head) ReadFault) → head_at 1 fs ≡ r → then_read r (λ h n gs. with_head h (body_from (tables_by h.rates) h.size n no_body gs)) ≡ Ok c → FileRead fs c
pieces_read fs c (Err x) q e = absurd cc
pieces_read fs c (Ok g) q e =
    let h = head_read 1 fs g q in
    body_file fs g c h.first h.others h h.left_is _ refl
    (ap (λ l. with_head g.value (body_from (tables_by g.value.rates) g.value.size g.place no_body l)) (sym h.left_is) ∙ e)

file_read : (file : List ℕ) (c : Content) → read_file file ≡ Ok c → FileRead (split 10 file) c
file_read file c e = pieces_read (split 10 file) c (head_at 1 (split 10 file)) refl e

rewritten : (file : List ℕ) (c : Content) → read_file file ≡ Ok c → file_text c ≡ file
rewritten file c e = ended_rejoined (file_lines c) ∙ ap (join_with_byte 10) (sym (file_read file c e).is) ∙ join_with_byte-slice_split 10 file

-- ---- written

pub sheet_tables_lem : (s : Sheet) → sheet_tables s ≡ tables_by (rates_on s)
sheet_tables_lem (sheet.Share s) = refl
sheet_tables_lem (sheet.Currency c) = refl

-- pieces after the head, at least one of which there is
first_piece : (ls : List (List ℕ)) → (f : List ℕ) × ((fs : List (List ℕ)) × (ls ++ ([] ∷ []) ≡ f ∷ fs))
first_piece [] = ([], ([], refl))
first_piece (l ∷ ls) = (l, (ls ++ ([] ∷ []), refl))

pieces_given : (size : ℕ) (r : Rates) (b : Body) → inside 1 1000 size ≡ true → GoodRates r → Comes (tables_by r) size no_body (body_lines b) b → read_pieces (size_line size ∷ (sheet_lines r ++ (body_lines b ++ ([] ∷ [])))) ≡ Ok (record { size = size; rates = r; tally = b.tally; marks = b.marks })
pieces_given size r b k g c =
    let p = first_piece (body_lines b) in
    let h = head_given size r k g 1 p.0 p.1.0 in
    ap (λ l. read_pieces (size_line size ∷ (sheet_lines r ++ l))) p.1.1
    ∙ ap (λ a. then_read a (λ h n gs. with_head h (body_from (tables_by h.rates) h.size n no_body gs))) h.1
    ∙ ap (λ l. with_head (record { size = size; rates = r }) (body_from (tables_by r) size h.0 no_body l)) (sym p.1.1)
    ∙ ap (with_head (record { size = size; rates = r })) (c.reads h.0)

content_given : (size : ℕ) (r : Rates) (y : Tally) (marks : List ℤ) → inside 1 1000 size ≡ true → GoodRates r → Comes (tables_by r) size no_body (body_lines (body_of y marks)) (body_of y marks) → read_file (file_text (record { size = size; rates = r; tally = y; marks = marks })) ≡ Ok (record { size = size; rates = r; tally = y; marks = marks })
content_given size r y marks k g c =
    let b = body_of y marks in
    ap read_pieces
    (split_ended (file_lines (record { size = size; rates = r; tally = y; marks = marks })) (size_bytes size k, each_append 11 (sheet_lines r) (body_lines b) (sheet_bytes r g) c.bytes)
    ∙ ap (λ l. size_line size ∷ l) (append_assoc (sheet_lines r) (body_lines b) ([] ∷ [])))
    ∙ pieces_given size r b k g c

read_back_lem :
    (d : Docket Sheet) (marks : List ℤ) → inside 1 1000 d.size ≡ true → IsReached (docket_by sheet_tables d) → AreFileMarks marks
    → read_file (file_text (described d marks)) ≡ Ok (described d marks)
read_back_lem d marks k led m =
    let s = d.book in
    let y = d.tally in
    content_given d.size (rates_on s) y marks k (good_rates s)
    (subst (λ (t : Tables). Comes t d.size no_body (body_lines (body_of y marks)) (body_of y marks)) (sheet_tables_lem s)
    (body_comes (sheet_tables s) d.size y marks (replay (docket_by sheet_tables d) (sheet_lawful s) (in_size d.size k) led) m))

short :
    (d : Docket Sheet) (marks : List ℤ) → inside 1 1000 d.size ≡ true → IsReached (docket_by sheet_tables d) → AreFileMarks marks
    → length (file_text (described d marks)) ≤ 65536
short d marks k led m =
    let sized = in_size d.size k in
    let e = docket_by sheet_tables d in
    text_short e.book e.size e.tally (replay e (sheet_lawful d.book) sized led) (rates_on d.book) marks sized.1 (good_rates d.book) (led_kept e sized.1 led) m

-- what a call read, written again, is the file
pub again : {A : Type 0} (file : List ℕ) (content : A → Content) (r : Result A ReadFault) → result_map_both content (λ e. e) r ≡ read_file file → IfOk r (λ x. file_text (content x) ≡ file)
again file content (Ok x) e = rewritten file (content x) (sym e)
again file content (Err x) e = tt

-- ---- both

pub faithful : Faithful
faithful = record {
  rewritten = rewritten;
  read_back = read_back_lem;
  short = short;
  same = λ file other c e f. sym (rewritten file c e) ∙ rewritten other c f;
  led = λ file c e. (file_read file c e).led;
  held = λ file c e. (file_read file c e).held;
  sized = λ file c e. (file_read file c e).sized;
}
