-- How long a text can be.
use Rattle.std.proofs.Common.{◌≡◌, ℕ, suc, ◌+◌, ◌*◌, ◌≤◌, Bool, true, false, List, [], ◌∷◌, ◌++◌, map, length, ℤ, pos, negsuc, Some, None, codes, decimal, Option, sym, refl, ◌∙◌, append_assoc, arith, length-append}
use lib.ListN.{length-map}
use Rattle.std.specs.List.{flat_map, join_with_byte}
use Rattle.std.specs.Fmt.{signed_decimal}
use Rattle.std.proofs.lemmas.Fmt.{length-decimal-le}
use Rattle.rules_positions.specs.declared.record.Record.{Record}
use Rattle.rules_books.specs.Tables.{Tables}
use Rattle.certificate_pairing.specs.declared.Claim.{Claim}
use Rattle.certificate_pairing.specs.Dockets.{Tally, docket_of}
use Rattle.calls_replay.specs.Entries.{entry_of}
use Rattle.calls_replay.specs.Replay.{IsReplayed}
use Rattle.calls_replay.proofs.Runs.{Kept}
use Rattle.file_head.specs.Rates.{Rates, share, currency}
use Rattle.file_writing.specs.Texts.{line, rate_text, reduced_text, sheet_lines, size_line, position_line, claim_line, mark_line, ended, file_text}
use Rattle.file_reading.specs.Faithful.{AreShort, AreFileMarks}
use Rattle.file_reading.proofs.Numbers.{Small, SmallSigned}
use Rattle.file_reading.proofs.Words.{SmallIfAny}
use Rattle.file_reading.proofs.Values.{entry_texts, claim_texts}
use Rattle.file_reading.proofs.Heads.{GoodRates}

-- each has at most k bytes
abbrev EachAtMost : ℕ → List (List ℕ) → Type 0
EachAtMost k [] = Unit {0}
EachAtMost k (f ∷ fs) = (length f ≤ k) × EachAtMost k fs

most_append : (k : ℕ) (xs ys : List (List ℕ)) → EachAtMost k xs → EachAtMost k ys → EachAtMost k (xs ++ ys)
most_append k [] ys g h = h
most_append k (x ∷ xs) ys g h = (g.0, most_append k xs ys g.1 h)

-- ---- a line

fields_length : (fs : List (List ℕ)) → EachAtMost 16 fs → length (join_with_byte 44 fs) ≤ 17 * length fs
fields_length [] h = omega arith
fields_length (f ∷ []) h = omega (arith, h.0)
fields_length (f ∷ g ∷ fs) h = omega (arith, h.0, length-append f (44 ∷ join_with_byte 44 (g ∷ fs)), fields_length (g ∷ fs) h.1)

line_length : (key : List ℕ) (fs : List (List ℕ)) → length key + 17 * length fs ≤ 200 → EachAtMost 16 fs → length (line key fs) ≤ 200
line_length key fs k h = omega (arith, length-append key (join_with_byte 44 fs), fields_length fs h)

lines_length : (ls : List (List ℕ)) → EachAtMost 200 ls → length (flat_map ended ls) ≤ 201 * length ls
lines_length [] h = omega arith
lines_length (l ∷ ls) h = omega (arith, h.0, length-append (ended l) (flat_map ended ls), length-append l (10 ∷ []), lines_length ls h.1)

-- ---- a field

number_length : (n : ℕ) → Small n → length (decimal n) ≤ 15
number_length n h = length-decimal-le 15 n (omega arith) (omega arith) (omega arith)

natural_length : (n : ℕ) → Small n → length (decimal n) ≤ 16
natural_length n h = omega (arith, number_length n h)

signed_length : (z : ℤ) → SmallSigned z → length (signed_decimal z) ≤ 16
signed_length (pos n) h = natural_length n h
signed_length (negsuc n) h = omega (arith, number_length (suc n) h)

rate_length : (o : Option ℕ) → SmallIfAny o → length (rate_text o) ≤ 16
rate_length None h = omega arith
rate_length (Some n) h = natural_length n h

reduced_length : (b : Bool) → length (reduced_text b) ≤ 16
reduced_length true = omega arith
reduced_length false = omega arith

-- ---- the head

sheet_length : (r : Rates) → GoodRates r → EachAtMost 200 (sheet_lines r)
sheet_length (share s) g =
    (line_length (codes "market=") (codes "share" ∷ []) (omega arith) (omega arith, tt), (line_length (codes "price=") (decimal s.price ∷ []) (omega arith) (natural_length s.price g.price, tt), (line_length (codes "reduced=") (reduced_text s.reduced ∷ []) (omega arith) (reduced_length s.reduced, tt), (line_length (codes "floor=") (decimal s.floor ∷ []) (omega arith) (natural_length s.floor g.floor, tt), (line_length (codes "futures=") (rate_text s.futures ∷ []) (omega arith) (rate_length s.futures g.futures, tt), (line_length (codes "tracking=") (rate_text s.tracking ∷ []) (omega arith) (rate_length s.tracking g.tracking, tt), tt))))))
sheet_length (currency c) g =
    (line_length (codes "market=") (codes "currency" ∷ []) (omega arith) (omega arith, tt), (line_length (codes "price=") (decimal c.price ∷ []) (omega arith) (natural_length c.price g.price, tt), (line_length (codes "spot=") (decimal c.spot ∷ []) (omega arith) (natural_length c.spot g.spot, tt), tt)))

sheet_count : (r : Rates) → length (sheet_lines r) ≤ 6
sheet_count (share s) = omega arith
sheet_count (currency c) = omega arith

-- ---- the other lines

marks_length : (zs : List ℤ) → AreShort zs → EachAtMost 200 (map mark_line zs)
marks_length [] h = tt
marks_length (z ∷ zs) h = (line_length (codes "mark=") (signed_decimal z ∷ []) (omega arith) (signed_length z h.0, tt), marks_length zs h.1)

module _ (t : Tables) (size : ℕ) (y : Tally) (all : IsReplayed (docket_of t size y)) where
  claims_length : (cs before : List Claim) → y.claims ≡ before ++ cs → EachAtMost 200 (map claim_line cs)
  claims_length [] before e = tt
  claims_length (c ∷ cs) before e =
      let a = all.claims before c cs e in (
        line_length (codes "claim=") (claim_texts c) (omega arith)
            (natural_length c.article a.article, (natural_length c.first a.first, (natural_length c.second a.second, (natural_length c.third a.third, (natural_length c.sets a.sets, tt))))),
        claims_length cs (before ++ (c ∷ [])) (e ∙ sym (append_assoc before (c ∷ []) cs)),
      )

  positions_length : (rs before : List Record) → y.held ≡ before ++ rs → EachAtMost 200 (map position_line rs)
  positions_length [] before e = tt
  positions_length (r ∷ rs) before e =
      let a = all.enters before r rs e in (
        line_length (codes "pos=") (entry_texts (entry_of r)) (omega arith)
            (omega arith, (omega arith, (natural_length r.strike a.strike, (natural_length r.days a.days, (natural_length r.price a.price, (natural_length r.quantity a.quantity, tt)))))),
        positions_length rs (before ++ (r ∷ [])) (e ∙ sym (append_assoc before (r ∷ []) rs)),
      )

  -- ---- the text

  -- 135 lines at most, each of 201 bytes at most with its ending byte
  pub text_short : (r : Rates) (marks : List ℤ) → size ≤ 1000 → GoodRates r → Kept size y → AreFileMarks marks → length (file_text (record { size = size; rates = r; tally = y; marks = marks })) ≤ 65536
  text_short r marks small g kept m =
      let ps = map position_line y.held in
      let cs = map claim_line y.claims in
      let ms = map mark_line marks in
      let each : EachAtMost 200 (sheet_lines r ++ (ps ++ (cs ++ ms))) =
      most_append 200 (sheet_lines r) (ps ++ (cs ++ ms)) (sheet_length r g)
      (most_append 200 ps (cs ++ ms) (positions_length y.held [] refl)
      (most_append 200 cs ms (claims_length y.claims [] refl) (marks_length marks m.short))) in
      let first : length (size_line size) ≤ 200 = line_length (codes "size=") (decimal size ∷ []) (omega arith) (natural_length size (omega arith), tt) in
      let total = lines_length (size_line size ∷ (sheet_lines r ++ (ps ++ (cs ++ ms)))) (first, each) in
      omega (arith, sheet_count r, length-append (sheet_lines r) (ps ++ (cs ++ ms)), length-append ps (cs ++ ms), length-append cs ms, length-map y.held position_line, length-map y.claims claim_line, length-map marks mark_line)
