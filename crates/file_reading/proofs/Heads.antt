-- Lines of a key and one field, and the head of a file.
use Rattle.std.proofs.Common.{◌≡◌, ℕ, ◌+◌, ◌≤◌, Bool, true, false, cond, ◌&&◌, leb, List, [], ◌∷◌, ◌++◌, length, take, drop, Some, None, Ok, Err, codes, Option, Result, sym, refl, ap, ◌∙◌, subst, arith}
use Rattle.std.specs.List.{join_with_byte}
use Rattle.std.specs.Result.{result_map_both}
use Rattle.std.specs.Str.{bytes_eq}
use Rattle.std.proofs.Math.Seq.{take-append_seam, drop-append_seam}
use Rattle.std.proofs.lemmas.List.{take-append-drop}
use Rattle.std.proofs.lemmas.Slice.Eq.{bytes_eq-Decides}
use Rattle.std.proofs.lemmas.Bool.{le-leb, leb-true, and_from, and_parts, cond-true}
use Rattle.rules_amounts.specs.declared.rate.Rate.{Rate}
use Rattle.rules_amounts.specs.Ranges.{inside}
use Rattle.rules_amounts.specs.Rates.{points}
use Rattle.rules_market.specs.declared.SheetFault.{SheetFault}
use Rattle.rules_market.specs.declared.SheetFault.TheVariants.{OutOfRange}
use Rattle.rules_market.specs.Sheets.{price_in_range, rate_in_range, none_or_in_range}
use Rattle.rules_market.specs.Share.{Shares, sheet_of}
use Rattle.rules_market.specs.Currency.{Currency, currency_of}
use Rattle.rules_books.specs.declared.sheets.Sheet.{Sheet}
use Rattle.rules_books.specs.declared.sheets.Sheet.TheVariants as sheet
use Rattle.rules_books.specs.Tables.{IsSize}
use Rattle.file_fields.specs.declared.BadField.{BadField}
use Rattle.file_fields.specs.Fields.{split, Got, then_read, one_field}
use Rattle.file_head.specs.declared.faults.LineFault.{LineFault}
use Rattle.file_head.specs.declared.faults.ReadFault.{ReadFault}
use Rattle.file_head.specs.declared.head.MarketName.{MarketName}
use Rattle.file_head.specs.declared.head.MarketName.TheVariants as name
use Rattle.file_head.specs.Faults.{from_field}
use Rattle.file_head.specs.Lines.{strip, after_key, single, value_of, line_gives, value_line}
use Rattle.file_head.specs.Rates.{Rates, share, currency, rates_on}
use Rattle.file_head.specs.Head.{sheet_judged, sheet_named, sheet_at, Head, with_size, sized, size_at, head_at}
use Rattle.file_writing.specs.Texts.{line, sheet_lines, size_line}
use Rattle.file_reading.proofs.Parts.{AtLeast, at_least, EachAtLeast, least, least_append, least_rejoined}
use Rattle.file_reading.proofs.Again.{Reads}
use Rattle.file_reading.proofs.Numbers.{Small, reads_natural}
use Rattle.file_reading.proofs.Words.{SmallIfAny, market_text, reads_market, reads_yes, reads_rate}
use Rattle.file_reading.proofs.Values.{One, one_read, one_given}

-- ---- a key

pub strip_text : (ks bs v : List ℕ) → strip ks bs ≡ Some v → ks ++ v ≡ bs
strip_text ks bs v e = at (bytes_eq (take (length ks) bs) ks) refl e
  where
    at : (b : Bool) → bytes_eq (take (length ks) bs) ks ≡ b → cond b (Some (drop (length ks) bs)) None ≡ Some v → ks ++ v ≡ bs
    at true q e =
        let t : take (length ks) bs ≡ ks = (bytes_eq-Decides _ _).0 q in
        let w : drop (length ks) bs ≡ v = cc in
        (λ i. sym t i ++ sym w i) ∙ take-append-drop (length ks) bs
    at false q e = cc

strip_key : (ks v : List ℕ) → strip ks (ks ++ v) ≡ Some v
strip_key ks v =
    (λ i. cond (bytes_eq (take-append_seam ks v i) ks) (Some (drop-append_seam ks v i)) None)
    ∙ ap (λ b. cond b (Some v) None) ((bytes_eq-Decides ks ks).1 refl)

-- no byte of a line ends it
pub line_bytes : (key : List ℕ) (fields : List (List ℕ)) → AtLeast 11 key → EachAtLeast 45 fields → AtLeast 11 (line key fields)
line_bytes key fields k h = least_append 11 key (join_with_byte 44 fields) k (least_rejoined 11 45 44 fields (omega arith) (omega arith) h)

-- ---- a key and one field

-- a line that was due was read, and then the others
record LineRead {A B : Type 0} (text : A → List ℕ) (Good : A → Type 0) (key : List ℕ) (n : ℕ) (fs : List (List ℕ)) (next : A → ℕ → List (List ℕ) → Result B ReadFault) (r : B) : Type 0 where
  value : A
  first : List ℕ
  others : List (List ℕ)
  joined : (gs : List (List ℕ)) → gs ≡ first ∷ others → line key (text value ∷ []) ∷ gs ≡ fs
  rest : next value (n + 1) (first ∷ others) ≡ Ok r

module _ {A : Type 0} {reads : List ℕ → Option A} {text : A → List ℕ} {Good : A → Type 0} (R : Reads reads text Good) (key : List ℕ) where
  single_read : (p : ℕ) (v : List ℕ) (x : A) (r : Result A BadField) → one_field reads p (split 44 v) ≡ r → result_map_both (λ y. y) from_field r ≡ Ok x → One text Good v x
  single_read p v x (Ok y) q e = let i : y ≡ x = cc in one_read R p v x (q ∙ ap Ok i)
  single_read p v x (Err b) q e = absurd cc

  value_read : (f : List ℕ) (x : A) (o : Option (List ℕ)) → strip key f ≡ o → after_key (single reads) (length key + 1) o ≡ Ok x → One (λ y. line key (text y ∷ [])) Good f x
  value_read f x (Some v) q e =
      let o = single_read (length key + 1) v x (one_field reads (length key + 1) (split 44 v)) refl e in
      record { text_is = ap (λ l. key ++ l) o.text_is ∙ strip_text key f v q; good = o.good }
  value_read f x None q e = absurd cc

  value_given : (x : A) → Good x → value_of reads key (line key (text x ∷ [])) ≡ Ok x
  value_given x g =
      ap (after_key (single reads) (length key + 1)) (strip_key key (text x))
      ∙ ap (result_map_both (λ y. y) from_field) (one_given R (length key + 1) x g)

  pub value_bytes : (x : A) → at_least 11 key ≡ true → Good x → AtLeast 11 (line key (text x ∷ []))
  value_bytes x k g = line_bytes key (text x ∷ []) (least 11 key k) (R.bytes x g, tt)

  line_read : {B : Type 0} (n : ℕ) (fs : List (List ℕ)) (next : A → ℕ → List (List ℕ) → Result B ReadFault) (r : B) → then_read (value_line reads key n fs) next ≡ Ok r → LineRead text Good key n fs next r
  unfolding value_line
  line_read n [] next r e = absurd cc
  line_read n (f ∷ []) next r e = absurd cc
  line_read n (f ∷ g ∷ gs) next r e = at (value_of reads key f) refl e
    where
      at : (o : Result A LineFault) → value_of reads key f ≡ o → then_read (line_gives n (g ∷ gs) o) next ≡ Ok r → LineRead text Good key n (f ∷ g ∷ gs) next r
      at (Ok x) h e = let o = value_read f x (strip key f) refl h in record { value = x; first = g; others = gs; joined = λ ls q. (λ i. o.text_is i ∷ q i); rest = e }
      at (Err b) h e = absurd cc

  pub line_given : {B : Type 0} (x : A) → Good x → (n : ℕ) (g : List ℕ) (gs : List (List ℕ)) (next : A → ℕ → List (List ℕ) → Result B ReadFault) → then_read (value_line reads key n (line key (text x ∷ []) ∷ g ∷ gs)) next ≡ next x (n + 1) (g ∷ gs)
  unfolding value_line
  line_given x g n l ls next = ap (λ o. then_read (line_gives n (l ∷ ls) o) next) (value_given x g)

-- ---- a sheet that was read

-- the lines of a sheet and at least one piece more
pub record SheetRead (fs : List (List ℕ)) (g : Got Rates) : Type 0 where
  pub first : List ℕ
  pub others : List (List ℕ)
  pub left_is : g.left ≡ first ∷ others
  pub is : fs ≡ sheet_lines g.value ++ g.left

judged_read : {A : Type 0} (rates : A → Rates) (n : ℕ) (s : A) (m : ℕ) (fs : List (List ℕ)) (g : Got Rates) → sheet_judged rates n (Ok s) m fs ≡ Ok g → record { value = rates s; place = m; left = fs } ≡ g
judged_read rates n s m fs g e = cc

passed : {A : Type 0} (rates : A → Rates) (n : ℕ) (b : Bool) (r : Result A SheetFault) (f : SheetFault) (m : ℕ) (fs : List (List ℕ)) (g : Got Rates) → sheet_judged rates n (cond b r (Err f)) m fs ≡ Ok g → sheet_judged rates n r m fs ≡ Ok g
passed rates n true r f m fs g e = e
passed rates n false r f m fs g e = absurd cc

abbrev market_line : MarketName → List ℕ
market_line market = line (codes "market=") (market_text market ∷ [])

shares_judged : (n : ℕ) (s : Shares) (m : ℕ) (f : List ℕ) (fs : List (List ℕ)) (g : Got Rates) → sheet_judged share n (sheet_of s) m (f ∷ fs) ≡ Ok g → SheetRead (sheet_lines (share s) ++ (f ∷ fs)) g
shares_judged n s m f fs g e =
    let made = passed share n (price_in_range s.price && (rate_in_range s.floor && (none_or_in_range s.futures && none_or_in_range s.tracking))) (Ok s) OutOfRange m (f ∷ fs) g e in
    subst (SheetRead (sheet_lines (share s) ++ (f ∷ fs))) (judged_read share n s m (f ∷ fs) g made) (record { first = f; others = fs; left_is = refl; is = refl })

currency_judged : (n : ℕ) (c : Currency) (m : ℕ) (f : List ℕ) (fs : List (List ℕ)) (g : Got Rates) → sheet_judged currency n (currency_of c) m (f ∷ fs) ≡ Ok g → SheetRead (sheet_lines (currency c) ++ (f ∷ fs)) g
currency_judged n c m f fs g e =
    let made = passed currency n (price_in_range c.price && rate_in_range c.spot) (Ok c) OutOfRange m (f ∷ fs) g e in
    subst (SheetRead (sheet_lines (currency c) ++ (f ∷ fs))) (judged_read currency n c m (f ∷ fs) g made) (record { first = f; others = fs; left_is = refl; is = refl })

named_read : (market : MarketName) (n : ℕ) (fs : List (List ℕ)) (g : Got Rates) → sheet_named market n fs ≡ Ok g → SheetRead (market_line market ∷ fs) g
named_read name.Share n fs g h =
    let price = line_read reads_natural (codes "price=") n fs _ g h in
    let reduced = line_read reads_yes (codes "reduced=") _ (price.first ∷ price.others) _ g price.rest in
    let floor = line_read reads_natural (codes "floor=") _ (reduced.first ∷ reduced.others) _ g reduced.rest in
    let futures = line_read reads_rate (codes "futures=") _ (floor.first ∷ floor.others) _ g floor.rest in
    let tracking = line_read reads_rate (codes "tracking=") _ (futures.first ∷ futures.others) _ g futures.rest in
    subst (λ l. SheetRead (market_line name.Share ∷ l) g) (price.joined _ (reduced.joined _ (floor.joined _ (futures.joined _ (tracking.joined _ refl)))))
    (shares_judged _ (record { price = price.value; reduced = reduced.value; floor = floor.value; futures = futures.value; tracking = tracking.value }) _ tracking.first tracking.others g tracking.rest)
named_read name.Currency n fs g h =
    let price = line_read reads_natural (codes "price=") n fs _ g h in
    let spot = line_read reads_natural (codes "spot=") _ (price.first ∷ price.others) _ g price.rest in
    subst (λ l. SheetRead (market_line name.Currency ∷ l) g) (price.joined _ (spot.joined _ refl))
    (currency_judged _ (record { price = price.value; spot = spot.value }) _ spot.first spot.others g spot.rest)

sheet_read : (n : ℕ) (fs : List (List ℕ)) (g : Got Rates) → sheet_at n fs ≡ Ok g → SheetRead fs g
sheet_read n fs g h =
    let market = line_read reads_market (codes "market=") n fs sheet_named g h in
    subst (λ l. SheetRead l g) (market.joined _ refl) (named_read market.value (n + 1) (market.first ∷ market.others) g market.rest)

-- ---- the head that was read

pub record HeadRead (fs : List (List ℕ)) (g : Got Head) : Type 0 where
  pub first : List ℕ
  pub others : List (List ℕ)
  pub left_is : g.left ≡ first ∷ others
  pub is : fs ≡ size_line g.value.size ∷ (sheet_lines g.value.rates ++ g.left)
  pub sized : inside 1 1000 g.value.size ≡ true

with_size_lem : (size n : ℕ) (fs : List (List ℕ)) (g : Got Head) → inside 1 1000 size ≡ true → (r : Result (Got Rates) ReadFault) → sheet_at n fs ≡ r → with_size size r ≡ Ok g → HeadRead (size_line size ∷ fs) g
with_size_lem size n fs g k (Ok s) q e =
    let i : record { value = record { size = size; rates = s.value }; place = s.place; left = s.left } ≡ g = cc in
    let r = sheet_read n fs s q in
    subst (HeadRead (size_line size ∷ fs)) i (record { first = r.first; others = r.others; left_is = r.left_is; is = ap (λ l. size_line size ∷ l) r.is; sized = k })
with_size_lem size n fs g k (Err f) q e = absurd cc

-- a size in range, and its line
record SizeRead (fs : List (List ℕ)) (s : Got ℕ) : Type 0 where
  sized : inside 1 1000 s.value ≡ true
  is : fs ≡ size_line s.value ∷ s.left

sized_read : (n size m : ℕ) (fs : List (List ℕ)) (s : Got ℕ) (f : ReadFault) (b : Bool) → inside 1 1000 size ≡ b → cond b (Ok (record { value = size; place = m; left = fs })) (Err f) ≡ Ok s → SizeRead (size_line size ∷ fs) s
sized_read n size m fs s f true k e =
    let i : record { value = size; place = m; left = fs } ≡ s = cc in
    subst (SizeRead (size_line size ∷ fs)) i (record { sized = k; is = refl })
sized_read n size m fs s f false k e = absurd cc

size_read : (n : ℕ) (fs : List (List ℕ)) (s : Got ℕ) → size_at n fs ≡ Ok s → SizeRead fs s
size_read n fs s h =
    let size = line_read reads_natural (codes "size=") n fs (sized n) s h in
    subst (λ l. SizeRead l s) (size.joined _ refl) (sized_read n size.value (n + 1) (size.first ∷ size.others) s _ (inside 1 1000 size.value) refl size.rest)

pub head_read : (n : ℕ) (fs : List (List ℕ)) (g : Got Head) → head_at n fs ≡ Ok g → HeadRead fs g
head_read n fs g h = at (size_at n fs) refl h
  where
    at : (r : Result (Got ℕ) ReadFault) → size_at n fs ≡ r → then_read r (λ size m gs. with_size size (sheet_at m gs)) ≡ Ok g → HeadRead fs g
    at (Ok s) q e =
        let z = size_read n fs s q in
        subst (λ l. HeadRead l g) (sym z.is) (with_size_lem s.value s.place s.left g z.sized (sheet_at s.place s.left) refl e)
    at (Err f) q e = absurd cc

-- ---- a head that is written

pub record GoodShares (s : Shares) : Type 0 where
  pub price : Small s.price
  pub floor : Small s.floor
  pub futures : SmallIfAny s.futures
  pub tracking : SmallIfAny s.tracking
  pub accepted : sheet_of s ≡ Ok s

pub record GoodCurrency (c : Currency) : Type 0 where
  pub price : Small c.price
  pub spot : Small c.spot
  pub accepted : currency_of c ≡ Ok c

abbrev pub GoodRates : Rates → Type 0
GoodRates (share s) = GoodShares s
GoodRates (currency c) = GoodCurrency c

in_range_lem : (low high n : ℕ) → low ≤ n → n ≤ high → inside low high n ≡ true
in_range_lem low high n l h = and_from (leb low n) (leb n high) (le-leb low n l) (le-leb n high h)

rate_small : (o : Option Rate) → SmallIfAny (points o)
rate_small None = tt
rate_small (Some r) = omega (arith, r.high)

rate_in_range_lem : (o : Option Rate) → none_or_in_range (points o) ≡ true
rate_in_range_lem None = refl
rate_in_range_lem (Some r) = in_range_lem 0 10000 r.basis_points (omega arith) r.high

pub good_rates : (s : Sheet) → GoodRates (rates_on s)
good_rates (sheet.Share s) = record {
  price = omega (arith, s.price.high);
  floor = omega (arith, s.floor.high);
  futures = rate_small s.futures;
  tracking = rate_small s.tracking;
  accepted =
      let rates = and_from (none_or_in_range (points s.futures)) (none_or_in_range (points s.tracking)) (rate_in_range_lem s.futures) (rate_in_range_lem s.tracking) in
      let floor = and_from (rate_in_range s.floor.basis_points) _ (in_range_lem 0 10000 s.floor.basis_points (omega arith) s.floor.high) rates in
      cond-true _ _ _ (and_from (price_in_range s.price.amount) _ (in_range_lem 1 500000 s.price.amount s.some s.price.high) floor);
}
good_rates (sheet.Currency c) = record {
  price = omega (arith, c.price.high);
  spot = omega (arith, c.spot.high);
  accepted =
      let spot = in_range_lem 0 10000 c.spot.basis_points (omega arith) c.spot.high in
      cond-true _ _ _ (and_from (price_in_range c.price.amount) _ (in_range_lem 1 500000 c.price.amount c.some c.price.high) spot);
}

sheet_given : (r : Rates) → GoodRates r → (n : ℕ) (f : List ℕ) (fs : List (List ℕ)) → (m : ℕ) × (sheet_at n (sheet_lines r ++ (f ∷ fs)) ≡ Ok (record { value = r; place = m; left = f ∷ fs }))
sheet_given (share s) k n f fs = (
  n + 1 + 1 + 1 + 1 + 1 + 1,
  line_given reads_market (codes "market=") name.Share tt n _ _ sheet_named
      ∙ line_given reads_natural (codes "price=") s.price k.price _ _ _ _
      ∙ line_given reads_yes (codes "reduced=") s.reduced tt _ _ _ _
      ∙ line_given reads_natural (codes "floor=") s.floor k.floor _ _ _ _
      ∙ line_given reads_rate (codes "futures=") s.futures k.futures _ _ _ _
      ∙ line_given reads_rate (codes "tracking=") s.tracking k.tracking _ f fs _
      ∙ ap (λ a. sheet_judged share (n + 1 + 1 + 1 + 1 + 1) a (n + 1 + 1 + 1 + 1 + 1 + 1) (f ∷ fs)) k.accepted,
)
sheet_given (currency c) k n f fs = (
  n + 1 + 1 + 1,
  line_given reads_market (codes "market=") name.Currency tt n _ _ sheet_named
      ∙ line_given reads_natural (codes "price=") c.price k.price _ _ _ _
      ∙ line_given reads_natural (codes "spot=") c.spot k.spot _ f fs _
      ∙ ap (λ a. sheet_judged currency (n + 1 + 1) a (n + 1 + 1 + 1) (f ∷ fs)) k.accepted,
)

pub in_size : (size : ℕ) → inside 1 1000 size ≡ true → IsSize size
in_size size k = let p = and_parts (leb 1 size) (leb size 1000) k in (leb-true 1 size p.0, leb-true size 1000 p.1)

small_size : (size : ℕ) → inside 1 1000 size ≡ true → Small size
small_size size k = omega (arith, (in_size size k).1)

-- the size in front
size_given : (size : ℕ) → inside 1 1000 size ≡ true → (n : ℕ) (f : List ℕ) (fs : List (List ℕ)) → size_at n (size_line size ∷ f ∷ fs) ≡ Ok (record { value = size; place = n + 1; left = f ∷ fs })
size_given size k n f fs =
    line_given reads_natural (codes "size=") size (small_size size k) n f fs (sized n)
    ∙ cond-true (inside 1 1000 size) _ _ k

headed : (size : ℕ) → inside 1 1000 size ≡ true → (n : ℕ) (f : List ℕ) (fs : List (List ℕ)) (r : Result (Got Rates) ReadFault) → sheet_at (n + 1) (f ∷ fs) ≡ r → head_at n (size_line size ∷ f ∷ fs) ≡ with_size size r
headed size k n f fs r e = ap (λ a. then_read a (λ size m gs. with_size size (sheet_at m gs))) (size_given size k n f fs) ∙ ap (with_size size) e

pub head_given : (size : ℕ) (r : Rates) → inside 1 1000 size ≡ true → GoodRates r → (n : ℕ) (f : List ℕ) (fs : List (List ℕ)) → (m : ℕ) × (head_at n (size_line size ∷ (sheet_lines r ++ (f ∷ fs))) ≡ Ok (record { value = record { size = size; rates = r }; place = m; left = f ∷ fs }))
head_given size (share s) k g n f fs = let z = sheet_given (share s) g (n + 1) f fs in (z.0, headed size k n _ _ _ z.1)
head_given size (currency c) k g n f fs = let z = sheet_given (currency c) g (n + 1) f fs in (z.0, headed size k n _ _ _ z.1)

-- ---- the bytes of the lines

pub size_bytes : (size : ℕ) → inside 1 1000 size ≡ true → AtLeast 11 (size_line size)
size_bytes size k = value_bytes reads_natural (codes "size=") size refl (small_size size k)

pub sheet_bytes : (r : Rates) → GoodRates r → EachAtLeast 11 (sheet_lines r)
sheet_bytes (share s) k =
    (value_bytes reads_market (codes "market=") name.Share refl tt, (value_bytes reads_natural (codes "price=") s.price refl k.price, (value_bytes reads_yes (codes "reduced=") s.reduced refl tt, (value_bytes reads_natural (codes "floor=") s.floor refl k.floor, (value_bytes reads_rate (codes "futures=") s.futures refl k.futures, (value_bytes reads_rate (codes "tracking=") s.tracking refl k.tracking, tt))))))
sheet_bytes (currency c) k =
    (value_bytes reads_market (codes "market=") name.Currency refl tt, (value_bytes reads_natural (codes "price=") c.price refl k.price, (value_bytes reads_natural (codes "spot=") c.spot refl k.spot, tt)))
