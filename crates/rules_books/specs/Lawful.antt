-- Lemmas: a book over a market that keeps its limits is lawful, and so are the books of the two sheets.
-- They stand here, and not in `proofs/`, since a ghost member of an implementation may cite nothing outside `specs/`; no contract speaks of them.
use Rattle.std.specs.Prelude.{◌≡◌, ℕ, ◌*◌, ◌≤◌, List, [], ◌∷◌, map, Some, None, Ok, Err, Option, Result}
use Rattle.std.proofs.Common.{ap, arith}
use Rattle.std.specs.Result.{result_map_both}
use Rattle.rules_market.specs.Quote.{Quote, KeepsLimits, AtMost, needed}
use Rattle.rules_positions.specs.declared.Side.{Side}
use Rattle.rules_positions.specs.declared.Side.TheVariants.{Long, Short}
use Rattle.rules_positions.specs.declared.Kind.TheVariants.{Units, Call, Put, Futures, Receipt}
use Rattle.rules_positions.specs.Kinds.{other_side}
use Rattle.rules_positions.specs.declared.record.Record.{Record}
use Rattle.rules_positions.specs.Records.{Terms, terms}
use Rattle.rules_pricing.specs.declared.Right.{Right}
use Rattle.rules_pricing.specs.declared.Right.TheVariants as right
use Rattle.rules_pricing.specs.Alone.{by_kind, alone}
use Rattle.rules_articles.specs.declared.Article.{Article}
use Rattle.rules_articles.specs.declared.Leg.TheVariants.{First, Second, Third}
use Rattle.rules_articles.specs.declared.ArticleFault.{ArticleFault}
use Rattle.rules_articles.specs.declared.ArticleFault.TheVariants.{WrongLeg}
use Rattle.rules_articles.specs.Causes.{from_market}
use Rattle.rules_articles.specs.Conditions.{leg_is, not_later, same_days, and_then}
use Rattle.rules_pricing.specs.Kinds.{kind_of_right}
use Rattle.rules_articles.specs.Articles.{spread, straddle, protective_put, aligned, conversion, reconversion, receipt_call}
use Rattle.rules_articles.specs.ByArticle.{leg_count, of_two, of_three, requirement_of}
use Rattle.rules_books.specs.Tables.{IsAnswer, IsLawful}
use Rattle.rules_market.specs.declared.share_sheet.ShareSheet.{ShareSheet}
use Rattle.rules_market.specs.declared.currency_sheet.CurrencySheet.{CurrencySheet}
use Rattle.rules_market.specs.Share.{share_quote, shares_on}
use Rattle.rules_market.specs.Currency.{currency_quote, currency_on}
use Rattle.rules_market.specs.Limits.{share_limits, currency_limits}
use Rattle.rules_books.specs.declared.sheets.Sheet.{Sheet}
use Rattle.rules_books.specs.declared.sheets.Sheet.TheVariants as sheet
use Rattle.rules_books.specs.Books.{raised, share_article, currency_article, tables_over, share_tables, currency_tables, sheet_tables}
use Rattle.rules_books.specs.Amounts.{IsBounded, bounded, rated, unit_limit, alone_limit, spread_limit, straddle_limit, protective_limit, conversion_limit, reconversion_limit}
use Rattle.rules_pricing.specs.Priced.{contracts_of}

-- ---- causes

raised_within : (f : ArticleFault) → IsAnswer (Err (raised f))
raised_within f = grind arith

-- ---- what comes then_kept conditions

abbrev Kept : Result ℕ ArticleFault → Type 0
Kept r = IsAnswer (result_map_both (λ parts. parts) raised r)

refused : (f : ArticleFault) → Kept (Err f)
refused f = raised_within f

then_kept : {A : Type 0} (r : Result A ArticleFault) (next : A → Result ℕ ArticleFault) → ((x : A) → r ≡ Ok x → Kept (next x)) → Kept (and_then r next)
then_kept (Ok x) next h = h x (λ i. Ok x)
then_kept (Err f) next h = refused f

-- ---- the articles

spread_kept : (q : Quote) (s : ℕ) (r : Right) (a b : Terms) → KeepsLimits q → s ≤ 1000 → IsBounded b → Kept (spread (contracts_of q s) r a b)
spread_kept q s r a b l h c =
    then_kept (leg_is First Long (kind_of_right r) a) _ (λ _ _.
    then_kept (leg_is Second Short (kind_of_right r) b) _ (λ _ _.
    then_kept (not_later a b) _ (λ _ _.
    spread_limit q s r a b l h c)))

straddle_kept : (q : Quote) (s : ℕ) (a b : Terms) → KeepsLimits q → s ≤ 1000 → IsBounded a → IsBounded b → Kept (straddle (contracts_of q s) a b)
straddle_kept q s a b l h c d =
    then_kept (leg_is First Short Call a) _ (λ _ _.
    then_kept (leg_is Second Short Put b) _ (λ _ _.
    straddle_limit q s a b l h c d))

protective_kept : (q : Quote) (s : ℕ) (a b : Terms) → KeepsLimits q → s ≤ 1000 → Kept (protective_put (contracts_of q s) a b)
protective_kept q s a b l h =
    then_kept (leg_is First Long Put a) _ (λ _ _.
    then_kept (leg_is Second Long Units b) _ (λ _ _.
    protective_limit q s a l h))

receipt_kept : (a b : Terms) → Kept (receipt_call a b)
receipt_kept a b =
    then_kept (leg_is First Short Call a) _ (λ _ _.
    then_kept (leg_is Second Long Receipt b) _ (λ _ _.
    omega arith))

-- the tracked amount of a unit is at most the whole price
tracked_within : (p : ℕ) (o : Option ℕ) (n : ℕ) → p ≤ 500000 → AtMost 10000 o → result_map_both (λ parts. parts) from_market (result_map_both (λ rate. rate * p) (λ f. f) (needed o)) ≡ Ok n → n ≤ 5000000000
tracked_within p None n h k e = grind arith
tracked_within p (Some r) n h k e = let same : n ≡ r * p = cc in omega (arith, same, rated r p k h)

passes : {A B : Type 0} (r : Result A ArticleFault) (next : A → Result B ArticleFault) (x : B) (P : Type 0) → and_then r next ≡ Ok x → ((y : A) → next y ≡ Ok x → P) → P
passes (Ok y) next x P e f = f y e
passes (Err g) next x P e f = absurd cc

aligned_limit : (q : Quote) (side : Side) (a b c : Terms) (n : ℕ) → KeepsLimits q → aligned q side a b c ≡ Ok n → n ≤ 5000000000
aligned_limit q side a b c n l e =
    passes (leg_is First side Put a) _ n _ e (λ _ e.
    passes (leg_is Second (other_side side) Call b) _ n _ e (λ _ e.
    passes (leg_is Third side Futures c) _ n _ e (λ _ e.
    passes (same_days a b c) _ n _ e (λ _ e.
    tracked_within q.price q.tracking n l.price_high l.tracking_high e))))

conversion_kept : (q : Quote) (s : ℕ) (a b c : Terms) → KeepsLimits q → s ≤ 1000 → IsBounded a → IsBounded c → Kept (conversion (contracts_of q s) a b c)
conversion_kept q s a b c l h p r =
    then_kept (aligned q Long a b c) _ (λ n e. conversion_limit s n a b c h (aligned_limit q Long a b c n l e) p r)

reconversion_kept : (q : Quote) (s : ℕ) (a b c : Terms) → KeepsLimits q → s ≤ 1000 → IsBounded a → IsBounded b → Kept (reconversion (contracts_of q s) a b c)
reconversion_kept q s a b c l h p r =
    then_kept (aligned q Short a b c) _ (λ n e. reconversion_limit s n a b c h (aligned_limit q Short a b c n l e) p r)

two_kept : (q : Quote) (s : ℕ) (article : Article) (a b : Terms) → KeepsLimits q → s ≤ 1000 → IsBounded a → IsBounded b → Kept (of_two (contracts_of q s) article a b)
two_kept q s article a b l h p r =
    let third = refused (WrongLeg Third) in
    let calls = spread_kept q s right.Call a b l h r in
    let puts = spread_kept q s right.Put a b l h r in
    let straddled = straddle_kept q s a b l h p r in
    let protected = protective_kept q s a b l h in
    let received = receipt_kept a b in
    grind arith

three_kept : (q : Quote) (s : ℕ) (article : Article) (a b c : Terms) → KeepsLimits q → s ≤ 1000 → IsBounded a → IsBounded b → IsBounded c → Kept (of_three (contracts_of q s) article a b c)
three_kept q s article a b c l h i j k =
    let third = refused (WrongLeg Third) in
    let converted = conversion_kept q s a b c l h i k in
    let reconverted = reconversion_kept q s a b c l h i j in
    grind arith

set_kept : (q : Quote) (s : ℕ) (article : Article) (legs : List Record) → KeepsLimits q → s ≤ 1000 → Kept (requirement_of (contracts_of q s) article (map terms legs))
set_kept q s article [] l h = refused (WrongLeg First)
set_kept q s article (a ∷ []) l h = refused (WrongLeg Second)
set_kept q s article (a ∷ b ∷ []) l h = two_kept q s article (terms a) (terms b) l h (bounded a) (bounded b)
set_kept q s article (a ∷ b ∷ c ∷ []) l h = three_kept q s article (terms a) (terms b) (terms c) l h (bounded a) (bounded b) (bounded c)
set_kept q s article (a ∷ b ∷ c ∷ d ∷ more) l h = refused (WrongLeg Third)

-- ---- the book

two_at_least : (article : Article) → 2 ≤ leg_count article
two_at_least article = grind arith

three_at_most : (article : Article) → leg_count article ≤ 3
three_at_most article = grind arith

unit_alone : (q : Quote) (s : ℕ) (t : Terms) → KeepsLimits q → t.kind ≡ Units → alone (contracts_of q s) t ≤ 10000000000
unit_alone q s t l e = omega (arith, ap (by_kind (contracts_of q s) t) e, unit_limit q t.side l)

pub lawful_over : (count : ℕ) (article : ℕ → Article) (q : Quote) → 1 ≤ count → count ≤ 16 → KeepsLimits q → IsLawful (tables_over count article q)
lawful_over count article q some few l = record {
  some_article = some;
  few_articles = few;
  legs_low = λ number _. two_at_least (article number);
  legs_high = λ number _. three_at_most (article number);
  alone_limit = λ s r size. alone_limit q s (terms r) l size.1 (bounded r);
  unit_limit = λ s r size e. unit_alone q s (terms r) l e;
  paired_limit = λ s number legs size _ _. set_kept q s (article number) legs l size.1;
  alone_alike = λ s r x e. ap (alone (contracts_of q s)) e;
  paired_alike = λ s number legs others e. ap (λ ts. result_map_both (λ parts. parts) raised (requirement_of (contracts_of q s) (article number) ts)) e;
}

-- ---- the books

pub share_lawful : (s : ShareSheet) → IsLawful (share_tables (share_quote (shares_on s)))
share_lawful s = lawful_over 6 share_article (share_quote (shares_on s)) (omega arith) (omega arith) (share_limits s)

pub currency_lawful : (c : CurrencySheet) → IsLawful (currency_tables (currency_quote (currency_on c)))
currency_lawful c = lawful_over 5 currency_article (currency_quote (currency_on c)) (omega arith) (omega arith) (currency_limits c)

pub sheet_lawful : (s : Sheet) → IsLawful (sheet_tables s)
sheet_lawful (sheet.Share s) = share_lawful s
sheet_lawful (sheet.Currency c) = currency_lawful c
