-- The term that is named comes to the requirement.
use Rattle.std.proofs.Common.{◌≡◌, ℕ, ◌+◌, ◌-◌, ◌*◌, min, max, Bool, true, false, cond, List, [], ◌∷◌, ℤ, pos, Ok, Err, Result, refl, ap, ◌∙◌, sym, arith}
use Rattle.std.specs.Prelude.{int_lt}
use Rattle.std.specs.Int.{int_max}
use Rattle.std.specs.Result.{result_map_both, result_unwrap_or}
use Rattle.std.proofs.lemmas.Int.{ints}
use Rattle.rules_market.specs.Quote.{Quote, tracked_of}
use Rattle.rules_market.specs.declared.MarketFault.{MarketFault}
use Rattle.rules_positions.specs.declared.Side.{Side}
use Rattle.rules_positions.specs.declared.Side.TheVariants.{Long, Short}
use Rattle.rules_positions.specs.declared.Kind.TheVariants.{Units, Call, Put, Futures, Receipt}
use Rattle.rules_positions.specs.Kinds.{other_side}
use Rattle.rules_positions.specs.Records.{Terms}
use Rattle.rules_pricing.specs.declared.Right.{Right}
use Rattle.rules_pricing.specs.declared.Right.TheVariants as right
use Rattle.rules_pricing.specs.Kinds.{kind_of_right}
use Rattle.rules_pricing.specs.Alone.{positive_part}
use Rattle.rules_articles.specs.declared.Article.{Article}
use Rattle.rules_articles.specs.declared.Leg.TheVariants.{First, Second, Third}
use Rattle.rules_articles.specs.declared.ArticleFault.{ArticleFault}
use Rattle.rules_articles.specs.Causes.{from_market}
use Rattle.rules_articles.specs.Conditions.{leg_is, not_later, same_days, and_then}
use Rattle.rules_articles.specs.Articles.{spread, straddle, protective_put, aligned, conversion, reconversion, receipt_call}
use Rattle.rules_articles.specs.Sets.{short_alone, contract, apart, signed_contract}
use Rattle.rules_articles.specs.ByArticle.{of_two, of_three, requirement_of}
use Rattle.page_workings.specs.declared.TermAmount.{TermAmount}
use Rattle.page_workings.specs.declared.RuleTerm.{RuleTerm}
use Rattle.page_workings.specs.declared.RuleTerm.TheVariants.{ShortOption, StrikeDifference, ShortCall, ShortPut, PutStrikeAboveCall, LongUnits, PriceAndPremiumLessStrike, TrackedAmount, ConversionDifference}
use Rattle.page_workings.specs.Rules.{term_amount, lesser, greater, spread_term, straddle_term, protective_put_term, tracked_term, conversion_term, reconversion_term, nothing_required, term_of_two, term_of_three, rule_term}
use Rattle.rules_pricing.specs.Priced.{contracts_of}

-- where there is a requirement, the term comes to it
abbrev Comes : ℤ → Result ℕ ArticleFault → Type 0
Comes z (Ok n) = z ≡ pos n
Comes z (Err f) = Unit {0}

after : {A : Type 0} (x : ℤ) (r : Result A ArticleFault) (next : A → Result ℕ ArticleFault) → ((y : A) → r ≡ Ok y → Comes x (next y)) → Comes x (and_then r next)
after x (Ok y) next h = h y (λ i. Ok y)
after x (Err f) next h = tt

-- ---- the lesser and the greater

chosen : (b : Bool) (x y : TermAmount) → (cond b x y).parts ≡ cond b x.parts y.parts
chosen true x y = refl
chosen false x y = refl

lesser_of : (s t : RuleTerm) (a b : ℕ) → (lesser (term_amount s (pos a)) (term_amount t (pos b))).parts ≡ pos (min a b)
lesser_of s t a b = chosen (int_lt (pos b) (pos a)) (term_amount t (pos b)) (term_amount s (pos a)) ∙ grind (arith, ints)

greater_of : (x : TermAmount) (t : RuleTerm) (a b : ℕ) → x.parts ≡ pos a → (greater x (term_amount t (pos b))).parts ≡ pos (max a b)
greater_of x t a b h = chosen (int_lt x.parts (pos b)) (term_amount t (pos b)) x ∙ grind (arith, ints)

greatest_of : (s t : RuleTerm) (a : ℕ) (d : ℤ) → (greater (term_amount s (pos a)) (term_amount t d)).parts ≡ pos (positive_part (int_max (pos a) d))
greatest_of s t a d = chosen (int_lt (pos a) d) (term_amount t d) (term_amount s (pos a)) ∙ grind (arith, ints)

-- ---- the articles

spread_comes : (q : Quote) (s : ℕ) (r : Right) (a b : Terms) → Comes (spread_term (contracts_of q s) r a b).parts (spread (contracts_of q s) r a b)
spread_comes q s r a b =
    after _ (leg_is First Long (kind_of_right r) a) _ (λ _ _.
    after _ (leg_is Second Short (kind_of_right r) b) _ (λ _ _.
    after _ (not_later a b) _ (λ _ _.
    lesser_of ShortOption StrikeDifference (short_alone (contracts_of q s) r b) (contract s (apart a.strike b.strike)))))

straddle_comes : (q : Quote) (s : ℕ) (a b : Terms) → Comes (straddle_term (contracts_of q s) a b).parts (straddle (contracts_of q s) a b)
straddle_comes q s a b =
    let options = greater (term_amount ShortCall (pos (short_alone (contracts_of q s) right.Call a))) (term_amount ShortPut (pos (short_alone (contracts_of q s) right.Put b))) in
    after _ (leg_is First Short Call a) _ (λ _ _.
    after _ (leg_is Second Short Put b) _ (λ _ _.
    greater_of options PutStrikeAboveCall _ (contract s (b.strike - a.strike))
    (greater_of (term_amount ShortCall (pos (short_alone (contracts_of q s) right.Call a))) ShortPut (short_alone (contracts_of q s) right.Call a) (short_alone (contracts_of q s) right.Put b) refl)))

protective_comes : (q : Quote) (s : ℕ) (a b : Terms) → Comes (protective_put_term (contracts_of q s) a).parts (protective_put (contracts_of q s) a b)
protective_comes q s a b =
    after _ (leg_is First Long Put a) _ (λ _ _.
    after _ (leg_is Second Long Units b) _ (λ _ _.
    lesser_of LongUnits PriceAndPremiumLessStrike (s * q.long) (contract s (q.price + a.price - a.strike))))

receipt_comes : (a b : Terms) → Comes nothing_required.parts (receipt_call a b)
receipt_comes a b =
    after _ (leg_is First Short Call a) _ (λ _ _.
    after _ (leg_is Second Long Receipt b) _ (λ _ _.
    refl))

-- the tracked amount of a unit
taken_from : (r : Result ℕ MarketFault) (n : ℕ) → result_map_both (λ parts. parts) from_market r ≡ Ok n → n ≡ result_unwrap_or r 0
taken_from (Ok m) n e = cc
taken_from (Err f) n e = absurd cc

passes : {A B : Type 0} (r : Result A ArticleFault) (next : A → Result B ArticleFault) (x : B) (P : Type 0) → and_then r next ≡ Ok x → ((y : A) → next y ≡ Ok x → P) → P
passes (Ok y) next x P e f = f y e
passes (Err g) next x P e f = absurd cc

aligned_is : (q : Quote) (side : Side) (a b c : Terms) (n : ℕ) → aligned q side a b c ≡ Ok n → n ≡ result_unwrap_or (tracked_of q) 0
aligned_is q side a b c n e =
    passes (leg_is First side Put a) _ n _ e (λ _ e.
    passes (leg_is Second (other_side side) Call b) _ n _ e (λ _ e.
    passes (leg_is Third side Futures c) _ n _ e (λ _ e.
    passes (same_days a b c) _ n _ e (λ _ e.
    taken_from (tracked_of q) n e))))

-- with the tracked amount that the rule takes
tracked_same : (q : Quote) (s n : ℕ) (d : ℤ) → n ≡ result_unwrap_or (tracked_of q) 0 → (greater (tracked_term (contracts_of q s)) (term_amount ConversionDifference d)).parts ≡ pos (positive_part (int_max (pos (s * n)) d))
tracked_same q s n d e = greatest_of TrackedAmount ConversionDifference (s * result_unwrap_or (tracked_of q) 0) d ∙ ap (λ t. pos (positive_part (int_max (pos (s * t)) d))) (sym e)

conversion_comes : (q : Quote) (s : ℕ) (a b c : Terms) → Comes (conversion_term (contracts_of q s) a b c).parts (conversion (contracts_of q s) a b c)
conversion_comes q s a b c =
    after _ (aligned q Long a b c) _ (λ n e.
    tracked_same q s n (signed_contract s (c.price + a.price) (min a.strike b.strike + b.price)) (aligned_is q Long a b c n e))

reconversion_comes : (q : Quote) (s : ℕ) (a b c : Terms) → Comes (reconversion_term (contracts_of q s) a b c).parts (reconversion (contracts_of q s) a b c)
reconversion_comes q s a b c =
    after _ (aligned q Short a b c) _ (λ n e.
    tracked_same q s n (signed_contract s (max a.strike b.strike + b.price) (c.price + a.price)) (aligned_is q Short a b c n e))

two_come : (q : Quote) (s : ℕ) (article : Article) (a b : Terms) → Comes (term_of_two (contracts_of q s) article a b).parts (of_two (contracts_of q s) article a b)
two_come q s article a b =
    let calls = spread_comes q s right.Call a b in
    let puts = spread_comes q s right.Put a b in
    let straddled = straddle_comes q s a b in
    let protected = protective_comes q s a b in
    let received = receipt_comes a b in
    grind arith

three_come : (q : Quote) (s : ℕ) (article : Article) (a b c : Terms) → Comes (term_of_three (contracts_of q s) article a b c).parts (of_three (contracts_of q s) article a b c)
three_come q s article a b c =
    let converted = conversion_comes q s a b c in
    let reconverted = reconversion_comes q s a b c in
    grind arith

comes : (q : Quote) (s : ℕ) (article : Article) (legs : List Terms) → Comes (rule_term (contracts_of q s) article legs).parts (requirement_of (contracts_of q s) article legs)
comes q s article [] = tt
comes q s article (a ∷ []) = tt
comes q s article (a ∷ b ∷ []) = two_come q s article a b
comes q s article (a ∷ b ∷ c ∷ []) = three_come q s article a b c
comes q s article (a ∷ b ∷ c ∷ d ∷ more) = tt

-- ---- the law

came : (r : Result ℕ ArticleFault) (n : ℕ) (z : ℤ) → Ok n ≡ r → Comes z r → Ok z ≡ result_map_both pos (λ (f : ArticleFault). f) r
came (Ok m) n z e h = ap Ok h
came (Err f) n z e h = absurd cc

pub term_comes : (q : Quote) (s : ℕ) (article : Article) (legs : List Terms) (n : ℕ) (x : TermAmount) → Ok n ≡ requirement_of (contracts_of q s) article legs → x ≡ rule_term (contracts_of q s) article legs → Ok x.parts ≡ result_map_both pos (λ (f : ArticleFault). f) (requirement_of (contracts_of q s) article legs)
term_comes q s article legs n x e i =
    let same : x.parts ≡ (rule_term (contracts_of q s) article legs).parts = ap (λ (y : TermAmount). y.parts) i in
    ap Ok same ∙ came (requirement_of (contracts_of q s) article legs) n (rule_term (contracts_of q s) article legs).parts e (comes q s article legs)
