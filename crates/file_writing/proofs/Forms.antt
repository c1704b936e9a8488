-- The text of a file, as its parts are written.
use Rattle.std.proofs.Common.{◌≡◌, ℕ, List, [], ◌∷◌, ◌++◌, Some, None, codes, decimal, Option, sym, refl, ap, ◌∙◌, subst, append_assoc}
use Rattle.std.specs.List.{flat_map}
use Rattle.std.specs.Fmt.{AppendsText, ◌++?◌}
use Rattle.std.specs.Option.{IfSome, IsSomeAnd, MatchOption}
use Rattle.std.proofs.lemmas.Grind.{flat_map-append}
use Rattle.std.proofs.lemmas.List.Folds.{flat_map-map}
use Rattle.rules_amounts.specs.declared.rate.Rate.{Rate}
use Rattle.rules_amounts.specs.Rates.{points}
use Rattle.rules_market.specs.Share.{Shares}
use Rattle.rules_market.specs.Currency.{Currency}
use Rattle.file_head.specs.Rates.{share, currency}
use Rattle.file_body.specs.Files.{Content}
use Rattle.file_writing.specs.Texts.{ended, rate_text, reduced_text, sheet_lines, position_line, claim_line, mark_line, file_text, text_or_none}

-- a line of a key and a value, ended, and what comes after it
key_then : (key value : List ℕ) {more rest : List ℕ} → more ≡ rest → key ++ (value ++ (10 ∷ more)) ≡ ended (key ++ value) ++ rest
key_then key value {rest} e =
    ap (λ l. key ++ (value ++ (10 ∷ l))) e
    ∙ sym (append_assoc (key ++ value) (10 ∷ []) rest ∙ append_assoc key value (10 ∷ rest))

pub currency_text : (c : Currency) → codes "market=currency\nprice=" ++ (decimal c.price ++ (codes "\nspot=" ++ (decimal c.spot ++ codes "\n"))) ≡ flat_map ended (sheet_lines (currency c))
currency_text c =
    key_then (codes "market=") (codes "currency")
    (key_then (codes "price=") (decimal c.price)
    (key_then (codes "spot=") (decimal c.spot) refl))

share_text : (s : Shares) → codes "market=share\nprice=" ++ (decimal s.price ++ (codes "\nreduced=" ++ (reduced_text s.reduced ++ (codes "\nfloor=" ++ (decimal s.floor ++ (codes "\nfutures=" ++ (rate_text s.futures ++ (codes "\ntracking=" ++ (rate_text s.tracking ++ codes "\n"))))))))) ≡ flat_map ended (sheet_lines (share s))
share_text s =
    key_then (codes "market=") (codes "share")
    (key_then (codes "price=") (decimal s.price)
    (key_then (codes "reduced=") (reduced_text s.reduced)
    (key_then (codes "floor=") (decimal s.floor)
    (key_then (codes "futures=") (rate_text s.futures)
    (key_then (codes "tracking=") (rate_text s.tracking) refl)))))

-- a key and a value, printed with an end of line after what was printed before
pub printed_line : (before key value : List ℕ) {after : List ℕ} (output : Option (List ℕ)) → output ≡ Some value → AppendsText before after (Some key ++? (output ++? Some (10 ∷ []))) → after ≡ before ++ ended (key ++ value)
printed_line before key value {after} output e a =
    subst (λ o. AppendsText before after (Some key ++? (o ++? Some (10 ∷ [])))) e a
    ∙ ap (λ l. before ++ l) (sym (append_assoc key value (10 ∷ [])))

-- a rate that may be none, as its basis points print
pub printed_rate : (rate : Option Rate) (number : Option ℕ) {P : Rate → ℕ → Type 0} → ((r : Rate) (n : ℕ) → P r n → n ≡ r.basis_points) → MatchOption rate (number ≡ None) (λ r. IsSomeAnd number (P r)) → text_or_none (λ n. Some (decimal n)) number ≡ Some (rate_text (points rate))
printed_rate None number is e = ap (text_or_none (λ n. Some (decimal n))) e
printed_rate (Some rate) None is e = absurd e
printed_rate (Some rate) (Some number) is e = ap (λ n. Some (decimal n)) (is rate number e)

-- the lines of a share, where the text of each rate is not known yet
abbrev share_output : Shares → List ℕ → Option (List ℕ) → Option (List ℕ) → Option (List ℕ)
share_output s reduced futures tracking =
    Some (codes "market=share\nprice=") ++? (Some (decimal s.price)
    ++? (Some (codes "\nreduced=") ++? (Some reduced
    ++? (Some (codes "\nfloor=") ++? (Some (decimal s.floor)
    ++? (Some (codes "\nfutures=") ++? (futures
    ++? (Some (codes "\ntracking=") ++? (tracking ++? Some (codes "\n"))))))))))

pub share_printed : (s : Shares) {bytes reduced : List ℕ} {futures tracking : Option (List ℕ)} → reduced ≡ reduced_text s.reduced → futures ≡ Some (rate_text s.futures) → tracking ≡ Some (rate_text s.tracking) → IfSome (share_output s reduced futures tracking) (λ bs. bytes ≡ bs) → bytes ≡ flat_map ended (sheet_lines (share s))
share_printed s {bytes} r f t e = subst (λ o. IfSome o (λ bs. bytes ≡ bs)) (λ j. share_output s (r j) (f j) (t j)) e ∙ share_text s

-- the size line and the texts of the other lines, in their order
pub file_text_lem : (c : Content) {size : ℕ} {rates positions claims marks : List ℕ} →
    size ≡ c.size →
    rates ≡ flat_map ended (sheet_lines c.rates) →
    positions ≡ flat_map (λ r. ended (position_line r)) c.tally.held →
    claims ≡ flat_map (λ l. ended (claim_line l)) c.tally.claims →
    marks ≡ flat_map (λ m. ended (mark_line m)) c.marks →
    codes "size=" ++ (decimal size ++ (codes "\n" ++ (rates ++ (positions ++ (claims ++ marks))))) ≡ file_text c
file_text_lem c s r p l m = rw (s, r, p, l, m) (key_then (codes "size=") (decimal c.size) (sym (simp (flat_map-append, flat_map-map))))
