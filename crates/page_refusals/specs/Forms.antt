-- The lines of a file: their keys, their fields, and what a field may be.
use Rattle.std.specs.Prelude.{ℕ, Bool, cond, ◌||◌, List, [], ◌∷◌, find, nat_eq, Some, None, codes, Option, ◌==◌}
use Rattle.std.specs.List.{starts_with}
use Rattle.page_refusals.specs.declared.forms.LineKind.{LineKind}
use Rattle.page_refusals.specs.declared.forms.LineKind.TheVariants.{Size, Market, Price, Reduced, Floor, Futures, Tracking, Spot, Position, Claim, Mark}
use Rattle.page_refusals.specs.declared.forms.FieldForm.{FieldForm}
use Rattle.page_refusals.specs.declared.forms.FieldForm.TheVariants as form

-- what a field may be, in words
abbrev pub form_words : FieldForm → List ℕ
form_words form.Number = codes "a number has 1 to 15 digits and no leading zero"
form_words form.Rate = codes "a number, of 1 to 15 digits with no leading zero, or none"
form_words form.Mark = codes "1 to 15 digits with no leading zero; a minus sign may stand first, never before 0"
form_words form.Letter = codes "one letter, A to Z"
form_words form.Answer = codes "yes or no"
form_words form.Market = codes "share or currency"

-- all kinds of lines, in the order of a file
abbrev pub kinds : List LineKind
kinds = Size ∷ Market ∷ Price ∷ Reduced ∷ Floor ∷ Futures ∷ Tracking ∷ Spot ∷ Position ∷ Claim ∷ Mark ∷ []

-- what a line begins with
abbrev pub key_text : LineKind → List ℕ
key_text Size = codes "size="
key_text Market = codes "market="
key_text Price = codes "price="
key_text Reduced = codes "reduced="
key_text Floor = codes "floor="
key_text Futures = codes "futures="
key_text Tracking = codes "tracking="
key_text Spot = codes "spot="
key_text Position = codes "pos="
key_text Claim = codes "claim="
key_text Mark = codes "mark="

-- the whole line, in words
abbrev pub line_words : LineKind → List ℕ
line_words Size = codes "size= and the units in a contract, a number"
line_words Market = codes "market=share or market=currency"
line_words Price = codes "price= and the price in cents, a number"
line_words Reduced = codes "reduced=yes or reduced=no"
line_words Floor = codes "floor= and the floor rate in basis points, a number"
line_words Futures = codes "futures= and the futures rate in basis points, a number or none"
line_words Tracking = codes "tracking= and the tracking rate in basis points, a number or none"
line_words Spot = codes "spot= and the spot rate in basis points, a number"
line_words Position = codes "pos= and six fields: side, kind, strike, days, price, quantity"
line_words Claim = codes "claim= and five fields: article, first leg, second leg, third leg, sets"
line_words Mark = codes "mark= and an amount in parts, a number that may have a minus sign"

-- the names of its fields
abbrev pub field_names : LineKind → List (List ℕ)
field_names Size = codes "contract size" ∷ []
field_names Market = codes "market" ∷ []
field_names Price = codes "price" ∷ []
field_names Reduced = codes "reduced" ∷ []
field_names Floor = codes "floor rate" ∷ []
field_names Futures = codes "futures rate" ∷ []
field_names Tracking = codes "tracking rate" ∷ []
field_names Spot = codes "spot rate" ∷ []
field_names Position = codes "side" ∷ codes "kind" ∷ codes "strike" ∷ codes "days" ∷ codes "price" ∷ codes "quantity" ∷ []
field_names Claim = codes "article" ∷ codes "first leg" ∷ codes "second leg" ∷ codes "third leg" ∷ codes "sets" ∷ []
field_names Mark = codes "mark" ∷ []

-- what may stand in a field, by its number
abbrev pub form_of : LineKind → ℕ → FieldForm
form_of Market field = form.Market
form_of Reduced field = form.Answer
form_of Futures field = form.Rate
form_of Tracking field = form.Rate
form_of Position field = cond (field == 1 || field == 2) form.Letter form.Number
form_of Mark field = form.Mark
form_of kind field = form.Number

-- the kind whose key a line begins with
abbrev pub line_kind : List ℕ → Option LineKind
line_kind line = find (λ kind. starts_with nat_eq line (key_text kind)) kinds

-- line 4 of a currency's sheet, the last of its head
abbrev pub due_of_currency : ℕ → Option LineKind
due_of_currency number = cond (number == 4) (Some Spot) None

-- lines 4 to 7 of a share's sheet
abbrev pub due_of_share : ℕ → Option LineKind
due_of_share number =
    cond (number == 4) (Some Reduced) (cond (number == 5) (Some Floor) (cond (number == 6) (Some Futures) (cond (number == 7) (Some Tracking) None)))

-- the kind that a line of the head has to be, by its number and the market's name; none after the head
abbrev pub due_kind : ℕ → Bool → Option LineKind
due_kind number currency =
    cond (number == 1) (Some Size)
    (cond (number == 2) (Some Market)
    (cond (number == 3) (Some Price)
    (cond currency (due_of_currency number) (due_of_share number))))
