-- Fields read one after another, and the values of pos and claim lines.
use Rattle.std.proofs.Common.{◌≡◌, ℕ, ◌+◌, List, [], ◌∷◌, length, Some, None, Ok, decimal, Option, Result, sym, refl, ap, ◌∙◌, subst, arith}
use Rattle.std.specs.List.{join_with_byte}
use Rattle.std.specs.Option.{ok_or}
use Rattle.std.proofs.lemmas.List.Splits.{join_with_byte-slice_split}
use Rattle.rules_positions.specs.declared.Entry.{Entry}
use Rattle.certificate_pairing.specs.declared.Claim.{Claim}
use Rattle.file_fields.specs.declared.BadField.{BadField}
use Rattle.file_fields.specs.Fields.{split, got, then_read, bad_at, field_at, end_at, one_field}
use Rattle.file_body.specs.Values.{entry_at, claim_at}
use Rattle.file_reading.proofs.Parts.{split_rejoined, EachAtLeast}
use Rattle.file_reading.proofs.Again.{Reads}
use Rattle.file_reading.proofs.Numbers.{Small, reads_natural}
use Rattle.file_reading.proofs.Words.{Upper, letter_text, reads_letter}

-- no field was left
end_read : {A : Type 0} (x r : A) (p : ℕ) (fs : List (List ℕ)) → end_at x p fs ≡ Ok r → (fs ≡ []) × (x ≡ r)
end_read x r p [] e = (refl, cc)
end_read x r p (f ∷ fs) e = absurd cc

-- a value of one field
pub record One {A : Type 0} (text : A → List ℕ) (Good : A → Type 0) (v : List ℕ) (x : A) : Type 0 where
  pub text_is : text x ≡ v
  pub good : Good x

-- the first of the fields was read, and then the others
record FieldRead {A B : Type 0} (text : A → List ℕ) (Good : A → Type 0) (fs : List (List ℕ)) (next : A → ℕ → List (List ℕ) → Result B BadField) (r : B) : Type 0 where
  value : A
  place : ℕ
  left : List (List ℕ)
  joined : (gs : List (List ℕ)) → gs ≡ left → text value ∷ gs ≡ fs
  good : Good value
  rest : next value place left ≡ Ok r

module _ {A : Type 0} {reads : List ℕ → Option A} {text : A → List ℕ} {Good : A → Type 0} (R : Reads reads text Good) where
  field_read : {B : Type 0} (p : ℕ) (fs : List (List ℕ)) (next : A → ℕ → List (List ℕ) → Result B BadField) (r : B) → then_read (field_at reads p fs) next ≡ Ok r → FieldRead text Good fs next r
  unfolding field_at
  field_read p [] next r e = absurd cc
  field_read p (f ∷ fs) next r e = at (reads f) refl e
    where
      at : (o : Option A) → reads f ≡ o → then_read (got (ok_or o (bad_at p)) (p + (length f + 1)) fs) next ≡ Ok r → FieldRead text Good (f ∷ fs) next r
      at (Some x) h e = record { value = x; place = p + (length f + 1); left = fs; joined = λ gs g. (λ i. R.written f x h i ∷ g i); good = R.good f x h; rest = e }
      at None h e = absurd cc

  pub given : {B : Type 0} (x : A) → Good x → (p : ℕ) (fs : List (List ℕ)) (next : A → ℕ → List (List ℕ) → Result B BadField) → then_read (field_at reads p (text x ∷ fs)) next ≡ next x (p + (length (text x) + 1)) fs
  unfolding field_at
  given x g p fs next = ap (λ o. then_read (got (ok_or o (bad_at p)) (p + (length (text x) + 1)) fs) next) (R.again x g)

  pub one_read : (p : ℕ) (v : List ℕ) (x : A) → one_field reads p (split 44 v) ≡ Ok x → One text Good v x
  one_read p v x e =
      let a = field_read p (split 44 v) end_at x e in
      let z = end_read a.value x a.place a.left a.rest in
      record { text_is = ap (join_with_byte 44) (ap (λ y. text y ∷ []) (sym z.1) ∙ a.joined [] (sym z.0)) ∙ join_with_byte-slice_split 44 v; good = subst Good z.1 a.good }

  pub one_given : (p : ℕ) (x : A) → Good x → one_field reads p (split 44 (text x)) ≡ Ok x
  one_given p x g = ap (one_field reads p) (split_rejoined 44 45 (omega arith) (text x) [] (R.bytes x g, tt)) ∙ given x g p [] end_at

-- ---- a position

abbrev pub entry_texts : Entry → List (List ℕ)
entry_texts e = letter_text e.side ∷ letter_text e.kind ∷ decimal e.strike ∷ decimal e.days ∷ decimal e.price ∷ decimal e.quantity ∷ []

pub record GoodEntry (e : Entry) : Type 0 where
  pub side : Upper e.side
  pub kind : Upper e.kind
  pub strike : Small e.strike
  pub days : Small e.days
  pub price : Small e.price
  pub quantity : Small e.quantity

pub entry_read : (p : ℕ) (v : List ℕ) (e : Entry) → entry_at p (split 44 v) ≡ Ok e → join_with_byte 44 (entry_texts e) ≡ v
entry_read p v e h =
    let side = field_read reads_letter p (split 44 v) _ e h in
    let kind = field_read reads_letter side.place side.left _ e side.rest in
    let strike = field_read reads_natural kind.place kind.left _ e kind.rest in
    let days = field_read reads_natural strike.place strike.left _ e strike.rest in
    let price = field_read reads_natural days.place days.left _ e days.rest in
    let quantity = field_read reads_natural price.place price.left _ e price.rest in
    let z = end_read _ e quantity.place quantity.left quantity.rest in
    ap (λ x. join_with_byte 44 (entry_texts x)) (sym z.1)
    ∙ ap (join_with_byte 44) (side.joined _ (kind.joined _ (strike.joined _ (days.joined _ (price.joined _ (quantity.joined [] (sym z.0)))))))
    ∙ join_with_byte-slice_split 44 v

pub entry_bytes : (e : Entry) → GoodEntry e → EachAtLeast 45 (entry_texts e)
entry_bytes e g =
    (reads_letter.bytes e.side g.side, (reads_letter.bytes e.kind g.kind, (reads_natural.bytes e.strike g.strike, (reads_natural.bytes e.days g.days, (reads_natural.bytes e.price g.price, (reads_natural.bytes e.quantity g.quantity, tt))))))

pub entry_given : (p : ℕ) (e : Entry) → GoodEntry e → entry_at p (split 44 (join_with_byte 44 (entry_texts e))) ≡ Ok e
entry_given p e g =
    ap (entry_at p) (split_rejoined 44 45 (omega arith) (letter_text e.side) (letter_text e.kind ∷ decimal e.strike ∷ decimal e.days ∷ decimal e.price ∷ decimal e.quantity ∷ []) (entry_bytes e g))
    ∙ given reads_letter e.side g.side _ _ _
    ∙ given reads_letter e.kind g.kind _ _ _
    ∙ given reads_natural e.strike g.strike _ _ _
    ∙ given reads_natural e.days g.days _ _ _
    ∙ given reads_natural e.price g.price _ _ _
    ∙ given reads_natural e.quantity g.quantity _ _ _

-- ---- a claim

abbrev pub claim_texts : Claim → List (List ℕ)
claim_texts c = decimal c.article ∷ decimal c.first ∷ decimal c.second ∷ decimal c.third ∷ decimal c.sets ∷ []

pub record GoodClaim (c : Claim) : Type 0 where
  pub article : Small c.article
  pub first : Small c.first
  pub second : Small c.second
  pub third : Small c.third
  pub sets : Small c.sets

pub claim_read : (p : ℕ) (v : List ℕ) (c : Claim) → claim_at p (split 44 v) ≡ Ok c → join_with_byte 44 (claim_texts c) ≡ v
claim_read p v c h =
    let article = field_read reads_natural p (split 44 v) _ c h in
    let first = field_read reads_natural article.place article.left _ c article.rest in
    let second = field_read reads_natural first.place first.left _ c first.rest in
    let third = field_read reads_natural second.place second.left _ c second.rest in
    let sets = field_read reads_natural third.place third.left _ c third.rest in
    let z = end_read _ c sets.place sets.left sets.rest in
    ap (λ x. join_with_byte 44 (claim_texts x)) (sym z.1)
    ∙ ap (join_with_byte 44) (article.joined _ (first.joined _ (second.joined _ (third.joined _ (sets.joined [] (sym z.0))))))
    ∙ join_with_byte-slice_split 44 v

pub claim_bytes : (c : Claim) → GoodClaim c → EachAtLeast 45 (claim_texts c)
claim_bytes c g =
    (reads_natural.bytes c.article g.article, (reads_natural.bytes c.first g.first, (reads_natural.bytes c.second g.second, (reads_natural.bytes c.third g.third, (reads_natural.bytes c.sets g.sets, tt)))))

pub claim_given : (p : ℕ) (c : Claim) → GoodClaim c → claim_at p (split 44 (join_with_byte 44 (claim_texts c))) ≡ Ok c
claim_given p c g =
    ap (claim_at p) (split_rejoined 44 45 (omega arith) (decimal c.article) (decimal c.first ∷ decimal c.second ∷ decimal c.third ∷ decimal c.sets ∷ []) (claim_bytes c g))
    ∙ given reads_natural c.article g.article _ _ _
    ∙ given reads_natural c.first g.first _ _ _
    ∙ given reads_natural c.second g.second _ _ _
    ∙ given reads_natural c.third g.third _ _ _
    ∙ given reads_natural c.sets g.sets _ _ _
