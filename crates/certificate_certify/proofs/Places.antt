-- The first mark beyond its limit, by its place among the marks.
use Rattle.std.proofs.Common.{◌≡◌, ℕ, suc, ◌+◌, ◌-◌, ◌<◌, Bool, true, false, cond, List, [], ◌∷◌, length, get_or, ℤ, pos, Some, None, Option, sym, refl, ap, ◌∙◌, subst, arith}
use Rattle.std.specs.Option.{option_or, option_map}
use Rattle.std.specs.List.{position, position_from, zip}
use Rattle.std.proofs.lemmas.Iterator.Adapters.{position_from-zero}
use Rattle.std.proofs.lemmas.Slice.Zip.{length-zip, get_or-zip}
use Rattle.rules_positions.specs.declared.record.Record.{Record}
use Rattle.certificate_pairing.specs.Pairing.{no_record, limit}
use Rattle.certificate_fairness.specs.Search.{first_of}
use Rattle.certificate_certify.specs.Certified.{beyond, beyond_at, first_beyond}

step : (b : Bool) (i : ℕ) (later o rest : Option ℕ) → o ≡ cond b (Some (i + 1)) None → option_map (λ k. k + 1) later ≡ rest → option_map (λ k. k + 1) (cond b (Some i) later) ≡ option_or o rest
step true i later o rest e h = ap (λ (z : Option ℕ). option_or z rest) (sym e)
step false i later o rest e h = h ∙ ap (λ (z : Option ℕ). option_or z rest) (sym e)

-- f answers the number of each element that passes, counted from i + 1
first_place : {X : Type 0} (test : X → Bool) (f : ℕ → Option ℕ) (d : X) (xs : List X) (i : ℕ) → ((j : ℕ) → j < length xs → f (i + 1 + j) ≡ cond (test (get_or xs j d)) (Some (i + 1 + j)) None) → option_map (λ k. k + 1) (position_from test i xs) ≡ first_of f (i + 1) (length xs)
first_place test f d [] i h = refl
first_place test f d (x ∷ xs) i h =
    let here = subst (λ (n : ℕ). f n ≡ cond (test x) (Some n) None) (let w : i + 1 + 0 ≡ i + 1 = omega arith in w) (h 0 (omega arith)) in
    let rest = first_place test f d xs (i + 1) (λ j lt. subst (λ (n : ℕ). f n ≡ cond (test (get_or xs j d)) (Some n) None) (let w : i + 1 + suc j ≡ i + 1 + 1 + j = omega arith in w) (h (suc j) (omega arith))) in
    step (test x) i (position_from test (i + 1) xs) (f (i + 1)) _ here rest

pub place_is : (held : List Record) (ms : List ℤ) → length ms ≡ length held → option_map (λ k. k + 1) (position (λ (p : Record × ℤ). beyond p.1 (limit p.0.kind)) (zip held ms)) ≡ first_beyond held ms
place_is held ms n =
    let test = λ (p : Record × ℤ). beyond p.1 (limit p.0.kind) in
    let long : length (zip held ms) ≡ length held = omega (arith, length-zip held ms) in
    ap (option_map (λ k. k + 1)) (position_from-zero test (zip held ms))
    ∙ first_place test (beyond_at held ms) (no_record, pos 0) (zip held ms) 0
    (λ j lt.
    ap (λ (i : ℕ). cond (beyond (get_or ms i (pos 0)) (limit (get_or held i no_record).kind)) (Some (1 + j)) None) (let w : 1 + j - 1 ≡ j = omega arith in w)
    ∙ ap (λ (q : Record × ℤ). cond (test q) (Some (1 + j)) None) (sym (get_or-zip held ms j (no_record, pos 0) (omega arith) (omega arith))))
    ∙ ap (first_of (beyond_at held ms) 1) long
