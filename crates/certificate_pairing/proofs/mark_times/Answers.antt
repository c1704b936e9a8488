use Rattle.std.proofs.Common.{◌^◌, ◌<◌, ℤ, pos, ◌*ℤ◌, neg_ℤ, ◌≤ℤ◌, sym, ap, ◌∙◌, subst, arith, w64, SFits, to_z, of_z}
use mir.Syntax.{w128}
use Rattle.std.proofs.lemmas.Int.{to_z-of_z}
use Rattle.certificate_pairing.proofs.Products.{product, product_fits, as_code}
use Rattle.certificate_pairing.proofs.mark_times.Goals as goal

pub overflow_mul-result : goal.overflow_mul-result
overflow_mul-result c =
    let m = c.args.mark in
    let u = c.args.units in
    let fit : u < 2 ^ 32 = omega arith in
    let e = as_code m u _ _ c.ranges.mark fit (c.from.ensures ∙ to_z-of_z w64 m c.ranges.mark) c.from-2.ensures in
    subst (λ (z : ℤ). SFits w128 z) (sym e) (product_fits m u (product m u c.ranges.mark fit))

pub returns : goal.returns
returns c =
    let m = c.args.mark in
    let u = c.args.units in
    let fit : u < 2 ^ 32 = omega arith in
    let p = product m u c.ranges.mark fit in
    let e = ap (λ (z : ℤ). to_z w128 (of_z w128 z)) (as_code m u _ _ c.ranges.mark fit (c.from.ensures ∙ to_z-of_z w64 m c.ranges.mark) c.from-2.ensures) ∙ to_z-of_z w128 (m *ℤ pos u) (product_fits m u p) in
    record {
      value = e;
      low = subst (λ (z : ℤ). neg_ℤ (pos (2 ^ 95)) ≤ℤ z) (sym e) p.low;
      high = subst (λ (z : ℤ). z ≤ℤ pos (2 ^ 95)) (sym e) p.high;
    }
