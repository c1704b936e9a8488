-- Lemmas: every amount is within the limits of a book.
-- They stand here, and not in `proofs/`, since a ghost member of an implementation may cite nothing outside `specs/`; no contract speaks of them.
use Rattle.std.specs.Prelude.{ℕ, ◌+◌, ◌-◌, ◌*◌, ◌≤◌, min, max, Bool, cond, ℤ, pos, ◌-ℤ◌, ◌*ℤ◌, Option, nat_le}
use Rattle.std.proofs.Common.{ap, arith}
use Rattle.std.proofs.Math.Nat.{min-le_left, max-le}
use Rattle.std.proofs.lemmas.Nat.{mul-le}
use Rattle.std.proofs.lemmas.Int.{ints}
use Rattle.rules_amounts.specs.Differences.{times_difference}
use Rattle.rules_market.specs.Quote.{Quote, KeepsLimits, AtMost}
use Rattle.rules_positions.specs.declared.Side.{Side}
use Rattle.rules_positions.specs.declared.Kind.{Kind}
use Rattle.rules_positions.specs.declared.record.Record.{Record}
use Rattle.rules_positions.specs.Records.{Terms, terms}
use Rattle.rules_positions.specs.Bounds.{strike_high, price_high}
use Rattle.rules_pricing.specs.declared.Right.{Right}
use Rattle.rules_pricing.specs.declared.Right.TheVariants.{Call, Put}
use Rattle.rules_pricing.specs.Options.{in_the_money, time_value_of, long_option, before_floor, floor_base, floor_amount, out_of_the_money}
use Rattle.rules_pricing.specs.Alone.{positive_part, units, option_by_side, whole_or, futures, by_kind, alone}
use Rattle.rules_articles.specs.Sets.{short_alone, contract, spread_amount, straddle_amount, protective_put_amount, signed_contract, conversion_amount, reconversion_amount}
use Rattle.rules_pricing.specs.Priced.{contracts_of}

-- what a record's range gives
pub record IsBounded (t : Terms) : Type 0 where
  pub strike_high : t.strike ≤ 500000
  pub price_high : t.price ≤ 500000

pub bounded : (r : Record) → IsBounded (terms r)
bounded r = record {
  strike_high = strike_high r.side r.kind r.strike r.days r.price r.ranged;
  price_high = price_high r.side r.kind r.strike r.days r.price r.ranged;
}

-- ---- amounts of a contract

pub for_contract : (s x : ℕ) → s ≤ 1000 → x ≤ 10000000000 → s * x ≤ 10000000000000
for_contract s x h k = mul-le s x 1000 10000000000 h k

pub rated : (r c : ℕ) → r ≤ 10000 → c ≤ 500000 → r * c ≤ 5000000000
rated r c h k = mul-le r c 10000 500000 h k

part_of_difference : (m k : ℕ) → positive_part (pos m -ℤ pos k) ≤ m
part_of_difference m k = grind (arith, ints)

signed_limit : (s x y : ℕ) → s ≤ 1000 → x ≤ 10000000000 → positive_part (pos s *ℤ (pos x -ℤ pos y)) ≤ 10000000000000
signed_limit s x y h k = omega (arith, ap positive_part (times_difference s x y), part_of_difference (s * x) (s * y), for_contract s x h k)

chosen : (b : Bool) (x y : ℤ) (n : ℕ) → positive_part x ≤ n → positive_part y ≤ n → positive_part (cond b x y) ≤ n
chosen b x y n h k = grind arith

-- ---- a position alone

counted_limit : (b : Bool) (t : ℕ) → t ≤ 500000 → cond b (t * 5000) (t * 10000) ≤ 5000000000
counted_limit b t h = grind arith

pub long_limit : (q : Quote) (s : ℕ) (r : Right) (t : Terms) → KeepsLimits q → s ≤ 1000 → IsBounded t → long_option (contracts_of q s) r t ≤ 10000000000000
long_limit q s r t l h b =
    let time : time_value_of q r t ≤ 500000 = omega (arith, b.price_high) in
    let part = counted_limit (nat_le 270 t.days) (time_value_of q r t) time in
    let held = min-le_left q.long (in_the_money r t.strike q.price * 10000) in
    for_contract s _ h (omega (arith, part, held, l.long_high, l.price_high))

base_limit : (q : Quote) (r : Right) (t : Terms) → KeepsLimits q → IsBounded t → floor_base q r t ≤ 500000
base_limit q r t l b = grind (arith, l.price_high, b.strike_high)

pub short_limit : (q : Quote) (s : ℕ) (r : Right) (t : Terms) → KeepsLimits q → s ≤ 1000 → IsBounded t → short_alone (contracts_of q s) r t ≤ 10000000000000
short_limit q s r t l h b =
    chosen _ (before_floor (contracts_of q s) r t) (pos (floor_amount (contracts_of q s) r t)) _
    (signed_limit s (t.price * 10000 + q.option * q.price) (out_of_the_money r t.strike q.price * 10000) h (omega (arith, b.price_high, rated q.option q.price l.option_high l.price_high)))
    (for_contract s (t.price * 10000 + q.floor * floor_base q r t) h (omega (arith, b.price_high, rated q.floor (floor_base q r t) l.floor_high (base_limit q r t l b))))

option_limit : (q : Quote) (s : ℕ) (r : Right) (t : Terms) (side : Side) → KeepsLimits q → s ≤ 1000 → IsBounded t → option_by_side (contracts_of q s) r t side ≤ 10000000000000
option_limit q s r t side l h b = grind (arith, long_limit q s r t l h b, short_limit q s r t l h b)

pub unit_limit : (q : Quote) (side : Side) → KeepsLimits q → units q side ≤ 10000000000
unit_limit q side l = grind (arith, l.long_high, l.price_high, l.short_high)

whole_limit : (o : Option ℕ) → AtMost 10000 o → whole_or o ≤ 10000
whole_limit o h = grind arith

kind_limit : (q : Quote) (s : ℕ) (t : Terms) (k : Kind) → KeepsLimits q → s ≤ 1000 → IsBounded t → by_kind (contracts_of q s) t k ≤ 10000000000000
kind_limit q s t k l h b =
    let future : futures (contracts_of q s) t.price ≤ 10000000000000 = for_contract s _ h (omega (arith, rated (whole_or q.futures) t.price (whole_limit q.futures l.futures_high) b.price_high)) in
    grind (arith, unit_limit q t.side l, option_limit q s Call t t.side l h b, option_limit q s Put t t.side l h b, future)

pub alone_limit : (q : Quote) (s : ℕ) (t : Terms) → KeepsLimits q → s ≤ 1000 → IsBounded t → alone (contracts_of q s) t ≤ 10000000000000
alone_limit q s t l h b = kind_limit q s t t.kind l h b

-- ---- sets

pub spread_limit : (q : Quote) (s : ℕ) (r : Right) (a b : Terms) → KeepsLimits q → s ≤ 1000 → IsBounded b → spread_amount (contracts_of q s) r a b ≤ 10000000000000
spread_limit q s r a b l h c = omega (arith, min-le_left (short_alone (contracts_of q s) r b) (contract s (max a.strike b.strike - min a.strike b.strike)), short_limit q s r b l h c)

pub straddle_limit : (q : Quote) (s : ℕ) (a b : Terms) → KeepsLimits q → s ≤ 1000 → IsBounded a → IsBounded b → straddle_amount (contracts_of q s) a b ≤ 10000000000000
straddle_limit q s a b l h c d =
    max-le
    (max-le (short_limit q s Call a l h c) (short_limit q s Put b l h d))
    (for_contract s ((b.strike - a.strike) * 10000) h (omega (arith, d.strike_high)))

pub protective_limit : (q : Quote) (s : ℕ) (a : Terms) → KeepsLimits q → s ≤ 1000 → protective_put_amount (contracts_of q s) a ≤ 10000000000000
protective_limit q s a l h =
    let most = for_contract s q.long h (omega (arith, l.long_high, l.price_high)) in
    omega (arith, most, min-le_left (s * q.long) (contract s (q.price + a.price - a.strike)))

tracked_limit : (s n : ℕ) → s ≤ 1000 → n ≤ 5000000000 → s * n ≤ 10000000000000
tracked_limit s n h k = for_contract s n h (omega arith)

pub conversion_limit : (s n : ℕ) (a b c : Terms) → s ≤ 1000 → n ≤ 5000000000 → IsBounded a → IsBounded c → positive_part (conversion_amount s n a b c) ≤ 10000000000000
conversion_limit s n a b c h k p q =
    chosen _ (pos (s * n)) (signed_contract s (c.price + a.price) (min a.strike b.strike + b.price)) _
    (tracked_limit s n h k)
    (signed_limit s ((c.price + a.price) * 10000) ((min a.strike b.strike + b.price) * 10000) h (omega (arith, p.price_high, q.price_high)))

pub reconversion_limit : (s n : ℕ) (a b c : Terms) → s ≤ 1000 → n ≤ 5000000000 → IsBounded a → IsBounded b → positive_part (reconversion_amount s n a b c) ≤ 10000000000000
reconversion_limit s n a b c h k p q =
    let strike : max a.strike b.strike ≤ 500000 = max-le p.strike_high q.strike_high in
    chosen _ (pos (s * n)) (signed_contract s (max a.strike b.strike + b.price) (c.price + a.price)) _
    (tracked_limit s n h k)
    (signed_limit s ((max a.strike b.strike + b.price) * 10000) ((c.price + a.price) * 10000) h (omega (arith, strike, q.price_high)))
