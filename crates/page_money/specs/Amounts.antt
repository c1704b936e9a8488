-- The amount that is printed.
use Rattle.std.specs.Prelude.{ℤ, pos, neg_ℤ, if◌then◌else◌}
use Rattle.page_money.specs.declared.dollars.Dollars.{Dollars}

-- its parts, below 0 where it is negative
abbrev pub dollars_amount : Dollars → ℤ
dollars_amount d = if d.negative then neg_ℤ (pos d.parts) else pos d.parts
