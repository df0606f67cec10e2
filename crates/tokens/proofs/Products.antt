-- Rate × time: the laws that every meter needs. Assumes nothing.
use Rattle.std.proofs.Common.{◌≡◌, ℕ, ◌+◌, ◌-◌, ◌*◌, ◌≤◌, ap, ◌∙◌, zero-le, mul-le-mul, mul-add, arith}
use native.Mathlib.Nat.{sub-zero}
use Rattle.tokens.specs.Units.{day_end, highest_rate}

-- no rate brings more than the highest one in a whole day
pub day_of_grains : {rate time : ℕ} → rate ≤ highest_rate → time ≤ day_end → rate * time ≤ highest_rate * day_end
day_of_grains = mul-le-mul

-- what a rate brings in a time is what it brings in the two parts of that time
pub gained_in_two_parts : (rate first between last : ℕ) → first ≤ between → between ≤ last → rate * (last - first) ≡ rate * (between - first) + rate * (last - between)
gained_in_two_parts rate first between last early late =
    let whole : last - first ≡ (between - first) + (last - between) = omega arith in
    ap (λ time. rate * time) whole ∙ mul-add rate (between - first) (last - between)

pub gained_since_start : (rate between last : ℕ) → between ≤ last → rate * last ≡ rate * between + rate * (last - between)
gained_since_start rate between last late = simp sub-zero at (gained_in_two_parts rate 0 between last zero-le late)
