-- What a bucket does to its count, in grains. Its volume never changes. Assumes nothing.
use Rattle.std.specs.Prelude.{ℕ, ◌-◌, min, Bool, cond, nat_le}

-- what a bucket adds of what it is offered: no more than there is room for
abbrev pub added : ℕ → ℕ → ℕ → ℕ
added volume count offered = min offered (volume - count)

-- spending is all or nothing: whether a count covers an amount, and what it leaves
abbrev pub covers : ℕ → ℕ → Bool
covers count amount = nat_le amount count

abbrev pub spent : ℕ → ℕ → ℕ
spent count amount = cond (covers count amount) (count - amount) count
