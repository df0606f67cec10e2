-- The units: a token is one byte, a grain a millionth of a token, a moment microseconds since the service day began.
-- A rate is whole tokens a second, so rate × microseconds is grains exactly. Assumes nothing.
use Rattle.std.specs.Prelude.{ℕ, ◌*◌}

-- tokens, in grains
abbrev pub grains : ℕ → ℕ
grains tokens = 1_000_000 * tokens

-- the largest number of tokens that 32 bits hold, in grains: no bucket is larger
abbrev pub largest_volume : ℕ
largest_volume = 4_294_967_295_000_000

-- the last moment of a service day
abbrev pub day_end : ℕ
day_end = 86_400_000_000

-- the highest rate, in tokens a second
abbrev pub highest_rate : ℕ
highest_rate = 100_000_000

-- the largest burst, in tokens
abbrev pub largest_burst : ℕ
largest_burst = 1_000_000_000
