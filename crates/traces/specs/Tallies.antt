-- What a tally counts. Assumes nothing.
use Rattle.std.specs.Prelude.{ℕ, ◌*◌, ◌≤◌}

pub record Counts : Type 0 where
  pub packets : ℕ
  pub passed : ℕ
  pub tokens : ℕ
  pub passed_tokens : ℕ

-- what holds of every tally: no more passed than there was, and 32 bits hold the tokens of each packet
pub record Consistent (t : Counts) : Type 0 where
  pub packets : t.passed ≤ t.packets
  pub tokens : t.tokens ≤ 4_294_967_295 * t.packets
  pub passed_tokens : t.passed_tokens ≤ t.tokens
