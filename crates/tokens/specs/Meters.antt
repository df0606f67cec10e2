-- What a single-rate meter means, and what a question, a charge and a wait tell and leave. Assumes nothing.
use Rattle.std.specs.Prelude.{ℕ, ◌+◌, ◌-◌, ◌*◌, ◌≤◌, min, Bool, cond, not, ◌&&◌, List, [], ◌∷◌, ◌==◌, nat_le, nat_lt}
use Rattle.tokens.specs.Refusals.{Told, Cause, unless_refused, kept_if_refused}
use Rattle.tokens.specs.Units.{grains, day_end, highest_rate, largest_burst}

-- a rate in tokens a second, a burst in tokens, the latest moment, and the level in grains at that moment
pub record Metered : Type 0 where
  pub rate : ℕ
  pub burst : ℕ
  pub latest : ℕ
  pub level : ℕ

-- what holds of every meter
pub record Sound (m : Metered) : Type 0 where
  pub some_rate : 1 ≤ m.rate
  pub rate_bound : m.rate ≤ highest_rate
  pub some_burst : 1 ≤ m.burst
  pub burst_bound : m.burst ≤ largest_burst
  pub latest_bound : m.latest ≤ day_end
  pub level_bound : m.level ≤ grains m.burst

-- a new meter is at moment 0 and full
abbrev pub fresh : ℕ → ℕ → Metered
fresh rate burst = record { rate = rate; burst = burst; latest = 0; level = grains burst }

-- the rule of time: the level grows by rate × time, up to the burst
abbrev pub grown : ℕ → ℕ → ℕ → ℕ → ℕ
grown rate burst level time = min (grains burst) (level + rate * time)

abbrev pub level_at : Metered → ℕ → ℕ
level_at m moment = grown m.rate m.burst m.level (moment - m.latest)

-- a packet conforms where its tokens are at most the burst and at most the level at its moment
abbrev pub conforms : Metered → ℕ → ℕ → Bool
conforms m tokens moment = nat_le (grains tokens) (grains m.burst) && nat_le (grains tokens) (level_at m moment)

-- the meter at a later moment
abbrev pub moved : Metered → ℕ → Metered
moved m moment = record { rate = m.rate; burst = m.burst; latest = moment; level = level_at m moment }

-- the meter less a packet's tokens
abbrev pub less : Metered → ℕ → Metered
less m tokens = record { rate = m.rate; burst = m.burst; latest = m.latest; level = m.level - grains tokens }

-- why a call is refused, in the order of checking
abbrev pub outside : ℕ → ℕ → ℕ → Bool
outside low high n = not (nat_le low n && nat_le n high)

abbrev pub new_causes : ℕ → ℕ → List Cause
new_causes rate burst =
    record { applies = outside 1 highest_rate rate; number = 16 } ∷
    record { applies = outside 1 largest_burst burst; number = 16 } ∷ []

abbrev pub moment_causes : ℕ → ℕ → List Cause
moment_causes latest moment =
    record { applies = nat_lt moment latest; number = 10 } ∷
    record { applies = nat_lt day_end moment; number = 11 } ∷ []

abbrev pub packet_causes : ℕ → ℕ → ℕ → List Cause
packet_causes latest tokens moment = record { applies = (tokens == 0); number = 8 } ∷ moment_causes latest moment

-- what the calls tell
abbrev pub new_told : ℕ → ℕ → Told Metered
new_told rate burst = unless_refused (new_causes rate burst) (fresh rate burst)

abbrev pub packet_told : Metered → ℕ → ℕ → Told Bool
packet_told m tokens moment = unless_refused (packet_causes m.latest tokens moment) (conforms m tokens moment)

abbrev pub wait_told : Metered → ℕ → Told (Unit {0})
wait_told m moment = unless_refused (moment_causes m.latest moment) tt

-- what a charge and a wait leave; a question changes nothing
abbrev pub charged : Metered → ℕ → ℕ → Metered
charged m tokens moment =
    kept_if_refused (packet_causes m.latest tokens moment) m
    (cond (conforms m tokens moment) (less (moved m moment) tokens) (moved m moment))

abbrev pub waited : Metered → ℕ → Metered
waited m moment = kept_if_refused (moment_causes m.latest moment) m (moved m moment)
