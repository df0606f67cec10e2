-- Why no row is made of a flow, and what holds of every row. Assumes nothing.
use Rattle.std.specs.Prelude.{ℕ, ◌+◌, ◌≤◌, Bool, false, ◌||◌, List, [], ◌∷◌, Some, None, Option, nat_lt}
use Rattle.tokens.specs.Refusals.{Cause}
use Rattle.tokens.specs.Units.{highest_rate}
use Rattle.envelopes.specs.Profiles.{ReachesItsRate, maximum_or_0}
use Rattle.envelopes.specs.declared.flow.Flow.{Flow}
use Rattle.envelopes.specs.declared.flow.Supply.{Supply}

-- the largest volume of a flow's bucket, in tokens
abbrev pub largest_flow_volume : ℕ
largest_flow_volume = 1_000_000_000

-- a maximum, if there is one, is not below its own rate and not above the highest one
abbrev pub wrong_maximum : Option ℕ → ℕ → Bool
wrong_maximum None rate = false
wrong_maximum (Some maximum) rate = nat_lt highest_rate maximum || nat_lt maximum rate

abbrev pub row_causes : Flow → List Cause
row_causes f =
    record {
      applies = nat_lt highest_rate f.green.rate || (nat_lt highest_rate f.yellow.rate || nat_lt highest_rate (f.green.rate + f.yellow.rate));
      number = 1;
    } ∷
    record {
      applies = wrong_maximum f.green.maximum f.green.rate || wrong_maximum f.yellow.maximum f.yellow.rate;
      number = 2;
    } ∷
    record {
      applies = nat_lt largest_flow_volume f.green.volume || nat_lt largest_flow_volume f.yellow.volume;
      number = 3;
    } ∷ []

-- what holds of each of a row's two supplies
pub record LawfulSupply (s : Supply) : Type 0 where
  pub maximum : maximum_or_0 s.maximum ≤ highest_rate
  pub reaches : ReachesItsRate s
  pub volume : s.volume ≤ largest_flow_volume

-- a flow that is entitled to nothing
abbrev pub no_supply : Supply
no_supply = record { rate = 0; maximum = None; volume = 0 }

abbrev pub nothing : Flow
nothing = record { green = no_supply; yellow = no_supply; cf = false }
