-- A profile: the flows by rank, rank 1 first, and the coupling flag CF0 of the whole; its rates and flags.
-- Assumes nothing.
use Rattle.std.specs.Prelude.{◌≡◌, ℕ, ◌+◌, ◌≤◌, min, Bool, false, ◌&&◌, ◌||◌, List, [], ◌∷◌, map, Some, None, Option}
use Rattle.std.specs.List.{AllByRecursion}
use Rattle.envelopes.specs.declared.flow.Flow.{Flow}
use Rattle.envelopes.specs.declared.flow.Supply.{Supply}

pub record Profile : Type 0 where
  pub flows : List Flow
  pub cf0 : Bool

abbrev pub total : List ℕ → ℕ
total [] = 0
total (n ∷ ns) = n + total ns

abbrev pub green_rates : List Flow → ℕ
green_rates flows = total (map (λ f. f.green.rate) flows)

-- the sum of all rates, green and yellow
abbrev pub all_rates : List Flow → ℕ
all_rates flows = total (map (λ f. f.green.rate + f.yellow.rate) flows)

-- a number, or a maximum that is smaller
abbrev pub at_most : Option ℕ → ℕ → ℕ
at_most None n = n
at_most (Some maximum) n = min maximum n

-- a maximum where there is one, else 0
abbrev pub maximum_or_0 : Option ℕ → ℕ
maximum_or_0 None = 0
maximum_or_0 (Some maximum) = maximum

-- some flow's CF is 1
abbrev pub coupled : List Flow → Bool
coupled [] = false
coupled (f ∷ fs) = f.cf || coupled fs

-- a maximum is never below the rate that it belongs to
abbrev pub ReachesItsRate : Supply → Type 0
ReachesItsRate s = s.rate ≤ at_most s.maximum s.rate

-- two things that hold of every profile that a draft can have, and on which the share guarantee rests
pub record Lawful (p : Profile) : Type 0 where
  pub not_both_flags : (p.cf0 && coupled p.flows) ≡ false
  pub green_rates_reached : AllByRecursion (λ f. ReachesItsRate f.green) p.flows
