-- A column of either colour, as the code of an update goes through it. Assumes nothing.
use Rattle.std.specs.Prelude.{ℕ, ◌+◌, false, cond, List, [], ◌∷◌, map}
use Rattle.tokens.specs.Buckets.{added as added_of}
use Rattle.tokens.specs.Units.{grains}
use Rattle.envelopes.specs.Growth.{Counts, added, green_lanes, green_overflows, handed_down, to_highest_yellow, yellow_lanes}
use Rattle.envelopes.specs.Profiles.{Profile}
use Rattle.envelopes.specs.declared.column.Column.{Column}
use Rattle.envelopes.specs.declared.column.Column.TheVariants.{Green, Yellow}
use Rattle.envelopes.specs.declared.flow.Flow.{Flow}
use Rattle.envelopes.specs.declared.flow.Supply.{Supply}
use Rattle.envelopes.specs.declared.lane.Lane.{Lane}
use Rattle.envelopes.specs.declared.lane.Settled.{Settled}

abbrev pub supply : Column → Flow → Supply
supply Green f = f.green
supply Yellow f = f.yellow

abbrev pub lane : Column → Flow → ℕ → ℕ → Lane
lane Green f over count = record { supply = f.green; besides = 0; withheld = f.cf; count = count }
lane Yellow f over count = record { supply = f.yellow; besides = cond f.cf over 0; withheld = false; count = count }

-- of flows with their green overflows and the counts of their buckets
abbrev pub lanes : Column → List Flow → List ℕ → List ℕ → List Lane
lanes column [] over counts = []
lanes column (f ∷ fs) [] counts = []
lanes column (f ∷ fs) (o ∷ os) [] = []
lanes column (f ∷ fs) (o ∷ os) (c ∷ cs) = lane column f o c ∷ lanes column fs os cs

-- what every rank adds
abbrev pub additions : ℕ → ℕ → List Lane → List ℕ
additions time top [] = []
additions time top (l ∷ ls) = added time (handed_down time top ls) l ∷ additions time top ls

-- in the two columns of an envelope
abbrev pub green_additions : Profile → ℕ → Counts → List ℕ
green_additions p time k = additions time 0 (green_lanes p.flows k.greens)

abbrev pub yellow_additions : Profile → ℕ → Counts → List ℕ
yellow_additions p time k =
    additions time (to_highest_yellow p time k) (yellow_lanes p.flows (green_overflows p time k) k.yellows)

-- what buckets have settled, by rank: what each adds, and what it does not
abbrev pub additions_of : List Settled → List ℕ
additions_of settled = map (λ s. s.added) settled

abbrev pub overflows_of : List Settled → List ℕ
overflows_of settled = map (λ s. s.overflow) settled

-- buckets of such volumes and counts, each offered an amount
abbrev pub offered : List ℕ → List ℕ → List ℕ → List ℕ
offered [] counts amounts = []
offered (v ∷ vs) [] amounts = []
offered (v ∷ vs) (c ∷ cs) [] = []
offered (v ∷ vs) (c ∷ cs) (a ∷ as') = (c + added_of v c a) ∷ offered vs cs as'

-- the volumes of a column's buckets
abbrev pub column_volumes : Column → List Flow → List ℕ
column_volumes column flows = map (λ f. grains (supply column f).volume) flows
