-- How the counts of an envelope's buckets grow with time. All lists have rank 1 first, so that the tail of a list is
-- the ranks above. Counts are in grains. Assumes nothing.
use Rattle.std.specs.Prelude.{ℕ, ◌+◌, ◌-◌, ◌*◌, min, false, cond, List, [], ◌∷◌, Some, None, Option, slice_index}
use Rattle.tokens.specs.Units.{grains}
use Rattle.envelopes.specs.Profiles.{Profile}
use Rattle.envelopes.specs.declared.flow.Flow.{Flow}
use Rattle.envelopes.specs.declared.lane.Lane.{Lane}

-- One column of buckets, green or yellow. A lane is a bucket of the column: what supplies it, what comes to it besides
-- its rate and the overflow of the rank above, whether its own overflow is withheld from the rank below, and what it
-- holds.

-- what a maximum rate, if there is one, lets through in a time
abbrev pub limited : Option ℕ → ℕ → ℕ → ℕ
limited None time coming = coming
limited (Some maximum) time coming = min coming (maximum * time)

-- all that comes to a bucket in a time, where the rank above hands down so much
abbrev pub coming : ℕ → ℕ → Lane → ℕ
coming time handed l = l.supply.rate * time + (l.besides + handed)

-- it adds what the maximum lets through and there is room for
abbrev pub added : ℕ → ℕ → Lane → ℕ
added time handed l =
    min (limited l.supply.maximum time (coming time handed l)) (grains l.supply.volume - l.count)

-- the rest is overflow, what the maximum holds back included
abbrev pub overflow : ℕ → ℕ → Lane → ℕ
overflow time handed l = coming time handed l - added time handed l

-- what the first of these ranks hands down; the highest is handed `top` from outside
abbrev pub handed_down : ℕ → ℕ → List Lane → ℕ
handed_down time top [] = top
handed_down time top (l ∷ ls) = cond l.withheld 0 (overflow time (handed_down time top ls) l)

-- the overflow of every rank, and its count after the growth
abbrev pub overflows : ℕ → ℕ → List Lane → List ℕ
overflows time top [] = []
overflows time top (l ∷ ls) = overflow time (handed_down time top ls) l ∷ overflows time top ls

abbrev pub risen : ℕ → ℕ → List Lane → List ℕ
risen time top [] = []
risen time top (l ∷ ls) = (l.count + added time (handed_down time top ls) l) ∷ risen time top ls

-- The two columns of an envelope.

-- green: overflow goes to the rank below where CF is 0
abbrev pub green_lanes : List Flow → List ℕ → List Lane
green_lanes [] counts = []
green_lanes (f ∷ fs) [] = []
green_lanes (f ∷ fs) (c ∷ cs) =
    record { supply = f.green; besides = 0; withheld = f.cf; count = c } ∷ green_lanes fs cs

-- yellow: where CF is 1, a flow's own green overflow comes to it; its overflow always goes to the rank below
abbrev pub yellow_lanes : List Flow → List ℕ → List ℕ → List Lane
yellow_lanes [] over counts = []
yellow_lanes (f ∷ fs) [] counts = []
yellow_lanes (f ∷ fs) (o ∷ os) [] = []
yellow_lanes (f ∷ fs) (o ∷ os) (c ∷ cs) =
    record { supply = f.yellow; besides = cond f.cf o 0; withheld = false; count = c } ∷ yellow_lanes fs os cs

-- what the buckets hold, by rank
pub record Counts : Type 0 where
  pub greens : List ℕ
  pub yellows : List ℕ

-- the green overflow of each rank, all from the counts before the growth
abbrev pub green_overflows : Profile → ℕ → Counts → List ℕ
green_overflows p time k = overflows time 0 (green_lanes p.flows k.greens)

-- where CF0 is 1, the highest rank's yellow bucket gets rank 1's green overflow
abbrev pub to_highest_yellow : Profile → ℕ → Counts → ℕ
to_highest_yellow p time k = cond p.cf0 (slice_index (green_overflows p time k) 0) 0

abbrev pub grown : Profile → ℕ → Counts → Counts
grown p time k =
    record {
      greens = risen time 0 (green_lanes p.flows k.greens);
      yellows =
          risen time (to_highest_yellow p time k) (yellow_lanes p.flows (green_overflows p time k) k.yellows);
    }
