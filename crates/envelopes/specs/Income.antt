-- All that comes to a column of buckets in a time: what bounds every number of an update. Assumes nothing.
use Rattle.std.specs.Prelude.{ℕ, ◌+◌, ◌*◌, cond, List, [], ◌∷◌}
use Rattle.envelopes.specs.Growth.{handed_down, overflow}
use Rattle.envelopes.specs.declared.lane.Lane.{Lane}

-- from the rates, from besides, and from outside to the highest rank
abbrev pub income : ℕ → ℕ → List Lane → ℕ
income time top [] = top
income time top (l ∷ ls) = l.supply.rate * time + (l.besides + income time top ls)

-- the overflow that is withheld from the ranks below
abbrev pub withheld_overflow : ℕ → ℕ → List Lane → ℕ
withheld_overflow time top [] = 0
withheld_overflow time top (l ∷ ls) =
    cond l.withheld (overflow time (handed_down time top ls) l) 0 + withheld_overflow time top ls
