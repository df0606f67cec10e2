-- How a request is coloured, and what it spends. Counts are in grains. Assumes nothing.
use Rattle.std.specs.Prelude.{ℕ, zero, suc, ◌-◌, Bool, true, false, cond, List, [], ◌∷◌, nat_le, slice_index}
use Rattle.tokens.specs.Units.{grains}
use Rattle.envelopes.specs.Growth.{Counts}
use Rattle.envelopes.specs.declared.colour.Colour.{Colour}
use Rattle.envelopes.specs.declared.colour.Colour.TheVariants.{Green, Yellow, Red}
use Rattle.envelopes.specs.declared.colour.Request.{Request}

abbrev pub is_green : Colour → Bool
is_green Green = true
is_green Yellow = false
is_green Red = false

abbrev pub is_yellow : Colour → Bool
is_yellow Green = false
is_yellow Yellow = true
is_yellow Red = false

-- Green where it is asked for and the green count covers the amount; else Yellow where Green or Yellow is asked for
-- and the yellow count covers it; else Red
abbrev pub yellow_or_red : ℕ → ℕ → Colour
yellow_or_red amount yellow = cond (nat_le amount yellow) Yellow Red

abbrev pub declared : Colour → ℕ → ℕ → ℕ → Colour
declared Green amount green yellow = cond (nat_le amount green) Green (yellow_or_red amount yellow)
declared Yellow amount green yellow = yellow_or_red amount yellow
declared Red amount green yellow = Red

-- the place of a rank in a list that has rank 1 first
abbrev pub place : ℕ → ℕ
place rank = rank - 1

abbrev pub amount : Request → ℕ
amount q = grains q.tokens

abbrev pub colour : Request → Counts → Colour
colour q k =
    declared q.asked (amount q) (slice_index k.greens (place q.rank)) (slice_index k.yellows (place q.rank))

-- counts of which the one at a place is lower by an amount
abbrev pub lowered : ℕ → ℕ → List ℕ → List ℕ
lowered i less [] = []
lowered zero less (c ∷ cs) = (c - less) ∷ cs
lowered (suc i) less (c ∷ cs) = c ∷ lowered i less cs

-- a Green request spends from its flow's green bucket, a Yellow one from its yellow bucket, a Red one nothing
abbrev pub spent : Request → Colour → Counts → Counts
spent q given k =
    record {
      greens = lowered (place q.rank) (cond (is_green given) (amount q) 0) k.greens;
      yellows = lowered (place q.rank) (cond (is_yellow given) (amount q) 0) k.yellows;
    }
