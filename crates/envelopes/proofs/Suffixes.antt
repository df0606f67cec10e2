-- What a column tells of its ranks, one by one: it tells something of each, and of the ranks above some rank just what
-- a column of those alone would. Assumes nothing.
use Rattle.std.proofs.Common.{◌≡◌, ℕ, zero, suc, ◌+◌, List, [], ◌∷◌, length, drop, refl, ap, ◌∙◌}
use Rattle.envelopes.specs.Growth.{added, green_lanes, handed_down, overflow, overflows, risen, yellow_lanes}
use Rattle.envelopes.specs.declared.flow.Flow.{Flow}
use Rattle.envelopes.specs.declared.lane.Lane.{Lane}

-- what is told of each rank by the ranks from it up
module _ (told : List Lane → List ℕ) (of : Lane → List Lane → ℕ) (of_none : told [] ≡ []) (of_one : (l : Lane) (ls : List Lane) → told (l ∷ ls) ≡ of l ls ∷ told ls) where
  told_above : (i : ℕ) (ls : List Lane) → drop i (told ls) ≡ told (drop i ls)
  told_above zero ls = refl
  told_above (suc i) [] = cc of_none
  told_above (suc i) (l ∷ ls) = ap (drop (suc i)) (of_one l ls) ∙ told_above i ls

  told_of_each : (ls : List Lane) → length (told ls) ≡ length ls
  told_of_each [] = ap length of_none
  told_of_each (l ∷ ls) = ap length (of_one l ls) ∙ ap suc (told_of_each ls)

module _ (time top : ℕ) where
  abbrev count_after : Lane → List Lane → ℕ
  count_after l ls = l.count + added time (handed_down time top ls) l

  abbrev overflow_of : Lane → List Lane → ℕ
  overflow_of l ls = overflow time (handed_down time top ls) l

  pub counts_above : (i : ℕ) (ls : List Lane) → drop i (risen time top ls) ≡ risen time top (drop i ls)
  counts_above = told_above (risen time top) count_after refl (λ l ls. refl)

  pub overflows_above : (i : ℕ) (ls : List Lane) → drop i (overflows time top ls) ≡ overflows time top (drop i ls)
  overflows_above = told_above (overflows time top) overflow_of refl (λ l ls. refl)

  pub a_count_for_each : (ls : List Lane) → length (risen time top ls) ≡ length ls
  a_count_for_each = told_of_each (risen time top) count_after refl (λ l ls. refl)

  pub an_overflow_for_each : (ls : List Lane) → length (overflows time top ls) ≡ length ls
  an_overflow_for_each = told_of_each (overflows time top) overflow_of refl (λ l ls. refl)

no_green_counts : (fs : List Flow) → [] ≡ green_lanes fs []
no_green_counts [] = refl
no_green_counts (f ∷ fs) = refl

pub green_lanes_above : (i : ℕ) (fs : List Flow) (cs : List ℕ) → drop i (green_lanes fs cs) ≡ green_lanes (drop i fs) (drop i cs)
green_lanes_above zero fs cs = refl
green_lanes_above (suc i) [] cs = refl
green_lanes_above (suc i) (f ∷ fs) [] = no_green_counts (drop i fs)
green_lanes_above (suc i) (f ∷ fs) (c ∷ cs) = green_lanes_above i fs cs

no_overflows : (fs : List Flow) (cs : List ℕ) → [] ≡ yellow_lanes fs [] cs
no_overflows [] cs = refl
no_overflows (f ∷ fs) cs = refl

no_yellow_counts : (fs : List Flow) (os : List ℕ) → [] ≡ yellow_lanes fs os []
no_yellow_counts [] os = refl
no_yellow_counts (f ∷ fs) [] = refl
no_yellow_counts (f ∷ fs) (o ∷ os) = refl

pub yellow_lanes_above : (i : ℕ) (fs : List Flow) (os cs : List ℕ) → drop i (yellow_lanes fs os cs) ≡ yellow_lanes (drop i fs) (drop i os) (drop i cs)
yellow_lanes_above zero fs os cs = refl
yellow_lanes_above (suc i) [] os cs = refl
yellow_lanes_above (suc i) (f ∷ fs) [] cs = no_overflows (drop i fs) (drop (suc i) cs)
yellow_lanes_above (suc i) (f ∷ fs) (o ∷ os) [] = no_yellow_counts (drop i fs) (drop i os)
yellow_lanes_above (suc i) (f ∷ fs) (o ∷ os) (c ∷ cs) = yellow_lanes_above i fs os cs
