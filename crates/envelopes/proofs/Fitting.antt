-- There stays a count for each flow, and then growth by no time changes nothing. Assumes nothing.
use Rattle.std.proofs.Common.{◌≡◌, ℕ, ◌+◌, List, [], ◌∷◌, map, length, get_or, sym, refl, ap, ◌∙◌, mul-zero, arith}
use Rattle.std.proofs.lemmas.Bool.Decides.{nat_tests}
use lib.ListN.{length-map}
use Rattle.std.specs.List.{AllByRecursion}
use Rattle.envelopes.specs.Colouring.{spent}
use Rattle.envelopes.specs.Growth.{Counts, added, green_lanes, green_overflows, grown, handed_down, overflow, overflows, risen, to_highest_yellow, yellow_lanes}
use Rattle.envelopes.specs.Profiles.{Profile}
use Rattle.envelopes.specs.declared.colour.Colour.{Colour}
use Rattle.envelopes.specs.declared.colour.Request.{Request}
use Rattle.envelopes.specs.declared.flow.Flow.{Flow}
use Rattle.envelopes.specs.declared.lane.Lane.{Lane}
use Rattle.envelopes.proofs.Columns.{added_is_at_most_coming}
use Rattle.envelopes.proofs.Lowered.{lowered_are_as_many}
use Rattle.envelopes.proofs.Suffixes.{a_count_for_each, an_overflow_for_each}
use Rattle.envelopes.proofs.Stories.{Fits, full}

-- the lanes of a column hold the counts that they were made of
abbrev pub held : List Lane → List ℕ
held ls = map (λ l. l.count) ls

a_lane_for_each : (ls : List Lane) (cs : List ℕ) → held ls ≡ cs → length ls ≡ length cs
a_lane_for_each ls cs hold = sym (length-map ls (λ l. l.count)) ∙ ap length hold

green_lanes_hold_the_counts : (fs : List Flow) (cs : List ℕ) → length cs ≡ length fs → held (green_lanes fs cs) ≡ cs
green_lanes_hold_the_counts [] [] fit = refl
green_lanes_hold_the_counts [] (c ∷ cs) fit = absurd (omega arith)
green_lanes_hold_the_counts (f ∷ fs) [] fit = absurd (omega arith)
green_lanes_hold_the_counts (f ∷ fs) (c ∷ cs) fit = ap (λ ds. c ∷ ds) (green_lanes_hold_the_counts fs cs (omega arith))

yellow_lanes_hold_the_counts : (fs : List Flow) (os cs : List ℕ) → length os ≡ length fs → length cs ≡ length fs → held (yellow_lanes fs os cs) ≡ cs
yellow_lanes_hold_the_counts [] os [] over fit = refl
yellow_lanes_hold_the_counts [] os (c ∷ cs) over fit = absurd (omega arith)
yellow_lanes_hold_the_counts (f ∷ fs) [] cs over fit = absurd (omega arith)
yellow_lanes_hold_the_counts (f ∷ fs) (o ∷ os) [] over fit = absurd (omega arith)
yellow_lanes_hold_the_counts (f ∷ fs) (o ∷ os) (c ∷ cs) over fit = ap (λ ds. c ∷ ds) (yellow_lanes_hold_the_counts fs os cs (omega arith) (omega arith))

pub full_fits : (p : Profile) → Fits p (full p)
full_fits p = record { greens = length-map p.flows _; yellows = length-map p.flows _ }

module _ (p : Profile) (k : Counts) (fit : Fits p k) where
  pub spending_fits : (q : Request) (given : Colour) → Fits p (spent q given k)
  spending_fits q given =
      record {
        greens = lowered_are_as_many _ _ k.greens ∙ fit.greens;
        yellows = lowered_are_as_many _ _ k.yellows ∙ fit.yellows;
      }

  pub greens_held : held (green_lanes p.flows k.greens) ≡ k.greens
  greens_held = green_lanes_hold_the_counts p.flows k.greens fit.greens

  module _ (time : ℕ) where
    pub an_overflow_for_each_flow : length (green_overflows p time k) ≡ length p.flows
    an_overflow_for_each_flow = an_overflow_for_each time 0 (green_lanes p.flows k.greens) ∙ a_lane_for_each _ _ greens_held ∙ fit.greens

    pub yellows_held : held (yellow_lanes p.flows (green_overflows p time k) k.yellows) ≡ k.yellows
    yellows_held = yellow_lanes_hold_the_counts p.flows _ k.yellows an_overflow_for_each_flow fit.yellows

    pub growth_fits : Fits p (grown p time k)
    growth_fits =
        record {
          greens = a_count_for_each time 0 (green_lanes p.flows k.greens) ∙ a_lane_for_each _ _ greens_held ∙ fit.greens;
          yellows = a_count_for_each time (to_highest_yellow p time k) (yellow_lanes p.flows (green_overflows p time k) k.yellows) ∙ a_lane_for_each _ _ yellows_held ∙ fit.yellows;
        }

-- In no time nothing comes, where nothing comes besides.

record Still (ls : List Lane) : Type 0 where
  handed : handed_down 0 0 ls ≡ 0
  over : AllByRecursion (λ o. o ≡ 0) (overflows 0 0 ls)
  counts : risen 0 0 ls ≡ held ls

nothing_comes_in_no_time : (ls : List Lane) → AllByRecursion (λ l. l.besides ≡ 0) ls → Still ls
nothing_comes_in_no_time [] none = record { handed = refl; over = tt; counts = refl }
nothing_comes_in_no_time (l ∷ ls) none =
    let above = nothing_comes_in_no_time ls none.1 in
    let rate = mul-zero l.supply.rate in
    let within = added_is_at_most_coming 0 (handed_down 0 0 ls) l in
    let over : overflow 0 (handed_down 0 0 ls) l ≡ 0 = omega (arith, above.handed, none.0) in
    let count : l.count + added 0 (handed_down 0 0 ls) l ≡ l.count = omega (arith, above.handed, none.0) in
    record {
      handed = grind (arith, nat_tests);
      over = (over, above.over);
      counts = cc (count, above.counts);
    }

nothing_besides_green : (fs : List Flow) (cs : List ℕ) → AllByRecursion (λ l. l.besides ≡ 0) (green_lanes fs cs)
nothing_besides_green [] cs = tt
nothing_besides_green (f ∷ fs) [] = tt
nothing_besides_green (f ∷ fs) (c ∷ cs) = (refl, nothing_besides_green fs cs)

nothing_besides_yellow : (fs : List Flow) (os cs : List ℕ) → AllByRecursion (λ o. o ≡ 0) os → AllByRecursion (λ l. l.besides ≡ 0) (yellow_lanes fs os cs)
nothing_besides_yellow [] os cs over = tt
nothing_besides_yellow (f ∷ fs) [] cs over = tt
nothing_besides_yellow (f ∷ fs) (o ∷ os) [] over = tt
nothing_besides_yellow (f ∷ fs) (o ∷ os) (c ∷ cs) over =
    (let none = over.0 in grind (arith, nat_tests), nothing_besides_yellow fs os cs over.1)

first_of_nothings : (os : List ℕ) → AllByRecursion (λ o. o ≡ 0) os → get_or os 0 0 ≡ 0
first_of_nothings [] none = refl
first_of_nothings (o ∷ os) none = none.0

pub growth_by_no_time_changes_nothing : (p : Profile) (k : Counts) → Fits p k → grown p 0 k ≡ k
growth_by_no_time_changes_nothing p k fit =
    let green = nothing_comes_in_no_time (green_lanes p.flows k.greens) (nothing_besides_green p.flows k.greens) in
    let yellow = nothing_comes_in_no_time (yellow_lanes p.flows (green_overflows p 0 k) k.yellows) (nothing_besides_yellow p.flows _ k.yellows green.over) in
    let top : to_highest_yellow p 0 k ≡ 0 = let first = first_of_nothings (green_overflows p 0 k) green.over in grind (arith, nat_tests) in
    let greens = green.counts ∙ greens_held p k fit in
    let yellows = yellow.counts ∙ yellows_held p k fit 0 in
    let same : grown p 0 k ≡ record { greens = k.greens; yellows = k.yellows } = cc in same
