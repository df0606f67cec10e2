-- One column of buckets: what comes to it is added, handed down or withheld, and how much that is. Assumes nothing.
use Rattle.std.proofs.Common.{◌≡◌, ℕ, ◌+◌, ◌*◌, ◌≤◌, Bool, true, false, cond, ◌&&◌, List, [], ◌∷◌, map, length, get_or, ap, ◌∙◌, add-mul, arith}
use Rattle.std.proofs.lemmas.Bool.Decides.{nat_tests}
use Rattle.envelopes.specs.Growth.{Counts, added, coming, green_lanes, green_overflows, handed_down, overflows, risen, to_highest_yellow, yellow_lanes}
use Rattle.envelopes.specs.Income.{income, withheld_overflow}
use Rattle.envelopes.specs.Profiles.{Profile, all_rates, coupled, green_rates, total}
use Rattle.envelopes.specs.declared.flow.Flow.{Flow}
use Rattle.envelopes.specs.declared.lane.Lane.{Lane}
use Rattle.envelopes.proofs.Stories.{Fits}

-- a maximum lets through no more than comes
pub added_is_at_most_coming : (time handed : ℕ) (l : Lane) → added time handed l ≤ coming time handed l
added_is_at_most_coming time handed l = grind (arith, nat_tests)

-- nothing is lost: what was there and what comes is there, handed down or withheld
pub conserved : (time top : ℕ) (ls : List Lane) → total (risen time top ls) + (handed_down time top ls + withheld_overflow time top ls) ≡ total (map (λ l. l.count) ls) + income time top ls
conserved time top [] = omega arith
conserved time top (l ∷ ls) =
    let most = added_is_at_most_coming time (handed_down time top ls) l in
    let above = conserved time top ls in grind (arith, nat_tests)

pub never_more_than_income : (time top : ℕ) (ls : List Lane) → handed_down time top ls + withheld_overflow time top ls ≤ income time top ls
never_more_than_income time top [] = omega arith
never_more_than_income time top (l ∷ ls) = let above = never_more_than_income time top ls in grind (arith, nat_tests)

-- What comes to the two columns of an envelope.

pub green_income : (time : ℕ) (fs : List Flow) (cs : List ℕ) → length cs ≡ length fs → income time 0 (green_lanes fs cs) ≡ green_rates fs * time
green_income time [] cs fit = omega arith
green_income time (f ∷ fs) [] fit = absurd (omega arith)
green_income time (f ∷ fs) (c ∷ cs) fit =
    let above = green_income time fs cs (omega arith) in
    omega (arith, add-mul f.green.rate (green_rates fs) time)

abbrev pub yellow_rates : List Flow → ℕ
yellow_rates fs = total (map (λ f. f.yellow.rate) fs)

-- what the green column withholds comes to the yellow one
pub yellow_income : (time top : ℕ) (fs : List Flow) (gs ys : List ℕ) → length gs ≡ length fs → length ys ≡ length fs → income time top (yellow_lanes fs (overflows time 0 (green_lanes fs gs)) ys) ≡ yellow_rates fs * time + (withheld_overflow time 0 (green_lanes fs gs) + top)
yellow_income time top [] gs ys greens yellows = omega arith
yellow_income time top (f ∷ fs) [] ys greens yellows = absurd (omega arith)
yellow_income time top (f ∷ fs) (g ∷ gs) [] greens yellows = absurd (omega arith)
yellow_income time top (f ∷ fs) (g ∷ gs) (y ∷ ys) greens yellows =
    let above = yellow_income time top fs gs ys (omega arith) (omega arith) in
    omega (arith, add-mul f.yellow.rate (yellow_rates fs) time)

all_rates_are_both : (fs : List Flow) → all_rates fs ≡ green_rates fs + yellow_rates fs
all_rates_are_both [] = omega arith
all_rates_are_both (f ∷ fs) = omega (arith, all_rates_are_both fs)

pub all_rates_bring_both : (time : ℕ) (fs : List Flow) → all_rates fs * time ≡ green_rates fs * time + yellow_rates fs * time
all_rates_bring_both time fs =
    ap (λ r. r * time) (all_rates_are_both fs) ∙ add-mul (green_rates fs) (yellow_rates fs) time

-- the highest yellow bucket gets no more than what rank 1's green bucket hands down: where it gets that, nothing is
-- withheld
pub highest_yellow_gets : (cf0 : Bool) (time : ℕ) (fs : List Flow) (gs : List ℕ) → (cf0 && coupled fs) ≡ false → cond cf0 (get_or (overflows time 0 (green_lanes fs gs)) 0 0) 0 ≤ handed_down time 0 (green_lanes fs gs)
highest_yellow_gets false time fs gs lawful = omega arith
highest_yellow_gets true time [] gs lawful = omega arith
highest_yellow_gets true time (f ∷ fs) [] lawful = omega arith
highest_yellow_gets true time (f ∷ fs) (g ∷ gs) lawful = grind (arith, nat_tests)

module _ (p : Profile) (time : ℕ) (k : Counts) (fits : Fits p k) where
  abbrev greens : List Lane
  greens = green_lanes p.flows k.greens

  pub green_income_bound : income time 0 greens ≤ all_rates p.flows * time
  green_income_bound =
      let green = green_income time p.flows k.greens fits.greens in
      let both = all_rates_bring_both time p.flows in omega arith

  pub all_income : (p.cf0 && coupled p.flows) ≡ false → income time (to_highest_yellow p time k) (yellow_lanes p.flows (green_overflows p time k) k.yellows) ≤ all_rates p.flows * time
  all_income lawful =
      let green = green_income time p.flows k.greens fits.greens in
      let yellow = yellow_income time (to_highest_yellow p time k) p.flows k.greens k.yellows fits.greens fits.yellows in
      let most = never_more_than_income time 0 greens in
      let top = highest_yellow_gets p.cf0 time p.flows k.greens lawful in
      let both = all_rates_bring_both time p.flows in omega arith
