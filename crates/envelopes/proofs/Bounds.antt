-- What a story can declare: no more than the counts before it and what the rates bring in its time. Assumes nothing.
use Rattle.std.proofs.Common.{◌≡◌, ℕ, zero, suc, ◌+◌, ◌-◌, ◌*◌, ◌≤◌, Bool, false, cond, ◌&&◌, ◌||◌, eqb, List, [], ◌∷◌, ◌++◌, length, get_or, take, drop, Some, None, Option, ap, ◌∙◌, mul_comm, add-mul, arith, get_or-take}
use Rattle.std.proofs.lemmas.Bool.Decides.{nat_tests}
use Rattle.tokens.specs.Refusals.{answered, refused}
use Rattle.tokens.specs.Units.{grains}
use Rattle.envelopes.specs.Colouring.{amount, colour, is_green, is_yellow, place, spent}
use Rattle.envelopes.specs.Growth.{Counts, green_lanes, green_overflows, grown, handed_down, limited, risen, to_highest_yellow, yellow_lanes}
use Rattle.envelopes.specs.Guarantee.{AllTokensStayWithinAllCountsAndRates, Between, GreenTokensStayWithinCountAndRate, declared_between, green_limit, time_between}
use Rattle.envelopes.specs.Histories.{Event, Kind, Verdict, seen, tokens, verdict, verdicts}
use Rattle.envelopes.specs.Profiles.{Lawful, Profile, all_rates, at_most, coupled, green_rates, total}
use Rattle.envelopes.specs.Promises.{Call, advance, by_rank, fill, judge, read}
use Rattle.envelopes.specs.declared.colour.Colour.{Colour}
use Rattle.envelopes.specs.declared.colour.Request.{Request}
use Rattle.envelopes.specs.declared.flow.Flow.{Flow}
use Rattle.envelopes.proofs.Columns.{all_rates_bring_both, conserved, green_income, highest_yellow_gets, never_more_than_income, yellow_income}
use Rattle.envelopes.proofs.Fitting.{greens_held, growth_fits, spending_fits, yellows_held}
use Rattle.envelopes.proofs.Lowered.{lowered_only_there, lowered_total}
use Rattle.envelopes.proofs.Stories.{Fits, State, Step, Story, at, end, next, state}
use Rattle.envelopes.proofs.Tellings.{between_tells_story}

tokens_of_both : (f : Verdict → Bool) (vs ws : List Verdict) → tokens f (vs ++ ws) ≡ tokens f vs + tokens f ws
tokens_of_both f [] ws = omega arith
tokens_of_both f (v ∷ vs) ws = omega (arith, tokens_of_both f vs ws)

-- Whatever some of the counts hold together, and whatever a test picks of the verdicts: where growth brings them no
-- more than a rate does, and a request that is picked spends its tokens from them, a story declares no more than they
-- held and the rate brings.
module _ (p : Profile) (rate : ℕ) (held : Counts → ℕ) (test : Verdict → Bool) (grows : (time : ℕ) (k : Counts) → Fits p k → held (grown p time k) ≤ held k + time * rate) (spends : (q : Request) (k : Counts) → 1 ≤ q.rank → grains (cond (test (record { request = q; given = colour q k })) q.tokens 0) + held (spent q (colour q k) k) ≤ held k) where
  -- from one state to a later one so much was declared
  record Declares (declared : ℕ) (from to : State) : Type 0 where
    fits : Fits p to.counts
    later : from.latest ≤ to.latest
    within : declared + held to.counts ≤ held from.counts + (to.latest - from.latest) * rate

  nothing : (s : State) → Fits p s.counts → Declares 0 s s
  nothing s fits = record { fits = fits; later = omega arith; within = omega arith }

  one_call : (s : State) (c : Call) → Fits p s.counts → Step p s c → Declares (grains (tokens test (verdict c))) s (next p s c)
  one_call s (fill (answered done)) fits step = absurd step
  one_call s (fill (refused number)) fits step = nothing s fits
  one_call s (judge q (answered given)) fits step =
      let grown_fits = growth_fits p s.counts fits (q.moment - s.latest) in
      let growth = grows (q.moment - s.latest) s.counts fits in
      record {
        fits = spending_fits p (at p s q.moment) grown_fits q given;
        later = step.later;
        within = rw step.coloured (let spending = spends q (at p s q.moment) step.some_rank in omega arith);
      }
  one_call s (judge q (refused number)) fits step = nothing s fits
  one_call s (advance moment (answered done)) fits step =
      let growth = grows (moment - s.latest) s.counts fits in
      record { fits = growth_fits p s.counts fits (moment - s.latest); later = step; within = omega arith }
  one_call s (advance moment (refused number)) fits step = nothing s fits
  one_call s (read rank told) fits step = nothing s fits

  story_bound : (s : State) (cs : List Call) → Fits p s.counts → Story p s cs → Declares (grains (tokens test (verdicts cs))) s (end p s cs)
  story_bound s [] fits story = nothing s fits
  story_bound s (c ∷ cs) fits story =
      let step = one_call s c fits story.0 in
      let rest = story_bound (next p s c) cs step.fits story.1 in
      let first = (next p s c).latest - s.latest in
      let second = (end p (next p s c) cs).latest - (next p s c).latest in
      let whole : (end p (next p s c) cs).latest - s.latest ≡ first + second = omega (arith, step.later, rest.later) in
      let parts = ap (λ time. time * rate) whole ∙ add-mul first second rate in
      record {
        fits = rest.fits;
        later = omega (arith, step.later, rest.later);
        within = omega (arith, step.within, rest.within, tokens_of_both test (verdict c) (verdicts cs));
      }

  -- and so does a history between two accepted calls
  history_bound : {B : Type 0} (kind : Kind B) (first : Event B) (later : List (Event B)) (last : Event B) → Between kind p first later last → grains (tokens test (declared_between later last)) ≤ held (by_rank p (seen kind first.after)) + time_between first last * rate
  history_bound kind first later last between =
      let b = between_tells_story kind p first later last between in
      let bound = (story_bound (state p (seen kind first.after)) b.cs b.fits b.story).within in
      let declared = ap (λ vs. grains (tokens test vs)) b.same_verdicts in
      let passed = ap (λ t. (t - first.after.latest) * rate) b.same_latest in omega arith

-- What a request spends.

module _ (q : Request) (k : Counts) where
  abbrev given : Colour
  given = colour q k

  -- it is covered by the count that it is taken from
  covered_green : cond (is_green given) (amount q) 0 ≤ get_or k.greens (place q.rank) 0
  covered_green = grind (arith, nat_tests)

  covered_yellow : cond (is_yellow given) (amount q) 0 ≤ get_or k.yellows (place q.rank) 0
  covered_yellow = grind (arith, nat_tests)

  green_spends : (i : ℕ) → 1 ≤ q.rank → grains (cond (eqb q.rank (suc i) && is_green given) q.tokens 0) + get_or (spent q given k).greens i 0 ≤ get_or k.greens i 0
  green_spends i some =
      let lower = lowered_only_there i (place q.rank) (cond (is_green given) (amount q) 0) k.greens in
      let covered = covered_green in grind (arith, nat_tests)

  all_spend : grains (cond (is_green given || is_yellow given) q.tokens 0) + (total (spent q given k).greens + total (spent q given k).yellows) ≤ total k.greens + total k.yellows
  all_spend =
      let greens = lowered_total (place q.rank) _ k.greens covered_green in
      let yellows = lowered_total (place q.rank) _ k.yellows covered_yellow in
      grind (arith, nat_tests)

-- What growth brings.

-- what comes by some rates, and goes through a maximum
limited_within : (maximum : Option ℕ) (time comes rates : ℕ) → comes ≤ rates * time → limited maximum time comes ≤ time * at_most maximum rates
limited_within None time comes rates most = omega (arith, mul_comm rates time)
limited_within (Some maximum) time comes rates most =
    let through = mul_comm maximum time in
    let by_rates = mul_comm rates time in grind (arith, nat_tests)

green_grows : (time : ℕ) (fs : List Flow) (cs : List ℕ) (i : ℕ) → length cs ≡ length fs → get_or (risen time 0 (green_lanes fs cs)) i 0 ≤ get_or cs i 0 + time * green_limit (drop i fs)
green_grows time [] cs i fit = omega arith
green_grows time (f ∷ fs) [] i fit = absurd (omega arith)
green_grows time (f ∷ fs) (c ∷ cs) zero fit =
    let above = never_more_than_income time 0 (green_lanes fs cs) in
    let brought = green_income time (f ∷ fs) (c ∷ cs) fit in
    let handed = handed_down time 0 (green_lanes fs cs) in
    let limit = limited_within f.green.maximum time (f.green.rate * time + (0 + handed)) (green_rates (f ∷ fs)) (omega arith) in
    omega arith
green_grows time (f ∷ fs) (c ∷ cs) (suc i) fit = green_grows time fs cs i (omega arith)

all_grow : (p : Profile) → (p.cf0 && coupled p.flows) ≡ false → (time : ℕ) (k : Counts) → Fits p k → total (grown p time k).greens + total (grown p time k).yellows ≤ (total k.greens + total k.yellows) + time * all_rates p.flows
all_grow p lawful time k fits =
    let top = to_highest_yellow p time k in
    let green_kept = conserved time 0 (green_lanes p.flows k.greens) in
    let yellow_kept = conserved time top (yellow_lanes p.flows (green_overflows p time k) k.yellows) in
    let green_held = ap total (greens_held p k fits) in
    let yellow_held = ap total (yellows_held p k fits time) in
    let green_brought = green_income time p.flows k.greens fits.greens in
    let yellow_brought = yellow_income time top p.flows k.greens k.yellows fits.greens fits.yellows in
    let highest = highest_yellow_gets p.cf0 time p.flows k.greens lawful in
    let both = all_rates_bring_both time p.flows in omega (arith, mul_comm time (all_rates p.flows))

-- The two bounds.

pub green_bound_between : {B : Type 0} (kind : Kind B) (p : Profile) → GreenTokensStayWithinCountAndRate kind p
green_bound_between kind p first later last between i within =
    rw (← get_or-take (length p.flows) (seen kind first.after).counts i 0 within)
    (history_bound p _ (λ k. get_or k.greens i 0) _ (λ time k fit. green_grows time p.flows k.greens i fit.greens) (λ q k. green_spends q k i) kind first later last between)

total_in_two_parts : (n : ℕ) (cs : List ℕ) → total (take n cs) + total (drop n cs) ≡ total cs
total_in_two_parts zero cs = omega arith
total_in_two_parts (suc n) [] = omega arith
total_in_two_parts (suc n) (c ∷ cs) = omega (arith, total_in_two_parts n cs)

pub all_bound_between : {B : Type 0} (kind : Kind B) (p : Profile) → Lawful p → AllTokensStayWithinAllCountsAndRates kind p
all_bound_between kind p lawful first later last between =
    rw (← total_in_two_parts (length p.flows) (seen kind first.after).counts)
    (history_bound p _ (λ k. total k.greens + total k.yellows) _ (all_grow p lawful.not_both_flags) (λ q k _. all_spend q k) kind first later last between)
