-- What a lone meter passes is Green: its level never passes the flow's green count. Assumes nothing.
use Rattle.std.proofs.Common.{◌≡◌, ℕ, zero, suc, ◌+◌, ◌-◌, ◌*◌, ◌≤◌, min, Bool, true, false, cond, ◌&&◌, eqb, List, [], ◌∷◌, map, length, get_or, drop, Some, None, Option, sym, refl, ap, ◌∙◌, subst, mul-le-mul, mul-zero, arith}
use native.Mathlib.Nat.{sub_self}
use lib.Seq.{drop-nil}
use Rattle.std.proofs.lemmas.Bool.Decides.{nat_tests}
use Rattle.std.specs.List.{AllByRecursion}
use Rattle.tokens.specs.Histories.{History, Kept}
use Rattle.tokens.specs.Meters.{Metered, level_at, less, moved}
use Rattle.tokens.specs.Refusals.{answered, refused}
use Rattle.tokens.specs.Units.{grains}
use Rattle.tokens.specs.declared.calls.Answer.TheVariants.{Yes}
use Rattle.tokens.specs.declared.calls.Call.TheVariants.{Charge}
use Rattle.tokens.proofs.Products.{gained_in_two_parts}
use Rattle.envelopes.specs.Colouring.{amount, colour, is_green, place, spent}
use Rattle.envelopes.specs.Growth.{Counts, green_lanes, handed_down, limited, risen}
use Rattle.envelopes.specs.Profiles.{Profile, Lawful, ReachesItsRate, at_most}
use Rattle.envelopes.specs.Guarantee.{WhatALoneMeterPassesIsGreen, passed_charge}
use Rattle.envelopes.specs.Histories.{Kind, Verdict, calls, those, verdicts}
use Rattle.envelopes.specs.Promises.{Call, advance, fill, judge, read}
use Rattle.envelopes.specs.declared.colour.Colour.{Colour}
use Rattle.envelopes.specs.declared.colour.Colour.TheVariants.{Green}
use Rattle.envelopes.specs.declared.colour.Request.{Request}
use Rattle.envelopes.specs.declared.flow.Flow.{Flow}
use Rattle.envelopes.proofs.Fitting.{full_fits, growth_fits, spending_fits}
use Rattle.envelopes.proofs.Lowered.{lowered_only_there}
use Rattle.envelopes.proofs.Stories.{Asked, Fits, State, Story, at}
use Rattle.envelopes.proofs.Tellings.{since_fill_tells_story}

-- The meter.

-- it passes a charge that its level covers, and its level falls by that
charge_that_passes : (m left : Metered) (tokens moment : ℕ) → Kept m (Charge tokens moment) (answered Yes) left → (grains tokens ≤ level_at m moment) × (left ≡ less (moved m moment) tokens)
charge_that_passes m left tokens moment kept = (grind (arith, nat_tests), grind (arith, nat_tests))

-- The flow's green count.

-- a maximum that reaches the rate lets all through that the rate brings
rate_gets_through : (maximum : Option ℕ) (rate time more : ℕ) → rate ≤ at_most maximum rate → rate * time ≤ limited maximum time (rate * time + more)
rate_gets_through None rate time more reached = omega arith
rate_gets_through (Some maximum) rate time more reached =
    let below : rate ≤ maximum = omega arith in
    let product : rate * time ≤ maximum * time = mul-le-mul below (omega arith) in omega arith

-- a green count grows at least at its rate, up to the volume
grows_at_its_rate : (i : ℕ) (fs : List Flow) (cs : List ℕ) (flow : Flow) (above : List Flow) (time : ℕ) → drop i fs ≡ flow ∷ above → length cs ≡ length fs → AllByRecursion (λ f. ReachesItsRate f.green) fs → min (grains flow.green.volume) (get_or cs i 0 + flow.green.rate * time) ≤ get_or (risen time 0 (green_lanes fs cs)) i 0
grows_at_its_rate i [] cs flow above time here long reached = let none = drop-nil {A = Flow} i in grind (arith, nat_tests)
grows_at_its_rate i (f ∷ fs) [] flow above time here long reached = absurd (omega arith)
grows_at_its_rate zero (f ∷ fs) (c ∷ cs) flow above time here long reached =
    let same : flow ≡ f = cc in
    let through = rate_gets_through f.green.maximum f.green.rate time (0 + handed_down time 0 (green_lanes fs cs)) reached.0 in
    rw same (omega arith)
grows_at_its_rate (suc i) (f ∷ fs) (c ∷ cs) flow above time here long reached = grows_at_its_rate i fs cs flow above time here (omega arith) reached.1

-- after a fill it is the volume
full_at : (i : ℕ) (fs : List Flow) (flow : Flow) (above : List Flow) → drop i fs ≡ flow ∷ above → get_or (map (λ f. grains f.green.volume) fs) i 0 ≡ grains flow.green.volume
full_at i [] flow above here = cc (drop-nil {A = Flow} i)
full_at zero (f ∷ fs) flow above here = let same : f ≡ flow = cc in ap (λ g. grains g.green.volume) same
full_at (suc i) (f ∷ fs) flow above here = full_at i fs flow above here

-- a request of the flow's rank that asks Green
abbrev of_flow : ℕ → Request → Bool
of_flow i q = eqb q.rank (suc i) && is_green q.asked

-- any other request leaves the flow's green count
others_leave_the_count : (i : ℕ) (q : Request) (k : Counts) → 1 ≤ q.rank → of_flow i q ≡ false → get_or (spent q (colour q k) k).greens i 0 ≡ get_or k.greens i 0
others_leave_the_count i q k some other =
    let lower = lowered_only_there i (place q.rank) (cond (is_green (colour q k)) (amount q) 0) k.greens in
    grind (arith, nat_tests)

-- a request of the flow that its count covers is Green, and lowers the count
covered_is_green : (i : ℕ) (q : Request) (k : Counts) → of_flow i q ≡ true → amount q ≤ get_or k.greens i 0 → (colour q k ≡ Green) × (get_or (spent q (colour q k) k).greens i 0 ≡ get_or k.greens i 0 - amount q)
covered_is_green i q k own covers =
    let green : colour q k ≡ Green = grind (arith, nat_tests) in
    let lower = lowered_only_there i (place q.rank) (cond (is_green (colour q k)) (amount q) 0) k.greens in
    (green, grind (arith, nat_tests))

-- The meter beside the envelope.

module _ (p : Profile) (lawful : Lawful p) (i : ℕ) (flow : Flow) (above : List Flow) (here : drop i p.flows ≡ flow ∷ above) where
  -- the meter with a level since a moment
  abbrev metered : ℕ → ℕ → Metered
  metered level since = record { rate = flow.green.rate; burst = flow.green.volume; latest = since; level = level }

  -- the green count covers the meter's level at the state's latest moment
  record Backed (level since : ℕ) (s : State) : Type 0 where
    fits : Fits p s.counts
    earlier : since ≤ s.latest
    covers : level_at (metered level since) s.latest ≤ get_or s.counts.greens i 0

  backed_at : (level since : ℕ) (s : State) (moment : ℕ) → s.latest ≤ moment → Backed level since s → Backed level since (record { latest = moment; counts = at p s moment })
  backed_at level since s moment later b =
      let grows = grows_at_its_rate i p.flows s.counts.greens flow above (moment - s.latest) here b.fits.greens lawful.green_rates_reached in
      let parts = gained_in_two_parts flow.green.rate since s.latest moment b.earlier later in
      record { fits = growth_fits p s.counts b.fits (moment - s.latest); earlier = omega arith; covers = omega arith }

  -- the flow's requests that ask Green
  abbrev asking : List Call → List Verdict
  asking cs = those (λ v. of_flow i v.request) (verdicts cs)

  module _ (level since : ℕ) (s : State) (q : Request) (given : Colour) (asked : Asked p s q given) (b : Backed level since s) where
    abbrev counts_then : Counts
    counts_then = at p s q.moment

    abbrev level_then : ℕ
    level_then = level_at (metered level since) q.moment

    b_then : Backed level since (record { latest = q.moment; counts = counts_then })
    b_then = backed_at level since s q.moment asked.later b

    abbrev afterwards : Colour → State
    afterwards c = record { latest = q.moment; counts = spent q c counts_then }

    other_keeps_backed : of_flow i q ≡ false → Backed level since (afterwards given)
    other_keeps_backed other =
        let count = others_leave_the_count i q counts_then asked.some_rank other in
        let covered = b_then.covers in
        subst (λ c. Backed level since (afterwards c)) (sym asked.coloured)
        (record { fits = spending_fits p counts_then b_then.fits q _; earlier = b_then.earlier; covers = omega arith })

    passed_is_green : of_flow i q ≡ true → amount q ≤ level_then → (given ≡ Green) × Backed (level_then - amount q) q.moment (afterwards given)
    passed_is_green own passes =
        let covered = b_then.covers in
        let green = covered_is_green i q counts_then own (omega arith) in
        let count = green.1 in
        let no_time : flow.green.rate * (q.moment - q.moment) ≡ 0 = simp (sub_self, mul-zero) in (
          asked.coloured ∙ green.0,
          subst (λ c. Backed (level_then - amount q) q.moment (afterwards c)) (sym asked.coloured)
              (record { fits = spending_fits p counts_then b_then.fits q _; earlier = omega arith; covers = omega arith }),
        )

  module _ {M : Type 0} (meaning : M → Metered) (last : M) where
    abbrev AllGreenFrom : List Verdict → State → Type 0
    AllGreenFrom vs s = (level since : ℕ) (meter : M) → meaning meter ≡ metered level since → Backed level since s → History meaning meter (map passed_charge vs) last → AllByRecursion (λ v. v.given ≡ Green) vs

    one_verdict_more : (s : State) (q : Request) (given : Colour) → Asked p s q given → (vs : List Verdict) → AllGreenFrom vs (record { latest = q.moment; counts = spent q given (at p s q.moment) }) → (own : Bool) → of_flow i q ≡ own → AllGreenFrom (cond own (record { request = q; given = given } ∷ vs) vs) s
    one_verdict_more s q given asked vs rest false other level since meter means b h = rest level since meter means (other_keeps_backed level since s q given asked b other) h
    one_verdict_more s q given asked vs rest true own level since meter means b h =
        let charge = charge_that_passes (metered level since) (meaning h.0) q.tokens q.moment (subst (λ m. Kept m (Charge q.tokens q.moment) (answered Yes) (meaning h.0)) means h.1) in
        let step = passed_is_green level since s q given asked b own charge.0 in
        (step.0, rest _ q.moment h.0 charge.1 step.1 h.2)

    -- along a story, where the meter passes what the flow asks
    all_green : (cs : List Call) (s : State) → Story p s cs → AllGreenFrom (asking cs) s
    all_green [] s story = λ level since meter means b h. tt
    all_green (fill (answered done) ∷ cs) s story = absurd story.0
    all_green (fill (refused number) ∷ cs) s story = all_green cs s story.1
    all_green (judge q (answered given) ∷ cs) s story = one_verdict_more s q given story.0 (asking cs) (all_green cs _ story.1) (of_flow i q) refl
    all_green (judge q (refused number) ∷ cs) s story = all_green cs s story.1
    all_green (advance moment (answered done) ∷ cs) s story =
        λ level since meter means b. all_green cs _ story.1 level since meter means (backed_at level since s moment story.0 b)
    all_green (advance moment (refused number) ∷ cs) s story = all_green cs s story.1
    all_green (read rank told ∷ cs) s story = all_green cs s story.1

pub lone_meter : {B M : Type 0} (kind : Kind B) (meaning : M → Metered) (p : Profile) → Lawful p → WhatALoneMeterPassesIsGreen kind meaning p
lone_meter kind meaning p lawful later since i flow above here meter last new h =
    let told = since_fill_tells_story kind p later since in
    let filled = full_at i p.flows flow above here in
    all_green p lawful i flow above here meaning last (calls later) _ told.1 _ 0 meter new
    (record { fits = full_fits p; earlier = omega arith; covers = omega arith }) h
