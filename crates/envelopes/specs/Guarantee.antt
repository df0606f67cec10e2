-- The share guarantee: what holds of every history upon an envelope just opened, whatever the kind of its buckets.
-- Assumes nothing.
use Rattle.std.specs.Prelude.{◌≡◌, ℕ, suc, ◌+◌, ◌-◌, ◌*◌, ◌<◌, ◌≤◌, Bool, true, false, ◌&&◌, ◌||◌, List, [], ◌∷◌, ◌++◌, map, length, drop, None, ◌==◌, nat_le, slice_index}
use Rattle.std.specs.List.{AllByRecursion}
use Rattle.tokens.specs.Histories.{History, Event as MeterEvent}
use Rattle.tokens.specs.Meters.{Metered, fresh}
use Rattle.tokens.specs.Refusals.{answered}
use Rattle.tokens.specs.Units.{grains}
use Rattle.tokens.specs.declared.calls.Answer.TheVariants.{Yes}
use Rattle.tokens.specs.declared.calls.Call.TheVariants.{Charge}
use Rattle.envelopes.specs.Colouring.{is_green, is_yellow}
use Rattle.envelopes.specs.Histories.{Event, Kind, Run, Verdict, accepted, accepted_fill, among, calls, moments, none, opened, seen, those, tokens, verdicts}
use Rattle.envelopes.specs.Profiles.{Profile, all_rates, at_most, green_rates, total}
use Rattle.envelopes.specs.declared.colour.Colour.TheVariants.{Green}
use Rattle.envelopes.specs.declared.colour.Request.{Request}
use Rattle.envelopes.specs.declared.flow.Flow.{Flow}

-- Bounds: what is declared between two calls.

-- part of a history: an accepted call, further calls of which no fill is accepted, and an accepted call; the first
-- and the last may be fills
pub record Between {B : Type 0} (kind : Kind B) (p : Profile) (first : Event B) (later : List (Event B)) (last : Event B) : Type 0 where
  pub buckets : List B
  pub earlier : List (Event B)
  pub rest : List (Event B)
  pub run : Run kind p (opened kind buckets) (earlier ++ (first ∷ (later ++ (last ∷ rest))))
  pub first_accepted : accepted first.call ≡ true
  pub last_accepted : accepted last.call ≡ true
  pub no_fill_between : none accepted_fill (calls later) ≡ true

-- what was declared after the first of two calls, up to and including the second
abbrev pub declared_between : {B : Type 0} → List (Event B) → Event B → List Verdict
declared_between later last = verdicts (calls (later ++ (last ∷ [])))

abbrev pub time_between : {B : Type 0} → Event B → Event B → ℕ
time_between first last = last.after.latest - first.after.latest

-- the smaller of a flow's green maximum, if it has one, and the sum of green rates from its rank up; the flow is the
-- first of these
abbrev pub green_limit : List Flow → ℕ
green_limit [] = 0
green_limit (f ∷ fs) = at_most f.green.maximum (green_rates (f ∷ fs))

-- the flow of rank i + 1 is declared no more Green tokens, in grains, than its green count after the first call and
-- what its limit brings in the time between
abbrev pub GreenTokensStayWithinCountAndRate : {B : Type 0} → Kind B → Profile → Type 0
GreenTokensStayWithinCountAndRate {B} kind p =
    (first : Event B) (later : List (Event B)) (last : Event B) → Between kind p first later last →
    (i : ℕ) → i < length p.flows →
    grains (tokens (λ v. (v.request.rank == suc i) && is_green v.given) (declared_between later last)) ≤
    slice_index (seen kind first.after).counts i + time_between first last * green_limit (drop i p.flows)

-- and all flows together no more Green and Yellow tokens than all counts and what all rates bring
abbrev pub AllTokensStayWithinAllCountsAndRates : {B : Type 0} → Kind B → Profile → Type 0
AllTokensStayWithinAllCountsAndRates {B} kind p =
    (first : Event B) (later : List (Event B)) (last : Event B) → Between kind p first later last →
    grains (tokens (λ v. is_green v.given || is_yellow v.given) (declared_between later last)) ≤
    total (seen kind first.after).counts + time_between first last * all_rates p.flows

-- The lone meter.

-- part of a history: an accepted fill, and further calls of which no fill is accepted
pub record SinceFill {B : Type 0} (kind : Kind B) (p : Profile) (later : List (Event B)) : Type 0 where
  pub buckets : List B
  pub earlier : List (Event B)
  pub first : Event B
  pub rest : List (Event B)
  pub run : Run kind p (opened kind buckets) (earlier ++ (first ∷ (later ++ rest)))
  pub filled : accepted_fill first.call ≡ true
  pub no_further_fill : none accepted_fill (calls later) ≡ true

-- the accepted requests of rank i + 1 that ask Green
abbrev pub asking_green : {B : Type 0} → ℕ → List (Event B) → List Verdict
asking_green i es = those (λ v. (v.request.rank == suc i) && is_green v.request.asked) (verdicts (calls es))

-- a meter is charged for a request and passes it
abbrev pub passed_charge : Verdict → MeterEvent
passed_charge v = record { call = Charge v.request.tokens v.request.moment; told = answered Yes }

-- where a meter of any form, new at the green rate and volume of the flow of rank i + 1, is charged for the flow's
-- requests that ask Green, in order, and passes them all, the envelope declares them all Green
abbrev pub WhatALoneMeterPassesIsGreen : {B M : Type 0} → Kind B → (M → Metered) → Profile → Type 0
WhatALoneMeterPassesIsGreen {B} {M} kind meaning p =
    (later : List (Event B)) → SinceFill kind p later →
    (i : ℕ) (flow : Flow) (above : List Flow) → drop i p.flows ≡ flow ∷ above →
    (meter last : M) → meaning meter ≡ fresh flow.green.rate flow.green.volume →
    History meaning meter (map passed_charge (asking_green i later)) last →
    AllByRecursion (λ v. v.given ≡ Green) (asking_green i later)

-- Independence of the flows below.

-- a history whose first accepted call is a fill, and its only one
pub record FilledOnce {B : Type 0} (kind : Kind B) (p : Profile) (later : List (Event B)) : Type 0 where
  pub buckets : List B
  pub earlier : List (Event B)
  pub first : Event B
  pub run : Run kind p (opened kind buckets) (earlier ++ (first ∷ later))
  pub none_before : none accepted (calls earlier) ≡ true
  pub filled : accepted_fill first.call ≡ true
  pub no_further_fill : none accepted_fill (calls later) ≡ true

-- the accepted requests from rank i + 1 up, in order
abbrev pub shared : {B : Type 0} → ℕ → List (Event B) → List Verdict
shared i es = those (λ v. nat_le (suc i) v.request.rank) (verdicts (calls es))

abbrev pub requests : List Verdict → List Request
requests vs = map (λ v. v.request) vs

-- each is Green in both or in neither, and of the same colour in both where CF0 is 0
pub record ColouredAlike (cf0 : Bool) (vs ws : List Verdict) : Type 0 where
  pub green_alike : map (λ v. is_green v.given) vs ≡ map (λ w. is_green w.given) ws
  pub colour_alike : cf0 ≡ false → map (λ v. v.given) vs ≡ map (λ w. w.given) ws

-- the same set of accepted moments
abbrev pub SameMoments : {B C : Type 0} → List (Event B) → List (Event C) → Type 0
SameMoments es fs = (t : ℕ) → among t (moments (calls es)) ≡ among t (moments (calls fs))

-- two histories of one profile, each upon buckets of its own kind, with the same requests from rank i + 1 up and the
-- same accepted moments, colour those requests alike, whatever the flows below do
abbrev pub LowerFlowsDoNotChangeColoursAbove : {B C : Type 0} → Kind B → Kind C → Profile → Type 0
LowerFlowsDoNotChangeColoursAbove {B} {C} b_kind c_kind p =
    (es : List (Event B)) (fs : List (Event C)) → FilledOnce b_kind p es → FilledOnce c_kind p fs →
    (i : ℕ) → requests (shared i es) ≡ requests (shared i fs) → SameMoments es fs →
    ColouredAlike p.cf0 (shared i es) (shared i fs)

abbrev pub NoMaximum : Flow → Type 0
NoMaximum f = (f.green.maximum ≡ None) × (f.yellow.maximum ≡ None)

-- where no flow from rank i + 1 up has a maximum, the other accepted moments do not matter either
abbrev pub WithoutMaximaOtherMomentsDoNotMatter : {B C : Type 0} → Kind B → Kind C → Profile → Type 0
WithoutMaximaOtherMomentsDoNotMatter {B} {C} b_kind c_kind p =
    (es : List (Event B)) (fs : List (Event C)) → FilledOnce b_kind p es → FilledOnce c_kind p fs →
    (i : ℕ) → AllByRecursion NoMaximum (drop i p.flows) → requests (shared i es) ≡ requests (shared i fs) →
    ColouredAlike p.cf0 (shared i es) (shared i fs)

-- The whole, for buckets of two kinds and a form of meter.
pub record ShareGuarantee {B C M : Type 0} (b_kind : Kind B) (c_kind : Kind C) (meaning : M → Metered) (p : Profile) : Type 0 where
  pub green_tokens_stay_within_count_and_rate : GreenTokensStayWithinCountAndRate b_kind p
  pub all_tokens_stay_within_all_counts_and_rates : AllTokensStayWithinAllCountsAndRates b_kind p
  pub what_a_lone_meter_passes_is_green : WhatALoneMeterPassesIsGreen b_kind meaning p
  pub lower_flows_do_not_change_colours_above : LowerFlowsDoNotChangeColoursAbove b_kind c_kind p
  pub without_maxima_other_moments_do_not_matter : WithoutMaximaOtherMomentsDoNotMatter b_kind c_kind p
