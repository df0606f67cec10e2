-- Stories with the same requests from a rank up colour those alike where they have the same moments, and where no flow
-- from that rank up has a maximum. Assumes nothing.
use Rattle.std.proofs.Common.{◌≡◌, ℕ, ◌+◌, ◌-◌, ◌<◌, ◌≤◌, Bool, List, [], ◌∷◌, drop, sym, refl, ap, ◌∙◌, arith}
use Rattle.std.specs.List.{AllByRecursion}
use Rattle.envelopes.specs.Colouring.{colour, spent}
use Rattle.envelopes.specs.Growth.{Counts, grown}
use Rattle.envelopes.specs.Guarantee.{ColouredAlike, FilledOnce, LowerFlowsDoNotChangeColoursAbove, NoMaximum, WithoutMaximaOtherMomentsDoNotMatter, shared}
use Rattle.envelopes.specs.Histories.{Event, Kind, Verdict, calls, moments}
use Rattle.envelopes.specs.Profiles.{Profile}
use Rattle.envelopes.specs.declared.colour.Request.{Request}
use Rattle.envelopes.proofs.Above.{above, full_agrees, raised}
use Rattle.envelopes.proofs.Fitting.{full_fits, growth_by_no_time_changes_nothing, growth_fits, spending_fits}
use Rattle.envelopes.proofs.Moves.{Move, Rising, ask, asks, same_requests_and_times_same_moves, to}
use Rattle.envelopes.proofs.Retelling.{Retold, played, retold}
use Rattle.envelopes.proofs.Stories.{Fits, full, just_filled}
use Rattle.envelopes.proofs.Tellings.{filled_once_tells_story}
use Rattle.envelopes.proofs.TwoTimes.{growth_in_two_times_adds_up}

-- a history after its only fill, as moves of the ranks above i from full buckets
retold_from_start : {B : Type 0} (kind : Kind B) (p : Profile) (i : ℕ) (es : List (Event B)) → FilledOnce kind p es → Retold p i 0 (full (above i p)) (shared i es) (moments (calls es))
retold_from_start kind p i es once =
    retold p i (calls es) (just_filled p 0) (full (above i p)) (filled_once_tells_story kind p es once) (full_agrees p i) (full_fits (above i p))

-- what is coloured like the same is coloured alike
alike_as_a_third : (cf0 : Bool) (us vs ws xs : List Verdict) → us ≡ xs → ColouredAlike cf0 vs us → ColouredAlike cf0 ws xs → ColouredAlike cf0 vs ws
alike_as_a_third cf0 us vs ws xs same first second =
    record {
      green_alike = cc (first.green_alike, second.green_alike);
      colour_alike = λ uncoupled. cc (first.colour_alike uncoupled, second.colour_alike uncoupled);
    }

pub same_moments_colour_alike : {B C : Type 0} (b_kind : Kind B) (c_kind : Kind C) (p : Profile) → LowerFlowsDoNotChangeColoursAbove b_kind c_kind p
same_moments_colour_alike b_kind c_kind p es fs e_once f_once i same_requests same_moments =
    let c = retold_from_start b_kind p i es e_once in
    let d = retold_from_start c_kind p i fs f_once in
    let requests = c.same_requests ∙ same_requests ∙ sym d.same_requests in
    let c_times = λ (t : ℕ) (later : 0 < t). c.same_times t (λ e. omega arith) in
    let d_times = λ (t : ℕ) (later : 0 < t). d.same_times t (λ e. omega arith) in
    let times = λ (t : ℕ) (later : 0 < t). c_times t later ∙ same_moments t ∙ sym (d_times t later) in
    let same_moves = same_requests_and_times_same_moves 0 c.moves d.moves c.rising d.rising requests times in
    alike_as_a_third p.cf0 _ _ _ _ (ap (played (above i p) i 0 (full (above i p))) same_moves) c.coloured d.coloured

-- what the envelope of the ranks above i makes of requests alone: it grows only where it is asked
abbrev asked_only : Profile → ℕ → ℕ → Counts → List Request → List Verdict
asked_only u i latest x [] = []
asked_only u i latest x (q ∷ qs) =
    let y = grown u (q.moment - latest) x in
    record { request = q; given = colour (raised i q) y } ∷
    asked_only u i q.moment (spent (raised i q) (colour (raised i q) y) y) qs

module _ (p : Profile) (i : ℕ) (unlimited : AllByRecursion NoMaximum (drop i p.flows)) where
  abbrev u : Profile
  u = above i p

  -- x is what was left at `last` by the last request
  only_requests_matter : (ms : List Move) (last latest : ℕ) (x : Counts) → last ≤ latest → Rising latest ms → Fits u x → played u i latest (grown u (latest - last) x) ms ≡ asked_only u i last x (asks ms)
  only_requests_matter [] last latest x passed rising fit = refl
  only_requests_matter (to t ∷ ms) last latest x passed rising fit =
      let later = rising.0 in
      let rest = only_requests_matter ms last t x (omega arith) rising.1 fit in
      let whole : (latest - last) + (t - latest) ≡ t - last = omega arith in
      let joined = growth_in_two_times_adds_up (latest - last) (t - latest) (drop i p.flows) x unlimited in
      cc
  only_requests_matter (ask q ∷ ms) last latest x passed rising fit =
      let y = grown u (latest - last) x in
      let z = spent (raised i q) (colour (raised i q) y) y in
      let fits = spending_fits u y (growth_fits u x fit (latest - last)) (raised i q) (colour (raised i q) y) in
      let none : latest - latest ≡ 0 = omega arith in
      let still = ap (λ time. grown u time z) none ∙ growth_by_no_time_changes_nothing u z fits in
      let rest = only_requests_matter ms latest latest z (omega arith) rising.1 fits in
      cc rising.0

pub without_maxima_colour_alike : {B C : Type 0} (b_kind : Kind B) (c_kind : Kind C) (p : Profile) → WithoutMaximaOtherMomentsDoNotMatter b_kind c_kind p
without_maxima_colour_alike b_kind c_kind p es fs e_once f_once i unlimited same_requests =
    let c = retold_from_start b_kind p i es e_once in
    let d = retold_from_start c_kind p i fs f_once in
    let x = full (above i p) in
    let fits = full_fits (above i p) in
    let still = growth_by_no_time_changes_nothing (above i p) x fits in
    let c_requests = only_requests_matter p i unlimited c.moves 0 0 x (omega arith) c.rising fits in
    let d_requests = only_requests_matter p i unlimited d.moves 0 0 x (omega arith) d.rising fits in
    let same : played (above i p) i 0 x c.moves ≡ played (above i p) i 0 x d.moves = cc (c.same_requests, d.same_requests) in
    alike_as_a_third p.cf0 _ _ _ _ same c.coloured d.coloured
