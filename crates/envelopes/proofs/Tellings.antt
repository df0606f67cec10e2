-- A run becomes a story: what its calls tell and leave is what the story says. Assumes nothing.
use Rattle.std.proofs.Common.{◌≡◌, ℕ, Bool, true, false, cond, List, [], ◌∷◌, ◌++◌, sym, refl, ap, ◌∙◌, subst, append_assoc, append-nil, arith}
use lib.ListN.{length-map}
use Rattle.std.proofs.lemmas.Bool.Decides.{nat_tests}
use Rattle.envelopes.specs.Guarantee.{Between, FilledOnce, SinceFill, declared_between}
use Rattle.envelopes.specs.Histories.{Event, Follows, Kind, Run, accepted, accepted_fill, calls, none, opened, seen, verdict, verdicts}
use Rattle.envelopes.specs.Profiles.{Profile}
use Rattle.envelopes.specs.Promises.{Call, Promise, Seen, by_rank}
use Rattle.envelopes.proofs.Steps.{accepted_fill_is, accepted_leaves_the_volumes, by_rank_fits, call_is_a_step, filled_is_full}
use Rattle.envelopes.proofs.Stories.{Fits, Story, end, just_filled, state}

module _ {B : Type 0} (kind : Kind B) (p : Profile) where
  -- what an event leaves for the next, and what some events leave
  abbrev onward : Seen → Event B → Seen
  onward now e = cond (accepted e.call) (seen kind e.after) now

  abbrev left_by : Seen → List (Event B) → Seen
  left_by now [] = now
  left_by now (e ∷ es) = left_by (onward now e) es

  promise_upon : (now : Seen) (e : Event B) → Follows kind p now e → accepted e.call ≡ true → Promise p now e.call (seen kind e.after)
  promise_upon now e follows ok =
      subst (λ s. Promise p s e.call (seen kind e.after)) (follows.same_buckets ok) follows.keeps

  -- there is a count for each flow after an accepted call, and then after every call
  accepted_fits : (now : Seen) (e : Event B) → Follows kind p now e → accepted e.call ≡ true → Fits p (by_rank p (seen kind e.after))
  accepted_fits now e follows ok =
      by_rank_fits p (seen kind e.after)
      (accepted_leaves_the_volumes p now e.call (seen kind e.after) (promise_upon now e follows ok) ok)
      (length-map e.after.buckets _ ∙ sym (length-map e.after.buckets _))

  stays_fitting : (now : Seen) (e : Event B) → Follows kind p now e → Fits p (by_rank p now) → Fits p (by_rank p (onward now e))
  stays_fitting now e follows fits = by (accepted e.call) refl
    where
      by : (b : Bool) → accepted e.call ≡ b → Fits p (by_rank p (cond b (seen kind e.after) now))
      by true ok = accepted_fits now e follows ok
      by false ok = fits

  -- a run without accepted fills, as a story
  record Telling (now : Seen) (es : List (Event B)) : Type 0 where
    story : Story p (state p now) (calls es)
    ends : end p (state p now) (calls es) ≡ state p (left_by now es)

  telling : (now : Seen) (es : List (Event B)) → Fits p (by_rank p now) → Run kind p now es → none accepted_fill (calls es) ≡ true → Telling now es
  telling now [] fits run unfilled = record { story = tt; ends = refl }
  telling now (e ∷ es) fits run unfilled =
      let other : accepted_fill e.call ≡ false = grind (arith, nat_tests) in
      let later : none accepted_fill (calls es) ≡ true = grind (arith, nat_tests) in
      let step = call_is_a_step p now fits e.call (seen kind e.after) (promise_upon now e run.0) other in
      let rest = telling (onward now e) es (stays_fitting now e run.0 fits) run.1 later in
      record {
        story = (step.0, subst (λ s. Story p s (calls es)) step.1 rest.story);
        ends = subst (λ s. end p s (calls es) ≡ state p (left_by now (e ∷ es))) step.1 rest.ends;
      }

  -- a run in two parts
  first_part : (now : Seen) (es fs : List (Event B)) → Run kind p now (es ++ fs) → Run kind p now es
  first_part now [] fs run = tt
  first_part now (e ∷ es) fs run = (run.0, first_part (onward now e) es fs run.1)

  second_part : (now : Seen) (es fs : List (Event B)) → Run kind p now (es ++ fs) → Run kind p (left_by now es) fs
  second_part now [] fs run = run
  second_part now (e ∷ es) fs run = second_part (onward now e) es fs run.1

  none_accepted_leaves_all : (now : Seen) (es : List (Event B)) → none accepted (calls es) ≡ true → left_by now es ≡ now
  none_accepted_leaves_all now [] refusals = refl
  none_accepted_leaves_all now (e ∷ es) refusals =
      let here : accepted e.call ≡ false = grind (arith, nat_tests) in
      let later : none accepted (calls es) ≡ true = grind (arith, nat_tests) in
      rw here (none_accepted_leaves_all now es later)

  last_of_a_run : (now : Seen) (es : List (Event B)) (e : Event B) → left_by now (es ++ (e ∷ [])) ≡ onward (left_by now es) e
  last_of_a_run now [] e = refl
  last_of_a_run now (d ∷ es) e = last_of_a_run (onward now d) es e

  -- one event more, which is a fill or none
  a_fill_declares_nothing : (es : List (Event B)) (e : Event B) → accepted_fill e.call ≡ true → verdicts (calls es) ≡ declared_between es e
  a_fill_declares_nothing [] e filled = sym (ap (λ c. verdict c ++ []) (accepted_fill_is e.call filled))
  a_fill_declares_nothing (d ∷ es) e filled = ap (λ vs. verdict d.call ++ vs) (a_fill_declares_nothing es e filled)

  still_no_fill : (es : List (Event B)) (e : Event B) → none accepted_fill (calls es) ≡ true → accepted_fill e.call ≡ false → none accepted_fill (calls (es ++ (e ∷ []))) ≡ true
  still_no_fill [] e unfilled other = grind (arith, nat_tests)
  still_no_fill (d ∷ es) e unfilled other = let rest = still_no_fill es e in grind (arith, nat_tests)

  -- the run after an accepted event
  module _ (start : Seen) (earlier : List (Event B)) (first : Event B) (tail : List (Event B)) (run : Run kind p start (earlier ++ (first ∷ tail))) where
    abbrev before_first : Seen
    before_first = left_by start earlier

    first_follows : Follows kind p before_first first
    first_follows = (second_part start earlier (first ∷ tail) run).0

    module _ (ok : accepted first.call ≡ true) where
      run_after : Run kind p (seen kind first.after) tail
      run_after = rw ok at (second_part start earlier (first ∷ tail) run).1

      fits_since : Fits p (by_rank p (seen kind first.after))
      fits_since = accepted_fits before_first first first_follows ok

    story_since_fill : accepted_fill first.call ≡ true → (later rest : List (Event B)) → tail ≡ later ++ rest → none accepted_fill (calls later) ≡ true → Story p (just_filled p before_first.latest) (calls later)
    story_since_fill filled later rest parts unfilled =
        let ok = ap accepted (accepted_fill_is first.call filled) in
        let full_then = filled_is_full p before_first first.call (seen kind first.after) (promise_upon before_first first first_follows ok) filled in
        let run_later = first_part (seen kind first.after) later rest (subst (λ es. Run kind p (seen kind first.after) es) parts (run_after ok)) in
        subst (λ s. Story p s (calls later)) full_then (telling (seen kind first.after) later (fits_since ok) run_later unfilled).story

-- The three parts of a history that the guarantee speaks of.

-- what the bounds know of a history between two calls
pub record BetweenStory {B : Type 0} (kind : Kind B) (p : Profile) (first : Event B) (later : List (Event B)) (last : Event B) : Type 0 where
  pub cs : List Call
  pub fits : Fits p (state p (seen kind first.after)).counts
  pub story : Story p (state p (seen kind first.after)) cs
  pub same_verdicts : verdicts cs ≡ declared_between later last
  pub same_latest : (end p (state p (seen kind first.after)) cs).latest ≡ last.after.latest

module _ {B : Type 0} (kind : Kind B) (p : Profile) where
  pub since_fill_tells_story : (later : List (Event B)) → SinceFill kind p later → (latest : ℕ) × Story p (just_filled p latest) (calls later)
  since_fill_tells_story later s =
      (_, story_since_fill kind p (opened kind s.buckets) s.earlier s.first _ s.run s.filled later s.rest refl s.no_further_fill)

  pub filled_once_tells_story : (es : List (Event B)) → FilledOnce kind p es → Story p (just_filled p 0) (calls es)
  filled_once_tells_story es s =
      let start = opened kind s.buckets in
      let untouched = ap (λ x. x.latest) (none_accepted_leaves_all kind p start s.earlier s.none_before) in
      subst (λ latest. Story p (just_filled p latest) (calls es)) untouched
      (story_since_fill kind p start s.earlier s.first es s.run s.filled es [] (sym (append-nil es)) s.no_further_fill)

  module _ (first : Event B) (later : List (Event B)) (last : Event B) (b : Between kind p first later last) where
    abbrev now : Seen
    now = seen kind first.after

    abbrev until_last : List (Event B)
    until_last = later ++ (last ∷ [])

    run_since_first : Run kind p now (later ++ (last ∷ b.rest))
    run_since_first = run_after kind p (opened kind b.buckets) b.earlier first _ b.run b.first_accepted

    fits_first : Fits p (by_rank p now)
    fits_first = fits_since kind p (opened kind b.buckets) b.earlier first _ b.run b.first_accepted

    by_last : (filled : Bool) → accepted_fill last.call ≡ filled → BetweenStory kind p first later last
    by_last true filled =
        let tell = telling kind p now later fits_first (first_part kind p now later _ run_since_first) b.no_fill_between in
        let follows = (second_part kind p now later _ run_since_first).0 in
        let before_last = left_by kind p now later in
        let full_then = filled_is_full p before_last last.call (seen kind last.after) (promise_upon kind p before_last last follows b.last_accepted) filled in
        record {
          cs = calls later;
          fits = fits_first;
          story = tell.story;
          same_verdicts = a_fill_declares_nothing kind p later last filled;
          same_latest = ap (λ s. s.latest) tell.ends ∙ sym (ap (λ s. s.latest) full_then);
        }
    by_last false other =
        let unfilled = still_no_fill kind p later last b.no_fill_between other in
        let run = first_part kind p now until_last b.rest (rw append_assoc run_since_first) in
        let tell = telling kind p now until_last fits_first run unfilled in
        record {
          cs = calls until_last;
          fits = fits_first;
          story = tell.story;
          same_verdicts = refl;
          same_latest = ap (λ s. s.latest) tell.ends ∙ ap (λ s. s.latest) (last_of_a_run kind p now later last) ∙ rw b.last_accepted;
        }

    pub between_tells_story : BetweenStory kind p first later last
    between_tells_story = by_last (accepted_fill last.call) refl
