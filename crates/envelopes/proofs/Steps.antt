-- A call that is accepted upon a state is a step of a story from there, and leaves the state that the story goes on
-- from. Assumes nothing.
use Rattle.std.proofs.Common.{◌≡◌, ℕ, ◌+◌, ◌-◌, Bool, true, false, cond, List, [], ◌∷◌, length, sym, refl, ap, ◌∙◌, subst, arith, length-append, length-drop, length-take, take_at, drop_at}
use lib.ListN.{length-map}
use Rattle.std.proofs.lemmas.Bool.{false≢true}
use Rattle.std.proofs.lemmas.Bool.Decides.{nat_tests}
use Rattle.std.specs.List.{AllByRecursion}
use Rattle.tokens.specs.Refusals.{Cause, answered, refused, unless_refused}
use Rattle.envelopes.specs.Growth.{Counts}
use Rattle.envelopes.specs.Histories.{accepted, accepted_fill}
use Rattle.envelopes.specs.Profiles.{Profile}
use Rattle.envelopes.specs.Promises.{Call, Keeps, Promise, Seen, advance, bucket_cause, by_rank, fill, in_a_row, judge, read, same, volumes}
use Rattle.envelopes.specs.declared.flow.Flow.{Flow}
use Rattle.envelopes.proofs.Causes.{answered_leaves}
use Rattle.envelopes.proofs.Fitting.{full_fits, growth_fits, spending_fits}
use Rattle.envelopes.proofs.Stories.{Fits, Step, at, full, just_filled, next, state}

-- What an accepted call tells and leaves.

abbrev NoneApplies : List Cause → Type 0
NoneApplies causes = AllByRecursion (λ c. c.applies ≡ false) causes

answers_where_none_applies : {A : Type 0} (causes : List Cause) (answer given : A) → answered given ≡ unless_refused causes answer → NoneApplies causes × (given ≡ answer)
answers_where_none_applies [] answer given told = (tt, cc)
answers_where_none_applies (c ∷ cs) answer given told =
    by c.applies refl told (answers_where_none_applies cs answer given)
  where
    by : (b : Bool) → c.applies ≡ b → answered given ≡ cond b (refused c.number) (unless_refused cs answer) → (answered given ≡ unless_refused cs answer → NoneApplies cs × (given ≡ answer)) → NoneApplies (c ∷ cs) × (given ≡ answer)
    by true applies told later = let z : ◌≡◌ {A = ℕ} 0 1 = cc in absurd (omega arith)
    by false applies told later = let rest = later told in ((applies, rest.0), rest.1)

record Granted {A : Type 0} (causes : List Cause) (given answer : A) (left after : Seen) : Type 0 where
  none_applies : NoneApplies causes
  gives : given ≡ answer
  makes : left ≡ after

granted : {A : Type 0} (causes : List Cause) (given answer : A) (before after left : Seen) → Keeps causes (answered given) answer before after left → Granted causes given answer left after
granted causes given answer before after left keeps =
    let known = answers_where_none_applies causes answer given keeps.tells in
    record {
      none_applies = known.0;
      gives = known.1;
      makes = keeps.leaves ∙ answered_leaves answer given before after causes (sym keeps.tells);
    }

pub accepted_fill_is : (c : Call) → accepted_fill c ≡ true → c ≡ fill (answered tt)
accepted_fill_is (fill (answered done)) filled = refl
accepted_fill_is (fill (refused number)) filled = cc
accepted_fill_is (judge q told) filled = cc
accepted_fill_is (advance moment told) filled = cc
accepted_fill_is (read rank told) filled = cc

-- What the buckets hold, by rank.

same_lists_are_equal : (ms ns : List ℕ) → same ms ns ≡ true → ms ≡ ns
same_lists_are_equal [] [] h = refl
same_lists_are_equal [] (n ∷ ns) h = cc
same_lists_are_equal (m ∷ ms) [] h = cc
same_lists_are_equal (m ∷ ms) (n ∷ ns) h =
    let first : m ≡ n = grind (arith, nat_tests) in
    let rest : same ms ns ≡ true = grind (arith, nat_tests) in
    let later = same_lists_are_equal ms ns rest in cc

length_of_volumes : (flows : List Flow) → length (volumes flows) ≡ length flows + length flows
length_of_volumes flows = simp (length-append, length-map)

pub by_rank_fits : (p : Profile) (s : Seen) → s.volumes ≡ volumes p.flows → length s.counts ≡ length s.volumes → Fits p (by_rank p s)
by_rank_fits p s vols long =
    let double = ap length vols ∙ length_of_volumes p.flows in
    record {
      greens = length-take (length p.flows) s.counts ∙ (omega arith);
      yellows = length-drop (length p.flows) s.counts ∙ (omega arith);
    }

-- counts in a row are by rank what they were
state_of_a_row : (p : Profile) (latest : ℕ) (k : Counts) → Fits p k → state p (record { latest = latest; volumes = volumes p.flows; counts = in_a_row k }) ≡ record { latest = latest; counts = k }
state_of_a_row p latest k fits =
    let front = take_at k.greens k.yellows (length p.flows) fits.greens in
    let back = drop_at k.greens k.yellows (length p.flows) fits.greens in
    λ i. record { latest = latest; counts = record { greens = front i; yellows = back i } }

-- What an accepted call makes of a state.

module _ (p : Profile) (s : Seen) where
  buckets_are_the_flows : (bucket_cause p s).applies ≡ false → s.volumes ≡ volumes p.flows
  buckets_are_the_flows fits =
      let alike : same (volumes p.flows) s.volumes ≡ true = grind (arith, nat_tests) in
      sym (same_lists_are_equal (volumes p.flows) s.volumes alike)

  leaves_the_volumes : {A : Type 0} (causes : List Cause) (given answer : A) (after left : Seen) → Keeps (bucket_cause p s ∷ causes) (answered given) answer s after left → after.volumes ≡ s.volumes → left.volumes ≡ volumes p.flows
  leaves_the_volumes causes given answer after left keeps kept =
      let g = granted _ given answer s after left keeps in
      ap (λ x. x.volumes) g.makes ∙ kept ∙ buckets_are_the_flows g.none_applies.0

  pub accepted_leaves_the_volumes : (c : Call) (left : Seen) → Promise p s c left → accepted c ≡ true → left.volumes ≡ volumes p.flows
  accepted_leaves_the_volumes (fill (answered done)) left keeps ok = ap (λ x. x.volumes) (granted _ _ _ _ _ _ keeps).makes
  accepted_leaves_the_volumes (judge q (answered given)) left keeps ok = leaves_the_volumes _ _ _ _ _ keeps refl
  accepted_leaves_the_volumes (advance moment (answered done)) left keeps ok = leaves_the_volumes _ _ _ _ _ keeps refl
  accepted_leaves_the_volumes (read rank (answered counts)) left keeps ok = leaves_the_volumes _ _ _ _ _ keeps refl
  accepted_leaves_the_volumes (fill (refused number)) left keeps ok = cc
  accepted_leaves_the_volumes (judge q (refused number)) left keeps ok = cc
  accepted_leaves_the_volumes (advance moment (refused number)) left keeps ok = cc
  accepted_leaves_the_volumes (read rank (refused number)) left keeps ok = cc

  pub filled_is_full : (c : Call) (left : Seen) → Promise p s c left → accepted_fill c ≡ true → state p left ≡ just_filled p s.latest
  filled_is_full c left keeps filled =
      let makes = (granted _ _ _ _ _ _ (subst (λ d. Promise p s d left) (accepted_fill_is c filled) keeps)).makes in
      ap (state p) makes ∙ state_of_a_row p _ (full p) (full_fits p)

  -- what an accepted call that is no fill makes of the state
  module _ (fits : Fits p (by_rank p s)) where
    fits_at : (moment : ℕ) → Fits p (at p (state p s) moment)
    fits_at moment = growth_fits p (by_rank p s) fits (moment - s.latest)

    pub call_is_a_step : (c : Call) (left : Seen) → (accepted c ≡ true → Promise p s c left) → accepted_fill c ≡ false → Step p (state p s) c × (state p (cond (accepted c) left s) ≡ next p (state p s) c)
    call_is_a_step (fill (answered done)) left keeps other = absurd (false≢true (sym other))
    call_is_a_step (fill (refused number)) left keeps other = (tt, refl)
    call_is_a_step (judge q (answered given)) left keeps other =
        let g = granted _ _ _ _ _ _ (keeps refl) in
        let rank_ok = g.none_applies.1.1.0 in
        let moment_ok = g.none_applies.1.1.1.0 in (
          record {
            later = grind (arith, nat_tests);
            some_rank = grind (arith, nat_tests);
            rank_bound = grind (arith, nat_tests);
            coloured = g.gives;
          },
          ap (state p) g.makes ∙ state_of_a_row p _ _ (spending_fits p _ (fits_at q.moment) q _) ∙
              ap (λ c. next p (state p s) (judge q (answered c))) (sym g.gives),
        )
    call_is_a_step (judge q (refused number)) left keeps other = (tt, refl)
    call_is_a_step (advance moment (answered done)) left keeps other =
        let g = granted _ _ _ _ _ _ (keeps refl) in
        let moment_ok = g.none_applies.1.0 in (
          grind (arith, nat_tests),
          ap (state p) g.makes ∙ state_of_a_row p _ _ (fits_at moment),
        )
    call_is_a_step (advance moment (refused number)) left keeps other = (tt, refl)
    call_is_a_step (read rank (answered counts)) left keeps other =
        let g = granted _ _ _ _ _ _ (keeps refl) in (tt, ap (state p) g.makes)
    call_is_a_step (read rank (refused number)) left keeps other = (tt, refl)
