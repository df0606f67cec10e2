-- The worked figures and the worked history, by computing. Assumes nothing.
use Rattle.std.proofs.Common.{◌≡◌, cond, List, [], ◌∷◌, sym, refl, subst}
use Rattle.envelopes.specs.Figures.{Asked, Figures, WorkedHistory, handed, left_by, nothing_yet, played, the_profile_a, to_advance, to_fill, to_judge, to_read, told_of, worked_calls}
use Rattle.envelopes.specs.Histories.{Run, accepted, by_meaning, opened, seen}
use Rattle.envelopes.specs.Profiles.{Profile}
use Rattle.envelopes.specs.Promises.{Promise, Seen}

pub figures : Figures
figures =
    record {
      colours_of_profile_a = refl;
      counts_of_profile_a = refl;
      maximum_over_one_time = refl;
      maximum_over_two_times = refl;
      overflow_of_rank_1_by_cf0 = (refl, refl);
      last_moment = refl;
      meter_figure = refl;
    }

-- what the definitions tell and leave is what is promised
as_promised : (p : Profile) (s : Seen) (a : Asked) → Promise p s (told_of p s a) (left_by p s a)
as_promised p s to_fill = record { tells = refl; leaves = refl }
as_promised p s (to_judge q) = record { tells = refl; leaves = refl }
as_promised p s (to_advance moment) = record { tells = refl; leaves = refl }
as_promised p s (to_read rank) = record { tells = refl; leaves = refl }

-- each call sees what the one before left
abbrev HandedOn : Profile → Seen → List Asked → Type 0
HandedOn p s [] = Unit {0}
HandedOn p s (a ∷ as') =
    (seen by_meaning (handed s) ≡ s) ×
    (seen by_meaning (handed (left_by p s a)) ≡ left_by p s a) ×
    (cond (accepted (told_of p s a)) (seen by_meaning (handed (left_by p s a))) s ≡ left_by p s a) ×
    HandedOn p (left_by p s a) as'

played_is_a_history : (p : Profile) (s : Seen) (as' : List Asked) → HandedOn p s as' → Run by_meaning p s (played p s as')
played_is_a_history p s [] on = tt
played_is_a_history p s (a ∷ as') on =
    let left = left_by p s a in
    let upon = subst (λ (y : Seen). Promise p s (told_of p s a) y) (sym on.1) (as_promised p s a) in (
      record {
        keeps = subst (λ (x : Seen). Promise p x (told_of p s a) (seen by_meaning (handed left))) (sym on.0) upon;
        same_envelope = refl;
        same_buckets = λ _. on.0;
      },
      subst (λ (x : Seen). Run by_meaning p x (played p left as')) (sym on.2) (played_is_a_history p left as' on.3),
    )

pub worked_history : WorkedHistory
worked_history =
    record {
      run = played_is_a_history the_profile_a (opened by_meaning nothing_yet) worked_calls (refl, refl, refl, (refl, refl, refl, (refl, refl, refl, (refl, refl, refl, (refl, refl, refl, (refl, refl, refl, (refl, refl, refl, (refl, refl, refl, (refl, refl, refl, (refl, refl, refl, (refl, refl, refl, (refl, refl, refl, (refl, refl, refl, tt)))))))))))));
      given = refl;
      refused_with = refl;
    }
