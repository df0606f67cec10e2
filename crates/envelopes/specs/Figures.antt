-- The worked figures, of the definitions, and one history that shows what a history is. Assumes nothing.
use Rattle.std.specs.Prelude.{◌≡◌, ℕ, true, false, List, [], ◌∷◌, map, Some, None}
use Rattle.tokens.specs.Histories.{MeterFigure}
use Rattle.tokens.specs.Refusals.{Told, answered, kept_if_refused, refused, unless_refused}
use Rattle.tokens.specs.Units.{grains}
use Rattle.envelopes.specs.Histories.{Event, Handed, Meant, Run, by_meaning, calls, opened, verdicts}
use Rattle.envelopes.specs.Profiles.{Profile}
use Rattle.envelopes.specs.Promises.{Call, Seen, advance, advance_causes, advanced, colour_at, counts_of, fill, fill_causes, filled, judge, judge_causes, judged, read, read_causes, volumes}
use Rattle.envelopes.specs.declared.colour.Colour.{Colour}
use Rattle.envelopes.specs.declared.colour.Colour.TheVariants.{Green, Yellow, Red}
use Rattle.envelopes.specs.declared.colour.Request.{Request}
use Rattle.envelopes.specs.declared.flow.Flow.{Flow}
use Rattle.envelopes.specs.declared.flow.Supply.{Supply}

-- What is asked of an envelope, what the definitions make it tell, and what they make it leave.

pub data Asked : Type 0 where
  to_fill : Asked
  to_judge : Request → Asked
  to_advance : ℕ → Asked
  to_read : ℕ → Asked

abbrev pub told_of : Profile → Seen → Asked → Call
told_of p s to_fill = fill (unless_refused (fill_causes p s) tt)
told_of p s (to_judge q) = judge q (unless_refused (judge_causes p s q) (colour_at p s q))
told_of p s (to_advance moment) = advance moment (unless_refused (advance_causes p s moment) tt)
told_of p s (to_read rank) = read rank (unless_refused (read_causes p s rank) (counts_of p s rank))

abbrev pub left_by : Profile → Seen → Asked → Seen
left_by p s to_fill = kept_if_refused (fill_causes p s) s (filled p s)
left_by p s (to_judge q) = kept_if_refused (judge_causes p s q) s (judged p s q)
left_by p s (to_advance moment) = kept_if_refused (advance_causes p s moment) s (advanced p s moment)
left_by p s (to_read rank) = kept_if_refused (read_causes p s rank) s s

abbrev pub told_in_turn : Profile → Seen → List Asked → List Call
told_in_turn p s [] = []
told_in_turn p s (a ∷ as') = told_of p s a ∷ told_in_turn p (left_by p s a) as'

-- an envelope just opened, upon full buckets
abbrev pub full_at_0 : Profile → Seen
full_at_0 p = record { latest = 0; volumes = volumes p.flows; counts = volumes p.flows }

abbrev pub left_in_turn : Profile → Seen → List Asked → Seen
left_in_turn p s [] = s
left_in_turn p s (a ∷ as') = left_in_turn p (left_by p s a) as'

-- what the requests among calls were told
abbrev pub told_requests : List Call → List (Told Colour)
told_requests [] = []
told_requests (fill told ∷ cs) = told_requests cs
told_requests (judge q told ∷ cs) = told ∷ told_requests cs
told_requests (advance moment told ∷ cs) = told_requests cs
told_requests (read rank told ∷ cs) = told_requests cs

-- upon full buckets at moment 0
abbrev pub colours : Profile → List Asked → List (Told Colour)
colours p as' = told_requests (told_in_turn p (full_at_0 p) as')

-- What is not named in a profile is 0 or absent.

abbrev pub supply : ℕ → ℕ → Supply
supply rate volume = record { rate = rate; maximum = None; volume = volume }

abbrev pub flow : Supply → Supply → Flow
flow green yellow = record { green = green; yellow = yellow; cf = false }

abbrev pub ask : Colour → ℕ → ℕ → ℕ → Asked
ask asked moment rank tokens =
    to_judge (record { tokens = tokens; moment = moment; asked = asked; rank = rank })

-- Profile A.

abbrev pub the_profile_a : Profile
the_profile_a =
    record {
      flows = flow (supply 0 1000) (supply 500 2000) ∷ flow (supply 1000 1500) (supply 0 0) ∷ [];
      cf0 = false;
    }

abbrev pub six_requests : List Asked
six_requests =
    ask Green 0 2 1500 ∷ ask Green 999 2 1 ∷ ask Green 1000 2 1 ∷ ask Green 1000 1 1001 ∷ ask Green 1000 1 1000 ∷
    ask Green 2001000 1 501 ∷ []

abbrev pub ColoursOfProfileA : Type 0
ColoursOfProfileA =
    colours the_profile_a six_requests ≡
    answered Green ∷ answered Red ∷ answered Green ∷ answered Yellow ∷ answered Green ∷ answered Yellow ∷ []

-- rank 1 then holds 500 green tokens, all shared from rank 2, and 1,498 yellow ones
abbrev pub CountsOfProfileA : Type 0
CountsOfProfileA =
    counts_of the_profile_a (left_in_turn the_profile_a (full_at_0 the_profile_a) six_requests) 1 ≡ (grains 500, grains 1498)

-- A maximum lets through what it brings in one time, not what was held back in an earlier one: both ranks spend all at
-- 0, rank 1 has a maximum of 500.
abbrev pub with_maximum : Profile
with_maximum =
    record {
      flows =
          flow (record { rate = 0; maximum = Some 500; volume = 1000 }) (supply 0 0) ∷
          flow (supply 1000 1000) (supply 0 0) ∷ [];
      cf0 = false;
    }

abbrev pub MaximumOverOneTime : Type 0
MaximumOverOneTime =
    colours with_maximum (ask Green 0 2 1000 ∷ ask Green 0 1 1000 ∷ ask Green 2000000 1 1000 ∷ []) ≡
    answered Green ∷ answered Green ∷ answered Green ∷ []

abbrev pub MaximumOverTwoTimes : Type 0
MaximumOverTwoTimes =
    colours with_maximum (ask Green 0 2 1000 ∷ ask Green 0 1 1000 ∷ to_advance 1000000 ∷ ask Green 2000000 1 1000 ∷ []) ≡
    answered Green ∷ answered Green ∷ answered Red ∷ []

-- Where CF0 is 1, rank 1's green overflow fills the highest yellow bucket: all buckets but that are full, so each
-- second brings it 100 tokens and no more.
abbrev pub with_cf0 : Profile
with_cf0 =
    record {
      flows = flow (supply 0 100) (supply 0 0) ∷ flow (supply 100 1000) (supply 0 1000) ∷ [];
      cf0 = true;
    }

abbrev pub OverflowOfRank1ByCf0 : Type 0
OverflowOfRank1ByCf0 =
    (colours with_cf0 (ask Yellow 0 2 1000 ∷ ask Yellow 1000000 2 100 ∷ []) ≡ answered Yellow ∷ answered Yellow ∷ []) ×
    (colours with_cf0 (ask Yellow 0 2 1000 ∷ ask Yellow 1000000 2 101 ∷ []) ≡ answered Yellow ∷ answered Red ∷ [])

-- the day's last moment is accepted, one more is refused
abbrev pub LastMoment : Type 0
LastMoment =
    told_in_turn the_profile_a (full_at_0 the_profile_a) (to_advance 86_400_000_000 ∷ to_advance 86_400_000_001 ∷ []) ≡
    advance 86_400_000_000 (answered tt) ∷ advance 86_400_000_001 (refused 11) ∷ []

-- all worked figures, of envelopes and of meters
pub record Figures : Type 0 where
  pub colours_of_profile_a : ColoursOfProfileA
  pub counts_of_profile_a : CountsOfProfileA
  pub maximum_over_one_time : MaximumOverOneTime
  pub maximum_over_two_times : MaximumOverTwoTimes
  pub overflow_of_rank_1_by_cf0 : OverflowOfRank1ByCf0
  pub last_moment : LastMoment
  pub meter_figure : MeterFigure

-- A history of profile A upon four buckets that hold nothing at first: a request that is refused because they do not
-- fit, a fill, the six requests, two that are refused (no tokens; a moment gone by), a read, an advance, and a fill.

abbrev pub worked_calls : List Asked
worked_calls =
    ask Green 0 2 1500 ∷ to_fill ∷ ask Green 0 2 1500 ∷ ask Green 999 2 1 ∷ ask Green 1000 2 1 ∷ ask Green 1000 1 1001 ∷
    ask Green 1000 1 1000 ∷ ask Green 2001000 1 501 ∷ ask Green 2001000 1 0 ∷ ask Green 0 1 1 ∷ to_read 1 ∷
    to_advance 3000000 ∷ to_fill ∷ []

abbrev pub buckets_of : List ℕ → List ℕ → List Meant
buckets_of [] counts = []
buckets_of (v ∷ vs) [] = []
buckets_of (v ∷ vs) (c ∷ cs) = record { volume = v; count = c } ∷ buckets_of vs cs

abbrev pub handed : Seen → Handed Meant
handed s = record { latest = s.latest; buckets = buckets_of s.volumes s.counts }

-- calls one after the other, each handed what the one before left
abbrev pub played : Profile → Seen → List Asked → List (Event Meant)
played p s [] = []
played p s (a ∷ as') =
    record { call = told_of p s a; before = handed s; after = handed (left_by p s a) } ∷ played p (left_by p s a) as'

abbrev pub nothing_yet : List Meant
nothing_yet = buckets_of (0 ∷ 0 ∷ 0 ∷ 0 ∷ []) (0 ∷ 0 ∷ 0 ∷ 0 ∷ [])

abbrev pub worked_events : List (Event Meant)
worked_events = played the_profile_a (opened by_meaning nothing_yet) worked_calls

abbrev pub refusals : List (Told Colour) → List ℕ
refusals [] = []
refusals (answered c ∷ ts) = refusals ts
refusals (refused number ∷ ts) = number ∷ refusals ts

-- it is a history, with all three colours and three refusals
pub record WorkedHistory : Type 0 where
  pub run : Run by_meaning the_profile_a (opened by_meaning nothing_yet) worked_events
  pub given : map (λ v. v.given) (verdicts (calls worked_events)) ≡ Green ∷ Red ∷ Green ∷ Yellow ∷ Green ∷ Yellow ∷ []
  pub refused_with : refusals (told_requests (calls worked_events)) ≡ 7 ∷ 8 ∷ 10 ∷ []
