-- A history without fills, by what its accepted calls do to the latest moment and to the counts by rank: the buckets
-- and their kind are gone. Assumes nothing.
use Rattle.std.proofs.Common.{◌≡◌, ℕ, ◌-◌, ◌≤◌, List, [], ◌∷◌, map, length}
use Rattle.tokens.specs.Refusals.{answered, refused}
use Rattle.tokens.specs.Units.{grains}
use Rattle.envelopes.specs.Colouring.{colour, spent}
use Rattle.envelopes.specs.Growth.{Counts, grown}
use Rattle.envelopes.specs.Profiles.{Profile}
use Rattle.envelopes.specs.Promises.{Call, Seen, advance, by_rank, fill, judge, read}
use Rattle.envelopes.specs.declared.colour.Colour.{Colour}
use Rattle.envelopes.specs.declared.colour.Request.{Request}

-- the latest moment, and the counts by rank
pub record State : Type 0 where
  pub latest : ℕ
  pub counts : Counts

abbrev pub state : Profile → Seen → State
state p s = record { latest = s.latest; counts = by_rank p s }

-- every bucket is full
abbrev pub full : Profile → Counts
full p =
    record {
      greens = map (λ f. grains f.green.volume) p.flows;
      yellows = map (λ f. grains f.yellow.volume) p.flows;
    }

-- every bucket is full, and a moment is the latest
abbrev pub just_filled : Profile → ℕ → State
just_filled p moment = record { latest = moment; counts = full p }

-- there is a count for each flow
pub record Fits (p : Profile) (k : Counts) : Type 0 where
  pub greens : length k.greens ≡ length p.flows
  pub yellows : length k.yellows ≡ length p.flows

-- the counts at a moment
abbrev pub at : Profile → State → ℕ → Counts
at p s moment = grown p (moment - s.latest) s.counts

-- what an accepted call makes of the state; a fill is none of these
abbrev pub next : Profile → State → Call → State
next p s (fill told) = s
next p s (judge q (answered given)) = record { latest = q.moment; counts = spent q given (at p s q.moment) }
next p s (judge q (refused number)) = s
next p s (advance moment (answered done)) = record { latest = moment; counts = at p s moment }
next p s (advance moment (refused number)) = s
next p s (read rank told) = s

-- what is known of an accepted request
pub record Asked (p : Profile) (s : State) (q : Request) (given : Colour) : Type 0 where
  pub later : s.latest ≤ q.moment
  pub some_rank : 1 ≤ q.rank
  pub rank_bound : q.rank ≤ length p.flows
  pub coloured : given ≡ colour q (at p s q.moment)

abbrev pub Step : Profile → State → Call → Type 0
Step p s (fill (answered done)) = ⊥
Step p s (fill (refused number)) = Unit {0}
Step p s (judge q (answered given)) = Asked p s q given
Step p s (judge q (refused number)) = Unit {0}
Step p s (advance moment (answered done)) = s.latest ≤ moment
Step p s (advance moment (refused number)) = Unit {0}
Step p s (read rank told) = Unit {0}

abbrev pub Story : Profile → State → List Call → Type 0
Story p s [] = Unit {0}
Story p s (c ∷ cs) = Step p s c × Story p (next p s c) cs

-- the state at the end
abbrev pub end : Profile → State → List Call → State
end p s [] = s
end p s (c ∷ cs) = end p (next p s c) cs
