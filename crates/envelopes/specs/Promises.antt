-- What each of the four calls upon an envelope promises: one relation between what it saw, what it told, and what it
-- left. Assumes nothing.
use Rattle.std.specs.Prelude.{◌≡◌, ℕ, ◌-◌, ◌*◌, Bool, true, false, not, ◌&&◌, ◌||◌, List, [], ◌∷◌, ◌++◌, map, length, take, drop, ◌==◌, nat_lt, slice_index}
use Rattle.tokens.specs.Meters.{moment_causes}
use Rattle.tokens.specs.Refusals.{Told, Cause, unless_refused, kept_if_refused}
use Rattle.tokens.specs.Units.{grains}
use Rattle.envelopes.specs.Colouring.{colour, place, spent}
use Rattle.envelopes.specs.Growth.{Counts, grown}
use Rattle.envelopes.specs.Profiles.{Profile}
use Rattle.envelopes.specs.declared.colour.Colour.{Colour}
use Rattle.envelopes.specs.declared.colour.Request.{Request}
use Rattle.envelopes.specs.declared.flow.Flow.{Flow}

-- what a call sees, and what it leaves: the envelope's latest moment, and the volumes and counts of the buckets that
-- it is handed, the green ones by rank and then the yellow ones
pub record Seen : Type 0 where
  pub latest : ℕ
  pub volumes : List ℕ
  pub counts : List ℕ

-- a call with what it told
pub data Call : Type 0 where
  fill : Told (Unit {0}) → Call
  judge : Request → Told Colour → Call
  advance : ℕ → Told (Unit {0}) → Call
  read : ℕ → Told (ℕ × ℕ) → Call

-- the volumes of an envelope's buckets
abbrev pub volumes : List Flow → List ℕ
volumes flows = map (λ f. grains f.green.volume) flows ++ map (λ f. grains f.yellow.volume) flows

-- the counts by rank, where so many of them are green, and back
abbrev pub parted : ℕ → List ℕ → Counts
parted n counts = record { greens = take n counts; yellows = drop n counts }

abbrev pub by_rank : Profile → Seen → Counts
by_rank p s = parted (length p.flows) s.counts

abbrev pub in_a_row : Counts → List ℕ
in_a_row k = k.greens ++ k.yellows

-- Why a call is refused.

-- two lists hold the same numbers, place by place
abbrev pub same : List ℕ → List ℕ → Bool
same [] [] = true
same [] (n ∷ ns) = false
same (m ∷ ms) [] = false
same (m ∷ ms) (n ∷ ns) = m == n && same ms ns

-- there are not two buckets for each flow
abbrev pub number_cause : Profile → Seen → Cause
number_cause p s = record { applies = not (length s.volumes == 2 * length p.flows); number = 7 }

-- there are not two buckets for each flow, with the flows' volumes
abbrev pub bucket_cause : Profile → Seen → Cause
bucket_cause p s = record { applies = not (same (volumes p.flows) s.volumes); number = 7 }

abbrev pub tokens_cause : ℕ → Cause
tokens_cause tokens = record { applies = (tokens == 0); number = 8 }

abbrev pub rank_cause : Profile → ℕ → Cause
rank_cause p rank = record { applies = rank == 0 || nat_lt (length p.flows) rank; number = 9 }

-- in the order of checking
abbrev pub fill_causes : Profile → Seen → List Cause
fill_causes p s = number_cause p s ∷ []

abbrev pub read_causes : Profile → Seen → ℕ → List Cause
read_causes p s rank = bucket_cause p s ∷ rank_cause p rank ∷ []

abbrev pub advance_causes : Profile → Seen → ℕ → List Cause
advance_causes p s moment = bucket_cause p s ∷ moment_causes s.latest moment

abbrev pub judge_causes : Profile → Seen → Request → List Cause
judge_causes p s q =
    bucket_cause p s ∷ tokens_cause q.tokens ∷ rank_cause p q.rank ∷ moment_causes s.latest q.moment

-- What a call leaves where it is not refused.

-- every bucket full, by the flows' volumes; the latest moment stays
abbrev pub filled : Profile → Seen → Seen
filled p s = record { latest = s.latest; volumes = volumes p.flows; counts = volumes p.flows }

-- the counts as they stand at a moment
abbrev pub counts_at : Profile → Seen → ℕ → Counts
counts_at p s moment = grown p (moment - s.latest) (by_rank p s)

abbrev pub advanced : Profile → Seen → ℕ → Seen
advanced p s moment =
    record { latest = moment; volumes = s.volumes; counts = in_a_row (counts_at p s moment) }

-- the colour of a request, by the counts at its moment
abbrev pub colour_at : Profile → Seen → Request → Colour
colour_at p s q = colour q (counts_at p s q.moment)

abbrev pub judged : Profile → Seen → Request → Seen
judged p s q =
    record {
      latest = q.moment;
      volumes = s.volumes;
      counts = in_a_row (spent q (colour_at p s q) (counts_at p s q.moment));
    }

-- a rank's green and yellow count
abbrev pub rank_counts : Counts → ℕ → ℕ × ℕ
rank_counts k rank = (slice_index k.greens (place rank), slice_index k.yellows (place rank))

abbrev pub counts_of : Profile → Seen → ℕ → ℕ × ℕ
counts_of p s rank = rank_counts (by_rank p s) rank

-- The promise.

-- the first cause that applies is told by its number and nothing changes; where none applies, the answer is told and
-- the rest is left as the call makes it
pub record Keeps {A : Type 0} (causes : List Cause) (told : Told A) (answer : A) (before after left : Seen) : Type 0 where
  pub tells : told ≡ unless_refused causes answer
  pub leaves : left ≡ kept_if_refused causes before after

abbrev pub Promise : Profile → Seen → Call → Seen → Type 0
Promise p s (fill told) left = Keeps (fill_causes p s) told tt s (filled p s) left
Promise p s (judge q told) left = Keeps (judge_causes p s q) told (colour_at p s q) s (judged p s q) left
Promise p s (advance moment told) left = Keeps (advance_causes p s moment) told tt s (advanced p s moment) left
Promise p s (read rank told) left = Keeps (read_causes p s rank) told (counts_of p s rank) s s left
