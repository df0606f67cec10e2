-- The requests upon the profile, one after the other from full buckets, and the lines that they print. Assumes nothing.
use Rattle.std.specs.Prelude.{ℕ, zero, suc, ◌+◌, List, [], ◌∷◌, ◌++◌, slice_index_or}
use Rattle.envelopes.specs.Figures.{full_at_0, the_profile_a}
use Rattle.envelopes.specs.Promises.{Seen}
use Rattle.envelopes.specs.declared.colour.Colour.{Colour}
use Rattle.envelopes.specs.declared.colour.Colour.TheVariants.{Green, Yellow, Red}
use Rattle.profile_a.specs.Judging.{judge_left}
use Rattle.profile_a.specs.Lines.{colour_line, counts_line}
use Rattle.profile_a.specs.Requests.{request_at}

-- what the first so many requests leave
abbrev pub seen_after : ℕ → Seen
seen_after zero = full_at_0 the_profile_a
seen_after (suc i) = judge_left the_profile_a (seen_after i) (request_at i)

abbrev pub six_colours : List Colour
six_colours = Green ∷ Red ∷ Green ∷ Yellow ∷ Green ∷ Yellow ∷ []

-- the lines of the first so many requests
abbrev pub first_lines : ℕ → List ℕ
first_lines zero = []
first_lines (suc i) = first_lines i ++ colour_line (i + 1) (request_at i) (slice_index_or six_colours i Red)

abbrev pub last_lines : List ℕ
last_lines = counts_line 1 500_000_000 1_498_000_000 ++ counts_line 2 1_500_000_000 0

abbrev pub report_text : List ℕ
report_text = first_lines 6 ++ last_lines
