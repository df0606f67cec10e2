-- What judging tells and leaves, and what reading tells. Assumes nothing.
use Rattle.std.specs.Prelude.{ℕ}
use Rattle.tokens.specs.Refusals.{Told, kept_if_refused, unless_refused}
use Rattle.envelopes.specs.Profiles.{Profile}
use Rattle.envelopes.specs.Promises.{Seen, colour_at, counts_of, judge_causes, judged, read_causes}
use Rattle.envelopes.specs.declared.colour.Colour.{Colour}
use Rattle.envelopes.specs.declared.colour.Request.{Request}

abbrev pub judge_told : Profile → Seen → Request → Told Colour
judge_told p s q = unless_refused (judge_causes p s q) (colour_at p s q)

abbrev pub judge_left : Profile → Seen → Request → Seen
judge_left p s q = kept_if_refused (judge_causes p s q) s (judged p s q)

abbrev pub read_told : Profile → Seen → ℕ → Told (ℕ × ℕ)
read_told p s rank = unless_refused (read_causes p s rank) (counts_of p s rank)
