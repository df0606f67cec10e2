-- The requests, in the order in which they are made. Assumes nothing.
use Rattle.std.specs.Prelude.{ℕ, List, [], ◌∷◌, slice_index_or}
use Rattle.envelopes.specs.declared.colour.Colour.TheVariants.{Green}
use Rattle.envelopes.specs.declared.colour.Request.{Request}

-- a request for Green, by moment, rank and tokens
abbrev pub asking_green : ℕ → ℕ → ℕ → Request
asking_green moment rank tokens = record { tokens = tokens; moment = moment; asked = Green; rank = rank }

abbrev pub all_six : List Request
all_six =
    asking_green 0 2 1_500 ∷ asking_green 999 2 1 ∷ asking_green 1_000 2 1 ∷ asking_green 1_000 1 1_001 ∷ asking_green 1_000 1 1_000 ∷
    asking_green 2_001_000 1 501 ∷ []

-- by its place, from 0
abbrev pub request_at : ℕ → Request
request_at i = slice_index_or all_six i (asking_green 0 0 0)
