-- The lines that the program prints; byte 10 ends a line. Assumes nothing.
use Rattle.std.specs.Prelude.{ℕ, List, [], ◌∷◌, ◌++◌, codes, decimal}
use Rattle.tokens.specs.Refusals.{Told, answered, refused}
use Rattle.envelopes.specs.Colours.{colour_name}
use Rattle.envelopes.specs.declared.colour.Colour.{Colour}
use Rattle.envelopes.specs.declared.colour.Request.{Request}

-- why a call is refused, by its number
abbrev pub refusal_line : ℕ → List ℕ
refusal_line cause = codes "refused " ++ (decimal cause ++ (10 ∷ []))

-- a request by its number, its moment and its rank, and then its colour or why it was refused
abbrev pub colour_line : ℕ → Request → Colour → List ℕ
colour_line number q colour =
    decimal number ++ (codes " " ++ (decimal q.moment ++ (codes " " ++ (decimal q.rank ++ (codes " " ++ (colour_name colour ++ (10 ∷ [])))))))

abbrev pub refused_request_line : ℕ → Request → ℕ → List ℕ
refused_request_line number q cause =
    decimal number ++ (codes " " ++ (decimal q.moment ++ (codes " " ++ (decimal q.rank ++ (codes " refused " ++ (decimal cause ++ (10 ∷ [])))))))

abbrev pub request_line : ℕ → Request → Told Colour → List ℕ
request_line number q (answered colour) = colour_line number q colour
request_line number q (refused cause) = refused_request_line number q cause

-- a rank's green and yellow count, in grains, or why they could not be read
abbrev pub counts_line : ℕ → ℕ → ℕ → List ℕ
counts_line rank green yellow =
    codes "rank " ++ (decimal rank ++ (codes ": " ++ (decimal green ++ (codes " green, " ++ (decimal yellow ++ (codes " yellow grains" ++ (10 ∷ [])))))))

abbrev pub refused_rank_line : ℕ → ℕ → List ℕ
refused_rank_line rank cause = codes "rank " ++ (decimal rank ++ (codes ": refused " ++ (decimal cause ++ (10 ∷ []))))

abbrev pub rank_line : ℕ → Told (ℕ × ℕ) → List ℕ
rank_line rank (answered counts) = counts_line rank counts.0 counts.1
rank_line rank (refused cause) = refused_rank_line rank cause
