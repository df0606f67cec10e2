-- Bytes as lines, fields and numbers. Assumes nothing.
use Rattle.std.specs.Prelude.{ℕ, ◌+◌, ◌-◌, ◌*◌, min, Bool, cond, ◌&&◌, List, [], ◌∷◌, Some, None, Option, ◌==◌, nat_le}
use Rattle.std.specs.Option.{option_map}

-- what stands before the first separator, and what stands beyond it
abbrev pub before : ℕ → List ℕ → List ℕ
before separator [] = []
before separator (c ∷ cs) = cond (c == separator) [] (c ∷ before separator cs)

abbrev pub beyond : ℕ → List ℕ → List ℕ
beyond separator [] = []
beyond separator (c ∷ cs) = cond (c == separator) cs (beyond separator cs)

-- the lines of a text; a newline, which is byte 10, ends a line, and the last one may lack it
abbrev pub onto_first : ℕ → List (List ℕ) → List (List ℕ)
onto_first c [] = (c ∷ []) ∷ []
onto_first c (l ∷ ls) = (c ∷ l) ∷ ls

abbrev pub lines : List ℕ → List (List ℕ)
lines [] = []
lines (c ∷ cs) = cond (c == 10) ([] ∷ lines cs) (onto_first c (lines cs))

-- the number that decimal digits write after those of `n`; none where another byte stands among them
abbrev pub is_digit : ℕ → Bool
is_digit c = nat_le 48 c && nat_le c 57

abbrev pub digits_after : ℕ → List ℕ → Option ℕ
digits_after n [] = Some n
digits_after n (c ∷ cs) = cond (is_digit c) (digits_after (10 * n + (c - 48)) cs) None

-- the number that a text of one digit or more writes
abbrev pub written : List ℕ → Option ℕ
written [] = None
written (c ∷ cs) = digits_after 0 (c ∷ cs)

-- the same in 64 bits: a number that does not fit is read as the largest that does
abbrev pub capped : ℕ → ℕ
capped n = min n 18_446_744_073_709_551_615

abbrev pub number_in : List ℕ → Option ℕ
number_in text = option_map capped (written text)
