-- Where a text is cut, and its lines. Assumes nothing.
use Rattle.std.proofs.Common.{◌≡◌, ℕ, ◌+◌, ◌<◌, ◌≤◌, true, false, not, cond, eqb, ltb, List, [], ◌∷◌, suc, length, take, drop, Some, None, Option, sym, refl, ap, ◌∙◌, add-one, one-add, arith}
use Rattle.std.proofs.lemmas.List.{take_all, drop_all}
use Rattle.std.proofs.lemmas.Bool.Decides.{nat_tests}
use Rattle.std.specs.List.{before_first, after_first, position_or_len}
use Rattle.traces.specs.Bytes.{before, beyond, lines, onto_first}

-- what stands before and beyond the first separator, in std's words
before-first : (separator : ℕ) (text : List ℕ) → before separator text ≡ before_first (λ c. eqb c separator) text
before-first separator [] = refl
before-first separator (c ∷ cs) =
    let more = before-first separator cs in
    elim (eqb c separator) as (λ e. cond e [] (c ∷ before separator cs) ≡ take (cond (not e) (1 + position_or_len (λ x. eqb x separator) cs) 0) (c ∷ cs)) [
      | true ↦ refl
      | false ↦ rw one-add (ap (λ xs. c ∷ xs) more)
    ]

beyond-first : (separator : ℕ) (text : List ℕ) → beyond separator text ≡ after_first (λ c. eqb c separator) text
beyond-first separator [] = refl
beyond-first separator (c ∷ cs) =
    let more = beyond-first separator cs in
    elim (eqb c separator) as (λ e. cond e cs (beyond separator cs) ≡ drop (cond (not e) (1 + position_or_len (λ x. eqb x separator) cs) 0 + 1) (c ∷ cs)) [
      | true ↦ refl
      | false ↦ rw (one-add, add-one) (rw add-one at more)
    ]

-- the parts at the place that a search for the separator found, and where it found none
module _ (separator : ℕ) (text : List ℕ) where
  abbrev place : ℕ
  place = position_or_len (λ c. eqb c separator) text

  abbrev found : Option ℕ
  found = cond (ltb place (length text)) (Some place) None

  at_place : (i : ℕ) → Some i ≡ found → i ≡ place
  at_place i here = grind (arith, nat_tests)

  past_end : None ≡ found → length text ≤ place
  past_end none = grind (arith, nat_tests)

  pub front_at : (i : ℕ) → Some i ≡ found → take i text ≡ before separator text
  front_at i here = rw (at_place i here) (sym (before-first separator text))

  pub back_at : (i : ℕ) → Some i ≡ found → drop (i + 1) text ≡ beyond separator text
  back_at i here = rw (at_place i here) (sym (beyond-first separator text))

  pub front_none : None ≡ found → text ≡ before separator text
  front_none none = sym (before-first separator text ∙ take_all place text (past_end none))

  pub back_none : None ≡ found → [] ≡ beyond separator text
  back_none none = sym (beyond-first separator text ∙ drop_all (place + 1) text (omega (arith, past_end none)))

-- the first line of a text that is not empty, and the lines after it
pub lines_cut : (text : List ℕ) → 0 < length text → lines text ≡ before 10 text ∷ lines (beyond 10 text)
lines_cut [] some = absurd (omega arith)
lines_cut (c ∷ []) some = elim (eqb c 10) as (λ e. cond e ([] ∷ []) ((c ∷ []) ∷ []) ≡ cond e [] (c ∷ []) ∷ lines (cond e [] [])) [ true ↦ refl | false ↦ refl ]
lines_cut (c ∷ d ∷ cs) some =
    let rest = lines_cut (d ∷ cs) (omega arith) in
    elim (eqb c 10) as (λ e. cond e ([] ∷ lines (d ∷ cs)) (onto_first c (lines (d ∷ cs))) ≡ cond e [] (c ∷ before 10 (d ∷ cs)) ∷ lines (cond e (d ∷ cs) (beyond 10 (d ∷ cs)))) [
      | true ↦ refl
      | false ↦ ap (onto_first c) rest
    ]

-- a text has no more lines than bytes
onto_first_at_most : (c : ℕ) (ls : List (List ℕ)) → length (onto_first c ls) ≤ suc (length ls)
onto_first_at_most c [] = omega arith
onto_first_at_most c (l ∷ ls) = omega arith

pub lines_at_most : (text : List ℕ) → length (lines text) ≤ length text
lines_at_most [] = omega arith
lines_at_most (c ∷ cs) =
    let fewer = lines_at_most cs in
    elim (eqb c 10) as (λ e. length (cond e ([] ∷ lines cs) (onto_first c (lines cs))) ≤ suc (length cs)) [ true ↦ omega arith | false ↦ omega (arith, onto_first_at_most c (lines cs)) ]
