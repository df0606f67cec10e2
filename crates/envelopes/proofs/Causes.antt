-- A call that told an answer was not refused. Assumes nothing.
use Rattle.std.proofs.Common.{◌≡◌, ℕ, Bool, true, false, cond, List, [], ◌∷◌, refl, arith}
use Rattle.tokens.specs.Refusals.{Cause, Told, answered, kept_if_refused, refused, unless_refused}

module _ {A S : Type 0} (answer told : A) (before after : S) where
  one_cause : (applies : Bool) (number : ℕ) (rest : Told A) (left : S) → (rest ≡ answered told → left ≡ after) → cond applies (refused number) rest ≡ answered told → cond applies before left ≡ after
  one_cause true number rest left onward answers = let z : ◌≡◌ {A = ℕ} 0 1 = cc in absurd (omega arith)
  one_cause false number rest left onward answers = onward answers

  -- what it leaves is what it makes
  pub answered_leaves : (cs : List Cause) → unless_refused cs answer ≡ answered told → kept_if_refused cs before after ≡ after
  answered_leaves [] answers = refl
  answered_leaves (c ∷ cs) answers = one_cause c.applies c.number _ _ (answered_leaves cs) answers
