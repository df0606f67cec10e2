-- Counts of which the one at a place is lowered: they stay as many, only that one changes, and from any place on they
-- are what the counts from there on would be. Assumes nothing.
use Rattle.std.proofs.Common.{◌≡◌, ℕ, zero, suc, ◌+◌, ◌-◌, ◌<◌, ◌≤◌, cond, eqb, List, [], ◌∷◌, length, get_or, drop, refl, ap, arith}
use Rattle.std.proofs.lemmas.Bool.Decides.{nat_tests}
use Rattle.envelopes.specs.Colouring.{lowered}
use Rattle.envelopes.specs.Profiles.{total}

pub lowered_are_as_many : (j less : ℕ) (cs : List ℕ) → length (lowered j less cs) ≡ length cs
lowered_are_as_many j less [] = refl
lowered_are_as_many zero less (c ∷ cs) = refl
lowered_are_as_many (suc j) less (c ∷ cs) = ap suc (lowered_are_as_many j less cs)

pub lowered_only_there : (i j less : ℕ) (cs : List ℕ) → get_or (lowered j less cs) i 0 ≡ get_or cs i 0 - cond (eqb j i) less 0
lowered_only_there i j less [] = omega arith
lowered_only_there zero zero less (c ∷ cs) = grind (arith, nat_tests)
lowered_only_there zero (suc j) less (c ∷ cs) = grind (arith, nat_tests)
lowered_only_there (suc i) zero less (c ∷ cs) = grind (arith, nat_tests)
lowered_only_there (suc i) (suc j) less (c ∷ cs) = let later = lowered_only_there i j less cs in grind (arith, nat_tests)

pub lowered_total : (j less : ℕ) (cs : List ℕ) → less ≤ get_or cs j 0 → less + total (lowered j less cs) ≡ total cs
lowered_total j less [] covers = omega arith
lowered_total zero less (c ∷ cs) covers = omega arith
lowered_total (suc j) less (c ∷ cs) covers = omega (arith, lowered_total j less cs covers)

pub lowered_below : (i j less : ℕ) (cs : List ℕ) → j < i → drop i (lowered j less cs) ≡ drop i cs
lowered_below zero j less cs below = absurd (omega arith)
lowered_below (suc i) j less [] below = refl
lowered_below (suc i) zero less (c ∷ cs) below = refl
lowered_below (suc i) (suc j) less (c ∷ cs) below = lowered_below i j less cs (omega arith)

pub lowered_above : (i j n less : ℕ) (cs : List ℕ) → j ≡ i + n → drop i (lowered j less cs) ≡ lowered n less (drop i cs)
lowered_above zero j n less cs place = let same : j ≡ n = omega arith in ap (λ m. lowered m less cs) same
lowered_above (suc i) j n less [] place = refl
lowered_above (suc i) zero n less (c ∷ cs) place = absurd (omega arith)
lowered_above (suc i) (suc j) n less (c ∷ cs) place = lowered_above i j n less cs (omega arith)
