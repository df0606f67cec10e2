-- A list gone through by place, from the last place down. Assumes nothing.
use Rattle.std.proofs.Common.{◌≡◌, ℕ, ◌+◌, ◌≤◌, List, [], ◌∷◌, ◌++◌, length, get_or, take, Bor, Iter, Some, Option, sym, refl, ap, ◌∙◌, subst, arith, length-append, length-take-le, get_or-take, take_all, take_at}
use Rattle.std.proofs.lemmas.List.{get_or_at, take-take}
use Rattle.std.specs.Iterator.Adapters.{enumerate_count, enumerate_source, enumerate_steps_back, rev_source, rev_steps}
use Rattle.std.specs.Slice.Iter.{iter_rest, iter_steps_back}
use Rattle.std.specs.declared.iter.Enumerate.{Enumerate}
use Rattle.std.specs.declared.iter.Rev.{Rev}

abbrev pub Places : Type 0 → Type 0
Places A = Rev (Enumerate (Iter A))

-- what is left to go through
abbrev pub rest : {A : Type 0} → Places A → List A
rest s = iter_rest (enumerate_source (rev_source s))

abbrev pub Steps : {A : Type 0} → Places A → Option (ℕ × Bor A) → Places A → Type 0
Steps = rev_steps (enumerate_steps_back iter_steps_back (λ s. length (iter_rest s)))

-- so many places are left
pub record Descending {A : Type 0} (xs : List A) (n : ℕ) (s : Places A) : Type 0 where
  pub from_0 : enumerate_count (rev_source s) ≡ 0
  pub left : rest s ≡ take n xs
  pub within : n ≤ length xs

-- all of them
pub all_left : {A : Type 0} (xs : List A) (s : Places A) → enumerate_count (rev_source s) ≡ 0 → rest s ≡ xs → Descending xs (length (rest s)) s
all_left xs s from_0 all =
    record {
      from_0 = from_0;
      left = sym (take_all (length (rest s)) (rest s) (omega arith)) ∙ ap (take (length (rest s))) all;
      within = omega (arith, ap length all);
    }

-- the last of these
module _ {A : Type 0} (xs : List A) (n i : ℕ) (ys : List A) (x : A) (within : n ≤ length xs) (split : take n xs ≡ ys ++ x ∷ []) (here : i ≡ length ys) where
  as_many : n ≡ i + 1
  as_many = omega (arith, ap length split, length-append ys (x ∷ []), length-take-le n xs within)

  before : ys ≡ take i xs
  before =
      sym (take_at ys (x ∷ []) i (sym here)) ∙ ap (take i) (sym split) ∙ take-take i n xs (omega (arith, as_many))

  last : x ≡ get_or xs i x
  last =
      sym (get_or_at ys x [] x i (sym here)) ∙ ap (λ zs. get_or zs i x) (sym split) ∙ get_or-take n xs i x (omega (arith, as_many))

pub record Turn {A : Type 0} (xs : List A) (n i : ℕ) (x : A) (t : Places A) : Type 0 where
  pub next : n ≡ i + 1
  pub item : x ≡ get_or xs i x
  pub on : Descending xs (length (rest t)) t
  pub left_now : length (rest t) ≡ i

module _ {A : Type 0} (xs : List A) (n : ℕ) (s t : Places A) (down : Descending xs n s) where
  one_turn : (i : ℕ) (x : Bor A) → Steps s (Some (i, x)) t → Turn xs n i x.now t
  one_turn i x steps =
      let split = sym down.left ∙ steps.1.0 in
      let here : i ≡ length (rest t) = omega (arith, steps.1.1, down.from_0) in
      record {
        next = as_many xs n i _ _ down.within split here;
        item = last xs n i _ _ down.within split here;
        on =
            record {
              from_0 = steps.0 ∙ down.from_0;
              left = before xs n _ _ _ down.within split refl;
              within = omega (arith, as_many xs n _ _ _ down.within split refl, down.within);
            };
        left_now = sym here;
      }

  pub turn : (r : Option (ℕ × Bor A)) (i : ℕ) (x : Bor A) → r ≡ Some (i, x) → Steps s r t → Turn xs n i x.now t
  turn r i x is steps = one_turn i x (subst (λ o. Steps s o t) is steps)
