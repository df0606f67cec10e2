-- The number that a fold over bytes has read. Assumes nothing.
use Rattle.std.proofs.Common.{◌≡◌, ℕ, ◌+◌, ◌-◌, ◌*◌, ◌<◌, true, false, cond, Bool, List, [], ◌∷◌, length, Some, None, Option, Bor, refl, sym, ap, subst, ◌∙◌, arith}
use Rattle.std.proofs.iter.Yields.{fronts}
use Rattle.std.proofs.lemmas.List.{nil_from_length}
use Rattle.std.specs.ControlFlow.{continue_value}
use Rattle.std.specs.Fn.{Called}
use Rattle.std.specs.Iterator.{Yields, TryFoldTurn}
use Rattle.std.specs.List.{FoldsTo}
use Rattle.std.specs.Option.{MatchOption, option_map}
use Rattle.std.specs.declared.ops.ControlFlow.{ControlFlow}
use Rattle.std.specs.declared.ops.ControlFlow.TheVariants.{Continue, Break}
use Rattle.std.specs.declared.slice.Iter.{Iter}
use Rattle.traces.specs.Bytes.{capped, digits_after, is_digit, written}
use denote.Param.Members.{Mut}

-- a text that is not empty writes what its digits write
pub written_some : (text : List ℕ) → 0 < length text → written text ≡ digits_after 0 text
written_some [] h = absurd (omega arith)
written_some (c ∷ cs) h = refl

-- the number that digits write after those of `n`, in 64 bits
abbrev pub number_after : ℕ → List ℕ → Option ℕ
number_after n cs = option_map capped (digits_after n cs)

-- numbers that are capped alike stay so, whatever digits follow
capped_alike : (cs : List ℕ) (a b : ℕ) → capped a ≡ capped b → number_after a cs ≡ number_after b cs
capped_alike [] a b same = ap Some same
capped_alike (c ∷ cs) a b same =
    elim (is_digit c) as (λ d. option_map capped (cond d (digits_after (10 * a + (c - 48)) cs) None) ≡ option_map capped (cond d (digits_after (10 * b + (c - 48)) cs) None)) [
      | true ↦ capped_alike cs (10 * a + (c - 48)) (10 * b + (c - 48)) (omega arith)
      | false ↦ refl
    ]

-- the number that one byte more makes
abbrev pub onto : ℕ → ℕ → Option ℕ
onto n c = cond (is_digit c) (Some (capped (10 * n + (c - 48)))) None

one_more : (d : Bool) (k m : ℕ) (cs : List ℕ) → cond d (Some (capped k)) None ≡ Some m → (capped m ≡ m) × (option_map capped (cond d (digits_after k cs) None) ≡ number_after m cs)
one_more true k m cs here = let same : capped k ≡ m = cc in (omega arith, capped_alike cs k m (omega arith))
one_more false k m cs here = absurd cc

no_more : (d : Bool) (k : ℕ) (cs : List ℕ) → cond d (Some (capped k)) None ≡ None → None ≡ option_map capped (cond d (digits_after k cs) None)
no_more true k cs here = cc
no_more false k cs here = refl

-- a fold each call of which makes that number: `E` is what stops it
module _ {F : Type 0} (E : Type 0) (g : Mut F (ℕ × (Bor ℕ × Unit {0})) (Option ℕ)) (f : F) (calls : (n : ℕ) (x : Bor ℕ) (v : Option ℕ) (f' : F) → Called g f (n, (x, tt)) v f' → (f' ≡ f) × (v ≡ onto n x.now)) where
  abbrev Goes : Option ℕ → ControlFlow E ℕ → Type 0
  Goes v next = v ≡ continue_value next

  abbrev Turn : F × ℕ → Bor ℕ → F × ℕ → Type 0
  Turn = TryFoldTurn g Goes

  -- the calls so far took `n` to `a`
  record Along (n a : ℕ) (f' : F) (s t : Iter ℕ) : Type 0 where
    same : f' ≡ f
    fits : capped a ≡ a
    reads : number_after n s.rest.now ≡ number_after a t.rest.now

  along : (xs : List (Bor ℕ)) (n a : ℕ) (f' : F) (s t : Iter ℕ) → capped n ≡ n → Yields fronts s xs t → FoldsTo {P = F × ℕ} Turn (f, n) xs (f', a) → Along n a f' s t
  along [] n a f' s t fits yields folds =
      let same : n ≡ a = ap (λ p. p.1) folds in
      record {
        same = sym (ap (λ p. p.0) folds);
        fits = rw same at fits;
        reads = ap (λ i. number_after i s.rest.now) same ∙ ap (λ i. number_after a i.rest.now) yields;
      }
  along (x ∷ xs) n a f' s t fits yields folds =
      let j = yields.0 in
      let m = folds.0.1 in
      let made = calls n x folds.1.0 folds.0.0 folds.1.1 in
      let more = one_more (is_digit x.now) _ m j.rest.now (sym made.1 ∙ folds.1.2) in
      let rest = along xs m a f' j t more.0 yields.2 (subst (λ h. FoldsTo {P = F × ℕ} Turn (h, m) xs (f', a)) made.0 folds.2) in
      record { same = rest.same; fits = rest.fits; reads = ap (number_after n) yields.1 ∙ more.1 ∙ rest.reads }

  pub folded : (n : ℕ) (s u : Iter ℕ) (r : Option ℕ) (xs : List (Bor ℕ)) (o : Option (Bor ℕ)) (f' : F) (a : ℕ) (t : Iter ℕ) → capped n ≡ n → Yields fronts s xs t → fronts t o u → FoldsTo {P = F × ℕ} Turn (f, n) xs (f', a) → MatchOption o (Goes r (Continue a)) (λ x. (v : Option ℕ) × (h : F) × (e : E) × Called g f' (a, (x, tt)) v h × Goes v (Break e) × (r ≡ None)) → r ≡ number_after n s.rest.now
  folded n s u r xs None f' a t fits yields stop folds end =
      let all = along xs n a f' s t fits yields folds in
      end ∙ sym (all.reads ∙ ap (number_after a) (nil_from_length t.rest.now stop.0) ∙ ap Some all.fits)
  folded n s u r xs (Some x) f' a t fits yields stop folds end =
      let so_far = along xs n a f' s t fits yields folds in
      let made = calls a x end.0 end.1 (subst (λ h. Called g h (a, (x, tt)) end.0 end.1) so_far.same end.3) in
      end.5 ∙ no_more (is_digit x.now) _ u.rest.now (sym made.1 ∙ end.4) ∙ sym (so_far.reads ∙ ap (number_after a) stop)
