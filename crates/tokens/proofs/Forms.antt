-- The form of a meter does not matter: what it tells follows from what it means. Assumes nothing.
use Rattle.std.proofs.Common.{◌≡◌, ℕ, ◌+◌, ◌<◌, ◌≤◌, false, List, [], ◌∷◌, map, length, get_or, drop, Decides, sym, refl, ◌∙◌, arith}
use Rattle.std.proofs.lemmas.Bool.{false≢true}
use Rattle.std.proofs.lemmas.List.{at_drop_all, at_drop_more}
use Rattle.tokens.specs.Histories.{AnswerAlike, Event, History, Kept, answer, answers, after}
use Rattle.tokens.specs.Meters.{Metered}
use Rattle.tokens.specs.Refusals.{Told}
use Rattle.tokens.specs.declared.calls.Answer.{Answer}
use Rattle.tokens.specs.declared.calls.Call.{Call}

module _ {M N : Type 0} (m_meaning : M → Metered) (n_meaning : N → Metered) where
  same_meaning_tells_alike : (m m_last : M) (n n_last : N) → m_meaning m ≡ n_meaning n → (xs ys : List Event) → History m_meaning m xs m_last → History n_meaning n ys n_last → map (λ e. e.call) xs ≡ map (λ e. e.call) ys → map (λ e. e.told) xs ≡ map (λ e. e.told) ys
  same_meaning_tells_alike m m_last n n_last same [] [] h k calls = refl
  same_meaning_tells_alike m m_last n n_last same [] (y ∷ ys) h k calls = let z : ◌≡◌ {A = ℕ} 0 1 = cc in absurd (omega arith)
  same_meaning_tells_alike m m_last n n_last same (x ∷ xs) [] h k calls = let z : ◌≡◌ {A = ℕ} 0 1 = cc in absurd (omega arith)
  same_meaning_tells_alike m m_last n n_last same (x ∷ xs) (y ∷ ys) h k calls =
      let first : x.call ≡ y.call = cc in
      let rest : map (λ e. e.call) xs ≡ map (λ e. e.call) ys = cc in
      let told : x.told ≡ y.told = cc (h.1.tells, k.1.tells) in
      let left : m_meaning h.0 ≡ n_meaning k.0 = cc (h.1.leaves, k.1.leaves) in
      let later = same_meaning_tells_alike h.0 m_last k.0 n_last left xs ys h.2 k.2 rest in cc

  pub answer_alike : AnswerAlike m_meaning n_meaning
  answer_alike rate burst m m_last n n_last m_new n_new = same_meaning_tells_alike m m_last n n_last (m_new ∙ sym n_new)

-- two meters tell the same from `i` on just where they tell the same throughout, as long as they did so before
pub record SameSoFar (m₀ n₀ : Metered) (calls : List Call) (m n : Metered) (i : ℕ) : Type 0 where
  pub onward : answers m₀ calls ≡ answers n₀ calls → answers m (drop i calls) ≡ answers n (drop i calls)
  pub back : answers m (drop i calls) ≡ answers n (drop i calls) → answers m₀ calls ≡ answers n₀ calls

module _ (m₀ n₀ : Metered) (calls : List Call) (i : ℕ) (d : Call) (within : i < length calls) where
  abbrev here : Call
  here = get_or calls i d

  from_here : (k : Metered) → answers k (drop i calls) ≡ answer k here ∷ answers (after k here) (drop (i + 1) calls)
  from_here k = at_drop_more (answers k) calls i d within

  -- one call more, put to both meters
  module _ (m n m' n' : Metered) (t u : Told Answer) (so_far : SameSoFar m₀ n₀ calls m n i) (on_m : Kept m here t m') (on_n : Kept n here u n') where
    pub same_more : t ≡ u → SameSoFar m₀ n₀ calls m' n' (i + 1)
    same_more first =
        record {
          onward = λ whole. let now = so_far.onward whole in cc (from_here m, from_here n);
          back = λ later. so_far.back (cc (from_here m, from_here n));
        }

    pub differ : (t ≡ u → ⊥) → Decides false (answers m₀ calls ≡ answers n₀ calls)
    differ first = (
      λ e. absurd (false≢true e),
      λ whole. let now = so_far.onward whole in absurd (first (cc (from_here m, from_here n))),
    )

pub same_all : (m₀ n₀ : Metered) (calls : List Call) (m n : Metered) (i : ℕ) → length calls ≤ i → SameSoFar m₀ n₀ calls m n i → answers m₀ calls ≡ answers n₀ calls
same_all m₀ n₀ calls m n i over so_far = so_far.back (at_drop_all (answers m) calls i over ∙ sym (at_drop_all (answers n) calls i over))
