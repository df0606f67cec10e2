-- Two lists of numbers compared as wholes and in halves. Assumes nothing.
use borrow.Rule.Slice.PartMut.{mid_of}
use Rattle.std.proofs.Common.{◌≡◌, ℕ, suc, ◌+◌, ◌-◌, ◌*◌, ◌≤◌, Bool, true, false, ◌&&◌, eqb, List, [], ◌∷◌, ◌++◌, map, length, take, drop, get_or, Decides, IfSome, MatchOption, None, Some, Option, sym, refl, ap, ap₂, ◌∙◌, arith, rules, length-append, length-drop, take_all}
use Rattle.std.proofs.lemmas.Bool.{false≢true}
use Rattle.std.proofs.lemmas.Bool.Decides.{Decides-eqb, same_from_decides}
use Rattle.std.proofs.lemmas.Iterator.{YieldsList}
use Rattle.std.proofs.lemmas.Iterator.Consumers.{YieldsList-at, YieldsList-end, YieldsList-turn}
use Rattle.std.proofs.lemmas.List.{drop-map, get_or_default, length-map, take-map}
use Rattle.std.proofs.lemmas.List.Elements.{same_from_all_zip}
use Rattle.std.proofs.lemmas.Slice.Eq.{compares_Decides}
use Rattle.std.specs.Iterator.{ComparesItemsByEq, Yields}
use Rattle.tokens.specs.Units.{grains}
use Rattle.envelopes.specs.Promises.{same, volumes}
use Rattle.envelopes.specs.Stored.{flows}
use Rattle.envelopes.specs.Updates.{column_volumes}
use Rattle.envelopes.specs.declared.column.Column.TheVariants.{Green, Yellow}
use Rattle.envelopes.specs.declared.flow.Flow.{Flow}
use Rattle.envelopes.specs.declared.row.Row.{Row}

pub same_decides : (ms ns : List ℕ) → Decides (same ms ns) (ms ≡ ns)
same_decides = compares_Decides same (search rules)

-- two iterators over numbers, each of which gave some items and then one answer more
module _ {S T : Type 0} {steps : S → Option ℕ → S → Type 0} {others : T → Option ℕ → T → Type 0} {s : S} {t : T} {ms ns : List ℕ} (first : YieldsList steps (λ x. x) s ms) (second : YieldsList others (λ x. x) t ns) (xs ys : List ℕ) (s' s'' : S) (t' t'' : T) (came : Yields steps s xs s') (went : Yields others t ys t'') (equal : xs ≡ ys) (r : Bool) where
  decided : (o p : Option ℕ) → steps s' o s'' → others t'' p t' → MatchOption o (MatchOption p (r ≡ true) (λ _. r ≡ false)) (λ x. (r ≡ false) × IfSome p (λ y. eqb x y ≡ false)) → Decides r (ms ≡ ns)
  decided None None ended closed is =
      let one = (YieldsList-end first xs s' came None s'' refl ended).0 in
      let other = (YieldsList-end second ys t'' went None t' refl closed).0 in
      let same_lists : ms ≡ ns = sym one ∙ ap (map (λ n. n)) equal ∙ other in (λ _. same_lists, λ _. is)
  decided None (Some y) ended more is =
      let one = (YieldsList-end first xs s' came None s'' refl ended).1 in
      let other = (YieldsList-turn second ys t'' went (Some y) t' y refl more).0 in
      (λ e. absurd (false≢true (sym is ∙ e)), λ e. absurd (omega (arith, ap length e, ap length equal)))
  decided (Some x) None more closed is =
      let one = (YieldsList-turn first xs s' came (Some x) s'' x refl more).0 in
      let other = (YieldsList-end second ys t'' went None t' refl closed).1 in
      (λ e. absurd (false≢true (sym is.0 ∙ e)), λ e. absurd (omega (arith, ap length e, ap length equal)))
  decided (Some x) (Some y) more further is =
      let one = YieldsList-turn first xs s' came (Some x) s'' x refl more in
      let other = YieldsList-turn second ys t'' went (Some y) t' y refl further in (
        λ e. absurd (false≢true (sym is.0 ∙ e)),
        λ e. absurd (false≢true (sym is.1 ∙ (Decides-eqb x y).1 (one.1 ∙ get_or_default ms (length xs) x y one.0 ∙ ap (λ l. get_or l (length xs) y) e ∙ ap (λ l. get_or ns (length l) y) equal ∙ sym other.1))),
      )

-- `eq` of two iterators over numbers compares their lists
pub same_from_eq : {S T : Type 0} {steps : S → Option ℕ → S → Type 0} {others : T → Option ℕ → T → Type 0} {s : S} {t : T} {ms ns : List ℕ} (r : Bool) → ComparesItemsByEq steps (λ x y. y ≡ x) others s t eqb r → YieldsList steps (λ x. x) s ms → YieldsList others (λ x. x) t ns → r ≡ same ms ns
same_from_eq {ms = ms} {ns = ns} r d first second =
    same_from_decides r (same ms ns) (decided first (YieldsList-at d.7 second) d.1 d.2 d.8.0 d.5 d.6 d.9.0 d.8.1 d.9.1 (sym (same_from_all_zip _ d.1 d.2 d.10 (λ x y e. sym ((Decides-eqb x y).0 e)))) r d.3 d.4 d.8.2 d.9.2 d.11) (same_decides ms ns)

-- the volumes of a draft's buckets, read row by row
pub read_by_row : (f : Flow → ℕ) (rows : List Row) → map (λ r. f r.flow) rows ≡ map f (flows rows)
read_by_row f [] = refl
read_by_row f (r ∷ rows) = ap (λ ns. f r.flow ∷ ns) (read_by_row f rows)

-- there are two volumes for each flow
as_many_in_all : (fs : List Flow) → length (volumes fs) ≡ 2 * length fs
as_many_in_all fs =
    let both = length-append (column_volumes Green fs) (column_volumes Yellow fs) in
    omega (arith, length-map fs (λ f. grains f.green.volume), length-map fs (λ f. grains f.yellow.volume))

pub fitting_are_even : {B : Type 0} (volume : B → ℕ) (bs : List B) (fs : List Flow) → map volume bs ≡ volumes fs → length bs ≡ 2 * length fs
fitting_are_even volume bs fs fits = sym (length-map bs volume) ∙ ap length fits ∙ as_many_in_all fs

both_fail : (a b : Bool) → b ≡ false → (a && b) ≡ false
both_fail true b e = e
both_fail false b e = refl

first_two : (a b c : Bool) → (a && (b && c)) ≡ ((a && b) && c)
first_two true b c = refl
first_two false b c = refl

-- lists of different lengths are not the same
not_as_many : (ms ns : List ℕ) → (length ms ≡ length ns → ⊥) → same ms ns ≡ false
not_as_many [] [] differ = absurd (differ refl)
not_as_many [] (n ∷ ns) differ = refl
not_as_many (m ∷ ms) [] differ = refl
not_as_many (m ∷ ms) (n ∷ ns) differ = both_fail (eqb m n) _ (not_as_many ms ns (λ e. differ (ap suc e)))

-- the first list is made of two
same_in_halves : (ms ls ns : List ℕ) → length ms ≤ length ns → same (ms ++ ls) ns ≡ (same ms (take (length ms) ns) && same ls (drop (length ms) ns))
same_in_halves [] ls ns room = refl
same_in_halves (m ∷ ms) ls [] room = absurd (omega arith)
same_in_halves (m ∷ ms) ls (n ∷ ns) room = ap (λ b. eqb m n && b) (same_in_halves ms ls ns (omega arith)) ∙ first_two (eqb m n) _ _

-- buckets against the volumes of so many flows: by their number, and then in two halves
module _ {B : Type 0} (volume : B → ℕ) (fs : List Flow) (n : ℕ) (flows_are : n ≡ length fs) (bs : List B) where
  pub yellow_half : length bs ≡ 2 * n → mid_of n (n + n - n) bs ≡ drop n bs
  yellow_half even = take_all (n + n - n) (drop n bs) (omega (arith, length-drop n bs))

  pub wrong_number : (length bs ≡ 2 * n → ⊥) → false ≡ same (volumes fs) (map volume bs)
  wrong_number differ =
      sym (not_as_many _ _ (λ e. differ (sym (length-map bs volume) ∙ sym e ∙ as_many_in_all fs ∙ ap (λ m. 2 * m) (sym flows_are))))

  in_halves : (greens yellows : List B) → length bs ≡ 2 * n → greens ≡ take n bs → yellows ≡ drop n bs → same (volumes fs) (map volume bs) ≡ (same (column_volumes Green fs) (map volume greens) && same (column_volumes Yellow fs) (map volume yellows))
  in_halves greens yellows even first second =
      let many : length (column_volumes Green fs) ≡ n = length-map fs (λ f. grains f.green.volume) ∙ sym flows_are in
      let front : take (length (column_volumes Green fs)) (map volume bs) ≡ map volume greens = ap (λ m. take m (map volume bs)) many ∙ take-map volume n bs ∙ ap (map volume) (sym first) in
      let back : drop (length (column_volumes Green fs)) (map volume bs) ≡ map volume yellows = ap (λ m. drop m (map volume bs)) many ∙ drop-map volume n bs ∙ ap (map volume) (sym second) in
      same_in_halves (column_volumes Green fs) (column_volumes Yellow fs) (map volume bs) (omega (arith, many, length-map bs volume)) ∙ ap₂ (λ xs ys. same (column_volumes Green fs) xs && same (column_volumes Yellow fs) ys) front back

  pub both_fit : (greens yellows : List B) → length bs ≡ 2 * n → greens ≡ take n bs → yellows ≡ drop n bs → (r : Bool) → true ≡ same (column_volumes Green fs) (map volume greens) → r ≡ same (column_volumes Yellow fs) (map volume yellows) → r ≡ same (volumes fs) (map volume bs)
  both_fit greens yellows even first second r fitting told =
      told ∙ sym (in_halves greens yellows even first second ∙ ap (λ b. b && same (column_volumes Yellow fs) (map volume yellows)) (sym fitting))

  pub greens_do_not : (greens yellows : List B) → length bs ≡ 2 * n → greens ≡ take n bs → yellows ≡ drop n bs → false ≡ same (column_volumes Green fs) (map volume greens) → false ≡ same (volumes fs) (map volume bs)
  greens_do_not greens yellows even first second unfitting =
      sym (in_halves greens yellows even first second ∙ ap (λ b. b && same (column_volumes Yellow fs) (map volume yellows)) (sym unfitting))
