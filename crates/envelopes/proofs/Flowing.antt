-- Going through a column from the highest rank down. Assumes nothing.
use Rattle.std.proofs.Common.{◌≡◌, ℕ, zero, suc, ◌+◌, ◌<◌, ◌≤◌, cond, List, [], ◌∷◌, map, length, get_or, take, drop, set, sym, ap, ◌∙◌, subst, arith, length-set, length-take}
use lib.ListN.{length-map}
use lib.Seq.{map-set, take-set-lt}
use Rattle.std.proofs.lemmas.List.{drop_all, drop-set, get_or-map}
use Rattle.envelopes.specs.Growth.{added, coming, handed_down, overflow, overflows}
use Rattle.envelopes.specs.Income.{income}
use Rattle.envelopes.specs.Stored.{flows}
use Rattle.envelopes.specs.Updates.{additions, additions_of, lane, lanes, overflows_of}
use Rattle.envelopes.specs.declared.column.Column.{Column}
use Rattle.envelopes.specs.declared.flow.Flow.{Flow}
use Rattle.envelopes.specs.declared.lane.Lane.{Lane}
use Rattle.envelopes.specs.declared.lane.Settled.{Settled}
use Rattle.envelopes.specs.declared.row.Row.{Row}
use Rattle.envelopes.proofs.Columns.{never_more_than_income}
use Rattle.envelopes.proofs.Descending.{Descending, Places, Turn}
use Rattle.envelopes.proofs.Written.{nothing, told_here}

-- the ranks from place `i` up are settled
pub record Flowing (time top : ℕ) (ls : List Lane) (n i handed : ℕ) (settled : List Settled) : Type 0 where
  pub handed_is : handed ≡ handed_down time top (drop i ls)
  pub added_are : drop i (take n (additions_of settled)) ≡ additions time top (drop i ls)
  pub over_are : drop i (take n (overflows_of settled)) ≡ overflows time top (drop i ls)
  pub room : n ≤ length settled

past_the_end : (n i : ℕ) (xs : List ℕ) → i ≡ n → drop i (take n xs) ≡ []
past_the_end n i xs all = drop_all i (take n xs) (omega (arith, length-take n xs))

pub flowing_none : (time top : ℕ) (ls : List Lane) (n i : ℕ) (settled : List Settled) → i ≡ n → length ls ≤ n → n ≤ length settled → Flowing time top ls n i top settled
flowing_none time top ls n i settled all short room =
    let above = drop_all i ls (omega arith) in
    record {
      handed_is = sym (ap (handed_down time top) above);
      added_are = past_the_end n i _ all ∙ sym (ap (additions time top) above);
      over_are = past_the_end n i _ all ∙ sym (ap (overflows time top) above);
      room = room;
    }

-- one place set, below the places that are settled
one_more_set : (tell : Settled → ℕ) (settled : List Settled) (ys : List ℕ) (n j : ℕ) (s : Settled) → j < n → n ≤ length settled → drop (j + 1) (take n (map tell settled)) ≡ ys → drop j (take n (map tell (set settled j s))) ≡ tell s ∷ ys
one_more_set tell settled ys n j s below room above =
    ap (λ xs. drop j (take n xs)) (map-set tell settled j s) ∙ ap (drop j) (take-set-lt n (map tell settled) j (tell s) below) ∙ drop-set (take n (map tell settled)) j (tell s) (omega (arith, length-take n (map tell settled), length-map settled tell)) ∙ ap (λ zs. tell s ∷ zs) above

module _ (time top : ℕ) (ls : List Lane) (n i j handed : ℕ) (settled : List Settled) (next : i ≡ j + 1) (flowing : Flowing time top ls n i handed settled) (l : Lane) (here : drop j ls ≡ l ∷ drop (j + 1) ls) where
  so_far : Flowing time top ls n (j + 1) handed settled
  so_far = subst (λ (k : ℕ). Flowing time top ls n k handed settled) next flowing

  pub flowing_more : (s : Settled) (h : ℕ) → s.added ≡ added time handed l → s.overflow ≡ overflow time handed l → h ≡ cond l.withheld 0 (overflow time handed l) → j < n → (k : ℕ) → k ≡ j → Flowing time top ls n k h (set settled j s)
  flowing_more s h adds_more over_more hands_down below k at_j =
      let from = so_far.handed_is in
      let more : Flowing time top ls n j h (set settled j s) = record {
        handed_is = hands_down ∙ ap (λ x. cond l.withheld 0 (overflow time x l)) from ∙ sym (ap (handed_down time top) here);
        added_are = one_more_set (λ x. x.added) settled _ n j s below so_far.room so_far.added_are ∙ ap (λ x. x ∷ additions time top (drop (j + 1) ls)) (adds_more ∙ ap (λ x. added time x l) from) ∙ sym (ap (additions time top) here);
        over_are = one_more_set (λ x. x.overflow) settled _ n j s below so_far.room so_far.over_are ∙ ap (λ x. x ∷ overflows time top (drop (j + 1) ls)) (over_more ∙ ap (λ x. overflow time x l) from) ∙ sym (ap (overflows time top) here);
        room = omega (arith, so_far.room, length-set settled j s);
      } in
      subst (λ (m : ℕ). Flowing time top ls n m h (set settled j s)) (sym at_j) more

  income_above : (i : ℕ) (ms : List Lane) → income time top (drop i ms) ≤ income time top ms
  income_above zero ms = omega arith
  income_above (suc i) [] = omega arith
  income_above (suc i) (m ∷ ms) = omega (arith, income_above i ms)

  -- no more comes to a rank than to the whole column
  pub coming_within_income : coming time handed l ≤ income time top ls
  coming_within_income =
      let whole = income_above j ls in
      let this = ap (income time top) here in
      let above = never_more_than_income time top (drop (j + 1) ls) in omega (arith, so_far.handed_is)

-- the lane of a rank
lane_above : (column : Column) (rows : List Row) (os cs : List ℕ) (j : ℕ) (r : Row) → r ≡ get_or rows j r → j < length rows → j < length os → j < length cs → drop j (lanes column (flows rows) os cs) ≡ lane column r.flow (get_or os j 0) (get_or cs j 0) ∷ drop (suc j) (lanes column (flows rows) os cs)
lane_above column [] os cs j r here in_rows in_os in_cs = absurd (omega arith)
lane_above column (x ∷ rows) [] cs j r here in_rows in_os in_cs = absurd (omega arith)
lane_above column (x ∷ rows) (o ∷ os) [] j r here in_rows in_os in_cs = absurd (omega arith)
lane_above column (x ∷ rows) (o ∷ os) (c ∷ cs) zero r here in_rows in_os in_cs = ap (λ y. lane column y.flow o c ∷ lanes column (flows rows) os cs) (sym here)
lane_above column (x ∷ rows) (o ∷ os) (c ∷ cs) (suc j) r here in_rows in_os in_cs = lane_above column rows os cs j r here (omega arith) (omega arith) (omega arith)

pub lane_at : (column : Column) (rows : List Row) (os cs : List ℕ) (j : ℕ) (r : Row) (o c : ℕ) → r ≡ get_or rows j r → o ≡ get_or os j 0 → c ≡ get_or cs j 0 → j < length rows → j < length os → j < length cs → drop j (lanes column (flows rows) os cs) ≡ lane column r.flow o c ∷ drop (j + 1) (lanes column (flows rows) os cs)
lane_at column rows os cs j r o c here over count in_rows in_os in_cs =
    let next : suc j ≡ j + 1 = omega arith in
    let above = lane_above column rows os cs j r here in_rows in_os in_cs in
    above ∙ ap (λ n. lane column r.flow (get_or os j 0) (get_or cs j 0) ∷ drop n (lanes column (flows rows) os cs)) next ∙
    ap (λ x. lane column r.flow x (get_or cs j 0) ∷ drop (j + 1) (lanes column (flows rows) os cs)) (sym over) ∙
    ap (λ x. lane column r.flow o x ∷ drop (j + 1) (lanes column (flows rows) os cs)) (sym count)

pub lanes_are_few : (column : Column) (rows : List Row) (os cs : List ℕ) → length (lanes column (flows rows) os cs) ≤ length rows
lanes_are_few column [] os cs = omega arith
lanes_are_few column (x ∷ rows) [] cs = omega arith
lanes_are_few column (x ∷ rows) (o ∷ os) [] = omega arith
lanes_are_few column (x ∷ rows) (o ∷ os) (c ∷ cs) = omega (arith, lanes_are_few column rows os cs)

-- as the code reads it: a row, its flow, what the green column settled, and a bucket that is told by its count
pub lane_read : {B : Type 0} (count : B → ℕ) (column : Column) (rows : List Row) (greens : List Settled) (bs : List B) (n j : ℕ) (s t : Places Row) (r : Row) (f : Flow) (b : B) (c : ℕ) (l : Lane) → Descending rows n s → Turn rows n j r t → length rows ≤ length greens → length bs ≡ length rows → b ≡ get_or bs j b → f ≡ r.flow → c ≡ count b → l ≡ lane column f (get_or greens j nothing).overflow c → drop j (lanes column (flows rows) (overflows_of greens) (map count bs)) ≡ l ∷ drop (j + 1) (lanes column (flows rows) (overflows_of greens) (map count bs))
lane_read count column rows greens bs n j s t r f b c l down turn room even bucket flow counted made =
    let in_rows : j < length rows = omega (arith, turn.next, down.within) in
    let in_bs : j < length bs = omega (arith, even) in
    let over = sym (get_or-map (λ (s : Settled). s.overflow) greens j nothing 0 (omega arith)) in
    let in_over : j < length (overflows_of greens) = omega (arith, length-map greens (λ (s : Settled). s.overflow)) in
    let held : c ≡ get_or (map count bs) j 0 = told_here count bs j b c counted bucket in_bs in
    let in_counts : j < length (map count bs) = omega (arith, length-map bs count) in
    let whole = lane_at column rows (overflows_of greens) (map count bs) j r _ c turn.item over held in_rows in_over in_counts in
    whole ∙ ap (λ x. x ∷ drop (j + 1) (lanes column (flows rows) (overflows_of greens) (map count bs))) (ap (λ x. lane column x (get_or greens j nothing).overflow c) (sym flow) ∙ sym made)
