-- The code's columns are the green and the yellow one. Assumes nothing.
use Rattle.std.proofs.Common.{◌≡◌, ℕ, ◌+◌, ◌*◌, ◌≤◌, false, cond, ◌&&◌, List, [], ◌∷◌, ◌++◌, map, length, get_or, take, drop, sym, refl, ap, ◌∙◌, mul-le-mul, arith, length-drop, length-take-le, get_or-take, take_at, drop_at}
use mathlib.Core.List.{map-append}
use lib.ListN.{length-map}
use Rattle.std.proofs.lemmas.List.{drop-map, get_or-map, take-map}
use Rattle.tokens.specs.Buckets.{added as added_of}
use Rattle.tokens.specs.Units.{day_end, grains, highest_rate}
use Rattle.envelopes.specs.Growth.{Counts, added, green_lanes, green_overflows, grown, handed_down, overflows, risen, to_highest_yellow, yellow_lanes}
use Rattle.envelopes.specs.Income.{income}
use Rattle.envelopes.specs.Profiles.{Profile, all_rates, coupled}
use Rattle.envelopes.specs.Promises.{in_a_row, parted, volumes}
use Rattle.envelopes.specs.Updates.{additions, green_additions, lane, lanes, offered, overflows_of, yellow_additions}
use Rattle.envelopes.specs.declared.column.Column.TheVariants.{Green, Yellow}
use Rattle.envelopes.specs.declared.flow.Flow.{Flow}
use Rattle.envelopes.specs.declared.lane.Lane.{Lane}
use Rattle.envelopes.specs.declared.lane.Settled.{Settled}
use Rattle.envelopes.proofs.Columns.{all_income, green_income_bound}
use Rattle.envelopes.proofs.Fitting.{an_overflow_for_each_flow, greens_held, yellows_held}
use Rattle.envelopes.proofs.Matched.{fitting_are_even}
use Rattle.envelopes.proofs.Stories.{Fits}
use Rattle.envelopes.proofs.Written.{nothing}

pub green_column : (fs : List Flow) (os cs : List ℕ) → length fs ≤ length os → lanes Green fs os cs ≡ green_lanes fs cs
green_column [] os cs room = refl
green_column (f ∷ fs) [] cs room = absurd (omega arith)
green_column (f ∷ fs) (o ∷ os) [] room = refl
green_column (f ∷ fs) (o ∷ os) (c ∷ cs) room = ap (λ ls. lane Green f o c ∷ ls) (green_column fs os cs (omega arith))

-- only as many overflows are read as there are flows
pub yellow_column : (fs : List Flow) (os cs : List ℕ) → lanes Yellow fs os cs ≡ yellow_lanes fs (take (length fs) os) cs
yellow_column [] os cs = refl
yellow_column (f ∷ fs) [] cs = refl
yellow_column (f ∷ fs) (o ∷ os) [] = refl
yellow_column (f ∷ fs) (o ∷ os) (c ∷ cs) = ap (λ ls. lane Yellow f o c ∷ ls) (yellow_column fs os cs)

module _ (p : Profile) (time : ℕ) (k : Counts) (fits : Fits p k) (rates : all_rates p.flows ≤ highest_rate) (day : time ≤ day_end) where
  in_a_day : all_rates p.flows * time ≤ highest_rate * day_end
  in_a_day = mul-le-mul rates day

  module _ (os : List ℕ) (room : length p.flows ≤ length os) where
    here : lanes Green p.flows os k.greens ≡ green_lanes p.flows k.greens
    here = green_column p.flows os k.greens room

    pub green_fits : income time 0 (lanes Green p.flows os k.greens) ≤ highest_rate * day_end
    green_fits = omega (arith, ap (income time 0) here, green_income_bound p time k fits, in_a_day)

    pub greens_added : (adds : List ℕ) → adds ≡ additions time 0 (lanes Green p.flows os k.greens) → adds ≡ green_additions p time k
    greens_added adds told = told ∙ ap (additions time 0) here

    module _ (greens : List Settled) (told : take (length p.flows) (overflows_of greens) ≡ overflows time 0 (lanes Green p.flows os k.greens)) where
      over_is : take (length p.flows) (overflows_of greens) ≡ green_overflows p time k
      over_is = told ∙ ap (overflows time 0) here

      below : lanes Yellow p.flows (overflows_of greens) k.yellows ≡ yellow_lanes p.flows (green_overflows p time k) k.yellows
      below =
          yellow_column p.flows (overflows_of greens) k.yellows ∙ ap (λ xs. yellow_lanes p.flows xs k.yellows) over_is

      module _ (some : 1 ≤ length p.flows) (some_greens : 1 ≤ length greens) (top : ℕ) (handed : top ≡ cond p.cf0 (get_or greens 0 nothing).overflow 0) where
        top_is : top ≡ to_highest_yellow p time k
        top_is =
            let first = get_or-map (λ (s : Settled). s.overflow) greens 0 nothing 0 some_greens in
            handed ∙ ap (λ x. cond p.cf0 x 0) (sym first ∙ sym (get_or-take (length p.flows) (overflows_of greens) 0 0 some) ∙ ap (λ xs. get_or xs 0 0) over_is)

        pub yellow_fits : (p.cf0 && coupled p.flows) ≡ false → income time top (lanes Yellow p.flows (overflows_of greens) k.yellows) ≤ highest_rate * day_end
        yellow_fits lawful =
            let same_top = ap (λ t. income time t (lanes Yellow p.flows (overflows_of greens) k.yellows)) top_is in
            let same_lanes = ap (income time (to_highest_yellow p time k)) below in
            omega (arith, all_income p time k fits lawful, in_a_day)

        pub yellows_added : (adds : List ℕ) → adds ≡ additions time top (lanes Yellow p.flows (overflows_of greens) k.yellows) → adds ≡ yellow_additions p time k
        yellows_added adds came =
            came ∙ ap (λ t. additions time t (lanes Yellow p.flows (overflows_of greens) k.yellows)) top_is ∙ ap (additions time (to_highest_yellow p time k)) below

-- the counts of both columns, read from a bucket for each flow
pub counts_fit : {B : Type 0} (count : B → ℕ) (p : Profile) (first second : List B) → length first ≡ length p.flows → length second ≡ length p.flows → Fits p (record { greens = map count first; yellows = map count second })
counts_fit count p first second greens yellows =
    record { greens = length-map first count ∙ greens; yellows = length-map second count ∙ yellows }

-- the counts of a column, each offered what it adds, have risen
offered_what_it_adds : (time top : ℕ) (ls : List Lane) → offered (map (λ l. grains l.supply.volume) ls) (map (λ l. l.count) ls) (additions time top ls) ≡ risen time top ls
offered_what_it_adds time top [] = refl
offered_what_it_adds time top (l ∷ ls) =
    let first : l.count + added_of (grains l.supply.volume) l.count (added time (handed_down time top ls) l) ≡ l.count + added time (handed_down time top ls) l = omega arith in
    ap (λ c. c ∷ offered (map (λ m. grains m.supply.volume) ls) (map (λ m. m.count) ls) (additions time top ls)) first ∙ ap (λ cs. (l.count + added time (handed_down time top ls) l) ∷ cs) (offered_what_it_adds time top ls)

only_as_many_offered : (vs cs amounts : List ℕ) → offered vs cs amounts ≡ offered vs cs (take (length vs) amounts)
only_as_many_offered [] cs amounts = refl
only_as_many_offered (v ∷ vs) [] amounts = refl
only_as_many_offered (v ∷ vs) (c ∷ cs) [] = refl
only_as_many_offered (v ∷ vs) (c ∷ cs) (a ∷ as') = ap (λ xs. (c + added_of v c a) ∷ xs) (only_as_many_offered vs cs as')

pub offered_is_risen : (time top : ℕ) (ls : List Lane) (vs cs amounts : List ℕ) (n : ℕ) → vs ≡ map (λ l. grains l.supply.volume) ls → cs ≡ map (λ l. l.count) ls → n ≡ length vs → take n amounts ≡ additions time top ls → offered vs cs amounts ≡ risen time top ls
offered_is_risen time top ls vs cs amounts n volumes counts as_many adds =
    only_as_many_offered vs cs amounts ∙ ap (λ m. offered vs cs (take m amounts)) (sym as_many) ∙ ap (offered vs cs) adds ∙ ap (λ xs. offered xs cs (additions time top ls)) volumes ∙ ap (λ xs. offered (map (λ l. grains l.supply.volume) ls) xs (additions time top ls)) counts ∙ offered_what_it_adds time top ls

-- the buckets of a lane have its volume
green_volumes : (fs : List Flow) (cs : List ℕ) → length cs ≡ length fs → map (λ l. grains l.supply.volume) (green_lanes fs cs) ≡ map (λ f. grains f.green.volume) fs
green_volumes [] cs fit = refl
green_volumes (f ∷ fs) [] fit = absurd (omega arith)
green_volumes (f ∷ fs) (c ∷ cs) fit = ap (λ vs. grains f.green.volume ∷ vs) (green_volumes fs cs (omega arith))

yellow_volumes : (fs : List Flow) (os cs : List ℕ) → length os ≡ length fs → length cs ≡ length fs → map (λ l. grains l.supply.volume) (yellow_lanes fs os cs) ≡ map (λ f. grains f.yellow.volume) fs
yellow_volumes [] os cs over fit = refl
yellow_volumes (f ∷ fs) [] cs over fit = absurd (omega arith)
yellow_volumes (f ∷ fs) (o ∷ os) [] over fit = absurd (omega arith)
yellow_volumes (f ∷ fs) (o ∷ os) (c ∷ cs) over fit = ap (λ vs. grains f.yellow.volume ∷ vs) (yellow_volumes fs os cs (omega arith) (omega arith))

-- both columns, each bucket offered what it adds, have grown
module _ (p : Profile) (vs cs : List ℕ) (fit : vs ≡ volumes p.flows) (all_there : length cs ≡ 2 * length p.flows) where
  abbrev n : ℕ
  n = length p.flows

  abbrev k : Counts
  k = parted n cs

  pub parted_fits : Fits p k
  parted_fits = record { greens = length-take-le n cs (omega arith); yellows = omega (arith, length-drop n cs) }

  greens_first : length (map (λ f. grains f.green.volume) p.flows) ≡ n
  greens_first = length-map p.flows _

  module _ (time : ℕ) where
    offered_is_grown : (greens yellows : List ℕ) → take n greens ≡ green_additions p time k → take n yellows ≡ yellow_additions p time k → offered (take n vs) (take n cs) greens ++ offered (drop n vs) (drop n cs) yellows ≡ in_a_row (grown p time k)
    offered_is_grown greens yellows green yellow =
        let green_vs = ap (take n) fit ∙ take_at _ _ n greens_first in
        let yellow_vs = ap (drop n) fit ∙ drop_at _ _ n greens_first in
        let over = an_overflow_for_each_flow p k parted_fits time in
        let green_many : n ≡ length (take n vs) = sym (ap length green_vs ∙ greens_first) in
        let yellow_many : n ≡ length (drop n vs) = sym (ap length yellow_vs ∙ length-map p.flows _) in
        let greens_risen = offered_is_risen time 0 (green_lanes p.flows k.greens) (take n vs) (take n cs) greens n (green_vs ∙ sym (green_volumes _ _ parted_fits.greens)) (sym (greens_held p k parted_fits)) green_many green in
        let yellows_risen = offered_is_risen time (to_highest_yellow p time k) (yellow_lanes p.flows (green_overflows p time k) k.yellows) (drop n vs) (drop n cs) yellows n (yellow_vs ∙ sym (yellow_volumes _ _ _ over parted_fits.yellows)) (sym (yellows_held p k parted_fits time)) yellow_many yellow in
        ap (λ xs. xs ++ offered (drop n vs) (drop n cs) yellows) greens_risen ∙ ap (λ ys. risen time 0 (green_lanes p.flows k.greens) ++ ys) yellows_risen

-- as the code tells it: of the buckets `bs` the first half was left as `gs`, and the second as `ys`
pub grown_in_halves : {B : Type 0} (volume count : B → ℕ) (p : Profile) (time m : ℕ) → m ≡ length p.flows → (bs first second gs ys : List B) → map volume bs ≡ volumes p.flows → first ≡ take m bs → second ≡ drop m bs → (greens yellows : List ℕ) → take (length p.flows) greens ≡ green_additions p time (record { greens = map count first; yellows = map count second }) → take (length p.flows) yellows ≡ yellow_additions p time (record { greens = map count first; yellows = map count second }) → map count gs ≡ offered (map volume first) (map count first) greens → map count ys ≡ offered (map volume second) (map count second) yellows → map count (gs ++ ys) ≡ in_a_row (grown p time (parted (length p.flows) (map count bs)))
grown_in_halves {B = B} volume count p time m as_many bs first second gs ys fit first_is second_is greens yellows green yellow green_told yellow_told =
    let n = length p.flows in
    let even = length-map bs count ∙ fitting_are_even volume bs p.flows fit in
    let first_told = λ (tell : B → ℕ). ap (map tell) (first_is ∙ ap (λ i. take i bs) as_many) ∙ sym (take-map tell n bs) in
    let second_told = λ (tell : B → ℕ). ap (map tell) (second_is ∙ ap (λ i. drop i bs) as_many) ∙ sym (drop-map tell n bs) in
    let before : ◌≡◌ {A = Counts} (record { greens = map count first; yellows = map count second }) (parted n (map count bs)) = cc (first_told count, second_told count) in
    let grows = offered_is_grown p (map volume bs) (map count bs) fit even time greens yellows (green ∙ ap (green_additions p time) before) (yellow ∙ ap (yellow_additions p time) before) in
    cc (map-append count gs ys, first_told volume, first_told count, second_told volume, second_told count)
