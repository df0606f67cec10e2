-- Growth in two times, where nothing has a maximum, is growth in both together. Assumes nothing.
use Rattle.std.proofs.Common.{◌≡◌, ℕ, ◌+◌, false, List, [], ◌∷◌, None, refl, ap, mul-add, arith}
use Rattle.std.proofs.lemmas.Bool.Decides.{nat_tests}
use Rattle.std.specs.List.{AllByRecursion}
use Rattle.envelopes.specs.Growth.{Counts, added, coming, green_lanes, grown, handed_down, limited, overflow, overflows, risen, yellow_lanes}
use Rattle.envelopes.specs.Guarantee.{NoMaximum}
use Rattle.envelopes.specs.Profiles.{Profile}
use Rattle.envelopes.specs.declared.flow.Flow.{Flow}
use Rattle.envelopes.specs.declared.lane.Lane.{Lane}

-- each of some numbers is the sum of two others
data Sums : List ℕ → List ℕ → List ℕ → Type 0 where
  none : Sums [] [] []
  more : {m n o : ℕ} {ms ns os : List ℕ} → o ≡ m + n → Sums ms ns os → Sums (m ∷ ms) (n ∷ ns) (o ∷ os)

module _ (s t : ℕ) where
  -- a column in the first time, in the second, and in both
  record AddsUp (first second both : List Lane) : Type 0 where
    handed : handed_down (s + t) 0 both ≡ handed_down s 0 first + handed_down t 0 second
    over : Sums (overflows s 0 first) (overflows t 0 second) (overflows (s + t) 0 both)
    counts : risen (s + t) 0 both ≡ risen t 0 second

  none_adds_up : AddsUp [] [] []
  none_adds_up = record { handed = refl; over = none; counts = refl }

  -- one rank more, which gets `besides` in the second time and `sum` in both
  module _ (l : Lane) (unlimited : l.supply.maximum ≡ None) (besides sum : ℕ) (besides_add_up : sum ≡ l.besides + besides) (first second both : List Lane) (above : AddsUp first second both) where
    abbrev later : Lane
    later =
        record {
          supply = l.supply;
          besides = besides;
          withheld = l.withheld;
          count = l.count + added s (handed_down s 0 first) l;
        }

    abbrev whole : Lane
    whole = record { supply = l.supply; besides = sum; withheld = l.withheld; count = l.count }

    both_add_up :
        (added (s + t) (handed_down (s + t) 0 both) whole ≡ added s (handed_down s 0 first) l + added t (handed_down t 0 second) later) ×
        (overflow (s + t) (handed_down (s + t) 0 both) whole ≡ overflow s (handed_down s 0 first) l + overflow t (handed_down t 0 second) later)
    both_add_up =
        let free = λ (time n : ℕ). ap (λ m. limited m time n) unlimited in
        let one = free s (coming s (handed_down s 0 first) l) in
        let two = free t (coming t (handed_down t 0 second) later) in
        let three = free (s + t) (coming (s + t) (handed_down (s + t) 0 both) whole) in
        let rates = mul-add l.supply.rate s t in (omega (arith, above.handed), omega (arith, above.handed))

    one_more_adds_up : AddsUp (l ∷ first) (later ∷ second) (whole ∷ both)
    one_more_adds_up =
        let sums = both_add_up in
        let count : l.count + added (s + t) (handed_down (s + t) 0 both) whole ≡ later.count + added t (handed_down t 0 second) later = omega (arith, sums.0) in
        record {
          handed = let over = sums.1 in grind (arith, nat_tests);
          over = more sums.1 above.over;
          counts = cc (count, above.counts);
        }

  greens_add_up : (fs : List Flow) (cs : List ℕ) → AllByRecursion NoMaximum fs → AddsUp (green_lanes fs cs) (green_lanes fs (risen s 0 (green_lanes fs cs))) (green_lanes fs cs)
  greens_add_up [] cs unlimited = none_adds_up
  greens_add_up (f ∷ fs) [] unlimited = none_adds_up
  greens_add_up (f ∷ fs) (c ∷ cs) unlimited =
      one_more_adds_up _ unlimited.0.0 0 0 refl _ _ _ (greens_add_up fs cs unlimited.1)

  yellows_add_up : (fs : List Flow) {ms ns os : List ℕ} (cs : List ℕ) → AllByRecursion NoMaximum fs → Sums ms ns os → AddsUp (yellow_lanes fs ms cs) (yellow_lanes fs ns (risen s 0 (yellow_lanes fs ms cs))) (yellow_lanes fs os cs)
  yellows_add_up [] cs unlimited sums = none_adds_up
  yellows_add_up (f ∷ fs) cs unlimited none = none_adds_up
  yellows_add_up (f ∷ fs) [] unlimited (more sum sums) = none_adds_up
  yellows_add_up (f ∷ fs) (c ∷ cs) unlimited (more sum sums) =
      one_more_adds_up _ unlimited.0.1 _ _ (grind (arith, nat_tests)) _ _ _ (yellows_add_up fs cs unlimited.1 sums)

-- without maxima, and where CF0 is 0
pub growth_in_two_times_adds_up : (s t : ℕ) (fs : List Flow) (k : Counts) → AllByRecursion NoMaximum fs → let p : Profile = record { flows = fs; cf0 = false } in grown p (s + t) k ≡ grown p t (grown p s k)
growth_in_two_times_adds_up s t fs k unlimited =
    let greens = greens_add_up s t fs k.greens unlimited in
    let yellows = yellows_add_up s t fs k.yellows unlimited greens.over in
    cc (greens.counts, yellows.counts)
