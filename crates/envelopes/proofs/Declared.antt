-- Spending from one bucket of a row of buckets, green first. Assumes nothing.
use Rattle.std.proofs.Common.{◌≡◌, ℕ, zero, suc, ◌-◌, ◌<◌, Bool, true, false, cond, leb, List, [], ◌∷◌, ◌++◌, map, length, get_or, take, drop, set, sym, refl, ap, ◌∙◌, arith}
use lib.Seq.{map-set}
use mathlib.Core.List.{map-append}
use Rattle.std.proofs.lemmas.List.{drop-map, take-map}
use Rattle.tokens.specs.Buckets.{covers, spent as spent_from}
use Rattle.envelopes.specs.Colouring.{amount, is_green, is_yellow, lowered, place, spent, yellow_or_red}
use Rattle.envelopes.specs.Promises.{in_a_row, parted}
use Rattle.envelopes.specs.declared.colour.Colour.{Colour}
use Rattle.envelopes.specs.declared.colour.Colour.TheVariants.{Yellow, Red}
use Rattle.envelopes.specs.declared.colour.Request.{Request}
use Rattle.envelopes.proofs.Written.{told_here}

lowered_by_nothing : (i : ℕ) (cs : List ℕ) → lowered i 0 cs ≡ cs
lowered_by_nothing i [] = refl
lowered_by_nothing zero (c ∷ cs) = ap (λ n. n ∷ cs) (omega arith)
lowered_by_nothing (suc i) (c ∷ cs) = ap (λ ds. c ∷ ds) (lowered_by_nothing i cs)

lowered_is_set : (i less : ℕ) (cs : List ℕ) → lowered i less cs ≡ set cs i (get_or cs i 0 - less)
lowered_is_set i less [] = refl
lowered_is_set zero less (c ∷ cs) = refl
lowered_is_set (suc i) less (c ∷ cs) = ap (λ ds. c ∷ ds) (lowered_is_set i less cs)

all_or_nothing : (r : Bool) (before after less : ℕ) → r ≡ covers before less → after ≡ spent_from before less → after ≡ before - cond r less 0
all_or_nothing true before after less told left = cc
all_or_nothing false before after less told left =
    let kept : after ≡ before = cc in omega arith

-- one bucket, copied out, spent from and written back
pub spent_at : {B : Type 0} (count : B → ℕ) (bs : List B) (i amount : ℕ) (r : Bool) (b b' : B) → b ≡ get_or bs i b → i < length bs → r ≡ covers (count b) amount → count b' ≡ spent_from (count b) amount → map count (set bs i b') ≡ lowered i (cond r amount 0) (map count bs)
spent_at count bs i amount r b b' here within told left =
    let held : get_or (map count bs) i 0 ≡ count b = sym (told_here count bs i b (count b) refl here within) in
    let lower = all_or_nothing r (count b) (count b') amount told left in
    map-set count bs i b' ∙ ap (set (map count bs) i) (lower ∙ ap (λ n. n - cond r amount 0) (sym held)) ∙ sym (lowered_is_set i (cond r amount 0) (map count bs))

pub never_green : (amount yellow : ℕ) → is_green (yellow_or_red amount yellow) ≡ false
never_green amount yellow = pick (leb amount yellow)
  where
    pick : (b : Bool) → is_green (cond b Yellow Red) ≡ false
    pick true = refl
    pick false = refl

-- of the buckets `bs` the first half was left as `gs`, and the second as `ys`
pub spent_in_halves : {B : Type 0} (count : B → ℕ) (m n : ℕ) (bs greens yellows gs ys : List B) (q : Request) (given : Colour) → m ≡ n → greens ≡ take m bs → yellows ≡ drop m bs → map count gs ≡ lowered (place q.rank) (cond (is_green given) (amount q) 0) (map count greens) → map count ys ≡ lowered (place q.rank) (cond (is_yellow given) (amount q) 0) (map count yellows) → map count (gs ++ ys) ≡ in_a_row (spent q given (parted n (map count bs)))
spent_in_halves count m n bs greens yellows gs ys q given many first second green yellow =
    let as_first = ap (map count) first ∙ sym (take-map count m bs) in
    let as_second = ap (map count) second ∙ sym (drop-map count m bs) in
    let both = map-append count gs ys in cc

pub untouched : (q : Request) (b : Bool) (cs : List ℕ) → b ≡ false → cs ≡ lowered (place q.rank) (cond b (amount q) 0) cs
untouched q b cs none = sym (ap (λ c. lowered (place q.rank) (cond c (amount q) 0) cs) none ∙ lowered_by_nothing (place q.rank) cs)
