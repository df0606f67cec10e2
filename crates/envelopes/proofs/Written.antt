-- Buckets written one after the other: what is told of them is the new up to a place and the old from there on.
-- Assumes nothing.
use Rattle.std.proofs.Common.{◌≡◌, ℕ, zero, suc, ◌+◌, ◌<◌, ◌≤◌, List, [], ◌∷◌, ◌++◌, map, length, get_or, take, drop, set, sym, refl, ap, ◌∙◌, arith, length-set, length-take-le}
use lib.ListN.{length-map}
use lib.Seq.{append_snoc, get_or_at, map-set, set_at}
use Rattle.std.proofs.lemmas.List.{drop_more, get_or-map, take_more}
use Rattle.tokens.specs.Buckets.{added}
use Rattle.tokens.specs.Units.{grains}
use Rattle.envelopes.specs.Stored.{flows}
use Rattle.envelopes.specs.Updates.{additions_of, column_volumes, offered, supply}
use Rattle.envelopes.specs.declared.column.Column.{Column}
use Rattle.envelopes.specs.declared.flow.Flow.{Flow}
use Rattle.envelopes.specs.declared.flow.Supply.{Supply}
use Rattle.envelopes.specs.declared.lane.Settled.{Settled}
use Rattle.envelopes.specs.declared.row.Row.{Row}

-- what is told of one bucket is what the list tells at its place
pub told_here : {B : Type 0} (tell : B → ℕ) (bs : List B) (i : ℕ) (b : B) (n : ℕ) → n ≡ tell b → b ≡ get_or bs i b → i < length bs → n ≡ get_or (map tell bs) i 0
told_here tell bs i b n told here within = told ∙ ap tell here ∙ sym (get_or-map tell bs i b 0 within)

module _ {B : Type 0} (tell : B → ℕ) (new old : List ℕ) where
  -- the places below `i` are written
  pub record Written (bs : List B) (i : ℕ) : Type 0 where
    pub told : map tell bs ≡ take i new ++ drop i old
    pub as_many : length old ≡ length bs
    pub as_many_new : length new ≡ length bs

  module _ (bs : List B) (i : ℕ) (so_far : Written bs i) (within : i < length bs) where
    written : length (take i new) ≡ i
    written = length-take-le i new (omega (arith, so_far.as_many_new))

    next : take i new ++ drop i old ≡ take i new ++ get_or old i 0 ∷ drop (i + 1) old
    next = ap (λ xs. take i new ++ xs) (drop_more old i 0 (omega (arith, so_far.as_many)))

    pub still_old : (b : B) → b ≡ get_or bs i b → tell b ≡ get_or old i 0
    still_old b here =
        told_here tell bs i b (tell b) refl here within ∙ ap (λ xs. get_or xs i 0) (so_far.told ∙ next) ∙ get_or_at (take i new) (get_or old i 0) _ 0 i written

    pub written_more : (b : B) → tell b ≡ get_or new i 0 → Written (set bs i b) (i + 1)
    written_more b told =
        record {
          told = map-set tell bs i b ∙ ap (λ xs. set xs i (tell b)) (so_far.told ∙ next) ∙ set_at (take i new) (get_or old i 0) _ (tell b) i written ∙ ap (λ x. take i new ++ x ∷ drop (i + 1) old) told ∙ sym (append_snoc _ _ _) ∙ ap (λ xs. xs ++ drop (i + 1) old) (sym (take_more new i 0 (omega (arith, so_far.as_many_new))));
          as_many = so_far.as_many ∙ sym (length-set bs i b);
          as_many_new = so_far.as_many_new ∙ sym (length-set bs i b);
        }

  pub none_written : (bs : List B) → map tell bs ≡ old → length new ≡ length bs → Written bs 0
  none_written bs told as_many =
      record { told = told; as_many = sym (ap length told) ∙ length-map bs tell; as_many_new = as_many }

-- each bucket offered its amount
pub offered_as_many : (vs cs as' : List ℕ) → length vs ≡ length cs → length cs ≤ length as' → length (offered vs cs as') ≡ length cs
offered_as_many [] [] as' even room = refl
offered_as_many [] (c ∷ cs) as' even room = absurd (omega arith)
offered_as_many (v ∷ vs) [] as' even room = refl
offered_as_many (v ∷ vs) (c ∷ cs) [] even room = absurd (omega arith)
offered_as_many (v ∷ vs) (c ∷ cs) (a ∷ as') even room = ap suc (offered_as_many vs cs as' (omega arith) (omega arith))

offered_at : (vs cs as' : List ℕ) (i : ℕ) → i < length vs → i < length cs → i < length as' → get_or (offered vs cs as') i 0 ≡ get_or cs i 0 + added (get_or vs i 0) (get_or cs i 0) (get_or as' i 0)
offered_at [] cs as' i in_vs in_cs in_as = absurd (omega arith)
offered_at (v ∷ vs) [] as' i in_vs in_cs in_as = absurd (omega arith)
offered_at (v ∷ vs) (c ∷ cs) [] i in_vs in_cs in_as = absurd (omega arith)
offered_at (v ∷ vs) (c ∷ cs) (a ∷ as') zero in_vs in_cs in_as = refl
offered_at (v ∷ vs) (c ∷ cs) (a ∷ as') (suc i) in_vs in_cs in_as = offered_at vs cs as' i (omega arith) (omega arith) (omega arith)

-- a place where nothing was settled
abbrev pub nothing : Settled
nothing = record { added = 0; overflow = 0 }

pub offered_here : (vs cs : List ℕ) (settled : List Settled) (i v c n : ℕ) → v ≡ get_or vs i 0 → c ≡ get_or cs i 0 → n ≡ c + added v c (get_or settled i nothing).added → i < length vs → i < length cs → i < length settled → n ≡ get_or (offered vs cs (additions_of settled)) i 0
offered_here vs cs settled i v c n volume count told in_vs in_cs in_settled =
    let amount = get_or-map (λ (s : Settled). s.added) settled i nothing 0 in_settled in
    cc (amount, offered_at vs cs (additions_of settled) i in_vs in_cs (omega (arith, length-map settled (λ (s : Settled). s.added))))

-- the volume that a row gives a bucket
pub volume_here : (column : Column) (rows : List Row) (i : ℕ) (r : Row) (f : Flow) (s : Supply) → r ≡ get_or rows i r → f ≡ r.flow → s ≡ supply column f → i < length rows → grains s.volume ≡ get_or (column_volumes column (flows rows)) i 0
volume_here column rows i r f s row flow supplied within =
    ap (λ x. grains x.volume) supplied ∙ ap (λ x. grains (supply column x).volume) (flow ∙ ap (λ x. x.flow) row ∙ sym (get_or-map (λ x. x.flow) rows i r f within)) ∙ sym (get_or-map (λ x. grains (supply column x).volume) (flows rows) i f 0 (omega (arith, length-map rows (λ (x : Row). x.flow))))
