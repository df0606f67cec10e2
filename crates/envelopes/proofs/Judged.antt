-- An update and then a colouring are what a judge call promises. Assumes nothing.
use Rattle.std.proofs.Common.{◌≡◌, ℕ, ◌*◌, ◌-◌, List, length, drop, ap, ◌∙◌, take_at, drop_at}
use Rattle.envelopes.specs.Colouring.{colour, spent}
use Rattle.envelopes.specs.Growth.{Counts}
use Rattle.envelopes.specs.Profiles.{Profile}
use Rattle.envelopes.specs.Promises.{Seen, by_rank, colour_at, counts_at, in_a_row, judged, parted, volumes}
use Rattle.envelopes.specs.declared.colour.Colour.{Colour}
use Rattle.envelopes.specs.declared.colour.Request.{Request}
use Rattle.envelopes.proofs.Fitting.{growth_fits}
use Rattle.envelopes.proofs.Stories.{Fits}
use Rattle.envelopes.proofs.Gained.{parted_fits}

module _ (p : Profile) (s : Seen) (fit : s.volumes ≡ volumes p.flows) (even : length s.counts ≡ 2 * length p.flows) (q : Request) where
  abbrev n : ℕ
  n = length p.flows

  abbrev now : Counts
  now = counts_at p s q.moment

  now_fits : Fits p now
  now_fits = growth_fits p (by_rank p s) (parted_fits p s.volumes s.counts fit even) (q.moment - s.latest)

  abbrev of_both : List ℕ → List ℕ → Counts
  of_both greens yellows = record { greens = greens; yellows = yellows }

  module _ (m : ℕ) (as_many : m ≡ n) (counts : List ℕ) (grew : counts ≡ in_a_row now) where
    by_rank_now : parted m counts ≡ now
    by_rank_now =
        ap (λ i. parted i counts) as_many ∙ ap (parted n) grew ∙ ap (λ xs. of_both xs (drop n (in_a_row now))) (take_at now.greens now.yellows n now_fits.greens) ∙ ap (of_both now.greens) (drop_at now.greens now.yellows n now_fits.greens)

    module _ (given : Colour) (told : given ≡ colour q (parted m counts)) where
      pub colour_told : given ≡ colour_at p s q
      colour_told = told ∙ ap (colour q) by_rank_now

      pub counts_left : (after : List ℕ) → after ≡ in_a_row (spent q given (parted m counts)) → after ≡ (judged p s q).counts
      counts_left after left = left ∙ ap (λ k. in_a_row (spent q given k)) by_rank_now ∙ ap (λ c. in_a_row (spent q c now)) colour_told

-- what is seen, by its parts
abbrev seen_of : ℕ → List ℕ → List ℕ → Seen
seen_of latest vs cs = record { latest = latest; volumes = vs; counts = cs }

pub seen_by_parts : (latest : ℕ) (vs cs : List ℕ) (s : Seen) → latest ≡ s.latest → vs ≡ s.volumes → cs ≡ s.counts → seen_of latest vs cs ≡ s
seen_by_parts latest vs cs s same_latest same_volumes same_counts =
    ap (λ t. seen_of t vs cs) same_latest ∙ ap (λ xs. seen_of s.latest xs cs) same_volumes ∙ ap (seen_of s.latest s.volumes) same_counts
