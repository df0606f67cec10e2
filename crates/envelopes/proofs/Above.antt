-- The ranks from some rank up are an envelope of their own, with CF0 0: what the ranks below hold or spend does not
-- change it, but for the yellow counts where CF0 is 1. Assumes nothing.
use Rattle.std.proofs.Common.{◌≡◌, ℕ, suc, ◌+◌, ◌-◌, ◌<◌, ◌≤◌, true, false, cond, leb, List, get_or, drop, ap, ◌∙◌, arith, get_or-drop}
use Rattle.std.proofs.lemmas.List.{drop-map}
use Rattle.std.proofs.lemmas.Bool.Decides.{nat_tests}
use Rattle.envelopes.specs.Colouring.{amount, colour, is_green, is_yellow, place, spent}
use Rattle.envelopes.specs.Growth.{Counts, green_lanes, green_overflows, grown, risen, to_highest_yellow, yellow_lanes}
use Rattle.envelopes.specs.Profiles.{Profile}
use Rattle.envelopes.specs.declared.colour.Colour.{Colour}
use Rattle.envelopes.specs.declared.colour.Request.{Request}
use Rattle.envelopes.proofs.Lowered.{lowered_above, lowered_below}
use Rattle.envelopes.proofs.Suffixes.{counts_above, green_lanes_above, overflows_above, yellow_lanes_above}
use Rattle.envelopes.proofs.Stories.{full}

-- the envelope of the ranks above i, and a request as that envelope would see it
abbrev pub above : ℕ → Profile → Profile
above i p = record { flows = drop i p.flows; cf0 = false }

abbrev pub raised : ℕ → Request → Request
raised i q = record { tokens = q.tokens; moment = q.moment; asked = q.asked; rank = q.rank - i }

-- the counts x are those of k above i; of the yellow ones that is said only where CF0 is 0
pub record Agrees (p : Profile) (i : ℕ) (k x : Counts) : Type 0 where
  pub greens : drop i k.greens ≡ x.greens
  pub yellows : p.cf0 ≡ false → drop i k.yellows ≡ x.yellows

pub growth_agrees : (p : Profile) (i time : ℕ) (k x : Counts) → Agrees p i k x → Agrees p i (grown p time k) (grown (above i p) time x)
growth_agrees p i time k x agree =
    let lanes = green_lanes_above i p.flows k.greens in
    let same_lanes : drop i (green_lanes p.flows k.greens) ≡ green_lanes (drop i p.flows) x.greens = cc (lanes, agree.greens) in
    record {
      greens = counts_above time 0 i _ ∙ ap (risen time 0) same_lanes;
      yellows =
          λ uncoupled.
          let over = overflows_above time 0 i (green_lanes p.flows k.greens) in
          let lanes_above = yellow_lanes_above i p.flows (green_overflows p time k) k.yellows in
          let same_yellow = agree.yellows uncoupled in
          let top : to_highest_yellow p time k ≡ 0 = ap (λ b. cond b (get_or (green_overflows p time k) 0 0) 0) uncoupled in
          let counts = counts_above time (to_highest_yellow p time k) i (yellow_lanes p.flows (green_overflows p time k) k.yellows) in
          cc;
    }

module _ (p : Profile) (i : ℕ) (q : Request) (k x : Counts) (agree : Agrees p i k x) (some_rank : 1 ≤ q.rank) where
  pub lower_request_changes_nothing : (given : Colour) → leb (suc i) q.rank ≡ false → Agrees p i (spent q given k) x
  lower_request_changes_nothing given lower =
      let below : place q.rank < i = grind (arith, nat_tests) in
      record {
        greens = lowered_below i _ _ k.greens below ∙ agree.greens;
        yellows = λ uncoupled. lowered_below i _ _ k.yellows below ∙ agree.yellows uncoupled;
      }

  module _ (given : Colour) (coloured : given ≡ colour q k) (upper : leb (suc i) q.rank ≡ true) where
    same_place : place q.rank ≡ i + place (raised i q).rank
    same_place = grind (arith, nat_tests)

    same_count : (cs ds : List ℕ) → drop i cs ≡ ds → get_or cs (place q.rank) 0 ≡ get_or ds (place (raised i q).rank) 0
    same_count cs ds same = let here = same_place in let there = get_or-drop i cs (place (raised i q).rank) 0 in cc

    pub same_green : is_green given ≡ is_green (colour (raised i q) x)
    same_green =
        let count = same_count k.greens x.greens agree.greens in grind (arith, nat_tests)

    pub same_colour : p.cf0 ≡ false → given ≡ colour (raised i q) x
    same_colour uncoupled =
        let green = same_count k.greens x.greens agree.greens in
        let yellow = same_count k.yellows x.yellows (agree.yellows uncoupled) in cc

    pub upper_request_agrees : Agrees p i (spent q given k) (spent (raised i q) (colour (raised i q) x) x)
    upper_request_agrees =
        let lower = λ (less : ℕ) (cs : List ℕ). lowered_above i (place q.rank) (place (raised i q).rank) less cs same_place in
        record {
          greens =
              let green = same_green in
              cc (agree.greens, lower (cond (is_green given) (amount q) 0) k.greens);
          yellows =
              λ uncoupled.
              let same = same_colour uncoupled in
              cc (agree.yellows uncoupled, lower (cond (is_yellow given) (amount q) 0) k.yellows);
        }

pub full_agrees : (p : Profile) (i : ℕ) → Agrees p i (full p) (full (above i p))
full_agrees p i = record { greens = drop-map _ i p.flows; yellows = λ uncoupled. drop-map _ i p.flows }
