-- No request is refused, and each gets its colour; what is read at last. Assumes nothing.
use Rattle.std.proofs.Common.{◌≡◌, ℕ, zero, suc, ◌+◌, ◌<◌, ◌≤◌, List, [], ◌++◌, get_or, refl, append_assoc, add-one, arith}
use Rattle.tokens.specs.Refusals.{Told, answered}
use Rattle.envelopes.specs.Figures.{the_profile_a}
use Rattle.envelopes.specs.Profiles.{Profile}
use Rattle.envelopes.specs.Promises.{Seen}
use Rattle.envelopes.specs.declared.colour.Colour.{Colour}
use Rattle.envelopes.specs.declared.colour.Colour.TheVariants.{Red}
use Rattle.envelopes.specs.declared.colour.Request.{Request}
use Rattle.profile_a.specs.Day.{first_lines, last_lines, report_text, seen_after, six_colours}
use Rattle.profile_a.specs.Judging.{judge_left, judge_told, read_told}
use Rattle.profile_a.specs.Lines.{colour_line, counts_line, rank_line, request_line}
use Rattle.profile_a.specs.Requests.{request_at}

abbrev pub colour_at_place : ℕ → Colour
colour_at_place i = get_or six_colours i Red

coloured : (i : ℕ) → i < 6 → judge_told the_profile_a (seen_after i) (request_at i) ≡ answered (colour_at_place i)
coloured zero h = refl
coloured (suc zero) h = refl
coloured (suc (suc zero)) h = refl
coloured (suc (suc (suc zero))) h = refl
coloured (suc (suc (suc (suc zero)))) h = refl
coloured (suc (suc (suc (suc (suc zero))))) h = refl
coloured (suc (suc (suc (suc (suc (suc i)))))) h = absurd (omega arith)

-- a request at its place, upon what those before it left
module _ (i : ℕ) (p : Profile) (s : Seen) (q : Request) (small : i < 6) (p_is : p ≡ the_profile_a) (s_is : s ≡ seen_after i) (q_is : q ≡ request_at i) where
  pub request_told_is : judge_told p s q ≡ answered (colour_at_place i)
  request_told_is = cc (coloured i small)

  pub left_is : judge_left p s q ≡ seen_after (i + 1)
  left_is = cc (add-one i)

pub lines_are : (i : ℕ) (q : Request) (told : Told Colour) → q ≡ request_at i → told ≡ answered (colour_at_place i) → (before out after : List ℕ) → out ≡ before ++ first_lines i → after ≡ out ++ request_line (i + 1) q told → after ≡ before ++ first_lines (i + 1)
lines_are i q told q_is told_is before out after out_is after_is = cc (append_assoc before (first_lines i) (colour_line (i + 1) q (colour_at_place i)), add-one i)

abbrev pub counts_at_rank : ℕ → ℕ × ℕ
counts_at_rank zero = (0, 0)
counts_at_rank (suc zero) = (500_000_000, 1_498_000_000)
counts_at_rank (suc (suc i)) = (1_500_000_000, 0)

counted : (rank : ℕ) → 1 ≤ rank → rank ≤ 2 → read_told the_profile_a (seen_after 6) rank ≡ answered (counts_at_rank rank)
counted zero some few = absurd (omega arith)
counted (suc zero) some few = refl
counted (suc (suc zero)) some few = refl
counted (suc (suc (suc i))) some few = absurd (omega arith)

-- a rank, upon what all requests left
pub rank_told_is : (rank i : ℕ) (p : Profile) (s : Seen) → 1 ≤ rank → rank ≤ 2 → i ≡ 6 → p ≡ the_profile_a → s ≡ seen_after i → read_told p s rank ≡ answered (counts_at_rank rank)
rank_told_is rank i p s some few all p_is s_is = cc (counted rank some few)

-- the lines of the ranks below one
abbrev pub lines_below : ℕ → List ℕ
lines_below zero = []
lines_below (suc zero) = []
lines_below (suc (suc i)) = lines_below (suc i) ++ counts_line (suc i) (counts_at_rank (suc i)).0 (counts_at_rank (suc i)).1

pub one_rank_more : (rank : ℕ) (told : Told (ℕ × ℕ)) → 1 ≤ rank → told ≡ answered (counts_at_rank rank) → (before out after : List ℕ) → out ≡ before ++ lines_below rank → after ≡ out ++ rank_line rank told → after ≡ before ++ lines_below (rank + 1)
one_rank_more zero told some told_is before out after out_is after_is = absurd (omega arith)
one_rank_more (suc i) told some told_is before out after out_is after_is =
    cc (append_assoc before (lines_below (suc i)) (counts_line (suc i) (counts_at_rank (suc i)).0 (counts_at_rank (suc i)).1), add-one (suc i))

pub ranks_are : (i rank : ℕ) → i ≡ 6 → rank ≡ 3 → (before out after : List ℕ) → out ≡ before ++ first_lines i → after ≡ out ++ lines_below rank → after ≡ before ++ report_text
ranks_are i rank all both before out after out_is after_is = cc (append_assoc before (first_lines 6) last_lines)
