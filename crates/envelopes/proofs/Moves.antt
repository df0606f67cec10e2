-- A story from some rank up, in moves: to a moment later than the latest, or a request at the latest moment. The
-- requests and the set of moments decide the moves. Assumes nothing.
use Rattle.std.proofs.Common.{◌≡◌, ℕ, ◌<◌, ◌≤◌, false, ◌||◌, eqb, List, [], ◌∷◌, sym, refl, ap, subst, arith}
use Rattle.std.proofs.lemmas.Bool.Decides.{nat_tests}
use Rattle.envelopes.specs.Histories.{among}
use Rattle.envelopes.specs.declared.colour.Request.{Request}

pub data Move : Type 0 where
  to : ℕ → Move
  ask : Request → Move

abbrev pub times : List Move → List ℕ
times [] = []
times (to t ∷ ms) = t ∷ times ms
times (ask q ∷ ms) = times ms

abbrev pub asks : List Move → List Request
asks [] = []
asks (to t ∷ ms) = asks ms
asks (ask q ∷ ms) = q ∷ asks ms

-- from a latest moment on
abbrev pub Rising : ℕ → List Move → Type 0
Rising latest [] = Unit {0}
Rising latest (to t ∷ ms) = (latest < t) × Rising t ms
Rising latest (ask q ∷ ms) = (q.moment ≡ latest) × Rising latest ms

-- neither a time nor a request goes back
no_earlier_time : (t latest : ℕ) (ms : List Move) → Rising latest ms → t ≤ latest → among t (times ms) ≡ false
no_earlier_time t latest [] rising early = refl
no_earlier_time t latest (to u ∷ ms) rising early =
    let later = rising.0 in
    let rest = no_earlier_time t u ms rising.1 (omega arith) in grind (arith, nat_tests)
no_earlier_time t latest (ask q ∷ ms) rising early = no_earlier_time t latest ms rising.1 early

no_earlier_request : (latest : ℕ) (ms : List Move) (q : Request) (qs : List Request) → Rising latest ms → asks ms ≡ q ∷ qs → latest ≤ q.moment
no_earlier_request latest [] q qs rising same = grind (arith, nat_tests)
no_earlier_request latest (to t ∷ ms) q qs rising same =
    let later = rising.0 in
    let rest = no_earlier_request t ms q qs rising.1 same in omega arith
no_earlier_request latest (ask r ∷ ms) q qs rising same =
    let first : r ≡ q = cc in omega (arith, ap (λ r. r.moment) first, rising.0)

-- the same times after a moment: where the first of one is a time, so is the first of the other, and the same
abbrev SameTimes : ℕ → List Move → List Move → Type 0
SameTimes latest ms ns = (t : ℕ) → latest < t → among t (times ms) ≡ among t (times ns)

time_against_none : (latest t : ℕ) (ms : List Move) → latest < t → SameTimes latest (to t ∷ ms) [] → ⊥
time_against_none latest t ms later same =
    let here : (eqb t t || among t (times ms)) ≡ false = same t later in grind (arith, nat_tests)

time_against_request : (latest t : ℕ) (ms : List Move) (q : Request) (qs : List Request) → latest < t → Rising t ms → q.moment ≡ latest → asks ms ≡ q ∷ qs → ⊥
time_against_request latest t ms q qs later rising now same = let late = no_earlier_request t ms q qs rising same in omega arith

same_first_time : (latest t u : ℕ) (ms ns : List Move) → latest < t → latest < u → Rising t ms → Rising u ns → SameTimes latest (to t ∷ ms) (to u ∷ ns) → t ≡ u
same_first_time latest t u ms ns t_later u_later t_rising u_rising same =
    let t_missing = no_earlier_time t u ns u_rising in
    let u_missing = no_earlier_time u t ms t_rising in
    let at_t : (eqb t t || among t (times ms)) ≡ (eqb t u || among t (times ns)) = same t t_later in
    let at_u : (eqb u t || among u (times ms)) ≡ (eqb u u || among u (times ns)) = same u u_later in
    grind (arith, nat_tests)

same_times_after : (latest t : ℕ) (ms ns : List Move) → latest < t → SameTimes latest (to t ∷ ms) (to t ∷ ns) → SameTimes t ms ns
same_times_after latest t ms ns later same v late =
    let here : (eqb v t || among v (times ms)) ≡ (eqb v t || among v (times ns)) = same v (omega arith) in
    grind (arith, nat_tests)

pub same_requests_and_times_same_moves : (latest : ℕ) (ms ns : List Move) → Rising latest ms → Rising latest ns → asks ms ≡ asks ns → SameTimes latest ms ns → ms ≡ ns
same_requests_and_times_same_moves latest [] [] m_rising n_rising requests same = refl
same_requests_and_times_same_moves latest [] (to u ∷ ns) m_rising n_rising requests same =
    absurd (time_against_none latest u ns n_rising.0 (λ t later. sym (same t later)))
same_requests_and_times_same_moves latest [] (ask r ∷ ns) m_rising n_rising requests same = cc
same_requests_and_times_same_moves latest (to t ∷ ms) [] m_rising n_rising requests same =
    absurd (time_against_none latest t ms m_rising.0 same)
same_requests_and_times_same_moves latest (to t ∷ ms) (to u ∷ ns) m_rising n_rising requests same =
    let first = same_first_time latest t u ms ns m_rising.0 n_rising.0 m_rising.1 n_rising.1 same in
    let onward = subst (λ (v : ℕ). SameTimes latest (to t ∷ ms) (to v ∷ ns)) (sym first) same in
    let rising = subst (λ (v : ℕ). Rising v ns) (sym first) n_rising.1 in
    let rest = same_requests_and_times_same_moves t ms ns m_rising.1 rising requests (same_times_after latest t ms ns m_rising.0 onward) in
    cc
same_requests_and_times_same_moves latest (to t ∷ ms) (ask r ∷ ns) m_rising n_rising requests same =
    absurd (time_against_request latest t ms r _ m_rising.0 m_rising.1 n_rising.0 requests)
same_requests_and_times_same_moves latest (ask q ∷ ms) [] m_rising n_rising requests same = cc
same_requests_and_times_same_moves latest (ask q ∷ ms) (to u ∷ ns) m_rising n_rising requests same =
    absurd (time_against_request latest u ns q _ n_rising.0 n_rising.1 m_rising.0 (sym requests))
same_requests_and_times_same_moves latest (ask q ∷ ms) (ask r ∷ ns) m_rising n_rising requests same =
    let first : q ≡ r = cc in
    let later : asks ms ≡ asks ns = cc in
    let rest = same_requests_and_times_same_moves latest ms ns m_rising.1 n_rising.1 later same in cc
