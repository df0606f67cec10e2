-- A story, retold in moves of the ranks above some rank. Assumes nothing.
use Rattle.std.proofs.Common.{◌≡◌, ℕ, suc, ◌-◌, ◌≤◌, Bool, true, false, cond, eqb, leb, List, [], ◌∷◌, sym, refl, ap, ◌∙◌, subst, arith}
use Rattle.std.proofs.lemmas.Bool.Decides.{nat_tests}
use Rattle.tokens.specs.Refusals.{answered, refused}
use Rattle.envelopes.specs.Colouring.{colour, is_green, spent}
use Rattle.envelopes.specs.Growth.{Counts, grown}
use Rattle.envelopes.specs.Guarantee.{ColouredAlike, requests}
use Rattle.envelopes.specs.Histories.{Verdict, among, moments, those, verdicts}
use Rattle.envelopes.specs.Profiles.{Profile}
use Rattle.envelopes.specs.Promises.{Call, advance, fill, judge, read}
use Rattle.envelopes.specs.declared.colour.Colour.{Colour}
use Rattle.envelopes.specs.declared.colour.Request.{Request}
use Rattle.envelopes.proofs.Above.{Agrees, above, growth_agrees, lower_request_changes_nothing, raised, same_colour, same_green, upper_request_agrees}
use Rattle.envelopes.proofs.Fitting.{growth_by_no_time_changes_nothing, growth_fits, spending_fits}
use Rattle.envelopes.proofs.Moves.{Move, Rising, ask, asks, times, to}
use Rattle.envelopes.proofs.Stories.{Fits, State, Story, at, next}

-- the verdicts upon requests from rank i + 1 up
abbrev from : ℕ → List Call → List Verdict
from i cs = those (λ v. leb (suc i) v.request.rank) (verdicts cs)

-- what the envelope of the ranks above i makes of the moves
abbrev pub played : Profile → ℕ → ℕ → Counts → List Move → List Verdict
played u i latest x [] = []
played u i latest x (to t ∷ ms) = played u i t (grown u (t - latest) x) ms
played u i latest x (ask q ∷ ms) =
    record { request = q; given = colour (raised i q) x } ∷
    played u i latest (spent (raised i q) (colour (raised i q) x) x) ms

-- moves that have the requests of some verdicts and the set of some moments, but for the latest, and colour alike when
-- the ranks above i play them from counts x
pub record Retold (p : Profile) (i latest : ℕ) (x : Counts) (vs : List Verdict) (ts : List ℕ) : Type 0 where
  pub moves : List Move
  pub rising : Rising latest moves
  pub same_requests : asks moves ≡ requests vs
  pub same_times : (t : ℕ) → (t ≡ latest → ⊥) → among t (times moves) ≡ among t ts
  pub coloured : ColouredAlike p.cf0 vs (played (above i p) i latest x moves)

module _ (p : Profile) (i : ℕ) where
  nothing_retold : (latest : ℕ) (x : Counts) → Retold p i latest x [] []
  nothing_retold latest x =
      record {
        moves = [];
        rising = tt;
        same_requests = refl;
        same_times = λ t other. refl;
        coloured = record { green_alike = refl; colour_alike = λ uncoupled. refl };
      }

  -- a moment that is the latest already is no move
  time_retold : (latest t : ℕ) (x : Counts) (vs : List Verdict) (ts : List ℕ) → latest ≤ t → Fits (above i p) x → Retold p i t (grown (above i p) (t - latest) x) vs ts → Retold p i latest x vs (t ∷ ts)
  time_retold latest t x vs ts later fit rest = by (eqb latest t) refl
    where
      by : (b : Bool) → eqb latest t ≡ b → Retold p i latest x vs (t ∷ ts)
      by true same =
          let now : latest ≡ t = grind (arith, nat_tests) in
          let none : t - latest ≡ 0 = omega arith in
          let still : grown (above i p) (t - latest) x ≡ x = ap (λ time. grown (above i p) time x) none ∙ growth_by_no_time_changes_nothing (above i p) x fit in
          let unmoved : played (above i p) i t (grown (above i p) (t - latest) x) rest.moves ≡ played (above i p) i latest x rest.moves = cc in
          record {
            moves = rest.moves;
            rising = subst (λ (l : ℕ). Rising l rest.moves) (sym now) rest.rising;
            same_requests = rest.same_requests;
            same_times = λ v distinct. let later_on = rest.same_times v (λ e. distinct (e ∙ sym now)) in grind (arith, nat_tests);
            coloured = subst (ColouredAlike p.cf0 vs) unmoved rest.coloured;
          }
      by false other =
          record {
            moves = to t ∷ rest.moves;
            rising = (grind (arith, nat_tests), rest.rising);
            same_requests = rest.same_requests;
            same_times = λ v distinct. let later_on = rest.same_times v in grind (arith, nat_tests);
            coloured = rest.coloured;
          }

  -- a request from rank i + 1 up is one
  request_retold : (latest : ℕ) (x : Counts) (q : Request) (given : Colour) (vs : List Verdict) (ts : List ℕ) → q.moment ≡ latest → is_green given ≡ is_green (colour (raised i q) x) → (p.cf0 ≡ false → given ≡ colour (raised i q) x) → Retold p i latest (spent (raised i q) (colour (raised i q) x) x) vs ts → Retold p i latest x (record { request = q; given = given } ∷ vs) ts
  request_retold latest x q given vs ts now green coloured rest =
      record {
        moves = ask q ∷ rest.moves;
        rising = (now, rest.rising);
        same_requests = ap (λ qs. q ∷ qs) rest.same_requests;
        same_times = rest.same_times;
        coloured =
            record {
              green_alike = cc (green, rest.coloured.green_alike);
              colour_alike = λ uncoupled. cc (coloured uncoupled, rest.coloured.colour_alike uncoupled);
            };
      }

  -- a request at the latest moment, of any rank
  module _ (q : Request) (given : Colour) (k x : Counts) (agree : Agrees p i k x) (fit : Fits (above i p) x) (some_rank : 1 ≤ q.rank) (coloured : given ≡ colour q k) (vs : List Verdict) (ts : List ℕ) (rest : (y : Counts) → Agrees p i (spent q given k) y → Fits (above i p) y → Retold p i q.moment y vs ts) where
    by_rank : (b : Bool) → leb (suc i) q.rank ≡ b → Retold p i q.moment x (cond b (record { request = q; given = given } ∷ vs) vs) ts
    by_rank true upper =
        request_retold q.moment x q given vs ts refl (same_green p i q k x agree some_rank given coloured upper) (same_colour p i q k x agree some_rank given coloured upper)
        (rest _ (upper_request_agrees p i q k x agree some_rank given coloured upper) (spending_fits (above i p) x fit (raised i q) _))
    by_rank false lower = rest x (lower_request_changes_nothing p i q k x agree some_rank given lower) fit

  pub retold : (cs : List Call) (s : State) (x : Counts) → Story p s cs → Agrees p i s.counts x → Fits (above i p) x → Retold p i s.latest x (from i cs) (moments cs)
  retold [] s x story agree fit = nothing_retold s.latest x
  retold (fill told ∷ cs) s x story agree fit = retold cs s x story.1 agree fit
  retold (judge q (refused number) ∷ cs) s x story agree fit = retold cs s x story.1 agree fit
  retold (advance t (refused number) ∷ cs) s x story agree fit = retold cs s x story.1 agree fit
  retold (read rank told ∷ cs) s x story agree fit = retold cs s x story.1 agree fit
  retold (advance t (answered done) ∷ cs) s x story agree fit =
      time_retold s.latest t x _ _ story.0 fit
      (retold cs (next p s (advance t (answered done))) _ story.1 (growth_agrees p i (t - s.latest) _ x agree) (growth_fits (above i p) x fit (t - s.latest)))
  retold (judge q (answered given) ∷ cs) s x story agree fit =
      let time = q.moment - s.latest in
      time_retold s.latest q.moment x _ _ story.0.later fit
      (by_rank q given (at p s q.moment) (grown (above i p) time x) (growth_agrees p i time _ x agree) (growth_fits (above i p) x fit time) story.0.some_rank story.0.coloured _ _ (λ y. retold cs (next p s (judge q (answered given))) y story.1) (leb (suc i) q.rank) refl)
