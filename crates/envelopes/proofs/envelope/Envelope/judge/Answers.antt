use Rattle.std.proofs.Common.{length, refl, ap, ◌∙◌, arith}
use lib.ListN.{length-map}
use Rattle.tokens.specs.Refusals.{answered}
use Rattle.envelopes.specs.Drafts.{profile}
use Rattle.envelopes.specs.Histories.{sees}
use Rattle.envelopes.specs.Promises.{counts_at, in_a_row, judge_causes, judged}
use Rattle.envelopes.proofs.Judged.{colour_told, counts_left, seen_by_parts}
use Rattle.envelopes.proofs.Kept.{keeps_by_answer, keeps_by_refusal, passed_as, passed_on, refused_as, request_passed}
use Rattle.envelopes.proofs.Matched.{fitting_are_even}
use Rattle.envelopes.proofs.envelope.Envelope.judge.Goals as goal

pub returns-in_err-moment-clause-promise : goal.returns-in_err-moment-clause-promise
returns-in_err-moment-clause-promise g c =
    let self = c.args.self.now in
    let causes = judge_causes (profile self.draft) (sees g.B.Bucket.volume g.B.Bucket.count self.latest.micros c.args.buckets.now) c.args.request in
    keeps_by_refusal _ causes _ _ _ _ _ (refused_as c.args.request.moment _ causes c.in_err-moment.ensures) (passed_on c.from_residual.result _ c.from_residual.ensures.1) refl

pub move_to-requires : goal.move_to-requires
move_to-requires g c =
    let self = c.args.self.now in
    let seen = sees g.B.Bucket.volume g.B.Bucket.count self.latest.micros c.args.buckets.now in
    let passed = passed_as c.args.request.moment _ (judge_causes (profile self.draft) seen c.args.request) c.in_ok-moment.ensures in
    (request_passed (profile self.draft) seen c.args.request passed.0).0

pub declare-requires : goal.declare-requires
declare-requires g c =
    let self = c.args.self.now in
    let seen = sees g.B.Bucket.volume g.B.Bucket.count self.latest.micros c.args.buckets.now in
    let passed = passed_as c.args.request.moment _ (judge_causes (profile self.draft) seen c.args.request) c.in_ok-moment.ensures in
    let known = request_passed (profile self.draft) seen c.args.request passed.0 in
    let even = fitting_are_even g.B.Bucket.volume _ _ (c.move_to.ensures.volumes ∙ known.0) in
    let flows = ap (λ d. length (profile d).flows) c.move_to.ensures.draft in
    record { even = omega (arith, even); some_rank = known.1; rank_bound = omega (arith, known.2) }

pub returns-clause-promise : goal.returns-clause-promise
returns-clause-promise g c =
    let self = c.args.self.now in
    let bs = c.args.buckets.now in
    let p = profile self.draft in
    let seen = sees g.B.Bucket.volume g.B.Bucket.count self.latest.micros bs in
    let q = c.args.request in
    let passed = passed_as q.moment _ (judge_causes p seen q) c.in_ok-moment.ensures in
    let fit = (request_passed p seen q passed.0).0 in
    let even = length-map bs g.B.Bucket.count ∙ fitting_are_even g.B.Bucket.volume bs p.flows fit in
    let now = c.move_to.ensures.counts ∙ ap (λ moment. in_a_row (counts_at p seen moment)) passed.1 in
    let flows = ap (λ d. length (profile d).flows) c.move_to.ensures.draft in
    let given = colour_told p seen fit even q _ flows _ now _ c.declare.ensures.value in
    let counts = counts_left p seen fit even q _ flows _ now _ c.declare.ensures.value _ c.declare.ensures.counts in
    keeps_by_answer _ (judge_causes p seen q) _ _ (judged p seen q) _ passed.0 (ap answered given) (seen_by_parts _ _ _ (judged p seen q) (ap (λ time. time.micros) c.move_to.ensures.latest ∙ passed.1) (c.declare.ensures.volumes ∙ c.move_to.ensures.volumes) counts)
