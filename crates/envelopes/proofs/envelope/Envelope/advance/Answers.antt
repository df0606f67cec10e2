use Rattle.std.proofs.Common.{refl}
use Rattle.tokens.specs.Meters.{moment_causes}
use Rattle.envelopes.specs.Drafts.{profile}
use Rattle.envelopes.specs.Histories.{sees}
use Rattle.envelopes.specs.Promises.{advance_causes}
use Rattle.envelopes.proofs.Kept.{buckets_passed, keeps_by_refusal, passed_as, passed_on, refused_as}
use Rattle.envelopes.proofs.envelope.Envelope.advance.Goals as goal

pub move_to-requires : goal.move_to-requires
move_to-requires g c =
    let self = c.args.self.now in
    let seen = sees g.B.Bucket.volume g.B.Bucket.count self.latest.micros c.args.buckets.now in
    let passed = passed_as c.args.moment _ (advance_causes (profile self.draft) seen c.args.moment) c.in_ok-moment.ensures in
    (buckets_passed (profile self.draft) seen (moment_causes self.latest.micros c.args.moment) passed.0).0

pub returns-in_err-moment-clause-promise : goal.returns-in_err-moment-clause-promise
returns-in_err-moment-clause-promise g c =
    let self = c.args.self.now in
    let causes = advance_causes (profile self.draft) (sees g.B.Bucket.volume g.B.Bucket.count self.latest.micros c.args.buckets.now) c.args.moment in
    keeps_by_refusal _ causes _ _ _ _ _ (refused_as c.args.moment _ causes c.in_err-moment.ensures) (passed_on c.from_residual.result _ c.from_residual.ensures.1) refl
