use Rattle.std.proofs.Common.{refl, arith}
use lib.ListN.{length-map}
use Rattle.envelopes.specs.Drafts.{profile}
use Rattle.envelopes.specs.Histories.{sees}
use Rattle.envelopes.specs.Promises.{fill_causes, filled}
use Rattle.envelopes.proofs.Judged.{seen_by_parts}
use Rattle.envelopes.proofs.Kept.{keeps_by_answer, keeps_by_refusal, right_number, wrong_number_refused}
use Rattle.envelopes.proofs.envelope.Envelope.fill.Goals as goal

pub returns-then-buckets-flows-clause-promise : goal.returns-then-buckets-flows-clause-promise
returns-then-buckets-flows-clause-promise g c =
    let self = c.args.self.now in
    let bs = c.args.buckets.now in
    let seen = sees g.B.Bucket.volume g.B.Bucket.count self.latest.micros bs in
    let many = length-map bs g.B.Bucket.volume in
    keeps_by_refusal tt (fill_causes (profile self.draft) seen) 7 _ seen (filled (profile self.draft) seen) _ (wrong_number_refused (profile self.draft) seen (λ e. c.if-buckets-flows.true (omega (arith, e, many, c.flows.ensures)))) refl refl

pub returns-clause-promise : goal.returns-clause-promise
returns-clause-promise g c =
    let self = c.args.self.now in
    let bs = c.args.buckets.now in
    let seen = sees g.B.Bucket.volume g.B.Bucket.count self.latest.micros bs in
    let many = length-map bs g.B.Bucket.volume in
    keeps_by_answer tt (fill_causes (profile self.draft) seen) _ seen (filled (profile self.draft) seen) _ (right_number (profile self.draft) seen (omega (arith, many, c.if-buckets-flows.false, c.flows.ensures))) refl (seen_by_parts _ _ _ (filled (profile self.draft) seen) refl c.make_all.ensures.volumes c.make_all.ensures.counts)
