use Rattle.std.proofs.Common.{refl}
use Rattle.envelopes.specs.Drafts.{profile}
use Rattle.envelopes.specs.Histories.{sees}
use Rattle.envelopes.proofs.Kept.{keeps_by_refusal, passed_on, read_passed}
use Rattle.envelopes.proofs.Matched.{fitting_are_even}
use Rattle.envelopes.proofs.envelope.Envelope.read.Goals as goal

pub counts_of-requires : goal.counts_of-requires
counts_of-requires g c =
    let self = c.args.self.now in
    let seen = sees g.B.Bucket.volume g.B.Bucket.count self.latest.micros c.args.buckets.now in
    let known = read_passed (profile self.draft) seen c.args.rank c.in_ok-check_read.ensures in
    record { even = fitting_are_even g.B.Bucket.volume _ _ known.0; some_rank = known.1; rank_bound = known.2 }

pub returns-in_err-check_read : goal.returns-in_err-check_read
returns-in_err-check_read g c =
    keeps_by_refusal _ _ _ _ _ _ _ c.in_err-check_read.ensures (passed_on c.from_residual.result _ c.from_residual.ensures.1) refl
