use Rattle.envelopes.specs.Drafts.{profile}
use Rattle.envelopes.specs.Updates.{additions_of}
use Rattle.envelopes.proofs.Drafted.{as_many_rows}
use Rattle.envelopes.proofs.Gained.{grown_in_halves}
use Rattle.envelopes.proofs.update.update.Goals as goal

pub returns-clause-counts : goal.returns-clause-counts
returns-clause-counts g c =
    let d = c.args.draft.now in
    let halves = c.split_at_mut-greens.ensures in
    let flows = as_many_rows d _ c.rows-flows.ensures in
    grown_in_halves g.B.Bucket.volume g.B.Bucket.count (profile d) c.args.time.micros _ flows c.args.buckets.now _ _ _ _ c.requires halves.front halves.back (additions_of c.work_out-settled.result.0) (additions_of c.work_out-settled.result.1) c.work_out-settled.ensures.green c.work_out-settled.ensures.yellow c.offer_each.ensures.counts c.offer_each-2.ensures.counts
