use Rattle.std.proofs.Common.{ap, ◌∙◌}
use lib.Seq.{map-set_same}
use Rattle.envelopes.proofs.Declared.{spent_at}
use Rattle.envelopes.proofs.colouring.spend_at.Goals as goal

pub returns-clause-volumes : goal.returns-clause-volumes
returns-clause-volumes g c =
    let volume = g.B.Bucket.volume in
    map-set_same volume _ c.args.place _ _ (c.spend-spent.ensures.volume ∙ ap volume c.index-buckets-place.is)

pub returns-clause-counts : goal.returns-clause-counts
returns-clause-counts g c =
    spent_at g.B.Bucket.count _ c.args.place c.args.amount _ _ _ c.index-buckets-place.is c.requires c.spend-spent.ensures.value c.spend-spent.ensures.count
