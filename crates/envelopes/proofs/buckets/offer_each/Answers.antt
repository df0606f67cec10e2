use Rattle.std.proofs.Common.{◌<◌, ◌≤◌, length, sym, refl, ap, ◌∙◌, arith, rules}
use lib.ListN.{length-map}
use Rattle.envelopes.specs.declared.lane.Settled.{Settled}
use Rattle.envelopes.proofs.Written.{none_written, offered_as_many, offered_here, still_old, written_more}
use Rattle.envelopes.proofs.buckets.offer_each.Goals as goal

pub loop-place-init : goal.loop-place-init
loop-place-init g c =
    let bs = c.args.buckets.now in
    let room : length c.args.buckets.now ≤ length c.args.settled = search rules in
    let volumes = length-map bs g.B.Bucket.volume in
    let counts = length-map bs g.B.Bucket.count in
    let amounts = length-map c.args.settled (λ (s : Settled). s.added) in (
      none_written _ _ _ bs refl volumes,
      none_written _ _ _ bs refl (offered_as_many _ _ _ (volumes ∙ sym counts) (omega arith) ∙ counts),
    )

pub loop-place-preserved : goal.loop-place-preserved
loop-place-preserved g c =
    let bs = c.args.buckets.now in
    let inv = c.loop-place.invariant in
    let within : c.loop-place.place < length c.loop-place.buckets = search rules in
    let room : c.loop-place.place < length c.args.settled = search rules in
    let volumes = length-map bs g.B.Bucket.volume in
    let counts = length-map bs g.B.Bucket.count in
    let volume = ap g.B.Bucket.volume (sym c.index-buckets-place.is) ∙ still_old _ _ _ _ _ inv.0 within _ c.index-buckets-place.is in
    let count = ap g.B.Bucket.count (sym c.index-buckets-place.is) ∙ still_old _ _ _ _ _ inv.1 within _ c.index-buckets-place.is in
    let told = offered_here _ _ c.args.settled c.loop-place.place _ _ _ volume count c.offer.ensures.count (omega arith) (omega arith) room in (
      written_more _ _ _ _ _ inv.0 within _ (c.offer.ensures.volume ∙ volume),
      written_more _ _ _ _ _ inv.1 within _ told,
    )
