use Rattle.std.proofs.Common.{◌<◌, length, ◌∙◌, arith, rules}
use Rattle.envelopes.proofs.Drafted.{as_many_rows}
use Rattle.envelopes.proofs.Written.{volume_here, written_more}
use Rattle.envelopes.proofs.buckets.make_each.Goals as goal

pub loop-place-preserved : goal.loop-place-preserved
loop-place-preserved g c =
    let within : c.loop-place.place < length c.loop-place.buckets = search rules in
    let in_rows : c.loop-place.place < length c.rows-rows.result.now = omega (arith, as_many_rows c.args.draft.now _ c.rows-rows.ensures) in
    let volume = volume_here c.args.column c.rows-rows.result.now c.loop-place.place _ _ _ c.index-rows-place.is c.flow.ensures c.supply.ensures in_rows in (
      written_more _ _ _ _ _ c.loop-place.invariant.0 within _ (c.make.ensures.volume ∙ volume),
      written_more _ _ _ _ _ c.loop-place.invariant.1 within _ (c.make.ensures.count ∙ volume),
    )
