use Rattle.std.proofs.Common.{◌≡◌, length, sym, refl, ap, ◌∙◌, arith, rules}
use Rattle.envelopes.specs.Drafts.{rows_of}
use Rattle.envelopes.proofs.Descending.{all_left, rest, turn}
use Rattle.envelopes.proofs.Drafted.{as_many_rows, few_rows}
use Rattle.envelopes.proofs.Flowing.{coming_within_income, flowing_more, flowing_none, lane_read, lanes_are_few}
use Rattle.envelopes.proofs.column.flow_down.Goals as goal

pub loop-place-init : goal.loop-place-init
loop-place-init g c =
    let d = c.args.draft.now in
    let all : rest c.into_iter-place-iterator.result ≡ rows_of d = cc in (
      all_left (rows_of d) c.into_iter-place-iterator.result (cc) all,
      flowing_none _ _ _ _ _ _ (ap length all) (lanes_are_few _ (rows_of d) _ _) (few_rows d (rows_of d) refl),
    )

pub settle-here-requires-clause-income : goal.settle-here-requires-clause-income
settle-here-requires-clause-income g c =
    let d = c.args.draft.now in
    let down = c.loop-place.invariant.0 in
    let here = turn (rows_of d) _ _ _ down _ _ _ c.in-Some.is c.next.ensures.steps in
    let lane = lane_read g.B.Bucket.count c.args.column (rows_of d) c.args.greens _ _ _ _ _ _ _ _ _ _ down here (omega (arith, few_rows d (rows_of d) refl)) (c.requires.even ∙ sym (as_many_rows d (rows_of d) refl)) c.index-buckets-place.is c.flow.ensures c.count-count.ensures c.lane-lane.ensures in
    omega (arith, coming_within_income _ _ _ _ _ _ _ _ here.next c.loop-place.invariant.1 _ lane, c.requires.income)

pub loop-place-preserved : goal.loop-place-preserved
loop-place-preserved g c =
    let d = c.args.draft.now in
    let down = c.loop-place.invariant.0 in
    let here = turn (rows_of d) _ _ _ down _ _ _ c.in-Some.is c.next.ensures.steps in
    let lane = lane_read g.B.Bucket.count c.args.column (rows_of d) c.args.greens _ _ _ _ _ _ _ _ _ _ down here (omega (arith, few_rows d (rows_of d) refl)) (c.requires.even ∙ sym (as_many_rows d (rows_of d) refl)) c.index-buckets-place.is c.flow.ensures c.count-count.ensures c.lane-lane.ensures in
    (here.on, flowing_more _ _ _ _ _ _ _ _ here.next c.loop-place.invariant.1 _ lane c.settle-here.result _ c.settle-here.ensures.added c.settle-here.ensures.overflow (search rules) (omega (arith, here.next, down.within)) _ here.left_now)
