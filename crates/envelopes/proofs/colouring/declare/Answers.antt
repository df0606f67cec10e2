use Rattle.std.proofs.Common.{refl, rules}
use Rattle.envelopes.specs.declared.colour.Colour.TheVariants.{Green, Red}
use Rattle.envelopes.proofs.Declared.{never_green, spent_in_halves, untouched}
use Rattle.envelopes.proofs.Drafted.{as_many_rows}
use Rattle.envelopes.proofs.colouring.declare.Goals as goal

pub returns-then-spend_at-clause-counts : goal.returns-then-spend_at-clause-counts
returns-then-spend_at-clause-counts g c =
    let halves = c.split_at_mut-greens.result in
    spent_in_halves g.B.Bucket.count _ _ c.args.buckets.now halves.0.now _ _ _ c.args.request Green (as_many_rows c.args.draft.now _ c.rows-flows.ensures) c.split_at_mut-greens.ensures.front c.split_at_mut-greens.ensures.back (search rules) (untouched c.args.request _ _ refl)

pub returns-in-Yellow-clause-counts : goal.returns-in-Yellow-clause-counts
returns-in-Yellow-clause-counts g c =
    let halves = c.split_at_mut-greens.result in
    spent_in_halves g.B.Bucket.count _ _ c.args.buckets.now _ halves.1.now _ _ c.args.request c.yellow_or_red-in-Yellow.result (as_many_rows c.args.draft.now _ c.rows-flows.ensures) c.split_at_mut-greens.ensures.front c.split_at_mut-greens.ensures.back (untouched c.args.request _ _ (search (rules, never_green))) (search rules)

pub returns-in-Red-clause-counts : goal.returns-in-Red-clause-counts
returns-in-Red-clause-counts g c =
    spent_in_halves g.B.Bucket.count _ _ c.args.buckets.now _ _ _ _ c.args.request Red (as_many_rows c.args.draft.now _ c.rows-flows.ensures) c.split_at_mut-greens.ensures.front c.split_at_mut-greens.ensures.back (untouched c.args.request _ _ refl) (untouched c.args.request _ _ refl)
