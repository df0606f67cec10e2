use borrow.Rule.Slice.PartMut.{mid_of}
use Rattle.std.proofs.Common.{◌+◌, ◌-◌, length, map, take, refl, sym, ap, ◌∙◌, rules}
use Rattle.std.proofs.lemmas.Iterator.{YieldsList-from_map, YieldsList-from_slice}
use Rattle.std.proofs.lemmas.Iterator.Consumers.{YieldsList-at}
use Rattle.tokens.specs.Units.{grains}
use Rattle.envelopes.specs.Drafts.{profile, rows_of}
use Rattle.envelopes.specs.Promises.{same}
use Rattle.envelopes.specs.declared.flow.Flow.{Flow}
use Rattle.envelopes.specs.declared.row.Row.{Row}
use Rattle.envelopes.proofs.Drafted.{as_many_rows}
use Rattle.envelopes.proofs.Matched.{both_fit, greens_do_not, read_by_row, same_from_eq, wrong_number, yellow_half}
use Rattle.envelopes.proofs.buckets.fit.Goals as goal

pub returns-then-buckets-flows : goal.returns-then-buckets-flows
returns-then-buckets-flows g c =
    let d = c.args.draft.now in
    wrong_number g.B.Bucket.volume (profile d).flows _ (as_many_rows d _ c.rows-flows.ensures) _ c.if-buckets-flows.true

pub returns-then-eq : goal.returns-then-eq
returns-then-eq g c =
    let d = c.args.draft.now in
    let n = length c.rows-flows.result.now in
    let green = same_from_eq _ c.eq.ensures.ran (YieldsList-from_map _ (λ (r : Row). grains r.flow.green.volume) (YieldsList-at c.map-green_volumes.ensures.source (YieldsList-from_slice (rows_of d) (c.iter.ensures.rest ∙ c.rows.ensures))) c.map-green_volumes.ensures.closure (λ x r q k. search rules)) (YieldsList-from_map _ g.B.Bucket.volume (YieldsList-at c.map.ensures.source (YieldsList-from_slice _ c.iter-3.ensures.rest)) c.map.ensures.closure (λ x r q k. search rules)) in
    let yellow = same_from_eq _ c.eq-then-eq.ensures.ran (YieldsList-from_map _ (λ (r : Row). grains r.flow.yellow.volume) (YieldsList-at c.map-yellow_volumes.ensures.source (YieldsList-from_slice (rows_of d) (c.iter-2.ensures.rest ∙ c.rows-2.ensures))) c.map-yellow_volumes.ensures.closure (λ x r q k. search rules)) (YieldsList-from_map _ g.B.Bucket.volume (YieldsList-at c.map-then-eq.ensures.source (YieldsList-from_slice _ c.iter-then-eq.ensures.rest)) c.map-then-eq.ensures.closure (λ x r q k. search rules)) in
    both_fit g.B.Bucket.volume (profile d).flows _ (as_many_rows d _ c.rows-flows.ensures) _ _ _ c.if-buckets-flows.false refl (yellow_half g.B.Bucket.volume (profile d).flows _ (as_many_rows d _ c.rows-flows.ensures) _ c.if-buckets-flows.false) _ (sym c.if-eq.true ∙ green ∙ ap (λ vs. same vs (map g.B.Bucket.volume (take n c.args.buckets.now))) (read_by_row (λ (f : Flow). grains f.green.volume) (rows_of d))) (yellow ∙ ap (λ vs. same vs (map g.B.Bucket.volume (mid_of n (n + n - n) c.args.buckets.now))) (read_by_row (λ (f : Flow). grains f.yellow.volume) (rows_of d)))

pub returns-else-eq : goal.returns-else-eq
returns-else-eq g c =
    let d = c.args.draft.now in
    let n = length c.rows-flows.result.now in
    let green = same_from_eq _ c.eq.ensures.ran (YieldsList-from_map _ (λ (r : Row). grains r.flow.green.volume) (YieldsList-at c.map-green_volumes.ensures.source (YieldsList-from_slice (rows_of d) (c.iter.ensures.rest ∙ c.rows.ensures))) c.map-green_volumes.ensures.closure (λ x r q k. search rules)) (YieldsList-from_map _ g.B.Bucket.volume (YieldsList-at c.map.ensures.source (YieldsList-from_slice _ c.iter-3.ensures.rest)) c.map.ensures.closure (λ x r q k. search rules)) in
    c.if-eq.false ∙ greens_do_not g.B.Bucket.volume (profile d).flows _ (as_many_rows d _ c.rows-flows.ensures) _ _ _ c.if-buckets-flows.false refl (yellow_half g.B.Bucket.volume (profile d).flows _ (as_many_rows d _ c.rows-flows.ensures) _ c.if-buckets-flows.false) (sym c.if-eq.false ∙ green ∙ ap (λ vs. same vs (map g.B.Bucket.volume (take n c.args.buckets.now))) (read_by_row (λ (f : Flow). grains f.green.volume) (rows_of d)))
