use Rattle.std.proofs.Common.{map}
use Rattle.envelopes.specs.Stored.{flows}
use Rattle.envelopes.specs.Updates.{column_volumes}
use Rattle.envelopes.proofs.Written.{Written}
use Rattle.envelopes.proofs.buckets.make_each.Given as goal

abbrev pub invariant-loop-place : goal.invariant-loop-place
invariant-loop-place g l =
    let volume = g.B.Bucket.volume in
    let count = g.B.Bucket.count in
    let full = column_volumes l.column (flows l.rows) in
    Written volume full (map volume l.initial.buckets) l.buckets l.place × Written count full (map count l.initial.buckets) l.buckets l.place
