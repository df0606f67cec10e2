use Rattle.std.proofs.Common.{map}
use Rattle.envelopes.specs.Updates.{additions_of, offered}
use Rattle.envelopes.proofs.Written.{Written}
use Rattle.envelopes.proofs.buckets.offer_each.Given as goal

abbrev pub invariant-loop-place : goal.invariant-loop-place
invariant-loop-place g l =
    let volume = g.B.Bucket.volume in
    let count = g.B.Bucket.count in
    let volumes = map volume l.initial.buckets in
    let counts = map count l.initial.buckets in
    Written volume volumes volumes l.buckets l.place × Written count (offered volumes counts (additions_of l.settled)) counts l.buckets l.place
