use Rattle.std.proofs.Common.{map, length}
use Rattle.envelopes.specs.Drafts.{rows_of}
use Rattle.envelopes.specs.Stored.{flows}
use Rattle.envelopes.specs.Updates.{lanes, overflows_of}
use Rattle.envelopes.proofs.Descending.{Descending, rest}
use Rattle.envelopes.proofs.Flowing.{Flowing}
use Rattle.envelopes.proofs.column.flow_down.Given as goal

abbrev pub invariant-loop-place : goal.invariant-loop-place
invariant-loop-place g l =
    let rows = rows_of l.draft in
    let n = length (rest l.place-iterator) in
    Descending rows n l.place-iterator × Flowing l.time.micros l.top (lanes l.column (flows rows) (overflows_of l.greens) (map g.B.Bucket.count l.buckets)) (length rows) n l.handed l.settled
