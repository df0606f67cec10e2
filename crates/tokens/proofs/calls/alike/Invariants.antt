use Rattle.tokens.proofs.Forms.{SameSoFar}
use Rattle.tokens.proofs.calls.alike.Given as goal

abbrev pub invariant-loop-call : goal.invariant-loop-call
invariant-loop-call g l =
    SameSoFar (g.M.Meter.meaning l.initial.m) (g.N.Meter.meaning l.initial.n) l.calls (g.M.Meter.meaning l.m) (g.N.Meter.meaning l.n) l.call-index
