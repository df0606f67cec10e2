use Rattle.std.proofs.Common.{◌≡◌, ◌+◌, ◌≤◌, length, string_bytes}
use Rattle.traces.specs.Bytes.{lines}
use Rattle.traces.specs.Reports.{after_text, none_yet, reported, run}
use Rattle.traces.proofs.report.charge_lines.Given as goal

-- the lines that are left complete the report from where it stands
abbrev pub invariant-loop-line : goal.invariant-loop-line
invariant-loop-line g l =
    let left = lines l.line-iterator.0.now in
    record {
      room : l.run.tally.packets + length left ≤ length l.trace;
      completes : after_text (string_bytes l.initial.out) (reported (run (g.M.Meter.meaning l.fn.meter) none_yet) (lines l.trace)) ≡ after_text (string_bytes l.out) (reported l.run left);
    }
