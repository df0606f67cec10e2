use Rattle.std.proofs.Common.{◌≡◌, ◌++◌, string_bytes}
use Rattle.envelopes.specs.Drafts.{profile}
use Rattle.envelopes.specs.Figures.{the_profile_a}
use Rattle.envelopes.specs.Histories.{sees}
use Rattle.profile_a.specs.Day.{first_lines, seen_after}
use Rattle.profile_a.proofs.Colours.{lines_below}
use Rattle.profile_a.proofs.report.run.Given as goal

-- the first `i` requests are judged, and their lines written
abbrev pub invariant-loop-i : goal.invariant-loop-i
invariant-loop-i g l = record {
  draft : profile l.envelope.draft ≡ the_profile_a;
  seen : sees g.B.Bucket.volume g.B.Bucket.count l.envelope.latest.micros l.buckets ≡ seen_after l.i;
  text : string_bytes l.out ≡ string_bytes l.initial.out ++ first_lines l.i;
}

-- the ranks below this one are read, and their lines written
abbrev pub invariant-loop-rank : goal.invariant-loop-rank
invariant-loop-rank g l = string_bytes l.out ≡ string_bytes l.initial.out ++ lines_below l.rank
