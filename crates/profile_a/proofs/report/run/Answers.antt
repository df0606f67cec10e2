use Rattle.std.proofs.Common.{◌≡◌, ◌<◌, List, get_or, ap, ◌∙◌, arith}
use Rattle.envelopes.specs.Drafts.{profile}
use Rattle.envelopes.specs.declared.colour.Request.{Request}
use Rattle.profile_a.proofs.Colours.{left_is, lines_are, one_rank_more, rank_told_is, ranks_are, request_told_is}
use Rattle.profile_a.proofs.Stops.{stops_for_memory}
use Rattle.profile_a.specs.Requests.{asking_green}
use Rattle.profile_a.proofs.report.run.Goals as goal

pub returns-in_err-write_answer : goal.returns-in_err-write_answer
returns-in_err-write_answer g c =
    let inv = c.loop-i.invariant in
    let small : c.loop-i.i < 6 = omega arith in
    let request = ap (λ (xs : List Request). get_or xs c.loop-i.i (asking_green 0 0 0)) c.six_requests.ensures in
    let told = c.judge.ensures.promise.tells ∙ request_told_is _ _ _ _ small inv.draft inv.seen request in
    stops_for_memory _ _ _ _ told c.in_err-write_answer.ensures.goes c.from_residual-in_err-write_answer.ensures.1 _ _ _

pub loop-i-preserved : goal.loop-i-preserved
loop-i-preserved g c =
    let inv = c.loop-i.invariant in
    let small : c.loop-i.i < 6 = omega arith in
    let request = ap (λ (xs : List Request). get_or xs c.loop-i.i (asking_green 0 0 0)) c.six_requests.ensures in
    let promise = c.judge.ensures.promise in
    let told = promise.tells ∙ request_told_is _ _ _ _ small inv.draft inv.seen request in
    record {
      draft = ap profile c.judge.ensures.draft ∙ inv.draft;
      seen = promise.leaves ∙ left_is _ _ _ _ small inv.draft inv.seen request;
      text = lines_are _ _ _ request told _ _ _ inv.text c.in_ok-write_answer.ensures.text;
    }

pub returns-in_err-write_rank : goal.returns-in_err-write_rank
returns-in_err-write_rank g c =
    let inv = c.loop-i.invariant in
    let all : c.loop-i.i ≡ 6 = omega arith in
    let told = c.read.ensures.tells ∙ rank_told_is _ _ _ _ c.loop-rank.auto.rank c.loop-rank-test.true all inv.draft inv.seen in
    stops_for_memory _ _ _ _ told c.in_err-write_rank.ensures.goes c.from_residual-in_err-write_rank.ensures.1 _ _ _

pub loop-rank-preserved : goal.loop-rank-preserved
loop-rank-preserved g c =
    let inv = c.loop-i.invariant in
    let all : c.loop-i.i ≡ 6 = omega arith in
    let told = c.read.ensures.tells ∙ rank_told_is _ _ _ _ c.loop-rank.auto.rank c.loop-rank-test.true all inv.draft inv.seen in
    one_rank_more _ _ c.loop-rank.auto.rank told _ _ _ c.loop-rank.invariant c.in_ok-write_rank.ensures.text

pub returns : goal.returns
returns g c =
    let all : c.loop-i.i ≡ 6 = omega arith in
    let both : c.loop-rank.rank ≡ 3 = omega arith in
    ranks_are _ _ all both _ _ _ c.loop-i.invariant.text c.loop-rank.invariant
