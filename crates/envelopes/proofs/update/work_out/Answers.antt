use Rattle.std.proofs.Common.{rules}
use Rattle.envelopes.specs.Drafts.{profile}
use Rattle.envelopes.proofs.Drafted.{few_flows, lawful, rates_within, some_flows}
use Rattle.envelopes.proofs.Gained.{counts_fit, green_fits, greens_added, yellow_fits, yellows_added}
use Rattle.envelopes.proofs.update.work_out.Goals as goal

pub flow_down-green-requires-clause-income : goal.flow_down-green-requires-clause-income
flow_down-green-requires-clause-income g c =
    let d = c.args.draft.now in
    let fits = counts_fit g.B.Bucket.count (profile d) _ _ c.requires.greens c.requires.yellows in
    green_fits (profile d) c.args.time.micros _ fits (rates_within d) c.args.time.within_day _ (few_flows d)

pub flow_down-yellow-requires-clause-income : goal.flow_down-yellow-requires-clause-income
flow_down-yellow-requires-clause-income g c =
    let d = c.args.draft.now in
    let fits = counts_fit g.B.Bucket.count (profile d) _ _ c.requires.greens c.requires.yellows in
    yellow_fits (profile d) c.args.time.micros _ fits (rates_within d) c.args.time.within_day _ (few_flows d) c.flow_down-green.result c.flow_down-green.ensures.over (some_flows d) (search rules) c.if-cf0.top (search rules) (lawful d).not_both_flags

pub returns : goal.returns
returns g c =
    let d = c.args.draft.now in
    let fits = counts_fit g.B.Bucket.count (profile d) _ _ c.requires.greens c.requires.yellows in
    record {
      green = greens_added (profile d) c.args.time.micros _ fits (rates_within d) c.args.time.within_day _ (few_flows d) _ c.flow_down-green.ensures.added;
      yellow = yellows_added (profile d) c.args.time.micros _ fits (rates_within d) c.args.time.within_day _ (few_flows d) c.flow_down-green.result c.flow_down-green.ensures.over (some_flows d) (search rules) c.if-cf0.top (search rules) _ c.flow_down-yellow.ensures.added;
    }
