-- What holds of the rows of every draft. Assumes nothing.
use Rattle.std.proofs.Common.{◌≡◌, ◌≤◌, List, [], ◌∷◌, length, sym, ap, ◌∙◌, arith}
use lib.ListN.{length-map}
use Rattle.std.specs.List.{AllByRecursion}
use Rattle.tokens.specs.Units.{highest_rate}
use Rattle.envelopes.specs.Drafts.{profile, rows_of}
use Rattle.envelopes.specs.Profiles.{Lawful, ReachesItsRate, all_rates}
use Rattle.envelopes.specs.Stored.{flows, most_flows}
use Rattle.envelopes.specs.declared.draft.Draft.{Draft}
use Rattle.envelopes.specs.declared.row.Row.{Row}

module _ (d : Draft) where
  pub some_flows : 1 ≤ length (profile d).flows
  some_flows = omega (arith, length-map (rows_of d) (λ r. r.flow), d.some)

  pub few_flows : length (profile d).flows ≤ most_flows
  few_flows = omega (arith, length-map (rows_of d) (λ r. r.flow), d.few)

  pub rates_within : all_rates (profile d).flows ≤ highest_rate
  rates_within = d.rates

  module _ (rows : List Row) (told : rows ≡ rows_of d) where
    pub as_many_rows : length rows ≡ length (profile d).flows
    as_many_rows = ap length told ∙ sym (length-map (rows_of d) (λ r. r.flow))

    pub few_rows : length rows ≤ most_flows
    few_rows = omega (arith, as_many_rows, few_flows)

all_reach : (rows : List Row) → AllByRecursion (λ f. ReachesItsRate f.green) (flows rows)
all_reach [] = tt
all_reach (r ∷ rows) = (r.green.reaches, all_reach rows)

pub lawful : (d : Draft) → Lawful (profile d)
lawful d =
    record {
      not_both_flags = d.not_both;
      green_rates_reached = all_reach (rows_of d);
    }
