-- The flows that rows are of, and how many there are at most. Assumes nothing.
use Rattle.std.specs.Prelude.{ℕ, List, map}
use Rattle.envelopes.specs.declared.flow.Flow.{Flow}
use Rattle.envelopes.specs.declared.row.Row.{Row}

abbrev pub most_flows : ℕ
most_flows = 8

abbrev pub flows : List Row → List Flow
flows rows = map (λ r. r.flow) rows
