-- What a draft says, and why it does not take a flow or a flag. Assumes nothing.
use Rattle.std.specs.Prelude.{◌+◌, Bool, ◌&&◌, ◌||◌, List, [], ◌∷◌, ◌++◌, length, nat_le, nat_lt}
use Rattle.tokens.specs.Refusals.{Cause}
use Rattle.tokens.specs.Units.{highest_rate}
use Rattle.envelopes.specs.Profiles.{Profile, all_rates, coupled}
use Rattle.envelopes.specs.Stored.{flows, most_flows}
use Rattle.envelopes.specs.declared.draft.Draft.{Draft}
use Rattle.envelopes.specs.declared.flow.Flow.{Flow}
use Rattle.envelopes.specs.declared.row.Row.{Row}

-- a draft's rows by rank
abbrev pub rows_of : Draft → List Row
rows_of d = d.rows.items

-- what a draft says: its flows by rank, and CF0
abbrev pub profile : Draft → Profile
profile d = record { flows = flows (rows_of d); cf0 = d.cf0 }

-- a further flow gets the next higher rank
abbrev pub with_flow : Profile → Flow → Profile
with_flow p f = record { flows = p.flows ++ (f ∷ []); cf0 = p.cf0 }

abbrev pub with_cf0 : Profile → Bool → Profile
with_cf0 p cf0 = record { flows = p.flows; cf0 = cf0 }

-- why a draft is refused a flow, in the order of checking: there are eight; CF0 and a CF would both be 1; the sum of
-- rates, which is the flow's green and yellow rate plus the sum for the flows before it, would be too high
abbrev pub add_causes : Profile → Flow → List Cause
add_causes p f =
    record { applies = nat_le most_flows (length p.flows); number = 4 } ∷
    record { applies = p.cf0 && (coupled p.flows || f.cf); number = 6 } ∷
    record { applies = nat_lt highest_rate (f.green.rate + f.yellow.rate + all_rates p.flows); number = 5 } ∷ []

abbrev pub cf0_causes : Profile → Bool → List Cause
cf0_causes p cf0 = record { applies = cf0 && coupled p.flows; number = 6 } ∷ []
