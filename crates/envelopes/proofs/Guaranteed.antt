-- The share guarantee of every lawful profile. Assumes nothing.
use Rattle.tokens.specs.Meters.{Metered}
use Rattle.envelopes.specs.Guarantee.{ShareGuarantee}
use Rattle.envelopes.specs.Histories.{Kind}
use Rattle.envelopes.specs.Profiles.{Lawful, Profile}
use Rattle.envelopes.proofs.Bounds.{all_bound_between, green_bound_between}
use Rattle.envelopes.proofs.Independence.{same_moments_colour_alike, without_maxima_colour_alike}
use Rattle.envelopes.proofs.LoneMeter.{lone_meter}

pub share_guarantee : {B C M : Type 0} (b_kind : Kind B) (c_kind : Kind C) (meaning : M → Metered) (p : Profile) → Lawful p → ShareGuarantee b_kind c_kind meaning p
share_guarantee b_kind c_kind meaning p lawful =
    record {
      green_tokens_stay_within_count_and_rate = green_bound_between b_kind p;
      all_tokens_stay_within_all_counts_and_rates = all_bound_between b_kind p lawful;
      what_a_lone_meter_passes_is_green = lone_meter b_kind meaning p lawful;
      lower_flows_do_not_change_colours_above = same_moments_colour_alike b_kind c_kind p;
      without_maxima_other_moments_do_not_matter = without_maxima_colour_alike b_kind c_kind p;
    }
