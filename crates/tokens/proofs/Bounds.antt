-- What a meter lets pass: one call, and any history of calls. Assumes nothing.
use Rattle.std.proofs.Common.{◌≡◌, ℕ, ◌+◌, ◌-◌, ◌*◌, ◌<◌, ◌≤◌, List, [], ◌∷◌, sym, refl, ap, ◌∙◌, subst, arith}
use Rattle.std.proofs.lemmas.Bool.Decides.{nat_tests}
use Rattle.std.specs.List.{AllByRecursion}
use Rattle.tokens.specs.Histories.{Event, History, PassedWithinLevelAndRate, LargerThanBurstNeverPasses, KeepsToLimits, answer, after, charged_tokens, if_yes, tokens_of}
use Rattle.tokens.specs.Meters.{Metered}
use Rattle.tokens.specs.Refusals.{answered}
use Rattle.tokens.specs.Units.{grains}
use Rattle.tokens.specs.declared.calls.Answer.TheVariants.{Yes}
use Rattle.tokens.specs.declared.calls.Call.{Call}
use Rattle.tokens.specs.declared.calls.Call.TheVariants.{Question, Charge, Wait}
use Rattle.tokens.proofs.Products.{gained_in_two_parts}

-- what one call does to a meter
pub record Stepped (m : Metered) (c : Call) : Type 0 where
  pub rate : (after m c).rate ≡ m.rate
  pub burst : (after m c).burst ≡ m.burst
  pub latest : m.latest ≤ (after m c).latest
  pub passes : grains (if_yes (answer m c) (charged_tokens c)) + (after m c).level ≤ m.level + m.rate * ((after m c).latest - m.latest)
  pub smaller : m.burst < tokens_of c → answer m c ≡ answered Yes → ⊥

one_call : (m : Metered) (c : Call) → Stepped m c
one_call m (Question tokens moment) = record { rate = refl; burst = refl; latest = omega arith; passes = grind (arith, nat_tests); smaller = grind (arith, nat_tests) }
one_call m (Charge tokens moment) = record { rate = grind (arith, nat_tests); burst = grind (arith, nat_tests); latest = grind (arith, nat_tests); passes = grind (arith, nat_tests); smaller = grind (arith, nat_tests) }
one_call m (Wait moment) = record { rate = grind (arith, nat_tests); burst = grind (arith, nat_tests); latest = grind (arith, nat_tests); passes = grind (arith, nat_tests); smaller = grind (arith, nat_tests) }

module _ {M : Type 0} (meaning : M → Metered) where
  moment_never_goes_back : (first last : M) (es : List Event) → History meaning first es last → (meaning first).latest ≤ (meaning last).latest
  moment_never_goes_back first last [] h = omega (arith, ap (λ m. m.latest) h)
  moment_never_goes_back first last (e ∷ es) h =
      let step = (one_call (meaning first) e.call).latest in
      let rest = moment_never_goes_back h.0 last es h.2 in omega (arith, ap (λ m. m.latest) h.1.leaves)

  passed_stays_within : PassedWithinLevelAndRate meaning
  passed_stays_within first last [] h = omega arith
  passed_stays_within first last (e ∷ es) h =
      let step = one_call (meaning first) e.call in
      let told = ap (λ t. if_yes t (charged_tokens e.call)) h.1.tells in
      let level = ap (λ m. m.level) h.1.leaves in
      let rate = ap (λ m. m.rate) h.1.leaves ∙ step.rate in
      let latest = ap (λ m. m.latest) h.1.leaves in
      let rest = passed_stays_within h.0 last es h.2 in
      let onward = ap (λ r. r * ((meaning last).latest - (meaning h.0).latest)) rate in
      let early : (meaning first).latest ≤ (meaning h.0).latest = omega (arith, step.latest, latest) in
      let elapsed = ap (λ n. (meaning first).rate * (n - (meaning first).latest)) latest in
      let late = moment_never_goes_back h.0 last es h.2 in
      let whole = gained_in_two_parts (meaning first).rate _ _ _ early late in omega (arith, step.passes)

  larger_never_passes : LargerThanBurstNeverPasses meaning
  larger_never_passes first last [] h = tt
  larger_never_passes first last (e ∷ es) h =
      let step = one_call (meaning first) e.call in
      let burst = ap (λ m. m.burst) h.1.leaves ∙ step.burst in (
        λ larger passes. step.smaller larger (sym h.1.tells ∙ passes),
        subst (λ (b : ℕ). AllByRecursion (λ x. b < tokens_of x.call → x.told ≡ answered Yes → ⊥) es) burst (larger_never_passes h.0 last es h.2),
      )

  pub keeps_to_limits : KeepsToLimits meaning
  keeps_to_limits = record { passed_within_level_and_rate = passed_stays_within; larger_than_burst_never_passes = larger_never_passes }
