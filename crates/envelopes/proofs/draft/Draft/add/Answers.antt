use Rattle.std.proofs.Common.{◌≡◌, ◌+◌, false, ◌&&◌, ◌||◌, List, [], ◌∷◌, ◌++◌, refl, ap, ◌∙◌, arith, rules, tests}
use Rattle.std.proofs.lemmas.List.Recursion.{or_push}
use Rattle.envelopes.specs.Profiles.{all_rates, coupled}
use Rattle.envelopes.specs.Stored.{flows}
use Rattle.envelopes.specs.declared.row.Row.{Row}
use Rattle.envelopes.proofs.draft.Draft.add.Goals as goal

rates_with_one_more : (rows : List Row) (r : Row) → all_rates (flows (rows ++ r ∷ [])) ≡ r.flow.green.rate + r.flow.yellow.rate + all_rates (flows rows)
rates_with_one_more [] r = omega arith
rates_with_one_more (first ∷ rows) r = omega (arith, rates_with_one_more rows r)

pub invariant_of-self-clause-rates : goal.invariant_of-self-clause-rates
invariant_of-self-clause-rates c =
    let stored = ap (λ rs. all_rates (flows rs)) c.push.ensures.items in
    omega (arith, c.if-rates-gt-HIGHEST_RATE.false, c.rates.ensures, c.rates-2.ensures, stored, rates_with_one_more c.args.self.now.rows.items c.args.row)

pub invariant_of-self-clause-not_both : goal.invariant_of-self-clause-not_both
invariant_of-self-clause-not_both c =
    let not_both : (c.args.self.now.cf0 && (coupled (flows c.args.self.now.rows.items) || c.args.row.flow.cf)) ≡ false = search (rules, tests) in
    let stored = ap (λ rs. coupled (flows rs)) c.push.ensures.items in
    let more = or_push (λ rs. coupled (flows rs)) (λ r. r.flow.cf) refl (λ _ _. refl) c.args.self.now.rows.items c.args.row in
    ap (λ b. c.args.self.now.cf0 && b) (stored ∙ more) ∙ not_both
