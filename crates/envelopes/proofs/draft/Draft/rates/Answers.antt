use Rattle.std.proofs.Common.{◌≡◌, ◌+◌, sym, refl, ◌∙◌, rules}
use Rattle.std.specs.List.{sum_by}
use Rattle.std.proofs.lemmas.List.Recursion.{is_sum_by}
use Rattle.envelopes.specs.Drafts.{rows_of}
use Rattle.envelopes.specs.Profiles.{all_rates}
use Rattle.envelopes.specs.Stored.{flows}
use Rattle.envelopes.proofs.draft.Draft.rates.Goals as goal

pub returns : goal.returns
returns c =
    let rows = rows_of c.args.self.now in
    let told : c.sum.result ≡ sum_by (λ r. r.flow.green.rate + r.flow.yellow.rate) (rows_of c.args.self.now) = search rules in
    told ∙ sym (is_sum_by (λ rs. all_rates (flows rs)) (λ r. r.flow.green.rate + r.flow.yellow.rate) refl (λ _ _. refl) rows)
