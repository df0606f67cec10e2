use Rattle.std.proofs.Common.{◌||◌, refl, ◌∙◌, rules, tests}
use Rattle.std.specs.List.{list_any}
use Rattle.std.proofs.lemmas.Iterator.{YieldsList-from_slice}
use Rattle.std.proofs.lemmas.Iterator.Search.{any_from_yields_List}
use Rattle.std.proofs.lemmas.List.Recursion.{same_from_clauses}
use Rattle.envelopes.specs.Drafts.{rows_of}
use Rattle.envelopes.specs.Profiles.{coupled}
use Rattle.envelopes.specs.Stored.{flows}
use Rattle.envelopes.proofs.draft.Draft.is_coupled.Goals as goal

pub returns : goal.returns
returns c =
    let rows = rows_of c.args.self.now in
    let told = any_from_yields_List (λ r. r.flow.cf) _ _ _ c.any.ensures.ran (YieldsList-from_slice rows (c.iter.ensures.rest ∙ c.rows.ensures)) (λ x b q k. search (rules, tests)) in
    told ∙ same_from_clauses (list_any (λ r. r.flow.cf)) (λ rs. coupled (flows rs)) (λ r b. r.flow.cf || b) refl (λ _ _. refl) (λ _ _. refl) rows
