use Rattle.std.proofs.Common.{◌+◌, eqb, rules, tests, sym, ◌∙◌}
use Rattle.std.proofs.lemmas.Iterator.{YieldsList-from_slice}
use Rattle.std.proofs.lemmas.Iterator.Search.{position_from_yields_List}
use Rattle.std.proofs.lemmas.List.{take_rest}
use Rattle.traces.proofs.Cutting.{front_at, back_at, front_none, back_none}
use Rattle.traces.proofs.bytes.cut.Goals as goal

pub returns-in-Some : goal.returns-in-Some
returns-in-Some c =
    let text = c.args.text.now in
    let found = position_from_yields_List (λ b. eqb b c.args.separator) _ _ _ c.position.ensures.ran (YieldsList-from_slice text cc) (λ x b q k. search (rules, tests)) in
    let here = sym c.in-Some.is ∙ found in
    record { front = front_at c.args.separator text _ here; back = take_rest text (c.in-Some.i + 1) ∙ back_at c.args.separator text _ here }

pub returns-in-None : goal.returns-in-None
returns-in-None c =
    let text = c.args.text.now in
    let found = position_from_yields_List (λ b. eqb b c.args.separator) _ _ _ c.position.ensures.ran (YieldsList-from_slice text cc) (λ x b q k. search (rules, tests)) in
    let none = sym c.in-None.is ∙ found in
    record { front = front_none c.args.separator text none; back = back_none c.args.separator text none }
