use Rattle.std.proofs.Common.{◌<◌, length, rules, sym, tests, ap, ◌∙◌, arith}
use Rattle.std.proofs.lemmas.Bool.Decides.{nat_tests}
use Rattle.std.specs.Option.{option_map}
use Rattle.traces.specs.Bytes.{capped}
use Rattle.traces.proofs.Reading.{folded, number_after, written_some}
use Rattle.traces.proofs.bytes.number.Goals as goal

pub returns : goal.returns
returns c =
    let text = c.args.text.now in
    let some : 0 < length text = grind (arith, nat_tests) in
    let ran = c.try_fold.ensures.ran in
    let read = folded _ _ _ (λ n x v f' k. (search (rules, tests), search (rules, tests))) 0 _ _ _ ran.0 ran.1 ran.2 ran.3 ran.4.0 (omega arith) ran.4.1 ran.4.2 ran.5 ran.6 in
    read ∙ ap (number_after 0) c.iter.ensures.rest ∙ ap (option_map capped) (sym (written_some text some))
