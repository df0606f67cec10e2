use Rattle.std.proofs.Common.{sym, refl, ◌∙◌}
use Rattle.std.proofs.lemmas.Bool.{false≢true}
use Rattle.tokens.proofs.Bounds.{keeps_to_limits}
use Rattle.tokens.proofs.Forms.{answer_alike, differ, same_all, same_more}
use Rattle.tokens.proofs.calls.alike.Goals as goal

pub returns-then-not-same : goal.returns-then-not-same
returns-then-not-same g c =
    record {
      value = differ _ _ _ _ _ c.loop-call-test.true _ _ _ _ _ _ c.loop-call.invariant c.put-one.ensures.kept c.put-other.ensures.kept (λ told. false≢true (sym c.if-not-same.true ∙ c.same.ensures.1 told));
      law = answer_alike _ _;
      limits = keeps_to_limits _;
    }

pub loop-call-preserved : goal.loop-call-preserved
loop-call-preserved g c =
    same_more _ _ _ _ _ c.loop-call-test.true _ _ _ _ _ _ c.loop-call.invariant c.put-one.ensures.kept c.put-other.ensures.kept (c.same.ensures.0 c.if-not-same.false)

pub returns : goal.returns
returns g c =
    record {
      value = (λ _. same_all _ _ _ _ _ _ c.loop-call-test.false c.loop-call.invariant, λ _. refl);
      law = answer_alike _ _;
      limits = keeps_to_limits _;
    }
