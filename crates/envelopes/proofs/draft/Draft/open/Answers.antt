use Rattle.envelopes.specs.Drafts.{profile}
use Rattle.envelopes.proofs.Drafted.{lawful}
use Rattle.envelopes.proofs.Guaranteed.{share_guarantee}
use Rattle.envelopes.proofs.draft.Draft.open.Goals as goal

pub returns-clause-shares : goal.returns-clause-shares
returns-clause-shares c = share_guarantee _ _ _ (profile c.args.self) (lawful c.args.self)
