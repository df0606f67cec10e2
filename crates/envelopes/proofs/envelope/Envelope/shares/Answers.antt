use Rattle.envelopes.specs.Drafts.{profile}
use Rattle.envelopes.proofs.Drafted.{lawful}
use Rattle.envelopes.proofs.Guaranteed.{share_guarantee}
use Rattle.envelopes.proofs.envelope.Envelope.shares.Goals as goal

pub returns : goal.returns
returns g c = share_guarantee _ _ _ (profile c.args.self.now.draft) (lawful c.args.self.now.draft)
