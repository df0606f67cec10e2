use Rattle.envelopes.proofs.Worked.{figures, worked_history}
use Rattle.envelopes.proofs.figures.profile_a.Goals as goal

pub returns-clause-figures : goal.returns-clause-figures
returns-clause-figures c = figures

pub returns-clause-history : goal.returns-clause-history
returns-clause-history c = worked_history
