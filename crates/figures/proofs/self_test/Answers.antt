use Rattle.figures.proofs.KnownFigures.{figures_hold}
use Rattle.figures.proofs.self_test.Goals as goal

pub returns-clause-figures : goal.returns-clause-figures
returns-clause-figures c = figures_hold
