use Rattle.functions.proofs.KnownFigures.{figures_hold}
use Rattle.functions.proofs.figures.self_test.Goals as goal

pub returns-clause-figures : goal.returns-clause-figures
returns-clause-figures c = figures_hold
