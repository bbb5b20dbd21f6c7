use Rattle.os9_debug.proofs.Positions.{start-at, start-goes}
use Rattle.os9_debug.proofs.position.Position.start.Goals as goal

pub returns-clause-goes_on : goal.returns-clause-goes_on
returns-clause-goes_on c = λ slices devices stands few. start-goes c.args.kernel c.requires slices devices stands few

pub returns-clause-at : goal.returns-clause-at
returns-clause-at c = λ boot slices course devices none is tied. start-at c.args.kernel c.requires boot slices course devices none is tied
