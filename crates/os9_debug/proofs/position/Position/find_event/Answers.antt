use Rattle.os9_debug.proofs.Positions.{found-here, positive}
use Rattle.os9_debug.proofs.position.Position.find_event.Goals as goal

pub returns-else-self-eq0-clause-found : goal.returns-else-self-eq0-clause-found
returns-else-self-eq0-clause-found g c =
    found-here c.args.slices.now c.args.self.now _ c.requires (positive c.args.self.now.slice (λ e. c.if-self-eq0.false e))
