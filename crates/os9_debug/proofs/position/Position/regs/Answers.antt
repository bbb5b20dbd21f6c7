use Rattle.os9_debug.proofs.Positions.{regs-shown}
use Rattle.os9_debug.proofs.position.Position.regs.Goals as goal

pub returns : goal.returns
returns c = λ course last slices devices at. regs-shown course last slices c.args.self.now devices at c.regs.result (λ s tied. c.regs.ensures devices s tied)
