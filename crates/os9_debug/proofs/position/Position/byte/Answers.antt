use Rattle.std.proofs.Common.{rules}
use Rattle.os9_debug.proofs.Positions.{byte-shown}
use Rattle.os9_debug.proofs.position.Position.byte.Goals as goal

pub returns : goal.returns
returns c = λ course last slices devices at. byte-shown course last slices c.args.self.now devices at c.args.at c.byte.result (search rules) (λ s tied. c.byte.ensures devices s tied)
