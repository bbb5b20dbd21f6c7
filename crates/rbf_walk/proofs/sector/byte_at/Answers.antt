use Rattle.std.proofs.Common.{◌*◌, ◌+◌, ap, sym}
use Rattle.rbf_walk.proofs.Endings.{entry_byte}
use Rattle.rbf_walk.proofs.sector.byte_at.Goals as goal

pub returns : goal.returns
returns c = sym (entry_byte c.args.sector.now c.args.i c.args.at _ c.requires.within (ap (λ k. 32 * c.args.i + k) c.from.ensures))
