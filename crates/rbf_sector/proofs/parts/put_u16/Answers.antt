use Rattle.std.proofs.Common.{◌+◌, drop, arith}
use Rattle.rbf_sector.proofs.Written.{puts_number, two_back}
use Rattle.rbf_sector.proofs.parts.put_u16.Goals as goal

pub returns : goal.returns
returns c =
    puts_number c.args.bytes.now c.write_u16.new.buf c.args.at 2 c.args.value c.requires (two_back c.args.value (drop (c.args.at + 2) c.args.bytes.now) (omega arith)) c.write_u16.ensures
