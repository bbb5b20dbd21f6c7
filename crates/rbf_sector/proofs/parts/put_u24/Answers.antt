use Rattle.std.proofs.Common.{◌+◌, drop}
use Rattle.rbf_sector.proofs.Written.{puts_number, three_back}
use Rattle.rbf_sector.proofs.parts.put_u24.Goals as goal

pub returns : goal.returns
returns c =
    puts_number c.args.bytes.now c.write_u24.new.buf c.args.at 3 c.args.value c.requires.room (three_back c.args.value (drop (c.args.at + 3) c.args.bytes.now) c.requires.fits) c.write_u24.ensures
