use Rattle.module_format.proofs.Table.{table_entry}
use Rattle.module_format.proofs.crc.table_word.Goals as goal

pub returns : goal.returns
returns c = table_entry c.args.top c.ranges.top.fits
