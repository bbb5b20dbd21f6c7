-- The table of the code lists what the definitions say of each postbyte.
use Rattle.std.proofs.Common.{refl, None}
use Rattle.cpu_model.specs.Table as model
use Rattle.cpu_table.proofs.Grid.{flat_at}
use Rattle.cpu_table.proofs.table.postbyte.Goals as goal

pub returns : goal.returns
unfolding model.postbyte model.form_lines
returns c = flat_at model.postbyte _ None refl c.args.post c.ranges.post.fits
