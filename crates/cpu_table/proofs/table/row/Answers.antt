-- Each page of the code lists what the table of the definitions says of each opcode.
use Rattle.std.proofs.Common.{refl, None}
use Rattle.cpu_model.specs.Table as model
use Rattle.cpu_model.specs.BasePage.{base_page}
use Rattle.cpu_model.specs.TenPage.{ten_page}
use Rattle.cpu_model.specs.ElevenPage.{eleven_page}
use Rattle.cpu_model.specs.declared.instruction.Page.TheVariants.{Base, Ten, Eleven}
use Rattle.cpu_table.proofs.Grid.{grid_at, flat_at}
use Rattle.cpu_table.proofs.table.row.Goals as goal

pub returns-in-Base : goal.returns-in-Base
unfolding model.row base_page
returns-in-Base c = rw c.in-Base.is (flat_at (model.row Base) _ None refl c.args.opcode c.ranges.opcode.fits)

pub returns-in-Ten : goal.returns-in-Ten
unfolding model.row ten_page
returns-in-Ten c = rw c.in-Ten.is (grid_at (model.row Ten) _ None refl c.args.opcode c.ranges.opcode.fits)

pub returns-in-Eleven : goal.returns-in-Eleven
unfolding model.row eleven_page
returns-in-Eleven c = rw c.in-Eleven.is (grid_at (model.row Eleven) _ None refl c.args.opcode c.ranges.opcode.fits)
