use Rattle.file_laws.proofs.Tables.{paths-kept}
use Rattle.file_laws.proofs.touches.what_touches_no_device_keeps_the_paths_in_order.Goals as goal

pub returns : goal.returns
returns c = λ it left. paths-kept it.processes it.files it.process it.result it.new it.before it.after left
