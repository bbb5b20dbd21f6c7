use Rattle.file_laws.proofs.Keeps.{io-kept}
use Rattle.file_laws.proofs.touches.what_touches_no_device_keeps_input_and_output.Goals as goal

pub returns : goal.returns
returns c = λ it left. io-kept it.processes it.files it.process it.result it.new it.before it.after left
