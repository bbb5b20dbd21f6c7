use Rattle.file_laws.proofs.CausedAttempts.{refusal-caused}
use Rattle.file_laws.proofs.touches.refusals_on_files_have_their_causes.Goals as goal

pub returns : goal.returns
returns c = λ it number refused. refusal-caused it.call it.processes it.files it.now it.process it.before it.after number it.result it.new it.attempted refused
