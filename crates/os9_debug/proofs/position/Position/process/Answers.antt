use Rattle.os9_debug.proofs.position.Position.process.Goals as goal

pub returns-clause-shown : goal.returns-clause-shown
returns-clause-shown c = λ course last slices devices at. at.process
