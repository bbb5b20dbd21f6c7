-- The parts of a source in which its statements are read.
use Rattle.std.specs.Prelude.{Option, Some, None}
use Rattle.asm_model.specs.Statements.{Action, module_start, module_end, LineRead, skipped, broken, stated}
use Rattle.asm6809.specs.declared.module.Stage.{Stage}
use Rattle.asm6809.specs.declared.module.Stage.TheVariants.{Before, Within, Behind}

abbrev pub within_behind : Action → Option Stage
within_behind (module_start m) = None
within_behind module_end = Some Behind
within_behind _ = Some Within

abbrev pub before_behind : Action → Option Stage
before_behind (module_start m) = Some Within
before_behind _ = None

-- the stage after a statement, if the statement is allowed there
abbrev pub stage_behind : Stage → Action → Option Stage
stage_behind Before action = before_behind action
stage_behind Within action = within_behind action
stage_behind Behind action = None

-- the stage after a line, if its statement is allowed there
abbrev pub stage_after : Stage → LineRead → Option Stage
stage_after stage skipped = Some stage
stage_after stage (broken name) = Some stage
stage_after stage (stated s) = stage_behind stage s.action
