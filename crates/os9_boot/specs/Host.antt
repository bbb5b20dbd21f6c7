-- How the host failed in a call of the program (this project's own).
use Rattle.os9_words.specs.declared.command.Command.{Command}
use Rattle.boot_run.specs.World.{World}
use Rattle.boot_run.specs.Fails.{FailsAsReported as FailsByName}
use Rattle.boot_run.specs.declared.status.End.{End}
use Rattle.os9_boot.specs.Meaning.{meaning}

-- the host failed as the end of the command says, and at every other end it did not fail
abbrev pub CommandFailsAsReported : Command → End → World → World → Type 0
CommandFailsAsReported command end before after = FailsByName (meaning command).file_name end before after
