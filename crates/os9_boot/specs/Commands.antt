-- What a command does, by how it ended.
use Rattle.os9_words.specs.declared.command.Command.{Command}
use Rattle.boot_run.specs.World.{World}
use Rattle.boot_run.specs.declared.status.End.{End}
use Rattle.os9_boot.specs.Host.{CommandFailsAsReported}
use Rattle.os9_boot.specs.Meaning.{meaning}

-- A command was done, with this end.
pub record CommandCall (command : Command) (before after : World) (end : End) : Type 0 where
  -- its outcome, if that can be observed
  pub comes : (meaning command).comes before after end
  -- and what holds, observed or not
  pub may : (meaning command).may end
  pub devices : (meaning command).devices before after end
  pub host : CommandFailsAsReported command end before after
  pub files : (meaning command).files before after end
