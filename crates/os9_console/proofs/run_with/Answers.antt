use Rattle.std.proofs.Common.{map}
use Rattle.std.specs.String.{string_bytes}
use Rattle.os9_console.proofs.RoomLemmas.{console-free}
use Rattle.os9_console.proofs.run_with.Goals as goal

pub console_main-requires-clause-devices : goal.console_main-requires-clause-devices
console_main-requires-clause-devices g c = console-free (map string_bytes c.args.words.now) _ c.requires.terminals c.requires.drives
