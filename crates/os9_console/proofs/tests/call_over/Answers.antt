use Rattle.std.proofs.Common.{map}
use Rattle.std.specs.String.{string_bytes}
use Rattle.os9_boot.proofs.RoomLemmas.{free-for}
use Rattle.os9_console.proofs.RoomLemmas.{console-free}
use Rattle.os9_console.proofs.tests.call_over.Goals as goal

pub console_main-status-requires-clause-devices : goal.console_main-status-requires-clause-devices
console_main-status-requires-clause-devices g c = console-free (map string_bytes c.args.words.now) _ c.requires.terminals c.requires.drives

pub os9_main-status-requires : goal.os9_main-status-requires
os9_main-status-requires g c = record { devices = free-for (map string_bytes c.args.words.now) _ c.requires.terminals c.requires.drives }
