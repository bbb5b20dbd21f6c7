use Rattle.std.proofs.Common.{map}
use Rattle.std.specs.String.{string_bytes}
use Rattle.os9_boot.proofs.RoomLemmas.{free-for}
use Rattle.os9.proofs.program.Goals as goal

pub os9_main-requires : goal.os9_main-requires
os9_main-requires g c =
    record { devices = free-for (map string_bytes c.args.words.now) _ c.requires.terminals c.requires.drives }
