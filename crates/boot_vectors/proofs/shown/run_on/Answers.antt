use Rattle.std.proofs.Common.{map}
use Rattle.std.specs.String.{string_bytes}
use Rattle.os9_boot.proofs.RoomLemmas.{has-drives}
use Rattle.boot_vectors.proofs.shown.run_on.Goals as goal

pub os9_main-status-requires : goal.os9_main-status-requires
os9_main-status-requires g c = record {
  devices = record {
    terminals = c.requires.terminals;
    room = has-drives (map string_bytes c.as_slice-2.result.now) _ c.requires.room;
  };
}
