use Rattle.std.proofs.Common.{ap, ◌∙◌}
use Rattle.proc_model.specs.Memory.{free_blocks}
use Rattle.guest_memory.proofs.Naming.{free_blocks-tied}
use Rattle.guest_memory.proofs.Times.{times-two_maps}
use Rattle.guest_memory.proofs.Writing.{represent-written}
use Rattle.guest_memory.proofs.Starting.{last_run}
use Rattle.guest_memory.proofs.MappedGroups.{represent-not_mapped}
use Rattle.guest_memory.proofs.Entered.{entered-ok}
use Rattle.guest_memory.proofs.Leaving.{group-different}
use Rattle.guest_memory.proofs.Directory.{IsSound-left}
use Rattle.guest_memory.proofs.DataArea.{represent-grown}
use Rattle.guest_memory.proofs.Changes.{BeginsAt-kept}
use Rattle.guest_memory.proofs.Runs.{map_without_group-renamed}
use Rattle.guest_memory.proofs.Stores.{StandFor-stored}
use Rattle.guest_memory.proofs.Represented.{StandFor-gains}
use Rattle.guest_memory.proofs.Renamed.{Enters-renamed}
use Rattle.guest_memory.proofs.blocks.free_blocks_are_those_that_nothing_names.Goals as goal

pub returns : goal.returns
returns c = λ pool maps entries m sound tied. ap free_blocks tied.is ∙ free_blocks-tied pool maps entries sound tied.number tied.objects tied.represent
