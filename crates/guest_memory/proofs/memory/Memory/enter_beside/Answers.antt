use Rattle.proc_model.specs.Group.{group_block_numbers}
use Rattle.guest_memory.proofs.EnterCalls.{sound-beside, tied-beside}
use Rattle.guest_memory.proofs.memory.Memory.enter_beside.Goals as goal

pub invariant_of-self : goal.invariant_of-self
invariant_of-self c =
    let m = c.args.self.now in record {
      sound = sound-beside m.pool m.maps.items m.dir m.sound c.args.id.0 c.requires.entered c.enter_module.result.0
          c.enter_module.ensures.number c.args.info (group_block_numbers c.group-group.result)
          c.is_boot-is_boot.result c.group-group.ensures c.is_boot-is_boot.ensures c.enter_module.new.dir
          c.enter_module.ensures.list c.requires.inside c.requires.runs;
    }

pub returns-clause-enters : goal.returns-clause-enters
returns-clause-enters c =
    let m = c.args.self.now in
    tied-beside m.pool m.maps.items m.dir m.sound c.args.id.0 c.requires.entered c.enter_module.result.0
    c.enter_module.ensures.number c.args.info (group_block_numbers c.group-group.result) c.is_boot-is_boot.result
    c.group-group.ensures c.is_boot-is_boot.ensures c.enter_module.new.dir c.enter_module.ensures.list
