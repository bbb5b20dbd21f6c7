use Rattle.std.proofs.Common.{◌≡◌, ◌<◌, Some, length, rules, arith}
use Rattle.proc_model.specs.ModuleList.{free_number, new_entry, with_module_entry}
use Rattle.proc_model.specs.Group.{group_block_numbers}
use Rattle.std.proofs.lemmas.Grind.{common_steps}
use Rattle.proc_model.proofs.ModuleListLaws.{room-with_entry, entry_at-with_entry_same}
use Rattle.module_dir.proofs.dir.Dir.enter.Goals as goal

pub returns-clause-room : goal.returns-clause-room
returns-clause-room c =
    let number : free_number c.args.self.now ≡ Some c.in_ok-id.id.0 = search rules in
    rw c.put.ensures.entered (room-with_entry c.args.self.now c.in_ok-id.id.0 _ number)

pub returns-clause-there : goal.returns-clause-there
returns-clause-there c =
    let inside : c.in_ok-id.id.0 < length c.args.self.now = search rules in
    let entered : c.put.new.self ≡ with_module_entry c.args.self.now c.in_ok-id.id.0 (new_entry c.args.info (group_block_numbers c.args.group) c.args.boot) =
    first_of (search rules, grind (arith, common_steps))
    in rw entered (entry_at-with_entry_same c.args.self.now c.in_ok-id.id.0 (new_entry c.args.info (group_block_numbers c.args.group) c.args.boot) inside)
