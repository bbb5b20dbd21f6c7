use Rattle.std.proofs.Common.{◌≡◌, ◌<◌, ◌≤◌, length, refl, ◌∙◌, arith}
use Rattle.std.proofs.lemmas.List.{length-take-le}
use Rattle.block_map.specs.TakenBlocks.{group_blocks}
use Rattle.block_pool.specs.Blocks.{free_block_count}
use Rattle.proc_model.specs.Objects.{file_blocks}
use Rattle.guest_memory.proofs.Entered.{entered-no_ram, entered-ok}
use Rattle.guest_memory.proofs.EnterCalls.{sound-enter, tied-enter}
use Rattle.guest_memory.proofs.memory.Memory.enter.Goals as goal

pub returns-then-from-div_ceil-clause-enters : goal.returns-then-from-div_ceil-clause-enters
returns-then-from-div_ceil-clause-enters c =
    let m = c.args.self.now in
    let few : free_block_count m.pool < file_blocks c.args.file.now = omega arith in
    λ before tied. rw (entered-no_ram m.pool m.maps.items m.dir m.sound c.args.file.now c.args.info c.args.is_boot before tied few) (refl, tied)

pub invariant_of-self : goal.invariant_of-self
invariant_of-self c =
    let m = c.args.self.now in
    let group = c.load_group-group.result in
    let size : length (group_blocks group) ≡ group.len = length-take-le group.len group.blocks (omega (arith, group.in_range)) in record {
      sound = sound-enter m.pool c.load_group-group.new.pool m.maps.items m.dir m.sound c.args.file.now
          (group_blocks group) c.load_group-group.ensures.loaded c.enter_module.result.0 c.enter_module.ensures.number
          c.args.info c.args.is_boot c.enter_module.new.dir c.enter_module.ensures.list (omega arith) (omega arith)
          (omega arith) c.requires.runs c.load_group-group.ensures.shape;
    }

pub returns-clause-enters : goal.returns-clause-enters
returns-clause-enters c =
    let m = c.args.self.now in
    let group = c.load_group-group.result in
    let size : length (group_blocks group) ≡ file_blocks c.args.file.now = length-take-le group.len group.blocks (omega (arith, group.in_range)) ∙ c.load_group-group.ensures.blocks in
    let enough : file_blocks c.args.file.now ≤ free_block_count m.pool = omega arith in
    λ before tied. rw (entered-ok m.pool m.maps.items m.dir m.sound c.args.file.now c.args.info c.args.is_boot before tied enough) (
      refl,
      tied-enter m.pool c.load_group-group.new.pool m.maps.items m.dir m.sound c.args.file.now
          (group_blocks group) c.load_group-group.ensures.loaded c.enter_module.result.0 c.enter_module.ensures.number
          c.args.info c.args.is_boot c.enter_module.new.dir c.enter_module.ensures.list size before tied,
    )
