use Rattle.std.proofs.Common.{◌≡◌, ◌+◌, ◌≤◌, ℕ, List, length, refl, ap, ◌∙◌, arith}
use Rattle.std.specs.Vec.{with_item}
use Rattle.std.proofs.lemmas.List.{length-map}
use Rattle.block_map.specs.TakenBlocks.{group_blocks}
use Rattle.block_pool.specs.Blocks.{free_block_count}
use Rattle.proc_model.specs.declared.group.BlockId.{BlockId}
use Rattle.proc_model.specs.Slots.{Slots}
use Rattle.guest_memory.proofs.Keeping.{map_of}
use Rattle.guest_memory.proofs.Areas.{area-fits}
use Rattle.guest_memory.proofs.MapCalls.{is_map_of, live}
use Rattle.guest_memory.proofs.GroupCalls.{many, same}
use Rattle.guest_memory.proofs.StartCalls.{links_of, started-no_ram, started-ok, start-may, sound-start, start-low, tied-start}
use Rattle.guest_memory.specs.declared.memory.Memory.{Memory}
use Rattle.guest_memory.proofs.memory.Memory.start.Goals as goal

pub returns-then-free_blocks-from-clause-starts : goal.returns-then-free_blocks-from-clause-starts
returns-then-free_blocks-from-clause-starts c =
    let m = c.args.self.now in
    let area : c.index.result.now.low ≡ (map_of m.pool m.maps.items m.dir m.sound c.args.p.0).low = ap
    (λ (s : Slots BlockId). s.low) (is_map_of m.pool m.maps.items m.dir m.sound c.args.p.0 c.requires.process
    c.index.result.now c.index.ensures) in
    let size = many m.pool m.maps.items m.dir m.sound c.args.p.0 c.requires.process c.args.id.0 c.requires.entered c.group-group.result (omega arith) c.group-group.ensures in
    let length_is = ap (λ (g : List ℕ). length g) (same m.pool m.maps.items m.dir m.sound c.args.p.0
    c.requires.process c.args.id.0 c.requires.entered c.group-group.result (omega arith) c.group-group.ensures) ∙
    length-map (group_blocks c.group-group.result) (λ (id : BlockId). id.0) in
    let links = links_of m.dir c.args.id.0 c.requires.entered c.links.result c.links.ensures.links in
    λ before tied. rw (started-no_ram m.pool m.maps.items m.dir m.sound c.args.p.0 c.requires.process c.args.id.0
    c.requires.entered before tied c.args.blocks (omega arith) (omega arith) (omega arith)) (refl, tied)

pub clear-requires : goal.clear-requires
clear-requires c =
    let m = c.args.self.now in
    live m.pool m.maps.items m.dir m.sound c.args.p.0 c.requires.process c.index_mut-map.result.now c.index_mut-map.ensures.value

pub map_group-requires-clause-may : goal.map_group-requires-clause-may
map_group-requires-clause-may c =
    let m = c.args.self.now in
    let area : c.index.result.now.low ≡ (map_of m.pool m.maps.items m.dir m.sound c.args.p.0).low = ap
    (λ (s : Slots BlockId). s.low) (is_map_of m.pool m.maps.items m.dir m.sound c.args.p.0 c.requires.process
    c.index.result.now c.index.ensures) in
    let enough : c.args.blocks ≤ free_block_count m.pool + (map_of m.pool m.maps.items m.dir m.sound c.args.p.0).low = omega arith in
    let fits : c.args.blocks + c.group-group.result.len ≤ 8 = omega arith in
    start-may m.pool m.maps.items m.dir m.sound c.args.p.0 c.requires.process c.args.id.0 c.requires.entered
    c.group-group.result (omega arith) c.group-group.ensures c.args.blocks fits enough c.index_mut-map.result.now
    c.index_mut-map.ensures.value c.clear.new.self c.clear.new.pool c.clear.ensures.empty c.clear.ensures.given
    c.clear.ensures.shape c.clear.ensures.pool c.map_low.result c.map_low.new.self c.map_low.new.pool
    c.map_low.ensures.no_slot c.map_low.ensures.no_block c.map_low.ensures.refused c.map_low.ensures.gains
    c.map_low.ensures.shape

pub invariant_of-self-2 : goal.invariant_of-self-2
invariant_of-self-2 c =
    let m = c.args.self.now in
    let area : c.index.result.now.low ≡ (map_of m.pool m.maps.items m.dir m.sound c.args.p.0).low = ap
    (λ (s : Slots BlockId). s.low) (is_map_of m.pool m.maps.items m.dir m.sound c.args.p.0 c.requires.process
    c.index.result.now c.index.ensures) in
    let enough : c.args.blocks ≤ free_block_count m.pool + (map_of m.pool m.maps.items m.dir m.sound c.args.p.0).low = omega arith in
    let fits : c.args.blocks + c.group-group.result.len ≤ 8 = omega arith in
    record {
      sound = sound-start m.pool m.maps.items m.dir m.sound c.args.p.0 c.requires.process c.args.id.0
          c.requires.entered c.group-group.result (omega arith) c.group-group.ensures c.args.blocks fits enough
          c.index_mut-map.result.now c.index_mut-map.ensures.value c.clear.new.self c.clear.new.pool
          c.clear.ensures.empty c.clear.ensures.given c.clear.ensures.shape c.clear.ensures.pool c.map_low.result
          c.map_low.new.self c.map_low.new.pool c.map_low.ensures.no_slot c.map_low.ensures.no_block
          c.map_low.ensures.refused c.map_low.ensures.gains c.map_low.ensures.shape c.map_group.result
          c.map_group.new.self c.map_group.new.pool c.map_group.ensures.no_slot c.map_group.ensures.no_other_fault
          c.map_group.ensures.refused c.map_group.ensures.mapped c.map_group.ensures.live c.map_group.ensures.shape
          c.map_group.ensures.pool;
    }

pub returns-clause-starts : goal.returns-clause-starts
returns-clause-starts c =
    let m = c.args.self.now in
    let area : c.index.result.now.low ≡ (map_of m.pool m.maps.items m.dir m.sound c.args.p.0).low = ap
    (λ (s : Slots BlockId). s.low) (is_map_of m.pool m.maps.items m.dir m.sound c.args.p.0 c.requires.process
    c.index.result.now c.index.ensures) in
    let enough : c.args.blocks ≤ free_block_count m.pool + (map_of m.pool m.maps.items m.dir m.sound c.args.p.0).low = omega arith in
    let fits : c.args.blocks + c.group-group.result.len ≤ 8 = omega arith in
    let size = many m.pool m.maps.items m.dir m.sound c.args.p.0 c.requires.process c.args.id.0 c.requires.entered c.group-group.result (omega arith) c.group-group.ensures in
    let length_is = ap (λ (g : List ℕ). length g) (same m.pool m.maps.items m.dir m.sound c.args.p.0
    c.requires.process c.args.id.0 c.requires.entered c.group-group.result (omega arith) c.group-group.ensures) ∙
    length-map (group_blocks c.group-group.result) (λ (id : BlockId). id.0) in
    let links = links_of m.dir c.args.id.0 c.requires.entered c.links.result c.links.ensures.links in
    λ before tied.
    rw (started-ok m.pool m.maps.items m.dir m.sound c.args.p.0 c.requires.process c.args.id.0 c.requires.entered before tied c.args.blocks (omega arith) (omega arith) enough) (
      refl,
      tied-start m.pool m.maps.items m.dir m.sound c.args.p.0 c.requires.process c.args.id.0 c.requires.entered
          c.group-group.result (omega arith) c.group-group.ensures c.args.blocks fits enough c.index_mut-map.result.now
          c.index_mut-map.ensures.value c.clear.new.self c.clear.new.pool c.clear.ensures.empty c.clear.ensures.given
          c.clear.ensures.shape c.clear.ensures.pool c.map_low.result c.map_low.new.self c.map_low.new.pool
          c.map_low.ensures.no_slot c.map_low.ensures.no_block c.map_low.ensures.refused c.map_low.ensures.gains
          c.map_low.ensures.shape c.map_group.result c.map_group.new.self c.map_group.new.pool
          c.map_group.ensures.no_slot c.map_group.ensures.no_other_fault c.map_group.ensures.refused
          c.map_group.ensures.mapped before tied,
    )

pub returns-clause-area : goal.returns-clause-area
returns-clause-area c =
    let m = c.args.self.now in
    let area : c.index.result.now.low ≡ (map_of m.pool m.maps.items m.dir m.sound c.args.p.0).low = ap
    (λ (s : Slots BlockId). s.low) (is_map_of m.pool m.maps.items m.dir m.sound c.args.p.0 c.requires.process
    c.index.result.now c.index.ensures) in
    let enough : c.args.blocks ≤ free_block_count m.pool + (map_of m.pool m.maps.items m.dir m.sound c.args.p.0).low = omega arith in
    let fits : c.args.blocks + c.group-group.result.len ≤ 8 = omega arith in
    let after : Memory = record {
      pool = c.map_group.new.pool;
      dir = m.dir;
      maps = with_item m.maps c.args.p.0 c.map_group.new.self;
      sound = sound-start m.pool m.maps.items m.dir m.sound c.args.p.0 c.requires.process c.args.id.0
          c.requires.entered c.group-group.result (omega arith) c.group-group.ensures c.args.blocks fits enough
          c.index_mut-map.result.now c.index_mut-map.ensures.value c.clear.new.self c.clear.new.pool
          c.clear.ensures.empty c.clear.ensures.given c.clear.ensures.shape c.clear.ensures.pool c.map_low.result
          c.map_low.new.self c.map_low.new.pool c.map_low.ensures.no_slot c.map_low.ensures.no_block
          c.map_low.ensures.refused c.map_low.ensures.gains c.map_low.ensures.shape c.map_group.result
          c.map_group.new.self c.map_group.new.pool c.map_group.ensures.no_slot c.map_group.ensures.no_other_fault
          c.map_group.ensures.refused c.map_group.ensures.mapped c.map_group.ensures.live c.map_group.ensures.shape
          c.map_group.ensures.pool;
    } in
    area-fits after c.args.p.0 c.requires.process c.args.blocks
    (start-low m.pool m.maps.items m.dir m.sound c.args.p.0 c.requires.process c.args.id.0 c.requires.entered
    c.group-group.result (omega arith) c.group-group.ensures c.args.blocks fits enough c.index_mut-map.result.now
    c.index_mut-map.ensures.value c.clear.new.self c.clear.new.pool c.clear.ensures.empty c.clear.ensures.given
    c.clear.ensures.shape c.clear.ensures.pool c.map_low.result c.map_low.new.self c.map_low.new.pool
    c.map_low.ensures.no_slot c.map_low.ensures.no_block c.map_low.ensures.refused c.map_low.ensures.gains
    c.map_low.ensures.shape c.map_group.result c.map_group.new.self c.map_group.new.pool
    c.map_group.ensures.no_slot c.map_group.ensures.no_other_fault c.map_group.ensures.refused
    c.map_group.ensures.mapped)
