use Rattle.std.proofs.Common.{ap, sym, ◌∙◌}
use Rattle.guest_memory.proofs.MapCalls.{is_map_of}
use Rattle.guest_memory.proofs.Seen.{map-seen}
use Rattle.guest_memory.proofs.memory.Memory.area.Goals as goal

pub returns-clause-tied : goal.returns-clause-tied
returns-clause-tied c =
    let memory = c.args.self.now in
    λ m tied.
    c.low.ensures
    ∙ ap (λ slots. slots.low) (is_map_of memory.pool memory.maps.items memory.dir memory.sound c.args.p.0 c.requires c.index.result.now c.index.ensures)
    ∙ sym (ap (λ slots. slots.low) (map-seen memory m tied c.args.p.0 c.requires))
