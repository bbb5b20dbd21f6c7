use Rattle.std.proofs.Common.{ℕ, Option, ap, ◌∙◌}
use Rattle.os9_base.specs.UserNames.{name_at}
use Rattle.guest_memory.proofs.Seen.{cells_of-seen, borrowed-cells, seen-names}
use Rattle.guest_memory.proofs.memory.Memory.name.Goals as goal

pub view-view-requires : goal.view-view-requires
view-view-requires c = seen-names c.args.self.now c.args.p.0 c.requires c.index.result.now c.index.ensures

pub returns-clause-name : goal.returns-clause-name
returns-clause-name c =
    c.read_name.ensures
    ∙ ap (λ (cells : ℕ → Option ℕ). name_at cells c.args.at) (borrowed-cells c.args.self.now c.args.p.0 c.requires
    c.index.result.now c.index.ensures c.view-view.result.map.now (ap (λ map. map.now) c.view-view.ensures.map)
    c.view-view.result.pool.now c.view-view.ensures.bytes)

pub returns-clause-tied : goal.returns-clause-tied
returns-clause-tied c =
    λ m tied.
    returns-clause-name c
    ∙ ap (λ (cells : ℕ → Option ℕ). name_at cells c.args.at) (cells_of-seen c.args.self.now c.args.p.0 c.requires m tied)
