use Rattle.std.proofs.Common.{ap, ◌∙◌}
use Rattle.guest_memory.proofs.Areas.{run-read}
use Rattle.guest_memory.proofs.Seen.{cells_of-seen, borrowed-cells, seen-names}
use Rattle.guest_memory.proofs.memory.Memory.name_run.Goals as goal

pub view-view-requires : goal.view-view-requires
view-view-requires c = seen-names c.args.self.now c.args.p.0 c.requires.process c.index.result.now c.index.ensures

pub returns-clause-run : goal.returns-clause-run
returns-clause-run c =
    run-read _ _ c.args.at 30 c.read_run.result _ c.read_run.ensures.none c.read_run.ensures.some
    (borrowed-cells c.args.self.now c.args.p.0 c.requires.process c.index.result.now c.index.ensures
    c.view-view.result.map.now (ap (λ map. map.now) c.view-view.ensures.map) c.view-view.result.pool.now
    c.view-view.ensures.bytes)

pub returns-clause-tied : goal.returns-clause-tied
returns-clause-tied c =
    λ m tied.
    run-read _ _ c.args.at 30 c.read_run.result _ c.read_run.ensures.none c.read_run.ensures.some
    (borrowed-cells c.args.self.now c.args.p.0 c.requires.process c.index.result.now c.index.ensures
    c.view-view.result.map.now (ap (λ map. map.now) c.view-view.ensures.map) c.view-view.result.pool.now
    c.view-view.ensures.bytes
    ∙ cells_of-seen c.args.self.now c.args.p.0 c.requires.process m tied)
