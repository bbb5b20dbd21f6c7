use Rattle.std.proofs.Common.{ℕ, ◌+◌, ◌≤◌, IfSome, sym, ap, subst, ◌∙◌, arith}
use Rattle.proc_model.specs.Memory.{map_at}
use Rattle.proc_model.specs.Slots.{highest_free_run}
use Rattle.guest_memory.proofs.Seen.{free-len, group-long, group-as-long}
use Rattle.guest_memory.proofs.memory.Memory.free_slot.Goals as goal

pub free_run-requires-clause-some : goal.free_run-requires-clause-some
free_run-requires-clause-some c = free-len c.args.self.now c.args.p.0 c.requires.process c.args.id.0 c.requires.entered c.group-group.result c.group-group.ensures (omega arith)

pub returns-clause-slot : goal.returns-clause-slot
returns-clause-slot c =
    let memory = c.args.self.now in
    λ m tied.
    c.free_run.ensures.slot m tied
    ∙ ap (highest_free_run (map_at m c.args.p.0)) (sym (group-as-long memory c.args.p.0 c.requires.process c.args.id.0
    c.requires.entered c.group-group.result c.group-group.ensures (omega arith) m tied))

pub returns-clause-fits : goal.returns-clause-fits
returns-clause-fits c =
    let memory = c.args.self.now in
    let long = group-long memory c.args.p.0 c.requires.process c.args.id.0 c.requires.entered c.group-group.result c.group-group.ensures (omega arith) in
    subst (λ (n : ℕ). IfSome c.free_run.result (λ slot. slot + n ≤ 8)) (sym long) c.free_run.ensures.fits
