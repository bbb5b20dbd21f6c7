use Rattle.std.proofs.Common.{◌≡◌, ◌∙◌}
use Rattle.proc_model.specs.CmpNam.{same_names}
use Rattle.proc_model.specs.Processes.{regs_at}
use Rattle.proc_state.proofs.Tied.{regs-tied}
use Rattle.proc_calls.proofs.Seen.{cells_seen}
use Rattle.proc_calls.proofs.Turns.{process_within}
use Rattle.proc_calls.proofs.names.compares.Goals as goal

pub returns : goal.returns
returns c = λ m tied.
    let cells = cells_seen c.args.s.now c.args.p.0 (process_within c.args.s.now.table c.args.p.0 c.regs-regs.ensures.shape c.requires.lives) m tied in
    let regs : c.regs-regs.result ≡ regs_at m c.args.p.0 = c.regs-regs.ensures.regs ∙ regs-tied c.args.s.now m c.args.p.0 tied in
    c.same_names.ensures ∙ (λ i. same_names (cells i) (regs i).x (regs i).y (regs i).b)
