use Rattle.std.proofs.Common.{◌≡◌, ◌∙◌, Bool, None, List, ℕ, take, ap, subst}
use Rattle.os9_base.specs.declared.registers.Regs.{Regs}
use Rattle.proc_model.specs.Processes.{cells_at, with_memory, with_regs_of}
use Rattle.proc_model.specs.UserBytes.{user_bytes}
use Rattle.proc_model.specs.MemoryChanges.{stored}
use Rattle.proc_state.specs.Tie.{RepresentsProcesses, bytes_read}
use Rattle.device_paths.proofs.QuietLemmas.{options-refused, options-stored}
use Rattle.device_paths.proofs.status.get_options.Goals as goal

pub returns-then-not-read_bytes-clause-call : goal.returns-then-not-read_bytes-clause-call
returns-then-not-read_bytes-clause-call c m tied =
    options-refused m c.args.io.now c.refuse.new.io c.args.p.0 c.args.target c.refuse.result c.read_bytes.new.self
    (subst (λ (r : Regs). user_bytes (cells_at m c.args.p.0) r.x 32 ≡ None) (c.regs-regs.ensures.tied m tied)
    (c.read_bytes.ensures.read m tied ∙ ap (λ (b : Bool). bytes_read b 32 c.read_bytes.new.self.buffer.items) c.if-not-read_bytes.true))
    c.refuse.ensures.end (c.read_bytes.ensures.same.represents m tied) c.refuse.ensures.io

pub returns-clause-call : goal.returns-clause-call
returns-clause-call c m tied =
    options-stored m c.args.io.now c.answer.new.io c.args.p.0 c.args.target c.answer.result c.answer.new.s
    (take 32 c.read_bytes.new.self.buffer.items) c.regs-regs.result (c.regs-regs.ensures.tied m tied)
    (c.read_bytes.ensures.read m tied ∙ ap (λ (b : Bool). bytes_read b 32 c.read_bytes.new.self.buffer.items) c.if-not-read_bytes.false)
    c.answer.ensures.end
    (subst (λ (bytes : List ℕ). RepresentsProcesses c.answer.new.s
    (with_regs_of (with_memory m (stored m.memory c.args.p.0 c.regs-regs.result.x bytes)) c.args.p.0
    c.regs-regs.result)) c.options.ensures
    (c.answer.ensures.tied (with_memory m (stored m.memory c.args.p.0 c.regs-regs.result.x c.options.result)) (c.store.ensures.tied m (c.read_bytes.ensures.same.represents m tied))))
    c.answer.ensures.io
