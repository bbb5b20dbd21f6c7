use Rattle.std.proofs.Common.{ℕ, List, length, vec_len, sym, subst}
use Rattle.proc_model.specs.Processes.{regs_at}
use Rattle.io_model.specs.Attempts.{caller_of}
use Rattle.io_model.specs.Lead.{a_new_place}
use Rattle.io_model.specs.Modes.{can_write}
use Rattle.io_model.specs.Open.{opens}
use Rattle.io_model.specs.declared.io_call.IoCall.TheVariants as Call
use Rattle.device_paths.specs.Quiet.{EndsIoAttempt}
use Rattle.device_paths.proofs.QuietLemmas.{attempts}
use Rattle.device_paths.proofs.OpenLemmas.{open-quiet}
use Rattle.device_paths.proofs.open.i_create.Goals as goal

pub returns-clause-call : goal.returns-clause-call
returns-clause-call g c m terms tied many =
    let p = c.args.p.0 in
    let drives = vec_len c.args.devices.now.drives in
    attempts Call.Create m c.args.io.now c.open.new.io drives p c.open.result c.open.new.s terms
    (open-quiet a_new_place (can_write (regs_at m p).a) (caller_of m p) c.args.io.now drives (length terms))
    (subst (λ (count : ℕ). EndsIoAttempt (opens a_new_place (can_write (regs_at m p).a) (caller_of m p) c.args.io.now drives
    count) m c.args.io.now p c.open.result c.open.new.s c.open.new.io) (sym many) (c.open.ensures.call m tied))
