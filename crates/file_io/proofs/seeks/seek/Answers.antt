use Rattle.std.proofs.Common.{◌≡◌, ◌∙◌, ℕ, None, ap, refl, subst, sym}
use Rattle.file_state.specs.Context.{on_drives}
use Rattle.os9_base.specs.declared.registers.Regs.{Regs}
use Rattle.proc_model.specs.Processes.{regs_at, with_regs_of}
use Rattle.io_model.specs.Io.{Io, with_call}
use Rattle.proc_state.specs.Tie.{RepresentsProcesses}
use Rattle.io_state.proofs.RequesterLemmas.{called-regs}
use Rattle.file_rules.specs.Attempts.{asker_of}
use Rattle.file_rules.specs.Files.{with_io}
use Rattle.file_rules.specs.Seek.{long_of}
use Rattle.file_rules.specs.Step.{done}
use Rattle.file_rules.specs.declared.path_call.PathCall.TheVariants as Call
use Rattle.file_state.specs.Ends.{EndsFileAttempt}
use Rattle.file_state.specs.declared.state.FileState.{FileState}
use Rattle.file_io.proofs.CallLemmas.{known-a, seek-step}
use Rattle.file_io.proofs.TryingLemmas.{attempts-in, ends-done}
use Rattle.file_io.specs.Opened.{found_on, moved_to}
use Rattle.file_io.proofs.seeks.seek.Goals as goal

pub returns-clause-call : goal.returns-clause-call
returns-clause-call c now views terms m was tied stands kinds =
    let p = c.args.by.p.0 in
    let asker = asker_of m p now in
    let opened = c.args.opened.now in
    let it = known-a c.args.machine.now.files views was p opened stands kinds c.args.machine.now.processes m c.args.by.regs c.requires.calls.calls.regs tied c.requires.opened in
    let found = found_on opened it.volume it.file in
    let same : c.args.by.regs ≡ regs_at m p = called-regs c.args.by c.args.machine.now.processes m c.requires.calls.calls tied in
    let at : c.long_of.result ≡ long_of (regs_at m p) = c.long_of.ensures ∙ ap (λ (r : Regs). long_of r) same in
    let old = c.args.machine.now in
    let new = c.answer_at.new.machine in
    attempts-in m was now p c.answer_at.result (on_drives old views) (on_drives new views) terms Call.Seek
    (done (regs_at m p) (with_io was (moved_to was.io opened (long_of (regs_at m p)))))
    (seek-step asker was found it.found) 0 0 refl
    (subst (λ (files : FileState). EndsFileAttempt (done (regs_at m p) (with_io was (moved_to was.io opened (long_of (regs_at m p))))) 0 m was now p c.answer_at.result
    new.processes files views views terms) (sym c.answer_at.ensures.rest)
    (ends-done m was now p c.answer_at.result new.processes old.files new.files.io views terms stands (λ (io : Io). moved_to io opened (long_of (regs_at m p))) (regs_at m p) (record {
      end_is = c.answer_at.ensures.end;
      tied = subst (λ (r : Regs). RepresentsProcesses new.processes (with_regs_of m p r)) same (c.answer_at.ensures.tied m tied);
      io_is = c.answer_at.ensures.io ∙ ap (λ (n : ℕ). with_call (moved_to old.files.io opened n) p None) at;
    })))
