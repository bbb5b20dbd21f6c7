-- SS.Lock of no bytes ends the lock of its path.
use Rattle.std.proofs.Common.{◌≡◌, ◌∙◌, ◌==◌, not, ℕ, Bool, true, List, refl, sym, ap, subst, inl, arith}
use Rattle.std.specs.Prelude.{None, if◌then◌else◌}
use Rattle.os9_base.specs.declared.call.CallEnd.{CallEnd}
use Rattle.os9_base.specs.declared.errors.TheConstants.{E_BMODE}
use Rattle.os9_base.specs.declared.registers.TimePacket.{TimePacket}
use Rattle.os9_outer.specs.TerminalState.{TerminalState}
use Rattle.proc_model.specs.Processes.{Processes, regs_at, with_regs_of}
use Rattle.io_model.specs.declared.path.Desc.{Desc}
use Rattle.io_model.specs.declared.path.SysPath.{SysPath}
use Rattle.io_model.specs.Io.{Io, with_call}
use Rattle.io_model.specs.Step.{answers}
use Rattle.lock_model.specs.Records.{Records, without_lock}
use Rattle.proc_state.specs.Tie.{RepresentsProcesses}
use Rattle.proc_state.specs.declared.state.ProcState.{ProcState}
use Rattle.file_drives.specs.Drives.{DriveView}
use Rattle.file_rules.specs.Attempts.{asker_of, files_kept}
use Rattle.file_rules.specs.Files.{Asker, Files, OpenFile, with_records}
use Rattle.file_rules.specs.Locking.{is_for_update, request_now}
use Rattle.file_rules.specs.Seek.{long_of}
use Rattle.file_rules.specs.Status.{lock_claim, locks_bytes, locks_range, sets_lock}
use Rattle.file_rules.specs.Step.{FileEffect, FileStep, done, leaves, reaches, refuses}
use Rattle.file_state.proofs.CountLemmas.{called-more, called-none}
use Rattle.file_state.proofs.EndLemmas.{goes-well}
use Rattle.file_state.proofs.KeepLemmas.{keeps-same}
use Rattle.file_state.proofs.RequestLemmas.{lacks-none}
use Rattle.file_state.specs.Counted.{calls_of}
use Rattle.file_state.specs.Ends.{EndsOrLacks}
use Rattle.file_state.specs.Tie.{RepresentsFiles}
use Rattle.file_state.specs.declared.state.FileState.{FileState}
use Rattle.file_state.specs.declared.state.OpenFile.{OpenFile as KernelFile}
use Rattle.file_status.specs.Status.{RepresentsOpenFile, unlocked}

module _ (most : ℕ) (m : Processes) (was : Files) (now : TimePacket) (p : ℕ) (end : CallEnd) (processes : ProcState)
    (state new : FileState) (views : List DriveView) (terms : List TerminalState) (opened : KernelFile)
    (it : OpenFile) (stands : RepresentsFiles state views was) (open_is : RepresentsOpenFile was opened it) where
  abbrev asker : Asker
  asker = asker_of m p now

  abbrev left : Files
  left = with_records was (without_lock was.records it.opened.path.0)

  abbrev effect : FileEffect
  effect = leaves (answers (regs_at m p)) left

  abbrev step : FileStep
  step = done (regs_at m p) left

  unlocked-stands : RepresentsFiles (unlocked state p opened.path.0) views (files_kept p effect)
  unlocked-stands = record {
    io = ap (λ (io : Io). with_call io p None) stands.io;
    directories = stands.directories;
    records =
        ap (λ (path : SysPath). without_lock was.records path.0) open_is.path_is
        ∙ ap (λ (records : Records). without_lock records opened.path.0) stands.records;
    drives = stands.drives;
    mounted = stands.mounted;
  }

  ends-unlocked : new ≡ unlocked state p opened.path.0 → end ≡ CallEnd.Done → RepresentsProcesses processes
      (with_regs_of m p (regs_at m p)) → EndsOrLacks step most m was now p end processes new views views terms
  ends-unlocked new_is end_is tied = lacks-none step most m was now p end processes new views views terms (record {
    effect = effect;
    does = goes-well step asker was effect was.drives terms refl refl;
    comes = (end_is, tied);
    stands = inl (subst (λ (s : FileState). RepresentsFiles s views (files_kept p effect)) (sym new_is) unlocked-stands);
    calls = called-more 0 (calls_of step most) views views (omega arith) (called-none views);
    drives = keeps-same step asker was end views tt;
  })

  abbrev Ends : FileStep → Type 0
  Ends step = EndsOrLacks step most m was now p end processes new views views terms

  abbrev request_next : FileStep
  request_next = reaches it.place.drive (locks_range asker was it (request_now asker was it (lock_claim it (long_of (regs_at m p)))))

  pub lock-ended : is_for_update opened.desc.mode ≡ true → (long_of (regs_at m p) == 0) ≡ true → new ≡
      unlocked state p opened.path.0 → end ≡ CallEnd.Done → RepresentsProcesses processes (with_regs_of m p (regs_at m p))
      → EndsOrLacks (sets_lock asker was it) most m was now p end processes new views views terms
  lock-ended update none new_is end_is tied =
      subst (λ (may : Bool). Ends (refuses (not may) E_BMODE (locks_bytes asker was it (long_of (regs_at m p)))))
      (sym (ap (λ (desc : Desc). is_for_update desc.mode) open_is.desc_is ∙ update))
      (subst (λ (none : Bool). Ends (if none then step else request_next)) (sym none)
      (ends-unlocked new_is end_is tied))
