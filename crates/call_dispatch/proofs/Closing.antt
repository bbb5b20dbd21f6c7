-- I$Close of a path on a file or a directory.
use Rattle.std.proofs.Common.{◌≡◌, ◌∙◌, ℕ, Option, Some, None, List, refl, ap, sym, subst, inl}
use Rattle.std.proofs.lemmas.List.{set-get_or}
use Rattle.os9_base.specs.declared.call.CallEnd.TheVariants.{Done}
use Rattle.os9_base.specs.declared.registers.Regs.{Regs}
use Rattle.os9_base.specs.declared.registers.TimePacket.{TimePacket}
use Rattle.os9_outer.specs.TerminalState.{TerminalState}
use Rattle.proc_model.specs.Processes.{Processes, regs_at, with_regs_of}
use Rattle.io_model.specs.Path.{closed_desc, paths_after_close}
use Rattle.io_model.specs.declared.pending.PendingCall.{PendingCall}
use Rattle.io_model.specs.declared.path.Desc.{Desc}
use Rattle.io_model.specs.declared.path.Target.{Target}
use Rattle.io_model.specs.declared.path.Target.TheVariants.{File, Folder, Term, Pipe}
use Rattle.io_model.specs.Close.{i_close as closes_device, after_close, without_path, without_target}
use Rattle.io_model.specs.Io.{Io, OpenPath, pending_at, with_call, with_paths}
use Rattle.io_model.specs.Step.{answers}
use Rattle.proc_state.specs.Tie.{RepresentsProcesses}
use Rattle.proc_state.specs.declared.state.ProcState.{ProcState}
use Rattle.file_drives.specs.Drives.{DriveView}
use Rattle.file_rules.specs.Attempts.{asker_of}
use Rattle.file_rules.specs.Close.{files_after_close, i_close}
use Rattle.file_rules.specs.Files.{Files, OpenFile, open_file, with_io}
use Rattle.file_rules.specs.OnFile.{by_kind}
use Rattle.file_rules.specs.Step.{FileStep, done, leaves}
use Rattle.file_state.proofs.CountLemmas.{called-none}
use Rattle.file_state.proofs.EndLemmas.{goes-well}
use Rattle.file_state.proofs.KeepLemmas.{keeps-same}
use Rattle.file_state.specs.Ends.{EndsFileAttempt}
use Rattle.file_state.specs.Opened.{IsOpenFileOf}
use Rattle.file_state.specs.Tie.{RepresentsFiles}
use Rattle.file_state.specs.declared.state.FileState.{FileState}
use Rattle.file_state.specs.declared.state.OpenFile.{OpenFile as KernelFile}

-- calls that wait stay kept
closed-calls : (io : Io) (p n : ℕ) → (after_close io p n).calls ≡ io.calls
closed-calls io p n = by (closed_desc io.paths p n)
  where
    on : (target : Target) → (without_target (with_paths io (paths_after_close io.paths p n)) target).calls ≡ io.calls
    on (File drive sector) = refl
    on (Folder drive sector) = refl
    on (Term terminal) = refl
    on (Pipe pipe) = refl

    by : (desc : Option Desc) → (without_path (with_paths io (paths_after_close io.paths p n)) desc).calls ≡ io.calls
    by None = refl
    by (Some desc) = on desc.target

-- nothing is kept if nothing was
still-none : (io : Io) (p : ℕ) → pending_at io p ≡ None → with_call io p None ≡ io
still-none io p none =
    ap (λ (kept : Option PendingCall). with_call io p kept) (sym none)
    ∙ ap (λ (calls : List (Option PendingCall)). record io { calls = calls }) (set-get_or io.calls p None)

module _ (m : Processes) (was : Files) (now : TimePacket) (p : ℕ) (processes : ProcState) (new : FileState) (views : List DriveView) (terms : List TerminalState) (found : OpenFile) where
  abbrev closed : Files
  closed = files_after_close was p (regs_at m p).a found.opened.path.0

  pub close-ends : open_file was p (regs_at m p).a ≡ Some found → pending_at was.io p ≡ None → RepresentsFiles new views closed
      → RepresentsProcesses processes (with_regs_of m p (regs_at m p)) → EndsFileAttempt (i_close (asker_of m p now) was) 0 m was now p
      Done processes new views views terms
  close-ends is none stands tied =
      subst (λ (step : FileStep). EndsFileAttempt step 0 m was now p Done processes new views views terms) (sym step) (record {
        effect = leaves (answers (regs_at m p)) closed;
        does = goes-well (done (regs_at m p) closed) (asker_of m p now) was (leaves (answers (regs_at m p)) closed) was.drives terms refl refl;
        comes = (refl, tied);
        stands = inl (subst (λ (io : Io). RepresentsFiles new views (with_io closed io)) (sym (still-none closed.io p kept)) stands);
        calls = called-none views;
        drives = keeps-same (done (regs_at m p) closed) (asker_of m p now) was Done views tt;
      })
    where
      kept : pending_at closed.io p ≡ None
      kept = ap (λ (calls : List (Option PendingCall)). pending_at (record was.io { calls = calls }) p) (closed-calls was.io p (regs_at m p).a) ∙ none

      step : i_close (asker_of m p now) was ≡ done (regs_at m p) closed
      step =
          ap (λ (o : Option OpenFile). by_kind o (closes_device (asker_of m p now).caller was.io) (λ opened. done (regs_at m p) (files_after_close was p (regs_at m p).a opened.opened.path.0))) is

-- from what is known of the path in the kernel
pub close-file-ends : (m : Processes) (was : Files) (now : TimePacket) (p : ℕ) (processes : ProcState)
    (state new : FileState) (views : List DriveView) (terms : List TerminalState) (opened : KernelFile) (regs : Regs)
    → RepresentsFiles state views was → IsOpenFileOf state views was p regs.a opened → regs ≡ regs_at m p → pending_at state.io p ≡
    None → RepresentsFiles new views (files_after_close was p regs.a opened.path.0)
    → RepresentsProcesses processes (with_regs_of m p regs) → EndsFileAttempt (i_close (asker_of m p now) was) 0 m was now p Done
    processes new views views terms
close-file-ends m was now p processes state new views terms opened regs stands it same none closed tied =
    close-ends m was now p processes new views terms it.found
    (subst (λ (r : Regs). open_file was p r.a ≡ Some it.found) same it.is)
    (ap (λ (io : Io). pending_at io p) stands.io ∙ none)
    (subst (λ (path : OpenPath). RepresentsFiles new views (files_after_close was p (regs_at m p).a path.path.0)) (sym it.path)
    (subst (λ (r : Regs). RepresentsFiles new views (files_after_close was p r.a opened.path.0)) same closed))
    (subst (λ (r : Regs). RepresentsProcesses processes (with_regs_of m p r)) same tied)
