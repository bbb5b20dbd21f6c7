-- SS.Ticks of a path on a file or a directory.
use Rattle.std.proofs.Common.{◌≡◌, ℕ, ◌∙◌, Option, Some, None, IfSome, IsSome, is_some, List, refl, ap, sym, subst, inl, arith}
use Rattle.os9_base.specs.declared.call.CallEnd.{CallEnd}
use Rattle.os9_base.specs.declared.registers.Regs.{Regs}
use Rattle.os9_base.specs.declared.registers.TimePacket.{TimePacket}
use Rattle.os9_outer.specs.TerminalState.{TerminalState}
use Rattle.proc_model.specs.Processes.{Processes, regs_at, with_regs_of}
use Rattle.io_model.specs.Path.{desc_of, with_desc}
use Rattle.io_model.specs.declared.path.Desc.{Desc}
use Rattle.io_model.specs.declared.path.SysPath.{SysPath}
use Rattle.io_model.specs.Io.{Io, with_call, with_paths}
use Rattle.io_model.specs.Step.{answers}
use Rattle.proc_state.specs.Tie.{RepresentsProcesses}
use Rattle.proc_state.specs.declared.state.ProcState.{ProcState}
use Rattle.file_rules.specs.Attempts.{asker_of, files_kept}
use Rattle.file_rules.specs.Files.{Files, OpenFile, with_ticks}
use Rattle.file_rules.specs.Status.{sets_ticks}
use Rattle.file_rules.specs.Step.{FileEffect, leaves}
use Rattle.file_drives.specs.Drives.{DriveView}
use Rattle.file_state.proofs.CountLemmas.{called-more, called-none}
use Rattle.file_state.proofs.EndLemmas.{goes-well}
use Rattle.file_state.proofs.KeepLemmas.{keeps-same}
use Rattle.file_state.specs.Counted.{calls_of}
use Rattle.file_state.specs.Ends.{EndsFileAttempt}
use Rattle.file_state.specs.Tie.{RepresentsFiles}
use Rattle.file_state.specs.declared.state.FileState.{FileState}
use Rattle.file_state.specs.declared.state.OpenFile.{OpenFile as KernelFile}
use Rattle.file_status.specs.Status.{RepresentsOpenFile, uncalled}

-- the paths and all else of input and output, if this one has other ticks
abbrev pub ticked : Io → SysPath → Desc → ℕ → Io
ticked io path desc ticks = with_paths io (with_desc io.paths path.0 (Some (record desc { ticks = ticks })))

abbrev pub with_ticked : FileState → KernelFile → ℕ → FileState
with_ticked state opened ticks = record state { io = ticked state.io opened.path opened.desc ticks }

-- the path of a file is still there if nothing is kept of a call
pub still-there : (state between : FileState) (p : ℕ) (opened : KernelFile) → between ≡ uncalled state p
    → desc_of state.io.paths opened.path.0 ≡ Some opened.desc → IsSome (desc_of between.io.paths opened.path.0)
still-there state between p opened same path =
    ap (λ (it : FileState). is_some (desc_of it.io.paths opened.path.0)) same ∙ ap (λ (o : Option Desc). is_some o) path

-- and then it has other ticks
pub ticked-on : (state between : FileState) (p : ℕ) (opened : KernelFile) (ticks : ℕ) (io : Io) → between ≡ uncalled
    state p → desc_of state.io.paths opened.path.0 ≡ Some opened.desc
    → IfSome (desc_of between.io.paths opened.path.0) (λ desc. io ≡ with_paths between.io (with_desc between.io.paths
    opened.path.0 (Some (record desc { ticks = ticks })))) → record between { io = io } ≡ uncalled
    (with_ticked state opened ticks) p
ticked-on state between p opened ticks io same path fact =
    let here : IfSome (desc_of state.io.paths opened.path.0) (λ desc. io ≡ with_paths (with_call state.io p None) (with_desc state.io.paths opened.path.0 (Some (record desc { ticks = ticks })))) =
    subst (λ (it : FileState). IfSome (desc_of it.io.paths opened.path.0) (λ desc. io ≡ with_paths it.io (with_desc it.io.paths opened.path.0 (Some (record desc { ticks = ticks }))))) same fact in
    let set : io ≡ with_paths (with_call state.io p None) (with_desc state.io.paths opened.path.0 (Some (record opened.desc { ticks = ticks }))) =
    subst (λ (o : Option Desc). IfSome o (λ desc. io ≡ with_paths (with_call state.io p None) (with_desc state.io.paths opened.path.0 (Some (record desc { ticks = ticks }))))) path here in
    ap (λ (it : FileState). let new : FileState = record it { io = io } in new) same ∙ ap (λ (io : Io). let new : FileState = record state { io = io } in new) set

module _ (most : ℕ) (m : Processes) (files : Files) (now : TimePacket) (p : ℕ) (end : CallEnd) (processes : ProcState)
    (state new : FileState) (views : List DriveView) (terms : List TerminalState) (opened : KernelFile)
    (it : OpenFile) (stands : RepresentsFiles state views files) (open_is : RepresentsOpenFile files opened it) where
  -- the path of the machine is the kernel's
  ticked-same : (regs : Regs) → regs ≡ regs_at m p → ticked files.io it.opened.path it.opened.desc (regs_at m p).x ≡ ticked state.io opened.path opened.desc regs.x
  ticked-same regs same =
      ap (λ (io : Io). ticked io it.opened.path it.opened.desc (regs_at m p).x) stands.io
      ∙ ap (λ (path : SysPath). ticked state.io path it.opened.desc (regs_at m p).x) open_is.path_is
      ∙ ap (λ (desc : Desc). ticked state.io opened.path desc (regs_at m p).x) open_is.desc_is
      ∙ ap (λ (r : Regs). ticked state.io opened.path opened.desc r.x) (sym same)

  abbrev effect : FileEffect
  effect = leaves (answers (regs_at m p)) (with_ticks files it.opened (regs_at m p).x)

  ticked-stands : (regs : Regs) → regs ≡ regs_at m p → RepresentsFiles (uncalled (with_ticked state opened regs.x) p) views (files_kept p effect)
  ticked-stands regs same = record {
    io = ap (λ (io : Io). with_call io p None) (ticked-same regs same);
    directories = stands.directories;
    records = stands.records;
    drives = stands.drives;
    mounted = stands.mounted;
  }

  pub ticks-set : (regs : Regs) → regs ≡ regs_at m p → new ≡ uncalled (with_ticked state opened regs.x) p
      → end ≡ CallEnd.Done → RepresentsProcesses processes (with_regs_of m p regs)
      → EndsFileAttempt (sets_ticks (asker_of m p now) files it) most m files now p end processes new views views terms
  ticks-set regs same new_is is_end tied = record {
    effect = effect;
    does = goes-well (sets_ticks (asker_of m p now) files it) (asker_of m p now) files effect files.drives terms refl refl;
    comes = (is_end, subst (λ (r : Regs). RepresentsProcesses processes (with_regs_of m p r)) same tied);
    stands = inl (subst (λ s. RepresentsFiles s views (files_kept p effect)) (sym new_is) (ticked-stands regs same));
    calls = called-more 0 (calls_of (sets_ticks (asker_of m p now) files it) most) views views (omega arith) (called-none views);
    drives = keeps-same (sets_ticks (asker_of m p now) files it) (asker_of m p now) files end views tt;
  }
