-- Paths that begin on files.
use Rattle.std.proofs.Common.{◌≡◌, ◌∙◌, ℕ, ◌%◌, Option, Some, None, option_and_then, option_map, List, refl, ap, sym, subst}
use Rattle.os9_base.specs.declared.call.CallEnd.{CallEnd}
use Rattle.os9_base.specs.declared.call.CallEnd.TheVariants.{Done, Error}
use Rattle.os9_base.specs.declared.errors.TheConstants.{E_PTHFUL}
use Rattle.os9_base.specs.declared.registers.Regs.{Regs}
use Rattle.os9_base.specs.declared.registers.TimePacket.{TimePacket}
use Rattle.proc_model.specs.Processes.{Processes, regs_at, with_regs_of}
use Rattle.std.specs.Option.{option_map_or}
use Rattle.io_model.specs.Path.{PathTable, free_number, free_path, new_number, paths_after_begin, with_path}
use Rattle.io_model.specs.declared.path.Desc.{Desc}
use Rattle.io_model.specs.declared.path.Target.{Target}
use Rattle.io_model.specs.Io.{Io, new_desc, with_call, with_paths}
use Rattle.io_model.specs.Open.{opened_regs}
use Rattle.io_model.specs.PathList.{PathList}
use Rattle.io_model.specs.Step.{answers}
use Rattle.proc_state.specs.Tie.{RepresentsProcesses}
use Rattle.proc_state.specs.declared.state.ProcState.{ProcState}
use Rattle.file_rules.specs.Attempts.{asker_of}
use Rattle.file_rules.specs.Files.{Asker, Files, with_path_table}
use Rattle.file_rules.specs.Step.{deed_of, done, leaves, leaves_so, needs, refuses_so}
use Rattle.file_drives.specs.Drives.{DriveView}
use Rattle.file_state.proofs.StateLemmas.{stands-with_io}
use Rattle.file_state.specs.Tie.{RepresentsFiles}
use Rattle.file_state.specs.declared.state.FileState.{FileState}
use Rattle.name_calls.proofs.OpenEndLemmas.{done-quietly, refused-quietly}
use Rattle.name_calls.specs.Ends.{EndsQuietly}
use Rattle.name_calls.specs.Steps.{begins}

-- ---- by the number that the path gets

module _ (asker : Asker) (files : Files) (list : PathList) (target : Target) where
  abbrev paths : PathTable
  paths = paths_after_begin files.io.paths asker.caller.process.0 (new_desc target asker.caller.regs.a)

  pub begins-full : new_number files.io.paths asker.caller.process.0 ≡ None → deed_of (begins asker files list target) files ≡ leaves_so (refuses_so E_PTHFUL files)
  begins-full none =
      ap (λ (number : Option ℕ). deed_of (needs number E_PTHFUL (λ n. done (opened_regs asker.caller.regs list n) (with_path_table files paths))) files) none

  pub begins-numbered : (number : ℕ) → new_number files.io.paths asker.caller.process.0 ≡ Some number
      → deed_of (begins asker files list target) files ≡ leaves_so
      (leaves (answers (opened_regs asker.caller.regs list number)) (with_path_table files paths))
  begins-numbered number some =
      ap (λ (number : Option ℕ). deed_of (needs number E_PTHFUL (λ n. done (opened_regs asker.caller.regs list n) (with_path_table files paths))) files) some

-- without a number no path begins
pub paths-full : (paths : PathTable) (p : ℕ) (desc : Desc) → None ≡ new_number paths p → paths_after_begin paths p desc ≡ paths
paths-full paths p desc none = by (free_number paths p) (free_path paths) none
  where
    by : (number path : Option ℕ) → None ≡ option_and_then (λ n. option_map (λ path. n) path) number → option_map_or (λ n. option_map_or (with_path paths p desc n) path paths) number paths ≡ paths
    by None path none = refl
    by (Some n) None none = refl
    by (Some n) (Some path) none = cc

-- ---- as it was answered

module _ (m : Processes) (was : Files) (now : TimePacket) (p : ℕ) (list : PathList) (target : Target) (state : FileState)
    (views : List DriveView) (stands : RepresentsFiles state views was) (end : CallEnd) (processes : ProcState)
    (mid io : Io) (io_is : io ≡ with_call mid p None) where
  pub full-quietly : mid ≡ state.io → None ≡ new_number state.io.paths p → end ≡ Error E_PTHFUL → RepresentsProcesses processes
      m → EndsQuietly (begins (asker_of m p now) was list target) m was p end processes (record state { io = io })
      views
  full-quietly same none end_is tied =
      refused-quietly m p state views end processes io (io_is ∙ ap (λ (it : Io). with_call it p None) same) E_PTHFUL end_is tied was stands (begins (asker_of m p now) was list target)
      (begins-full (asker_of m p now) was list target (ap (λ (it : Io). new_number it.paths p) stands.io ∙ sym none))

  module _ (a next : ℕ) (numbered : Some a ≡ new_number state.io.paths p) (next_is : list.next ≡ next) (end_is : end ≡ Done) where
    begun : mid ≡ with_paths state.io (paths_after_begin state.io.paths p (new_desc target (regs_at m p).a))
        → RepresentsProcesses processes (with_regs_of m p (opened_regs (regs_at m p) list a))
        → EndsQuietly (begins (asker_of m p now) was list target) m was p end processes (record state { io = io })
        views
    begun mid_is tied =
        done-quietly m p (record state { io = mid }) views end processes io io_is (opened_regs (regs_at m p) list a)
        (with_path_table was (paths (asker_of m p now) was list target))
        (begins (asker_of m p now) was list target) was end_is tied
        (stands-with_io state views was (with_paths was.io (paths (asker_of m p now) was list target)) mid
        (ap (λ (it : Io). with_paths it (paths_after_begin it.paths p (new_desc target (regs_at m p).a))) stands.io ∙ sym mid_is) stands)
        (begins-numbered (asker_of m p now) was list target a (ap (λ (it : Io). new_number it.paths p) stands.io ∙ sym numbered))

    -- by the registers that were read
    pub begun-quietly : (r : Regs) → r ≡ regs_at m p → mid ≡ with_paths state.io (paths_after_begin state.io.paths p
        (new_desc target r.a)) → RepresentsProcesses processes (with_regs_of m p (record r { a = a; x = next % 65536 }))
        → EndsQuietly (begins (asker_of m p now) was list target) m was p end processes (record state { io = io })
        views
    begun-quietly r same mid_is tied =
        begun (subst (λ (r : Regs). mid ≡ with_paths state.io (paths_after_begin state.io.paths p (new_desc target r.a))) same mid_is)
        (subst (λ (r : Regs). RepresentsProcesses processes (with_regs_of m p (opened_regs r list a))) same
        (subst (λ (n : ℕ). RepresentsProcesses processes (with_regs_of m p (record r { a = a; x = n % 65536 }))) (sym next_is) tied))
