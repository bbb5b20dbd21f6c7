-- How a call ends that looked for a file, is done, and changes no volume.
use Rattle.std.proofs.Common.{◌≡◌, ◌∙◌, ℕ, None, List, ap, sym, subst, inl}
use Rattle.os9_base.specs.declared.call.CallEnd.{CallEnd}
use Rattle.os9_base.specs.declared.call.CallEnd.TheVariants.{Done}
use Rattle.os9_base.specs.declared.registers.Regs.{Regs}
use Rattle.os9_base.specs.declared.registers.TimePacket.{TimePacket}
use Rattle.os9_outer.specs.TerminalState.{TerminalState}
use Rattle.proc_model.specs.Processes.{Processes, with_regs_of}
use Rattle.io_model.specs.Step.{answers}
use Rattle.proc_state.specs.Tie.{RepresentsProcesses}
use Rattle.proc_state.specs.declared.state.ProcState.{ProcState}
use Rattle.file_drives.specs.Drives.{DriveView, drive_states}
use Rattle.file_rules.specs.Attempts.{asker_of, files_kept}
use Rattle.file_rules.specs.Files.{Files}
use Rattle.file_rules.specs.Step.{Deed, FileStep, Step, deed_of, done, leaves, leaves_so, with_drives_after}
use Rattle.file_state.proofs.CountLemmas.{called-more}
use Rattle.file_state.proofs.EndLemmas.{goes-well}
use Rattle.file_state.proofs.KeepLemmas.{MayKeepAll, keeps-read}
use Rattle.file_state.specs.Counted.{calls_of}
use Rattle.file_state.specs.Ends.{EndsFileAttempt}
use Rattle.file_state.specs.Media.{KeepsDrives}
use Rattle.file_state.specs.Tie.{RepresentsFiles}
use Rattle.file_state.specs.declared.state.FileState.{FileState}
use Rattle.file_routes.specs.Routes.{next_step}
use Rattle.name_calls.proofs.ListCallLemmas.{calls-next}
use Rattle.name_calls.proofs.LookLemmas.{deed-on, reaches-next}
use Rattle.name_calls.specs.Looks.{HasFoundInSearch}

module _ {A R : Type 0} (fact : A → R → Type 0) (look : Step A) (next : A → FileStep) (most : ℕ) (m : Processes)
    (was : Files) (now : TimePacket) (p : ℕ) (terms : List TerminalState) (thing : R) (mid : FileState)
    (before views : List DriveView) (loc : HasFoundInSearch fact look most thing was mid before views) where
  abbrev whole : FileStep
  whole = next_step look next

  pub ends-found : (step : FileStep) (regs : Regs) (files : Files) (final : FileState) (end : CallEnd)
      (processes : ProcState) → step ≡ whole → next loc.it ≡ done regs files → RepresentsFiles final views
      (files_kept p (with_drives_after (leaves (answers regs) files) (drive_states views))) → end ≡ Done
      → RepresentsProcesses processes (with_regs_of m p regs) → EndsFileAttempt step most m was now p end processes final before views
      terms
  ends-found step regs files final end processes parts goes stands end_is tied =
      let deed : deed_of whole was ≡ leaves_so (leaves (answers regs) files) =
      deed-on look next was loc.it loc.answer ∙ ap (λ (step : FileStep). deed_of step was) goes in
      let may : MayKeepAll (deed_of whole was) Done = subst (λ (d : Deed). MayKeepAll d Done) (sym deed) tt in
      subst (λ (s : FileStep). EndsFileAttempt s most m was now p end processes final before views terms) (sym parts) (record {
        effect = with_drives_after (leaves (answers regs) files) (drive_states views);
        does = goes-well whole (asker_of m p now) was (leaves (answers regs) files) (drive_states views) terms deed loc.read.moved;
        comes = (end_is, tied);
        stands = inl stands;
        calls = called-more (calls_of look most) (calls_of whole most) before views (calls-next look next most) loc.calls;
        drives = subst (λ (end : CallEnd). KeepsDrives whole (asker_of m p now) was end before views) (sym end_is)
            (keeps-read whole (asker_of m p now) was Done loc.drive before views (reaches-next look next loc.drive before views loc.reached) may None mid loc.read);
      })
