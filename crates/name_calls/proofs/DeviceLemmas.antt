-- Calls that open terminals and pipes, and how many drives there are.
use Rattle.std.proofs.Common.{◌≡◌, ◌∙◌, ℕ, None, List, length, refl, ap, sym, subst, inl}
use Rattle.std.proofs.lemmas.List.{length-map}
use Rattle.std.specs.declared.alloc.Global.{Global}
use Rattle.std.specs.declared.dyn_box.DynBox.{DynBox}
use Rattle.os9_outer.specs.declared.drive.BlockDriver.{Ghosts}
use Rattle.os9_base.specs.declared.call.CallEnd.{CallEnd}
use Rattle.os9_base.specs.declared.registers.TimePacket.{TimePacket}
use Rattle.os9_outer.specs.TerminalState.{TerminalState}
use Rattle.proc_model.specs.CallResult.{CallResult}
use Rattle.proc_model.specs.Processes.{Processes}
use Rattle.io_model.specs.Attempts.{HasIoEffect, caller_of, io_after, io_step}
use Rattle.io_model.specs.Io.{Io}
use Rattle.io_model.specs.Step.{IoEffect, IoStep}
use Rattle.io_model.specs.declared.io_call.IoCall.{IoCall}
use Rattle.io_state.specs.Attempt as io_attempt
use Rattle.proc_state.specs.Tie.{ReturnsCallEnd}
use Rattle.proc_state.specs.declared.state.ProcState.{ProcState}
use Rattle.file_rules.specs.Attempts.{asker_of}
use Rattle.lock_model.specs.Records.{Records, with_waiting}
use Rattle.file_rules.specs.Files.{DriveState, Files, with_io}
use Rattle.file_rules.specs.Step.{FileStep, as_io, comes, on_files}
use Rattle.file_drives.specs.Drives.{DriveView, boxed_seen, drive_state, drive_views}
use Rattle.file_state.proofs.CountLemmas.{called-none}
use Rattle.file_state.proofs.EndLemmas.{goes-as-io}
use Rattle.file_state.proofs.KeepLemmas.{keeps-same}
use Rattle.file_state.proofs.StateLemmas.{stands-with_io, stands-with_records}
use Rattle.file_state.specs.Ends.{EndsFileAttempt}
use Rattle.file_state.specs.Tie.{RepresentsFiles}
use Rattle.file_state.specs.declared.state.FileState.{FileState}

-- the kernel has as many drives as the machine
pub as-many : (state : FileState) (views : List DriveView) (files : Files) → RepresentsFiles state views files → length files.drives ≡ length views
as-many state views files stands = ap (λ (drives : List DriveState). length drives) stands.drives ∙ length-map views drive_state

-- each of the drives is seen
pub views-many : {Table : Type 0} {Driver : Table → Type 0} (members : (drive : DynBox Table Global Driver) → Ghosts (Driver drive.vtable))
    (drives : List (DynBox Table Global Driver)) → length (drive_views members drives) ≡ length drives
views-many members drives = length-map drives (boxed_seen members)

-- what the call on a terminal or a pipe does is done in the state of files
pub device-ends : (most : ℕ) (call : IoCall) (m : Processes) (was : Files) (now : TimePacket) (p : ℕ) (state : FileState)
    (views : List DriveView) (drives : ℕ) (end : CallEnd) (processes : ProcState) (io : Io) (records : Records)
    (terms : List TerminalState) → RepresentsFiles state views was → records ≡ with_waiting state.records p None
    → length was.drives ≡ drives → io_attempt.IoAttempted call m state.io drives p end processes io terms terms
    → EndsFileAttempt (comes (as_io (io_step call (caller_of m p) was.io (length was.drives) (length terms)))) most m was now p
    end processes (record { io = io; disks = state.disks; directories = state.directories; records = records }) views
    views terms
device-ends most call m was now p state views drives end processes io records terms stands cancelled many it =
    let effect : IoEffect = it.attempt.effect in
    let deed : ℕ → Io → IoStep = λ drives before. io_step call (caller_of m p) before drives (length terms) in
    let step : FileStep = comes (as_io (deed (length was.drives) was.io)) in
    record {
      effect = on_files p was effect;
      does = goes-as-io step (asker_of m p now) was (deed (length was.drives) was.io) effect terms terms refl
          (subst (λ (before : Io). HasIoEffect (deed (length was.drives) before) (caller_of m p) before effect terms terms) (sym stands.io)
          (subst (λ (count : ℕ). HasIoEffect (deed count state.io) (caller_of m p) state.io effect terms terms) (sym many) it.attempt.does));
      comes = subst (λ (result : CallResult). ReturnsCallEnd m p result end processes) it.attempt.result_is it.comes;
      stands =
          inl (stands-with_records (record state { io = io }) views (with_io was (io_after p effect)) (with_waiting was.records p None) records
          (ap (λ (records : Records). with_waiting records p None) stands.records ∙ sym cancelled)
          (stands-with_io state views was (io_after p effect) io (sym it.attempt.state) stands));
      calls = called-none views;
      drives = keeps-same step (asker_of m p now) was end views tt;
    }
