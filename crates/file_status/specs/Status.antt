-- Calls for the status of a file: the file of a path, the state after a call, and the greatest number of drive calls.
use Rattle.std.specs.Prelude.{◌≡◌, ◌≢◌, ℕ, ◌+◌, ◌==◌, Some, None, List, [], if◌then◌else◌}
use Rattle.std.specs.Option.{option_map_or}
use Rattle.os9_base.specs.declared.call.CallEnd.{CallEnd}
use Rattle.os9_base.specs.declared.call.CallEnd.TheVariants.{Done, NoMemory}
use Rattle.os9_base.specs.declared.registers.Regs.{Regs}
use Rattle.os9_base.specs.declared.registers.TimePacket.{TimePacket}
use Rattle.os9_outer.specs.TerminalState.{TerminalState}
use Rattle.proc_model.specs.Processes.{Processes, with_regs_of}
use Rattle.io_model.specs.Io.{with_call}
use Rattle.io_model.specs.Status.{options}
use Rattle.io_model.specs.declared.status.TheConstants.{OPTION_BYTES}
use Rattle.lock_model.specs.Records.{Records, without_lock, written_by}
use Rattle.lock_model.specs.declared.lock.Held.{Held}
use Rattle.rbf_change.specs.Calls.{cluster_size}
use Rattle.rbf_change.specs.Growth.{clusters_needed}
use Rattle.rbf_entries.specs.Attributes.{attribute_calls}
use Rattle.rbf_write.specs.Sizes.{size_calls}
use Rattle.proc_model.specs.Records.{record_at}
use Rattle.proc_state.specs.Tie.{RepresentsProcesses}
use Rattle.proc_state.specs.declared.state.ProcState.{ProcState}
use Rattle.file_rules.specs.Attempts.{asker_of}
use Rattle.file_rules.specs.Change.{sizes}
use Rattle.file_rules.specs.Files.{Asker, Files, OpenFile, open_file, place_of_target, volume_at, with_records}
use Rattle.file_rules.specs.Status.{gets_bytes, gets_status, sets_status}
use Rattle.file_rules.specs.Seek.{long_of}
use Rattle.file_rules.specs.Step.{FileStep, reaches}
use Rattle.file_rules.specs.Write.{changes_file}
use Rattle.file_rules.specs.declared.status.TheConstants.{SS_LOCK, SS_SIZE}
use Rattle.file_laws.specs.Kinds.{AreKinds}
use Rattle.file_state.specs.Attempt.{MachineOnDrives, unrequested}
use Rattle.file_state.specs.Ends.{EndsFileAttempt, EndsOrLacks}
use Rattle.file_state.specs.Opened.{IsOpenFileOf, IsPathOf}
use Rattle.file_state.specs.Tie.{RepresentsFiles}
use Rattle.file_state.specs.declared.state.FileState.{FileState}
use Rattle.file_state.specs.declared.state.OpenFile.{OpenFile as KernelFile}

-- the state in which nothing is kept of a call of a process
abbrev pub uncalled : FileState → ℕ → FileState
uncalled files p = record files { io = with_call files.io p None }

-- and in which the lock of a path has ended
abbrev pub unlocked : FileState → ℕ → ℕ → FileState
unlocked files p path =
    record files { io = with_call files.io p None; records = without_lock files.records path }

-- a path on a file in the kernel is this path of the machine
pub record RepresentsOpenFile (files : Files) (opened : KernelFile) (it : OpenFile) : Type 0 where
  pub path_is : it.opened.path ≡ opened.path
  pub desc_is : it.opened.desc ≡ opened.desc
  pub place_is : it.place ≡ opened.place
  pub target_is : place_of_target opened.desc.target ≡ Some opened.place
  pub volume_is : volume_at files opened.place.drive ≡ Some it.volume
  pub file_is : it.volume.files opened.place.number ≡ Some it.file

-- a call of a process on this path, at a time, ends as the step says, and calls the drive at most `most` times if it
-- reaches the drive, from each state of the machine that the kernel's state represents
abbrev pub EndsPathCall : KernelFile → (Asker → Files → OpenFile → FileStep) → (Asker → OpenFile → ℕ) → TimePacket → ℕ
    → CallEnd → MachineOnDrives → MachineOnDrives → Type 0
EndsPathCall opened step most now p end before after =
    (m : Processes) (was : Files) (it : OpenFile) (terms : List TerminalState) → RepresentsProcesses before.processes m
    → RepresentsFiles before.files before.views was → RepresentsOpenFile was opened it
    → EndsFileAttempt (step (asker_of m p now) was it) (most (asker_of m p now) it) m was now p end after.processes
    after.files
    before.views after.views terms

-- the same once the files have changed so, or memory was wanting for its entry in the history
abbrev pub SetsFrom : (Files → Files) → KernelFile → (Asker → Files → OpenFile → FileStep) → (Asker → OpenFile → ℕ)
    → TimePacket → ℕ → CallEnd → MachineOnDrives → MachineOnDrives → Type 0
SetsFrom changed opened step most now p end before after =
    (m : Processes) (was : Files) (it : OpenFile) (terms : List TerminalState) → RepresentsProcesses before.processes m
    → RepresentsFiles before.files before.views (changed was) → RepresentsOpenFile was opened it
    → EndsOrLacks (step (asker_of m p now) was it) (most (asker_of m p now) it) m was now p end after.processes
    after.files before.views after.views terms

abbrev pub SetsOn : KernelFile → (Asker → Files → OpenFile → FileStep) → (Asker → OpenFile → ℕ) → TimePacket → ℕ
    → CallEnd → MachineOnDrives → MachineOnDrives → Type 0
SetsOn opened step most now p end before after = SetsFrom (λ files. files) opened step most now p end before after

-- once its request is granted: the kernel's files have it no longer
abbrev pub SetsGranted : KernelFile → (Asker → Files → OpenFile → FileStep) → (Asker → OpenFile → ℕ) → TimePacket → ℕ
    → CallEnd → MachineOnDrives → MachineOnDrives → Type 0
SetsGranted opened step most now p end before after =
    SetsFrom (unrequested p) opened step most now p end before after

-- A of a process names this file or directory
pub record IsNamedInA (p : ℕ) (opened : KernelFile) (before : MachineOnDrives) : Type 0 where
  pub path : IsPathOf before.files.io opened
  pub file : (files : Files) → RepresentsFiles before.files before.views files → AreKinds files
      → IsOpenFileOf before.files before.views files p (record_at before.processes.table p).regs.a opened

-- ---- under a lock

-- the records once a file of this size is given that one, under a lock that was granted
abbrev pub records_sized : ℕ → ℕ → ℕ → Held → Records → Records
records_sized old size path lock records =
    if old == size then without_lock records path else written_by records path lock []

-- the size in X and U is given to a file of this size, under a lock that was granted
abbrev pub sizes_granted : ℕ → Held → Asker → Files → OpenFile → FileStep
sizes_granted old lock asker files opened =
    reaches opened.place.drive
    (changes_file opened (sizes opened.place.number (long_of asker.caller.regs)) (long_of asker.caller.regs)
    asker.caller.regs
    (with_records files
    (records_sized old (long_of asker.caller.regs) opened.opened.path.0 lock files.records)))

-- the size in X and U was given to a file of this size: the call of a process is done once that is in the history. Or
-- memory was wanting for the entry of another size, and the state is as it was
pub record EndsSized (old : ℕ) (lock : Held) (regs : Regs) (opened : KernelFile) (m : Processes) (p : ℕ)
    (state : FileState) (end : CallEnd) (processes : ProcState) (new : FileState) : Type 0 where
  pub done : end ≢ NoMemory → (end ≡ Done) × RepresentsProcesses processes (with_regs_of m p regs)
  pub entered : end ≢ NoMemory → new
      ≡ record state {
        io = with_call state.io p None;
        records = records_sized old (long_of regs) opened.path.0 lock state.records;
      }
  pub other : end ≡ NoMemory → old ≢ long_of regs
  pub lacks : end ≡ NoMemory → new ≡ state

-- SS.Opt of a path on a file
abbrev pub gets_options : Asker → Files → OpenFile → FileStep
gets_options asker files opened =
    gets_bytes asker files OPTION_BYTES (λ step. step) (options opened.opened.desc.target)

-- by the code in B: getting the status, and setting it
abbrev pub gets_by_code : Asker → Files → OpenFile → FileStep
gets_by_code asker files opened = gets_status asker files opened asker.caller.regs.b

abbrev pub sets_by_code : Asker → Files → OpenFile → FileStep
sets_by_code asker files opened = sets_status asker files opened asker.caller.regs.b

-- ---- the greatest number of drive calls

-- the descriptor is read
abbrev pub getting_calls : Asker → OpenFile → ℕ
getting_calls asker opened = 1

-- for a new size of a file: at most one sector of the map has a mark for each cluster that the file gains
abbrev pub sizing_calls : Asker → OpenFile → ℕ → ℕ
sizing_calls asker opened size =
    size_calls opened.volume opened.file
    (clusters_needed (cluster_size opened.volume) opened.file.segments size)
    (record { number = opened.place.number; size = size; now = asker.now })

-- of the size in X and U
abbrev pub granted_size_calls : Asker → OpenFile → ℕ
granted_size_calls asker opened = sizing_calls asker opened (long_of asker.caller.regs)

-- for what this code sets; the descriptor is read before a request, whose range hangs on the size of the file
abbrev pub setting_calls : ℕ → Asker → OpenFile → ℕ
setting_calls code asker opened =
    if code == SS_SIZE then 1 + granted_size_calls asker opened
    else (if code == SS_LOCK then 1 else attribute_calls opened.file asker.user)

-- for the setting with the code in B
abbrev pub calls_by_code : Asker → OpenFile → ℕ
calls_by_code asker opened = setting_calls asker.caller.regs.b asker opened

-- in a whole call
abbrev pub i_getstt_calls : Asker → Files → ℕ → ℕ
i_getstt_calls asker files terms = 1

-- by the file that A names
abbrev pub i_setstt_calls : Asker → Files → ℕ → ℕ
i_setstt_calls asker files terms =
    option_map_or (calls_by_code asker) (open_file files asker.caller.process.0 asker.caller.regs.a) 0
