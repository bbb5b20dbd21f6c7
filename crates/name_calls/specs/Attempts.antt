-- What attempts of I$Open and I$Create do, from each state that the kernel's state represents, after the path list is
-- read: along its names, and then in the directory that the walk has reached.
use Rattle.std.specs.Prelude.{◌≡◌, ℕ, ◌+◌, false, Option, None, List}
use Rattle.os9_base.specs.declared.call.CallEnd.{CallEnd}
use Rattle.os9_base.specs.declared.registers.TimePacket.{TimePacket}
use Rattle.os9_outer.specs.TerminalState.{TerminalState}
use Rattle.proc_model.specs.Processes.{Processes, cells_at}
use Rattle.io_model.specs.PathList.{PathList, ends_in_dots}
use Rattle.device_paths.specs.Standing.{NamesFrom}
use Rattle.proc_state.specs.Tie.{RepresentsProcesses}
use Rattle.rbf_change.specs.Names.{is_dots}
use Rattle.file_rules.specs.Attempts.{asker_of}
use Rattle.file_rules.specs.Files.{Files}
use Rattle.file_rules.specs.Step.{FileStep}
use Rattle.file_rules.specs.Route.{Found, along, IsFoundAt}
use Rattle.lock_model.specs.declared.place.FilePlace.{FilePlace}
use Rattle.file_drives.specs.Drives.{DriveView}
use Rattle.file_state.specs.Attempt.{MachineOnDrives}
use Rattle.file_state.specs.Ends.{EndsFileAttempt}
use Rattle.file_state.specs.Tie.{RepresentsFiles}
use Rattle.name_calls.specs.OpenCalls.{creating_calls, new_file_calls, opening_calls}
use Rattle.name_calls.specs.Ends.{HasReadIn}
use Rattle.name_calls.specs.Steps.{creates_along, creates_there, opens_along}
use Rattle.name_calls.specs.declared.naming.LastLocated.{LastLocated}

-- an attempt of a process, at a time, does what the step says, for any terminals: it ends so, and leaves this state;
-- since the drives were `drives`, it called them at most `most` times
abbrev pub EndsForAnyTerminals : FileStep → ℕ → Processes → Files → TimePacket → ℕ → CallEnd → List DriveView
    → MachineOnDrives
    → Type 0
EndsForAnyTerminals step most m was now p end drives after =
    (terms : List TerminalState)
    → EndsFileAttempt step most m was now p end after.processes after.files drives after.views terms

-- ---- from a directory along names

-- a fact of each path list of a process, in each such state: the first of its names is at this address, or it has no
-- names, and it ends before `next`
abbrev pub OnEachList : MachineOnDrives → ℕ → Option ℕ → ℕ → (Processes → Files → PathList → Type 0) → Type 0
OnEachList before p first next fact =
    (m : Processes) (was : Files) (list : PathList) → RepresentsProcesses before.processes m
    → RepresentsFiles before.files before.views was → NamesFrom (cells_at m p) first list.names → list.next ≡ next
    → fact m was list

-- I$Open, from a directory along the names of such a list
abbrev pub OpensAlong : FilePlace → Option ℕ → ℕ → TimePacket → ℕ → CallEnd → MachineOnDrives → MachineOnDrives → Type 0
OpensAlong from first next now p end before after =
    OnEachList before p first next
    (λ m was list.
    EndsForAnyTerminals (opens_along (asker_of m p now) was list from)
    (opening_calls (asker_of m p now) was (along from list.names)) m was now p end before.views after)

-- I$Create, with the last of the names, which is not dots
abbrev pub CreatesAlong : FilePlace → Option ℕ → ℕ → TimePacket → ℕ → CallEnd → MachineOnDrives → MachineOnDrives
    → Type 0
CreatesAlong from first next now p end before after =
    OnEachList before p first next
    (λ m was list.
    ends_in_dots list ≡ false
    → EndsForAnyTerminals (creates_along (asker_of m p now) was list from)
    (creating_calls (asker_of m p now) was (along from list.names)) m was now p end before.views after)

-- ---- in the directory that a walk has reached

-- I$Create with a last name, which is not dots, in the directory that a walk has reached: the walk began in a state
-- that the kernel's state represents, with these drives, and has called its drive at most `most` times
abbrev pub CreatesThere : LastLocated → TimePacket → ℕ → CallEnd → MachineOnDrives → MachineOnDrives → Type 0
CreatesThere located now p end before after =
    (m : Processes) (was : Files) (list : PathList) (dir : Found) (most : ℕ) (drives : List DriveView)
    → RepresentsProcesses before.processes m
    → HasReadIn most None located.last.directory.drive was before.files drives before.views
    → IsFoundAt was located.last.directory dir → list.next ≡ located.next → is_dots located.last.name ≡ false
    → EndsForAnyTerminals (creates_there (asker_of m p now) was list located.last.name dir)
    (most + new_file_calls (asker_of m p now) located.last.name dir.volume dir.file) m was now p end drives after
