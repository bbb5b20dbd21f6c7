-- The end of a process, and what its parent receives (System Programmer's Manual, F$Exit and F$Wait).
use Rattle.std.specs.Prelude.{ℕ, ◌==◌, ◌&&◌, not, Bool, Option, Some, None, Result, Ok, Err, List, map, position, replicate, slice_set, if◌then◌else◌}
use Rattle.std.specs.List.{list_any}
use Rattle.std.specs.Option.{option_map_or}
use Rattle.os9_base.specs.declared.limits.TheConstants.{PROCESS_PLACES}
use Rattle.os9_base.specs.declared.registers.Pid.{Pid}
use Rattle.proc_model.specs.declared.record.Life.{Life}
use Rattle.proc_model.specs.declared.record.Life.TheVariants.{Running, Waiting, Ended}
use Rattle.proc_model.specs.declared.record.Reap.{Reap}
use Rattle.proc_model.specs.declared.record.Reap.TheVariants.{NoChild, NotYet}
use Rattle.proc_model.specs.declared.record.Record.{Record}
use Rattle.proc_model.specs.Records.{record_passes, has_ended, record_at, without_record, after_make}

-- a record is of a child of this process
abbrev pub is_child : ℕ → Record → Bool
is_child parent r = r.parent.0 == parent

-- a record is of an ended child of this process
abbrev pub is_ended_child : ℕ → Record → Bool
is_ended_child parent r = is_child parent r && has_ended r.life

-- some record has this parent
abbrev pub has_child : List (Option Record) → ℕ → Bool
has_child records parent = list_any (record_passes (is_child parent)) records

-- the ended child of least number
abbrev pub ended_child : List (Option Record) → ℕ → Option ℕ
ended_child records parent = position (record_passes (is_ended_child parent)) records

-- the status with which a process has ended
abbrev pub end_status : Life → ℕ
end_status Running = 0
end_status Waiting = 0
end_status (Ended status) = status

-- the number and the status of an ended child
abbrev pub child_and_status : List (Option Record) → ℕ → Pid × ℕ
child_and_status records child = (record { 0 = child }, end_status (record_at records child).life)

-- what a waiting parent receives: the ended child of least number, and its status
abbrev pub reaped : List (Option Record) → ℕ → Result (Pid × ℕ) Reap
reaped records parent =
    option_map_or (λ child. Ok (child_and_status records child)) (ended_child records parent)
    (if has_child records parent then Err NotYet else Err NoChild)

-- the records afterwards: without the child that was returned
abbrev pub after_reap : List (Option Record) → ℕ → List (Option Record)
after_reap records parent = option_map_or (without_record records) (ended_child records parent) records

-- what the end of a process leaves of its own record: the status for its parent, or nothing if it has no parent
abbrev pub ended_record : Record → ℕ → Option Record
ended_record r status = if r.parent.0 == 0 then None else Some (record r { life = Ended status })

-- what it leaves of any other record: an ended child's is removed, and a living child has no parent any more
abbrev pub orphaned : ℕ → Option Record → Option Record
orphaned parent None = None
orphaned parent (Some r) =
    if not (is_child parent r) then Some r
    else (if has_ended r.life then None else Some (record r { parent = record { 0 = 0 } }))

-- the records after the end of a process
abbrev pub after_exit : List (Option Record) → ℕ → ℕ → List (Option Record)
after_exit records p status = slice_set (map (orphaned p) records) p (ended_record (record_at records p) status)

-- process 2 alone, which has no parent, of this user and priority
abbrev pub first_alone : ℕ → ℕ → List (Option Record)
first_alone user priority = after_make (replicate PROCESS_PLACES None) (record { 0 = 0 }) user priority

-- process 2 of user 7, and its children 3 and 4
abbrev pub family : List (Option Record)
family = after_make (after_make (first_alone 7 128) (record { 0 = 2 }) 7 128) (record { 0 = 2 }) 7 128

-- the same after process 4 has ended with status 7, and then process 3 with 9
abbrev pub family_ended : List (Option Record)
family_ended = after_exit (after_exit family 4 7) 3 9
