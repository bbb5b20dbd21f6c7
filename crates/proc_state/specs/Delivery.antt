-- The result of the delivery of a signal, and the place of its frame.
use Rattle.std.specs.Prelude.{ℕ, ◌-◌, Option, Some, None, Result, Ok, Err, if◌then◌else◌}
use Rattle.os9_base.specs.declared.call.CallEnd.{CallEnd}
use Rattle.os9_base.specs.declared.call.CallEnd.TheVariants.{Done, Ended}
use Rattle.proc_model.specs.Delivery.{stack_top, has_no_room}
use Rattle.proc_model.specs.Processes.{Processes}

-- how a delivery ends: the routine has begun, or the process has ended
abbrev pub delivery_end : Result Processes ℕ → CallEnd
delivery_end (Ok t) = Done
delivery_end (Err status) = Ended

-- the lowest address of the frame of a process with this stack pointer, if there is room
abbrev pub frame_place : Processes → ℕ → ℕ → Option ℕ
frame_place m p s = if has_no_room m p (stack_top s) then None else Some (stack_top s - 12)
