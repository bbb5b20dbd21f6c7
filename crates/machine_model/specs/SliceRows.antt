-- Slices of the machine that are worked through by hand, one event after another.
use Rattle.std.specs.Prelude.{◌≡◌, ℕ, zero, suc, Bool, Option, Some, None, option_map, List, [], ◌∷◌, ◌++◌, length, map, replicate}
use Rattle.std.specs.Option.{option_map_or}
use Rattle.os9_base.specs.declared.calls.TheConstants.{F_ID, F_SLEEP, F_TIME, F_STIME}
use Rattle.os9_base.specs.declared.errors.TheConstants.{E_UNKSVC}
use Rattle.os9_base.specs.declared.registers.Pid.{Pid}
use Rattle.os9_base.specs.declared.registers.Regs.{Regs}
use Rattle.os9_base.specs.declared.registers.TimePacket.{TimePacket}
use Rattle.time_rules.specs.CivilRows.{at}
use Rattle.proc_model.specs.Records.{zero_regs, with_record}
use Rattle.proc_model.specs.Signals.{intercept_of, with_intercept, with_signal}
use Rattle.proc_model.specs.Turns.{with_turn}
use Rattle.proc_model.specs.Attempts.{attempted, after_attempt}
use Rattle.proc_model.specs.CallResult.{CallResult, refused}
use Rattle.proc_model.specs.Choice.{choice_of, after_choice}
use Rattle.proc_model.specs.Delivery.{delivered, after_delivery}
use Rattle.proc_model.specs.Processes.{Processes, no_own, with_records, with_own}
use Rattle.proc_model.specs.Ready.{Act, attempts, delivers, executes, act_of}
use Rattle.proc_model.specs.Rows.{one_process, two_processes, running_with, next_tick}
use Rattle.file_rules.specs.Locking.{files_may_go}
use Rattle.file_rules.specs.Processes.{first_files}
use Rattle.time_rules.specs.Attempts.{clock_after, result_of, time_step}
use Rattle.time_rules.specs.Clock.{IsNow, first_clock}
use Rattle.time_rules.specs.Packet.{packet_bytes}
use Rattle.machine_model.specs.declared.ends.SliceEnd.TheVariants.{Ran}
use Rattle.machine_model.specs.ProcessEvent.{after_instruction, next_instruction}
use Rattle.machine_model.specs.Event.{before_delivery, files_after_delivery, files_after_instruction}
use Rattle.machine_model.specs.Run.{Slice}
use Rattle.machine_model.specs.Services.{Service, files_after_call, no_call, on_paths, on_processes, on_time, loads, service_of, with_files}
use Rattle.machine_model.specs.State.{State, Rest, rest_of, with_rest}

-- ---- events that touch no terminal and no drive

-- the result of an attempt of a call on processes and modules or on the time, if the clock shows this time
abbrev pub served : Service → State → TimePacket → ℕ → CallResult
served loads s now p = refused E_UNKSVC
served (on_processes call) s now p = attempted call s.processes p
served (on_time call) s now p = result_of s.processes p (time_step call s.processes now p)
served (on_paths call) s now p = refused E_UNKSVC
served no_call s now p = refused E_UNKSVC

-- the rest of the state after it
abbrev pub rest_after : Service → State → TimePacket → ℕ → Rest
rest_after loads s now p = rest_of s
rest_after (on_processes call) s now p = with_files s (files_after_call s.files p (attempted call s.processes p))
rest_after (on_time call) s now p =
    record (rest_of s) { clock = clock_after s.clock (time_step call s.processes now p) }
rest_after (on_paths call) s now p = rest_of s
rest_after no_call s now p = rest_of s

-- the state after a process does this, if the clock shows this time
abbrev pub after_act : TimePacket → Act → State → ℕ → State
after_act now executes s p =
    record s {
      processes = after_instruction s.processes p (next_instruction s.processes p);
      files = files_after_instruction s.files p (next_instruction s.processes p);
    }
after_act now (attempts code) s p =
    with_rest s (after_attempt s.processes p (served (service_of code) s now p)) (rest_after (service_of code) s now p)
after_act now (delivers signal) s p =
    record s {
      processes = after_delivery (before_delivery s p) p (delivered (before_delivery s p) p signal);
      files = files_after_delivery s.files p (delivered (before_delivery s p) p signal);
    }

-- what the chosen process does next
abbrev pub next_of : State → Option Act
next_of s = option_map (act_of s.processes) s.chosen

-- the state after the next event
abbrev pub after_event : TimePacket → State → State
after_event now s = option_map_or (λ p. after_act now (act_of s.processes p) s p) s.chosen s

-- the state after a number of events, the states after each of them, and what the chosen process does in them
abbrev pub after_events : TimePacket → ℕ → State → State
after_events now zero s = s
after_events now (suc n) s = after_events now n (after_event now s)

abbrev pub states_from : TimePacket → ℕ → State → List State
states_from now zero s = []
states_from now (suc n) s = after_event now s ∷ states_from now n (after_event now s)

abbrev pub acts_from : TimePacket → ℕ → State → List (Option Act)
acts_from now zero s = []
acts_from now (suc n) s = next_of s ∷ acts_from now n (after_event now s)

-- ---- slices

-- the waiting call of a process may go on at the next tick
abbrev pub may_go_next : State → ℕ → Bool
may_go_next s = files_may_go s.files (next_tick s.processes).tick

-- the state in which a slice begins: at the next tick, with its process chosen
abbrev pub at_choice : State → State
at_choice s = record s {
  processes = after_choice (may_go_next s) (next_tick s.processes);
  chosen = option_map (λ (p : Pid). p.0) (choice_of (may_go_next s) (next_tick s.processes)).chosen;
}

-- the state after a slice of this number of events, at whose tick the clock shows this time
abbrev pub after_slice : TimePacket → ℕ → State → State
after_slice now events s = after_events now events (at_choice s)

-- a slice of n instructions, at whose tick the clock shows this time: this process is chosen, and does this
pub record SliceDoes (now : TimePacket) (n : ℕ) (s : State) (who : ℕ) (acts : List Act) : Type 0 where
  pub shows : IsNow s.clock (at_choice s).processes.tick now
  pub slice : Slice n s (states_from now (length acts) (at_choice s)) Ran (after_slice now (length acts) s)
  pub chosen : (after_slice now (length acts) s).chosen ≡ Some who
  pub does : acts_from now (length acts) (at_choice s) ≡ map Some acts

-- ---- states

-- the time at which the machine starts: 1 January 1990, 00:00:00
abbrev pub at_start : TimePacket
at_start = at 90 1 1 0 0 0

-- process 2 alone, which has these registers and sees these bytes from address 0 on
abbrev pub alone : List ℕ → Regs → Processes
alone bytes regs = record (one_process bytes regs) {
  records = with_record (replicate 33 None) 2 (running_with regs);
  order = with_turn [] (record { 0 = 2 }) 128;
}

-- the machine in this state before a slice, without drives and terminals
abbrev pub before_slice : Processes → State
before_slice m = record {
  processes = m;
  files = first_files [] [];
  clock = first_clock at_start;
  chosen = None;
  terms = [];
}

-- NOP, F$ID and two more NOP
abbrev pub asks_for_id : State
asks_for_id = before_slice (alone (0x12 ∷ 0x10 ∷ 0x3F ∷ F_ID ∷ 0x12 ∷ 0x12 ∷ []) zero_regs)

-- F$Sleep for ever
abbrev pub falls_asleep : State
falls_asleep = before_slice (alone (0x10 ∷ 0x3F ∷ F_SLEEP ∷ 0x12 ∷ []) zero_regs)

-- nothing but NOP, with room for a frame below 30
abbrev pub idles : Processes
idles = alone (replicate 64 0x12) (record zero_regs { s = 0x30 })

-- the same, with an intercept of process 2 at 8, and signal 7 pending
abbrev pub signalled : Processes
signalled =
    with_records idles (with_signal (with_intercept idles.records 2 (intercept_of 8 0)) 2 (Some 7))

-- the same, just after the process has executed F$ID
abbrev pub signalled_in_call : State
signalled_in_call = before_slice (with_own signalled 2 (record no_own { call = Some F_ID }))

-- processes 2 and 3 of one priority, which execute NOP
abbrev pub two_running : State
two_running = before_slice (two_processes (replicate 64 0x12) zero_regs zero_regs)

-- LDA of 4000, which is in no named slot
abbrev pub loads_unnamed : State
loads_unnamed = before_slice (alone (0xB6 ∷ 0x40 ∷ 0 ∷ []) zero_regs)

-- F$Time for a packet at 20, with carry set, and nothing but NOP; a number of ticks have passed
abbrev pub asks_for_time : ℕ → State
asks_for_time tick =
    before_slice (record (alone (0x10 ∷ 0x3F ∷ F_TIME ∷ replicate 61 0x12) (record zero_regs { cc = 1; x = 0x20 })) {
      tick = tick;
    })

-- the state after that call in tick 120, two seconds after the start
abbrev pub told : State
told = after_slice (at 90 1 1 0 0 2) 3 (asks_for_time 119)

-- F$STime of this packet, which is at 4 after a NOP; ten ticks have passed
abbrev pub sets_time : TimePacket → State
sets_time packet =
    before_slice (alone ((0x10 ∷ 0x3F ∷ F_STIME ∷ 0x12 ∷ []) ++ packet_bytes packet) (record zero_regs { x = 4 }))

-- the state after that call of 29 February 1993
abbrev pub not_set : State
not_set = after_slice at_start 3 (sets_time (at 93 2 29 23 59 59))
