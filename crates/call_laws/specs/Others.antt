-- What an event of a process leaves unchanged of the other processes (System Programmer's Manual, F$Fork, F$Send,
-- F$SPrior, F$Wait and F$Exit).
use Rattle.std.specs.List.{filter}
use Rattle.std.specs.Prelude.{◌==◌, ◌&&◌, not, is_some, ◌≡◌, ◌≢◌, ◌⊎◌, ℕ, Bool, true, Option, Some, None, List}
use Rattle.proc_model.specs.Memory.{MemoryState, map_at}
use Rattle.proc_model.specs.ModuleList.{module_entry_at}
use Rattle.proc_model.specs.Slots.{NamesBlock}
use Rattle.proc_model.specs.declared.own.Own.{Own}
use Rattle.proc_model.specs.declared.record.Life.TheVariants.{Running}
use Rattle.proc_model.specs.declared.record.Record.{Record}
use Rattle.proc_model.specs.Records.{record_of, record_at, has_ended, free_process}
use Rattle.proc_model.specs.Signals.{is_reached, wake_signal}
use Rattle.proc_model.specs.declared.turn.Turn.{Turn}
use Rattle.proc_model.specs.declared.proc_call.ProcCall.{ProcCall}
use Rattle.proc_model.specs.Codes.{call_of}
use Rattle.proc_model.specs.Processes.{Processes, own_at, regs_at, user_at}
use Rattle.proc_model.specs.Ready.{attempts, act_of}
use Rattle.proc_model.specs.Send.{is_asleep}
use Rattle.machine_model.specs.declared.ends.EventEnd.{EventEnd}
use Rattle.machine_model.specs.declared.ends.EventEnd.TheVariants.{Ended}
use Rattle.proc_model.specs.declared.proc_call.ProcCall.TheVariants as Call
use Rattle.call_laws.specs.Objects.{IsNewOrShared}

-- ---- what the process does

-- a process attempts this call
abbrev pub AttemptsCall : Processes → ℕ → ProcCall → Type 0
AttemptsCall m p call = (code : ℕ) × (act_of m p ≡ attempts code) × (call_of code ≡ Some call)

-- a process attempts this call on another one, which it names in A and may act on
pub record CallsOn (m : Processes) (p : ℕ) (call : ProcCall) (q : ℕ) : Type 0 where
  pub attempted : AttemptsCall m p call
  pub named : (regs_at m p).a ≡ q
  pub reached : is_reached m.records (user_at m p) q ≡ true  -- it is of its user, or its user is the superuser

-- ---- the other processes

-- F$Send makes a signal pending for another process: a signal other than wake, if none was pending
pub record GetsSignal (m : Processes) (p q : ℕ) (old new : Option ℕ) : Type 0 where
  pub sent : CallsOn m p Call.Send q
  pub not_wake : (regs_at m p).b ≢ wake_signal
  pub none_pending : old ≡ None
  pub pending : new ≡ Some (regs_at m p).b

-- F$Send wakes another process, which sleeps
pub record GetsWake (m : Processes) (p q : ℕ) (new : Bool) : Type 0 where
  pub sent : CallsOn m p Call.Send q
  pub wake : (regs_at m p).b ≡ wake_signal
  pub asleep : is_asleep m q ≡ true
  pub woken : new ≡ true

-- the record of another process changes only by F$Send, by F$SPrior and by the end of its parent
pub record KeepsRecord (m : Processes) (p : ℕ) (end : EventEnd) (q : ℕ) (old new : Record) : Type 0 where
  pub parent : (new.parent ≡ old.parent) ⊎ (end ≡ Ended) × (old.parent.0 ≡ p) × (new.parent.0 ≡ 0)
  pub priority : (new.priority ≡ old.priority) ⊎ CallsOn m p Call.SPrior q × (new.priority ≡ (regs_at m p).b)
  pub signal : (new.signal ≡ old.signal) ⊎ GetsSignal m p q old.signal new.signal
  -- user, registers, life and intercept are as before
  pub others : new ≡ record old { parent = new.parent; priority = new.priority; signal = new.signal }

-- the rest of another process: F$Send may wake it, and its primary module may leave
pub record KeepsOwn (m : Processes) (p : ℕ) (n : MemoryState) (q : ℕ) (old new : Own) : Type 0 where
  pub woken : (new.woken ≡ old.woken) ⊎ GetsWake m p q new.woken
  pub primary : (new.primary ≡ old.primary)
      ⊎ (id : ℕ) × (old.primary ≡ Some (record { 0 = id })) × (module_entry_at n.modules id ≡ None)
      × (new.primary ≡ None)
  -- size, links, call and sleep are as before
  pub others : new ≡ record old { woken = new.woken; primary = new.primary }

-- another process stays
pub record Stays (m : Processes) (p : ℕ) (end : EventEnd) (n : Processes) (q : ℕ) (old new : Record) : Type 0 where
  pub map : map_at n.memory q ≡ map_at m.memory q
  pub own : KeepsOwn m p n.memory q (own_at m q) (own_at n q)
  pub record_is : KeepsRecord m p end q old new

-- another process disappears: it had ended, and its parent was given its status or has ended too
pub record Goes (m : Processes) (p : ℕ) (end : EventEnd) (old : Record) : Type 0 where
  pub child : old.parent.0 ≡ p
  pub had_ended : has_ended old.life ≡ true
  pub cause : AttemptsCall m p Call.Wait ⊎ (end ≡ Ended)

-- another process begins: F$Fork makes it, with the least number that has no record and its parent's user and priority;
-- it runs, and sees only new and shared objects
pub record ForksProcess (m : Processes) (p : ℕ) (n : Processes) (q : ℕ) (new : Record) : Type 0 where
  pub call : AttemptsCall m p Call.Fork
  pub number : free_process m.records ≡ Some q
  pub child : new.parent.0 ≡ p
  pub user : new.user ≡ user_at m p
  pub priority : new.priority ≡ (record_at m.records p).priority
  pub runs : new.life ≡ Running
  pub no_intercept : new.intercept ≡ None
  pub no_signal : new.signal ≡ None
  pub map : (object : ℕ) → NamesBlock (map_at n.memory q) object → IsNewOrShared m.memory n.memory object
  pub parent_map : map_at n.memory p ≡ map_at m.memory p

-- the change of another process, from the one record, if any, to the other
abbrev pub ComesOf : Processes → ℕ → EventEnd → Processes → ℕ → Option Record → Option Record → Type 0
ComesOf m p end n q (Some old) (Some new) = Stays m p end n q old new
ComesOf m p end n q (Some old) None = Goes m p end old
ComesOf m p end n q None (Some new) = ForksProcess m p n q new
ComesOf m p end n q None None = Unit {0}

-- a process has a record
abbrev pub HasRecord : Processes → ℕ → Type 0
HasRecord m q = (r : Record) × (record_of m.records q ≡ Some r)

-- the turns of the others that have a record, in the order of choice
abbrev pub turns_of_others : Processes → ℕ → List Turn → List Turn
turns_of_others m p order =
    filter (λ t. not (t.process.0 == p) && is_some (record_of m.records t.process.0)) order
