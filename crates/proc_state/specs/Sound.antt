-- What always holds of the processes.
use Rattle.std.specs.Prelude.{◌≡◌, ℕ, ◌+◌, ◌≤◌, Option, Some, IsSome, is_some, List, All, slice_get}
use Rattle.std.specs.Option.{ForSome}
use Rattle.proc_model.specs.declared.module.ModId.{ModId}
use Rattle.proc_model.specs.ModuleList.{ModuleEntry, module_entry_at}
use Rattle.proc_model.specs.declared.own.Own.{Own}
use Rattle.proc_model.specs.declared.record.Record.{Record}
use Rattle.proc_model.specs.Records.{IsLiving, is_living, is_waiting, record_at}
use Rattle.os9_sched.specs.Members.{member_of, priority_in, wait_at}
use Rattle.os9_sched.specs.Schedule.{Schedule}

-- the scheduler has the living processes, each with the priority of its record, and with a cause exactly if it waits
pub record AreTurns (records : List (Option Record)) (schedule : Schedule) : Type 0 where
  pub members : (p : ℕ) → is_some (member_of schedule.members p) ≡ is_living records p
  pub priorities : (p : ℕ) → IsLiving records p → priority_in schedule.members p ≡ (record_at records p).priority
  pub causes : (p : ℕ) → IsLiving records p
      → is_some (wait_at (member_of schedule.members p)) ≡ is_waiting (record_at records p).life

-- the primary module of each process that has one is entered
abbrev pub ArePrimaries : List Own → List (Option ModuleEntry) → Type 0
ArePrimaries owns entries =
    (p : ℕ) (own : Own) (id : ModId) → slice_get owns p ≡ Some own → own.primary ≡ Some id
    → IsSome (module_entry_at entries id.0)

-- no sleep ends more than 65,535 ticks after this one
abbrev pub AreSleeps : List Own → ℕ → Type 0
AreSleeps owns tick = All (λ own. ForSome own.until (λ until. until ≤ tick + 65535)) owns
