-- The choice of the scheduler is that of the machine.
use Rattle.std.proofs.Common.{◌≡◌, ℕ, Bool, true, false, Option, Some, None, is_some, List, refl, sym, ap, ◌∙◌}
use Rattle.std.specs.Prelude.{if◌then◌else◌, unwrap_or}
use Rattle.std.proofs.lemmas.Bool.{false≢true}
use Rattle.os9_sched.specs.declared.member.Member.{Member}
use Rattle.os9_sched.specs.declared.member.Standing.TheVariants.{Going}
use Rattle.os9_sched.specs.Members.{member_of, is_active_in, priority_in}
use Rattle.os9_sched.specs.Schedule.{Schedule}
use Rattle.proc_model.specs.declared.record.Record.{Record}
use Rattle.proc_model.specs.Records.{is_living, record_at}
use Rattle.proc_model.specs.Turns.{choose}
use Rattle.proc_model.specs.Choice.{choice_of, turn_priority}
use Rattle.proc_model.specs.Processes.{Processes}
use Rattle.proc_model.specs.Ready.{is_ready}
use Rattle.proc_state.specs.Sound.{AreTurns}
use Rattle.proc_state.specs.Tie.{RepresentsProcesses}
use Rattle.proc_state.specs.declared.state.ProcState.{ProcState}
use Rattle.proc_state.specs.Active.{AreActiveAt}

-- the priority in the scheduler is that of the record, and 0 where no process lives
priority_of : (records : List (Option Record)) (schedule : Schedule) → AreTurns records schedule → (p : ℕ)
    → priority_in schedule.members p ≡ (if is_living records p then (record_at records p).priority else 0)
priority_of records schedule turns p = by_life (is_living records p) refl
  where
    no_priority : (place : Option Member) → is_some place ≡ false → (unwrap_or place (record { priority = 0; standing = Going })).priority ≡ 0
    no_priority None is = refl
    no_priority (Some m) is = absurd (false≢true (sym is))

    by_life : (life : Bool) → is_living records p ≡ life → priority_in schedule.members p ≡ (if life then (record_at records p).priority else 0)
    by_life true is = turns.priorities p is
    by_life false is = no_priority (member_of schedule.members p) (turns.members p ∙ is)

module _ (io : ℕ → Bool) (state : ProcState) (m : Processes) (active : AreActiveAt io m.tick state) (tied : RepresentsProcesses state m) where
  order_is : state.sched.order ≡ m.order
  order_is = λ i. (sym tied.is i).order

  ready : (p : ℕ) → is_active_in state.sched.members p ≡ is_ready io m p
  ready p = active p ∙ sym (ap (λ (s : Processes). is_ready io (record s { tick = m.tick }) p) tied.is)

  priority : (p : ℕ) → priority_in state.sched.members p ≡ turn_priority m p
  priority p = priority_of state.table state.sched state.turns p ∙ sym (ap (λ (s : Processes). turn_priority s p) tied.is)

  pub choice_is : choose (is_active_in state.sched.members) (priority_in state.sched.members) state.sched.order ≡ choice_of io m
  choice_is = λ i. choose (λ p. ready p i) (λ p. priority p i) (order_is i)
