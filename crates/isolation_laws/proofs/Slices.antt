-- What is a process's own stays its own, and as it is, in a slice of another one.
use Rattle.std.proofs.Common.{◌≡◌, ◌≢◌, ℕ, ◌-◌, ◌<◌, Bool, true, false, Option, Some, None, List, [], ◌∷◌, length, slice_get, refl, sym, ap, ◌∙◌, subst}
use Rattle.std.specs.Prelude.{MatchBool, MatchOption}
use Rattle.proc_model.specs.Memory.{MemoryState, map_at}
use Rattle.proc_model.specs.Slots.{NamesBlock}
use Rattle.proc_model.specs.Records.{IsLiving}
use Rattle.proc_model.specs.Processes.{Processes}
use Rattle.proc_model.specs.Ready.{Act, act_of, attempts, delivers, executes}
use Rattle.machine_model.specs.declared.ends.EventEnd.{EventEnd}
use Rattle.machine_model.specs.declared.ends.SliceEnd.{SliceEnd}
use Rattle.machine_model.specs.declared.ends.SliceEnd.TheVariants.{Idle, Ran}
use Rattle.call_laws.proofs.RunningLaws.{SignalsLeave, tick-leaves}
use Rattle.call_laws.specs.Objects.{IsOfModule}
use Rattle.isolation_laws.specs.Own.{IsOwn, KeepsOwnObject}
use Rattle.machine_model.specs.Event.{Acts, Event, cost}
use Rattle.machine_model.specs.Run.{Choose, Slice, SliceEvents, Tick, is_going}
use Rattle.machine_model.specs.State.{State}
use Rattle.isolation_laws.proofs.Owning.{own-event}

-- ---- the chosen process stays chosen

acts-chosen : (act : Act) (s : State) (p : ℕ) (end : EventEnd) (t : State) → Acts act s p end t → t.chosen ≡ s.chosen
acts-chosen executes s p end t (over, is) = ap (λ (t : State). t.chosen) is
acts-chosen (delivers signal) s p end t (over, is) = ap (λ (t : State). t.chosen) is
acts-chosen (attempts code) s p end t (result, rest, attempted, over, is) = ap (λ (t : State). t.chosen) is

event-chosen : (s t : State) (end : EventEnd) → Event s end t → t.chosen ≡ s.chosen
event-chosen s t end (p, chosen, lives, acts) = acts-chosen (act_of s.processes p) s p end t acts

steps-chosen : (left : ℕ) (s : State) (states : List State) (t : State) → SliceEvents left s states t → t.chosen ≡ s.chosen
steps-chosen left s [] t (over, is) = ap (λ (t : State). t.chosen) is
steps-chosen left s (m ∷ ms) t (some, end, event, steps) =
    by_going (is_going end) (steps-chosen (left - cost s) m ms t) steps ∙ event-chosen s m end event
  where
    by_going : (going : Bool) → (SliceEvents (left - cost s) m ms t → t.chosen ≡ m.chosen) → MatchBool going (SliceEvents (left - cost s) m ms t) ((ms ≡ []) × (t ≡ m)) → t.chosen ≡ m.chosen
    by_going true later steps = later steps
    by_going false later (none, is) = ap (λ (t : State). t.chosen) is

-- ---- the events of a slice

own-then : (m n o : Processes) (p object : ℕ) → KeepsOwnObject m p object n → KeepsOwnObject n p object o → KeepsOwnObject m p object o
own-then m n o p object first next =
    record { lives = next.lives; own = next.own; bytes = next.bytes ∙ first.bytes }

own-same : (m : Processes) (p object : ℕ) → IsLiving m.records p → IsOwn m p object → KeepsOwnObject m p object m
own-same m p object lives own = record { lives = lives; own = own; bytes = refl }

own-steps : (left : ℕ) (s : State) (states : List State) (t : State) (q p object : ℕ) → s.chosen ≡ Some q → p ≢ q
    → SliceEvents left s states t → IsLiving s.processes.records p → IsOwn s.processes p object → KeepsOwnObject s.processes p object
    t.processes
own-steps left s [] t q p object chosen differ (over, is) lives own =
    subst (λ (t : State). KeepsOwnObject s.processes p object t.processes) (sym is) (own-same s.processes p object lives own)
own-steps left s (m ∷ ms) t q p object chosen differ (some, end, event, steps) lives own =
    let first : KeepsOwnObject s.processes p object m.processes = own-event s m end q p object chosen differ event lives own in
    own-then s.processes m.processes t.processes p object first (by_going (is_going end) (own-steps (left - cost s) m ms t q p object (event-chosen s m end event ∙ chosen) differ) first steps)
  where
    by_going : (going : Bool) → (SliceEvents (left - cost s) m ms t → IsLiving m.processes.records p → IsOwn m.processes p object
        → KeepsOwnObject m.processes p object t.processes) → KeepsOwnObject s.processes p object m.processes
        → MatchBool going (SliceEvents (left - cost s) m ms t) ((ms ≡ []) × (t ≡ m)) → KeepsOwnObject m.processes p object
        t.processes
    by_going true later first steps = later steps first.lives first.own
    by_going false later first (none, is) =
        subst (λ (t : State). KeepsOwnObject m.processes p object t.processes) (sym is) (own-same m.processes p object first.lives first.own)

-- ---- a slice

-- keys that arrive change no memory, and make no record
own-tick : (s t : State) (p object : ℕ) → Tick s t → IsLiving s.processes.records p → IsOwn s.processes p object → KeepsOwnObject s.processes p object t.processes
own-tick s t p object (desk, arrives, is) lives own =
    let left : SignalsLeave s.processes t.processes = tick-leaves s t (desk, arrives, is) in
    record {
      lives = left.lives p lives;
      own = record {
        appeared =
            subst (λ (memory : MemoryState). object < length memory.objects) (sym left.memory) own.appeared;
        named =
            subst (λ (memory : MemoryState). NamesBlock (map_at memory p) object) (sym left.memory) own.named;
        alone =
            λ q differ has names. own.alone q differ (left.had q has.0 has.1) (subst (λ (memory : MemoryState). NamesBlock (map_at memory q) object) left.memory names);
        in_no_module =
            λ shared. own.in_no_module (subst (λ (memory : MemoryState). IsOfModule memory object) left.memory shared);
      };
      bytes = ap (λ (memory : MemoryState). slice_get memory.objects object) left.memory;
    }

-- the choice of a process changes no memory and no record
own-choice : (s t : State) (p object : ℕ) → Choose s t → IsLiving s.processes.records p → IsOwn s.processes p object → KeepsOwnObject s.processes p object t.processes
own-choice s t p object is lives own =
    subst (λ (t : State). KeepsOwnObject s.processes p object t.processes) (sym is) (record {
      lives = lives;
      own =
          record { appeared = own.appeared; named = own.named; alone = own.alone; in_no_module = own.in_no_module };
      bytes = refl;
    })

own-chosen : (n : ℕ) (chosen : State) (states : List State) (end : SliceEnd) (t : State) (p object : ℕ)
    (who : Option ℕ) → chosen.chosen ≡ who → MatchOption who ((end ≡ Idle) × (states ≡ []) × (t ≡ chosen))
    (λ p. (end ≡ Ran) × SliceEvents n chosen states t) → t.chosen ≢ Some p → IsLiving chosen.processes.records p
    → IsOwn chosen.processes p object → KeepsOwnObject chosen.processes p object t.processes
own-chosen n chosen states end t p object None is (idle, none, last) other lives own =
    subst (λ (t : State). KeepsOwnObject chosen.processes p object t.processes) (sym last) (own-same chosen.processes p object lives own)
own-chosen n chosen states end t p object (Some q) is (ran, steps) other lives own =
    own-steps n chosen states t q p object is (λ same. other (steps-chosen n chosen states t steps ∙ is ∙ ap Some (sym same))) steps lives own

pub own-slice : (n : ℕ) (s : State) (states : List State) (end : SliceEnd) (t : State) (p object : ℕ)
    → Slice n s states end t → t.chosen ≢ Some p → IsLiving s.processes.records p → IsOwn s.processes p object
    → KeepsOwnObject s.processes p object t.processes
own-slice n s states end t p object (ticked, chosen, ticks, chooses, rest) other lives own =
    let first : KeepsOwnObject s.processes p object ticked.processes = own-tick s ticked p object ticks lives own in
    let next : KeepsOwnObject ticked.processes p object chosen.processes = own-choice ticked chosen p object chooses first.lives first.own in
    own-then s.processes ticked.processes t.processes p object first
    (own-then ticked.processes chosen.processes t.processes p object next (own-chosen n chosen states end t p object chosen.chosen refl rest other next.lives next.own))
