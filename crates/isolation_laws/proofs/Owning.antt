-- Objects are a process's own when they appear in its map, and stay so after each event.
use Rattle.std.proofs.Common.{◌≡◌, ◌≢◌, ◌⊎◌, ℕ, ◌<◌, ◌≤◌, Option, Some, None, length, refl, sym, ap, ◌∙◌, subst, inl, inr, arith}
use Rattle.std.proofs.lemmas.Bool.{cases_eq, false≢true}
use Rattle.std.proofs.lemmas.Option.{same_Some}
use Rattle.os9_base.specs.declared.calls.TheConstants.{F_LOAD}
use Rattle.proc_model.specs.Memory.{map_at}
use Rattle.proc_model.specs.Slots.{NamesBlock, Slots}
use Rattle.proc_model.specs.declared.record.Record.{Record}
use Rattle.proc_model.specs.Records.{IsLiving, has_ended, record_at, record_of}
use Rattle.proc_model.specs.Processes.{Processes}
use Rattle.proc_model.specs.Ready.{act_of, attempts}
use Rattle.machine_model.specs.declared.ends.EventEnd.{EventEnd}
use Rattle.call_laws.specs.Modules.{FollowsLinkRules}
use Rattle.call_laws.specs.Objects.{Appears, IsNewOrShared, IsOfModule, KeepsObjects, KeepsSizes, KeepsToItself}
use Rattle.call_laws.specs.Others.{ForksProcess, ComesOf, HasRecord, Stays}
use Rattle.call_laws.proofs.OthersKept.{living-record}
use Rattle.call_laws.proofs.KeptEvents.{lives-runs, there-lives}
use Rattle.isolation_laws.specs.Own.{AppearsIn, IsOfArea, IsOwn, KeepsOwnObject, NameAppeared}
use Rattle.machine_model.specs.Event.{Event}
use Rattle.machine_model.specs.State.{State}
use Rattle.isolation_laws.specs.Isolation.{LeavesOthers}
use Rattle.isolation_laws.proofs.EventsKept.{event-leaves}
use Rattle.isolation_laws.proofs.GainedAreas.{AreasApart, MayGain, acts-apart}
use Rattle.isolation_laws.proofs.Groups.{KeepsGroups, event-groups, longer, was-shared}
use Rattle.isolation_laws.proofs.Modules.{of-module}

-- what an event of a process that lives leaves, as far as it decides what is its own
record Leaves (m : Processes) (q : ℕ) (end : EventEnd) (n : Processes) : Type 0 where
  pub lives : IsLiving m.records q
  pub sizes : KeepsSizes m.memory n.memory
  pub objects : KeepsObjects m.memory q n.memory
  pub map : KeepsToItself m.memory q n.memory
  pub others : (r : ℕ) → r ≢ q → ComesOf m q end n r (record_of m.records r) (record_of n.records r)
  pub groups : KeepsGroups m.memory n.memory

left-so : (s t : State) (end : EventEnd) (q : ℕ) → s.chosen ≡ Some q → Event s end t → Leaves s.processes q end t.processes
left-so s t end q chosen event =
    let leaves : LeavesOthers s q end t = event-leaves s t end q chosen event in
    record {
      lives = living event;
      sizes = leaves.sizes;
      objects = leaves.objects;
      map = leaves.map;
      others = leaves.others;
      groups = event-groups s t end event;
    }
  where
    living : Event s end t → IsLiving s.processes.records q
    living (r, chosen_too, lives, acts) =
        subst (IsLiving s.processes.records) (same_Some r q (sym chosen_too ∙ chosen)) lives

module _ (m n : Processes) (q : ℕ) (end : EventEnd) (left : Leaves m q end n) where
  acts : HasRecord m q
  acts = (record_at m.records q, living-record m.records q left.lives)

  long : length m.memory.objects ≤ length n.memory.objects
  long = longer m.memory n.memory left.sizes

  -- ---- what a process names

  abbrev ComesToName : ℕ → ℕ → Type 0
  ComesToName r object =
      (HasRecord m r × NamesBlock (map_at m.memory r) object) ⊎ IsNewOrShared m.memory n.memory object

  -- another process named it, or begins
  other-names : (r object : ℕ) (old : Option Record) (new : Record) → record_of m.records r ≡ old → ComesOf m q end n r old (Some new) → NamesBlock (map_at n.memory r) object → ComesToName r object
  other-names r object (Some old) new was stays named =
      inl ((old, was), subst (λ (slots : Slots ℕ). NamesBlock slots object) stays.map named)
  other-names r object None new was begins named = inr (begins.map object named)

  -- what a process names then was named by it, appears, or is of a module's group
  names-then : (r object : ℕ) → HasRecord n r → NamesBlock (map_at n.memory r) object → ComesToName r object
  names-then r object (new, is) named =
      elim (cases_eq r q) [
        | inl same ↦ by_gain same (left.map object (subst (λ (r : ℕ). NamesBlock (map_at n.memory r) object) same named))
        | inr differ ↦ other-names r object (record_of m.records r) new refl (subst (ComesOf m q end n r (record_of m.records r)) is (left.others r differ)) named
      ]
    where
      by_gain : r ≡ q → NamesBlock (map_at m.memory q) object ⊎ IsNewOrShared m.memory n.memory object → ComesToName r object
      by_gain same (inl before) =
          inl (subst (λ (r : ℕ). HasRecord m r × NamesBlock (map_at m.memory r) object) (sym same) (acts, before))
      by_gain same (inr gained) = inr gained

  -- ---- what names name has appeared

  module _ (names : NameAppeared m) where
    gained-below : (object : ℕ) → IsNewOrShared m.memory n.memory object → object < length n.memory.objects
    gained-below object (inl appears) = appears.1
    gained-below object (inr shared) = let below = names.groups object shared in let more = long in omega arith

    named-below : (r object : ℕ) → ComesToName r object → object < length n.memory.objects
    named-below r object (inl (has, named)) =
        let below = names.maps r object has named in let more = long in omega arith
    named-below r object (inr gained) = gained-below object gained

    appeared-then : NameAppeared n
    appeared-then = record {
      maps = λ r object has named. named-below r object (names-then r object has named);
      groups = λ object grouped. gained-below object (left.groups object grouped);
    }

    -- ---- an object that appears

    module _ (p object : ℕ) (has : HasRecord n p) (named : NamesBlock (map_at n.memory p) object) (appears : Appears m.memory n.memory object) where
      -- nobody named it before
      not-before : (r : ℕ) → HasRecord m r → NamesBlock (map_at m.memory r) object → ⊥
      not-before r had before = let below = names.maps r object had before in let late = appears.0 in omega arith

      -- another process that names it begins
      begins-then : (r : ℕ) → r ≢ q → HasRecord n r → NamesBlock (map_at n.memory r) object → (new : Record) × ForksProcess m q n r new
      begins-then r differ (new, is) it =
          by_old (record_of m.records r) refl (subst (ComesOf m q end n r (record_of m.records r)) is (left.others r differ))
        where
          by_old : (old : Option Record) → record_of m.records r ≡ old → ComesOf m q end n r old (Some new) → (new : Record) × ForksProcess m q n r new
          by_old (Some old) was stays =
              absurd (not-before r (old, was) (subst (λ (slots : Slots ℕ). NamesBlock slots object) stays.map it))
          by_old None was begins = (new, begins)

      -- and then the process of the event does not
      not-acting : (r other : ℕ) → r ≡ q → NamesBlock (map_at n.memory r) object → (new : Record) × ForksProcess m q n other new → ⊥
      not-acting r other same it (new, begins) =
          not-before q acts (subst (λ (slots : Slots ℕ). NamesBlock slots object) begins.parent_map (subst (λ (r : ℕ). NamesBlock (map_at n.memory r) object) same it))

      alone-then : (r : ℕ) → r ≢ p → HasRecord n r → NamesBlock (map_at n.memory r) object → ⊥
      alone-then r apart has_too it = by_which (cases_eq p q) (cases_eq r q)
        where
          by_which : (p ≡ q) ⊎ (p ≢ q) → (r ≡ q) ⊎ (r ≢ q) → ⊥
          by_which (inl same) (inl other) = apart (other ∙ sym same)
          by_which (inl same) (inr differ) = not-acting p r same named (begins-then r differ has_too it)
          by_which (inr differ) (inl other) = not-acting r p other it (begins-then p differ has named)
          by_which (inr differ) (inr other) =
              let one = begins-then p differ has named in
              let two = begins-then r other has_too it in
              apart (same_Some r p (sym two.1.number ∙ one.1.number))

      own-then : IsOwn n p object ⊎ IsOfModule n.memory object
      own-then = by_module (of-module n.memory object)
        where
          by_module : IsOfModule n.memory object ⊎ (IsOfModule n.memory object → ⊥) → IsOwn n p object ⊎ IsOfModule n.memory object
          by_module (inl shared) = inr shared
          by_module (inr none) =
              inl (record { appeared = appears.1; named = named; alone = alone-then; in_no_module = none })

      -- in a data area
      may-gain : MayGain m q p
      may-gain = by_which (cases_eq p q)
        where
          by_which : (p ≡ q) ⊎ (p ≢ q) → MayGain m q p
          by_which (inl same) = inl same
          by_which (inr differ) =
              let (new, begins) = begins-then p differ has named in inr (begins.call, begins.number)

      in-no-module : IsOfArea n p object → AreasApart m q n → IsOfModule n.memory object → ⊥
      in-no-module area apart grouped = by_place (apart p object may-gain area appears)
        where
          by_place : NamesBlock (map_at m.memory q) object ⊎ (IsOfModule n.memory object → ⊥) → ⊥
          by_place (inl before) = not-before q acts before
          by_place (inr none) = none grouped

      area-then : IsOfArea n p object → AreasApart m q n → IsOwn n p object
      area-then area apart = record {
        appeared = appears.1;
        named = named;
        alone = alone-then;
        in_no_module = in-no-module area apart;
      }

  -- ---- an object that is a process's own

  module _ (p object : ℕ) (own : IsOwn m p object) where
    not-gained : IsNewOrShared m.memory n.memory object → ⊥
    not-gained (inl appears) = let there = own.appeared in let late = appears.0 in omega arith
    not-gained (inr shared) = own.in_no_module shared

    -- it stays so while it is named
    own-still : NamesBlock (map_at n.memory p) object → IsOwn n p object
    own-still named = record {
      appeared = (let there = own.appeared in let more = long in omega arith);
      named = named;
      alone = λ r apart has it. by_names r apart (names-then r object has it);
      in_no_module = λ grouped. not-gained (left.groups object grouped);
    }
      where
        by_names : (r : ℕ) → r ≢ p → ComesToName r object → ⊥
        by_names r apart (inl (had, before)) = own.alone r apart had before
        by_names r apart (inr gained) = not-gained gained

    -- another process that lives goes on
    own-stays : p ≢ q → IsLiving m.records p → (new : Record) → record_of n.records p ≡ Some new → Stays m q end n p (record_at m.records p) new → KeepsOwnObject m p object n
    own-stays differ lives new is stays = record {
      lives =
          there-lives n.records p new is (ap (λ (r : Record). has_ended r.life) stays.record_is.others ∙ lives-runs m.records p lives);
      own =
          own-still (subst (λ (slots : Slots ℕ). NamesBlock slots object) (sym stays.map) own.named);
      bytes =
          left.objects object own.appeared (λ it. own.alone q (λ same. differ (sym same)) acts it);
    }

    own-other : p ≢ q → IsLiving m.records p → KeepsOwnObject m p object n
    own-other differ lives =
        by_new (record_of n.records p) refl (subst (λ (old : Option Record). ComesOf m q end n p old (record_of n.records p)) (living-record m.records p lives) (left.others p differ))
      where
        by_new : (new : Option Record) → record_of n.records p ≡ new → ComesOf m q end n p (Some (record_at m.records p)) new → KeepsOwnObject m p object n
        by_new (Some new) is stays = own-stays differ lives new is stays
        by_new None is goes = absurd (false≢true (sym (lives-runs m.records p lives) ∙ goes.had_ended))

-- ---- an event

pub own-at_once : (s t : State) (end : EventEnd) (p object : ℕ) → Event s end t → NameAppeared s.processes → AppearsIn s.processes p object t.processes → IsOwn t.processes p object
    ⊎ IsOfModule t.processes.memory object
own-at_once s t end p object (q, chosen, lives, acts) names it =
    own-then s.processes t.processes q end (left-so s t end q chosen (q, chosen, lives, acts)) names p object it.has it.named it.appears

-- a group that appears is of a module that is entered
pub own-unless_entered : (s t : State) (end : EventEnd) (p object : ℕ) → Event s end t → NameAppeared s.processes
    → FollowsLinkRules s.processes.memory.modules t.processes.memory.modules → AppearsIn s.processes p object t.processes
    → IsOwn t.processes p object
own-unless_entered s t end p object event names keeps it =
    by_module (own-at_once s t end p object event names it)
  where
    by_module : IsOwn t.processes p object ⊎ IsOfModule t.processes.memory object → IsOwn t.processes p object
    by_module (inl own) = own
    by_module (inr shared) =
        let below = names.groups object (was-shared s.processes.memory t.processes.memory object keeps shared) in
        let late = it.appears.0 in
        absurd (omega arith)

pub own-area : (s t : State) (end : EventEnd) (p object : ℕ) → Event s end t → NameAppeared s.processes
    → ((q : ℕ) → s.chosen ≡ Some q → act_of s.processes q ≢ attempts F_LOAD) → HasRecord t.processes p → IsOfArea t.processes p
    object → Appears s.processes.memory t.processes.memory object → IsOwn t.processes p object
own-area s t end p object (q, chosen, lives, acts) names other has (slot, below, at) appears =
    area-then s.processes t.processes q end (left-so s t end q chosen (q, chosen, lives, acts)) names p object has (slot, at) appears (slot, below, at)
    (acts-apart (act_of s.processes q) s q end t names lives refl (other q chosen) acts)

pub still-appeared : (s t : State) (end : EventEnd) → Event s end t → NameAppeared s.processes → NameAppeared t.processes
still-appeared s t end (q, chosen, lives, acts) names =
    appeared-then s.processes t.processes q end (left-so s t end q chosen (q, chosen, lives, acts)) names

pub own-event : (s t : State) (end : EventEnd) (q p object : ℕ) → s.chosen ≡ Some q → p ≢ q → Event s end t
    → IsLiving s.processes.records p → IsOwn s.processes p object → KeepsOwnObject s.processes p object t.processes
own-event s t end q p object chosen differ event lives own =
    own-other s.processes t.processes q end (left-so s t end q chosen event) p object own differ lives

pub own-acting : (s t : State) (end : EventEnd) (p object : ℕ) → s.chosen ≡ Some p → Event s end t → IsOwn s.processes p object → NamesBlock (map_at t.processes.memory p) object
    → IsOwn t.processes p object
own-acting s t end p object chosen event own named =
    own-still s.processes t.processes p end (left-so s t end p chosen event) p object own named
