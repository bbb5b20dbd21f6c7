-- What changes of the processes leave of the others: their records, their turns and what else they have.
use Rattle.std.proofs.Common.{◌≡◌, ◌≢◌, ◌⊎◌, ℕ, ◌+◌, ◌-◌, ◌<◌, ◌≤◌, ◌==◌, not, Bool, true, false, Option, Some, None, is_none, is_some, List, [], ◌∷◌, length, map, drop, position, get_or, refl, sym, ap, ◌∙◌, subst, inl, inr, arith}
use Rattle.std.specs.Prelude.{unwrap_or, slice_set, slice_index_or, option_and_then, option_map, ◌&&◌, ◌||◌, if◌then◌else◌}
use Rattle.std.specs.Option.{option_map_or}
use Rattle.std.proofs.lemmas.Bool.{cases_lt, cases_eq, eqb-true, false≢true}
use Rattle.std.proofs.lemmas.List.{get_or-set_same, get_or-set_other, get_or_past, get_or-drop, get_or-map, length-set, length-map, length-drop}
use Rattle.std.proofs.lemmas.List.Quantifiers.{position-Some}
use Rattle.std.proofs.lemmas.Option.{none-some, same_Some}
use Rattle.os9_base.specs.declared.registers.Pid.{Pid}
use Rattle.os9_base.specs.declared.registers.Regs.{Regs}
use Rattle.proc_model.specs.declared.module.ModId.{ModId}
use Rattle.proc_model.specs.Memory.{MemoryState, map_at}
use Rattle.proc_model.specs.ModuleList.{ModuleEntry, module_entry_at}
use Rattle.proc_model.specs.declared.own.Own.{Own}
use Rattle.proc_model.specs.declared.record.Record.{Record}
use Rattle.proc_model.specs.declared.turn.Turn.{Turn}
use Rattle.proc_model.specs.Ends.{is_child, is_ended_child, ended_child, ended_record, orphaned, after_reap, after_exit}
use Rattle.proc_model.specs.Records.{IsLiving, new_record, record_of, record_at, record_passes, has_ended, is_living, with_record, with_regs, without_record, free_process}
use Rattle.proc_model.specs.Signals.{is_reached}
use Rattle.proc_model.specs.Turns.{with_turn, without_turn}
use Rattle.proc_model.specs.declared.proc_call.ProcCall.TheVariants as Call
use Rattle.proc_model.specs.Attempts.{goes_on, waiting}
use Rattle.proc_model.specs.Processes.{Processes, no_own, own_at, with_own}
use Rattle.proc_model.specs.ModuleLinks.{still_primary}
use Rattle.machine_model.specs.declared.ends.EventEnd.{EventEnd}
use Rattle.machine_model.specs.declared.ends.EventEnd.TheVariants.{Ended}
use Rattle.call_laws.specs.Others.{turns_of_others, AttemptsCall, GetsWake, KeepsRecord, KeepsOwn, Goes, ComesOf}
use Rattle.call_laws.specs.Links.{ChangesLinks}
use Rattle.call_laws.specs.NewObjects.{IsParameter}
use Rattle.call_laws.specs.Objects.{KeepsToItself}
use Rattle.call_laws.specs.Isolation.{LeavesOtherProcesses}
use Rattle.call_laws.proofs.MemoryKept.{Kept}

-- ---- one record

module _ (m : Processes) (p : ℕ) (end : EventEnd) where
  -- what comes of a record where no process begins
  abbrev pub RecordLeft : ℕ → Option Record → Option Record → Type 0
  RecordLeft q (Some old) (Some new) = KeepsRecord m p end q old new
  RecordLeft q (Some old) None = Goes m p end old
  RecordLeft q None (Some new) = ⊥
  RecordLeft q None None = Unit {0}

  pub record-same : (q : ℕ) (r : Option Record) → RecordLeft q r r
  record-same q None = tt
  record-same q (Some old) = record { parent = inl refl; priority = inl refl; signal = inl refl; others = refl }

  pub own-same : (q : ℕ) (n : MemoryState) (own : Own) → KeepsOwn m p n q own own
  own-same q n own = record { woken = inl refl; primary = inl refl; others = refl }

  -- where a module leaves
  pub own-still : (q : ℕ) (n : MemoryState) (own : Own) → KeepsOwn m p n q own (still_primary n.modules own)
  own-still q n own = record { woken = inl refl; primary = by_primary own.primary; others = refl }
    where
      by_entry : (id : ModId) (entry : Option ModuleEntry) → module_entry_at n.modules id.0 ≡ entry
          → ((if is_some entry then Some id else None) ≡ Some id) ⊎
          ((number : ℕ) × (Some id ≡ Some (record { 0 = number })) × (module_entry_at n.modules number ≡ None) ×
          ((if is_some entry then Some id else None) ≡ None))
      by_entry id None is = inr (id.0, refl, is, refl)
      by_entry id (Some entry) is = inl refl

      by_primary : (primary : Option ModId)
          → (option_and_then (λ (id : ModId). if is_some (module_entry_at n.modules id.0) then Some id else None)
          primary ≡ primary) ⊎ ((number : ℕ) × (primary ≡ Some (record { 0 = number })) ×
          (module_entry_at n.modules number ≡ None) ×
          (option_and_then (λ (id : ModId). if is_some (module_entry_at n.modules id.0) then Some id else None)
          primary ≡ None))
      by_primary None = inl refl
      by_primary (Some id) = by_entry id (module_entry_at n.modules id.0) refl

-- what an event leaves, column by column
pub record Changed (m : Processes) (p : ℕ) (end : EventEnd) (n : Processes) : Type 0 where
  pub memory : Kept m.memory (IsParameter m p) p p n.memory
  pub itself : KeepsToItself m.memory p n.memory
  pub links : ChangesLinks m p end n.memory
  pub records : (q : ℕ) → q ≢ p → RecordLeft m p end q (record_of m.records q) (record_of n.records q)
  pub turns : turns_of_others m p n.order ≡ turns_of_others m p m.order
  pub own : (q : ℕ) → q ≢ p → KeepsOwn m p n.memory q (own_at m q) (own_at n q)
  pub places : length n.records ≡ length m.records

-- what comes of another process by the columns
pub comes-of : (m : Processes) (p : ℕ) (end : EventEnd) (n : Processes) (q : ℕ) (old new : Option Record) → map_at n.memory q
    ≡ map_at m.memory q → KeepsOwn m p n.memory q (own_at m q) (own_at n q) → RecordLeft m p end q old new
    → ComesOf m p end n q old new
comes-of m p end n q (Some old) (Some new) map own left = record { map = map; own = own; record_is = left }
comes-of m p end n q (Some old) None map own left = left
comes-of m p end n q None (Some new) map own left = absurd left
comes-of m p end n q None None map own left = tt

pub changed-leaves : (m : Processes) (p : ℕ) (end : EventEnd) (n : Processes) → Changed m p end n → LeavesOtherProcesses m p end n
changed-leaves m p end n changed = record {
  objects = changed.memory.objects;
  new_objects = changed.memory.new_objects;
  sizes = changed.memory.sizes;
  turns = changed.turns;
  map = changed.itself;
  modules = changed.memory.modules;
  links = changed.links;
  others =
      λ q differ. comes-of m p end n q (record_of m.records q) (record_of n.records q) (changed.memory.maps q differ) (changed.own q differ) (changed.records q differ);
}

-- ---- one place of the columns

pub record-other : (records : List (Option Record)) (p : ℕ) (r : Option Record) (q : ℕ) → q ≢ p → record_of (slice_set records p r) q ≡ record_of records q
record-other records p r q differ = get_or-set_other records p q r None differ

pub own-other : (m : Processes) (p : ℕ) (own : Own) (q : ℕ) → q ≢ p → own_at (with_own m p own) q ≡ own_at m q
own-other m p own q differ = get_or-set_other m.own p q own no_own differ

-- where a process has other memory, records and things of its own, and the columns of the others stay
pub changed-self : (m : Processes) (p : ℕ) (end : EventEnd) (memory : MemoryState) (records : List (Option Record))
    (own : List Own) → Kept m.memory (IsParameter m p) p p memory → KeepsToItself m.memory p memory
    → ChangesLinks m p end memory
    → ((q : ℕ) → q ≢ p → record_of records q ≡ record_of m.records q) → ((q : ℕ) → q ≢ p → slice_index_or own q no_own ≡ own_at m q) → length records ≡ length m.records
    → Changed m p end (record m { memory = memory; records = records; own = own })
changed-self m p end memory records own kept itself links same own_is places = record {
  memory = kept;
  itself = itself;
  links = links;
  records =
      λ q differ. subst (RecordLeft m p end q (record_of m.records q)) (sym (same q differ)) (record-same m p end q (record_of m.records q));
  turns = refl;
  own = λ q differ. subst (KeepsOwn m p memory q (own_at m q)) (sym (own_is q differ)) (own-same m p end q memory (own_at m q));
  places = places;
}

-- a change of the process itself besides
pub changed-then : (m : Processes) (p : ℕ) (end : EventEnd) (n : Processes) (records : List (Option Record)) (own : List Own) → Changed m p end n
    → ((q : ℕ) → q ≢ p → record_of records q ≡ record_of n.records q) → ((q : ℕ) → q ≢ p → slice_index_or own q no_own ≡ own_at n q) → length records ≡ length n.records
    → Changed m p end (record n { records = records; own = own })
changed-then m p end n records own changed same own_is places = record {
  memory = changed.memory;
  itself = changed.itself;
  links = changed.links;
  records =
      λ q differ. subst (RecordLeft m p end q (record_of m.records q)) (sym (same q differ)) (changed.records q differ);
  turns = changed.turns;
  own = λ q differ. subst (KeepsOwn m p n.memory q (own_at m q)) (sym (own_is q differ)) (changed.own q differ);
  places = places ∙ changed.places;
}

-- a process goes on after a call
pub changed-goes_on : (m : Processes) (p : ℕ) (end : EventEnd) (n : Processes) (regs : Regs) → Changed m p end n → Changed m p end (goes_on n p regs)
changed-goes_on m p end n regs changed =
    changed-then m p end n (goes_on n p regs).records (goes_on n p regs).own changed
    (λ q differ. record-other (with_regs n.records p regs) p _ q differ ∙ record-other n.records p _ q differ)
    (λ q differ. own-other n p _ q differ) (simp length-set)

-- a process waits
pub changed-waiting : (m : Processes) (p : ℕ) (end : EventEnd) (n : Processes) → Changed m p end n → Changed m p end (waiting n p)
changed-waiting m p end n changed =
    changed-then m p end n (waiting n p).records n.own changed (λ q differ. record-other n.records p _ q differ) (λ q differ. refl) (simp length-set)

-- ---- another process that a call names

-- a process that lives has a place, and a record there
pub living-within : (records : List (Option Record)) (p : ℕ) → IsLiving records p → p < length records
living-within records p lives =
    elim (cases_lt p (length records)) [
      | inl lt ↦ lt
      | inr past ↦ (let none : record_of records p ≡ None = get_or_past records p None past in cc)
    ]

pub living-record : (records : List (Option Record)) (p : ℕ) → IsLiving records p → record_of records p ≡ Some (record_at records p)
living-record records p lives = by_place (record_of records p) refl lives
  where
    by_place : (place : Option Record) → record_of records p ≡ place → record_passes (λ r. not (has_ended r.life)) place ≡ true → record_of records p ≡ Some (record_at records p)
    by_place None is lives = cc
    by_place (Some r) is lives = rw is refl

-- a record that was put stands
pub record-put : (records : List (Option Record)) (p : ℕ) (r : Record) → p < length records → record_at (with_record records p r) p ≡ r
record-put records p r within =
    ap (λ place. unwrap_or place (new_record (record { 0 = 0 }) 0 0)) (get_or-set_same records p (Some r) None within)

reached-lives : (records : List (Option Record)) (user q : ℕ) → is_reached records user q ≡ true → IsLiving records q
reached-lives records user q reached =
    by_test (is_living records q) (((record_at records q).user == user) || (user == 0)) refl reached
  where
    by_test : (living other : Bool) → is_living records q ≡ living → (living && other) ≡ true → is_living records q ≡ true
    by_test true other is reached = is
    by_test false other is reached = absurd (false≢true reached)

-- its record is this one then
pub named-record : (m : Processes) (p : ℕ) (end : EventEnd) (to user : ℕ) (new : Record) → is_reached m.records user to ≡
    true → KeepsRecord m p end to (record_at m.records to) new → (q : ℕ) → RecordLeft m p end q
    (record_of m.records q) (record_of (with_record m.records to new) q)
named-record m p end to user new reached keeps q =
    elim (cases_eq q to) [
      | inl same ↦ subst (λ q. RecordLeft m p end q (record_of m.records q) (record_of (with_record m.records to new) q)) (sym same) at_it
      | inr differ ↦ subst (RecordLeft m p end q (record_of m.records q)) (sym (record-other m.records to (Some new) q differ)) (record-same m p end q (record_of m.records q))
    ]
  where
    lives : IsLiving m.records to
    lives = reached-lives m.records user to reached

    put : record_of (with_record m.records to new) to ≡ Some new
    put = get_or-set_same m.records to (Some new) None (living-within m.records to lives)

    at_it : RecordLeft m p end to (record_of m.records to) (record_of (with_record m.records to new) to)
    at_it =
        subst (λ old. RecordLeft m p end to old (record_of (with_record m.records to new) to)) (sym (living-record m.records to lives))
        (subst (RecordLeft m p end to (Some (record_at m.records to))) (sym put) keeps)

-- a wake that comes for it
pub woken-own : (m : Processes) (p to : ℕ) (memory : MemoryState) → ((q : ℕ) → q ≡ to → GetsWake m p q true) → (q : ℕ)
    → KeepsOwn m p memory q (own_at m q) (own_at (with_own m to (record (own_at m to) { woken = true })) q)
woken-own m p to memory calls q =
    elim (cases_eq q to) [
      | inl same ↦ by_place same (cases_lt to (length m.own))
      | inr differ ↦ subst (KeepsOwn m p memory q (own_at m q)) (sym (own-other m to _ q differ)) (record { woken = inl refl; primary = inl refl; others = refl })
    ]
  where
    woken : Own
    woken = record (own_at m to) { woken = true }

    by_place : q ≡ to → (to < length m.own) ⊎ (length m.own ≤ to) → KeepsOwn m p memory q (own_at m q) (own_at (with_own m to (record (own_at m to) { woken = true })) q)
    by_place same (inl within) =
        subst (λ k. KeepsOwn m p memory q (own_at m k) (own_at (with_own m to (record (own_at m to) { woken = true })) k)) (sym same)
        (subst (KeepsOwn m p memory q (own_at m to))
        (sym (get_or-set_same m.own to (record (own_at m to) { woken = true }) no_own within))
        (record { woken = inr (calls q same); primary = inl refl; others = refl }))
    by_place same (inr past) =
        let before : own_at m q ≡ no_own = get_or_past m.own q no_own (rw same past) in
        let after : own_at (with_own m to (record (own_at m to) { woken = true })) q ≡ no_own = get_or_past
        (slice_set m.own to (record (own_at m to) { woken = true })) q no_own (rw (length-set, same) past) in
        subst (λ own. KeepsOwn m p memory q own (own_at (with_own m to (record (own_at m to) { woken = true })) q)) (sym before)
        (subst (KeepsOwn m p memory q no_own) (sym after) (record { woken = inl refl; primary = inl refl; others = refl }))

-- ---- ended children

-- a child that was given goes
pub reaped-record : (m : Processes) (p : ℕ) (end : EventEnd) → AttemptsCall m p Call.Wait → (q : ℕ) → RecordLeft m p end q (record_of m.records q) (record_of (after_reap m.records p) q)
reaped-record m p end call q = by_child (ended_child m.records p) refl
  where
    gone : (k : ℕ) → record_of (without_record m.records k) k ≡ None
    gone k =
        elim (cases_lt k (length m.records)) [
          | inl within ↦ get_or-set_same m.records k None None within
          | inr past ↦ get_or_past (slice_set m.records k None) k None (rw length-set past)
        ]

    goes : (k : ℕ) (place : Option Record) → record_passes (is_ended_child p) place ≡ true → RecordLeft m p end k place None
    goes k None passes = absurd (false≢true passes)
    goes k (Some r) passes =
        record { child = eqb-true _ _ (first-true (is_child p r) (has_ended r.life) passes); had_ended = second-true (is_child p r) (has_ended r.life) passes; cause = inl call }
      where
        first-true : (one other : Bool) → (one && other) ≡ true → one ≡ true
        first-true true other both = refl
        first-true false other both = both

        second-true : (one other : Bool) → (one && other) ≡ true → other ≡ true
        second-true true other both = both
        second-true false other both = absurd (false≢true both)

    by_child : (child : Option ℕ) → ended_child m.records p ≡ child → RecordLeft m p end q (record_of m.records q) (record_of (option_map_or (without_record m.records) child m.records) q)
    by_child None is = record-same m p end q (record_of m.records q)
    by_child (Some k) is =
        elim (cases_eq q k) [
          | inl same ↦
              (let found = position-Some (record_passes (is_ended_child p)) m.records k None is in
              subst (λ q. RecordLeft m p end q (record_of m.records q) (record_of (without_record m.records k) q)) (sym same)
              (subst (RecordLeft m p end k (record_of m.records k)) (sym (gone k)) (goes k (record_of m.records k) found.1)))
          | inr differ ↦ subst (RecordLeft m p end q (record_of m.records q)) (sym (record-other m.records k None q differ)) (record-same m p end q (record_of m.records q))
        ]

-- ---- the end of a process

pub exit-other : (records : List (Option Record)) (p status q : ℕ) → q ≢ p → record_of (after_exit records p status) q ≡ orphaned p (record_of records q)
exit-other records p status q differ = record-other (map (orphaned p) records) p (ended_record (record_at records p) status) q differ ∙ mapped
  where
    mapped : record_of (map (orphaned p) records) q ≡ orphaned p (record_of records q)
    mapped =
        elim (cases_lt q (length records)) [
          | inl within ↦ get_or-map (orphaned p) records q None None within
          | inr past ↦ get_or_past (map (orphaned p) records) q None (rw length-map past) ∙ ap (orphaned p) (sym (get_or_past records q None past))
        ]

pub exit-record : (m : Processes) (p status q : ℕ) → q ≢ p → RecordLeft m p Ended q (record_of m.records q) (record_of (after_exit m.records p status) q)
exit-record m p status q differ =
    subst (RecordLeft m p Ended q (record_of m.records q)) (sym (exit-other m.records p status q differ)) (by_place (record_of m.records q))
  where
    by_tests : (r : Record) (child ended : Bool) → is_child p r ≡ child → has_ended r.life ≡ ended
        → RecordLeft m p Ended q (Some r) (if not child then Some r else (if ended then None else Some
        (record r { parent = record { 0 = 0 } })))
    by_tests r false ended child_is ended_is = record-same m p Ended q (Some r)
    by_tests r true true child_is ended_is =
        record { child = eqb-true _ _ child_is; had_ended = ended_is; cause = inr refl }
    by_tests r true false child_is ended_is = record {
      parent = inr (refl, eqb-true _ _ child_is, refl);
      priority = inl refl;
      signal = inl refl;
      others = refl;
    }

    by_place : (place : Option Record) → RecordLeft m p Ended q place (orphaned p place)
    by_place None = tt
    by_place (Some r) = by_tests r (is_child p r) (has_ended r.life) refl refl

-- ---- turns

-- a turn that is added, or taken away, is that of another process
module _ (m : Processes) (p : ℕ) where
  abbrev is_other : Turn → Bool
  is_other t = not (t.process.0 == p) && is_some (record_of m.records t.process.0)

  and-false : (test : Bool) → (test && false) ≡ false
  and-false true = refl
  and-false false = refl

  -- the turn of a process that begins is none of these
  pub turns-with : (order : List Turn) (pid : Pid) (priority : ℕ) → record_of m.records pid.0 ≡ None → turns_of_others m p (with_turn order pid priority) ≡ turns_of_others m p order
  turns-with [] pid priority none =
      let no : (not (pid.0 == p) && is_some (record_of m.records pid.0)) ≡ false = ap (λ place. not (pid.0 == p) && is_some place) none ∙ and-false (not (pid.0 == p)) in
      rw no refl
  turns-with (t ∷ order) pid priority none = by_test (is_other t) (turns-with order pid priority none)
    where
      by_test : (test : Bool) → turns_of_others m p (with_turn order pid priority) ≡ turns_of_others m p order
          → (if test then t ∷ turns_of_others m p (with_turn order pid priority) else turns_of_others m p
          (with_turn order pid priority)) ≡ (if test then t ∷ turns_of_others m p order else turns_of_others m p
          order)
      by_test true rest = ap (λ turns. t ∷ turns) rest
      by_test false rest = rest

  -- nor is that of the process itself
  pub turns-without : (order : List Turn) → turns_of_others m p (without_turn order p) ≡ turns_of_others m p order
  turns-without [] = refl
  turns-without (t ∷ order) = by_tests (t.process.0 == p) (is_some (record_of m.records t.process.0)) refl refl (turns-without order)
    where
      by_tests : (it there : Bool) → (t.process.0 == p) ≡ it → is_some (record_of m.records t.process.0) ≡ there
          → turns_of_others m p (without_turn order p) ≡ turns_of_others m p order → turns_of_others m p
          (if not it then t ∷ without_turn order p else without_turn order p) ≡ (if not it && there then t ∷
          turns_of_others m p order else turns_of_others m p order)
      by_tests true there is_it is_there rest = rest
      by_tests false true is_it is_there rest = rw (is_it, is_there) (ap (λ turns. t ∷ turns) rest)
      by_tests false false is_it is_there rest = rw (is_it, is_there) rest

-- ---- a process that begins

-- the number that is free has a place, and no record
pub record Free (records : List (Option Record)) (child : ℕ) : Type 0 where
  pub within : child < length records
  pub none : record_of records child ≡ None

is_nothing : {X : Type 0} (place : Option X) → is_none place ≡ true → place ≡ None
is_nothing None is = refl
is_nothing (Some x) is = absurd (false≢true is)

free-at : (records : List (Option Record)) (child : ℕ) (place : Option ℕ) → position is_none (drop 2 records) ≡ place → option_map (λ (i : ℕ). i + 2) place ≡ Some child → Free records child
free-at records child None at is = absurd (none-some child is)
free-at records child (Some i) at is =
    let found = position-Some is_none (drop 2 records) i None at in
    let same : 2 + i ≡ child = omega (arith, same_Some (i + 2) child is) in
    let short : length (drop 2 records) ≡ length records - 2 = length-drop 2 records in
    record {
      within = omega (arith, found.0);
      none =
          ap (record_of records) (sym same) ∙ sym (get_or-drop 2 records i None) ∙ is_nothing (get_or (drop 2 records) i None) found.1;
    }

pub free-is : (records : List (Option Record)) (child : ℕ) → free_process records ≡ Some child → Free records child
free-is records child is = free-at records child (position is_none (drop 2 records)) refl is
