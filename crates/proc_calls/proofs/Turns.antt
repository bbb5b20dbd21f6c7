-- What signals and the ends of children leave of the turns.
use Rattle.std.proofs.Common.{◌≡◌, ℕ, ◌<◌, ◌==◌, not, Bool, true, false, cond, Option, Some, None, is_some, List, length, get_or, set, refl, arith}
use Rattle.std.specs.Option.{option_map_or}
use Rattle.std.proofs.lemmas.Bool.Decides.{nat_tests}
use Rattle.std.proofs.lemmas.Grind.{common_steps}
use Rattle.std.proofs.lemmas.List.{get_or_past}
use Rattle.std.proofs.lemmas.List.Quantifiers.{position-Some}
use Rattle.os9_sched.specs.Schedule.{Schedule}
use Rattle.proc_model.specs.declared.record.Record.{Record}
use Rattle.proc_model.specs.Ends.{is_ended_child, ended_child, after_reap}
use Rattle.proc_model.specs.Records.{AreProcessRecords, IsLiving, is_living, is_waiting, has_ended, record_at, record_of, record_passes, with_record, without_record}
use Rattle.proc_model.specs.Signals.{wake_signal, send_fault, with_signal, with_sent, after_send}
use Rattle.proc_state.specs.Sound.{AreTurns}

-- a process that lives has a place
pub within : (records : List (Option Record)) (p : ℕ) → IsLiving records p → p < length records
within records p lives = grind (arith, nat_tests, common_steps, get_or_past records p None)

pub process_within : (records : List (Option Record)) (p : ℕ) → AreProcessRecords records → IsLiving records p → p < 33
process_within records p are lives =
    let inside : p < length records = within records p lives in
    omega (arith, are.places)

-- who lives if one record is written
lives_if : (records : List (Option Record)) (p q : ℕ) (place : Option Record) → p < length records
    → record_of (set records p place) q ≡ cond (q == p) place (record_of records q)
lives_if records p q place inside = grind (arith, nat_tests, common_steps)

-- a process lives on, with its priority, and waits exactly if it did
pub turns_kept : (records : List (Option Record)) (schedule : Schedule) (p : ℕ) (r : Record)
    → IsLiving records p → has_ended r.life ≡ false → r.priority ≡ (record_at records p).priority
    → is_waiting r.life ≡ is_waiting (record_at records p).life
    → AreTurns records schedule → AreTurns (with_record records p r) schedule
turns_kept records schedule p r lives life priority waits turns =
    let inside : p < length records = within records p lives in
    record {
      members = λ q. grind (arith, nat_tests, turns.members q, lives_if records p q (Some r) inside);
      priorities = λ q living. grind (arith, nat_tests, turns.priorities q, lives_if records p q (Some r) inside);
      causes = λ q living. grind (arith, nat_tests, turns.causes q, lives_if records p q (Some r) inside);
    }

-- a record that is of no living process goes
pub turns_without : (records : List (Option Record)) (schedule : Schedule) (p : ℕ)
    → p < length records → is_living records p ≡ false
    → AreTurns records schedule → AreTurns (without_record records p) schedule
turns_without records schedule p inside ended turns = record {
  members = λ q. grind (arith, nat_tests, turns.members q, lives_if records p q None inside);
  priorities = λ q living. grind (arith, nat_tests, turns.priorities q, lives_if records p q None inside);
  causes = λ q living. grind (arith, nat_tests, turns.causes q, lives_if records p q None inside);
}

-- ---- an ended child that is given

-- it does not live
ended_lives_not : (place : Option Record) (parent : ℕ) → record_passes (is_ended_child parent) place ≡ true
    → record_passes (λ r. not (has_ended r.life)) place ≡ false
ended_lives_not None parent passes = refl
ended_lives_not (Some r) parent passes = grind (arith, nat_tests)

-- it has a place, and does not live
ended_place : (records : List (Option Record)) (parent k : ℕ) → ended_child records parent ≡ Some k
    → (k < length records) × (is_living records k ≡ false)
ended_place records parent k found =
    let place : (k < length records) × (record_passes (is_ended_child parent) (record_of records k) ≡ true) × ((i : ℕ)
    → i < k → record_passes (is_ended_child parent) (get_or records i None) ≡ false) = position-Some
    (record_passes (is_ended_child parent)) records k None found in
    (place.0, ended_lives_not (record_of records k) parent place.1)

-- the records without it
turns_reaped_of : (records : List (Option Record)) (schedule : Schedule) (parent : ℕ) (child : Option ℕ)
    → ended_child records parent ≡ child → AreTurns records schedule
    → AreTurns (option_map_or (without_record records) child records) schedule
turns_reaped_of records schedule parent None found turns = turns
turns_reaped_of records schedule parent (Some k) found turns =
    let place : (k < length records) × (is_living records k ≡ false) = ended_place records parent k found in
    turns_without records schedule k place.0 place.1 turns

-- the turns stay when an ended child is given
pub turns_reaped : (records : List (Option Record)) (schedule : Schedule) (parent : ℕ)
    → AreTurns records schedule → AreTurns (after_reap records parent) schedule
turns_reaped records schedule parent turns =
    turns_reaped_of records schedule parent (ended_child records parent) refl turns

-- nor does the record of a process that lives change
record_reaped_of : (records : List (Option Record)) (parent p : ℕ) (child : Option ℕ)
    → ended_child records parent ≡ child → IsLiving records p
    → record_of (option_map_or (without_record records) child records) p ≡ record_of records p
record_reaped_of records parent p None found lives = refl
record_reaped_of records parent p (Some k) found lives =
    let place : (k < length records) × (is_living records k ≡ false) = ended_place records parent k found in
    grind (arith, nat_tests, lives_if records k p None place.0)

pub record_reaped : (records : List (Option Record)) (parent p : ℕ) → IsLiving records p
    → record_of (after_reap records parent) p ≡ record_of records p
record_reaped records parent p lives = record_reaped_of records parent p (ended_child records parent) refl lives

-- ---- a signal that is sent

-- the turns stay where they do in both cases
turns_if : (test : Bool) (one other : List (Option Record)) (schedule : Schedule) → AreTurns one schedule
    → (test ≡ false → AreTurns other schedule) → AreTurns (cond test one other) schedule
turns_if true one other schedule first second = first
turns_if false one other schedule first second = second refl

-- who is sent a signal lives
sent_lives : (records : List (Option Record)) (user to signal : ℕ) → is_some (send_fault records user to signal) ≡ false
    → IsLiving records to
sent_lives records user to signal sent = grind (arith, nat_tests)

pub turns_sent : (records : List (Option Record)) (schedule : Schedule) (user to signal : ℕ)
    → AreTurns records schedule → AreTurns (after_send records user to signal) schedule
turns_sent records schedule user to signal turns =
    turns_if (is_some (send_fault records user to signal)) records (with_sent records to signal) schedule turns
    (λ sent. turns_if (signal == wake_signal) records (with_signal records to (Some signal)) schedule turns
    (λ other. let lives : IsLiving records to = sent_lives records user to signal sent in
    turns_kept records schedule to (record (record_at records to) { signal = Some signal }) lives (grind (arith, nat_tests)) refl refl turns))

-- ---- records that are the same

pub at_same : (one other : List (Option Record)) (p : ℕ) → record_of one p ≡ record_of other p → record_at one p ≡ record_at other p
at_same one other p same = cc

pub lives_same : (one other : List (Option Record)) (p : ℕ) → record_of one p ≡ record_of other p → IsLiving other p → IsLiving one p
lives_same one other p same lives = rw same lives
