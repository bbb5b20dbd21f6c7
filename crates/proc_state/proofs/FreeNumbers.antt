-- The number of a new process is in no turn.
use Rattle.std.proofs.Common.{◌≡◌, ℕ, ◌+◌, true, false, Option, Some, None, is_some, is_none, not, option_map, List, drop, position, get_or, refl, sym, ap, ◌∙◌, arith}
use Rattle.std.proofs.lemmas.Bool.{false≢true}
use Rattle.std.proofs.lemmas.List.{get_or-drop}
use Rattle.std.proofs.lemmas.List.Quantifiers.{position-Some}
use Rattle.std.proofs.lemmas.Option.{none-some, same_Some}
use Rattle.os9_sched.specs.Members.{member_of}
use Rattle.os9_sched.specs.Schedule.{Schedule}
use Rattle.proc_model.specs.declared.record.Record.{Record}
use Rattle.proc_model.specs.Records.{free_process, record_of, record_passes, has_ended}
use Rattle.proc_state.specs.Sound.{AreTurns}

is_nothing : {X : Type 0} (place : Option X) → is_none place ≡ true → place ≡ None
is_nothing None is = refl
is_nothing (Some x) is = absurd (false≢true is)

has_nothing : {X : Type 0} (place : Option X) → is_some place ≡ false → place ≡ None
has_nothing None is = refl
has_nothing (Some x) is = absurd (false≢true (sym is))

-- the number that is free has no record
free-of : (records : List (Option Record)) (k : ℕ) (place : Option ℕ) → position is_none (drop 2 records) ≡ place
    → option_map (λ (i : ℕ). i + 2) place ≡ Some k → record_of records k ≡ None
free-of records k None at is = absurd (none-some k is)
free-of records k (Some i) at is =
    let found = position-Some is_none (drop 2 records) i None at in
    let same : 2 + i ≡ k = omega (arith, same_Some (i + 2) k is) in
    ap (record_of records) (sym same) ∙ sym (get_or-drop 2 records i None) ∙ is_nothing (get_or (drop 2 records) i None) found.1

pub free_is : (records : List (Option Record)) (k : ℕ) → free_process records ≡ Some k → record_of records k ≡ None
free_is records k is = free-of records k (position is_none (drop 2 records)) refl is

-- the scheduler does not have it
pub free_apart : (records : List (Option Record)) (schedule : Schedule) (k : ℕ) → AreTurns records schedule
    → free_process records ≡ Some k → member_of schedule.members k ≡ None
free_apart records schedule k turns is =
    has_nothing (member_of schedule.members k)
    (turns.members k ∙ ap (record_passes (λ r. not (has_ended r.life))) (free_is records k is))
