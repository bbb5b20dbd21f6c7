-- What a refused call leaves of memory and the processes.
use Rattle.std.proofs.Common.{◌≡◌, ℕ, ◌<◌, not, false, Option, Some, None, List, length, refl, sym, ap, ◌∙◌, inl, inr}
use Rattle.std.specs.Prelude.{unwrap_or}
use Rattle.std.proofs.lemmas.Bool.{cases_lt, false≢true}
use Rattle.std.proofs.lemmas.List.{get_or-set_same, get_or-set_other, get_or_past, length-set}
use Rattle.proc_model.specs.Records.{IsLiving, has_ended, new_record, record_at, record_of, record_passes, with_record}
use Rattle.proc_model.specs.declared.record.Life.TheVariants.{Running}
use Rattle.proc_model.specs.declared.record.Record.{Record}
use Rattle.proc_model.specs.Attempts.{after_attempt, refused_regs}
use Rattle.proc_model.specs.CallResult.{refused}
use Rattle.proc_model.specs.Processes.{Processes, no_own, own_at, regs_at}
use Rattle.call_laws.specs.Refusals.{LeavesProcesses}

living-within : (records : List (Option Record)) (p : ℕ) → IsLiving records p → p < length records
living-within records p lives =
    elim (cases_lt p (length records)) [
      | inl within ↦ within
      | inr past ↦ absurd (false≢true (sym (ap (λ (place : Option Record). record_passes (λ r. not (has_ended r.life)) place) (get_or_past records p None past)) ∙ lives))
    ]

module _ (m : Processes) (p number : ℕ) where
  abbrev with_error : Record
  with_error = record (record_at m.records p) { regs = refused_regs (regs_at m p) number }

  abbrev between : List (Option Record)
  between = with_record m.records p with_error

  caller-left : p < length m.records → record_of (after_attempt m p (refused number)).records p ≡ Some (record with_error { life = Running })
  caller-left within =
      let at : record_at between p ≡ with_error = ap (λ (place : Option Record). unwrap_or place (new_record (record { 0 = 0 }) 0 0)) (get_or-set_same m.records p (Some with_error) None within) in
      get_or-set_same between p (Some (record (record_at between p) { life = Running })) None (rw length-set within) ∙ ap (λ (r : Record). Some (record r { life = Running })) at

  pub leaves-processes : LeavesProcesses m p number (after_attempt m p (refused number))
  leaves-processes = record {
    memory = refl;
    order = refl;
    tick = refl;
    records =
        λ q differ. get_or-set_other between p q (Some (record (record_at between p) { life = Running })) None differ ∙ get_or-set_other m.records p q (Some with_error) None differ;
    own =
        λ q differ. get_or-set_other m.own p q (record (own_at m p) { call = None; until = None; woken = false }) no_own differ;
    caller = λ lives. caller-left (living-within m.records p lives);
    call =
        λ within. get_or-set_same m.own p (record (own_at m p) { call = None; until = None; woken = false }) no_own within;
  }
