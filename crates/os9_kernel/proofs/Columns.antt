-- What the columns of the processes are after a change of one process.
use Rattle.std.proofs.Common.{◌≡◌, ℕ, ◌<◌, Option, Some, None, List, length, sym, ap, ◌∙◌}
use Rattle.std.specs.Prelude.{not, slice_set}
use Rattle.std.proofs.lemmas.List.{get_or-set_same, set-set, set-get_or}
use Rattle.os9_base.specs.declared.registers.Regs.{Regs}
use Rattle.proc_model.specs.Memory.{MemoryState}
use Rattle.proc_model.specs.declared.record.Record.{Record}
use Rattle.proc_model.specs.Records.{IsLiving, record_at, record_passes, has_ended, with_record, with_regs}
use Rattle.proc_model.specs.Processes.{Processes, regs_at, with_memory, with_regs_of}
pub use Rattle.call_laws.proofs.OthersKept.{living-record, living-within, record-put}

module _ (records : List (Option Record)) (p : ℕ) (lives : IsLiving records p) where
  within : p < length records
  within = living-within records p lives

  -- registers that were set are those of the process
  pub regs-set : (regs : Regs) → (record_at (with_regs records p regs) p).regs ≡ regs
  regs-set regs = ap (λ (r : Record). r.regs) (record-put records p (record (record_at records p) { regs = regs }) within)

  -- registers that are set twice are the last ones
  pub regs-twice : (first last : Regs) → with_regs (with_regs records p first) p last ≡ with_regs records p last
  regs-twice first last =
      let put = record-put records p (record (record_at records p) { regs = first }) within in
      ap (λ (r : Record). with_record (with_regs records p first) p (record r { regs = last })) put
      ∙ set-set records p (Some (record (record_at records p) { regs = first })) (Some (record (record_at records p) { regs = last }))

  -- its own registers change nothing
  pub regs-same : with_regs records p (record_at records p).regs ≡ records
  regs-same =
      ap (λ place. slice_set records p place) (sym (living-record records p lives))
      ∙ set-get_or records p None

  -- a process that lives with other registers lives
  pub lives-set : (regs : Regs) → IsLiving (with_regs records p regs) p
  lives-set regs =
      ap (λ place. record_passes (λ r. not (has_ended r.life)) place) (get_or-set_same records p (Some (record (record_at records p) { regs = regs })) None within)
      ∙ sym (ap (λ place. record_passes (λ r. not (has_ended r.life)) place) (living-record records p lives)) ∙ lives

-- the processes with this memory, and these registers of one
abbrev pub processes_at : Processes → ℕ → MemoryState → Regs → Processes
processes_at m p memory regs = with_regs_of (with_memory m memory) p regs

module _ (m : Processes) (p : ℕ) (lives : IsLiving m.records p) where
  pub processes_at-same : processes_at m p m.memory (regs_at m p) ≡ m
  processes_at-same = ap (λ (records : List (Option Record)). record m { records = records }) (regs-same m.records p lives)

  pub processes_at-then : (memory next : MemoryState) (regs last : Regs) → processes_at (processes_at m p memory regs) p next last ≡ processes_at m p next last
  processes_at-then memory next regs last =
      ap (λ (records : List (Option Record)). record m { memory = next; records = records }) (regs-twice m.records p lives regs last)

  pub processes_at-regs : (memory : MemoryState) (regs : Regs) → regs_at (processes_at m p memory regs) p ≡ regs
  processes_at-regs memory regs = regs-set m.records p lives regs
