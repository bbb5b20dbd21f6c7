-- A call that ends the lock of its path does so, if it is not refused.
use Rattle.std.proofs.Common.{◌≡◌, ◌⊎◌, ℕ, ◌||◌, not, Bool, false, Option, Some, None, is_none, length, refl, sym, ap, ◌∙◌, subst, inl, inr, arith}
use Rattle.std.specs.Prelude.{if◌then◌else◌}
use Rattle.std.specs.Option.{option_map_or}
use Rattle.os9_base.specs.declared.errors.TheConstants.{E_BMODE}
use Rattle.os9_base.specs.declared.registers.Regs.{Regs}
use Rattle.proc_model.specs.CallResult.{CallResult}
use Rattle.io_model.specs.Path.{PathTable, desc_of}
use Rattle.io_model.specs.declared.path.Desc.{Desc}
use Rattle.io_model.specs.declared.terminal.ReadKind.{ReadKind}
use Rattle.io_model.specs.declared.terminal.ReadKind.TheVariants.{Bytes, WholeLine}
use Rattle.io_model.specs.Close.{i_close as closes_device, after_close}
use Rattle.lock_model.specs.Locks.{lock_of}
use Rattle.lock_model.specs.Records.{Records, ends_lock, entered, with_waiting, without_lock}
use Rattle.lock_model.specs.History.{dropped}
use Rattle.lock_model.specs.declared.lock.Held.{Held}
use Rattle.lock_model.specs.declared.lock.Request.{Request}
use Rattle.file_rules.specs.Attempts.{file_step}
use Rattle.file_rules.specs.Close.{files_after_close}
use Rattle.file_rules.specs.Files.{Asker, Files, OpenFile, open_file, with_records}
use Rattle.file_rules.specs.Locking.{lock_ends, records_after}
use Rattle.file_rules.specs.OnFile.{by_kind}
use Rattle.file_rules.specs.Seek.{long_of}
use Rattle.file_rules.specs.Status.{locks_bytes, sets_status}
use Rattle.file_rules.specs.Step.{DoesDeed, FileDoes, FileEffect, FileStep, deed_of, done, refuses}
use Rattle.file_rules.specs.declared.path_call.PathCall.{PathCall}
use Rattle.file_rules.specs.declared.path_call.PathCall.TheVariants as Call
use Rattle.file_rules.specs.declared.status.TheConstants.{SS_LOCK, SS_SIZE}
use Rattle.file_laws.specs.Attempt.{Attempt, asker_in, made_in}
use Rattle.file_laws.specs.Claims.{NamesOpenFile, read_call}
use Rattle.file_laws.specs.Devices.{number_in}
use Rattle.file_laws.specs.Recorded.{EndsLock, IsSent, IsTaken, settled}
use Rattle.file_laws.proofs.Requests.{freed-settled}
use Rattle.lock_laws.specs.Effects.{TakesEffect}
use Rattle.lock_laws.proofs.Answers.{result-by, set-named, takes-effect}

-- ---- calls that are others

set-read : (kind : ReadKind) → Call.SetStt ≡ read_call kind → ⊥
set-read Bytes is = cc
set-read WholeLine is = cc

set-write : Call.SetStt ≡ Call.Write → ⊥
set-write is = cc

set-line : Call.SetStt ≡ Call.WritLn → ⊥
set-line is = cc

set-error : Call.SetStt ≡ Call.PErr → ⊥
set-error is = cc

size-lock : SS_SIZE ≡ SS_LOCK → ⊥
size-lock is = omega (arith, is)

-- ---- a path that has gone

-- its lock ends
gone-ends : (paths : PathTable) (path : ℕ) (records : Records) → desc_of paths path ≡ None
    → ends_lock (lock_ends paths (λ owner. false)) path records ≡ without_lock records path
gone-ends paths path records gone = by_lock (lock_of records.locks path) refl
  where
    by_lock : (lock : Option Held) → lock_of records.locks path ≡ lock → ends_lock (lock_ends paths (λ owner. false)) path records ≡ without_lock records path
    by_lock None none =
        ap (λ (lock : Option Held). if option_map_or (lock_ends paths (λ owner. false) path) lock false then without_lock records path else records) none
        ∙ sym (ap (λ (lock : Option Held). option_map_or (λ (lock : Held). entered records path None (dropped path lock)) lock records) none)
    by_lock (Some held) there =
        ap (λ (lock : Option Held). if option_map_or (lock_ends paths (λ owner. false) path) lock false then without_lock records path else records) there
        ∙ ap (λ (desc : Option Desc). if is_none desc || false then without_lock records path else records) gone

module _ (it : Attempt) (found : OpenFile) (names : NamesOpenFile (made_in it) found) where
  abbrev asker : Asker
  asker = asker_in it

  abbrev Refused : Type 0
  Refused = (number : ℕ) × (it.result ≡ CallResult.refused number)

  abbrev step : FileStep
  step = file_step it.call asker it.files (length it.before)

  abbrev freed : Records
  freed = without_lock (settled (made_in it)) found.opened.path.0

  abbrev Named : PathCall → Type 0
  Named call = open_file it.files it.process (number_in call asker) ≡ Some found

  -- a step that is done at once
  done-so : (regs : Regs) (new : Files) → step ≡ done regs new → new.records ≡ without_lock it.files.records found.opened.path.0 → Refused ⊎ (it.new.records ≡ freed)
  done-so regs new is records = by_does it.attempted.does
    where
      by_does : FileDoes step asker it.files it.attempted.effect it.before it.after → Refused ⊎ (it.new.records ≡ freed)
      by_does (inr (broken, same)) =
          inl (broken.number, result-by it _ (ap (λ (it : FileEffect). it.end) broken.effect_is))
      by_does (inl well) =
          let does = subst (λ (step : FileStep). DoesDeed (deed_of step it.files) asker it.files well.it it.before it.after) is well.does in
          inr (ap (λ (new : Files). new.records) it.attempted.state
          ∙ ap (λ (effect : FileEffect). records_after effect.end effect.files.records it.process) well.effect_is
          ∙ ap (λ (effect : FileEffect). records_after effect.end effect.files.records it.process) does.0
          ∙ ap (λ (records : Records). with_waiting records it.process None) records
          ∙ freed-settled it.files.records found.opened.path.0 it.process)

  -- SS.Size of the present size has no other effect
  size-so : (request : Request) → it.call ≡ Call.SetStt → asker.caller.regs.b ≡ SS_SIZE
      → length found.file.contents ≡ long_of asker.caller.regs → TakesEffect (made_in it) found request it.new.records → it.new.records ≡ freed
  size-so request call code same (TakesEffect.holds kind bytes (IsTaken.by_read reads is) now) = absurd (set-read kind (sym call ∙ reads))
  size-so request call code same (TakesEffect.holds kind bytes (IsTaken.by_lock set locks one none) now) = absurd (size-lock (sym code ∙ locks))
  size-so request call code same (TakesEffect.writes bytes (IsSent.by_write writes is) now) = absurd (set-write (sym call ∙ writes))
  size-so request call code same (TakesEffect.writes bytes (IsSent.by_line writes is) now) = absurd (set-line (sym call ∙ writes))
  size-so request call code same (TakesEffect.writes bytes (IsSent.by_error writes is) now) = absurd (set-error (sym call ∙ writes))
  size-so request call code same (TakesEffect.writes bytes (IsSent.by_size set sizes differ none) now) = absurd (differ same)
  size-so request call code same (TakesEffect.frees set sizes long now) = now

  pub lock-ends : EndsLock (made_in it) found → Refused ⊎ (it.new.records ≡ freed)
  lock-ends (EndsLock.by_close call gone) =
      done-so asker.caller.regs closed
      (ap (λ (call : PathCall). file_step call asker it.files (length it.before)) call
      ∙ ap (λ (o : Option OpenFile). by_kind o (closes_device asker.caller it.files.io)
      (λ opened. done asker.caller.regs (files_after_close it.files it.process asker.caller.regs.a opened.opened.path.0))) (subst Named call names))
      (gone-ends (after_close it.files.io it.process asker.caller.regs.a).paths found.opened.path.0 it.files.records gone)
    where
      closed : Files
      closed = files_after_close it.files it.process asker.caller.regs.a found.opened.path.0
  lock-ends (EndsLock.by_lock call code update none) =
      done-so asker.caller.regs (with_records it.files (without_lock it.files.records found.opened.path.0))
      (ap (λ (call : PathCall). file_step call asker it.files (length it.before)) call
      ∙ set-named asker it.files (length it.before) found (subst Named call names)
      ∙ ap (sets_status asker it.files found) code
      ∙ ap (λ (b : Bool). refuses (not b) E_BMODE (locks_bytes asker it.files found (long_of asker.caller.regs))) update
      ∙ ap (λ (count : ℕ). locks_bytes asker it.files found count) none) refl
  lock-ends (EndsLock.by_size request granted same call code long) = by_effect (takes-effect it request granted)
    where
      by_effect : Refused ⊎ TakesEffect (made_in it) granted.requests.found request it.new.records → Refused ⊎ (it.new.records ≡ freed)
      by_effect (inl refusal) = inl refusal
      by_effect (inr takes) =
          inr (size-so request call code long (subst (λ (found : OpenFile). TakesEffect (made_in it) found request it.new.records) (sym same) takes))
