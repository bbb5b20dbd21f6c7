-- The history gains entries alone: those of locks that end, and of the chosen process.
use Rattle.std.proofs.Common.{◌≡◌, ℕ, zero, suc, ◌==◌, Bool, true, false, Option, Some, None, Result, Ok, Err, List, [], ◌∷◌, ◌++◌, length, refl, sym, ap, ◌∙◌, subst, inl, inr, append_assoc, append-nil}
use Rattle.std.specs.Prelude.{if◌then◌else◌}
use Rattle.std.specs.List.{AllByRecursion}
use Rattle.std.specs.Option.{option_map_or}
use Rattle.os9_base.specs.declared.registers.TimePacket.{TimePacket}
use Rattle.cpu_model.specs.Step.{Aborts, Calls, Done, Outcome}
use Rattle.proc_model.specs.CallResult.{CallResult, done, ends, refused, waits}
use Rattle.proc_model.specs.Delivery.{delivered}
use Rattle.proc_model.specs.Processes.{Processes, regs_at}
use Rattle.proc_model.specs.Ready.{Act, act_of, attempts, delivers, executes}
use Rattle.proc_model.specs.declared.proc_call.ProcCall.TheVariants as Call
use Rattle.lock_model.specs.History.{dropped, got, put}
use Rattle.lock_model.specs.Locks.{lock_of}
use Rattle.lock_model.specs.Records.{Records, ends_lock, ends_locks_below, entered, without_lock}
use Rattle.lock_model.specs.declared.history.Entry.{Entry}
use Rattle.lock_model.specs.declared.lock.EntryKind.TheVariants.{Drop, Put}
use Rattle.lock_model.specs.declared.lock.Held.{Held}
use Rattle.lock_model.specs.declared.lock.Request.{Request}
use Rattle.lock_model.specs.declared.lock.TheConstants.{PATH_PLACES}
use Rattle.file_rules.specs.Attempts.{FileAttempts, asker_of}
use Rattle.file_rules.specs.Files.{Files}
use Rattle.file_rules.specs.Locking.{files_interrupted, lock_ends}
use Rattle.file_rules.specs.Processes.{files_ended, files_started, io_left}
use Rattle.file_rules.specs.Read.{lock_by}
use Rattle.file_rules.specs.declared.path_call.PathCall.{PathCall}
use Rattle.file_laws.specs.Attempt.{made_in}
use Rattle.file_laws.specs.Claims.{MadePathCall}
use Rattle.file_laws.proofs.Loads.{chain-leaves, fork-leaves, load-leaves}
use Rattle.machine_model.specs.ProcessEvent.{next_instruction}
use Rattle.machine_model.specs.declared.ends.EventEnd.{EventEnd}
use Rattle.machine_model.specs.Event.{Acts, Event, before_delivery, files_after_delivery, files_after_instruction}
use Rattle.machine_model.specs.Services.{Serves, Service, files_after_call, files_after_fork, loads, no_call, on_paths, on_processes, on_time, service_of}
use Rattle.machine_model.specs.State.{Rest, State}
use Rattle.file_laws.specs.Recorded.{IsGranted, RecordsCome, path_in, settled}
use Rattle.file_laws.proofs.Claimed.{records-come}
use Rattle.isolation_laws.proofs.Asked.{Asks, asks}
use Rattle.lock_laws.specs.Locked.{IsAgreed, IsRunLocked}
use Rattle.lock_laws.specs.Written.{GainsOwn, GainsPut, GainsRead, HasGained, IsEntryOf, IsPutIn, HasBytesIfGet}
use Rattle.lock_laws.proofs.Changes.{owner-is}
use Rattle.lock_laws.proofs.Covered.{state-covered}
use Rattle.lock_laws.proofs.GetBytes.{drop-get, get-bytes}
use Rattle.lock_laws.proofs.HeldAttempts.{lock-owner}
use Rattle.lock_laws.proofs.PutBytes.{put-bytes}
use Rattle.lock_laws.proofs.VolumeEvents.{attempt_by}

-- ---- records

module _ (Of : Entry → Type 0) (drops : (path : ℕ) (lock : Held) → Of (dropped path lock)) where
  -- entries are gained, of which this holds
  abbrev Gains : Records → Records → Type 0
  Gains old new = (entries : List Entry) × (new.history ≡ old.history ++ entries) × AllByRecursion Of entries

  all-on : (one two : List Entry) → AllByRecursion Of one → AllByRecursion Of two → AllByRecursion Of (one ++ two)
  all-on [] two none all = all
  all-on (entry ∷ one) two (first, rest) all = (first, all-on one two rest all)

  gains-none : (old new : Records) → new.history ≡ old.history → Gains old new
  gains-none old new same = ([], same ∙ sym (append-nil old.history), tt)

  gains-on : (old between new : Records) → Gains old between → Gains between new → Gains old new
  gains-on old between new (one, first, all) (two, second, rest) = (
    one ++ two,
    second ∙ ap (λ (history : List Entry). history ++ two) first ∙ append_assoc old.history one two,
    all-on one two all rest,
  )

  without-gains : (old : Records) (path : ℕ) → Gains old (without_lock old path)
  without-gains old path = by_lock (lock_of old.locks path)
    where
      by_lock : (lock : Option Held) → Gains old (option_map_or (λ (lock : Held). entered old path None (dropped path lock)) lock old)
      by_lock None = gains-none old old refl
      by_lock (Some lock) = (dropped path lock ∷ [], refl, (drops path lock, tt))

  ends-gains : (test : ℕ → Held → Bool) (path : ℕ) (old : Records) → Gains old (ends_lock test path old)
  ends-gains test path old = by_test (option_map_or (test path) (lock_of old.locks path) false)
    where
      by_test : (over : Bool) → Gains old (if over then without_lock old path else old)
      by_test true = without-gains old path
      by_test false = gains-none old old refl

  below-gains : (test : ℕ → Held → Bool) (n : ℕ) (old : Records) → Gains old (ends_locks_below test n old)
  below-gains test zero old = gains-none old old refl
  below-gains test (suc path) old =
      gains-on old (ends_locks_below test path old) (ends_lock test path (ends_locks_below test path old))
      (below-gains test path old) (ends-gains test path (ends_locks_below test path old))

  -- what an attempt enters for a request that is granted
  abbrev OfGranted : MadePathCall → Records → Type 0
  OfGranted m now =
      (request : Request) → IsGranted m request → (entry : Entry) → entry.process ≡ request.lock.owner.0
      → now.history ≡ m.files.records.history ++ entry ∷ [] → Of entry

  come-gains : (m : MadePathCall) (now : Records) → OfGranted m now → RecordsCome m now → Gains m.files.records now
  come-gains m now granted (RecordsCome.stay is) =
      gains-none m.files.records now (ap (λ (records : Records). records.history) is)
  come-gains m now granted (RecordsCome.holds request kind bytes it taken is) =
      let entry : Entry = got (path_in it) (lock_by kind request.lock bytes) bytes in
      (entry ∷ [], ap (λ (records : Records). records.history) is, (granted request it entry (lock-owner kind request.lock bytes) (ap (λ (records : Records). records.history) is), tt))
  come-gains m now granted (RecordsCome.writes request bytes it sent is) =
      let entry : Entry = put (path_in it) request.lock bytes in
      (entry ∷ [], ap (λ (records : Records). records.history) is, (granted request it entry refl (ap (λ (records : Records). records.history) is), tt))
  come-gains m now granted (RecordsCome.ends found names gone is) =
      subst (Gains m.files.records) (sym is)
      (gains-on m.files.records (settled m) (without_lock (settled m) found.opened.path.0) (gains-none m.files.records (settled m) refl) (without-gains (settled m) found.opened.path.0))
  come-gains m now granted (RecordsCome.waits request requests answer is) =
      gains-none m.files.records now (ap (λ (records : Records). records.history) is)

-- ---- events

-- what an attempt of a process enters for a request that is granted, by the files that it leaves
abbrev GrantedBy : State → ℕ → (Files → Entry → Type 0) → Type 0
GrantedBy s p Of =
    (code : ℕ) → act_of s.processes p ≡ attempts code → (call : PathCall) → service_of code ≡ on_paths call
    → (now : TimePacket) (result : CallResult) (rest : Rest)
    (it : FileAttempts call s.processes s.files now p result rest.files s.terms rest.terms) (request : Request)
    → IsGranted (made_in (attempt_by s p now call result rest it)) request → (entry : Entry) → entry.process ≡ request.lock.owner.0
    → rest.files.records.history ≡ s.files.records.history ++ entry ∷ [] → Of rest.files entry

module _ (s : State) (p : ℕ) (Of : Files → Entry → Type 0) (drops : (files : Files) (path : ℕ) (lock : Held) → Of files (dropped path lock)) (granted : GrantedBy s p Of) where
  abbrev On : Files → Type 0
  On files = Gains (Of files) (drops files) s.files.records files.records

  same-on : (files : Files) → files.records ≡ s.files.records → On files
  same-on files same = gains-none (Of files) (drops files) s.files.records files.records (ap (λ (records : Records). records.history) same)

  ended-on : On (files_ended s.files p)
  ended-on =
      below-gains (Of (files_ended s.files p)) (drops (files_ended s.files p)) (lock_ends (io_left s.files p).io.paths (λ owner. owner == p)) PATH_PLACES (io_left s.files p).records

  instruction-on : (outcome : Outcome) → On (files_after_instruction s.files p outcome)
  instruction-on (Done effect) = same-on s.files refl
  instruction-on (Calls code regs) = same-on s.files refl
  instruction-on (Aborts status) = ended-on

  delivery-on : (result : Result Processes ℕ) → On (files_after_delivery s.files p result)
  delivery-on (Ok t) =
      gains-none (Of (files_interrupted s.files p)) (drops (files_interrupted s.files p)) s.files.records (files_interrupted s.files p).records refl
  delivery-on (Err status) = ended-on

  call-on : (result : CallResult) → On (files_after_call s.files p result)
  call-on (done t) = same-on s.files refl
  call-on (refused number) = same-on s.files refl
  call-on (waits t) = same-on s.files refl
  call-on (ends status) = ended-on

  fork-on : (files : Files) → files.records ≡ s.files.records → (result : CallResult) → On (files_after_fork files p result)
  fork-on files same (done t) = same-on (files_started files p (regs_at t p).a) same
  fork-on files same (refused number) = same-on files same
  fork-on files same (waits t) = same-on files same
  fork-on files same (ends status) = same-on files same

  abbrev files_in : Rest → Files
  files_in rest = rest.files

  rest-on : (rest : Rest) (files : Files) → files_in rest ≡ files → On files → On rest.files
  rest-on rest files same on = subst On (sym same) on

  serves-on : (code : ℕ) → act_of s.processes p ≡ attempts code → (service : Service) → service_of code ≡ service
      → (now : TimePacket) (result : CallResult) (rest : Rest) → Serves service s now p result rest → On rest.files
  serves-on code next loads serves now result rest (files, read, is) =
      rest-on rest files (ap files_in is) (same-on files (load-leaves s.processes (asker_of s.processes p now) s.files (length s.terms) p result files read).records)
  serves-on code next (on_processes Call.Fork) serves now result rest (files, read, is) =
      rest-on rest (files_after_fork files p result) (ap files_in is)
      (fork-on files (fork-leaves s.processes (asker_of s.processes p now) s.files (length s.terms) p result files read).records result)
  serves-on code next (on_processes Call.Chain) serves now result rest (files, read, is) =
      rest-on rest files (ap files_in is) (same-on files (chain-leaves s.processes (asker_of s.processes p now) s.files (length s.terms) p result files read).records)
  serves-on code next (on_processes call) serves now result rest served =
      rest-on rest (files_after_call s.files p result) (ap files_in served.1) (call-on result)
  serves-on code next (on_time call) serves now result rest (clock, timed, is) =
      rest-on rest s.files (ap files_in is) (same-on s.files refl)
  serves-on code next (on_paths call) serves now result rest (it, clock) =
      come-gains (Of rest.files) (drops rest.files) (made_in (attempt_by s p now call result rest it)) rest.files.records
      (granted code next call serves now result rest it) (records-come (attempt_by s p now call result rest it))
  serves-on code next no_call serves now result rest (refusal, is) = rest-on rest s.files (ap files_in is) (same-on s.files refl)

  acts-on : (act : Act) (end : EventEnd) (t : State) → act_of s.processes p ≡ act → Acts act s p end t → On t.files
  acts-on executes end t next (over, is) =
      subst (λ (t : State). On t.files) (sym is) (instruction-on (next_instruction s.processes p))
  acts-on (delivers signal) end t next (over, is) =
      subst (λ (t : State). On t.files) (sym is) (delivery-on (delivered (before_delivery s p) p signal))
  acts-on (attempts code) end t next (result, rest, (now, is_now, served), over, is) =
      subst (λ (t : State). On t.files) (sym is) (serves-on code next (service_of code) refl now result rest served)

pub event-gains : (s t : State) (end : EventEnd) → Event s end t → HasGained s t
event-gains s t end (p, chosen, lives, acts) =
    let (entries, is, all) = acts-on s p (λ files entry. Unit {0}) (λ files path lock. tt)
    (λ code next call serves now result rest it request granted entry owner gained. tt) (act_of s.processes p) end t refl acts in
    record { entries = entries; is = is }

-- each entry is that of a lock that ended, or one of the chosen process
pub event-gains-own : (s t : State) (end : EventEnd) → IsAgreed s → Event s end t → GainsOwn s t
event-gains-own s t end agreed (p, chosen, lives, acts) =
    let (entries, is, all) = acts-on s p (λ files. IsEntryOf s.chosen) (λ files path lock. inl refl) of_granted (act_of s.processes p) end t refl acts in
    record { gained = record { entries = entries; is = is }; own = all }
  where
    of_granted : GrantedBy s p (λ files. IsEntryOf s.chosen)
    of_granted code next call serves now result rest it request granted entry owner gained =
        inr (chosen ∙ ap (λ (p : ℕ). Some p) (sym (owner
        ∙ owner-is (made_in (attempt_by s p now call result rest it)) agreed.agreed.records agreed.agreed.places
        (λ request there. (agreed.running.requested p request there).owner) request granted.requests)))

-- the entry of a read has the bytes that its file had
pub event-gains-read : (s t : State) (end : EventEnd) → IsRunLocked s → Event s end t → GainsRead s t
event-gains-read s t end locked (p, chosen, lives, acts) =
    let (entries, is, all) = acts-on s p (λ files. HasBytesIfGet s.files) (λ files path lock kind. absurd (drop-get kind)) of_granted (act_of s.processes p) end t refl acts in
    record { gained = record { entries = entries; is = is }; read = all }
  where
    of_granted : GrantedBy s p (λ files. HasBytesIfGet s.files)
    of_granted code next call serves now result rest it request granted entry owner gained kind =
        get-bytes (attempt_by s p now call result rest it)
        (state-covered s p code locked.state.running locked.on next now call (subst (Asks code) serves (asks code)) (length s.terms))
        entry kind gained

drop-put : Drop ≡ Put → ⊥
drop-put is = cc

-- the entry of a write has the bytes that its file has then
pub event-gains-put : (s t : State) (end : EventEnd) → IsRunLocked s → Event s end t → GainsPut s t
event-gains-put s t end locked (p, chosen, lives, acts) =
    let (entries, is, all) = acts-on s p IsPutIn (λ files path lock kind. absurd (drop-put kind)) of_granted (act_of s.processes p) end t refl acts in
    record { gained = record { entries = entries; is = is }; put = all }
  where
    of_granted : GrantedBy s p IsPutIn
    of_granted code next call serves now result rest it request granted entry owner gained kind =
        put-bytes (attempt_by s p now call result rest it)
        (state-covered s p code locked.state.running locked.on next now call (subst (Asks code) serves (asks code)) (length s.terms))
        entry.file entry kind refl gained
