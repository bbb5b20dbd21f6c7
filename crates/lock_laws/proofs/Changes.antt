-- What an attempt makes of the records keeps their agreement.
use Rattle.std.proofs.Common.{◌≡◌, ◌⊎◌, ℕ, ◌+◌, ◌<◌, ◌≤◌, not, Bool, true, false, Option, Some, None, List, length, refl, sym, ap, ◌∙◌, subst, inl, inr, arith}
use Rattle.std.specs.Prelude.{drop, is_none, min, unwrap_or, if◌then◌else◌}
use Rattle.std.proofs.lemmas.Bool.{cases_lt}
use Rattle.std.proofs.lemmas.List.{get_or_past, length-take, set-get_or}
use Rattle.std.proofs.lemmas.Option.{none-some}
use Rattle.io_model.specs.Line.{has_return, line_length}
use Rattle.io_model.specs.Path.{desc_of}
use Rattle.io_model.specs.declared.terminal.ReadKind.{ReadKind}
use Rattle.io_model.specs.declared.terminal.ReadKind.TheVariants.{Bytes, WholeLine}
use Rattle.lock_model.specs.Conflict.{conflicts}
use Rattle.lock_model.specs.Laws.{Covers, MayHold}
use Rattle.lock_model.specs.Locks.{Locks, request_of}
use Rattle.lock_model.specs.Records.{AreLockRecords, Records, with_waiting}
use Rattle.lock_model.specs.Waits.{closes, first_answer, is_late, later_answer}
use Rattle.lock_model.specs.declared.lock.Grant.TheVariants.{Deadlock, Granted, Locked, Wait}
use Rattle.lock_model.specs.declared.lock.Held.{Held}
use Rattle.lock_model.specs.declared.lock.Request.{Request}
use Rattle.lock_model.specs.declared.lock.TheConstants.{PATH_PLACES}
use Rattle.lock_model.proofs.Agreeing.{records-forgotten, records-held, records-waiting, records-without, records-written}
use Rattle.lock_model.proofs.Keeping.{may-hold, part-held}
use Rattle.file_rules.specs.Files.{OpenFile, open_file}
use Rattle.file_rules.specs.Locking.{answer_in, first_request, pending_request}
use Rattle.file_rules.specs.Read.{bytes_at, lock_by}
use Rattle.file_laws.proofs.Named.{opened-desc}
use Rattle.rbf_change.specs.Contents.{bytes_from}
use Rattle.file_rules.specs.declared.path_call.PathCall.{PathCall}
use Rattle.file_rules.specs.declared.path_call.PathCall.TheVariants as Call
use Rattle.file_laws.specs.Devices.{number_in}
use Rattle.file_laws.proofs.Requests.{emptied-at}
use Rattle.file_laws.specs.Claims.{CoversCall, MadePathCall, Requests}
use Rattle.file_laws.specs.Recorded.{IsGranted, IsTaken, RecordsCome, path_in, settled}

-- ---- what answers say

wait-granted : Wait ≡ Granted → ⊥
wait-granted is = cc

locked-granted : Locked ≡ Granted → ⊥
locked-granted is = cc

deadlock-granted : Deadlock ≡ Granted → ⊥
deadlock-granted is = cc

granted-wait : Granted ≡ Wait → ⊥
granted-wait is = cc

locked-wait : Locked ≡ Wait → ⊥
locked-wait is = cc

deadlock-wait : Deadlock ≡ Wait → ⊥
deadlock-wait is = cc

-- a request is granted only if it does not conflict
first-free : (conflict one cycle : Bool) → (if not conflict then Granted else (if one then Locked else (if cycle then Deadlock else Wait))) ≡ Granted → conflict ≡ false
first-free false one cycle is = refl
first-free true true cycle is = absurd (locked-granted is)
first-free true false true is = absurd (deadlock-granted is)
first-free true false false is = absurd (wait-granted is)

later-free : (conflict late : Bool) → (if not conflict then Granted else (if late then Locked else Wait)) ≡ Granted → conflict ≡ false
later-free false late is = refl
later-free true true is = absurd (locked-granted is)
later-free true false is = absurd (wait-granted is)

-- and waits at a first attempt only if it closes no cycle
first-unclosed : (conflict one cycle : Bool) → (if not conflict then Granted else (if one then Locked else (if cycle then Deadlock else Wait))) ≡ Wait → cycle ≡ false
first-unclosed conflict one false is = refl
first-unclosed false one true is = absurd (granted-wait is)
first-unclosed true true true is = absurd (locked-wait is)
first-unclosed true false true is = absurd (deadlock-wait is)

pub granted-free : (locks : Locks) (p tick : ℕ) (request : Request) (kept : Option Request)
    → (if is_none kept then first_answer locks request else later_answer locks tick request) ≡ Granted
    → conflicts locks request.lock ≡ false
granted-free locks p tick request None is = first-free (conflicts locks request.lock) _ (closes locks request.lock) is
granted-free locks p tick request (Some other) is = later-free (conflicts locks request.lock) (is_late tick request) is

-- ---- the locks that are held then

-- a read of a line holds the line, or all that was requested
line-held : (locks : Locks) (lock : Held) (bytes : List ℕ) → Covers lock.range (length bytes) → MayHold locks lock → MayHold locks (lock_by WholeLine lock bytes)
line-held locks lock bytes covers may = by_return (has_return bytes)
  where
    by_return : (returns : Bool) → MayHold locks (record lock { range = if returns then record lock.range { end = Some (lock.range.start + length bytes) } else lock.range })
    by_return true = part-held locks lock (lock.range.start + length bytes) covers may
    by_return false = may

line-bytes : WholeLine ≡ Bytes → ⊥
line-bytes is = cc

-- a line that was read fits in the range requested if that covers the call
line-fits : (m : MadePathCall) (found : OpenFile) (request : Request) (bytes : List ℕ)
    → bytes ≡ bytes_at WholeLine m.asker found request.lock.range.start → Covers request.lock.range m.asker.caller.regs.y
    → Covers request.lock.range (length bytes)
line-fits m found request bytes is covers last end =
    let count : ℕ = m.asker.caller.regs.y in
    let start : ℕ = request.lock.range.start in
    let front : List ℕ = bytes_from found.file.contents start count in
    let long : length bytes ≡ min (line_length front) (length front) = ap (length {A = ℕ}) is ∙ length-take (line_length front) front in
    let most : length front ≡ min count (length (drop start found.file.contents)) = length-take count (drop start found.file.contents) in
    omega (arith, long, most, covers last end)

-- the request of a line read covers the call
abbrev pub CoversLine : MadePathCall → Type 0
CoversLine m = m.call ≡ Call.ReadLn → (request : Request) → Requests m request → CoversCall m.call m.asker.caller.regs request

module _ (m : MadePathCall) (agreed : AreLockRecords m.files.records) (places : length m.files.io.paths.descs ≡ PATH_PLACES)
    (own : (request : Request) → request_of m.files.records.locks m.asker.caller.process.0 ≡ Some request
    → request.lock.owner.0 ≡ m.asker.caller.process.0) where
  abbrev p : ℕ
  p = m.asker.caller.process.0

  abbrev locks : Locks
  locks = m.files.records.locks

  settled-agreed : AreLockRecords (settled m)
  settled-agreed = records-forgotten m.files.records p agreed

  -- a request of an attempt is of its process
  pub owner-is : (request : Request) → Requests m request → request.lock.owner.0 ≡ p
  owner-is request it = by_kept (pending_request m.asker m.files) refl it.is
    where
      by_kept : (kept : Option Request) → pending_request m.asker m.files ≡ kept → request ≡ unwrap_or kept (first_request m.asker it.found it.claim) → request.lock.owner.0 ≡ p
      by_kept None none is = ap (λ (request : Request). request.lock.owner.0) is
      by_kept (Some other) there is = ap (λ (request : Request). request.lock.owner.0) is ∙ own other there

  -- a path that a number names has a place
  path-low : (found : OpenFile) → open_file m.files p (number_in m.call m.asker) ≡ Some found → found.opened.path.0 < PATH_PLACES
  path-low found named = by_place (cases_lt found.opened.path.0 (length m.files.io.paths.descs))
    where
      there : desc_of m.files.io.paths found.opened.path.0 ≡ Some found.opened.desc
      there = opened-desc m.files p (number_in m.call m.asker) found named

      by_place : (found.opened.path.0 < length m.files.io.paths.descs) ⊎ (length m.files.io.paths.descs ≤ found.opened.path.0) → found.opened.path.0 < PATH_PLACES
      by_place (inl low) = omega (arith, low, places)
      by_place (inr past) =
          absurd (none-some found.opened.desc (sym (get_or_past m.files.io.paths.descs found.opened.path.0 None past) ∙ there))

  -- the lock of a granted request may be held when the request is forgotten
  granted-may : (request : Request) (it : IsGranted m request) → MayHold (settled m).locks request.lock
  granted-may request it =
      may-hold (settled m).locks request.lock
      (ap (request_of (settled m).locks) (owner-is request it.requests) ∙ emptied-at locks.requests p)
      (granted-free locks p m.asker.tick request (request_of locks p) it.answer)

  lock-may : (request : Request) (it : IsGranted m request) (kind : ReadKind) (bytes : List ℕ)
      → IsTaken m it.requests.found request kind bytes → CoversLine m
      → MayHold (settled m).locks (lock_by kind request.lock bytes)
  lock-may request it Bytes bytes taken covers = granted-may request it
  lock-may request it WholeLine bytes (IsTaken.by_read call is) covers =
      line-held (settled m).locks request.lock bytes
      (line-fits m it.requests.found request bytes is
      (subst (λ (call : PathCall). CoversCall call m.asker.caller.regs request) call (covers call request it.requests)))
      (granted-may request it)
  lock-may request it WholeLine bytes (IsTaken.by_lock call code kind none) covers = absurd (line-bytes kind)

  -- a process that waits on keeps its request
  waits-agreed : (request : Request) → Requests m request → answer_in locks p m.asker.tick request ≡ Wait → AreLockRecords (with_waiting m.files.records request.lock.owner.0 (Some request))
  waits-agreed request it answer = by_kept (request_of locks p) refl it.is answer
    where
      owner : request.lock.owner.0 ≡ p
      owner = owner-is request it

      by_kept : (kept : Option Request) → request_of locks p ≡ kept → request ≡ unwrap_or kept
          (first_request m.asker it.found it.claim) → (if is_none kept then first_answer locks request else
          later_answer locks m.asker.tick request) ≡ Wait
          → AreLockRecords (with_waiting m.files.records request.lock.owner.0 (Some request))
      by_kept None none is waits =
          records-waiting m.files.records request (ap (request_of locks) owner ∙ none) (first-unclosed (conflicts locks request.lock) _ (closes locks request.lock) waits) agreed
      by_kept (Some other) there is waits =
          subst AreLockRecords (sym same) agreed
        where
          same : with_waiting m.files.records request.lock.owner.0 (Some request) ≡ m.files.records
          same =
              ap (λ (n : ℕ). with_waiting m.files.records n (Some request)) owner
              ∙ ap (λ (kept : Option Request). with_waiting m.files.records p kept) (ap (λ (request : Request). Some request) is ∙ sym there)
              ∙ ap (λ (requests : List (Option Request)). let now : Records = record m.files.records { locks = record locks { requests = requests } } in now) (set-get_or locks.requests p None)

  pub come-agreed : CoversLine m → (now : Records) → RecordsCome m now → AreLockRecords now
  come-agreed covers now (RecordsCome.stay is) = subst AreLockRecords (sym is) settled-agreed
  come-agreed covers now (RecordsCome.holds request kind bytes it taken is) =
      subst AreLockRecords (sym is) (records-held (settled m) (path_in it) (lock_by kind request.lock bytes) bytes
      (path-low it.requests.found it.requests.names) (lock-may request it kind bytes taken covers) settled-agreed)
  come-agreed covers now (RecordsCome.writes request bytes it sent is) =
      subst AreLockRecords (sym is) (records-written (settled m) (path_in it) request.lock bytes
      (path-low it.requests.found it.requests.names) (granted-free locks p m.asker.tick request
      (request_of locks p) it.answer) settled-agreed)
  come-agreed covers now (RecordsCome.ends found names ends is) =
      subst AreLockRecords (sym is) (records-without (settled m) found.opened.path.0 settled-agreed)
  come-agreed covers now (RecordsCome.waits request requests answer is) =
      subst AreLockRecords (sym is) (waits-agreed request requests answer)
