-- An attempt is refused or waits as its request is answered, and for no other cause.
use Rattle.std.proofs.Common.{◌≡◌, ◌≢◌, ◌⊎◌, ℕ, ◌+◌, ◌<◌, ◌≤◌, ◌==◌, not, Bool, true, false, Option, Some, None, IsSome, List, [], length, refl, sym, ap, ◌∙◌, subst, inl, inr, arith}
use Rattle.std.specs.Prelude.{is_none, nat_le, nat_lt, option_map, unwrap_or, if◌then◌else◌}
use Rattle.std.proofs.lemmas.Bool.{eqb-false, eqb-true, false≢true, leb-true}
use Rattle.std.proofs.lemmas.Option.{none-some, same_Some}
use Rattle.os9_base.specs.declared.errors.TheConstants.{E_BMODE, E_BPADDR, E_DEADLK, E_EOF, E_FULL, E_LOCK, E_SLF}
use Rattle.os9_base.specs.declared.registers.Regs.{Regs}
use Rattle.os9_outer.specs.Drive.{drive_error}
use Rattle.os9_outer.specs.TerminalState.{TerminalState}
use Rattle.os9_outer.specs.declared.drive.DriveFault.{DriveFault}
use Rattle.os9_outer.specs.declared.drive.DriveFault.TheVariants.{NotReady, ReadFault, SeekFault, WriteFault, WriteProtect}
use Rattle.proc_model.specs.CallResult.{CallResult}
use Rattle.proc_model.specs.UserBytes.{user_bytes}
use Rattle.lock_model.specs.Records.{Records, holding, with_waiting, without_lock, written_by}
use Rattle.lock_model.specs.declared.lock.Grant.{Grant}
use Rattle.lock_model.specs.declared.lock.Grant.TheVariants.{Deadlock, Granted, Locked, Wait}
use Rattle.lock_model.specs.declared.lock.Request.{Request}
use Rattle.io_model.specs.declared.terminal.ReadKind.{ReadKind}
use Rattle.io_model.specs.declared.terminal.ReadKind.TheVariants.{Bytes, WholeLine}
use Rattle.io_model.specs.Attempts.{result_by, result_of}
use Rattle.io_model.specs.Modes.{can_read, can_write}
use Rattle.io_model.specs.Pipes.{count_regs}
use Rattle.io_model.specs.Read.{i_read as reads_device, i_readln as reads_device_line}
use Rattle.io_model.specs.Status.{i_setstt as sets_of_device}
use Rattle.io_model.specs.Step.{IoEnd, IoStep, answers, fails, keeps}
use Rattle.io_model.specs.Write.{error_line, i_write as writes_device, i_writln as writes_device_line, f_perr as tells_device}
use Rattle.file_rules.specs.Attempts.{file_step, files_after, io_effect}
use Rattle.file_rules.specs.Change.{Change, sizes, writes}
use Rattle.file_rules.specs.Files.{Asker, Files, OpenFile, open_file, with_position, with_records}
use Rattle.file_rules.specs.Locking.{answer_to, asks, asks_by, call_of, first_request, is_for_update, position_of, records_after, pending_request, request_now, start_of}
use Rattle.file_rules.specs.OnFile.{by_kind, moves_bytes}
use Rattle.file_rules.specs.Read.{answers_bytes, bytes_at, lock_by, read_claim, read_start, reads_file, reads_freely, reads_locked, reads_on}
use Rattle.file_rules.specs.Seek.{long_of}
use Rattle.file_rules.specs.Status.{after_size, lock_claim, locks_bytes, locks_range, sets_status, size_claim, sizes_locked}
use Rattle.file_rules.specs.Step.{Deed, DoesDeed, FileDoes, FileEffect, FileStep, IsBroken, VolumeChange, as_io, changes, comes, deed_of, done, drive_of, leaves, leaves_so, needs, reaches, refuses}
use Rattle.rbf_change.specs.Calls.{cluster_size, free_total}
use Rattle.rbf_change.specs.Contents.{written}
use Rattle.rbf_change.specs.Growth.{clusters_needed}
use Rattle.file_rules.specs.Write.{changes_file, line_moved, sends_bytes, write_claim, writes_bytes}
use Rattle.file_rules.specs.declared.claim.Claim.{Claim}
use Rattle.file_rules.specs.declared.path_call.PathCall.{PathCall}
use Rattle.file_rules.specs.declared.path_call.PathCall.TheVariants as Call
use Rattle.file_rules.specs.declared.status.TheConstants.{SS_LOCK, SS_SIZE}
use Rattle.os9_base.specs.declared.calls.TheConstants.{F_PERR, I_WRITE, I_WRITLN}
use Rattle.file_laws.specs.Attempt.{Attempt, ReportsDriveFault, asker_in, made_in}
use Rattle.file_laws.specs.Devices.{number_in}
use Rattle.file_laws.specs.Touch.{OneDriveFails}
use Rattle.file_laws.proofs.TouchAttempts.{ends-refused}
use Rattle.file_laws.proofs.Splits.{not-refused}
use Rattle.lock_laws.specs.Answered.{DoesAsDevice, IsAnsweredSo}
use Rattle.lock_laws.specs.Effects.{TakesEffect}
use Rattle.file_laws.specs.Recorded.{IsGranted, IsSent, IsTaken}
use Rattle.file_laws.proofs.Requests.{freed-settled}
use Rattle.file_laws.specs.Claims.{CanRead, CanWrite, Claims, read_call}
use Rattle.file_laws.proofs.Claimed.{claimed}
use Rattle.file_laws.proofs.ClaimSteps.{Claimed, LeftSo, is_of_lock}

-- ---- the step of a call that makes a request

is-there : {X : Type 0} (o : Option X) → IsSome o → is_none o ≡ false
is-there None some = absurd (false≢true some)
is-there (Some x) some = refl

not-zero : (n : ℕ) → n ≢ 0 → (n == 0) ≡ false
not-zero n differ = by_test (n == 0) refl
  where
    by_test : (zero : Bool) → (n == 0) ≡ zero → zero ≡ false
    by_test true is = absurd (differ (eqb-true n 0 is))
    by_test false is = refl

above-zero : (n : ℕ) → 0 < n → (n == 0) ≡ false
above-zero n some = not-zero n (λ same. omega (arith, some, same))

is-less : (a b : ℕ) → b < a → nat_le a b ≡ false
is-less a b less = by_test (nat_le a b) refl
  where
    by_test : (test : Bool) → nat_le a b ≡ test → test ≡ false
    by_test true is = let more : a ≤ b = leb-true a b is in absurd (omega (arith, less, more))
    by_test false is = refl

module _ (asker : Asker) (files : Files) (terms : ℕ) where
  -- a step is refused, or answered when this request has taken effect
  abbrev pub Ended : PathCall → OpenFile → Request → FileEffect → Type 0
  Ended call found request effect =
      ((number : ℕ) × (effect.end ≡ fails number))
      ⊎ ((regs : Regs) × (effect.end ≡ answers regs)) × TakesEffect (record { call = call; asker = asker; files = files; terms = terms }) found request
      (with_waiting effect.files.records asker.caller.process.0 None)

  abbrev EndsSo : PathCall → OpenFile → Request → FileStep → Type 0
  EndsSo call found request next =
      (effect : FileEffect) (before after : List TerminalState) → DoesDeed (deed_of next files) asker files effect before after → Ended call found request effect

  -- the step of a call makes a request of what it claims, and ends so if that is granted
  abbrev AsksFor : PathCall → OpenFile → Claim → Type 0
  AsksFor call found claim =
      (next : FileStep) × (file_step call asker files terms ≡ reaches found.place.drive (asks asker files (request_now asker files found claim) next))
      × EndsSo call found (request_now asker files found claim) next

  module _ (found : OpenFile) where
    holds-so : (call : PathCall) (request : Request) (kind : ReadKind) (bytes : List ℕ) (it : FileEffect) (regs : Regs) → it.end ≡ answers regs
        → it.files.records ≡ holding files.records found.opened.path.0 (lock_by kind request.lock bytes) bytes
        → IsTaken (record { call = call; asker = asker; files = files; terms = terms }) found request kind bytes → EndsSo call found request (comes (leaves_so it))
    holds-so call request kind bytes it regs end records taken effect before after (is, same) =
        subst (Ended call found request) (sym is)
        (inr ((regs, end), TakesEffect.holds kind bytes taken (ap (λ (records : Records). with_waiting records asker.caller.process.0 None) records)))

    changes-so : (call : PathCall) (request : Request) (change : Change) (size : ℕ) (regs : Regs) (new : Files)
        → TakesEffect (record { call = call; asker = asker; files = files; terms = terms }) found request (with_waiting new.records asker.caller.process.0 None)
        → EndsSo call found request (changes_file found change size regs new)
    changes-so call request change size regs new takes =
        by_test (nat_lt (free_total found.volume) (clusters_needed (cluster_size found.volume) found.file.segments size))
      where
        it : VolumeChange
        it = record { drive = found.place.drive; change = change; effect = λ n. leaves (answers regs) new }

        by_test : (full : Bool) → EndsSo call found request (refuses full E_FULL (comes (changes it)))
        by_test true effect before after (is, same) = inl (E_FULL, ap (λ (it : FileEffect). it.end) is)
        by_test false effect before after (inl changed, same) =
            subst (Ended call found request) (sym changed.effect_is) (inr ((regs, refl), takes))
        by_test false effect before after (inr long, same) = inl (E_SLF, ap (λ (it : FileEffect). it.end) long.effect_is)

    -- a read begins where its request does
    begins : (kind : ReadKind) → is_for_update found.opened.desc.mode ≡ true → (kept : Option Request) → pending_request asker files ≡ kept
        → (unwrap_or kept (first_request asker found (read_claim kind asker found (read_start asker files found)))).lock.range.start ≡ read_start asker files found
    begins kind update None is = refl
    begins kind update (Some other) is =
        sym (ap (λ (b : Bool). if b then position_of asker files found else found.opened.desc.at) update ∙ ap (λ (kept : Option Request). start_of kept found.opened.desc.at) is)

    abbrev Named : PathCall → Type 0
    Named call = open_file files asker.caller.process.0 (number_in call asker) ≡ Some found

    -- bytes are moved
    moves-next : (is_allowed : ℕ → Bool) (next : FileStep) → is_allowed found.opened.desc.mode ≡ true → 0 < asker.caller.regs.y → moves_bytes asker files found is_allowed next ≡ next
    moves-next is_allowed next may some =
        ap (λ (b : Bool). refuses (not b) E_BMODE (if asker.caller.regs.y == 0 then done asker.caller.regs files else next)) may
        ∙ ap (λ (b : Bool). if b then done asker.caller.regs files else next) (above-zero asker.caller.regs.y some)

    read-next : (call : PathCall) (kind : ReadKind) (otherwise : IoStep) → call ≡ read_call kind
        → open_file files asker.caller.process.0 asker.caller.regs.a ≡ Some found → CanRead asker found
        → is_for_update found.opened.desc.mode ≡ true → read_start asker files found < length found.file.contents
        → (next : FileStep) × (reads_on kind asker files otherwise ≡ reaches found.place.drive (asks asker files
        (request_now asker files found (read_claim kind asker found (read_start asker files found))) next))
        × EndsSo call found (request_now asker files found (read_claim kind asker found (read_start asker files found))) next
    read-next call kind otherwise reads named (there, may, some) update more = (
      comes (leaves_so answered),
      ap (λ (o : Option OpenFile). by_kind o otherwise
          (λ opened. refuses (is_none (user_bytes asker.caller.cells asker.caller.regs.x asker.caller.regs.y))
          E_BPADDR (moves_bytes asker files opened can_read (reads_file kind asker files opened)))) named
          ∙ ap (λ (b : Bool). refuses b E_BPADDR (moves_bytes asker files found can_read (reads_file kind asker files
          found))) (is-there (user_bytes asker.caller.cells asker.caller.regs.x asker.caller.regs.y) there)
          ∙ moves-next can_read (reads_file kind asker files found) may some
          ∙ ap (λ (b : Bool). reaches found.place.drive (refuses b E_EOF (if is_for_update found.opened.desc.mode then locked else free))) (is-less (length found.file.contents) at more)
          ∙ ap (λ (b : Bool). reaches found.place.drive (if b then locked else free)) update,
      holds-so call request kind bytes answered (count_regs asker.caller (length bytes)) refl refl
          (IsTaken.by_read reads (ap (bytes_at kind asker found) (sym (begins kind update (pending_request asker files) refl)))),
    )
      where
        at : ℕ
        at = read_start asker files found

        request : Request
        request = request_now asker files found (read_claim kind asker found at)

        bytes : List ℕ
        bytes = bytes_at kind asker found at

        answered : FileEffect
        answered =
            answers_bytes asker (with_records files (holding files.records found.opened.path.0 (lock_by kind request.lock bytes) bytes)) found request.lock.range.start bytes

        locked : FileStep
        locked = reads_locked kind asker files found request bytes

        free : FileStep
        free = reads_freely kind asker files found

    by-read : (kind : ReadKind) → Named (read_call kind) → CanRead asker found → is_for_update found.opened.desc.mode
        ≡ true → read_start asker files found < length found.file.contents → AsksFor (read_call kind) found
        (read_claim kind asker found (read_start asker files found))
    by-read Bytes named can update more = read-next Call.Read Bytes (reads_device asker.caller files.io) refl named can update more
    by-read WholeLine named can update more = read-next Call.ReadLn WholeLine (reads_device_line asker.caller files.io) refl named can update more

    -- what a write comes to
    module _ (call : PathCall) (code : ℕ) (bytes : List ℕ) (regs : Regs) where
      abbrev write_request : Request
      write_request = request_now asker files found (write_claim found code (length bytes))

      abbrev write_then : Files
      write_then =
          with_position (with_records files (written_by files.records found.opened.path.0 write_request.lock bytes)) found.opened (write_request.lock.range.start + length bytes)

      abbrev write_next : FileStep
      write_next =
          changes_file found (writes found.place.number write_request.lock.range.start bytes) (length (written found.file.contents write_request.lock.range.start bytes)) regs write_then

      write-ends : IsSent (record { call = call; asker = asker; files = files; terms = terms }) found bytes → EndsSo call found write_request write_next
      write-ends sent =
          changes-so call write_request (writes found.place.number write_request.lock.range.start bytes)
          (length (written found.file.contents write_request.lock.range.start bytes)) regs write_then (TakesEffect.writes bytes sent refl)

    by-write : (bytes : List ℕ) → Named Call.Write → CanWrite asker found → user_bytes asker.caller.cells
        asker.caller.regs.x asker.caller.regs.y ≡ Some bytes → AsksFor Call.Write found
        (write_claim found I_WRITE (length bytes))
    by-write bytes named (may, some) is = (
      write_next Call.Write I_WRITE bytes (count_regs asker.caller (length bytes)),
      ap (λ (o : Option OpenFile). by_kind o (writes_device asker.caller files.io)
          (λ opened. needs (user_bytes asker.caller.cells asker.caller.regs.x asker.caller.regs.y) E_BPADDR
          (sends_bytes asker files opened I_WRITE))) named
          ∙ ap (λ (o : Option (List ℕ)). needs o E_BPADDR (sends_bytes asker files found I_WRITE)) is
          ∙ moves-next can_write (writes_bytes asker files found I_WRITE bytes (count_regs asker.caller (length bytes))) may some,
      write-ends Call.Write I_WRITE bytes (count_regs asker.caller (length bytes)) (IsSent.by_write refl is),
    )

    by-line : (bytes : List ℕ) → Named Call.WritLn → CanWrite asker found
        → line_moved asker (pending_request asker files) ≡ Some bytes → AsksFor Call.WritLn found
        (write_claim found I_WRITLN (length bytes))
    by-line bytes named (may, some) is = (
      write_next Call.WritLn I_WRITLN bytes (count_regs asker.caller (length bytes)),
      ap (λ (o : Option OpenFile). by_kind o (writes_device_line asker.caller files.io)
          (λ opened. needs (line_moved asker (pending_request asker files)) E_BPADDR (sends_bytes asker files opened
          I_WRITLN))) named
          ∙ ap (λ (o : Option (List ℕ)). needs o E_BPADDR (sends_bytes asker files found I_WRITLN)) is
          ∙ moves-next can_write (writes_bytes asker files found I_WRITLN bytes (count_regs asker.caller (length bytes))) may some,
      write-ends Call.WritLn I_WRITLN bytes (count_regs asker.caller (length bytes)) (IsSent.by_line refl is),
    )

    by-error : Named Call.PErr → can_write found.opened.desc.mode ≡ true → AsksFor Call.PErr found (write_claim found F_PERR (length (error_line asker.caller.regs.b)))
    by-error named may = (
      write_next Call.PErr F_PERR (error_line asker.caller.regs.b) asker.caller.regs,
      ap (λ (o : Option OpenFile). by_kind o (tells_device asker.caller files.io)
          (λ opened. refuses (not (can_write opened.opened.desc.mode)) E_BMODE (writes_bytes asker files opened F_PERR
          (error_line asker.caller.regs.b) asker.caller.regs))) named
          ∙ ap (λ (b : Bool). refuses (not b) E_BMODE (writes_bytes asker files found F_PERR (error_line asker.caller.regs.b) asker.caller.regs)) may,
      write-ends Call.PErr F_PERR (error_line asker.caller.regs.b) asker.caller.regs (IsSent.by_error refl refl),
    )

    -- the status that is set
    pub set-named : Named Call.SetStt → file_step Call.SetStt asker files terms ≡ sets_status asker files found asker.caller.regs.b
    set-named named =
        ap (λ (o : Option OpenFile). by_kind o (sets_of_device asker.caller files.io) (λ opened. sets_status asker files opened asker.caller.regs.b)) named

    by-size : Named Call.SetStt → asker.caller.regs.b ≡ SS_SIZE → can_write found.opened.desc.mode ≡ true → AsksFor Call.SetStt found (size_claim found (long_of asker.caller.regs))
    by-size named code may = (
      changes_file found (sizes found.place.number size) size asker.caller.regs (after_size files found size request.lock),
      set-named named
          ∙ ap (sets_status asker files found) code
          ∙ ap (λ (b : Bool). refuses (not b) E_BMODE (reaches found.place.drive (sizes_locked asker files found
          (long_of asker.caller.regs) (request_now asker files found
          (size_claim found (long_of asker.caller.regs)))))) may,
      changes-so Call.SetStt request (sizes found.place.number size) size asker.caller.regs (after_size files found size request.lock)
          (by_same (length found.file.contents == size) refl),
    )
      where
        size : ℕ
        size = long_of asker.caller.regs

        request : Request
        request = request_now asker files found (size_claim found size)

        by_same : (same : Bool) → (length found.file.contents == size) ≡ same
            → TakesEffect (record { call = Call.SetStt; asker = asker; files = files; terms = terms }) found request
            (with_waiting (if same then without_lock files.records found.opened.path.0 else written_by files.records found.opened.path.0 request.lock []) asker.caller.process.0 None)
        by_same true is =
            TakesEffect.frees refl code (eqb-true (length found.file.contents) size is) (freed-settled files.records found.opened.path.0 asker.caller.process.0)
        by_same false is =
            TakesEffect.writes [] (IsSent.by_size refl code (eqb-false (length found.file.contents) size is) refl) refl

    by-lock : Named Call.SetStt → asker.caller.regs.b ≡ SS_LOCK → is_for_update found.opened.desc.mode ≡ true
        → long_of asker.caller.regs ≢ 0 → AsksFor Call.SetStt found (lock_claim found (long_of asker.caller.regs))
    by-lock named code update some = (
      comes (leaves_so locked),
      set-named named
          ∙ ap (sets_status asker files found) code
          ∙ ap (λ (b : Bool). refuses (not b) E_BMODE (locks_bytes asker files found (long_of asker.caller.regs))) update
          ∙ ap (λ (b : Bool). if b then done asker.caller.regs
          (with_records files (without_lock files.records found.opened.path.0)) else reaches found.place.drive
          (locks_range asker files found (request_now asker files found
          (lock_claim found (long_of asker.caller.regs))))) (not-zero (long_of asker.caller.regs) some),
      holds-so Call.SetStt request Bytes [] locked asker.caller.regs refl refl (IsTaken.by_lock refl code refl refl),
    )
      where
        request : Request
        request = request_now asker files found (lock_claim found (long_of asker.caller.regs))

        locked : FileEffect
        locked =
            leaves (answers asker.caller.regs) (with_records files (holding files.records found.opened.path.0 request.lock []))

    -- a call that claims makes its request
    comes-to : (call : PathCall) (claim : Claim) → Named call → Claims call asker files found claim → AsksFor call found claim
    comes-to call claim named (Claims.reads kind is can update more claim_is) =
        subst (AsksFor call found) (sym claim_is)
        (subst (λ (call : PathCall). AsksFor call found (read_claim kind asker found
        (read_start asker files found))) (sym is) (by-read kind (subst Named is named) can update more))
    comes-to call claim named (Claims.writes bytes is can there claim_is) =
        subst (AsksFor call found) (sym claim_is)
        (subst (λ (call : PathCall). AsksFor call found (write_claim found I_WRITE (length bytes))) (sym is)
        (by-write bytes (subst Named is named) can there))
    comes-to call claim named (Claims.writes_line bytes is can there claim_is) =
        subst (AsksFor call found) (sym claim_is)
        (subst (λ (call : PathCall). AsksFor call found (write_claim found I_WRITLN (length bytes))) (sym is)
        (by-line bytes (subst Named is named) can there))
    comes-to call claim named (Claims.tells_error is may claim_is) =
        subst (AsksFor call found) (sym claim_is)
        (subst (λ (call : PathCall). AsksFor call found
        (write_claim found F_PERR (length (error_line asker.caller.regs.b)))) (sym is)
        (by-error (subst Named is named) may))
    comes-to call claim named (Claims.sizes is code may claim_is) =
        subst (AsksFor call found) (sym claim_is) (subst (λ (call : PathCall). AsksFor call found (size_claim found (long_of asker.caller.regs))) (sym is) (by-size (subst Named is named) code may))
    comes-to call claim named (Claims.locks is code update some claim_is) =
        subst (AsksFor call found) (sym claim_is)
        (subst (λ (call : PathCall). AsksFor call found (lock_claim found (long_of asker.caller.regs))) (sym is)
        (by-lock (subst Named is named) code update some))

-- ---- how it ends

-- how an attempt ends whose request is answered so, if it does not go on
abbrev end_by_answer : Request → Grant → IoEnd → Type 0
end_by_answer request Granted end = Unit {0}
end_by_answer request Locked end = end ≡ fails E_LOCK
end_by_answer request Deadlock end = end ≡ fails E_DEADLK
end_by_answer request Wait end = end ≡ keeps (call_of request)

module _ (asker : Asker) (files : Files) (drive : ℕ) (request : Request) (next : FileStep) where
  asked-ends : (grant : Grant) (it : FileEffect) (before after : List TerminalState)
      → DoesDeed (deed_of (asks_by grant files request next) files) asker files it before after
      → end_by_answer request grant it.end
  asked-ends Granted it before after does = tt
  asked-ends Locked it before after (is, same) = ap (λ (it : FileEffect). it.end) is
  asked-ends Deadlock it before after (is, same) = ap (λ (it : FileEffect). it.end) is
  asked-ends Wait it before after (is, same) = ap (λ (it : FileEffect). it.end) is

  well-ends : (grant : Grant) → answer_to asker files request ≡ grant → (step : FileStep) → step ≡ reaches drive
      (asks asker files request next) → (it : FileEffect) (before after : List TerminalState)
      → DoesDeed (deed_of step files) asker files it before after → end_by_answer request grant it.end
  well-ends grant answer step is it before after does =
      asked-ends grant it before after
      (subst (λ (grant : Grant). DoesDeed (deed_of (asks_by grant files request next) files) asker files it before
      after) answer (subst (λ (step : FileStep). DoesDeed (deed_of step files) asker files it before after) is
      does))

module _ (it : Attempt) where
  abbrev asker : Asker
  asker = asker_in it

  abbrev step : FileStep
  step = file_step it.call asker it.files (length it.before)

  -- a drive failed in it
  pub broken-fault : IsBroken step asker it.files it.attempted.effect → ReportsDriveFault it
  broken-fault broken =
      subst (λ (result : CallResult). OneDriveFails (drive_of step) it.files result it.new) (sym it.attempted.result_is)
      (subst (λ (new : Files). OneDriveFails (drive_of step) it.files (result_of it.processes it.process (io_effect it.attempted.effect)) new) (sym it.attempted.state)
      (subst (λ (effect : FileEffect). OneDriveFails (drive_of step) it.files (result_of it.processes it.process (io_effect effect)) (files_after it.process effect)) (sym broken.effect_is) (record {
        drive = broken.drive;
        reaches = broken.reached;
        number = broken.number;
        failed = broken.failed;
        answer = refl;
        old = broken.old;
        was = broken.is;
        left = broken.left;
        is = refl;
      })))

  -- an attempt that makes a request ends as that is answered, or a drive fails in it
  ends-so : (grant : Grant) (so : IsAnsweredSo grant it) → end_by_answer so.request grant it.attempted.effect.end ⊎ ReportsDriveFault it
  ends-so grant so = by_does it.attempted.does
    where
      by_does : FileDoes step asker it.files it.attempted.effect it.before it.after → end_by_answer so.request grant it.attempted.effect.end ⊎ ReportsDriveFault it
      by_does (inl well) =
          let (next, is, goes) = comes-to asker it.files (length it.before) so.requests.found it.call so.requests.claim so.requests.names so.requests.claims in
          inl (subst (end_by_answer so.request grant) (sym (ap (λ (effect : FileEffect). effect.end) well.effect_is))
          (subst (λ (request : Request). end_by_answer request grant well.it.end) (sym so.requests.is)
          (well-ends asker it.files so.requests.found.place.drive (request_now asker it.files so.requests.found
          so.requests.claim) next grant (subst (λ (request : Request). answer_to asker it.files request ≡ grant)
          so.requests.is so.answer) step is well.it it.before it.after well.does)))
      by_does (inr (broken, same)) = inr (broken-fault broken)

  pub result-by : (end : IoEnd) → it.attempted.effect.end ≡ end → it.result ≡ result_by end it.processes it.process (io_effect it.attempted.effect)
  result-by end is = it.attempted.result_is ∙ ap (λ (end : IoEnd). result_by end it.processes it.process (io_effect it.attempted.effect)) is

  -- if its request is granted, it is refused, or the request takes effect
  pub takes-effect : (request : Request) (granted : IsGranted (made_in it) request)
      → ((number : ℕ) × (it.result ≡ CallResult.refused number)) ⊎ TakesEffect (made_in it) granted.requests.found request it.new.records
  takes-effect request granted = by_does it.attempted.does
    where
      found : OpenFile
      found = granted.requests.found

      first : Request
      first = request_now asker it.files found granted.requests.claim

      grant : answer_to asker it.files first ≡ Granted
      grant = subst (λ (request : Request). answer_to asker it.files request ≡ Granted) granted.requests.is granted.answer

      refused-by : (number : ℕ) → it.attempted.effect.end ≡ fails number → (number : ℕ) × (it.result ≡ CallResult.refused number)
      refused-by number is = (number, result-by (fails number) is)

      by_does : FileDoes step asker it.files it.attempted.effect it.before it.after
          → ((number : ℕ) × (it.result ≡ CallResult.refused number)) ⊎ TakesEffect (made_in it) found request it.new.records
      by_does (inr (broken, same)) = inl (refused-by broken.number (ap (λ (it : FileEffect). it.end) broken.effect_is))
      by_does (inl well) =
          let (next, is, goes) = comes-to asker it.files (length it.before) found it.call granted.requests.claim granted.requests.names granted.requests.claims in
          by_end (goes well.it it.before it.after
          (subst (λ (grant : Grant). DoesDeed (deed_of (asks_by grant it.files first next) it.files) asker it.files well.it it.before it.after) grant
          (subst (λ (step : FileStep). DoesDeed (deed_of step it.files) asker it.files well.it it.before it.after) is well.does)))
        where
          ends : it.attempted.effect.end ≡ well.it.end
          ends = ap (λ (effect : FileEffect). effect.end) well.effect_is

          records : (regs : Regs) → well.it.end ≡ answers regs → it.new.records ≡ with_waiting well.it.files.records it.process None
          records regs answered =
              ap (λ (new : Files). new.records) it.attempted.state
              ∙ ap (λ (end : IoEnd). records_after end it.attempted.effect.files.records it.process) (ends ∙ answered)
              ∙ ap (λ (effect : FileEffect). with_waiting effect.files.records it.process None) well.effect_is

          by_end : Ended asker it.files (length it.before) it.call found first well.it
              → ((number : ℕ) × (it.result ≡ CallResult.refused number)) ⊎ TakesEffect (made_in it) found request it.new.records
          by_end (inl (number, fail)) = inl (refused-by number (ends ∙ fail))
          by_end (inr ((regs, answered), takes)) =
              inr (subst (λ (request : Request). TakesEffect (made_in it) found request it.new.records) (sym granted.requests.is)
              (subst (TakesEffect (made_in it) found first) (sym (records regs answered)) takes))

  pub deadlock-refuses : IsAnsweredSo Deadlock it → (it.result ≡ CallResult.refused E_DEADLK) ⊎ ReportsDriveFault it
  deadlock-refuses so = by_end (ends-so Deadlock so)
    where
      by_end : (it.attempted.effect.end ≡ fails E_DEADLK) ⊎ ReportsDriveFault it → (it.result ≡ CallResult.refused E_DEADLK) ⊎ ReportsDriveFault it
      by_end (inl is) = inl (result-by (fails E_DEADLK) is)
      by_end (inr fault) = inr fault

  pub lock-refuses : IsAnsweredSo Locked it → (it.result ≡ CallResult.refused E_LOCK) ⊎ ReportsDriveFault it
  lock-refuses so = by_end (ends-so Locked so)
    where
      by_end : (it.attempted.effect.end ≡ fails E_LOCK) ⊎ ReportsDriveFault it → (it.result ≡ CallResult.refused E_LOCK) ⊎ ReportsDriveFault it
      by_end (inl is) = inl (result-by (fails E_LOCK) is)
      by_end (inr fault) = inr fault

  -- ---- and for no other cause

  -- the number of a drive's fault is of no lock
  pub fault-number : (fault : Option DriveFault) (number : ℕ) → option_map drive_error fault ≡ Some number → is_of_lock number ≡ false
  fault-number None number is = absurd (none-some number is)
  fault-number (Some fault) number is = subst (λ (n : ℕ). is_of_lock n ≡ false) (same_Some (drive_error fault) number is) (by_fault fault)
    where
      by_fault : (fault : DriveFault) → is_of_lock (drive_error fault) ≡ false
      by_fault WriteProtect = refl
      by_fault ReadFault = refl
      by_fault WriteFault = refl
      by_fault NotReady = refl
      by_fault SeekFault = refl

  -- how a lock refuses it
  abbrev Opposed : ℕ → Type 0
  Opposed number =
      (number ≡ E_LOCK) × IsAnsweredSo Locked it ⊎ (number ≡ E_DEADLK) × IsAnsweredSo Deadlock it

  same-number : (one other : ℕ) → fails one ≡ fails other → other ≡ one
  same-number one other is = cc

  not-kept : (request : Request) (number : ℕ) → keeps (call_of request) ≡ fails number → ⊥
  not-kept request number is = cc

  left-opposed : (effect : FileEffect) → LeftSo it.call asker it.files (length it.before) effect → (number : ℕ) → is_of_lock number ≡ true → effect.end ≡ fails number → Opposed number
  left-opposed effect (LeftSo.still so) number of_lock is = absurd (false≢true (sym (so.number number is) ∙ of_lock))
  left-opposed effect (LeftSo.held request kind bytes granted taken done recorded) number of_lock is =
      absurd (not-refused done.regs number (sym done.end ∙ is))
  left-opposed effect (LeftSo.ended found names ends done recorded) number of_lock is =
      absurd (not-refused done.regs number (sym done.end ∙ is))
  left-opposed effect (LeftSo.waited request requests answer left) number of_lock is =
      absurd (not-kept request number (sym (ap (λ (it : FileEffect). it.end) left) ∙ is))
  left-opposed effect (LeftSo.opposed request requests (inl (answer, left))) number of_lock is =
      inl (same-number E_LOCK number (sym (ap (λ (it : FileEffect). it.end) left) ∙ is), record { request = request; requests = requests; answer = answer })
  left-opposed effect (LeftSo.opposed request requests (inr (answer, left))) number of_lock is =
      inr (same-number E_DEADLK number (sym (ap (λ (it : FileEffect). it.end) left) ∙ is), record { request = request; requests = requests; answer = answer })

  deed-opposed : (reached : Option ℕ) (deed : Deed) → deed_of step it.files ≡ deed → Claimed it.call asker it.files
      (length it.before) reached deed → (effect : FileEffect) → DoesDeed deed asker it.files effect it.before it.after
      → (number : ℕ) → is_of_lock number ≡ true → effect.end ≡ fails number → DoesAsDevice it ⊎ Opposed number
  deed-opposed reached (leaves_so left) deed_is claimed effect (is, same) number of_lock ends =
      inr (left-opposed left claimed number of_lock (sym (ap (λ (it : FileEffect). it.end) is) ∙ ends))
  deed-opposed reached (as_io io) deed_is claimed effect does number of_lock ends = inl (io, deed_is)
  deed-opposed reached (changes change) deed_is claimed effect (inl changed, same) number of_lock ends =
      let done = claimed.answered changed.number in
      absurd (not-refused done.regs number (sym done.end ∙ sym (ap (λ (it : FileEffect). it.end) changed.effect_is) ∙ ends))
  deed-opposed reached (changes change) deed_is claimed effect (inr long, same) number of_lock ends =
      let same_is : number ≡ E_SLF = same-number E_SLF number (sym (ap (λ (it : FileEffect). it.end) long.effect_is) ∙ ends) in
      absurd (false≢true (sym (ap is_of_lock same_is) ∙ of_lock))

  opposed : (number : ℕ) → is_of_lock number ≡ true → it.result ≡ CallResult.refused number → DoesAsDevice it ⊎ Opposed number
  opposed number of_lock is =
      by_does it.attempted.does (ends-refused it.attempted.effect.end it.processes it.process (io_effect it.attempted.effect) number (sym it.attempted.result_is ∙ is))
    where
      by_does : FileDoes step asker it.files it.attempted.effect it.before it.after → it.attempted.effect.end ≡ fails number → DoesAsDevice it ⊎ Opposed number
      by_does (inl well) ends =
          deed-opposed (drive_of step) (deed_of step it.files) refl (claimed it.call asker it.files
          (length it.before)) well.it well.does number of_lock
          (sym (ap (λ (it : FileEffect). it.end) well.effect_is) ∙ ends)
      by_does (inr (broken, same)) ends =
          let same_is : number ≡ broken.number = same-number broken.number number (sym (ap (λ (it : FileEffect). it.end) broken.effect_is) ∙ ends) in
          absurd (false≢true (sym (fault-number _ broken.number broken.failed.last) ∙ ap is_of_lock (sym same_is) ∙ of_lock))

  pub deadlock-only : it.result ≡ CallResult.refused E_DEADLK → DoesAsDevice it ⊎ IsAnsweredSo Deadlock it
  deadlock-only is = by_cause (opposed E_DEADLK refl is)
    where
      by_cause : DoesAsDevice it ⊎ Opposed E_DEADLK → DoesAsDevice it ⊎ IsAnsweredSo Deadlock it
      by_cause (inl device) = inl device
      by_cause (inr (inl (same, so))) = absurd (differ same)
        where
          differ : E_DEADLK ≡ E_LOCK → ⊥
          differ is = omega (arith, is)
      by_cause (inr (inr (same, so))) = inr so

  pub lock-only : it.result ≡ CallResult.refused E_LOCK → DoesAsDevice it ⊎ IsAnsweredSo Locked it
  lock-only is = by_cause (opposed E_LOCK refl is)
    where
      by_cause : DoesAsDevice it ⊎ Opposed E_LOCK → DoesAsDevice it ⊎ IsAnsweredSo Locked it
      by_cause (inl device) = inl device
      by_cause (inr (inl (same, so))) = inr so
      by_cause (inr (inr (same, so))) = absurd (differ same)
        where
          differ : E_LOCK ≡ E_DEADLK → ⊥
          differ is = omega (arith, is)
