-- Why calls on the number of a path are refused on a file or a directory.
use Rattle.std.proofs.Common.{◌≡◌, ℕ, ◌==◌, ◌%◌, ◌<◌, ◌≤◌, not, Bool, true, false, Option, Some, None, List, length, refl, sym, ap, ◌∙◌, subst, inl, inr}
use Rattle.std.specs.Prelude.{is_none, nat_le, nat_lt, take, unwrap_or, if◌then◌else◌}
use Rattle.std.specs.Option.{option_map_or}
use Rattle.std.proofs.lemmas.Bool.{eqb-false, eqb-true, leb-false, leb-true, ltb-true}
use Rattle.os9_base.specs.declared.calls.TheConstants.{F_PERR, I_WRITE, I_WRITLN}
use Rattle.os9_base.specs.declared.errors.TheConstants.{E_BPADDR, E_BPNUM, E_BMODE, E_DEADLK, E_EOF, E_FNA, E_FULL, E_LOCK, E_UNKSVC}
use Rattle.os9_base.specs.declared.registers.Regs.{Regs}
use Rattle.os9_outer.specs.TerminalState.{TerminalState}
use Rattle.proc_model.specs.UserBytes.{user_bytes}
use Rattle.io_model.specs.declared.terminal.ReadKind.{ReadKind}
use Rattle.io_model.specs.declared.terminal.ReadKind.TheVariants.{Bytes, WholeLine}
use Rattle.lock_model.specs.Records.{without_lock}
use Rattle.lock_model.specs.declared.lock.Request.{Request}
use Rattle.lock_model.specs.declared.lock.Grant.{Grant}
use Rattle.lock_model.specs.declared.lock.Grant.TheVariants.{Granted, Locked, Deadlock, Wait}
use Rattle.rbf_change.specs.Calls.{cluster_size, free_total}
use Rattle.rbf_change.specs.Contents.{written}
use Rattle.rbf_change.specs.Growth.{clusters_needed}
use Rattle.rbf_change.specs.NewFiles.{owns_file}
use Rattle.io_model.specs.declared.pending.PendingCall.{PendingCall}
use Rattle.io_model.specs.Attempts.{HasIoEffect, io_step}
use Rattle.io_model.specs.Close.{i_close as closes_device}
use Rattle.io_model.specs.Io.{OpenPath, open_path}
use Rattle.io_model.specs.Modes.{can_read, can_write}
use Rattle.io_model.specs.Pipes.{count_regs}
use Rattle.io_model.specs.Read.{i_read as reads_device, i_readln as reads_device_line}
use Rattle.io_model.specs.Status.{i_getstt as gets_of_device, i_setstt as sets_of_device, options}
use Rattle.io_model.specs.Step.{IoEffect, IoStep, answers, fails, keeps, needs as io_needs, done as io_done}
use Rattle.io_model.specs.Write.{i_write as writes_device, i_writln as writes_device_line, f_perr as tells_device, error_line}
use Rattle.io_model.specs.declared.modes.TheConstants.{STANDARD_ERROR}
use Rattle.io_model.specs.declared.status.TheConstants.{SS_OPT, SS_READY, SS_EOF, OPTION_BYTES}
use Rattle.io_model.specs.declared.io_call.IoCall.{IoCall}
use Rattle.io_model.specs.declared.io_call.IoCall.TheVariants as Device
use Rattle.file_rules.specs.Change.{Change, writes, sizes, sets_attributes}
use Rattle.file_rules.specs.Files.{Files, Asker, OpenFile, open_file, with_position, with_records, with_ticks}
use Rattle.file_rules.specs.Close.{files_after_close, i_close}
use Rattle.file_rules.specs.Locking.{answer_to, asks_by, first_request, is_for_update, pending_request, request_now}
use Rattle.file_rules.specs.declared.claim.Claim.{Claim}
use Rattle.file_rules.specs.OnFile.{by_kind, moves_bytes, on_file}
use Rattle.file_rules.specs.Read.{bytes_at, i_read, i_readln, read_claim, read_start, reads_file, reads_freely, reads_locked}
use Rattle.file_rules.specs.Seek.{i_seek, long_of, seeks_nothing}
use Rattle.file_rules.specs.Status.{asked_bytes, descriptor_front, gets_bytes, gets_descriptor, gets_end, gets_size, i_getstt, i_setstt, lock_claim, locks_bytes, locks_range, long_regs, after_size, sets_attributes_of, sets_lock, sets_size, sets_ticks, size_claim}
use Rattle.file_rules.specs.Step.{FileStep, refused, comes, reaches, as_io, changes, leaves_so, done, leaves, refuses, stores}
use Rattle.file_rules.specs.Write.{changes_file, f_perr, i_write, i_writln, line_moved, sends_bytes, write_claim, writes_bytes}
use Rattle.file_rules.specs.declared.path_call.PathCall.{PathCall}
use Rattle.file_rules.specs.declared.path_call.PathCall.TheVariants as Call
use Rattle.file_rules.specs.declared.status.TheConstants.{SS_SIZE, SS_POS, SS_FD, SS_TICKS, SS_LOCK, SS_ATTR}
use Rattle.file_laws.specs.Causes.{FileCause, FileCallLacksMode, NeedsByte, Sizes, bad_address, bad_number, cannot_grow, deadlock, end_of_file, first_byte, locked, no_status, not_owned, path_mode, size_written}
use Rattle.file_laws.specs.Claims.{CanRead, CanWrite, Claims, MadePathCall, NamesOpenFile, read_call}
use Rattle.file_laws.specs.Devices.{IsOnNoFile, device_call}
use Rattle.file_laws.proofs.Caused.{StepCaused, caused-done, caused-needs, caused-refused, caused-refuses, caused-tests, is_nothing, not-is}
use Rattle.file_laws.proofs.LockCauses.{closes-cycle, locked-out}
use Rattle.file_laws.proofs.OnNumbers.{above-none, is-so, there-is}
use Rattle.file_laws.proofs.Splits.{not-refused}

-- a call, as it is made
abbrev pub made : PathCall → Asker → Files → ℕ → MadePathCall
made call asker files terms = record { call = call; asker = asker; files = files; terms = terms }

not-kept : (pending : PendingCall) (number : ℕ) → keeps pending ≡ fails number → ⊥
not-kept pending number is = cc

module _ (m : MadePathCall) where
  abbrev C : FileStep → Type 0
  C step = StepCaused m step

  -- a call on a number: on a file, or the other call
  on-number : (number : ℕ) (otherwise : IoStep) (next : OpenFile → FileStep)
      → (open_file m.files m.asker.caller.process.0 number ≡ None → C (comes (as_io otherwise)))
      → ((found : OpenFile) → open_file m.files m.asker.caller.process.0 number ≡ Some found → C (next found))
      → C (on_file m.asker m.files number otherwise next)
  on-number number otherwise next other holds =
      by_file (open_file m.files m.asker.caller.process.0 number) other holds
    where
      by_file : (o : Option OpenFile) → (o ≡ None → C (comes (as_io otherwise))) → ((found : OpenFile) → o ≡ Some found → C (next found)) → C (by_kind o otherwise next)
      by_file None other holds = other refl
      by_file (Some found) other holds = holds found refl

  module _ (found : OpenFile) (names : NamesOpenFile m found) where
    -- a request: the call goes on, is refused or waits
    asks-caused : (claim : Claim) → Claims m.call m.asker m.files found claim → (next : FileStep) → C next
        → (grant : Grant) → answer_to m.asker m.files (request_now m.asker m.files found claim) ≡ grant
        → C (asks_by grant m.files (request_now m.asker m.files found claim) next)
    asks-caused claim claims next holds Granted is = holds
    asks-caused claim claims next holds Locked is =
        caused-refused m E_LOCK (locked refl (locked-out m (request_now m.asker m.files found claim) (record { found = found; names = names; claim = claim; claims = claims; is = refl }) is))
    asks-caused claim claims next holds Deadlock is =
        caused-refused m E_DEADLK (deadlock refl (closes-cycle m (request_now m.asker m.files found claim) (record { found = found; names = names; claim = claim; claims = claims; is = refl }) is))
    asks-caused claim claims next holds Wait is = λ number ended. absurd (not-kept _ number ended)

    -- the mode is tested, and then bytes are moved
    moves : (is_allowed : ℕ → Bool) (next : FileStep) → (is_allowed found.opened.desc.mode ≡ false
        → FileCallLacksMode m.call m.asker found) → (is_allowed found.opened.desc.mode ≡ true → 0 < m.asker.caller.regs.y
        → C next) → C (moves_bytes m.asker m.files found is_allowed next)
    moves is_allowed next lacks holds =
        caused-tests m (not (is_allowed found.opened.desc.mode)) E_BMODE (if m.asker.caller.regs.y == 0 then done m.asker.caller.regs m.files else next)
        (λ test. path_mode found refl names (lacks (not-is (is_allowed found.opened.desc.mode) test)))
        (λ allowed. by_count (is-so (is_allowed found.opened.desc.mode) allowed) (m.asker.caller.regs.y == 0) refl)
      where
        by_count : is_allowed found.opened.desc.mode ≡ true → (nothing : Bool) → (m.asker.caller.regs.y == 0) ≡ nothing → C (if nothing then done m.asker.caller.regs m.files else next)
        by_count may true is = caused-done m m.asker.caller.regs m.files
        by_count may false is = holds may (above-none m.asker.caller.regs.y is)

    ends : NeedsByte m.call m.asker.caller.regs → (at : ℕ) → at ≡ first_byte m.call m.asker m.files found → (next : FileStep) → C next → C (refuses (nat_le (length found.file.contents) at) E_EOF next)
    ends asks at first next holds =
        caused-refuses m (nat_le (length found.file.contents) at) E_EOF next
        (λ test. end_of_file found refl asks names (subst (λ (at : ℕ). length found.file.contents ≤ at) first (leb-true (length found.file.contents) at test))) holds

    read : NeedsByte m.call m.asker.caller.regs → read_start m.asker m.files found ≡ first_byte m.call m.asker m.files
        found → (kind : ReadKind) → m.call ≡ read_call kind → CanRead m.asker found
        → C (reads_file kind m.asker m.files found)
    read asks first kind call_is can =
        caused-tests m (nat_le (length found.file.contents) at) E_EOF (if is_for_update found.opened.desc.mode then
        reads_locked kind m.asker m.files found (request_now m.asker m.files found (read_claim kind m.asker found
        at)) (bytes_at kind m.asker found at) else reads_freely kind m.asker m.files found)
        (λ test. end_of_file found refl asks names (subst (λ (at : ℕ). length found.file.contents ≤ at) first (leb-true (length found.file.contents) at test)))
        (λ more. by_mode (is_for_update found.opened.desc.mode) refl more)
      where
        at : ℕ
        at = read_start m.asker m.files found

        by_mode : (update : Bool) → is_for_update found.opened.desc.mode ≡ update
            → nat_le (length found.file.contents) at ≡ false → C (if update then reads_locked kind m.asker m.files
            found (request_now m.asker m.files found (read_claim kind m.asker found at)) (bytes_at kind m.asker found
            at) else reads_freely kind m.asker m.files found)
        by_mode true update more =
            asks-caused (read_claim kind m.asker found at) (Claims.reads kind call_is can update
            (leb-false (length found.file.contents) at more) refl) _
            (λ number is. absurd (not-refused _ number is))
            (answer_to m.asker m.files (request_now m.asker m.files found (read_claim kind m.asker found at))) refl
        by_mode false update more = λ number is. absurd (not-refused _ number is)

    grows : (change : Change) (size : ℕ) → Sizes m.call m.asker m.files found size → (regs : Regs) (after : Files) → C (changes_file found change size regs after)
    grows change size asks regs after =
        caused-refuses m (nat_lt (free_total found.volume) (clusters_needed (cluster_size found.volume)
        found.file.segments size)) E_FULL
        (comes (changes (record {
          drive = found.place.drive;
          change = change;
          effect = λ n. leaves (answers regs)
              after;
        })))
        (λ test. cannot_grow refl (record {
          found = found;
          names = names;
          size = size;
          asks = asks;
          full = ltb-true
              (free_total found.volume) (clusters_needed (cluster_size found.volume) found.file.segments size) test;
        }))
        (λ n. (regs, refl))

    -- a request begins at the position of the call
    start-by : (kept : Option Request) (first : Request) → first.lock.range.start ≡ found.opened.desc.at
        → (unwrap_or kept first).lock.range.start ≡ option_map_or (λ (request : Request). request.lock.range.start)
        kept found.opened.desc.at
    start-by None first is = is
    start-by (Some request) first is = refl

    write : (code : ℕ) (bytes : List ℕ) → Claims m.call m.asker m.files found (write_claim found code (length bytes))
        → ((size : ℕ) → size ≡ size_written m.asker m.files found bytes → Sizes m.call m.asker m.files found size)
        → (regs : Regs) → C (writes_bytes m.asker m.files found code bytes regs)
    write code bytes claims asks regs =
        asks-caused claim claims _
        (grows (writes found.place.number at bytes) (length (written found.file.contents at bytes))
        (asks (length (written found.file.contents at bytes))
        (ap (λ (at : ℕ). length (written found.file.contents at bytes)) (start-by (pending_request m.asker m.files)
        (first_request m.asker found claim) refl)))
        regs _)
        (answer_to m.asker m.files (request_now m.asker m.files found claim)) refl
      where
        claim : Claim
        claim = write_claim found code (length bytes)

        at : ℕ
        at = (request_now m.asker m.files found claim).lock.range.start

    send : (code : ℕ) (bytes : List ℕ) → (CanWrite m.asker found → Claims m.call m.asker m.files found
        (write_claim found code (length bytes))) → (0 < m.asker.caller.regs.y → (size : ℕ) → size ≡ size_written
        m.asker m.files found bytes → Sizes m.call m.asker m.files found size)
        → (can_write found.opened.desc.mode ≡ false → FileCallLacksMode m.call m.asker found)
        → C (sends_bytes m.asker m.files found code bytes)
    send code bytes claims asks lacks =
        moves can_write (writes_bytes m.asker m.files found code bytes (count_regs m.asker.caller (length bytes)))
        lacks (λ may some. write code bytes (claims (may, some)) (asks some)
        (count_regs m.asker.caller (length bytes)))

-- ---- I$Read, I$ReadLn, I$Write, I$WritLn and F$PErr

module _ (asker : Asker) (files : Files) (terms : ℕ) where
  theirs : (call : PathCall) (device : IoCall) → device_call call ≡ Some device → IsOnNoFile call asker files terms
      → StepCaused (made call asker files terms)
      (comes (as_io (io_step device asker.caller files.io (length files.drives) terms)))
  theirs call device is none = inl (record { device = device; device_is = is; is = refl }, none)

  pub read-caused : StepCaused (made Call.Read asker files terms) (i_read asker files)
  read-caused =
      on-number (made Call.Read asker files terms) asker.caller.regs.a (reads_device asker.caller files.io) _ (theirs Call.Read Device.Read refl) (λ found names.
      caused-tests (made Call.Read asker files terms) (is_none (user_bytes asker.caller.cells asker.caller.regs.x asker.caller.regs.y)) E_BPADDR _
      (λ test. bad_address refl (is_nothing (user_bytes asker.caller.cells asker.caller.regs.x asker.caller.regs.y) test))
      (λ fits. moves (made Call.Read asker files terms) found names can_read (reads_file Bytes asker files found) (λ lacks. lacks)
      (λ may some. read (made Call.Read asker files terms) found names some refl Bytes refl (there-is (user_bytes asker.caller.cells asker.caller.regs.x asker.caller.regs.y) fits, may, some))))

  pub readln-caused : StepCaused (made Call.ReadLn asker files terms) (i_readln asker files)
  readln-caused =
      on-number (made Call.ReadLn asker files terms) asker.caller.regs.a (reads_device_line asker.caller files.io) _ (theirs Call.ReadLn Device.ReadLn refl) (λ found names.
      caused-tests (made Call.ReadLn asker files terms) (is_none (user_bytes asker.caller.cells asker.caller.regs.x asker.caller.regs.y)) E_BPADDR _
      (λ test. bad_address refl (is_nothing (user_bytes asker.caller.cells asker.caller.regs.x asker.caller.regs.y) test))
      (λ fits. moves (made Call.ReadLn asker files terms) found names can_read (reads_file WholeLine asker files found) (λ lacks. lacks)
      (λ may some. read (made Call.ReadLn asker files terms) found names some refl WholeLine refl (there-is (user_bytes asker.caller.cells asker.caller.regs.x asker.caller.regs.y) fits, may, some))))

  pub write-caused : StepCaused (made Call.Write asker files terms) (i_write asker files)
  write-caused =
      on-number (made Call.Write asker files terms) asker.caller.regs.a (writes_device asker.caller files.io) _ (theirs Call.Write Device.Write refl) (λ found names.
      caused-needs (made Call.Write asker files terms) (user_bytes asker.caller.cells asker.caller.regs.x asker.caller.regs.y) E_BPADDR (sends_bytes asker files found I_WRITE)
      (λ none. bad_address refl none)
      (λ bytes is. send (made Call.Write asker files terms) found names I_WRITE bytes (λ can. Claims.writes bytes refl can is refl) (λ some size size_is. (bytes, is, some, size_is)) (λ lacks. lacks)))

  pub writln-caused : StepCaused (made Call.WritLn asker files terms) (i_writln asker files)
  writln-caused =
      on-number (made Call.WritLn asker files terms) asker.caller.regs.a (writes_device_line asker.caller files.io) _ (theirs Call.WritLn Device.WritLn refl) (λ found names.
      caused-needs (made Call.WritLn asker files terms) (line_moved asker (pending_request asker files)) E_BPADDR (sends_bytes asker files found I_WRITLN)
      (λ none. bad_address refl none)
      (λ bytes is. send (made Call.WritLn asker files terms) found names I_WRITLN bytes
      (λ can. Claims.writes_line bytes refl can is refl) (λ some size size_is. (bytes, is, some, size_is))
      (λ lacks. lacks)))

  pub perr-caused : StepCaused (made Call.PErr asker files terms) (f_perr asker files)
  perr-caused =
      on-number (made Call.PErr asker files terms) STANDARD_ERROR (tells_device asker.caller files.io) _ (theirs Call.PErr Device.PErr refl) (λ found names.
      caused-tests (made Call.PErr asker files terms) (not (can_write found.opened.desc.mode)) E_BMODE (writes_bytes asker files found F_PERR (error_line asker.caller.regs.b) asker.caller.regs)
      (λ test. path_mode found refl names (not-is (can_write found.opened.desc.mode) test))
      (λ allowed. write (made Call.PErr asker files terms) found names F_PERR (error_line asker.caller.regs.b)
      (Claims.tells_error refl (is-so (can_write found.opened.desc.mode) allowed) refl) (λ size size_is. size_is)
      asker.caller.regs))

  -- ---- I$Seek

  no-path : (opened : Option OpenPath) → open_path files.io asker.caller.process.0 asker.caller.regs.a ≡ opened
      → (it : IoEffect) (old new : List TerminalState) (number : ℕ)
      → HasIoEffect (io_needs opened E_BPNUM (λ opened. io_done asker.caller.regs files.io)) asker.caller files.io it old new
      → it.end ≡ fails number → FileCause (made Call.Seek asker files terms) number
  no-path None none it old new number (is, same) ended =
      bad_number (sym (same-number E_BPNUM number (sym (ap (λ (it : IoEffect). it.end) is) ∙ ended))) refl none
    where
      same-number : (n m : ℕ) → fails n ≡ fails m → n ≡ m
      same-number n m is = cc
  no-path (Some opened) some it old new number (is, same) ended =
      absurd (not-refused asker.caller.regs number (sym (ap (λ (it : IoEffect). it.end) is) ∙ ended))

  pub seek-caused : StepCaused (made Call.Seek asker files terms) (i_seek asker files)
  seek-caused =
      on-number (made Call.Seek asker files terms) asker.caller.regs.a (seeks_nothing asker.caller files.io) _
      (λ none. inr (no-path (open_path files.io asker.caller.process.0 asker.caller.regs.a) refl))
      (λ found names. caused-done (made Call.Seek asker files terms) asker.caller.regs (with_position files found.opened (long_of asker.caller.regs)))

  -- ---- I$GetStt

  module _ (found : OpenFile) (names : NamesOpenFile (made Call.GetStt asker files terms) found) where
    abbrev G : FileStep → Type 0
    G step = StepCaused (made Call.GetStt asker files terms) step

    stored_so : (bytes : List ℕ) → G (comes (leaves_so (stores asker.caller.regs.x bytes asker.caller.regs files)))
    stored_so bytes = λ number is. absurd (not-refused asker.caller.regs number is)

    same : (regs : Regs) → G (done regs files)
    same regs = caused-done (made Call.GetStt asker files terms) regs files

    status : (opt ready size pos end fd : Bool) → (asker.caller.regs.b == SS_OPT) ≡ opt
        → (asker.caller.regs.b == SS_READY) ≡ ready → (asker.caller.regs.b == SS_SIZE) ≡ size
        → (asker.caller.regs.b == SS_POS) ≡ pos → (asker.caller.regs.b == SS_EOF) ≡ end
        → (asker.caller.regs.b == SS_FD) ≡ fd → G (if opt then gets_bytes asker files OPTION_BYTES (λ step. step)
        (options found.opened.desc.target) else (if ready then done (record asker.caller.regs { b = 0 }) files else
        (if size then gets_size asker files found else
        (if pos then done (long_regs asker.caller.regs found.opened.desc.at) files else (if end then gets_end asker
        files found else (if fd then gets_descriptor asker files found else refused E_UNKSVC))))))
    status true ready size pos end fd a b c d e f =
        caused-refuses (made Call.GetStt asker files terms)
        (is_none (user_bytes asker.caller.cells asker.caller.regs.x OPTION_BYTES)) E_BPADDR
        (comes (leaves_so (stores asker.caller.regs.x (options found.opened.desc.target) asker.caller.regs
        files)))
        (λ test. bad_address refl (inl (eqb-true asker.caller.regs.b SS_OPT a, is_nothing (user_bytes asker.caller.cells asker.caller.regs.x OPTION_BYTES) test)))
        (stored_so (options found.opened.desc.target))
    status false true size pos end fd a b c d e f = same (record asker.caller.regs { b = 0 })
    status false false true pos end fd a b c d e f = same (long_regs asker.caller.regs (length found.file.contents))
    status false false false true end fd a b c d e f = same (long_regs asker.caller.regs found.opened.desc.at)
    status false false false false true fd a b c d e f =
        ends (made Call.GetStt asker files terms) found names (eqb-true asker.caller.regs.b SS_EOF e)
        found.opened.desc.at refl (done (record asker.caller.regs { b = 0 }) files)
        (same (record asker.caller.regs { b = 0 }))
    status false false false false false true a b c d e f =
        caused-refuses (made Call.GetStt asker files terms)
        (is_none (user_bytes asker.caller.cells asker.caller.regs.x (asked_bytes asker))) E_BPADDR
        (reaches found.place.drive
        (comes (leaves_so (stores asker.caller.regs.x (take (asked_bytes asker) (descriptor_front found.file))
        asker.caller.regs files))))
        (λ test. bad_address refl (inr (eqb-true asker.caller.regs.b SS_FD f, is_nothing (user_bytes asker.caller.cells asker.caller.regs.x (asked_bytes asker)) test)))
        (stored_so (take (asked_bytes asker) (descriptor_front found.file)))
    status false false false false false false a b c d e f =
        caused-refused (made Call.GetStt asker files terms) E_UNKSVC
        (no_status found refl names (
          eqb-false asker.caller.regs.b SS_OPT a,
          eqb-false asker.caller.regs.b SS_READY b,
          eqb-false asker.caller.regs.b SS_SIZE c,
          eqb-false asker.caller.regs.b SS_POS d,
          eqb-false
              asker.caller.regs.b SS_EOF e,
          eqb-false asker.caller.regs.b SS_FD f,
        ))

  pub getstt-caused : StepCaused (made Call.GetStt asker files terms) (i_getstt asker files)
  getstt-caused =
      on-number (made Call.GetStt asker files terms) asker.caller.regs.a (gets_of_device asker.caller files.io) _ (theirs Call.GetStt Device.GetStt refl)
      (λ found names. status found names (asker.caller.regs.b == SS_OPT) (asker.caller.regs.b == SS_READY)
      (asker.caller.regs.b == SS_SIZE) (asker.caller.regs.b == SS_POS) (asker.caller.regs.b == SS_EOF)
      (asker.caller.regs.b == SS_FD) refl refl refl refl refl refl)

  -- ---- I$SetStt

  module _ (found : OpenFile) (names : NamesOpenFile (made Call.SetStt asker files terms) found) where
    size : (asker.caller.regs.b == SS_SIZE) ≡ true → StepCaused (made Call.SetStt asker files terms) (sets_size asker files found)
    size is =
        caused-tests (made Call.SetStt asker files terms) (not (can_write found.opened.desc.mode)) E_BMODE _
        (λ test. path_mode found refl names (inl (eqb-true asker.caller.regs.b SS_SIZE is, not-is (can_write found.opened.desc.mode) test)))
        (λ allowed. asks-caused (made Call.SetStt asker files terms) found names (size_claim found bytes)
        (Claims.sizes refl (eqb-true asker.caller.regs.b SS_SIZE is) (is-so (can_write found.opened.desc.mode)
        allowed) refl) _
        (grows (made Call.SetStt asker files terms) found names (sizes found.place.number bytes) bytes
        (eqb-true asker.caller.regs.b SS_SIZE is, refl) asker.caller.regs (after_size files found bytes
        request.lock))
        (answer_to asker files request) refl)
      where
        bytes : ℕ
        bytes = long_of asker.caller.regs

        request : Request
        request = request_now asker files found (size_claim found bytes)

    lock : (asker.caller.regs.b == SS_LOCK) ≡ true → StepCaused (made Call.SetStt asker files terms) (sets_lock asker files found)
    lock is =
        caused-tests (made Call.SetStt asker files terms) (not (is_for_update found.opened.desc.mode)) E_BMODE (locks_bytes asker files found count)
        (λ test. path_mode found refl names (inr (eqb-true asker.caller.regs.b SS_LOCK is, not-is (is_for_update found.opened.desc.mode) test)))
        (λ allowed. by_count (is-so (is_for_update found.opened.desc.mode) allowed) (count == 0) refl)
      where
        count : ℕ
        count = long_of asker.caller.regs

        request : Request
        request = request_now asker files found (lock_claim found count)

        by_count : is_for_update found.opened.desc.mode ≡ true → (nothing : Bool) → (count == 0) ≡ nothing
            → StepCaused (made Call.SetStt asker files terms) (if nothing then done asker.caller.regs
            (with_records files (without_lock files.records found.opened.path.0)) else reaches found.place.drive
            (locks_range asker files found request))
        by_count update true none =
            caused-done (made Call.SetStt asker files terms) asker.caller.regs (with_records files (without_lock files.records found.opened.path.0))
        by_count update false some =
            asks-caused (made Call.SetStt asker files terms) found names (lock_claim found count)
            (Claims.locks refl (eqb-true asker.caller.regs.b SS_LOCK is) update (eqb-false count 0 some) refl) _
            (λ number is. absurd (not-refused _ number is))
            (answer_to asker files request) refl

    sets : (size_code ticks lock_code attributes : Bool) → (asker.caller.regs.b == SS_SIZE) ≡ size_code
        → (asker.caller.regs.b == SS_TICKS) ≡ ticks → (asker.caller.regs.b == SS_LOCK) ≡ lock_code
        → (asker.caller.regs.b == SS_ATTR) ≡ attributes → StepCaused (made Call.SetStt asker files terms)
        (if size_code then sets_size asker files found else (if ticks then sets_ticks asker files found else
        (if lock_code then sets_lock asker files found else (if attributes then sets_attributes_of asker files found
        else refused E_UNKSVC))))
    sets true ticks lock_code attributes a t l b = size a
    sets false true lock_code attributes a t l b =
        caused-done (made Call.SetStt asker files terms) asker.caller.regs (with_ticks files found.opened asker.caller.regs.x)
    sets false false true attributes a t l b = lock l
    sets false false false true a t l b =
        caused-refuses (made Call.SetStt asker files terms) (not (owns_file found.file asker.user)) E_FNA
        (comes (changes (record {
          drive = found.place.drive;
          change = sets_attributes found.place.number
              (asker.caller.regs.x % 256);
          effect = λ n. leaves (answers asker.caller.regs) files;
        })))
        (λ test. not_owned found refl refl (eqb-true asker.caller.regs.b SS_ATTR b) names (not-is (owns_file found.file asker.user) test))
        (λ n. (asker.caller.regs, refl))
    sets false false false false a t l b =
        caused-refused (made Call.SetStt asker files terms) E_UNKSVC
        (no_status found refl names (
          eqb-false asker.caller.regs.b SS_SIZE a,
          eqb-false asker.caller.regs.b SS_TICKS
              t,
          eqb-false asker.caller.regs.b SS_LOCK l,
          eqb-false asker.caller.regs.b SS_ATTR b,
        ))

  pub setstt-caused : StepCaused (made Call.SetStt asker files terms) (i_setstt asker files)
  setstt-caused =
      on-number (made Call.SetStt asker files terms) asker.caller.regs.a (sets_of_device asker.caller files.io) _ (theirs Call.SetStt Device.SetStt refl)
      (λ found names. sets found names (asker.caller.regs.b == SS_SIZE) (asker.caller.regs.b == SS_TICKS) (asker.caller.regs.b == SS_LOCK) (asker.caller.regs.b == SS_ATTR) refl refl refl refl)

  -- ---- I$Close

  pub close-caused : StepCaused (made Call.Close asker files terms) (i_close asker files)
  close-caused =
      on-number (made Call.Close asker files terms) asker.caller.regs.a (closes_device asker.caller files.io) _
      (λ none. theirs Call.Close Device.Close refl tt)
      (λ found names. caused-done (made Call.Close asker files terms) asker.caller.regs (files_after_close files asker.caller.process.0 asker.caller.regs.a found.opened.path.0))
