-- Calls on a number of a path: on a terminal or a pipe they are those of terminals and pipes, and on a file they move its
-- position at most.
use Rattle.std.proofs.Common.{◌≡◌, ℕ, ◌+◌, ◌<◌, ◌==◌, ◌⊎◌, ◌%◌, not, Bool, true, false, Option, Some, None, IsSome, List, [], length, refl, sym, ap, ◌∙◌, inl, inr, arith}
use Rattle.std.specs.Prelude.{is_none, nat_le, nat_lt, take, if◌then◌else◌}
use Rattle.std.specs.Option.{option_map_or}
use Rattle.std.proofs.lemmas.Bool.{eqb-false, eqb-true, false≢true, leb-false}
use Rattle.os9_base.specs.declared.calls.TheConstants.{F_PERR, I_WRITE, I_WRITLN}
use Rattle.os9_base.specs.declared.errors.TheConstants.{E_BPADDR, E_BPNUM, E_BMODE, E_EOF, E_FNA, E_FULL, E_UNKSVC}
use Rattle.os9_base.specs.declared.registers.Regs.{Regs}
use Rattle.os9_outer.specs.TerminalState.{TerminalState}
use Rattle.proc_model.specs.UserBytes.{user_bytes}
use Rattle.io_model.specs.declared.terminal.ReadKind.{ReadKind}
use Rattle.io_model.specs.declared.terminal.ReadKind.TheVariants.{Bytes, WholeLine}
use Rattle.lock_model.specs.Locks.{lock_of}
use Rattle.lock_model.specs.Records.{Records, holding, without_lock, written_by}
use Rattle.lock_model.specs.declared.lock.Request.{Request}
use Rattle.rbf_change.specs.Calls.{cluster_size, free_total}
use Rattle.rbf_change.specs.Contents.{written}
use Rattle.rbf_change.specs.Growth.{clusters_needed}
use Rattle.rbf_change.specs.NewFiles.{owns_file}
use Rattle.io_model.specs.declared.path.SysPath.{SysPath}
use Rattle.io_model.specs.Attempts.{HasIoEffect, io_step, pending_in}
use Rattle.io_model.specs.Close.{i_close as closes_device, after_close}
use Rattle.io_model.specs.Io.{OpenPath, open_path}
use Rattle.io_model.specs.Modes.{can_read, can_write}
use Rattle.io_model.specs.Pipes.{count_regs}
use Rattle.io_model.specs.Read.{i_read as reads_device, i_readln as reads_device_line}
use Rattle.io_model.specs.Status.{i_getstt as gets_of_device, i_setstt as sets_of_device, options}
use Rattle.io_model.specs.Step.{IoEffect, IoStep, answers, leaves as io_leaves, needs as io_needs, done as io_done}
use Rattle.io_model.specs.Write.{i_write as writes_device, i_writln as writes_device_line, f_perr as tells_device, error_line}
use Rattle.io_model.specs.declared.modes.TheConstants.{STANDARD_ERROR}
use Rattle.io_model.specs.declared.status.TheConstants.{SS_OPT, SS_READY, SS_EOF, OPTION_BYTES}
use Rattle.io_model.specs.declared.io_call.IoCall.{IoCall}
use Rattle.io_model.specs.declared.io_call.IoCall.TheVariants as Device
use Rattle.file_rules.specs.Change.{Change, writes, sizes, sets_attributes}
use Rattle.file_rules.specs.Files.{Files, Asker, OpenFile, open_file, with_position, with_records}
use Rattle.file_rules.specs.Close.{files_after_close, i_close}
use Rattle.file_rules.specs.Locking.{is_for_update, lock_ends, pending_request, request_now}
use Rattle.file_rules.specs.OnFile.{moves_bytes}
use Rattle.file_rules.specs.Read.{answers_bytes, bytes_at, i_read, i_readln, lock_by, read_claim, read_start, reads_file, reads_freely, reads_locked, reads_on}
use Rattle.file_rules.specs.Seek.{i_seek, long_of, seeks_nothing}
use Rattle.file_rules.specs.Status.{asked_bytes, descriptor_front, gets_bytes, gets_descriptor, gets_end, gets_size, gets_status, i_getstt, i_setstt, lock_claim, locks_bytes, locks_range, long_regs, after_size, sets_attributes_of, sets_lock, sets_size, sets_status, sets_ticks, size_claim, sizes_locked}
use Rattle.file_rules.specs.Step.{FileStep, refused, comes, reaches, changes, leaves_so, done, leaves, needs, refuses, stores}
use Rattle.file_rules.specs.Write.{changes_file, f_perr, i_write, i_writln, line_moved, sends_bytes, write_claim, writes_bytes}
use Rattle.file_rules.specs.declared.path_call.PathCall.{PathCall}
use Rattle.file_rules.specs.declared.path_call.PathCall.TheVariants as Call
use Rattle.file_rules.specs.declared.status.TheConstants.{SS_SIZE, SS_POS, SS_FD, SS_TICKS, SS_LOCK, SS_ATTR}
use Rattle.file_laws.specs.Devices.{IsOnNoFile, device_call, number_in}
use Rattle.file_laws.specs.Touch.{may_change_volume, moves_position}
use Rattle.file_laws.specs.Claims.{CanRead, CanWrite, Claims, read_call}
use Rattle.file_laws.proofs.Keeps.{file-opened, file-slot}
use Rattle.file_laws.proofs.Requests.{ends-requests, size-requests, without-requests}
use Rattle.file_laws.proofs.Splits.{ClosesLock, DoesNothing, IsDeviceStep, Leaves, SplitsOn, StepSplits, answered, answered-at, answered-same, answered-ticks, asks-split, done-splits, needs-by, none-on, none-splits, number-splits, refuses-by, refuses-if}

pub is-so : (b : Bool) → not b ≡ false → b ≡ true
is-so true is = refl
is-so false is = absurd (false≢true (sym is))

pub there-is : {X : Type 0} (o : Option X) → is_none o ≡ false → IsSome o
there-is None is = absurd (false≢true (sym is))
there-is (Some x) is = refl

pub above-none : (n : ℕ) → (n == 0) ≡ false → 0 < n
above-none n is = omega (arith, eqb-false n 0 is)

module _ (call : PathCall) (asker : Asker) (files : Files) (terms : ℕ) where
  abbrev S : FileStep → Type 0
  S step = StepSplits call asker files terms step

  no : (number : ℕ) → S (refused number)
  no number = none-splits call asker files terms number

  same : (regs : Regs) → S (done regs files)
  same regs = done-splits call asker files terms regs

  -- bytes are moved, or none are asked for
  moves-split : (found : OpenFile) (is_allowed : ℕ → Bool) (next : FileStep)
      → (is_allowed found.opened.desc.mode ≡ true → 0 < asker.caller.regs.y → S next)
      → S (moves_bytes asker files found is_allowed next)
  moves-split found is_allowed next holds =
      refuses-if S no (not (is_allowed found.opened.desc.mode)) E_BMODE (if asker.caller.regs.y == 0 then done asker.caller.regs files else next)
      (λ allowed. by_count (is-so (is_allowed found.opened.desc.mode) allowed) (asker.caller.regs.y == 0) refl)
    where
      by_count : is_allowed found.opened.desc.mode ≡ true → (nothing : Bool) → (asker.caller.regs.y == 0) ≡ nothing → S (if nothing then done asker.caller.regs files else next)
      by_count may true is = same asker.caller.regs
      by_count may false is = holds may (above-none asker.caller.regs.y is)

  module _ (found : OpenFile) (named : open_file files asker.caller.process.0 (number_in call asker) ≡ Some found) where
    -- what is done when its drive was reached
    abbrev On : FileStep → Type 0
    On step = SplitsOn call asker files terms found.place.drive step

    not-on : (number : ℕ) → On (refused number)
    not-on number = none-on call asker files terms found.place.drive number

    -- ---- I$Read and I$ReadLn

    module _ (moves : moves_position call ≡ true) (kind : ReadKind) (is : call ≡ read_call kind) (can : CanRead asker found) where
      read-splits : S (reads_file kind asker files found)
      read-splits =
          refuses-if On not-on (nat_le (length found.file.contents) at) E_EOF
          (if is_for_update found.opened.desc.mode then reads_locked kind asker files found request bytes else reads_freely kind asker files found)
          (λ more. by_mode (is_for_update found.opened.desc.mode) refl more)
        where
          at : ℕ
          at = read_start asker files found

          bytes : List ℕ
          bytes = bytes_at kind asker found at

          request : Request
          request = request_now asker files found (read_claim kind asker found at)

          records : Records
          records = holding files.records found.opened.path.0 (lock_by kind request.lock bytes) bytes

          free : List ℕ
          free = bytes_at kind asker found found.opened.desc.at

          by_mode : (update : Bool) → is_for_update found.opened.desc.mode ≡ update
              → nat_le (length found.file.contents) at ≡ false → On (if update then reads_locked kind asker files
              found request bytes else reads_freely kind asker files found)
          by_mode true update more =
              asks-split call asker files terms found named (read_claim kind asker found at) (Claims.reads kind is can update (leb-false (length found.file.contents) at more) refl) found.place.drive
              (comes (leaves_so (answers_bytes asker (with_records files records) found request.lock.range.start bytes)))
              (inl (answered-at call asker files moves found named records refl (request.lock.range.start + length bytes) asker.caller.regs.x bytes (count_regs asker.caller (length bytes))))
          by_mode false update more =
              inl (answered-at call asker files moves found named files.records refl (found.opened.desc.at + length free) asker.caller.regs.x free (count_regs asker.caller (length free)))

    -- ---- changes of the file

    change-on : may_change_volume call ≡ true → (change : Change) (size : ℕ) (regs : Regs) (new : Files)
        → Leaves call asker files (leaves (answers regs) new) → On (changes_file found change size regs new)
    change-on may change size regs new left =
        refuses-by On not-on (nat_lt (free_total found.volume) (clusters_needed (cluster_size found.volume)
        found.file.segments size)) E_FULL
        (comes (changes (record {
          drive = found.place.drive;
          change = change;
          effect = λ n. leaves (answers regs)
              new;
        })))
        (record { reaches = refl; may = may; left = λ n. left; answer = λ n. (regs, refl); fixed = inr (λ m n. refl) })

    module _ (moves : moves_position call ≡ true) (may : may_change_volume call ≡ true) where
      write-splits : (code : ℕ) (bytes : List ℕ) (regs : Regs) → Claims call asker files found (write_claim found code (length bytes)) → S (writes_bytes asker files found code bytes regs)
      write-splits code bytes regs claims =
          asks-split call asker files terms found named (write_claim found code (length bytes)) claims found.place.drive
          (changes_file found (writes found.place.number request.lock.range.start bytes)
          (length (written found.file.contents request.lock.range.start bytes)) regs
          (with_position (with_records files records) found.opened (request.lock.range.start + length bytes)))
          (change-on may (writes found.place.number request.lock.range.start bytes)
          (length (written found.file.contents request.lock.range.start bytes)) regs
          (with_position (with_records files records) found.opened (request.lock.range.start + length bytes))
          (answered-at call asker files moves found named records refl (request.lock.range.start + length bytes) 0 [] regs))
        where
          request : Request
          request = request_now asker files found (write_claim found code (length bytes))

          records : Records
          records = written_by files.records found.opened.path.0 request.lock bytes

      send-splits : (code : ℕ) (bytes : List ℕ) → (CanWrite asker found → Claims call asker files found (write_claim found code (length bytes))) → S (sends_bytes asker files found code bytes)
      send-splits code bytes claims =
          moves-split found can_write (writes_bytes asker files found code bytes (count_regs asker.caller (length bytes)))
          (λ may some. write-splits code bytes (count_regs asker.caller (length bytes)) (claims (may, some)))

    -- ---- I$GetStt

    bytes-split : (count : ℕ) (bytes : List ℕ) → S (gets_bytes asker files count (λ step. step) bytes)
    bytes-split count bytes =
        refuses-by S no (is_none (user_bytes asker.caller.cells asker.caller.regs.x count)) E_BPADDR (comes (leaves_so (stores asker.caller.regs.x bytes asker.caller.regs files)))
        (inl (answered-same call asker files asker.caller.regs.x bytes asker.caller.regs))

    descriptor-splits : S (gets_descriptor asker files found)
    descriptor-splits =
        refuses-by S no (is_none (user_bytes asker.caller.cells asker.caller.regs.x (asked_bytes asker))) E_BPADDR
        (reaches found.place.drive
        (comes (leaves_so (stores asker.caller.regs.x (take (asked_bytes asker) (descriptor_front found.file))
        asker.caller.regs files))))
        (inl (answered-same call asker files asker.caller.regs.x (take (asked_bytes asker) (descriptor_front found.file)) asker.caller.regs))

    end-splits : S (gets_end asker files found)
    end-splits =
        refuses-by On not-on (nat_le (length found.file.contents) found.opened.desc.at) E_EOF (done (record asker.caller.regs { b = 0 }) files)
        (same (record asker.caller.regs { b = 0 }))

    status-by : (opt ready size pos end fd : Bool) → S (if opt then gets_bytes asker files OPTION_BYTES (λ step. step)
        (options found.opened.desc.target) else (if ready then done (record asker.caller.regs { b = 0 }) files else
        (if size then gets_size asker files found else
        (if pos then done (long_regs asker.caller.regs found.opened.desc.at) files else (if end then gets_end asker
        files found else (if fd then gets_descriptor asker files found else refused E_UNKSVC))))))
    status-by true ready size pos end fd = bytes-split OPTION_BYTES (options found.opened.desc.target)
    status-by false true size pos end fd = same (record asker.caller.regs { b = 0 })
    status-by false false true pos end fd = same (long_regs asker.caller.regs (length found.file.contents))
    status-by false false false true end fd = same (long_regs asker.caller.regs found.opened.desc.at)
    status-by false false false false true fd = end-splits
    status-by false false false false false true = descriptor-splits
    status-by false false false false false false = no E_UNKSVC

    status-splits : (code : ℕ) → S (gets_status asker files found code)
    status-splits code = status-by (code == SS_OPT) (code == SS_READY) (code == SS_SIZE) (code == SS_POS) (code == SS_EOF) (code == SS_FD)

    -- ---- I$SetStt

    -- these are the records then, and nothing else of it changes
    answered-records : (records : Records) → records.locks.requests ≡ files.records.locks.requests → Leaves call asker files (leaves (answers asker.caller.regs) (with_records files records))
    answered-records records requests =
        answered call asker files (with_records files records) 0 [] asker.caller.regs (inl refl) refl refl refl requests

    module _ (may : may_change_volume call ≡ true) (set : call ≡ Call.SetStt) where
      size-splits : asker.caller.regs.b ≡ SS_SIZE → S (sets_size asker files found)
      size-splits code =
          refuses-if S no (not (can_write found.opened.desc.mode)) E_BMODE (reaches found.place.drive (sizes_locked asker files found size request))
          (λ allowed. asks-split call asker files terms found named (size_claim found size) (Claims.sizes set code (is-so (can_write found.opened.desc.mode) allowed) refl) found.place.drive
          (changes_file found (sizes found.place.number size) size asker.caller.regs (after_size files found size request.lock))
          (change-on may (sizes found.place.number size) size asker.caller.regs (after_size files found size request.lock)
          (answered-records (after_size files found size request.lock).records (size-requests (length found.file.contents == size) found.opened.path.0 request.lock files.records))))
        where
          size : ℕ
          size = long_of asker.caller.regs

          request : Request
          request = request_now asker files found (size_claim found size)

      lock-splits : asker.caller.regs.b ≡ SS_LOCK → S (sets_lock asker files found)
      lock-splits code =
          refuses-if S no (not (is_for_update found.opened.desc.mode)) E_BMODE (locks_bytes asker files found count)
          (λ allowed. by_count (is-so (is_for_update found.opened.desc.mode) allowed) (count == 0) refl)
        where
          count : ℕ
          count = long_of asker.caller.regs

          request : Request
          request = request_now asker files found (lock_claim found count)

          freed : Records
          freed = without_lock files.records found.opened.path.0

          held : Records
          held = holding files.records found.opened.path.0 request.lock []

          by_count : is_for_update found.opened.desc.mode ≡ true → (nothing : Bool) → (count == 0) ≡ nothing
              → S (if nothing then done asker.caller.regs (with_records files freed) else reaches found.place.drive
              (locks_range asker files found request))
          by_count update true none = inl (answered-records freed (without-requests found.opened.path.0 files.records))
          by_count update false some =
              asks-split call asker files terms found named (lock_claim found count) (Claims.locks set code update (eqb-false count 0 some) refl) found.place.drive
              (done asker.caller.regs (with_records files held)) (inl (answered-records held refl))

      attributes-split : S (sets_attributes_of asker files found)
      attributes-split =
          refuses-by On not-on (not (owns_file found.file asker.user)) E_FNA
          (comes (changes (record {
            drive = found.place.drive;
            change = sets_attributes found.place.number
                (asker.caller.regs.x % 256);
            effect = λ n. leaves (answers asker.caller.regs) files;
          })))
          (record {
            reaches = refl;
            may = may;
            left = λ n. answered-same call asker files 0 [] asker.caller.regs;
            answer = λ n. (asker.caller.regs, refl);
            fixed = inr (λ m n. refl);
          })

      -- by the code and its tests
      set-by : (size ticks lock attributes : Bool) → (asker.caller.regs.b == SS_SIZE) ≡ size
          → (asker.caller.regs.b == SS_TICKS) ≡ ticks → (asker.caller.regs.b == SS_LOCK) ≡ lock
          → S (if size then sets_size asker files found else (if ticks then sets_ticks asker files found else
          (if lock then sets_lock asker files found else (if attributes then sets_attributes_of asker files found else
          refused E_UNKSVC))))
      set-by true ticks lock attributes size_is is lock_is = size-splits (eqb-true asker.caller.regs.b SS_SIZE size_is)
      set-by false true lock attributes size_is is lock_is =
          inl (answered-ticks call asker files (set, eqb-true asker.caller.regs.b SS_TICKS is) found named)
      set-by false false true attributes size_is is lock_is = lock-splits (eqb-true asker.caller.regs.b SS_LOCK lock_is)
      set-by false false false true size_is is lock_is = attributes-split
      set-by false false false false size_is is lock_is = no E_UNKSVC

  -- ---- the calls

  reads-split : number_in call asker ≡ asker.caller.regs.a → moves_position call ≡ true → (otherwise : IoStep)
      → (open_file files asker.caller.process.0 asker.caller.regs.a ≡ None → IsDeviceStep call asker files terms
      otherwise × IsOnNoFile call asker files terms) → (kind : ReadKind) → call ≡ read_call kind
      → S (reads_on kind asker files otherwise)
  reads-split number_is moves otherwise on kind is =
      number-splits call asker files terms asker.caller.regs.a otherwise
      (λ found. refuses (is_none (user_bytes asker.caller.cells asker.caller.regs.x asker.caller.regs.y)) E_BPADDR
      (moves_bytes asker files found can_read (reads_file kind asker files found))) (λ none. inl (on none))
      (λ found named. refuses-if S no (is_none (user_bytes asker.caller.cells asker.caller.regs.x
      asker.caller.regs.y)) E_BPADDR (moves_bytes asker files found can_read (reads_file kind asker files found))
      (λ fits. moves-split found can_read (reads_file kind asker files found)
      (λ may some. read-splits found (ap (open_file files asker.caller.process.0) number_is ∙ named) moves kind is
      (there-is (user_bytes asker.caller.cells asker.caller.regs.x asker.caller.regs.y) fits, may, some))))

-- a call on no file is the one on terminals and pipes
abbrev on : (call : PathCall) (device : IoCall) (asker : Asker) (files : Files) (terms : ℕ) → device_call call ≡ Some
    device → IsOnNoFile call asker files terms → IsDeviceStep call asker files terms (io_step device asker.caller
    files.io (length files.drives) terms) × IsOnNoFile call asker files terms
on call device asker files terms is none = (record { device = device; device_is = is; is = refl }, none)

module _ (asker : Asker) (files : Files) (terms : ℕ) where
  pub read-split : StepSplits Call.Read asker files terms (i_read asker files)
  read-split =
      reads-split Call.Read asker files terms refl refl (reads_device asker.caller files.io) (on Call.Read Device.Read asker files terms refl) Bytes refl

  pub readln-split : StepSplits Call.ReadLn asker files terms (i_readln asker files)
  readln-split =
      reads-split Call.ReadLn asker files terms refl refl (reads_device_line asker.caller files.io) (on Call.ReadLn Device.ReadLn asker files terms refl) WholeLine refl

  pub write-split : StepSplits Call.Write asker files terms (i_write asker files)
  write-split =
      number-splits Call.Write asker files terms asker.caller.regs.a (writes_device asker.caller files.io)
      (λ found. needs (user_bytes asker.caller.cells asker.caller.regs.x asker.caller.regs.y) E_BPADDR
      (sends_bytes asker files found I_WRITE)) (λ none. inl (on Call.Write Device.Write asker files terms refl
      none))
      (λ found named. needs-by (StepSplits Call.Write asker files terms) (none-splits Call.Write asker files terms)
      (user_bytes asker.caller.cells asker.caller.regs.x asker.caller.regs.y) E_BPADDR
      (sends_bytes asker files found I_WRITE)
      (λ bytes is. send-splits Call.Write asker files terms found named refl refl I_WRITE bytes (λ can. Claims.writes bytes refl can is refl)))

  pub writln-split : StepSplits Call.WritLn asker files terms (i_writln asker files)
  writln-split =
      number-splits Call.WritLn asker files terms asker.caller.regs.a (writes_device_line asker.caller files.io)
      (λ found. needs (line_moved asker (pending_request asker files)) E_BPADDR (sends_bytes asker files found
      I_WRITLN)) (λ none. inl (on Call.WritLn Device.WritLn asker files terms refl none))
      (λ found named. needs-by (StepSplits Call.WritLn asker files terms) (none-splits Call.WritLn asker files terms)
      (line_moved asker (pending_request asker files)) E_BPADDR (sends_bytes asker files found I_WRITLN)
      (λ bytes is. send-splits Call.WritLn asker files terms found named refl refl I_WRITLN bytes (λ can. Claims.writes_line bytes refl can is refl)))

  pub perr-split : StepSplits Call.PErr asker files terms (f_perr asker files)
  perr-split =
      number-splits Call.PErr asker files terms STANDARD_ERROR (tells_device asker.caller files.io)
      (λ found. refuses (not (can_write found.opened.desc.mode)) E_BMODE (writes_bytes asker files found F_PERR
      (error_line asker.caller.regs.b) asker.caller.regs))
      (λ none. inl (on Call.PErr Device.PErr asker files terms refl none))
      (λ found named. refuses-if (StepSplits Call.PErr asker files terms) (none-splits Call.PErr asker files terms)
      (not (can_write found.opened.desc.mode)) E_BMODE (writes_bytes asker files found F_PERR
      (error_line asker.caller.regs.b) asker.caller.regs)
      (λ allowed. write-splits Call.PErr asker files terms found named refl refl F_PERR
      (error_line asker.caller.regs.b) asker.caller.regs
      (Claims.tells_error refl (is-so (can_write found.opened.desc.mode) allowed) refl)))

  pub getstt-split : StepSplits Call.GetStt asker files terms (i_getstt asker files)
  getstt-split =
      number-splits Call.GetStt asker files terms asker.caller.regs.a (gets_of_device asker.caller files.io)
      (λ found. gets_status asker files found asker.caller.regs.b)
      (λ none. inl (on Call.GetStt Device.GetStt asker files terms refl none))
      (λ found named. status-splits Call.GetStt asker files terms found named asker.caller.regs.b)

  pub setstt-split : StepSplits Call.SetStt asker files terms (i_setstt asker files)
  setstt-split =
      number-splits Call.SetStt asker files terms asker.caller.regs.a (sets_of_device asker.caller files.io)
      (λ found. sets_status asker files found asker.caller.regs.b)
      (λ none. inl (on Call.SetStt Device.SetStt asker files terms refl none))
      (λ found named. set-by Call.SetStt asker files terms found named refl refl (asker.caller.regs.b == SS_SIZE)
      (asker.caller.regs.b == SS_TICKS) (asker.caller.regs.b == SS_LOCK) (asker.caller.regs.b == SS_ATTR) refl
      refl refl)

  -- the lock of the path ends, or stays
  close-ends : (found : OpenFile) → open_file files asker.caller.process.0 asker.caller.regs.a ≡ Some found
      → (test : Bool) → ((if test then without_lock files.records found.opened.path.0 else files.records) ≡
      files.records) ⊎ ClosesLock Call.Close asker files terms (if test then without_lock files.records
      found.opened.path.0 else files.records)
  close-ends found named true =
      inr (record { opened = found.opened; close = refl; named = file-opened files asker.caller.process.0 asker.caller.regs.a found named; is = refl })
  close-ends found named false = inl refl

  -- I$Close is that of terminals and pipes, and the lock of a path on a file ends with it
  pub close-split : StepSplits Call.Close asker files terms (i_close asker files)
  close-split =
      number-splits Call.Close asker files terms asker.caller.regs.a (closes_device asker.caller files.io)
      (λ found. done asker.caller.regs (files_after_close files asker.caller.process.0 asker.caller.regs.a
      found.opened.path.0)) (λ none. inl (on Call.Close Device.Close asker files terms refl tt))
      (λ found named. inr (inl (record {
        device = Device.Close;
        device_is = refl;
        effect = io_leaves (answers asker.caller.regs) (after_close files.io asker.caller.process.0 asker.caller.regs.a);
        is = ap (λ (path : Option SysPath). io_needs path E_BPNUM (λ path. io_done asker.caller.regs
            (after_close files.io asker.caller.process.0 asker.caller.regs.a)))
            (file-slot files asker.caller.process.0 asker.caller.regs.a found named);
        over = refl;
        records = (files_after_close files asker.caller.process.0 asker.caller.regs.a found.opened.path.0).records;
        requests =
            ends-requests (lock_ends (after_close files.io asker.caller.process.0 asker.caller.regs.a).paths (λ owner. false)) found.opened.path.0 files.records;
        ends =
            close-ends found named (option_map_or (lock_ends (after_close files.io asker.caller.process.0
            asker.caller.regs.a).paths (λ owner. false) found.opened.path.0) (lock_of files.records.locks
            found.opened.path.0) false);
        same = refl;
        on = tt;
      })))

  -- I$Seek does nothing on a terminal or a pipe
  seek-still : (opened : Option OpenPath) (it : IoEffect) (old new : List TerminalState)
      → HasIoEffect (io_needs opened E_BPNUM (λ opened. io_done asker.caller.regs files.io)) asker.caller files.io it old new
      → DoesNothing Call.Seek asker files terms it old new
  seek-still None it old new (is, same) = record {
    over = ap (λ (it : IoEffect). pending_in it.end) is;
    io = ap (λ (it : IoEffect). it.io) is;
    terminals = same;
  }
  seek-still (Some opened) it old new (is, same) = record {
    over = ap (λ (it : IoEffect). pending_in it.end) is;
    io = ap (λ (it : IoEffect). it.io) is;
    terminals = same;
  }

  pub seek-split : StepSplits Call.Seek asker files terms (i_seek asker files)
  seek-split =
      number-splits Call.Seek asker files terms asker.caller.regs.a (seeks_nothing asker.caller files.io)
      (λ found. done asker.caller.regs (with_position files found.opened (long_of asker.caller.regs)))
      (λ none. inr (seek-still (open_path files.io asker.caller.process.0 asker.caller.regs.a)))
      (λ found named. inl (answered-at Call.Seek asker files refl found named files.records refl (long_of asker.caller.regs) 0 [] asker.caller.regs))
