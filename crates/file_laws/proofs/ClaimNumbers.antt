-- Calls on a number of a path: what each makes of locks and of what its file holds.
use Rattle.std.proofs.Common.{◌≡◌, ℕ, ◌+◌, ◌<◌, ◌≤◌, ◌==◌, ◌%◌, not, Bool, true, false, Option, Some, None, IsSome, List, [], length, refl, sym, ap, ◌∙◌, subst, inl, inr}
use Rattle.std.specs.Prelude.{is_none, nat_le, nat_lt, take, unwrap_or, ◌||◌, if◌then◌else◌}
use Rattle.std.specs.Option.{option_map_or}
use Rattle.std.proofs.lemmas.Bool.{eqb-false, eqb-true, false≢true, leb-false}
use Rattle.os9_base.specs.declared.calls.TheConstants.{F_PERR, I_WRITE, I_WRITLN}
use Rattle.os9_base.specs.declared.errors.TheConstants.{E_BMODE, E_BPADDR, E_EOF, E_FNA, E_FULL, E_UNKSVC}
use Rattle.os9_base.specs.declared.registers.Regs.{Regs}
use Rattle.proc_model.specs.UserBytes.{user_bytes}
use Rattle.lock_model.specs.Laws.{Covers}
use Rattle.lock_model.specs.Locks.{lock_of}
use Rattle.lock_model.specs.Records.{Records, holding, without_lock, written_by}
use Rattle.lock_model.specs.declared.lock.Grant.TheVariants.{Granted}
use Rattle.lock_model.specs.declared.lock.Held.{Held}
use Rattle.lock_model.specs.declared.lock.Request.{Request}
use Rattle.rbf_change.specs.Calls.{cluster_size, free_total}
use Rattle.io_model.specs.Path.{PathTable, desc_of}
use Rattle.io_model.specs.declared.path.Desc.{Desc}
use Rattle.rbf_change.specs.Contents.{written}
use Rattle.rbf_change.specs.Growth.{clusters_needed}
use Rattle.rbf_change.specs.NewFiles.{owns_file}
use Rattle.io_model.specs.declared.terminal.ReadKind.{ReadKind}
use Rattle.io_model.specs.declared.terminal.ReadKind.TheVariants.{Bytes, WholeLine}
use Rattle.io_model.specs.Close.{i_close as closes_device, after_close}
use Rattle.io_model.specs.Modes.{can_read, can_write}
use Rattle.io_model.specs.Pipes.{count_regs}
use Rattle.io_model.specs.Read.{i_read as reads_device, i_readln as reads_device_line}
use Rattle.io_model.specs.Status.{i_getstt as gets_of_device, i_setstt as sets_of_device, options}
use Rattle.io_model.specs.Step.{IoStep, answers}
use Rattle.io_model.specs.Write.{i_write as writes_device, i_writln as writes_device_line, f_perr as tells_device, error_line}
use Rattle.io_model.specs.declared.io_call.IoCall.TheVariants as Device
use Rattle.io_model.specs.declared.modes.TheConstants.{STANDARD_ERROR}
use Rattle.io_model.specs.declared.status.TheConstants.{OPTION_BYTES, SS_EOF, SS_OPT, SS_READY}
use Rattle.file_rules.specs.Change.{Change, sets_attributes, sizes, writes}
use Rattle.file_rules.specs.Close.{files_after_close, i_close}
use Rattle.file_rules.specs.Files.{Asker, Files, OpenFile, open_file, with_io, with_position, with_records, with_ticks}
use Rattle.file_rules.specs.Locking.{answer_to, first_request, is_for_update, lock_ends, position_of, pending_request, request_now, start_of}
use Rattle.file_rules.specs.OnFile.{moves_bytes}
use Rattle.file_rules.specs.Read.{answers_bytes, bytes_at, i_read, i_readln, lock_by, read_claim, read_start, reads_file, reads_freely, reads_locked, reads_on}
use Rattle.file_rules.specs.Seek.{i_seek, long_of, seeks_nothing}
use Rattle.file_rules.specs.Status.{after_size, asked_bytes, descriptor_front, gets_bytes, gets_descriptor, gets_end, gets_size, gets_status, i_getstt, i_setstt, lock_claim, locks_bytes, locks_range, long_regs, sets_attributes_of, sets_lock, sets_size, sets_status, sets_ticks, size_claim, sizes_locked}
use Rattle.file_rules.specs.Step.{FileStep, changes, comes, done, leaves, leaves_so, needs, reaches, refused, refuses, stores}
use Rattle.file_rules.specs.Write.{changes_file, f_perr, i_write, i_writln, line_moved, sends_bytes, write_claim, writes_bytes}
use Rattle.file_rules.specs.declared.claim.Claim.{Claim}
use Rattle.file_rules.specs.declared.path_call.PathCall.{PathCall}
use Rattle.file_rules.specs.declared.path_call.PathCall.TheVariants as Call
use Rattle.file_rules.specs.declared.status.TheConstants.{SS_ATTR, SS_FD, SS_LOCK, SS_POS, SS_SIZE, SS_TICKS}
use Rattle.file_laws.specs.Devices.{number_in}
use Rattle.file_laws.proofs.Lengths.{user-length}
use Rattle.file_laws.proofs.OnNumbers.{above-none}
use Rattle.file_laws.specs.Claims.{CanRead, Claims, CoversCall, Requests, read_call}
use Rattle.file_laws.specs.Recorded.{EndsLock, IsGranted, IsSent, IsTaken}
use Rattle.file_laws.proofs.ClaimSteps.{ClaimedOn, IsClaimedChange, IsOtherCall, LeftSo, StepClaimed, asks-so, done-so, is_of_lock, made, needs-by, none-on, none-so, number-so, refuses-by, still-answered}

is-so : (b : Bool) → not b ≡ false → b ≡ true
is-so true is = refl
is-so false is = absurd (false≢true (sym is))

-- a path whose lock ends has gone, if the owner is not why
none-is : (desc : Option Desc) → (is_none desc || false) ≡ true → desc ≡ None
none-is None is = refl
none-is (Some desc) is = absurd (false≢true is)

ends-none : (paths : PathTable) (path : ℕ) (lock : Option Held) → option_map_or (lock_ends paths (λ owner. false) path) lock false ≡ true → desc_of paths path ≡ None
ends-none paths path None is = absurd (false≢true is)
ends-none paths path (Some lock) is = none-is (desc_of paths path) is

there-is : {X : Type 0} (o : Option X) → is_none o ≡ false → IsSome o
there-is None is = absurd (false≢true (sym is))
there-is (Some x) is = refl

module _ (call : PathCall) (asker : Asker) (files : Files) (terms : ℕ) where
  abbrev S : FileStep → Type 0
  S step = StepClaimed call asker files terms step

  no : (number : ℕ) → is_of_lock number ≡ false → S (refused number)
  no number other = none-so call asker files terms number other

  same : (regs : Regs) → S (done regs files)
  same regs = done-so call asker files terms regs

  -- bytes are moved, or none are asked for
  moves-so : (found : OpenFile) (is_allowed : ℕ → Bool) (next : FileStep) → (is_allowed found.opened.desc.mode ≡ true
      → 0 < asker.caller.regs.y → S next) → S (moves_bytes asker files found is_allowed next)
  moves-so found is_allowed next holds =
      refuses-by S (not (is_allowed found.opened.desc.mode)) E_BMODE (if asker.caller.regs.y == 0 then done asker.caller.regs files else next) (no E_BMODE refl)
      (λ allowed. by_count (is-so (is_allowed found.opened.desc.mode) allowed) (asker.caller.regs.y == 0) refl)
    where
      by_count : is_allowed found.opened.desc.mode ≡ true → (nothing : Bool) → (asker.caller.regs.y == 0) ≡ nothing → S (if nothing then done asker.caller.regs files else next)
      by_count may true is = same asker.caller.regs
      by_count may false is = holds may (above-none asker.caller.regs.y is)

  module _ (found : OpenFile) (named : open_file files asker.caller.process.0 (number_in call asker) ≡ Some found) where
    -- what is done when its drive was reached
    abbrev On : FileStep → Type 0
    On step = ClaimedOn call asker files terms found.place.drive step

    abbrev at_first : Claim → Request
    at_first claim = request_now asker files found claim

    abbrev comes-to : (claim : Claim) → Claims call asker files found claim → Requests (made call asker files terms) (at_first claim)
    comes-to claim claims = record { found = found; names = named; claim = claim; claims = claims; is = refl }

    abbrev is-granted : (claim : Claim) → Claims call asker files found claim → answer_to asker files (at_first claim) ≡ Granted → IsGranted (made call asker files terms) (at_first claim)
    is-granted claim claims answer = record { requests = comes-to claim claims; answer = answer }

    -- ---- I$Read and I$ReadLn

    read-so : (kind : ReadKind) → call ≡ read_call kind → CanRead asker found → S (reads_file kind asker files found)
    read-so kind is can =
        refuses-by On (nat_le (length found.file.contents) at) E_EOF
        (if is_for_update found.opened.desc.mode then reads_locked kind asker files found request bytes else reads_freely kind asker files found)
        (none-on call asker files terms found.place.drive E_EOF refl) (λ more. by_mode (is_for_update found.opened.desc.mode) refl more)
      where
        at : ℕ
        at = read_start asker files found

        request : Request
        request = at_first (read_claim kind asker found at)

        bytes : List ℕ
        bytes = bytes_at kind asker found at

        free : List ℕ
        free = bytes_at kind asker found found.opened.desc.at

        -- it begins where its request does
        begins : is_for_update found.opened.desc.mode ≡ true → (kept : Option Request) → pending_request asker files ≡ kept
            → (unwrap_or kept (first_request asker found (read_claim kind asker found at))).lock.range.start ≡ at
        begins update None is = refl
        begins update (Some other) is =
            sym (ap (λ (b : Bool). if b then position_of asker files found else found.opened.desc.at) update ∙ ap (λ (kept : Option Request). start_of kept found.opened.desc.at) is)

        by_mode : (update : Bool) → is_for_update found.opened.desc.mode ≡ update
            → nat_le (length found.file.contents) at ≡ false → On (if update then reads_locked kind asker files found
            request bytes else reads_freely kind asker files found)
        by_mode true update more =
            let claims : Claims call asker files found (read_claim kind asker found at) = Claims.reads kind is can update (leb-false (length found.file.contents) at more) refl in
            asks-so call asker files terms found.place.drive request (comes-to (read_claim kind asker found at) claims)
            (comes (leaves_so (answers_bytes asker (with_records files (holding files.records found.opened.path.0 (lock_by kind request.lock bytes) bytes)) found request.lock.range.start bytes)))
            (λ answer. LeftSo.held request kind bytes (is-granted (read_claim kind asker found at) claims answer)
            (IsTaken.by_read is (ap (bytes_at kind asker found) (sym (begins update (pending_request asker files) refl))))
            (record { regs = count_regs asker.caller (length bytes); end = refl; volumes = refl })
            refl)
        by_mode false update more =
            still-answered call asker files terms (with_position files found.opened (found.opened.desc.at + length free)) asker.caller.regs.x free (count_regs asker.caller (length free)) refl refl

    -- ---- changes of the file

    change-so : (change : Change) (size : ℕ) (regs : Regs) (new : Files) → IsClaimedChange call asker files terms
        found.place.drive change new.records → new.volumes ≡ files.volumes
        → On (changes_file found change size regs new)
    change-so change size regs new claimed volumes =
        refuses-by On (nat_lt (free_total found.volume) (clusters_needed (cluster_size found.volume)
        found.file.segments size)) E_FULL
        (comes (changes (record {
          drive = found.place.drive;
          change = change;
          effect = λ n. leaves (answers regs)
              new;
        })))
        (none-on call asker files terms found.place.drive E_FULL refl)
        (λ room. record {
          reaches = refl;
          answered = λ n. record { regs = regs; end = refl; volumes = volumes };
          claimed = λ n. claimed;
        })

    write-so : (code : ℕ) (bytes : List ℕ) (regs : Regs) → Claims call asker files found
        (write_claim found code (length bytes)) → IsSent (made call asker files terms) found bytes
        → (CoversCall call asker.caller.regs (at_first (write_claim found code (length bytes)))
        → Covers (at_first (write_claim found code (length bytes))).lock.range (length bytes))
        → S (writes_bytes asker files found code bytes regs)
    write-so code bytes regs claims sent room =
        asks-so call asker files terms found.place.drive request (comes-to claim claims)
        (changes_file found (writes found.place.number request.lock.range.start bytes)
        (length (written found.file.contents request.lock.range.start bytes)) regs
        (with_position (with_records files records) found.opened (request.lock.range.start + length bytes)))
        (λ answer. change-so (writes found.place.number request.lock.range.start bytes)
        (length (written found.file.contents request.lock.range.start bytes)) regs
        (with_position (with_records files records) found.opened (request.lock.range.start + length bytes))
        (IsClaimedChange.by_write request bytes (is-granted claim claims answer) sent refl refl room refl) refl)
      where
        claim : Claim
        claim = write_claim found code (length bytes)

        request : Request
        request = at_first claim

        records : Records
        records = written_by files.records found.opened.path.0 request.lock bytes

    -- ---- I$GetStt

    bytes-so : (count : ℕ) (bytes : List ℕ) → S (gets_bytes asker files count (λ step. step) bytes)
    bytes-so count bytes =
        refuses-by S (is_none (user_bytes asker.caller.cells asker.caller.regs.x count)) E_BPADDR (comes (leaves_so (stores asker.caller.regs.x bytes asker.caller.regs files)))
        (no E_BPADDR refl) (λ fits. still-answered call asker files terms files asker.caller.regs.x bytes asker.caller.regs refl refl)

    descriptor-so : S (gets_descriptor asker files found)
    descriptor-so =
        refuses-by S (is_none (user_bytes asker.caller.cells asker.caller.regs.x (asked_bytes asker))) E_BPADDR
        (reaches found.place.drive
        (comes (leaves_so (stores asker.caller.regs.x (take (asked_bytes asker) (descriptor_front found.file))
        asker.caller.regs files))))
        (no E_BPADDR refl) (λ fits. still-answered call asker files terms files asker.caller.regs.x (take (asked_bytes asker) (descriptor_front found.file)) asker.caller.regs refl refl)

    end-so : S (gets_end asker files found)
    end-so =
        refuses-by On (nat_le (length found.file.contents) found.opened.desc.at) E_EOF (done (record asker.caller.regs { b = 0 }) files)
        (none-on call asker files terms found.place.drive E_EOF refl) (λ more. same (record asker.caller.regs { b = 0 }))

    status-by : (opt ready size pos end fd : Bool) → S (if opt then gets_bytes asker files OPTION_BYTES (λ step. step)
        (options found.opened.desc.target) else (if ready then done (record asker.caller.regs { b = 0 }) files else
        (if size then gets_size asker files found else
        (if pos then done (long_regs asker.caller.regs found.opened.desc.at) files else (if end then gets_end asker
        files found else (if fd then gets_descriptor asker files found else refused E_UNKSVC))))))
    status-by true ready size pos end fd = bytes-so OPTION_BYTES (options found.opened.desc.target)
    status-by false true size pos end fd = same (record asker.caller.regs { b = 0 })
    status-by false false true pos end fd = same (long_regs asker.caller.regs (length found.file.contents))
    status-by false false false true end fd = same (long_regs asker.caller.regs found.opened.desc.at)
    status-by false false false false true fd = end-so
    status-by false false false false false true = descriptor-so
    status-by false false false false false false = no E_UNKSVC refl

    status-so : (code : ℕ) → S (gets_status asker files found code)
    status-so code = status-by (code == SS_OPT) (code == SS_READY) (code == SS_SIZE) (code == SS_POS) (code == SS_EOF) (code == SS_FD)

    -- ---- I$SetStt

    module _ (set : call ≡ Call.SetStt) where
      size-so : asker.caller.regs.b ≡ SS_SIZE → S (sets_size asker files found)
      size-so code =
          refuses-by S (not (can_write found.opened.desc.mode)) E_BMODE (reaches found.place.drive (sizes_locked asker files found size request))
          (no E_BMODE refl) (λ allowed. by_mode (is-so (can_write found.opened.desc.mode) allowed))
        where
          size : ℕ
          size = long_of asker.caller.regs

          request : Request
          request = at_first (size_claim found size)

          covers : CoversCall call asker.caller.regs request → (request.lock.range.end ≡ None) × (request.lock.range.start ≤ long_of asker.caller.regs)
          covers it = subst (λ (call : PathCall). CoversCall call asker.caller.regs request) set it code

          by_mode : can_write found.opened.desc.mode ≡ true → On (sizes_locked asker files found size request)
          by_mode may =
              let claims : Claims call asker files found (size_claim found size) = Claims.sizes set code may refl in
              asks-so call asker files terms found.place.drive request (comes-to (size_claim found size) claims)
              (changes_file found (sizes found.place.number size) size asker.caller.regs (after_size files found size request.lock))
              (λ answer. change-so (sizes found.place.number size) size asker.caller.regs (after_size files found size request.lock)
              (IsClaimedChange.by_size request (is-granted (size_claim found size) claims answer) (set, code) refl refl covers refl) refl)

      lock-so : asker.caller.regs.b ≡ SS_LOCK → S (sets_lock asker files found)
      lock-so code =
          refuses-by S (not (is_for_update found.opened.desc.mode)) E_BMODE (locks_bytes asker files found count)
          (no E_BMODE refl) (λ allowed. by_count (is-so (is_for_update found.opened.desc.mode) allowed) (count == 0) refl)
        where
          count : ℕ
          count = long_of asker.caller.regs

          request : Request
          request = at_first (lock_claim found count)

          by_count : is_for_update found.opened.desc.mode ≡ true → (nothing : Bool) → (count == 0) ≡ nothing
              → S (if nothing then done asker.caller.regs
              (with_records files (without_lock files.records found.opened.path.0)) else reaches found.place.drive
              (locks_range asker files found request))
          by_count update true is =
              LeftSo.ended found named (EndsLock.by_lock set code update (eqb-true count 0 is)) (record { regs = asker.caller.regs; end = refl; volumes = refl }) refl
          by_count update false is =
              let claims : Claims call asker files found (lock_claim found count) = Claims.locks set code update (eqb-false count 0 is) refl in
              asks-so call asker files terms found.place.drive request (comes-to (lock_claim found count) claims)
              (done asker.caller.regs (with_records files (holding files.records found.opened.path.0 request.lock [])))
              (λ answer. LeftSo.held request Bytes [] (is-granted (lock_claim found count) claims answer)
              (IsTaken.by_lock set code refl refl) (record { regs = asker.caller.regs; end = refl; volumes = refl })
              refl)

      attributes-so : S (sets_attributes_of asker files found)
      attributes-so =
          refuses-by On (not (owns_file found.file asker.user)) E_FNA
          (comes (changes (record {
            drive = found.place.drive;
            change = sets_attributes found.place.number
                (asker.caller.regs.x % 256);
            effect = λ n. leaves (answers asker.caller.regs) files;
          })))
          (none-on call asker files terms found.place.drive E_FNA refl)
          (λ owns. record {
            reaches = refl;
            answered = λ n. record { regs = asker.caller.regs; end = refl; volumes = refl };
            claimed = λ n. IsClaimedChange.by_attributes found.place.number (asker.caller.regs.x % 256) refl refl;
          })

      -- by the code and its tests
      set-by : (size ticks lock attributes : Bool) → (asker.caller.regs.b == SS_SIZE) ≡ size
          → (asker.caller.regs.b == SS_LOCK) ≡ lock → S (if size then sets_size asker files found else
          (if ticks then sets_ticks asker files found else (if lock then sets_lock asker files found else
          (if attributes then sets_attributes_of asker files found else refused E_UNKSVC))))
      set-by true ticks lock attributes size_is lock_is = size-so (eqb-true asker.caller.regs.b SS_SIZE size_is)
      set-by false true lock attributes size_is lock_is =
          still-answered call asker files terms (with_ticks files found.opened asker.caller.regs.x) 0 [] asker.caller.regs refl refl
      set-by false false true attributes size_is lock_is = lock-so (eqb-true asker.caller.regs.b SS_LOCK lock_is)
      set-by false false false true size_is lock_is = attributes-so
      set-by false false false false size_is lock_is = no E_UNKSVC refl

    -- ---- I$Close

    closed-so : call ≡ Call.Close → S (done asker.caller.regs (files_after_close files asker.caller.process.0 asker.caller.regs.a found.opened.path.0))
    closed-so close = by_test (option_map_or (lock_ends closed.io.paths (λ owner. false) path) (lock_of files.records.locks path) false) refl
      where
        path : ℕ
        path = found.opened.path.0

        closed : Files
        closed = with_io files (after_close files.io asker.caller.process.0 asker.caller.regs.a)

        by_test : (ends : Bool) → option_map_or (lock_ends closed.io.paths (λ owner. false) path)
            (lock_of files.records.locks path) false ≡ ends
            → S (done asker.caller.regs (files_after_close files asker.caller.process.0 asker.caller.regs.a path))
        by_test true is =
            LeftSo.ended found named (EndsLock.by_close close (ends-none closed.io.paths path (lock_of files.records.locks path) is))
            (record { regs = asker.caller.regs; end = refl; volumes = refl }) (ap (λ (b : Bool). if b then without_lock files.records path else files.records) is)
        by_test false is =
            still-answered call asker files terms (files_after_close files asker.caller.process.0 asker.caller.regs.a path) 0 []
            asker.caller.regs (ap (λ (b : Bool). if b then without_lock files.records path else files.records) is)
            refl

  reads-so : (kind : ReadKind) → call ≡ read_call kind → number_in call asker ≡ asker.caller.regs.a
      → (otherwise : IoStep) → IsOtherCall call asker files terms otherwise → S (reads_on kind asker files otherwise)
  reads-so kind is number_is otherwise other =
      number-so call asker files terms asker.caller.regs.a otherwise
      (λ found. refuses (is_none (user_bytes asker.caller.cells asker.caller.regs.x asker.caller.regs.y)) E_BPADDR
      (moves_bytes asker files found can_read (reads_file kind asker files found))) other
      (λ found named. refuses-by S (is_none (user_bytes asker.caller.cells asker.caller.regs.x asker.caller.regs.y))
      E_BPADDR (moves_bytes asker files found can_read (reads_file kind asker files found)) (no E_BPADDR refl)
      (λ fits. moves-so found can_read (reads_file kind asker files found)
      (λ may some. read-so found (ap (open_file files asker.caller.process.0) number_is ∙ named) kind is
      (there-is (user_bytes asker.caller.cells asker.caller.regs.x asker.caller.regs.y) fits, may, some))))

-- ---- the room that writes have

-- a line write has the count of its request
line-count : (asker : Asker) (files : Files) (found : OpenFile) (bytes : List ℕ)
    → line_moved asker (pending_request asker files) ≡ Some bytes
    → (request_now asker files found (write_claim found I_WRITLN (length bytes))).count ≡ length bytes
line-count asker files found bytes moved = by_kept (pending_request asker files) moved
  where
    by_kept : (kept : Option Request) → line_moved asker kept ≡ Some bytes → (unwrap_or kept (first_request asker found (write_claim found I_WRITLN (length bytes)))).count ≡ length bytes
    by_kept None is = refl
    by_kept (Some request) is = sym (user-length asker.caller.cells asker.caller.regs.x request.count bytes is)

-- ---- the calls

module _ (asker : Asker) (files : Files) (terms : ℕ) where
  pub read-claimed : StepClaimed Call.Read asker files terms (i_read asker files)
  read-claimed = reads-so Call.Read asker files terms Bytes refl refl (reads_device asker.caller files.io) (inl (record { device = Device.Read; device_is = refl; is = refl }))

  pub readln-claimed : StepClaimed Call.ReadLn asker files terms (i_readln asker files)
  readln-claimed =
      reads-so Call.ReadLn asker files terms WholeLine refl refl (reads_device_line asker.caller files.io) (inl (record { device = Device.ReadLn; device_is = refl; is = refl }))

  pub write-claimed : StepClaimed Call.Write asker files terms (i_write asker files)
  write-claimed =
      number-so Call.Write asker files terms asker.caller.regs.a (writes_device asker.caller files.io)
      (λ found. needs (user_bytes asker.caller.cells asker.caller.regs.x asker.caller.regs.y) E_BPADDR
      (sends_bytes asker files found I_WRITE))
      (inl (record { device = Device.Write; device_is = refl; is = refl }))
      (λ found named. needs-by (StepClaimed Call.Write asker files terms) (user_bytes asker.caller.cells
      asker.caller.regs.x asker.caller.regs.y) E_BPADDR (sends_bytes asker files found I_WRITE)
      (none-so Call.Write asker files terms E_BPADDR refl)
      (λ bytes is. moves-so Call.Write asker files terms found can_write (writes_bytes asker files found I_WRITE bytes (count_regs asker.caller (length bytes)))
      (λ may some. write-so Call.Write asker files terms found named I_WRITE bytes (count_regs asker.caller (length bytes)) (Claims.writes bytes refl (may, some) is refl) (IsSent.by_write refl is)
      (λ covers. subst (Covers (request_now asker files found (write_claim found I_WRITE (length bytes))).lock.range)
      (sym (user-length asker.caller.cells asker.caller.regs.x asker.caller.regs.y bytes is)) covers))))

  pub writln-claimed : StepClaimed Call.WritLn asker files terms (i_writln asker files)
  writln-claimed =
      number-so Call.WritLn asker files terms asker.caller.regs.a (writes_device_line asker.caller files.io)
      (λ found. needs (line_moved asker (pending_request asker files)) E_BPADDR (sends_bytes asker files found
      I_WRITLN))
      (inl (record { device = Device.WritLn; device_is = refl; is = refl }))
      (λ found named. needs-by (StepClaimed Call.WritLn asker files terms)
      (line_moved asker (pending_request asker files)) E_BPADDR (sends_bytes asker files found I_WRITLN)
      (none-so Call.WritLn asker files terms E_BPADDR refl)
      (λ bytes is. moves-so Call.WritLn asker files terms found can_write (writes_bytes asker files found I_WRITLN bytes (count_regs asker.caller (length bytes)))
      (λ may some. write-so Call.WritLn asker files terms found named I_WRITLN bytes (count_regs asker.caller (length bytes))
      (Claims.writes_line bytes refl (may, some) is refl) (IsSent.by_line refl is)
      (λ covers. subst (Covers (request_now asker files found (write_claim found I_WRITLN (length bytes))).lock.range) (line-count asker files found bytes is) covers))))

  pub perr-claimed : StepClaimed Call.PErr asker files terms (f_perr asker files)
  perr-claimed =
      number-so Call.PErr asker files terms STANDARD_ERROR (tells_device asker.caller files.io)
      (λ found. refuses (not (can_write found.opened.desc.mode)) E_BMODE (writes_bytes asker files found F_PERR
      (error_line asker.caller.regs.b) asker.caller.regs))
      (inl (record { device = Device.PErr; device_is = refl; is = refl }))
      (λ found named. refuses-by (StepClaimed Call.PErr asker files terms) (not (can_write found.opened.desc.mode))
      E_BMODE (writes_bytes asker files found F_PERR (error_line asker.caller.regs.b) asker.caller.regs)
      (none-so Call.PErr asker files terms E_BMODE refl)
      (λ allowed. write-so Call.PErr asker files terms found named F_PERR (error_line asker.caller.regs.b) asker.caller.regs
      (Claims.tells_error refl (is-so (can_write found.opened.desc.mode) allowed) refl) (IsSent.by_error refl refl) (λ covers. covers)))

  pub getstt-claimed : StepClaimed Call.GetStt asker files terms (i_getstt asker files)
  getstt-claimed =
      number-so Call.GetStt asker files terms asker.caller.regs.a (gets_of_device asker.caller files.io) (λ found. gets_status asker files found asker.caller.regs.b)
      (inl (record { device = Device.GetStt; device_is = refl; is = refl }))
      (λ found named. status-so Call.GetStt asker files terms found named asker.caller.regs.b)

  pub setstt-claimed : StepClaimed Call.SetStt asker files terms (i_setstt asker files)
  setstt-claimed =
      number-so Call.SetStt asker files terms asker.caller.regs.a (sets_of_device asker.caller files.io) (λ found. sets_status asker files found asker.caller.regs.b)
      (inl (record { device = Device.SetStt; device_is = refl; is = refl }))
      (λ found named. set-by Call.SetStt asker files terms found named refl (asker.caller.regs.b == SS_SIZE)
      (asker.caller.regs.b == SS_TICKS) (asker.caller.regs.b == SS_LOCK) (asker.caller.regs.b == SS_ATTR) refl
      refl)

  pub close-claimed : StepClaimed Call.Close asker files terms (i_close asker files)
  close-claimed =
      number-so Call.Close asker files terms asker.caller.regs.a (closes_device asker.caller files.io)
      (λ found. done asker.caller.regs (files_after_close files asker.caller.process.0 asker.caller.regs.a
      found.opened.path.0))
      (inl (record { device = Device.Close; device_is = refl; is = refl }))
      (λ found named. closed-so Call.Close asker files terms found named refl)

  pub seek-claimed : StepClaimed Call.Seek asker files terms (i_seek asker files)
  seek-claimed =
      number-so Call.Seek asker files terms asker.caller.regs.a (seeks_nothing asker.caller files.io) (λ found. done asker.caller.regs (with_position files found.opened (long_of asker.caller.regs)))
      (inr refl)
      (λ found named. still-answered Call.Seek asker files terms (with_position files found.opened (long_of asker.caller.regs)) 0 [] asker.caller.regs refl refl)
