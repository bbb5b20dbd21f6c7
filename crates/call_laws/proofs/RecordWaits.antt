-- A call that waits for a record of a file is kept, like one that waits on a terminal or a pipe.
use Rattle.std.proofs.Common.{◌≡◌, ℕ, ◌<◌, Option, Some, None, IsSome, is_some, true, List, [], length, refl, sym, ap, ◌∙◌, subst, inr, arith}
use Rattle.std.specs.Prelude.{IsSomeAnd, MatchOption, unwrap_or}
use Rattle.std.proofs.lemmas.Bool.{false≢true}
use Rattle.std.proofs.lemmas.List.{get_or-set_same, length-set}
use Rattle.std.proofs.lemmas.Option.{none-some, same_Some}
use Rattle.io_model.specs.Read.{IsReadAllowed}
use Rattle.os9_base.specs.Cells.{FitsIn}
use Rattle.os9_base.specs.declared.registers.Regs.{Regs}
use Rattle.os9_base.specs.declared.registers.TimePacket.{TimePacket}
use Rattle.os9_outer.specs.TerminalState.{TerminalState}
use Rattle.proc_model.specs.declared.record.Life.TheVariants.{Waiting}
use Rattle.proc_model.specs.declared.record.Record.{Record}
use Rattle.proc_model.specs.Records.{IsLiving, is_waiting, record_at, record_of, with_record}
use Rattle.proc_model.specs.Attempts.{after_attempt}
use Rattle.proc_model.specs.CallResult.{CallResult}
use Rattle.proc_model.specs.Processes.{Processes, cells_at, own_at, regs_at}
use Rattle.proc_model.specs.Ready.{act_of, attempts}
use Rattle.proc_model.specs.UserBytes.{user_bytes}
use Rattle.lock_model.specs.declared.lock.Request.{Request}
use Rattle.io_model.specs.Path.{desc_of, slot_of}
use Rattle.io_model.specs.declared.path.Desc.{Desc}
use Rattle.io_model.specs.declared.pending.PendingCall.{PendingCall}
use Rattle.io_model.specs.Again.{IsPending, path_number}
use Rattle.io_model.specs.Codes.{io_call_of}
use Rattle.io_model.specs.Io.{Io, OpenPath, pending_at, open_path}
use Rattle.io_model.specs.Modes.{can_read}
use Rattle.io_model.specs.Step.{IoEffect, keeps}
use Rattle.io_model.specs.declared.io_call.Direction.TheVariants.{Reading}
use Rattle.io_model.specs.declared.io_call.IoCall.{IoCall}
use Rattle.file_rules.specs.Attempts.{asker_of}
use Rattle.file_rules.specs.Codes.{path_call_of}
use Rattle.file_rules.specs.Files.{Asker, Files, OpenFile}
use Rattle.file_rules.specs.Locking.{call_of, first_request, pending_request}
use Rattle.file_rules.specs.declared.path_call.PathCall.{PathCall}
use Rattle.file_rules.specs.declared.path_call.PathCall.TheVariants as Call
use Rattle.file_laws.proofs.Named.{opened-desc}
use Rattle.file_laws.specs.Devices.{device_call, number_in}
use Rattle.file_laws.specs.Touch.{WaitsForRecord}
use Rattle.file_laws.proofs.TouchCounts.{ClaimsAs, ReadsThere, claims-as, reads-there}
use Rattle.file_laws.specs.Claims.{CanRead}
use Rattle.file_laws.proofs.Codes.{code-there}
use Rattle.file_laws.proofs.Keeps.{file-opened, file-slot}
use Rattle.file_laws.proofs.Lengths.{user-fits}
use Rattle.call_laws.proofs.CallsKept.{AttemptLeft}
use Rattle.call_laws.proofs.OthersKept.{living-within}
use Rattle.call_laws.specs.Pending.{IsPendingCall, IsAllowedIfRead, WaitsInCall}
use Rattle.call_laws.proofs.Codes.{attempts-code}
use Rattle.call_laws.proofs.EndsKept.{by-end}
use Rattle.call_laws.proofs.OthersLeft.{left-leaves}
use Rattle.call_laws.proofs.PathsKept.{IoLeft, io-call}
use Rattle.call_laws.specs.Terminals.{AreOnTerminals}
use Rattle.machine_model.specs.State.{State}
use Rattle.call_laws.specs.Running.{IsRunning, WaitsOnPath}
use Rattle.call_laws.proofs.Aside.{IoAside, leaves-aside}
use Rattle.call_laws.proofs.CallCodes.{code-is}
use Rattle.call_laws.proofs.InCalls.{IsWaiting, in-end}
use Rattle.call_laws.proofs.KeptEvents.{stays-on, there-at, there-lives}
use Rattle.call_laws.proofs.Requested.{waits-kept, waits-there}

-- ---- the number and the buffer of a call

-- a call takes the number that the call on a terminal or a pipe takes
number-same : (call : PathCall) (device : IoCall) (asker : Asker) → device_call call ≡ Some device → number_in call asker ≡ path_number device asker.caller.regs
number-same call device asker is =
    subst (λ (o : Option IoCall). MatchOption o (Unit {0}) (λ device. number_in call asker ≡ path_number device asker.caller.regs)) is (by_call call)
  where
    by_call : (call : PathCall) → MatchOption (device_call call) (Unit {0}) (λ device. number_in call asker ≡ path_number device asker.caller.regs)
    by_call Call.Dup = refl
    by_call Call.Create = refl
    by_call Call.Open = refl
    by_call Call.MakDir = tt
    by_call Call.ChgDir = tt
    by_call Call.Delete = tt
    by_call Call.DeletX = tt
    by_call Call.Seek = tt
    by_call Call.Read = refl
    by_call Call.Write = refl
    by_call Call.ReadLn = refl
    by_call Call.WritLn = refl
    by_call Call.GetStt = refl
    by_call Call.SetStt = refl
    by_call Call.Close = refl
    by_call Call.PErr = refl

module _ (asker : Asker) (io : Io) (p : ℕ) (found : OpenFile) where
  read-stays : CanRead asker found → open_path io p asker.caller.regs.a ≡ Some found.opened → IsReadAllowed asker.caller.cells asker.caller.regs io p
  read-stays (there, may, some) is = record {
    named = by_bytes (user_bytes asker.caller.cells asker.caller.regs.x asker.caller.regs.y) refl there;
    mode = subst (λ (path : Option OpenPath). IsSomeAnd path (λ opened. can_read opened.desc.mode ≡ true)) (sym is) may;
  }
    where
      by_bytes : (bytes : Option (List ℕ)) → user_bytes asker.caller.cells asker.caller.regs.x asker.caller.regs.y ≡
          bytes → IsSome bytes → FitsIn asker.caller.cells asker.caller.regs.x asker.caller.regs.y
      by_bytes None is there = absurd (false≢true there)
      by_bytes (Some bytes) is there =
          user-fits asker.caller.cells asker.caller.regs.x asker.caller.regs.y bytes some is

  -- a call that is a read may read
  allowed-by : (call : PathCall) → ReadsThere call asker found → open_path io p (number_in call asker) ≡ Some
      found.opened → MatchOption (device_call call) (Unit {0}) (λ device. IsAllowedIfRead device asker.caller.cells
      asker.caller.regs io p)
  allowed-by Call.Dup reads is = λ way. absurd (none-some Reading way)
  allowed-by Call.Create reads is = λ way. absurd (none-some Reading way)
  allowed-by Call.Open reads is = λ way. absurd (none-some Reading way)
  allowed-by Call.MakDir reads is = tt
  allowed-by Call.ChgDir reads is = tt
  allowed-by Call.Delete reads is = tt
  allowed-by Call.DeletX reads is = tt
  allowed-by Call.Seek reads is = tt
  allowed-by Call.Read reads is = λ way. read-stays reads is
  allowed-by Call.Write reads is = λ way. absurd cc
  allowed-by Call.ReadLn reads is = λ way. read-stays reads is
  allowed-by Call.WritLn reads is = λ way. absurd cc
  allowed-by Call.GetStt reads is = λ way. absurd (none-some Reading way)
  allowed-by Call.SetStt reads is = λ way. absurd (none-some Reading way)
  allowed-by Call.Close reads is = λ way. absurd (none-some Reading way)
  allowed-by Call.PErr reads is = λ way. absurd cc

  allowed : (call : PathCall) (device : IoCall) → device_call call ≡ Some device → ReadsThere call asker found
      → open_path io p (number_in call asker) ≡ Some found.opened → IsAllowedIfRead device asker.caller.cells
      asker.caller.regs io p
  allowed call device is reads named =
      subst (λ (o : Option IoCall). MatchOption o (Unit {0}) (λ device. IsAllowedIfRead device asker.caller.cells asker.caller.regs io p)) is (allowed-by call reads named)

-- ---- the call that is kept

module _ (s : State) (p code : ℕ) (running : IsRunning s) (lives : IsLiving s.processes.records p)
    (next : act_of s.processes p ≡ attempts code) (now : TimePacket) (call : PathCall) (coded : path_call_of code ≡ Some
    call) (result : CallResult) (new : Files) (before after : List TerminalState) (it : WaitsForRecord call s.processes
    s.files now p result new before after) where
  abbrev asker : Asker
  asker = asker_of s.processes p now

  -- what is kept is kept of the call that the process made, which is not refused
  record IsOfCall (pending : PendingCall) : Type 0 where
    pub made : (own_at s.processes p).call ≡ Some pending.code
    pub device : IoCall
    pub again : IsPending device (regs_at s.processes p) s.files.io p pending
    pub stays : IsAllowedIfRead device (cells_at s.processes p) (regs_at s.processes p) s.files.io p

  -- at its first attempt
  claimed : ClaimsAs call asker it.requests.claim → IsOfCall (call_of (first_request asker it.requests.found it.requests.claim))
  claimed claims =
      let attempted : io_call_of code ≡ Some claims.device = code-there code call coded ∙ claims.device_is in
      let same : code ≡ it.requests.claim.code = code-is code claims.device attempted ∙ sym (code-is it.requests.claim.code claims.device claims.code) in
      let number : number_in call asker ≡ path_number claims.device (regs_at s.processes p) = number-same call claims.device asker claims.device_is in
      record {
        made = attempts-code s.processes p code next ∙ ap Some same;
        device = claims.device;
        again = record {
          code = claims.code;
          path =
              ap (slot_of s.files.io.paths p) (sym number) ∙ file-slot s.files p (number_in call asker) it.requests.found it.requests.names;
          count = claims.count;
          unfinished = claims.some;
        };
        stays =
            allowed asker s.files.io p it.requests.found call claims.device claims.device_is
            (reads-there asker s.files it.requests.found call it.requests.claim it.requests.claims)
            (file-opened s.files p (number_in call asker) it.requests.found it.requests.names);
      }

  of-call : IsOfCall (call_of it.request)
  of-call = by_kept (pending_request asker s.files) refl it.requests.is
    where
      by_kept : (pending : Option Request) → pending_request asker s.files ≡ pending → it.request ≡ unwrap_or pending (first_request asker it.requests.found it.requests.claim)
          → IsOfCall (call_of it.request)
      by_kept None none is =
          subst (λ (request : Request). IsOfCall (call_of request)) (sym is) (claimed (claims-as asker s.files it.requests.found call it.requests.claim none it.requests.claims))
      by_kept (Some request) there is =
          let pending = running.kept p (call_of request) (running.requested p request there).kept in
          subst (λ (request : Request). IsOfCall (call_of request)) (sym is) (record { made = pending.made; device = pending.call; again = pending.again; stays = pending.stays })

  -- ---- the process then

  abbrev waiting_record : Record
  waiting_record = record (record_at s.processes.records p) { life = Waiting }

  abbrev pub waiting_then : Processes
  waiting_then = record s.processes { records = with_record s.processes.records p waiting_record }

  pub is-waiting : after_attempt s.processes p result ≡ waiting_then
  is-waiting = ap (after_attempt s.processes p) it.result_is

  pub waits-within : p < length s.files.io.calls
  waits-within =
      let here : p < length s.processes.records = living-within s.processes.records p lives in
      let places = running.places in
      omega (arith, here, places)

  keeps-waiting : IsPendingCall waiting_then new.io p (call_of it.request)
  keeps-waiting =
      let at : record_of waiting_then.records p ≡ Some waiting_record = get_or-set_same s.processes.records p (Some waiting_record) None (living-within s.processes.records p lives) in
      let here = there-at waiting_then.records p waiting_record at in
      record {
        lives = there-lives waiting_then.records p waiting_record at refl;
        waits = ap (λ (r : Record). is_waiting r.life) here;
        made = of-call.made;
        call = of-call.device;
        again = subst (λ (regs : Regs). IsPending of-call.device regs new.io p (call_of it.request)) (sym (ap (λ (r : Record). r.regs) here)) (record {
          code = of-call.again.code;
          path =
              ap (λ (io : Io). slot_of io.paths p (path_number of-call.device (regs_at s.processes p))) it.io ∙ of-call.again.path;
          count = of-call.again.count;
          unfinished = of-call.again.unfinished;
        });
        stays = stays-on of-call.device (cells_at s.processes p) (cells_at waiting_then p) (regs_at s.processes p) _ s.files.io new.io p (ap (λ (r : Record). r.regs) here)
            (λ at count fits. fits)
            (λ number opened is. ap (λ (io : Io). open_path io p number) it.io ∙ is) of-call.stays;
      }

  -- what is kept then
  pub waits-keep : (pending : PendingCall) → pending_at new.io p ≡ Some pending → IsPendingCall waiting_then new.io p pending
  waits-keep pending is =
      subst (λ (o : Option PendingCall). MatchOption o (Unit {0}) (IsPendingCall waiting_then new.io p))
      (sym (waits-kept call s.processes s.files now p result new before after running.requested it waits-within) ∙ is)
      keeps-waiting

  -- it waits in this call
  abbrev effect : IoEffect
  effect = record { end = keeps (call_of it.request); at = 0; bytes = []; io = s.files.io }

  many : length new.io.calls ≡ length s.files.io.calls
  many =
      ap (λ (io : Io). length io.calls) it.io ∙ length-set s.files.io.calls p (Some (call_of it.request))

  pub waits-in : IsWaiting waiting_then.records p → WaitsInCall waiting_then new.io p
  waits-in =
      in-end s.processes s.files.io p running.in_calls lives running.places code effect (keeps (call_of it.request)) new.io next it.io many

  -- its path is open
  open-request : (desc : Desc) × (desc_of s.files.io.paths it.request.path ≡ Some desc)
  open-request = by_kept (pending_request asker s.files) refl it.requests.is
    where
      by_kept : (pending : Option Request) → pending_request asker s.files ≡ pending → it.request ≡ unwrap_or pending (first_request asker it.requests.found it.requests.claim)
          → (desc : Desc) × (desc_of s.files.io.paths it.request.path ≡ Some desc)
      by_kept None none is = (
        it.requests.found.opened.desc,
        ap (λ (request : Request). desc_of s.files.io.paths request.path) is ∙ opened-desc s.files p (number_in call asker) it.requests.found it.requests.names,
      )
      by_kept (Some request) there is =
          let was = running.waits p (call_of request) (running.requested p request there).kept in
          (was.desc, ap (λ (request : Request). desc_of s.files.io.paths request.path) is ∙ was.there)

  pub waits-on : (pending : PendingCall) → pending_at new.io p ≡ Some pending → WaitsOnPath new p pending
  waits-on pending is =
      let same : call_of it.request ≡ pending = same_Some (call_of it.request) pending (sym (waits-kept call s.processes s.files now p result new before after running.requested it waits-within) ∙ is)
      in
      let here : p < length s.processes.records = living-within s.processes.records p lives in
      let rooms = running.rooms in
      subst (WaitsOnPath new p) same (record {
        desc = open-request.0;
        there = ap (λ (io : Io). desc_of io.paths it.request.path) it.io ∙ open-request.1;
        on = inr (ap is_some (waits-there call s.processes s.files now p result new before after running.requested it (omega (arith, here, rooms))));
      })

  pub waits-left : AttemptLeft s.processes p result
  waits-left =
      subst (AttemptLeft s.processes p) (sym it.result_is) (by-end s.processes p effect (keeps (call_of it.request)))

  pub waits-aside : IoAside s.processes.records (length s.terms) p s.files.io new.io
  waits-aside =
      leaves-aside s.processes.records (length s.terms) p s.files.io new.io
      (left-leaves p s.files.io new.io (subst (λ (io : Io). IoLeft p s.files.io io) (sym it.io) (io-call p s.files.io (Some (call_of it.request)))))
      many (subst (λ (io : Io). AreOnTerminals (length s.terms) s.files.io.paths → AreOnTerminals (length s.terms) io.paths) (sym it.io) (λ on. on))
