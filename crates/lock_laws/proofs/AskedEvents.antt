-- After an event each request is for bytes of the file of its path, and covers what its call changes.
use Rattle.std.proofs.Common.{◌≡◌, ◌≢◌, ◌⊎◌, ℕ, ◌==◌, Bool, true, false, Option, Some, None, Result, Ok, Err, List, length, refl, sym, ap, ◌∙◌, subst, inl, inr}
use Rattle.std.specs.Prelude.{option_and_then, option_map, unwrap_or, if◌then◌else◌}
use Rattle.std.specs.Option.{option_map_or}
use Rattle.std.proofs.lemmas.Bool.{cases_eq, eqb-true, false≢true}
use Rattle.std.proofs.lemmas.List.{get_or-set_same}
use Rattle.std.proofs.lemmas.Option.{none-some, same_Some}
use Rattle.os9_base.specs.declared.calls.TheConstants.{F_LOAD, F_STIME, F_TIME}
use Rattle.os9_base.specs.declared.registers.Regs.{Regs}
use Rattle.os9_base.specs.declared.registers.TimePacket.{TimePacket}
use Rattle.cpu_model.specs.Step.{Aborts, Calls, Done, Outcome}
use Rattle.proc_model.specs.Records.{IsLiving, has_ended, record_at, record_of}
use Rattle.proc_model.specs.declared.record.Record.{Record}
use Rattle.proc_model.specs.declared.record.Life.TheVariants.{Waiting}
use Rattle.proc_model.specs.Attempts.{after_attempt}
use Rattle.proc_model.specs.CallResult.{CallResult, done, ends, refused, waits}
use Rattle.proc_model.specs.Codes.{call_of}
use Rattle.proc_model.specs.Delivery.{delivered}
use Rattle.proc_model.specs.Processes.{Processes, regs_at}
use Rattle.proc_model.specs.Ready.{Act, act_of, attempts, delivers, executes}
use Rattle.proc_model.specs.declared.proc_call.ProcCall.{ProcCall}
use Rattle.proc_model.specs.declared.proc_call.ProcCall.TheVariants as Call
use Rattle.io_model.specs.Path.{desc_of, slot_of}
use Rattle.io_model.specs.declared.path.Desc.{Desc}
use Rattle.io_model.specs.declared.path.SysPath.{SysPath}
use Rattle.io_model.specs.Again.{path_number}
use Rattle.io_model.specs.Codes.{io_call_of}
use Rattle.io_model.specs.Io.{Io, OpenPath, open_path}
use Rattle.io_model.specs.declared.io_call.IoCall.{IoCall}
use Rattle.lock_model.specs.Locks.{request_of}
use Rattle.lock_model.specs.Records.{Records}
use Rattle.lock_model.specs.declared.lock.Request.{Request}
use Rattle.lock_model.specs.declared.place.FilePlace.{FilePlace}
use Rattle.lock_model.proofs.Ranks.{get-written}
use Rattle.file_rules.specs.Attempts.{asker_of}
use Rattle.file_rules.specs.Codes.{path_call_of}
use Rattle.file_rules.specs.Files.{Files}
use Rattle.file_rules.specs.Locking.{call_of as kept_call, files_interrupted, first_request}
use Rattle.file_rules.specs.Processes.{files_ended}
use Rattle.file_rules.specs.declared.path_call.PathCall.{PathCall}
use Rattle.file_laws.proofs.Named.{path-desc}
use Rattle.time_rules.specs.Codes.{time_call_of}
use Rattle.time_rules.specs.declared.time_call.TimeCall.{TimeCall}
use Rattle.time_rules.specs.declared.time_call.TimeCall.TheVariants as Time
use Rattle.call_laws.specs.Others.{ComesOf}
use Rattle.call_laws.proofs.Codes.{attempts-code}
use Rattle.call_laws.proofs.OthersKept.{living-record, living-within}
use Rattle.file_laws.specs.Attempt.{Attempt, OnDevice, TouchesNone, WaitsOnRecord}
use Rattle.file_laws.specs.Claims.{CoversCall}
use Rattle.file_laws.specs.Touch.{WaitsForRecord}
use Rattle.file_laws.proofs.Loads.{chain-leaves, fork-leaves, load-leaves}
use Rattle.file_laws.proofs.OfAttempts.{comes-of}
use Rattle.machine_model.specs.ProcessEvent.{next_instruction}
use Rattle.machine_model.specs.declared.ends.EventEnd.{EventEnd}
use Rattle.machine_model.specs.Event.{Acts, Event, before_delivery, files_after_delivery, files_after_instruction}
use Rattle.machine_model.specs.Services.{Serves, Service, files_after_call, files_after_fork, loads, no_call, on_paths, on_processes, on_time, service_of}
use Rattle.machine_model.specs.State.{Rest, State, with_rest}
use Rattle.isolation_laws.specs.InputOutput.{LeavesIo}
use Rattle.isolation_laws.proofs.Asked.{Asks, asks}
use Rattle.isolation_laws.proofs.EventsKept.{event-leaves}
use Rattle.isolation_laws.proofs.IoEvents.{event-leaves-io}
use Rattle.call_laws.proofs.CallCodes.{not-both}
use Rattle.call_laws.proofs.KeptEvents.{executes-none, lives-runs, no-call, there-at}
use Rattle.call_laws.proofs.RecordWaits.{is-waiting, waits-keep, waits-within, waiting_then}
use Rattle.call_laws.proofs.Requested.{none-ended, none-interrupted, waits-kept}
use Rattle.lock_laws.specs.Contents.{IsCovered, IsPathOn}
use Rattle.lock_laws.proofs.Covering.{request-covers}
use Rattle.lock_laws.specs.Locked.{IsAskedFor, IsRunLocked}
use Rattle.lock_laws.proofs.Covered.{request-path, state-covered}
use Rattle.lock_laws.proofs.HeldAttempts.{request-on}
use Rattle.lock_laws.proofs.VolumeEvents.{attempt_by}

-- ---- the other processes

-- another process that waits has the registers that it had
regs-stay : (m : Processes) (p : ℕ) (end : EventEnd) (n : Processes) (q : ℕ) → IsLiving m.records q
    → ComesOf m p end n q (record_of m.records q) (record_of n.records q) → regs_at n q ≡ regs_at m q
regs-stay m p end n q lives comes =
    by_new (record_of n.records q) refl (subst (λ (old : Option Record). ComesOf m p end n q old (record_of n.records q)) (living-record m.records q lives) comes)
  where
    by_new : (new : Option Record) → record_of n.records q ≡ new → ComesOf m p end n q (Some (record_at m.records q)) (record_of n.records q) → regs_at n q ≡ regs_at m q
    by_new None is comes =
        let ended : has_ended (record_at m.records q).life ≡ true =
        (subst (ComesOf m p end n q (Some (record_at m.records q))) is comes).had_ended in
        absurd (false≢true (sym (lives-runs m.records q lives) ∙ ended))
    by_new (Some r) is comes =
        ap (λ (r : Record). r.regs) (there-at n.records q r is)
        ∙ ap (λ (r : Record). r.regs) (subst (ComesOf m p end n q (Some (record_at m.records q))) is comes).record_is.others

-- a path that another process names stays on its file
path-stays : (s : State) (p : ℕ) (t : State) → LeavesIo s p t → (q n path : ℕ) (place : FilePlace) → q ≢ p → IsLiving s.processes.records q
    → slot_of s.files.io.paths q n ≡ Some (record { 0 = path }) → IsPathOn s.files.io.paths path place → IsPathOn t.files.io.paths path place
path-stays s p t leaves q n path place differ lives named on =
    let it = leaves.paths q n opened differ lives opens in
    let there : desc_of t.files.io.paths it.now.path.0 ≡ Some it.now.desc = path-desc t.files.io q n it.now it.is in
    record {
      desc = it.now.desc;
      there = ap (λ (path : SysPath). desc_of t.files.io.paths path.0) (sym it.same.path) ∙ there;
      on = ap (λ (desc : Desc). desc.target) it.same.desc ∙ on.on;
    }
  where
    opened : OpenPath
    opened = record { path = record { 0 = path }; desc = on.desc }

    with_place : SysPath → Option Desc → Option OpenPath
    with_place path place = option_map (λ (desc : Desc). let r : OpenPath = record { path = path; desc = desc } in r) place

    opens : open_path s.files.io q n ≡ Some opened
    opens =
        ap (option_and_then (λ (path : SysPath). with_place path (desc_of s.files.io.paths path.0))) named
        ∙ ap (with_place (record { 0 = path })) on.there

module _ (s t : State) (end : EventEnd) (p : ℕ) (chosen : s.chosen ≡ Some p) (event : Event s end t) (it : IsRunLocked s) where
  other-asked : (q : ℕ) → q ≢ p → (request : Request) → request_of s.files.records.locks q ≡ Some request → IsAskedFor t q request
  other-asked q differ request is =
      let asked = it.on.asked q request is in
      let kept = it.state.running.kept q (kept_call request) (it.state.running.requested q request is).kept in
      let regs : regs_at t.processes q ≡ regs_at s.processes q = regs-stay s.processes p end t.processes q kept.lives ((event-leaves s t end p chosen event).others q differ) in
      record {
        on =
            path-stays s p t (event-leaves-io s t end p chosen event) q (path_number kept.call (regs_at s.processes q)) request.path request.lock.file differ kept.lives kept.again.path asked.on;
        call = asked.call;
        code = asked.code;
        covers = subst (λ (regs : Regs). CoversCall asked.call regs request) (sym regs) asked.covers;
      }

-- ---- codes

time-no-io : (code : ℕ) (call : TimeCall) (other : IoCall) → time_call_of code ≡ Some call → io_call_of code ≡ Some other → ⊥
time-no-io code call other coded is = by_tests (F_TIME == code) (F_STIME == code) refl refl coded
  where
    by_tests : (one other_one : Bool) → (F_TIME == code) ≡ one → (F_STIME == code) ≡ other_one
        → option_map (λ (coded : ℕ × TimeCall). coded.1) (if one then Some (F_TIME, Time.Time) else
        (if other_one then Some (F_STIME, Time.STime) else None)) ≡ Some call → ⊥
    by_tests true other_one first second coded = none-some other (ap io_call_of (eqb-true F_TIME code first) ∙ is)
    by_tests false true first second coded = none-some other (ap io_call_of (eqb-true F_STIME code second) ∙ is)
    by_tests false false first second coded = none-some call coded

-- a code of a call on paths asks for no other service
none-asked : (code : ℕ) (call : PathCall) → path_call_of code ≡ Some call → service_of code ≡ no_call → ⊥
none-asked code call coded is = by_load (code == F_LOAD) is
  where
    by_path : (path : Option PathCall) → path_call_of code ≡ path → option_map_or on_paths path no_call ≡ no_call → ⊥
    by_path None other is = none-some call (sym other ∙ coded)
    by_path (Some path) other is = cc

    by_time : (time : Option TimeCall) → option_map_or on_time time (option_map_or on_paths (path_call_of code) no_call) ≡ no_call → ⊥
    by_time None is = by_path (path_call_of code) refl is
    by_time (Some time) is = cc

    by_call : option_map_or on_processes (call_of code) (option_map_or on_time (time_call_of code) (option_map_or on_paths (path_call_of code) no_call)) ≡ no_call → ⊥
    by_call is = by_process (call_of code) is
      where
        by_process : (process : Option ProcCall) → option_map_or on_processes process (option_map_or on_time (time_call_of code) (option_map_or on_paths (path_call_of code) no_call)) ≡ no_call → ⊥
        by_process None is = by_time (time_call_of code) is
        by_process (Some process) is = cc

    by_load : (load : Bool) → (if load then loads else option_map_or on_processes (call_of code) (option_map_or on_time (time_call_of code)
        (option_map_or on_paths (path_call_of code) no_call))) ≡ no_call → ⊥
    by_load true is = cc
    by_load false is = by_call is

-- ---- the process itself

module _ (s : State) (p : ℕ) (it : IsRunLocked s) (lives : IsLiving s.processes.records p) where
  -- it has no request in these files
  abbrev HasNone : Files → Type 0
  HasNone files = (request : Request) → request_of files.records.locks p ≡ Some request → ⊥

  none-has : (files : Files) → request_of files.records.locks p ≡ None → HasNone files
  none-has files none request is = none-some request (sym none ∙ is)

  same-has : (files : Files) → files.records ≡ s.files.records → HasNone s.files → HasNone files
  same-has files same none request is =
      none request (sym (ap (λ (records : Records). request_of records.locks p) same) ∙ is)

  ended-has : HasNone (files_ended s.files p)
  ended-has = none-has (files_ended s.files p) (none-ended s.files p).none

  instruction-has : HasNone s.files → (outcome : Outcome) → HasNone (files_after_instruction s.files p outcome)
  instruction-has none (Done effect) = none
  instruction-has none (Calls code regs) = none
  instruction-has none (Aborts status) = ended-has

  delivery-has : (result : Result Processes ℕ) → HasNone (files_after_delivery s.files p result)
  delivery-has (Ok t) = none-has (files_interrupted s.files p) (none-interrupted s.files p).none
  delivery-has (Err status) = ended-has

  call-has : HasNone s.files → (result : CallResult) → HasNone (files_after_call s.files p result)
  call-has none (done t) = none
  call-has none (refused number) = none
  call-has none (waits t) = none
  call-has none (ends status) = ended-has

  fork-has : (files : Files) → HasNone files → (result : CallResult) → HasNone (files_after_fork files p result)
  fork-has files none (done t) = none
  fork-has files none (refused number) = none
  fork-has files none (waits t) = none
  fork-has files none (ends status) = none

  -- a process that executes waits in none
  executes-has : act_of s.processes p ≡ executes → HasNone s.files
  executes-has next request is =
      none-some (kept_call request)
      (sym (no-call s.processes s.files.io p it.state.running.kept lives (executes-none s.processes s.files.io p it.state.running.kept lives next))
      ∙ (it.state.running.requested p request is).kept)

  module _ (code : ℕ) (next : act_of s.processes p ≡ attempts code) where
    -- a request that waits is of the call that is attempted
    asked-code : (request : Request) → request_of s.files.records.locks p ≡ Some request → (device : IoCall) × (io_call_of code ≡ Some device) × (call : PathCall) × (path_call_of code ≡ Some call)
    asked-code request is =
        let asked = it.on.asked p request is in
        let kept = it.state.running.kept p (kept_call request) (it.state.running.requested p request is).kept in
        let same : code ≡ request.code = same_Some code request.code (sym (attempts-code s.processes p code next) ∙ kept.made) in
        (kept.call, ap io_call_of same ∙ kept.again.code, asked.call, ap path_call_of same ∙ asked.code)

    abbrev IsOnPaths : Service → Type 0
    IsOnPaths (on_paths call) = Unit {0}
    IsOnPaths service = ⊥

    other-has : (service : Service) → service_of code ≡ service → (IsOnPaths service → ⊥) → HasNone s.files
    other-has service serves apart request is =
        let (device, io, call, path) = asked-code request is in
        by_service service serves apart device io call path (subst (Asks code) serves (asks code))
      where
        by_service : (service : Service) → service_of code ≡ service → (IsOnPaths service → ⊥) → (device : IoCall) → io_call_of code ≡ Some device
            → (call : PathCall) → path_call_of code ≡ Some call → Asks code service → ⊥
        by_service loads serves apart device io call path asks = none-some device (ap io_call_of (sym asks) ∙ io)
        by_service (on_processes other) serves apart device io call path asks = not-both code other device asks io
        by_service (on_time other) serves apart device io call path asks = time-no-io code other device asks io
        by_service (on_paths other) serves apart device io call path asks = apart tt
        by_service no_call serves apart device io call path asks = none-asked code call path serves

    -- ---- a call on paths

    module _ (now : TimePacket) (call : PathCall) (coded : path_call_of code ≡ Some call) (result : CallResult) (rest : Rest) where
      abbrev reached : State
      reached = with_rest s (after_attempt s.processes p result) rest

      covered : IsCovered (record { call = call; asker = asker_of s.processes p now; files = s.files; terms = length s.terms })
      covered = state-covered s p code it.state.running it.on next now call coded (length s.terms)

      abbrev Waiting_on : Type 0
      Waiting_on = WaitsForRecord call s.processes s.files now p result rest.files s.terms rest.terms

      waits-regs : Waiting_on → regs_at reached.processes p ≡ regs_at s.processes p
      waits-regs waiting =
          ap (λ (n : Processes). regs_at n p) (is-waiting s p code it.state.running lives next now call coded result rest.files s.terms rest.terms waiting)
          ∙ ap (λ (r : Record). r.regs) (there-at (slots waiting) p _ (get_or-set_same s.processes.records p
          (Some (record (record_at s.processes.records p) { life = Waiting })) None (living-within s.processes.records p lives)))
        where
          slots : Waiting_on → List (Option Record)
          slots waiting = (waiting_then s p code it.state.running lives next now call coded result rest.files s.terms rest.terms waiting).records

      waits-code : (waiting : Waiting_on) → waiting.request.code ≡ code
      waits-code waiting =
          let kept = waits-keep s p code it.state.running lives next now call coded result rest.files s.terms rest.terms waiting (kept_call waiting.request)
          (waits-kept call s.processes s.files now p result rest.files s.terms rest.terms it.state.running.requested waiting
          (waits-within s p code it.state.running lives next now call coded result rest.files s.terms rest.terms waiting)) in
          same_Some waiting.request.code code (sym kept.made ∙ attempts-code s.processes p code next)

      waits-asked : (waiting : Waiting_on) → IsAskedFor reached p waiting.request
      waits-asked waiting = record {
        on =
            subst (λ (io : Io). IsPathOn io.paths waiting.request.path waiting.request.lock.file) (sym waiting.io)
            (subst (λ (path : ℕ). IsPathOn s.files.io.paths path waiting.request.lock.file)
            (request-path s p code it.state.running it.on next now call coded (length s.terms) waiting.request waiting.requests)
            (request-on _ it.state.running.kinds covered waiting.request waiting.requests));
        call = call;
        code = ap path_call_of (waits-code waiting) ∙ coded;
        covers =
            subst (λ (regs : Regs). CoversCall call regs waiting.request) (sym (waits-regs waiting)) (request-covers _ covered waiting.request waiting.requests);
      }

      -- the request that is there then is the one in which it waits
      waits-same : (waiting : Waiting_on) (request : Request) → request_of rest.files.records.locks p ≡ Some request → waiting.request ≡ request
      waits-same waiting request is =
          by_place (get-written s.files.records.locks.requests waiting.request.lock.owner.0 p waiting.request request
          (sym (ap (λ (records : Records). request_of records.locks p) waiting.records) ∙ is))
        where
          by_place : ((p ≡ waiting.request.lock.owner.0) × (waiting.request ≡ request)) ⊎ (request_of s.files.records.locks p ≡ Some request) → waiting.request ≡ request
          by_place (inl (at, same)) = same
          by_place (inr was) =
              waiting.requests.is
              ∙ ap (λ (kept : Option Request). unwrap_or kept (first_request (asker_of s.processes p now) waiting.requests.found waiting.requests.claim)) was

      path-asked : Serves (on_paths call) s now p result rest → (request : Request) → request_of rest.files.records.locks p ≡ Some request → IsAskedFor reached p request
      path-asked (attempted, clock) request is = by_touch (comes-of attempt)
        where
          attempt : Attempt
          attempt = attempt_by s p now call result rest attempted

          by_touch : OnDevice attempt ⊎ TouchesNone attempt ⊎ WaitsOnRecord attempt → IsAskedFor reached p request
          by_touch (inl on) = absurd (none-some request (sym on.0.requests.none ∙ is))
          by_touch (inr (inl none)) = absurd (none-some request (sym none.requests.none ∙ is))
          by_touch (inr (inr waiting)) =
              subst (IsAskedFor reached p) (waits-same waiting request is) (waits-asked waiting)

    -- ---- each service

    module _ (now : TimePacket) (result : CallResult) (rest : Rest) where
      abbrev after : State
      after = with_rest s (after_attempt s.processes p result) rest

      abbrev files_in : Rest → Files
      files_in rest = rest.files

      rest-asked : (files : Files) → files_in rest ≡ files → HasNone files → (request : Request) → request_of rest.files.records.locks p ≡ Some request → IsAskedFor after p request
      rest-asked files same none request is =
          absurd (none request (sym (ap (λ (files : Files). request_of files.records.locks p) same) ∙ is))

      serves-asked : (service : Service) → service_of code ≡ service → Serves service s now p result rest
          → (request : Request) → request_of rest.files.records.locks p ≡ Some request → IsAskedFor after p request
      serves-asked loads serves (files, read, is) =
          rest-asked files (ap files_in is) (same-has files (load-leaves s.processes (asker_of s.processes p now) s.files (length s.terms) p result files read).records
          (other-has loads serves (λ no. no)))
      serves-asked (on_processes Call.Fork) serves (files, read, is) =
          rest-asked (files_after_fork files p result) (ap files_in is)
          (fork-has files (same-has files (fork-leaves s.processes (asker_of s.processes p now) s.files (length s.terms) p result files read).records
          (other-has (on_processes Call.Fork) serves (λ no. no))) result)
      serves-asked (on_processes Call.Chain) serves (files, read, is) =
          rest-asked files (ap files_in is)
          (same-has files (chain-leaves s.processes (asker_of s.processes p now) s.files (length s.terms) p result files read).records
          (other-has (on_processes Call.Chain) serves (λ no. no)))
      serves-asked (on_processes call) serves served =
          rest-asked (files_after_call s.files p result) (ap files_in served.1) (call-has (other-has (on_processes call) serves (λ no. no)) result)
      serves-asked (on_time call) serves (clock, timed, is) =
          rest-asked s.files (ap files_in is) (other-has (on_time call) serves (λ no. no))
      serves-asked (on_paths call) serves served = path-asked now call (subst (Asks code) serves (asks code)) result rest served
      serves-asked no_call serves (refusal, is) =
          rest-asked s.files (ap files_in is) (other-has no_call serves (λ no. no))

  -- ---- an event

  pub acts-asked : (act : Act) (end : EventEnd) (t : State) → act_of s.processes p ≡ act → Acts act s p end t
      → (request : Request) → request_of t.files.records.locks p ≡ Some request → IsAskedFor t p request
  acts-asked executes end t next (over, is) request there =
      absurd (instruction-has (executes-has next) (next_instruction s.processes p) request (sym (ap (λ (t : State). request_of t.files.records.locks p) is) ∙ there))
  acts-asked (delivers signal) end t next (over, is) request there =
      absurd (delivery-has (delivered (before_delivery s p) p signal) request (sym (ap (λ (t : State). request_of t.files.records.locks p) is) ∙ there))
  acts-asked (attempts code) end t next (result, rest, (now, is_now, served), over, is) request there =
      subst (λ (t : State). IsAskedFor t p request) (sym is)
      (serves-asked code next now result rest (service_of code) refl served request
      (sym (ap (λ (t : State). request_of t.files.records.locks p) is) ∙ there))

-- each request of a state after an event
pub event-asked : (s t : State) (end : EventEnd) (p : ℕ) → s.chosen ≡ Some p → (event : Event s end t) → IsRunLocked s
    → ((q : ℕ) → q ≢ p → request_of t.files.records.locks q ≡ request_of s.files.records.locks q)
    → (q : ℕ) (request : Request) → request_of t.files.records.locks q ≡ Some request → IsAskedFor t q request
event-asked s t end p chosen (chosen_one, is_chosen, lives, acts) it others q request is = by_process (cases_eq q p)
  where
    same : chosen_one ≡ p
    same = same_Some chosen_one p (sym is_chosen ∙ chosen)

    by_process : (q ≡ p) ⊎ (q ≢ p) → IsAskedFor t q request
    by_process (inl at) =
        subst (λ (q : ℕ). IsAskedFor t q request) (same ∙ sym at)
        (acts-asked s chosen_one it lives (act_of s.processes chosen_one) end t refl acts request
        (ap (request_of t.files.records.locks) (same ∙ sym at) ∙ is))
    by_process (inr differ) =
        other-asked s t end p chosen (chosen_one, is_chosen, lives, acts) it q differ request (sym (others q differ) ∙ is)
