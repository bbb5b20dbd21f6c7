-- Locks, requests and their history agree after each event, each tick and each choice.
use Rattle.std.proofs.Common.{◌≡◌, ℕ, ◌==◌, Option, Some, None, Result, Ok, Err, length, refl, sym, ap, ◌∙◌, subst}
use Rattle.std.specs.Prelude.{unwrap_or}
use Rattle.std.proofs.lemmas.Option.{same_Some}
use Rattle.os9_base.specs.declared.registers.TimePacket.{TimePacket}
use Rattle.cpu_model.specs.Step.{Aborts, Calls, Done, Outcome}
use Rattle.proc_model.specs.CallResult.{CallResult, done, ends, refused, waits}
use Rattle.proc_model.specs.Delivery.{delivered}
use Rattle.proc_model.specs.Processes.{Processes, regs_at}
use Rattle.proc_model.specs.Ready.{Act, act_of, attempts, delivers, executes}
use Rattle.proc_model.specs.declared.proc_call.ProcCall.TheVariants as Call
use Rattle.lock_model.specs.Laws.{Covers}
use Rattle.lock_model.specs.Locks.{request_of}
use Rattle.lock_model.specs.Records.{AreLockRecords}
use Rattle.lock_model.specs.declared.lock.Request.{Request}
use Rattle.lock_model.specs.declared.lock.TheConstants.{PATH_PLACES}
use Rattle.lock_model.proofs.Agreeing.{records-ended-below, records-first, records-forgotten}
use Rattle.io_model.specs.Again.{KeepsCount}
use Rattle.io_model.specs.Codes.{io_call_of}
use Rattle.io_model.specs.Io.{Io}
use Rattle.io_model.specs.declared.io_call.IoCall.{IoCall}
use Rattle.io_model.specs.declared.io_call.IoCall.TheVariants as Device
use Rattle.call_laws.proofs.Codes.{attempts-code}
use Rattle.file_rules.specs.Attempts.{asker_of}
use Rattle.file_rules.specs.Codes.{path_call_of}
use Rattle.file_rules.specs.Files.{Asker, Files, OpenFile}
use Rattle.file_rules.specs.Locking.{files_interrupted, first_request, lock_ends, pending_request}
use Rattle.file_rules.specs.Processes.{files_ended, files_started, io_left}
use Rattle.file_rules.specs.declared.claim.Claim.{Claim}
use Rattle.file_rules.specs.declared.path_call.PathCall.{PathCall}
use Rattle.file_rules.specs.declared.path_call.PathCall.TheVariants as Path
use Rattle.io_model.specs.declared.terminal.ReadKind.{ReadKind}
use Rattle.io_model.specs.declared.terminal.ReadKind.TheVariants.{Bytes, WholeLine}
use Rattle.file_laws.specs.Attempt.{Attempt, made_in}
use Rattle.file_laws.specs.Touch.{LeavesFiles}
use Rattle.file_laws.proofs.Codes.{code-there}
use Rattle.file_laws.proofs.Loads.{chain-leaves, fork-leaves, load-leaves}
use Rattle.machine_model.specs.ProcessEvent.{next_instruction}
use Rattle.machine_model.specs.declared.ends.EventEnd.{EventEnd}
use Rattle.machine_model.specs.Event.{Acts, Event, before_delivery, files_after_delivery, files_after_instruction}
use Rattle.machine_model.specs.Run.{Choose}
use Rattle.machine_model.specs.Services.{Serves, Service, files_after_call, files_after_fork, loads, no_call, on_paths, on_processes, on_time, service_of}
use Rattle.machine_model.specs.Start.{Boot, Starts}
use Rattle.machine_model.specs.State.{Rest, State}
use Rattle.isolation_laws.proofs.Asked.{Asks, asks}
use Rattle.call_laws.specs.Running.{IsRunning}
use Rattle.file_laws.specs.Claims.{Claims, CoversCall, MadePathCall, Requests, read_call}
use Rattle.file_laws.proofs.Claimed.{records-come}
use Rattle.lock_laws.proofs.Covering.{range-covers}
use Rattle.lock_laws.specs.Locked.{AreAgreed}
use Rattle.lock_laws.proofs.Changes.{CoversLine, come-agreed}
use Rattle.lock_laws.proofs.Places.{places-attempt, places-ended, places-interrupted}

-- ---- files

module _ (files : Files) (p : ℕ) (agreed : AreAgreed files) where
  ended-agreed : AreAgreed (files_ended files p)
  ended-agreed = record {
    records =
        records-ended-below (lock_ends (io_left files p).io.paths (λ owner. owner == p)) PATH_PLACES (io_left files p).records (records-forgotten files.records p agreed.records);
    places = places-ended PATH_PLACES files.io p agreed.places;
  }

  interrupted-agreed : AreAgreed (files_interrupted files p)
  interrupted-agreed = record {
    records = records-forgotten files.records p agreed.records;
    places = places-interrupted PATH_PLACES files.io p agreed.places;
  }

  started-agreed : (child : ℕ) → AreAgreed (files_started files p child)
  started-agreed child = record { records = agreed.records; places = agreed.places }

  instruction-agreed : (outcome : Outcome) → AreAgreed (files_after_instruction files p outcome)
  instruction-agreed (Done effect) = agreed
  instruction-agreed (Calls code regs) = agreed
  instruction-agreed (Aborts status) = ended-agreed

  delivery-agreed : (result : Result Processes ℕ) → AreAgreed (files_after_delivery files p result)
  delivery-agreed (Ok t) = interrupted-agreed
  delivery-agreed (Err status) = ended-agreed

  call-agreed : (result : CallResult) → AreAgreed (files_after_call files p result)
  call-agreed (done t) = agreed
  call-agreed (refused number) = agreed
  call-agreed (waits t) = agreed
  call-agreed (ends status) = ended-agreed

  fork-agreed : (result : CallResult) → AreAgreed (files_after_fork files p result)
  fork-agreed (done t) = started-agreed (regs_at t p).a
  fork-agreed (refused number) = agreed
  fork-agreed (waits t) = agreed
  fork-agreed (ends status) = agreed

-- what reads a file at most
left-agreed : {reached : Option ℕ} {result : CallResult} (old new : Files) → LeavesFiles reached old result new → AreAgreed old → AreAgreed new
left-agreed old new left agreed = record {
  records = subst AreLockRecords (sym left.records) agreed.records;
  places = ap (λ (io : Io). length io.paths.descs) left.io ∙ agreed.places;
}

-- ---- a line read covers what it takes

read-read : (kind : ReadKind) → Path.ReadLn ≡ read_call kind → kind ≡ WholeLine
read-read Bytes is = absurd (differ is)
  where
    differ : Path.ReadLn ≡ Path.Read → ⊥
    differ is = cc
read-read WholeLine is = refl

module _ (asker : Asker) (files : Files) (found : OpenFile) (claim : Claim) where
  claim-covers : Claims Path.ReadLn asker files found claim → Covers claim.range asker.caller.regs.y
  claim-covers (Claims.reads kind is can update more claim_is) =
      subst (λ (claim : Claim). Covers claim.range asker.caller.regs.y) (sym claim_is) (range-covers (length found.file.contents) _ asker.caller.regs.y)
  claim-covers (Claims.writes bytes is can there claim_is) = absurd (differ is)
    where
      differ : Path.ReadLn ≡ Path.Write → ⊥
      differ is = cc
  claim-covers (Claims.writes_line bytes is can there claim_is) = absurd (differ is)
    where
      differ : Path.ReadLn ≡ Path.WritLn → ⊥
      differ is = cc
  claim-covers (Claims.tells_error is may claim_is) = absurd (differ is)
    where
      differ : Path.ReadLn ≡ Path.PErr → ⊥
      differ is = cc
  claim-covers (Claims.sizes is code may claim_is) = absurd (differ is)
    where
      differ : Path.ReadLn ≡ Path.SetStt → ⊥
      differ is = cc
  claim-covers (Claims.locks is code update some claim_is) = absurd (differ is)
    where
      differ : Path.ReadLn ≡ Path.SetStt → ⊥
      differ is = cc

module _ (s : State) (p code : ℕ) (running : IsRunning s) (next : act_of s.processes p ≡ attempts code) (coded : path_call_of code ≡ Some Path.ReadLn) (now : TimePacket) (terms : ℕ) where
  abbrev m : MadePathCall
  m = record { call = Path.ReadLn; asker = asker_of s.processes p now; files = s.files; terms = terms }

  -- a request that waits has as many bytes as the call that is attempted again asks for
  kept-covers : (request : Request) → request_of s.files.records.locks p ≡ Some request → Covers request.lock.range (regs_at s.processes p).y
  kept-covers request is =
      let it = running.requested p request is in
      let kept = running.kept p _ it.kept in
      let same : code ≡ request.code = same_Some code request.code (sym (attempts-code s.processes p code next) ∙ kept.made) in
      let device : kept.call ≡ Device.ReadLn = same_Some kept.call Device.ReadLn (sym kept.again.code ∙ ap io_call_of (sym same) ∙ code-there code Path.ReadLn coded) in
      let count : request.count ≡ (regs_at s.processes p).y = subst (λ (call : IoCall). KeepsCount call (regs_at s.processes p) request.count) device kept.again.count in
      subst (Covers request.lock.range) count it.covers

  line-covers : (request : Request) → Requests m request → Covers request.lock.range (regs_at s.processes p).y
  line-covers request it = by_kept (pending_request m.asker m.files) refl it.is
    where
      by_kept : (kept : Option Request) → pending_request m.asker m.files ≡ kept → request ≡ unwrap_or kept (first_request m.asker it.found it.claim)
          → Covers request.lock.range (regs_at s.processes p).y
      by_kept None none is =
          subst (λ (request : Request). Covers request.lock.range (regs_at s.processes p).y) (sym is) (claim-covers m.asker m.files it.found it.claim it.claims)
      by_kept (Some other) there is =
          subst (λ (request : Request). Covers request.lock.range (regs_at s.processes p).y) (sym is) (kept-covers other there)

-- ---- an attempt

module _ (s : State) (p code : ℕ) (running : IsRunning s) (agreed : AreAgreed s.files) (next : act_of s.processes p ≡ attempts code) (now : TimePacket) where
  covers-line : (call : PathCall) → path_call_of code ≡ Some call → (terms : ℕ) → CoversLine (record { call = call; asker = asker_of s.processes p now; files = s.files; terms = terms })
  covers-line call coded terms is =
      subst (λ (call : PathCall). (request : Request)
      → Requests (record { call = call; asker = asker_of s.processes p now; files = s.files; terms = terms }) request
      → CoversCall call (regs_at s.processes p) request) (sym is)
      (line-covers s p code running next (coded ∙ ap (λ (call : PathCall). Some call) is) now terms)

  path-agreed : (call : PathCall) → path_call_of code ≡ Some call → (result : CallResult) (rest : Rest) → Serves (on_paths call) s now p result rest → AreAgreed rest.files
  path-agreed call coded result rest (it, clock) = record {
    records =
        come-agreed (made_in attempt) agreed.records agreed.places
        (λ request is. (running.requested p request is).owner) (covers-line call coded (length s.terms))
        rest.files.records (records-come attempt);
    places = places-attempt PATH_PLACES attempt agreed.places;
  }
    where
      attempt : Attempt
      attempt = record {
        call = call;
        processes = s.processes;
        files = s.files;
        now = now;
        process = p;
        result = result;
        new = rest.files;
        before = s.terms;
        after = rest.terms;
        attempted = it;
      }

  abbrev files_in : Rest → Files
  files_in rest = rest.files

  rest-agreed : (rest : Rest) (files : Files) → files_in rest ≡ files → AreAgreed files → AreAgreed rest.files
  rest-agreed rest files is there = subst AreAgreed (sym is) there

  serves-agreed : (service : Service) → service_of code ≡ service → (result : CallResult) (rest : Rest) → Serves service s now p result rest → AreAgreed rest.files
  serves-agreed loads serves result rest (files, it, is) =
      rest-agreed rest files (ap files_in is) (left-agreed s.files files (load-leaves s.processes (asker_of s.processes p now) s.files (length s.terms) p result files it) agreed)
  serves-agreed (on_processes Call.Fork) serves result rest (files, it, is) =
      rest-agreed rest (files_after_fork files p result) (ap files_in is)
      (fork-agreed files p (left-agreed s.files files (fork-leaves s.processes (asker_of s.processes p now) s.files (length s.terms) p result files it) agreed) result)
  serves-agreed (on_processes Call.Chain) serves result rest (files, it, is) =
      rest-agreed rest files (ap files_in is) (left-agreed s.files files (chain-leaves s.processes (asker_of s.processes p now) s.files (length s.terms) p result files it) agreed)
  serves-agreed (on_processes call) serves result rest it =
      rest-agreed rest (files_after_call s.files p result) (ap files_in it.1) (call-agreed s.files p agreed result)
  serves-agreed (on_time call) serves result rest (clock, it, is) = rest-agreed rest s.files (ap files_in is) agreed
  serves-agreed (on_paths call) serves result rest it =
      path-agreed call (subst (Asks code) serves (asks code)) result rest it
  serves-agreed no_call serves result rest (refusal, is) = rest-agreed rest s.files (ap files_in is) agreed

-- ---- events

acts-agreed : (act : Act) (s : State) (p : ℕ) (end : EventEnd) (t : State) → IsRunning s → AreAgreed s.files → act_of s.processes p ≡ act → Acts act s p end t → AreAgreed t.files
acts-agreed executes s p end t running agreed next (over, is) =
    subst (λ (t : State). AreAgreed t.files) (sym is) (instruction-agreed s.files p agreed (next_instruction s.processes p))
acts-agreed (delivers signal) s p end t running agreed next (over, is) =
    subst (λ (t : State). AreAgreed t.files) (sym is) (delivery-agreed s.files p agreed (delivered (before_delivery s p) p signal))
acts-agreed (attempts code) s p end t running agreed next (result, rest, (now, is_now, it), over, is) =
    subst (λ (t : State). AreAgreed t.files) (sym is) (serves-agreed s p code running agreed next now (service_of code) refl result rest it)

pub event-agreed : (s t : State) (end : EventEnd) → Event s end t → IsRunning s → AreAgreed s.files → AreAgreed t.files
event-agreed s t end (p, chosen, lives, acts) running agreed =
    acts-agreed (act_of s.processes p) s p end t running agreed refl acts

-- ---- a choice and the start

pub choice-agreed : (s t : State) → Choose s t → AreAgreed s.files → AreAgreed t.files
choice-agreed s t is agreed = subst (λ (t : State). AreAgreed t.files) (sym is) agreed

pub start-agreed : (boot : Boot) (s : State) → Starts boot s → AreAgreed s.files
start-agreed boot s starts =
    subst (λ (s : State). AreAgreed s.files) (sym starts.is) (subst AreAgreed (sym starts.mounted.is) (record { records = records-first; places = refl }))
