-- In a state of a run the request of a process is for the file of its call, and covers what the call changes.
use Rattle.std.proofs.Common.{◌≡◌, ℕ, Option, Some, None, refl, sym, ap, ◌∙◌, subst}
use Rattle.std.specs.Prelude.{MatchOption, unwrap_or}
use Rattle.std.proofs.lemmas.Option.{same_Some}
use Rattle.os9_base.specs.declared.registers.TimePacket.{TimePacket}
use Rattle.proc_model.specs.Processes.{regs_at}
use Rattle.proc_model.specs.Ready.{act_of, attempts}
use Rattle.lock_model.specs.Locks.{request_of}
use Rattle.lock_model.specs.declared.lock.Request.{Request}
use Rattle.io_model.specs.Path.{desc_of, slot_of}
use Rattle.io_model.specs.declared.path.Desc.{Desc}
use Rattle.io_model.specs.declared.path.SysPath.{SysPath}
use Rattle.io_model.specs.Again.{path_number}
use Rattle.io_model.specs.Codes.{io_call_of}
use Rattle.io_model.specs.declared.io_call.IoCall.{IoCall}
use Rattle.call_laws.proofs.Codes.{attempts-code}
use Rattle.file_rules.specs.Attempts.{asker_of}
use Rattle.file_rules.specs.Codes.{path_call_of}
use Rattle.file_rules.specs.Files.{Asker, OpenFile, place_of_target}
use Rattle.file_rules.specs.Locking.{first_request, pending_request}
use Rattle.file_rules.specs.declared.path_call.PathCall.{PathCall}
use Rattle.file_rules.specs.declared.path_call.PathCall.TheVariants as Call
use Rattle.file_laws.proofs.Named.{is-named, opened-desc}
use Rattle.file_laws.specs.Devices.{device_call, number_in}
use Rattle.file_laws.proofs.Codes.{code-there}
use Rattle.file_laws.proofs.Keeps.{file-slot}
use Rattle.call_laws.specs.Running.{IsRunning}
use Rattle.machine_model.specs.State.{State}
use Rattle.file_laws.specs.Claims.{CoversCall, MadePathCall, NamesOpenFile, Requests}
use Rattle.lock_laws.specs.Contents.{IsCovered}
use Rattle.lock_laws.specs.Locked.{AreOnFiles}

-- a call takes the number that the call on a terminal or a pipe takes
pub number-same : (call : PathCall) (device : IoCall) (asker : Asker) → device_call call ≡ Some device → number_in call asker ≡ path_number device asker.caller.regs
number-same call device asker is =
    subst (λ (o : Option IoCall). MatchOption o (Unit {0}) (λ device. number_in call asker ≡ path_number device asker.caller.regs)) is (by_call call)
  where
    by_call : (call : PathCall) → MatchOption (device_call call) (Unit {0}) (λ device. number_in call asker ≡ path_number device asker.caller.regs)
    by_call Call.Dup = refl
    by_call Call.Create = refl
    by_call Call.Open = refl
    by_call Call.MakDir = tt
    by_call Call.ChgDir = tt
    by_call Call.Delete = tt
    by_call Call.DeletX = tt
    by_call Call.Seek = tt
    by_call Call.Read = refl
    by_call Call.Write = refl
    by_call Call.ReadLn = refl
    by_call Call.WritLn = refl
    by_call Call.GetStt = refl
    by_call Call.SetStt = refl
    by_call Call.Close = refl
    by_call Call.PErr = refl

module _ (s : State) (p code : ℕ) (running : IsRunning s) (on : AreOnFiles s) (next : act_of s.processes p ≡ attempts
    code) (now : TimePacket) (call : PathCall) (coded : path_call_of code ≡ Some call) (terms : ℕ) where
  abbrev m : MadePathCall
  m = record { call = call; asker = asker_of s.processes p now; files = s.files; terms = terms }

  module _ (request : Request) (is : request_of s.files.records.locks p ≡ Some request) where
    -- the code of the request is that of the call
    code-same : code ≡ request.code
    code-same =
        same_Some code request.code (sym (attempts-code s.processes p code next) ∙ (running.kept p _ (running.requested p request is).kept).made)

    covers : CoversCall call (regs_at s.processes p) request
    covers =
        let asked = on.asked p request is in
        subst (λ (call : PathCall). CoversCall call (regs_at s.processes p) request)
        (same_Some asked.call call (sym asked.code ∙ ap path_call_of (sym code-same) ∙ coded)) asked.covers

    -- the path of the request is the one that the number of the call names
    path-same : (found : OpenFile) → NamesOpenFile m found → found.opened.path ≡ record { 0 = request.path }
    path-same found named =
        let kept = running.kept p _ (running.requested p request is).kept in
        let device : device_call call ≡ Some kept.call = sym (code-there code call coded) ∙ ap io_call_of code-same ∙ kept.again.code in
        same_Some found.opened.path (record { 0 = request.path })
        (sym (file-slot s.files p (number_in call m.asker) found named) ∙ ap (slot_of s.files.io.paths p) (number-same call kept.call m.asker device) ∙ kept.again.path)

    file-same : (found : OpenFile) → NamesOpenFile m found → request.lock.file ≡ found.place
    file-same found named =
        let asked = on.asked p request is in
        let there : desc_of s.files.io.paths request.path ≡ Some found.opened.desc = ap (λ (path : SysPath). desc_of
        s.files.io.paths path.0) (sym (path-same found named)) ∙ opened-desc s.files p (number_in call m.asker)
        found named in
        let same : asked.on.desc ≡ found.opened.desc = same_Some asked.on.desc found.opened.desc (sym asked.on.there ∙ there) in
        same_Some request.lock.file found.place
        (sym (ap place_of_target asked.on.on) ∙ ap (λ (desc : Desc). place_of_target desc.target) same ∙ (is-named s.files p (number_in call m.asker) found named).place)

  pub state-covered : IsCovered m
  state-covered request is = (covers request is, file-same request is)

  -- the path of the request of an attempt is the one that the number of the call names
  pub request-path : (request : Request) (it : Requests m request) → it.found.opened.path.0 ≡ request.path
  request-path request it = by_kept (pending_request m.asker m.files) refl it.is
    where
      by_kept : (kept : Option Request) → pending_request m.asker m.files ≡ kept → request ≡ unwrap_or kept (first_request m.asker it.found it.claim) → it.found.opened.path.0 ≡ request.path
      by_kept None none is = sym (ap (λ (request : Request). request.path) is)
      by_kept (Some other) there is =
          ap (λ (path : SysPath). path.0) (path-same other there it.found it.names) ∙ sym (ap (λ (request : Request). request.path) is)
