-- No call is answered E$Lock or E$DeadLk but one on paths and files.
use Rattle.std.proofs.Common.{◌≡◌, ◌⊎◌, ℕ, ◌==◌, Bool, true, false, Option, Some, None, Result, Ok, Err, List, length, refl, sym, ap, ◌∙◌, inl, inr}
use Rattle.std.specs.Prelude.{option_map, if◌then◌else◌}
use Rattle.std.proofs.lemmas.Bool.{false≢true}
use Rattle.std.proofs.lemmas.Option.{none-some, same_Some}
use Rattle.os9_base.specs.declared.errors.TheConstants.{E_BADTIME, E_BMID, E_BMODE, E_BNAM, E_BPADDR, E_BPNAM, E_BPNUM, E_CEF, E_DIRFUL, E_EOF, E_FNA, E_FULL, E_IPRCID, E_KWNMOD, E_MEMFUL, E_MNF, E_NEMOD, E_NOCHLD, E_NORAM, E_PNNF, E_PRCFUL, E_PTHFUL, E_SHARE, E_SLF, E_UNKSVC, E_USIGP}
use Rattle.os9_outer.specs.Drive.{drive_error}
use Rattle.os9_outer.specs.declared.drive.DriveFault.{DriveFault}
use Rattle.os9_outer.specs.declared.drive.DriveFault.TheVariants.{NotReady, ReadFault, SeekFault, WriteFault, WriteProtect}
use Rattle.proc_model.specs.CallResult.{refused}
use Rattle.proc_model.specs.Processes.{Processes}
use Rattle.proc_model.specs.declared.proc_call.ProcCall.{ProcCall}
use Rattle.file_rules.specs.Files.{Asker, Files, KeepsDriveFaults, OpenFile, drive_at}
use Rattle.file_rules.specs.declared.claim.Claim.{Claim}
use Rattle.file_rules.specs.Load.{Loaded}
use Rattle.file_rules.specs.ProgramFile.{ProgramFile}
use Rattle.file_rules.specs.Step.{Step}
use Rattle.file_rules.specs.declared.path_call.PathCall.{PathCall}
use Rattle.file_rules.specs.declared.path_call.PathCall.TheVariants as Call
use Rattle.io_model.specs.PathList.{PathList}
use Rattle.io_model.specs.declared.terminal.ReadKind.TheVariants.{Bytes, WholeLine}
use Rattle.os9_base.specs.declared.registers.TimePacket.{TimePacket}
use Rattle.proc_model.specs.Records.{free_process}
use Rattle.proc_model.specs.declared.module.ModuleFault.{ModuleFault}
use Rattle.proc_model.specs.declared.module.ModuleFault.TheVariants.{BadCrc, BadParity, BadSync}
use Rattle.proc_model.specs.declared.module.ModuleInfo.{ModuleInfo}
use Rattle.proc_model.specs.Loading.{EntersModules, entry_refusal, module_error}
use Rattle.proc_model.specs.ModuleList.{ModuleEntry, is_known, module_room}
use Rattle.time_rules.specs.declared.time_call.TimeCall.{TimeCall}
use Rattle.file_laws.specs.Causes.{FileCause, LeadsNowhere}
use Rattle.file_laws.specs.Claims.{Claims, MadePathCall}
use Rattle.file_laws.specs.LoadCauses.{CauseOfLoad, GroupCause, LinkCause, ReadCause, StartCause, TestCause, looking}
use Rattle.file_laws.specs.Touch.{FaultAnswers}
use Rattle.file_laws.proofs.ClaimSteps.{is_of_lock}
use Rattle.machine_model.specs.Services.{on_paths, service_of}
use Rattle.machine_model.specs.State.{State}
use Rattle.call_laws.specs.CallCauses.{ProcCause, TimeCause}
use Rattle.call_laws.specs.RefusedEvents.{IsAttemptRefused, LeavesRest, RefusedLoad}
use Rattle.call_laws.proofs.RefusedEvents.{leaves-machine}

module _ (error : ℕ) (of_lock : is_of_lock error ≡ true) where
  -- a number that is of no lock is another one
  apart : (one : ℕ) → is_of_lock one ≡ false → error ≡ one → ⊥
  apart one none same = false≢true (sym none ∙ ap is_of_lock (sym same) ∙ of_lock)

  time-other : (m : Processes) (p : ℕ) (call : TimeCall) → TimeCause m p call error → ⊥
  time-other m p call (TimeCause.no_packet is missing) = apart E_BPADDR refl is
  time-other m p call (TimeCause.no_time bytes is set there civil) = apart E_BADTIME refl is

  -- ---- the modules of a file

  fault-number : (fault : ModuleFault) → is_of_lock (module_error fault) ≡ false
  fault-number BadSync = refl
  fault-number BadParity = refl
  fault-number BadCrc = refl

  entry-number : (entries : List (Option ModuleEntry)) (info : ModuleInfo) (number : ℕ) → entry_refusal entries info ≡ Some number → is_of_lock number ≡ false
  entry-number entries info number is = by_tests (is_known entries info) (module_room entries == 0) is
    where
      number-is : (one : ℕ) → is_of_lock one ≡ false → Some one ≡ Some number → is_of_lock number ≡ false
      number-is one none is = ap is_of_lock (sym (same_Some one number is)) ∙ none

      by_tests : (known full : Bool) → (if known then Some E_KWNMOD else (if full then Some E_DIRFUL else None)) ≡ Some number → is_of_lock number ≡ false
      by_tests true full is = number-is E_KWNMOD refl is
      by_tests false true is = number-is E_DIRFUL refl is
      by_tests false false is = absurd (none-some number is)

  abbrev Outcome : Type 0
  Outcome = Result (List (Option ModuleEntry)) (ℕ × ℕ)

  -- the number of the first refused module is of no lock
  abbrev IsOther : Outcome → Type 0
  IsOther (Ok entries) = Unit {0}
  IsOther (Err fault) = is_of_lock fault.1 ≡ false

  enters-other : (file group : List ℕ) (is_boot : Bool) (from : ℕ) (entries : List (Option ModuleEntry)) (outcome : Outcome) → EntersModules file group is_boot from entries outcome → IsOther outcome
  enters-other file group is_boot from entries outcome (EntersModules.at_end is) = tt
  enters-other file group is_boot from entries outcome (EntersModules.broken {fault = fault} is) = fault-number fault
  enters-other file group is_boot from entries outcome (EntersModules.refused {number = number} {info = info} is refusal) =
      entry-number entries info number refusal
  enters-other file group is_boot from entries outcome (EntersModules.entered {info = info} is none rest) =
      enters-other file group is_boot _ _ outcome rest

  group-other : (m : Processes) (file : List ℕ) → GroupCause m file error → ⊥
  group-other m file (GroupCause.a_module at enters) = false≢true (sym (enters-other file _ false 0 _ _ enters) ∙ of_lock)
  group-other m file (GroupCause.no_module entries is enters none) = apart E_BMID refl is
  group-other m file (GroupCause.no_blocks is few) = apart E_NORAM refl is

  link-other : (m : Processes) (p : ℕ) (loaded : Loaded) → LinkCause m p loaded error → ⊥
  link-other m p loaded (LinkCause.no_slots is none) = apart E_MEMFUL refl is
  link-other m p loaded (LinkCause.most_links mapped is there most) = apart E_MEMFUL refl is

  test-other : (m : Processes) (p : ℕ) → TestCause m p error → ⊥
  test-other m p (TestCause.no_parameters is none) = apart E_BPADDR refl is
  test-other m p (TestCause.other_type is other) = apart E_NEMOD refl is

  start-other : (m : Processes) (p : ℕ) (begins : Option ℕ) (file : ProgramFile) (loaded : Loaded) → StartCause m p begins file loaded error → ⊥
  start-other m p begins file loaded (StartCause.no_program is kind) = apart E_NEMOD refl is
  start-other m p begins file loaded (StartCause.no_process is none) = apart E_PRCFUL refl is
  start-other m p begins file loaded (StartCause.many_pages is many) = apart E_MEMFUL refl is
  start-other m p begins file loaded (StartCause.no_place q there is full) = apart E_MEMFUL refl is
  start-other m p begins file loaded (StartCause.no_memory q there is few) = apart E_NORAM refl is

  -- ---- the file

  nowhere-other : (m : MadePathCall) (list : PathList) → LeadsNowhere m list error → ⊥
  nowhere-other m list (LeadsNowhere.dots is makes ends) = apart E_BPNAM refl is
  nowhere-other m list (LeadsNowhere.root is makes root) = apart E_BPNAM refl is
  nowhere-other m list (LeadsNowhere.slash device is there none behind) = apart E_BPNAM refl is
  nowhere-other m list (LeadsNowhere.no_device is some none) = apart E_MNF refl is
  nowhere-other m list (LeadsNowhere.not_mounted drive is there none) = apart E_MNF refl is
  nowhere-other m list (LeadsNowhere.no_directory is relative none) = apart E_PNNF refl is

  -- I$Open makes no request
  opens-none : (asker : Asker) (files : Files) (found : OpenFile) (claim : Claim) → Claims Call.Open asker files found claim → ⊥
  opens-none asker files found claim (Claims.reads Bytes is can update more claim_is) = cc
  opens-none asker files found claim (Claims.reads WholeLine is can update more claim_is) = cc
  opens-none asker files found claim (Claims.writes bytes is can there claim_is) = cc
  opens-none asker files found claim (Claims.writes_line bytes is can there claim_is) = cc
  opens-none asker files found claim (Claims.tells_error is may claim_is) = cc
  opens-none asker files found claim (Claims.sizes is code may claim_is) = cc
  opens-none asker files found claim (Claims.locks is code update some claim_is) = cc

  file-other : (asker : Asker) (files : Files) (terms : ℕ) → FileCause (looking asker files terms) error → ⊥
  file-other asker files terms (FileCause.bad_address is cause) = apart E_BPADDR refl is
  file-other asker files terms (FileCause.bad_mode is cause) = apart E_BMODE refl is
  file-other asker files terms (FileCause.path_mode found is names lacks) = apart E_BMODE refl is
  file-other asker files terms (FileCause.bad_number is call none) = apart E_BPNUM refl is
  file-other asker files terms (FileCause.no_name is reads list) = apart E_BPNAM refl is
  file-other asker files terms (FileCause.no_last names place is makes leads none) = apart E_BPNAM refl is
  file-other asker files terms (FileCause.leads_nowhere list reads list_is nowhere) =
      nowhere-other (looking asker files terms) list nowhere
  file-other asker files terms (FileCause.no_volume names place is leads none) = apart E_MNF refl is
  file-other asker files terms (FileCause.a_device is one other leads) = apart E_FNA refl is
  file-other asker files terms (FileCause.finds_nothing names place v is walks) = apart E_PNNF refl is
  file-other asker files terms (FileCause.not_there names place v n is walks none) = apart E_PNNF refl is
  file-other asker files terms (FileCause.not_in found name is deletes finds none) = apart E_PNNF refl is
  file-other asker files terms (FileCause.may_not_pass names place v is walks) = apart E_FNA refl is
  file-other asker files terms (FileCause.forbidden names found is finds cause) = apart E_FNA refl is
  file-other asker files terms (FileCause.forbidden_in found name is finds cause) = apart E_FNA refl is
  file-other asker files terms (FileCause.a_root names place is deletes leads none) = apart E_FNA refl is
  file-other asker files terms (FileCause.not_owned found is call code names owns) = apart E_FNA refl is
  file-other asker files terms (FileCause.there_already found name is makes finds some) = apart E_CEF refl is
  file-other asker files terms (FileCause.not_shared names found is call finds shared) = apart E_SHARE refl is
  file-other asker files terms (FileCause.is_used found name n is deletes finds there used) = apart E_SHARE refl is
  file-other asker files terms (FileCause.no_number is call none) = apart E_PTHFUL refl is
  file-other asker files terms (FileCause.no_room is cause) = apart E_FULL refl is
  file-other asker files terms (FileCause.cannot_grow is cause) = apart E_FULL refl is
  file-other asker files terms (FileCause.no_segment is cause) = apart E_SLF refl is
  file-other asker files terms (FileCause.finds_no_segment is cause) = apart E_SLF refl is
  file-other asker files terms (FileCause.end_of_file found is needs names past) = apart E_EOF refl is
  file-other asker files terms (FileCause.locked is out) =
      opens-none (looking asker files terms).asker files out.requests.found out.requests.claim out.requests.claims
  file-other asker files terms (FileCause.deadlock is cycle) =
      opens-none (looking asker files terms).asker files cycle.requests.found cycle.requests.claim cycle.requests.claims
  file-other asker files terms (FileCause.no_status found is names cause) = apart E_UNKSVC refl is

  read-other : (asker : Asker) (files : Files) (terms : ℕ) → ReadCause asker files terms error → ⊥
  read-other asker files terms (ReadCause.as_opened other cause) = file-other asker files terms cause
  read-other asker files terms (ReadCause.to_a_device is leads) = apart E_FNA refl is
  read-other asker files terms (ReadCause.too_long names found is finds long) = apart E_MEMFUL refl is

  module _ (m : Processes) (asker : Asker) (files : Files) (terms : ℕ) (Tested : ℕ → Type 0) (Ends : ProgramFile → Loaded → ℕ → Type 0)
      (tested_other : Tested error → ⊥) (ends_other : (file : ProgramFile) (loaded : Loaded) → Ends file loaded error → ⊥) where
    cause-other : CauseOfLoad m asker files terms Tested Ends error → ⊥
    cause-other (CauseOfLoad.tested it) = tested_other it
    cause-other (CauseOfLoad.not_read cause) = read-other asker files terms cause
    cause-other (CauseOfLoad.not_entered file read cause) = group-other m file.bytes cause
    cause-other (CauseOfLoad.not_ended file loaded read enters ends) = ends_other file loaded ends

  -- ---- a call on processes and modules

  proc-other : (m : Processes) (p : ℕ) (call : ProcCall) → ProcCause m p call error → ⊥
  proc-other m p call (ProcCause.bad_address is misses) = apart E_BPADDR refl is
  proc-other m p call (ProcCause.bad_name is bad) = apart E_BNAM refl is
  proc-other m p call (ProcCause.no_module is none) = apart E_MNF refl is
  proc-other m p call (ProcCause.most_links found is link finds most) = apart E_MEMFUL refl is
  proc-other m p call (ProcCause.not_linked found link finds cause) = link-other m p _ cause
  proc-other m p call (ProcCause.no_slots is mem none) = apart E_MEMFUL refl is
  proc-other m p call (ProcCause.no_blocks is mem few) = apart E_NORAM refl is
  proc-other m p call (ProcCause.not_reached is which none) = apart E_IPRCID refl is
  proc-other m p call (ProcCause.pending is send signal some) = apart E_USIGP refl is
  proc-other m p call (ProcCause.no_child is wait none ended) = apart E_NOCHLD refl is
  proc-other m p call (ProcCause.not_tested starts cause) = test-other m p cause
  proc-other m p call (ProcCause.not_started found starts named cause) = start-other m p _ _ _ cause

  -- ---- a load

  -- the number of a drive's fault is of no lock
  drive-number : (fault : Option DriveFault) (number : ℕ) → option_map drive_error fault ≡ Some number → is_of_lock number ≡ false
  drive-number None number is = absurd (none-some number is)
  drive-number (Some fault) number is = ap is_of_lock (sym (same_Some (drive_error fault) number is)) ∙ by_fault fault
    where
      by_fault : (fault : DriveFault) → is_of_lock (drive_error fault) ≡ false
      by_fault WriteProtect = refl
      by_fault ReadFault = refl
      by_fault WriteFault = refl
      by_fault NotReady = refl
      by_fault SeekFault = refl

  load-other : (s : State) (p : ℕ) (now : TimePacket) (test : Step ProgramFile → Step ProgramFile) (Cause : Type 0) (t : State)
      → (Cause → ⊥) → RefusedLoad s p now test Cause error t → ⊥
  load-other s p now test Cause t none it = by_why it.why
    where
      by_fault : {reached : Option ℕ} → FaultAnswers reached s.files (refused error) t.files → ⊥
      by_fault fault =
          let same : fault.number ≡ error = cc fault.answer in
          false≢true (sym (drive-number (drive_at t.files.drives fault.drive).last fault.number fault.failed.last) ∙ ap is_of_lock same ∙ of_lock)

      by_why : {reached : Option ℕ} → FaultAnswers reached s.files (refused error) t.files ⊎ KeepsDriveFaults s.files.drives t.files.drives × Cause → ⊥
      by_why (inl fault) = by_fault fault
      by_why (inr (failed, cause)) = none cause

  -- ---- a call on paths and files

  -- only a call on paths and files is answered so
  pub lock-on-paths : (s t : State) (code : ℕ) → IsAttemptRefused s code error t → (call : PathCall) × (service_of code ≡ on_paths call)
  lock-on-paths s t code it = by_rest (leaves-machine s t code error it).now (leaves-machine s t code error it).rest
    where
      by_rest : (now : TimePacket) → LeavesRest s it.process now code error t → (call : PathCall) × (service_of code ≡ on_paths call)
      by_rest now (LeavesRest.of_processes call serves starts answer cause same) = absurd (proc-other s.processes it.process call cause)
      by_rest now (LeavesRest.of_time call serves cause same) = absurd (time-other s.processes it.process call cause)
      by_rest now (LeavesRest.of_no_call serves is same) = absurd (apart E_UNKSVC refl is)
      by_rest now (LeavesRest.of_load serves load) =
          absurd (load-other s it.process now _ _ t (cause-other s.processes _ s.files (length s.terms) (λ number. ⊥)
          (λ file. LinkCause s.processes it.process) (λ no. no) (λ file loaded. link-other s.processes it.process loaded)) load)
      by_rest now (LeavesRest.of_fork serves none load) =
          absurd (load-other s it.process now _ _ t (cause-other s.processes _ s.files (length s.terms) (TestCause s.processes it.process)
          (StartCause s.processes it.process (free_process s.processes.records))
          (test-other s.processes it.process) (start-other s.processes it.process (free_process s.processes.records))) load)
      by_rest now (LeavesRest.of_chain serves none load) =
          absurd (load-other s it.process now _ _ t (cause-other s.processes _ s.files (length s.terms) (TestCause s.processes it.process) (StartCause s.processes it.process (Some it.process))
          (test-other s.processes it.process) (start-other s.processes it.process (Some it.process))) load)
      by_rest now (LeavesRest.on_device call serves refusal) = (call, serves)
      by_rest now (LeavesRest.on_files call serves refusal) = (call, serves)
