-- What an event leaves that is an attempt of a call which is refused.
use Rattle.std.proofs.Common.{◌≡◌, ◌⊎◌, ℕ, not, Bool, true, false, Option, Some, None, is_none, List, length, refl, sym, ap, ◌∙◌, subst, inl, inr}
use Rattle.std.specs.Prelude.{IsSome, MatchOption, is_some}
use Rattle.std.proofs.lemmas.Bool.{false≢true}
use Rattle.os9_base.specs.declared.errors.TheConstants.{E_BADTIME, E_BPADDR, E_UNKSVC}
use Rattle.os9_base.specs.declared.registers.TimePacket.{TimePacket}
use Rattle.proc_model.specs.Attempts.{attempted}
use Rattle.proc_model.specs.CallResult.{refused, waits}
use Rattle.proc_model.specs.Chain.{f_chain}
use Rattle.proc_model.specs.Fork.{f_fork}
use Rattle.proc_model.specs.Processes.{Processes, cells_at, regs_at}
use Rattle.proc_model.specs.ModuleLinks.{Entered}
use Rattle.proc_model.specs.Ready.{Act}
use Rattle.proc_model.specs.UserBytes.{user_bytes}
use Rattle.proc_model.specs.declared.proc_call.ProcCall.{ProcCall}
use Rattle.proc_model.specs.declared.proc_call.ProcCall.TheVariants as Call
use Rattle.time_rules.specs.CivilTime.{is_time_packet}
use Rattle.io_model.specs.Attempts.{caller_of}
use Rattle.file_rules.specs.Attempts.{FileAttempts, asker_of}
use Rattle.file_rules.specs.Files.{Asker, Files, KeepsDriveFaults}
use Rattle.file_rules.specs.Program.{ChainAttempts, ForkAttempts, StartsFile, chains, forks, named_program, tests_program}
use Rattle.file_rules.specs.ProgramFile.{ProgramFile, program_file}
use Rattle.file_rules.specs.Step.{Step, drive_of}
use Rattle.file_rules.specs.declared.path_call.PathCall.{PathCall}
use Rattle.time_rules.specs.Attempts.{clock_after, result_of, time_step}
use Rattle.time_rules.specs.Packet.{packet_of}
use Rattle.time_rules.specs.STime.{sets_clock}
use Rattle.time_rules.specs.Step.{TimeStep, needs, refused as time_refused, refuses, sets, tells}
use Rattle.time_rules.specs.declared.clock.TheConstants.{PACKET_BYTES}
use Rattle.time_rules.specs.declared.clock.Clock.{Clock}
use Rattle.time_rules.specs.declared.time_call.TimeCall.{TimeCall}
use Rattle.time_rules.specs.declared.time_call.TimeCall.TheVariants as Time
use Rattle.machine_model.specs.declared.ends.EventEnd.TheVariants.{Ran}
use Rattle.call_laws.specs.Refusals.{LeavesProcesses}
use Rattle.call_laws.proofs.ProcessesLeft.{leaves-processes}
use Rattle.call_laws.proofs.Refusing.{Comes, refusal, same-refusal}
use Rattle.file_laws.specs.Causes.{FileCause}
use Rattle.file_laws.specs.Devices.{DeviceAttempted, IsOnNoFile}
use Rattle.file_laws.specs.LoadCauses.{ChainCause, ForkCause, LoadCause}
use Rattle.file_laws.specs.Touch.{FaultAnswers, TouchesNoDevice, LeavesFiles, NoVolumeChanges, WaitsForRecord}
use Rattle.file_laws.proofs.TouchAttempts.{attempt-splits}
use Rattle.file_laws.proofs.Caused.{is_nothing}
use Rattle.file_laws.proofs.CausedLoads.{chain-caused, fork-caused, load-caused}
use Rattle.file_laws.proofs.Loads.{chain-leaves, fork-leaves, load-leaves}
use Rattle.machine_model.specs.Event.{Acts, Event}
use Rattle.machine_model.specs.Services.{Service, Serves, loads, no_call, on_paths, on_processes, on_time, service_of, with_files}
use Rattle.machine_model.specs.State.{Rest, State, rest_of}
use Rattle.call_laws.specs.CallCauses.{TimeCause, no_packet, no_time}
use Rattle.call_laws.specs.RefusedEvents.{FailsOnDrive, IsAttemptRefused, LeavesMachine, LeavesRest, LeftOnDevice, RefusedLoad, RefusedOnDevice, RefusedOnFile, but_the_call, end_of_file, made_by, of_chain, of_fork, of_load, of_no_call, of_processes, of_time, on_device, on_files, write_error}
use Rattle.call_laws.proofs.Devices.{device-caused}
use Rattle.call_laws.proofs.OnFiles.{file-refused}
use Rattle.call_laws.proofs.Processes.{proc-caused}

-- a call on the time that is refused leaves the clock
time-left : (m : Processes) (clock : Clock) (p number : ℕ) (step : TimeStep) → refused number ≡ result_of m p step → clock_after clock step ≡ clock
time-left m clock p number (time_refused other) is = refl
time-left m clock p number (tells at packet) is = let never : ⊥ = cc in absurd never
time-left m clock p number (sets other) is = let never : ⊥ = cc in absurd never

-- and has its cause
time-caused : (m : Processes) (now : TimePacket) (p number : ℕ) (call : TimeCall) → refused number ≡ result_of m p (time_step call m now p) → TimeCause m p call number
time-caused m now p number Time.Time answer =
    by_missing (is_none (user_bytes (cells_at m p) (regs_at m p).x PACKET_BYTES)) refl answer
  where
    by_missing : (missing : Bool) → is_none (user_bytes (cells_at m p) (regs_at m p).x PACKET_BYTES) ≡ missing
        → refused number ≡ result_of m p (refuses missing E_BPADDR (tells (regs_at m p).x now))
        → TimeCause m p Time.Time number
    by_missing true missing is = no_packet (sym (same-refusal number E_BPADDR is)) (is_nothing (user_bytes (cells_at m p) (regs_at m p).x PACKET_BYTES) missing)
    by_missing false missing is = let never : ⊥ = cc in absurd never
time-caused m now p number Time.STime answer =
    by_bytes (user_bytes (cells_at m p) (regs_at m p).x PACKET_BYTES) refl answer
  where
    by_time : (bytes : List ℕ) → user_bytes (cells_at m p) (regs_at m p).x PACKET_BYTES ≡ Some bytes → (fits : Bool)
        → is_time_packet (packet_of bytes) ≡ fits → refused number ≡ result_of m p (refuses (not fits) E_BADTIME
        (sets (record { from = packet_of bytes; since = m.tick }))) → TimeCause m p Time.STime number
    by_time bytes there true fits is = let never : ⊥ = cc in absurd never
    by_time bytes there false fits is = no_time bytes (sym (same-refusal number E_BADTIME is)) refl there fits

    by_bytes : (bytes : Option (List ℕ)) → user_bytes (cells_at m p) (regs_at m p).x PACKET_BYTES ≡ bytes
        → refused number ≡ result_of m p (needs bytes E_BPADDR (λ bytes. sets_clock m.tick (packet_of bytes)))
        → TimeCause m p Time.STime number
    by_bytes None none is = no_packet (sym (same-refusal number E_BPADDR is)) none
    by_bytes (Some bytes) there is = by_time bytes there (is_time_packet (packet_of bytes)) refl is

-- a call that is refused does not wait
not-waiting : (m : Processes) (number : ℕ) → refused number ≡ waits m → ⊥
not-waiting m number is = cc

module _ (s t : State) (code number : ℕ) where
  pub is-event : IsAttemptRefused s code number t → Event s Ran t
  is-event it = (
    it.process,
    it.chosen,
    it.lives,
    subst (λ (act : Act). Acts act s it.process Ran t) (sym it.attempted) (refused number, rest_of t, it.attempt, refl, it.now),
  )

  module _ (p : ℕ) (now : TimePacket) where
    -- ---- loads

    module _ (test : Step ProgramFile → Step ProgramFile) (Cause : Type 0) where
      abbrev read_from : Option ℕ
      read_from = drive_of (program_file (asker_of s.processes p now) s.files (length s.terms) test)

      abbrev Why-load : Files → Type 0
      Why-load files =
          FaultAnswers read_from s.files (refused number) files ⊎ KeepsDriveFaults s.files.drives files.drives × Cause

      why-load : (files : Files) → KeepsDriveFaults s.files.drives files.drives ⊎ FaultAnswers read_from s.files
          (refused number) files → FaultAnswers read_from s.files (refused number) files ⊎ Cause → Why-load files
      why-load files drives (inl fault) = inl fault
      why-load files (inr fault) (inr cause) = inl fault
      why-load files (inl none) (inr cause) = inr (none, cause)

      load-left : (files : Files) → LeavesFiles read_from s.files (refused number) files → FaultAnswers read_from
          s.files (refused number) files ⊎ Cause → rest_of t ≡ with_files s files → RefusedLoad s p now test Cause
          number t
      load-left files left why is =
          let same : t.files ≡ files = ap (λ (rest : Rest). rest.files) is in
          record {
            io = ap (λ (files : Files). files.io) same ∙ left.io;
            directories = ap (λ (files : Files). files.directories) same ∙ left.directories;
            volumes = ap (λ (files : Files). files.volumes) same ∙ left.volumes;
            records = ap (λ (files : Files). files.records) same ∙ left.records;
            terminals = ap (λ (rest : Rest). rest.terms) is;
            clock = ap (λ (rest : Rest). rest.clock) is;
            why = subst Why-load (sym same) (why-load files left.drives why);
          }

    -- F$Fork and F$Chain, of a file or of a module that is entered
    abbrev asking : Asker
    asking = asker_of s.processes p now

    abbrev terminals : ℕ
    terminals = length s.terms

    entered-left : (call : ProcCall) → service_of code ≡ on_processes call → IsSome (named_program s.processes p)
        → (files : Files) → refused number ≡ attempted call s.processes p → files ≡ s.files → rest_of t ≡ with_files s
        files → LeavesRest s p now code number t
    entered-left call asked named files answer same is =
        of_processes call asked (λ starts. named) (sym answer) (proc-caused s.processes p number call (λ starts. named) (sym answer)) (is ∙ ap (with_files s) same)

    fork-left : service_of code ≡ on_processes Call.Fork → (files : Files) → ForkAttempts s.processes asking s.files
        terminals p (refused number) files → rest_of t ≡ with_files s files → (named : Option Entered)
        → named_program s.processes p ≡ named → LeavesRest s p now code number t
    fork-left asked files it is None none =
        of_fork asked none (load-left (tests_program s.processes p) (ForkCause s.processes asking s.files terminals p number)
        files (fork-leaves s.processes asking s.files terminals p (refused number) files it)
        (fork-caused s.processes asking s.files terminals p number files it none) is)
    fork-left asked files it is (Some entered) there =
        let attempt : (refused number ≡ f_fork s.processes p) × (files ≡ s.files) = subst (λ (named : Option Entered).
        MatchOption named (StartsFile forks s.processes asking s.files terminals p (refused number) files)
        (λ entered. (refused number ≡ f_fork s.processes p) × (files ≡ s.files))) there it in
        entered-left Call.Fork asked (ap (λ (named : Option Entered). is_some named) there) files attempt.0 attempt.1 is

    chain-left : service_of code ≡ on_processes Call.Chain → (files : Files) → ChainAttempts s.processes asking s.files
        terminals p (refused number) files → rest_of t ≡ with_files s files → (named : Option Entered)
        → named_program s.processes p ≡ named → LeavesRest s p now code number t
    chain-left asked files it is None none =
        of_chain asked none (load-left (tests_program s.processes p) (ChainCause s.processes asking s.files terminals p
        number) files (chain-leaves s.processes asking s.files terminals p (refused number) files it)
        (chain-caused s.processes asking s.files terminals p number files it none) is)
    chain-left asked files it is (Some entered) there =
        let attempt : (refused number ≡ f_chain s.processes p) × (files ≡ s.files) = subst (λ (named : Option Entered).
        MatchOption named (StartsFile chains s.processes asking s.files terminals p (refused number) files)
        (λ entered. (refused number ≡ f_chain s.processes p) × (files ≡ s.files))) there it in
        entered-left Call.Chain asked (ap (λ (named : Option Entered). is_some named) there) files attempt.0 attempt.1 is

    -- ---- calls on paths

    module _ (call : PathCall) (it : FileAttempts call s.processes s.files now p (refused number) t.files s.terms t.terms) (clock : t.clock ≡ s.clock) where
      abbrev OnDevice : Type 0
      OnDevice =
          DeviceAttempted call s.processes s.files p (refused number) t.files s.terms t.terms × IsOnNoFile call (asker_of s.processes p now) s.files (length s.terms)

      abbrev Why : Type 0
      Why = FailsOnDrive s p now call number t ⊎ NoVolumeChanges s.files t.files × FileCause (made_by s p now call) number

      abbrev Comes-so : Type 0
      Comes-so = RefusedOnDevice s p now call number t ⊎ RefusedOnFile s p now call number t

      device-left : OnDevice → RefusedOnDevice s p now call number t
      device-left (on, none) = record {
        device = on.device;
        device_is = on.device_is;
        on = none;
        left =
            by_answer (refusal on.device s.processes s.files.io t.files.io (length s.files.drives) p number s.terms t.terms on.attempted);
        locks = on.locks;
        directories = on.directories;
        volumes = on.volumes;
        none_failed = on.none_failed;
        clock = clock;
      }
        where
          by_answer : Comes on.device (caller_of s.processes p) s.files.io (length s.files.drives) number t.files.io s.terms t.terms → LeftOnDevice s p on.device number t
          by_answer (inl (cause, nothing)) =
              but_the_call (device-caused call on.device on.device_is (asker_of s.processes p now) s.files (length s.terms) number none cause) nothing
          by_answer (inr (inl (number_is, left))) = end_of_file number_is left
          by_answer (inr (inr (number_is, left))) = write_error number_is left

      file-left : TouchesNoDevice call s.processes s.files now p (refused number) t.files s.terms t.terms → Why → RefusedOnFile s p now call number t
      file-left left why = record {
        io = (left.refusal number refl).io;
        records = (left.refusal number refl).records;
        directories = (left.refusal number refl).directories;
        terminals = left.terminals;
        clock = clock;
        still = left.still;
        why = why;
      }

      path-left : Comes-so
      path-left =
          by_touch (attempt-splits call s.processes s.files now p (refused number) t.files s.terms t.terms it)
        where
          by_cause : TouchesNoDevice call s.processes s.files now p (refused number) t.files s.terms t.terms → OnDevice ⊎ Why → Comes-so
          by_cause left (inl on) = inl (device-left on)
          by_cause left (inr why) = inr (file-left left why)

          by_touch : OnDevice ⊎ TouchesNoDevice call s.processes s.files now p (refused number) t.files s.terms t.terms ⊎
              WaitsForRecord call s.processes s.files now p (refused number) t.files s.terms t.terms → Comes-so
          by_touch (inl on) = inl (device-left on)
          by_touch (inr (inl left)) = by_cause left (file-refused s t p now call number it)
          by_touch (inr (inr waiting)) = absurd (not-waiting s.processes number waiting.result_is)

    -- ---- any call

    serves-left : (service : Service) → service_of code ≡ service → Serves service s now p (refused number) (rest_of t) → LeavesRest s p now code number t
    serves-left loads asked (files, it, is) =
        of_load asked (load-left (λ step. step) (LoadCause s.processes asking s.files terminals p number) files
        (load-leaves s.processes asking s.files terminals p (refused number) files it) (load-caused s.processes asking
        s.files terminals p number files it) is)
    serves-left (on_processes Call.Fork) asked (files, it, is) =
        fork-left asked files it is (named_program s.processes p) refl
    serves-left (on_processes Call.Chain) asked (files, it, is) =
        chain-left asked files it is (named_program s.processes p) refl
    serves-left (on_processes call) asked it =
        of_processes call asked (λ starts. absurd (false≢true starts)) (sym it.0) (proc-caused s.processes p number call (λ starts. absurd (false≢true starts)) (sym it.0)) it.1
    serves-left (on_time call) asked (clock, it, is) =
        of_time call asked (time-caused s.processes now p number call it.result_is)
        (is ∙ ap (λ (clock : Clock). record (rest_of s) { clock = clock }) (it.clock_is ∙ time-left s.processes s.clock p number (time_step call s.processes now p) it.result_is))
    serves-left (on_paths call) asked (it, clock) = by_path (path-left call it clock)
      where
        by_path : RefusedOnDevice s p now call number t ⊎ RefusedOnFile s p now call number t → LeavesRest s p now code number t
        by_path (inl on) = on_device call asked on
        by_path (inr on) = on_files call asked on
    serves-left no_call asked (result_is, is) = of_no_call asked (sym (same-refusal number E_UNKSVC result_is)) is

  pub leaves-machine : (it : IsAttemptRefused s code number t) → LeavesMachine s it.process code number t
  leaves-machine it =
      let (now, is_now, serves) = it.attempt in
      record {
        processes =
            subst (λ (m : Processes). LeavesProcesses s.processes it.process number m) (sym (ap (λ (t : State). t.processes) it.now)) (leaves-processes s.processes it.process number);
        now = now;
        is_now = is_now;
        rest = serves-left it.process now (service_of code) refl serves;
        chosen = ap (λ (t : State). t.chosen) it.now;
      }
