-- An attempt of every call has an end.
use Rattle.std.proofs.Common.{◌≡◌, ◌⊎◌, ℕ, false, Option, Some, None, Result, Ok, Err, List, length, refl, sym, inl, map, ap, ◌∙◌, inr}
use Rattle.std.specs.Prelude.{MatchOption}
use Rattle.time_rules.proofs.Next.{later-packet}
use Rattle.os9_base.specs.declared.errors.TheConstants.{E_UNKSVC}
use Rattle.os9_base.specs.declared.registers.TimePacket.{TimePacket}
use Rattle.os9_outer.specs.TerminalState.{fault_counts}
use Rattle.proc_model.specs.Loading.{EntersModules}
use Rattle.proc_model.specs.MemoryChanges.{new_numbers}
use Rattle.proc_model.specs.ModuleList.{ModuleEntry}
use Rattle.proc_model.specs.Objects.{file_blocks}
use Rattle.proc_model.proofs.LoadingLemmas.{Enters-some}
use Rattle.proc_model.specs.Attempts.{attempted}
use Rattle.proc_model.specs.CallResult.{CallResult, done, ends, refused, waits}
use Rattle.proc_model.specs.Chain.{f_chain}
use Rattle.proc_model.specs.Fork.{f_fork}
use Rattle.proc_model.specs.Processes.{Processes}
use Rattle.proc_model.specs.ModuleLinks.{Entered}
use Rattle.proc_model.specs.Program.{Program}
use Rattle.proc_model.specs.declared.proc_call.ProcCall.TheVariants as Call
use Rattle.io_model.specs.Attempts.{result_of as io_result}
use Rattle.file_rules.specs.Attempts.{asker_of, files_after, io_effect}
use Rattle.file_rules.specs.Codes.{path_call_of}
use Rattle.rbf_model.specs.Volume.{DiskVolume}
use Rattle.file_rules.specs.Files.{Asker, DriveState, Files, KeepsDriveFaults, volume_at}
use Rattle.file_rules.specs.declared.path_call.PathCall.{PathCall}
use Rattle.file_rules.specs.declared.path_call.PathCall.TheVariants as Path
use Rattle.file_rules.specs.Load.{GoesOnLoaded, LoadAttempts, Loaded, links_first, loaded_by}
use Rattle.file_rules.specs.Program.{ChainAttempts, ForkAttempts, StartsFile, chains, forks, named_program, starts_first, tests_program}
use Rattle.file_rules.specs.ProgramFile.{ProgramFile, ReadsProgram, program_file, reading_of}
use Rattle.file_rules.specs.Step.{Step}
use Rattle.time_rules.specs.Attempts.{clock_after, result_of, time_step}
use Rattle.time_rules.specs.Clock.{IsNow, seconds_since}
use Rattle.machine_model.specs.Services.{CallAttempted, Serves, Service, files_after_call, files_after_fork, loads, no_call, on_paths, on_processes, on_time, service_of, with_files}
use Rattle.machine_model.specs.State.{Rest, State, rest_of}
use Rattle.run_laws.specs.Mounted.{CanGo}
use Rattle.isolation_laws.proofs.Asked.{Asks, asks}
use Rattle.run_laws.proofs.Ends.{Ends, IsMaking, Making, step-ends}

-- ---- files that are loaded

-- a call that goes on with the file in memory
record SomeLoaded (m : Processes) (reading : Result ProgramFile ℕ) (next : ProgramFile → Loaded → CallResult) : Type 0 where
  pub result : CallResult
  pub goes : GoesOnLoaded m reading next result

some-loaded : (m : Processes) (reading : Result ProgramFile ℕ) (next : ProgramFile → Loaded → CallResult) → SomeLoaded m reading next
some-loaded m (Err number) next = record { result = refused number; goes = refl }
some-loaded m (Ok file) next =
    let it = Enters-some file.bytes (new_numbers m.memory (file_blocks file.bytes)) false 0 m.memory.modules in
    by_outcome it.0 (loaded_by m.memory file.bytes it.0) refl it.1
  where
    by_outcome : (entries : Result (List (Option ModuleEntry)) (ℕ × ℕ)) (outcome : Result Loaded ℕ)
        → loaded_by m.memory file.bytes entries ≡ outcome → EntersModules file.bytes
        (new_numbers m.memory (file_blocks file.bytes)) false 0 m.memory.modules entries → SomeLoaded m (Ok file) next
    by_outcome entries (Err number) is it =
        record { result = refused number; goes = (Err number, record { entries = entries; modules = it; is = sym is }, refl) }
    by_outcome entries (Ok loaded) is it =
        record { result = next file loaded; goes = (Ok loaded, record { entries = entries; modules = it; is = sym is }, refl) }

reads-so : (step : Step ProgramFile) (files : Files) → ReadsProgram step (reading_of step) files files
reads-so step files = record { drives = files.drives; outcome = inl (refl, refl); state = refl }

module _ (m : Processes) (asker : Asker) (files : Files) (terms p : ℕ) where
  record SomeLoad (Attempt : CallResult → Files → Type 0) : Type 0 where
    pub result : CallResult
    pub new : Files
    pub attempt : Attempt result new
    pub drives : new.drives ≡ files.drives

  some-load : SomeLoad (LoadAttempts m asker files terms p)
  some-load =
      let step = program_file asker files terms (λ step. step) in
      let it = some-loaded m (reading_of step) (links_first m p) in
      record { result = it.result; new = files; attempt = record { reading = reading_of step; reads = reads-so step files; comes = it.goes }; drives = refl }

  some-start : (start : Processes → ℕ → Program → CallResult) → SomeLoad (StartsFile start m asker files terms p)
  some-start start =
      let step = program_file asker files terms (tests_program m p) in
      let it = some-loaded m (reading_of step) (starts_first start m p) in
      record { result = it.result; new = files; attempt = record { reading = reading_of step; reads = reads-so step files; comes = it.goes }; drives = refl }

  some-fork : SomeLoad (ForkAttempts m asker files terms p)
  some-fork = by_named (named_program m p) (some-start forks)
    where
      by_named : (named : Option Entered) → SomeLoad (StartsFile forks m asker files terms p)
          → SomeLoad (λ result new. MatchOption named (StartsFile forks m asker files terms p result new)
          (λ named. (result ≡ f_fork m p) × (new ≡ files)))
      by_named None it = record { result = it.result; new = it.new; attempt = it.attempt; drives = it.drives }
      by_named (Some named) it = record { result = f_fork m p; new = files; attempt = (refl, refl); drives = refl }

  some-chain : SomeLoad (ChainAttempts m asker files terms p)
  some-chain = by_named (named_program m p) (some-start chains)
    where
      by_named : (named : Option Entered) → SomeLoad (StartsFile chains m asker files terms p)
          → SomeLoad (λ result new. MatchOption named (StartsFile chains m asker files terms p result new)
          (λ named. (result ≡ f_chain m p) × (new ≡ files)))
      by_named None it = record { result = it.result; new = it.new; attempt = it.attempt; drives = it.drives }
      by_named (Some named) it = record { result = f_chain m p; new = files; attempt = (refl, refl); drives = refl }

-- ---- every call

-- it makes a file or a directory on a volume that is mounted
abbrev Makes : Service → Files → Type 0
Makes (on_paths call) files = Making call files
Makes service files = ⊥

-- a code asks for it
pub record CodeMakes (code : ℕ) (files : Files) : Type 0 where
  pub makes : (path_call_of code ≡ Some Path.Create) ⊎ (path_call_of code ≡ Some Path.MakDir)
  pub drive : ℕ
  pub volume : DiskVolume
  pub mounted : volume_at files drive ≡ Some volume

making-path : (code : ℕ) (call : PathCall) → Asks code (on_paths call) → IsMaking call → (path_call_of code ≡ Some Path.Create) ⊎ (path_call_of code ≡ Some Path.MakDir)
making-path code Path.Create asked making = inl asked
making-path code Path.MakDir asked making = inr asked
making-path code call asked making = absurd making

making-code : (code : ℕ) (service : Service) (files : Files) → Asks code service → Makes service files → CodeMakes code files
making-code code (on_paths call) files asked making = record {
  makes = making-path code call asked making.makes;
  drive = making.drive;
  volume = making.volume;
  mounted = making.mounted;
}
making-code code service files asked making = absurd making

-- what the drives counted stays in a process that begins or ends
fork-drives : (files : Files) (p : ℕ) (result : CallResult) → (files_after_fork files p result).drives ≡ files.drives
fork-drives files p (done t) = refl
fork-drives files p (refused number) = refl
fork-drives files p (waits t) = refl
fork-drives files p (ends status) = refl

call-drives : (files : Files) (p : ℕ) (result : CallResult) → (files_after_call files p result).drives ≡ files.drives
call-drives files p (done t) = refl
call-drives files p (refused number) = refl
call-drives files p (waits t) = refl
call-drives files p (ends status) = refl

pub same-drives : (old new : List DriveState) → new ≡ old → KeepsDriveFaults old new
same-drives old new same = same

module _ (s : State) (p : ℕ) (can : CanGo s) where
  record SomeService (service : Service) (now : TimePacket) : Type 0 where
    pub result : CallResult
    pub rest : Rest
    pub serves : Serves service s now p result rest
    pub counts : fault_counts rest.terms ≡ fault_counts s.terms
    pub stays : KeepsDriveFaults s.files.drives rest.files.drives ⊎ Makes service s.files

  some-service : (service : Service) (now : TimePacket) → SomeService service now
  some-service loads now =
      let it = some-load s.processes (asker_of s.processes p now) s.files (length s.terms) p in
      record {
        result = it.result;
        rest = with_files s it.new;
        serves = (it.new, it.attempt, refl);
        counts = refl;
        stays = inl (same-drives s.files.drives it.new.drives it.drives);
      }
  some-service (on_processes Call.Fork) now =
      let it = some-fork s.processes (asker_of s.processes p now) s.files (length s.terms) p in
      record {
        result = it.result;
        rest = with_files s (files_after_fork it.new p it.result);
        serves = (it.new, it.attempt, refl);
        counts = refl;
        stays =
            inl (same-drives s.files.drives (files_after_fork it.new p it.result).drives (fork-drives it.new p it.result ∙ it.drives));
      }
  some-service (on_processes Call.Chain) now =
      let it = some-chain s.processes (asker_of s.processes p now) s.files (length s.terms) p in
      record {
        result = it.result;
        rest = with_files s it.new;
        serves = (it.new, it.attempt, refl);
        counts = refl;
        stays = inl (same-drives s.files.drives it.new.drives it.drives);
      }
  some-service (on_processes call) now = record {
    result = attempted call s.processes p;
    rest = with_files s (files_after_call s.files p (attempted call s.processes p));
    serves = (refl, refl);
    counts = refl;
    stays =
        inl (same-drives s.files.drives (files_after_call s.files p (attempted call s.processes p)).drives (call-drives s.files p (attempted call s.processes p)));
  }
  some-service (on_time call) now = record {
    result = result_of s.processes p (time_step call s.processes now p);
    rest = record (rest_of s) { clock = clock_after s.clock (time_step call s.processes now p) };
    serves = (
      clock_after s.clock (time_step call s.processes now p),
      record { result_is = refl; clock_is = refl },
      refl,
    );
    counts = refl;
    stays = inl refl;
  }
  some-service (on_paths call) now =
      let it : Ends call (asker_of s.processes p now) s.files s.terms _ = step-ends call (asker_of s.processes p now) s.files s.terms can.running.kinds can.mounted can.running.on in
      record {
        result = io_result s.processes p (io_effect it.effect);
        rest = record { files = files_after p it.effect; clock = s.clock; terms = it.after };
        serves = (record { effect = it.effect; does = it.does; result_is = refl; state = refl }, refl);
        counts = it.counts;
        stays = it.stays;
      }
  some-service no_call now =
      record { result = refused E_UNKSVC; rest = rest_of s; serves = (refl, refl); counts = refl; stays = inl refl }

  pub record SomeAttempt (code : ℕ) : Type 0 where
    pub result : CallResult
    pub rest : Rest
    pub attempt : CallAttempted code s p result rest
    pub counts : fault_counts rest.terms ≡ fault_counts s.terms
    pub stays : KeepsDriveFaults s.files.drives rest.files.drives ⊎ CodeMakes code s.files

  pub some-attempt : (code : ℕ) → SomeAttempt code
  some-attempt code =
      let now = later-packet s.clock.from (seconds_since s.clock s.processes.tick) can.running.clock.civil in
      by_service (some-service (service_of code) now.0) now.1
    where
      by_service : {now : TimePacket} → SomeService (service_of code) now → IsNow s.clock s.processes.tick now → SomeAttempt code
      by_service {now = now} it is_now = record {
        result = it.result;
        rest = it.rest;
        attempt = (now, is_now, it.serves);
        counts = it.counts;
        stays =
            elim (it.stays) [
              | inl none ↦ inl none
              | inr making ↦ inr (making-code code (service_of code) s.files (asks code) making)
            ];
      }
