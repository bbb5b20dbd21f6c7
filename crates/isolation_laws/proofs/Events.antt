-- What every event leaves in the objects that appear.
use Rattle.std.proofs.Common.{◌≡◌, ◌⊎◌, ℕ, ◌+◌, ◌==◌, Bool, true, false, Option, Some, None, Result, Ok, Err, List, length, refl, sym, ap, ◌∙◌, subst, inl, inr, arith, eqb-true}
use Rattle.std.specs.Prelude.{MatchOption, if◌then◌else◌}
use Rattle.std.specs.Option.{option_map_or}
use Rattle.std.proofs.lemmas.Option.{none-some, same_Some}
use Rattle.os9_base.specs.declared.calls.TheConstants.{F_LOAD}
use Rattle.os9_base.specs.declared.registers.TimePacket.{TimePacket}
use Rattle.proc_model.specs.Memory.{MemoryState}
use Rattle.proc_model.specs.Objects.{file_blocks}
use Rattle.proc_model.specs.Attempts.{after_attempt}
use Rattle.proc_model.specs.CallResult.{CallResult, done, ends, refused, waits}
use Rattle.proc_model.specs.Chain.{f_chain}
use Rattle.proc_model.specs.Codes.{call_of}
use Rattle.proc_model.specs.Fork.{f_fork}
use Rattle.proc_model.specs.ModuleLinks.{Entered}
use Rattle.proc_model.specs.Ready.{Act, act_of, attempts, delivers, executes}
use Rattle.proc_model.specs.declared.proc_call.ProcCall.{ProcCall}
use Rattle.proc_model.specs.declared.proc_call.ProcCall.TheVariants as Call
use Rattle.file_rules.specs.Attempts.{asker_of}
use Rattle.file_rules.specs.Codes.{path_call_of}
use Rattle.file_rules.specs.Files.{Files}
use Rattle.file_rules.specs.Load.{GoesOnLoaded}
use Rattle.file_rules.specs.Program.{ChainAttempts, ForkAttempts, StartsFile, chains, forks, named_program, starts_first, tests_program}
use Rattle.file_rules.specs.ProgramFile.{ProgramFile, ReadsProgram, program_file}
use Rattle.time_rules.specs.Codes.{time_call_of}
use Rattle.machine_model.specs.declared.ends.EventEnd.{EventEnd}
use Rattle.call_laws.specs.Others.{AttemptsCall}
use Rattle.isolation_laws.specs.Loading.{StartsFileBy}
use Rattle.isolation_laws.specs.NewObjects.{HoldFile, HoldParameters}
use Rattle.isolation_laws.proofs.Asked.{Asks, asks}
use Rattle.isolation_laws.proofs.EventsKept.{event-leaves}
use Rattle.isolation_laws.proofs.FileRead.{HasRead, program-found}
use Rattle.machine_model.specs.Event.{Acts, Event}
use Rattle.machine_model.specs.Services.{Serves, Service, loads, no_call, on_paths, on_processes, on_time, service_of}
use Rattle.machine_model.specs.State.{Rest, State}
use Rattle.isolation_laws.specs.NewBytes.{HoldFileFirst, HoldNewObjects, HoldZeros}
use Rattle.isolation_laws.proofs.Starts.{Leaves, chain-area, chain-file, fork-area, fork-file}

-- ---- no program is started

-- a process that starts no program
abbrev StartsNone : State → ℕ → Type 0
StartsNone s p = AttemptsCall s.processes p Call.Fork ⊎ AttemptsCall s.processes p Call.Chain → ⊥

zeros-by : (s : State) (p first : ℕ) (n : MemoryState) → StartsNone s p → HoldParameters s.processes p first n → HoldZeros first n.objects
zeros-by s p first n none hold object bytes late there k byte at =
    elim (hold object bytes late there k byte at) [
      | inl is ↦ is
      | inr parameter ↦ absurd (none parameter.starts)
    ]

none-started : (s t : State) (end : EventEnd) (p : ℕ) → s.chosen ≡ Some p → Event s end t → StartsNone s p → HoldNewObjects s p t.processes.memory.objects
none-started s t end p chosen event none =
    elim ((event-leaves s t end p chosen event).new_objects) [
      | inl hold ↦ inr (inl (inl (inl none, zeros-by s p (length s.processes.memory.objects) t.processes.memory none hold)))
      | inr first ↦ inr (inr (by_file first))
    ]
  where
    by_file : HoldFile s p t.processes.memory → HoldFileFirst s p t.processes.memory.objects
    by_file first = record {
      file = first.file;
      loaded = first.loaded;
      loads = first.loads;
      blocks = first.blocks;
      rest =
          inl (inl none, zeros-by s p (length s.processes.memory.objects + file_blocks first.file.bytes) t.processes.memory none first.rest);
    }

-- ---- F$Fork and F$Chain

module _ (s : State) (p : ℕ) where
  -- no object appears where none is behind those that were
  none-new : HoldNewObjects s p s.processes.memory.objects
  none-new = inl (omega arith)

  done-holds : (P : List (List ℕ) → Type 0) → ((objects : List (List ℕ)) → P objects → HoldNewObjects s p objects) → (result : CallResult) → Leaves P result
      → HoldNewObjects s p (after_attempt s.processes p result).memory.objects
  done-holds P holds (done t) leaves = holds t.memory.objects leaves
  done-holds P holds (refused number) leaves = none-new
  done-holds P holds (waits t) leaves = absurd leaves
  done-holds P holds (ends status) leaves = absurd leaves

  abbrev Held : CallResult → Type 0
  Held result = HoldNewObjects s p (after_attempt s.processes p result).memory.objects

  module _ (now : TimePacket) (new : Files) where
    forks-file : StartsFileBy s.processes p Call.Fork → (reading : Result ProgramFile ℕ)
        → ReadsProgram (program_file (asker_of s.processes p now) s.files (length s.terms) (tests_program s.processes p)) reading s.files new → (result : CallResult)
        → GoesOnLoaded s.processes reading (starts_first forks s.processes p) result → Held result
    forks-file by (Err number) reads result is = subst Held (sym is) none-new
    forks-file by (Ok file) reads result (Err number, loading, is) = subst Held (sym is) none-new
    forks-file by (Ok file) reads result (Ok loaded, loading, is) =
        let read : HasRead s.processes p file (program_file (asker_of s.processes p now) s.files (length s.terms) (λ step. step)) = program-found s p now file new reads in
        subst Held (sym is)
        (done-holds (HoldFileFirst s p) (λ objects first. inr (inr first)) (starts_first forks s.processes p file loaded)
        (fork-file s p file loaded (record { call = inr (inl by); found = read.found; loads = loading }) (inl by.attempted) read.parameters read.given by.attempted))

    chains-file : StartsFileBy s.processes p Call.Chain → (reading : Result ProgramFile ℕ)
        → ReadsProgram (program_file (asker_of s.processes p now) s.files (length s.terms) (tests_program s.processes p)) reading s.files new → (result : CallResult)
        → GoesOnLoaded s.processes reading (starts_first chains s.processes p) result → Held result
    chains-file by (Err number) reads result is = subst Held (sym is) none-new
    chains-file by (Ok file) reads result (Err number, loading, is) = subst Held (sym is) none-new
    chains-file by (Ok file) reads result (Ok loaded, loading, is) =
        let read : HasRead s.processes p file (program_file (asker_of s.processes p now) s.files (length s.terms) (λ step. step)) = program-found s p now file new reads in
        subst Held (sym is)
        (done-holds (HoldFileFirst s p) (λ objects first. inr (inr first)) (starts_first chains s.processes p file loaded)
        (chain-file s p file loaded (record { call = inr (inr by); found = read.found; loads = loading }) (inr by.attempted) read.parameters read.given by.attempted))

    fork-holds : AttemptsCall s.processes p Call.Fork → (result : CallResult) → ForkAttempts s.processes (asker_of s.processes p now) s.files (length s.terms) p result new → Held result
    fork-holds call result it = by_named (named_program s.processes p) refl it
      where
        by_named : (named : Option Entered) → named_program s.processes p ≡ named
            → MatchOption named (StartsFile forks s.processes (asker_of s.processes p now) s.files (length s.terms) p result new) (λ named. (result ≡ f_fork s.processes p) × (new ≡ s.files))
            → Held result
        by_named None unnamed it =
            forks-file (record { attempted = call; unnamed = unnamed }) it.reading it.reads result it.comes
        by_named (Some entered) named (is, same) =
            subst Held (sym is) (done-holds _ (λ objects area. inr (inl area)) (f_fork s.processes p) (fork-area s.processes p call))

    chain-holds : AttemptsCall s.processes p Call.Chain → (result : CallResult) → ChainAttempts s.processes (asker_of s.processes p now) s.files (length s.terms) p result new → Held result
    chain-holds call result it = by_named (named_program s.processes p) refl it
      where
        by_named : (named : Option Entered) → named_program s.processes p ≡ named
            → MatchOption named (StartsFile chains s.processes (asker_of s.processes p now) s.files (length s.terms) p result new) (λ named. (result ≡ f_chain s.processes p) × (new ≡ s.files))
            → Held result
        by_named None unnamed it =
            chains-file (record { attempted = call; unnamed = unnamed }) it.reading it.reads result it.comes
        by_named (Some entered) named (is, same) =
            subst Held (sym is) (done-holds _ (λ objects area. inr (inl area)) (f_chain s.processes p) (chain-area s.processes p call))

-- ---- the code of a call asks for it

call-service : (code : ℕ) (call : ProcCall) → call_of code ≡ Some call → service_of code ≡ on_processes call
call-service code call is = by_load (code == F_LOAD) refl
  where
    by_load : (load : Bool) → (code == F_LOAD) ≡ load → (if load then loads else option_map_or on_processes (call_of code)
        (option_map_or on_time (time_call_of code) (option_map_or on_paths (path_call_of code) no_call))) ≡ on_processes call
    by_load true at =
        let none : call_of F_LOAD ≡ None = refl in
        absurd (none-some call (sym none ∙ sym (ap call_of (eqb-true code F_LOAD at)) ∙ is))
    by_load false at =
        ap (λ (found : Option ProcCall). option_map_or on_processes found (option_map_or on_time (time_call_of code) (option_map_or on_paths (path_call_of code) no_call))) is

-- ---- every event

module _ (s t : State) (end : EventEnd) (p : ℕ) (chosen : s.chosen ≡ Some p) (event : Event s end t) where
  none-by : StartsNone s p → HoldNewObjects s p t.processes.memory.objects
  none-by none = none-started s t end p chosen event none

  -- a process that attempts another call starts no program
  other-none : (code : ℕ) → act_of s.processes p ≡ attempts code → (service : Service) → service_of code ≡ service → (on_processes Call.Fork ≡ service → ⊥)
      → (on_processes Call.Chain ≡ service → ⊥) → StartsNone s p
  other-none code next service asks_it fork chain (inl (other, at, is)) =
      let same : other ≡ code = (let both : attempts other ≡ attempts code = sym at ∙ next in cc) in
      fork (sym (call-service code Call.Fork (sym (ap call_of same) ∙ is)) ∙ asks_it)
  other-none code next service asks_it fork chain (inr (other, at, is)) =
      let same : other ≡ code = (let both : attempts other ≡ attempts code = sym at ∙ next in cc) in
      chain (sym (call-service code Call.Chain (sym (ap call_of same) ∙ is)) ∙ asks_it)

  module _ (code : ℕ) (next : act_of s.processes p ≡ attempts code) (now : TimePacket) (result : CallResult) (rest : Rest)
      (is : t.processes.memory.objects ≡ (after_attempt s.processes p result).memory.objects) where
    serves-hold : (service : Service) → service_of code ≡ service → Asks code service → Serves service s now p result rest → HoldNewObjects s p t.processes.memory.objects
    serves-hold loads at asked it = none-by (other-none code next loads at (λ clash. cc) (λ clash. cc))
    serves-hold (on_processes Call.Fork) at asked (files, it, same) =
        subst (HoldNewObjects s p) (sym is) (fork-holds s p now files (code, next, asked) result it)
    serves-hold (on_processes Call.Chain) at asked (files, it, same) =
        subst (HoldNewObjects s p) (sym is) (chain-holds s p now files (code, next, asked) result it)
    serves-hold (on_processes call) at asked it = none-by (other-none code next (on_processes call) at (λ clash. cc) (λ clash. cc))
    serves-hold (on_time call) at asked it = none-by (other-none code next (on_time call) at (λ clash. cc) (λ clash. cc))
    serves-hold (on_paths call) at asked it = none-by (other-none code next (on_paths call) at (λ clash. cc) (λ clash. cc))
    serves-hold no_call at asked it = none-by (other-none code next no_call at (λ clash. cc) (λ clash. cc))

  no-attempt : (act : Act) → act_of s.processes p ≡ act → ((code : ℕ) → act ≡ attempts code → ⊥) → StartsNone s p
  no-attempt act next none (inl (code, at, is)) = none code (sym next ∙ at)
  no-attempt act next none (inr (code, at, is)) = none code (sym next ∙ at)

  acts-hold : (act : Act) → act_of s.processes p ≡ act → Acts act s p end t → HoldNewObjects s p t.processes.memory.objects
  acts-hold executes next acts = none-by (no-attempt executes next (λ code clash. cc))
  acts-hold (delivers signal) next acts = none-by (no-attempt (delivers signal) next (λ code clash. cc))
  acts-hold (attempts code) next (result, rest, (now, is_now, it), over, is) =
      serves-hold code next now result rest (ap (λ (t : State). t.processes.memory.objects) is) (service_of code) refl (asks code) it

pub event-holds : (s t : State) (end : EventEnd) (p : ℕ) → s.chosen ≡ Some p → Event s end t → HoldNewObjects s p t.processes.memory.objects
event-holds s t end p chosen (q, chosen_too, lives, acts) =
    let same : q ≡ p = same_Some q p (sym chosen_too ∙ chosen) in
    subst (λ (p : ℕ). HoldNewObjects s p t.processes.memory.objects) same
    (acts-hold s t end q chosen_too (q, chosen_too, lives, acts) (act_of s.processes q) refl acts)
