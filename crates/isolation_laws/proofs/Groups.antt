-- The groups of modules are of objects that appear, as those of a file that is loaded, or were groups before.
use Rattle.std.proofs.Common.{◌≡◌, ℕ, ◌-◌, ◌≤◌, ◌==◌, not, nat_le, nat_lt, Bool, true, false, Option, Some, None, Result, Ok, Err, List, [], length, slice_get, refl, sym, ap, ◌∙◌, subst, inl, inr, arith}
use Rattle.std.specs.Prelude.{MatchOption, option_map}
use Rattle.std.proofs.lemmas.Bool.{cases_lt}
use Rattle.std.proofs.lemmas.Option.{none-some, slice_get-get_or, slice_get_past}
use Rattle.os9_base.specs.declared.calls.TheConstants.{F_LOAD}
use Rattle.os9_base.specs.declared.errors.TheConstants.{E_MEMFUL, E_NEMOD, E_PRCFUL, E_UNKSVC}
use Rattle.os9_base.specs.declared.registers.TimePacket.{TimePacket}
use Rattle.proc_model.specs.Memory.{MemoryState}
use Rattle.proc_model.specs.MemoryChanges.{linked, started}
use Rattle.proc_model.specs.ModuleList.{ModuleEntry, module_entry_at}
use Rattle.proc_model.specs.declared.memory.TheConstants.{MOST_LINKS}
use Rattle.proc_model.specs.Records.{IsLiving, free_process}
use Rattle.proc_model.specs.Attempts.{after_attempt, attempted}
use Rattle.proc_model.specs.CallResult.{CallResult, changes, done, ends, needs, refused, refuses, waits}
use Rattle.proc_model.specs.Chain.{begun_anew, f_chain, with_program}
use Rattle.proc_model.specs.Fork.{f_fork, forked_regs, with_child}
use Rattle.proc_model.specs.Processes.{Processes, own_at, regs_at, with_regs_of}
use Rattle.proc_model.specs.Link.{Mapped, after_link, links_at, mapped_group}
use Rattle.proc_model.specs.ModuleLinks.{Entered, without_primary_link}
use Rattle.proc_model.specs.Program.{Program, blocks_of_pages, most_pages, program_kind}
use Rattle.proc_model.specs.Ready.{Act, act_of, attempts, delivers, executes}
use Rattle.proc_model.specs.declared.proc_call.ProcCall.TheVariants as Call
use Rattle.io_model.specs.Attempts.{result_by}
use Rattle.io_model.specs.Waiting.{interrupted_count}
use Rattle.file_rules.specs.Attempts.{asker_of, io_effect}
use Rattle.file_rules.specs.Files.{Files}
use Rattle.file_rules.specs.Load.{GoesOnLoaded, LoadAttempts, Loaded, Loads, links_first}
use Rattle.file_rules.specs.Program.{ChainAttempts, ForkAttempts, StartsFile, chains, forks, loaded_program, named_program, starts_first, tests_program}
use Rattle.file_rules.specs.ProgramFile.{ProgramFile, ReadsProgram, program_file}
use Rattle.time_rules.specs.Attempts.{result_of, time_step}
use Rattle.machine_model.specs.ProcessEvent.{next_instruction}
use Rattle.machine_model.specs.declared.ends.EventEnd.{EventEnd}
use Rattle.call_laws.specs.Isolation.{LeavesOtherProcesses}
use Rattle.call_laws.specs.Modules.{FollowsLinkRules, ModuleStaysOrLeaves, StaysEntered}
use Rattle.call_laws.specs.Objects.{IsNewOrShared, IsOfModule, KeepsSizes}
use Rattle.call_laws.specs.Others.{AttemptsCall}
use Rattle.call_laws.proofs.CallsKept.{AttemptLeft, ended-left, left-refused, of-changes, of-needs, of-refuses}
use Rattle.call_laws.proofs.EventsKept.{broken-left, instruction-left}
use Rattle.call_laws.proofs.EndsKept.{by-end}
use Rattle.call_laws.proofs.ForksKept.{HasRoom, attempt-left, chain-done, fork-done}
use Rattle.call_laws.proofs.MemoryKept.{Grows, mapped-grows, mapped-modules}
use Rattle.call_laws.proofs.ModulesKept.{HaveMore, keeps-more, more-linked}
use Rattle.machine_model.specs.Event.{Acts, Event}
use Rattle.machine_model.specs.Services.{Serves, Service, loads, no_call, on_paths, on_processes, on_time, service_of}
use Rattle.machine_model.specs.State.{Rest, State}
use Rattle.isolation_laws.specs.Loading.{LoadsFile}
use Rattle.isolation_laws.proofs.Asked.{Asks, asks}
use Rattle.isolation_laws.proofs.EventsKept.{time-left}
use Rattle.isolation_laws.proofs.FileKept.{is-loaded, shared-comes, with-file}
use Rattle.isolation_laws.proofs.FileRead.{HasRead, file-found, program-found}
use Rattle.isolation_laws.proofs.Loaded.{first-there}
use Rattle.isolation_laws.proofs.Programs.{room}

-- objects never go
pub longer : (m n : MemoryState) → KeepsSizes m n → length m.objects ≤ length n.objects
longer m n sizes =
    elim (cases_lt (length n.objects) (length m.objects)) [
      | inl less ↦
          (let before : slice_get m.objects (length n.objects) ≡ Some _ = slice_get-get_or m.objects (length n.objects) [] less in
          let now : slice_get n.objects (length n.objects) ≡ None = slice_get_past n.objects (length n.objects) (omega arith) in
          absurd (none-some _ (sym (ap (option_map length) now) ∙ sizes (length n.objects) less ∙ ap (option_map length) before)))
      | inr more ↦ more
    ]

-- a group that an entered module has now, one had before
pub was-shared : (m n : MemoryState) (object : ℕ) → FollowsLinkRules m.modules n.modules → IsOfModule n object → IsOfModule m object
was-shared m n object keeps grouped = by_old (module_entry_at m.modules grouped.number) refl
    (subst (ModuleStaysOrLeaves m.modules (module_entry_at m.modules grouped.number)) grouped.is (keeps grouped.number))
  where
    by_old : (old : Option ModuleEntry) → module_entry_at m.modules grouped.number ≡ old → ModuleStaysOrLeaves
        m.modules (module_entry_at m.modules grouped.number) (Some grouped.entry) → IsOfModule m object
    by_old (Some old) was comes =
        let stays : StaysEntered old grouped.entry = subst (λ old. ModuleStaysOrLeaves m.modules old (Some grouped.entry)) was comes in
        let groups : grouped.entry.group ≡ old.group = ap (λ (e : ModuleEntry). e.group) stays.same in
        record { number = grouped.number; entry = old; is = was; stands = (grouped.stands.0, sym (ap (λ group. slice_get group grouped.stands.0) groups) ∙ grouped.stands.1) }
    by_old None was comes = absurd (subst (λ old. ModuleStaysOrLeaves m.modules old (Some grouped.entry)) was comes)

abbrev pub KeepsGroups : MemoryState → MemoryState → Type 0
KeepsGroups m n = (object : ℕ) → IsOfModule n object → IsNewOrShared m n object

-- where none is entered
groups-by : (m : Processes) (p : ℕ) (end : EventEnd) (n : Processes) → LeavesOtherProcesses m p end n → KeepsGroups m.memory n.memory
groups-by m p end n leaves object grouped = inr (was-shared m.memory n.memory object leaves.modules grouped)

abbrev AttemptGroups : Processes → ℕ → CallResult → Type 0
AttemptGroups m p result = KeepsGroups m.memory (after_attempt m p result).memory

left-groups : (m : Processes) (p : ℕ) (result : CallResult) → AttemptLeft m p result → AttemptGroups m p result
left-groups m p result left object grouped = inr (was-shared m.memory (after_attempt m p result).memory object left.leaves.modules grouped)

refused-groups : (m : Processes) (p number : ℕ) → AttemptGroups m p (refused number)
refused-groups m p number = left-groups m p (refused number) (left-refused m p number)

-- ---- a file that is loaded

module _ (s : State) (p : ℕ) (file : ProgramFile) (loaded : Loaded) (it : LoadsFile s p file loaded) where
  -- the processes, with the file in memory
  abbrev before : Processes
  before = with-file s p file loaded it

  abbrev program : Program
  program = loaded_program s.processes p file loaded.first

  from-file : (n : MemoryState) → KeepsSizes loaded.memory n → FollowsLinkRules loaded.memory.modules n.modules → KeepsGroups s.processes.memory n
  from-file n sizes keeps object grouped =
      shared-comes s p file loaded it (record s.processes { memory = n }) (longer loaded.memory n sizes) object (inr (was-shared loaded.memory n object keeps grouped))

  from-before : (result : CallResult) → AttemptLeft before p result → AttemptGroups s.processes p result
  from-before (done t) left = from-file t.memory left.leaves.sizes left.leaves.modules
  from-before (refused number) left = refused-groups s.processes p number
  from-before (waits t) left = from-file t.memory left.leaves.sizes left.leaves.modules
  from-before (ends status) left =
      left-groups s.processes p (ends status) (ended-left s.processes p status)

  -- it is linked
  abbrev linked-by : Mapped → CallResult
  linked-by mapped =
      refuses (nat_le MOST_LINKS (links_at (own_at s.processes p) mapped.slot)) E_MEMFUL
      (done (after_link s.processes p loaded.first mapped (file.next - (regs_at s.processes p).x)))

  linked-groups : (mapped : Mapped) → mapped_group loaded.memory p loaded.first.entry.group ≡ Some mapped → KeepsGroups s.processes.memory (linked mapped.memory loaded.first.number)
  linked-groups mapped is =
      from-file (linked mapped.memory loaded.first.number) grows.kept.sizes
      (keeps-more loaded.memory.modules (linked mapped.memory loaded.first.number).modules
      (subst (λ (entries : List (Option ModuleEntry)). HaveMore entries
      (linked mapped.memory loaded.first.number).modules) (mapped-modules loaded.memory p loaded.first.entry.group
      mapped is) (more-linked mapped.memory loaded.first.number)))
    where
      grows : Grows loaded.memory (λ byte. Unit {0}) p mapped.memory
      grows =
          mapped-grows loaded.memory p loaded.first.number loaded.first.entry mapped (first-there s.processes.memory file.bytes loaded (is-loaded s p file loaded it)) is

  link-groups : AttemptGroups s.processes p (links_first s.processes p file loaded)
  link-groups = by_mapped (mapped_group loaded.memory p loaded.first.entry.group) refl
    where
      by_links : (mapped : Mapped) → mapped_group loaded.memory p loaded.first.entry.group ≡ Some mapped
          → (most : Bool) → AttemptGroups s.processes p
          (refuses most E_MEMFUL (done (after_link s.processes p loaded.first mapped
          (file.next - (regs_at s.processes p).x))))
      by_links mapped is true = refused-groups s.processes p E_MEMFUL
      by_links mapped is false = linked-groups mapped is

      by_mapped : (mapped : Option Mapped) → mapped_group loaded.memory p loaded.first.entry.group ≡ mapped → AttemptGroups s.processes p (needs mapped E_MEMFUL linked-by)
      by_mapped None is = refused-groups s.processes p E_MEMFUL
      by_mapped (Some mapped) is =
          by_links mapped is (nat_le MOST_LINKS (links_at (own_at s.processes p) mapped.slot))

  -- a child starts it
  fork-groups : IsLiving s.processes.records p → AttemptsCall s.processes p Call.Fork → HasRoom before p program → AttemptGroups s.processes p (starts_first forks s.processes p file loaded)
  fork-groups lives call has =
      from-before (starts_first forks s.processes p file loaded)
      (of-refuses before p (not (loaded.first.entry.info.kind == program_kind)) E_NEMOD (forks before p program)
      (λ kind. of-needs before p (free_process s.processes.records) E_PRCFUL (λ child. refuses (nat_lt most_pages program.pages) E_MEMFUL (making child))
      (λ child free. of-refuses before p (nat_lt most_pages program.pages) E_MEMFUL (making child)
      (λ few. of-changes before p (started loaded.memory child loaded.first.number (blocks_of_pages program.pages)) (begins child)
      (λ memory is. fork-done before p lives call program child memory has free is)))))
    where
      begins : ℕ → MemoryState → CallResult
      begins child memory =
          done (with_regs_of (with_child before p child program memory) p (forked_regs (regs_at before p) child program))

      making : ℕ → CallResult
      making child =
          changes (started loaded.memory child loaded.first.number (blocks_of_pages program.pages)) (begins child)

  -- the process begins anew with it
  chain-groups : AttemptsCall s.processes p Call.Chain → HasRoom before p program → AttemptGroups s.processes p (starts_first chains s.processes p file loaded)
  chain-groups call has =
      from-before (starts_first chains s.processes p file loaded)
      (of-refuses before p (not (loaded.first.entry.info.kind == program_kind)) E_NEMOD (chains before p program)
      (λ kind. of-refuses before p (nat_lt most_pages program.pages) E_MEMFUL (changes (started loaded.memory p loaded.first.number (blocks_of_pages program.pages)) begins)
      (λ few. of-changes before p (started loaded.memory p loaded.first.number (blocks_of_pages program.pages)) begins
      (λ memory is. chain-done before p call program memory has is))))
    where
      begins : MemoryState → CallResult
      begins memory =
          done (without_primary_link (begun_anew (with_program before p program memory) p program) (own_at before p))

-- ---- attempts

-- a call that goes on with a file in memory, or is refused
pub goes-on : (m : Processes) (Holds : CallResult → Type 0) → ((number : ℕ) → Holds (refused number))
    → (reading : Result ProgramFile ℕ) (next : ProgramFile → Loaded → CallResult) (result : CallResult)
    → ((file : ProgramFile) (loaded : Loaded) → reading ≡ Ok file → Loads m.memory file.bytes (Ok loaded)
    → Holds (next file loaded)) → GoesOnLoaded m reading next result → Holds result
goes-on m Holds refuses_so (Err number) next result holds is = subst Holds (sym is) (refuses_so number)
goes-on m Holds refuses_so (Ok file) next result holds (Err number, loading, is) =
    subst Holds (sym is) (refuses_so number)
goes-on m Holds refuses_so (Ok file) next result holds (Ok loaded, loading, is) =
    subst Holds (sym is) (holds file loaded refl loading)

module _ (s : State) (p : ℕ) (now : TimePacket) (result : CallResult) (new : Files) where
  load-groups : act_of s.processes p ≡ attempts F_LOAD → LoadAttempts s.processes (asker_of s.processes p now) s.files (length s.terms) p result new → AttemptGroups s.processes p result
  load-groups next it =
      goes-on s.processes (AttemptGroups s.processes p) (refused-groups s.processes p) it.reading (links_first s.processes p) result
      (λ file loaded is loading. link-groups s p file loaded (record {
        call = inl next;
        found =
            file-found s p now file new (subst (λ (reading : Result ProgramFile ℕ). ReadsProgram
            (program_file (asker_of s.processes p now) s.files (length s.terms) (λ step. step)) reading s.files new)
            is it.reads);
        loads = loading;
      }))
      it.comes

  -- what was read of the program that a process starts
  pub has-read : (file : ProgramFile) (reading : Result ProgramFile ℕ) → reading ≡ Ok file
      → ReadsProgram (program_file (asker_of s.processes p now) s.files (length s.terms) (tests_program s.processes p))
      reading s.files new → HasRead s.processes p file (program_file (asker_of s.processes p now) s.files (length s.terms)
      (λ step. step))
  has-read file reading is reads =
      program-found s p now file new (subst (λ (reading : Result ProgramFile ℕ). ReadsProgram
      (program_file (asker_of s.processes p now) s.files (length s.terms) (tests_program s.processes p)) reading s.files
      new) is reads)

  forks-groups : IsLiving s.processes.records p → AttemptsCall s.processes p Call.Fork → ForkAttempts s.processes (asker_of s.processes p now) s.files (length s.terms) p result new
      → AttemptGroups s.processes p result
  forks-groups lives call it = by_named (named_program s.processes p) refl it
    where
      by_named : (named : Option Entered) → named_program s.processes p ≡ named → MatchOption named
          (StartsFile forks s.processes (asker_of s.processes p now) s.files (length s.terms) p result new)
          (λ named. (result ≡ f_fork s.processes p) × (new ≡ s.files)) → AttemptGroups s.processes p result
      by_named None unnamed it =
          goes-on s.processes (AttemptGroups s.processes p) (refused-groups s.processes p) it.reading (starts_first forks s.processes p) result
          (λ file loaded is loading. (
          let read = has-read file it.reading is it.reads in
          let found : LoadsFile s p file loaded = record { call = inr (inl (record { attempted = call; unnamed = unnamed })); found = read.found; loads = loading } in
          fork-groups s p file loaded found lives call (room s p file loaded found (inl call) read.parameters read.given)))
          it.comes
      by_named (Some entered) named (is, same) =
          subst (AttemptGroups s.processes p) (sym is) (left-groups s.processes p (f_fork s.processes p) (attempt-left s.processes p Call.Fork lives call))

  chains-groups : IsLiving s.processes.records p → AttemptsCall s.processes p Call.Chain → ChainAttempts s.processes (asker_of s.processes p now) s.files (length s.terms) p result new
      → AttemptGroups s.processes p result
  chains-groups lives call it = by_named (named_program s.processes p) refl it
    where
      by_named : (named : Option Entered) → named_program s.processes p ≡ named → MatchOption named
          (StartsFile chains s.processes (asker_of s.processes p now) s.files (length s.terms) p result new)
          (λ named. (result ≡ f_chain s.processes p) × (new ≡ s.files)) → AttemptGroups s.processes p result
      by_named None unnamed it =
          goes-on s.processes (AttemptGroups s.processes p) (refused-groups s.processes p) it.reading (starts_first chains s.processes p) result
          (λ file loaded is loading. (
          let read = has-read file it.reading is it.reads in
          let found : LoadsFile s p file loaded = record { call = inr (inr (record { attempted = call; unnamed = unnamed })); found = read.found; loads = loading } in
          chain-groups s p file loaded found call (room s p file loaded found (inr call) read.parameters read.given)))
          it.comes
      by_named (Some entered) named (is, same) =
          subst (AttemptGroups s.processes p) (sym is) (left-groups s.processes p (f_chain s.processes p) (attempt-left s.processes p Call.Chain lives call))

-- ---- events

module _ (s : State) (p code : ℕ) (next : act_of s.processes p ≡ attempts code) (lives : IsLiving s.processes.records p) (now : TimePacket) (rest : Rest) where
  serves-groups : (service : Service) (result : CallResult) → Asks code service → Serves service s now p result rest → AttemptGroups s.processes p result
  serves-groups loads result asked (files, it, is) =
      load-groups s p now result files (subst (λ (code : ℕ). act_of s.processes p ≡ attempts code) asked next) it
  serves-groups (on_processes Call.Fork) result asked (files, it, is) =
      forks-groups s p now result files lives (code, next, asked) it
  serves-groups (on_processes Call.Chain) result asked (files, it, is) =
      chains-groups s p now result files lives (code, next, asked) it
  serves-groups (on_processes call) result asked it =
      subst (AttemptGroups s.processes p) (sym it.0) (left-groups s.processes p (attempted call s.processes p) (attempt-left s.processes p call lives (code, next, asked)))
  serves-groups (on_time call) result asked (clock, it, is) =
      subst (AttemptGroups s.processes p) (sym it.result_is)
      (left-groups s.processes p (result_of s.processes p (time_step call s.processes now p)) (time-left s.processes p (time_step call s.processes now p)))
  serves-groups (on_paths call) result asked (it, same) =
      subst (AttemptGroups s.processes p) (sym it.result_is)
      (left-groups s.processes p (result_by it.effect.end s.processes p (io_effect it.effect)) (by-end s.processes p (io_effect it.effect) it.effect.end))
  serves-groups no_call result asked (result_is, is) =
      subst (AttemptGroups s.processes p) (sym result_is) (refused-groups s.processes p E_UNKSVC)

acts-groups : (act : Act) (s : State) (p : ℕ) (end : EventEnd) (t : State) → IsLiving s.processes.records p → act_of s.processes p ≡ act → Acts act s p end t
    → KeepsGroups s.processes.memory t.processes.memory
acts-groups executes s p end t lives next (over, is) =
    subst (λ (t : State). KeepsGroups s.processes.memory t.processes.memory) (sym is)
    (groups-by s.processes p _ _ (instruction-left s.processes p (next_instruction s.processes p)).leaves)
acts-groups (delivers signal) s p end t lives next (over, is) =
    subst (λ (t : State). KeepsGroups s.processes.memory t.processes.memory) (sym is)
    (groups-by s.processes p _ _ (broken-left s.processes p signal (interrupted_count s.files.io p)).leaves)
acts-groups (attempts code) s p end t lives next (result, rest, (now, is_now, it), over, is) =
    subst (λ (t : State). KeepsGroups s.processes.memory t.processes.memory) (sym is)
    (serves-groups s p code next lives now rest (service_of code) result (asks code) it)

pub event-groups : (s t : State) (end : EventEnd) → Event s end t → KeepsGroups s.processes.memory t.processes.memory
event-groups s t end (p, chosen, lives, acts) = acts-groups (act_of s.processes p) s p end t lives refl acts
