-- The blocks that appear in a data area are of no module's group.
use Rattle.std.proofs.Common.{◌≡◌, ◌≢◌, ◌⊎◌, ℕ, ◌<◌, ◌≤◌, ◌==◌, not, nat_lt, Bool, true, false, Option, Some, None, Result, Ok, Err, List, length, refl, sym, ap, ◌∙◌, subst, inl, inr, arith}
use Rattle.std.specs.Prelude.{MatchOption, slice_set}
use Rattle.std.specs.Option.{option_map_or}
use Rattle.std.proofs.lemmas.Bool.{cases_eq, cases_lt}
use Rattle.std.proofs.lemmas.List.{get_or-set_same, get_or_past, length-set}
use Rattle.std.proofs.lemmas.List.FromFn.{length-range_with_len}
use Rattle.std.proofs.lemmas.Option.{same_Some}
use Rattle.os9_base.specs.declared.calls.TheConstants.{F_LOAD}
use Rattle.os9_base.specs.declared.errors.TheConstants.{E_MEMFUL, E_NEMOD, E_PRCFUL, E_UNKSVC}
use Rattle.os9_base.specs.declared.registers.TimePacket.{TimePacket}
use Rattle.proc_model.specs.Memory.{MemoryState, map_at, memory_error}
use Rattle.proc_model.specs.MemoryChanges.{first_slots, new_numbers, started, with_first_slots, with_new_objects}
use Rattle.proc_model.specs.Slots.{NamesBlock, Slots, block_at, no_slots}
use Rattle.proc_model.specs.declared.memory.MemoryFault.{MemoryFault}
use Rattle.proc_model.specs.declared.module.ModId.{ModId}
use Rattle.proc_model.specs.Records.{IsLiving, free_process}
use Rattle.proc_model.specs.Attempts.{after_attempt, attempted, done_regs, goes_on}
use Rattle.proc_model.specs.CallResult.{CallResult, changes, done, needs, refused, refuses}
use Rattle.proc_model.specs.Chain.{begun_anew, f_chain, with_program}
use Rattle.proc_model.specs.Delivery.{after_delivery, delivered}
use Rattle.proc_model.specs.Fork.{f_fork, forked_regs, with_child}
use Rattle.proc_model.specs.Processes.{Processes, own_at, regs_at, with_regs_of}
use Rattle.proc_model.specs.ModuleLinks.{Entered, without_module_link, without_primary_link}
use Rattle.proc_model.specs.Program.{Program, blocks_of_pages, most_pages, program_kind}
use Rattle.proc_model.specs.Ready.{Act, act_of, attempts, delivers, executes}
use Rattle.proc_model.specs.declared.proc_call.ProcCall.TheVariants as Call
use Rattle.io_model.specs.Attempts.{result_by}
use Rattle.io_model.specs.Waiting.{interrupted_count}
use Rattle.file_rules.specs.Attempts.{asker_of, io_effect}
use Rattle.file_rules.specs.Files.{Files}
use Rattle.file_rules.specs.Load.{Loaded}
use Rattle.file_rules.specs.Program.{ChainAttempts, ForkAttempts, StartsFile, chains, forks, loaded_program, named_program, starts_first}
use Rattle.file_rules.specs.ProgramFile.{ProgramFile}
use Rattle.time_rules.specs.Attempts.{result_of, time_step}
use Rattle.machine_model.specs.ProcessEvent.{after_instruction, next_instruction}
use Rattle.machine_model.specs.declared.ends.EventEnd.{EventEnd}
use Rattle.call_laws.specs.Modules.{FollowsLinkRules}
use Rattle.call_laws.specs.Objects.{Appears, IsNewOrShared, IsOfModule}
use Rattle.call_laws.specs.Others.{AttemptsCall}
use Rattle.call_laws.proofs.CallsKept.{AttemptLeft, left-refused}
use Rattle.call_laws.proofs.EventsKept.{broken-left, instruction-left}
use Rattle.call_laws.proofs.EndsKept.{by-end}
use Rattle.call_laws.proofs.ForksKept.{HasRoom, attempt-left, chain-done, fork-done}
use Rattle.call_laws.proofs.MemoryKept.{Started, low-new, map-other, started-is}
use Rattle.isolation_laws.specs.Own.{IsOfArea, NameAppeared}
use Rattle.machine_model.specs.Event.{Acts, before_delivery}
use Rattle.machine_model.specs.Services.{Serves, Service, loads, no_call, on_paths, on_processes, on_time, service_of}
use Rattle.machine_model.specs.State.{Rest, State}
use Rattle.isolation_laws.specs.Loading.{LoadsFile}
use Rattle.isolation_laws.proofs.Asked.{Asks, asks}
use Rattle.isolation_laws.proofs.EventsKept.{time-left}
use Rattle.isolation_laws.proofs.FileKept.{is-loaded, shared-comes, with-file}
use Rattle.isolation_laws.proofs.Loaded.{map-same, more-objects}
use Rattle.isolation_laws.proofs.Programs.{room}
use Rattle.isolation_laws.proofs.Groups.{goes-on, has-read, was-shared}

-- a process may gain an area: it acts, or begins by F$Fork
abbrev pub MayGain : Processes → ℕ → ℕ → Type 0
MayGain m q r = (r ≡ q) ⊎ AttemptsCall m q Call.Fork × (free_process m.records ≡ Some r)

-- what appears in its area is of no module's group, or the one that acts had it
abbrev pub AreasApart : Processes → ℕ → Processes → Type 0
AreasApart m q n =
    (r object : ℕ) → MayGain m q r → IsOfArea n r object → Appears m.memory n.memory object
    → NamesBlock (map_at m.memory q) object ⊎ (IsOfModule n.memory object → ⊥)

abbrev AttemptApart : Processes → ℕ → CallResult → Type 0
AttemptApart m p result = AreasApart m p (after_attempt m p result)

-- a process attempts one call at a time
chains-alone : (m : Processes) (p : ℕ) → AttemptsCall m p Call.Chain → AttemptsCall m p Call.Fork → ⊥
chains-alone m p (code, next, is) (other, next_too, is_too) = cc

-- where no module is entered
module _ (m : Processes) (p : ℕ) (names : NameAppeared m) where
  apart-by : (n : Processes) → FollowsLinkRules m.memory.modules n.memory.modules → AreasApart m p n
  apart-by n keeps r object may area appears = inr (λ grouped. (
      let below = names.groups object (was-shared m.memory n.memory object keeps grouped) in
      let late = appears.0 in
      omega arith))

  left-apart : (result : CallResult) → AttemptLeft m p result → AttemptApart m p result
  left-apart result left = apart-by (after_attempt m p result) left.leaves.modules

  refused-apart : (number : ℕ) → AttemptApart m p (refused number)
  refused-apart number = left-apart (refused number) (left-refused m p number)

  of-needs : {A : Type 0} (some : Option A) (number : ℕ) (next : A → CallResult) → ((a : A) → some ≡ Some a → AttemptApart m p (next a)) → AttemptApart m p (needs some number next)
  of-needs None number next apart = refused-apart number
  of-needs (Some a) number next apart = apart a refl

  of-refuses : (test : Bool) (number : ℕ) (next : CallResult) → AttemptApart m p next → AttemptApart m p (refuses test number next)
  of-refuses true number next apart = refused-apart number
  of-refuses false number next apart = apart

  of-changes : (change : Result MemoryState MemoryFault) (next : MemoryState → CallResult)
      → ((memory : MemoryState) → change ≡ Ok memory → AttemptApart m p (next memory))
      → AttemptApart m p (changes change next)
  of-changes (Ok memory) next apart = apart memory refl
  of-changes (Err fault) next apart = refused-apart (memory_error fault)

-- ---- a process that begins with an area

module _ (m : MemoryState) (c number count : ℕ) (memory : MemoryState) (begins : Started m c number count memory) where
  abbrev group : List ℕ
  group = begins.entry.group

  abbrev first : Slots ℕ
  first = first_slots (new_numbers m count) group

  first-late : (slot object : ℕ) → slot < first.low → block_at first slot ≡ Some object → length m.objects ≤ object
  first-late slot object below at =
      low-new m c count group begins.fits slot object (omega (arith, below, length-range_with_len (length m.objects) count)) at

  abbrev IsLate : ℕ → ℕ → Slots ℕ → Type 0
  IsLate slot object slots = slot < slots.low → block_at slots slot ≡ Some object → length m.objects ≤ object

  -- its blocks appear with it
  area-late : (slot object : ℕ) → slot < (map_at memory c).low → block_at (map_at memory c) slot ≡ Some object → length m.objects ≤ object
  area-late slot object =
      subst (λ (n : MemoryState). slot < (map_at n c).low → block_at (map_at n c) slot ≡ Some object → length m.objects ≤ object) (sym begins.memory)
      (by_place (cases_lt c (length m.maps)))
    where
      by_place : (c < length m.maps) ⊎ (length m.maps ≤ c) → IsLate slot object (map_at (with_first_slots m c group count) c)
      by_place (inl within) =
          subst (IsLate slot object) (sym (get_or-set_same m.maps c first no_slots within)) (first-late slot object)
      by_place (inr past) =
          subst (IsLate slot object) (sym (get_or_past (slice_set m.maps c first) c no_slots (rw length-set past))) (λ below at. omega (arith, below))

  map-kept : (q : ℕ) → q ≢ c → map_at memory q ≡ map_at m q
  map-kept q differ =
      ap (λ (n : MemoryState). map_at n q) begins.memory ∙ map-other (with_new_objects m count) c first q differ

-- ---- a file that is loaded

module _ (s : State) (p : ℕ) (names : NameAppeared s.processes) (file : ProgramFile) (loaded : Loaded) (it : LoadsFile s p file loaded) where
  abbrev before : Processes
  before = with-file s p file loaded it

  abbrev program : Program
  program = loaded_program s.processes p file loaded.first

  -- groups are of objects of the file and of older ones
  loaded-below : (object : ℕ) → IsOfModule loaded.memory object → object < length loaded.memory.objects
  loaded-below object grouped =
      by_place (shared-comes s p file loaded it before (omega arith) object (inr grouped))
    where
      by_place : IsNewOrShared s.processes.memory loaded.memory object → object < length loaded.memory.objects
      by_place (inl appears) = appears.1
      by_place (inr shared) =
          omega (arith, names.groups object shared, more-objects s.processes.memory file.bytes loaded (is-loaded s p file loaded it))

  late-apart : (n : MemoryState) → FollowsLinkRules loaded.memory.modules n.modules → (object : ℕ) → length loaded.memory.objects ≤ object → IsOfModule n object → ⊥
  late-apart n keeps object late grouped =
      let below = loaded-below object (was-shared loaded.memory n object keeps grouped) in omega (arith, below, late)

  -- a child starts it
  module _ (lives : IsLiving s.processes.records p) (call : AttemptsCall s.processes p Call.Fork)
      (has : HasRoom before p program) (child : ℕ) (free : free_process s.processes.records ≡ Some child)
      (memory : MemoryState) (is : started loaded.memory child loaded.first.number (blocks_of_pages program.pages) ≡
      Ok memory) where
    abbrev made : Processes
    made = with_regs_of (with_child before p child program memory) p (forked_regs (regs_at before p) child program)

    abbrev forked : Processes
    forked = goes_on made p (done_regs (regs_at made p))

    begins : Started loaded.memory child loaded.first.number (blocks_of_pages program.pages) memory
    begins = started-is loaded.memory child loaded.first.number (blocks_of_pages program.pages) memory is

    left : AttemptLeft before p (done made)
    left = fork-done before p lives call program child memory has free is

    child-apart : (r object : ℕ) → r ≡ child → IsOfArea forked r object → IsOfModule forked.memory object → ⊥
    child-apart r object same area =
        let (slot, below, at) = subst (λ (r : ℕ). IsOfArea forked r object) same area in
        late-apart forked.memory left.leaves.modules object (area-late loaded.memory child loaded.first.number (blocks_of_pages program.pages) memory begins slot object below at)

    -- its own map stays
    parent-had : (r object : ℕ) → r ≡ p → p ≢ child → IsOfArea forked r object → NamesBlock (map_at s.processes.memory p) object
    parent-had r object same differ area =
        let (slot, below, at) = subst (λ (r : ℕ). IsOfArea forked r object) same area in
        let stays : map_at memory p ≡ map_at s.processes.memory p = map-kept loaded.memory child loaded.first.number
        (blocks_of_pages program.pages) memory begins p differ ∙ map-same s.processes.memory file.bytes loaded
        (is-loaded s p file loaded it) p in
        (slot, ap (λ (slots : Slots ℕ). block_at slots slot) (sym stays) ∙ at)

    forked-apart : AttemptApart s.processes p (done made)
    forked-apart r object (inl same) area appears =
        elim (cases_eq p child) [
          | inl too ↦ inr (child-apart r object (same ∙ too) area)
          | inr differ ↦ inl (parent-had r object same differ area)
        ]
    forked-apart r object (inr (forks_it, free_too)) area appears =
        inr (child-apart r object (same_Some r child (sym free_too ∙ free)) area)

  fork-apart : IsLiving s.processes.records p → AttemptsCall s.processes p Call.Fork → HasRoom before p program → AttemptApart s.processes p (starts_first forks s.processes p file loaded)
  fork-apart lives call has =
      of-refuses s.processes p names (not (loaded.first.entry.info.kind == program_kind)) E_NEMOD (forks before p program)
      (of-needs s.processes p names (free_process s.processes.records) E_PRCFUL (λ child. refuses (nat_lt most_pages program.pages) E_MEMFUL (making child))
      (λ child free. of-refuses s.processes p names (nat_lt most_pages program.pages) E_MEMFUL (making child)
      (of-changes s.processes p names (started loaded.memory child loaded.first.number (blocks_of_pages program.pages)) (begins_so child)
      (λ memory is. forked-apart lives call has child free memory is))))
    where
      begins_so : ℕ → MemoryState → CallResult
      begins_so child memory =
          done (with_regs_of (with_child before p child program memory) p (forked_regs (regs_at before p) child program))

      making : ℕ → CallResult
      making child =
          changes (started loaded.memory child loaded.first.number (blocks_of_pages program.pages)) (begins_so child)

  -- the process begins anew with it
  module _ (call : AttemptsCall s.processes p Call.Chain) (has : HasRoom before p program) (memory : MemoryState)
      (is : started loaded.memory p loaded.first.number (blocks_of_pages program.pages) ≡ Ok memory) where
    abbrev anew : Processes
    anew = begun_anew (with_program before p program memory) p program

    abbrev chained : Processes
    chained = without_primary_link anew (own_at before p)

    chained-map : (primary : Option ModId) → map_at (option_map_or (λ (id : ModId). without_module_link anew id.0) primary anew).memory p ≡ map_at memory p
    chained-map None = refl
    chained-map (Some id) = refl

    chained-left : AttemptLeft before p (done chained)
    chained-left = chain-done before p call program memory has is

    chained-apart : AttemptApart s.processes p (done chained)
    chained-apart r object (inl same) area appears =
        let (slot, below, at) = subst (λ (r : ℕ). IsOfArea chained r object) same area in
        let map_is : map_at chained.memory p ≡ map_at memory p = chained-map (own_at before p).primary in
        let late = area-late loaded.memory p loaded.first.number (blocks_of_pages program.pages) memory
        (started-is loaded.memory p loaded.first.number (blocks_of_pages program.pages) memory is) slot object
        (subst (λ (slots : Slots ℕ). slot < slots.low) map_is below)
        (subst (λ (slots : Slots ℕ). block_at slots slot ≡ Some object) map_is at) in
        inr (late-apart chained.memory chained-left.leaves.modules object late)
    chained-apart r object (inr (forks_it, free)) area appears = absurd (chains-alone s.processes p call forks_it)

  chain-apart : AttemptsCall s.processes p Call.Chain → HasRoom before p program → AttemptApart s.processes p (starts_first chains s.processes p file loaded)
  chain-apart call has =
      of-refuses s.processes p names (not (loaded.first.entry.info.kind == program_kind)) E_NEMOD (chains before p program)
      (of-refuses s.processes p names (nat_lt most_pages program.pages) E_MEMFUL (changes (started loaded.memory p loaded.first.number (blocks_of_pages program.pages)) begins_so)
      (of-changes s.processes p names (started loaded.memory p loaded.first.number (blocks_of_pages program.pages)) begins_so
      (λ memory is. chained-apart call has memory is)))
    where
      begins_so : MemoryState → CallResult
      begins_so memory =
          done (without_primary_link (begun_anew (with_program before p program memory) p program) (own_at before p))

-- ---- attempts

module _ (s : State) (p : ℕ) (names : NameAppeared s.processes) (now : TimePacket) (result : CallResult) (new : Files) where
  forks-apart : IsLiving s.processes.records p → AttemptsCall s.processes p Call.Fork → ForkAttempts s.processes (asker_of s.processes p now) s.files (length s.terms) p result new
      → AttemptApart s.processes p result
  forks-apart lives call it = by_named (named_program s.processes p) refl it
    where
      by_named : (named : Option Entered) → named_program s.processes p ≡ named → MatchOption named
          (StartsFile forks s.processes (asker_of s.processes p now) s.files (length s.terms) p result new)
          (λ named. (result ≡ f_fork s.processes p) × (new ≡ s.files)) → AttemptApart s.processes p result
      by_named None unnamed it =
          goes-on s.processes (AttemptApart s.processes p) (refused-apart s.processes p names) it.reading (starts_first forks s.processes p) result
          (λ file loaded is loading. (
          let read = has-read s p now result new file it.reading is it.reads in
          let found : LoadsFile s p file loaded = record { call = inr (inl (record { attempted = call; unnamed = unnamed })); found = read.found; loads = loading } in
          fork-apart s p names file loaded found lives call (room s p file loaded found (inl call) read.parameters read.given)))
          it.comes
      by_named (Some entered) named (is, same) =
          subst (AttemptApart s.processes p) (sym is) (left-apart s.processes p names (f_fork s.processes p) (attempt-left s.processes p Call.Fork lives call))

  chains-apart : IsLiving s.processes.records p → AttemptsCall s.processes p Call.Chain → ChainAttempts s.processes (asker_of s.processes p now) s.files (length s.terms) p result new
      → AttemptApart s.processes p result
  chains-apart lives call it = by_named (named_program s.processes p) refl it
    where
      by_named : (named : Option Entered) → named_program s.processes p ≡ named → MatchOption named
          (StartsFile chains s.processes (asker_of s.processes p now) s.files (length s.terms) p result new)
          (λ named. (result ≡ f_chain s.processes p) × (new ≡ s.files)) → AttemptApart s.processes p result
      by_named None unnamed it =
          goes-on s.processes (AttemptApart s.processes p) (refused-apart s.processes p names) it.reading (starts_first chains s.processes p) result
          (λ file loaded is loading. (
          let read = has-read s p now result new file it.reading is it.reads in
          let found : LoadsFile s p file loaded = record { call = inr (inr (record { attempted = call; unnamed = unnamed })); found = read.found; loads = loading } in
          chain-apart s p names file loaded found call (room s p file loaded found (inr call) read.parameters read.given)))
          it.comes
      by_named (Some entered) named (is, same) =
          subst (AttemptApart s.processes p) (sym is) (left-apart s.processes p names (f_chain s.processes p) (attempt-left s.processes p Call.Chain lives call))

-- ---- events that are no F$Load

module _ (s : State) (p code : ℕ) (names : NameAppeared s.processes) (next : act_of s.processes p ≡ attempts code)
    (lives : IsLiving s.processes.records p) (other : act_of s.processes p ≢ attempts F_LOAD) (now : TimePacket) (rest : Rest)
  where
    serves-apart : (service : Service) (result : CallResult) → Asks code service → Serves service s now p result rest → AttemptApart s.processes p result
    serves-apart loads result asked it = absurd (other (next ∙ ap attempts asked))
    serves-apart (on_processes Call.Fork) result asked (files, it, is) =
        forks-apart s p names now result files lives (code, next, asked) it
    serves-apart (on_processes Call.Chain) result asked (files, it, is) =
        chains-apart s p names now result files lives (code, next, asked) it
    serves-apart (on_processes call) result asked it =
        subst (AttemptApart s.processes p) (sym it.0) (left-apart s.processes p names (attempted call s.processes p) (attempt-left s.processes p call lives (code, next, asked)))
    serves-apart (on_time call) result asked (clock, it, is) =
        subst (AttemptApart s.processes p) (sym it.result_is)
        (left-apart s.processes p names (result_of s.processes p (time_step call s.processes now p)) (time-left s.processes p (time_step call s.processes now p)))
    serves-apart (on_paths call) result asked (it, same) =
        subst (AttemptApart s.processes p) (sym it.result_is)
        (left-apart s.processes p names (result_by it.effect.end s.processes p (io_effect it.effect)) (by-end s.processes p (io_effect it.effect) it.effect.end))
    serves-apart no_call result asked (result_is, is) =
        subst (AttemptApart s.processes p) (sym result_is) (refused-apart s.processes p names E_UNKSVC)

pub acts-apart : (act : Act) (s : State) (p : ℕ) (end : EventEnd) (t : State) → NameAppeared s.processes
    → IsLiving s.processes.records p → act_of s.processes p ≡ act → act_of s.processes p ≢ attempts F_LOAD → Acts act s p end t
    → AreasApart s.processes p t.processes
acts-apart executes s p end t names lives next other (over, is) =
    subst (λ (t : State). AreasApart s.processes p t.processes) (sym is)
    (apart-by s.processes p names (after_instruction s.processes p (next_instruction s.processes p)) (instruction-left s.processes p (next_instruction s.processes p)).leaves.modules)
acts-apart (delivers signal) s p end t names lives next other (over, is) =
    subst (λ (t : State). AreasApart s.processes p t.processes) (sym is)
    (apart-by s.processes p names (after_delivery (before_delivery s p) p (delivered (before_delivery s p) p signal))
    (broken-left s.processes p signal (interrupted_count s.files.io p)).leaves.modules)
acts-apart (attempts code) s p end t names lives next other (result, rest, (now, is_now, it), over, is) =
    subst (λ (t : State). AreasApart s.processes p t.processes) (sym is)
    (serves-apart s p code names next lives other now rest (service_of code) result (asks code) it)
