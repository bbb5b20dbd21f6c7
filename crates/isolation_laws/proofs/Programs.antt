-- What F$Load, F$Fork and F$Chain of a file leave of the others.
use Rattle.std.proofs.Common.{◌≡◌, ◌≢◌, ◌⊎◌, ℕ, ◌*◌, ◌-◌, ◌<◌, ◌≤◌, ◌==◌, not, nat_le, nat_lt, Bool, true, false, Option, Some, None, Result, Ok, Err, List, [], length, slice_get, refl, sym, ap, ◌∙◌, subst, inl, inr}
use Rattle.std.specs.Prelude.{MatchOption, option_map, unwrap_or}
use Rattle.std.specs.Option.{option_map_or}
use Rattle.std.proofs.lemmas.Option.{same_Some}
use Rattle.os9_base.specs.declared.errors.TheConstants.{E_MEMFUL, E_NEMOD, E_PRCFUL}
use Rattle.os9_base.specs.declared.registers.TimePacket.{TimePacket}
use Rattle.proc_model.specs.Memory.{MemoryState, map_at, with_map}
use Rattle.proc_model.specs.MemoryChanges.{linked, started, stored}
use Rattle.proc_model.specs.ModuleList.{ModuleEntry, module_entry_at, without_link}
use Rattle.proc_model.specs.Slots.{group_slot, highest_free_run, with_group}
use Rattle.proc_model.specs.declared.memory.MemoryFault.{MemoryFault}
use Rattle.proc_model.specs.declared.memory.TheConstants.{MOST_LINKS}
use Rattle.proc_model.specs.declared.module.ModId.{ModId}
use Rattle.proc_model.specs.Records.{IsLiving, free_process, record_of}
use Rattle.proc_model.specs.Attempts.{after_attempt, attempted, done_regs, goes_on}
use Rattle.proc_model.specs.CallResult.{CallResult, done, refused, needs, refuses, changes}
use Rattle.proc_model.specs.Chain.{begun_anew, f_chain, with_program}
use Rattle.proc_model.specs.Fork.{f_fork, forked_regs, with_child}
use Rattle.proc_model.specs.Processes.{Processes, cells_at, own_at, regs_at, with_regs_of}
use Rattle.proc_model.specs.Link.{Mapped, after_link, links_at, mapped_group}
use Rattle.proc_model.specs.ModuleLinks.{Entered, without_module_link, without_primary_link}
use Rattle.proc_model.specs.Program.{Program, blocks_of_pages, most_pages, parameters_at, program_kind, with_parameters}
use Rattle.proc_model.specs.Ready.{attempts, act_of}
use Rattle.proc_model.specs.UserBytes.{user_bytes}
use Rattle.proc_model.specs.declared.proc_call.ProcCall.{ProcCall}
use Rattle.proc_model.specs.declared.proc_call.ProcCall.TheVariants as Call
use Rattle.os9_base.specs.declared.calls.TheConstants.{F_LOAD}
use Rattle.file_rules.specs.Attempts.{asker_of}
use Rattle.file_rules.specs.Files.{Files}
use Rattle.file_rules.specs.Load.{GoesOnLoaded, LoadAttempts, Loaded, links_first}
use Rattle.file_rules.specs.Program.{ChainAttempts, ForkAttempts, StartsFile, chains, forks, loaded_program, named_program, parameters_of, starts_first, tests_program}
use Rattle.file_rules.specs.ProgramFile.{ProgramFile, ReadsProgram, program_file}
use Rattle.machine_model.specs.ProcessEvent.{call_event_end}
use Rattle.machine_model.specs.declared.ends.EventEnd.{EventEnd}
use Rattle.machine_model.specs.declared.ends.EventEnd.TheVariants.{Ran}
use Rattle.call_laws.specs.Isolation.{LeavesOtherProcesses as LeavesOthersAsBefore}
use Rattle.call_laws.specs.Modules.{ModuleStaysOrLeaves as ComesOfEntered}
use Rattle.call_laws.specs.NewObjects.{IsParameter}
use Rattle.call_laws.specs.Others.{AttemptsCall, ComesOf, KeepsOwn}
use Rattle.call_laws.proofs.CallsKept.{AttemptLeft, Left, left-refused}
use Rattle.call_laws.proofs.ForksKept.{HasRoom, attempt-left, chain-done, fork-done, room-of, within-area}
use Rattle.call_laws.proofs.MemoryKept.{Grows, HoldOnly, Started, mapped-grows, mapped-modules, old-kept, started-is, started-modules}
use Rattle.call_laws.proofs.ModulesKept.{HaveMore, linked-modules, more-linked}
use Rattle.call_laws.proofs.OthersKept.{comes-of, own-other, own-same, record-other, record-same}
use Rattle.machine_model.specs.State.{Rest, State, with_rest}
use Rattle.isolation_laws.specs.Isolation.{LeavesOthers}
use Rattle.isolation_laws.specs.Links.{ChangesEntered, ChangesLinksOrLoads}
use Rattle.isolation_laws.specs.Loading.{LoadsFile, StartsFileBy}
use Rattle.isolation_laws.specs.Modules.{ModuleEntryChange}
use Rattle.isolation_laws.proofs.FileKept.{ComesLoaded, FileLeft, file-leaves, is-loaded, loaded-chained, loaded-more, with-file}
use Rattle.isolation_laws.proofs.FileRead.{HasRead, file-found, program-found}
use Rattle.isolation_laws.proofs.Linking.{ResultLinks, attempt-links}
use Rattle.isolation_laws.proofs.Loaded.{cell-same, first-there, user-length, user-more}

-- ---- what is left as before

module _ (s : State) (p : ℕ) where
  module-as-before : (number : ℕ) (old new : Option ModuleEntry) → ComesOfEntered s.processes.memory.modules old new → ModuleEntryChange s p number old new
  module-as-before number (Some old) (Some new) stays = stays
  module-as-before number (Some old) None leaves = inl leaves
  module-as-before number None (Some new) comes = absurd comes
  module-as-before number None None comes = tt

  pub as-before : (end : EventEnd) (t : State) → LeavesOthersAsBefore s.processes p end t.processes → ChangesEntered s.processes p end t.processes.memory → LeavesOthers s p end t
  as-before end t left links = record {
    sizes = left.sizes;
    objects = left.objects;
    new_objects = inl left.new_objects;
    map = left.map;
    others = left.others;
    turns = left.turns;
    modules =
        λ number. module-as-before number (module_entry_at s.processes.memory.modules number) (module_entry_at t.processes.memory.modules number) (left.modules number);
    links = inl links;
  }

-- what an attempt that comes to this leaves
abbrev pub AttemptLeaves : State → ℕ → Rest → CallResult → Type 0
AttemptLeaves s p rest result =
    LeavesOthers s p (call_event_end result) (with_rest s (after_attempt s.processes p result) rest)

module _ (s : State) (p : ℕ) (rest : Rest) where
  pub as-left : (result : CallResult) → AttemptLeft s.processes p result → ResultLinks s.processes p result → AttemptLeaves s p rest result
  as-left result left links =
      as-before s p (call_event_end result) (with_rest s (after_attempt s.processes p result) rest) left.leaves links

  pub refused-leaves : (number : ℕ) → AttemptLeaves s p rest (refused number)
  refused-leaves number = as-left (refused number) (left-refused s.processes p number) (inl refl)

  pub call-leaves : (call : ProcCall) → IsLiving s.processes.records p → AttemptsCall s.processes p call → AttemptLeaves s p rest (attempted call s.processes p)
  call-leaves call lives did =
      as-left (attempted call s.processes p) (attempt-left s.processes p call lives did) (attempt-links s.processes p call did (attempt-left s.processes p call lives did))

  of-needs : {A : Type 0} (some : Option A) (number : ℕ) (next : A → CallResult) → ((a : A) → some ≡ Some a → AttemptLeaves s p rest (next a)) → AttemptLeaves s p rest (needs some number next)
  of-needs None number next leaves = refused-leaves number
  of-needs (Some a) number next leaves = leaves a refl

  of-refuses : (test : Bool) (number : ℕ) (next : CallResult) → AttemptLeaves s p rest next → AttemptLeaves s p rest (refuses test number next)
  of-refuses true number next leaves = refused-leaves number
  of-refuses false number next leaves = leaves

  of-changes : (change : Result MemoryState MemoryFault) (next : MemoryState → CallResult)
      → ((memory : MemoryState) → change ≡ Ok memory → AttemptLeaves s p rest (next memory)) → AttemptLeaves s p rest
      (changes change next)
  of-changes (Ok memory) next leaves = leaves memory refl
  of-changes (Err fault) next leaves = refused-leaves _

-- ---- a file that is linked

-- a group in a map is no new object
mapped-objects : (m : MemoryState) (p : ℕ) (group : List ℕ) (mapped : Mapped) → mapped_group m p group ≡ Some mapped → mapped.memory.objects ≡ m.objects
mapped-objects m p group mapped is =
    by_slot (group_slot (map_at m p) group) (highest_free_run (map_at m p) (length group)) is
  where
    by_slot : (slot run : Option ℕ)
        → option_map_or (λ (slot : ℕ). Some (let r : Mapped = record { slot = slot; memory = m } in r)) slot
        (option_map_or (λ (mapped : ℕ × MemoryState). Some
        (let r : Mapped = record { slot = mapped.0; memory = mapped.1 } in r))
        (option_map (λ (first : ℕ). (first, with_map m p (with_group (map_at m p) first group))) run) None) ≡ Some
        mapped → mapped.memory.objects ≡ m.objects
    by_slot (Some slot) run is = sym (ap (λ (mapped : Mapped). mapped.memory.objects) (same_Some _ mapped is))
    by_slot None (Some first) is = sym (ap (λ (mapped : Mapped). mapped.memory.objects) (same_Some _ mapped is))
    by_slot None None is = cc

module _ (s : State) (p : ℕ) (file : ProgramFile) (loaded : Loaded) (loads : LoadsFile s p file loaded) where
  abbrev before : Processes
  before = with-file s p file loaded loads

  module _ (mapped : Mapped) (is : mapped_group loaded.memory p loaded.first.entry.group ≡ Some mapped) (count : ℕ) (next : act_of s.processes p ≡ attempts F_LOAD) where
    abbrev linked-then : Processes
    linked-then = after_link s.processes p loaded.first mapped count

    abbrev after : Processes
    after = goes_on linked-then p (done_regs (regs_at linked-then p))

    grows : Grows loaded.memory (IsParameter s.processes p) p mapped.memory
    grows =
        mapped-grows loaded.memory p loaded.first.number loaded.first.entry mapped (first-there s.processes.memory file.bytes loaded (is-loaded s p file loaded loads)) is

    still : mapped.memory.modules ≡ loaded.memory.modules
    still = mapped-modules loaded.memory p loaded.first.entry.group mapped is

    more : HaveMore loaded.memory.modules (linked mapped.memory loaded.first.number).modules
    more =
        subst (λ (entries : List (Option ModuleEntry)). HaveMore entries (linked mapped.memory loaded.first.number).modules) still (more-linked mapped.memory loaded.first.number)

    record-is : (q : ℕ) → q ≢ p → record_of after.records q ≡ record_of s.processes.records q
    record-is q differ =
        record-other _ p _ q differ ∙ record-other _ p _ q differ ∙ record-other s.processes.records p _ q differ

    own-is : (q : ℕ) → q ≢ p → own_at after q ≡ own_at s.processes q
    own-is q differ = own-other linked-then p _ q differ ∙ own-other s.processes p _ q differ

    linked-left : FileLeft s p file loaded loads after
    linked-left = record {
      objects =
          λ object there. ap (λ (objects : List (List ℕ)). slice_get objects object) (mapped-objects loaded.memory p loaded.first.entry.group mapped is);
      new_objects = grows.kept.new_objects;
      map = grows.itself;
      others =
          λ q differ. subst (ComesOf before p Ran after q (record_of s.processes.records q)) (sym (record-is q differ))
          (comes-of before p Ran after q (record_of s.processes.records q) (record_of s.processes.records q) (grows.kept.maps q differ)
          (subst (KeepsOwn before p after.memory q (own_at s.processes q)) (sym (own-is q differ)) (own-same before p Ran q after.memory (own_at s.processes q)))
          (record-same before p Ran q (record_of s.processes.records q)));
      turns = refl;
      modules =
          λ number. loaded-more s p file loaded loads (module_entry_at loaded.memory.modules number) (module_entry_at after.memory.modules number) (more number);
      links = inr (inl (record {
        call = inl next;
        file = file;
        loaded = loaded;
        loads = loads;
        linked_then = linked-modules loaded.memory mapped.memory loaded.first.number still;
      }));
    }

  link-leaves : act_of s.processes p ≡ attempts F_LOAD → (rest : Rest) → AttemptLeaves s p rest (links_first s.processes p file loaded)
  link-leaves next rest =
      of-needs s p rest (mapped_group loaded.memory p loaded.first.entry.group) E_MEMFUL
      (λ mapped. refuses (nat_le MOST_LINKS (links_at (own_at s.processes p) mapped.slot)) E_MEMFUL
      (done (after_link s.processes p loaded.first mapped count)))
      (λ mapped is. of-refuses s p rest (nat_le MOST_LINKS (links_at (own_at s.processes p) mapped.slot)) E_MEMFUL (done (after_link s.processes p loaded.first mapped count))
      (file-leaves s p file loaded loads (with_rest s (after mapped is count next) rest) (linked-left mapped is count next)))
    where
      count : ℕ
      count = file.next - (regs_at s.processes p).x

  -- ---- a file that is started

  module _ (starts : AttemptsCall s.processes p Call.Fork ⊎ AttemptsCall s.processes p Call.Chain) (parameters : List ℕ) (given : parameters_of s.processes p ≡ Some parameters) where
    abbrev program : Program
    program = loaded_program s.processes p file loaded.first

    parameters-are : program.parameters ≡ parameters
    parameters-are = ap (λ (some : Option (List ℕ)). unwrap_or some []) given

    -- they are still seen where the file is in memory
    seen-before : user_bytes (cells_at before p) (regs_at s.processes p).u (regs_at s.processes p).y ≡ Some parameters
    seen-before =
        user-more (cells_at s.processes p) (cells_at before p) (cell-same s.processes.memory file.bytes loaded (is-loaded s p file loaded loads) p) (regs_at s.processes p).u (regs_at s.processes p).y
        parameters given

    pub room : HasRoom before p program
    room = record {
      fits =
          subst (λ (n : ℕ). n ≤ 256 * program.pages)
          (sym (ap (length {A = ℕ}) parameters-are ∙ user-length (cells_at s.processes p) (regs_at s.processes p).u
          (regs_at s.processes p).y parameters given)) (room-of before p loaded.first.entry (regs_at s.processes p).b
          (regs_at s.processes p).y);
      given = λ k byte at. record {
        starts = starts;
        parameters = parameters;
        given = seen-before;
        member = (k, subst (λ (bytes : List ℕ). slice_get bytes k ≡ Some byte) parameters-are at);
      };
    }

    parameter-is : (byte : ℕ) → IsParameter before p byte → IsParameter s.processes p byte
    parameter-is byte it =
        let same : it.parameters ≡ parameters = same_Some it.parameters parameters (sym it.given ∙ seen-before) in
        let (k, member) = it.member in
        record {
          starts = starts;
          parameters = parameters;
          given = given;
          member = (k, subst (λ (bytes : List ℕ). slice_get bytes k ≡ Some byte) same member);
        }

    new-objects : (n : MemoryState) → HoldOnly (IsParameter before p) loaded.memory n → HoldOnly (IsParameter s.processes p) loaded.memory n
    new-objects n hold object bytes late at k byte here =
        elim (hold object bytes late at k byte here) [
          | inl none ↦ inl none
          | inr parameter ↦ inr (parameter-is byte parameter)
        ]

    -- the memory in which a process begins with the program
    module _ (c : ℕ) (memory : MemoryState) (is : started loaded.memory c loaded.first.number (blocks_of_pages program.pages) ≡ Ok memory) where
      abbrev begun : MemoryState
      begun = with_parameters (linked memory loaded.first.number) c program

      begun-objects : (object : ℕ) → object < length loaded.memory.objects → slice_get begun.objects object ≡ slice_get loaded.memory.objects object
      begun-objects object there =
          let begins : Started loaded.memory c loaded.first.number (blocks_of_pages program.pages) memory = started-is loaded.memory c loaded.first.number (blocks_of_pages program.pages) memory is in
          subst (λ (n : MemoryState). slice_get (stored (linked n loaded.first.number) c (parameters_at program)
          program.parameters).objects object ≡ slice_get loaded.memory.objects object) (sym begins.memory)
          (old-kept loaded.memory c (blocks_of_pages program.pages) begins.entry.group begins.fits loaded.first.number
          (parameters_at program) program.parameters (within-area before p program.pages
          (length program.parameters) room.fits) object there)

      begun-still : memory.modules ≡ loaded.memory.modules
      begun-still =
          started-modules loaded.memory c loaded.first.number (blocks_of_pages program.pages) memory is

      begun-more : HaveMore loaded.memory.modules begun.modules
      begun-more =
          subst (λ (entries : List (Option ModuleEntry)). HaveMore entries begun.modules) begun-still (more-linked memory loaded.first.number)

      begun-modules : begun.modules ≡ (linked loaded.memory loaded.first.number).modules
      begun-modules = linked-modules loaded.memory memory loaded.first.number begun-still

    -- from what is left of the others where the file is in memory
    from-left : (n : Processes) → Left before p Ran n → ((object : ℕ) → object < length loaded.memory.objects
        → slice_get n.memory.objects object ≡ slice_get loaded.memory.objects object)
        → ((number : ℕ) → ComesLoaded s p file loaded loads (module_entry_at loaded.memory.modules number)
        (module_entry_at n.memory.modules number)) → ChangesLinksOrLoads s p Ran n.memory → FileLeft s p file loaded loads n
    from-left n left objects modules links = record {
      objects = objects;
      new_objects = new-objects n.memory left.leaves.new_objects;
      map = left.leaves.map;
      others = left.leaves.others;
      turns = left.leaves.turns;
      modules = modules;
      links = links;
    }

    -- a child begins
    module _ (lives : IsLiving s.processes.records p) (call : AttemptsCall s.processes p Call.Fork) (child : ℕ)
        (free : free_process s.processes.records ≡ Some child) (memory : MemoryState) (is : started loaded.memory child
        loaded.first.number (blocks_of_pages program.pages) ≡ Ok memory) where
      abbrev made : Processes
      made = with_regs_of (with_child before p child program memory) p (forked_regs (regs_at before p) child program)

      fork-file : (rest : Rest) → AttemptLeaves s p rest (done made)
      fork-file rest =
          file-leaves s p file loaded loads (with_rest s (goes_on made p (done_regs (regs_at made p))) rest)
          (from-left (goes_on made p (done_regs (regs_at made p))) (fork-done before p lives call program child memory room free is) (begun-objects child memory is)
          (λ number. loaded-more s p file loaded loads (module_entry_at loaded.memory.modules number) (module_entry_at (begun child memory is).modules number) (begun-more child memory is number))
          (inr (inl (record { call = inr call; file = file; loaded = loaded; loads = loads; linked_then = begun-modules child memory is }))))

    forks-leave : IsLiving s.processes.records p → AttemptsCall s.processes p Call.Fork → (rest : Rest) → AttemptLeaves s p rest (starts_first forks s.processes p file loaded)
    forks-leave lives call rest =
        of-refuses s p rest (not (loaded.first.entry.info.kind == program_kind)) E_NEMOD (forks before p program)
        (of-needs s p rest (free_process s.processes.records) E_PRCFUL (λ child. refuses (nat_lt most_pages program.pages) E_MEMFUL (making child))
        (λ child free. of-refuses s p rest (nat_lt most_pages program.pages) E_MEMFUL (making child)
        (of-changes s p rest (started loaded.memory child loaded.first.number (blocks_of_pages program.pages)) (begins child)
        (λ memory is. fork-file lives call child free memory is rest))))
      where
        begins : ℕ → MemoryState → CallResult
        begins child memory =
            done (with_regs_of (with_child before p child program memory) p (forked_regs (regs_at before p) child program))

        making : ℕ → CallResult
        making child =
            changes (started loaded.memory child loaded.first.number (blocks_of_pages program.pages)) (begins child)

    -- the process begins anew
    module _ (call : AttemptsCall s.processes p Call.Chain) (memory : MemoryState) (is : started loaded.memory p loaded.first.number (blocks_of_pages program.pages) ≡ Ok memory) where
      abbrev anew : Processes
      anew = begun_anew (with_program before p program memory) p program

      abbrev chained : Processes
      chained = without_primary_link anew (own_at s.processes p)

      chained-objects : (primary : Option ModId) → (option_map_or (λ (id : ModId). without_module_link anew id.0) primary anew).memory.objects ≡ (begun p memory is).objects
      chained-objects None = refl
      chained-objects (Some id) = refl

      chained-modules : (primary : Option ModId) → (option_map_or (λ (id : ModId). without_module_link anew id.0)
          primary anew).memory.modules ≡ without_link (linked loaded.memory loaded.first.number).modules
          (option_map (λ (id : ModId). id.0) primary)
      chained-modules None = begun-modules p memory is
      chained-modules (Some id) =
          ap (λ (modules : List (Option ModuleEntry)). without_link modules (Some id.0)) (begun-modules p memory is)

      chain-file : (rest : Rest) → AttemptLeaves s p rest (done chained)
      chain-file rest =
          file-leaves s p file loaded loads (with_rest s (goes_on chained p (done_regs (regs_at chained p))) rest)
          (from-left (goes_on chained p (done_regs (regs_at chained p))) left
          (λ object there. ap (λ (objects : List (List ℕ)). slice_get objects object) (chained-objects (own_at s.processes p).primary) ∙ begun-objects p memory is object there)
          (λ number. loaded-chained s p file loaded loads call (module_entry_at loaded.memory.modules number) (module_entry_at chained.memory.modules number) (left.leaves.modules number))
          (inr (inr (record { file = file; loaded = loaded; loads = loads; call = call; relinked = chained-modules (own_at s.processes p).primary }))))
        where
          left : Left before p Ran (goes_on chained p (done_regs (regs_at chained p)))
          left = chain-done before p call program memory room is

    chains-leave : AttemptsCall s.processes p Call.Chain → (rest : Rest) → AttemptLeaves s p rest (starts_first chains s.processes p file loaded)
    chains-leave call rest =
        of-refuses s p rest (not (loaded.first.entry.info.kind == program_kind)) E_NEMOD (chains before p program)
        (of-refuses s p rest (nat_lt most_pages program.pages) E_MEMFUL (changes (started loaded.memory p loaded.first.number (blocks_of_pages program.pages)) begins)
        (of-changes s p rest (started loaded.memory p loaded.first.number (blocks_of_pages program.pages)) begins
        (λ memory is. chain-file call memory is rest)))
      where
        begins : MemoryState → CallResult
        begins memory =
            done (without_primary_link (begun_anew (with_program before p program memory) p program) (own_at before p))

-- ---- attempts

module _ (s : State) (p : ℕ) (now : TimePacket) (rest : Rest) (result : CallResult) (new : Files) where
  loads-leave : act_of s.processes p ≡ attempts F_LOAD → (reading : Result ProgramFile ℕ)
      → ReadsProgram (program_file (asker_of s.processes p now) s.files (length s.terms) (λ step. step)) reading s.files
      new → GoesOnLoaded s.processes reading (links_first s.processes p) result → AttemptLeaves s p rest result
  loads-leave next (Err number) reads is =
      subst (AttemptLeaves s p rest) (sym is) (refused-leaves s p rest number)
  loads-leave next (Ok file) reads (Err number, loads, is) =
      subst (AttemptLeaves s p rest) (sym is) (refused-leaves s p rest number)
  loads-leave next (Ok file) reads (Ok loaded, loads, is) =
      subst (AttemptLeaves s p rest) (sym is)
      (link-leaves s p file loaded (record { call = inl next; found = file-found s p now file new reads; loads = loads }) next rest)

  pub load-leaves-others : act_of s.processes p ≡ attempts F_LOAD → LoadAttempts s.processes (asker_of s.processes p now) s.files (length s.terms) p result new → AttemptLeaves s p rest result
  load-leaves-others next it = loads-leave next it.reading it.reads it.comes

  -- a program of a file

  forks-file : IsLiving s.processes.records p → StartsFileBy s.processes p Call.Fork → (reading : Result ProgramFile ℕ)
      → ReadsProgram (program_file (asker_of s.processes p now) s.files (length s.terms) (tests_program s.processes p))
      reading s.files new → GoesOnLoaded s.processes reading (starts_first forks s.processes p) result → AttemptLeaves s p
      rest result
  forks-file lives by (Err number) reads is =
      subst (AttemptLeaves s p rest) (sym is) (refused-leaves s p rest number)
  forks-file lives by (Ok file) reads (Err number, loads, is) =
      subst (AttemptLeaves s p rest) (sym is) (refused-leaves s p rest number)
  forks-file lives by (Ok file) reads (Ok loaded, loads, is) =
      let read : HasRead s.processes p file (program_file (asker_of s.processes p now) s.files (length s.terms) (λ step. step)) = program-found s p now file new reads in
      subst (AttemptLeaves s p rest) (sym is)
      (forks-leave s p file loaded (record { call = inr (inl by); found = read.found; loads = loads }) (inl by.attempted) read.parameters read.given lives by.attempted rest)

  pub fork-leaves-others : IsLiving s.processes.records p → AttemptsCall s.processes p Call.Fork → ForkAttempts s.processes
      (asker_of s.processes p now) s.files (length s.terms) p result new → AttemptLeaves s p rest result
  fork-leaves-others lives call it = by_named (named_program s.processes p) refl it
    where
      by_named : (named : Option Entered) → named_program s.processes p ≡ named → MatchOption named
          (StartsFile forks s.processes (asker_of s.processes p now) s.files (length s.terms) p result new)
          (λ named. (result ≡ f_fork s.processes p) × (new ≡ s.files)) → AttemptLeaves s p rest result
      by_named None unnamed it =
          forks-file lives (record { attempted = call; unnamed = unnamed }) it.reading it.reads it.comes
      by_named (Some entered) named (is, same) =
          subst (AttemptLeaves s p rest) (sym is) (call-leaves s p rest Call.Fork lives call)

  chains-file : StartsFileBy s.processes p Call.Chain → (reading : Result ProgramFile ℕ)
      → ReadsProgram (program_file (asker_of s.processes p now) s.files (length s.terms) (tests_program s.processes p))
      reading s.files new → GoesOnLoaded s.processes reading (starts_first chains s.processes p) result → AttemptLeaves s p
      rest result
  chains-file by (Err number) reads is =
      subst (AttemptLeaves s p rest) (sym is) (refused-leaves s p rest number)
  chains-file by (Ok file) reads (Err number, loads, is) =
      subst (AttemptLeaves s p rest) (sym is) (refused-leaves s p rest number)
  chains-file by (Ok file) reads (Ok loaded, loads, is) =
      let read : HasRead s.processes p file (program_file (asker_of s.processes p now) s.files (length s.terms) (λ step. step)) = program-found s p now file new reads in
      subst (AttemptLeaves s p rest) (sym is)
      (chains-leave s p file loaded (record { call = inr (inr by); found = read.found; loads = loads }) (inr by.attempted) read.parameters read.given by.attempted rest)

  pub chain-leaves-others : IsLiving s.processes.records p → AttemptsCall s.processes p Call.Chain → ChainAttempts s.processes
      (asker_of s.processes p now) s.files (length s.terms) p result new → AttemptLeaves s p rest result
  chain-leaves-others lives call it = by_named (named_program s.processes p) refl it
    where
      by_named : (named : Option Entered) → named_program s.processes p ≡ named → MatchOption named
          (StartsFile chains s.processes (asker_of s.processes p now) s.files (length s.terms) p result new)
          (λ named. (result ≡ f_chain s.processes p) × (new ≡ s.files)) → AttemptLeaves s p rest result
      by_named None unnamed it =
          chains-file (record { attempted = call; unnamed = unnamed }) it.reading it.reads it.comes
      by_named (Some entered) named (is, same) =
          subst (AttemptLeaves s p rest) (sym is) (call-leaves s p rest Call.Chain lives call)
