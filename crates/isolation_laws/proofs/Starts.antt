-- What F$Fork and F$Chain leave in the objects that appear.
use Rattle.std.proofs.Common.{◌≡◌, ◌⊎◌, ℕ, ◌+◌, ◌*◌, ◌<◌, ◌≤◌, ◌==◌, not, nat_lt, Bool, true, false, Option, Some, None, Result, Ok, Err, List, [], length, slice_get, refl, sym, ap, ◌∙◌, subst, inl, inr, arith}
use Rattle.std.specs.Prelude.{option_and_then, unwrap_or}
use Rattle.std.specs.Option.{option_map_or}
use Rattle.os9_base.specs.declared.errors.TheConstants.{E_BNAM, E_BPADDR, E_MEMFUL, E_MNF, E_NEMOD, E_PRCFUL}
use Rattle.proc_model.specs.Memory.{MemoryState}
use Rattle.proc_model.specs.MemoryChanges.{linked, started, stored}
use Rattle.proc_model.specs.Objects.{file_blocks}
use Rattle.proc_model.specs.declared.memory.MemoryFault.{MemoryFault}
use Rattle.proc_model.specs.declared.module.ModId.{ModId}
use Rattle.proc_model.specs.Records.{free_process}
use Rattle.proc_model.specs.CallResult.{CallResult, changes, done, ends, needs, refused, refuses, waits}
use Rattle.proc_model.specs.Chain.{begun_anew, f_chain, with_program}
use Rattle.proc_model.specs.Fork.{f_fork, forked_regs, with_child}
use Rattle.proc_model.specs.Processes.{Processes, cells_at, own_at, regs_at, with_memory, with_regs_of}
use Rattle.proc_model.specs.ModuleLinks.{Entered, found_entry, without_module_link, without_primary_link}
use Rattle.proc_model.specs.Program.{Program, area_pages, area_size, asks_for_program, blocks_of_pages, is_unreadable, module_name, most_pages, name_at_x, parameters_at, program_kind, reads_program, with_parameters}
use Rattle.proc_model.specs.UserBytes.{user_bytes}
use Rattle.proc_model.specs.declared.proc_call.ProcCall.TheVariants as Call
use Rattle.file_rules.specs.Load.{Loaded}
use Rattle.file_rules.specs.Program.{chains, forks, loaded_program, named_program, parameters_of, starts_first}
use Rattle.file_rules.specs.ProgramFile.{ProgramFile}
use Rattle.call_laws.specs.Others.{AttemptsCall}
use Rattle.call_laws.proofs.ForksKept.{room-of, within-area}
use Rattle.call_laws.proofs.MemoryKept.{Started, old-kept, started-is}
use Rattle.isolation_laws.specs.Loading.{LoadsFile}
use Rattle.isolation_laws.proofs.FileKept.{is-loaded}
use Rattle.isolation_laws.proofs.Loaded.{file-block-at, more-objects, user-length}
use Rattle.machine_model.specs.State.{State}
use Rattle.isolation_laws.specs.NewBytes.{BeginsIn, HoldArea, HoldFileFirst, StartsProgram}
use Rattle.isolation_laws.proofs.ObjectLawsAreas.{begun-area}

-- ---- results

-- the objects then are so, if the call is done; it does not wait and the process does not end
abbrev pub Leaves : (List (List ℕ) → Type 0) → CallResult → Type 0
Leaves P (done t) = P t.memory.objects
Leaves P (refused number) = Unit {0}
Leaves P (waits t) = ⊥
Leaves P (ends status) = ⊥

module _ (P : List (List ℕ) → Type 0) where
  of-needs : {A : Type 0} (some : Option A) (number : ℕ) (next : A → CallResult) → ((a : A) → some ≡ Some a → Leaves P (next a)) → Leaves P (needs some number next)
  of-needs None number next leaves = tt
  of-needs (Some a) number next leaves = leaves a refl

  of-refuses : (test : Bool) (number : ℕ) (next : CallResult) → Leaves P next → Leaves P (refuses test number next)
  of-refuses true number next leaves = tt
  of-refuses false number next leaves = leaves

  of-changes : (change : Result MemoryState MemoryFault) (next : MemoryState → CallResult) → ((memory : MemoryState) → change ≡ Ok memory → Leaves P (next memory)) → Leaves P (changes change next)
  of-changes (Ok memory) next leaves = leaves memory refl
  of-changes (Err fault) next leaves = tt

-- the primary module's link changes no object
unlinked-objects : (t : Processes) (primary : Option ModId) → (option_map_or (λ (id : ModId). without_module_link t id.0) primary t).memory.objects ≡ t.memory.objects
unlinked-objects t None = refl
unlinked-objects t (Some id) = refl

-- ---- a program that is started from a state

module _ (from : Processes) (p : ℕ) (P : List (List ℕ) → Type 0) (program : Program) (In : ℕ → Type 0) (begins : (c : ℕ) → In c → (memory : MemoryState)
    → started from.memory c program.entered.number (blocks_of_pages program.pages) ≡ Ok memory → P (with_parameters (linked memory program.entered.number) c program).objects) where
  pub forks-leave : ((child : ℕ) → free_process from.records ≡ Some child → In child) → Leaves P (forks from p program)
  forks-leave in_child =
      of-needs P (free_process from.records) E_PRCFUL (λ child. refuses (nat_lt most_pages program.pages) E_MEMFUL (making child))
      (λ child free. of-refuses P (nat_lt most_pages program.pages) E_MEMFUL (making child)
      (of-changes P (started from.memory child program.entered.number (blocks_of_pages program.pages)) (begun child) (λ memory is. begins child (in_child child free) memory is)))
    where
      begun : ℕ → MemoryState → CallResult
      begun child memory =
          done (with_regs_of (with_child from p child program memory) p (forked_regs (regs_at from p) child program))

      making : ℕ → CallResult
      making child =
          changes (started from.memory child program.entered.number (blocks_of_pages program.pages)) (begun child)

  pub chains-leave : In p → Leaves P (chains from p program)
  chains-leave in_it =
      of-refuses P (nat_lt most_pages program.pages) E_MEMFUL (changes (started from.memory p program.entered.number (blocks_of_pages program.pages)) anew)
      (of-changes P (started from.memory p program.entered.number (blocks_of_pages program.pages)) anew
      (λ memory is. subst P (sym (unlinked-objects (begun_anew (with_program from p program memory) p program) (own_at from p).primary)) (begins p in_it memory is)))
    where
      anew : MemoryState → CallResult
      anew memory =
          done (without_primary_link (begun_anew (with_program from p program memory) p program) (own_at from p))

-- ---- an entered module is started

module _ (m : Processes) (p : ℕ) (P : List (List ℕ) → Type 0) (starts : AttemptsCall m p Call.Fork ⊎ AttemptsCall m p Call.Chain) (next : Program → CallResult) (leaves : (program : Program)
    → StartsProgram m p (named_program m p) program → length program.parameters ≤ area_size program → Leaves P (next program)) where
  abbrev program-of : Entered → List ℕ → ℕ → Program
  program-of found parameters count = record {
    entered = found;
    pages = area_pages found.entry (regs_at m p).b (length parameters);
    parameters = parameters;
    count = count;
  }

  abbrev with-found : List ℕ → List ℕ → Entered → CallResult
  with-found parameters name found =
      refuses (not (found.entry.info.kind == program_kind)) E_NEMOD (next (program-of found parameters (length name)))

  abbrev with-name : List ℕ → List ℕ → CallResult
  with-name parameters name =
      needs (found_entry m.memory.modules name (regs_at m p).a) E_MNF (with-found parameters name)

  abbrev with-read : List ℕ → CallResult
  with-read parameters =
      refuses (not (asks_for_program (regs_at m p).a)) E_NEMOD (needs (module_name (name_at_x m p)) E_BNAM (with-name parameters))

  started-leaves : (parameters : List ℕ) → parameters_of m p ≡ Some parameters → (name : List ℕ) (found : Entered) → named_program m p ≡ Some found
      → Leaves P (next (program-of found parameters (length name)))
  started-leaves parameters given name found named =
      leaves (program-of found parameters (length name))
      (record {
        call = starts;
        entered = named;
        pages =
            ap (area_pages found.entry (regs_at m p).b) (user-length (cells_at m p) (regs_at m p).u (regs_at m p).y parameters given);
        parameters = given;
      })
      (room-of m p found.entry (regs_at m p).b (length parameters))

  pub program-leaves : Leaves P (reads_program m p next)
  program-leaves =
      of-refuses P (is_unreadable (name_at_x m p)) E_BPADDR (needs (user_bytes (cells_at m p) (regs_at m p).u (regs_at m p).y) E_BPADDR with-read)
      (of-needs P (user_bytes (cells_at m p) (regs_at m p).u (regs_at m p).y) E_BPADDR with-read
      (λ parameters given. of-refuses P (not (asks_for_program (regs_at m p).a)) E_NEMOD (needs (module_name (name_at_x m p)) E_BNAM (with-name parameters))
      (of-needs P (module_name (name_at_x m p)) E_BNAM (with-name parameters)
      (λ name name_is. of-needs P (found_entry m.memory.modules name (regs_at m p).a) E_MNF (with-found parameters name)
      (λ found found_is. of-refuses P (not (found.entry.info.kind == program_kind)) E_NEMOD (next (program-of found parameters (length name)))
      (started-leaves parameters given name found (ap (option_and_then named) name_is ∙ found_is)))))))
    where
      named : List ℕ → Option Entered
      named name = found_entry m.memory.modules name (regs_at m p).a

module _ (m : Processes) (p : ℕ) where
  abbrev Area : List (List ℕ) → Type 0
  Area objects = HoldArea m p (named_program m p) (length m.memory.objects) objects

  pub fork-area : AttemptsCall m p Call.Fork → Leaves Area (f_fork m p)
  fork-area call =
      program-leaves m p Area (inl call) (forks m p) (λ program starts fits. forks-leave m p Area program (BeginsIn m p)
      (λ c begins memory is. begun-area m.memory memory c program is m p (named_program m p) begins refl starts fits)
      (λ child free. inl (call, free)))

  pub chain-area : AttemptsCall m p Call.Chain → Leaves Area (f_chain m p)
  chain-area call =
      program-leaves m p Area (inr call) (chains m p) (λ program starts fits. chains-leave m p Area program (BeginsIn m p)
      (λ c begins memory is. begun-area m.memory memory c program is m p (named_program m p) begins refl starts fits)
      (inr (call, refl)))

-- ---- a program of a file is started

module _ (s : State) (p : ℕ) (file : ProgramFile) (loaded : Loaded) (loads : LoadsFile s p file loaded) (starts : AttemptsCall s.processes p Call.Fork ⊎ AttemptsCall s.processes p Call.Chain)
    (parameters : List ℕ) (given : parameters_of s.processes p ≡ Some parameters) where
  abbrev before : Processes
  before = with_memory s.processes loaded.memory

  abbrev program : Program
  program = loaded_program s.processes p file loaded.first

  parameters-are : program.parameters ≡ parameters
  parameters-are = ap (λ (some : Option (List ℕ)). unwrap_or some []) given

  starts-it : StartsProgram s.processes p (Some loaded.first) program
  starts-it = record { call = starts; entered = refl; pages = refl; parameters = given ∙ ap Some (sym parameters-are) }

  fits : length program.parameters ≤ area_size program
  fits =
      let all : length program.parameters ≡ (regs_at s.processes p).y =
      ap (length {A = ℕ}) parameters-are ∙ user-length (cells_at s.processes p) (regs_at s.processes p).u (regs_at s.processes p).y parameters given in
      subst (λ (n : ℕ). n ≤ 256 * program.pages) (sym all) (room-of before p loaded.first.entry (regs_at s.processes p).b (regs_at s.processes p).y)

  long : length loaded.memory.objects ≡ length s.processes.memory.objects + file_blocks file.bytes
  long = more-objects s.processes.memory file.bytes loaded (is-loaded s p file loaded loads)

  maps-same : length loaded.memory.maps ≡ length s.processes.memory.maps
  maps-same = ap (λ (n : MemoryState). length n.maps) (is-loaded s p file loaded loads).memory

  -- the file is still there
  file-first : (c : ℕ) → BeginsIn s.processes p c → (memory : MemoryState) → started loaded.memory c loaded.first.number (blocks_of_pages program.pages) ≡ Ok memory
      → HoldFileFirst s p (with_parameters (linked memory loaded.first.number) c program).objects
  file-first c begins memory is = record {
    file = file;
    loaded = loaded;
    loads = loads;
    blocks = λ k within.
        still (length s.processes.memory.objects + k) (subst (λ (n : ℕ). length s.processes.memory.objects + k < n) (sym long) (omega (arith, within)))
        ∙ file-block-at s.processes.memory file.bytes loaded (is-loaded s p file loaded loads) k within;
    rest =
        subst (λ (first : ℕ). HoldArea s.processes p (Some loaded.first) first (with_parameters (linked memory loaded.first.number) c program).objects) long
        (begun-area loaded.memory memory c program is s.processes p (Some loaded.first) begins maps-same starts-it fits);
  }
    where
      still : (object : ℕ) → object < length loaded.memory.objects → slice_get (with_parameters (linked memory loaded.first.number) c program).objects object ≡ slice_get loaded.memory.objects object
      still object there =
          let it : Started loaded.memory c loaded.first.number (blocks_of_pages program.pages) memory = started-is loaded.memory c loaded.first.number (blocks_of_pages program.pages) memory is in
          subst (λ (n : MemoryState). slice_get (stored (linked n loaded.first.number) c (parameters_at program) program.parameters).objects object ≡ slice_get loaded.memory.objects object)
          (sym it.memory)
          (old-kept loaded.memory c (blocks_of_pages program.pages) it.entry.group it.fits loaded.first.number (parameters_at program) program.parameters
          (within-area before p program.pages (length program.parameters) fits) object there)

  pub fork-file : AttemptsCall s.processes p Call.Fork → Leaves (HoldFileFirst s p) (starts_first forks s.processes p file loaded)
  fork-file call =
      of-refuses (HoldFileFirst s p) (not (loaded.first.entry.info.kind == program_kind)) E_NEMOD (forks before p program)
      (forks-leave before p (HoldFileFirst s p) program (BeginsIn s.processes p) file-first (λ child free. inl (call, free)))

  pub chain-file : AttemptsCall s.processes p Call.Chain → Leaves (HoldFileFirst s p) (starts_first chains s.processes p file loaded)
  chain-file call =
      of-refuses (HoldFileFirst s p) (not (loaded.first.entry.info.kind == program_kind)) E_NEMOD (chains before p program)
      (chains-leave before p (HoldFileFirst s p) program (BeginsIn s.processes p) file-first (inr (call, refl)))
