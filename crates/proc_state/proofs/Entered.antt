-- Which modules are entered before and after a change of memory, and that the kernel represents some machine.
use Rattle.std.proofs.Common.{◌≡◌, ℕ, zero, suc, [], ◌∷◌, ◌<◌, ◌≤◌, Option, Some, None, is_some, option_map, List, length, get_or, refl, sym, ap, ◌∙◌, arith, inl, inr, ◌⊎◌}
use Rattle.std.specs.Prelude.{slice_get}
use Rattle.std.proofs.lemmas.List.{get_or_past}
use Rattle.std.proofs.lemmas.Bool.{cases_lt}
use Rattle.block_pool.specs.Blocks.{IsLive}
use Rattle.guest_memory.specs.declared.memory.Memory.{Memory}
use Rattle.guest_memory.specs.Tie.{RepresentsMemory, modules_of}
use Rattle.guest_memory.specs.Memory.{memory_of}
use Rattle.guest_memory.specs.Renaming.{renamed_entry}
use Rattle.guest_memory.proofs.Directory.{entry_at-renamed}
use Rattle.proc_model.specs.Memory.{MemoryState}
use Rattle.proc_model.specs.ModuleList.{ModuleEntry, module_entry_at}
use Rattle.proc_model.specs.Processes.{Processes}
use Rattle.proc_state.specs.Tie.{RepresentsProcesses, processes_of}
use Rattle.proc_state.specs.declared.state.ProcState.{ProcState}

-- what a list has at a place within it
slice_get-within : {X : Type 0} (xs : List X) (i : ℕ) (d : X) → i < length xs → slice_get xs i ≡ Some (get_or xs i d)
slice_get-within [] i d within = absurd (omega arith)
slice_get-within (x ∷ xs) zero d within = refl
slice_get-within (x ∷ xs) (suc i) d within = slice_get-within xs i d (omega arith)

-- the memory whose objects are the blocks themselves
abbrev own_objects : Memory → MemoryState
own_objects memory = memory_of (λ block. block) memory.pool memory.maps.items memory.dir memory.pool.bytes

-- each memory represents one
pub represented : (memory : Memory) → RepresentsMemory memory (own_objects memory)
represented memory = record {
  number = λ block. block;
  objects = memory.pool.bytes;
  represent = record {
    same_bytes = λ block live. slice_get-within memory.pool.bytes block [] (within block live (cases_lt block (length memory.pool.counts)));
    apart = λ one other live live_too same. same;
  };
  is = refl;
}
  where
    within : (block : ℕ) → IsLive memory.pool block → (block < length memory.pool.counts) ⊎ (length memory.pool.counts ≤ block) → block < length memory.pool.bytes
    within block live (inl below) = omega (arith, memory.sound.shape.whole)
    within block live (inr past) = absurd (omega (arith, get_or_past {X = ℕ} memory.pool.counts block 0 past))

-- the processes of the kernel are those of some machine
pub some-machine : (s : ProcState) → (m : Processes) × RepresentsProcesses s m
some-machine s = (processes_of s _, record { memory = represented s.memory; is = refl })

is_some-map : {A B : Type 0} (f : A → B) (place : Option A) → is_some (option_map f place) ≡ is_some place
is_some-map f None = refl
is_some-map f (Some a) = refl

-- the modules that are entered are those of the machine
pub entered-tied : (memory : Memory) (m : MemoryState) → RepresentsMemory memory m → (n : ℕ) → is_some (module_entry_at m.modules n) ≡ is_some (module_entry_at (modules_of memory) n)
entered-tied memory m tied n =
    ap (λ (s : MemoryState). is_some (module_entry_at s.modules n)) tied.is
    ∙ ap is_some (entry_at-renamed tied.number memory.dir n)
    ∙ is_some-map (renamed_entry tied.number) (module_entry_at memory.dir n)

-- a change that leaves the module directory leaves the modules that are entered
pub entered-kept : (old new : Memory) (change : MemoryState → MemoryState) → ((m : MemoryState) → RepresentsMemory old m
    → RepresentsMemory new (change m)) → ((m : MemoryState) → (change m).modules ≡ m.modules) → (n : ℕ)
    → is_some (module_entry_at (modules_of new) n) ≡ is_some (module_entry_at (modules_of old) n)
entered-kept old new change ties keeps n =
    let m = own_objects old in
    sym (entered-tied new (change m) (ties m (represented old)) n)
    ∙ ap (λ (modules : List (Option ModuleEntry)). is_some (module_entry_at modules n)) (keeps m)
    ∙ entered-tied old m (represented old) n
