-- What starting a program of a file comes to, by the room that there was before the file was loaded.
use Rattle.std.proofs.Common.{◌≡◌, ◌∙◌, ◌+◌, ◌-◌, ◌≤◌, ◌==◌, ◌||◌, not, nat_lt, ℕ, Bool, true, false, Option, Some, None, Result, Ok, Err, List, length, inl, inr, refl, ap, sym, arith}
use Rattle.std.specs.Option.{option_map_or}
use Rattle.std.specs.Prelude.{if◌then◌else◌}
use Rattle.std.proofs.lemmas.Bool.{cases_lt, le-ltb, lt-ltb, ltb-false}
use Rattle.std.proofs.lemmas.List.FromFn.{length-range_with_len}
use Rattle.os9_base.specs.declared.errors.TheConstants.{E_MEMFUL, E_NEMOD, E_NORAM, E_PRCFUL}
use Rattle.proc_model.specs.declared.memory.MemoryFault.{MemoryFault}
use Rattle.proc_model.specs.declared.memory.MemoryFault.TheVariants.{MemFull, NoRam}
use Rattle.proc_model.specs.declared.module.ModuleInfo.{ModuleInfo}
use Rattle.proc_model.specs.Memory.{MemoryState, free_blocks, map_at}
use Rattle.proc_model.specs.MemoryChanges.{has_most_links, new_numbers, started, started_with, with_first_slots}
use Rattle.proc_model.specs.ModuleList.{ModuleEntry, new_entry}
use Rattle.proc_model.specs.Objects.{file_blocks}
use Rattle.proc_model.specs.Records.{free_process}
use Rattle.proc_model.specs.CallResult.{CallResult, changes, done, needs, refused, refuses}
use Rattle.proc_model.specs.Chain.{begun_anew, with_program}
use Rattle.proc_model.specs.Fork.{forked_regs, with_child}
use Rattle.proc_model.specs.Processes.{Processes, own_at, regs_at, with_memory, with_regs_of}
use Rattle.proc_model.specs.ModuleLinks.{Entered, without_primary_link}
use Rattle.proc_model.specs.Program.{Program, blocks_of_pages, most_pages, program_kind}
use Rattle.file_rules.specs.Load.{Loaded}
use Rattle.file_rules.specs.Program.{forks, loaded_program, starts_first}
use Rattle.file_rules.specs.ProgramFile.{ProgramFile}
use Rattle.load_calls.proofs.OutcomeLemmas.{IsLoaded, first-there}
use Rattle.fork_calls.specs.Loading.{loads_program}
use Rattle.load_calls.specs.Starting.{start_refusal}
use Rattle.load_calls.proofs.RoomLemmas.{free-after}

-- ---- the tests of a start

-- fewer blocks are free than are wanted, where so many were given away before
test-same : (free group low count : ℕ) → group ≤ free → nat_lt (free - group + low) count ≡ nat_lt (free + low) (count + group)
test-same free group low count enough =
    elim (cases_lt (free - group + low) count) [
      | inl few ↦ lt-ltb (free - group + low) count few ∙ sym (lt-ltb (free + low) (count + group) (omega arith))
      | inr many ↦ le-ltb (free - group + low) count many ∙ sym (le-ltb (free + low) (count + group) (omega arith))
    ]

module _ (after : MemoryState) (next : MemoryState → CallResult) where
  -- by whether there are too many pages, too few slots and too few blocks
  abbrev start-by : Bool → Bool → Bool → CallResult
  start-by pages slots blocks = refuses pages E_MEMFUL (changes (if slots then Err MemFull else (if blocks then Err NoRam else Ok after)) next)

  abbrev refusal-by : Bool → Bool → Bool → Option ℕ
  refusal-by pages slots blocks = if pages then Some E_MEMFUL else (if slots then Some E_MEMFUL else (if blocks then Some E_NORAM else None))

  refused-by : (pages slots blocks : Bool) (number : ℕ) → refusal-by pages slots blocks ≡ Some number → start-by pages slots blocks ≡ refused number
  refused-by true slots blocks number is = cc
  refused-by false true blocks number is = cc
  refused-by false false true number is = cc
  refused-by false false false number is = absurd cc

  started-by : (pages slots blocks : Bool) → refusal-by pages slots blocks ≡ None → start-by pages slots blocks ≡ next after
  started-by true slots blocks is = absurd cc
  started-by false true blocks is = absurd cc
  started-by false false true is = absurd cc
  started-by false false false is = refl

module _ (m : Processes) (q : ℕ) (file : List ℕ) (loaded : Loaded) (it : IsLoaded m.memory file loaded)
    (info : ModuleInfo) (first_is : loaded.first.entry ≡ new_entry info (new_numbers m.memory (file_blocks file))
    false) (program : Program) (entered_is : program.entered ≡ loaded.first) where
  abbrev group : ℕ
  group = file_blocks file

  abbrev count : ℕ
  count = blocks_of_pages program.pages

  abbrev entry : ModuleEntry
  entry = loaded.first.entry

  group_is : entry.group ≡ new_numbers m.memory group
  group_is = ap (λ (e : ModuleEntry). e.group) first_is

  long : length entry.group ≡ group
  long = ap (λ (g : List ℕ). length g) group_is ∙ length-range_with_len (length m.memory.objects) group

  enough : group ≤ free_blocks m.memory
  enough = ltb-false (free_blocks m.memory) group it.room

  -- the memory of the process that begins
  abbrev pub begun-memory : MemoryState
  begun-memory = with_first_slots loaded.memory q entry.group count

  abbrev change-by : Bool → Bool → Bool → Result MemoryState MemoryFault
  change-by most slots blocks = if most || slots then Err MemFull else (if blocks then Err NoRam else Ok begun-memory)

  room-is : nat_lt (free_blocks loaded.memory + (map_at loaded.memory q).low) count ≡ nat_lt (free_blocks m.memory + (map_at m.memory q).low) (count + group)
  room-is =
      (λ i. nat_lt (free-after m.memory file loaded it group_is i + (map_at (it.memory_is i) q).low) count)
      ∙ test-same (free_blocks m.memory) group (map_at m.memory q).low count enough

  change-is : started loaded.memory q program.entered.number count ≡ change-by false (nat_lt 8 (count + group)) (nat_lt (free_blocks m.memory + (map_at m.memory q).low) (count + group))
  change-is =
      ap (λ (number : ℕ). started loaded.memory q number count) (ap (λ (e : Entered). e.number) entered_is)
      ∙ ap (λ (place : Option ModuleEntry). option_map_or (started_with loaded.memory q count) place (Err MemFull)) (first-there m.memory file loaded it)
      ∙ (λ i. change-by (has_most_links (first_is i)) (nat_lt 8 (count + long i)) (room-is i))

  loads-by : (next : MemoryState → CallResult) → loads_program (with_memory m loaded.memory) q program next ≡ start-by
      begun-memory next (nat_lt most_pages program.pages) (nat_lt 8 (count + group))
      (nat_lt (free_blocks m.memory + (map_at m.memory q).low) (count + group))
  loads-by next = ap (λ (change : Result MemoryState MemoryFault). refuses (nat_lt most_pages program.pages) E_MEMFUL (changes change next)) change-is

  -- it is refused
  pub start-refused : (number : ℕ) → start_refusal m.memory q group program.pages ≡ Some number
      → (next : MemoryState → CallResult) → loads_program (with_memory m loaded.memory) q program next ≡ refused
      number
  start-refused number is next =
      loads-by next ∙ refused-by begun-memory next (nat_lt most_pages program.pages) (nat_lt 8 (count + group)) (nat_lt (free_blocks m.memory + (map_at m.memory q).low) (count + group)) number is

  -- it has room
  pub start-goes : start_refusal m.memory q group program.pages ≡ None → (next : MemoryState → CallResult) → loads_program (with_memory m loaded.memory) q program next ≡ next begun-memory
  start-goes is next =
      loads-by next ∙ started-by begun-memory next (nat_lt most_pages program.pages) (nat_lt 8 (count + group)) (nat_lt (free_blocks m.memory + (map_at m.memory q).low) (count + group)) is

-- ---- the program of a file

module _ (start : Processes → ℕ → Program → CallResult) (m : Processes) (p : ℕ) (file : ProgramFile) (loaded : Loaded) where
  abbrev program : Program
  program = loaded_program m p file loaded.first

  -- the first module is no program
  pub other-kind : (loaded.first.entry.info.kind == program_kind) ≡ false → starts_first start m p file loaded ≡ refused E_NEMOD
  other-kind test = ap (λ (is : Bool). refuses (not is) E_NEMOD (start (with_memory m loaded.memory) p program)) test

  -- it is one
  pub right-kind : (loaded.first.entry.info.kind == program_kind) ≡ true → starts_first start m p file loaded ≡ start (with_memory m loaded.memory) p program
  right-kind test = ap (λ (is : Bool). refuses (not is) E_NEMOD (start (with_memory m loaded.memory) p program)) test

module _ (s : Processes) (p : ℕ) (program : Program) where
  -- what F$Fork does with the child's number and the memory
  abbrev pub child-next : ℕ → MemoryState → CallResult
  child-next child memory = done (with_regs_of (with_child s p child program memory) p (forked_regs (regs_at s p) child program))

  -- there is no number for a child
  pub fork-full : free_process s.records ≡ None → forks s p program ≡ refused E_PRCFUL
  fork-full none = ap (λ (free : Option ℕ). needs free E_PRCFUL (λ child. loads_program s child program (child-next child))) none

  -- there is one
  pub fork-child : (child : ℕ) → free_process s.records ≡ Some child → forks s p program ≡ loads_program s child program (child-next child)
  fork-child child some = ap (λ (free : Option ℕ). needs free E_PRCFUL (λ child. loads_program s child program (child-next child))) some

  -- what F$Chain does with the memory
  abbrev pub anew-next : MemoryState → CallResult
  anew-next memory = done (without_primary_link (begun_anew (with_program s p program memory) p program) (own_at s p))
