-- The first process begins, or it does not.
use Rattle.std.proofs.Common.{◌≡◌, ◌<◌, ◌≤◌, ◌+◌, ◌||◌, nat_lt, ℕ, Bool, true, false, Option, Some, None, Result, Ok, Err, IsErr, List, length, inr, refl, sym, ap, ◌∙◌, subst, arith}
use Rattle.std.specs.Prelude.{IsSomeAnd}
use Rattle.std.specs.Option.{option_map_or}
use Rattle.std.proofs.lemmas.Bool.{cond-true, lt-ltb, ltb-true, or_right}
use Rattle.os9_base.specs.declared.errors.TheConstants.{E_MEMFUL}
use Rattle.os9_base.specs.declared.registers.Pid.{Pid}
use Rattle.machine_model.specs.declared.ends.BootFault.TheVariants.{TooLarge}
use Rattle.guest_memory.specs.declared.memory.Memory.{Memory}
use Rattle.guest_memory.specs.Tie.{RepresentsMemory, modules_of}
use Rattle.proc_model.specs.declared.memory.MemoryFault.{MemoryFault}
use Rattle.proc_model.specs.declared.memory.MemoryFault.TheVariants.{MemFull}
use Rattle.proc_model.specs.Memory.{MemoryState}
use Rattle.proc_model.specs.MemoryChanges.{linked, started, started_with, has_most_links}
use Rattle.proc_model.specs.ModuleList.{ModuleEntry, module_entry_at}
use Rattle.proc_model.specs.CallResult.{CallResult, done, refused, refuses, changes}
use Rattle.proc_model.specs.Processes.{Processes, with_memory, with_own, with_regs_of}
use Rattle.proc_model.specs.Program.{Program, area_pages, blocks_of_pages, most_pages, start_own, start_regs}
use Rattle.fork_calls.specs.declared.starting.Beginning.{Beginning}
use Rattle.fork_calls.specs.Loading.{loads_program}
use Rattle.proc_state.specs.declared.state.ProcState.{ProcState}
use Rattle.proc_state.specs.Beginning.{with_made}
use Rattle.proc_state.specs.Tie.{RepresentsProcesses}
use Rattle.machine_model.specs.ProcessStart.{RefusesBoot, StartsProcesses, first_priority, first_process, first_start, first_started, no_parent, only_process, superuser}
use Rattle.cold_start.specs.Beginning.{BeginsFirstProcess, HasFirstIn, nobody_in, with_first}
use Rattle.cold_start.proofs.Seen.{entered-here}

-- a program that is loaded has its memory
pub loaded-is : (m : Processes) (p : ℕ) (program : Program) (memory : MemoryState) → ((next : MemoryState → CallResult)
    → loads_program m p program next ≡ next memory) → started m.memory p program.entered.number
    (blocks_of_pages program.pages) ≡ Ok memory
loaded-is m p program memory goes =
    by_size (nat_lt most_pages program.pages) (started m.memory p program.entered.number (blocks_of_pages program.pages)) (goes (λ t. done (with_memory m t)))
  where
    by_size : (large : Bool) (change : Result MemoryState MemoryFault) → refuses large E_MEMFUL (changes change (λ t. done (with_memory m t))) ≡ done (with_memory m memory) → change ≡ Ok memory
    by_size true change same = absurd cc
    by_size false (Err fault) same = absurd cc
    by_size false (Ok t) same =
        let one : with_memory m t ≡ with_memory m memory = cc in
        let memories : t ≡ memory = ap (λ (i : Processes). i.memory) one in cc

-- a data area of more pages than there may be has no room beside a group
too_many : (m : MemoryState) (p number pages : ℕ) (entry : ModuleEntry) → module_entry_at m.modules number ≡ Some
    entry → 1 ≤ length entry.group → most_pages < pages → started m p number (blocks_of_pages pages) ≡ Err MemFull
too_many m p number pages entry is some many =
    let count = blocks_of_pages pages in
    ap (λ (place : Option ModuleEntry). option_map_or (started_with m p count) place (Err MemFull)) is
    ∙ cond-true (has_most_links entry || nat_lt 8 (count + length entry.group)) (Err MemFull) _
    (or_right (has_most_links entry) (nat_lt 8 (count + length entry.group)) (lt-ltb 8 (count + length entry.group) (omega arith)))

-- a program that can not be loaded has no memory
pub unloaded-is : (m : Processes) (p : ℕ) (program : Program) (number : ℕ) → module_entry_at m.memory.modules
    program.entered.number ≡ Some program.entered.entry → 1 ≤ length program.entered.entry.group
    → ((next : MemoryState → CallResult) → loads_program m p program next ≡ refused number)
    → IsErr (started m.memory p program.entered.number (blocks_of_pages program.pages))
unloaded-is m p program number is some goes =
    by_size (nat_lt most_pages program.pages) refl (started m.memory p program.entered.number (blocks_of_pages program.pages)) refl (goes (λ t. done (with_memory m t)))
  where
    by_size : (large : Bool) → nat_lt most_pages program.pages ≡ large → (change : Result MemoryState MemoryFault)
        → started m.memory p program.entered.number (blocks_of_pages program.pages) ≡ change → refuses large E_MEMFUL
        (changes change (λ t. done (with_memory m t))) ≡ refused number → IsErr change
    by_size large test (Err fault) began same = refl
    by_size true test (Ok t) began same =
        let full = too_many m.memory p program.entered.number program.pages program.entered.entry is some (ltb-true most_pages program.pages test) in
        let both : (let change : Result MemoryState MemoryFault = Ok t in change) ≡ Err MemFull = sym began ∙ full in absurd cc
    by_size false test (Ok t) began same = absurd cc

-- a group of the machine has a block
pub some-blocks : (memory : Memory) (m : MemoryState) → RepresentsMemory memory m → (number : ℕ) (entry : ModuleEntry) → module_entry_at m.modules number ≡ Some entry → 1 ≤ length entry.group
some-blocks memory m tied number entry is =
    by_place (module_entry_at (modules_of memory) number) refl (entered-here memory m tied number entry is)
  where
    by_place : (place : Option ModuleEntry) → module_entry_at (modules_of memory) number ≡ place → IsSomeAnd place (λ here. length here.group ≡ length entry.group) → 1 ≤ length entry.group
    by_place None at same = absurd same
    by_place (Some here) at same = let grouped = memory.sound.groups.each number here at in omega (arith, grouped.some, same)

-- the first process stands, which begins with its program
pub first-stands : (t : MemoryState) (program : Program) (start : Beginning) (new : ProcState)
    → start.regs ≡ start_regs program → start.own ≡ start_own program
    → RepresentsProcesses new (with_first (linked t program.entered.number) start) → RepresentsProcesses new (only_process t program)
first-stands t program start new regs own stands =
    subst (λ (m : Processes). RepresentsProcesses new m)
    (λ i. with_regs_of (with_made (with_own (nobody_in (linked t program.entered.number)) first_process.0 (own i)) first_process no_parent superuser first_priority) first_process.0 (regs i))
    stands

module _ (memory : MemoryState) (number : ℕ) (entry : ModuleEntry) (pages : ℕ) (same : pages ≡ area_pages entry 0 0) (new : ProcState) where
  -- it has begun
  pub begins-so : (t : MemoryState) → started memory first_process.0 number (blocks_of_pages pages) ≡ Ok t
      → RepresentsProcesses new (only_process t (record (first_start number entry) { pages = pages }))
      → BeginsFirstProcess (started memory first_process.0 number (blocks_of_pages (area_pages entry 0 0))) number entry (Ok tt)
      new
  begins-so t began stands =
      let there : started memory first_process.0 number (blocks_of_pages (area_pages entry 0 0)) ≡ Ok t = ap
      (λ (n : ℕ). started memory first_process.0 number (blocks_of_pages n)) (sym same) ∙ began in
      let Stands : ℕ → Type 0 = λ n. RepresentsProcesses new (only_process t (record (first_start number entry) { pages = n })) in
      subst (λ (change : Result MemoryState MemoryFault). BeginsFirstProcess change number entry (Ok tt) new) (sym there) (refl, subst Stands same stands)

  -- there is no room for it
  pub begins-not : (error : ℕ) → IsErr (started memory first_process.0 number (blocks_of_pages pages))
      → BeginsFirstProcess (started memory first_process.0 number (blocks_of_pages (area_pages entry 0 0))) number entry
      (Err error) new
  begins-not error fails =
      by_change (started memory first_process.0 number (blocks_of_pages (area_pages entry 0 0)))
      (subst (λ (n : ℕ). IsErr (started memory first_process.0 number (blocks_of_pages n))) same fails)
    where
      by_change : (change : Result MemoryState MemoryFault) → IsErr change → BeginsFirstProcess change number entry (Err error) new
      by_change (Ok t) fails = absurd cc
      by_change (Err fault) fails = refl

-- what has begun, and what has not
pub begun-is : (change : Result MemoryState MemoryFault) (number : ℕ) (entry : ModuleEntry) (new : ProcState)
    → BeginsFirstProcess change number entry (Ok tt) new → (t : MemoryState) × (change ≡ Ok t) × RepresentsProcesses new
    (only_process t (first_start number entry))
begun-is (Ok t) number entry new begins = (t, refl, begins.1)
begun-is (Err fault) number entry new begins = absurd cc

pub unbegun-is : (change : Result MemoryState MemoryFault) (number : ℕ) (entry : ModuleEntry) (error : ℕ) (new : ProcState) → BeginsFirstProcess change number entry (Err error) new → IsErr change
unbegun-is (Ok t) number entry error new begins = let same = begins.0 in absurd cc
unbegun-is (Err fault) number entry error new begins = refl

-- the first process has the number 2
pub first-made : (made : Pid) → made.0 ≡ 2 → made ≡ first_process
first-made made is = λ i. record { 0 = is i }

-- ---- the start

module _ (file : List ℕ) (blocks number : ℕ) (old new : ProcState) (found : HasFirstIn file blocks number old) where
  -- a machine starts the boot file
  pub starts-so : BeginsFirstProcess (first_started file blocks found.entries number found.entry) number found.entry
      (Ok tt) new → (m : Processes) × StartsProcesses file blocks m × RepresentsProcesses new m
  starts-so begins =
      let (t, begun, stands) = begun-is (first_started file blocks found.entries number found.entry) number found.entry new begins in (
        only_process t (first_start number found.entry),
        record { entries = found.entries; number = number; entry = found.entry; memory = t; has = found.has; begins = begun; is = refl },
        stands,
      )

  -- no slice was begun
  pub starts-at : BeginsFirstProcess (first_started file blocks found.entries number found.entry) number found.entry (Ok tt) new → new.tick ≡ 0
  starts-at begins =
      let (t, begun, stands) = begun-is (first_started file blocks found.entries number found.entry) number found.entry new begins in
      sym (ap (λ (m : Processes). m.tick) stands.is)

  -- the machine refuses the boot file, since it is too large
  pub refuses-so : (error : ℕ) → BeginsFirstProcess (first_started file blocks found.entries number found.entry) number found.entry (Err error) new → RefusesBoot file blocks TooLarge
  refuses-so error begins =
      inr (found.entries, number, found.entry, found.has, unbegun-is (first_started file blocks found.entries number found.entry) number found.entry error new begins)
