-- A boot file comes to an end, and to one only.
use Rattle.std.proofs.Common.{◌≡◌, ◌≤◌, ◌⊎◌, ℕ, true, Option, Some, None, Result, Ok, Err, List, length, codes, refl, sym, ap, ◌∙◌, inl, inr, arith}
use Rattle.std.proofs.lemmas.Bool.{cases_lt}
use Rattle.std.specs.Prelude.{IsErr}
use Rattle.proc_model.specs.ModuleList.{ModuleEntry, module_entry_at, answers_to}
use Rattle.proc_model.specs.Loading.{no_entries}
use Rattle.proc_model.proofs.LoadingLemmas.{Enters-one, Enters-some}
use Rattle.proc_model.proofs.ModuleListLaws.{found_entry}
use Rattle.proc_model.specs.Processes.{Processes}
use Rattle.machine_model.specs.declared.ends.BootFault.{BootFault}
use Rattle.machine_model.specs.declared.ends.BootFault.TheVariants.{OutOfMemory, BadModule, NoFirst, TooLarge}
use Rattle.proc_model.specs.declared.memory.MemoryFault.{MemoryFault}
use Rattle.proc_model.specs.Memory.{MemoryState}
use Rattle.machine_model.specs.ProcessStart.{EntersBoot, HasFirstProgram, StartsProcesses, RefusesBoot, boot_group, first_program, first_start, first_started, only_process, longest_file}

-- a file enters one list of entries
entries-one : (file : List ℕ) (entries others : List (Option ModuleEntry)) → EntersBoot file (Ok entries) → EntersBoot file (Ok others) → entries ≡ others
entries-one file entries others one other = let same = Enters-one one other in cc

-- no file both enters its modules and has one refusal
never-refused : (file : List ℕ) (entries : List (Option ModuleEntry)) (at error : ℕ) → EntersBoot file (Ok entries) → EntersBoot file (Err (at, error)) → ⊥
never-refused file entries at error one other = let same = Enters-one one other in cc

-- the first program of a file is one
record SameFirst (entries others : List (Option ModuleEntry)) (number other : ℕ) (program second : ModuleEntry) : Type 0 where
  pub one_list : entries ≡ others
  pub one_number : number ≡ other
  pub one_program : program ≡ second

first-one : (file : List ℕ) (entries others : List (Option ModuleEntry)) (number other : ℕ)
    (program second : ModuleEntry) → HasFirstProgram file entries number program → HasFirstProgram file others other second
    → SameFirst entries others number other program second
first-one file entries others number other program second one two =
    let lists : entries ≡ others = entries-one file entries others one.entered two.entered in
    let programs : first_program entries ≡ first_program others = ap first_program lists in
    let numbers : number ≡ other = cc (one.found_it, two.found_it, programs) in
    let at : module_entry_at entries number ≡ module_entry_at others other = rw (lists, numbers) refl in
    record { one_list = lists; one_number = numbers; one_program = cc (one.is, two.is, at) }

-- a file with a first program is not one without
never-without : (file : List ℕ) (entries others : List (Option ModuleEntry)) (number : ℕ) (program : ModuleEntry)
    → HasFirstProgram file entries number program → EntersBoot file (Ok others) → first_program others ≡ None → ⊥
never-without file entries others number program has ending without =
    let lists : entries ≡ others = entries-one file entries others has.entered ending in
    let programs : first_program entries ≡ first_program others = ap first_program lists in
    cc (has.found_it, without, programs)

-- what a file starts with comes to one end
started-one : (file : List ℕ) (blocks : ℕ) (entries others : List (Option ModuleEntry)) (number other : ℕ)
    (entry second : ModuleEntry) → HasFirstProgram file entries number entry → HasFirstProgram file others other second
    → first_started file blocks entries number entry ≡ first_started file blocks others other second
started-one file blocks entries others number other entry second one two =
    let same = first-one file entries others number other entry second one two in
    λ i. first_started file blocks (same.one_list i) (same.one_number i) (same.one_program i)

pub Starts-one : (file : List ℕ) (blocks : ℕ) (m n : Processes) → StartsProcesses file blocks m → StartsProcesses file blocks n → m ≡ n
Starts-one file blocks m n one other =
    let same = first-one file one.entries other.entries one.number other.number one.entry other.entry one.has other.has in
    let ends : first_started file blocks one.entries one.number one.entry ≡ first_started file blocks other.entries
    other.number other.entry = started-one file blocks one.entries other.entries one.number other.number one.entry
    other.entry one.has other.has in
    let memories : one.memory ≡ other.memory = cc (one.begins, other.begins, ends) in
    one.is ∙ rw (memories, same.one_number, same.one_program) (sym other.is)

-- a program that begins is not one that does not
begins-once : (file : List ℕ) (blocks : ℕ) (entries others : List (Option ModuleEntry)) (number other : ℕ)
    (entry second : ModuleEntry) (memory : MemoryState) → HasFirstProgram file entries number entry → HasFirstProgram file others
    other second → first_started file blocks entries number entry ≡ Ok memory
    → IsErr (first_started file blocks others other second) → ⊥
begins-once file blocks entries others number other entry second memory one two begins fails =
    let ends : first_started file blocks entries number entry ≡ first_started file blocks others other second = started-one file blocks entries others number other entry second one two in
    let ok : first_started file blocks others other second ≡ Ok memory = sym ends ∙ begins in cc (ok, fails)

pub never-both : (file : List ℕ) (blocks : ℕ) (m : Processes) (fault : BootFault) → StartsProcesses file blocks m → RefusesBoot file blocks fault → ⊥
never-both file blocks m TooLarge starts (inl long) = let short : length file ≤ longest_file = starts.has.short in absurd (omega arith)
never-both file blocks m TooLarge starts (inr (entries, number, program, has, wants)) = begins-once file blocks
    starts.entries entries starts.number number starts.entry program starts.memory starts.has has starts.begins wants
never-both file blocks m (BadModule at error) starts (short, refusal) = never-refused file starts.entries at error starts.has.entered refusal
never-both file blocks m NoFirst starts (short, (entries, ending, without)) = never-without file starts.entries entries starts.number starts.entry starts.has ending without
never-both file blocks m OutOfMemory starts refusal = refusal

-- one place and one error are one fault
same-fault : {at error place number : ℕ} → (let refusal : Result (List (Option ModuleEntry)) (ℕ × ℕ) = Err (at, error) in refusal) ≡ Err (place, number) → BadModule at error ≡ BadModule place number
same-fault {at} {error} {place} {number} same =
    let pairs : (let pair : ℕ × ℕ = (at, error) in pair) ≡ (place, number) = cc in
    let places : at ≡ place = ap (λ (pair : ℕ × ℕ). pair.0) pairs in
    let errors : error ≡ number = ap (λ (pair : ℕ × ℕ). pair.1) pairs in
    cc

pub Refuses-one : (file : List ℕ) (blocks : ℕ) (fault other : BootFault) → RefusesBoot file blocks fault → RefusesBoot file blocks other → fault ≡ other
Refuses-one file blocks OutOfMemory other one two = absurd one
Refuses-one file blocks fault OutOfMemory one two = absurd two
Refuses-one file blocks TooLarge TooLarge one two = refl
Refuses-one file blocks NoFirst NoFirst one two = refl
Refuses-one file blocks (BadModule at error) (BadModule place number) (short, one) (again, two) = same-fault (Enters-one one two)
Refuses-one file blocks TooLarge NoFirst (inl long) (short, two) = absurd (omega arith)
Refuses-one file blocks TooLarge NoFirst (inr (entries, number, program, has, wants)) (short, (others, ending, without)) = absurd (never-without file entries others number program has ending without)
Refuses-one file blocks NoFirst TooLarge (short, two) (inl long) = absurd (omega arith)
Refuses-one file blocks NoFirst TooLarge (short, (others, ending, without)) (inr (entries, number, program, has, wants)) = absurd (never-without file entries others number program has ending without)
Refuses-one file blocks TooLarge (BadModule at error) (inl long) (short, two) = absurd (omega arith)
Refuses-one file blocks TooLarge (BadModule at error) (inr (entries, number, program, has, wants)) (short, refusal) = absurd (never-refused file entries at error has.entered refusal)
Refuses-one file blocks (BadModule at error) TooLarge (short, two) (inl long) = absurd (omega arith)
Refuses-one file blocks (BadModule at error) TooLarge (short, refusal) (inr (entries, number, program, has, wants)) = absurd (never-refused file entries at error has.entered refusal)
Refuses-one file blocks NoFirst (BadModule at error) (short, (entries, ending, without)) (again, refusal) = absurd (never-refused file entries at error ending refusal)
Refuses-one file blocks (BadModule at error) NoFirst (short, refusal) (again, (entries, ending, without)) = absurd (never-refused file entries at error ending refusal)

-- what is found has an entry
pub first_entry : (entries : List (Option ModuleEntry)) (number : ℕ) → first_program entries ≡ Some number → (program : ModuleEntry) × (module_entry_at entries number ≡ Some program)
first_entry entries number found_it = found_entry (answers_to entries (codes "SysGo") 0x11) entries number found_it

-- a machine starts a file, or refuses it
abbrev Ends : List ℕ → ℕ → Type 0
Ends file blocks = ((m : Processes) × StartsProcesses file blocks m) ⊎ ((fault : BootFault) × RefusesBoot file blocks fault)

-- a file with a first program starts where that can begin
by_start : (file : List ℕ) (blocks : ℕ) (entries : List (Option ModuleEntry)) (number : ℕ) (entry : ModuleEntry)
    (began : Result MemoryState MemoryFault) → first_started file blocks entries number entry ≡ began
    → HasFirstProgram file entries number entry → Ends file blocks
by_start file blocks entries number entry (Err fault) is has =
    inr (TooLarge, inr (entries, number, entry, has, rw is refl))
by_start file blocks entries number entry (Ok memory) is has =
    inl (only_process memory (first_start number entry), record { entries = entries; number = number; entry = entry; memory = memory; has = has; begins = is; is = refl })

by_room : (file : List ℕ) (blocks : ℕ) (entries : List (Option ModuleEntry)) (number : ℕ) (entry : ModuleEntry) → HasFirstProgram file entries number entry → Ends file blocks
by_room file blocks entries number entry has =
    by_start file blocks entries number entry (first_started file blocks entries number entry) refl has

by_first : (file : List ℕ) (blocks : ℕ) (entries : List (Option ModuleEntry)) (first : Option ℕ)
    → length file ≤ longest_file → EntersBoot file (Ok entries) → first_program entries ≡ first → Ends file blocks
by_first file blocks entries None short entering without = inr (NoFirst, (short, (entries, entering, without)))
by_first file blocks entries (Some number) short entering found_it =
    let first = first_entry entries number found_it in
    by_room file blocks entries number first.0 (record { short = short; entered = entering; found_it = found_it; is = first.1 })

by_outcome : (file : List ℕ) (blocks : ℕ) (outcome : Result (List (Option ModuleEntry)) (ℕ × ℕ)) → length file ≤ longest_file → EntersBoot file outcome → Ends file blocks
by_outcome file blocks (Err (at, error)) short entering = inr (BadModule at error, (short, entering))
by_outcome file blocks (Ok entries) short entering = by_first file blocks entries (first_program entries) short entering refl

pub some-end : (file : List ℕ) (blocks : ℕ) → ((m : Processes) × StartsProcesses file blocks m) ⊎ ((fault : BootFault) × RefusesBoot file blocks fault)
some-end file blocks =
    elim (cases_lt longest_file (length file)) [
      | inl long ↦ inr (TooLarge, inl long)
      | inr short ↦ (let entering = Enters-some file (boot_group file) true 0 no_entries in by_outcome file blocks entering.0 short entering.1)
    ]
