-- What a call comes to that names a program.
use Rattle.std.proofs.Common.{◌≡◌, ℕ, ◌==◌, Bool, true, false, not, Option, Some, None, option_map, option_and_then, List, length, take, refl, sym, ap, ◌∙◌}
use Rattle.os9_base.specs.declared.errors.TheConstants.{E_BPADDR, E_NEMOD, E_BNAM, E_MNF}
use Rattle.proc_model.specs.ModuleList.{ModuleEntry, module_entry_at, found_module}
use Rattle.proc_model.proofs.ModuleListLaws.{found_entry}
use Rattle.proc_model.specs.CallResult.{CallResult, needs, refuses}
use Rattle.proc_model.specs.Processes.{Processes, regs_at, cells_at}
use Rattle.proc_model.specs.ModuleLinks.{Entered, entered_at}
use Rattle.proc_model.specs.Program.{Program, program_kind, reads_program, name_at_x, is_unreadable, module_name, asks_for_program, area_pages}
use Rattle.proc_model.specs.declared.program_name.ProgramName.{ProgramName}
use Rattle.proc_model.specs.UserBytes.{user_bytes}
use Rattle.guest_memory.specs.Tie.{IsMemorySame as IsSameMemory}
use Rattle.proc_state.specs.declared.state.ProcState.{ProcState}
use Rattle.proc_state.specs.Tie.{RepresentsProcesses, AreProcessesSame}
use Rattle.proc_state.proofs.UserBytes.{same-then}
use Rattle.fork_calls.specs.declared.program.NamedProgram.{NamedProgram}
use Rattle.fork_calls.specs.Naming.{finds_program, IsProgramFound, IsUnfound, IsProgramRead, IsUnread}

-- ---- what is found

module _ (entries : List (Option ModuleEntry)) (kind : ℕ) where
  abbrev by_kind : (List ℕ → Entered → CallResult) → List ℕ → Entered → CallResult
  by_kind next name found = refuses (not (found.entry.info.kind == program_kind)) E_NEMOD (next name found)

  abbrev by_name : Option (List ℕ) → (List ℕ → Entered → CallResult) → CallResult
  by_name read next = needs read E_BNAM (λ name. needs (option_and_then (entered_at entries) (found_module entries name kind)) E_MNF (λ found. by_kind next name found))

  -- no program is asked for
  pub found-unasked : (read : Option (List ℕ)) → asks_for_program kind ≡ false → IsUnfound entries kind read E_NEMOD
  found-unasked read test next = ap (λ (b : Bool). refuses (not b) E_NEMOD (by_name read next)) test

  module _ (asked : asks_for_program kind ≡ true) where
    goes_on : (read : Option (List ℕ)) (next : List ℕ → Entered → CallResult) → finds_program entries kind read next ≡ by_name read next
    goes_on read next = ap (λ (b : Bool). refuses (not b) E_NEMOD (by_name read next)) asked

    -- there is no name
    pub found-nameless : IsUnfound entries kind None E_BNAM
    found-nameless next = goes_on None next

    module _ (name : List ℕ) where
      by_number : (place : Option ℕ) → found_module entries name kind ≡ place → (next : List ℕ → Entered → CallResult)
          → finds_program entries kind (Some name) next ≡ needs (option_and_then (entered_at entries) place) E_MNF
          (λ found. by_kind next name found)
      by_number place is next = goes_on (Some name) next ∙ ap (λ (found : Option ℕ). needs (option_and_then (entered_at entries) found) E_MNF (λ found. by_kind next name found)) is

      -- no module is found
      pub found-nothing : found_module entries name kind ≡ None → IsUnfound entries kind (Some name) E_MNF
      found-nothing none next = by_number None none next

      module _ (number : ℕ) (found : found_module entries name kind ≡ Some number) where
        abbrev entry : ModuleEntry
        entry = (found_entry _ entries number found).0

        entry_is : module_entry_at entries number ≡ Some entry
        entry_is = (found_entry _ entries number found).1

        by_entry : (next : List ℕ → Entered → CallResult) → finds_program entries kind (Some name) next ≡ by_kind next name (record { number = number; entry = entry })
        by_entry next =
            by_number (Some number) found next
            ∙ ap (λ (place : Option ModuleEntry). needs (option_map (λ (entry : ModuleEntry). record { number = number; entry = entry }) place) E_MNF (λ found. by_kind next name found)) entry_is

        -- the module is no program
        pub found-other : ((entry : ModuleEntry) → module_entry_at entries number ≡ Some entry → (entry.info.kind == program_kind) ≡ false) → IsUnfound entries kind (Some name) E_NEMOD
        found-other test next = by_entry next ∙ ap (λ (b : Bool). refuses (not b) E_NEMOD (next name (record { number = number; entry = entry }))) (test entry entry_is)

        -- it is one
        pub found-program : ((entry : ModuleEntry) → module_entry_at entries number ≡ Some entry
            → (entry.info.kind == program_kind) ≡ true) → IsProgramFound entries kind (Some name) number (length name)
        found-program test = record {
          name = name;
          entry = entry;
          long = refl;
          is = entry_is;
          goes = λ next. by_entry next ∙ ap (λ (b : Bool). refuses (not b) E_NEMOD (next name (record { number = number; entry = entry }))) (test entry entry_is);
        }

-- ---- what is read

module _ (m : Processes) (p : ℕ) where
  abbrev bytes_there : Option (List ℕ)
  bytes_there = user_bytes (cells_at m p) (regs_at m p).u (regs_at m p).y

  abbrev found_next : (Program → CallResult) → List ℕ → List ℕ → Entered → CallResult
  found_next next parameters name found =
      next (record {
        entered = found;
        pages = area_pages found.entry (regs_at m p).b (length parameters);
        parameters = parameters;
        count = length name;
      })

  abbrev bytes_next : (Program → CallResult) → Option (List ℕ) → Option (List ℕ) → CallResult
  bytes_next next read bytes = needs bytes E_BPADDR (λ parameters. finds_program m.memory.modules (regs_at m p).a read (found_next next parameters))

  abbrev name_next : (Program → CallResult) → ProgramName → CallResult
  name_next next name = refuses (is_unreadable name) E_BPADDR (bytes_next next (module_name name) bytes_there)

  module _ (name : ProgramName) (named : name_at_x m p ≡ name) where
    -- a byte of the name is not there
    pub read-no_name : is_unreadable name ≡ true → IsUnread m p E_BPADDR
    read-no_name none next =
        ap (name_next next) named ∙ ap (λ (b : Bool). refuses b E_BPADDR (bytes_next next (module_name name) bytes_there)) none

    module _ (there : is_unreadable name ≡ false) where
      past_name : (next : Program → CallResult) → reads_program m p next ≡ bytes_next next (module_name name) bytes_there
      past_name next =
          ap (name_next next) named ∙ ap (λ (b : Bool). refuses b E_BPADDR (bytes_next next (module_name name) bytes_there)) there

      -- a byte of the parameters is not there
      pub read-no_bytes : bytes_there ≡ None → IsUnread m p E_BPADDR
      read-no_bytes none next = past_name next ∙ ap (bytes_next next (module_name name)) none

      module _ (bytes : List ℕ) (passed : bytes_there ≡ Some bytes) where
        by_program : (next : Program → CallResult) → reads_program m p next ≡ finds_program m.memory.modules (regs_at m p).a (module_name name) (found_next next bytes)
        by_program next = past_name next ∙ ap (bytes_next next (module_name name)) passed

        -- there is no program
        pub read-unfound : (number : ℕ) → IsUnfound m.memory.modules (regs_at m p).a (module_name name) number → IsUnread m p number
        read-unfound number unfound next = by_program next ∙ unfound (found_next next bytes)

        -- there is one
        pub read-found : (program : NamedProgram) (buffer : List ℕ) → IsProgramFound m.memory.modules (regs_at m p).a
            (module_name name) program.id.0 program.count → ((entry : ModuleEntry) → module_entry_at m.memory.modules
            program.id.0 ≡ Some entry → program.pages ≡ area_pages entry (regs_at m p).b (length bytes))
            → bytes ≡ take program.parameters buffer → IsProgramRead m p program buffer
        read-found program buffer found pages front = record {
          entry = found.entry;
          is = found.is;
          goes = λ next.
              by_program next ∙ found.goes (found_next next bytes)
              ∙ (λ i. next (record {
                entered = record { number = program.id.0; entry = found.entry };
                pages = sym (pages found.entry found.is) i;
                parameters = front i;
                count = found.long i;
              }));
        }

-- ---- the state is the same for all that is read

-- a name was read in the memory of the processes
module _ (old mid : ProcState) (one : IsSameMemory old.memory mid.memory) (table : mid.table ≡ old.table) (sched : mid.sched ≡ old.sched) (own : mid.own ≡ old.own) (tick : mid.tick ≡ old.tick) where
  pub read-stands : (m : Processes) → RepresentsProcesses old m → RepresentsProcesses mid m
  read-stands m stands = record {
    memory = one.represents m.memory stands.memory;
    is =
        stands.is
        ∙ (λ i. record {
          memory = m.memory;
          records = sym table i;
          own = (sym own i).items;
          order = (sym sched i).order;
          tick = sym tick i;
        });
  }

  -- and then bytes
  pub read-same : (new : ProcState) → AreProcessesSame mid new → AreProcessesSame old new
  read-same new two = record {
    memory = same-then old.memory mid.memory new.memory one two.memory;
    table = two.table ∙ table;
    sched = two.sched ∙ sched;
    own = two.own ∙ own;
    tick = two.tick ∙ tick;
    represents = λ m stands. two.represents m (read-stands m stands);
  }
