-- What it comes to that a program is loaded.
use Rattle.std.proofs.Common.{◌≡◌, ℕ, ◌+◌, ◌-◌, ◌≤◌, nat_lt, Bool, true, false, IsSome, Result, Ok, Err, refl, ap, ◌∙◌, subst, arith}
use Rattle.std.specs.Result.{result_map_both}
use Rattle.os9_base.specs.Cells.{Cells, FitsIn}
use Rattle.os9_base.specs.declared.errors.TheConstants.{E_MEMFUL}
use Rattle.proc_model.specs.declared.memory.MemoryFault.{MemoryFault}
use Rattle.proc_model.specs.Memory.{MemoryState, memory_error}
use Rattle.proc_model.specs.MemoryChanges.{linked, started}
use Rattle.proc_model.specs.CallResult.{CallResult, refuses, changes}
use Rattle.proc_model.specs.Processes.{Processes, with_memory}
use Rattle.proc_model.specs.Program.{Program, most_pages, blocks_of_pages, start_regs, start_own, with_parameters}
use Rattle.guest_memory.specs.Tie.{RepresentsMemory, ReturnsMemoryResult as AnswersMemory}
use Rattle.proc_state.specs.declared.state.ProcState.{ProcState}
use Rattle.proc_state.specs.Tie.{RepresentsProcesses}
use Rattle.fork_calls.specs.declared.starting.Beginning.{Beginning}
use Rattle.fork_calls.specs.Loading.{begun, loads_program, IsProgramLoaded, IsNotLoaded}

-- bytes at the end of a range that is there from address 0 on
pub end-fits : (cells : Cells) (all size len : ℕ) → FitsIn cells 0 all → size ≤ all → len ≤ size → FitsIn cells (size - len) len
end-fits cells all size len fits within short =
    (omega (arith, fits.0), λ k below. subst (λ (n : ℕ). IsSome (cells n)) (from_zero ((size - len) + k)) (fits.1 ((size - len) + k) (omega arith)))
  where
    from_zero : (n : ℕ) → 0 + n ≡ n
    from_zero n = omega arith

module _ (m : Processes) (p : ℕ) (program : Program) (new : ProcState) where
  -- the data area would be too large
  pub loaded-too_large : nat_lt most_pages program.pages ≡ true → RepresentsProcesses new m → IsNotLoaded m p program new E_MEMFUL
  loaded-too_large test stands = record {
    goes = λ next. ap (λ (b : Bool). refuses b E_MEMFUL (changes (started m.memory p program.entered.number (blocks_of_pages program.pages)) next)) test;
    stands = stands;
  }

  module _ (small : nat_lt most_pages program.pages ≡ false) where
    by_start : (outcome : Result MemoryState MemoryFault) → started m.memory p program.entered.number
        (blocks_of_pages program.pages) ≡ outcome → (next : MemoryState → CallResult) → loads_program m p program next
        ≡ changes outcome next
    by_start outcome is next =
        ap (λ (b : Bool). refuses b E_MEMFUL (changes (started m.memory p program.entered.number (blocks_of_pages program.pages)) next)) small
        ∙ ap (λ (change : Result MemoryState MemoryFault). changes change next) is

    abbrev further : MemoryState → MemoryState
    further memory = with_parameters (linked memory program.entered.number) p program

    -- there is no room
    pub loaded-refused : (fault : MemoryFault) → AnswersMemory {T = Unit {0}} (begun m.memory p program) m.memory
        (Err fault) new.memory → ((memory : MemoryState) → RepresentsMemory new.memory memory
        → RepresentsProcesses new (with_memory m memory)) → IsNotLoaded m p program new (memory_error fault)
    loaded-refused fault answers lift =
        let there = by_outcome (started m.memory p program.entered.number (blocks_of_pages program.pages)) answers in record {
          goes = λ next. by_start (Err fault) there.0 next;
          stands = lift m.memory there.1;
        }
      where
        by_outcome : (outcome : Result MemoryState MemoryFault) → AnswersMemory {T = Unit {0}}
            (result_map_both further (λ fault. fault) outcome) m.memory (Err fault) new.memory → (outcome ≡ Err fault)
            × RepresentsMemory new.memory m.memory
        by_outcome (Ok memory) answers = absurd (let no_ok = answers.0 in cc)
        by_outcome (Err other) answers = let same = answers.0 in (cc, answers.1)

    -- it is loaded
    pub loaded-ok : (start : Beginning) → AnswersMemory {T = Unit {0}} (begun m.memory p program) m.memory (Ok tt)
        new.memory → ((memory : MemoryState) → RepresentsMemory new.memory memory
        → RepresentsProcesses new (with_memory m memory)) → start.regs ≡ start_regs program → start.own ≡ start_own program
        → IsProgramLoaded m p program new start
    loaded-ok start answers lift regs own =
        let there = by_outcome (started m.memory p program.entered.number (blocks_of_pages program.pages)) answers in record {
          memory = there.0;
          goes = λ next. by_start (Ok there.0) there.1 next;
          stands = lift (further there.0) there.2;
          regs = regs;
          own = own;
        }
      where
        by_outcome : (outcome : Result MemoryState MemoryFault) → AnswersMemory {T = Unit {0}}
            (result_map_both further (λ fault. fault) outcome) m.memory (Ok tt) new.memory → (memory : MemoryState) ×
            (outcome ≡ Ok memory) × RepresentsMemory new.memory (further memory)
        by_outcome (Ok memory) answers = (memory, refl, answers.1)
        by_outcome (Err fault) answers = absurd (let no_ok = answers.0 in cc)
