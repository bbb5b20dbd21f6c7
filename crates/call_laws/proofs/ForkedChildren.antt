-- F$Fork answers the number of the child.
use Rattle.std.proofs.Common.{◌≡◌, ℕ, ◌==◌, not, nat_lt, Bool, true, false, Option, Some, None, Result, Ok, Err, List, length, refl, sym, ap, ◌∙◌, arith, ◌<◌}
use Rattle.std.specs.Option.{option_map_or}
use Rattle.std.proofs.lemmas.List.{length-set}
use Rattle.os9_base.specs.declared.errors.TheConstants.{E_BPADDR, E_NEMOD, E_BNAM, E_MNF, E_MEMFUL, E_PRCFUL}
use Rattle.proc_model.specs.declared.memory.MemoryFault.{MemoryFault}
use Rattle.proc_model.specs.Memory.{MemoryState}
use Rattle.proc_model.specs.MemoryChanges.{started}
use Rattle.proc_model.specs.declared.record.Record.{Record}
use Rattle.proc_model.specs.Records.{IsLiving, after_make, free_process, new_record, record_at, with_record}
use Rattle.proc_model.specs.CallResult.{CallResult, done, refused, waits, ends, needs, refuses, changes}
use Rattle.proc_model.specs.Fork.{f_fork, forked_regs, with_child, with_child_record}
use Rattle.proc_model.specs.Processes.{Processes, regs_at, cells_at, with_regs_of}
use Rattle.proc_model.specs.ModuleLinks.{Entered, found_entry}
use Rattle.proc_model.specs.Program.{Program, area_pages, asks_for_program, blocks_of_pages, most_pages, program_kind, is_unreadable, module_name, name_at_x, reads_program}
use Rattle.proc_model.specs.UserBytes.{user_bytes}
use Rattle.call_laws.proofs.OthersKept.{living-within, record-put}

-- the result of F$Fork names the child
abbrev pub NamesChild : Processes → ℕ → CallResult → Type 0
NamesChild m p (done t) = free_process m.records ≡ Some (regs_at t p).a
NamesChild m p (refused number) = Unit {0}
NamesChild m p (waits t) = Unit {0}
NamesChild m p (ends status) = Unit {0}

module _ (m : Processes) (p : ℕ) where
  pub of-needs : {A : Type 0} (some : Option A) (number : ℕ) (next : A → CallResult) → ((a : A) → some ≡ Some a → NamesChild m p (next a)) → NamesChild m p (needs some number next)
  of-needs None number next names = tt
  of-needs (Some a) number next names = names a refl

  pub of-refuses : (test : Bool) (number : ℕ) (next : CallResult) → NamesChild m p next → NamesChild m p (refuses test number next)
  of-refuses true number next names = tt
  of-refuses false number next names = names

  pub of-changes : (change : Result MemoryState MemoryFault) (next : MemoryState → CallResult) → ((memory : MemoryState) → NamesChild m p (next memory)) → NamesChild m p (changes change next)
  of-changes (Ok memory) next names = names memory
  of-changes (Err fault) next names = tt

  module _ (next : Program → CallResult) (names : (program : Program) → NamesChild m p (next program)) where
    abbrev program-of : Entered → List ℕ → ℕ → Program
    program-of found parameters count = record {
      entered = found;
      pages = area_pages found.entry (regs_at m p).b (length parameters);
      parameters = parameters;
      count = count;
    }

    abbrev with-found : List ℕ → List ℕ → Entered → CallResult
    with-found parameters name found =
        refuses (not (found.entry.info.kind == program_kind)) E_NEMOD (next (program-of found parameters (length name)))

    abbrev with-name : List ℕ → List ℕ → CallResult
    with-name parameters name =
        needs (found_entry m.memory.modules name (regs_at m p).a) E_MNF (with-found parameters name)

    abbrev with-parameters-read : List ℕ → CallResult
    with-parameters-read parameters =
        refuses (not (asks_for_program (regs_at m p).a)) E_NEMOD (needs (module_name (name_at_x m p)) E_BNAM (with-name parameters))

    program-names : NamesChild m p (reads_program m p next)
    program-names =
        of-refuses (is_unreadable (name_at_x m p)) E_BPADDR (needs (user_bytes (cells_at m p) (regs_at m p).u (regs_at m p).y) E_BPADDR with-parameters-read)
        (of-needs (user_bytes (cells_at m p) (regs_at m p).u (regs_at m p).y) E_BPADDR with-parameters-read
        (λ parameters parameters_are. of-refuses (not (asks_for_program (regs_at m p).a)) E_NEMOD (needs (module_name (name_at_x m p)) E_BNAM (with-name parameters))
        (of-needs (module_name (name_at_x m p)) E_BNAM (with-name parameters)
        (λ name name_is. of-needs (found_entry m.memory.modules name (regs_at m p).a) E_MNF (with-found parameters name)
        (λ found found_is. of-refuses (not (found.entry.info.kind == program_kind)) E_NEMOD (next (program-of found parameters (length name)))
        (names (program-of found parameters (length name))))))))

  pub child-named : (program : Program) (child : ℕ) (memory : MemoryState) → IsLiving m.records p
      → free_process m.records ≡ Some child
      → (regs_at (with_regs_of (with_child m p child program memory) p (forked_regs (regs_at m p) child program)) p).a
      ≡ child
  child-named program child memory lives free =
      ap (λ (r : Record). r.regs.a) (record-put (with_child_record m.records p child program) p
      (record (record_at (with_child_record m.records p child program) p) {
        regs = forked_regs (regs_at m p) child
            program;
      }) within)
    where
      added : after_make m.records (record { 0 = p }) (record_at m.records p).user (record_at m.records p).priority ≡
          with_record m.records child (new_record (record { 0 = p }) (record_at m.records p).user
          (record_at m.records p).priority)
      added = ap (λ (found : Option ℕ). option_map_or (λ (q : ℕ). with_record m.records q
          (new_record (record { 0 = p }) (record_at m.records p).user (record_at m.records p).priority)) found
          m.records) free

      within : p < length (with_child_record m.records p child program)
      within =
          let long : length (with_child_record m.records p child program) ≡ length m.records = simp length-set (ap (length {A = Option Record}) added ∙ simp length-set) in
          omega (arith, long, living-within m.records p lives)

  abbrev making : Program → ℕ → CallResult
  making program child =
      changes (started m.memory child program.entered.number (blocks_of_pages program.pages))
      (λ memory. done (with_regs_of (with_child m p child program memory) p (forked_regs (regs_at m p) child
      program)))

  abbrev forking : Program → CallResult
  forking program =
      needs (free_process m.records) E_PRCFUL (λ child. refuses (nat_lt most_pages program.pages) E_MEMFUL (making program child))

  pub fork-names : IsLiving m.records p → NamesChild m p (f_fork m p)
  fork-names lives =
      program-names forking
      (λ program. of-needs (free_process m.records) E_PRCFUL (λ child. refuses (nat_lt most_pages program.pages) E_MEMFUL (making program child))
      (λ child free. of-refuses (nat_lt most_pages program.pages) E_MEMFUL (making program child)
      (of-changes (started m.memory child program.entered.number (blocks_of_pages program.pages))
      (λ memory. done (with_regs_of (with_child m p child program memory) p (forked_regs (regs_at m p) child
      program)))
      (λ memory. free ∙ ap Some (sym (child-named program child memory lives free))))))
