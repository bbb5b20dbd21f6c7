-- Which module has a link more or less by a call, where no file is loaded.
use Rattle.std.proofs.Common.{◌≡◌, ◌⊎◌, ℕ, ◌-◌, ◌==◌, not, nat_le, nat_lt, Bool, true, false, Option, Some, None, Result, Ok, Err, List, length, refl, sym, ap, ◌∙◌, inl, inr}
use Rattle.std.specs.Prelude.{option_and_then, option_map, if◌then◌else◌}
use Rattle.std.specs.Option.{option_map_or}
use Rattle.std.proofs.lemmas.Bool.{false≢true}
use Rattle.std.proofs.lemmas.Option.{same_Some}
use Rattle.os9_base.specs.declared.errors.TheConstants.{E_BNAM, E_BPADDR, E_MEMFUL, E_MNF, E_NEMOD, E_PRCFUL}
use Rattle.proc_model.specs.Memory.{MemoryState, map_at}
use Rattle.proc_model.specs.MemoryChanges.{group_unmapped, has_most_links, linked, started}
use Rattle.proc_model.specs.ModuleList.{ModuleEntry, without_link}
use Rattle.proc_model.specs.Slots.{group_slot}
use Rattle.proc_model.specs.declared.memory.MemoryFault.{MemoryFault}
use Rattle.proc_model.specs.declared.memory.TheConstants.{MOST_LINKS}
use Rattle.proc_model.specs.declared.module.ModId.{ModId}
use Rattle.proc_model.specs.Records.{free_process}
use Rattle.os9_base.specs.UserNames.{name_at}
use Rattle.os9_base.specs.declared.name_fault.NameFault.{NameFault}
use Rattle.os9_base.specs.declared.name_fault.NameFault.TheVariants.{NoName, Unreadable}
use Rattle.proc_model.specs.Attempts.{after_attempt, attempted}
use Rattle.proc_model.specs.CallResult.{CallResult, changes, done, needs, reads_name, refuses}
use Rattle.proc_model.specs.Chain.{begun_anew, f_chain, with_program}
use Rattle.proc_model.specs.Codes.{call_of}
use Rattle.proc_model.specs.Fork.{f_fork, forked_regs, with_child}
use Rattle.proc_model.specs.Processes.{Processes, cells_at, own_at, regs_at, with_regs_of}
use Rattle.proc_model.specs.Link.{Mapped, after_link, f_link, links_at, mapped_group}
use Rattle.proc_model.specs.ModuleLinks.{Entered, found_entry, module_at, without_module_link, without_primary_link}
use Rattle.proc_model.specs.Program.{Program, area_pages, asks_for_program, blocks_of_pages, most_pages, program_kind, is_unreadable, module_name, name_at_x, reads_program}
use Rattle.proc_model.specs.UnLink.{after_unlink, f_unlink, without_group_link}
use Rattle.proc_model.specs.UnLoad.{f_unload}
use Rattle.proc_model.specs.UserBytes.{user_bytes}
use Rattle.proc_model.specs.declared.proc_call.ProcCall.{ProcCall}
use Rattle.proc_model.specs.declared.proc_call.ProcCall.TheVariants as Call
use Rattle.file_rules.specs.Program.{named_program}
use Rattle.machine_model.specs.ProcessEvent.{call_event_end}
use Rattle.machine_model.specs.declared.ends.EventEnd.{EventEnd}
use Rattle.call_laws.specs.Links.{ChangesLinks as ChangesLinksAsBefore}
use Rattle.call_laws.specs.Others.{AttemptsCall}
use Rattle.call_laws.proofs.CallsKept.{AttemptLeft}
use Rattle.call_laws.proofs.MemoryKept.{mapped-modules, started-modules}
use Rattle.call_laws.proofs.ModulesKept.{linked-modules}
use Rattle.isolation_laws.specs.Links.{ChangesEntered}

-- a call on modules changes links
abbrev pub is_on_modules : ProcCall → Bool
is_on_modules Call.Link = true
is_on_modules Call.UnLink = true
is_on_modules Call.Fork = true
is_on_modules Call.Chain = true
is_on_modules Call.UnLoad = true
is_on_modules call = false

-- the process attempts no such call
abbrev pub IsNotOnModules : Processes → ℕ → Type 0
IsNotOnModules m p = (call : ProcCall) → is_on_modules call ≡ true → AttemptsCall m p call → ⊥

module _ (m : Processes) (p : ℕ) where
  pub other-links : (end : EventEnd) (n : MemoryState) → IsNotOnModules m p → ChangesLinksAsBefore m p end n → ChangesEntered m p end n
  other-links end n none (inl same) = inl same
  other-links end n none (inr (inl gains)) = absurd (by_call gains.call)
    where
      by_call : AttemptsCall m p Call.Link ⊎ AttemptsCall m p Call.Fork → ⊥
      by_call (inl did) = none Call.Link refl did
      by_call (inr did) = none Call.Fork refl did
  other-links end n none (inr (inr (inl loses))) = absurd (by_call loses.call)
    where
      by_call : AttemptsCall m p Call.UnLink ⊎ AttemptsCall m p Call.UnLoad → ⊥
      by_call (inl did) = none Call.UnLink refl did
      by_call (inr did) = none Call.UnLoad refl did
  other-links end n none (inr (inr (inr (inl primary)))) = absurd (none Call.Chain refl primary.call)
  other-links end n none (inr (inr (inr (inr ends)))) = inr (inr (inr (inr ends)))

  -- ---- attempts

  abbrev pub ResultLinks : CallResult → Type 0
  ResultLinks result = ChangesEntered m p (call_event_end result) (after_attempt m p result).memory

  of-needs : {A : Type 0} (some : Option A) (number : ℕ) (next : A → CallResult) → ((a : A) → some ≡ Some a → ResultLinks (next a)) → ResultLinks (needs some number next)
  of-needs None number next links = inl refl
  of-needs (Some a) number next links = links a refl

  of-refuses : (test : Bool) (number : ℕ) (next : CallResult) → ResultLinks next → ResultLinks (refuses test number next)
  of-refuses true number next links = inl refl
  of-refuses false number next links = links

  of-changes : (change : Result MemoryState MemoryFault) (next : MemoryState → CallResult)
      → ((memory : MemoryState) → change ≡ Ok memory → ResultLinks (next memory)) → ResultLinks (changes change next)
  of-changes (Ok memory) next links = links memory refl
  of-changes (Err fault) next links = inl refl

  of-name : (read : Result (List ℕ) NameFault) (number : ℕ) (next : List ℕ → CallResult) → ((name : List ℕ) → read ≡ Ok name → ResultLinks (next name)) → ResultLinks (reads_name read number next)
  of-name (Ok name) number next links = links name refl
  of-name (Err Unreadable) number next links = inl refl
  of-name (Err NoName) number next links = inl refl

  -- F$Link

  abbrev link-last : ℕ → Entered → Mapped → CallResult
  link-last count found mapped =
      refuses (nat_le MOST_LINKS (links_at (own_at m p) mapped.slot)) E_MEMFUL (done (after_link m p found mapped count))

  abbrev link-mapped : ℕ → Entered → CallResult
  link-mapped count found = needs (mapped_group m.memory p found.entry.group) E_MEMFUL (link-last count found)

  abbrev link-found : ℕ → Entered → CallResult
  link-found count found = refuses (has_most_links found.entry) E_MEMFUL (link-mapped count found)

  link-links : AttemptsCall m p Call.Link → ResultLinks (f_link m p)
  link-links did =
      of-name (name_at (cells_at m p) (regs_at m p).x) E_BNAM (λ name. needs (found_entry m.memory.modules name (regs_at m p).a) E_MNF (link-found (length name)))
      (λ name read. of-needs (found_entry m.memory.modules name (regs_at m p).a) E_MNF (link-found (length name))
      (λ found is. of-refuses (has_most_links found.entry) E_MEMFUL (link-mapped (length name) found)
      (of-needs (mapped_group m.memory p found.entry.group) E_MEMFUL (link-last (length name) found)
      (λ mapped mapped_is. of-refuses (nat_le MOST_LINKS (links_at (own_at m p) mapped.slot)) E_MEMFUL (done (after_link m p found mapped (length name)))
      (inr (inl (record {
        found = found;
        call = inl (did, record { name = name; read = read; is = is });
        more = linked-modules m.memory mapped.memory found.number (mapped-modules m.memory p found.entry.group mapped mapped_is);
      })))))))

  -- F$UnLink and F$UnLoad

  group-link-modules : (group : List ℕ) (slot : Option ℕ) → (option_map_or (without_group_link m p group) slot m).memory.modules ≡ m.memory.modules
  group-link-modules group None = refl
  group-link-modules group (Some slot) = by_last (links_at (own_at m p) slot - 1 == 0)
    where
      by_last : (last : Bool) → (if last then group_unmapped m.memory p group else m.memory).modules ≡ m.memory.modules
      by_last true = refl
      by_last false = refl

  unlink-links : AttemptsCall m p Call.UnLink → ResultLinks (f_unlink m p)
  unlink-links did =
      of-needs (module_at m.memory.modules (map_at m.memory p) (regs_at m p).u) E_MNF (λ found. done (after_unlink m p found))
      (λ found is. inr (inr (inl (record {
        found = found;
        call = inl (did, is);
        less = ap (λ (modules : List (Option ModuleEntry)). without_link modules (Some found.number)) (group-link-modules found.entry.group (group_slot (map_at m.memory p) found.entry.group));
      }))))

  unload-links : AttemptsCall m p Call.UnLoad → ResultLinks (f_unload m p)
  unload-links did =
      of-name (name_at (cells_at m p) (regs_at m p).x) E_BNAM (λ name. needs (found_entry m.memory.modules name (regs_at m p).a) E_MNF (λ found. done (without_module_link m found.number)))
      (λ name read. of-needs (found_entry m.memory.modules name (regs_at m p).a) E_MNF (λ found. done (without_module_link m found.number))
      (λ found is. inr (inr (inl (record { found = found; call = inr (did, record { name = name; read = read; is = is }); less = refl })))))

  -- F$Fork and F$Chain

  module _ (next : Program → CallResult) where
    abbrev with-found : List ℕ → List ℕ → Entered → CallResult
    with-found parameters name found =
        refuses (not (found.entry.info.kind == program_kind)) E_NEMOD
        (next (record {
          entered = found;
          pages = area_pages found.entry (regs_at m p).b (length parameters);
          parameters = parameters;
          count = length name;
        }))

    abbrev with-name : List ℕ → List ℕ → CallResult
    with-name parameters name =
        needs (found_entry m.memory.modules name (regs_at m p).a) E_MNF (with-found parameters name)

    abbrev with-parameters-read : List ℕ → CallResult
    with-parameters-read parameters =
        refuses (not (asks_for_program (regs_at m p).a)) E_NEMOD (needs (module_name (name_at_x m p)) E_BNAM (with-name parameters))

    abbrev found_by : Option (List ℕ) → Option Entered
    found_by read = option_and_then (λ (name : List ℕ). found_entry m.memory.modules name (regs_at m p).a) read

    reads-links : ((program : Program) → named_program m p ≡ Some program.entered → ResultLinks (next program)) → ResultLinks (reads_program m p next)
    reads-links links =
        of-refuses (is_unreadable (name_at_x m p)) E_BPADDR (needs (user_bytes (cells_at m p) (regs_at m p).u (regs_at m p).y) E_BPADDR with-parameters-read)
        (of-needs (user_bytes (cells_at m p) (regs_at m p).u (regs_at m p).y) E_BPADDR with-parameters-read
        (λ parameters given. of-refuses (not (asks_for_program (regs_at m p).a)) E_NEMOD (needs (module_name (name_at_x m p)) E_BNAM (with-name parameters))
        (of-needs (module_name (name_at_x m p)) E_BNAM (with-name parameters)
        (λ name name_is. of-needs (found_entry m.memory.modules name (regs_at m p).a) E_MNF (with-found parameters name)
        (λ found found_is. of-refuses (not (found.entry.info.kind == program_kind)) E_NEMOD (next _)
        (links _ (ap found_by name_is ∙ found_is)))))))

  fork-links : AttemptsCall m p Call.Fork → ResultLinks (f_fork m p)
  fork-links did =
      reads-links forking
      (λ program named. of-needs (free_process m.records) E_PRCFUL (λ child. refuses (nat_lt most_pages program.pages) E_MEMFUL (making program child))
      (λ child free. of-refuses (nat_lt most_pages program.pages) E_MEMFUL (making program child)
      (of-changes (started m.memory child program.entered.number (blocks_of_pages program.pages)) (begins program child)
      (λ memory is. inr (inl (record {
        found = program.entered;
        call = inr (did, named);
        more = linked-modules m.memory memory program.entered.number (started-modules m.memory child program.entered.number (blocks_of_pages program.pages) memory is);
      }))))))
    where
      begins : Program → ℕ → MemoryState → CallResult
      begins program child memory =
          done (with_regs_of (with_child m p child program memory) p (forked_regs (regs_at m p) child program))

      making : Program → ℕ → CallResult
      making program child =
          changes (started m.memory child program.entered.number (blocks_of_pages program.pages)) (begins program child)

      forking : Program → CallResult
      forking program =
          needs (free_process m.records) E_PRCFUL (λ child. refuses (nat_lt most_pages program.pages) E_MEMFUL (making program child))

  module _ (program : Program) (memory : MemoryState) (is : started m.memory p program.entered.number (blocks_of_pages program.pages) ≡ Ok memory) where
    abbrev anew : Processes
    anew = begun_anew (with_program m p program memory) p program

    linked-anew : anew.memory.modules ≡ (linked m.memory program.entered.number).modules
    linked-anew =
        linked-modules m.memory memory program.entered.number (started-modules m.memory p program.entered.number (blocks_of_pages program.pages) memory is)

    relinked : (primary : Option ModId) → (option_map_or (λ (id : ModId). without_module_link anew id.0) primary
        anew).memory.modules ≡ without_link (linked m.memory program.entered.number).modules
        (option_map (λ (id : ModId). id.0) primary)
    relinked None = linked-anew
    relinked (Some id) = ap (λ (modules : List (Option ModuleEntry)). without_link modules (Some id.0)) linked-anew

  chain-links : AttemptsCall m p Call.Chain → ResultLinks (f_chain m p)
  chain-links did =
      reads-links chaining
      (λ program named. of-refuses (nat_lt most_pages program.pages) E_MEMFUL (changes (started m.memory p program.entered.number (blocks_of_pages program.pages)) (begins program))
      (of-changes (started m.memory p program.entered.number (blocks_of_pages program.pages)) (begins program)
      (λ memory is. inr (inr (inr (inl (record { call = did; found = program.entered; named = named; relinked = relinked program memory is (own_at m p).primary })))))))
    where
      begins : Program → MemoryState → CallResult
      begins program memory = done (without_primary_link (begun_anew (with_program m p program memory) p program) (own_at m p))

      chaining : Program → CallResult
      chaining program =
          refuses (nat_lt most_pages program.pages) E_MEMFUL (changes (started m.memory p program.entered.number (blocks_of_pages program.pages)) (begins program))

  -- each call on processes and modules

  alone : (call other : ProcCall) → is_on_modules call ≡ false → AttemptsCall m p call → is_on_modules other ≡ true → AttemptsCall m p other → ⊥
  alone call other is_not (code, next, is) on (other_code, next_too, is_too) =
      let same : code ≡ other_code = cc in
      let calls : call ≡ other = same_Some call other (sym is ∙ ap call_of same ∙ is_too) in
      false≢true (sym is_not ∙ ap is_on_modules calls ∙ on)

  pub attempt-links : (call : ProcCall) → AttemptsCall m p call → AttemptLeft m p (attempted call m p) → ResultLinks (attempted call m p)
  attempt-links Call.Link did left = link-links did
  attempt-links Call.UnLink did left = unlink-links did
  attempt-links Call.Fork did left = fork-links did
  attempt-links Call.Chain did left = chain-links did
  attempt-links Call.UnLoad did left = unload-links did
  attempt-links call did left =
      other-links (call_event_end (attempted call m p)) (after_attempt m p (attempted call m p)).memory (λ other on did_too. alone call other refl did on did_too) left.leaves.links
