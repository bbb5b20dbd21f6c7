-- A call on processes and modules that waits is the one that its process made.
use Rattle.std.proofs.Common.{◌≡◌, ℕ, ◌+◌, ◌*◌, ◌==◌, not, nat_lt, nat_le, Bool, true, false, Option, Some, None, Result, Ok, Err, List, length, refl, sym, ap, ◌∙◌, inl, inr}
use Rattle.std.specs.Prelude.{slice_set, if◌then◌else◌}
use Rattle.std.proofs.lemmas.Bool.{cases_lt}
use Rattle.std.proofs.lemmas.List.{get_or-set_same, get_or_past, length-set}
use Rattle.os9_base.specs.declared.errors.TheConstants.{E_BPADDR, E_BNAM, E_MNF, E_MEMFUL, E_NEMOD, E_PRCFUL, E_IPRCID, E_USIGP, E_NOCHLD}
use Rattle.os9_base.specs.declared.registers.Pid.{Pid}
use Rattle.proc_model.specs.declared.memory.MemoryFault.{MemoryFault}
use Rattle.proc_model.specs.declared.memory.TheConstants.{MOST_LINKS}
use Rattle.proc_model.specs.Memory.{MemoryState, map_at}
use Rattle.proc_model.specs.MemoryChanges.{has_most_links, started, stored}
use Rattle.proc_model.specs.declared.own.Own.{Own}
use Rattle.proc_model.specs.declared.record.Reap.{Reap}
use Rattle.proc_model.specs.declared.record.Reap.TheVariants.{NoChild, NotYet}
use Rattle.proc_model.specs.declared.record.SendFault.{SendFault}
use Rattle.proc_model.specs.declared.record.SendFault.TheVariants.{NoProcess, Pending}
use Rattle.proc_model.specs.Ends.{after_reap, reaped}
use Rattle.proc_model.specs.Records.{free_process, is_waiting, record_at, with_priority}
use Rattle.proc_model.specs.Signals.{is_reached, send_fault}
use Rattle.os9_base.specs.declared.name_fault.NameFault.{NameFault}
use Rattle.os9_base.specs.declared.name_fault.NameFault.TheVariants.{Unreadable, NoName}
use Rattle.os9_base.specs.UserNames.{name_at, user_cell}
use Rattle.proc_model.specs.declared.proc_call.ProcCall.{ProcCall}
use Rattle.proc_model.specs.declared.proc_call.ProcCall.TheVariants as Call
use Rattle.proc_model.specs.Attempts.{attempted}
use Rattle.proc_model.specs.CallResult.{CallResult, done, refused, waits, ends, needs, refuses, changes, reads_name}
use Rattle.proc_model.specs.Chain.{f_chain, begun_anew, with_program}
use Rattle.proc_model.specs.CmpNam.{f_cmpnam, same_names}
use Rattle.proc_model.specs.Crc.{f_crc, crc_continued}
use Rattle.proc_model.specs.Fork.{f_fork, with_child, forked_regs}
use Rattle.proc_model.specs.Processes.{Processes, no_own, own_at, regs_at, user_at, cells_at, with_memory, with_own, with_records, with_regs_of}
use Rattle.proc_model.specs.Link.{Mapped, f_link, mapped_group, links_at, after_link}
use Rattle.proc_model.specs.Mem.{f_mem, sets_pages, resized, with_size, size_regs}
use Rattle.proc_model.specs.ModuleLinks.{Entered, found_entry, module_at, without_module_link, without_primary_link}
use Rattle.proc_model.specs.Program.{Program, area_pages, asks_for_program, blocks_of_pages, most_pages, page_count, program_kind, is_unreadable, module_name, name_at_x, reads_program}
use Rattle.proc_model.specs.PrsNam.{f_prsnam, parses_name, past_slash, name_regs}
use Rattle.proc_model.specs.SPrior.{f_sprior}
use Rattle.proc_model.specs.Send.{f_send, after_signal}
use Rattle.proc_model.specs.Sleep.{f_sleep, falls_asleep, may_wake, sleep_end, ticks_left}
use Rattle.proc_model.specs.UnLink.{f_unlink, after_unlink}
use Rattle.proc_model.specs.UnLoad.{f_unload}
use Rattle.proc_model.specs.UserBytes.{user_bytes, d_of}
use Rattle.proc_model.specs.Wait.{f_wait, reaped_regs}

module _ (m : Processes) (p : ℕ) where
  -- a process that waits after an attempt has the call that it had before
  abbrev pub HasItsCall : CallResult → Type 0
  HasItsCall (done t) = Unit {0}
  HasItsCall (refused number) = Unit {0}
  HasItsCall (waits t) = (own_at t p).call ≡ (own_at m p).call
  HasItsCall (ends status) = Unit {0}

  of-needs : {A : Type 0} (some : Option A) (number : ℕ) (next : A → CallResult) → ((a : A) → HasItsCall (next a)) → HasItsCall (needs some number next)
  of-needs None number next has = tt
  of-needs (Some a) number next has = has a

  of-refuses : (test : Bool) (number : ℕ) (next : CallResult) → HasItsCall next → HasItsCall (refuses test number next)
  of-refuses true number next has = tt
  of-refuses false number next has = has

  of-changes : (change : Result MemoryState MemoryFault) (next : MemoryState → CallResult) → ((memory : MemoryState) → HasItsCall (next memory)) → HasItsCall (changes change next)
  of-changes (Ok memory) next has = has memory
  of-changes (Err fault) next has = tt

  of-name : (name : Result (List ℕ) NameFault) (number : ℕ) (next : List ℕ → CallResult) → ((name : List ℕ) → HasItsCall (next name)) → HasItsCall (reads_name name number next)
  of-name (Ok name) number next has = has name
  of-name (Err Unreadable) number next has = tt
  of-name (Err NoName) number next has = tt

  -- ---- modules

  abbrev link-last : ℕ → Entered → Mapped → CallResult
  link-last count found mapped =
      refuses (nat_le MOST_LINKS (links_at (own_at m p) mapped.slot)) E_MEMFUL (done (after_link m p found mapped count))

  abbrev link-mapped : ℕ → Entered → CallResult
  link-mapped count found = needs (mapped_group m.memory p found.entry.group) E_MEMFUL (link-last count found)

  abbrev link-found : ℕ → Entered → CallResult
  link-found count found = refuses (has_most_links found.entry) E_MEMFUL (link-mapped count found)

  link-has : HasItsCall (f_link m p)
  link-has =
      of-name (name_at (cells_at m p) (regs_at m p).x) E_BNAM (λ name. needs (found_entry m.memory.modules name (regs_at m p).a) E_MNF (link-found (length name)))
      (λ name. of-needs (found_entry m.memory.modules name (regs_at m p).a) E_MNF (link-found (length name))
      (λ found. of-refuses (has_most_links found.entry) E_MEMFUL (link-mapped (length name) found)
      (of-needs (mapped_group m.memory p found.entry.group) E_MEMFUL (link-last (length name) found)
      (λ mapped. of-refuses (nat_le MOST_LINKS (links_at (own_at m p) mapped.slot)) E_MEMFUL (done (after_link m p found mapped (length name))) tt))))

  unlink-has : HasItsCall (f_unlink m p)
  unlink-has =
      of-needs (module_at m.memory.modules (map_at m.memory p) (regs_at m p).u) E_MNF (λ found. done (after_unlink m p found)) (λ found. tt)

  unload-has : HasItsCall (f_unload m p)
  unload-has =
      of-name (name_at (cells_at m p) (regs_at m p).x) E_BNAM (λ name. needs (found_entry m.memory.modules name (regs_at m p).a) E_MNF (λ found. done (without_module_link m found.number)))
      (λ name. of-needs (found_entry m.memory.modules name (regs_at m p).a) E_MNF (λ found. done (without_module_link m found.number)) (λ found. tt))

  -- ---- a program that is started

  module _ (next : Program → CallResult) (has : (program : Program) → HasItsCall (next program)) where
    abbrev program-of : Entered → List ℕ → ℕ → Program
    program-of found parameters count = record {
      entered = found;
      pages = area_pages found.entry (regs_at m p).b (length parameters);
      parameters = parameters;
      count = count;
    }

    abbrev with-found : List ℕ → List ℕ → Entered → CallResult
    with-found parameters name found =
        refuses (not (found.entry.info.kind == program_kind)) E_NEMOD (next (program-of found parameters (length name)))

    abbrev with-name : List ℕ → List ℕ → CallResult
    with-name parameters name =
        needs (found_entry m.memory.modules name (regs_at m p).a) E_MNF (with-found parameters name)

    abbrev with-parameters-read : List ℕ → CallResult
    with-parameters-read parameters =
        refuses (not (asks_for_program (regs_at m p).a)) E_NEMOD (needs (module_name (name_at_x m p)) E_BNAM (with-name parameters))

    program-has : HasItsCall (reads_program m p next)
    program-has =
        of-refuses (is_unreadable (name_at_x m p)) E_BPADDR (needs (user_bytes (cells_at m p) (regs_at m p).u (regs_at m p).y) E_BPADDR with-parameters-read)
        (of-needs (user_bytes (cells_at m p) (regs_at m p).u (regs_at m p).y) E_BPADDR with-parameters-read
        (λ parameters. of-refuses (not (asks_for_program (regs_at m p).a)) E_NEMOD (needs (module_name (name_at_x m p)) E_BNAM (with-name parameters))
        (of-needs (module_name (name_at_x m p)) E_BNAM (with-name parameters)
        (λ name. of-needs (found_entry m.memory.modules name (regs_at m p).a) E_MNF (with-found parameters name)
        (λ found. of-refuses (not (found.entry.info.kind == program_kind)) E_NEMOD (next (program-of found parameters (length name)))
        (has (program-of found parameters (length name))))))))

  abbrev making : Program → ℕ → CallResult
  making program child =
      changes (started m.memory child program.entered.number (blocks_of_pages program.pages))
      (λ memory. done (with_regs_of (with_child m p child program memory) p (forked_regs (regs_at m p) child
      program)))

  abbrev forking : Program → CallResult
  forking program =
      needs (free_process m.records) E_PRCFUL (λ child. refuses (nat_lt most_pages program.pages) E_MEMFUL (making program child))

  fork-has : HasItsCall (f_fork m p)
  fork-has =
      program-has forking
      (λ program. of-needs (free_process m.records) E_PRCFUL (λ child. refuses (nat_lt most_pages program.pages) E_MEMFUL (making program child))
      (λ child. of-refuses (nat_lt most_pages program.pages) E_MEMFUL (making program child)
      (of-changes (started m.memory child program.entered.number (blocks_of_pages program.pages))
      (λ memory. done (with_regs_of (with_child m p child program memory) p (forked_regs (regs_at m p) child
      program)))
      (λ memory. tt))))

  abbrev anew : Program → MemoryState → CallResult
  anew program memory =
      done (without_primary_link (begun_anew (with_program m p program memory) p program) (own_at m p))

  abbrev chaining : Program → CallResult
  chaining program =
      refuses (nat_lt most_pages program.pages) E_MEMFUL
      (changes (started m.memory p program.entered.number (blocks_of_pages program.pages)) (anew program))

  chain-has : HasItsCall (f_chain m p)
  chain-has =
      program-has chaining
      (λ program. of-refuses (nat_lt most_pages program.pages) E_MEMFUL (changes (started m.memory p program.entered.number (blocks_of_pages program.pages)) (anew program))
      (of-changes (started m.memory p program.entered.number (blocks_of_pages program.pages)) (anew program) (λ memory. tt)))

  -- ---- memory, CRC and names

  mem-has : HasItsCall (f_mem m p)
  mem-has = by_test (d_of (regs_at m p) == 0)
    where
      by_test : (test : Bool) → HasItsCall (if test then done (with_regs_of m p (size_regs (regs_at m p) (own_at m p).size)) else sets_pages m p (page_count (d_of (regs_at m p))))
      by_test true = tt
      by_test false =
          of-refuses (nat_lt most_pages (page_count (d_of (regs_at m p)))) E_MEMFUL
          (changes (resized m.memory p (blocks_of_pages (page_count (d_of (regs_at m p)))))
          (λ memory. done (with_size m p (256 * page_count (d_of (regs_at m p))) memory)))
          (of-changes (resized m.memory p (blocks_of_pages (page_count (d_of (regs_at m p))))) (λ memory. done (with_size m p (256 * page_count (d_of (regs_at m p))) memory)) (λ memory. tt))

  crc-has : HasItsCall (f_crc m p)
  crc-has =
      of-needs (user_bytes (cells_at m p) (regs_at m p).x (regs_at m p).y) E_BPADDR
      (λ bytes. needs (user_bytes (cells_at m p) (regs_at m p).u 3) E_BPADDR
      (λ accumulator. done (with_memory m (stored m.memory p (regs_at m p).u (crc_continued accumulator bytes)))))
      (λ bytes. of-needs (user_bytes (cells_at m p) (regs_at m p).u 3) E_BPADDR
      (λ accumulator. done (with_memory m (stored m.memory p (regs_at m p).u (crc_continued accumulator bytes))))
      (λ accumulator. tt))

  prsnam-has : HasItsCall (f_prsnam m p)
  prsnam-has = at-first (past_slash (cells_at m p) (regs_at m p).x)
    where
      at-first : (first : ℕ) → HasItsCall (parses_name m p first)
      at-first first =
          of-name (name_at (cells_at m p) first) E_BNAM
          (λ name. needs (user_cell (cells_at m p) (first + length name)) E_BPADDR
          (λ next. done (with_regs_of m p (name_regs (regs_at m p) first (length name) next))))
          (λ name. of-needs (user_cell (cells_at m p) (first + length name)) E_BPADDR (λ next. done (with_regs_of m p (name_regs (regs_at m p) first (length name) next))) (λ next. tt))

  cmpnam-has : HasItsCall (f_cmpnam m p)
  cmpnam-has =
      of-needs (same_names (cells_at m p) (regs_at m p).x (regs_at m p).y (regs_at m p).b) E_BPADDR (λ same. refuses (not same) E_BNAM (done m))
      (λ agree. of-refuses (not agree) E_BNAM (done m) tt)

  -- ---- other processes

  send-has : HasItsCall (f_send m p)
  send-has = by_fault (send_fault m.records (user_at m p) (regs_at m p).a (regs_at m p).b)
    where
      answer : Option SendFault → CallResult
      answer None = done (after_signal m (regs_at m p).a (regs_at m p).b)
      answer (Some NoProcess) = refused E_IPRCID
      answer (Some Pending) = refused E_USIGP

      by_fault : (fault : Option SendFault) → HasItsCall (answer fault)
      by_fault None = tt
      by_fault (Some NoProcess) = tt
      by_fault (Some Pending) = tt

  sprior-has : HasItsCall (f_sprior m p)
  sprior-has =
      of-refuses (not (is_reached m.records (user_at m p) (regs_at m p).a)) E_IPRCID (done (with_records m (with_priority m.records (regs_at m p).a (regs_at m p).b))) tt

  -- ---- F$Sleep and F$Wait

  sleep-has : HasItsCall (f_sleep m p)
  sleep-has = by_tests (is_waiting (record_at m.records p).life) (may_wake m.tick (own_at m p))
    where
      asleep : Own
      asleep = record (own_at m p) { until = sleep_end m.tick (regs_at m p).x; woken = false }

      stays : (own_at (with_own m p asleep) p).call ≡ (own_at m p).call
      stays =
          elim (cases_lt p (length m.own)) [
            | inl within ↦ ap (λ (own : Own). own.call) (get_or-set_same m.own p asleep no_own within)
            | inr past ↦ ap (λ (own : Own). own.call) (get_or_past (slice_set m.own p asleep) p no_own (rw length-set past) ∙ sym (get_or_past m.own p no_own past))
          ]

      by_tests : (waiting wake : Bool)
          → HasItsCall (if waiting then
          (if wake then done (with_regs_of m p (record (regs_at m p) { x = ticks_left m.tick (own_at m p) })) else
          waits m) else falls_asleep m p)
      by_tests true true = tt
      by_tests true false = refl
      by_tests false wake = stays

  wait-has : HasItsCall (f_wait m p)
  wait-has = by_reap (reaped m.records p)
    where
      answer : Result (Pid × ℕ) Reap → CallResult
      answer (Ok child) =
          done (with_regs_of (with_records m (after_reap m.records p)) p (reaped_regs (regs_at m p) child))
      answer (Err NoChild) = refused E_NOCHLD
      answer (Err NotYet) = waits m

      by_reap : (reap : Result (Pid × ℕ) Reap) → HasItsCall (answer reap)
      by_reap (Ok child) = tt
      by_reap (Err NoChild) = tt
      by_reap (Err NotYet) = refl

  -- ---- all calls

  pub attempt-has : (call : ProcCall) → HasItsCall (attempted call m p)
  attempt-has Call.Link = link-has
  attempt-has Call.UnLink = unlink-has
  attempt-has Call.Fork = fork-has
  attempt-has Call.Wait = wait-has
  attempt-has Call.Chain = chain-has
  attempt-has Call.Exit = tt
  attempt-has Call.Mem = mem-has
  attempt-has Call.Send = send-has
  attempt-has Call.Icpt = tt
  attempt-has Call.Sleep = sleep-has
  attempt-has Call.Id = tt
  attempt-has Call.SPrior = sprior-has
  attempt-has Call.PrsNam = prsnam-has
  attempt-has Call.CmpNam = cmpnam-has
  attempt-has Call.Crc = crc-has
  attempt-has Call.SUser = tt
  attempt-has Call.UnLoad = unload-has
