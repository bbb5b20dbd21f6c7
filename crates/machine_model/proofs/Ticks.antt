-- No call on processes and modules changes the tick.
use Rattle.std.proofs.Common.{◌≡◌, ℕ, ◌+◌, ◌-◌, ◌*◌, ◌==◌, not, nat_lt, nat_le, Bool, true, false, Option, Some, None, Result, Ok, Err, List, length, refl}
use Rattle.std.specs.Option.{option_map_or}
use Rattle.std.specs.Prelude.{if◌then◌else◌}
use Rattle.os9_base.specs.declared.errors.TheConstants.{E_BPADDR, E_NEMOD, E_BNAM, E_MNF, E_MEMFUL, E_PRCFUL, E_IPRCID, E_USIGP, E_NOCHLD}
use Rattle.os9_base.specs.declared.registers.Pid.{Pid}
use Rattle.proc_model.specs.declared.memory.MemoryFault.{MemoryFault}
use Rattle.proc_model.specs.declared.memory.TheConstants.{MOST_LINKS}
use Rattle.proc_model.specs.declared.module.ModId.{ModId}
use Rattle.proc_model.specs.Memory.{MemoryState, map_at}
use Rattle.proc_model.specs.MemoryChanges.{has_most_links, started, stored}
use Rattle.proc_model.specs.Slots.{group_slot}
use Rattle.proc_model.specs.declared.own.Own.{Own}
use Rattle.proc_model.specs.declared.record.Reap.{Reap}
use Rattle.proc_model.specs.declared.record.Reap.TheVariants.{NoChild, NotYet}
use Rattle.proc_model.specs.declared.record.SendFault.{SendFault}
use Rattle.proc_model.specs.declared.record.SendFault.TheVariants.{NoProcess, Pending}
use Rattle.proc_model.specs.Ends.{reaped, after_reap}
use Rattle.proc_model.specs.Records.{record_at, free_process, is_waiting, with_priority}
use Rattle.proc_model.specs.Signals.{is_reached, send_fault, wake_signal, with_sent}
use Rattle.os9_base.specs.declared.name_fault.NameFault.{NameFault}
use Rattle.os9_base.specs.declared.name_fault.NameFault.TheVariants.{Unreadable, NoName}
use Rattle.os9_base.specs.UserNames.{name_at, user_cell}
use Rattle.proc_model.specs.declared.proc_call.ProcCall.{ProcCall}
use Rattle.proc_model.specs.declared.proc_call.ProcCall.TheVariants as Call
use Rattle.proc_model.specs.Attempts.{attempted, after_attempt}
use Rattle.proc_model.specs.CallResult.{CallResult, done, refused, waits, ends, needs, refuses, changes, reads_name}
use Rattle.proc_model.specs.Chain.{f_chain, begun_anew, with_program}
use Rattle.proc_model.specs.CmpNam.{f_cmpnam, same_names}
use Rattle.proc_model.specs.Crc.{f_crc, crc_continued}
use Rattle.proc_model.specs.End.{ended}
use Rattle.proc_model.specs.Fork.{f_fork, with_child, forked_regs}
use Rattle.proc_model.specs.Processes.{Processes, own_at, regs_at, user_at, cells_at, with_memory, with_records, with_regs_of, with_own}
use Rattle.proc_model.specs.Link.{f_link, mapped_group, links_at, after_link}
use Rattle.proc_model.specs.Mem.{f_mem, sets_pages, resized, with_size, size_regs}
use Rattle.proc_model.specs.ModuleLinks.{found_entry, module_at, without_module_link, without_primary_link, Entered}
use Rattle.proc_model.specs.Program.{Program, is_unreadable, module_name, name_at_x, asks_for_program, program_kind, area_pages, page_count, most_pages, blocks_of_pages}
use Rattle.proc_model.specs.PrsNam.{f_prsnam, past_slash, name_regs}
use Rattle.proc_model.specs.SPrior.{f_sprior}
use Rattle.proc_model.specs.Send.{f_send, is_asleep, woken, after_signal}
use Rattle.proc_model.specs.Sleep.{f_sleep, falls_asleep, may_wake, ticks_left}
use Rattle.proc_model.specs.UnLink.{f_unlink, after_unlink, without_group_link}
use Rattle.proc_model.specs.UnLoad.{f_unload}
use Rattle.proc_model.specs.UserBytes.{user_bytes, d_of}
use Rattle.proc_model.specs.Wait.{f_wait, reaped_regs}

-- the processes that a call leaves have the same tick
abbrev KeepsTick : Processes → CallResult → Type 0
KeepsTick m (done t) = t.tick ≡ m.tick
KeepsTick m (refused number) = Unit {0}
KeepsTick m (waits t) = t.tick ≡ m.tick
KeepsTick m (ends status) = Unit {0}

of-needs : {A : Type 0} (m : Processes) (some : Option A) (number : ℕ) (next : A → CallResult) → ((a : A) → KeepsTick m (next a)) → KeepsTick m (needs some number next)
of-needs m None number next keeps = tt
of-needs m (Some a) number next keeps = keeps a

of-refuses : (m : Processes) (test : Bool) (number : ℕ) (next : CallResult) → KeepsTick m next → KeepsTick m (refuses test number next)
of-refuses m true number next keeps = tt
of-refuses m false number next keeps = keeps

of-changes : (m : Processes) (change : Result MemoryState MemoryFault) (next : MemoryState → CallResult) → ((memory : MemoryState) → KeepsTick m (next memory)) → KeepsTick m (changes change next)
of-changes m (Ok memory) next keeps = keeps memory
of-changes m (Err fault) next keeps = tt

of-name : (m : Processes) (name : Result (List ℕ) NameFault) (number : ℕ) (next : List ℕ → CallResult) → ((name : List ℕ) → KeepsTick m (next name)) → KeepsTick m (reads_name name number next)
of-name m (Ok name) number next keeps = keeps name
of-name m (Err Unreadable) number next keeps = tt
of-name m (Err NoName) number next keeps = tt

of-if : (m : Processes) (test : Bool) (one other : CallResult) → KeepsTick m one → KeepsTick m other → KeepsTick m (if test then one else other)
of-if m true one other first second = first
of-if m false one other first second = second

-- the state where a link to a primary module is given up has the same tick
primary-tick : (m : Processes) (own : Own) → (without_primary_link m own).tick ≡ m.tick
primary-tick m own = by_primary own.primary
  where
    by_primary : (primary : Option ModId) → (option_map_or (λ (id : ModId). without_module_link m id.0) primary m).tick ≡ m.tick
    by_primary None = refl
    by_primary (Some id) = refl

module _ (m : Processes) where
  unlink-tick : (p : ℕ) (found : Entered) → (after_unlink m p found).tick ≡ m.tick
  unlink-tick p found = by_slot (group_slot (map_at m.memory p) found.entry.group)
    where
      by_slot : (slot : Option ℕ) → (option_map_or (without_group_link m p found.entry.group) slot m).tick ≡ m.tick
      by_slot None = refl
      by_slot (Some slot) = refl

  signal-tick : (to signal : ℕ) → (after_signal m to signal).tick ≡ m.tick
  signal-tick to signal = by_wake (signal == wake_signal) (is_asleep m to)
    where
      by_wake : (wake asleep : Bool) → (if wake then (if asleep then with_own m to (record (own_at m to) { woken = true }) else m) else with_records m (with_sent m.records to signal)).tick ≡ m.tick
      by_wake true true = refl
      by_wake true false = refl
      by_wake false asleep = refl

module _ (m : Processes) (p : ℕ) where
  -- F$Fork and F$Chain, once the program was read
  abbrev forking : Program → CallResult
  forking program = needs (free_process m.records) E_PRCFUL (λ child. refuses (nat_lt most_pages program.pages)
      E_MEMFUL (changes (started m.memory child program.entered.number (blocks_of_pages program.pages))
      (λ memory. done (with_regs_of (with_child m p child program memory) p (forked_regs (regs_at m p) child
      program)))))

  forking-tick : (program : Program) → KeepsTick m (forking program)
  forking-tick program = of-needs m (free_process m.records) E_PRCFUL
      (λ child. refuses (nat_lt most_pages program.pages) E_MEMFUL
      (changes (started m.memory child program.entered.number (blocks_of_pages program.pages))
      (λ memory. done (with_regs_of (with_child m p child program memory) p (forked_regs (regs_at m p) child
      program))))) (λ child. of-refuses m (nat_lt most_pages program.pages) E_MEMFUL
      (changes (started m.memory child program.entered.number (blocks_of_pages program.pages))
      (λ memory. done (with_regs_of (with_child m p child program memory) p (forked_regs (regs_at m p) child
      program)))) (of-changes m (started m.memory child program.entered.number (blocks_of_pages program.pages))
      (λ memory. done (with_regs_of (with_child m p child program memory) p (forked_regs (regs_at m p) child
      program))) (λ memory. refl)))

  abbrev chaining : Program → CallResult
  chaining program = refuses (nat_lt most_pages program.pages) E_MEMFUL
      (changes (started m.memory p program.entered.number (blocks_of_pages program.pages))
      (λ memory. done (without_primary_link (begun_anew (with_program m p program memory) p program) (own_at m p))))

  chaining-tick : (program : Program) → KeepsTick m (chaining program)
  chaining-tick program = of-refuses m (nat_lt most_pages program.pages) E_MEMFUL
      (changes (started m.memory p program.entered.number (blocks_of_pages program.pages))
      (λ memory. done (without_primary_link (begun_anew (with_program m p program memory) p program) (own_at m p))))
      (of-changes m (started m.memory p program.entered.number (blocks_of_pages program.pages))
      (λ memory. done (without_primary_link (begun_anew (with_program m p program memory) p program) (own_at m p)))
      (λ memory. primary-tick (begun_anew (with_program m p program memory) p program) (own_at m p)))

  f_link-tick : KeepsTick m (f_link m p)
  f_link-tick = of-name m (name_at (cells_at m p) (regs_at m p).x) E_BNAM
      (λ name. needs (found_entry m.memory.modules name (regs_at m p).a) E_MNF
      (λ found. refuses (has_most_links found.entry) E_MEMFUL (needs (mapped_group m.memory p found.entry.group)
      E_MEMFUL (λ mapped. refuses (nat_le MOST_LINKS (links_at (own_at m p) mapped.slot)) E_MEMFUL
      (done (after_link m p found mapped (length name)))))))
      (λ name. of-needs m (found_entry m.memory.modules name (regs_at m p).a) E_MNF
      (λ found. refuses (has_most_links found.entry) E_MEMFUL (needs (mapped_group m.memory p found.entry.group)
      E_MEMFUL (λ mapped. refuses (nat_le MOST_LINKS (links_at (own_at m p) mapped.slot)) E_MEMFUL
      (done (after_link m p found mapped (length name)))))) (λ found. of-refuses m (has_most_links found.entry)
      E_MEMFUL (needs (mapped_group m.memory p found.entry.group) E_MEMFUL
      (λ mapped. refuses (nat_le MOST_LINKS (links_at (own_at m p) mapped.slot)) E_MEMFUL
      (done (after_link m p found mapped (length name))))) (of-needs m (mapped_group m.memory p found.entry.group)
      E_MEMFUL (λ mapped. refuses (nat_le MOST_LINKS (links_at (own_at m p) mapped.slot)) E_MEMFUL
      (done (after_link m p found mapped (length name))))
      (λ mapped. of-refuses m (nat_le MOST_LINKS (links_at (own_at m p) mapped.slot)) E_MEMFUL
      (done (after_link m p found mapped (length name))) (refl)))))

  f_unlink-tick : KeepsTick m (f_unlink m p)
  f_unlink-tick = of-needs m (module_at m.memory.modules (map_at m.memory p) (regs_at m p).u) E_MNF (λ found. done (after_unlink m p found)) (λ found. unlink-tick m p found)

  f_unload-tick : KeepsTick m (f_unload m p)
  f_unload-tick = of-name m (name_at (cells_at m p) (regs_at m p).x) E_BNAM
      (λ name. needs (found_entry m.memory.modules name (regs_at m p).a) E_MNF
      (λ found. done (without_module_link m found.number)))
      (λ name. of-needs m (found_entry m.memory.modules name (regs_at m p).a) E_MNF
      (λ found. done (without_module_link m found.number)) (λ found. refl))

  f_fork-tick : KeepsTick m (f_fork m p)
  f_fork-tick = of-refuses m (is_unreadable (name_at_x m p)) E_BPADDR
      (needs (user_bytes (cells_at m p) (regs_at m p).u (regs_at m p).y) E_BPADDR
      (λ parameters. refuses (not (asks_for_program (regs_at m p).a)) E_NEMOD (needs (module_name (name_at_x m p))
      E_BNAM (λ name. needs (found_entry m.memory.modules name (regs_at m p).a) E_MNF
      (λ found. refuses (not (found.entry.info.kind == program_kind)) E_NEMOD
      (forking (record {
        entered = found;
        pages = area_pages found.entry (regs_at m p).b (length parameters);
        parameters = parameters;
        count = length name;
      })))))))
      (of-needs m (user_bytes (cells_at m p) (regs_at m p).u (regs_at m p).y) E_BPADDR
      (λ parameters. refuses (not (asks_for_program (regs_at m p).a)) E_NEMOD (needs (module_name (name_at_x m p))
      E_BNAM (λ name. needs (found_entry m.memory.modules name (regs_at m p).a) E_MNF
      (λ found. refuses (not (found.entry.info.kind == program_kind)) E_NEMOD
      (forking (record {
        entered = found;
        pages = area_pages found.entry (regs_at m p).b (length parameters);
        parameters = parameters;
        count = length name;
      })))))) (λ parameters. of-refuses m
      (not (asks_for_program (regs_at m p).a)) E_NEMOD (needs (module_name (name_at_x m p)) E_BNAM
      (λ name. needs (found_entry m.memory.modules name (regs_at m p).a) E_MNF
      (λ found. refuses (not (found.entry.info.kind == program_kind)) E_NEMOD
      (forking (record {
        entered = found;
        pages = area_pages found.entry (regs_at m p).b (length parameters);
        parameters = parameters;
        count = length name;
      }))))) (of-needs m (module_name (name_at_x m p)) E_BNAM
      (λ name. needs (found_entry m.memory.modules name (regs_at m p).a) E_MNF
      (λ found. refuses (not (found.entry.info.kind == program_kind)) E_NEMOD
      (forking (record {
        entered = found;
        pages = area_pages found.entry (regs_at m p).b (length parameters);
        parameters = parameters;
        count = length name;
      }))))
      (λ name. of-needs m (found_entry m.memory.modules name (regs_at m p).a) E_MNF
      (λ found. refuses (not (found.entry.info.kind == program_kind)) E_NEMOD
      (forking (record {
        entered = found;
        pages = area_pages found.entry (regs_at m p).b (length parameters);
        parameters = parameters;
        count = length name;
      })))
      (λ found. of-refuses m (not (found.entry.info.kind == program_kind)) E_NEMOD
      (forking (record {
        entered = found;
        pages = area_pages found.entry (regs_at m p).b (length parameters);
        parameters = parameters;
        count = length name;
      }))
      (forking-tick (record {
        entered = found;
        pages = area_pages found.entry (regs_at m p).b (length parameters);
        parameters = parameters;
        count = length name;
      })))))))

  f_chain-tick : KeepsTick m (f_chain m p)
  f_chain-tick = of-refuses m (is_unreadable (name_at_x m p)) E_BPADDR
      (needs (user_bytes (cells_at m p) (regs_at m p).u (regs_at m p).y) E_BPADDR
      (λ parameters. refuses (not (asks_for_program (regs_at m p).a)) E_NEMOD (needs (module_name (name_at_x m p))
      E_BNAM (λ name. needs (found_entry m.memory.modules name (regs_at m p).a) E_MNF
      (λ found. refuses (not (found.entry.info.kind == program_kind)) E_NEMOD
      (chaining (record {
        entered = found;
        pages = area_pages found.entry (regs_at m p).b (length parameters);
        parameters = parameters;
        count = length name;
      })))))))
      (of-needs m (user_bytes (cells_at m p) (regs_at m p).u (regs_at m p).y) E_BPADDR
      (λ parameters. refuses (not (asks_for_program (regs_at m p).a)) E_NEMOD (needs (module_name (name_at_x m p))
      E_BNAM (λ name. needs (found_entry m.memory.modules name (regs_at m p).a) E_MNF
      (λ found. refuses (not (found.entry.info.kind == program_kind)) E_NEMOD
      (chaining (record {
        entered = found;
        pages = area_pages found.entry (regs_at m p).b (length parameters);
        parameters = parameters;
        count = length name;
      })))))) (λ parameters. of-refuses m
      (not (asks_for_program (regs_at m p).a)) E_NEMOD (needs (module_name (name_at_x m p)) E_BNAM
      (λ name. needs (found_entry m.memory.modules name (regs_at m p).a) E_MNF
      (λ found. refuses (not (found.entry.info.kind == program_kind)) E_NEMOD
      (chaining (record {
        entered = found;
        pages = area_pages found.entry (regs_at m p).b (length parameters);
        parameters = parameters;
        count = length name;
      }))))) (of-needs m (module_name (name_at_x m p)) E_BNAM
      (λ name. needs (found_entry m.memory.modules name (regs_at m p).a) E_MNF
      (λ found. refuses (not (found.entry.info.kind == program_kind)) E_NEMOD
      (chaining (record {
        entered = found;
        pages = area_pages found.entry (regs_at m p).b (length parameters);
        parameters = parameters;
        count = length name;
      }))))
      (λ name. of-needs m (found_entry m.memory.modules name (regs_at m p).a) E_MNF
      (λ found. refuses (not (found.entry.info.kind == program_kind)) E_NEMOD
      (chaining (record {
        entered = found;
        pages = area_pages found.entry (regs_at m p).b (length parameters);
        parameters = parameters;
        count = length name;
      })))
      (λ found. of-refuses m (not (found.entry.info.kind == program_kind)) E_NEMOD
      (chaining (record {
        entered = found;
        pages = area_pages found.entry (regs_at m p).b (length parameters);
        parameters = parameters;
        count = length name;
      }))
      (chaining-tick (record {
        entered = found;
        pages = area_pages found.entry (regs_at m p).b (length parameters);
        parameters = parameters;
        count = length name;
      })))))))

  f_crc-tick : KeepsTick m (f_crc m p)
  f_crc-tick = of-needs m (user_bytes (cells_at m p) (regs_at m p).x (regs_at m p).y) E_BPADDR
      (λ bytes. needs (user_bytes (cells_at m p) (regs_at m p).u 3) E_BPADDR
      (λ accumulator. done (with_memory m (stored m.memory p (regs_at m p).u (crc_continued accumulator bytes)))))
      (λ bytes. of-needs m (user_bytes (cells_at m p) (regs_at m p).u 3) E_BPADDR
      (λ accumulator. done (with_memory m (stored m.memory p (regs_at m p).u (crc_continued accumulator bytes))))
      (λ accumulator. refl))

  f_prsnam-tick : KeepsTick m (f_prsnam m p)
  f_prsnam-tick = of-name m (name_at (cells_at m p) (past_slash (cells_at m p) (regs_at m p).x)) E_BNAM
      (λ name. needs (user_cell (cells_at m p) (past_slash (cells_at m p) (regs_at m p).x + length name)) E_BPADDR
      (λ next. done (with_regs_of m p (name_regs (regs_at m p) (past_slash (cells_at m p) (regs_at m p).x)
      (length name) next)))) (λ name. of-needs m (user_cell (cells_at m p) (past_slash (cells_at m p) (regs_at m p).x
      + length name)) E_BPADDR (λ next. done
      (with_regs_of m p (name_regs (regs_at m p) (past_slash (cells_at m p) (regs_at m p).x) (length name) next)))
      (λ next. refl))

  f_cmpnam-tick : KeepsTick m (f_cmpnam m p)
  f_cmpnam-tick = of-needs m (same_names (cells_at m p) (regs_at m p).x (regs_at m p).y (regs_at m p).b) E_BPADDR
      (λ same. refuses (not same) E_BNAM (done (m))) (λ same. of-refuses m (not same) E_BNAM (done (m)) (refl))

  f_sprior-tick : KeepsTick m (f_sprior m p)
  f_sprior-tick = of-refuses m (not (is_reached m.records (user_at m p) (regs_at m p).a)) E_IPRCID (done (with_records m (with_priority m.records (regs_at m p).a (regs_at m p).b))) (refl)

  f_mem-tick : KeepsTick m (f_mem m p)
  f_mem-tick =
      let pages = page_count (d_of (regs_at m p)) in
      of-if m (d_of (regs_at m p) == 0) (done (with_regs_of m p (size_regs (regs_at m p) (own_at m p).size))) (sets_pages m p pages) refl
      (of-refuses m (nat_lt most_pages pages) E_MEMFUL (changes (resized m.memory p (blocks_of_pages pages)) (λ memory. done (with_size m p (256 * pages) memory)))
      (of-changes m (resized m.memory p (blocks_of_pages pages)) (λ memory. done (with_size m p (256 * pages) memory)) (λ memory. refl)))

  f_send-tick : KeepsTick m (f_send m p)
  f_send-tick = by_fault (send_fault m.records (user_at m p) (regs_at m p).a (regs_at m p).b)
    where
      answer : Option SendFault → CallResult
      answer None = done (after_signal m (regs_at m p).a (regs_at m p).b)
      answer (Some NoProcess) = refused E_IPRCID
      answer (Some Pending) = refused E_USIGP

      by_fault : (fault : Option SendFault) → KeepsTick m (answer fault)
      by_fault None = signal-tick m (regs_at m p).a (regs_at m p).b
      by_fault (Some NoProcess) = tt
      by_fault (Some Pending) = tt

  f_sleep-tick : KeepsTick m (f_sleep m p)
  f_sleep-tick = by_waits (is_waiting (record_at m.records p).life) (may_wake m.tick (own_at m p))
    where
      by_waits : (waiting wake : Bool)
          → KeepsTick m (if waiting then
          (if wake then done (with_regs_of m p (record (regs_at m p) { x = ticks_left m.tick (own_at m p) })) else
          waits m) else falls_asleep m p)
      by_waits true true = refl
      by_waits true false = refl
      by_waits false wake = refl

  f_wait-tick : KeepsTick m (f_wait m p)
  f_wait-tick = by_reap (reaped m.records p)
    where
      answer : Result (Pid × ℕ) Reap → CallResult
      answer (Ok child) = done (with_regs_of (with_records m (after_reap m.records p)) p (reaped_regs (regs_at m p) child))
      answer (Err NoChild) = refused E_NOCHLD
      answer (Err NotYet) = waits m

      by_reap : (reap : Result (Pid × ℕ) Reap) → KeepsTick m (answer reap)
      by_reap (Ok child) = refl
      by_reap (Err NoChild) = tt
      by_reap (Err NotYet) = refl

  keeps-tick : (call : ProcCall) → KeepsTick m (attempted call m p)
  keeps-tick Call.Link = f_link-tick
  keeps-tick Call.UnLink = f_unlink-tick
  keeps-tick Call.Fork = f_fork-tick
  keeps-tick Call.Wait = f_wait-tick
  keeps-tick Call.Chain = f_chain-tick
  keeps-tick Call.Exit = tt
  keeps-tick Call.Mem = f_mem-tick
  keeps-tick Call.Send = f_send-tick
  keeps-tick Call.Icpt = refl
  keeps-tick Call.Sleep = f_sleep-tick
  keeps-tick Call.Id = refl
  keeps-tick Call.SPrior = f_sprior-tick
  keeps-tick Call.PrsNam = f_prsnam-tick
  keeps-tick Call.CmpNam = f_cmpnam-tick
  keeps-tick Call.Crc = f_crc-tick
  keeps-tick Call.SUser = refl
  keeps-tick Call.UnLoad = f_unload-tick

  -- an end leaves the tick
  pub ended-tick : (status : ℕ) → (ended m p status).tick ≡ m.tick
  ended-tick status = primary-tick m (own_at m p)

  after-tick : (result : CallResult) → KeepsTick m result → (after_attempt m p result).tick ≡ m.tick
  after-tick (done t) keeps = keeps
  after-tick (refused number) keeps = refl
  after-tick (waits t) keeps = keeps
  after-tick (ends status) keeps = ended-tick status

  pub attempt-tick : (call : ProcCall) → (after_attempt m p (attempted call m p)).tick ≡ m.tick
  attempt-tick call = after-tick (attempted call m p) (keeps-tick call)
