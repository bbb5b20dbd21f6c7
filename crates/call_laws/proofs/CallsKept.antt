-- What each call on processes and modules leaves of the others, and the end of a process.
use Rattle.std.proofs.Common.{◌≡◌, ◌≢◌, ℕ, ◌+◌, ◌-◌, ◌*◌, ◌==◌, not, nat_lt, nat_le, Bool, true, false, Option, Some, None, is_some, Result, Ok, Err, List, length, map, refl, sym, ap, ◌∙◌, subst, inl, inr}
use Rattle.std.specs.Prelude.{slice_set, slice_index_or, option_and_then, option_map, ◌&&◌, if◌then◌else◌}
use Rattle.std.specs.Option.{option_map_or}
use Rattle.std.proofs.lemmas.Bool.{cases_lt, eqb-true, false≢true}
use Rattle.std.proofs.lemmas.List.{get_or-set_other, get_or_past, get_or-map, length-set, length-map}
use Rattle.std.proofs.lemmas.Option.{same_Some}
use Rattle.os9_base.specs.declared.errors.TheConstants.{E_BPADDR, E_BNAM, E_MNF, E_MEMFUL, E_IPRCID, E_USIGP, E_NOCHLD}
use Rattle.os9_base.specs.declared.registers.Pid.{Pid}
use Rattle.os9_base.specs.declared.registers.Regs.{Regs}
use Rattle.proc_model.specs.declared.memory.MemoryFault.{MemoryFault}
use Rattle.proc_model.specs.declared.memory.TheConstants.{MOST_LINKS}
use Rattle.proc_model.specs.declared.module.ModId.{ModId}
use Rattle.proc_model.specs.Memory.{MemoryState, map_at}
use Rattle.proc_model.specs.MemoryChanges.{cleared, cut, grown, group_unmapped, has_most_links, linked, unlinked, stored, writes_from}
use Rattle.proc_model.specs.ModuleList.{ModuleEntry, module_entry_at, found_module, without_link}
use Rattle.proc_model.specs.Slots.{group_slot, no_slots}
use Rattle.proc_model.specs.declared.own.Own.{Own}
use Rattle.proc_model.specs.declared.record.Record.{Record}
use Rattle.proc_model.specs.declared.record.Reap.{Reap}
use Rattle.proc_model.specs.declared.record.Reap.TheVariants.{NoChild, NotYet}
use Rattle.proc_model.specs.declared.record.SendFault.{SendFault}
use Rattle.proc_model.specs.declared.record.SendFault.TheVariants.{NoProcess, Pending}
use Rattle.proc_model.specs.Ends.{ended_child, orphaned, reaped, after_exit, after_reap}
use Rattle.proc_model.specs.Records.{record_of, record_at, is_waiting, with_record, with_regs, without_record, with_priority}
use Rattle.proc_model.specs.Signals.{is_reached, wake_signal, with_signal}
use Rattle.os9_base.specs.declared.name_fault.NameFault.{NameFault}
use Rattle.os9_base.specs.declared.name_fault.NameFault.TheVariants.{Unreadable, NoName}
use Rattle.os9_base.specs.UserNames.{name_at, user_cell}
use Rattle.proc_model.specs.declared.proc_call.ProcCall.TheVariants as Call
use Rattle.proc_model.specs.Attempts.{after_attempt, done_regs, refused_regs, goes_on}
use Rattle.proc_model.specs.CallResult.{CallResult, done, refused, waits, needs, refuses, changes, reads_name}
use Rattle.proc_model.specs.CmpNam.{f_cmpnam, same_names}
use Rattle.proc_model.specs.Crc.{f_crc, crc_continued}
use Rattle.proc_model.specs.End.{ended, without_process}
use Rattle.proc_model.specs.Processes.{Processes, no_own, own_at, regs_at, user_at, cells_at, with_memory, with_records, with_regs_of, with_own}
use Rattle.proc_model.specs.Link.{Mapped, f_link, mapped_group, links_at, after_link}
use Rattle.proc_model.specs.Mem.{f_mem, sets_pages, resized, with_size, size_regs}
use Rattle.proc_model.specs.ModuleLinks.{Entered, entered_at, found_entry, module_at, still_primary, without_module_link}
use Rattle.proc_model.specs.Program.{page_count, most_pages, blocks_of_pages}
use Rattle.proc_model.specs.PrsNam.{f_prsnam, parses_name, past_slash, name_regs}
use Rattle.proc_model.specs.SPrior.{f_sprior}
use Rattle.proc_model.specs.Send.{f_send, is_asleep, after_signal}
use Rattle.proc_model.specs.Sleep.{f_sleep, falls_asleep, may_wake, ticks_left}
use Rattle.proc_model.specs.UnLink.{f_unlink, after_unlink, without_group_link, with_links_left}
use Rattle.proc_model.specs.UnLoad.{f_unload}
use Rattle.proc_model.specs.UserBytes.{user_bytes, d_of}
use Rattle.proc_model.specs.Wait.{f_wait, reaped_regs}
use Rattle.machine_model.specs.declared.ends.EventEnd.{EventEnd}
use Rattle.machine_model.specs.declared.ends.EventEnd.TheVariants.{Ran, Waits, Ended}
use Rattle.machine_model.specs.ProcessEvent.{call_event_end}
use Rattle.call_laws.specs.Others.{AttemptsCall, CallsOn, GetsSignal, GetsWake, KeepsOwn}
use Rattle.call_laws.specs.Links.{ChangesLinks, GainsLink, LosesLink, LosesPrimary}
use Rattle.call_laws.specs.NewObjects.{IsParameter}
use Rattle.call_laws.specs.Objects.{KeepsToItself}
use Rattle.call_laws.specs.Isolation.{LeavesOtherProcesses}
use Rattle.call_laws.proofs.MemoryKept.{itself-written, grown-modules, Kept, kept-same, itself-same, itself-cut, itself-cleared, itself-unmapped, kept-map, kept-written, Grows, grown-kept, grows-same, mapped-grows, mapped-modules}
use Rattle.call_laws.proofs.ModulesKept.{linked-modules, HaveMore, more-all, more-linked, keeps-more, keeps-unlinked}
use Rattle.call_laws.proofs.OthersKept.{Changed, changed-leaves, changed-self, changed-then, changed-goes_on, changed-waiting, record-same, record-other, own-same, own-still, own-other, named-record, woken-own, reaped-record, exit-other, exit-record, RecordLeft, turns-without}

-- what an event leaves, and that no place for a record comes or goes
pub record Left (m : Processes) (p : ℕ) (end : EventEnd) (n : Processes) : Type 0 where
  pub leaves : LeavesOtherProcesses m p end n
  pub places : length n.records ≡ length m.records

pub left-by : (m : Processes) (p : ℕ) (end : EventEnd) (n : Processes) → Changed m p end n → Left m p end n
left-by m p end n changed = record { leaves = changed-leaves m p end n changed; places = changed.places }

-- ---- what a process has, where a module leaves

still-at : (entries : List (Option ModuleEntry)) (own : List Own) (q : ℕ) → slice_index_or (map (still_primary entries) own) q no_own ≡ still_primary entries (slice_index_or own q no_own)
still-at entries own q =
    elim (cases_lt q (length own)) [
      | inl within ↦ get_or-map (still_primary entries) own q no_own no_own within
      | inr past ↦ get_or_past (map (still_primary entries) own) q no_own (rw length-map past) ∙ ap (still_primary entries) (sym (get_or_past own q no_own past))
    ]

module _ (m : Processes) (p : ℕ) (end : EventEnd) where
  pub changed-same : Changed m p end m
  changed-same = record {
    memory = kept-same m.memory p p;
    itself = itself-same m.memory p;
    links = inl refl;
    records = λ q differ. record-same m p end q (record_of m.records q);
    turns = refl;
    own = λ q differ. own-same m p end q m.memory (own_at m q);
    places = refl;
  }

  -- a link is given up, where the process has other memory and things of its own
  pub changed-unlinked : (memory : MemoryState) (own : List Own) (number : ℕ) → HaveMore m.memory.modules
      memory.modules → Grows m.memory (IsParameter m p) p memory → ((q : ℕ) → q ≢ p → slice_index_or own q no_own ≡
      own_at m q) → ChangesLinks m p end (unlinked memory number)
      → Changed m p end (without_module_link (record m { memory = memory; own = own }) number)
  changed-unlinked memory own number more grows same links = record {
    memory = record {
      objects = grows.kept.objects;
      maps = grows.kept.maps;
      modules = keeps-unlinked m.memory.modules memory.modules number more;
      new_objects = grows.kept.new_objects;
      sizes = grows.kept.sizes;
    };
    itself = grows.itself;
    links = links;
    records = λ q differ. record-same m p end q (record_of m.records q);
    turns = refl;
    own =
        λ q differ. subst (KeepsOwn m p (unlinked memory number) q (own_at m q))
        (sym (still-at (unlinked memory number).modules own q ∙ ap
        (still_primary (unlinked memory number).modules) (same q differ)))
        (own-still m p end q (unlinked memory number) (own_at m q));
    places = refl;
  }

-- ---- the end of a process

-- where the process has other records of its own
module _ (m : Processes) (p status : ℕ) (records : List (Option Record)) (same : (q : ℕ) → q ≢ p → record_of records q ≡ record_of m.records q) (places : length records ≡ length m.records) where
  exit-left : (q : ℕ) → q ≢ p → RecordLeft m p Ended q (record_of m.records q) (record_of (after_exit records p status) q)
  exit-left q differ =
      subst (RecordLeft m p Ended q (record_of m.records q))
      (sym (exit-other records p status q differ ∙ ap (orphaned p) (same q differ) ∙ sym
      (exit-other m.records p status q differ))) (exit-record m p status q differ)

  ended-by : (memory : MemoryState) (own : List Own) → Kept m.memory (IsParameter m p) p p (cleared memory p)
      → KeepsToItself m.memory p (cleared memory p) → ((q : ℕ) → q ≢ p → KeepsOwn m p (cleared memory p) q
      (own_at m q) (slice_index_or own q no_own)) → ChangesLinks m p Ended (cleared memory p)
      → Left m p Ended (without_process (record m { memory = memory; records = records; own = own }) p status)
  ended-by memory own kept itself own_is links = left-by m p Ended (without_process (record m { memory = memory; records = records; own = own }) p status) (record {
    memory = kept;
    itself = itself;
    links = links;
    records = exit-left;
    turns = turns-without m p m.order;
    own = λ q differ. subst (KeepsOwn m p (cleared memory p) q (own_at m q)) (sym (get_or-set_other own p q no_own no_own differ)) (own_is q differ);
    places = simp (length-set, length-map) places;
  })

  pub ended-from : Left m p Ended (ended (with_records m records) p status)
  ended-from = by_primary (own_at m p).primary refl
    where
      kept : Kept m.memory (IsParameter m p) p p (cleared m.memory p)
      kept = kept-map m.memory p p no_slots

      -- its primary module has a link less
      loses : (memory : MemoryState) (primary : Option ModId) → (own_at m p).primary ≡ primary
          → memory.modules ≡ without_link m.memory.modules (option_map (λ (id : ModId). id.0) primary)
          → LosesPrimary m p Ended memory
      loses memory primary at less = record {
        ends = refl;
        less =
            less ∙ ap (λ (primary : Option ModId). without_link m.memory.modules (option_map (λ (id : ModId). id.0) primary)) (sym at);
      }

      by_primary : (primary : Option ModId) → (own_at m p).primary ≡ primary
          → Left m p Ended (without_process
          (option_map_or (λ (id : ModId). without_module_link (with_records m records) id.0) primary
          (with_records m records)) p status)
      by_primary None at = ended-by m.memory m.own kept (itself-cleared m.memory p) (λ q differ. own-same m p Ended q
          (cleared m.memory p) (own_at m q)) (inr (inr (inr (inr (loses (cleared m.memory p) None at refl)))))
      by_primary (Some id) at =
          ended-by (unlinked m.memory id.0) (map (still_primary (unlinked m.memory id.0).modules) m.own)
          (record {
            objects = kept.objects;
            maps = kept.maps;
            modules = keeps-unlinked m.memory.modules
                m.memory.modules id.0 (more-all m.memory.modules);
            new_objects = kept.new_objects;
            sizes = kept.sizes;
          })
          (itself-cleared m.memory p)
          (λ q differ. subst (KeepsOwn m p (cleared (unlinked m.memory id.0) p) q (own_at m q))
          (sym (still-at (unlinked m.memory id.0).modules m.own q))
          (own-still m p Ended q (cleared (unlinked m.memory id.0) p) (own_at m q)))
          (inr (inr (inr (inr (loses (cleared (unlinked m.memory id.0) p) (Some id) at refl)))))

pub ended-left : (m : Processes) (p status : ℕ) → Left m p Ended (ended m p status)
ended-left m p status = ended-from m p status m.records (λ q differ. refl) refl

-- ---- attempts

-- what an attempt that comes to this leaves
abbrev pub AttemptLeft : Processes → ℕ → CallResult → Type 0
AttemptLeft m p result = Left m p (call_event_end result) (after_attempt m p result)

module _ (m : Processes) (p : ℕ) where
  pub left-done : (t : Processes) → Changed m p Ran t → AttemptLeft m p (done t)
  left-done t changed = left-by m p Ran (goes_on t p (done_regs (regs_at t p))) (changed-goes_on m p Ran t (done_regs (regs_at t p)) changed)

  pub left-refused : (number : ℕ) → AttemptLeft m p (refused number)
  left-refused number = left-by m p Ran (goes_on m p (refused_regs (regs_at m p) number)) (changed-goes_on m p Ran m (refused_regs (regs_at m p) number) (changed-same m p Ran))

  pub left-waits : (t : Processes) → Changed m p Waits t → AttemptLeft m p (waits t)
  left-waits t changed = left-by m p Waits _ (changed-waiting m p Waits t changed)

  pub of-needs : {A : Type 0} (some : Option A) (number : ℕ) (next : A → CallResult) → ((a : A) → some ≡ Some a → AttemptLeft m p (next a)) → AttemptLeft m p (needs some number next)
  of-needs None number next left = left-refused number
  of-needs (Some a) number next left = left a refl

  pub of-refuses : (test : Bool) (number : ℕ) (next : CallResult) → (test ≡ false → AttemptLeft m p next) → AttemptLeft m p (refuses test number next)
  of-refuses true number next left = left-refused number
  of-refuses false number next left = left refl

  pub of-changes : (change : Result MemoryState MemoryFault) (next : MemoryState → CallResult)
      → ((memory : MemoryState) → change ≡ Ok memory → AttemptLeft m p (next memory))
      → AttemptLeft m p (changes change next)
  of-changes (Ok memory) next left = left memory refl
  of-changes (Err fault) next left = left-refused _

  pub of-name : (name : Result (List ℕ) NameFault) (number : ℕ) (next : List ℕ → CallResult) → ((name : List ℕ) → AttemptLeft m p (next name)) → AttemptLeft m p (reads_name name number next)
  of-name (Ok name) number next left = left name
  of-name (Err Unreadable) number next left = left-refused _
  of-name (Err NoName) number next left = left-refused number

  -- registers alone
  pub regs-changed : (end : EventEnd) (memory : MemoryState) (regs : Regs) → Grows m.memory (IsParameter m p) p memory
      → memory.modules ≡ m.memory.modules → Changed m p end (with_regs_of (with_memory m memory) p regs)
  regs-changed end memory regs grows still =
      changed-self m p end memory (with_regs m.records p regs) m.own grows.kept grows.itself (inl still) (λ q differ. record-other m.records p _ q differ) (λ q differ. refl) (simp length-set)

  -- registers, and what the process has
  pub own-changed : (end : EventEnd) (memory : MemoryState) (regs : Regs) (own : Own)
      → Grows m.memory (IsParameter m p) p memory → ChangesLinks m p end memory
      → Changed m p end (with_regs_of (with_own (with_memory m memory) p own) p regs)
  own-changed end memory regs own grows links =
      changed-self m p end memory (with_regs m.records p regs) (slice_set m.own p own) grows.kept grows.itself links
      (λ q differ. record-other m.records p _ q differ) (λ q differ. own-other m p own q differ) (simp length-set)

  pub same : Grows m.memory (IsParameter m p) p m.memory
  same = grows-same m.memory p

  -- its own record alone
  pub record-changed : (r : Record) → Changed m p Ran (with_records m (with_record m.records p r))
  record-changed r =
      changed-self m p Ran m.memory (with_record m.records p r) m.own same.kept same.itself (inl refl) (λ q differ. record-other m.records p _ q differ) (λ q differ. refl) (simp length-set)

  -- ---- F$Link, F$UnLink, F$UnLoad

  entered-is : (place : Option ℕ) (found : Entered) → option_and_then (entered_at m.memory.modules) place ≡ Some found → module_entry_at m.memory.modules found.number ≡ Some found.entry
  entered-is None found is = cc
  entered-is (Some number) found is = by_entry (module_entry_at m.memory.modules number) refl is
    where
      by_entry : (entry : Option ModuleEntry) → module_entry_at m.memory.modules number ≡ entry
          → option_map (λ (entry : ModuleEntry). let r : Entered = record { number = number; entry = entry } in r)
          entry ≡ Some found → module_entry_at m.memory.modules found.number ≡ Some found.entry
      by_entry None at is = cc
      by_entry (Some entry) at is = subst (λ (found : Entered). module_entry_at m.memory.modules found.number ≡ Some found.entry) (same_Some _ found is) at

  abbrev link-last : ℕ → Entered → Mapped → CallResult
  link-last count found mapped =
      refuses (nat_le MOST_LINKS (links_at (own_at m p) mapped.slot)) E_MEMFUL (done (after_link m p found mapped count))

  abbrev link-mapped : ℕ → Entered → CallResult
  link-mapped count found = needs (mapped_group m.memory p found.entry.group) E_MEMFUL (link-last count found)

  abbrev link-found : ℕ → Entered → CallResult
  link-found count found = refuses (has_most_links found.entry) E_MEMFUL (link-mapped count found)

  link-done : AttemptsCall m p Call.Link → (count : ℕ) (found : Entered) (mapped : Mapped)
      → module_entry_at m.memory.modules found.number ≡ Some found.entry → mapped_group m.memory p found.entry.group ≡
      Some mapped → AttemptLeft m p (done (after_link m p found mapped count))
  link-done did count found mapped entered is =
      let grows : Grows m.memory (IsParameter m p) p mapped.memory = mapped-grows m.memory p found.number found.entry mapped entered is in
      let more : HaveMore m.memory.modules (linked mapped.memory found.number).modules = subst
      (λ entries. HaveMore entries (linked mapped.memory found.number).modules)
      (mapped-modules m.memory p found.entry.group mapped is) (more-linked mapped.memory found.number) in
      let gains : GainsLink m p (linked mapped.memory found.number) = record {
        call = inl did;
        number = found.number;
        more = linked-modules m.memory mapped.memory found.number (mapped-modules m.memory p found.entry.group
            mapped is);
      } in
      left-done (after_link m p found mapped count)
      (own-changed Ran (linked mapped.memory found.number) _ _
      (record {
        kept = record {
          objects = grows.kept.objects;
          maps = grows.kept.maps;
          modules = keeps-more
              m.memory.modules (linked mapped.memory found.number).modules more;
          new_objects = grows.kept.new_objects;
          sizes = grows.kept.sizes;
        };
        itself = grows.itself;
      }) (inr (inl gains)))

  pub link-left : AttemptsCall m p Call.Link → AttemptLeft m p (f_link m p)
  link-left did =
      of-name (name_at (cells_at m p) (regs_at m p).x) E_BNAM (λ name. needs (found_entry m.memory.modules name (regs_at m p).a) E_MNF (link-found (length name)))
      (λ name. of-needs (found_entry m.memory.modules name (regs_at m p).a) E_MNF (link-found (length name))
      (λ found found_is. of-refuses (has_most_links found.entry) E_MEMFUL (link-mapped (length name) found)
      (λ may. of-needs (mapped_group m.memory p found.entry.group) E_MEMFUL (link-last (length name) found)
      (λ mapped is. of-refuses (nat_le MOST_LINKS (links_at (own_at m p) mapped.slot)) E_MEMFUL (done (after_link m p found mapped (length name)))
      (λ few. link-done did (length name) found mapped (entered-is (found_module m.memory.modules name (regs_at m p).a) found found_is) is)))))

  unlink-done : AttemptsCall m p Call.UnLink → (found : Entered) → AttemptLeft m p (done (after_unlink m p found))
  unlink-done did found = left-done (after_unlink m p found) (by_slot (group_slot (map_at m.memory p) found.entry.group))
    where
      left-links : (left : ℕ) (none : Bool) → Grows m.memory (IsParameter m p) p (if none then group_unmapped m.memory p found.entry.group else m.memory)
      left-links left true = record { kept = kept-map m.memory p p _; itself = itself-unmapped m.memory p found.entry.group }
      left-links left false = same

      left-more : (none : Bool) → HaveMore m.memory.modules (if none then group_unmapped m.memory p found.entry.group else m.memory).modules
      left-more true = more-all m.memory.modules
      left-more false = more-all m.memory.modules

      left-modules : (none : Bool) → (if none then group_unmapped m.memory p found.entry.group else m.memory).modules ≡ m.memory.modules
      left-modules true = refl
      left-modules false = refl

      loses : (memory : MemoryState) → memory.modules ≡ m.memory.modules → LosesLink m p (unlinked memory found.number)
      loses memory still =
          record { call = inl did; number = found.number; less = ap (λ (modules : List (Option ModuleEntry)). without_link modules (Some found.number)) still }

      by_slot : (slot : Option ℕ) → Changed m p Ran (without_module_link (option_map_or (without_group_link m p found.entry.group) slot m) found.number)
      by_slot None = changed-unlinked m p Ran m.memory m.own found.number (more-all m.memory.modules) same (λ q differ. refl) (inr (inr (inl (loses m.memory refl))))
      by_slot (Some slot) =
          changed-unlinked m p Ran (with_links_left m.memory p found.entry.group (links_at (own_at m p) slot - 1)) (slice_set m.own p _) found.number
          (left-more (links_at (own_at m p) slot - 1 == 0))
          (left-links (links_at (own_at m p) slot - 1) (links_at (own_at m p) slot - 1 == 0)) (λ q differ. own-other m p _ q differ)
          (inr (inr (inl (loses (with_links_left m.memory p found.entry.group (links_at (own_at m p) slot - 1)) (left-modules (links_at (own_at m p) slot - 1 == 0))))))

  pub unlink-left : AttemptsCall m p Call.UnLink → AttemptLeft m p (f_unlink m p)
  unlink-left did =
      of-needs (module_at m.memory.modules (map_at m.memory p) (regs_at m p).u) E_MNF (λ found. done (after_unlink m p found)) (λ found is. unlink-done did found)

  pub unload-left : AttemptsCall m p Call.UnLoad → AttemptLeft m p (f_unload m p)
  unload-left did =
      of-name (name_at (cells_at m p) (regs_at m p).x) E_BNAM (λ name. needs (found_entry m.memory.modules name (regs_at m p).a) E_MNF (λ found. done (without_module_link m found.number)))
      (λ name. of-needs (found_entry m.memory.modules name (regs_at m p).a) E_MNF (λ found. done (without_module_link m found.number))
      (λ found is. left-done (without_module_link m found.number) (changed-unlinked m p Ran m.memory m.own
      found.number (more-all m.memory.modules) same (λ q differ. refl)
      (inr (inr (inl (record { call = inr did; number = found.number; less = refl })))))))

  -- ---- F$Mem

  resized-grows : (count : ℕ) (memory : MemoryState) → resized m.memory p count ≡ Ok memory → Grows m.memory (IsParameter m p) p memory
  resized-grows count memory is = by_test (nat_lt (map_at m.memory p).low count) is
    where
      by_test : (test : Bool) → (if test then grown m.memory p (count - (map_at m.memory p).low) else Ok (cut m.memory p count)) ≡ Ok memory → Grows m.memory (IsParameter m p) p memory
      by_test true is = grown-kept m.memory p (count - (map_at m.memory p).low) memory is
      by_test false is =
          let now : cut m.memory p count ≡ memory = cc in
          subst (Grows m.memory (IsParameter m p) p) now (record { kept = kept-map m.memory p p _; itself = itself-cut m.memory p count })

  resized-modules : (count : ℕ) (memory : MemoryState) → resized m.memory p count ≡ Ok memory → memory.modules ≡ m.memory.modules
  resized-modules count memory is = by_test (nat_lt (map_at m.memory p).low count) is
    where
      by_test : (test : Bool) → (if test then grown m.memory p (count - (map_at m.memory p).low) else Ok (cut m.memory p count)) ≡ Ok memory → memory.modules ≡ m.memory.modules
      by_test true is = grown-modules m.memory p (count - (map_at m.memory p).low) memory is
      by_test false is =
          let now : cut m.memory p count ≡ memory = cc in ap (λ (memory : MemoryState). memory.modules) (sym now)

  pages-left : (pages : ℕ) → AttemptLeft m p (sets_pages m p pages)
  pages-left pages =
      of-refuses (nat_lt most_pages pages) E_MEMFUL (changes (resized m.memory p (blocks_of_pages pages)) (λ memory. done (with_size m p (256 * pages) memory)))
      (λ few. of-changes (resized m.memory p (blocks_of_pages pages)) (λ memory. done (with_size m p (256 * pages) memory))
      (λ memory is. left-done (with_size m p (256 * pages) memory) (own-changed Ran memory _ _
      (resized-grows (blocks_of_pages pages) memory is)
      (inl (resized-modules (blocks_of_pages pages) memory is)))))

  pub mem-left : AttemptLeft m p (f_mem m p)
  mem-left = by_test (d_of (regs_at m p) == 0)
    where
      by_test : (test : Bool) → AttemptLeft m p (if test then done (with_regs_of m p (size_regs (regs_at m p) (own_at m p).size)) else sets_pages m p (page_count (d_of (regs_at m p))))
      by_test true = left-done _ (regs-changed Ran m.memory (size_regs (regs_at m p) (own_at m p).size) same refl)
      by_test false = pages-left (page_count (d_of (regs_at m p)))

  -- ---- F$CRC and names

  pub crc-left : AttemptLeft m p (f_crc m p)
  crc-left =
      of-needs (user_bytes (cells_at m p) (regs_at m p).x (regs_at m p).y) E_BPADDR
      (λ bytes. needs (user_bytes (cells_at m p) (regs_at m p).u 3) E_BPADDR
      (λ accumulator. done (with_memory m (stored m.memory p (regs_at m p).u (crc_continued accumulator bytes)))))
      (λ bytes read. of-needs (user_bytes (cells_at m p) (regs_at m p).u 3) E_BPADDR (λ accumulator. done (with_memory m (stored m.memory p (regs_at m p).u (crc_continued accumulator bytes))))
      (λ accumulator read_too. left-done (with_memory m (stored m.memory p (regs_at m p).u (crc_continued accumulator bytes)))
      (changed-self m p Ran (stored m.memory p (regs_at m p).u (crc_continued accumulator bytes)) m.records m.own
      (kept-written m.memory p (writes_from (regs_at m p).u (crc_continued accumulator bytes)))
      (itself-written m.memory p (writes_from (regs_at m p).u (crc_continued accumulator bytes))) (inl refl)
      (λ q differ. refl) (λ q differ. refl) refl)))

  pub prsnam-left : AttemptLeft m p (f_prsnam m p)
  prsnam-left = at-first (past_slash (cells_at m p) (regs_at m p).x)
    where
      at-first : (first : ℕ) → AttemptLeft m p (parses_name m p first)
      at-first first =
          of-name (name_at (cells_at m p) first) E_BNAM
          (λ name. needs (user_cell (cells_at m p) (first + length name)) E_BPADDR
          (λ next. done (with_regs_of m p (name_regs (regs_at m p) first (length name) next))))
          (λ name. of-needs (user_cell (cells_at m p) (first + length name)) E_BPADDR (λ next. done (with_regs_of m p (name_regs (regs_at m p) first (length name) next)))
          (λ next is. left-done _ (regs-changed Ran m.memory (name_regs (regs_at m p) first (length name) next) same refl)))

  pub cmpnam-left : AttemptLeft m p (f_cmpnam m p)
  cmpnam-left =
      of-needs (same_names (cells_at m p) (regs_at m p).x (regs_at m p).y (regs_at m p).b) E_BPADDR (λ same. refuses (not same) E_BNAM (done m))
      (λ agree is. of-refuses (not agree) E_BNAM (done m) (λ may. left-done m (changed-same m p Ran)))

  -- ---- F$Send, F$SPrior

  sends-on : AttemptsCall m p Call.Send → is_reached m.records (user_at m p) (regs_at m p).a ≡ true → (q : ℕ) → q ≡ (regs_at m p).a → CallsOn m p Call.Send q
  sends-on call reached q is =
      subst (CallsOn m p Call.Send) (sym is) (record { attempted = call; named = refl; reached = reached })

  -- the signal is no wake, and none is pending
  none-pending : (wake : Bool) (pending : Option ℕ) → wake ≡ false → (not wake && is_some pending) ≡ false → pending ≡ None
  none-pending true pending other free = absurd (false≢true (sym other))
  none-pending false None other free = refl
  none-pending false (Some signal) other free = absurd (false≢true (sym free))

  gets-signal : AttemptsCall m p Call.Send → is_reached m.records (user_at m p) (regs_at m p).a ≡ true
      → (not ((regs_at m p).b == wake_signal) && is_some (record_at m.records (regs_at m p).a).signal) ≡ false
      → ((regs_at m p).b == wake_signal) ≡ false → GetsSignal m p (regs_at m p).a
      (record_at m.records (regs_at m p).a).signal (Some (regs_at m p).b)
  gets-signal call reached free other = record {
    sent = sends-on call reached (regs_at m p).a refl;
    not_wake = λ same. false≢true (sym other ∙ ap (λ b. b == wake_signal) same);
    none_pending =
        none-pending ((regs_at m p).b == wake_signal) (record_at m.records (regs_at m p).a).signal other free;
    pending = refl;
  }

  gets-wake : AttemptsCall m p Call.Send → is_reached m.records (user_at m p) (regs_at m p).a ≡ true
      → ((regs_at m p).b == wake_signal) ≡ true → is_asleep m (regs_at m p).a ≡ true → (q : ℕ) → q ≡ (regs_at m p).a
      → GetsWake m p q true
  gets-wake call reached wake sleeps q at = record {
    sent = sends-on call reached q at;
    wake = eqb-true _ _ wake;
    asleep = ap (is_asleep m) at ∙ sleeps;
    woken = refl;
  }

  signal-changed : AttemptsCall m p Call.Send → is_reached m.records (user_at m p) (regs_at m p).a ≡ true
      → (not ((regs_at m p).b == wake_signal) && is_some (record_at m.records (regs_at m p).a).signal) ≡ false
      → Changed m p Ran (after_signal m (regs_at m p).a (regs_at m p).b)
  signal-changed call reached free = by_wake ((regs_at m p).b == wake_signal) (is_asleep m (regs_at m p).a) refl refl
    where
      by_wake : (wake asleep : Bool) → ((regs_at m p).b == wake_signal) ≡ wake → is_asleep m (regs_at m p).a ≡ asleep
          → Changed m p Ran (if wake then (if asleep then with_own m (regs_at m p).a
          (record (own_at m (regs_at m p).a) { woken = true }) else m) else with_records m
          (if wake then m.records else with_signal m.records (regs_at m p).a (Some (regs_at m p).b)))
      by_wake true false is sleeps = changed-same m p Ran
      by_wake true true is sleeps = record {
        memory = same.kept;
        itself = same.itself;
        links = inl refl;
        records = λ q differ. record-same m p Ran q (record_of m.records q);
        turns = refl;
        own =
            λ q differ. woken-own m p (regs_at m p).a m.memory (gets-wake call reached is sleeps) q;
        places = refl;
      }
      by_wake false asleep is sleeps = record {
        memory = same.kept;
        itself = same.itself;
        links = inl refl;
        records =
            λ q differ. named-record m p Ran (regs_at m p).a (user_at m p) (record (record_at m.records (regs_at m p).a) { signal = Some (regs_at m p).b }) reached
            (record { parent = inl refl; priority = inl refl; signal = inr (gets-signal call reached free is); others = refl }) q;
        turns = refl;
        own = λ q differ. own-same m p Ran q m.memory (own_at m q);
        places = simp length-set;
      }

  pub send-left : AttemptsCall m p Call.Send → AttemptLeft m p (f_send m p)
  send-left call = by_reached (is_reached m.records (user_at m p) (regs_at m p).a) (not ((regs_at m p).b == wake_signal) && is_some (record_at m.records (regs_at m p).a).signal) refl refl
    where
      answer : Option SendFault → CallResult
      answer None = done (after_signal m (regs_at m p).a (regs_at m p).b)
      answer (Some NoProcess) = refused E_IPRCID
      answer (Some Pending) = refused E_USIGP

      by_reached : (reached pending : Bool) → is_reached m.records (user_at m p) (regs_at m p).a ≡ reached
          → (not ((regs_at m p).b == wake_signal) && is_some (record_at m.records (regs_at m p).a).signal) ≡ pending
          → AttemptLeft m p (answer (if not reached then Some NoProcess else (if pending then Some Pending else
          None)))
      by_reached false pending is free = left-refused E_IPRCID
      by_reached true true is free = left-refused E_USIGP
      by_reached true false is free = left-done (after_signal m (regs_at m p).a (regs_at m p).b) (signal-changed call is free)

  pub sprior-left : AttemptsCall m p Call.SPrior → AttemptLeft m p (f_sprior m p)
  sprior-left call =
      of-refuses (not (is_reached m.records (user_at m p) (regs_at m p).a)) E_IPRCID (done (with_records m (with_priority m.records (regs_at m p).a (regs_at m p).b)))
      (λ reached. left-done (with_records m (with_priority m.records (regs_at m p).a (regs_at m p).b)) (given (not-false (is_reached m.records (user_at m p) (regs_at m p).a) reached)))
    where
      not-false : (test : Bool) → not test ≡ false → test ≡ true
      not-false true is = refl
      not-false false is = absurd (false≢true (sym is))

      given : is_reached m.records (user_at m p) (regs_at m p).a ≡ true → Changed m p Ran (with_records m (with_priority m.records (regs_at m p).a (regs_at m p).b))
      given reached = record {
        memory = same.kept;
        itself = same.itself;
        links = inl refl;
        records =
            λ q differ. named-record m p Ran (regs_at m p).a (user_at m p) (record (record_at m.records (regs_at m p).a) { priority = (regs_at m p).b }) reached
            (record { parent = inl refl; priority = inr (record { attempted = call; named = refl; reached = reached }, refl); signal = inl refl; others = refl }) q;
        turns = refl;
        own = λ q differ. own-same m p Ran q m.memory (own_at m q);
        places = simp length-set;
      }

  -- ---- F$Sleep, F$Wait

  pub sleep-left : AttemptLeft m p (f_sleep m p)
  sleep-left = by_tests (is_waiting (record_at m.records p).life) (may_wake m.tick (own_at m p))
    where
      by_tests : (waiting wake : Bool)
          → AttemptLeft m p (if waiting then
          (if wake then done (with_regs_of m p (record (regs_at m p) { x = ticks_left m.tick (own_at m p) })) else
          waits m) else falls_asleep m p)
      by_tests true true = left-done _ (regs-changed Ran m.memory _ same refl)
      by_tests true false = left-waits m (changed-same m p Waits)
      by_tests false wake =
          left-waits _ (changed-self m p Waits m.memory m.records _ same.kept same.itself (inl refl) (λ q differ. refl) (λ q differ. own-other m p _ q differ) refl)

  reap-changed : AttemptsCall m p Call.Wait → Changed m p Ran (with_records m (after_reap m.records p))
  reap-changed call = record {
    memory = same.kept;
    itself = same.itself;
    links = inl refl;
    records = λ q differ. reaped-record m p Ran call q;
    turns = refl;
    own = λ q differ. own-same m p Ran q m.memory (own_at m q);
    places = by_child (ended_child m.records p);
  }
    where
      by_child : (child : Option ℕ) → length (option_map_or (without_record m.records) child m.records) ≡ length m.records
      by_child None = refl
      by_child (Some k) = simp length-set

  pub wait-left : AttemptsCall m p Call.Wait → AttemptLeft m p (f_wait m p)
  wait-left call = by_reap (reaped m.records p)
    where
      answer : Result (Pid × ℕ) Reap → CallResult
      answer (Ok child) =
          done (with_regs_of (with_records m (after_reap m.records p)) p (reaped_regs (regs_at m p) child))
      answer (Err NoChild) = refused E_NOCHLD
      answer (Err NotYet) = waits m

      by_reap : (reap : Result (Pid × ℕ) Reap) → AttemptLeft m p (answer reap)
      by_reap (Ok child) =
          left-done _ (changed-then m p Ran (with_records m (after_reap m.records p)) _ m.own (reap-changed call)
          (λ q differ. record-other (after_reap m.records p) p _ q differ) (λ q differ. refl) (simp length-set))
      by_reap (Err NoChild) = left-refused E_NOCHLD
      by_reap (Err NotYet) = left-waits m (changed-same m p Waits)
