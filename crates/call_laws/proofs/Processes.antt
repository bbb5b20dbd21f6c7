-- Why a call on processes and modules is refused.
use Rattle.std.proofs.Common.{◌≡◌, ℕ, zero, suc, ◌+◌, ◌==◌, ◌||◌, ◌&&◌, not, Bool, true, false, Option, Some, None, Result, Ok, Err, List, [], ◌∷◌, length, refl, sym, ap, ◌∙◌, subst, inl, inr}
use Rattle.std.specs.Prelude.{IsSome, is_some, nat_le, nat_lt, option_and_then, option_map, if◌then◌else◌}
use Rattle.std.specs.Option.{option_map_or}
use Rattle.std.proofs.lemmas.Bool.{eqb-false, false≢true, leb-true, ltb-true}
use Rattle.std.proofs.lemmas.Option.{none-some, same_Some}
use Rattle.os9_base.specs.declared.errors.TheConstants.{E_BNAM, E_BPADDR, E_IPRCID, E_MEMFUL, E_MNF, E_NEMOD, E_NOCHLD, E_NORAM, E_PRCFUL, E_USIGP}
use Rattle.os9_base.specs.declared.registers.Pid.{Pid}
use Rattle.proc_model.specs.Memory.{MemoryState, free_blocks, map_at, wants_blocks}
use Rattle.proc_model.specs.MemoryChanges.{cut, grown, has_most_links, started, started_with, with_first_slots}
use Rattle.proc_model.specs.ModuleList.{ModuleEntry, found_module, module_entry_at}
use Rattle.proc_model.specs.Slots.{is_free_run}
use Rattle.proc_model.specs.declared.memory.MemoryFault.TheVariants.{MemFull, NoRam}
use Rattle.proc_model.specs.declared.memory.TheConstants.{MOST_LINKS}
use Rattle.proc_model.specs.Ends.{after_reap, child_and_status, ended_child, has_child}
use Rattle.proc_model.specs.Records.{free_process, is_waiting, record_at}
use Rattle.proc_model.specs.Signals.{is_reached, wake_signal}
use Rattle.proc_model.specs.declared.record.Reap.{Reap}
use Rattle.proc_model.specs.declared.record.Reap.TheVariants.{NoChild, NotYet}
use Rattle.proc_model.specs.declared.record.SendFault.{SendFault}
use Rattle.proc_model.specs.declared.record.SendFault.TheVariants.{NoProcess, Pending}
use Rattle.os9_base.specs.UserNames.{name_at, user_cell}
use Rattle.os9_base.specs.declared.name_fault.NameFault.{NameFault}
use Rattle.os9_base.specs.declared.name_fault.NameFault.TheVariants.{NoName, Unreadable}
use Rattle.proc_model.specs.Attempts.{attempted}
use Rattle.proc_model.specs.CallResult.{CallResult, changes, done, ends, needs, reads_name, refused, refuses, waits}
use Rattle.proc_model.specs.Chain.{begun_anew, with_program}
use Rattle.proc_model.specs.CmpNam.{same_names}
use Rattle.proc_model.specs.Fork.{forked_regs, with_child}
use Rattle.proc_model.specs.Processes.{Processes, cells_at, own_at, regs_at, user_at, with_records, with_regs_of}
use Rattle.proc_model.specs.Link.{links_at, mapped_group}
use Rattle.proc_model.specs.ModuleLinks.{Entered, entered_at, found_entry, module_at, without_primary_link}
use Rattle.proc_model.specs.Mem.{resized}
use Rattle.proc_model.specs.declared.program_name.ProgramName.{ProgramName}
use Rattle.proc_model.specs.declared.program_name.ProgramName.TheVariants.{Unreadable, OneName, PathList}
use Rattle.proc_model.specs.Program.{Program, area_pages, asks_for_program, blocks_of_pages, most_pages, page_count, program_kind, is_unreadable, module_name, name_at_x, reads_program}
use Rattle.proc_model.specs.PrsNam.{past_slash}
use Rattle.proc_model.specs.Send.{after_signal}
use Rattle.proc_model.specs.Sleep.{falls_asleep, may_wake, ticks_left}
use Rattle.proc_model.specs.UserBytes.{byte_before, d_of, user_bytes}
use Rattle.proc_model.specs.Wait.{reaped_regs}
use Rattle.proc_model.specs.declared.proc_call.ProcCall.{ProcCall}
use Rattle.proc_model.specs.declared.proc_call.ProcCall.TheVariants as Call
use Rattle.os9_base.specs.Cells.{Cells}
use Rattle.file_rules.specs.Program.{chains, forks, named_program, parameters_of}
use Rattle.file_laws.specs.LoadCauses.{LinkCause, StartCause, TestCause, blocks_for, many_pages, no_memory, no_parameters, no_place, no_process, no_program, other_type, pages_for}
use Rattle.file_laws.specs.LoadCauses as Load
use Rattle.file_laws.proofs.Caused.{not-is}
use Rattle.call_laws.specs.CallCauses.{FindsModule, ProcCause, bad_address, bad_name, begins, blocks_asked, blocks_more, in_memory, most_links, no_blocks, no_child, no_file, no_module, no_slots, not_linked, not_reached, not_started, not_tested, pending, starts_program}

-- ---- what a refusal comes from, by the parts of a call

same-number : (n m : ℕ) → refused n ≡ refused m → m ≡ n
same-number n m is = cc

not-done : (number : ℕ) (m : Processes) → done m ≡ refused number → ⊥
not-done number m is = cc

not-waits : (number : ℕ) (m : Processes) → waits m ≡ refused number → ⊥
not-waits number m is = cc

not-ends : (number status : ℕ) → ends status ≡ refused number → ⊥
not-ends number status is = cc

module _ (number : ℕ) {P : Type 0} where
  by-refuses : (test : Bool) (error : ℕ) (next : CallResult) → (test ≡ true → number ≡ error → P) → (test ≡ false → next ≡ refused number → P) → refuses test error next ≡ refused number → P
  by-refuses true error next fits rest is = fits refl (same-number error number is)
  by-refuses false error next fits rest is = rest refl is

  by-needs : {A : Type 0} (o : Option A) (error : ℕ) (next : A → CallResult) → (o ≡ None → number ≡ error → P)
      → ((a : A) → o ≡ Some a → next a ≡ refused number → P) → needs o error next ≡ refused number → P
  by-needs None error next none rest is = none refl (same-number error number is)
  by-needs (Some a) error next none rest is = rest a refl is

  by-name : (read : Result (List ℕ) NameFault) (error : ℕ) (next : List ℕ → CallResult)
      → (read ≡ Err Unreadable → number ≡ E_BPADDR → P) → (read ≡ Err NoName → number ≡ error → P)
      → ((name : List ℕ) → read ≡ Ok name → next name ≡ refused number → P) → reads_name read error next ≡ refused
      number → P
  by-name (Ok name) error next gap bad rest is = rest name refl is
  by-name (Err Unreadable) error next gap bad rest is = gap refl (same-number E_BPADDR number is)
  by-name (Err NoName) error next gap bad rest is = bad refl (same-number error number is)

-- ---- modules by their names

abbrev entered_so : ℕ → ModuleEntry → Entered
entered_so number entry = record { number = number; entry = entry }

-- a module that is found by its name is entered
entered-there : (entries : List (Option ModuleEntry)) (number : Option ℕ) (found : Entered)
    → option_and_then (entered_at entries) number ≡ Some found → module_entry_at entries found.number ≡ Some
    found.entry
entered-there entries None found is = absurd (none-some found is)
entered-there entries (Some n) found is = by_entry (module_entry_at entries n) refl is
  where
    by_entry : (entry : Option ModuleEntry) → module_entry_at entries n ≡ entry → option_map (entered_so n) entry ≡ Some found → module_entry_at entries found.number ≡ Some found.entry
    by_entry None there is = absurd (none-some found is)
    by_entry (Some entry) there is =
        subst (λ (found : Entered). module_entry_at entries found.number ≡ Some found.entry) (same_Some (entered_so n entry) found is) there

-- ---- the bytes that a call reads

-- a byte before others that are all there
length-before : (byte : Option ℕ) (rest : Option (List ℕ)) (count : ℕ) → ((bytes : List ℕ) → rest ≡ Some bytes
    → length bytes ≡ count) → (bytes : List ℕ) → byte_before byte rest ≡ Some bytes → length bytes ≡ suc count
length-before None rest count long bytes is = absurd (none-some bytes is)
length-before (Some first) None count long bytes is = absurd (none-some bytes is)
length-before (Some first) (Some rest) count long bytes is =
    sym (ap (length {A = ℕ}) (same_Some (first ∷ rest) bytes is)) ∙ ap suc (long rest refl)

user-length : (cells : Cells) (at count : ℕ) (bytes : List ℕ) → user_bytes cells at count ≡ Some bytes → length bytes ≡ count
user-length cells at zero bytes is = ap (length {A = ℕ}) (sym (same_Some [] bytes is))
user-length cells at (suc count) bytes is =
    length-before (user_cell cells at) (user_bytes cells (at + 1) count) count (user-length cells (at + 1) count) bytes is

module _ (m : Processes) (p number : ℕ) where
  abbrev Why : ProcCall → Type 0
  Why call = ProcCause m p call number

  -- ---- F$Link, F$UnLink and F$UnLoad

  link-caused : attempted Call.Link m p ≡ refused number → Why Call.Link
  link-caused is =
      by-name number (name_at (cells_at m p) (regs_at m p).x) E_BNAM _
      (λ gap number_is. bad_address number_is (ap Some gap))
      (λ bad number_is. bad_name number_is (ap Some bad))
      (λ name read is. by-needs number (found_entry m.memory.modules name (regs_at m p).a) E_MNF _
      (λ none number_is. no_module number_is (finds name read None none))
      (λ found there is. by-refuses number (has_most_links found.entry) E_MEMFUL _
      (λ most number_is. most_links found number_is refl (finds name read (Some found) there) most)
      (λ fewer is. by-needs number (mapped_group m.memory p found.entry.group) E_MEMFUL _
      (λ none number_is. not_linked found refl (finds name read (Some found) there) (Load.no_slots number_is none))
      (λ mapped at is. by-refuses number (nat_le MOST_LINKS (links_at (own_at m p) mapped.slot)) E_MEMFUL _
      (λ most number_is. not_linked found refl (finds name read (Some found) there) (Load.most_links mapped number_is at (leb-true MOST_LINKS (links_at (own_at m p) mapped.slot) most)))
      (λ fewer is. absurd (not-done number _ is)) is) is) is) is) is
    where
      finds : (name : List ℕ) → name_at (cells_at m p) (regs_at m p).x ≡ Ok name → (found : Option Entered)
          → found_entry m.memory.modules name (regs_at m p).a ≡ found → FindsModule Call.Link m p found
      finds name read found is = record { by_name = inl refl; name = name; read = ap Some read; is = is }

  unload-caused : attempted Call.UnLoad m p ≡ refused number → Why Call.UnLoad
  unload-caused is =
      by-name number (name_at (cells_at m p) (regs_at m p).x) E_BNAM _
      (λ gap number_is. bad_address number_is (ap Some gap))
      (λ bad number_is. bad_name number_is (ap Some bad))
      (λ name read is. by-needs number (found_entry m.memory.modules name (regs_at m p).a) E_MNF _
      (λ none number_is. no_module number_is (record { by_name = inr refl; name = name; read = ap Some read; is = none }))
      (λ found there is. absurd (not-done number _ is)) is) is

  unlink-caused : attempted Call.UnLink m p ≡ refused number → Why Call.UnLink
  unlink-caused is =
      by-needs number (module_at m.memory.modules (map_at m.memory p) (regs_at m p).u) E_MNF _
      (λ none number_is. no_module number_is none)
      (λ found there is. absurd (not-done number _ is)) is

  -- ---- F$PrsNam, F$CmpNam and F$CRC

  prsnam-caused : attempted Call.PrsNam m p ≡ refused number → Why Call.PrsNam
  prsnam-caused is =
      by-name number (name_at (cells_at m p) (past_slash (cells_at m p) (regs_at m p).x)) E_BNAM _
      (λ gap number_is. bad_address number_is (inl (ap Some gap)))
      (λ bad number_is. bad_name number_is (ap Some bad))
      (λ name read is. by-needs number (user_cell (cells_at m p) (past_slash (cells_at m p) (regs_at m p).x + length name)) E_BPADDR _
      (λ none number_is. bad_address number_is (inr (record { name = name; read = read; missing = none })))
      (λ next there is. absurd (not-done number _ is)) is) is

  cmpnam-caused : attempted Call.CmpNam m p ≡ refused number → Why Call.CmpNam
  cmpnam-caused is =
      by-needs number (same_names (cells_at m p) (regs_at m p).x (regs_at m p).y (regs_at m p).b) E_BPADDR _
      (λ none number_is. bad_address number_is none)
      (λ same there is. by-refuses number (not same) E_BNAM _
      (λ differ number_is. bad_name number_is (there ∙ ap Some (not-is same differ)))
      (λ agree is. absurd (not-done number _ is)) is) is

  crc-caused : attempted Call.Crc m p ≡ refused number → Why Call.Crc
  crc-caused is =
      by-needs number (user_bytes (cells_at m p) (regs_at m p).x (regs_at m p).y) E_BPADDR _
      (λ none number_is. bad_address number_is (inl none))
      (λ bytes there is. by-needs number (user_bytes (cells_at m p) (regs_at m p).u 3) E_BPADDR _
      (λ none number_is. bad_address number_is (inr none))
      (λ accumulator there is. absurd (not-done number _ is)) is) is

  -- ---- F$Mem

  resized-caused : (free wants : Bool) → is_free_run (map_at m.memory p) (map_at m.memory p).low (blocks_more m p) ≡
      free → wants_blocks m.memory (blocks_more m p) ≡ wants → (grows : MemoryState) (next : MemoryState → Processes)
      → changes (if free then (if wants then Err NoRam else Ok grows) else Err MemFull) (λ memory. done (next memory))
      ≡ refused number → Why Call.Mem
  resized-caused false wants free_is wants_is grows next is =
      no_slots (same-number E_MEMFUL number is) refl (inr free_is)
  resized-caused true true free_is wants_is grows next is =
      no_blocks (same-number E_NORAM number is) refl (ltb-true (free_blocks m.memory) (blocks_more m p) wants_is)
  resized-caused true false free_is wants_is grows next is = absurd (not-done number _ is)

  grown-caused : (more : Bool) (next : MemoryState → Processes) → changes (if more then grown m.memory p (blocks_more m p)
      else Ok (cut m.memory p (blocks_asked m p))) (λ memory. done (next memory)) ≡ refused number → Why Call.Mem
  grown-caused true next is =
      resized-caused (is_free_run (map_at m.memory p) (map_at m.memory p).low (blocks_more m p)) (wants_blocks m.memory (blocks_more m p)) refl refl _ next is
  grown-caused false next is = absurd (not-done number _ is)

  mem-caused : attempted Call.Mem m p ≡ refused number → Why Call.Mem
  mem-caused = by_size (d_of (regs_at m p) == 0) _ _
    where
      by_size : (asks : Bool) (answer : Processes) (next : MemoryState → Processes)
          → (if asks then done answer else refuses (nat_lt most_pages (page_count (d_of (regs_at m p)))) E_MEMFUL
          (changes (resized m.memory p (blocks_asked m p)) (λ memory. done (next memory)))) ≡ refused number
          → Why Call.Mem
      by_size true answer next is = absurd (not-done number answer is)
      by_size false answer next is =
          by-refuses number (nat_lt most_pages (page_count (d_of (regs_at m p)))) E_MEMFUL _
          (λ many number_is. no_slots number_is refl (inl (ltb-true most_pages (page_count (d_of (regs_at m p))) many)))
          (λ few is. grown-caused (nat_lt (map_at m.memory p).low (blocks_asked m p)) next is) is

  -- ---- F$Send, F$SPrior and F$Wait

  send-caused : attempted Call.Send m p ≡ refused number → Why Call.Send
  send-caused =
      by_reach (is_reached m.records (user_at m p) (regs_at m p).a) ((regs_at m p).b == wake_signal) (is_some (record_at m.records (regs_at m p).a).signal) refl refl refl
    where
      answer : Option SendFault → CallResult
      answer None = done (after_signal m (regs_at m p).a (regs_at m p).b)
      answer (Some NoProcess) = refused E_IPRCID
      answer (Some Pending) = refused E_USIGP

      by_reach : (reached wake pends : Bool) → is_reached m.records (user_at m p) (regs_at m p).a ≡ reached
          → ((regs_at m p).b == wake_signal) ≡ wake → is_some (record_at m.records (regs_at m p).a).signal ≡ pends
          → answer (if not reached then Some NoProcess else (if not wake && pends then Some Pending else None)) ≡
          refused number → Why Call.Send
      by_reach false wake pends reached_is wake_is pends_is is =
          not_reached (same-number E_IPRCID number is) (inl refl) reached_is
      by_reach true false true reached_is wake_is pends_is is =
          pending (same-number E_USIGP number is) refl (eqb-false (regs_at m p).b wake_signal wake_is) pends_is
      by_reach true false false reached_is wake_is pends_is is = absurd (not-done number _ is)
      by_reach true true pends reached_is wake_is pends_is is = absurd (not-done number _ is)

  sprior-caused : attempted Call.SPrior m p ≡ refused number → Why Call.SPrior
  sprior-caused is =
      by-refuses number (not (is_reached m.records (user_at m p) (regs_at m p).a)) E_IPRCID _
      (λ out number_is. not_reached number_is (inr refl) (not-is (is_reached m.records (user_at m p) (regs_at m p).a) out))
      (λ reached is. absurd (not-done number _ is)) is

  wait-caused : attempted Call.Wait m p ≡ refused number → Why Call.Wait
  wait-caused = by_child (ended_child m.records p) (has_child m.records p) refl refl
    where
      answer : Result (Pid × ℕ) Reap → CallResult
      answer (Ok child) =
          done (with_regs_of (with_records m (after_reap m.records p)) p (reaped_regs (regs_at m p) child))
      answer (Err NoChild) = refused E_NOCHLD
      answer (Err NotYet) = waits m

      by_child : (ended : Option ℕ) (has : Bool) → ended_child m.records p ≡ ended → has_child m.records p ≡ has
          → answer (option_map_or (λ (child : ℕ). Ok (child_and_status m.records child)) ended
          (if has then Err NotYet else Err NoChild)) ≡ refused number → Why Call.Wait
      by_child None false ended_is has_is is = no_child (same-number E_NOCHLD number is) refl has_is ended_is
      by_child None true ended_is has_is is = absurd (not-waits number m is)
      by_child (Some child) has ended_is has_is is = absurd (not-done number _ is)

  -- ---- F$Sleep is never refused

  sleep-caused : attempted Call.Sleep m p ≡ refused number → Why Call.Sleep
  sleep-caused = by_wait (is_waiting (record_at m.records p).life) (may_wake m.tick (own_at m p))
    where
      by_wait : (waits may : Bool)
          → (if waits then (if may then done
          (with_regs_of m p (record (regs_at m p) { x = ticks_left m.tick (own_at m p) })) else CallResult.waits m)
          else falls_asleep m p) ≡ refused number → Why Call.Sleep
      by_wait true true is = absurd (not-done number _ is)
      by_wait true false is = absurd (not-waits number _ is)
      by_wait false may is = absurd (not-waits number _ is)

  -- ---- F$Fork and F$Chain of a module that is entered

  module _ (call : ProcCall) (starts : starts_program call ≡ true) (found : Entered) (named : named_program m p ≡ Some found) where
    abbrev Starts : Type 0
    Starts = StartCause m p (begins call m p) no_file (in_memory m found) number

    not-started-so : Starts → Why call
    not-started-so cause = not_started found starts named cause

    -- the memory is taken, by the entry of the module
    module _ (q : ℕ) (begins_is : begins call m p ≡ Some q) (next : MemoryState → Processes) where
      abbrev blocks : ℕ
      blocks = blocks_for m p no_file (in_memory m found)

      by-free : (few : Bool) → nat_lt (free_blocks m.memory + (map_at m.memory q).low) blocks ≡ few
          → changes (if few then Err NoRam else Ok (with_first_slots m.memory q found.entry.group blocks))
          (λ memory. done (next memory)) ≡ refused number → Starts
      by-free true few is =
          no_memory q begins_is (same-number E_NORAM number is) (ltb-true (free_blocks m.memory + (map_at m.memory q).low) blocks few)
      by-free false few is = absurd (not-done number _ is)

      by-slots : (most over : Bool) → has_most_links found.entry ≡ most → nat_lt 8 (blocks + length found.entry.group)
          ≡ over → changes (if most || over then Err MemFull else
          (if nat_lt (free_blocks m.memory + (map_at m.memory q).low) blocks then Err NoRam else Ok
          (with_first_slots m.memory q found.entry.group blocks))) (λ memory. done (next memory)) ≡ refused number
          → Starts
      by-slots true over a b is = no_place q begins_is (same-number E_MEMFUL number is) (inl a)
      by-slots false true a b is =
          no_place q begins_is (same-number E_MEMFUL number is) (inr (ltb-true 8 (blocks + length found.entry.group) b))
      by-slots false false a b is = by-free (nat_lt (free_blocks m.memory + (map_at m.memory q).low) blocks) refl is

      change-caused : module_entry_at m.memory.modules found.number ≡ Some found.entry → changes (started m.memory q found.number blocks) (λ memory. done (next memory)) ≡ refused number → Starts
      change-caused there is =
          by-slots (has_most_links found.entry) (nat_lt 8 (blocks + length found.entry.group)) refl refl
          (subst (λ (entry : Option ModuleEntry). changes (option_map_or (started_with m.memory q blocks) entry (Err MemFull)) (λ memory. done (next memory)) ≡ refused number) there is)

      -- the pages are tested, and then the memory is taken
      pages-caused : module_entry_at m.memory.modules found.number ≡ Some found.entry → (pages : ℕ)
          → pages ≡ pages_for m p no_file (in_memory m found) → refuses (nat_lt most_pages pages) E_MEMFUL
          (changes (started m.memory q found.number (blocks_of_pages pages)) (λ memory. done (next memory))) ≡ refused
          number → Starts
      pages-caused there pages pages_is is =
          by-refuses number (nat_lt most_pages (pages_for m p no_file (in_memory m found))) E_MEMFUL _
          (λ many number_is. many_pages number_is (ltb-true most_pages (pages_for m p no_file (in_memory m found)) many))
          (λ few is. change-caused there is)
          (subst (λ (pages : ℕ). refuses (nat_lt most_pages pages) E_MEMFUL
          (changes (started m.memory q found.number (blocks_of_pages pages)) (λ memory. done (next memory))) ≡
          refused number) pages_is is)

    -- the program that is read is that of the module
    abbrev program_with : List ℕ → ℕ → Program
    program_with parameters count = record {
      entered = found;
      pages = area_pages found.entry (regs_at m p).b (length parameters);
      parameters = parameters;
      count = count;
    }

    module _ (next : Program → CallResult) (comes : module_entry_at m.memory.modules found.number ≡ Some found.entry
        → (parameters : List ℕ) (count : ℕ) → length parameters ≡ (regs_at m p).y
        → next (program_with parameters count) ≡ refused number → Starts) where
      by-kind : (name parameters : List ℕ) → length parameters ≡ (regs_at m p).y → found_entry m.memory.modules name
          (regs_at m p).a ≡ Some found → refuses (not (found.entry.info.kind == program_kind)) E_NEMOD
          (next (program_with parameters (length name))) ≡ refused number → Why call
      by-kind name parameters long there is =
          by-refuses number (not (found.entry.info.kind == program_kind)) E_NEMOD _
          (λ other number_is. not-started-so (no_program number_is (eqb-false found.entry.info.kind program_kind (not-is (found.entry.info.kind == program_kind) other))))
          (λ same is. not-started-so (comes (entered-there m.memory.modules (found_module m.memory.modules name (regs_at m p).a) found there) parameters (length name) long is)) is

      -- what is read by the name of the program, and by its parameters
      abbrev after_name : List ℕ → Option (List ℕ) → CallResult
      after_name parameters read =
          needs read E_BNAM
          (λ name. needs (found_entry m.memory.modules name (regs_at m p).a) E_MNF
          (λ found. refuses (not (found.entry.info.kind == program_kind)) E_NEMOD
          (next (record {
            entered = found;
            pages = area_pages found.entry (regs_at m p).b (length parameters);
            parameters = parameters;
            count = length name;
          }))))

      by-read : (parameters : List ℕ) → length parameters ≡ (regs_at m p).y → (read : Option (List ℕ))
          → option_and_then (λ name. found_entry m.memory.modules name (regs_at m p).a) read ≡ Some found
          → after_name parameters read ≡ refused number → Why call
      by-read parameters long None there is = absurd (none-some found there)
      by-read parameters long (Some name) there is =
          by-kind name parameters long there (subst (λ (entered : Option Entered). needs entered E_MNF (λ found. refuses (not (found.entry.info.kind == program_kind)) E_NEMOD (next (record {
            entered = found;
            pages = area_pages found.entry (regs_at m p).b (length parameters);
            parameters = parameters;
            count = length name;
          }))) ≡ refused number) there is)

      by-program : (name : ProgramName) → option_and_then (λ name. found_entry m.memory.modules name (regs_at m p).a)
          (module_name name) ≡ Some found → refuses (is_unreadable name) E_BPADDR (needs (parameters_of m p) E_BPADDR
          (λ parameters. refuses (not (asks_for_program (regs_at m p).a)) E_NEMOD
          (after_name parameters (module_name name)))) ≡ refused number → Why call
      by-program Unreadable there is = absurd (none-some found there)
      by-program PathList there is = absurd (none-some found there)
      by-program (OneName name) there is =
          by-needs number (parameters_of m p) E_BPADDR _
          (λ none number_is. not_tested starts (no_parameters number_is none))
          (λ parameters bytes is. by-refuses number (not (asks_for_program (regs_at m p).a)) E_NEMOD _
          (λ other number_is. not_tested starts (other_type number_is (not-is (asks_for_program (regs_at m p).a) other)))
          (λ asks is. by-read parameters (user-length (cells_at m p) (regs_at m p).u (regs_at m p).y parameters bytes) (Some name) there is) is) is

      reads-caused : reads_program m p next ≡ refused number → Why call
      reads-caused is = by-program (name_at_x m p) named is

  pages-same : (found : Entered) (parameters : List ℕ) → length parameters ≡ (regs_at m p).y → area_pages found.entry (regs_at m p).b (length parameters) ≡ pages_for m p no_file (in_memory m found)
  pages-same found parameters long = ap (area_pages found.entry (regs_at m p).b) long

  module _ (found : Entered) (named : named_program m p ≡ Some found) where
    -- the memory of a process that begins, and what the call leaves with it
    abbrev forked : ℕ → Program → MemoryState → Processes
    forked child program memory =
        with_regs_of (with_child m p child program memory) p (forked_regs (regs_at m p) child program)

    abbrev chained : Program → MemoryState → Processes
    chained program memory =
        without_primary_link (begun_anew (with_program m p program memory) p program) (own_at m p)

    abbrev begun : ℕ → Program → (MemoryState → Processes) → CallResult
    begun q program next =
        refuses (nat_lt most_pages program.pages) E_MEMFUL (changes (started m.memory q program.entered.number (blocks_of_pages program.pages)) (λ memory. done (next memory)))

    fork-caused : attempted Call.Fork m p ≡ refused number → Why Call.Fork
    fork-caused is =
        reads-caused Call.Fork refl found named (forks m p)
        (λ there parameters count long is. by-needs number (free_process m.records) E_PRCFUL
        (λ child. begun child (program_with Call.Fork refl found named parameters count)
        (forked child (program_with Call.Fork refl found named parameters count)))
        (λ none number_is. no_process number_is none)
        (λ child free is. pages-caused Call.Fork refl found named child free
        (forked child (program_with Call.Fork refl found named parameters count)) there
        (area_pages found.entry (regs_at m p).b (length parameters)) (pages-same found parameters long) is) is) is

    chain-caused : attempted Call.Chain m p ≡ refused number → Why Call.Chain
    chain-caused is =
        reads-caused Call.Chain refl found named (chains m p)
        (λ there parameters count long is. pages-caused Call.Chain refl found named p refl
        (chained (program_with Call.Chain refl found named parameters count)) there
        (area_pages found.entry (regs_at m p).b (length parameters)) (pages-same found parameters long) is) is

  -- ---- any of them

  pub proc-caused : (call : ProcCall) → (starts_program call ≡ true → IsSome (named_program m p)) → attempted call m p ≡ refused number → Why call
  proc-caused Call.Link named is = link-caused is
  proc-caused Call.UnLink named is = unlink-caused is
  proc-caused Call.Fork named is = by_named (named_program m p) refl (named refl)
    where
      by_named : (program : Option Entered) → named_program m p ≡ program → IsSome program → Why Call.Fork
      by_named None none some = absurd (false≢true some)
      by_named (Some found) there some = fork-caused found there is
  proc-caused Call.Wait named is = wait-caused is
  proc-caused Call.Chain named is = by_named (named_program m p) refl (named refl)
    where
      by_named : (program : Option Entered) → named_program m p ≡ program → IsSome program → Why Call.Chain
      by_named None none some = absurd (false≢true some)
      by_named (Some found) there some = chain-caused found there is
  proc-caused Call.Exit named is = absurd (not-ends number _ is)
  proc-caused Call.Mem named is = mem-caused is
  proc-caused Call.Send named is = send-caused is
  proc-caused Call.Icpt named is = absurd (not-done number _ is)
  proc-caused Call.Sleep named is = sleep-caused is
  proc-caused Call.Id named is = absurd (not-done number _ is)
  proc-caused Call.SPrior named is = sprior-caused is
  proc-caused Call.PrsNam named is = prsnam-caused is
  proc-caused Call.CmpNam named is = cmpnam-caused is
  proc-caused Call.Crc named is = crc-caused is
  proc-caused Call.SUser named is = absurd (not-done number _ is)
  proc-caused Call.UnLoad named is = unload-caused is
