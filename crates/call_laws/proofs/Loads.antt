-- What a file that is loaded, and a program that is started, leave of the others.
use Rattle.std.proofs.Common.{◌≡◌, ◌≢◌, ℕ, ◌+◌, ◌-◌, ◌*◌, ◌<◌, ◌≤◌, ◌==◌, not, nat_le, nat_lt, Bool, true, false, Option, Some, None, Result, Ok, Err, List, [], length, map, slice_get, refl, sym, ap, ◌∙◌, subst, inl, inr, arith}
use Rattle.std.specs.Prelude.{MatchOption, option_map, slice_index_or, unwrap_or, if◌then◌else◌}
use Rattle.std.specs.Option.{option_map_or}
use Rattle.std.proofs.lemmas.Bool.{cases_eq, cases_lt}
use Rattle.std.proofs.lemmas.List.{get_or-map, get_or-set_same, get_or_past, length-append, length-map, length-set}
use Rattle.std.proofs.lemmas.Option.{none-some, same_Some}
use Rattle.os9_base.specs.declared.errors.TheConstants.{E_BMID, E_BNAM, E_BPADDR, E_MEMFUL, E_MNF, E_NEMOD, E_NORAM, E_PRCFUL}
use Rattle.proc_model.specs.declared.memory.TheConstants.{MOST_LINKS}
use Rattle.proc_model.specs.declared.module.ModId.{ModId}
use Rattle.proc_model.specs.Memory.{MemoryState, map_at, wants_blocks, with_map}
use Rattle.proc_model.specs.MemoryChanges.{linked, started, unlinked}
use Rattle.proc_model.specs.ModuleList.{ModuleEntry}
use Rattle.proc_model.specs.Objects.{file_blocks, file_objects}
use Rattle.proc_model.specs.Slots.{group_slot, highest_free_run, with_group}
use Rattle.proc_model.specs.declared.own.Own.{Own}
use Rattle.proc_model.specs.declared.record.Record.{Record}
use Rattle.proc_model.specs.declared.record.Life.{Life}
use Rattle.proc_model.specs.Records.{IsLiving, after_make, free_process, has_ended, new_record, record_at, record_of, record_passes, with_record, with_regs}
use Rattle.proc_model.specs.CallResult.{CallResult, changes, done, needs, refuses}
use Rattle.proc_model.specs.Chain.{begun_anew, f_chain, with_program}
use Rattle.proc_model.specs.Fork.{f_fork, forked_regs, with_child, with_child_record}
use Rattle.proc_model.specs.Processes.{Processes, cells_at, no_own, own_at, regs_at, with_memory, with_regs_of}
use Rattle.proc_model.specs.Link.{Mapped, after_link, links_at, mapped_group}
use Rattle.proc_model.specs.ModuleLinks.{Entered, found_entry, still_primary, without_module_link, without_primary_link}
use Rattle.proc_model.specs.Program.{Program, area_pages, asks_for_program, blocks_of_pages, most_pages, parameters_at, program_kind, is_unreadable, module_name, name_at_x, reads_program, start_own, start_regs, with_parameters}
use Rattle.proc_model.specs.UserBytes.{user_bytes}
use Rattle.file_rules.specs.Files.{Asker, Files}
use Rattle.file_rules.specs.Load.{GoesOnLoaded, LoadAttempts, Loaded, first_entered, links_first, loaded_by, with_file_entered}
use Rattle.file_rules.specs.Program.{ChainAttempts, ForkAttempts, StartsFile, chains, forks, loaded_program, named_program, parameters_of, starts_first}
use Rattle.file_rules.specs.ProgramFile.{ProgramFile}
use Rattle.call_laws.specs.Objects.{KeepsSizes}
use Rattle.call_laws.proofs.Lists.{slice_get-left}
use Rattle.call_laws.proofs.MemoryKept.{Begun, map-other, started-kept}
use Rattle.call_laws.proofs.OthersKept.{Free, free-is, living-record, living-within, own-other, record-other, record-put}
use Rattle.file_laws.proofs.Lengths.{user-length}
use Rattle.call_laws.proofs.Aside.{Aside, ComesSo}
use Rattle.call_laws.proofs.Over.{IsOver, Over, aside-self, of-changes, of-needs, of-refuses, over-by}

-- ---- a file in memory

-- the memory has a file, and these entries of modules
pub record Enters (m : MemoryState) (file : List ℕ) (loaded : Loaded) : Type 0 where
  pub entries : List (Option ModuleEntry)
  pub is : loaded.memory ≡ with_file_entered m file entries

memory_in : MemoryState → Result Loaded ℕ → MemoryState
memory_in m (Ok loaded) = loaded.memory
memory_in m (Err number) = m

loaded-enters : (m : MemoryState) (file : List ℕ) (entries : Result (List (Option ModuleEntry)) (ℕ × ℕ)) (loaded : Loaded) → Ok loaded ≡ loaded_by m file entries → Enters m file loaded
unfolding memory_in
loaded-enters m file (Err refusal) loaded is = cc
loaded-enters m file (Ok entries) loaded is = by_tests (first_entered m entries) (wants_blocks m (file_blocks file)) is
  where
    by_tests : (first : Option Entered) (wants : Bool) → Ok loaded ≡ option_map_or (λ (first : Entered). if wants then
        Err E_NORAM else Ok (let r : Loaded = record { first = first; memory = with_file_entered m file entries } in
        r)) first (Err E_BMID) → Enters m file loaded
    by_tests None wants is = cc
    by_tests (Some first) true is = cc
    by_tests (Some first) false is = record { entries = entries; is = ap (memory_in m) is }

module _ (m : MemoryState) (file : List ℕ) (loaded : Loaded) (enters : Enters m file loaded) where
  loaded-sizes : KeepsSizes m loaded.memory
  loaded-sizes =
      subst (KeepsSizes m) (sym enters.is) (λ object there. ap (option_map length) (slice_get-left m.objects (file_objects file) object there))

  loaded-long : length m.objects ≤ length loaded.memory.objects
  loaded-long =
      let long : length loaded.memory.objects ≡ length m.objects + length (file_objects file) = ap (λ (n : MemoryState). length n.objects) enters.is ∙ length-append m.objects (file_objects file) in
      omega (arith, long)

  loaded-maps : (q : ℕ) → map_at loaded.memory q ≡ map_at m q
  loaded-maps q = ap (λ (n : MemoryState). map_at n q) enters.is

sizes-then : (a b c : MemoryState) → length a.objects ≤ length b.objects → KeepsSizes a b → KeepsSizes b c → KeepsSizes a c
sizes-then a b c long first next object there = next object (omega (arith, long, there)) ∙ first object there

-- what leaves the others in the memory that has the file leaves them in the one before
module _ (m t : Processes) (p : ℕ) (n : MemoryState) (maps : (q : ℕ) → map_at n q ≡ map_at m.memory q) where
  so-before : (q : ℕ) (old new : Option Record) → ComesSo (with_memory m n) t q old new → ComesSo m t q old new
  so-before q (Some old) (Some new) it =
      record { life = it.life; regs = it.regs; map = it.map ∙ maps q; call = it.call }
  so-before q (Some old) None it = it
  so-before q None (Some new) it = it
  so-before q None None it = it

  aside-before : length m.memory.objects ≤ length n.objects → KeepsSizes m.memory n → Aside (with_memory m n) t p → Aside m t p
  aside-before long sizes it = record {
    sizes = sizes-then m.memory n t.memory long sizes it.sizes;
    places = it.places;
    others = λ q differ. so-before q (record_of m.records q) (record_of t.records q) (it.others q differ);
  }

aside-loaded : (m t : Processes) (p : ℕ) (file : List ℕ) (loaded : Loaded) → Enters m.memory file loaded → Aside (with_memory m loaded.memory) t p → Aside m t p
aside-loaded m t p file loaded enters it =
    aside-before m t p loaded.memory (loaded-maps m.memory file loaded enters) (loaded-long m.memory file loaded enters) (loaded-sizes m.memory file loaded enters) it

-- a call that goes on with the file in memory is refused, or done so
goes-over : (m : Processes) (reading : Result ProgramFile ℕ) (next : ProgramFile → Loaded → CallResult)
    (result : CallResult) (So : Processes → Type 0) → ((file : ProgramFile) (loaded : Loaded) → Enters m.memory file.bytes
    loaded → IsOver So (next file loaded)) → GoesOnLoaded m reading next result → IsOver So result
goes-over m (Err number) next result So over is = subst (IsOver So) (sym is) tt
goes-over m (Ok file) next result So over (Err number, loads, is) = subst (IsOver So) (sym is) tt
goes-over m (Ok file) next result So over (Ok loaded, loads, is) =
    subst (IsOver So) (sym is) (over file loaded (loaded-enters m.memory file.bytes loads.entries loaded loads.is))

-- the others stay, and the tick
abbrev Leaves : Processes → ℕ → Processes → Type 0
Leaves m p t = Aside m t p × (t.tick ≡ m.tick)

-- ---- F$Load

record MappedLeft (m : MemoryState) (p : ℕ) (n : MemoryState) : Type 0 where
  pub objects : n.objects ≡ m.objects
  pub maps : (q : ℕ) → q ≢ p → map_at n q ≡ map_at m q

mapped-left : (m : MemoryState) (p : ℕ) (group : List ℕ) (mapped : Mapped) → mapped_group m p group ≡ Some mapped → MappedLeft m p mapped.memory
mapped-left m p group mapped is =
    by_slot (group_slot (map_at m p) group) (highest_free_run (map_at m p) (length group)) is
  where
    by_slot : (slot run : Option ℕ)
        → option_map_or (λ (slot : ℕ). Some (let r : Mapped = record { slot = slot; memory = m } in r)) slot
        (option_map_or (λ (mapped : ℕ × MemoryState). Some
        (let r : Mapped = record { slot = mapped.0; memory = mapped.1 } in r))
        (option_map (λ (first : ℕ). (first, with_map m p (with_group (map_at m p) first group))) run) None) ≡ Some
        mapped → MappedLeft m p mapped.memory
    by_slot (Some slot) run is =
        subst (MappedLeft m p) (ap (λ (mapped : Mapped). mapped.memory) (same_Some _ mapped is)) (record { objects = refl; maps = λ q differ. refl })
    by_slot None (Some first) is =
        subst (MappedLeft m p) (ap (λ (mapped : Mapped). mapped.memory) (same_Some _ mapped is))
        (record {
          objects = refl;
          maps = λ q differ. map-other m p (with_group (map_at m p) first group) q differ;
        })
    by_slot None None is = cc

link-leaves : (m : Processes) (p : ℕ) (file : ProgramFile) (loaded : Loaded) (mapped : Mapped) (count : ℕ)
    → Enters m.memory file.bytes loaded → mapped_group loaded.memory p loaded.first.entry.group ≡ Some mapped
    → Leaves m p (after_link m p loaded.first mapped count)
link-leaves m p file loaded mapped count enters is =
    let left = mapped-left loaded.memory p loaded.first.entry.group mapped is in (
      aside-self m (after_link m p loaded.first mapped count) p
          (λ object there. ap (λ (objects : List (List ℕ)). option_map length (slice_get objects object)) left.objects ∙ loaded-sizes m.memory file.bytes loaded enters object there)
          (λ q differ. left.maps q differ ∙ loaded-maps m.memory file.bytes loaded enters q)
          (λ q differ. record-other m.records p _ q differ)
          (λ q differ. ap (λ (own : Own). own.call) (own-other m p _ q differ)) (simp length-set),
      refl,
    )

pub load-over : (m : Processes) (asker : Asker) (old : Files) (terms p : ℕ) (result : CallResult) (new : Files) → LoadAttempts m asker old terms p result new → Over m p result
load-over m asker old terms p result new it = over-by m p (Leaves m p) result (goes-over m it.reading (links_first m p) result (Leaves m p) linked-first it.comes) (λ t so. so)
  where
    linked-first : (file : ProgramFile) (loaded : Loaded) → Enters m.memory file.bytes loaded → IsOver (Leaves m p) (links_first m p file loaded)
    linked-first file loaded enters =
        of-needs (Leaves m p) (mapped_group loaded.memory p loaded.first.entry.group) E_MEMFUL
        (λ mapped. refuses (nat_le MOST_LINKS (links_at (own_at m p) mapped.slot)) E_MEMFUL
        (done (after_link m p loaded.first mapped (file.next - (regs_at m p).x))))
        (λ mapped is. of-refuses (Leaves m p) (nat_le MOST_LINKS (links_at (own_at m p) mapped.slot)) E_MEMFUL (done (after_link m p loaded.first mapped (file.next - (regs_at m p).x)))
        (link-leaves m p file loaded mapped (file.next - (regs_at m p).x) enters is))

-- ---- which program

room-of : (entry : ModuleEntry) (pages count : ℕ) → count ≤ 256 * area_pages entry pages count
room-of entry pages count = omega arith

within-area : (pages count : ℕ) → count ≤ 256 * pages → 256 * pages - count + count ≤ 8192 * blocks_of_pages pages
within-area pages count room = omega arith

-- its parameters have room
abbrev Fits : Program → Type 0
Fits program = length program.parameters ≤ 256 * program.pages

loaded-fits : (m : Processes) (p : ℕ) (file : ProgramFile) (first : Entered) → Fits (loaded_program m p file first)
loaded-fits m p file first = by_read (parameters_of m p) refl
  where
    by_read : (read : Option (List ℕ)) → parameters_of m p ≡ read → length (unwrap_or read []) ≤ 256 * area_pages first.entry (regs_at m p).b (regs_at m p).y
    by_read None is = omega arith
    by_read (Some bytes) is =
        subst (λ (n : ℕ). n ≤ 256 * area_pages first.entry (regs_at m p).b (regs_at m p).y)
        (sym (user-length (cells_at m p) (regs_at m p).u (regs_at m p).y bytes is))
        (room-of first.entry (regs_at m p).b (regs_at m p).y)

-- an entered module that the registers name
module _ (m : Processes) (p : ℕ) (So : Processes → Type 0) (next : Program → CallResult) (over : (program : Program) → Fits program → IsOver So (next program)) where
  abbrev program-of : Entered → List ℕ → ℕ → Program
  program-of found parameters count = record {
    entered = found;
    pages = area_pages found.entry (regs_at m p).b (length parameters);
    parameters = parameters;
    count = count;
  }

  abbrev with-found : List ℕ → List ℕ → Entered → CallResult
  with-found parameters name found =
      refuses (not (found.entry.info.kind == program_kind)) E_NEMOD (next (program-of found parameters (length name)))

  abbrev with-name : List ℕ → List ℕ → CallResult
  with-name parameters name =
      needs (found_entry m.memory.modules name (regs_at m p).a) E_MNF (with-found parameters name)

  abbrev with-parameters-read : List ℕ → CallResult
  with-parameters-read parameters =
      refuses (not (asks_for_program (regs_at m p).a)) E_NEMOD (needs (module_name (name_at_x m p)) E_BNAM (with-name parameters))

  reads-over : IsOver So (reads_program m p next)
  reads-over =
      of-refuses So (is_unreadable (name_at_x m p)) E_BPADDR (needs (user_bytes (cells_at m p) (regs_at m p).u (regs_at m p).y) E_BPADDR with-parameters-read)
      (of-needs So (user_bytes (cells_at m p) (regs_at m p).u (regs_at m p).y) E_BPADDR with-parameters-read
      (λ parameters parameters_are. of-refuses So (not (asks_for_program (regs_at m p).a)) E_NEMOD (needs (module_name (name_at_x m p)) E_BNAM (with-name parameters))
      (of-needs So (module_name (name_at_x m p)) E_BNAM (with-name parameters)
      (λ name name_is. of-needs So (found_entry m.memory.modules name (regs_at m p).a) E_MNF (with-found parameters name)
      (λ found found_is. of-refuses So (not (found.entry.info.kind == program_kind)) E_NEMOD (next (program-of found parameters (length name)))
      (over (program-of found parameters (length name)) (room-of found.entry (regs_at m p).b (length parameters))))))))

-- ---- F$Fork

-- a child begins, and its number is answered
pub record Child (m : Processes) (p : ℕ) (t : Processes) : Type 0 where
  pub aside : Aside m t p
  pub tick : t.tick ≡ m.tick
  pub number : free_process m.records ≡ Some (regs_at t p).a
  pub living : IsLiving t.records (regs_at t p).a  -- the child

module _ (m : Processes) (p : ℕ) (lives : IsLiving m.records p) (program : Program) (fits : Fits program) (child : ℕ)
    (free : free_process m.records ≡ Some child) (memory : MemoryState) (begins : started m.memory child
    program.entered.number (blocks_of_pages program.pages) ≡ Ok memory) where
  abbrev made : Processes
  made = with_regs_of (with_child m p child program memory) p (forked_regs (regs_at m p) child program)

  begun : Begun m.memory (λ byte. Unit {0}) p child (with_parameters (linked memory program.entered.number) child program)
  begun =
      started-kept m.memory (λ byte. Unit {0}) p child program.entered.number (blocks_of_pages program.pages) memory
      (parameters_at program) program.parameters (λ k byte is. tt) begins
      (within-area program.pages (length program.parameters) fits)

  is-free : Free m.records child
  is-free = free-is m.records child free

  abbrev new : Record
  new = new_record (record { 0 = p }) (record_at m.records p).user (record_at m.records p).priority

  abbrev added : List (Option Record)
  added = after_make m.records (record { 0 = p }) (record_at m.records p).user (record_at m.records p).priority

  added-is : added ≡ with_record m.records child new
  added-is = ap (λ (found : Option ℕ). option_map_or (λ (q : ℕ). with_record m.records q new) found m.records) free

  long : length added ≡ length m.records
  long = ap (length {A = Option Record}) added-is ∙ length-set m.records child (Some new)

  child-long : length (with_child_record m.records p child program) ≡ length m.records
  child-long = length-set added child _ ∙ long

  -- its record
  abbrev started-record : Record
  started-record = record (record_at added child) { regs = start_regs program }

  child-record : child ≢ p → record_of made.records child ≡ Some started-record
  child-record apart =
      record-other (with_child_record m.records p child program) p _ child apart
      ∙ get_or-set_same added child (Some started-record) None (subst (λ (n : ℕ). child < n) (sym long) is-free.within)

  child-runs : started-record.life ≡ new.life
  child-runs =
      ap (λ (records : List (Option Record)). (record_at records child).life) added-is ∙ ap (λ (r : Record). r.life) (record-put m.records child new is-free.within)

  at-child : child ≢ p → ComesSo m made child (record_of m.records child) (record_of made.records child)
  at-child apart =
      subst (λ (place : Option Record). ComesSo m made child place (record_of made.records child)) (sym is-free.none)
      (subst (ComesSo m made child None) (sym (child-record apart)) child-runs)

  record-same : (q : ℕ) → q ≢ p → q ≢ child → record_of made.records q ≡ record_of m.records q
  record-same q differ apart =
      record-other (with_child_record m.records p child program) p _ q differ ∙ record-other added child _ q apart
      ∙ ap (λ (records : List (Option Record)). record_of records q) added-is ∙ record-other m.records child (Some new) q apart

  so-kept : (q : ℕ) (place : Option Record) → q ≢ child → ComesSo m made q place place
  so-kept q None apart = tt
  so-kept q (Some r) apart = record {
    life = refl;
    regs = refl;
    map = begun.kept.maps q apart;
    call = ap (λ (own : Own). own.call) (own-other m child (start_own program) q apart);
  }

  made-aside : Aside m made p
  made-aside = record {
    sizes = begun.kept.sizes;
    places = length-set (with_child_record m.records p child program) p _ ∙ child-long;
    others =
        λ q differ. elim (cases_eq q child) [
          | inl same ↦ subst (λ (q : ℕ). ComesSo m made q (record_of m.records q) (record_of made.records q)) (sym same) (at-child (λ (is : child ≡ p). differ (same ∙ is)))
          | inr apart ↦ subst (ComesSo m made q (record_of m.records q)) (sym (record-same q differ apart)) (so-kept q (record_of m.records q) apart)
        ];
  }

  -- it lives
  child-lives : IsLiving made.records child
  child-lives =
      ap (record_passes (λ r. not (has_ended r.life))) (child-record apart) ∙ ap (λ (life : Life). not (has_ended life)) child-runs
    where
      apart : child ≢ p
      apart same =
          none-some (record_at m.records p) (sym is-free.none ∙ ap (record_of m.records) same ∙ living-record m.records p lives)

  child-is : child ≡ (regs_at made p).a
  child-is =
      (sym (ap (λ (r : Record). r.regs.a) (record-put (with_child_record m.records p child program) p
      (record (record_at (with_child_record m.records p child program) p) {
        regs = forked_regs (regs_at m p)
            child program;
      }) (subst (λ (n : ℕ). p < n) (sym child-long) (living-within m.records p lives)))))

  made-child : Child m p made
  made-child = record {
    aside = made-aside;
    tick = refl;
    number =
        free ∙ ap Some child-is;
    living = subst (IsLiving made.records) child-is child-lives;
  }

forks-over : (m : Processes) (p : ℕ) → IsLiving m.records p → (So : Processes → Type 0) → ((t : Processes) → Child m p t → So t) → (program : Program) → Fits program → IsOver So (forks m p program)
forks-over m p lives So so program fits =
    of-needs So (free_process m.records) E_PRCFUL (λ child. refuses (nat_lt most_pages program.pages) E_MEMFUL (making child))
    (λ child free. of-refuses So (nat_lt most_pages program.pages) E_MEMFUL (making child)
    (of-changes So (started m.memory child program.entered.number (blocks_of_pages program.pages)) (forked child)
    (λ memory begins. so (with_regs_of (with_child m p child program memory) p (forked_regs (regs_at m p) child program)) (made-child m p lives program fits child free memory begins))))
  where
    forked : ℕ → MemoryState → CallResult
    forked child memory = done (with_regs_of (with_child m p child program memory) p (forked_regs (regs_at m p) child program))

    making : ℕ → CallResult
    making child = changes (started m.memory child program.entered.number (blocks_of_pages program.pages)) (forked child)

child-loaded : (m t : Processes) (p : ℕ) (file : List ℕ) (loaded : Loaded) → Enters m.memory file loaded → Child (with_memory m loaded.memory) p t → Child m p t
child-loaded m t p file loaded enters it =
    record { aside = aside-loaded m t p file loaded enters it.aside; tick = it.tick; number = it.number; living = it.living }

pub fork-over : (m : Processes) (asker : Asker) (old : Files) (terms p : ℕ) (result : CallResult) (new : Files)
    → IsLiving m.records p → ForkAttempts m asker old terms p result new → IsOver (Child m p) result
fork-over m asker old terms p result new lives it = by_name (named_program m p) it
  where
    by_name : (named : Option Entered) → MatchOption named (StartsFile forks m asker old terms p result new) (λ named. (result ≡ f_fork m p) × (new ≡ old)) → IsOver (Child m p) result
    by_name None it =
        goes-over m it.reading (starts_first forks m p) result (Child m p)
        (λ file loaded enters. of-refuses (Child m p) (not (loaded.first.entry.info.kind == program_kind)) E_NEMOD (forks (with_memory m loaded.memory) p (loaded_program m p file loaded.first))
        (forks-over (with_memory m loaded.memory) p lives (Child m p) (λ t child. child-loaded m t p file.bytes loaded
        enters child) (loaded_program m p file loaded.first) (loaded-fits m p file loaded.first)))
        it.comes
    by_name (Some named) (is, same) =
        subst (IsOver (Child m p)) (sym is) (reads-over m p (Child m p) (forks m p) (forks-over m p lives (Child m p) (λ t child. child)))

-- ---- F$Chain

still-call : (entries : List (Option ModuleEntry)) (own : List Own) (q : ℕ) → (slice_index_or (map (still_primary entries) own) q no_own).call ≡ (slice_index_or own q no_own).call
still-call entries own q =
    elim (cases_lt q (length own)) [
      | inl within ↦ ap (λ (own : Own). own.call) (get_or-map (still_primary entries) own q no_own no_own within)
      | inr past ↦ ap (λ (own : Own). own.call) (get_or_past (map (still_primary entries) own) q no_own (rw length-map past) ∙ sym (get_or_past own q no_own past))
    ]

module _ (m : Processes) (p : ℕ) (program : Program) (fits : Fits program) (memory : MemoryState)
    (begins : started m.memory p program.entered.number (blocks_of_pages program.pages) ≡ Ok memory) where
  abbrev anew : Processes
  anew = begun_anew (with_program m p program memory) p program

  anew-begun : Begun m.memory (λ byte. Unit {0}) p p (with_parameters (linked memory program.entered.number) p program)
  anew-begun =
      started-kept m.memory (λ byte. Unit {0}) p p program.entered.number (blocks_of_pages program.pages) memory
      (parameters_at program) program.parameters (λ k byte is. tt) begins
      (within-area program.pages (length program.parameters) fits)

  anew-records : (q : ℕ) → q ≢ p → record_of anew.records q ≡ record_of m.records q
  anew-records q differ =
      record-other (with_regs m.records p (start_regs program)) p _ q differ ∙ record-other m.records p _ q differ

  anew-leaves : (primary : Option ModId) → Leaves m p (option_map_or (λ (id : ModId). without_module_link anew id.0) primary anew)
  anew-leaves None = (
    aside-self m anew p anew-begun.kept.sizes (λ q differ. anew-begun.kept.maps q differ) anew-records
        (λ q differ. ap (λ (own : Own). own.call) (own-other m p (start_own program) q differ)) (simp length-set),
    refl,
  )
  anew-leaves (Some id) = (
    aside-self m (without_module_link anew id.0) p anew-begun.kept.sizes (λ q differ. anew-begun.kept.maps q differ) anew-records
        (λ q differ. still-call (unlinked anew.memory id.0).modules anew.own q ∙ ap (λ (own : Own). own.call) (own-other m p (start_own program) q differ)) (simp length-set),
    refl,
  )

chains-over : (m : Processes) (p : ℕ) (So : Processes → Type 0) → ((t : Processes) → Leaves m p t → So t) → (program : Program) → Fits program → IsOver So (chains m p program)
chains-over m p So so program fits =
    of-refuses So (nat_lt most_pages program.pages) E_MEMFUL (changes (started m.memory p program.entered.number (blocks_of_pages program.pages)) chained)
    (of-changes So (started m.memory p program.entered.number (blocks_of_pages program.pages)) chained
    (λ memory begins. so (without_primary_link (begun_anew (with_program m p program memory) p program) (own_at m p)) (anew-leaves m p program fits memory begins (own_at m p).primary)))
  where
    chained : MemoryState → CallResult
    chained memory =
        done (without_primary_link (begun_anew (with_program m p program memory) p program) (own_at m p))

pub chain-over : (m : Processes) (asker : Asker) (old : Files) (terms p : ℕ) (result : CallResult) (new : Files) → ChainAttempts m asker old terms p result new → Over m p result
chain-over m asker old terms p result new it = over-by m p (Leaves m p) result (by_name (named_program m p) it) (λ t so. so)
  where
    by_name : (named : Option Entered) → MatchOption named (StartsFile chains m asker old terms p result new) (λ named. (result ≡ f_chain m p) × (new ≡ old)) → IsOver (Leaves m p) result
    by_name None it =
        goes-over m it.reading (starts_first chains m p) result (Leaves m p)
        (λ file loaded enters. of-refuses (Leaves m p) (not (loaded.first.entry.info.kind == program_kind)) E_NEMOD (chains (with_memory m loaded.memory) p (loaded_program m p file loaded.first))
        (chains-over (with_memory m loaded.memory) p (Leaves m p)
        (λ t so. (aside-loaded m t p file.bytes loaded enters so.0, so.1)) (loaded_program m p file loaded.first)
        (loaded-fits m p file loaded.first)))
        it.comes
    by_name (Some named) (is, same) =
        subst (IsOver (Leaves m p)) (sym is) (reads-over m p (Leaves m p) (chains m p) (chains-over m p (Leaves m p) (λ t so. so)))
