-- Why loads, and starts of programs in files, are refused.
use Rattle.std.proofs.Common.{◌≡◌, ◌≢◌, ◌⊎◌, ℕ, ◌+◌, ◌==◌, ◌||◌, not, Bool, true, false, Option, Some, None, is_none, Result, Ok, Err, List, length, refl, sym, ◌∙◌, subst, inl, inr, arith}
use Rattle.std.specs.Prelude.{MatchOption, nat_le, nat_lt, option_and_then, option_map, if◌then◌else◌}
use Rattle.std.specs.Option.{option_map_or}
use Rattle.std.proofs.lemmas.Bool.{eqb-false, false≢true, leb-true, ltb-true, ltb-false}
use Rattle.std.proofs.lemmas.Option.{none-some, same_Some}
use Rattle.os9_base.specs.declared.errors.TheConstants.{E_BMID, E_BPADDR, E_BPNAM, E_FNA, E_MEMFUL, E_MNF, E_NEMOD, E_NORAM, E_PNNF, E_PRCFUL, E_PTHFUL, E_SHARE}
use Rattle.os9_base.specs.declared.limits.TheConstants.{MOST_GROUP_BYTES}
use Rattle.os9_base.specs.declared.name_fault.NameFault.{NameFault}
use Rattle.os9_base.specs.declared.name_fault.NameFault.TheVariants.{Unreadable, NoName}
use Rattle.proc_model.specs.Memory.{MemoryState, free_blocks, map_at, wants_blocks}
use Rattle.proc_model.specs.MemoryChanges.{has_most_links, started, started_with, with_first_slots}
use Rattle.proc_model.specs.ModuleList.{ModuleEntry, free_number, module_entry_at}
use Rattle.proc_model.specs.Objects.{file_blocks}
use Rattle.proc_model.specs.declared.memory.MemoryFault.TheVariants.{MemFull, NoRam}
use Rattle.proc_model.specs.declared.memory.TheConstants.{MOST_LINKS}
use Rattle.proc_model.specs.Records.{free_process}
use Rattle.proc_model.specs.CallResult.{CallResult, changes, done, needs as call_needs, refuses as call_refuses, refused as call_refused}
use Rattle.proc_model.specs.Chain.{f_chain}
use Rattle.proc_model.specs.Fork.{f_fork}
use Rattle.proc_model.specs.Processes.{Processes, own_at, regs_at, with_memory}
use Rattle.proc_model.specs.Link.{links_at, mapped_group}
use Rattle.proc_model.specs.ModuleLinks.{Entered, entered_at}
use Rattle.proc_model.specs.Program.{Program, asks_for_program, most_pages, program_kind}
use Rattle.rbf_model.specs.Volume.{DiskVolume}
use Rattle.rbf_model.specs.Walk.{WalkEnd, arrives, not_allowed, not_found, walk}
use Rattle.io_model.specs.PathList.{PathList}
use Rattle.io_model.specs.declared.modes.TheConstants.{MODE_EXECUTE}
use Rattle.file_rules.specs.Files.{Asker, Files, KeepsDriveFaults, volume_at}
use Rattle.file_rules.specs.Load.{GoesOnLoaded, LoadAttempts, Loaded, Loads, first_entered, links_first, loaded_by, with_file_entered}
use Rattle.file_rules.specs.Open.{may_open}
use Rattle.file_rules.specs.Program.{ChainAttempts, ForkAttempts, StartsFile, chains, forks, loaded_program, named_program, parameters_of, starts_first, tests_program}
use Rattle.file_rules.specs.ProgramFile.{ProgramFile, ReadingIsBroken, ReadsProgram, program_file, program_found, program_on_route, reading_of}
use Rattle.file_rules.specs.Sharing.{is_not_shared}
use Rattle.file_rules.specs.Step.{Step, comes, drive_of, needs, reaches, refused, refuses}
use Rattle.file_rules.specs.Route.{Found, Route, along, list_of, nowhere, reads_list, to_device, walk_ends, walks, route_of}
use Rattle.lock_model.specs.declared.place.FilePlace.{FilePlace}
use Rattle.file_laws.specs.Causes.{FileCause, FindsNamedFile, ListHasRoute, LeadsNowhere, bad_address, dots, finds_nothing, forbidden, may_not_pass, no_device, no_directory, no_name, no_volume, not_mounted, not_shared, not_there, root, slash}
use Rattle.file_laws.specs.Claims.{MadePathCall}
use Rattle.file_laws.specs.LoadCauses.{CauseOfLoad, ChainCause, EntersFileModules, ForkCause, GroupCause, IsModuleFileRead, LinkCause, LoadCause, ReadCause, StartCause, TestCause, a_module, as_opened, looking, many_pages, most_links, no_blocks, no_memory, no_module, no_parameters, no_place, no_process, no_program, no_slots, not_ended, not_entered, not_read, other_type, blocks_for, tested, to_a_device, too_long}
use Rattle.file_laws.specs.Touch.{FaultAnswers}
use Rattle.file_laws.proofs.Caused.{is_nothing, not-is}
use Rattle.file_laws.proofs.Nowhere.{nowhere-caused, nowhere-why}

-- a list that leads nowhere is not refused for want of a number
other-number : (m : MadePathCall) (list : PathList) (number : ℕ) → LeadsNowhere m list number → number ≢ E_PTHFUL
other-number m list number (dots is makes at) same = omega (arith, is, same)
other-number m list number (root is makes at) same = omega (arith, is, same)
other-number m list number (slash device is at none behind) same = omega (arith, is, same)
other-number m list number (no_device is some at) same = omega (arith, is, same)
other-number m list number (not_mounted drive is at none) same = omega (arith, is, same)
other-number m list number (no_directory is none at) same = omega (arith, is, same)

is-so : (b : Bool) → not b ≡ false → b ≡ true
is-so true is = refl
is-so false is = absurd (false≢true (sym is))

-- ---- why a file is not read

module _ (asker : Asker) (files : Files) (terms : ℕ) (Tested : ℕ → Type 0) where
  -- what a reading comes to
  abbrev pub ReadComes : Result ProgramFile ℕ → Type 0
  ReadComes (Ok file) = IsModuleFileRead asker files terms file
  ReadComes (Err number) = Tested number ⊎ ReadCause asker files terms number

  abbrev pub K : Step ProgramFile → Type 0
  K step = ReadComes (reading_of step)

  k-needs : {A : Type 0} (o : Option A) (number : ℕ) (next : A → Step ProgramFile) → (o ≡ None → K (refused number)) → ((a : A) → o ≡ Some a → K (next a)) → K (needs o number next)
  k-needs None number next none holds = none refl
  k-needs (Some a) number next none holds = holds a refl

  k-refuses : (test : Bool) (number : ℕ) (next : Step ProgramFile) → (test ≡ true → K (refused number)) → (test ≡ false → K next) → K (refuses test number next)
  k-refuses true number next cause holds = cause refl
  k-refuses false number next cause holds = holds refl

  opened : (number : ℕ) → number ≢ E_PTHFUL → FileCause (looking asker files terms) number → K (refused number)
  opened number other cause = inr (as_opened other cause)

  k-found : (list : PathList) (names : List (List ℕ)) (found : Found) → FindsNamedFile (looking asker files terms) names found → K (program_found asker files list found)
  k-found list names found finds =
      k-refuses (not (may_open found.file asker.user MODE_EXECUTE)) E_FNA
      (refuses (is_not_shared files found MODE_EXECUTE) E_SHARE
      (refuses (nat_lt MOST_GROUP_BYTES (length found.file.contents)) E_MEMFUL
      (comes (record { bytes = found.file.contents; next = list.next }))))
      (λ test. opened E_FNA (λ same. omega (arith, same)) (forbidden names found refl finds (not-is (may_open found.file asker.user MODE_EXECUTE) test)))
      (λ may. k-refuses (is_not_shared files found MODE_EXECUTE) E_SHARE
      (refuses (nat_lt MOST_GROUP_BYTES (length found.file.contents)) E_MEMFUL
      (comes (record { bytes = found.file.contents; next = list.next })))
      (λ test. opened E_SHARE (λ same. omega (arith, same)) (not_shared names found refl refl finds test))
      (λ shared. k-refuses (nat_lt MOST_GROUP_BYTES (length found.file.contents)) E_MEMFUL (comes (record { bytes = found.file.contents; next = list.next }))
      (λ test. inr (too_long names found refl finds (ltb-true MOST_GROUP_BYTES (length found.file.contents) test)))
      (λ short. record {
        names = names;
        found = found;
        finds = finds;
        may = is-so (may_open found.file asker.user MODE_EXECUTE) may;
        short = ltb-false MOST_GROUP_BYTES (length found.file.contents) short;
        bytes = refl;
      })))

  k-walks : (list : PathList) (names : List (List ℕ)) (place : FilePlace) → ListHasRoute (looking asker files terms)
      (along place names) → K (walks asker files true place names (program_found asker files list))
  k-walks list names place leads =
      k-needs (volume_at files place.drive) E_MNF (λ v. reaches place.drive (walk_ends place.drive v (walk v.files asker.user true place.number names) (program_found asker files list)))
      (λ none. opened E_MNF (λ same. omega (arith, same)) (no_volume names place refl leads none))
      (λ v mounted. by_end v mounted (walk v.files asker.user true place.number names) refl)
    where
      by_end : (v : DiskVolume) → volume_at files place.drive ≡ Some v → (end : WalkEnd) → walk v.files asker.user
          true place.number names ≡ end → K (walk_ends place.drive v end (program_found asker files list))
      by_end v mounted (arrives n) is =
          k-needs (v.files n) E_PNNF (λ file. program_found asker files list (record { place = record { drive = place.drive; number = n }; volume = v; file = file }))
          (λ none. opened E_PNNF (λ same. omega (arith, same)) (not_there names place v n refl (record { leads = leads; mounted = mounted; is = is }) none))
          (λ file there. k-found list names (record {
            place = record { drive = place.drive; number = n };
            volume = v;
            file = file;
          }) (record {
            start = place.number;
            walks = record {
              leads = leads;
              mounted = mounted;
              is =
                  is;
            };
            there = there;
          }))
      by_end v mounted not_allowed is =
          opened E_FNA (λ same. omega (arith, same)) (may_not_pass names place v refl (record { leads = leads; mounted = mounted; is = is }))
      by_end v mounted not_found is =
          opened E_PNNF (λ same. omega (arith, same)) (finds_nothing names place v refl (record { leads = leads; mounted = mounted; is = is }))

  k-way : (list : PathList) (route : Route) → ListHasRoute (looking asker files terms) route → K (program_on_route asker files list route)
  k-way list (along place names) leads = k-walks list names place leads
  k-way list to_device leads = inr (to_a_device refl leads)
  k-way list (nowhere number) leads =
      opened number (other-number (looking asker files terms) leads.list number (nowhere-why (looking asker files terms) number leads)) (nowhere-caused (looking asker files terms) number leads)

  pub file-caused : (test : Step ProgramFile → Step ProgramFile) → ((step : Step ProgramFile) → K step → K (test step)) → K (program_file asker files terms test)
  file-caused test tests = by_list (list_of asker) refl
    where
      by_list : (read : Result PathList NameFault) → list_of asker ≡ read → K (reads_list read test (λ list. program_on_route asker files list (route_of asker files terms true list)))
      by_list (Ok list) is =
          tests (program_on_route asker files list (route_of asker files terms true list))
          (k-way list (route_of asker files terms true list) (record { reads = refl; list = list; read = is; is = refl }))
      by_list (Err Unreadable) is = opened E_BPADDR (λ same. omega (arith, same)) (bad_address refl (refl, is))
      by_list (Err NoName) is =
          tests (refused E_BPNAM) (opened E_BPNAM (λ same. omega (arith, same)) (no_name refl refl is))

-- ---- why it is not in memory, and what the call does with it

same-refusal : (n m : ℕ) → call_refused n ≡ call_refused m → m ≡ n
same-refusal n m is = cc

not-done : (number : ℕ) (m : Processes) → done m ≡ call_refused number → ⊥
not-done number m is = cc

-- a file that is not in memory, and one that is
abbrev no_load : ℕ → Result Loaded ℕ
no_load n = Err n

abbrev a_load : Loaded → Result Loaded ℕ
a_load loaded = Ok loaded

same-load : (one other : Loaded) → a_load one ≡ a_load other → other ≡ one
same-load one other is = cc

same-error : (n m : ℕ) → no_load n ≡ no_load m → n ≡ m
same-error n m is = cc

not-loaded : (n : ℕ) (loaded : Loaded) → no_load n ≡ Ok loaded → ⊥
not-loaded n loaded is = cc

abbrev entered_so : ℕ → ModuleEntry → Entered
entered_so number entry = record { number = number; entry = entry }

-- the first module of a file in memory is entered there
entered-there : (entries : List (Option ModuleEntry)) (number : Option ℕ) (first : Entered)
    → option_and_then (entered_at entries) number ≡ Some first → module_entry_at entries first.number ≡ Some
    first.entry
entered-there entries None first is = absurd (none-some first is)
entered-there entries (Some n) first is = by_entry (module_entry_at entries n) refl is
  where
    by_entry : (entry : Option ModuleEntry) → module_entry_at entries n ≡ entry
        → option_map (λ (entry : ModuleEntry). entered_so n entry) entry ≡ Some first → module_entry_at entries
        first.number ≡ Some first.entry
    by_entry None there is = absurd (none-some first is)
    by_entry (Some entry) there is =
        subst (λ (first : Entered). module_entry_at entries first.number ≡ Some first.entry) (same_Some (entered_so n entry) first is) there

abbrev IsThere : Loaded → Type 0
IsThere loaded = module_entry_at loaded.memory.modules loaded.first.number ≡ Some loaded.first.entry

module _ (m : MemoryState) (file : List ℕ) (loaded : Loaded) where
  there-by-room : (entries : List (Option ModuleEntry)) (first : Entered) → first_entered m entries ≡ Some first
      → (wants : Bool) → a_load loaded ≡ (if wants then Err E_NORAM else Ok
      (record { first = first; memory = with_file_entered m file entries })) → IsThere loaded
  there-by-room entries first at true is = absurd (not-loaded E_NORAM loaded (sym is))
  there-by-room entries first at false is =
      subst IsThere (same-load loaded (record { first = first; memory = with_file_entered m file entries }) is) (entered-there entries (free_number m.modules) first at)

  there-by-first : (entries : List (Option ModuleEntry)) (first : Option Entered) → first_entered m entries ≡ first
      → a_load loaded ≡ option_map_or (λ (first : Entered). if wants_blocks m (file_blocks file) then Err E_NORAM else
      a_load (record { first = first; memory = with_file_entered m file entries })) first (Err E_BMID)
      → IsThere loaded
  there-by-first entries None at is = absurd (not-loaded E_BMID loaded (sym is))
  there-by-first entries (Some first) at is = there-by-room entries first at (wants_blocks m (file_blocks file)) is

  first-there : Loads m file (Ok loaded) → IsThere loaded
  first-there it = by_entries it.entries it.is
    where
      by_entries : (entries : Result (List (Option ModuleEntry)) (ℕ × ℕ)) → a_load loaded ≡ loaded_by m file entries → IsThere loaded
      by_entries (Err (at, refusal)) is = absurd (not-loaded refusal loaded (sym is))
      by_entries (Ok entries) is = there-by-first entries (first_entered m entries) refl is

module _ (m : Processes) (asker : Asker) (files : Files) (terms : ℕ) (Tested : ℕ → Type 0) (Ends : ProgramFile → Loaded → ℕ → Type 0) (number : ℕ) where
  abbrev Why : Type 0
  Why = CauseOfLoad m asker files terms Tested Ends number

  module _ (file : List ℕ) (error : ℕ) (same : error ≡ number) where
    -- what the file comes to by its first module
    abbrev loaded_as : List (Option ModuleEntry) → Entered → Result Loaded ℕ
    loaded_as entries first =
        if wants_blocks m.memory (file_blocks file) then Err E_NORAM
        else Ok (record { first = first; memory = with_file_entered m.memory file entries })

    by-room : (entries : List (Option ModuleEntry)) (first : Entered) (wants : Bool) → wants_blocks m.memory
        (file_blocks file) ≡ wants → no_load error ≡ (if wants then Err E_NORAM else Ok
        (record { first = first; memory = with_file_entered m.memory file entries })) → GroupCause m file number
    by-room entries first true wants is =
        no_blocks (sym same ∙ same-error error E_NORAM is) (ltb-true (free_blocks m.memory) (file_blocks file) wants)
    by-room entries first false wants is = absurd (not-loaded error _ is)

    by-first : (entries : List (Option ModuleEntry)) → EntersFileModules m file (Ok entries) → (first : Option Entered)
        → first_entered m.memory entries ≡ first → no_load error ≡ option_map_or (loaded_as entries) first
        (Err E_BMID) → GroupCause m file number
    by-first entries modules None none is = no_module entries (sym same ∙ same-error error E_BMID is) modules none
    by-first entries modules (Some first) there is =
        by-room entries first (wants_blocks m.memory (file_blocks file)) refl is

    group-caused : Loads m.memory file (Err error) → GroupCause m file number
    group-caused it = by_entries it.entries it.modules it.is
      where
        by_entries : (entries : Result (List (Option ModuleEntry)) (ℕ × ℕ)) → EntersFileModules m file entries → no_load error ≡ loaded_by m.memory file entries → GroupCause m file number
        by_entries (Err (at, refusal)) modules is =
            a_module at (subst (λ (n : ℕ). EntersFileModules m file (Err (at, n))) (sym (same-error error refusal is) ∙ same) modules)
        by_entries (Ok entries) modules is = by-first entries modules (first_entered m.memory entries) refl is

  pub goes-caused : (reading : Result ProgramFile ℕ) → ReadComes asker files terms Tested reading
      → (next : ProgramFile → Loaded → CallResult) → ((file : ProgramFile) (loaded : Loaded) → IsThere loaded
      → next file loaded ≡ call_refused number → Ends file loaded number) → GoesOnLoaded m reading next
      (call_refused number) → Why
  goes-caused (Err error) known next ends goes = by_cause known
    where
      same : error ≡ number
      same = same-refusal number error goes

      by_cause : Tested error ⊎ ReadCause asker files terms error → Why
      by_cause (inl test) = tested (subst Tested same test)
      by_cause (inr cause) = not_read (subst (ReadCause asker files terms) same cause)
  goes-caused (Ok file) known next ends (Err error, loads, is) =
      not_entered file known (group-caused file.bytes error (same-refusal number error is) loads)
  goes-caused (Ok file) known next ends (Ok loaded, loads, is) =
      not_ended file loaded known loads (ends file loaded (first-there m.memory file.bytes loaded loads) (sym is))

  -- a reading of a file, and what comes of it
  pub reads-caused : (old new : Files) (step : Step ProgramFile) → K asker files terms Tested step
      → (reading : Result ProgramFile ℕ) → ReadsProgram step reading old new → (next : ProgramFile → Loaded
      → CallResult) → ((file : ProgramFile) (loaded : Loaded) → IsThere loaded → next file loaded ≡ call_refused
      number → Ends file loaded number) → GoesOnLoaded m reading next (call_refused number)
      → FaultAnswers (drive_of step) old (call_refused number) new ⊎ Why
  reads-caused old new step known reading it next ends goes = by_outcome it.outcome
    where
      by_outcome : ((reading ≡ reading_of step) × KeepsDriveFaults old.drives it.drives) ⊎ ReadingIsBroken step reading
          old.drives it.drives → FaultAnswers (drive_of step) old (call_refused number) new ⊎ Why
      by_outcome (inl (is, none)) =
          inr (goes-caused reading (subst (ReadComes asker files terms Tested) (sym is) known) next ends goes)
      by_outcome (inr broken) =
          inl (subst (FaultAnswers (drive_of step) old (call_refused number)) (sym it.state) (record {
            drive = broken.drive;
            reaches = broken.reached;
            number = broken.number;
            failed = broken.failed;
            answer = subst (λ (reading : Result ProgramFile ℕ). GoesOnLoaded m reading next (call_refused number)) broken.is goes;
          }))

-- ---- each call

-- what comes of a test and of what there is
refuses-so : (test : Bool) (error number : ℕ) (next : CallResult) (P : Type 0) → (test ≡ true → number ≡ error → P)
    → (test ≡ false → next ≡ call_refused number → P) → call_refuses test error next ≡ call_refused number → P
refuses-so true error number next P fits rest is = fits refl (same-refusal error number is)
refuses-so false error number next P fits rest is = rest refl is

needs-so : {A : Type 0} (o : Option A) (error number : ℕ) (next : A → CallResult) (P : Type 0)
    → (o ≡ None → number ≡ error → P) → ((a : A) → o ≡ Some a → next a ≡ call_refused number → P) → call_needs o error
    next ≡ call_refused number → P
needs-so None error number next P none rest is = none refl (same-refusal error number is)
needs-so (Some a) error number next P none rest is = rest a refl is

module _ (m : Processes) (p number : ℕ) where
  link-caused : (file : ProgramFile) (loaded : Loaded) → IsThere loaded → links_first m p file loaded ≡ call_refused number → LinkCause m p loaded number
  link-caused file loaded there is =
      needs-so (mapped_group loaded.memory p loaded.first.entry.group) E_MEMFUL number _ (LinkCause m p loaded number)
      (λ none number_is. no_slots number_is none)
      (λ mapped there is. refuses-so (nat_le MOST_LINKS (links_at (own_at m p) mapped.slot)) E_MEMFUL number _ (LinkCause m p loaded number)
      (λ most number_is. most_links mapped number_is there (leb-true MOST_LINKS (links_at (own_at m p) mapped.slot) most))
      (λ more is. absurd (not-done number _ is)) is) is

  module _ (file : ProgramFile) (loaded : Loaded) where
    abbrev program : Program
    program = loaded_program m p file loaded.first

    -- the memory is taken, by the entry of the module
    module _ (begins : Option ℕ) (q : ℕ) (begins_is : begins ≡ Some q) (next : MemoryState → Processes) where
      abbrev blocks : ℕ
      blocks = blocks_for m p file loaded

      abbrev P : Type 0
      P = StartCause m p begins file loaded number

      by-free : (few : Bool) → nat_lt (free_blocks loaded.memory + (map_at loaded.memory q).low) blocks ≡ few
          → changes (if few then Err NoRam else Ok (with_first_slots loaded.memory q loaded.first.entry.group blocks))
          (λ memory. done (next memory)) ≡ call_refused number → P
      by-free true few is =
          no_memory q begins_is (same-refusal E_NORAM number is) (ltb-true (free_blocks loaded.memory + (map_at loaded.memory q).low) blocks few)
      by-free false few is = absurd (not-done number _ is)

      by-slots : (most over : Bool) → has_most_links loaded.first.entry ≡ most
          → nat_lt 8 (blocks + length loaded.first.entry.group) ≡ over
          → changes (if most || over then Err MemFull else
          (if nat_lt (free_blocks loaded.memory + (map_at loaded.memory q).low) blocks then Err NoRam else Ok
          (with_first_slots loaded.memory q loaded.first.entry.group blocks))) (λ memory. done (next memory)) ≡
          call_refused number → P
      by-slots true over a b is = no_place q begins_is (same-refusal E_MEMFUL number is) (inl a)
      by-slots false true a b is =
          no_place q begins_is (same-refusal E_MEMFUL number is) (inr (ltb-true 8 (blocks + length loaded.first.entry.group) b))
      by-slots false false a b is =
          by-free (nat_lt (free_blocks loaded.memory + (map_at loaded.memory q).low) blocks) refl is

      change-caused : IsThere loaded → changes (started loaded.memory q loaded.first.number blocks) (λ memory. done (next memory)) ≡ call_refused number → P
      change-caused there is =
          by-slots (has_most_links loaded.first.entry) (nat_lt 8 (blocks + length loaded.first.entry.group)) refl refl
          (subst (λ (entry : Option ModuleEntry). changes (option_map_or (started_with loaded.memory q blocks) entry (Err MemFull)) (λ memory. done (next memory)) ≡ call_refused number) there is)

    -- the test of the module's type, before it is started
    first-caused : (begins : Option ℕ) (start : Processes → ℕ → Program → CallResult)
        → (start (with_memory m loaded.memory) p program ≡ call_refused number → StartCause m p begins file loaded
        number) → starts_first start m p file loaded ≡ call_refused number → StartCause m p begins file loaded number
    first-caused begins start starts is =
        refuses-so (not (loaded.first.entry.info.kind == program_kind)) E_NEMOD number (start (with_memory m loaded.memory) p program) (StartCause m p begins file loaded number)
        (λ other number_is. no_program number_is (eqb-false loaded.first.entry.info.kind program_kind (not-is (loaded.first.entry.info.kind == program_kind) other)))
        (λ same is. starts is) is

    -- the pages are tested, and then the memory is taken
    pages-caused : IsThere loaded → (begins : Option ℕ) (q : ℕ) → begins ≡ Some q → (next : MemoryState → Processes)
        → call_refuses (nat_lt most_pages program.pages) E_MEMFUL
        (changes (started loaded.memory q loaded.first.number (blocks_for m p file loaded))
        (λ memory. done (next memory))) ≡ call_refused number → StartCause m p begins file loaded number
    pages-caused there begins q begins_is next is =
        refuses-so (nat_lt most_pages program.pages) E_MEMFUL number
        (changes (started loaded.memory q loaded.first.number (blocks_for m p file loaded))
        (λ memory. done (next memory))) (StartCause m p begins file loaded number)
        (λ many number_is. many_pages number_is (ltb-true most_pages program.pages many))
        (λ few is. change-caused begins q begins_is next there is) is

  fork-ends : (file : ProgramFile) (loaded : Loaded) → IsThere loaded → starts_first forks m p file loaded ≡ call_refused number → StartCause m p (free_process m.records) file loaded number
  fork-ends file loaded known is =
      first-caused file loaded (free_process m.records) forks
      (λ is. needs-so (free_process m.records) E_PRCFUL number _ (StartCause m p (free_process m.records) file loaded number)
      (λ none number_is. no_process number_is none)
      (λ child there is. pages-caused file loaded known (free_process m.records) child there _ is) is) is

  chain-ends : (file : ProgramFile) (loaded : Loaded) → IsThere loaded → starts_first chains m p file loaded ≡ call_refused number → StartCause m p (Some p) file loaded number
  chain-ends file loaded known is =
      first-caused file loaded (Some p) chains (λ is. pages-caused file loaded known (Some p) p refl _ is) is

  -- what is tested of the registers
  test-caused : (asker : Asker) (files : Files) (terms : ℕ) (step : Step ProgramFile) → K asker files terms (TestCause m p) step → K asker files terms (TestCause m p) (tests_program m p step)
  test-caused asker files terms step holds =
      k-refuses asker files terms (TestCause m p) (is_none (parameters_of m p)) E_BPADDR (refuses (not (asks_for_program (regs_at m p).a)) E_NEMOD step)
      (λ test. inl (no_parameters refl (is_nothing (parameters_of m p) test)))
      (λ there. k-refuses asker files terms (TestCause m p) (not (asks_for_program (regs_at m p).a)) E_NEMOD step
      (λ test. inl (other_type refl (not-is (asks_for_program (regs_at m p).a) test)))
      (λ asks. holds))

module _ (m : Processes) (asker : Asker) (old : Files) (terms p number : ℕ) (new : Files) where
  pub load-caused : LoadAttempts m asker old terms p (call_refused number) new
      → FaultAnswers (drive_of (program_file asker old terms (λ step. step))) old (call_refused number) new ⊎
      LoadCause m asker old terms p number
  load-caused it =
      reads-caused m asker old terms (λ number. ⊥) (λ file. LinkCause m p) number old new
      (program_file asker old terms (λ step. step)) (file-caused asker old terms (λ number. ⊥) (λ step. step)
      (λ step holds. holds)) it.reading it.reads (links_first m p) (link-caused m p number) it.comes

  abbrev start_drive : Option ℕ
  start_drive = drive_of (program_file asker old terms (tests_program m p))

  -- a start of a program in a file
  start-caused : (begins : Option ℕ) (start : Processes → ℕ → Program → CallResult)
      → ((file : ProgramFile) (loaded : Loaded) → IsThere loaded → starts_first start m p file loaded ≡ call_refused
      number → StartCause m p begins file loaded number) → (named : CallResult) → named_program m p ≡ None
      → MatchOption (named_program m p) (StartsFile start m asker old terms p (call_refused number) new)
      (λ entered. (call_refused number ≡ named) × (new ≡ old)) → FaultAnswers start_drive old (call_refused number)
      new ⊎ CauseOfLoad m asker old terms (TestCause m p) (StartCause m p begins) number
  start-caused begins start ends named none attempt =
      let it : StartsFile start m asker old terms p (call_refused number) new = subst (λ (entered : Option Entered).
      MatchOption entered (StartsFile start m asker old terms p (call_refused number) new)
      (λ entered. (call_refused number ≡ named) × (new ≡ old))) none attempt in
      reads-caused m asker old terms (TestCause m p) (StartCause m p begins) number old new
      (program_file asker old terms (tests_program m p)) (file-caused asker old terms (TestCause m p)
      (tests_program m p) (test-caused m p number asker old terms)) it.reading it.reads (starts_first start m p)
      ends it.comes

  pub fork-caused : ForkAttempts m asker old terms p (call_refused number) new → named_program m p ≡ None
      → FaultAnswers start_drive old (call_refused number) new ⊎ ForkCause m asker old terms p number
  fork-caused it none =
      start-caused (free_process m.records) forks (fork-ends m p number) (f_fork m p) none it

  pub chain-caused : ChainAttempts m asker old terms p (call_refused number) new → named_program m p ≡ None
      → FaultAnswers start_drive old (call_refused number) new ⊎ ChainCause m asker old terms p number
  chain-caused it none = start-caused (Some p) chains (chain-ends m p number) (f_chain m p) none it
