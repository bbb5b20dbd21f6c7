-- What an event leaves of the others in which a process loads a file, by what it leaves from the loaded file on.
use Rattle.std.proofs.Common.{◌≡◌, ◌≢◌, ◌⊎◌, ℕ, ◌+◌, ◌<◌, ◌≤◌, Bool, Option, Some, None, List, [], length, get_or, slice_get, refl, sym, ap, ◌∙◌, subst, inl, inr, arith}
use Rattle.std.specs.Prelude.{option_map}
use Rattle.std.proofs.lemmas.Bool.{cases_lt}
use Rattle.std.proofs.lemmas.Option.{none-some, slice_get-get_or, slice_get_past}
use Rattle.proc_model.specs.Memory.{map_at}
use Rattle.proc_model.specs.MemoryChanges.{new_numbers}
use Rattle.proc_model.specs.ModuleList.{ModuleEntry, module_entry_at}
use Rattle.proc_model.specs.Objects.{file_blocks}
use Rattle.proc_model.specs.Slots.{NamesBlock, Slots}
use Rattle.proc_model.specs.declared.record.Record.{Record}
use Rattle.proc_model.specs.Records.{record_of}
use Rattle.proc_model.specs.Processes.{Processes, own_at, regs_at, with_memory}
use Rattle.proc_model.specs.declared.proc_call.ProcCall.{ProcCall}
use Rattle.proc_model.specs.declared.proc_call.ProcCall.TheVariants as Call
use Rattle.file_rules.specs.Load.{Loaded}
use Rattle.file_rules.specs.ProgramFile.{ProgramFile}
use Rattle.machine_model.specs.declared.ends.EventEnd.TheVariants.{Ran}
use Rattle.call_laws.specs.Modules.{LeavesWithLastLink, StaysEntered, ModuleStaysOrLeaves as ComesOfEntered}
use Rattle.call_laws.specs.NewObjects.{IsParameter}
use Rattle.call_laws.specs.Objects.{IsNewOrShared, KeepsToItself}
use Rattle.call_laws.specs.Others.{AttemptsCall, CallsOn, ComesOf, GetsSignal, GetsWake, turns_of_others}
use Rattle.call_laws.proofs.MemoryKept.{HoldOnly}
use Rattle.call_laws.proofs.ModulesKept.{HasMore}
use Rattle.machine_model.specs.State.{State}
use Rattle.isolation_laws.specs.Isolation.{LeavesOthers}
use Rattle.isolation_laws.specs.Links.{ChangesLinksOrLoads}
use Rattle.isolation_laws.specs.Loading.{LoadsFile}
use Rattle.isolation_laws.specs.Modules.{LeavesWithFile, ModuleEntryChange}
use Rattle.isolation_laws.specs.NewObjects.{HoldFile}
use Rattle.isolation_laws.proofs.Loaded.{EnteredFrom, IsLoaded, entries-are, group-new, group-some, loaded-is, map-same, more-objects, file-block-at, old-object}

-- where elements stay there are as many at least
kept-length : (xs ys : List (List ℕ)) → ((k : ℕ) → k < length xs → slice_get ys k ≡ slice_get xs k) → length xs ≤ length ys
kept-length xs ys same =
    elim (cases_lt (length ys) (length xs)) [
      | inl short ↦ absurd (none-some (get_or xs (length ys) []) (sym (slice_get_past ys (length ys) (omega arith)) ∙ same (length ys) short ∙ slice_get-get_or xs (length ys) [] short))
      | inr fits ↦ fits
    ]

module _ (s : State) (p : ℕ) (file : ProgramFile) (loaded : Loaded) (loads : LoadsFile s p file loaded) where
  -- the processes, with the file in memory
  abbrev pub with-file : Processes
  with-file = with_memory s.processes loaded.memory

  pub is-loaded : IsLoaded s.processes.memory file.bytes loaded
  is-loaded = loaded-is s.processes.memory file.bytes loaded loads.loads

  abbrev group : List ℕ
  group = new_numbers s.processes.memory (file_blocks file.bytes)

  entered : (number : ℕ) → EnteredFrom group (module_entry_at s.processes.memory.modules number) (module_entry_at loaded.memory.modules number)
  entered = entries-are s.processes.memory file.bytes loaded is-loaded

  -- ---- maps

  module _ (n : Processes) (grows : length loaded.memory.objects ≤ length n.memory.objects) where
    pub shared-comes : (object : ℕ) → IsNewOrShared loaded.memory n.memory object → IsNewOrShared s.processes.memory n.memory object
    shared-comes object (inl (late, below)) =
        inl (omega (arith, late, more-objects s.processes.memory file.bytes loaded is-loaded), below)
    shared-comes object (inr shared) = by_entry (module_entry_at s.processes.memory.modules shared.number) refl (entered shared.number)
      where
        by_entry : (old : Option ModuleEntry) → module_entry_at s.processes.memory.modules shared.number ≡ old
            → EnteredFrom group old (module_entry_at loaded.memory.modules shared.number)
            → IsNewOrShared s.processes.memory n.memory object
        by_entry (Some old) at same =
            inr (record { number = shared.number; entry = shared.entry; is = at ∙ sym same ∙ shared.is; stands = shared.stands })
        by_entry None at new =
            let it = subst (EnteredFrom group None) shared.is new in
            let (k, stands) = shared.stands in
            let (late, below) = group-new s.processes.memory file.bytes loaded is-loaded object k (ap (λ (group : List ℕ). slice_get group k) (sym it.0) ∙ stands) in
            inl (late, omega (arith, below, grows))

    map-comes : KeepsToItself loaded.memory p n.memory → KeepsToItself s.processes.memory p n.memory
    map-comes keeps object names = by_place (keeps object names)
      where
        by_place : NamesBlock (map_at loaded.memory p) object ⊎ IsNewOrShared loaded.memory n.memory object → NamesBlock (map_at s.processes.memory p) object
            ⊎ IsNewOrShared s.processes.memory n.memory object
        by_place (inl old) =
            inl (subst (λ (slots : Slots ℕ). NamesBlock slots object) (map-same s.processes.memory file.bytes loaded is-loaded p) old)
        by_place (inr new) = inr (shared-comes object new)

    -- ---- the other processes

    calls-on : (call : ProcCall) (q : ℕ) → CallsOn with-file p call q → CallsOn s.processes p call q
    calls-on call q on = record { attempted = on.attempted; named = on.named; reached = on.reached }

    wake-comes : (q : ℕ) (old new : Bool) → (new ≡ old) ⊎ GetsWake with-file p q new → (new ≡ old) ⊎ GetsWake s.processes p q new
    wake-comes q old new (inl same) = inl same
    wake-comes q old new (inr wake) =
        inr (record { sent = calls-on Call.Send q wake.sent; wake = wake.wake; asleep = wake.asleep; woken = wake.woken })

    signal-comes : (q : ℕ) (old new : Option ℕ) → (new ≡ old) ⊎ GetsSignal with-file p q old new → (new ≡ old) ⊎ GetsSignal s.processes p q old new
    signal-comes q old new (inl same) = inl same
    signal-comes q old new (inr signal) = inr (record {
      sent = calls-on Call.Send q signal.sent;
      not_wake = signal.not_wake;
      none_pending = signal.none_pending;
      pending = signal.pending;
    })

    priority-comes : (q old new : ℕ) → (new ≡ old) ⊎ CallsOn with-file p Call.SPrior q × (new ≡ (regs_at s.processes p).b) → (new ≡ old) ⊎ CallsOn s.processes p Call.SPrior q
        × (new ≡ (regs_at s.processes p).b)
    priority-comes q old new (inl same) = inl same
    priority-comes q old new (inr (on, is)) = inr (calls-on Call.SPrior q on, is)

    other-comes : (q : ℕ) (old new : Option Record) → ComesOf with-file p Ran n q old new → ComesOf s.processes p Ran n q old new
    other-comes q (Some old) (Some new) stays = record {
      map = stays.map ∙ map-same s.processes.memory file.bytes loaded is-loaded q;
      own = record {
        woken = wake-comes q (own_at s.processes q).woken (own_at n q).woken stays.own.woken;
        primary = stays.own.primary;
        others = stays.own.others;
      };
      record_is = record {
        parent = stays.record_is.parent;
        priority = priority-comes q old.priority new.priority stays.record_is.priority;
        signal = signal-comes q old.signal new.signal stays.record_is.signal;
        others = stays.record_is.others;
      };
    }
    other-comes q (Some old) None goes = record { child = goes.child; had_ended = goes.had_ended; cause = goes.cause }
    other-comes q None (Some new) begins = record {
      call = begins.call;
      number = begins.number;
      child = begins.child;
      user = begins.user;
      priority = begins.priority;
      runs = begins.runs;
      no_intercept = begins.no_intercept;
      no_signal = begins.no_signal;
      map = λ object names. shared-comes object (begins.map object names);
      parent_map = begins.parent_map ∙ map-same s.processes.memory file.bytes loaded is-loaded p;
    }
    other-comes q None None nothing = tt

  -- ---- modules

  -- what comes of a module from the loaded file on: none appears, and one leaves by F$Chain alone
  abbrev pub ComesLoaded : Option ModuleEntry → Option ModuleEntry → Type 0
  ComesLoaded (Some old) (Some new) = StaysEntered old new
  ComesLoaded (Some old) None = LeavesWithLastLink loaded.memory.modules old × AttemptsCall s.processes p Call.Chain
  ComesLoaded None (Some new) = ⊥
  ComesLoaded None None = Unit {0}

  pub loaded-more : (old new : Option ModuleEntry) → HasMore old new → ComesLoaded old new
  loaded-more (Some old) (Some new) more = record { same = more.0; rises = more.2; falls = omega (arith, more.1) }
  loaded-more (Some old) None more = absurd more
  loaded-more None (Some new) more = absurd more
  loaded-more None None more = tt

  pub loaded-chained : AttemptsCall s.processes p Call.Chain → (old new : Option ModuleEntry) → ComesOfEntered loaded.memory.modules old new → ComesLoaded old new
  loaded-chained call (Some old) (Some new) stays = stays
  loaded-chained call (Some old) None leaves = (leaves, call)
  loaded-chained call None (Some new) comes = absurd comes
  loaded-chained call None None comes = tt

  module-leaves : (old : ModuleEntry) → LeavesWithLastLink loaded.memory.modules old → AttemptsCall s.processes p
      Call.Chain → LeavesWithLastLink s.processes.memory.modules old ⊎ LeavesWithFile s p old
  module-leaves old gone call = by_entry (module_entry_at s.processes.memory.modules gone.number) refl (entered gone.number)
    where
      by_entry : (there : Option ModuleEntry) → module_entry_at s.processes.memory.modules gone.number ≡ there
          → EnteredFrom group there (module_entry_at loaded.memory.modules gone.number)
          → LeavesWithLastLink s.processes.memory.modules old ⊎ LeavesWithFile s p old
      by_entry (Some there) at same = inl (record {
        number = gone.number;
        entry = gone.entry;
        is = at ∙ sym same ∙ gone.is;
        of_group = gone.of_group;
        not_boot = gone.not_boot;
        last_link = gone.last_link;
      })
      by_entry None at new =
          let it = subst (EnteredFrom group None) gone.is new in
          inr (record {
            file = file;
            loaded = loaded;
            loads = loads;
            call = call;
            of_group = sym gone.of_group ∙ it.0;
            object = length s.processes.memory.objects;
            stands = (0, ap (λ (group : List ℕ). slice_get group 0) (sym gone.of_group ∙ it.0) ∙ group-some s.processes.memory file.bytes loaded is-loaded);
            absent = omega arith;
            last_link = gone.last_link;
          })

  module-comes : (number : ℕ) (old mid new : Option ModuleEntry) → EnteredFrom group old mid
      → module_entry_at loaded.memory.modules number ≡ mid → ComesLoaded mid new → ModuleEntryChange s p number old new
  module-comes number (Some old) mid new same at comes =
      by_new new (subst (λ (mid : Option ModuleEntry). ComesLoaded mid new) same comes)
    where
      by_new : (new : Option ModuleEntry) → ComesLoaded (Some old) new → ModuleEntryChange s p number (Some old) new
      by_new (Some new) stays = stays
      by_new None (gone, call) = module-leaves old gone call
  module-comes number None (Some mid) (Some new) entered at stays = record {
    file = file;
    loaded = loaded;
    loads = loads;
    entry = mid;
    is = at;
    same = stays.same;
    links = omega (arith, stays.rises, entered.1);
  }
  module-comes number None (Some mid) None entered at comes = tt
  module-comes number None None (Some new) entered at comes = absurd comes
  module-comes number None None None entered at comes = tt

  -- ---- all of it

  -- what is left from the loaded file on
  pub record FileLeft (n : Processes) : Type 0 where
    pub objects : (object : ℕ) → object < length loaded.memory.objects → slice_get n.memory.objects object ≡ slice_get loaded.memory.objects object
    pub new_objects : HoldOnly (IsParameter s.processes p) loaded.memory n.memory
    pub map : KeepsToItself loaded.memory p n.memory
    pub others : (q : ℕ) → q ≢ p → ComesOf with-file p Ran n q (record_of s.processes.records q) (record_of n.records q)
    pub turns : turns_of_others s.processes p n.order ≡ turns_of_others s.processes p s.processes.order
    pub modules : (number : ℕ) → ComesLoaded (module_entry_at loaded.memory.modules number) (module_entry_at n.memory.modules number)
    pub links : ChangesLinksOrLoads s p Ran n.memory

  module _ (t : State) (left : FileLeft t.processes) where
    object-kept : (object : ℕ) → object < length s.processes.memory.objects → slice_get t.processes.memory.objects object ≡ slice_get s.processes.memory.objects object
    object-kept object there =
        left.objects object (omega (arith, there, more-objects s.processes.memory file.bytes loaded is-loaded))
        ∙ old-object s.processes.memory file.bytes loaded is-loaded object there

    grows : length loaded.memory.objects ≤ length t.processes.memory.objects
    grows = kept-length loaded.memory.objects t.processes.memory.objects left.objects

    pub file-there : HoldFile s p t.processes.memory
    file-there = record {
      file = file;
      loaded = loaded;
      loads = loads;
      blocks =
          λ k within. left.objects (length s.processes.memory.objects + k) (omega (arith, within, more-objects s.processes.memory file.bytes loaded is-loaded))
          ∙ file-block-at s.processes.memory file.bytes loaded is-loaded k within;
      rest =
          λ object bytes late at k byte here. left.new_objects object bytes (omega (arith, late, more-objects s.processes.memory file.bytes loaded is-loaded)) at k byte here;
    }

    pub file-leaves : LeavesOthers s p Ran t
    file-leaves = record {
      sizes = λ object there. ap (option_map length) (object-kept object there);
      objects = λ object there unnamed. object-kept object there;
      new_objects = inr file-there;
      map = map-comes t.processes grows left.map;
      others =
          λ q differ. other-comes t.processes grows q (record_of s.processes.records q) (record_of t.processes.records q) (left.others q differ);
      turns = left.turns;
      modules =
          λ number. module-comes number (module_entry_at s.processes.memory.modules number)
          (module_entry_at loaded.memory.modules number) (module_entry_at t.processes.memory.modules number)
          (entered number) refl (left.modules number);
      links = left.links;
    }
