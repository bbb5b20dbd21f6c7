-- What F$Fork, F$Chain and so every call leave of the others.
use Rattle.std.proofs.Common.{◌≡◌, ◌≢◌, ◌⊎◌, ℕ, ◌+◌, ◌-◌, ◌*◌, ◌≤◌, ◌==◌, not, nat_lt, Option, Some, None, Ok, List, length, refl, sym, ap, ◌∙◌, subst, inl, inr, arith, slice_get}
use Rattle.std.specs.Prelude.{option_map, slice_set, slice_index_or}
use Rattle.std.specs.Option.{option_map_or}
use Rattle.std.proofs.lemmas.Bool.{cases_eq}
use Rattle.std.proofs.lemmas.List.{get_or-set_same, length-set}
use Rattle.os9_base.specs.declared.errors.TheConstants.{E_BPADDR, E_NEMOD, E_BNAM, E_MNF, E_MEMFUL, E_PRCFUL}
use Rattle.proc_model.specs.declared.module.ModId.{ModId}
use Rattle.proc_model.specs.Memory.{MemoryState}
use Rattle.proc_model.specs.MemoryChanges.{linked, started, unlinked}
use Rattle.proc_model.specs.ModuleList.{ModuleEntry, without_link}
use Rattle.proc_model.specs.Slots.{NamesBlock}
use Rattle.proc_model.specs.declared.own.Own.{Own}
use Rattle.proc_model.specs.declared.record.Record.{Record}
use Rattle.proc_model.specs.Records.{IsLiving, record_of, record_at, new_record, free_process, after_make, with_record, with_regs}
use Rattle.proc_model.specs.declared.proc_call.ProcCall.{ProcCall}
use Rattle.proc_model.specs.declared.proc_call.ProcCall.TheVariants as Call
use Rattle.proc_model.specs.Attempts.{attempted, done_regs, goes_on}
use Rattle.proc_model.specs.CallResult.{CallResult, done, needs, refuses, changes}
use Rattle.proc_model.specs.Chain.{f_chain, begun_anew, with_program}
use Rattle.proc_model.specs.Fork.{f_fork, with_child, with_child_record, forked_regs}
use Rattle.proc_model.specs.Processes.{Processes, no_own, own_at, regs_at, cells_at, with_regs_of}
use Rattle.proc_model.specs.ModuleLinks.{Entered, found_entry, without_module_link, without_primary_link}
use Rattle.proc_model.specs.Program.{Program, is_unreadable, module_name, name_at_x, asks_for_program, program_kind, area_pages, most_pages, blocks_of_pages, parameters_at, start_regs, start_own, with_parameters, reads_program}
use Rattle.proc_model.specs.UserBytes.{user_bytes}
use Rattle.machine_model.specs.declared.ends.EventEnd.TheVariants.{Ran}
use Rattle.call_laws.specs.Others.{AttemptsCall, KeepsOwn, ComesOf}
use Rattle.call_laws.specs.Links.{ChangesPrimary}
use Rattle.call_laws.specs.NewObjects.{IsParameter}
use Rattle.call_laws.proofs.MemoryKept.{Grows, Begun, started-kept, started-modules}
use Rattle.call_laws.proofs.ModulesKept.{linked-modules, HaveMore, more-linked}
use Rattle.call_laws.proofs.OthersKept.{Changed, changed-self, changed-then, record-same, record-other, own-same, own-other, turns-with, comes-of, living-record, record-put, Free, free-is}
use Rattle.call_laws.proofs.CallsKept.{AttemptLeft, left-done, of-needs, of-refuses, of-changes, changed-unlinked, ended-left, regs-changed, record-changed, same, link-left, unlink-left, unload-left, mem-left, crc-left, prsnam-left, cmpnam-left, send-left, sprior-left, sleep-left, wait-left}

module _ (m : Processes) (p : ℕ) where
  -- the parameters of a program have room at the end of its data area, and its maker gives them
  pub record HasRoom (program : Program) : Type 0 where
    pub fits : length program.parameters ≤ 256 * program.pages
    pub given : (k byte : ℕ) → slice_get program.parameters k ≡ Some byte → IsParameter m p byte

  pub room-of : (entry : ModuleEntry) (pages count : ℕ) → count ≤ 256 * area_pages entry pages count
  room-of entry pages count = omega arith

  pub within-area : (pages count : ℕ) → count ≤ 256 * pages → 256 * pages - count + count ≤ 8192 * blocks_of_pages pages
  within-area pages count room = omega arith

  abbrev program-of : Entered → List ℕ → ℕ → Program
  program-of found parameters count = record {
    entered = found;
    pages = area_pages found.entry (regs_at m p).b (length parameters);
    parameters = parameters;
    count = count;
  }

  module _ (next : Program → CallResult) where
    abbrev with-found : List ℕ → List ℕ → Entered → CallResult
    with-found parameters name found =
        refuses (not (found.entry.info.kind == program_kind)) E_NEMOD (next (program-of found parameters (length name)))

    abbrev with-name : List ℕ → List ℕ → CallResult
    with-name parameters name =
        needs (found_entry m.memory.modules name (regs_at m p).a) E_MNF (with-found parameters name)

    abbrev with-parameters-read : List ℕ → CallResult
    with-parameters-read parameters =
        refuses (not (asks_for_program (regs_at m p).a)) E_NEMOD (needs (module_name (name_at_x m p)) E_BNAM (with-name parameters))

    reads-left : AttemptsCall m p Call.Fork ⊎ AttemptsCall m p Call.Chain → ((program : Program) → HasRoom program → AttemptLeft m p (next program)) → AttemptLeft m p (reads_program m p next)
    reads-left starts left =
        of-refuses m p (is_unreadable (name_at_x m p)) E_BPADDR (needs (user_bytes (cells_at m p) (regs_at m p).u (regs_at m p).y) E_BPADDR with-parameters-read)
        (λ there. of-needs m p (user_bytes (cells_at m p) (regs_at m p).u (regs_at m p).y) E_BPADDR with-parameters-read
        (λ parameters parameters_are. of-refuses m p (not (asks_for_program (regs_at m p).a)) E_NEMOD (needs (module_name (name_at_x m p)) E_BNAM (with-name parameters))
        (λ asks. of-needs m p (module_name (name_at_x m p)) E_BNAM (with-name parameters)
        (λ name name_is. of-needs m p (found_entry m.memory.modules name (regs_at m p).a) E_MNF (with-found parameters name)
        (λ found found_is. of-refuses m p (not (found.entry.info.kind == program_kind)) E_NEMOD (next (program-of found parameters (length name)))
        (λ kind. left (program-of found parameters (length name))
        (record {
          fits = room-of found.entry (regs_at m p).b (length parameters);
          given = λ k byte at. record
              { starts = starts; parameters = parameters; given = parameters_are; member = (k, at) };
        })))))))

  begun-memory : (program : Program) (c : ℕ) (memory : MemoryState) → HasRoom program → started m.memory c
      program.entered.number (blocks_of_pages program.pages) ≡ Ok memory → Begun m.memory (IsParameter m p) p c
      (with_parameters (linked memory program.entered.number) c program)
  begun-memory program c memory room is =
      started-kept m.memory (IsParameter m p) p c program.entered.number (blocks_of_pages program.pages) memory
      (parameters_at program) program.parameters room.given is
      (within-area program.pages (length program.parameters) room.fits)

  -- a process begins anew, and gives up the link of its primary module
  pub chain-done : AttemptsCall m p Call.Chain → (program : Program) (memory : MemoryState) → HasRoom program
      → started m.memory p program.entered.number (blocks_of_pages program.pages) ≡ Ok memory
      → AttemptLeft m p (done (without_primary_link (begun_anew (with_program m p program memory) p program)
      (own_at m p)))
  chain-done did program memory room is = left-done m p _ (by_primary (own_at m p).primary refl)
    where
      begins : Begun m.memory (IsParameter m p) p p (with_parameters (linked memory program.entered.number) p program)
      begins = begun-memory program p memory room is

      more : HaveMore m.memory.modules (linked memory program.entered.number).modules
      more = subst (λ entries. HaveMore entries (linked memory program.entered.number).modules)
          (started-modules m.memory p program.entered.number (blocks_of_pages program.pages) memory is)
          (more-linked memory program.entered.number)

      grows : Grows m.memory (IsParameter m p) p (with_parameters (linked memory program.entered.number) p program)
      grows = record { kept = begins.kept; itself = λ object names. inr (begins.names object names) }

      -- the process begins anew, from a state of this memory and these things of its own
      anew : (n : Processes) (own : List Own) → Changed m p Ran n → ((q : ℕ) → q ≢ p → slice_index_or own q no_own ≡
          own_at n q) → n.records ≡ m.records
          → Changed m p Ran (record n { records = (begun_anew m p program).records; own = own })
      anew n own changed same still =
          changed-then m p Ran n (begun_anew m p program).records own changed
          (λ q differ. record-other (with_regs m.records p (start_regs program)) p _ q differ ∙ record-other
          m.records p _ q differ ∙ sym (ap (λ records. record_of records q) still)) same
          (simp length-set (sym (ap length still)))

      -- its modules' links
      relinked : (n : MemoryState) (primary : Option ModId) → (own_at m p).primary ≡ primary
          → n.modules ≡ without_link (linked memory program.entered.number).modules (option_map (λ (id : ModId). id.0)
          primary) → ChangesPrimary m p n
      relinked n primary at links = record {
        call = did;
        number = program.entered.number;
        relinked =
            links ∙ ap (λ (modules : List (Option ModuleEntry)). without_link modules
            (option_map (λ (id : ModId). id.0) primary)) (linked-modules m.memory memory program.entered.number
            (started-modules m.memory p program.entered.number (blocks_of_pages program.pages) memory is))
            ∙ ap (λ (primary : Option ModId). without_link (linked m.memory program.entered.number).modules (option_map (λ (id : ModId). id.0) primary)) (sym at);
      }

      by_primary : (primary : Option ModId) → (own_at m p).primary ≡ primary
          → Changed m p Ran (option_map_or (λ (id : ModId). without_module_link
          (begun_anew (with_program m p program memory) p program) id.0) primary
          (begun_anew (with_program m p program memory) p program))
      by_primary None at =
          anew (with_program m p program memory) (slice_set m.own p (start_own program))
          (changed-self m p Ran (with_parameters (linked memory program.entered.number) p program) m.records m.own
          grows.kept grows.itself (inr
          (inr (inr (inl (relinked (with_parameters (linked memory program.entered.number) p program) None at
          refl))))) (λ q differ. refl) (λ q differ. refl) refl)
          (λ q differ. own-other m p (start_own program) q differ) refl
      by_primary (Some id) at =
          anew (without_module_link (record m {
            memory = with_parameters (linked memory program.entered.number) p
                program;
            own = slice_set m.own p (start_own program);
          }) id.0)
          (without_module_link (record m {
            memory = with_parameters (linked memory program.entered.number) p
                program;
            own = slice_set m.own p (start_own program);
          }) id.0).own
          (changed-unlinked m p Ran (with_parameters (linked memory program.entered.number) p program)
          (slice_set m.own p (start_own program)) id.0 more grows (λ q differ. own-other m p (start_own program) q
          differ) (inr (inr (inr (inl
          (relinked (unlinked (with_parameters (linked memory program.entered.number) p program) id.0) (Some id)
          at refl))))))
          (λ q differ. refl) refl

  chain-left : AttemptsCall m p Call.Chain → AttemptLeft m p (f_chain m p)
  chain-left call =
      reads-left (λ program. refuses (nat_lt most_pages program.pages) E_MEMFUL (chaining program)) (inr call)
      (λ program room. of-refuses m p (nat_lt most_pages program.pages) E_MEMFUL (chaining program)
      (λ few. of-changes m p (started m.memory p program.entered.number (blocks_of_pages program.pages))
      (λ memory. done (without_primary_link (begun_anew (with_program m p program memory) p program)
      (own_at m p)))
      (λ memory is. chain-done call program memory room is)))
    where
      chaining : Program → CallResult
      chaining program = changes (started m.memory p program.entered.number (blocks_of_pages program.pages))
          (λ memory. done (without_primary_link (begun_anew (with_program m p program memory) p program)
          (own_at m p)))

  -- a child begins
  module _ (lives : IsLiving m.records p) (call : AttemptsCall m p Call.Fork) (program : Program) (child : ℕ)
      (memory : MemoryState) (room : HasRoom program) (free : free_process m.records ≡ Some child)
      (is : started m.memory child program.entered.number (blocks_of_pages program.pages) ≡ Ok memory) where
    abbrev made : Processes
    made = with_regs_of (with_child m p child program memory) p (forked_regs (regs_at m p) child program)

    abbrev forked : Processes
    forked = goes_on made p (done_regs (regs_at made p))

    begins : Begun m.memory (IsParameter m p) p child (with_parameters (linked memory program.entered.number) child program)
    begins = begun-memory program child memory room is

    is-free : Free m.records child
    is-free = free-is m.records child free

    not-child : p ≢ child
    not-child same =
        let none : record_of m.records p ≡ None = ap (record_of m.records) same ∙ is-free.none in
        let some : record_of m.records p ≡ Some (record_at m.records p) = living-record m.records p lives in cc

    -- the new record, and with its registers
    abbrev new : Record
    new = new_record (record { 0 = p }) (record_at m.records p).user (record_at m.records p).priority

    abbrev started-new : Record
    started-new = record new { regs = start_regs program }

    added : after_make m.records (record { 0 = p }) (record_at m.records p).user (record_at m.records p).priority ≡ with_record m.records child new
    added = ap (λ (found : Option ℕ). option_map_or (λ (p : ℕ). with_record m.records p new) found m.records) free

    records-made : with_child_record m.records p child program ≡ with_record (with_record m.records child new) child started-new
    records-made =
        ap (λ records. with_regs records child (start_regs program)) added
        ∙ ap (λ (r : Record). with_record (with_record m.records child new) child (record r { regs = start_regs program })) (record-put m.records child new is-free.within)

    record-then : (q : ℕ) → q ≢ p → record_of forked.records q ≡ record_of (with_record (with_record m.records child new) child started-new) q
    record-then q differ =
        record-other (with_regs made.records p (done_regs (regs_at made p))) p _ q differ ∙ record-other made.records p _ q differ
        ∙ record-other (with_child_record m.records p child program) p _ q differ ∙ ap (λ records. record_of records q) records-made

    child-made : record_of (with_record (with_record m.records child new) child started-new) child ≡ Some started-new
    child-made = get_or-set_same (with_record m.records child new) child (Some started-new) None (rw length-set is-free.within)

    fork-others : (q : ℕ) → q ≢ p → ComesOf m p Ran forked q (record_of m.records q) (record_of forked.records q)
    fork-others q differ =
        elim (cases_eq q child) [
          | inl it ↦
              subst (ComesOf m p Ran forked q (record_of m.records q)) (sym (record-then q differ))
              (subst (λ k. ComesOf m p Ran forked k (record_of m.records k) (record_of (with_record (with_record m.records child new) child started-new) k)) (sym it)
              (subst (λ old. ComesOf m p Ran forked child old (record_of (with_record (with_record m.records child new) child started-new) child)) (sym is-free.none)
              (subst (ComesOf m p Ran forked child None) (sym child-made)
              (record {
                call = call;
                number = free;
                child = refl;
                user = refl;
                priority = refl;
                runs = refl;
                no_intercept = refl;
                no_signal = refl;
                map = begins.names;
                parent_map = begins.kept.maps p not-child;
              }))))
          | inr apart ↦
              subst (ComesOf m p Ran forked q (record_of m.records q))
              (sym (record-then q differ ∙ record-other (with_record m.records child new) child (Some started-new)
              q apart ∙ record-other m.records child (Some new) q apart))
              (comes-of m p Ran forked q (record_of m.records q) (record_of m.records q) (begins.kept.maps q apart)
              (subst (KeepsOwn m p forked.memory q (own_at m q)) (sym (own-other made p _ q differ ∙ own-other m child (start_own program) q apart)) (own-same m p Ran q forked.memory (own_at m q)))
              (record-same m p Ran q (record_of m.records q)))
        ]

    pub fork-done : AttemptLeft m p (done made)
    fork-done = record {
      leaves = record {
        objects = begins.kept.objects;
        map =
            λ object names. inl (subst (λ slots. NamesBlock slots object) (begins.kept.maps p not-child) names);
        new_objects = begins.kept.new_objects;
        sizes = begins.kept.sizes;
        turns = turns-with m p m.order (record { 0 = child }) (record_at m.records p).priority is-free.none;
        others = fork-others;
        modules = begins.kept.modules;
        links =
            inr (inl (record {
              call = inr call;
              number = program.entered.number;
              more = linked-modules m.memory memory
                  program.entered.number (started-modules m.memory child program.entered.number
                  (blocks_of_pages program.pages) memory is);
            }));
      };
      places = simp length-set (ap length added ∙ simp length-set);
    }

  abbrev forking : Program → CallResult
  forking program =
      needs (free_process m.records) E_PRCFUL
      (λ child. refuses (nat_lt most_pages program.pages) E_MEMFUL
      (changes (started m.memory child program.entered.number (blocks_of_pages program.pages))
      (λ memory. done (with_regs_of (with_child m p child program memory) p (forked_regs (regs_at m p) child program)))))

  fork-left : IsLiving m.records p → AttemptsCall m p Call.Fork → AttemptLeft m p (f_fork m p)
  fork-left lives call =
      reads-left forking (inl call)
      (λ program room. of-needs m p (free_process m.records) E_PRCFUL (λ child. refuses (nat_lt most_pages program.pages) E_MEMFUL (making program child))
      (λ child free. of-refuses m p (nat_lt most_pages program.pages) E_MEMFUL (making program child)
      (λ few. of-changes m p (started m.memory child program.entered.number (blocks_of_pages program.pages))
      (λ memory. done (with_regs_of (with_child m p child program memory) p (forked_regs (regs_at m p) child
      program)))
      (λ memory is. fork-done lives call program child memory room free is))))
    where
      making : Program → ℕ → CallResult
      making program child = changes (started m.memory child program.entered.number (blocks_of_pages program.pages))
          (λ memory. done (with_regs_of (with_child m p child program memory) p (forked_regs (regs_at m p) child
          program)))

  -- ---- all calls

  pub attempt-left : (call : ProcCall) → IsLiving m.records p → AttemptsCall m p call → AttemptLeft m p (attempted call m p)
  attempt-left Call.Link lives did = link-left m p did
  attempt-left Call.UnLink lives did = unlink-left m p did
  attempt-left Call.Fork lives did = fork-left lives did
  attempt-left Call.Wait lives did = wait-left m p did
  attempt-left Call.Chain lives did = chain-left did
  attempt-left Call.Exit lives did = ended-left m p (regs_at m p).b
  attempt-left Call.Mem lives did = mem-left m p
  attempt-left Call.Send lives did = send-left m p did
  attempt-left Call.Icpt lives did = left-done m p _ (record-changed m p _)
  attempt-left Call.Sleep lives did = sleep-left m p
  attempt-left Call.Id lives did = left-done m p _ (regs-changed m p Ran m.memory _ (same m p) refl)
  attempt-left Call.SPrior lives did = sprior-left m p did
  attempt-left Call.PrsNam lives did = prsnam-left m p
  attempt-left Call.CmpNam lives did = cmpnam-left m p
  attempt-left Call.Crc lives did = crc-left m p
  attempt-left Call.SUser lives did = left-done m p _ (record-changed m p _)
  attempt-left Call.UnLoad lives did = unload-left m p did
