-- What a run of instructions comes to for the whole memory.
use Rattle.std.proofs.Common.{◌≡◌, ℕ, zero, suc, ◌<◌, ◌==◌, ◌&&◌, eqb, Bool, true, false, Option, Some, is_some, List, [], ◌∷◌, ◌++◌, get_or, inl, inr, refl, sym, ap, ◌∙◌, subst, arith}
use Rattle.std.specs.Prelude.{if◌then◌else◌}
use Rattle.std.proofs.lemmas.Bool.{cases_eq, cond-false, ne_eqb, and_from}
use Rattle.os9_base.specs.declared.registers.Regs.{Regs}
use Rattle.os9_base.specs.Cells.{Cells, put_cell}
use Rattle.cpu_model.specs.declared.stop.Stop.{Stop}
use Rattle.cpu_model.specs.declared.stop.Stop.TheVariants.{Next, Call, Abort}
use Rattle.cpu_model.specs.Step.{Outcome, Done, Calls, Aborts, LeavesCells, step_of, all_named, write_cells}
use Rattle.cpu6809.specs.declared.execution.Ran.{Ran}
use Rattle.cpu6809.specs.Running.{InstructionsFollow, EndsAfter, Runs}
use Rattle.block_pool.specs.Blocks.{Blocks}
use Rattle.block_map.specs.Window.{map_cells, SameBeyond}
use Rattle.proc_model.specs.declared.group.BlockId.{BlockId}
use Rattle.proc_model.specs.Memory.{MemoryState, map_at}
use Rattle.proc_model.specs.MemoryChanges.{written}
use Rattle.proc_model.specs.ModuleList.{ModuleEntry}
use Rattle.proc_model.specs.Objects.{with_cell, with_writes}
use Rattle.guest_memory.proofs.Objects.{NamesObjects, with_writes-tied}
use Rattle.proc_model.specs.Slots.{Slots}
use Rattle.guest_memory.specs.Memory.{RepresentMemory}
use Rattle.guest_memory.specs.Sound.{IsSoundMemory}
use Rattle.guest_memory.proofs.Keeping.{map_of, held_at, names_live}
use Rattle.guest_memory.proofs.Naming.{map_at-memory_of}
use Rattle.guest_memory.proofs.Stores.{IsMap-renamed}
use Rattle.guest_memory.proofs.Writing.{cells-tied, represent-written, IsSound-written}
use Rattle.guest_memory.specs.Running.{cells_seen, LeavesMemory, ExecutesInMemory, FollowInMemory, EndsInMemory, RunsInMemory}
use Rattle.guest_memory.proofs.MapCalls.{is_map_of}
use Rattle.guest_memory.proofs.NamedSteps.{all_named-step}

-- ---- writes after writes

both_true : (a b : Bool) → (a && b) ≡ true → (a ≡ true) × (b ≡ true)
both_true true b is = (refl, is)
both_true false b is = cc

write_cells-then : (cells : Cells) (first rest : List (ℕ × ℕ)) → write_cells cells (first ++ rest) ≡ write_cells (write_cells cells first) rest
write_cells-then cells [] rest = refl
write_cells-then cells (w ∷ ws) rest = write_cells-then (put_cell cells w.0 w.1) ws rest

with_writes-then : (objects : List (List ℕ)) (places : List (Option ℕ)) (first rest : List (ℕ × ℕ))
    → with_writes objects places (first ++ rest) ≡ with_writes (with_writes objects places first) places rest
with_writes-then objects places [] rest = refl
with_writes-then objects places (w ∷ ws) rest = with_writes-then (with_cell objects places w.0 w.1) places ws rest

all_named-then : (cells : Cells) (first rest : List (ℕ × ℕ)) → all_named cells first ≡ true → all_named cells rest ≡ true → all_named cells (first ++ rest) ≡ true
all_named-then cells [] rest before after = after
all_named-then cells (w ∷ ws) rest before after =
    let parts = both_true (is_some (cells w.0)) (all_named cells ws) before in
    and_from (is_some (cells w.0)) (all_named cells (ws ++ rest)) parts.0 (all_named-then cells ws rest parts.1 after)

-- a write leaves every named cell named
named_after : (cells : Cells) (at byte address : ℕ) → is_some (cells address) ≡ true → is_some (put_cell cells at byte address) ≡ true
named_after cells at byte address named = by_test (eqb address at)
  where
    by_test : (test : Bool) → is_some (if test then Some byte else cells address) ≡ true
    by_test true = refl
    by_test false = named

all_named_after : (cells : Cells) (at byte : ℕ) (writes : List (ℕ × ℕ)) → all_named cells writes ≡ true → all_named (put_cell cells at byte) writes ≡ true
all_named_after cells at byte [] named = refl
all_named_after cells at byte (write ∷ writes) named =
    let parts = both_true (is_some (cells write.0)) (all_named cells writes) named in
    and_from (is_some (put_cell cells at byte write.0)) (all_named (put_cell cells at byte) writes) (named_after cells at byte write.0 parts.0) (all_named_after cells at byte writes parts.1)

-- writes to named cells name no other
named_before : (cells : Cells) (writes : List (ℕ × ℕ)) (address : ℕ) → all_named cells writes ≡ true → is_some (write_cells cells writes address) ≡ true → is_some (cells address) ≡ true
named_before cells [] address all named = named
named_before cells (w ∷ ws) address all named =
    let parts = both_true (is_some (cells w.0)) (all_named cells ws) all in
    let put : is_some (put_cell cells w.0 w.1 address) ≡ true = named_before (put_cell cells w.0 w.1) ws address (all_named_after cells w.0 w.1 ws parts.1) named in
    elim (cases_eq address w.0) [
      | inl same ↦ ap (λ (a : ℕ). is_some (cells a)) same ∙ parts.0
      | inr apart ↦ ap is_some (sym (cond-false (address == w.0) (Some w.1) (cells address) (ne_eqb address w.0 apart))) ∙ put
    ]

all_named_before : (cells : Cells) (first rest : List (ℕ × ℕ)) → all_named cells first ≡ true → all_named (write_cells cells first) rest ≡ true → all_named cells rest ≡ true
all_named_before cells first [] before after = refl
all_named_before cells first (w ∷ ws) before after =
    let parts = both_true (is_some (write_cells cells first w.0)) (all_named (write_cells cells first) ws) after in
    and_from (is_some (cells w.0)) (all_named cells ws) (named_before cells first w.0 before parts.0) (all_named_before cells first ws before parts.1)

-- ---- instructions of a process

module _ (process : ℕ) where
  abbrev NamesOwn : MemoryState → Type 0
  NamesOwn m = NamesObjects m.objects (map_at m process).places

  -- an instruction that the next one follows
  abbrev One : Cells → MemoryState → Regs → Regs → Cells → Type 0
  One cells m r next held =
      (writes : List (ℕ × ℕ)) × (all_named cells writes ≡ true) × (held ≡ write_cells cells writes)
      × ExecutesInMemory process Next r m next (written m process writes)

  one : (cells : Cells) (m : MemoryState) (r next : Regs) (held : Cells) → cells_seen m process ≡ cells
      → LeavesCells (step_of cells r) Next r next cells held → One cells m r next held
  one cells m r next held seen left = by_outcome (step_of cells r) refl left
    where
      by_outcome : (outcome : Outcome) → step_of cells r ≡ outcome → LeavesCells outcome Next r next cells held → One cells m r next held
      by_outcome (Calls code past) is left = cc (left.0)
      by_outcome (Aborts status) is left = cc (left.0)
      by_outcome (Done effect) is left = (
        effect.writes,
        all_named-step cells r effect is,
        left.2,
        subst (λ (outcome : Outcome). LeavesMemory process outcome Next r m next (written m process effect.writes))
            (sym (ap (λ (c : Cells). step_of c r) seen ∙ is)) (refl, left.1, refl),
      )

  -- what instructions that follow one another have written
  record Wrote (cells : Cells) (m : MemoryState) (k : ℕ) (r last : Regs) (held : Cells) : Type 0 where
    pub writes : List (ℕ × ℕ)
    pub named : all_named cells writes ≡ true
    pub is : held ≡ write_cells cells writes
    pub follow : FollowInMemory process k r m last (written m process writes)
    pub seen : cells_seen (written m process writes) process ≡ held

  many : (k : ℕ) (cells : Cells) (m : MemoryState) (r last : Regs) (held : Cells) → cells_seen m process ≡ cells
      → NamesOwn m → InstructionsFollow k r cells last held → Wrote cells m k r last held
  many zero cells m r last held seen names done = record {
    writes = [];
    named = refl;
    is = done.1;
    follow = (done.0, refl);
    seen = seen ∙ sym done.1;
  }
  many (suc k) cells m r last held seen names (next, mid, first, rest) =
      let step = one cells m r next mid seen first in
      let tied = with_writes-tied m.objects (map_at m process).places step.0 names (ap (λ (c : Cells). all_named c step.0) seen ∙ step.1) in
      let now : MemoryState = written m process step.0 in
      let sees : cells_seen now process ≡ mid = tied.1 ∙ ap (λ (c : Cells). write_cells c step.0) seen ∙ sym step.2 in
      let after = many k mid now next last held sees tied.0 rest in
      let same : written now process after.writes ≡ written m process (step.0 ++ after.writes) = ap
      (λ (objects : List (List ℕ)). record m { objects = objects })
      (sym (with_writes-then m.objects (map_at m process).places step.0 after.writes)) in
      record {
        writes = step.0 ++ after.writes;
        named = all_named-then cells step.0 after.writes step.1 (all_named_before cells step.0 after.writes step.1 (ap (λ (c : Cells). all_named c after.writes) (sym step.2) ∙ after.named));
        is = after.is ∙ ap (λ (c : Cells). write_cells c after.writes) step.2 ∙ sym (write_cells-then cells step.0 after.writes);
        follow = (next, now, step.3, subst (λ (t : MemoryState). FollowInMemory process k next now last t) same after.follow);
        seen = ap (λ (t : MemoryState). cells_seen t process) (sym same) ∙ after.seen;
      }

  -- an instruction that the next one does not follow
  stopped : (stop : Stop) (held : Cells) (m : MemoryState) (r after : Regs) (now : Cells) → (stop ≡ Next → ⊥) → cells_seen m process ≡ held
      → LeavesCells (step_of held r) stop r after held now → ExecutesInMemory process stop r m after m × (now ≡ held)
  stopped stop held m r after now not_next seen left = by_outcome (step_of held r) refl left
    where
      executes : (outcome : Outcome) → step_of held r ≡ outcome → LeavesMemory process outcome stop r m after m → ExecutesInMemory process stop r m after m
      executes outcome is does = subst (λ (o : Outcome). LeavesMemory process o stop r m after m) (sym (ap (λ (c : Cells). step_of c r) seen ∙ is)) does

      by_outcome : (outcome : Outcome) → step_of held r ≡ outcome → LeavesCells outcome stop r after held now → ExecutesInMemory process stop r m after m × (now ≡ held)
      by_outcome (Done effect) is left = absurd (not_next left.0)
      by_outcome (Calls code past) is left = (executes (Calls code past) is (left.0, left.1, refl), left.2)
      by_outcome (Aborts status) is left = (executes (Aborts status) is (left.0, left.1, refl), left.2)

  ends : (n followed : ℕ) (stop : Stop) (held : Cells) (m : MemoryState) (r after : Regs) (now : Cells) → cells_seen m process ≡ held
      → EndsAfter n followed stop r held after now → EndsInMemory process n followed stop r m after m × (now ≡ held)
  ends n followed Next held m r after now seen (all, same, none) = ((all, same, refl), none)
  ends n followed (Call code) held m r after now seen (some, left) =
      let end = stopped (Call code) held m r after now (λ e. cc) seen left in ((some, end.0), end.1)
  ends n followed (Abort status) held m r after now seen (some, left) =
      let end = stopped (Abort status) held m r after now (λ e. cc) seen left in ((some, end.0), end.1)

-- ---- the whole memory

module _ (pool after : Blocks) (maps : List (Slots BlockId)) (entries : List (Option ModuleEntry))
    (sound : IsSoundMemory pool maps entries) (process : ℕ) (within : process < 33) (old seen now : Slots BlockId)
    (at : old ≡ get_or maps process old) (seen_is : seen ≡ old) (now_is : now ≡ seen) (before : Blocks)
    (before_is : before ≡ pool) (beyond : SameBeyond seen before after) where
  abbrev slots : Slots BlockId
  slots = map_of pool maps entries sound process

  map_is : seen ≡ slots
  map_is = seen_is ∙ is_map_of pool maps entries sound process within old at

  beyond_is : SameBeyond slots pool after
  beyond_is = subst (λ (p : Blocks). SameBeyond slots p after) before_is (subst (λ (s : Slots BlockId). SameBeyond s before after) map_is beyond)

  pub sound-run : IsSoundMemory after maps entries
  sound-run = IsSound-written pool after maps entries sound (beyond_is.shape sound.shape) beyond_is.counts

  names_own : (m : MemoryState) → RepresentMemory pool maps entries m → NamesOwn process m
  names_own m tied =
      let live = names_live pool maps entries sound process in
      let held = held_at pool maps entries sound process within in
      subst (λ (s : MemoryState). NamesObjects s.objects (map_at s process).places) (sym tied.is)
      (subst (λ (s : Slots ℕ). NamesObjects tied.objects s.places) (sym (map_at-memory_of tied.number pool maps entries tied.objects process (omega (arith, sound.processes))))
      (IsMap-renamed tied.number slots pool tied.objects tied.represent live held.map))

  pub tied-run : (n : ℕ) (ran : Ran) (r left : Regs) → Runs n ran r (map_cells seen before) left (map_cells now after) → (m : MemoryState) → RepresentMemory pool maps entries m
      → (t : MemoryState) × RunsInMemory process n ran r m left t × RepresentMemory after maps entries t
  tied-run n ran r left runs m tied =
      let cells : Cells = map_cells slots pool in
      let same : map_cells seen before ≡ cells = λ i. map_cells (map_is i) (before_is i) in
      let run : Runs n ran r cells left (map_cells now after) = subst (λ (c : Cells). Runs n ran r c left (map_cells now after)) same runs in
      let sees = cells-tied pool after maps entries sound process within beyond_is m tied in
      let wrote = many process ran.followed cells m r run.0 run.1 sees (names_own m tied) run.2 in
      let t : MemoryState = written m process wrote.writes in
      let end = ends process n ran.followed ran.stop run.1 t run.0 left (map_cells now after) wrote.seen run.3 in
      let stored : map_cells slots after ≡ write_cells cells wrote.writes = ap (λ (s : Slots BlockId). map_cells s after) (sym (now_is ∙ map_is)) ∙ end.1 ∙ wrote.is in (
        t,
        (run.0, t, wrote.follow, end.0),
        represent-written pool after maps entries sound process within beyond_is wrote.writes wrote.named stored m tied,
      )
