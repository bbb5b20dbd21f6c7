-- What the calls on the map of a process come to for the whole memory.
use Rattle.std.proofs.Common.{◌≡◌, ℕ, ◌<◌, ◌≤◌, ◌↔◌, nat_lt, Option, Result, Ok, Err, OnOk, OnErr, inl, inr, List, [], get_or, set, refl, sym, ap, ◌∙◌, subst, arith}
use Rattle.std.proofs.lemmas.List.{get_or_default, set-get_or}
use Rattle.std.proofs.lemmas.Bool.{cases_lt, cases_Bool, cond-true, cond-false, lt-ltb, le-ltb, false≢true}
use Rattle.block_map.specs.TakenBlocks.{NamesLiveBlocks, GainsLow, pool_after_giving}
use Rattle.block_map.specs.declared.map.MapFault.{MapFault}
use Rattle.block_map.specs.declared.map.MapFault.TheVariants.{NoSlot, NoBlock}
use Rattle.block_pool.specs.Blocks.{Blocks, IsPool, free_block_count}
use Rattle.proc_model.specs.declared.group.BlockId.{BlockId}
use Rattle.proc_model.specs.declared.memory.MemoryFault.TheVariants.{MemFull, NoRam}
use Rattle.proc_model.specs.Memory.{MemoryState}
use Rattle.proc_model.specs.MemoryChanges.{grown, cut, cleared, map_cut}
use Rattle.proc_model.specs.ModuleList.{ModuleEntry}
use Rattle.proc_model.specs.Slots.{Slots, IsMap, IsFreeRun, no_slots, blocks_in, blocks_between, cut_low_to, is_free_run}
use Rattle.guest_memory.specs.Memory.{RepresentMemory}
use Rattle.guest_memory.specs.Sound.{IsSoundMemory}
use Rattle.guest_memory.proofs.Keeping.{map_of, held_at, names_live}
use Rattle.guest_memory.proofs.Runs.{is_free_run-iff}
use Rattle.guest_memory.proofs.DataArea.{IsSound-cleared, represent-cleared, IsSound-cut, represent-cut, grown-full, grown-no_ram, grown-ok, with_growth, IsSound-grown, represent-grown}

module _ (pool : Blocks) (maps : List (Slots BlockId)) (entries : List (Option ModuleEntry))
    (sound : IsSoundMemory pool maps entries) (process : ℕ) (within : process < 33) (old : Slots BlockId)
    (at : old ≡ get_or maps process old) where
  -- the map that was borrowed is that of the process
  pub is_map_of : old ≡ map_of pool maps entries sound process
  is_map_of = at ∙ get_or_default maps process old no_slots (omega (arith, sound.processes))

  pub live : NamesLiveBlocks old pool
  live = subst (λ (s : Slots BlockId). NamesLiveBlocks s pool) (sym is_map_of) (names_live pool maps entries sound process)

  pub unchanged : set maps process old ≡ maps
  unchanged = ap (set maps process) is_map_of ∙ set-get_or maps process no_slots

  -- ---- clear

  pub sound-clear : (new : Slots BlockId) (after : Blocks) → new ≡ no_slots → after ≡ pool_after_giving pool
      (blocks_in old.places) → IsMap new → (IsPool pool → IsPool after) → IsSoundMemory after (set maps process new) entries
  sound-clear new after empty given shape pool_is =
      subst (λ (s : Slots BlockId). IsSoundMemory after (set maps process s) entries) (sym empty)
      (IsSound-cleared pool maps entries sound process within after
      (given ∙ ap (λ (s : Slots BlockId). pool_after_giving pool (blocks_in s.places)) is_map_of)
      (pool_is sound.shape) (subst IsMap empty shape))

  pub tied-clear : (new : Slots BlockId) (after : Blocks) → new ≡ no_slots → after ≡ pool_after_giving pool
      (blocks_in old.places) → (m : MemoryState) → RepresentMemory pool maps entries m → RepresentMemory after
      (set maps process new) entries (cleared m process)
  tied-clear new after empty given m tied =
      subst (λ (s : Slots BlockId). RepresentMemory after (set maps process s) entries (cleared m process)) (sym empty)
      (represent-cleared pool maps entries sound process within after (given ∙ ap (λ (s : Slots BlockId). pool_after_giving pool (blocks_in s.places)) is_map_of) m tied)

  -- ---- cut

  module _ (count : ℕ) (new : Slots BlockId) (after : Blocks) (whole : old.low ≤ count → (new ≡ old) × (after ≡ pool))
      (cut_is : count < old.low → new ≡ cut_low_to old count) (given : count < old.low → after ≡ pool_after_giving
      pool (blocks_between old count old.low)) where
    given_low : count < old.low → after ≡ pool_after_giving pool (blocks_between (map_of pool maps entries sound process) count (map_of pool maps entries sound process).low)
    given_low shorter = given shorter ∙ ap (λ (s : Slots BlockId). pool_after_giving pool (blocks_between s count s.low)) is_map_of

    cut_low : count < old.low → new ≡ cut_low_to (map_of pool maps entries sound process) count
    cut_low shorter = cut_is shorter ∙ ap (λ (s : Slots BlockId). cut_low_to s count) is_map_of

    low_is : old.low ≡ (map_of pool maps entries sound process).low
    low_is = ap (λ (s : Slots BlockId). s.low) is_map_of

    pub sound-cut : NamesLiveBlocks new after → IsMap new → (IsPool pool → IsPool after) → IsSoundMemory after (set maps process new) entries
    sound-cut live_after shape pool_is =
        elim (cases_lt count old.low) [
          | inl shorter ↦
              let is = cut_low shorter in
              subst (λ (s : Slots BlockId). IsSoundMemory after (set maps process s) entries) (sym is)
              (IsSound-cut pool maps entries sound process within count after (omega (arith, low_is))
              (given_low shorter) (pool_is sound.shape) (subst IsMap is shape)
              (subst (λ (s : Slots BlockId). NamesLiveBlocks s after) is live_after))
          | inr long ↦
              let kept = whole long in
              subst (λ (p : Blocks). IsSoundMemory p (set maps process new) entries) (sym kept.1)
              (subst (λ (all : List (Slots BlockId)). IsSoundMemory pool all entries) (sym (ap (set maps process) kept.0 ∙ unchanged)) sound)
        ]

    pub tied-cut : (m : MemoryState) → RepresentMemory pool maps entries m → RepresentMemory after (set maps process new) entries (cut m process count)
    tied-cut m tied =
        elim (cases_lt count old.low) [
          | inl shorter ↦
              let is : map_cut (map_of pool maps entries sound process) count ≡ new = cond-true
              (nat_lt count (map_of pool maps entries sound process).low) _ _
              (lt-ltb count (map_of pool maps entries sound process).low (omega (arith, low_is))) ∙ sym
              (cut_low shorter) in
              subst (λ (s : Slots BlockId). RepresentMemory after (set maps process s) entries (cut m process count)) is
              (represent-cut pool maps entries sound process within count after (blocks_between old count old.low) (given shorter) m tied)
          | inr long ↦
              let kept = whole long in
              let is : map_cut (map_of pool maps entries sound process) count ≡ new = cond-false
              (nat_lt count (map_of pool maps entries sound process).low) _ _
              (le-ltb count (map_of pool maps entries sound process).low (omega (arith, low_is))) ∙ sym is_map_of
              ∙ sym kept.0 in
              subst (λ (s : Slots BlockId). RepresentMemory after (set maps process s) entries (cut m process count)) is
              (represent-cut pool maps entries sound process within count after [] kept.1 m tied)
        ]

  -- ---- grow

  module _ (count : ℕ) (result : Result (Unit {0}) MapFault) (new : Slots BlockId) (after : Blocks)
      (no_slot : (result ≡ Err NoSlot) ↔ (IsFreeRun old old.low count → ⊥)) (no_block : (result ≡ Err NoBlock) ↔
      (IsFreeRun old old.low count × (free_block_count pool < count)))
      (refused : OnErr result ((new ≡ old) × (after ≡ pool)))
      (gains : OnOk result (GainsLow count old pool new after)) where
    abbrev slots : Slots BlockId
    slots = map_of pool maps entries sound process

    run_of : IsFreeRun old old.low count → IsFreeRun slots slots.low count
    run_of = subst (λ (s : Slots BlockId). IsFreeRun s s.low count) is_map_of

    run_back : IsFreeRun slots slots.low count → IsFreeRun old old.low count
    run_back = subst (λ (s : Slots BlockId). IsFreeRun s s.low count) (sym is_map_of)

    gained_of : GainsLow count old pool new after → GainsLow count slots pool new after
    gained_of = subst (λ (s : Slots BlockId). GainsLow count s pool new after) is_map_of

    -- where the call was done the slots were free
    run_ok : (result ≡ Err NoSlot → ⊥) → IsFreeRun slots slots.low count
    run_ok done =
        elim (cases_Bool (is_free_run slots slots.low count)) [
          | inl passed ↦ (is_free_run-iff slots (held_at pool maps entries sound process within).map.eight_places slots.low count).0 passed
          | inr failed ↦
              absurd (done (no_slot.1 (λ run. false≢true (sym failed ∙ (is_free_run-iff slots (held_at pool maps entries sound process within).map.eight_places slots.low count).1 (run_of run)))))
        ]

    pub sound-grow : IsMap new → IsSoundMemory after (set maps process new) entries
    sound-grow shape = by_result result refl refused gains
      where
        by_result : (answer : Result (Unit {0}) MapFault) → result ≡ answer
            → OnErr answer ((new ≡ old) × (after ≡ pool)) → OnOk answer (GainsLow count old pool new after)
            → IsSoundMemory after (set maps process new) entries
        by_result (Ok done) is refused gains =
            IsSound-grown pool maps entries sound process within count new after (run_ok (λ no. cc)) (gained_of gains) shape
        by_result (Err fault) is kept gains =
            subst (λ (p : Blocks). IsSoundMemory p (set maps process new) entries) (sym kept.1)
            (subst (λ (all : List (Slots BlockId)). IsSoundMemory pool all entries) (sym (ap (set maps process) kept.0 ∙ unchanged)) sound)

    -- a refusal leaves what is represented
    kept-tied : (new ≡ old) × (after ≡ pool) → (m : MemoryState) → RepresentMemory pool maps entries m → RepresentMemory after (set maps process new) entries m
    kept-tied kept m tied =
        subst (λ (p : Blocks). RepresentMemory p (set maps process new) entries m) (sym kept.1)
        (subst (λ (all : List (Slots BlockId)). RepresentMemory pool all entries m) (sym (ap (set maps process) kept.0 ∙ unchanged)) tied)

    pub grow-full : result ≡ Err NoSlot → (m : MemoryState) → RepresentMemory pool maps entries m → (grown m process count ≡ Err MemFull) × RepresentMemory after (set maps process new) entries m
    grow-full is m tied = (
      grown-full pool maps entries sound process within count (λ run. no_slot.0 is (run_back run)) m tied,
      kept-tied (subst (λ (r : Result (Unit {0}) MapFault). OnErr r ((new ≡ old) × (after ≡ pool))) is refused)
          m tied,
    )

    pub grow-no_ram : result ≡ Err NoBlock → (m : MemoryState) → RepresentMemory pool maps entries m → (grown m process count ≡ Err NoRam) × RepresentMemory after (set maps process new) entries m
    grow-no_ram is m tied =
        let why = no_block.0 is in (
          grown-no_ram pool maps entries sound process within count (run_of why.0) why.1 m tied,
          kept-tied
              (subst (λ (r : Result (Unit {0}) MapFault). OnErr r ((new ≡ old) × (after ≡ pool))) is refused) m tied,
        )

    pub grow-ok : result ≡ Ok tt → (m : MemoryState) → RepresentMemory pool maps entries m
        → (grown m process count ≡ Ok (with_growth pool maps entries sound process within m count)) × RepresentMemory
        after (set maps process new) entries (with_growth pool maps entries sound process within m count)
    grow-ok is m tied =
        let run = run_ok (λ no. cc) in
        let enough : count ≤ free_block_count pool = elim (cases_lt (free_block_count pool) count) [
          | inl few ↦ absurd (let no : result ≡ Err NoBlock = no_block.1 (run_back run, few) in cc)
          | inr enough ↦ enough
        ] in (
          grown-ok pool maps entries sound process within count run enough m tied,
          represent-grown pool maps entries sound process within count new after run
              (gained_of (subst (λ (r : Result (Unit {0}) MapFault). OnOk r (GainsLow count old pool new after)) is
              gains)) m tied,
        )
