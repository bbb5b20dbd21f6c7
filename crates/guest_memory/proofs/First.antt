-- The memory of a machine in which nothing has appeared.
use Rattle.std.proofs.Common.{◌≡◌, ℕ, zero, suc, ◌<◌, Option, Some, None, List, [], ◌∷◌, ◌++◌, length, get_or, replicate, map, flat_map, inl, inr, refl, sym, ap, ◌∙◌, subst, arith}
use Rattle.std.proofs.lemmas.List.{length-replicate, get_or-replicate, get_or_past}
use Rattle.std.proofs.lemmas.List.Elements.{All-replicate}
use Rattle.std.proofs.lemmas.Option.{none-some}
use Rattle.std.proofs.lemmas.Bool.{cases_lt}
use Rattle.block_pool.specs.Blocks.{Blocks, IsPool, reference_count}
use Rattle.block_map.proofs.Places.{at-cleared}
use Rattle.proc_model.specs.declared.group.BlockId.{BlockId}
use Rattle.proc_model.specs.Memory.{first_memory}
use Rattle.proc_model.specs.ModuleList.{ModuleEntry, module_entry_at, entered_groups}
use Rattle.proc_model.specs.Slots.{Slots, IsMap, no_slots}
use Rattle.guest_memory.specs.Memory.{RepresentMemory}
use Rattle.guest_memory.specs.References.{times, references, mapped_blocks}
use Rattle.guest_memory.specs.Renaming.{renamed_map, renamed_modules}
use Rattle.guest_memory.specs.Sound.{IsSoundMap, IsSoundMemory}

no_entry : (n number : ℕ) (entry : ModuleEntry) → module_entry_at (replicate n None) number ≡ Some entry → ⊥
no_entry zero number entry is = none-some entry is
no_entry (suc n) zero entry is = none-some entry is
no_entry (suc n) (suc number) entry is = no_entry n number entry is

no_groups : (n : ℕ) → entered_groups (replicate n None) ≡ []
no_groups zero = refl
no_groups (suc n) = no_groups n

no_names : (n : ℕ) → flat_map mapped_blocks (replicate n no_slots) ≡ []
no_names zero = refl
no_names (suc n) = no_names n

no_places : (slot : ℕ) (id : BlockId) → get_or (replicate 8 None) slot None ≡ Some id → ⊥
no_places slot id is = at-cleared 8 slot id is

no_group_begins : (slot len : ℕ) → get_or {A = Option ℕ} (replicate 8 None) slot None ≡ Some len → ⊥
no_group_begins slot len is =
    elim (cases_lt slot 8) [
      | inl below ↦ none-some len (sym (get_or-replicate {A = Option ℕ} 8 slot None None below) ∙ is)
      | inr past ↦ none-some len (sym (get_or_past {X = Option ℕ} (replicate 8 None) slot None past) ∙ is)
    ]

IsMap-none : IsMap {Block = BlockId} no_slots
IsMap-none = record {
  eight_places = refl;
  eight_groups = refl;
  low_fits = omega arith;
  group_fits = λ slot len is. absurd (no_group_begins slot len is);
  once = λ slot other id here there. absurd (no_places slot id here);
}

IsHeld-none : (pool : Blocks) (entries : List (Option ModuleEntry)) → IsSoundMap pool entries no_slots
IsHeld-none pool entries = record {
  map = IsMap-none;
  full = λ slot low. absurd (omega arith);
  alone = λ slot id low is. absurd (omega arith);
  grouped = λ number entry is slot k id named inside same. absurd (no_places slot id named);
}

count-none : (n block : ℕ) → get_or {A = ℕ} (replicate n 0) block 0 ≡ 0
count-none zero block = refl
count-none (suc n) zero = refl
count-none (suc n) (suc block) = count-none n block

module _ (blocks : ℕ) (pool : Blocks) (maps : List (Slots BlockId)) (entries : List (Option ModuleEntry))
    (unnamed : pool.counts ≡ replicate blocks 0) (shape : IsPool pool) (maps_are : maps ≡ replicate 33 no_slots)
    (entries_are : entries ≡ replicate 64 None) where
  none : (block : ℕ) → reference_count pool block ≡ 0
  none block = ap (λ (counts : List ℕ). get_or counts block 0) unnamed ∙ count-none blocks block

  references-none : references maps entries ≡ []
  references-none =
      (λ i. flat_map mapped_blocks (maps_are i) ++ flat_map (λ group. group) (entered_groups (entries_are i)))
      ∙ (λ i. no_names 33 i ++ flat_map (λ (group : List ℕ). group) (no_groups 64 i))

  pub sound-first : IsSoundMemory pool maps entries
  sound-first = record {
    shape = shape;
    processes = ap (λ (all : List (Slots BlockId)). length all) maps_are ∙ length-replicate {A = Slots BlockId} 33 no_slots;
    numbers = ap (λ (all : List (Option ModuleEntry)). length all) entries_are ∙ length-replicate {A = Option ModuleEntry} 64 None;
    counted = λ block. none block ∙ sym (ap (times block) references-none);
    held = subst (λ (all : List (Slots BlockId)). (k : ℕ) (d : Slots BlockId) → k < length all → IsSoundMap pool entries
        (get_or all k d)) (sym maps_are) (All-replicate (IsSoundMap pool entries) 33 no_slots (IsHeld-none pool entries));
    groups = record {
      each = λ number entry is. absurd (no_entry 64 number entry (ap (λ (all : List (Option ModuleEntry)). module_entry_at all number) (sym entries_are) ∙ is));
      same = λ number other entry another is is_too block has has_too. absurd (no_entry 64 number entry (ap (λ (all : List (Option ModuleEntry)). module_entry_at all number) (sym entries_are) ∙ is));
    };
  }

  maps-none : (n : ℕ) → map (renamed_map (λ block. block)) (replicate n no_slots) ≡ replicate n no_slots
  maps-none zero = refl
  maps-none (suc n) = ap (λ (rest : List (Slots ℕ)). no_slots ∷ rest) (maps-none n)

  modules-none : (n : ℕ) → renamed_modules (λ block. block) (replicate n None) ≡ replicate n None
  modules-none zero = refl
  modules-none (suc n) = ap (λ (rest : List (Option ModuleEntry)). None ∷ rest) (modules-none n)

  pub tied-first : RepresentMemory pool maps entries (first_memory blocks)
  tied-first = record {
    number = λ block. block;
    objects = [];
    represent = record {
      same_bytes = λ block live. absurd (omega (arith, none block));
      apart = λ one other live live_too same. absurd (omega (arith, none one));
    };
    is = λ i. record {
      blocks = sym (ap (λ (counts : List ℕ). length counts) unnamed ∙ length-replicate blocks 0) i;
      objects = [];
      maps = sym (ap (map (renamed_map (λ block. block))) maps_are ∙ maps-none 33) i;
      modules = sym (ap (renamed_modules (λ block. block)) entries_are ∙ modules-none 64) i;
    };
  }
