-- A link that is given up, in the module directory of blocks and in that of objects.
use Rattle.std.proofs.Common.{◌≡◌, ◌≢◌, ℕ, zero, suc, ◌+◌, ◌-◌, ◌<◌, ◌≤◌, ◌&&◌, ◌||◌, nat_eq, nat_lt, not, Bool, true, false, Option, Some, None, option_map, ◌⊎◌, inl, inr, List, [], ◌∷◌, length, get_or, map, All, AllPairs, refl, sym, ap, ◌∙◌, subst, arith}
use Rattle.std.specs.Prelude.{if◌then◌else◌}
use Rattle.std.specs.Option.{option_map_or}
use Rattle.std.specs.Cmp.Lexicographic.{pointwise}
use Rattle.std.proofs.lemmas.List.{map-set, length-map, get_or-map, get_or_default}
use Rattle.std.proofs.lemmas.Option.{none-some, same_Some}
use Rattle.block_pool.specs.Blocks.{Blocks, IsPool, IsLive, reference_count}
use Rattle.block_map.specs.TakenBlocks.{pool_after_giving}
use Rattle.proc_model.specs.declared.group.BlockId.{BlockId}
use Rattle.proc_model.specs.Memory.{MemoryState}
use Rattle.proc_model.specs.MemoryChanges.{unlinked, is_group_leaving}
use Rattle.proc_model.specs.ModuleList.{ModuleEntry, module_entry_at, is_of_group, is_in_use, place_without_group, modules_without_group, with_module_entry, entry_unlinked, with_unlinked, is_leaving, after_unlink, without_link}
use Rattle.proc_model.specs.Slots.{Slots}
use Rattle.guest_memory.specs.Memory.{memory_of, RepresentMemory}
use Rattle.guest_memory.specs.Renaming.{RepresentObjects, renamed_entry, renamed_modules}
use Rattle.guest_memory.specs.Sound.{IsGrouped, IsSoundMemory}
use Rattle.guest_memory.proofs.Times.{numbers_of}
use Rattle.guest_memory.proofs.Changes.{represent-given_all, length-given_all}
use Rattle.guest_memory.proofs.Directory.{entry_at-renamed, kept-less}
use Rattle.guest_memory.proofs.Keeping.{group_live}
use Rattle.guest_memory.proofs.Naming.{AreLive, pointwise-renamed, groups_are_live}

module _ (number : ℕ → ℕ) (Live : ℕ → Type 0) (apart : (one other : ℕ) → Live one → Live other → number one ≡ number other → one ≡ other) (group : List ℕ) (live : All Live group) where
  is_in_use-renamed : (entries : List (Option ModuleEntry)) → AreLive number Live apart entries → is_in_use (renamed_modules number entries) (map number group) ≡ is_in_use entries group
  is_in_use-renamed [] each = refl
  is_in_use-renamed (None ∷ entries) each = is_in_use-renamed entries (λ n. each (suc n))
  is_in_use-renamed (Some entry ∷ entries) each =
      λ i. (pointwise-renamed number Live apart group entry.group live (each 0 entry refl) i && nat_lt 0 entry.links) || is_in_use-renamed entries (λ n. each (suc n)) i

  without_group-renamed : (entries : List (Option ModuleEntry)) → AreLive number Live apart entries
      → modules_without_group (renamed_modules number entries) (map number group) ≡ renamed_modules number
      (modules_without_group entries group)
  without_group-renamed [] each = refl
  without_group-renamed (None ∷ entries) each = ap (λ (rest : List (Option ModuleEntry)). None ∷ rest) (without_group-renamed entries (λ n. each (suc n)))
  without_group-renamed (Some entry ∷ entries) each =
      λ i. (ap (λ (test : Bool). if test then None else Some (renamed_entry number entry))
      (pointwise-renamed number Live apart group entry.group live (each 0 entry refl)) ∙ by_test
      (pointwise nat_eq group entry.group)) i ∷ without_group-renamed entries (λ n. each (suc n)) i
    where
      by_test : (test : Bool) → (if test then None else Some (renamed_entry number entry)) ≡ option_map (renamed_entry number) (if test then None else Some entry)
      by_test true = refl
      by_test false = refl

module _ (pool : Blocks) (maps : List (Slots BlockId)) (entries : List (Option ModuleEntry))
    (sound : IsSoundMemory pool maps entries) (place : ℕ) (entry : ModuleEntry) (is : module_entry_at entries place ≡ Some
    entry) where
  module _ (number : ℕ → ℕ) (objects : List (List ℕ)) (represent : RepresentObjects number pool objects) where
    group_is_live : All (IsLive pool) entry.group
    group_is_live = groups_are_live pool maps entries sound number objects represent place entry is

    less_live : AreLive number (IsLive pool) represent.apart (with_unlinked entries place entry)
    less_live n found at =
        let was = kept-less pool maps entries sound place entry is n found at in
        subst (All (IsLive pool)) (sym was.group_is) (groups_are_live pool maps entries sound number objects represent n was.was was.is)

    modules : List (Option ModuleEntry)
    modules = renamed_modules number entries

    less-renamed : with_unlinked (renamed_modules number entries) place (renamed_entry number entry) ≡ renamed_modules number (with_unlinked entries place entry)
    less-renamed = sym (map-set (option_map (renamed_entry number)) entries place (Some (entry_unlinked entry)))

    pub is_leaving-renamed : is_leaving (renamed_modules number entries) place (renamed_entry number entry) ≡ is_leaving entries place entry
    is_leaving-renamed =
        ap (λ (used : Bool). not entry.is_boot && not used)
        (ap (λ (list : List (Option ModuleEntry)). is_in_use list (map number entry.group)) less-renamed
        ∙ is_in_use-renamed number (IsLive pool) represent.apart entry.group group_is_live (with_unlinked entries place entry) less_live)

    pub after_unlink-renamed : after_unlink (renamed_modules number entries) place (renamed_entry number entry) ≡ renamed_modules number (after_unlink entries place entry)
    after_unlink-renamed =
        (λ i. if is_leaving-renamed i then modules_without_group (less-renamed i) (map number entry.group) else less-renamed i)
        ∙ (λ i. if is_leaving entries place entry then without_group-renamed number (IsLive pool) represent.apart
        entry.group group_is_live (with_unlinked entries place entry) less_live i else renamed_modules number
        (with_unlinked entries place entry))
        ∙ by_test (is_leaving entries place entry)
      where
        by_test : (test : Bool) → (if test then renamed_modules number
            (modules_without_group (with_unlinked entries place entry) entry.group) else renamed_modules number
            (with_unlinked entries place entry)) ≡ renamed_modules number (if test then modules_without_group
            (with_unlinked entries place entry) entry.group else with_unlinked entries place entry)
        by_test true = refl
        by_test false = refl

    found-renamed : module_entry_at (renamed_modules number entries) place ≡ Some (renamed_entry number entry)
    found-renamed = entry_at-renamed number entries place ∙ ap (option_map (renamed_entry number)) is

  -- the machine's answer whether the group goes is the directory's
  pub is_group_leaving-tied : (m : MemoryState) → RepresentMemory pool maps entries m → is_group_leaving m place ≡ is_leaving entries place entry
  is_group_leaving-tied m tied =
      let number = tied.number in
      ap (λ (s : MemoryState). is_group_leaving s place) tied.is
      ∙ ap (λ (o : Option ModuleEntry). option_map_or (is_leaving (renamed_modules number entries) place) o false) (found-renamed number tied.objects tied.represent)
      ∙ is_leaving-renamed number tied.objects tied.represent

  pub represent-unlinked : (after : Blocks) (ids : List BlockId) → after ≡ pool_after_giving pool ids
      → (m : MemoryState) → RepresentMemory pool maps entries m → RepresentMemory after maps
      (after_unlink entries place entry) (unlinked m place)
  represent-unlinked after ids given m tied =
      let number = tied.number in
      let modules = renamed_modules number entries in
      record {
        number = number;
        objects = tied.objects;
        represent = subst (λ (p : Blocks). RepresentObjects number p tied.objects) (sym given) (represent-given_all number pool ids tied.objects tied.represent);
        is = ap (λ (s : MemoryState). unlinked s place) tied.is
            ∙ (λ i. record {
              blocks = sym (ap (λ (p : Blocks). length p.counts) given ∙ length-given_all pool ids) i;
              objects = tied.objects;
              maps = (memory_of number pool maps entries tied.objects).maps;
              modules = (ap (λ (o : Option ModuleEntry). option_map_or (after_unlink modules place) o modules)
                  (found-renamed number tied.objects tied.represent) ∙ after_unlink-renamed number tied.objects
                  tied.represent) i;
            });
      }

  -- ---- the blocks of the group, which are given back

  module _ (ids : List BlockId) (same : entry.group ≡ numbers_of ids) where
    number_of : (k : ℕ) (d : BlockId) → k < length ids → get_or entry.group k 0 ≡ (get_or ids k d).0
    number_of k d within = ap (λ (g : List ℕ). get_or g k 0) same ∙ get_or-map (λ (id : BlockId). id.0) ids k d 0 within

    many : length entry.group ≡ length ids
    many = ap (λ (g : List ℕ). length g) same ∙ length-map ids (λ (id : BlockId). id.0)

    pub group-live : All (λ id. IsLive pool id.0) ids
    group-live k d within = subst (IsLive pool) (number_of k d within) (group_live pool maps entries sound place entry is k (omega (arith, many)))

    pub group-different : AllPairs (λ a b. a ≢ b) ids
    group-different i j d below within equal =
        let at_one = number_of i d (omega arith) in
        let at_other = number_of j d within in
        let again : i ≡ j = (sound.groups.each place entry is).once i j (omega (arith, many)) (omega (arith, many)) (at_one ∙ ap (λ (id : BlockId). id.0) equal ∙ sym at_other) in
        omega arith
