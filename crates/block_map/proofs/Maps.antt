-- Maps stay maps, and what they name stays live.
use Rattle.std.proofs.Common.{◌≡◌, ◌≢◌, ℕ, ◌+◌, ◌-◌, ◌<◌, ◌≤◌, Option, Some, None, List, ◌++◌, length, get_or, set, take, drop, replicate, All, AllPairs, arith, sym, ap, ◌∙◌, subst, refl, inl, inr, ◌⊎◌}
use Rattle.std.proofs.lemmas.List.{drop-drop, get_or_past, length-take-le, length-drop, get_or-take, get_or-drop, length-replicate, length-map, length-set, get_or-set_same, get_or-set_other}
use Rattle.std.proofs.lemmas.Option.{same_Some, none-some}
use Rattle.std.proofs.lemmas.Bool.{cases_eq, cases_lt}
use borrow.Rule.Slice.PartMut.{put_mid}
use Rattle.block_pool.specs.Blocks.{Blocks, IsLive}
use Rattle.proc_model.specs.declared.group.BlockId.{BlockId}
use Rattle.proc_model.specs.Slots.{Slots, IsMap, NamesBlock, put_places, filled_places, blocks_in}
use Rattle.block_map.specs.TakenBlocks.{AreNewBlocks, NamesLiveBlocks, pool_after_sharing, pool_after_giving}
use Rattle.block_map.proofs.Places.{at, Once, Once-put, length-put, Once-naming, at-naming, at-put, at-cleared, at-within, All-named_in, same_id}
use Rattle.block_map.proofs.Counts.{Takes-live, Takes-free, Takes-named, Takes-once, count_of-shared_all, count_of-given_all}

-- what a write to a part of the places leaves
pub put_mid-put : (places new : List (Option BlockId)) (first len : ℕ) → length new ≡ len → put_mid first len places new ≡ put_places places first new
put_mid-put places new first len all = ap (λ (rest : List (Option BlockId)). take first places ++ (new ++ rest)) (drop-drop len first places ∙ ap (λ (n : ℕ). drop (first + n) places) (sym all))

-- the groups after one more is entered, or one is removed
abbrev pub GroupsFit : List (Option ℕ) → Type 0
GroupsFit groups = (slot len : ℕ) → get_or groups slot None ≡ Some len → slot + len ≤ 8

pub GroupsFit-set : (groups : List (Option ℕ)) (first len : ℕ) → length groups ≡ 8 → first < 8 → first + len ≤ 8 → GroupsFit groups → GroupsFit (set groups first (Some len))
GroupsFit-set groups first len eight within fits old slot other here =
    elim (cases_eq slot first) [
      | inl same ↦
          let now : get_or (set groups first (Some len)) slot None ≡ Some len = ap
          (λ (n : ℕ). get_or (set groups first (Some len)) n None) same ∙ get_or-set_same groups first (Some len)
          None (omega arith) in
          omega (arith, same_Some len other (sym now ∙ here))
      | inr apart ↦ old slot other (sym (get_or-set_other groups first slot (Some len) None apart) ∙ here)
    ]

pub GroupsFit-clear : (groups : List (Option ℕ)) (first : ℕ) → length groups ≡ 8 → first < 8 → GroupsFit groups → GroupsFit (set groups first None)
GroupsFit-clear groups first eight within old slot other here =
    elim (cases_eq slot first) [
      | inl same ↦
          let now : get_or (set groups first None) slot None ≡ None = ap (λ (n : ℕ). get_or (set groups first None) n None) same ∙ get_or-set_same groups first None None (omega arith) in
          absurd (none-some other (sym now ∙ here))
      | inr apart ↦ old slot other (sym (get_or-set_other groups first slot None None apart) ∙ here)
    ]

-- no new block is one that a live map names
new_apart : (places new : List (Option BlockId)) (before after : Blocks) → ((slot : ℕ) (id : BlockId)
    → at places slot ≡ Some id → IsLive before id.0) → AreNewBlocks new before after → (k : ℕ) (id : BlockId)
    → at new k ≡ Some id → (slot : ℕ) → at places slot ≡ Some id → ⊥
new_apart places new before after live news k id here slot there =
    let free = Takes-free before after news.blocks k id news.taken (ap (λ (list : List (Option BlockId)). at list k) (sym news.named) ∙ here) in
    absurd (omega (arith, live slot id there, free.1))

-- the places that are put name each block once
pub Once-new : (places new : List (Option BlockId)) (before after : Blocks) (first : ℕ) → first + length new ≤ length
    places → Once places → ((slot : ℕ) (id : BlockId) → at places slot ≡ Some id → IsLive before id.0)
    → AreNewBlocks new before after → Once (put_places places first new)
Once-new places new before after first fits once live news =
    Once-put places new first fits once (subst Once (sym news.named) (Takes-once before after news.blocks news.taken)) (new_apart places new before after live news)

pub live-new : (places new : List (Option BlockId)) (before after : Blocks) (first : ℕ) → first + length new ≤ length
    places → ((slot : ℕ) (id : BlockId) → at places slot ≡ Some id → IsLive before id.0) → AreNewBlocks new before
    after → (slot : ℕ) (id : BlockId) → at (put_places places first new) slot ≡ Some id → IsLive after id.0
live-new places new before after first fits live news slot id here =
    elim (at-put places new first slot fits) [
      | inl a ↦ Takes-named before after news.blocks (slot - first) id news.taken (ap (λ (list : List (Option BlockId)). at list (slot - first)) (sym news.named) ∙ (sym a.2 ∙ here))
      | inr a ↦ Takes-live before after news.blocks id.0 news.taken (live slot id (sym a.1 ∙ here))
    ]

-- the same where a group is put
pub Once-group : (places : List (Option BlockId)) (ids : List BlockId) (first : ℕ) → first + length ids ≤ length
    places → Once places → AllPairs (λ a b. a ≢ b) ids → All (λ id. (slot : ℕ) × (at places slot ≡ Some id) → ⊥) ids
    → Once (put_places places first (filled_places ids))
Once-group places ids first fits once different unnamed =
    Once-put places (filled_places ids) first (omega (arith, length-map ids (λ (block : BlockId). Some block))) once (Once-naming ids different)
    (λ k id here slot there.
    let named = at-naming ids k id here in
    subst (λ (b : BlockId). (s : ℕ) × (at places s ≡ Some b) → ⊥) named.1 (unnamed k id named.0) (slot, there))

pub live-group : (places : List (Option BlockId)) (ids : List BlockId) (before : Blocks) (first : ℕ)
    → first + length ids ≤ length places → ((slot : ℕ) (id : BlockId) → at places slot ≡ Some id → IsLive before id.0)
    → All (λ id. IsLive before id.0) ids → (slot : ℕ) (id : BlockId)
    → at (put_places places first (filled_places ids)) slot ≡ Some id → IsLive (pool_after_sharing before ids) id.0
live-group places ids before first fits live each slot id here =
    let grown = count_of-shared_all before ids id.0 in
    elim (at-put places (filled_places ids) first slot (omega (arith, length-map ids (λ (block : BlockId). Some block)))) [
      | inl a ↦
          let named = at-naming ids (slot - first) id (sym a.2 ∙ here) in
          let was : IsLive before id.0 = subst (λ (b : BlockId). IsLive before b.0) named.1 (each (slot - first) id named.0) in
          omega arith
      | inr a ↦
          let was = live slot id (sym a.1 ∙ here) in
          omega arith
    ]

-- as many places as the part has
pub length-part : (places : List (Option BlockId)) (first len : ℕ) → first + len ≤ length places → length (take len (drop first places)) ≡ len
length-part places first len fits = length-take-le len (drop first places) (omega (arith, length-drop first places))

-- a part of the places, by its own places
at-part : (places : List (Option BlockId)) (first len k : ℕ) → k < len → at (take len (drop first places)) k ≡ at places (first + k)
at-part places first len k within = get_or-take len (drop first places) k None within ∙ get_or-drop first places k None

-- it names each block once too
pub Once-part : (places : List (Option BlockId)) (first len : ℕ) → first + len ≤ length places → Once places → Once (take len (drop first places))
Once-part places first len fits once k other id here there =
    let part = take len (drop first places) in
    let many = length-part places first len fits in
    let a = at-within part k id here in
    let b = at-within part other id there in
    let same = once (first + k) (first + other) id (sym (at-part places first len k (omega arith)) ∙ here) (sym (at-part places first len other (omega arith)) ∙ there) in
    omega arith

-- a slot outside of a run is none of its slots
outside : (first len slot k : ℕ) → (slot < first) ⊎ (first + len ≤ slot) → k < len → first + k ≡ slot → ⊥
outside first len slot k (inl below) inside same = absurd (omega arith)
outside first len slot k (inr above) inside same = absurd (omega arith)

-- the same where places are cleared
pub Once-clear : (places : List (Option BlockId)) (first len : ℕ) → first + len ≤ length places → Once places → Once (put_places places first (replicate len None))
Once-clear places first len fits once =
    let cleared : List (Option BlockId) = replicate len None in
    Once-put places cleared first (omega (arith, length-replicate {A = Option BlockId} len None)) once
    (λ k other id here there. absurd (at-cleared len k id here)) (λ k id here slot there. absurd
    (at-cleared len k id here))

pub live-clear : (places : List (Option BlockId)) (first len : ℕ) (before : Blocks) → first + len ≤ length places
    → Once places → ((slot : ℕ) (id : BlockId) → at places slot ≡ Some id → IsLive before id.0)
    → (slot : ℕ) (id : BlockId) → at (put_places places first (replicate len None)) slot ≡ Some id
    → IsLive (pool_after_giving before (blocks_in (take len (drop first places)))) id.0
live-clear places first len before fits once live slot id here =
    let cleared : List (Option BlockId) = replicate len None in
    let many = length-replicate {A = Option BlockId} len None in
    elim (at-put places cleared first slot (omega (arith, many))) [
      | inl a ↦ absurd (at-cleared len (slot - first) id (sym a.2 ∙ here))
      | inr a ↦
          let kept : at places slot ≡ Some id = sym a.1 ∙ here in
          let part = take len (drop first places) in
          let others : All (λ (b : BlockId). b.0 ≢ id.0) (blocks_in part) = All-named_in (λ (b : BlockId). b.0 ≢ id.0) part (λ k b there same.
          let inside : k < len = omega (arith, at-within part k b there, length-part places first len fits) in
          let place = once (first + k) slot id (sym (at-part places first len k inside) ∙ there ∙ ap (λ (block : BlockId). Some block) (same_id b id same)) kept in
          outside first len slot k (subst (λ (n : ℕ). (slot < first) ⊎ (first + n ≤ slot)) many a.0) inside place) in
          omega (arith, count_of-given_all before (blocks_in part) id.0 others, live slot id kept)
    ]

-- what a part that was cleared leaves of the places
pub cleared-put : (places new : List (Option BlockId)) (first len count : ℕ) → first + len ≤ length places
    → count ≡ length (take len (drop first places)) → new ≡ replicate count None → put_mid first len places new ≡
    put_places places first (replicate len None)
cleared-put places new first len count fits counted cleared =
    let many : count ≡ len = counted ∙ length-part places first len fits in
    let clear : new ≡ replicate len None = cleared ∙ ap (λ (n : ℕ). replicate {A = Option BlockId} n None) many in
    put_mid-put places new first len (ap (λ (list : List (Option BlockId)). length list) clear ∙ length-replicate {A = Option BlockId} len None) ∙ ap (put_places places first) clear

-- ---- whole maps

-- these places, this low area and these groups
abbrev pub slots_of : List (Option BlockId) → ℕ → List (Option ℕ) → Slots BlockId
slots_of places low groups = record { places = places; low = low; groups = groups }

-- the low area grows by new blocks
pub IsMap-low : (slots : Slots BlockId) (new : List (Option BlockId)) (len : ℕ) (before after : Blocks) → IsMap slots
    → slots.low + len ≤ 8 → length new ≡ slots.low + len - slots.low → NamesLiveBlocks slots before
    → AreNewBlocks new before after → IsMap (slots_of (put_mid slots.low (slots.low + len - slots.low) slots.places
    new) (slots.low + len) slots.groups)
IsMap-low slots new len before after map fits many live news =
    let eight = map.eight_places in
    let mid = put_mid-put slots.places new slots.low (slots.low + len - slots.low) many in
    record {
      eight_places = ap (λ (list : List (Option BlockId)). length list) mid ∙ length-put slots.places new slots.low (omega arith) ∙ eight;
      eight_groups = map.eight_groups;
      low_fits = fits;
      group_fits = map.group_fits;
      once = subst Once (sym mid) (Once-new slots.places new before after slots.low (omega arith) map.once live news);
    }

-- a group is named
pub IsMap-group : (slots : Slots BlockId) (new : List (Option BlockId)) (ids : List BlockId) (first len : ℕ)
    → IsMap slots → 1 ≤ len → first + len ≤ 8 → new ≡ filled_places ids → length ids ≡ len → AllPairs (λ a b. a ≢ b)
    ids → All (λ id. NamesBlock slots id → ⊥) ids
    → IsMap (slots_of (put_mid first (first + len - first) slots.places new) slots.low
    (set slots.groups first (Some len)))
IsMap-group slots new ids first len map some fits named count different unnamed =
    let eight = map.eight_places in
    let length-naming = length-map ids (λ (block : BlockId). Some block) in
    let many : length new ≡ first + len - first = ap (λ (list : List (Option BlockId)). length list) named ∙ length-naming ∙ omega arith in
    let mid = put_mid-put slots.places new first (first + len - first) many ∙ ap (put_places slots.places first) named in
    record {
      eight_places = ap (λ (list : List (Option BlockId)). length list) mid ∙ length-put slots.places (filled_places ids) first (omega (arith, length-naming)) ∙ eight;
      eight_groups = length-set slots.groups first (Some len) ∙ map.eight_groups;
      low_fits = map.low_fits;
      group_fits = GroupsFit-set slots.groups first len map.eight_groups (omega arith) fits map.group_fits;
      once = subst Once (sym mid) (Once-group slots.places ids first (omega arith) map.once different unnamed);
    }

-- some slots are cleared
pub IsMap-clear : (slots : Slots BlockId) (new : List (Option BlockId)) (first len low : ℕ) (groups : List (Option ℕ))
    → IsMap slots → first + len ≤ 8 → new ≡ replicate (length (take len (drop first slots.places))) None
    → length groups ≡ 8 → low ≤ 8 → GroupsFit groups → IsMap (slots_of (put_mid first len slots.places new) low
    groups)
IsMap-clear slots new first len low groups map fits cleared eight_groups low_fits group_fits =
    let eight = map.eight_places in
    let none : Option BlockId = None in
    let mid = cleared-put slots.places new first len _ (omega arith) refl cleared in
    record {
      eight_places = ap (λ (list : List (Option BlockId)). length list) mid ∙ length-put slots.places (replicate len none) first (omega (arith, length-replicate len none)) ∙ eight;
      eight_groups = eight_groups;
      low_fits = low_fits;
      group_fits = group_fits;
      once = subst Once (sym mid) (Once-clear slots.places first len (omega arith) map.once);
    }

-- a slot where a group begins is one of the slots
pub group-within : (groups : List (Option ℕ)) (slot len : ℕ) → get_or groups slot None ≡ Some len → slot < length groups
group-within groups slot len here =
    elim (cases_lt slot (length groups)) [
      | inl within ↦ within
      | inr past ↦ absurd (none-some len (sym (get_or_past groups slot None past) ∙ here))
    ]
