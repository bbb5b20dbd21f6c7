-- How often lists, maps and groups name a block.
use Rattle.std.proofs.Common.{◌≡◌, ◌≢◌, ℕ, zero, suc, ◌+◌, ◌-◌, ◌<◌, ◌≤◌, ◌==◌, Option, Some, None, List, [], ◌∷◌, ◌++◌, length, get_or, set, take, drop, map, flat_map, cond, ◌⊎◌, inl, inr, refl, sym, ap, ◌∙◌, subst, arith}
use Rattle.std.proofs.lemmas.List.{map-append, take-append-drop, drop-drop, get_or_past}
use Rattle.std.proofs.lemmas.List.Sums.{sum_by-append, sum_by-cons}
use Rattle.std.proofs.lemmas.List.Elements.{filter_map-append}
use Rattle.std.proofs.lemmas.Option.{none-some, same_Some}
use Rattle.std.proofs.lemmas.Bool.{cases_eq, cond-true, cond-false, eq-eqb, ne_eqb}
use Rattle.proc_model.specs.declared.group.BlockId.{BlockId}
use Rattle.proc_model.specs.Slots.{Slots, blocks_in, put_places, no_slots}
use Rattle.block_map.proofs.Places.{at, Once, same_id}
use Rattle.guest_memory.specs.Gains.{times_in}
use Rattle.guest_memory.specs.References.{times, mapped_blocks}

-- ---- lists

pub times-cons : (block first : ℕ) (names : List ℕ) → times block (first ∷ names) ≡ cond (first == block) 1 0 + times block names
times-cons block first names = sum_by-cons (λ named. cond (named == block) 1 0) first names

pub times-append : (block : ℕ) (names more : List ℕ) → times block (names ++ more) ≡ times block names + times block more
times-append block names more = sum_by-append (λ named. cond (named == block) 1 0) names more

pub times-here : (block first : ℕ) (names : List ℕ) → first ≡ block → times block (first ∷ names) ≡ 1 + times block names
times-here block first names same = times-cons block first names ∙ ap (λ (n : ℕ). n + times block names) (cond-true {A = ℕ} (first == block) 1 0 (eq-eqb first block same))

pub times-past : (block first : ℕ) (names : List ℕ) → first ≢ block → times block (first ∷ names) ≡ times block names
times-past block first names apart = times-cons block first names ∙ ap (λ (n : ℕ). n + times block names) (cond-false {A = ℕ} (first == block) 1 0 (ne_eqb first block apart)) ∙ omega arith

-- where a list names a block
pub times-where : (names : List ℕ) (block : ℕ) → 0 < times block names → (k : ℕ) × (k < length names) × (get_or names k 0 ≡ block)
times-where [] block some = absurd (omega arith)
times-where (first ∷ names) block some =
    elim (cases_eq first block) [
      | inl same ↦ (0, omega arith, same)
      | inr apart ↦
          let rest = times-where names block (omega (arith, times-past block first names apart)) in
          (suc rest.0, omega (arith, rest.1), rest.2)
    ]

-- what stands in a list is named by it
pub times-at : (names : List ℕ) (k block : ℕ) → k < length names → get_or names k 0 ≡ block → 0 < times block names
times-at [] k block within is = absurd (omega arith)
times-at (first ∷ names) zero block within is = omega (arith, times-here block first names is)
times-at (first ∷ names) (suc k) block within is = omega (arith, times-cons block first names, times-at names k block (omega arith) is)

-- a list in which each block stands once names none more often
pub times-once : (names : List ℕ) → ((one other : ℕ) → one < length names → other < length names → get_or names one 0 ≡ get_or names other 0 → one ≡ other) → (block : ℕ) → times block names ≤ 1
times-once [] once block = omega arith
times-once (first ∷ names) once block =
    let rest = times-once names (λ one other in_one in_other same. let next : suc one ≡ suc other = once (suc one) (suc other) (omega arith) (omega arith) same in omega arith) block in
    elim (cases_eq first block) [
      | inr apart ↦ omega (arith, times-past block first names apart)
      | inl same ↦
          elim (cases_eq (times block names) 0) [
            | inl none ↦ omega (arith, times-here block first names same)
            | inr some ↦
                let place = times-where names block (omega arith) in
                let bad : 0 ≡ suc place.0 = once 0 (suc place.0) (omega arith) (omega (arith, place.1)) (same ∙ sym place.2) in
                absurd (omega arith)
          ]
    ]

-- the numbers of blocks
abbrev pub numbers_of : List BlockId → List ℕ
numbers_of ids = map (λ (id : BlockId). id.0) ids

pub times-numbers_of : (ids : List BlockId) (block : ℕ) → times block (numbers_of ids) ≡ times_in ids block
times-numbers_of [] block = refl
times-numbers_of (id ∷ ids) block =
    times-cons block id.0 (numbers_of ids) ∙ ap (λ (n : ℕ). cond (id.0 == block) 1 0 + n) (times-numbers_of ids block)
    ∙ sym (sum_by-cons (λ (id : BlockId). cond (id.0 == block) 1 0) id ids)

-- ---- places

-- the numbers that places name
abbrev pub named_by : List (Option BlockId) → List ℕ
named_by places = numbers_of (blocks_in places)

pub times-places_append : (block : ℕ) (front back : List (Option BlockId)) → times block (named_by (front ++ back)) ≡ times block (named_by front) + times block (named_by back)
times-places_append block front back =
    ap (λ (ids : List BlockId). times block (numbers_of ids)) (filter_map-append (λ (place : Option BlockId). place) front back)
    ∙ ap (times block) (map-append (λ (id : BlockId). id.0) (blocks_in front) (blocks_in back))
    ∙ times-append block (named_by front) (named_by back)

-- a place names its block
pub named_once : (places : List (Option BlockId)) (slot : ℕ) (id : BlockId) → at places slot ≡ Some id → 0 < times id.0 (named_by places)
named_once [] slot id is = absurd (none-some id is)
named_once (None ∷ places) zero id is = absurd (none-some id is)
named_once (None ∷ places) (suc slot) id is = named_once places slot id is
named_once (Some first ∷ places) zero id is =
    omega (arith, times-here id.0 first.0 (named_by places) (ap (λ (b : BlockId). b.0) (same_Some first id is)))
named_once (Some first ∷ places) (suc slot) id is =
    omega (arith, times-cons id.0 first.0 (named_by places), named_once places slot id is)

-- what places name stands in one of them
pub named_where : (places : List (Option BlockId)) (block : ℕ) → 0 < times block (named_by places) → (slot : ℕ) × (id : BlockId) × (at places slot ≡ Some id) × (id.0 ≡ block)
named_where [] block some = absurd (omega arith)
named_where (None ∷ places) block some = let rest = named_where places block some in (suc rest.0, rest.1, rest.2, rest.3)
named_where (Some first ∷ places) block some =
    elim (cases_eq first.0 block) [
      | inl same ↦ (0, first, refl, same)
      | inr apart ↦
          let rest = named_where places block (omega (arith, times-past block first.0 (named_by places) apart)) in
          (suc rest.0, rest.1, rest.2, rest.3)
    ]

-- places that name each block once name none more often
pub named_at_most_once : (places : List (Option BlockId)) → Once places → (block : ℕ) → times block (named_by places) ≤ 1
named_at_most_once [] once block = omega arith
named_at_most_once (None ∷ places) once block =
    named_at_most_once places (λ k other id here there. let next : suc k ≡ suc other = once (suc k) (suc other) id here there in omega arith) block
named_at_most_once (Some first ∷ places) once block =
    let rest = named_at_most_once places (λ k other id here there. let next : suc k ≡ suc other = once (suc k) (suc other) id here there in omega arith) block in
    elim (cases_eq first.0 block) [
      | inr apart ↦ omega (arith, times-past block first.0 (named_by places) apart)
      | inl same ↦
          elim (cases_eq (times block (named_by places)) 0) [
            | inl none ↦ omega (arith, times-here block first.0 (named_by places) same)
            | inr some ↦
                let place = named_where places block (omega arith) in
                let bad : 0 ≡ suc place.0 = once 0 (suc place.0) first refl (place.2 ∙ ap (λ (b : BlockId). Some b) (same_id place.1 first (place.3 ∙ sym same))) in
                absurd (omega arith)
          ]
    ]

-- what is put takes the place of what stood there
pub times-put : (block : ℕ) (places new : List (Option BlockId)) (first : ℕ)
    → times block (named_by (put_places places first new)) + times block
    (named_by (take (length new) (drop first places))) ≡ times block (named_by places) + times block (named_by new)
times-put block places new first =
    let front = take first places in
    let rest = drop first places in
    let back = drop (length new) rest in
    let after : put_places places first new ≡ front ++ (new ++ back) = ap (λ (last : List (Option BlockId)). front ++ (new ++ last)) (sym (drop-drop (length new) first places)) in
    let whole = ap (λ (all : List (Option BlockId)). times block (named_by all)) (sym (take-append-drop first places)) ∙ times-places_append block front rest in
    let part = ap (λ (all : List (Option BlockId)). times block (named_by all)) (sym (take-append-drop (length new) rest)) ∙ times-places_append block (take (length new) rest) back in
    let now = ap (λ (all : List (Option BlockId)). times block (named_by all)) after ∙ times-places_append block front (new ++ back) in
    omega (arith, whole, part, now, times-places_append block new back)

-- ---- maps

-- one map of several is another one now
pub times-maps_set : (block : ℕ) (maps : List (Slots BlockId)) (place : ℕ) (new : Slots BlockId) → place < length maps
    → times block (flat_map mapped_blocks (set maps place new)) + times block (mapped_blocks (get_or maps place no_slots)) ≡ times block (flat_map mapped_blocks maps) + times block (mapped_blocks new)
times-maps_set block [] place new within = absurd (omega arith)
times-maps_set block (first ∷ maps) zero new within =
    omega (arith, times-append block (mapped_blocks new) (flat_map mapped_blocks maps), times-append block (mapped_blocks first) (flat_map mapped_blocks maps))
times-maps_set block (first ∷ maps) (suc place) new within =
    omega (
      arith,
      times-append block (mapped_blocks first) (flat_map mapped_blocks (set maps place new)),
      times-append block (mapped_blocks first) (flat_map mapped_blocks maps),
      times-maps_set block maps place new (omega arith),
    )

-- one of several maps names a block at most as often as all of them
pub times-one_map : (block : ℕ) (maps : List (Slots BlockId)) (place : ℕ) → times block (mapped_blocks (get_or maps place no_slots)) ≤ times block (flat_map mapped_blocks maps)
times-one_map block [] place = omega arith
times-one_map block (first ∷ maps) zero = omega (arith, times-append block (mapped_blocks first) (flat_map mapped_blocks maps))
times-one_map block (first ∷ maps) (suc place) =
    omega (arith, times-append block (mapped_blocks first) (flat_map mapped_blocks maps), times-one_map block maps place)

-- two of several maps
pub times-two_maps : (block : ℕ) (maps : List (Slots BlockId)) (place other : ℕ) → place ≢ other
    → times block (mapped_blocks (get_or maps place no_slots)) + times block (mapped_blocks (get_or maps other no_slots)) ≤ times block (flat_map mapped_blocks maps)
times-two_maps block [] place other apart = omega arith
times-two_maps block (first ∷ maps) zero zero apart = absurd (apart refl)
times-two_maps block (first ∷ maps) zero (suc other) apart =
    omega (arith, times-append block (mapped_blocks first) (flat_map mapped_blocks maps), times-one_map block maps other)
times-two_maps block (first ∷ maps) (suc place) zero apart =
    omega (arith, times-append block (mapped_blocks first) (flat_map mapped_blocks maps), times-one_map block maps place)
times-two_maps block (first ∷ maps) (suc place) (suc other) apart =
    omega (arith, times-append block (mapped_blocks first) (flat_map mapped_blocks maps), times-two_maps block maps place other (λ same. apart (ap suc same)))
