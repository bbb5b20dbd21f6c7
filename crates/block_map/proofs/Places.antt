-- Lists of places: what stands where after some of them were put anew.
use Rattle.std.proofs.Common.{◌≡◌, ◌≢◌, ℕ, ◌+◌, ◌-◌, ◌<◌, ◌≤◌, Option, Some, None, List, [], ◌∷◌, ◌++◌, length, get_or, take, drop, replicate, slice_range, All, AllPairs, arith, sym, ap, ◌∙◌, subst, refl, zero, suc, inl, inr, ◌⊎◌}
use Rattle.std.proofs.lemmas.List.{get_or_append_left, get_or-append_right, get_or-take, get_or-drop, length-take, length-take-le, length-drop, length-map, length-append, get_or-map, get_or_past, get_or-replicate, length-replicate}
use Rattle.std.proofs.lemmas.Option.{same_Some, none-some}
use Rattle.std.proofs.lemmas.Bool.{cases_lt, cases_order}
use Rattle.proc_model.specs.declared.group.BlockId.{BlockId}
use Rattle.proc_model.specs.Slots.{put_places, blocks_in, filled_places}

-- what stands at a place
abbrev pub at : List (Option BlockId) → ℕ → Option BlockId
at places k = get_or places k None

-- blocks of one number are one
pub same_id : (a b : BlockId) → a.0 ≡ b.0 → a ≡ b
same_id a b same = ap (λ (n : ℕ). let made : BlockId = record { 0 = n } in made) same

-- no two places name the same block
abbrev pub Once : List (Option BlockId) → Type 0
Once places = (k other : ℕ) (id : BlockId) → at places k ≡ Some id → at places other ≡ Some id → k ≡ other

-- a place that names something is there
pub at-within : (places : List (Option BlockId)) (k : ℕ) (id : BlockId) → at places k ≡ Some id → k < length places
at-within places k id named =
    elim (cases_lt k (length places)) [
      | inl within ↦ within
      | inr past ↦ absurd (none-some id (sym (get_or_past places k None past) ∙ named))
    ]

-- the block at a place of those that were put
pub at-naming : (ids : List BlockId) (k : ℕ) (id : BlockId) → at (filled_places ids) k ≡ Some id → (k < length ids) × (get_or ids k id ≡ id)
at-naming ids k id named =
    let within : k < length ids = subst (λ (n : ℕ). k < n) (length-map ids (λ (block : BlockId). Some block)) (at-within (filled_places ids) k id named) in
    (within, same_Some (get_or ids k id) id (sym (get_or-map (λ (block : BlockId). Some block) ids k id None within) ∙ named))

-- blocks that differ stand in places that name each once
pub Once-naming : (ids : List BlockId) → AllPairs (λ a b. a ≢ b) ids → Once (filled_places ids)
Once-naming ids different k other id here there =
    let a = at-naming ids k id here in
    let b = at-naming ids other id there in
    elim (cases_order k other) [
      | inl same ↦ same
      | inr apart ↦
          elim apart [
            | inl below ↦ absurd (different k other id below b.0 (a.1 ∙ sym b.1))
            | inr above ↦ absurd (different other k id above a.0 (b.1 ∙ sym a.1))
          ]
    ]

-- a place is among those that were put, or as it was
pub at-put : (places new : List (Option BlockId)) (first k : ℕ) → first + length new ≤ length places
    → ((first ≤ k) × (k < first + length new) × (at (put_places places first new) k ≡ at new (k - first))) ⊎
    (((k < first) ⊎ (first + length new ≤ k)) × (at (put_places places first new) k ≡ at places k))
at-put places new first k fits =
    let front = length-take-le first places (omega arith) in
    let rest = drop (first + length new) places in
    elim (cases_lt k first) [
      | inl below ↦ inr (inl below, get_or_append_left (take first places) (new ++ rest) None k (omega arith) ∙ get_or-take first places k None below)
      | inr above ↦
          elim (cases_lt k (first + length new)) [
            | inl inside ↦ inl (above, inside, get_or-append_right (take first places) (new ++ rest) first k None front above ∙ get_or_append_left new rest None (k - first) (omega arith))
            | inr past ↦
                inr (
                  inr past,
                  get_or-append_right (take first places) (new ++ rest) first k None front above ∙ get_or-append_right new rest (length new) (k - first) None refl (omega arith)
                      ∙ get_or-drop (first + length new) places (k - first - length new) None ∙ ap (at places) (omega arith),
                )
          ]
    ]

-- as many places as before
pub length-put : (places new : List (Option BlockId)) (first : ℕ) → first + length new ≤ length places → length (put_places places first new) ≡ length places
length-put places new first fits =
    omega (
      arith,
      length-append (take first places) (new ++ drop (first + length new) places),
      length-append new
          (drop (first + length new) places),
      length-take-le first places (omega arith),
      length-drop
          (first + length new) places,
    )

-- places that were put anew name each block once where the new ones do, and name none of the old ones
pub Once-put : (places new : List (Option BlockId)) (first : ℕ) → first + length new ≤ length places → Once places
    → Once new → ((k : ℕ) (id : BlockId) → at new k ≡ Some id → (slot : ℕ) → at places slot ≡ Some id → ⊥)
    → Once (put_places places first new)
Once-put places new first fits old fresh apart k other id here there =
    elim (at-put places new first k fits) [
      | inl a ↦
          elim (at-put places new first other fits) [
            | inl b ↦
                let same = fresh (k - first) (other - first) id (sym a.2 ∙ here) (sym b.2 ∙ there) in
                omega arith
            | inr b ↦ absurd (apart (k - first) id (sym a.2 ∙ here) other (sym b.1 ∙ there))
          ]
      | inr a ↦
          elim (at-put places new first other fits) [
            | inl b ↦ absurd (apart (other - first) id (sym b.2 ∙ there) k (sym a.1 ∙ here))
            | inr b ↦ old k other id (sym a.1 ∙ here) (sym b.1 ∙ there)
          ]
    ]

-- places that were cleared name nothing
pub at-cleared : (n k : ℕ) (id : BlockId) → at (replicate n None) k ≡ Some id → ⊥
at-cleared n k id named =
    elim (cases_lt k n) [
      | inl within ↦ none-some id (sym (get_or-replicate {A = Option BlockId} n k None None within) ∙ named)
      | inr past ↦ none-some id (sym (get_or_past (replicate n None) k None (omega (arith, length-replicate {A = Option BlockId} n None))) ∙ named)
    ]

-- a part of the places, by its own places
pub at-part : (places : List (Option BlockId)) (first end k : ℕ) → first + k < end → at (slice_range places first end) k ≡ at places (first + k)
at-part places first end k within = get_or-take (end - first) (drop first places) k None (omega arith) ∙ get_or-drop first places k None

-- what is true of each block that places name
pub All-named_in : (P : BlockId → Type 0) (places : List (Option BlockId)) → ((k : ℕ) (id : BlockId) → at places k ≡ Some id → P id) → All P (blocks_in places)
All-named_in P [] each = λ k d within. absurd (omega arith)
All-named_in P (None ∷ places) each = All-named_in P places (λ k. each (suc k))
All-named_in P (Some x ∷ places) each =
    λ k d within. elim k as (λ (n : ℕ). n < length (x ∷ blocks_in places) → P (get_or (x ∷ blocks_in places) n d)) [
      | zero ↦ λ w. each zero x refl
      | suc n ↦ λ w. All-named_in P places (λ j. each (suc j)) n d (omega arith)
    ] within

-- a run of free slots, and the part of the places that it is
pub free_part : (places : List (Option BlockId)) (first len : ℕ) → first + len ≤ length places
    → ((k : ℕ) → k < length (slice_range places first (first + len)) → at (slice_range places first (first + len)) k ≡
    None) → (slot : ℕ) → first ≤ slot → slot < first + len → at places slot ≡ None
free_part places first len fits free slot low high =
    let many : length (slice_range places first (first + len)) ≡ len = length-take-le (first + len - first) (drop first places) (omega (arith, length-drop first places)) ∙ omega arith in
    ap (at places) (omega arith) ∙ sym (at-part places first (first + len) (slot - first) (omega arith)) ∙ free (slot - first) (omega arith)

pub part_free : (places : List (Option BlockId)) (first len : ℕ) → ((slot : ℕ) → first ≤ slot → slot < first + len
    → at places slot ≡ None) → (k : ℕ) → k < length (slice_range places first (first + len))
    → at (slice_range places first (first + len)) k ≡ None
part_free places first len free k within =
    elim (cases_lt (first + k) (first + len)) [
      | inl inside ↦ at-part places first (first + len) k inside ∙ free (first + k) (omega arith) inside
      | inr past ↦ absurd (omega (arith, length-take (first + len - first) (drop first places)))
    ]

-- where two lists have the same rest, they have the same place at its front
pub at_rest : (places other : List (Option BlockId)) (k : ℕ) → drop k places ≡ drop k other → at places k ≡ at other k
at_rest places other k same =
    ap (at places) (omega arith) ∙ sym (get_or-drop k places 0 None) ∙ ap (λ (rest : List (Option BlockId)). at rest 0) same ∙ get_or-drop k other 0 None ∙ ap (at other) (omega arith)
