-- What writes and other sizes change of the bytes of a file, done or ended by a fault.
use Rattle.std.proofs.Common.{◌≡◌, ◌⊎◌, ℕ, ◌+◌, ◌-◌, ◌<◌, ◌≤◌, None, List, [], ◌∷◌, ◌++◌, length, take, drop, replicate, get_or, min, refl, sym, ap, ◌∙◌, subst, inl, inr, arith}
use Rattle.std.proofs.lemmas.Bool.{cases_lt}
use Rattle.std.proofs.lemmas.List.{get_or-append_right, get_or-drop, get_or-replicate, get_or-take, get_or_append_left, get_or_past, length-append, length-drop, length-replicate, length-take}
use Rattle.std.proofs.lemmas.Option.{none-some}
use Rattle.lock_model.specs.Laws.{Covers, IsIn}
use Rattle.lock_model.specs.declared.lock.Range.{Range}
use Rattle.rbf_model.specs.Writes.{put_at}
use Rattle.rbf_change.specs.Contents.{extended, resized, written}
use Rattle.rbf_change.specs.Faults.{IsWriteFront, end, none, sector}
use Rattle.lock_laws.specs.Contents.{ChangesWithin, ComesFrom, IsBefore}

-- contents that stay
pub same-within : (range : Range) (bytes old new : List ℕ) → new ≡ old → ChangesWithin range bytes old new
same-within range bytes old new is = subst (ChangesWithin range bytes old) (sym is) (record {
  kept = λ at out there. record { there = there; same = refl };
  gained = λ at there. inl there;
  each = λ at there. ComesFrom.was there refl;
  cuts = λ less. absurd (omega (arith, less));
})

-- a byte that is not in a range and behind its start is behind its end
pub behind : (range : Range) (count at : ℕ) → Covers range count → ¬ IsIn at range → range.start ≤ at → range.start + count ≤ at
behind range count at covers out from = elim (cases_lt at (range.start + count)) [
  | inl within ↦ absurd (out (record { from = from; to = λ last is. omega (arith, within, covers last is) }))
  | inr past ↦ past
]

-- ---- bytes that are put in a place

module _ (old bytes : List ℕ) (at : ℕ) where
  abbrev front : List ℕ
  front = take at old ++ bytes

  abbrev put : List ℕ
  put = put_at old at bytes

  put-length : length put ≡ min at (length old) + length bytes + (length old - (at + length bytes))
  put-length =
      length-append front (drop (at + length bytes) old)
      ∙ ap (λ (n : ℕ). n + length (drop (at + length bytes) old)) (length-append (take at old) bytes ∙ ap (λ (n : ℕ). n + length bytes) (length-take at old))
      ∙ ap (λ (n : ℕ). min at (length old) + length bytes + n) (length-drop (at + length bytes) old)

  front-length : length front ≡ min at (length old) + length bytes
  front-length = length-append (take at old) bytes ∙ ap (λ (n : ℕ). n + length bytes) (length-take at old)

  -- before that place
  put-before : (i : ℕ) → i < at → i < length old → get_or put i 0 ≡ get_or old i 0
  put-before i before there =
      get_or_append_left front (drop (at + length bytes) old) 0 i (omega (arith, before, there, front-length))
      ∙ get_or_append_left (take at old) bytes 0 i (omega (arith, before, there, length-take at old))
      ∙ get_or-take at old i 0 before

  -- and behind the bytes
  put-behind : (i : ℕ) → at ≤ length old → at + length bytes ≤ i → get_or put i 0 ≡ get_or old i 0
  put-behind i low behind =
      let long : length front ≡ at + length bytes = omega (arith, front-length, low) in
      let same : at + length bytes + (i - (at + length bytes)) ≡ i = omega (arith, behind) in
      get_or-append_right front (drop (at + length bytes) old) (at + length bytes) i 0 long behind
      ∙ get_or-drop (at + length bytes) old (i - (at + length bytes)) 0
      ∙ ap (λ (n : ℕ). get_or old n 0) same

  -- those are there
  put-among : (i : ℕ) → at ≤ length old → at ≤ i → i < at + length bytes → get_or put i 0 ≡ get_or bytes (i - at) 0
  put-among i low from within =
      let long : length front ≡ at + length bytes = omega (arith, front-length, low) in
      let at_is : length (take at old) ≡ at = omega (arith, length-take at old, low) in
      get_or_append_left front (drop (at + length bytes) old) 0 i (omega (arith, long, within))
      ∙ get_or-append_right (take at old) bytes at i 0 at_is from

-- ---- a write

extended-length : (old : List ℕ) (at : ℕ) → length (extended old at) ≡ length old + (at - length old)
extended-length old at = length-append old (replicate (at - length old) 0) ∙ ap (λ (n : ℕ). length old + n) (length-replicate (at - length old) 0)

extended-at : (old : List ℕ) (at i : ℕ) → i < length old → get_or (extended old at) i 0 ≡ get_or old i 0
extended-at old at i there = get_or_append_left old (replicate (at - length old) 0) 0 i there

-- behind the old end there are zeros
extended-zero : (old : List ℕ) (at i : ℕ) → length old ≤ i → get_or (extended old at) i 0 ≡ 0
extended-zero old at i past =
    get_or-append_right old gap (length old) i 0 refl past ∙ (elim (cases_lt (i - length old) (at - length old)) [
      | inl within ↦ get_or-replicate (at - length old) (i - length old) 0 0 within
      | inr behind ↦ get_or_past gap (i - length old) 0 (omega (arith, behind, length-replicate (at - length old) nothing))
    ])
  where
    nothing : ℕ
    nothing = 0

    gap : List ℕ
    gap = replicate (at - length old) nothing

pub written-within : (range : Range) (old bytes : List ℕ) → Covers range (length bytes) → ChangesWithin range bytes old (written old range.start bytes)
written-within range old [] covers = same-within range [] old old refl
written-within range old (byte ∷ rest) covers = record {
  kept = λ i out there. elim (cases_lt i at) [
    | inl before ↦ record {
      there = omega (arith, there, before, long, longer);
      same = put-before whole bytes at i before (omega (arith, there, longer)) ∙ extended-at old at i there;
    }
    | inr past ↦ (let after : at + length bytes ≤ i = behind range (length bytes) i covers out past in record {
      there = omega (arith, there, after, long, longer);
      same = put-behind whole bytes at i (omega (arith, longer)) after ∙ extended-at old at i there;
    })
  ];
  gained = λ i there. elim (cases_lt i at) [
    | inl before ↦ inr (inr (before, begins))
    | inr past ↦ by_end i there past (cases_lt i (at + length bytes))
  ];
  each = λ i there. by_place i there (cases_lt i at) (cases_lt i (at + length bytes));
  cuts = λ less. absurd (omega (arith, less, long, longer));
}
  where
    at : ℕ
    at = range.start

    bytes : List ℕ
    bytes = byte ∷ rest

    whole : List ℕ
    whole = extended old at

    longer : length whole ≡ length old + (at - length old)
    longer = extended-length old at

    long : length (put_at whole at bytes) ≡ min at (length whole) + length bytes + (length whole - (at + length bytes))
    long = put-length whole bytes at

    begins : IsIn at range
    begins = record { from = omega arith; to = λ last is. omega (arith, covers last is) }

    -- the byte is that of the file with its gap
    by_whole : (i : ℕ) → get_or (put_at whole at bytes) i 0 ≡ get_or whole i 0 → (i < length old) ⊎ (length old ≤ i) → ComesFrom at bytes old i (get_or (put_at whole at bytes) i 0)
    by_whole i is (inl there) = ComesFrom.was there (is ∙ extended-at old at i there)
    by_whole i is (inr past) = ComesFrom.filled past (is ∙ extended-zero old at i past)

    by_place : (i : ℕ) → i < length (put_at whole at bytes) → (i < at) ⊎ (at ≤ i) → (i < at + length bytes) ⊎ (at + length bytes ≤ i) → ComesFrom at bytes old i (get_or (put_at whole at bytes) i 0)
    by_place i there (inl before) within =
        by_whole i (put-before whole bytes at i before (omega (arith, before, longer))) (cases_lt i (length old))
    by_place i there (inr past) (inl within) =
        ComesFrom.sent (i - at) (omega (arith, past, within)) (omega (arith, past)) (put-among whole bytes at i (omega (arith, longer)) past within)
    by_place i there (inr past) (inr after) =
        by_whole i (put-behind whole bytes at i (omega (arith, longer)) after) (cases_lt i (length old))

    by_end : (i : ℕ) → i < length (put_at whole at bytes) → at ≤ i → (i < at + length bytes) ⊎ (at + length bytes ≤ i) → (i < length old) ⊎ (IsIn i range ⊎ IsBefore i range)
    by_end i there past (inl within) =
        inr (inl (record { from = past; to = λ last is. omega (arith, within, covers last is) }))
    by_end i there past (inr after) = inl (omega (arith, there, after, long, longer))

-- a write that was ended: a front of its bytes is there
pub front-within : (range : Range) (old bytes : List ℕ) (count : ℕ) → Covers range (length bytes)
    → IsWriteFront (length old) range.start bytes count → ChangesWithin range bytes old
    (put_at old range.start (take count bytes))
front-within range old bytes count covers is = record {
  kept = λ i out there. elim (cases_lt i at) [
    | inl before ↦ record { there = omega (arith, there, as_long); same = put-before old part at i before there }
    | inr past ↦ (let after : at + length bytes ≤ i = behind range (length bytes) i covers out past in record {
      there = omega (arith, there, as_long);
      same = put-behind old part at i (omega (arith, past, there)) (omega (arith, after, few));
    })
  ];
  gained = λ i there. inl (omega (arith, there, as_long));
  each = λ i there. by_place i (omega (arith, there, as_long)) (cases_lt i at) (cases_lt i (at + length part));
  cuts = λ less. absurd (omega (arith, less, as_long));
}
  where
    at : ℕ
    at = range.start

    part : List ℕ
    part = take count bytes

    few : length part ≡ min count (length bytes)
    few = length-take count bytes

    long : length (put_at old at part) ≡ min at (length old) + length part + (length old - (at + length part))
    long = put-length old part at

    -- none is written, or what is written is in the file
    fits : (count : ℕ) → IsWriteFront (length old) at bytes count → (count ≡ 0) ⊎ (at + count ≤ length old)
    fits count none = inl refl
    fits count (sector less within even) = inr (omega (arith, within))
    fits count (end less same) = inr (omega (arith, same))

    by_place : (i : ℕ) → i < length old → (i < at) ⊎ (at ≤ i) → (i < at + length part) ⊎ (at + length part ≤ i) → ComesFrom at bytes old i (get_or (put_at old at part) i 0)
    by_place i there (inl before) within = ComesFrom.was there (put-before old part at i before there)
    by_place i there (inr past) (inl within) =
        ComesFrom.sent (i - at) (omega (arith, past, within, few)) (omega (arith, past))
        (put-among old part at i (omega (arith, past, there)) past within ∙ get_or-take count bytes (i - at) 0 (omega (arith, past, within, few)))
    by_place i there (inr past) (inr after) = ComesFrom.was there (put-behind old part at i (omega (arith, past, there)) after)

    as_long : length (put_at old at part) ≡ length old
    as_long = elim (fits count is) [
      | inl zero ↦ omega (arith, long, few, zero)
      | inr within ↦ omega (arith, long, few, within)
    ]

-- ---- another size

module _ (range : Range) (open_end : range.end ≡ None) where
  -- a byte is in the range if it is not before it
  in-range : (at : ℕ) → range.start ≤ at → IsIn at range
  in-range at from = record { from = from; to = λ last is. absurd (none-some last (sym open_end ∙ is)) }

  before-range : (at : ℕ) → ¬ IsIn at range → at < range.start
  before-range at out = elim (cases_lt at range.start) [
    | inl before ↦ before
    | inr from ↦ absurd (out (in-range at from))
  ]

  gained-there : (new : List ℕ) (old : ℕ) (at : ℕ) → at < length new → (at < old) ⊎ (IsIn at range ⊎ IsBefore at range)
  gained-there new old at there = elim (cases_lt at range.start) [
    | inl before ↦ inr (inr (before, in-range range.start (omega arith)))
    | inr from ↦ inr (inl (in-range at from))
  ]

  pub cut-within : (old : List ℕ) (size : ℕ) → range.start ≤ size → size ≤ length old → ChangesWithin range [] old (take size old)
  cut-within old size from less = record {
    kept = λ at out there. (let before : at < range.start = before-range at out in record {
      there = omega (arith, before, from, there, length-take size old);
      same = get_or-take size old at 0 (omega (arith, before, from));
    });
    gained = gained-there (take size old) (length old);
    each = λ at there. ComesFrom.was (omega (arith, there, length-take size old)) (get_or-take size old at 0 (omega (arith, there, length-take size old)));
    cuts = λ less. refl;
  }

  pub resized-within : (old : List ℕ) (size : ℕ) → range.start ≤ size → length old ≤ size → ChangesWithin range [] old (resized old size)
  resized-within old size from more = record {
    kept = λ at out there. (let before : at < range.start = before-range at out in record {
      there = omega (arith, before, from, there, length-take size (extended old size), extended-length old size);
      same = get_or-take size (extended old size) at 0 (omega (arith, before, from)) ∙ extended-at old size at there;
    });
    gained = gained-there (resized old size) (length old);
    each = λ at there.
        by_end at (get_or-take size (extended old size) at 0 (omega (arith, there, length-take size (extended old size)))) (cases_lt at (length old));
    cuts = λ less. refl;
  }
    where
      by_end : (at : ℕ) → get_or (resized old size) at 0 ≡ get_or (extended old size) at 0 → (at < length old) ⊎ (length old ≤ at) → ComesFrom range.start [] old at (get_or (resized old size) at 0)
      by_end at is (inl there) = ComesFrom.was there (is ∙ extended-at old size at there)
      by_end at is (inr past) = ComesFrom.filled past (is ∙ extended-zero old size at past)
