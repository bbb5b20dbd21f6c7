-- Paths that processes hold, after numbers were set, doubled, closed and inherited.
use Rattle.std.proofs.Common.{◌≡◌, ◌≢◌, ◌<◌, ◌+◌, ℕ, zero, suc, Bool, true, false, if◌then◌else◌, Option, Some, None, IsSome, is_none, option_map, List, [], ◌∷◌, length, get_or, set, drop, position, inl, inr, sym, ap, refl, ◌∙◌, subst, arith}
use Rattle.std.specs.List.{list_any}
use Rattle.std.specs.Option.{option_map_or}
use Rattle.std.proofs.lemmas.Bool.{cases_eq, cases_lt, eqb-true, eq-eqb, false≢true, or_cases, or_left, or_right}
use Rattle.std.proofs.lemmas.List.{get_or-set_same, get_or-set_other, get_or-drop, get_or_past}
use Rattle.std.proofs.lemmas.List.Quantifiers.{position-Some}
use Rattle.io_model.specs.declared.path.Desc.{Desc}
use Rattle.io_model.specs.declared.path.SysPath.{SysPath}
use Rattle.io_model.specs.Path.{PathTable, ArePaths, numbers_of, slot_of, desc_of, is_image, holds_path, is_held, with_desc, with_numbers, with_slot, with_path, path_at, free_number, free_path, paths_after_begin, paths_after_dup, paths_after_close, paths_after_inherit, inherited_numbers}
use Rattle.io_state.specs.Sound.{target_at}

abbrev nothing : {X : Type 0} → Option X
nothing = None

none-from : {X : Type 0} (o : Option X) → is_none o ≡ true → o ≡ None
none-from None e = refl
none-from (Some x) e = absurd (false≢true e)

-- a test that a list passes is passed at a place
any-found : {X : Type 0} (test : X → Bool) (xs : List X) (d : X) → list_any test xs ≡ true → (i : ℕ) × (test (get_or xs i d) ≡ true)
any-found test [] d e = absurd (false≢true e)
any-found test (x ∷ xs) d e = elim (or_cases (test x) (list_any test xs) e) [
  | inl here ↦ (0, here)
  | inr later ↦ (let rest = any-found test xs d later in (suc rest.0, rest.1))
]

-- and the other way round
any-at : {X : Type 0} (test : X → Bool) (xs : List X) (d : X) (i : ℕ) → test d ≡ false → test (get_or xs i d) ≡ true → list_any test xs ≡ true
any-at test [] d i free e = absurd (false≢true (sym free ∙ e))
any-at test (x ∷ xs) d zero free e = or_left (test x) (list_any test xs) e
any-at test (x ∷ xs) d (suc i) free e = or_right (test x) (list_any test xs) (any-at test xs d i free e)

-- a place that does not pass may be set
any-set : {X : Type 0} (test : X → Bool) (xs : List X) (n : ℕ) (x d : X) → test (get_or xs n d) ≡ false → list_any test xs ≡ true → list_any test (set xs n x) ≡ true
any-set test [] n x d free e = absurd (false≢true e)
any-set test (y ∷ ys) zero x d free e = elim (or_cases (test y) (list_any test ys) e) [
  | inl here ↦ absurd (false≢true (sym free ∙ here))
  | inr later ↦ or_right (test x) (list_any test ys) later
]
any-set test (y ∷ ys) (suc n) x d free e = elim (or_cases (test y) (list_any test ys) e) [
  | inl here ↦ or_left (test y) (list_any test (set ys n x)) here
  | inr later ↦ or_right (test y) (list_any test (set ys n x)) (any-set test ys n x d free later)
]

-- the numbers of another process stay
pub numbers-other : (paths : PathTable) (p q : ℕ) (numbers : List (Option SysPath)) → q ≢ p → numbers_of (with_numbers paths p numbers) q ≡ numbers_of paths q
numbers-other paths p q numbers differ = get_or-set_other paths.own p q numbers [] differ

-- a process that holds a path holds it still where one of the numbers that were free is set
holds-more : (paths : PathTable) (p n q s : ℕ) (path : Option SysPath) → slot_of paths p n ≡ None → holds_path paths q s ≡ true → holds_path (with_slot paths p n path) q s ≡ true
holds-more paths p n q s path free holds = elim (cases_eq q p) [
  | inl same ↦ elim (cases_lt p (length paths.own)) [
    | inl within ↦
        let now : numbers_of (with_slot paths p n path) q ≡ set (numbers_of paths p) n path =
        ap (λ (k : ℕ). get_or (set paths.own p (set (numbers_of paths p) n path)) k []) same ∙ get_or-set_same paths.own p (set (numbers_of paths p) n path) [] within in
        let held : list_any (is_image s) (numbers_of paths p) ≡ true = ap (λ (k : ℕ). list_any (is_image s) (numbers_of paths k)) (sym same) ∙ holds in
        ap (list_any (is_image s)) now ∙ any-set (is_image s) (numbers_of paths p) n path None (ap (is_image s) free) held
    | inr past ↦
        absurd (false≢true (sym (ap (list_any (is_image s)) (get_or_past paths.own q [] (omega (arith, same, past)))) ∙ holds))
  ]
  | inr differ ↦ ap (list_any (is_image s)) (numbers-other paths p q (set (numbers_of paths p) n path) differ) ∙ holds
]

-- what a number names is held
pub slot-held : (paths : PathTable) (p n : ℕ) (path : SysPath) → slot_of paths p n ≡ Some path → holds_path paths p path.0 ≡ true
slot-held paths p n path named =
    any-at (is_image path.0) (numbers_of paths p) None n refl (ap (is_image path.0) named ∙ eq-eqb path.0 path.0 refl)

image-of : (s : ℕ) (place : Option SysPath) → is_image s place ≡ true → (path : SysPath) × (place ≡ Some path) × (path.0 ≡ s)
image-of s None e = absurd (false≢true e)
image-of s (Some path) e = (path, refl, eqb-true path.0 s e)

-- a path that a process holds is there
pub held-there : (paths : PathTable) (p s : ℕ) → ArePaths paths → holds_path paths p s ≡ true → IsSome (desc_of paths s)
held-there paths p s are holds =
    let found = any-found (is_image s) (numbers_of paths p) None holds in
    let image = image-of s (get_or (numbers_of paths p) found.0 None) found.1 in
    subst (λ (k : ℕ). IsSome (desc_of paths k)) image.2 (are.there p found.0 image.0 image.1)

-- a process that holds a path is one of 33
pub holder-within : (paths : PathTable) (p s : ℕ) → ArePaths paths → holds_path paths p s ≡ true → p < 33
holder-within paths p s are holds = elim (cases_lt p 33) [
  | inl within ↦ within
  | inr past ↦
      absurd (false≢true (sym (ap (list_any (is_image s)) (get_or_past paths.own p [] (omega (arith, past, are.processes)))) ∙ holds))
]

-- a path that a process holds is held
held-by : (paths : PathTable) (p s : ℕ) → holds_path paths p s ≡ true → is_held paths s ≡ true
held-by paths p s holds = any-at (list_any (is_image s)) paths.own [] p refl holds

-- the path that a process holds, and what it was opened on, are as before
abbrev pub IsHeldStill : PathTable → PathTable → ℕ → ℕ → Type 0
IsHeldStill paths new p s = (holds_path new p s ≡ true) × (target_at new s ≡ target_at paths s)

-- ---- a path is opened

free-place : {X : Type 0} (places : List (Option X)) (k : ℕ) (found : Option ℕ) → position is_none (drop 1 places) ≡ found → option_map (λ (k : ℕ). k + 1) found ≡ Some k → get_or places k None ≡ None
free-place {X} places k None e at = absurd (let x : nothing {X = ℕ} ≡ Some k = at in cc)
free-place {X} places k (Some j) e at =
    let next : j + 1 ≡ k = (let some : Some (j + 1) ≡ Some k = at in cc) in
    let free : get_or (drop 1 places) j None ≡ None = none-from (get_or (drop 1 places) j None) (position-Some is_none (drop 1 places) j None e).1 in
    ap (λ (i : ℕ). get_or places i None) (omega (arith, next)) ∙ sym (get_or-drop 1 places j None) ∙ free

free-slot : (paths : PathTable) (p n : ℕ) → free_number paths p ≡ Some n → slot_of paths p n ≡ None
free-slot paths p n e = none-from (slot_of paths p n) (position-Some is_none (numbers_of paths p) n None e).1

begun-by : (paths : PathTable) (p : ℕ) (desc : Desc) (q s : ℕ) (number path : Option ℕ) → free_number paths p ≡ number
    → free_path paths ≡ path → ArePaths paths → holds_path paths q s ≡ true → IsHeldStill paths
    (option_map_or (λ n. option_map_or (with_path paths p desc n) path paths) number paths) q s
begun-by paths p desc q s None path a b are holds = (holds, refl)
begun-by paths p desc q s (Some n) None a b are holds = (holds, refl)
begun-by paths p desc q s (Some n) (Some k) a b are holds = (
  holds-more (with_desc paths k (Some desc)) p n q s (Some (record { 0 = k })) (free-slot paths p n a) holds,
  ap (option_map (λ (d : Desc). d.target)) (get_or-set_other paths.descs k s (Some desc) None apart),
)
  where
    apart : s ≢ k
    apart same =
        let free : desc_of paths k ≡ None = free-place paths.descs k (position is_none (drop 1 paths.descs)) refl b in
        let none : IsSome {T = Desc} None =
        subst (λ (o : Option Desc). IsSome o) (ap (λ (i : ℕ). desc_of paths i) same ∙ free) (held-there paths q s are holds)
        in cc

pub begun-still : (paths : PathTable) (p : ℕ) (desc : Desc) (q s : ℕ) → ArePaths paths → holds_path paths q s ≡ true → IsHeldStill paths (paths_after_begin paths p desc) q s
begun-still paths p desc q s are holds = begun-by paths p desc q s (free_number paths p) (free_path paths) refl refl are holds

-- ---- a number is doubled

doubled-by : (paths : PathTable) (p n q s : ℕ) (number : Option ℕ) → free_number paths p ≡ number → holds_path paths q
    s ≡ true → IsHeldStill paths (option_map_or (λ free. with_slot paths p free (slot_of paths p n)) number paths) q s
doubled-by paths p n q s None a holds = (holds, refl)
doubled-by paths p n q s (Some k) a holds = (holds-more paths p k q s (slot_of paths p n) (free-slot paths p k a) holds, refl)

pub doubled-still : (paths : PathTable) (p n q s : ℕ) → holds_path paths q s ≡ true → IsHeldStill paths (paths_after_dup paths p n) q s
doubled-still paths p n q s holds = doubled-by paths p n q s (free_number paths p) refl holds

-- ---- a number is closed

closed-by : (paths slotless : PathTable) (k q s : ℕ) (held : Bool) → is_held slotless k ≡ held → holds_path slotless q
    s ≡ true → target_at slotless s ≡ target_at paths s → IsHeldStill paths (if held then slotless else with_desc
    slotless k None) q s
closed-by paths slotless k q s true e holds same = (holds, same)
closed-by paths slotless k q s false e holds same = (
  holds,
  ap (option_map (λ (d : Desc). d.target)) (get_or-set_other slotless.descs k s None None apart) ∙ same,
)
  where
    apart : s ≢ k
    apart is = false≢true (sym e ∙ held-by slotless q k (subst (λ (i : ℕ). holds_path slotless q i ≡ true) is holds))

-- of another process
pub closed-still : (paths : PathTable) (p n q s : ℕ) → q ≢ p → holds_path paths q s ≡ true → IsHeldStill paths (paths_after_close paths p n) q s
closed-still paths p n q s differ holds =
    closed-by paths (with_slot paths p n None) (path_at paths p n) q s (is_held (with_slot paths p n None)
    (path_at paths p n)) refl (ap (list_any (is_image s))
    (numbers-other paths p q (set (numbers_of paths p) n None) differ) ∙ holds) refl

-- ---- a process inherits

-- of another process
pub inherited-still : (paths : PathTable) (parent child q s : ℕ) → q ≢ child → holds_path paths q s ≡ true → IsHeldStill paths (paths_after_inherit paths parent child) q s
inherited-still paths parent child q s differ holds =
    (ap (list_any (is_image s)) (numbers-other paths child q (inherited_numbers (numbers_of paths parent)) differ) ∙ holds, refl)
