-- What touches no terminal and no pipe keeps the table of paths in order.
use Rattle.std.proofs.Common.{◌≡◌, ◌≢◌, ℕ, zero, suc, ◌∷◌, ◌+◌, ◌<◌, Bool, true, false, Option, Some, None, is_none, List, [], length, drop, position, get_or, refl, sym, ap, ◌∙◌, subst, inl, inr, arith}
use Rattle.std.specs.Prelude.{IsSome, is_some, option_map, slice_index_or, slice_set}
use Rattle.std.specs.List.{list_any}
use Rattle.std.specs.Option.{option_map_or}
use Rattle.std.proofs.lemmas.Bool.{cases_eq, cases_lt, eq-eqb, false≢true, or_cases, or_left, or_right}
use Rattle.std.proofs.lemmas.List.{get_or-set_same, get_or-set_other, get_or_past, length-set}
use Rattle.std.proofs.lemmas.List.Quantifiers.{position-Some}
use Rattle.std.proofs.lemmas.Option.{none-some, same_Some}
use Rattle.os9_base.specs.declared.registers.TimePacket.{TimePacket}
use Rattle.os9_outer.specs.TerminalState.{TerminalState}
use Rattle.proc_model.specs.CallResult.{CallResult}
use Rattle.proc_model.specs.Processes.{Processes}
use Rattle.io_model.specs.Path.{ArePaths, PathTable, desc_of, free_number, free_path, is_held, is_image, numbers_of, paths_after_begin, slot_of, with_desc, with_path}
use Rattle.io_model.specs.declared.path.Desc.{Desc}
use Rattle.io_model.specs.declared.path.SysPath.{SysPath}
use Rattle.io_model.specs.declared.path.Target.{Target}
use Rattle.io_model.specs.Io.{new_desc}
use Rattle.file_rules.specs.Attempts.{asker_of}
use Rattle.file_rules.specs.Files.{Asker, Files, place_of_target}
use Rattle.file_rules.specs.declared.path_call.PathCall.{PathCall}
use Rattle.lock_model.specs.declared.place.FilePlace.{FilePlace}
use Rattle.file_laws.specs.Devices.{number_in}
use Rattle.file_laws.specs.Touch.{KeepsTable, TouchesNoDevice, PathsMove}
use Rattle.file_laws.proofs.Keeps.{begun, begun-numbers, begun-other, desc-within, file-named, free-slot}

-- a test that a list passes is passed at a place
any-found : {X : Type 0} (test : X → Bool) (xs : List X) (d : X) → list_any test xs ≡ true → (i : ℕ) × (test (get_or xs i d) ≡ true)
any-found test [] d e = absurd (false≢true e)
any-found test (x ∷ xs) d e = elim (or_cases (test x) (list_any test xs) e) [
  | inl here ↦ (0, here)
  | inr later ↦ (let rest = any-found test xs d later in (suc rest.0, rest.1))
]

-- and the other way round
any-at : {X : Type 0} (test : X → Bool) (xs : List X) (d : X) (i : ℕ) → test d ≡ false → test (get_or xs i d) ≡ true → list_any test xs ≡ true
any-at test [] d i free e = absurd (false≢true (sym free ∙ e))
any-at test (x ∷ xs) d zero free e = or_left (test x) (list_any test xs) e
any-at test (x ∷ xs) d (suc i) free e = or_right (test x) (list_any test xs) (any-at test xs d i free e)

-- a place that does not pass may be set
any-set : {X : Type 0} (test : X → Bool) (xs : List X) (n : ℕ) (x d : X) → test (get_or xs n d) ≡ false → list_any test xs ≡ true → list_any test (slice_set xs n x) ≡ true
any-set test [] n x d free e = absurd (false≢true e)
any-set test (y ∷ ys) zero x d free e = elim (or_cases (test y) (list_any test ys) e) [
  | inl here ↦ absurd (false≢true (sym free ∙ here))
  | inr later ↦ or_right (test x) (list_any test ys) later
]
any-set test (y ∷ ys) (suc n) x d free e = elim (or_cases (test y) (list_any test ys) e) [
  | inl here ↦ or_left (test y) (list_any test (slice_set ys n x)) here
  | inr later ↦ or_right (test y) (list_any test (slice_set ys n x)) (any-set test ys n x d free later)
]

table-same : (paths : PathTable) → KeepsTable paths paths
table-same paths = record { paths = λ are. are; held = λ held. held }

some-desc : (paths : PathTable) (s : ℕ) (desc : Desc) → desc_of paths s ≡ Some desc → IsSome (desc_of paths s)
some-desc paths s desc is = ap (λ (o : Option Desc). is_some o) is

-- ---- another descriptor of a path that is there

module _ (paths : PathTable) (s : ℕ) (old new : Desc) (there : desc_of paths s ≡ Some old) where
  abbrev moved : PathTable
  moved = with_desc paths s (Some new)

  moved-at : desc_of moved s ≡ Some new
  moved-at = get_or-set_same paths.descs s (Some new) None (desc-within paths s old there)

  moved-other : (t : ℕ) → t ≢ s → desc_of moved t ≡ desc_of paths t
  moved-other t differ = get_or-set_other paths.descs s t (Some new) None differ

  -- the same paths are there
  was-there : (t : ℕ) (desc : Desc) → desc_of moved t ≡ Some desc → (d : Desc) × (desc_of paths t ≡ Some d)
  was-there t desc is =
      elim (cases_eq t s) [
        | inl same ↦ (old, ap (desc_of paths) same ∙ there)
        | inr differ ↦ (desc, sym (moved-other t differ) ∙ is)
      ]

  still-there : (t : ℕ) → IsSome (desc_of paths t) → IsSome (desc_of moved t)
  still-there t some =
      elim (cases_eq t s) [
        | inl same ↦ ap (λ (t : ℕ). is_some (desc_of moved t)) same ∙ some-desc moved s new moved-at
        | inr differ ↦ ap (λ (o : Option Desc). is_some o) (moved-other t differ) ∙ some
      ]

  table-moved : KeepsTable paths moved
  table-moved = record {
    paths = λ are. record {
      places = length-set paths.descs s (Some new) ∙ are.places;
      processes = are.processes;
      numbers = are.numbers;
      from_one = moved-other 0 (λ same. none-some old (sym are.from_one ∙ ap (desc_of paths) same ∙ there)) ∙ are.from_one;
      there = λ q n t is. still-there t.0 (are.there q n t is);
    };
    held = λ held t desc is. let (d, was) = was-there t desc is in held t d was;
  }

-- ---- a new path

module _ (p : ℕ) (paths : PathTable) (target : Target) (mode : ℕ) (place : FilePlace) (on : place_of_target target ≡
    Some place) (n s : ℕ) (number : free_number paths p ≡ Some n) (path : free_path paths ≡ Some s) where
  abbrev after : PathTable
  after = begun p paths target mode place on n s number path

  slot-within : n < length (numbers_of paths p)
  slot-within = (position-Some is_none (numbers_of paths p) n None number).0

  process-within : p < length paths.own
  process-within =
      elim (cases_lt p (length paths.own)) [
        | inl within ↦ within
        | inr past ↦ absurd (below-nothing (ap (length {A = Option SysPath}) (get_or_past paths.own p [] past)))
      ]
    where
      below-nothing : length (numbers_of paths p) ≡ 0 → ⊥
      below-nothing none = omega (arith, slot-within, none)

  own-numbers : numbers_of after p ≡ slice_set (numbers_of paths p) n (Some (record { 0 = s }))
  own-numbers = get_or-set_same paths.own p (slice_set (numbers_of paths p) n (Some (record { 0 = s }))) [] process-within

  own-slot : slot_of after p n ≡ Some (record { 0 = s })
  own-slot =
      ap (λ (numbers : List (Option SysPath)). slice_index_or numbers n None) own-numbers
      ∙ get_or-set_same (numbers_of paths p) n (Some (record { 0 = s })) None slot-within

  by-place : (i : Option ℕ) → position is_none (drop 1 paths.descs) ≡ i → option_map (λ (k : ℕ). k + 1) i ≡ Some s → (0 ≢ s) × (s < length paths.descs)
  by-place None at is = absurd (none-some s is)
  by-place (Some i) at is =
      let found = position-Some is_none (drop 1 paths.descs) i None at in
      let same : i + 1 ≡ s = same_Some (i + 1) s is in
      (λ zero. omega (arith, same, zero), by_length (paths.descs) i s same found.0)
    where
      by_length : (xs : List (Option Desc)) (i s : ℕ) → i + 1 ≡ s → i < length (drop 1 xs) → s < length xs
      by_length [] i s same within = absurd (omega arith)
      by_length (x ∷ xs) i s same within = omega arith

  path-within : (0 ≢ s) × (s < length paths.descs)
  path-within = by-place (position is_none (drop 1 paths.descs)) refl path

  new-desc : desc_of after s ≡ Some (new_desc target mode)
  new-desc = get_or-set_same paths.descs s (Some (new_desc target mode)) None path-within.1

  other-desc : (t : ℕ) → t ≢ s → desc_of after t ≡ desc_of paths t
  other-desc t differ = begun-other p paths target mode place on n s number path t differ

  still-there-too : (t : ℕ) → IsSome (desc_of paths t) → IsSome (desc_of after t)
  still-there-too t some =
      elim (cases_eq t s) [
        | inl same ↦ ap (λ (t : ℕ). is_some (desc_of after t)) same ∙ some-desc after s (new_desc target mode) new-desc
        | inr differ ↦ ap (λ (o : Option Desc). is_some o) (other-desc t differ) ∙ some
      ]

  paths-after : ArePaths paths → ArePaths after
  paths-after are = record {
    places = length-set paths.descs s (Some (new_desc target mode)) ∙ are.places;
    processes = length-set paths.own p (slice_set (numbers_of paths p) n (Some (record { 0 = s }))) ∙ are.processes;
    numbers = numbers_are;
    from_one = other-desc 0 path-within.0 ∙ are.from_one;
    there = there_is;
  }
    where
      numbers_are : (q : ℕ) → q < 33 → length (numbers_of after q) ≡ 16
      numbers_are q within =
          elim (cases_eq q p) [
            | inl same ↦ ap (λ (q : ℕ). length (numbers_of after q)) same ∙ ap (length {A = Option SysPath})
                own-numbers ∙ length-set (numbers_of paths p) n (Some (record { 0 = s })) ∙ ap
                (λ (q : ℕ). length (numbers_of paths q)) (sym same) ∙ are.numbers q within
            | inr differ ↦ ap (length {A = Option SysPath}) (begun-numbers p paths target mode place on n s number path q differ) ∙ are.numbers q within
          ]

      own_there : (m : ℕ) (t : SysPath) → slot_of after p m ≡ Some t → IsSome (desc_of after t.0)
      own_there m t is =
          elim (cases_eq m n) [
            | inl same ↦ subst (λ (t : SysPath). IsSome (desc_of after t.0)) (same_Some (record { 0 = s }) t
                (sym own-slot ∙ ap (slot_of after p) (sym same) ∙ is)) (some-desc after s (new_desc target mode)
                new-desc)
            | inr differ ↦ still-there-too t.0
                (are.there p m t (sym (get_or-set_other (numbers_of paths p) n m (Some (record { 0 = s })) None
                differ) ∙ ap (λ (numbers : List (Option SysPath)). slice_index_or numbers m None) (sym own-numbers) ∙
                is))
          ]

      there_is : (q m : ℕ) (t : SysPath) → slot_of after q m ≡ Some t → IsSome (desc_of after t.0)
      there_is q m t is =
          elim (cases_eq q p) [
            | inl same ↦ own_there m t (ap (λ (q : ℕ). slot_of after q m) (sym same) ∙ is)
            | inr differ ↦ still-there-too t.0
                (are.there q m t (ap (λ (numbers : List (Option SysPath)). slice_index_or numbers m None)
                (sym (begun-numbers p paths target mode place on n s number path q differ)) ∙ is))
          ]

  -- what was held is held
  more-numbers : (t : ℕ) → list_any (is_image t) (numbers_of paths p) ≡ true → list_any (is_image t) (numbers_of after p) ≡ true
  more-numbers t holds =
      ap (list_any (is_image t)) own-numbers
      ∙ any-set (is_image t) (numbers_of paths p) n (Some (record { 0 = s })) None (ap (is_image t) (free-slot paths p n number)) holds

  held-still : (t : ℕ) → is_held paths t ≡ true → is_held after t ≡ true
  held-still t held =
      let (q, holds) = any-found (list_any (is_image t)) paths.own [] held in
      any-at (list_any (is_image t)) after.own [] q refl
      (elim (cases_eq q p) [
        | inl same ↦ ap (λ (q : ℕ). list_any (is_image t) (numbers_of after q)) same ∙ more-numbers t (ap (λ (q : ℕ). list_any (is_image t) (numbers_of paths q)) (sym same) ∙ holds)
        | inr differ ↦ ap (list_any (is_image t)) (begun-numbers p paths target mode place on n s number path q differ) ∙ holds
      ])

  new-held : is_held after s ≡ true
  new-held =
      any-at (list_any (is_image s)) after.own [] p refl
      (any-at (is_image s) (numbers_of after p) None n refl (ap (is_image s) own-slot ∙ eq-eqb s s refl))

  table-begun : KeepsTable paths after
  table-begun = record {
    paths = paths-after;
    held = λ held t desc is.
        elim (cases_eq t s) [
          | inl same ↦ ap (is_held after) same ∙ new-held
          | inr differ ↦ held-still t (held t desc (sym (other-desc t differ) ∙ is))
        ];
  }

-- ---- all of it

table-path : (p : ℕ) (paths : PathTable) (target : Target) (mode : ℕ) (place : FilePlace) → place_of_target target ≡ Some place → KeepsTable paths (paths_after_begin paths p (new_desc target mode))
table-path p paths target mode place on = by_places (free_number paths p) (free_path paths) refl refl
  where
    by_places : (number path : Option ℕ) → free_number paths p ≡ number → free_path paths ≡ path
        → KeepsTable paths (option_map_or (λ n. option_map_or (with_path paths p (new_desc target mode) n) path paths)
        number paths)
    by_places None path number_is path_is = table-same paths
    by_places (Some n) None number_is path_is = table-same paths
    by_places (Some n) (Some s) number_is path_is = table-begun p paths target mode place on n s number_is path_is

table-kept : (call : PathCall) (asker : Asker) (files : Files) (paths : PathTable) → PathsMove call asker files paths → KeepsTable files.io.paths paths
table-kept call asker files paths (inl same) = subst (KeepsTable files.io.paths) (sym same) (table-same files.io.paths)
table-kept call asker files paths (inr (inl it)) =
    subst (KeepsTable files.io.paths) (sym it.is) (table-moved files.io.paths it.found.opened.path.0
    it.found.opened.desc (record it.found.opened.desc { at = it.at }) (file-named files asker.caller.process.0
    (number_in call asker) it.found it.named).desc)
table-kept call asker files paths (inr (inr (inl it))) =
    subst (KeepsTable files.io.paths) (sym it.is) (table-moved files.io.paths it.found.opened.path.0
    it.found.opened.desc (record it.found.opened.desc { ticks = asker.caller.regs.x })
    (file-named files asker.caller.process.0 (number_in call asker) it.found it.named).desc)
table-kept call asker files paths (inr (inr (inr it))) =
    subst (KeepsTable files.io.paths) (sym it.is) (table-path asker.caller.process.0 files.io.paths it.target asker.caller.regs.a it.place it.on)

pub paths-kept : {call : PathCall} {now : TimePacket} (processes : Processes) (files : Files) (p : ℕ) (result : CallResult)
    (new : Files) (old_terms new_terms : List TerminalState) → TouchesNoDevice call processes files now p result new
    old_terms new_terms → KeepsTable files.io.paths new.io.paths
paths-kept {call} {now} processes files p result new old_terms new_terms it =
    table-kept call (asker_of processes p now) files new.io.paths it.paths
