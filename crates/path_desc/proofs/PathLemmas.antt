-- What every number of a process names is there: of no paths, and after a process is given another's.
use Rattle.std.proofs.Common.{◌≡◌, ◌≢◌, ◌+◌, ◌-◌, ◌<◌, ◌≤◌, ℕ, Option, Some, None, IsSome, List, [], ◌++◌, length, get_or, slice_get, set, take, replicate, ◌⊎◌, inl, inr, sym, ap, ◌∙◌, subst, arith, rules, length-append, length-take}
use Rattle.std.proofs.lemmas.Bool.{cases_eq, cases_lt}
use Rattle.std.proofs.lemmas.List.{length-set, length-replicate, get_or-set_same, get_or-set_other, get_or_past, get_or-take, get_or-replicate, get_or_append_left, get_or-append-add}
use Rattle.std.proofs.lemmas.Option.{slice_get-get_or}
use Rattle.io_model.specs.declared.path.Desc.{Desc}
use Rattle.io_model.specs.declared.path.SysPath.{SysPath}
use Rattle.io_model.specs.Path.{PathTable, ArePaths, desc_of, numbers_of, slot_of, with_numbers, inherited_numbers, with_desc}

abbrev nothing : {X : Type 0} → Option X
nothing = None

-- free places have nothing, and so have those past them
free-place : {X : Type 0} (n i : ℕ) → get_or (replicate n (nothing {X = X})) i None ≡ None
free-place {X} n i = elim (cases_lt i n) [
  | inl within ↦ get_or-replicate n i None None within
  | inr past ↦ get_or_past (replicate n (nothing {X = X})) i None (omega (arith, length-replicate n (nothing {X = X})))
]

-- the numbers of a process without paths
free-number : (q m : ℕ) → get_or (get_or (replicate 33 (replicate 16 (nothing {X = SysPath}))) q []) m None ≡ None
free-number q m = elim (cases_lt q 33) [
  | inl within ↦ ap (λ (ns : List (Option SysPath)). get_or ns m None) (get_or-replicate 33 q (replicate 16 None) [] within) ∙ free-place 16 m
  | inr past ↦ ap (λ (ns : List (Option SysPath)). get_or ns m None) (get_or_past (replicate 33 (replicate 16 None)) q [] (omega (arith, length-replicate 33 (replicate 16 (nothing {X = SysPath})))))
]

-- no paths
pub are-no_paths : (descs : List (Option Desc)) (own : List (List (Option SysPath))) → descs ≡ replicate 65 None
    → own ≡ replicate 33 (replicate 16 None) → ArePaths (record { descs = descs; own = own })
are-no_paths descs own no_descs no_numbers = record {
  places = ap (length {A = Option Desc}) no_descs ∙ length-replicate 65 (nothing {X = Desc});
  processes = ap (length {A = List (Option SysPath)}) no_numbers ∙ length-replicate 33 (replicate 16 (nothing {X = SysPath}));
  numbers = λ p within. ap (λ (o : List (List (Option SysPath))). length (get_or o p [])) no_numbers ∙ ap
      (length {A = Option SysPath}) (get_or-replicate 33 p (replicate 16 None) [] within) ∙ length-replicate 16
      (nothing {X = SysPath});
  from_one = ap (λ (ds : List (Option Desc)). get_or ds 0 None) no_descs ∙ free-place 65 0;
  there = λ p n s named. absurd (let e : None ≡ Some s = sym (ap (λ (o : List (List (Option SysPath))). get_or (get_or o p []) n None) no_numbers ∙ free-number p n) ∙ named in cc);
}

-- the numbers of a process after those of one were set
numbers-set : (paths : PathTable) (p q : ℕ) (numbers : List (Option SysPath)) → p < length paths.own
    → (numbers_of (with_numbers paths p numbers) q ≡ numbers) ⊎ (numbers_of (with_numbers paths p numbers) q ≡
    numbers_of paths q)
numbers-set paths p q numbers within = elim (cases_eq q p) [
  | inl same ↦ inl (ap (λ (k : ℕ). get_or (set paths.own p numbers) k []) same ∙ get_or-set_same paths.own p numbers [] within)
  | inr differ ↦ inr (get_or-set_other paths.own p q numbers [] differ)
]

-- a number that is inherited names what it named
inherited-names : (numbers : List (Option SysPath)) (m : ℕ) (s : SysPath) → length numbers ≡ 16 → get_or (inherited_numbers numbers) m None ≡ Some s → get_or numbers m None ≡ Some s
inherited-names numbers m s sixteen named =
    let three : length (take 3 numbers) ≡ 3 = omega (arith, length-take 3 numbers) in
    elim (cases_lt m 3) [
      | inl within ↦
          sym (get_or-take 3 numbers m None within) ∙ sym (get_or_append_left (take 3 numbers) (replicate 13 None) None m (omega arith)) ∙ named
      | inr past ↦
          let at : m ≡ length (take 3 numbers) + (m - 3) = omega arith in
          absurd (let e : None ≡ Some s = sym (ap (λ (k : ℕ). get_or (inherited_numbers numbers) k None) at ∙
          get_or-append-add (take 3 numbers) (replicate 13 None) (m - 3) None ∙ free-place 13 (m - 3)) ∙ named in
          cc)
    ]

inherited-length : (numbers : List (Option SysPath)) → length numbers ≡ 16 → length (inherited_numbers numbers) ≡ 16
inherited-length numbers sixteen =
    omega (arith, length-append (take 3 numbers) (replicate 13 (nothing {X = SysPath})), length-take 3 numbers, length-replicate 13 (nothing {X = SysPath}))

-- a process is given what another's first three numbers name
pub are-inherited : (paths : PathTable) (from to : ℕ) (numbers : List (Option SysPath)) → ArePaths paths → from < 33
    → to < 33 → numbers ≡ inherited_numbers (numbers_of paths from) → ArePaths (with_numbers paths to numbers)
are-inherited paths from to numbers are parent child given =
    let within : to < length paths.own = omega (arith, are.processes) in
    let sixteen : length (numbers_of paths from) ≡ 16 = are.numbers from parent in
    record {
      places = are.places;
      processes = length-set paths.own to numbers ∙ are.processes;
      numbers = λ q there. elim (numbers-set paths to q numbers within) [
        | inl is ↦ ap (length {A = Option SysPath}) (is ∙ given) ∙ inherited-length (numbers_of paths from) sixteen
        | inr is ↦ ap (length {A = Option SysPath}) is ∙ are.numbers q there
      ];
      from_one = are.from_one;
      there = λ q m s named. elim (numbers-set paths to q numbers within) [
        | inl is ↦
            are.there from m s (inherited-names (numbers_of paths from) m s sixteen (ap (λ (ns : List (Option SysPath)). get_or ns m None) (sym (is ∙ given)) ∙ named))
        | inr is ↦ are.there q m s (ap (λ (ns : List (Option SysPath)). get_or ns m None) (sym is) ∙ named)
      ];
    }

-- nothing is not there
is-nothing : (o : Option Desc) → o ≡ None → IsSome o → ⊥
is-nothing None e live = search rules
is-nothing (Some desc) e live = cc

no-path_0 : (paths : PathTable) → desc_of paths 0 ≡ None → IsSome (desc_of paths 0) → ⊥
no-path_0 paths e live = is-nothing (desc_of paths 0) e live

something : (o : Option Desc) (desc : Desc) → o ≡ Some desc → IsSome o
something o desc e = subst (λ (o : Option Desc). IsSome o) (sym e) (search rules)

-- there is a place where something is
place-there : (descs : List (Option Desc)) (s : ℕ) → IsSome (get_or descs s None) → s < length descs
place-there descs s live = elim (cases_lt s (length descs)) [
  | inl within ↦ within
  | inr past ↦ absurd (is-nothing (get_or descs s None) (get_or_past descs s None past) live)
]

described-same : (paths : PathTable) (s t : ℕ) (desc : Desc) → t ≡ s → IsSome (desc_of paths s) → IsSome (desc_of (with_desc paths s (Some desc)) t)
described-same paths s t desc same live =
    something (desc_of (with_desc paths s (Some desc)) t) desc
    (ap (λ (k : ℕ). get_or (set paths.descs s (Some desc)) k None) same ∙ get_or-set_same paths.descs s
    (Some desc) None (place-there paths.descs s live))

-- a path is given another descriptor
pub are-described : (paths : PathTable) (s : ℕ) (desc : Desc) → ArePaths paths → IsSome (desc_of paths s) → ArePaths (with_desc paths s (Some desc))
are-described paths s desc are live =
    let apart : 0 ≢ s = λ same. no-path_0 paths are.from_one (subst (λ (k : ℕ). IsSome (desc_of paths k)) (sym same) live) in
    record {
      places = length-set paths.descs s (Some desc) ∙ are.places;
      processes = are.processes;
      numbers = are.numbers;
      from_one = get_or-set_other paths.descs s 0 (Some desc) None apart ∙ are.from_one;
      there = λ q m t named. elim (cases_eq t.0 s) [
        | inl same ↦ described-same paths s t.0 desc same live
        | inr differ ↦ subst (λ (o : Option Desc). IsSome o) (sym (get_or-set_other paths.descs s t.0 (Some desc) None differ)) (are.there q m t named)
      ];
    }

-- what a list has at one of its places, whatever stands for the others
pub same-item : {X : Type 0} (xs : List X) (i : ℕ) (d e : X) → i < length xs → get_or xs i d ≡ get_or xs i e
same-item {X} xs i d e within =
    let by_d : slice_get xs i ≡ Some (get_or xs i d) = slice_get-get_or xs i d within in
    let by_e : slice_get xs i ≡ Some (get_or xs i e) = slice_get-get_or xs i e within in
    cc
