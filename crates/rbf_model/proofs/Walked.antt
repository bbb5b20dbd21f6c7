-- A walk in a volume arrives at a file of the volume.
use Rattle.std.proofs.Common.{◌≡◌, ℕ, zero, suc, ◌+◌, ◌/◌, ◌<◌, ◌≤◌, Bool, true, List, [], ◌∷◌, length, get_or, Option, Some, None, IsSome, refl, sym, ap, ◌∙◌, subst, ⊎_elim, arith}
use Rattle.std.specs.Prelude.{find, option_map}
use Rattle.std.proofs.lemmas.Bool.{cases_Bool, cond-true, cond-false, and_parts}
use Rattle.std.proofs.lemmas.Option.{same_Some, none-some}
use Rattle.std.proofs.lemmas.List.FromFn.{length-map-range_with_len, get_or-map-range_with_len}
use Rattle.rbf_model.specs.Fields.{directory_entry, is_used, descriptor_field}
use Rattle.rbf_model.specs.Geometry.{Geometry}
use Rattle.rbf_model.specs.File.{DiskFile, is_directory}
use Rattle.rbf_model.specs.Tree.{HasEntry, IsParent, of_root, of_other, HasDots, self_first, parent_first, root}
use Rattle.rbf_model.specs.Volume.{IsTree, directories, listing}
use Rattle.rbf_model.specs.Walk.{WalkEnd, arrives, not_allowed, not_found, end_at, step, go_on, walk, look_up, entry_has_name, directory_entries, may_search}
use Rattle.rbf_model.proofs.Lists.{some_is}
use Rattle.rbf_model.proofs.Entries.{listing_directory}
use Rattle.rbf_model.proofs.Named.{names_to}

-- what is found passes the test, and stands in the list
find_some : {X : Type 0} (p : X → Bool) (xs : List X) (y : X) → find p xs ≡ Some y → (k : ℕ) × (k < length xs) × (get_or xs k y ≡ y) × (p y ≡ true)
find_some p [] y h = absurd (none-some y h)
find_some p (x ∷ xs) y h =
    ⊎_elim
    (λ here.
    let same = same_Some x y (sym (cond-true (p x) (Some x) (find p xs) here) ∙ h) in
    (0, omega arith, same, ap p (sym same) ∙ here))
    (λ later.
    let w = find_some p xs y (sym (cond-false (p x) (Some x) (find p xs) later) ∙ h) in
    let low = w.1 in
    (suc w.0, omega arith, w.2, w.3))
    (cases_Bool (p x))

map_some : {X : Type 0} (f : X → ℕ) (o : Option X) (n : ℕ) → option_map f o ≡ Some n → (x : X) × (o ≡ Some x) × (f x ≡ n)
map_some f None n h = absurd (none-some n h)
map_some f (Some x) n h = (x, refl, same_Some (f x) n h)

found_some : (o : Option ℕ) (n : ℕ) → end_at o ≡ arrives n → o ≡ Some n
found_some None n h = cc
found_some (Some m) n h = cc

-- a name that is looked up is that of an entry
look_up_entry : (contents name : List ℕ) (n : ℕ) → look_up contents name ≡ Some n → (i : ℕ) × HasEntry contents i × (descriptor_field (directory_entry contents i) ≡ n)
look_up_entry contents name n h =
    let m = map_some descriptor_field (find (entry_has_name name) (directory_entries contents)) n h in
    let w = find_some (entry_has_name name) (directory_entries contents) m.0 m.1 in
    let low : w.0 < length contents / 32 = subst (λ k. w.0 < k) (length-map-range_with_len (directory_entry contents) 0 (length contents / 32)) w.1 in
    let place : 0 + w.0 ≡ w.0 = omega arith in
    let is : directory_entry contents w.0 ≡ m.0 = sym (get_or-map-range_with_len (directory_entry contents) 0 (length contents / 32) w.0 w.0 m.0 low place) ∙ w.2 in (
      w.0,
      record { within = omega arith; used = subst (λ e. is_used e ≡ true) (sym is) (and_parts _ _ w.3).0 },
      ap descriptor_field is ∙ m.2,
    )

module _ (g : Geometry) (files : ℕ → Option DiskFile) (tree : IsTree g files) where
  parent_file : (d p : ℕ) → IsParent g (directories files) d p → IsSome (files p)
  parent_file d p (of_root a b) = subst (λ k. IsSome (files k)) (sym b) ((tree.reached g.root).1 root)
  parent_file d p (of_other a link) = (tree.reached p).1 link.from

  dots_files : (d : ℕ) → IsSome (files d) → HasDots g (directories files) d
      → IsSome (files (descriptor_field (directory_entry (directories files d) 0))) × IsSome (files (descriptor_field (directory_entry (directories files d) 1)))
  dots_files d some (self_first {p = p} one two parent) =
      (subst (λ k. IsSome (files k)) (sym one.descriptor) some, subst (λ k. IsSome (files k)) (sym two.descriptor) (parent_file d p parent))
  dots_files d some (parent_first {p = p} one two parent) =
      (subst (λ k. IsSome (files k)) (sym one.descriptor) (parent_file d p parent), subst (λ k. IsSome (files k)) (sym two.descriptor) some)

  -- every entry of a directory names a file
  pub entry_file : (d i : ℕ) (dir : DiskFile) → files d ≡ Some dir → is_directory dir ≡ true → HasEntry dir.contents i → IsSome (files (descriptor_field (directory_entry dir.contents i)))
  entry_file d i dir is is_dir has =
      subst (λ c. IsSome (files (descriptor_field (directory_entry c i)))) lists
      (by_place i (subst (λ c. HasEntry c i) (sym lists) has) (dots_files d (some_is (files d) dir is) (tree.dots d dir is is_dir)))
    where
      lists : directories files d ≡ dir.contents
      lists = ap listing is ∙ listing_directory dir is_dir

      by_place : (j : ℕ) → HasEntry (directories files d) j
          → IsSome (files (descriptor_field (directory_entry (directories files d) 0))) × IsSome (files (descriptor_field (directory_entry (directories files d) 1)))
          → IsSome (files (descriptor_field (directory_entry (directories files d) j)))
      by_place zero entry first = first.0
      by_place (suc zero) entry first = first.1
      by_place (suc (suc j)) entry first =
          let after : 2 ≤ suc (suc j) = omega arith in
          names_to g files tree d (suc (suc j)) (descriptor_field (directory_entry (directories files d) (suc (suc j))))
          (record { after = after; entry = entry; descriptor = refl })

  step_file : (d n : ℕ) (user : ℕ) (execute : Bool) (name : List ℕ) (o : Option DiskFile) → files d ≡ o → step o user execute name ≡ arrives n → IsSome (files n)
  step_file d n user execute name None is h = absurd (cc)
  step_file d n user execute name (Some dir) is h =
      ⊎_elim
      (λ may.
      let w = look_up_entry dir.contents name n (found_some _ n (sym (cond-true (may_search dir user execute) (end_at (look_up dir.contents name)) not_allowed may) ∙ h)) in
      subst (λ k. IsSome (files k)) w.2 (entry_file d w.0 dir is (and_parts _ _ may).0 w.1))
      (λ may_not.
      let end : not_allowed ≡ arrives n = sym (cond-false (may_search dir user execute) (end_at (look_up dir.contents name)) not_allowed may_not) ∙ h in
      absurd (cc))
      (cases_Bool (may_search dir user execute))

  go_on_some : (end : WalkEnd) (next : ℕ → WalkEnd) (n : ℕ) → go_on end next ≡ arrives n → (m : ℕ) × (end ≡ arrives m) × (next m ≡ arrives n)
  go_on_some (arrives m) next n h = (m, refl, h)
  go_on_some not_allowed next n h = absurd (cc)
  go_on_some not_found next n h = absurd (cc)

  pub walk_file : (user : ℕ) (execute : Bool) (d n : ℕ) (names : List (List ℕ)) → IsSome (files d) → walk files user execute d names ≡ arrives n → IsSome (files n)
  walk_file user execute d n [] some h = let same : d ≡ n = cc in subst (λ k. IsSome (files k)) same some
  walk_file user execute d n (name ∷ names) some h =
      let w = go_on_some (step (files d) user execute name) (λ m. walk files user execute m names) n h in
      walk_file user execute w.0 n names (step_file d w.0 user execute name (files d) refl w.1) w.2
