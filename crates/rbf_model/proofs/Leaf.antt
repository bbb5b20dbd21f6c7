-- The tree with one more file.
use Rattle.std.proofs.Common.{◌≡◌, ◌≢◌, ◌⊎◌, ℕ, ◌≤◌, true, List, [], length, Option, Some, None, IsSome, refl, sym, ap, ◌∙◌, subst, inl, inr, ⊎_elim, arith}
use Rattle.std.proofs.lemmas.Bool.{cases_eq, false≢true}
use Rattle.std.proofs.lemmas.Option.{same_Some, none-some}
use Rattle.os9_base.specs.Name.{SameName}
use Rattle.rbf_model.specs.Fields.{directory_entry, entry_name_field, descriptor_field}
use Rattle.rbf_model.specs.Geometry.{Geometry, IsNumber}
use Rattle.rbf_model.specs.File.{DiskFile, is_directory, is_directory_size}
use Rattle.rbf_model.specs.Tree.{dot, dot_dot, HasEntry, EntryNames, ReachedFile, root, named, Links, IsEntry, IsParent, of_root, of_other, HasDots, self_first, parent_first, HasEntryNames, HasDifferentNames}
use Rattle.rbf_model.specs.Volume.{IsTree, directories, listing}
use Rattle.rbf_model.proofs.Pieces.{ChangesEntry}
use Rattle.rbf_model.specs.Writes.{put_file, IsNewDirectory, IsNewEntry}
use Rattle.rbf_model.proofs.Lists.{some_is}
use Rattle.rbf_model.proofs.Keeps.{no_entry}
use Rattle.rbf_model.proofs.Named.{by_place, names_to}
use Rattle.rbf_model.proofs.Change.{put_file_here, put_file_beside}
use Rattle.rbf_model.proofs.Entries.{entry_back, names_kept, names_back, listing_directory, no_third_entry}

-- every name that was there leads on
pub reached_grows : (g : Geometry) (dirs news : ℕ → List ℕ) → ((d i n : ℕ) → EntryNames (dirs d) i n → EntryNames (news d) i n) → {n : ℕ} → ReachedFile g dirs n → ReachedFile g news n
reached_grows g dirs news keep root = root
reached_grows g dirs news keep (named {d = d} {i = i} {n = n} r names number) = named (reached_grows g dirs news keep r) (keep d i n names) number

module _ (g : Geometry) (files : ℕ → Option DiskFile) (tree : IsTree g files) (d i n : ℕ) (old dir file : DiskFile) (is : files d ≡ Some old)
    (old_dir : is_directory old ≡ true) (new_dir : is_directory dir ≡ true) (size : is_directory_size (length dir.contents) ≡ true) (after : 2 ≤ i)
    (change : ChangesEntry old.contents dir.contents i) (free : HasEntry old.contents i → ⊥) (entry : HasEntry dir.contents i)
    (new : IsNewEntry old.contents i (directory_entry dir.contents i) n) (absent : files n ≡ None) (number : IsNumber g n)
    (made : is_directory file ≡ true → IsNewDirectory file.contents n d) where
  news : ℕ → Option DiskFile
  news = put_file (put_file files d (Some dir)) n (Some file)

  d_not_n : d ≢ n
  d_not_n same = none-some old (sym absent ∙ ap files (sym same) ∙ is)

  -- the files, one by one
  file_here : news n ≡ Some file
  unfolding news
  file_here = put_file_here (put_file files d (Some dir)) n (Some file)

  file_above : news d ≡ Some dir
  unfolding news
  file_above = put_file_beside (put_file files d (Some dir)) n (Some file) d d_not_n ∙ put_file_here files d (Some dir)

  file_beside : (m : ℕ) → m ≢ n → m ≢ d → news m ≡ files m
  unfolding news
  file_beside m not_n not_d = put_file_beside (put_file files d (Some dir)) n (Some file) m not_n ∙ put_file_beside files d (Some dir) m not_d

  -- and what each of them lists
  was_above : directories files d ≡ old.contents
  was_above = ap listing is ∙ listing_directory old old_dir

  is_above : directories news d ≡ dir.contents
  is_above = ap listing file_above ∙ listing_directory dir new_dir

  was_here : directories files n ≡ []
  was_here = ap listing absent

  is_here : directories news n ≡ listing (Some file)
  is_here = ap listing file_here

  is_beside : (m : ℕ) → m ≢ n → m ≢ d → directories news m ≡ directories files m
  is_beside m not_n not_d = ap listing (file_beside m not_n not_d)

  -- the names that were there are kept
  keep : (e j m : ℕ) → EntryNames (directories files e) j m → EntryNames (directories news e) j m
  keep e j m names =
      by_place n d e
      (λ here. absurd (no_entry (directories files e) j (ap (directories files) here ∙ was_here) names.entry))
      (λ above.
      let was = subst (λ c. EntryNames c j m) (ap (directories files) above ∙ was_above) names in
      let differ : j ≢ i = λ same. free (subst (HasEntry old.contents) same was.entry) in
      subst (λ c. EntryNames c j m) (sym (ap (directories news) above ∙ is_above)) (names_kept old.contents dir.contents i j m change differ was))
      (λ not_n not_d. subst (λ c. EntryNames c j m) (sym (is_beside e not_n not_d)) names)

  -- there is one more
  fresh : EntryNames (directories news d) i n
  fresh = subst (λ c. EntryNames c i n) (sym is_above) (record { after = after; entry = entry; descriptor = new.is.descriptor })

  -- and no other
  only : (e j m : ℕ) → EntryNames (directories news e) j m → (EntryNames (directories files e) j m) ⊎ ((e ≡ d) × (j ≡ i) × (m ≡ n))
  only e j m names =
      by_place n d e
      (λ here. absurd (no_third_entry file n d j made names.after (subst (λ c. HasEntry c j) (ap (directories news) here ∙ is_here) names.entry)))
      (λ above.
      let now = subst (λ c. EntryNames c j m) (ap (directories news) above ∙ is_above) names in
      ⊎_elim
      (λ same. inr (above, same, sym now.descriptor ∙ ap (λ k. descriptor_field (directory_entry dir.contents k)) same ∙ new.is.descriptor))
      (λ differ. inl (subst (λ c. EntryNames c j m) (sym (ap (directories files) above ∙ was_above)) (names_back old.contents dir.contents i j m change differ now)))
      (cases_eq j i))
      (λ not_n not_d. inl (subst (λ c. EntryNames c j m) (is_beside e not_n not_d) names))

  grows : {m : ℕ} → ReachedFile g (directories files) m → ReachedFile g (directories news) m
  grows r = reached_grows g (directories files) (directories news) keep r

  above_reached : ReachedFile g (directories news) d
  above_reached = grows ((tree.reached d).0 (some_is (files d) old is))

  here_reached : ReachedFile g (directories news) n
  here_reached = named above_reached fresh number

  some_before : (m : ℕ) → m ≢ n → IsSome (news m) → IsSome (files m)
  some_before m not_n some =
      ⊎_elim (λ above. some_is (files m) old (ap files above ∙ is)) (λ not_d. subst IsSome (file_beside m not_n not_d) some) (cases_eq m d)

  some_after : (m : ℕ) → IsSome (files m) → IsSome (news m)
  some_after m some =
      by_place n d m
      (λ here. some_is (news m) file (ap news here ∙ file_here))
      (λ above. some_is (news m) dir (ap news above ∙ file_above))
      (λ not_n not_d. subst IsSome (sym (file_beside m not_n not_d)) some)

  reached_some : {m : ℕ} → ReachedFile g (directories news) m → IsSome (news m)
  reached_some root = some_after g.root ((tree.reached g.root).1 root)
  reached_some (named {d = e} {i = j} {n = m} r names num) =
      ⊎_elim (λ was. some_after m (names_to g files tree e j m was)) (λ is_new. some_is (news m) file (ap news is_new.2 ∙ file_here)) (only e j m names)

  link_grows : (p j m : ℕ) → Links g (directories files) p j m → Links g (directories news) p j m
  link_grows p j m link = record { from = grows link.from; names = keep p j m link.names }

  parent_grows : (m p : ℕ) → IsParent g (directories files) m p → IsParent g (directories news) m p
  parent_grows m p (of_root a b) = of_root a b
  parent_grows m p (of_other {i = j} a link) = of_other a (link_grows p j m link)

  -- the first two entries of a directory that was there
  dots_grow : (m : ℕ) → (directory_entry (directories news m) 0 ≡ directory_entry (directories files m) 0) → (directory_entry (directories news m) 1 ≡ directory_entry (directories files m) 1)
      → HasDots g (directories files) m → HasDots g (directories news) m
  dots_grow m zeroth first (self_first {p = p} one two parent) =
      self_first (subst (λ e. IsEntry e dot m) (sym zeroth) one) (subst (λ e. IsEntry e dot_dot p) (sym first) two) (parent_grows m p parent)
  dots_grow m zeroth first (parent_first {p = p} one two parent) =
      parent_first (subst (λ e. IsEntry e dot_dot p) (sym zeroth) one) (subst (λ e. IsEntry e dot m) (sym first) two) (parent_grows m p parent)

  root_not_n : n ≢ g.root
  root_not_n same = false≢true (subst IsSome (ap files (sym same) ∙ absent) ((tree.reached g.root).1 root))

  -- those of a new one
  dots_here : is_directory file ≡ true → HasDots g (directories news) n
  dots_here is_dir =
      let new_dots = made is_dir in
      let lists : directories news n ≡ file.contents = is_here ∙ listing_directory file is_dir in
      let parent : IsParent g (directories news) n d = of_other root_not_n (record { from = above_reached; names = fresh }) in
      ⊎_elim
      (λ e. parent_first (subst (λ c. IsEntry (directory_entry c 0) dot_dot d) (sym lists) e.0) (subst (λ c. IsEntry (directory_entry c 1) dot n) (sym lists) e.1) parent)
      (λ e. self_first (subst (λ c. IsEntry (directory_entry c 0) dot n) (sym lists) e.0) (subst (λ c. IsEntry (directory_entry c 1) dot_dot d) (sym lists) e.1) parent)
      new_dots.dots

  beside_entry : (j : ℕ) → j ≢ i → directory_entry (directories news d) j ≡ directory_entry (directories files d) j
  beside_entry j differ =
      ap (λ c. directory_entry c j) is_above ∙ change.beside j differ ∙ sym (ap (λ c. directory_entry c j) was_above)

  dots_above : HasDots g (directories news) d
  dots_above = dots_grow d (beside_entry 0 (omega arith)) (beside_entry 1 (omega arith)) (tree.dots d old is old_dir)

  dots_after : (m : ℕ) (one : DiskFile) → news m ≡ Some one → is_directory one ≡ true → HasDots g (directories news) m
  dots_after m one h is_dir =
      by_place n d m
      (λ here. subst (HasDots g (directories news)) (sym here) (dots_here (subst (λ f. is_directory f ≡ true) (same_Some one file (sym h ∙ ap news here ∙ file_here)) is_dir)))
      (λ above. subst (HasDots g (directories news)) (sym above) dots_above)
      (λ not_n not_d.
      let lists = is_beside m not_n not_d in
      dots_grow m (ap (λ c. directory_entry c 0) lists) (ap (λ c. directory_entry c 1) lists) (tree.dots m one (sym (file_beside m not_n not_d) ∙ h) is_dir))

  names_above : HasEntryNames dir.contents
  names_above j low has =
      ⊎_elim
      (λ same. (new.name, ap (λ k. entry_name_field (directory_entry dir.contents k)) same ∙ new.is.name_is, new.proper))
      (λ differ.
      let w = subst HasEntryNames was_above (tree.names d) j low (entry_back old.contents dir.contents i j change differ has) in
      (w.0, ap entry_name_field (change.beside j differ) ∙ w.1, w.2))
      (cases_eq j i)

  names_after : (m : ℕ) → HasEntryNames (directories news m)
  names_after m =
      by_place n d m
      (λ here. λ j low has. absurd (no_third_entry file n d j made low (subst (λ c. HasEntry c j) (ap (directories news) here ∙ is_here) has)))
      (λ above. subst HasEntryNames (sym (ap (directories news) above ∙ is_above)) names_above)
      (λ not_n not_d. subst HasEntryNames (sym (is_beside m not_n not_d)) (tree.names m))

  fresh_differs : (k : ℕ) (one other : List ℕ) → k ≢ i → 2 ≤ k → HasEntry dir.contents k
      → entry_name_field (directory_entry dir.contents i) ≡ Some one → entry_name_field (directory_entry dir.contents
      k) ≡ Some other
      → SameName one other → ⊥
  fresh_differs k one other differ low has a b same =
      new.differs k other differ low (entry_back old.contents dir.contents i k change differ has) (ap entry_name_field (sym (change.beside k differ)) ∙ b)
      (subst (λ x. SameName x other) (same_Some one new.name (sym a ∙ new.is.name_is)) same)

  different_above : HasDifferentNames dir.contents
  different_above j k one other low low2 has has2 a b same =
      ⊎_elim
      (λ here. ⊎_elim
      (λ here2. here ∙ sym here2)
      (λ differ. absurd (fresh_differs k one other differ low2 has2 (ap (λ x. entry_name_field (directory_entry dir.contents x)) (sym here) ∙ a) b same))
      (cases_eq k i))
      (λ differ. ⊎_elim
      (λ here2. absurd (fresh_differs j other one differ low has (ap (λ x. entry_name_field (directory_entry dir.contents x)) (sym here2) ∙ b) a (sym same)))
      (λ differ2. subst HasDifferentNames was_above (tree.different d) j k one other low low2 (entry_back old.contents dir.contents i j change differ has)
      (entry_back old.contents dir.contents i k change differ2 has2) (ap entry_name_field (sym (change.beside j differ)) ∙ a) (ap entry_name_field (sym (change.beside k differ2)) ∙ b) same)
      (cases_eq k i))
      (cases_eq j i)

  different_after : (m : ℕ) → HasDifferentNames (directories news m)
  different_after m =
      by_place n d m
      (λ here. λ j k one other low low2 has has2 a b same. absurd (no_third_entry file n d j made low (subst (λ c. HasEntry c j) (ap (directories news) here ∙ is_here) has)))
      (λ above. subst HasDifferentNames (sym (ap (directories news) above ∙ is_above)) different_above)
      (λ not_n not_d. subst HasDifferentNames (sym (is_beside m not_n not_d)) (tree.different m))

  sizes_after : (m : ℕ) (one : DiskFile) → news m ≡ Some one → is_directory one ≡ true → is_directory_size (length one.contents) ≡ true
  sizes_after m one h is_dir =
      by_place n d m
      (λ here.
      let same = same_Some one file (sym h ∙ ap news here ∙ file_here) in
      subst (λ f. is_directory_size (length f.contents) ≡ true) (sym same)
      (subst (λ s. is_directory_size s ≡ true) (sym (made (subst (λ f. is_directory f ≡ true) same is_dir)).two) refl))
      (λ above. subst (λ f. is_directory_size (length f.contents) ≡ true) (sym (same_Some one dir (sym h ∙ ap news above ∙ file_above))) size)
      (λ not_n not_d. tree.sizes m one (sym (file_beside m not_n not_d) ∙ h) is_dir)

  root_after : (one : DiskFile) → news g.root ≡ Some one → is_directory one ≡ true
  root_after one h =
      by_place n d g.root
      (λ here. absurd (root_not_n (sym here)))
      (λ above. subst (λ f. is_directory f ≡ true) (sym (same_Some one dir (sym h ∙ ap news above ∙ file_above))) new_dir)
      (λ not_n not_d. tree.root one (sym (file_beside g.root not_n not_d) ∙ h))

  not_named_before : (e j : ℕ) → EntryNames (directories files e) j n → ⊥
  not_named_before e j names = false≢true (subst IsSome absent (names_to g files tree e j n names))

  once_after : (e k j l m : ℕ) → EntryNames (directories news e) j m → EntryNames (directories news k) l m → (e ≡ k) × (j ≡ l)
  once_after e k j l m one other =
      ⊎_elim
      (λ was. ⊎_elim
      (λ was2. tree.once e k j l m was was2)
      (λ is_new. absurd (not_named_before e j (subst (EntryNames (directories files e) j) is_new.2 was)))
      (only k l m other))
      (λ is_new. ⊎_elim
      (λ was2. absurd (not_named_before k l (subst (EntryNames (directories files k) l) is_new.2 was2)))
      (λ is_new2. (is_new.0 ∙ sym is_new2.0, is_new.1 ∙ sym is_new2.1))
      (only k l m other))
      (only e j m one)

  -- the tree with the new file
  pub tree_with_leaf : IsTree g (put_file (put_file files d (Some dir)) n (Some file))
  unfolding news
  tree_with_leaf = record {
    reached = λ m. (
      λ some. ⊎_elim (λ here. subst (ReachedFile g (directories news)) (sym here) here_reached) (λ not_n. grows ((tree.reached m).0 (some_before m not_n some))) (cases_eq m n),
      λ r. reached_some r,
    );
    root = root_after;
    sizes = sizes_after;
    numbers = λ e j m names. ⊎_elim (λ was. tree.numbers e j m was) (λ is_new. subst (IsNumber g) (sym is_new.2) number) (only e j m names);
    dots = dots_after;
    names = names_after;
    different = different_after;
    once = once_after;
    root_free = λ e j names. ⊎_elim (λ was. tree.root_free e j was) (λ is_new. root_not_n (sym is_new.2)) (only e j g.root names);
  }
