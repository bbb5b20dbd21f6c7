-- The tree without one file that is no directory.
use Rattle.std.proofs.Common.{◌≡◌, ◌≢◌, ℕ, true, false, [], length, Option, Some, None, IsSome, sym, ap, ◌∙◌, subst, ⊎_elim, arith}
use Rattle.std.proofs.lemmas.Bool.{cases_eq, both_ways, false≢true}
use Rattle.std.proofs.lemmas.Option.{same_Some}
use Rattle.rbf_model.specs.Fields.{directory_entry, entry_name_field, descriptor_field}
use Rattle.rbf_model.specs.Geometry.{Geometry}
use Rattle.rbf_model.specs.File.{DiskFile, is_directory, is_directory_size}
use Rattle.rbf_model.specs.Tree.{dot, dot_dot, HasEntry, EntryNames, ReachedFile, root, named, Links, IsEntry, IsParent, of_root, of_other, HasDots, self_first, parent_first, HasEntryNames, HasDifferentNames}
use Rattle.rbf_model.specs.Volume.{IsTree, directories, listing}
use Rattle.rbf_model.proofs.Pieces.{ChangesEntry}
use Rattle.rbf_model.specs.Writes.{put_file}
use Rattle.rbf_model.proofs.Lists.{some_is}
use Rattle.rbf_model.proofs.Keeps.{no_entry}
use Rattle.rbf_model.proofs.Named.{by_place, names_to}
use Rattle.rbf_model.proofs.Change.{put_file_here, put_file_beside}
use Rattle.rbf_model.proofs.Entries.{entry_back, names_kept, names_back, listing_directory, listing_file}

module _ (g : Geometry) (files : ℕ → Option DiskFile) (tree : IsTree g files) (d i n : ℕ) (old dir file : DiskFile) (is : files d ≡ Some old)
    (old_dir : is_directory old ≡ true) (new_dir : is_directory dir ≡ true) (size : is_directory_size (length dir.contents) ≡ true)
    (change : ChangesEntry old.contents dir.contents i) (gone : HasEntry dir.contents i → ⊥) (was : EntryNames old.contents i n) (is_file : files n ≡ Some file)
    (not_dir : is_directory file ≡ false) where
  news : ℕ → Option DiskFile
  news = put_file (put_file files d (Some dir)) n None

  d_not_n : d ≢ n
  d_not_n same =
      both_ways (is_directory file) not_dir (subst (λ f. is_directory f ≡ true) (same_Some old file (sym is ∙ ap files same ∙ is_file)) old_dir)

  -- the files, one by one
  file_gone : news n ≡ None
  unfolding news
  file_gone = put_file_here (put_file files d (Some dir)) n None

  file_above : news d ≡ Some dir
  unfolding news
  file_above = put_file_beside (put_file files d (Some dir)) n None d d_not_n ∙ put_file_here files d (Some dir)

  file_beside : (m : ℕ) → m ≢ n → m ≢ d → news m ≡ files m
  unfolding news
  file_beside m not_n not_d = put_file_beside (put_file files d (Some dir)) n None m not_n ∙ put_file_beside files d (Some dir) m not_d

  -- and what each of them lists
  was_above : directories files d ≡ old.contents
  was_above = ap listing is ∙ listing_directory old old_dir

  is_above : directories news d ≡ dir.contents
  is_above = ap listing file_above ∙ listing_directory dir new_dir

  was_here : directories files n ≡ []
  was_here = ap listing is_file ∙ listing_file file not_dir

  is_here : directories news n ≡ []
  is_here = ap listing file_gone

  is_beside : (m : ℕ) → m ≢ n → m ≢ d → directories news m ≡ directories files m
  is_beside m not_n not_d = ap listing (file_beside m not_n not_d)

  named_here : EntryNames (directories files d) i n
  named_here = subst (λ c. EntryNames c i n) (sym was_above) was

  -- all names but one are kept
  keep : (e j m : ℕ) → EntryNames (directories files e) j m → m ≢ n → EntryNames (directories news e) j m
  keep e j m names other =
      by_place n d e
      (λ here. absurd (no_entry (directories files e) j (ap (directories files) here ∙ was_here) names.entry))
      (λ above.
      let before = subst (λ c. EntryNames c j m) (ap (directories files) above ∙ was_above) names in
      let differ : j ≢ i = λ same. other (sym before.descriptor ∙ ap (λ k. descriptor_field (directory_entry old.contents k)) same ∙ was.descriptor) in
      subst (λ c. EntryNames c j m) (sym (ap (directories news) above ∙ is_above)) (names_kept old.contents dir.contents i j m change differ before))
      (λ not_n not_d. subst (λ c. EntryNames c j m) (sym (is_beside e not_n not_d)) names)

  -- and there is no other; that one is gone
  only : (e j m : ℕ) → EntryNames (directories news e) j m → EntryNames (directories files e) j m × (((e ≡ d) × (j ≡ i)) → ⊥)
  only e j m names =
      by_place n d e
      (λ here. absurd (no_entry (directories news e) j (ap (directories news) here ∙ is_here) names.entry))
      (λ above.
      let now = subst (λ c. EntryNames c j m) (ap (directories news) above ∙ is_above) names in
      let differ : j ≢ i = λ same. gone (subst (HasEntry dir.contents) same now.entry) in
      (subst (λ c. EntryNames c j m) (sym (ap (directories files) above ∙ was_above)) (names_back old.contents dir.contents i j m change differ now), λ same. differ same.1))
      (λ not_n not_d. (subst (λ c. EntryNames c j m) (is_beside e not_n not_d) names, λ same. not_d same.0))

  -- so the file is named no more
  not_named : (e j : ℕ) → EntryNames (directories news e) j n → ⊥
  not_named e j names = let w = only e j n names in w.1 (tree.once e d j i n w.0 named_here)

  root_not_n : n ≢ g.root
  root_not_n same = tree.root_free d i (subst (EntryNames (directories files d) i) same named_here)

  -- no path leads through it
  stays : {m : ℕ} → ReachedFile g (directories files) m → m ≢ n → ReachedFile g (directories news) m
  stays root other = root
  stays (named {d = e} {i = j} {n = m} r names number) other =
      named (stays r (λ same. no_entry (directories files e) j (ap (directories files) same ∙ was_here) names.entry)) (keep e j m names other) number

  some_before : (m : ℕ) → m ≢ n → IsSome (news m) → IsSome (files m)
  some_before m not_n some =
      ⊎_elim (λ above. some_is (files m) old (ap files above ∙ is)) (λ not_d. subst IsSome (file_beside m not_n not_d) some) (cases_eq m d)

  some_after : (m : ℕ) → m ≢ n → IsSome (files m) → IsSome (news m)
  some_after m not_n some =
      ⊎_elim (λ above. some_is (news m) dir (ap news above ∙ file_above)) (λ not_d. subst IsSome (sym (file_beside m not_n not_d)) some) (cases_eq m d)

  some_not_n : (m : ℕ) → IsSome (news m) → m ≢ n
  some_not_n m some same = false≢true (subst IsSome (ap news same ∙ file_gone) some)

  reached_some : {m : ℕ} → ReachedFile g (directories news) m → IsSome (news m)
  reached_some root = some_after g.root (λ same. root_not_n (sym same)) ((tree.reached g.root).1 root)
  reached_some (named {d = e} {i = j} {n = m} r names num) =
      some_after m (λ same. not_named e j (subst (EntryNames (directories news e) j) same names)) (names_to g files tree e j m (only e j m names).0)

  reached_after : (m : ℕ) → IsSome (news m) → ReachedFile g (directories news) m
  reached_after m some = let not_n = some_not_n m some in stays ((tree.reached m).0 (some_before m not_n some)) not_n

  link_stays : (p j m : ℕ) → m ≢ n → Links g (directories files) p j m → Links g (directories news) p j m
  link_stays p j m not_n link = record {
    from = stays link.from (λ same. no_entry (directories files p) j (ap (directories files) same ∙ was_here) link.names.entry);
    names = keep p j m link.names not_n;
  }

  parent_stays : (m p : ℕ) → m ≢ n → IsParent g (directories files) m p → IsParent g (directories news) m p
  parent_stays m p not_n (of_root a b) = of_root a b
  parent_stays m p not_n (of_other {i = j} a link) = of_other a (link_stays p j m not_n link)

  dots_stay : (m : ℕ) → m ≢ n → (directory_entry (directories news m) 0 ≡ directory_entry (directories files m) 0) → (directory_entry (directories news m) 1 ≡ directory_entry (directories files m) 1)
      → HasDots g (directories files) m → HasDots g (directories news) m
  dots_stay m not_n zeroth first (self_first {p = p} one two parent) =
      self_first (subst (λ e. IsEntry e dot m) (sym zeroth) one) (subst (λ e. IsEntry e dot_dot p) (sym first) two) (parent_stays m p not_n parent)
  dots_stay m not_n zeroth first (parent_first {p = p} one two parent) =
      parent_first (subst (λ e. IsEntry e dot_dot p) (sym zeroth) one) (subst (λ e. IsEntry e dot m) (sym first) two) (parent_stays m p not_n parent)

  beside_entry : (j : ℕ) → j ≢ i → directory_entry (directories news d) j ≡ directory_entry (directories files d) j
  beside_entry j differ =
      ap (λ c. directory_entry c j) is_above ∙ change.beside j differ ∙ sym (ap (λ c. directory_entry c j) was_above)

  dots_above : HasDots g (directories news) d
  dots_above = let low = was.after in dots_stay d d_not_n (beside_entry 0 (omega arith)) (beside_entry 1 (omega arith)) (tree.dots d old is old_dir)

  dots_after : (m : ℕ) (one : DiskFile) → news m ≡ Some one → is_directory one ≡ true → HasDots g (directories news) m
  dots_after m one h is_dir =
      by_place n d m
      (λ here. absurd (some_not_n m (some_is (news m) one h) here))
      (λ above. subst (HasDots g (directories news)) (sym above) dots_above)
      (λ not_n not_d.
      let lists = is_beside m not_n not_d in
      dots_stay m not_n (ap (λ c. directory_entry c 0) lists) (ap (λ c. directory_entry c 1) lists) (tree.dots m one (sym (file_beside m not_n not_d) ∙ h) is_dir))

  -- an entry of the directory is one of those before
  not_gone : (j : ℕ) → HasEntry dir.contents j → j ≢ i
  not_gone j has same = gone (subst (HasEntry dir.contents) same has)

  names_above : HasEntryNames dir.contents
  names_above j low has =
      let differ = not_gone j has in
      let w = subst HasEntryNames was_above (tree.names d) j low (entry_back old.contents dir.contents i j change differ has) in
      (w.0, ap entry_name_field (change.beside j differ) ∙ w.1, w.2)

  different_above : HasDifferentNames dir.contents
  different_above j k one other low low2 has has2 a b same =
      let differ = not_gone j has in
      let differ2 = not_gone k has2 in
      subst HasDifferentNames was_above (tree.different d) j k one other low low2 (entry_back old.contents dir.contents i j change differ has)
      (entry_back old.contents dir.contents i k change differ2 has2) (ap entry_name_field (sym (change.beside j differ)) ∙ a) (ap entry_name_field (sym (change.beside k differ2)) ∙ b) same

  -- the tree without the file
  pub tree_without_leaf : IsTree g (put_file (put_file files d (Some dir)) n None)
  unfolding news
  tree_without_leaf = record {
    reached = λ m. (reached_after m, λ r. reached_some r);
    root = λ one h.
        by_place n d g.root
        (λ here. absurd (root_not_n (sym here)))
        (λ above. subst (λ f. is_directory f ≡ true) (sym (same_Some one dir (sym h ∙ ap news above ∙ file_above))) new_dir)
        (λ not_n not_d. tree.root one (sym (file_beside g.root not_n not_d) ∙ h));
    sizes = λ m one h is_dir.
        by_place n d m
        (λ here. absurd (some_not_n m (some_is (news m) one h) here))
        (λ above. subst (λ f. is_directory_size (length f.contents) ≡ true) (sym (same_Some one dir (sym h ∙ ap news above ∙ file_above))) size)
        (λ not_n not_d. tree.sizes m one (sym (file_beside m not_n not_d) ∙ h) is_dir);
    numbers = λ e j m names. tree.numbers e j m (only e j m names).0;
    dots = dots_after;
    names = λ m.
        by_place n d m
        (λ here. λ j low has. absurd (no_entry (directories news m) j (ap (directories news) here ∙ is_here) has))
        (λ above. subst HasEntryNames (sym (ap (directories news) above ∙ is_above)) names_above)
        (λ not_n not_d. subst HasEntryNames (sym (is_beside m not_n not_d)) (tree.names m));
    different = λ m.
        by_place n d m
        (λ here. λ j k one other low low2 has has2 a b same. absurd (no_entry (directories news m) j (ap (directories news) here ∙ is_here) has))
        (λ above. subst HasDifferentNames (sym (ap (directories news) above ∙ is_above)) different_above)
        (λ not_n not_d. subst HasDifferentNames (sym (is_beside m not_n not_d)) (tree.different m));
    once = λ e k j l m one other. tree.once e k j l m (only e j m one).0 (only k l m other).0;
    root_free = λ e j names. tree.root_free e j (only e j g.root names).0;
  }
