-- The tree with a file that is another, and lists the same.
use Rattle.std.proofs.Common.{◌≡◌, ℕ, true, List, length, Option, Some, IsSome, refl, sym, ap, ◌∙◌, subst, ⊎_elim}
use mathlib.Core.Path.{fun_ext}
use Rattle.std.proofs.lemmas.Bool.{cases_eq}
use Rattle.std.proofs.lemmas.Option.{same_Some}
use Rattle.rbf_model.specs.Geometry.{Geometry}
use Rattle.rbf_model.specs.File.{DiskFile, is_directory, is_directory_size}
use Rattle.rbf_model.specs.Tree.{EntryNames, ReachedFile, HasDots, HasEntryNames, HasDifferentNames}
use Rattle.rbf_model.specs.Volume.{IsTree, directories, listing}
use Rattle.rbf_model.specs.Writes.{put_file}
use Rattle.rbf_model.proofs.Lists.{some_is, some_of}
use Rattle.rbf_model.proofs.Change.{put_file_here, put_file_beside, put_file_cases}
use Rattle.rbf_model.proofs.Entries.{listing_directory}

module _ (g : Geometry) (files : ℕ → Option DiskFile) (tree : IsTree g files) (n : ℕ) (old new : DiskFile) (is : files n ≡ Some old)
    (kind : is_directory new ≡ is_directory old) (same : listing (Some new) ≡ listing (Some old)) where
  news : ℕ → Option DiskFile
  news = put_file files n (Some new)

  lists : directories news ≡ directories files
  unfolding news
  lists = fun_ext (λ m. ⊎_elim
      (λ here. ap listing (ap news here ∙ put_file_here files n (Some new)) ∙ same ∙ sym (ap listing (ap files here ∙ is)))
      (λ beside. ap listing (put_file_beside files n (Some new) m beside))
      (cases_eq m n))

  -- a file is as before, or the one that is another
  was : (m : ℕ) (one : DiskFile) → news m ≡ Some one → (file : DiskFile) × (files m ≡ Some file) × (is_directory one ≡ is_directory file) × (listing (Some one) ≡ listing (Some file))
  unfolding news
  was m one h =
      ⊎_elim
      (λ here.
      let e = same_Some new one here.1 in
      (old, ap files here.0 ∙ is, sym (ap is_directory e) ∙ kind, sym (ap (λ f. listing (Some f)) e) ∙ same))
      (λ there. (one, there.1, refl, refl))
      (put_file_cases files n (Some new) m one h)

  some_before : (m : ℕ) → IsSome (news m) → IsSome (files m)
  some_before m some = let w = some_of (news m) some in let u = was m w.0 w.1 in some_is (files m) u.0 u.1

  some_after : (m : ℕ) → IsSome (files m) → IsSome (news m)
  unfolding news
  some_after m some =
      ⊎_elim (λ here. some_is (news m) new (ap news here ∙ put_file_here files n (Some new)))
      (λ beside. subst IsSome (sym (put_file_beside files n (Some new) m beside)) some) (cases_eq m n)

  back : (e j m : ℕ) → EntryNames (directories news e) j m → EntryNames (directories files e) j m
  back e j m names = subst (λ (dirs : ℕ → List ℕ). EntryNames (dirs e) j m) lists names

  -- the tree is as it was
  pub tree_kept : IsTree g (put_file files n (Some new))
  unfolding news
  tree_kept = record {
    reached = λ m. (
      λ some. subst (λ dirs. ReachedFile g dirs m) (sym lists) ((tree.reached m).0 (some_before m some)),
      λ r. some_after m ((tree.reached m).1 (subst (λ dirs. ReachedFile g dirs m) lists r)),
    );
    root = λ one h. let u = was g.root one h in u.2 ∙ tree.root u.0 u.1;
    sizes = λ m one h is_dir.
        let u = was m one h in
        let was_dir = sym u.2 ∙ is_dir in
        let contents : one.contents ≡ u.0.contents = sym (listing_directory one is_dir) ∙ u.3 ∙ listing_directory u.0 was_dir in
        subst (λ c. is_directory_size (length c) ≡ true) (sym contents) (tree.sizes m u.0 u.1 was_dir);
    numbers = λ e j m names. tree.numbers e j m (back e j m names);
    dots = λ m one h is_dir.
        let u = was m one h in
        subst (λ dirs. HasDots g dirs m) (sym lists) (tree.dots m u.0 u.1 (sym u.2 ∙ is_dir));
    names = λ m. subst (λ (dirs : ℕ → List ℕ). HasEntryNames (dirs m)) (sym lists) (tree.names m);
    different = λ m. subst (λ (dirs : ℕ → List ℕ). HasDifferentNames (dirs m)) (sym lists) (tree.different m);
    once = λ e k j l m one other. tree.once e k j l m (back e j m one) (back k l m other);
    root_free = λ e j names. tree.root_free e j (back e j g.root names);
  }
