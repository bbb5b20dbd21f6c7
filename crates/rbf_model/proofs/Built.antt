-- A disk on which no rule is broken stands for the volume of what is found on it.
use Rattle.std.proofs.Common.{◌≡◌, ◌↔◌, ℕ, Bool, true, false, not, ◌&&◌, List, length, Option, Some, None, refl, sym, ap, ◌∙◌, subst, ⊎_elim}
use Rattle.std.specs.Prelude.{if◌then◌else◌}
use Rattle.std.specs.List.{list_any}
use Rattle.std.proofs.lemmas.Bool.{cond-true, cond-false, cases_Bool, both_ways, not-true, not_from_false, false_from_ne_true}
use Rattle.std.proofs.lemmas.Option.{cond_some}
use Rattle.rbf_model.specs.Disk.{disk_of, IsDisk}
use Rattle.rbf_model.specs.Fields.{size_field, segments_field}
use Rattle.rbf_model.specs.Geometry.{LieWithin, Geometry, IsHeader, IsNumber}
use Rattle.rbf_model.specs.Segments.{AreDistinct, has}
use Rattle.rbf_model.specs.File.{DiskFile, file_at, is_directory, is_directory_size, has_room}
use Rattle.rbf_model.specs.Space.{is_whole, is_marked, owned, has_cluster, IsLost, IsMapped}
use Rattle.rbf_model.specs.Tree.{EntryNames, ReachedFile, Links, HasEntryNames, HasDifferentNames}
use Rattle.rbf_model.specs.Volume.{Sound, IsTree, directories, listing}
use Rattle.rbf_model.specs.Search.{searchable_bytes, IsReachedOn, IsListOfReached, volume_of}
use Rattle.rbf_model.specs.Keeps.{Keeps}
use Rattle.rbf_model.proofs.Lists.{some_is, some_of, any_witness, any_from, three_pass, three_parts}
use Rattle.rbf_model.proofs.Segments.{length-contents}
use Rattle.rbf_model.proofs.Space.{owns_from_cluster}
use Rattle.rbf_model.proofs.Tree.{reached_along, reached_back, dots_along}
use Rattle.rbf_model.proofs.Files.{listing_is}
use Rattle.rbf_model.proofs.Keeps.{no_entry}

module _ (g : Geometry) (disk : ℕ → List ℕ) (header : IsHeader g) (sectors : IsDisk (disk_of g disk))
    (keeps : Keeps (disk_of g disk)) (numbers : List ℕ) (found : IsListOfReached (disk_of g disk) numbers) where
  files : ℕ → Option DiskFile
  files n = if has numbers n then Some (file_at disk n) else None

  lost : ℕ → Bool
  lost c = is_whole g c && is_marked disk c && not (list_any (λ n. has_cluster g n (file_at disk n) c) numbers)

  -- a file is one that is reached, as its descriptor says
  file_is : (n : ℕ) (file : DiskFile) → files n ≡ Some file → IsReachedOn (disk_of g disk) n × (file_at disk n ≡ file)
  unfolding files
  file_is n file h =
      let w = cond_some (has numbers n) (file_at disk n) file h in
      ((found n).0 w.0, w.1)

  file_of : (n : ℕ) → IsReachedOn (disk_of g disk) n → files n ≡ Some (file_at disk n)
  unfolding files
  file_of n r = cond-true (has numbers n) (Some (file_at disk n)) None ((found n).1 r)

  no_file : (n : ℕ) → has numbers n ≡ false → files n ≡ None
  unfolding files
  no_file n h = cond-false (has numbers n) (Some (file_at disk n)) None h

  -- the directories are those that can be searched
  searched_is : (n : ℕ) → IsReachedOn (disk_of g disk) n → searchable_bytes (disk_of g disk) n ≡ directories files n
  searched_is n r =
      sym (ap listing (file_of n r) ∙ listing_is g disk n (keeps.segments n r) (keeps.room n r) (keeps.sizes n r))

  reached_is : (n : ℕ) → IsReachedOn (disk_of g disk) n → ReachedFile g (directories files) n
  reached_is n r = reached_along g (searchable_bytes (disk_of g disk)) (directories files) searched_is r

  reaches_is : (n : ℕ) → ReachedFile g (directories files) n → IsReachedOn (disk_of g disk) n
  reaches_is n r = reached_back g (directories files) (searchable_bytes (disk_of g disk)) (λ d h. sym (searched_is d h)) r

  -- a directory that names something is reached
  links_are : (d i n : ℕ) → EntryNames (directories files d) i n → Links g (searchable_bytes (disk_of g disk)) d i n
  links_are d i n names =
      ⊎_elim
      (λ here. let r = (found d).0 here in record { from = r; names = subst (λ c. EntryNames c i n) (sym (searched_is d r)) names })
      (λ gone. absurd (no_entry (directories files d) i (ap listing (no_file d gone)) names.entry))
      (cases_Bool (has numbers d))

  names_are : (n : ℕ) → HasEntryNames (directories files n)
  names_are n =
      ⊎_elim
      (λ here. let r = (found n).0 here in subst (λ c. HasEntryNames c) (searched_is n r) (keeps.names n r))
      (λ gone. λ i low entry. absurd (no_entry (directories files n) i (ap listing (no_file n gone)) entry))
      (cases_Bool (has numbers n))

  different_are : (n : ℕ) → HasDifferentNames (directories files n)
  different_are n =
      ⊎_elim
      (λ here. let r = (found n).0 here in subst (λ c. HasDifferentNames c) (searched_is n r) (keeps.different n r))
      (λ gone. λ i j one other low low2 entry entry2 e f same. absurd (no_entry (directories files n) i (ap listing (no_file n gone)) entry))
      (cases_Bool (has numbers n))

  size_is : (n : ℕ) → IsReachedOn (disk_of g disk) n → length (file_at disk n).contents ≡ size_field (disk n)
  size_is n r = length-contents g disk (segments_field (disk n)) (size_field (disk n)) sectors (keeps.segments n r) (keeps.room n r)

  tree_is : IsTree g files
  tree_is = record {
    reached = λ n. (λ some. let w = some_of (files n) some in reached_is n (file_is n w.0 w.1).0, λ r. some_is (files n) (file_at disk n) (file_of n (reaches_is n r)));
    root = λ file h. subst (λ f. is_directory f ≡ true) (file_is g.root file h).1 keeps.root;
    sizes = λ n file h is_dir.
        let w = file_is n file h in
        subst (λ f. is_directory_size (length f.contents) ≡ true) w.1
        (subst (λ size. is_directory_size size ≡ true) (sym (size_is n w.0)) (keeps.sizes n w.0 (subst (λ f. is_directory f ≡ true) (sym w.1) is_dir)));
    numbers = λ d i n names.
        let link = links_are d i n names in
        subst (IsNumber g) link.names.descriptor (keeps.numbers d i link.from link.names.entry);
    dots = λ n file h is_dir.
        let w = file_is n file h in
        dots_along g (searchable_bytes (disk_of g disk)) (directories files) searched_is n w.0 (keeps.dots n w.0 (subst (λ f. is_directory f ≡ true) (sym w.1) is_dir));
    names = names_are;
    different = different_are;
    once = λ d e i j n one other. keeps.named_once d e i j n (links_are d i n one) (links_are e j n other);
    root_free = λ d i names. keeps.root_free d i (links_are d i g.root names);
  }

  marks_are : (n c : ℕ) → IsReachedOn (disk_of g disk) n → has_cluster g n (file_at disk n) c ≡ true → is_marked disk c ≡ true
  marks_are n c r h =
      let w = owns_from_cluster g n (file_at disk n) c h in
      subst (λ d. is_marked disk d ≡ true) w.2 (keeps.marks n w.0 r w.1)

  lost_is : (c : ℕ) → (lost c ≡ true) ↔ IsLost g (is_marked disk) files c
  unfolding lost
  lost_is c = (
    λ h.
        let w = three_parts (is_whole g c) (is_marked disk c) _ h in
        let none = not-true (list_any (λ n. has_cluster g n (file_at disk n) c) numbers) w.2 in
        record {
          whole = w.0;
          marked_in = w.1;
          unused = λ n file is.
              let f = file_is n file is in
              false_from_ne_true (has_cluster g n file c) (λ used. both_ways _ none
              (any_from (λ m. has_cluster g m (file_at disk m) c) numbers n ((found n).1 f.0) (subst (λ x. has_cluster g n x c ≡ true) (sym f.1) used)));
        },
    λ l. three_pass (is_whole g c) (is_marked disk c) _ l.whole l.marked_in
        (not_from_false _ (false_from_ne_true _ (λ any.
        let w = any_witness (λ m. has_cluster g m (file_at disk m) c) numbers any in
        both_ways _ (l.unused w.0 (file_at disk w.0) (file_of w.0 ((found w.0).0 w.1))) w.2))),
  )

  mapped_is : IsMapped g (is_marked disk) files lost
  mapped_is = record {
    within = λ n file h. let w = file_is n file h in subst (λ f. LieWithin g f.segments) w.1 (keeps.segments n w.0);
    marks = λ n file c h used. let w = file_is n file h in marks_are n c w.0 (subst (λ f. has_cluster g n f c ≡ true) (sym w.1) used);
    once = λ n file h. let w = file_is n file h in subst (λ f. AreDistinct (owned g n f)) w.1 (keeps.once n w.0);
    apart = λ n m one other c h k a b.
        let w = file_is n one h in
        let u = file_is m other k in
        keeps.apart n m c w.0 u.0 (subst (λ f. has_cluster g n f c ≡ true) (sym w.1) a) (subst (λ f. has_cluster g m f c ≡ true) (sym u.1) b);
    lost_are = lost_is;
  }

  -- the disk stands for the volume
  pub sound_from_keeps : (rest : List ℕ) → Sound (disk_of g disk) (volume_of (disk_of g disk) numbers rest)
  unfolding files lost
  sound_from_keeps rest = record {
    shape = record { header = header; map = keeps.map };
    sectors = sectors;
    shows = record {
      ident = refl;
      shown = λ n file h. sym (file_is n file h).1;
      room = λ n file h. let w = file_is n file h in subst (λ f. has_room f.segments (size_field (disk n)) ≡ true) w.1 (keeps.room n w.0);
    };
    mapped = mapped_is;
    tree = tree_is;
  }
