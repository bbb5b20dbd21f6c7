-- A disk that stands for a volume breaks no rule.
use Rattle.std.proofs.Common.{◌≡◌, ◌↔◌, ℕ, zero, suc, ◌/◌, true, List, [], length, Some, IsSome, refl, sym, ap, ◌∙◌, subst, ⊎_elim, arith}
use Rattle.std.proofs.lemmas.Bool.{cond-false, cases_Bool}
use Rattle.rbf_model.specs.Disk.{disk_of}
use Rattle.rbf_model.specs.Fields.{size_field, segments_field, directory_entry, descriptor_field}
use Rattle.rbf_model.specs.Geometry.{LieWithin, Geometry, IsHeader, IsNumber}
use Rattle.rbf_model.specs.File.{DiskFile, file_at, is_directory, is_directory_size, has_room}
use Rattle.rbf_model.specs.Tree.{HasEntry, EntryNames, ReachedFile, root, named, Links, IsParent, of_root, of_other, HasDots, self_first, parent_first, HasEntryNames, HasDifferentNames}
use Rattle.rbf_model.specs.Volume.{DiskVolume, Sound, directories, listing}
use Rattle.rbf_model.specs.Search.{searchable_bytes, IsReachedOn}
use Rattle.rbf_model.specs.Keeps.{Keeps}
use Rattle.rbf_model.proofs.Lists.{some_of}
use Rattle.rbf_model.proofs.Segments.{length-contents}
use Rattle.rbf_model.proofs.Space.{cluster_from_owns}
use Rattle.rbf_model.proofs.Tree.{reached_along, reached_back, dots_along}
use Rattle.rbf_model.proofs.Files.{listing_is}

-- what is reached is a number of the volume
pub number_of_reached : (g : Geometry) (dirs : ℕ → List ℕ) → IsHeader g → {n : ℕ} → ReachedFile g dirs n → IsNumber g n
number_of_reached g dirs header root = record { after = header.root_after; below = header.root_below }
number_of_reached g dirs header (named r names number) = number

-- and so is a parent
pub number_of_parent : (g : Geometry) (dirs : ℕ → List ℕ) → IsHeader g → (d p : ℕ) → IsParent g dirs d p → IsNumber g p
number_of_parent g dirs header d p (of_root a b) = subst (IsNumber g) (sym b) (record { after = header.root_after; below = header.root_below })
number_of_parent g dirs header d p (of_other a link) = number_of_reached g dirs header link.from

-- the first two entries name numbers of the volume
number_of_dots : (g : Geometry) (dirs : ℕ → List ℕ) → IsHeader g → (d : ℕ) → ReachedFile g dirs d → HasDots g dirs d
    → IsNumber g (descriptor_field (directory_entry (dirs d) 0)) × IsNumber g (descriptor_field (directory_entry (dirs d) 1))
number_of_dots g dirs header d r (self_first {p = p} one two parent) =
    (subst (IsNumber g) (sym one.descriptor) (number_of_reached g dirs header r), subst (IsNumber g) (sym two.descriptor) (number_of_parent g dirs header d p parent))
number_of_dots g dirs header d r (parent_first {p = p} one two parent) =
    (subst (IsNumber g) (sym one.descriptor) (number_of_parent g dirs header d p parent), subst (IsNumber g) (sym two.descriptor) (number_of_reached g dirs header r))

-- a directory without bytes has no entry
pub no_entry : (contents : List ℕ) (i : ℕ) → contents ≡ [] → HasEntry contents i → ⊥
no_entry contents i e h = let f : length contents ≡ 0 = ap length e in let w = h.within in omega arith

module _ (g : Geometry) (disk : ℕ → List ℕ) (v : DiskVolume) (sound : Sound (disk_of g disk) v) where
  -- a file of the volume is the one that its descriptor stands for
  pub file_is : (n : ℕ) (file : DiskFile) → v.files n ≡ Some file → v.files n ≡ Some (file_at disk n)
  file_is n file h = h ∙ ap Some (sound.shows.shown n file h)

  pub segments_are : (n : ℕ) (file : DiskFile) → v.files n ≡ Some file → LieWithin g (segments_field (disk n))
  segments_are n file h = sound.mapped.within n (file_at disk n) (file_is n file h)

  pub room_is : (n : ℕ) (file : DiskFile) → v.files n ≡ Some file → has_room (segments_field (disk n)) (size_field (disk n)) ≡ true
  room_is n file h = sound.shows.room n (file_at disk n) (file_is n file h)

  -- and as long as its size
  pub size_is : (n : ℕ) (file : DiskFile) → v.files n ≡ Some file → length (file_at disk n).contents ≡ size_field (disk n)
  size_is n file h = length-contents g disk (segments_field (disk n)) (size_field (disk n)) sound.sectors (segments_are n file h) (room_is n file h)

  pub directory_size : (n : ℕ) (file : DiskFile) → v.files n ≡ Some file → is_directory (file_at disk n) ≡ true → is_directory_size (size_field (disk n)) ≡ true
  directory_size n file h is_dir =
      subst (λ size. is_directory_size size ≡ true) (size_is n file h) (sound.tree.sizes n (file_at disk n) (file_is n file h) is_dir)

  -- the directories are those that can be searched
  pub searched_is : (n : ℕ) → IsSome (v.files n) → directories v.files n ≡ searchable_bytes (disk_of g disk) n
  searched_is n some =
      let w = some_of (v.files n) some in
      ap listing (file_is n w.0 w.1) ∙ listing_is g disk n (segments_are n w.0 w.1) (room_is n w.0 w.1) (directory_size n w.0 w.1)

  pub reached_is : (n : ℕ) → ReachedFile g (directories v.files) n → directories v.files n ≡ searchable_bytes (disk_of g disk) n
  reached_is n r = searched_is n ((sound.tree.reached n).1 r)

  -- the files are those that are reached on the disk
  pub found : (n : ℕ) → IsSome (v.files n) ↔ IsReachedOn (disk_of g disk) n
  found n = (
    λ some. reached_along g (directories v.files) (searchable_bytes (disk_of g disk)) reached_is ((sound.tree.reached n).0 some),
    λ r. (sound.tree.reached n).1 (reached_back g (searchable_bytes (disk_of g disk)) (directories v.files) (λ d h. sym (reached_is d h)) r),
  )

  file_of : (n : ℕ) → IsReachedOn (disk_of g disk) n → v.files n ≡ Some (file_at disk n)
  file_of n r = let w = some_of (v.files n) ((found n).1 r) in file_is n w.0 w.1

  links_are : (d i n : ℕ) → Links g (searchable_bytes (disk_of g disk)) d i n → EntryNames (directories v.files d) i n
  links_are d i n link = subst (λ c. EntryNames c i n) (sym (searched_is d ((found d).1 link.from))) link.names

  dots_are : (n : ℕ) → IsReachedOn (disk_of g disk) n → is_directory (file_at disk n) ≡ true → HasDots g (searchable_bytes (disk_of g disk)) n
  dots_are n r is_dir =
      let here = (found n).1 r in
      dots_along g (directories v.files) (searchable_bytes (disk_of g disk)) reached_is n ((sound.tree.reached n).0 here) (sound.tree.dots n (file_at disk n) (file_of n r) is_dir)

  numbers_are : (d i : ℕ) → IsReachedOn (disk_of g disk) d → HasEntry (searchable_bytes (disk_of g disk) d) i → IsNumber g (descriptor_field (directory_entry (searchable_bytes (disk_of g disk) d) i))
  numbers_are d i r entry =
      ⊎_elim (λ is_dir. by_place i entry (number_of_dots g (searchable_bytes (disk_of g disk)) sound.shape.header d r (dots_are d r is_dir)))
      (λ not_dir. absurd (no_entry (searchable_bytes (disk_of g disk) d) i (sym (searched_is d ((found d).1 r)) ∙ ap
      listing (file_of d r) ∙ cond-false (is_directory (file_at disk d)) (file_at disk d).contents [] not_dir)
      entry))
      (cases_Bool (is_directory (file_at disk d)))
    where
      by_place : (j : ℕ) → HasEntry (searchable_bytes (disk_of g disk) d) j
          → IsNumber g (descriptor_field (directory_entry (searchable_bytes (disk_of g disk) d) 0)) × IsNumber g (descriptor_field (directory_entry (searchable_bytes (disk_of g disk) d) 1))
          → IsNumber g (descriptor_field (directory_entry (searchable_bytes (disk_of g disk) d) j))
      by_place zero entry first = first.0
      by_place (suc zero) entry first = first.1
      by_place (suc (suc j)) entry first =
          let names : EntryNames (searchable_bytes (disk_of g disk) d) (suc (suc j)) (descriptor_field (directory_entry (searchable_bytes (disk_of g disk) d) (suc (suc j)))) =
          record { after = omega arith; entry = entry; descriptor = refl } in
          sound.tree.numbers d (suc (suc j)) _ (links_are d (suc (suc j)) _ (record { from = r; names = names }))

  pub keeps_from_sound : Keeps (disk_of g disk)
  keeps_from_sound = record {
    numbers = numbers_are;
    segments = λ n r. segments_are n (file_at disk n) (file_of n r);
    map = sound.shape.map;
    marks = λ n s r h. sound.mapped.marks n (file_at disk n) (s / g.cluster) (file_of n r) (cluster_from_owns g n (file_at disk n) s h);
    once = λ n r. sound.mapped.once n (file_at disk n) (file_of n r);
    apart = λ n m c r q h k. sound.mapped.apart n m (file_at disk n) (file_at disk m) c (file_of n r) (file_of m q) h k;
    room = λ n r. room_is n (file_at disk n) (file_of n r);
    root = sound.tree.root (file_at disk g.root) (file_of g.root root);
    sizes = λ n r. directory_size n (file_at disk n) (file_of n r);
    dots = dots_are;
    names = λ d r. subst (λ c. HasEntryNames c) (searched_is d ((found d).1 r)) (sound.tree.names d);
    different = λ d r. subst (λ c. HasDifferentNames c) (searched_is d ((found d).1 r)) (sound.tree.different d);
    named_once = λ d e i j n one other. sound.tree.once d e i j n (links_are d i n one) (links_are e j n other);
    root_free = λ d i link. sound.tree.root_free d i (links_are d i g.root link);
  }
