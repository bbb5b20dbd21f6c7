-- A disk with a boot file keeps the nine rules.
use Rattle.std.proofs.Common.{◌≡◌, ◌≢◌, ◌⊎◌, ℕ, suc, ◌+◌, ◌*◌, ◌/◌, ◌<◌, ◌≤◌, leb, true, false, List, [], ◌∷◌, length, refl, sym, ap, ◌∙◌, subst, inl, inr, ⊎_elim, arith}
use Rattle.std.specs.List.{range_with_len, list_all}
use Rattle.std.proofs.lemmas.Bool.{cond-true, cond-false, lt-ltb, le-leb, cases_lt, cases_eq, false≢true}
use Rattle.std.proofs.lemmas.List.Elements.{All-nil, All-cons}
use Rattle.std.proofs.lemmas.List.{append-nil}
use Rattle.std.proofs.lemmas.List.FromFn.{length-range_with_len}
use Rattle.rbf_change.specs.Contents.{sector_count}
use Rattle.rbf_model.specs.Fields.{size_field, segments_field, directory_entry, descriptor_field, entry_name_field}
use Rattle.rbf_model.specs.Geometry.{IsNumber, LieWithin, is_within}
use Rattle.rbf_model.specs.Disk.{Disk, disk_of}
use Rattle.rbf_model.specs.Segments.{AreDistinct, has, sectors_of}
use Rattle.rbf_model.specs.File.{DiskFile, file_at, is_directory, is_directory_size, has_room}
use Rattle.rbf_model.specs.Space.{is_marked, owned, owns, has_cluster}
use Rattle.rbf_model.specs.Tree.{dot, dot_dot, HasEntry, EntryNames, ReachedFile, root, named, Links, IsEntry, of_root, HasDots, parent_first, HasEntryNames, HasDifferentNames, IsProper}
use Rattle.rbf_model.specs.Search.{is_searchable, searchable_bytes, IsReachedOn}
use Rattle.rbf_model.specs.Keeps.{Keeps}
use Rattle.rbf_model.proofs.Lists.{four_pass, first_fails}
use Rattle.rbf_model.proofs.Segments.{range_has, has_range}
use Rattle.rbf_model.proofs.Space.{cluster_from_owns, owns_from_cluster}
use Rattle.rbf_model.proofs.Growth.{distinct_range}
use Rattle.guest_mods.specs.BootDisk.{root_entries, used_sectors}
use Rattle.guest_mods.proofs.Parts.{length-root_entries}
use Rattle.guest_mods.proofs.Fields.{boot_geometry, boot_name, first-entry, second-entry, third-entry, third-used, HasParts}

-- ---- the entries of the root
only-entry : (i n : ℕ) → EntryNames root_entries i n → (i ≡ 2) × (n ≡ 5)
only-entry i n names =
    let after = names.after in
    let within = names.entry.within in
    let at : i ≡ 2 = omega (arith, length-root_entries) in
    (at, sym names.descriptor ∙ ap (λ j. descriptor_field (directory_entry root_entries j)) at ∙ third-entry.descriptor)

no-entry : (i n : ℕ) → EntryNames [] i n → ⊥
no-entry i n names = let within = names.entry.within in omega arith

few-entries : (i : ℕ) → HasEntry root_entries i → i < 3
few-entries i entry = let within = entry.within in omega (arith, length-root_entries)

proper : IsProper boot_name
proper = record { not_self = λ same. cc; not_parent = λ same. cc }

root-names : HasEntryNames root_entries
root-names i after entry =
    let few = few-entries i entry in
    let at : i ≡ 2 = omega arith in
    (boot_name, ap (λ j. entry_name_field (directory_entry root_entries j)) at ∙ third-entry.name_is, proper)

root-different : HasDifferentNames root_entries
root-different i j one other after behind entry next is was same =
    let few = few-entries i entry in
    let fewer = few-entries j next in
    omega arith

none-names : HasEntryNames []
none-names i after entry = absurd (let within = entry.within in omega arith)

none-different : HasDifferentNames []
none-different i j one other after behind entry next is was same = absurd (let within = entry.within in omega arith)

root-numbers : (i : ℕ) → HasEntry root_entries i → IsNumber boot_geometry (descriptor_field (directory_entry root_entries i))
root-numbers i entry =
    let few = few-entries i entry in
    ⊎_elim
    (λ at. at-number i 0 3 at first-entry.descriptor (omega arith) (omega arith))
    (λ after. ⊎_elim
    (λ at. at-number i 1 3 at second-entry.descriptor (omega arith) (omega arith))
    (λ behind. at-number i 2 5 (let ne : i ≢ 0 = after in let other : i ≢ 1 = behind in omega arith) third-entry.descriptor (omega arith) (omega arith))
    (cases_eq i 1))
    (cases_eq i 0)
  where
    at-number : (i j n : ℕ) → i ≡ j → descriptor_field (directory_entry root_entries j) ≡ n → 1 ≤ n → n < 4096 → IsNumber boot_geometry (descriptor_field (directory_entry root_entries i))
    at-number i j n at is after below =
        subst (IsNumber boot_geometry) (sym (ap (λ k. descriptor_field (directory_entry root_entries k)) at ∙ is)) (record { after = after; below = below })

one-within : (segment : ℕ × ℕ) → is_within boot_geometry segment ≡ true → LieWithin boot_geometry (segment ∷ [])
one-within segment within = All-cons (λ s. is_within boot_geometry s ≡ true) segment [] within (All-nil (λ s. is_within boot_geometry s ≡ true))

-- ---- the sectors of the two files
owned-root : (file : DiskFile) → file.segments ≡ (4, 1) ∷ [] → owned boot_geometry 3 file ≡ range_with_len 0 5
unfolding owned
owned-root file segments = ap (λ s. 0 ∷ 1 ∷ 2 ∷ 3 ∷ sectors_of s) segments

owned-file : (file : DiskFile) (count : ℕ) → file.segments ≡ (6, count) ∷ [] → owned boot_geometry 5 file ≡ range_with_len 5 (suc count)
unfolding owned
owned-file file count segments = ap (λ s. 5 ∷ sectors_of s) segments ∙ ap (λ s. 5 ∷ s) (append-nil (range_with_len 6 count))

owned-has : (n : ℕ) (file : DiskFile) (a count s : ℕ) → owned boot_geometry n file ≡ range_with_len a count → owns boot_geometry n file s ≡ true → (a ≤ s) × (s < a + count)
unfolding owns
owned-has n file a count s is own = range_has a count s (ap (λ l. has l s) (sym is) ∙ own)

owned-from : (n : ℕ) (file : DiskFile) (a count s : ℕ) → owned boot_geometry n file ≡ range_with_len a count → a ≤ s → s < a + count → owns boot_geometry n file s ≡ true
unfolding owns
owned-from n file a count s is low high = ap (λ l. has l s) is ∙ has_range a count s low high

module _ (disk : ℕ → List ℕ) (file : List ℕ) (parts : HasParts disk file) where
  abbrev on : Disk
  on = disk_of boot_geometry disk

  abbrev count : ℕ
  count = sector_count (length file)

  few-sectors : (1 ≤ count) × (count ≤ 224) × (length file ≤ 256 * count)
  few-sectors = let some = parts.some in let short = parts.short in (omega arith, omega arith, omega arith)

  root-segments : segments_field (disk 3) ≡ (4, 1) ∷ []
  root-segments = ap (λ f. f.segments) parts.root

  file-segments : segments_field (disk 5) ≡ (6, count) ∷ []
  file-segments = ap (λ f. f.segments) parts.entry

  root-directory : is_directory (file_at disk 3) ≡ true
  root-directory = ap is_directory parts.root

  file-no_directory : is_directory (file_at disk 5) ≡ false
  file-no_directory = ap is_directory parts.entry

  root-room : has_room (segments_field (disk 3)) (size_field (disk 3)) ≡ true
  root-room = ap (λ s. has_room s (size_field (disk 3))) root-segments ∙ ap (has_room ((4, 1) ∷ [])) parts.root_size

  file-room : has_room (segments_field (disk 5)) (size_field (disk 5)) ≡ true
  file-room =
      let fits : length file ≤ 256 * length (range_with_len 6 count) = let few = few-sectors in omega (arith, length-range_with_len 6 count) in
      ap (λ s. has_room s (size_field (disk 5))) file-segments ∙ ap (has_room ((6, count) ∷ [])) parts.size
      ∙ ap (λ sectors. leb (length file) (256 * length sectors)) (append-nil (range_with_len 6 count))
      ∙ le-leb (length file) (256 * length (range_with_len 6 count)) fits

  root-sizes : is_directory_size (size_field (disk 3)) ≡ true
  root-sizes = ap is_directory_size parts.root_size

  root-bytes : searchable_bytes on 3 ≡ root_entries
  root-bytes =
      let within : list_all (is_within boot_geometry) (segments_field (disk 3)) ≡ true = ap (list_all (is_within boot_geometry)) root-segments in
      cond-true (is_searchable on 3) (file_at disk 3).contents [] (four_pass _ _ _ _ root-directory within root-room root-sizes)
      ∙ ap (λ f. f.contents) parts.root

  file-bytes : searchable_bytes on 5 ≡ []
  file-bytes = cond-false (is_searchable on 5) (file_at disk 5).contents [] (first_fails _ _ _ _ file-no_directory)

  -- ---- what is reached
  entries-of-root : (i n : ℕ) → EntryNames (searchable_bytes on 3) i n → (i ≡ 2) × (n ≡ 5)
  entries-of-root i n names = only-entry i n (subst (λ bytes. EntryNames bytes i n) root-bytes names)

  entries-of-file : (i n : ℕ) → EntryNames (searchable_bytes on 5) i n → ⊥
  entries-of-file i n names = no-entry i n (subst (λ bytes. EntryNames bytes i n) file-bytes names)

  pub reached : {n : ℕ} → ReachedFile boot_geometry (searchable_bytes on) n → (n ≡ 3) ⊎ (n ≡ 5)
  reached root = inl refl
  reached (named {d = d} {i = i} {n = n} from names number) =
      ⊎_elim
      (λ at. inr (entries-of-root i n (subst (λ m. EntryNames (searchable_bytes on m) i n) at names)).1)
      (λ at. absurd (entries-of-file i n (subst (λ m. EntryNames (searchable_bytes on m) i n) at names)))
      (reached from)

  pub reached-root : IsReachedOn on 3
  reached-root = root

  pub reached-file : IsReachedOn on 5
  reached-file =
      named {d = 3} {i = 2} root
      (subst (λ bytes. EntryNames bytes 2 5) (sym root-bytes)
      (record {
        after = omega arith;
        entry = record {
          within = omega (arith, length-root_entries);
          used =
              third-used;
        };
        descriptor = third-entry.descriptor;
      }))
      (record { after = omega arith; below = omega arith })

  -- what holds of both holds of each that is reached
  of-each : (P : ℕ → Type 0) → P 3 → P 5 → (n : ℕ) → IsReachedOn on n → P n
  of-each P one other n is = ⊎_elim (λ at. subst P (sym at) one) (λ at. subst P (sym at) other) (reached is)

  links-are : (d i n : ℕ) → Links boot_geometry (searchable_bytes on) d i n → (d ≡ 3) × (i ≡ 2) × (n ≡ 5)
  links-are d i n link =
      ⊎_elim
      (λ at. let e = entries-of-root i n (subst (λ m. EntryNames (searchable_bytes on m) i n) at link.names) in (at, e.0, e.1))
      (λ at. absurd (entries-of-file i n (subst (λ m. EntryNames (searchable_bytes on m) i n) at link.names)))
      (reached link.from)

  -- ---- what is owned
  root-owned : owned boot_geometry 3 (file_at disk 3) ≡ range_with_len 0 5
  root-owned = owned-root (file_at disk 3) root-segments

  file-owned : owned boot_geometry 5 (file_at disk 5) ≡ range_with_len 5 (suc count)
  file-owned = owned-file (file_at disk 5) count file-segments

  root-owns : (s : ℕ) → owns boot_geometry 3 (file_at disk 3) s ≡ true → s < 5
  root-owns s own = (owned-has 3 (file_at disk 3) 0 5 s root-owned own).1

  file-owns : (s : ℕ) → owns boot_geometry 5 (file_at disk 5) s ≡ true → (5 ≤ s) × (s < 6 + count)
  file-owns s own = let r = owned-has 5 (file_at disk 5) 5 (suc count) s file-owned own in (r.0, omega arith)

  root-cluster : (c : ℕ) → has_cluster boot_geometry 3 (file_at disk 3) c ≡ true → c < 5
  root-cluster c h =
      let w = owns_from_cluster boot_geometry 3 (file_at disk 3) c h in
      let low = root-owns w.0 w.1 in
      let at : w.0 / 1 ≡ c = w.2 in
      omega arith

  file-cluster : (c : ℕ) → has_cluster boot_geometry 5 (file_at disk 5) c ≡ true → 5 ≤ c
  file-cluster c h =
      let w = owns_from_cluster boot_geometry 5 (file_at disk 5) c h in
      let low = (file-owns w.0 w.1).0 in
      let at : w.0 / 1 ≡ c = w.2 in
      omega arith

  marked : (s : ℕ) → s < 6 + count → is_marked disk (s / 1) ≡ true
  marked s low =
      let few = few-sectors in
      let place : s / 1 ≡ s = omega arith in
      ap (is_marked disk) place ∙ parts.marks s (omega arith) ∙ lt-ltb s (used_sectors (length file)) low

  -- a cluster that is marked is one of theirs
  pub used-is : (c : ℕ) → c < 6 + count → (has_cluster boot_geometry 3 (file_at disk 3) c ≡ true) ⊎ (has_cluster boot_geometry 5 (file_at disk 5) c ≡ true)
  used-is c low =
      let place : c / 1 ≡ c = omega arith in
      ⊎_elim
      (λ first. inl (ap (has_cluster boot_geometry 3 (file_at disk 3)) (sym place) ∙ cluster_from_owns boot_geometry 3
      (file_at disk 3) c (owned-from 3 (file_at disk 3) 0 5 c root-owned (omega arith) first)))
      (λ later. inr (ap (has_cluster boot_geometry 5 (file_at disk 5)) (sym place) ∙ cluster_from_owns boot_geometry 5
      (file_at disk 5) c (owned-from 5 (file_at disk 5) 5 (suc count) c file-owned later (omega arith))))
      (cases_lt c 5)

  -- ---- the rules
  directory-only-root : (P : ℕ → Type 0) → P 3 → (n : ℕ) → IsReachedOn on n → is_directory (file_at disk n) ≡ true → P n
  directory-only-root P one n is dir =
      ⊎_elim (λ at. subst P (sym at) one)
      (λ at. absurd (false≢true (sym file-no_directory ∙ ap (λ m. is_directory (file_at disk m)) (sym at) ∙ dir)))
      (reached is)

  root-dots : HasDots boot_geometry (searchable_bytes on) 3
  root-dots =
      parent_first {p = 3} (subst (λ bytes. IsEntry (directory_entry bytes 0) dot_dot 3) (sym root-bytes) first-entry)
      (subst (λ bytes. IsEntry (directory_entry bytes 1) dot 3) (sym root-bytes) second-entry)
      (of_root refl refl)

  apart-are : (n m c : ℕ) → IsReachedOn on n → IsReachedOn on m → has_cluster boot_geometry n (file_at disk n) c ≡ true → has_cluster boot_geometry m (file_at disk m) c ≡ true → n ≡ m
  apart-are n m c one other =
      of-each (λ k. has_cluster boot_geometry k (file_at disk k) c ≡ true → has_cluster boot_geometry m (file_at disk m) c ≡ true → k ≡ m)
      (of-each (λ k. has_cluster boot_geometry 3 (file_at disk 3) c ≡ true → has_cluster boot_geometry k (file_at disk k) c ≡ true → 3 ≡ k)
      (λ a b. refl)
      (λ a b. absurd (let low = root-cluster c a in let high = file-cluster c b in omega arith)) m other)
      (of-each (λ k. has_cluster boot_geometry 5 (file_at disk 5) c ≡ true → has_cluster boot_geometry k (file_at disk k) c ≡ true → 5 ≡ k)
      (λ a b. absurd (let low = root-cluster c b in let high = file-cluster c a in omega arith))
      (λ a b. refl) m other) n one

  numbers-are : (d : ℕ) → IsReachedOn on d → (i : ℕ) → HasEntry (searchable_bytes on d) i → IsNumber boot_geometry (descriptor_field (directory_entry (searchable_bytes on d) i))
  numbers-are =
      of-each (λ d. (i : ℕ) → HasEntry (searchable_bytes on d) i → IsNumber boot_geometry (descriptor_field (directory_entry (searchable_bytes on d) i)))
      (subst (λ bytes. (i : ℕ) → HasEntry bytes i → IsNumber boot_geometry (descriptor_field (directory_entry bytes i))) (sym root-bytes) root-numbers)
      (subst (λ bytes. (i : ℕ) → HasEntry bytes i → IsNumber boot_geometry (descriptor_field (directory_entry bytes i))) (sym file-bytes)
      (λ i entry. absurd (let within = entry.within in omega arith)))

  pub keeps : Keeps on
  keeps = record {
    numbers = λ d i is. numbers-are d is i;
    segments = of-each (λ n. LieWithin boot_geometry (segments_field (disk n)))
        (subst (LieWithin boot_geometry) (sym root-segments) (one-within (4, 1) refl))
        (subst (LieWithin boot_geometry) (sym file-segments) (one-within (6, count) (let few = few-sectors in le-leb (6 + count) 4096 (omega arith))));
    map = record { bits = omega arith; fits = omega arith };
    marks = λ n s is. of-each (λ k. owns boot_geometry k (file_at disk k) s ≡ true → is_marked disk (s / 1) ≡ true)
        (λ own. marked s (let low = root-owns s own in omega arith))
        (λ own. marked s (file-owns s own).1) n is;
    once = of-each (λ n. AreDistinct (owned boot_geometry n (file_at disk n)))
        (subst AreDistinct (sym root-owned) (distinct_range 0 5))
        (subst AreDistinct (sym file-owned) (distinct_range 5 (suc count)));
    apart = apart-are;
    room = of-each (λ n. has_room (segments_field (disk n)) (size_field (disk n)) ≡ true) root-room file-room;
    root = root-directory;
    sizes = directory-only-root (λ n. is_directory_size (size_field (disk n)) ≡ true) root-sizes;
    dots = directory-only-root (HasDots boot_geometry (searchable_bytes on)) root-dots;
    names = of-each (λ d. HasEntryNames (searchable_bytes on d)) (subst HasEntryNames (sym root-bytes) root-names) (subst HasEntryNames (sym file-bytes) none-names);
    different = of-each (λ d. HasDifferentNames (searchable_bytes on d)) (subst HasDifferentNames (sym root-bytes) root-different) (subst HasDifferentNames (sym file-bytes) none-different);
    named_once = λ d e i j n one other.
        let a = links-are d i n one in
        let b = links-are e j n other in
        (a.0 ∙ sym b.0, a.1 ∙ sym b.1);
    root_free = λ d i link. let a = links-are d i 3 link in omega arith;
  }
