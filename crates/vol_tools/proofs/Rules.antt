-- A disk that has a root without files keeps the nine rules.
use Rattle.std.proofs.Common.{◌≡◌, ◌≢◌, ℕ, zero, suc, ◌+◌, ◌*◌, ◌/◌, ◌<◌, ◌≤◌, ◌==◌, ◌&&◌, ◌^◌, ◌%◌, leb, ltb, true, false, List, [], ◌∷◌, ◌++◌, length, Option, Some, None, IsSome, refl, sym, ap, ◌∙◌, subst, ⊎_elim, arith, eqb-true, eq-eqb, add-zero, zero-add}
use Rattle.std.specs.List.{range_with_len}
use Rattle.std.proofs.lemmas.Bool.{cond-true, cond-false, lt-ltb, le-ltb, le-leb, leb-true, and_from, cases_lt, cases_eq, cases_Bool, false≢true, ne_eqb}
use Rattle.std.proofs.lemmas.List.Elements.{All-nil, All-cons}
use Rattle.os9_base.specs.declared.registers.TimePacket.{TimePacket}
use Rattle.rbf_model.specs.Fields.{size_field, directory_entry}
use Rattle.rbf_model.specs.Geometry.{Geometry, LieWithin, is_within}
use Rattle.rbf_model.specs.Disk.{disk_of, IsDisk}
use Rattle.rbf_model.specs.Segments.{AreDistinct, has}
use Rattle.rbf_model.specs.File.{DiskFile, file_at, is_directory, is_directory_size, has_room}
use Rattle.rbf_model.specs.Space.{is_marked, is_whole, owned, owns, has_cluster, system_sectors, IsMapped, IsLost}
use Rattle.rbf_model.specs.Tree.{dot, dot_dot, EntryNames, ReachedFile, root, named, IsEntry, of_root, HasDots, parent_first}
use Rattle.rbf_model.specs.Volume.{Shows, IsTree, Sound, listing, directories}
use Rattle.rbf_model.proofs.Segments.{range_has, has_range}
use Rattle.rbf_model.proofs.Space.{cluster_from_owns, owns_from_cluster}
use Rattle.rbf_model.proofs.Growth.{distinct_range}
use Rattle.rbf_model.proofs.Owners.{cluster_positive}
use Rattle.rbf_change.specs.Names.{new_listing}
use Rattle.vol_tools.specs.Blank.{blank_ident, blank_root, blank_directory, blank_files, blank_volume, map_bytes_for}
use Rattle.vol_tools.specs.Image.{IsDiskSize, used_clusters}
use Rattle.vol_tools.proofs.Sizes.{fits, uses, begins}

-- what sector 0 says
abbrev pub blank_geometry : ℕ → ℕ → Geometry
blank_geometry s k = record { total = s; map_bytes = map_bytes_for s k; cluster = k; root = blank_root s k }

-- what the rules read of a blank disk
pub record HasBlank (disk : ℕ → List ℕ) (s k : ℕ) (now : TimePacket) : Type 0 where
  pub size : IsDiskSize s k
  pub sectors : IsDisk (disk_of (blank_geometry s k) disk)
  pub ident : disk 0 ≡ blank_ident s k now
  pub root_is : file_at disk (blank_root s k) ≡ blank_directory (blank_root s k) now
  pub root_size : size_field (disk (blank_root s k)) ≡ 64
  pub marks : (c : ℕ) → c * k < s → is_marked disk c ≡ ltb c (used_clusters s k)

-- a range and two numbers behind it
two_more : (a n b : ℕ) → a + n ≡ b → range_with_len a n ++ b ∷ (b + 1) ∷ [] ≡ range_with_len a (n + 2)
two_more a zero b is = ap (λ x. x ∷ (x + 1) ∷ []) (sym is ∙ add-zero a)
two_more a (suc n) b is =
    let many : suc n + 2 ≡ suc (n + 2) = omega arith in
    ap (λ xs. a ∷ xs) (two_more (a + 1) n b (omega arith)) ∙ ap (range_with_len a) (sym many)

three_bytes : (m : ℕ) → m < 16777216 → m / 65536 * 256 ^ 2 + (m / 256 % 256 * 256 ^ 1 + (m % 256 * 256 ^ 0 + 0)) ≡ m
three_bytes m low = omega arith

segment-within : (r s : ℕ) → r + 2 ≤ s → (leb 1 (r + 1) && leb (r + 1 + 1) s) ≡ true
segment-within r s fits = and_from (leb 1 (r + 1)) (leb (r + 1 + 1) s) (le-leb 1 (r + 1) (omega arith)) (le-leb (r + 1 + 1) s (omega arith))

module _ (disk : ℕ → List ℕ) (s k : ℕ) (now : TimePacket) (blank : HasBlank disk s k now) where
  abbrev g : Geometry
  g = blank_geometry s k

  abbrev r : ℕ
  r = blank_root s k

  abbrev dir : DiskFile
  dir = blank_directory r now

  abbrev files : ℕ → Option DiskFile
  files = blank_files r now

  size_fits : (r + 2 ≤ s) × (s ≤ 8 * map_bytes_for s k * k) × (map_bytes_for s k < 65536)
  size_fits = fits s k blank.size.clusters blank.size.least blank.size.most

  -- the root is the only file
  only : (n : ℕ) (file : DiskFile) → files n ≡ Some file → (n ≡ r) × (file ≡ dir)
  only n file is =
      ⊎_elim
      (λ at. (eqb-true n r at, let one : Some file ≡ Some dir = sym is ∙ cond-true (n == r) (Some dir) None at in cc))
      (λ other. absurd (let none : Some file ≡ None = sym is ∙ cond-false (n == r) (Some dir) None other in cc))
      (cases_Bool (n == r))

  there : files r ≡ Some dir
  there = cond-true (r == r) (Some dir) None (eq-eqb r r refl)

  -- its entries: `..` and `.`, and none behind them
  root-bytes : directories files r ≡ new_listing r r
  root-bytes = ap listing there

  other-bytes : (n : ℕ) → n ≢ r → directories files n ≡ []
  other-bytes n differs = ap listing (cond-false (n == r) (Some dir) None (ne_eqb n r differs))

  few : (n i : ℕ) → 32 * (i + 1) ≤ length (directories files n) → i < 2
  few n i within =
      ⊎_elim
      (λ at. let long : length (directories files n) ≡ 64 = ap (λ m. length (directories files m)) at ∙ ap length root-bytes in omega arith)
      (λ differs. let short : length (directories files n) ≡ 0 = ap length (other-bytes n differs) in omega arith)
      (cases_eq n r)

  no-entry : (d i n : ℕ) → EntryNames (directories files d) i n → ⊥
  no-entry d i n names =
      let after = names.after in
      let low = few d i names.entry.within in
      omega arith

  root-low : r < 16777216
  root-low = let f = size_fits in let most = blank.size.most in omega arith

  parent : IsEntry (directory_entry (new_listing r r) 0) dot_dot r
  parent = record { name_is = refl; descriptor = three_bytes r root-low }

  self : IsEntry (directory_entry (new_listing r r) 1) dot r
  self = record { name_is = refl; descriptor = three_bytes r root-low }

  dots : HasDots g (directories files) r
  dots =
      parent_first {p = r} (subst (λ bytes. IsEntry (directory_entry bytes 0) dot_dot r) (sym root-bytes) parent)
      (subst (λ bytes. IsEntry (directory_entry bytes 1) dot r) (sym root-bytes) self)
      (of_root refl refl)

  only-reached : {n : ℕ} → ReachedFile g (directories files) n → n ≡ r
  only-reached root = refl
  only-reached (named {d = d} {i = i} {n = n} from names number) = absurd (no-entry d i n names)

  is-some : (n : ℕ) → n ≡ r → IsSome (files n)
  is-some n at = subst (λ m. IsSome (files m)) (sym at) (subst IsSome (sym there) refl)

  some-is : (n : ℕ) → IsSome (files n) → n ≡ r
  some-is n some =
      ⊎_elim
      (λ at. at)
      (λ differs. absurd (false≢true (subst IsSome (cond-false (n == r) (Some dir) None (ne_eqb n r differs)) some)))
      (cases_eq n r)

  tree : IsTree g files
  tree = record {
    reached = λ n. (
      λ some. subst (ReachedFile g (directories files)) (sym (some-is n some)) root,
      λ is. is-some n (only-reached is),
    );
    root = λ file is. ap is_directory (only r file is).1;
    sizes = λ n file is directory. ap (λ (f : DiskFile). is_directory_size (length f.contents)) (only n file is).1;
    numbers = λ d i n names. absurd (no-entry d i n names);
    dots = λ n file is directory. subst (HasDots g (directories files)) (sym (only n file is).0) dots;
    names = λ n i after entry. absurd (let low = few n i entry.within in omega arith);
    different = λ n i j one other after behind entry next is was same. absurd (let low = few n i entry.within in omega arith);
    once = λ d e i j n one other. absurd (no-entry d i n one);
    root_free = λ d i names. no-entry d i r names;
  }

  -- its sectors are all up to the end of its entries
  owned-root : owned g r dir ≡ range_with_len 0 (r + 2)
  unfolding owned
  owned-root =
      ap (λ system. system ++ r ∷ (r + 1) ∷ []) (cond-true (r == r) (system_sectors g) [] (eq-eqb r r refl))
      ∙ two_more 0 r r (zero-add r)

  owns-root : (t : ℕ) → owns g r dir t ≡ true → t < r + 2
  unfolding owns
  owns-root t own = let low = (range_has 0 (r + 2) t (ap (λ l. has l t) (sym owned-root) ∙ own)).1 in omega arith

  root-owns : (t : ℕ) → t < r + 2 → owns g r dir t ≡ true
  unfolding owns
  root-owns t low = ap (λ l. has l t) owned-root ∙ has_range 0 (r + 2) t (omega arith) (omega arith)

  cluster-low : (c : ℕ) → has_cluster g r dir c ≡ true → c * k < r + 2
  cluster-low c h =
      let w = owns_from_cluster g r dir c h in
      let low = owns-root w.0 w.1 in
      let first = (begins k blank.size.clusters c w.0).1 in
      let at : (w.0 / k) * k ≡ c * k = ap (λ x. x * k) w.2 in
      omega arith

  low-cluster : (c : ℕ) → c * k < r + 2 → has_cluster g r dir c ≡ true
  low-cluster c low =
      ap (has_cluster g r dir) (sym (begins k blank.size.clusters c 0).0) ∙ cluster_from_owns g r dir (c * k) (root-owns (c * k) low)

  marked : (c : ℕ) → c * k < r + 2 → is_marked disk c ≡ true
  marked c low =
      let f = size_fits in
      blank.marks c (omega arith) ∙ lt-ltb c (used_clusters s k) ((uses k blank.size.clusters r c).1 low)

  marked-used : (c : ℕ) → c * k < s → is_marked disk c ≡ true → c * k < r + 2
  marked-used c within mark =
      ⊎_elim
      (λ low. (uses k blank.size.clusters r c).0 low)
      (λ high. absurd (false≢true (sym (blank.marks c within ∙ le-ltb c (used_clusters s k) high) ∙ mark)))
      (cases_lt c (used_clusters s k))

  whole-within : (c : ℕ) → is_whole g c ≡ true → c * k < s
  whole-within c whole =
      let within : (c + 1) * k ≤ s = leb-true ((c + 1) * k) s whole in
      let some = cluster_positive k blank.size.clusters in
      let more : (c + 1) * k ≡ c * k + k = omega arith in
      omega arith

  none-lost : (c : ℕ) → IsLost g (is_marked disk) files c → ⊥
  none-lost c lost =
      false≢true (sym (lost.unused r dir there) ∙ low-cluster c (marked-used c (whole-within c lost.whole) lost.marked_in))

  within-root : LieWithin g ((r + 1, 1) ∷ [])
  within-root =
      let f = size_fits in
      All-cons (λ x. is_within g x ≡ true) (r + 1, 1) [] (segment-within r s (omega arith)) (All-nil (λ x. is_within g x ≡ true))

  mapped : IsMapped g (is_marked disk) files (λ c. false)
  mapped = record {
    within = λ n file is. subst (λ (f : DiskFile). LieWithin g f.segments) (sym (only n file is).1) within-root;
    marks = λ n file c is has. marked c (cluster-low c (of_root_file (λ m f. has_cluster g m f c ≡ true) n file (only n file is) has));
    once = λ n file is. root_is_file (λ m f. AreDistinct (owned g m f)) n file (only n file is) (subst AreDistinct (sym owned-root) (distinct_range 0 (r + 2)));
    apart = λ n m one other c is was a b. (only n one is).0 ∙ sym (only m other was).0;
    lost_are = λ c. (λ no. absurd (false≢true no), λ lost. absurd (none-lost c lost));
  }
    where
      of_root_file : (P : ℕ → DiskFile → Type 0) (n : ℕ) (file : DiskFile) → (n ≡ r) × (file ≡ dir) → P n file → P r dir
      of_root_file P n file same p = subst (P r) same.1 (subst (λ m. P m file) same.0 p)

      root_is_file : (P : ℕ → DiskFile → Type 0) (n : ℕ) (file : DiskFile) → (n ≡ r) × (file ≡ dir) → P r dir → P n file
      root_is_file P n file same p = subst (λ m. P m file) (sym same.0) (subst (P r) (sym same.1) p)

  shows : Shows disk (blank_volume s k now)
  shows = record {
    ident = sym blank.ident;
    shown = λ n file is. (only n file is).1 ∙ sym blank.root_is ∙ ap (file_at disk) (sym (only n file is).0);
    room = λ n file is.
        ap (λ (f : DiskFile). has_room f.segments (size_field (disk n))) (only n file is).1
        ∙ ap (λ m. has_room ((r + 1, 1) ∷ []) (size_field (disk m))) (only n file is).0
        ∙ ap (has_room ((r + 1, 1) ∷ [])) blank.root_size;
  }

  pub sound : Sound (disk_of g disk) (blank_volume s k now)
  sound =
      let f = size_fits in
      let least = blank.size.least in
      let most = blank.size.most in
      record {
        shape = record {
          header = record { least = omega arith; most = most; clusters = blank.size.clusters; root_after = omega arith; root_below = omega arith };
          map = record { bits = f.1; fits = omega arith };
        };
        sectors = blank.sectors;
        shows = shows;
        mapped = mapped;
        tree = tree;
      }
