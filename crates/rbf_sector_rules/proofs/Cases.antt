-- What a breach of each of the rules 3, 4, 7, 8 and 9 is.
use Rattle.std.proofs.Common.{◌≡◌, ◌≢◌, ◌⊎◌, ℕ, ◌*◌, ◌/◌, ◌<◌, true, false, List, length, get_or, refl, inl, inr, arith}
use Rattle.std.proofs.lemmas.Option.{slice_get_within, get_or_from_slice_get}
use Rattle.rbf_model.specs.Disk.{disk_of}
use Rattle.rbf_model.specs.Geometry.{Geometry, IsNumber}
use Rattle.rbf_model.specs.File.{file_at, is_directory}
use Rattle.rbf_model.specs.Space.{is_marked, owned, owns, has_cluster}
use Rattle.rbf_model.specs.Tree.{Links, HasDots, HasEntryNames, HasDifferentNames}
use Rattle.rbf_model.specs.Faults.{Breaks}
use Rattle.rbf_model.specs.Search.{IsReachedOn, searchable_bytes}
use Rattle.rbf_model.specs.Faults.Breaks.{bad_number, bad_segment, bad_map, unmarked, used_twice, shared, no_room, no_root, bad_size, no_dots, bad_name, same_name, named_twice, named_root}

-- the sector is in use, and the map does not mark its cluster
abbrev pub Unmarked : Geometry → (ℕ → List ℕ) → ℕ → Type 0
Unmarked g disk s = (n : ℕ) × IsReachedOn (disk_of g disk) n × (owns g n (file_at disk n) s ≡ true) × (is_marked disk (s / g.cluster) ≡ false)

-- the sector stands twice among those of an owner
abbrev pub UsedTwice : Geometry → (ℕ → List ℕ) → ℕ → Type 0
UsedTwice g disk s =
    (n : ℕ) × (i : ℕ) × (j : ℕ) × IsReachedOn (disk_of g disk) n × (i < j) × (j < length (owned g n (file_at disk n)))
    × (get_or (owned g n (file_at disk n)) i s ≡ s) × (get_or (owned g n (file_at disk n)) j s ≡ s)

-- two owners have the cluster that begins there
abbrev pub Shared : Geometry → (ℕ → List ℕ) → ℕ → Type 0
Shared g disk s =
    (n : ℕ) × (m : ℕ) × (c : ℕ) × IsReachedOn (disk_of g disk) n × IsReachedOn (disk_of g disk) m × (n ≢ m) ×
    (has_cluster g n (file_at disk n) c ≡ true) × (has_cluster g m (file_at disk m) c ≡ true) ×
    (s ≡ c * g.cluster)

-- the directory does not begin with itself and its parent
abbrev pub NoDots : Geometry → (ℕ → List ℕ) → ℕ → Type 0
NoDots g disk n = IsReachedOn (disk_of g disk) n × (is_directory (file_at disk n) ≡ true) × (HasDots g (searchable_bytes (disk_of g disk)) n → ⊥)

-- an entry of the directory has no proper name, or two have the same
abbrev pub BadNames : Geometry → (ℕ → List ℕ) → ℕ → Type 0
BadNames g disk d = IsReachedOn (disk_of g disk) d × ((HasEntryNames (searchable_bytes (disk_of g disk) d) → ⊥) ⊎ (HasDifferentNames (searchable_bytes (disk_of g disk) d) → ⊥))

-- two entries name the descriptor, or one names the root's
abbrev pub BadlyNamed : Geometry → (ℕ → List ℕ) → ℕ → Type 0
BadlyNamed g disk n =
    ((d : ℕ) × (e : ℕ) × (i : ℕ) × (j : ℕ) × IsNumber g n × Links g (searchable_bytes (disk_of g disk)) d i n × Links
    g (searchable_bytes (disk_of g disk)) e j n × (((d ≡ e) × (i ≡ j)) → ⊥)) ⊎
    ((n ≡ g.root) × ((d : ℕ) × (i : ℕ) × Links g (searchable_bytes (disk_of g disk)) d i g.root))

module _ (g : Geometry) (disk : ℕ → List ℕ) where
  abbrev Other : ℕ → ℕ → Type 0
  Other rule lsn =
      (rule ≡ 3 → Unmarked g disk lsn) × (rule ≡ 4 → UsedTwice g disk lsn ⊎ Shared g disk lsn) × (rule ≡ 7 → NoDots g disk lsn) × (rule ≡ 8 → BadNames g disk lsn) × (rule ≡ 9 → BadlyNamed g disk lsn)

  none_of : (rule lsn : ℕ) → (rule ≡ 3 → ⊥) → (rule ≡ 4 → ⊥) → (rule ≡ 7 → ⊥) → (rule ≡ 8 → ⊥) → (rule ≡ 9 → ⊥) → Other rule lsn
  none_of rule lsn three four seven eight nine =
      (λ e. absurd (three e), λ e. absurd (four e), λ e. absurd (seven e), λ e. absurd (eight e), λ e. absurd (nine e))

  other : {rule lsn : ℕ} → Breaks (disk_of g disk) rule lsn → Other rule lsn
  other (bad_number {d = d} a b c) = none_of 1 d (λ e. omega arith) (λ e. omega arith) (λ e. omega arith) (λ e. omega arith) (λ e. omega arith)
  other (bad_segment {n = n} a b c) = none_of 1 n (λ e. omega arith) (λ e. omega arith) (λ e. omega arith) (λ e. omega arith) (λ e. omega arith)
  other (bad_map a) = none_of 2 1 (λ e. omega arith) (λ e. omega arith) (λ e. omega arith) (λ e. omega arith) (λ e. omega arith)
  other (unmarked {n = n} reached owned free) =
      (λ e. (n, reached, owned, free), λ e. absurd (omega arith), λ e. absurd (omega arith), λ e. absurd (omega arith), λ e. absurd (omega arith))
  other (used_twice {n = n} {i = i} {j = j} {s = s} reached before one two) =
      let used = owned g n (file_at disk n) in (
        λ e. absurd (omega arith),
        λ e. inl (
          n,
          i,
          j,
          reached,
          before,
          slice_get_within used j s two,
          get_or_from_slice_get used i s s one,
          get_or_from_slice_get used j s s two,
        ),
        λ e. absurd (omega arith),
        λ e.
            absurd (omega arith),
        λ e. absurd (omega arith),
      )
  other (shared {n = n} {m = m} c reached again apart one two at) =
      (λ e. absurd (omega arith), λ e. inr (n, m, c, reached, again, apart, one, two, at), λ e. absurd (omega arith), λ e. absurd (omega arith), λ e. absurd (omega arith))
  other (no_room {n = n} a b) = none_of 5 n (λ e. omega arith) (λ e. omega arith) (λ e. omega arith) (λ e. omega arith) (λ e. omega arith)
  other (no_root a) = none_of 6 g.root (λ e. omega arith) (λ e. omega arith) (λ e. omega arith) (λ e. omega arith) (λ e. omega arith)
  other (bad_size {n = n} a b c) = none_of 6 n (λ e. omega arith) (λ e. omega arith) (λ e. omega arith) (λ e. omega arith) (λ e. omega arith)
  other (no_dots reached directory wrong) =
      (λ e. absurd (omega arith), λ e. absurd (omega arith), λ e. (reached, directory, wrong), λ e. absurd (omega arith), λ e. absurd (omega arith))
  other (bad_name reached wrong) =
      (λ e. absurd (omega arith), λ e. absurd (omega arith), λ e. absurd (omega arith), λ e. (reached, inl wrong), λ e. absurd (omega arith))
  other (same_name reached wrong) =
      (λ e. absurd (omega arith), λ e. absurd (omega arith), λ e. absurd (omega arith), λ e. (reached, inr wrong), λ e. absurd (omega arith))
  other (named_twice {d = d} {e = e} {i = i} {j = j} number one two wrong) =
      (λ r. absurd (omega arith), λ r. absurd (omega arith), λ r. absurd (omega arith), λ r. absurd (omega arith), λ r. inl (d, e, i, j, number, one, two, wrong))
  other (named_root {d = d} {i = i} link) =
      (λ r. absurd (omega arith), λ r. absurd (omega arith), λ r. absurd (omega arith), λ r. absurd (omega arith), λ r. inr (refl, (d, i, link)))

  pub unmarked_of : (s : ℕ) → Breaks (disk_of g disk) 3 s → Unmarked g disk s
  unmarked_of s b = (other b).0 refl

  pub used_of : (s : ℕ) → Breaks (disk_of g disk) 4 s → UsedTwice g disk s ⊎ Shared g disk s
  used_of s b = (other b).1 refl

  pub dots_of : (n : ℕ) → Breaks (disk_of g disk) 7 n → NoDots g disk n
  dots_of n b = (other b).2 refl

  pub names_of : (d : ℕ) → Breaks (disk_of g disk) 8 d → BadNames g disk d
  names_of d b = (other b).3 refl

  pub named_of : (n : ℕ) → Breaks (disk_of g disk) 9 n → BadlyNamed g disk n
  named_of n b = (other b).4 refl
