-- A new file or directory finds its clusters and the place of its entry, where so many are free.
use Rattle.std.proofs.Common.{◌≡◌, ◌≢◌, ◌⊎◌, ℕ, ◌+◌, ◌-◌, ◌*◌, ◌/◌, ◌%◌, ◌<◌, ◌≤◌, suc, ◌==◌, not, nat_lt, Bool, true, false, Option, Some, None, List, [], ◌∷◌, ◌++◌, length, replicate, refl, sym, ap, ◌∙◌, subst, inl, inr, arith, eq-eqb, eqb-true, length-append, lt-ltb}
use Rattle.std.specs.Prelude.{filter, if◌then◌else◌, position, unwrap_or, ◌&&◌}
use Rattle.std.specs.List.{range_with_len}
use Rattle.std.proofs.Math.Nat.{mul-div_cancel}
use Rattle.std.proofs.lemmas.Bool.{and_from, both_ways, cases_eq, false_from_ne_true, false≢true, leb-true, or_cases, or_left, or_right}
use Rattle.std.proofs.lemmas.List.{length-replicate}
use Rattle.std.proofs.lemmas.List.Elements.{filter_agree}
use Rattle.std.proofs.lemmas.List.FromFn.{length-map-range_with_len, length-range_with_len}
use Rattle.std.proofs.lemmas.List.Quantifiers.{position-Some}
use Rattle.os9_base.specs.Name.{padded_name, marked_name}
use Rattle.rbf_model.specs.Fields.{directory_entry, is_used}
use Rattle.rbf_model.specs.File.{DiskFile}
use Rattle.rbf_model.specs.Segments.{appended_segments, has, sectors_of}
use Rattle.rbf_model.specs.Space.{cluster_count, has_cluster, own_sectors}
use Rattle.rbf_model.specs.Volume.{DiskVolume}
use Rattle.rbf_model.specs.Walk.{directory_entries}
use Rattle.rbf_model.proofs.Growth.{cluster_of_range}
use Rattle.rbf_model.proofs.Lists.{any_witness}
use Rattle.rbf_model.proofs.Owners.{clusters_of_own, owns_own}
use Rattle.rbf_model.proofs.Segments.{has_cases, has_range, range_has}
use Rattle.rbf_model.proofs.Space.{cluster_from_owns}
use Rattle.rbf_segs.proofs.Runs.{append_nil, sectors_of-appended}
use Rattle.rbf_change.specs.Calls.{cluster_size, day_of, free_total, is_free_in, minute_of, shape, written_file}
use Rattle.rbf_change.specs.Contents.{sector_count, written}
use Rattle.rbf_change.specs.Growth.{IsChoice, clusters_needed, free_beside, uses, with_clusters}
use Rattle.rbf_change.specs.Names.{entry_place, new_entry}
use Rattle.rbf_change.specs.NewFiles.{IsFileEntered, IsNewFile, Plan, entry_clusters, file_clusters, first_segments, free_but, free_without}
use Rattle.file_laws.proofs.Volumes.{fresh, unused}
use Rattle.run_laws.specs.Mounted.{HasNumbers}
use Rattle.run_laws.proofs.Gaining.{drop-one, some-free}
use Rattle.run_laws.specs.InOrder.{IsDescribable, IsInOrder}
use Rattle.run_laws.proofs.Counts.{fewer}
use Rattle.run_laws.proofs.Sizes.{few-needed, length-written, sure-choice}

-- ---- the sectors of a new file

-- those of its first segment are in the cluster of its descriptor
first-in : (k n c s : ℕ) → 0 < k → n ≡ c * k → has (sectors_of (first_segments k n)) s ≡ true → s / k ≡ c
first-in k n c s some is there = by_test (k == 1) there
  where
    by_test : (t : Bool) → has (sectors_of (if t then [] else (n + 1, k - 1) ∷ [])) s ≡ true → s / k ≡ c
    by_test true there = absurd (false≢true there)
    by_test false there =
        let within = range_has (n + 1) (k - 1) s (subst (λ (xs : List ℕ). has xs s ≡ true) (append_nil (range_with_len (n + 1) (k - 1))) there) in
        cluster_of_range k c s some (has_range (c * k) k s (omega (arith, within.0, is)) (omega (arith, within.1, is, some)))

first-uses : (k n c d : ℕ) → 0 < k → n ≡ c * k → uses k (first_segments k n) d ≡ true → d ≡ c
first-uses k n c d some is used =
    let w = any_witness (λ s. s / k == d) (sectors_of (first_segments k n)) used in
    sym (eqb-true (w.0 / k) d w.2) ∙ first-in k n c w.0 some is w.1

first-few : (k n : ℕ) → length (first_segments k n) ≤ 1
first-few k n = by_test (k == 1)
  where
    by_test : (t : Bool) → length {A = ℕ × ℕ} (if t then [] else (n + 1, k - 1) ∷ []) ≤ 1
    by_test true = omega arith
    by_test false = omega arith

-- as many for each number
first-long : (k n m : ℕ) → length (sectors_of (first_segments k n)) ≡ length (sectors_of (first_segments k m))
first-long k n m = by_test (k == 1)
  where
    one : (a : ℕ) → length (range_with_len (a + 1) (k - 1) ++ []) ≡ k - 1
    one a = ap length (append_nil (range_with_len (a + 1) (k - 1))) ∙ length-range_with_len (a + 1) (k - 1)

    by_test : (t : Bool) → length (sectors_of (if t then [] else (n + 1, k - 1) ∷ [])) ≡ length (sectors_of (if t then [] else (m + 1, k - 1) ∷ []))
    by_test true = refl
    by_test false = one n ∙ sym (one m)

-- the others are in the clusters that it gained
in-with : (k : ℕ) (segments : List (ℕ × ℕ)) (gained : List ℕ) (s : ℕ) → 0 < k → has (sectors_of (with_clusters k segments gained)) s ≡ true
    → (has (sectors_of segments) s ≡ true) ⊎ (has gained (s / k) ≡ true)
in-with k segments [] s some there = inl there
in-with k segments (x ∷ xs) s some there = by_rest (in-with k (appended_segments segments (x * k) k) xs s some there)
  where
    by_part : (has (sectors_of segments) s ≡ true) ⊎ (has (range_with_len (x * k) k) s ≡ true) → (has (sectors_of segments) s ≡ true) ⊎ (has (x ∷ xs) (s / k) ≡ true)
    by_part (inl old) = inl old
    by_part (inr new) =
        inr (or_left (x == s / k) (has xs (s / k)) (eq-eqb x (s / k) (sym (cluster_of_range k x s some new))))

    by_rest : (has (sectors_of (appended_segments segments (x * k) k)) s ≡ true) ⊎ (has xs (s / k) ≡ true) → (has (sectors_of segments) s ≡ true) ⊎ (has (x ∷ xs) (s / k) ≡ true)
    by_rest (inl front) =
        by_part (has_cases (sectors_of segments) (range_with_len (x * k) k) s (subst (λ (ys : List ℕ). has ys s ≡ true) (sectors_of-appended segments (x * k) k) front))
    by_rest (inr later) = inr (or_right (x == s / k) (has xs (s / k)) later)

-- ---- an entry

-- its place is that of an entry, or the one behind the last
place-most : (contents : List ℕ) → entry_place contents ≤ length contents / 32
place-most contents = by_place (position (λ entry. not (is_used entry)) (directory_entries contents)) refl
  where
    by_place : (at : Option ℕ) → position (λ entry. not (is_used entry)) (directory_entries contents) ≡ at → unwrap_or at (length contents / 32) ≤ length contents / 32
    by_place None is = omega arith
    by_place (Some i) is =
        let below = (position-Some (λ entry. not (is_used entry)) (directory_entries contents) i [] is).0 in
        let many : length (directory_entries contents) ≡ length contents / 32 = length-map-range_with_len (directory_entry contents) 0 (length contents / 32) in
        omega (arith, below, many)

length-marked : (name : List ℕ) → length (marked_name name) ≡ length name
length-marked [] = refl
length-marked (c ∷ []) = refl
length-marked (c ∷ next ∷ name) = ap suc (length-marked (next ∷ name))

pub length-entry : (name : List ℕ) (n : ℕ) → length name ≤ 29 → length (new_entry name n) ≡ 32
length-entry name n short =
    let marked = length-marked name in
    let zeros : length (replicate (29 - length (marked_name name)) (let none : ℕ = 0 in none)) ≡ 29 - length (marked_name name) = length-replicate (29 - length (marked_name name)) 0 in
    let padded : length (padded_name (marked_name name)) ≡ 29 = length-append (marked_name name) (replicate (29 - length (marked_name name)) 0) ∙ omega (arith, marked, zeros, short) in
    length-append (padded_name (marked_name name)) (n / 65536 ∷ n / 256 % 256 ∷ n % 256 ∷ []) ∙ omega (arith, padded)

-- ---- on a volume

module _ (v : DiskVolume) (order : IsInOrder v) (numbers : HasNumbers v) (some : 0 < cluster_size v) where
  abbrev k : ℕ
  k = cluster_size v

  abbrev free : ℕ → Bool
  free = is_free_in v

  -- what has a file is not free
  used-not_free : (n : ℕ) (file : DiskFile) (c : ℕ) → v.files n ≡ Some file → uses k file.segments c ≡ true → free c ≡ false
  used-not_free n file c is used =
      let w = any_witness (λ s. s / k == c) (sectors_of file.segments) used in
      let owned : has_cluster (shape v) n file (w.0 / k) ≡ true =
      cluster_from_owns (shape v) n file w.0 (owns_own (shape v) n file w.0 (or_right (n == w.0) (has (sectors_of file.segments) w.0) w.1)) in
      let here : has_cluster (shape v) n file c ≡ true = subst (λ (c : ℕ). has_cluster (shape v) n file c ≡ true) (eqb-true (w.0 / k) c w.2) owned in
      false_from_ne_true (free c) (λ is_free. both_ways (has_cluster (shape v) n file c) (unused (shape v) v c n file is_free (numbers n file is) is) here)

  module _ (plan : ℕ → Plan) (size : ℕ) (long : (n : ℕ) → length (plan n).contents ≡ size) (small : size ≤ 256) where
    -- ---- the new file

    -- a new file, and how many clusters are free beside it
    record NewOne : Type 0 where
      pub n : ℕ
      pub file : DiskFile
      pub made : IsNewFile k free n (plan n) file
      pub left : free_total v ≤ length (filter (free_without (shape v) free n file) (range_with_len 0 (cluster_count (shape v)))) + file_clusters k size

    module _ (c : ℕ) (is_free : free c ≡ true) (enough : file_clusters k size ≤ free_total v) where
      abbrev n : ℕ
      n = c * k

      abbrev first : List (ℕ × ℕ)
      first = first_segments k n

      at : n / k ≡ c
      at = mul-div_cancel c some

      needed-same : clusters_needed k first (length (plan n).contents) ≡ clusters_needed k (first_segments k 0) size
      needed-same =
          ap (λ (s : ℕ). clusters_needed k first s) (long n) ∙ ap (λ (had : ℕ). (sector_count size - had + (k - 1)) / k) (first-long k n 0)

      few : clusters_needed k first (length (plan n).contents) ≤ 1
      few =
          let one : sector_count size - length (sectors_of (first_segments k 0)) ≤ 1 = omega (arith, small) in
          let most = few-needed k (sector_count size - length (sectors_of (first_segments k 0))) some one in
          omega (arith, needed-same, most)

      -- beside it all others are free that were
      beside : (d : ℕ) → d ≢ c → free_beside k (free_but k free n) first d ≡ free d
      beside d differ =
          let but : (d == n / k) ≡ false = false_from_ne_true (d == n / k) (λ same. differ (eqb-true d (n / k) same ∙ at)) in
          let used : uses k first d ≡ false = false_from_ne_true (uses k first d) (λ there. differ (first-uses k n c d some refl there)) in
          ap (λ (t : Bool). (free d && not t) && not (uses k first d)) but ∙ ap (λ (t : Bool). (free d && not false) && not t) used ∙ as-free (free d)
        where
          as-free : (t : Bool) → ((t && not false) && not false) ≡ t
          as-free true = refl
          as-free false = refl

      chosen : (gained : List ℕ) × IsChoice k (free_but k free n) first (length (plan n).contents) gained
      chosen =
          let short = first-few k n in
          let low = drop-one free (free_beside k (free_but k free n) first) c beside 0 (cluster_count (shape v)) in
          sure-choice k (free_but k free n) first (length (plan n).contents) (cluster_count (shape v)) some few (omega (arith, short)) (λ one. omega (arith, short))
          (omega (arith, low, needed-same, enough))

      module _ (gained : List ℕ) (choice : IsChoice k (free_but k free n) first (length (plan n).contents) gained) where
        abbrev file : DiskFile
        file = record {
          attributes = (plan n).attributes;
          owner = (plan n).owner;
          modified = minute_of (plan n).made;
          links = 1;
          created = day_of (plan n).made;
          segments = with_clusters k first gained;
          contents = (plan n).contents;
        }

        made : IsNewFile k free n (plan n) file
        made = record { cluster = c; first = refl; taken = is_free; gained = gained; choice = choice; is = refl }

        not-root : n ≢ (shape v).root
        not-root same = fresh v n (plan n) file some made order.root (ap v.files same ∙ order.there)

        in-first : (s : ℕ) → s / k ≡ c → has (c ∷ gained) (s / k) ≡ true
        in-first s same = or_left (c == s / k) (has gained (s / k)) (eq-eqb c (s / k) (sym same))

        by-segment : (s : ℕ) → (has (sectors_of first) s ≡ true) ⊎ (has gained (s / k) ≡ true) → has (c ∷ gained) (s / k) ≡ true
        by-segment s (inl front) = in-first s (first-in k n c s some refl front)
        by-segment s (inr later) = or_right (c == s / k) (has gained (s / k)) later

        by-part : (s : ℕ) → ((n == s) ≡ true) ⊎ (has (sectors_of file.segments) s ≡ true) → has (c ∷ gained) (s / k) ≡ true
        by-part s (inl same) = in-first s (ap (λ (m : ℕ). m / k) (sym (eqb-true n s same)) ∙ at)
        by-part s (inr later) = by-segment s (in-with k first gained s some later)

        -- its sectors are in the clusters that it took
        own : (s : ℕ) → has (own_sectors n file) s ≡ true → has (c ∷ gained) (s / k) ≡ true
        own s there = by-part s (or_cases (n == s) (has (sectors_of file.segments) s) there)

        left : free_total v ≤ length (filter (free_without (shape v) free n file) (range_with_len 0 (cluster_count (shape v)))) + file_clusters k size
        left =
            let low = fewer free (has_cluster (shape v) n file) (c ∷ gained) (clusters_of_own (shape v) n file (λ d. has (c ∷ gained) d ≡ true) not-root own) (cluster_count (shape v)) in
            omega (arith, low, choice.enough, needed-same)

      new-one : NewOne
      new-one =
          let (gained, choice) = chosen in
          record { n = n; file = file gained choice; made = made gained choice; left = left gained choice }

    -- ---- the entry

    module _ (d : ℕ) (dir : DiskFile) (is : v.files d ≡ Some dir) (name : List ℕ) (short : length name ≤ 29) (enough : file_clusters k size + entry_clusters k dir ≤ free_total v)
        (fits : (nat_lt 0 (entry_clusters k dir) && (length dir.segments == 48)) ≡ false) where
      abbrev place : ℕ
      place = entry_place dir.contents

      held : IsDescribable dir
      held = order.files d dir is

      room : length dir.contents ≤ 256 * length (sectors_of dir.segments)
      room = leb-true (length dir.contents) (256 * length (sectors_of dir.segments)) held.room

      place-low : 32 * place ≤ length dir.contents
      place-low = let most = place-most dir.contents in omega (arith, most)

      entry-few : entry_clusters k dir ≤ 1
      entry-few =
          let one : sector_count (32 * (place + 1)) - length (sectors_of dir.segments) ≤ 1 = omega (arith, place-low, room) in
          few-needed k (sector_count (32 * (place + 1)) - length (sectors_of dir.segments)) some one

      not-full : 1 ≤ entry_clusters k dir → length dir.segments < 48
      not-full one =
          elim (cases_eq (length dir.segments) 48) [
            | inl same ↦
                absurd (both_ways (nat_lt 0 (entry_clusters k dir) && (length dir.segments == 48)) fits
                (and_from (nat_lt 0 (entry_clusters k dir)) (length dir.segments == 48) (lt-ltb 0 (entry_clusters k dir) (omega (arith, one))) (eq-eqb (length dir.segments) 48 same)))
            | inr differ ↦ omega (arith, held.few, differ)
          ]

      -- to have the entry written is to have its place
      needed-entry : (n : ℕ) → clusters_needed k dir.segments (length (written dir.contents (32 * place) (new_entry name n))) ≡ entry_clusters k dir
      needed-entry n =
          let whole = length-entry name n short in
          let size_is = length-written dir.contents (new_entry name n) (32 * place) (omega (arith, whole)) in
          let had : ℕ = length (sectors_of dir.segments) in
          let missing : sector_count (length (written dir.contents (32 * place) (new_entry name n))) - had ≡ sector_count (32 * (place + 1)) - had = omega (arith, size_is, whole, room) in
          ap (λ (t : ℕ). (t + (k - 1)) / k) missing

      module _ (it : NewOne) where
        abbrev then-free : ℕ → Bool
        then-free = free_without (shape v) free it.n it.file

        abbrev entry-size : ℕ
        entry-size = length (written dir.contents (32 * place) (new_entry name it.n))

        same : clusters_needed k dir.segments entry-size ≡ entry_clusters k dir
        same = needed-entry it.n

        -- the clusters of the directory are not free
        beside-entry : (c : ℕ) → free_beside k then-free dir.segments c ≡ then-free c
        beside-entry c =
            by_free (then-free c) (uses k dir.segments c) (λ used. ap (λ (t : Bool). t && not (has_cluster (shape v) it.n it.file c)) (used-not_free d dir c is used))
          where
            by_free : (t u : Bool) → (u ≡ true → t ≡ false) → (t && not u) ≡ t
            by_free true true none = absurd (false≢true (sym (none refl)))
            by_free true false none = refl
            by_free false true none = refl
            by_free false false none = refl

        chosen-entry : (gained : List ℕ) × IsChoice k then-free dir.segments entry-size gained
        chosen-entry =
            let all = range_with_len 0 (cluster_count (shape v)) in
            let enough_then : clusters_needed k dir.segments entry-size ≤ length (filter then-free all) = omega (arith, same, enough, it.left) in
            sure-choice k then-free dir.segments entry-size (cluster_count (shape v)) some (omega (arith, same, entry-few)) held.few (λ one. not-full (omega (arith, one, same)))
            (subst (λ (xs : List ℕ). clusters_needed k dir.segments entry-size ≤ length xs) (sym (filter_agree (free_beside k then-free dir.segments) then-free beside-entry all)) enough_then)

        entered : (n : ℕ) × IsFileEntered v d n name (plan n)
        entered =
            let (gained, choice) = chosen-entry in (
              it.n,
              record {
                old = dir;
                new = written_file dir (32 * place) (new_entry name it.n) (plan it.n).made (with_clusters k dir.segments gained);
                file = it.file;
                is = is;
                made = it.made;
                entry = record { gained = gained; choice = choice; file = refl };
              },
            )

      pub some-entered : (n : ℕ) × IsFileEntered v d n name (plan n)
      some-entered =
          let there = some-free free 0 (cluster_count (shape v)) (omega (arith, enough)) in
          entered (new-one there.0 there.1 (omega (arith, enough)))
