-- A search, sector by sector.
use Rattle.std.proofs.Common.{◌≡◌, ℕ, ◌+◌, ◌-◌, ◌*◌, ◌/◌, ◌<◌, ◌≤◌, min, Bool, false, not, Option, Some, None, List, length, take, drop, refl, ap, sym, subst, ◌∙◌, arith, ⊎_elim}
use Rattle.std.specs.Prelude.{MatchOption, unwrap_or, IsSome}
use Rattle.std.specs.Int.{div_ceil}
use Rattle.std.proofs.lemmas.Bool.{cases_lt}
use Rattle.std.proofs.lemmas.Grind.{div_ceil_times}
use Rattle.os9_outer.specs.Drive.{sector_at}
use Rattle.rbf_model.specs.Fields.{directory_entry, descriptor_field, is_used}
use Rattle.rbf_model.specs.File.{DiskFile, segment_bytes}
use Rattle.rbf_model.specs.Segments.{sectors_of}
use Rattle.rbf_model.specs.Volume.{DiskVolume}
use Rattle.rbf_model.specs.Walk.{entry_has_name}
use Rattle.rbf_model.proofs.SectorBytes.{piece_of_piece, entry_in_take}
use Rattle.rbf_change.specs.Agrees.{MountedPart}
use Rattle.rbf_change.specs.Contents.{sector_count}
use Rattle.rbf_sector.specs.declared.fd.Fd.{Fd}
use Rattle.sector_cache.specs.declared.sector.Sector.{Sector}
use Rattle.rbf_access.specs.Cached.{IsCacheOf}
use Rattle.rbf_access.specs.Drive.{DriveCounts, MovesCounts}
use Rattle.rbf_access.specs.Mounted.{RepresentsVolume}
use Rattle.rbf_access.specs.Reading.{IsFdOf}
use Rattle.rbf_access.proofs.Counting.{no_calls, counts_then, counts_most}
use Rattle.rbf_access.proofs.ReadFile.{contents_are, room_for}
use Rattle.rbf_change.specs.Names.{place_of}
use Rattle.rbf_walk.specs.Search.{NonePasses, IsFirstMatch, IsNameFoundAt, IsAbsentName, sectors_to, sectors_searched}
use Rattle.rbf_walk.proofs.Places.{found_at, absent_in, position_past}

-- an entry of a sector is one of the whole
in_sector : (whole sector : List ℕ) (place r : ℕ) → sector ≡ take 256 (drop (256 * place) whole) → r < 8 → directory_entry sector r ≡ directory_entry whole (8 * place + r)
in_sector whole sector place r is low =
    let there : 256 * place + 32 * r ≡ 32 * (8 * place + r) = omega arith in
    ap (λ b. take 32 (drop (32 * r) b)) is ∙ piece_of_piece whole 256 32 place r (omega arith) ∙ ap (λ n. take 32 (drop n whole)) there

module _ (test : List ℕ → Bool) (whole sector : List ℕ) (place entries count : ℕ)
    (is : sector ≡ take 256 (drop (256 * place) whole)) (counted : count ≡ min 8 (entries - 8 * place))
    (more : 8 * place < entries) where
  passes_so : (k : ℕ) (b : Bool) → 8 * place ≤ k → k < 8 * place + 8 → test (directory_entry sector (k - 8 * place)) ≡ b → test (directory_entry whole k) ≡ b
  passes_so k b low high passes =
      let there : 8 * place + (k - 8 * place) ≡ k = omega arith in
      ap (λ j. test (directory_entry whole j)) (sym there) ∙ ap test (sym (in_sector whole sector place (k - 8 * place) is (omega arith))) ∙ passes

  none_before : (i : ℕ) → i ≤ count → NonePasses test whole (min (8 * place) entries) → NonePasses test sector i → NonePasses test whole (8 * place + i)
  none_before i few before none k low = ⊎_elim
      (λ early. before k (omega arith))
      (λ late. passes_so k false late (omega arith) (none (k - 8 * place) (omega arith)))
      (cases_lt k (8 * place))

  pub none_more : NonePasses test whole (min (8 * place) entries) → NonePasses test sector count → NonePasses test whole (min (8 * (place + 1)) entries)
  none_more before none k low = none_before count (omega arith) before none k (omega arith)

  pub first_more : (i : ℕ) (most : ℕ) → min (8 * (place + 1)) entries ≤ most → NonePasses test whole
      (min (8 * place) entries) → IsFirstMatch test sector count i → IsFirstMatch test whole most (8 * place + i)
  first_more i most high before first =
      let below : i < count = first.below in
      let there : 8 * place + i - 8 * place ≡ i = omega arith in
      record {
        below = omega arith;
        passes = passes_so (8 * place + i) _ (omega arith) (omega arith) (ap (λ j. test (directory_entry sector j)) there ∙ first.passes);
        before = none_before i (omega arith) before first.before;
      }

pub first_later : (test : List ℕ → Bool) (whole : List ℕ) (m n i : ℕ) → m ≤ n → IsFirstMatch test whole m i → IsFirstMatch test whole n i
first_later test whole m n i more first =
    let below : i < m = first.below in
    record { below = omega arith; passes = first.passes; before = first.before }

-- the first free entry of so many
abbrev pub IsFirstFree : List ℕ → ℕ → Option ℕ → Type 0
IsFirstFree bytes count free = MatchOption free (NonePasses (λ entry. not (is_used entry)) bytes count) (IsFirstMatch (λ entry. not (is_used entry)) bytes count)

-- with the entries of one sector more
pub free_more : (whole sector : List ℕ) (place entries count : ℕ) (before now : Option ℕ) → sector ≡ take 256 (drop (256 * place) whole) → count ≡ min 8 (entries - 8 * place)
    → 8 * place < entries → IsFirstFree whole (min (8 * place) entries) before → (IsSome before → now ≡ before)
    → (before ≡ None → MatchOption now (NonePasses (λ entry. not (is_used entry)) sector count) (λ at. (8 * place ≤ at) × IsFirstMatch (λ entry. not (is_used entry)) sector count (at - 8 * place)))
    → IsFirstFree whole (min (8 * (place + 1)) entries) now
free_more whole sector place entries count (Some i) now is counted more first same other =
    let P : Option ℕ → Type 0 = IsFirstFree whole (min (8 * (place + 1)) entries) in
    subst P (sym (same refl)) (first_later (λ entry. not (is_used entry)) whole (min (8 * place) entries) (min (8 * (place + 1)) entries) i (omega arith) first)
free_more whole sector place entries count None now is counted more none same other = by_now now (other refl)
  where
    by_now : (o : Option ℕ) → MatchOption o (NonePasses (λ entry. not (is_used entry)) sector count)
        (λ at. (8 * place ≤ at) × IsFirstMatch (λ entry. not (is_used entry)) sector count (at - 8 * place))
        → IsFirstFree whole (min (8 * (place + 1)) entries) o
    by_now None h = none_more (λ entry. not (is_used entry)) whole sector place entries count is counted more none h
    by_now (Some at) h =
        let low : 8 * place ≤ at = h.0 in
        let there : 8 * place + (at - 8 * place) ≡ at = omega arith in
        subst (IsFirstMatch (λ entry. not (is_used entry)) whole (min (8 * (place + 1)) entries)) there
        (first_more (λ entry. not (is_used entry)) whole sector place entries count is counted more (at - 8 * place) (min (8 * (place + 1)) entries) (omega arith) none h.1)

-- the sectors before a place have been searched
pub record IsSearchedTo (name whole : List ℕ) (entries place : ℕ) (free : Option ℕ) (media media_now : Option (List ℕ))
    (volume volume_now : MountedPart) (held : List Sector) (before now : DriveCounts) : Type 0 where
  pub absent : NonePasses (entry_has_name name) whole (min (8 * place) entries)
  pub free_is : IsFirstFree whole (min (8 * place) entries) free
  pub same_media : media_now ≡ media
  pub same_volume : volume_now ≡ volume
  pub cached : IsCacheOf media_now held
  pub moved : MovesCounts None place before now

pub none_searched : (name whole : List ℕ) (entries : ℕ) (free : Option ℕ) (media : Option (List ℕ)) (volume : MountedPart) (held : List Sector) (before : DriveCounts)
    → free ≡ None → IsCacheOf media held
    → IsSearchedTo name whole entries 0 free media media volume volume held before before
none_searched name whole entries free media volume held before none cached = record {
  absent = λ k low. absurd (omega arith);
  free_is = subst (IsFirstFree whole (min (8 * 0) entries)) (sym none) (λ k low. absurd (omega arith));
  same_media = refl;
  same_volume = refl;
  cached = cached;
  moved = no_calls before;
}

-- the entries of a file's contents are those of its sectors
module _ (media : Option (List ℕ)) (fd : Fd) (v : DiskVolume) (n : ℕ) (file : DiskFile) (on : RepresentsVolume media v) (is : v.files n ≡ Some file) (known : IsFdOf file fd) where
  whole : List ℕ
  whole = segment_bytes (sector_at media) fd.segs

  entry_same : (k : ℕ) → k < length file.contents / 32 → directory_entry (segment_bytes (sector_at media) fd.segs) k ≡ directory_entry file.contents k
  entry_same k low =
      ap (λ s. directory_entry (segment_bytes (sector_at media) s) k) known.segments_are
      ∙ sym (entry_in_take (segment_bytes (sector_at media) file.segments) (length file.contents) k (omega arith))
      ∙ ap (λ b. directory_entry b k) (sym (contents_are media v on n file is))

  entry_total : fd.size / 32 ≡ length file.contents / 32
  entry_total = ap (λ z. z / 32) known.size_is

  none_in : (test : List ℕ → Bool) (count : ℕ) → count ≤ length file.contents / 32 → NonePasses test (segment_bytes (sector_at media) fd.segs) count → NonePasses test file.contents count
  none_in test count few none k low = ap test (sym (entry_same k (omega arith))) ∙ none k low

  first_in : (test : List ℕ → Bool) (i : ℕ) → IsFirstMatch test (segment_bytes (sector_at media) fd.segs) (fd.size / 32) i → IsFirstMatch test file.contents (length file.contents / 32) i
  first_in test i first =
      let below : i < fd.size / 32 = first.below in
      record {
        below = omega (arith, entry_total);
        passes = ap test (sym (entry_same i (omega (arith, entry_total)))) ∙ first.passes;
        before = none_in test i (omega (arith, entry_total)) first.before;
      }

  pub found_on : (name sector : List ℕ) (place i lsn : ℕ) → sector ≡ take 256 (drop (256 * place) (segment_bytes (sector_at media) fd.segs)) → i < 8
      → IsFirstMatch (entry_has_name name) (segment_bytes (sector_at media) fd.segs) (fd.size / 32) (8 * place + i) → lsn ≡ descriptor_field (directory_entry sector i)
      → IsNameFoundAt file.contents name (8 * place + i) lsn
  found_on name sector place i lsn there low first names =
      let below : 8 * place + i < fd.size / 32 = first.below in
      found_at file.contents name (8 * place + i) lsn (first_in (entry_has_name name) (8 * place + i) first)
      (names ∙ ap descriptor_field (in_sector (segment_bytes (sector_at media) fd.segs) sector place i there low ∙ entry_same (8 * place + i) (omega (arith, entry_total))))

  free_in : (o : Option ℕ) → IsFirstFree (segment_bytes (sector_at media) fd.segs) (fd.size / 32) o → IsFirstFree file.contents (length file.contents / 32) o
  free_in None none =
      none_in (λ entry. not (is_used entry)) (length file.contents / 32) (omega arith)
      (subst (NonePasses (λ entry. not (is_used entry)) (segment_bytes (sector_at media) fd.segs)) entry_total none)
  free_in (Some i) first = first_in (λ entry. not (is_used entry)) i first

  pub absent_on : (name : List ℕ) (count free_at : ℕ) (free : Option ℕ) → count ≡ fd.size / 32 → NonePasses (entry_has_name name) (segment_bytes (sector_at media) fd.segs) count
      → IsFirstFree (segment_bytes (sector_at media) fd.segs) count free → free_at ≡ unwrap_or free (fd.size / 32) → IsAbsentName file.contents name free_at
  absent_on name count free_at free all none place answer =
      let total = all ∙ entry_total in
      subst (IsAbsentName file.contents name) (sym (answer ∙ ap (unwrap_or free) entry_total))
      (absent_in file.contents name free
      (none_in (entry_has_name name) (length file.contents / 32) (omega arith) (subst (NonePasses (entry_has_name name) (segment_bytes (sector_at media) fd.segs)) total none))
      (free_in free (subst (λ n. IsFirstFree (segment_bytes (sector_at media) fd.segs) n free) all place)))

  -- the next sector is none behind the one that has the name
  pub next_is_read : (name : List ℕ) (place : ℕ) → 8 * place < fd.size / 32 → NonePasses (entry_has_name name) (segment_bytes (sector_at media) fd.segs) (min (8 * place) (fd.size / 32))
      → place + 1 ≤ sectors_searched file.contents name
  next_is_read name place more none = by_place (place_of file.contents name) refl
    where
      by_place : (o : Option ℕ) → place_of file.contents name ≡ o → place + 1 ≤ sectors_to o (sector_count (length file.contents))
      by_place None is = omega (arith, known.size_is)
      by_place (Some p) there =
          let low : min (8 * place) (fd.size / 32) ≤ length file.contents / 32 = omega (arith, entry_total) in
          let late = position_past file.contents (entry_has_name name) (min (8 * place) (fd.size / 32)) p (none_in (entry_has_name name) (min (8 * place) (fd.size / 32)) low none) there in
          omega arith

  -- and where none has it all are read
  pub all_are_read : (name : List ℕ) (place free : ℕ) → place ≤ sector_count fd.size → IsAbsentName file.contents name free → place ≤ sectors_searched file.contents name
  all_are_read name place free few none =
      let all : sectors_searched file.contents name ≡ sector_count (length file.contents) = ap (λ o. sectors_to o (sector_count (length file.contents))) none.nowhere in
      let same : sector_count fd.size ≡ sector_count (length file.contents) = ap sector_count known.size_is in
      omega (arith, all, same)

  -- the sectors have room for the entries
  pub entries_fit : 32 * (fd.size / 32) ≤ 256 * length (sectors_of fd.segs)
  entries_fit =
      let room = room_for media v on n file is in
      let size = known.size_is in
      let same : length (sectors_of fd.segs) ≡ length (sectors_of file.segments) = ap (λ s. length (sectors_of s)) known.segments_are in
      omega arith

  -- so the sector of an entry is one of the file's
  pub place_low : (place : ℕ) → 8 * place < fd.size / 32 → place < length (sectors_of fd.segs)
  place_low place low = omega (arith, entries_fit)

-- the sectors that are searched are those of the entries
pub next_place : (entries place end : ℕ) → end ≡ div_ceil entries 8 → place < end → 8 * place < entries
next_place entries place end is low =
    let q = div_ceil entries 8 in
    let bounds = div_ceil_times entries 8 (omega arith) in
    let high : q * 8 < entries + 8 = bounds.1 in
    omega arith

pub all_places : (entries place end : ℕ) → end ≡ div_ceil entries 8 → end ≤ place → min (8 * place) entries ≡ entries
all_places entries place end is high =
    let q = div_ceil entries 8 in
    let bounds = div_ceil_times entries 8 (omega arith) in
    let enough : entries ≤ q * 8 = bounds.0 in
    omega arith

-- one sector more is read, of those that the size has
pub one_more_call : (f : Option ℕ) (size place : ℕ) (s t u : DriveCounts) → 8 * place < size / 32 → MovesCounts None place s t → MovesCounts f 1 t u → MovesCounts f (sector_count size) s u
one_more_call f size place s t u low one other = counts_most f (place + 1) (sector_count size) s u (omega arith) (counts_then f place 1 s t u one other)

pub read_within : (f : Option ℕ) (place most : ℕ) (s t u : DriveCounts) → MovesCounts None place s t → MovesCounts f 1 t u → place + 1 ≤ most → u.calls ≤ s.calls + most
read_within f place most s t u one other few =
    let first = one.calls_made in
    let second = other.calls_made in
    omega arith

pub all_within : (place most : ℕ) (s t : DriveCounts) → MovesCounts None place s t → place ≤ most → t.calls ≤ s.calls + most
all_within place most s t one few =
    let first = one.calls_made in
    omega arith

pub all_calls : (size place : ℕ) (s t : DriveCounts) → place ≤ sector_count size → MovesCounts None place s t → MovesCounts None (sector_count size) s t
all_calls size place s t few one = counts_most None place (sector_count size) s t few one

-- no more sectors than the size has
pub few_places : (size place end : ℕ) → end ≡ div_ceil (size / 32) 8 → place ≤ end → place ≤ sector_count size
few_places size place end is low =
    let q = div_ceil (size / 32) 8 in
    let bounds = div_ceil_times (size / 32) 8 (omega arith) in
    let high : q * 8 < size / 32 + 8 = bounds.1 in
    omega arith
