-- A read of a file whose sectors lie side by side: it is a read of their run.
use Rattle.std.proofs.Common.{◌≡◌, ℕ, ◌+◌, ◌-◌, ◌*◌, ◌/◌, ◌%◌, ◌<◌, ◌≤◌, true, Option, Some, None, List, [], length, take, drop, get_or, slice_get, slice_index, Result, Ok, Err, OnOk, refl, ap, sym, subst, ◌∙◌, arith, length-take, length-drop, ⊎_elim, le-leb}
use Rattle.std.specs.Prelude.{if◌then◌else◌}
use Rattle.std.proofs.lemmas.Bool.{cases_lt}
use Rattle.std.proofs.lemmas.List.{ext_get_or, get_or-take, get_or-drop}
use Rattle.std.proofs.lemmas.List.FromFn.{length-range_with_len}
use Rattle.std.proofs.lemmas.Option.{get_or_from_slice_get, slice_get_within}
use Rattle.os9_outer.specs.Drive.{sector_count as drive_sectors, sector_at}
use Rattle.rbf_model.specs.Fields.{segments_field}
use Rattle.rbf_model.specs.Segments.{sectors_of, has, segment_sectors}
use Rattle.rbf_model.specs.File.{segment_bytes}
use Rattle.rbf_model.proofs.Bytes.{has_place}
use Rattle.rbf_model.proofs.Segments.{range_has}
use Rattle.rbf_segs.proofs.Runs.{append_nil, slice_get-in_run}
use Rattle.rbf_change.specs.Contents.{bytes_from, sector_span}
use Rattle.rbf_sector.specs.Run.{IsRunAt}
use Rattle.rbf_sector.specs.declared.run.Run.{Run}
use Rattle.sector_cache.specs.declared.sector.Sector.{Sector}
use Rattle.sector_cache.specs.Held.{held_bytes}
use Rattle.rbf_access.specs.Cached.{SectorsAreHeld, IsCacheOf, IsHeldSector, UsesSectors}
use Rattle.rbf_access.specs.Reading.{AreOnDrive, HaveBytes, run_list, list_at}
use Rattle.rbf_access.proofs.ReadPieces.{place_on, sector_is, span_is, whole_length}

-- the sectors of a run
pub run_sectors : (run : Run) → sectors_of (run_list run) ≡ segment_sectors (run.lsn, run.count)
run_sectors run = append_nil (segment_sectors (run.lsn, run.count))

pub run_length : (run : Run) → length (sectors_of (run_list run)) ≡ run.count
run_length run = ap length (run_sectors run) ∙ length-range_with_len run.lsn run.count

pub run_place : (run : Run) (place : ℕ) → place < run.count → slice_get (sectors_of (run_list run)) place ≡ Some (run.lsn + place)
run_place run place low = slice_get-in_run run.lsn run.count place [] low

-- the number of a sector of a drive has 32 bits
sectors_fit : (media : Option (List ℕ)) → drive_sectors media ≤ 4294967295
sectors_fit None = omega arith
sectors_fit (Some image) = omega arith

pub run_fits : (media : Option (List ℕ)) (run : Run) (place : ℕ) → AreOnDrive media (sectors_of (run_list run)) → place < run.count → run.lsn + place < 4294967296
run_fits media run place on_drive low =
    let on = place_on media (run_list run) on_drive place (run.lsn + place) media (run_place run place low) (omega (arith, run_length run)) refl in
    omega (arith, sectors_fit media)

-- a byte of the sectors of a list
byte_of : (media : Option (List ℕ)) (segments : List (ℕ × ℕ)) → AreOnDrive media (sectors_of segments) → (k : ℕ) → k < 256 * length (sectors_of segments)
    → get_or (segment_bytes (sector_at media) segments) k 0 ≡ get_or (sector_at media (get_or (sectors_of segments) (k / 256) 0)) (k % 256) 0
byte_of media segments on_drive k low =
    let whole = segment_bytes (sector_at media) segments in
    let there : 256 * (k / 256) + k % 256 ≡ k = omega arith in
    sym (ap (λ b. get_or b (k % 256) 0) (sector_is media segments on_drive (k / 256) (omega arith))
    ∙ get_or-take 256 (drop (256 * (k / 256)) whole) (k % 256) 0 (omega arith) ∙ get_or-drop (256 * (k / 256)) whole (k % 256) 0
    ∙ ap (λ n. get_or whole n 0) there)

pub on_ok : {A E : Type 0} {P Q : Type 0} (r : Result A E) → (P → Q) → OnOk r P → OnOk r Q
on_ok (Ok a) f is = f is
on_ok (Err e) f is = tt

no_span : (at n : ℕ) → n ≡ 0 → sector_span at (at + n) ≡ 0
no_span at n none = ap (λ t. if t then 0 else ((at + n + 255) / 256 - at / 256)) (le-leb (at + n) at (omega arith))

-- what a cached descriptor says is so on the media
module _ (media : Option (List ℕ)) (held : List Sector) (fd : ℕ) (bytes : List ℕ) (cached : IsCacheOf media held) (here : held_bytes held 0 fd ≡ Some bytes) where
  pub listed_at : (segs : List (ℕ × ℕ)) → segs ≡ segments_field bytes → segs ≡ list_at media fd
  listed_at segs read = read ∙ ap segments_field (cached.sectors fd bytes here)

  pub run_found : (place : ℕ) (run : Run) → IsRunAt (segments_field bytes) place run → IsRunAt (list_at media fd) place run
  run_found place run found = subst (λ b. IsRunAt (segments_field b) place run) (cached.sectors fd bytes here) found

-- the same list is used as its equal
pub used_as : {A Fault : Type 0} (segs segments : List (ℕ × ℕ)) (from count : ℕ) (result : Result A Fault) (old news : List Sector) (calls now : ℕ) → segs ≡ segments
    → UsesSectors segs from count result old news calls now → UsesSectors segments from count result old news calls now
used_as segs segments from count result old news calls now same used =
    subst (λ (list : List (ℕ × ℕ)). UsesSectors list from count result old news calls now) same used

-- as many sectors have a byte of some in the run as in the file
pub run_span : (at n : ℕ) → sector_span (at % 256) (at % 256 + n) ≡ sector_span at (at + n)
run_span at n = ⊎_elim
    (λ some. span_is (at % 256) n some ∙ omega arith ∙ sym (span_is at n some))
    (λ none. no_span (at % 256) n (omega arith) ∙ sym (no_span at n (omega arith)))
    (cases_lt 0 n)

span_few : (at n count : ℕ) → at % 256 + n ≤ 256 * count → sector_span at (at + n) ≤ count
span_few at n count within = ⊎_elim
    (λ some. let is = span_is at n some in omega arith)
    (λ none. let is = no_span at n (omega arith) in omega arith)
    (cases_lt 0 n)

module _ (segments : List (ℕ × ℕ)) (at n : ℕ) (run : Run) (is : IsRunAt segments (at / 256) run) (within : at % 256 + n ≤ 256 * run.count) where
  index_is : (i : ℕ) → i < run.count → slice_index (sectors_of segments) (at / 256 + i) ≡ slice_index (sectors_of (run_list run)) i
  index_is i low =
      get_or_from_slice_get (sectors_of segments) (at / 256 + i) (run.lsn + i) 0 (is.sectors_are i low)
      ∙ sym (get_or_from_slice_get (sectors_of (run_list run)) i (run.lsn + i) 0 (run_place run i low))

  -- all of its sectors are among those of the file
  all_within : at / 256 + run.count ≤ length (sectors_of segments)
  all_within =
      let some = is.some in
      let last = slice_get_within (sectors_of segments) (at / 256 + (run.count - 1)) (run.lsn + (run.count - 1)) (is.sectors_are (run.count - 1) (omega arith)) in
      omega arith

  run_on : (media : Option (List ℕ)) → AreOnDrive media (sectors_of segments) → AreOnDrive media (sectors_of (run_list run))
  run_on media on_drive s there =
      let between = range_has run.lsn run.count s (subst (λ xs. has xs s ≡ true) (run_sectors run) there) in
      let low = between.0 in
      let high = between.1 in
      let i = s - run.lsn in
      let place : get_or (sectors_of segments) (at / 256 + i) 0 ≡ s =
      get_or_from_slice_get (sectors_of segments) (at / 256 + i) (run.lsn + i) 0 (is.sectors_are i (omega arith)) ∙ omega arith in
      on_drive s (subst (λ m. has (sectors_of segments) m ≡ true) place (has_place (sectors_of segments) (at / 256 + i) (omega (arith, all_within))))

  pub run_has : (media : Option (List ℕ)) → HaveBytes media segments at n → HaveBytes media (run_list run) (at % 256) n
  run_has media have =
      let fits = have.fits in
      let many = run_length run in
      record {
        on_drive = run_on media have.on_drive;
        within = omega arith;
        fits = omega arith;
      }

  pub run_bytes : (media : Option (List ℕ)) → AreOnDrive media (sectors_of segments)
      → bytes_from (segment_bytes (sector_at media) (run_list run)) (at % 256) n ≡ bytes_from (segment_bytes (sector_at media) segments) at n
  run_bytes media on_drive =
      let few = all_within in
      let many = run_length run in
      let whole = segment_bytes (sector_at media) segments in
      let part = segment_bytes (sector_at media) (run_list run) in
      let whole_long = whole_length media segments on_drive in
      let part_long = whole_length media (run_list run) (run_on media on_drive) in
      let all_of_whole : length (take n (drop at whole)) ≡ n = omega (arith, length-take n (drop at whole), length-drop at whole) in
      let all_of_part : length (take n (drop (at % 256) part)) ≡ n = omega (arith, length-take n (drop (at % 256) part), length-drop (at % 256) part) in
      ext_get_or 0 (take n (drop (at % 256) part)) (take n (drop at whole)) (all_of_part ∙ sym all_of_whole) (λ k low.
      let under : k < n = omega arith in
      let sector : (at + k) / 256 ≡ at / 256 + (at % 256 + k) / 256 = omega arith in
      let byte : (at + k) % 256 ≡ (at % 256 + k) % 256 = omega arith in
      get_or-take n (drop (at % 256) part) k 0 under ∙ get_or-drop (at % 256) part k 0
      ∙ byte_of media (run_list run) (run_on media on_drive) (at % 256 + k) (omega arith)
      ∙ ap (λ s. get_or (sector_at media s) ((at % 256 + k) % 256) 0) (sym (index_is ((at % 256 + k) / 256) (omega arith)))
      ∙ ap (λ p. get_or (sector_at media (get_or (sectors_of segments) p 0)) ((at % 256 + k) % 256) 0) (sym sector)
      ∙ ap (λ b. get_or (sector_at media (get_or (sectors_of segments) ((at + k) / 256) 0)) b 0) (sym byte)
      ∙ sym (byte_of media segments on_drive (at + k) (omega arith))
      ∙ sym (get_or-drop at whole k 0) ∙ sym (get_or-take n (drop at whole) k 0 under))

  held_in_run : (held : List Sector) (count : ℕ) → count ≤ run.count → SectorsAreHeld held segments (at / 256) (at / 256 + count) → SectorsAreHeld held (run_list run) 0 (0 + count)
  held_in_run held count few all i low high = subst (IsHeldSector held) (index_is i (omega arith)) (all (at / 256 + i) (omega arith) (omega arith))

  held_in_file : (held : List Sector) (count : ℕ) → count ≤ run.count → SectorsAreHeld held (run_list run) 0 (0 + count) → SectorsAreHeld held segments (at / 256) (at / 256 + count)
  held_in_file held count few all place low high =
      let i = place - at / 256 in
      let there : at / 256 + i ≡ place = omega arith in
      subst (λ p. IsHeldSector held (slice_index (sectors_of segments) p)) there (subst (IsHeldSector held) (sym (index_is i (omega arith))) (all i (omega arith) (omega arith)))

  -- the sectors of the run are used as those of the file
  pub run_used : {A Fault : Type 0} (result : Result A Fault) (old news : List Sector) (calls now : ℕ)
      → UsesSectors (run_list run) (at % 256 / 256) (sector_span (at % 256) (at % 256 + n)) result old news calls now
      → UsesSectors segments (at / 256) (sector_span at (at + n)) result old news calls now
  run_used result old news calls now used =
      let few = span_few at n run.count within in
      let begin : at % 256 / 256 ≡ 0 = omega arith in
      let from_first = subst (λ from. UsesSectors (run_list run) from (sector_span at (at + n)) result old news calls now) begin
      (subst (λ span. UsesSectors (run_list run) (at % 256 / 256) span result old news calls now) (run_span at n) used) in
      record {
        hits = λ all. from_first.hits (held_in_run old (sector_span at (at + n)) few all);
        held = on_ok result
            (λ stay. record {
              first = λ room. held_in_file (take (sector_span at (at + n)) news) (sector_span at (at + n)) few (stay.first room);
              others = stay.others;
            })
            from_first.held;
      }
