-- A new entry in its place: a free one, or the one behind the last.
use Rattle.std.proofs.Common.{◌≡◌, ℕ, ◌+◌, ◌*◌, ◌/◌, ◌<◌, ◌≤◌, false, Option, Some, List, length, sym, ap, ◌∙◌, subst, ⊎_elim, arith, lt-ltb}
use Rattle.std.specs.Prelude.{nat_lt, if◌then◌else◌}
use Rattle.std.proofs.lemmas.Bool.{cond-true, cond-false, le-ltb, cases_lt}
use Rattle.std.proofs.lemmas.Option.{same_Some}
use Rattle.os9_base.specs.declared.registers.TimePacket.{TimePacket}
use Rattle.rbf_model.specs.Fields.{directory_entry, is_used}
use Rattle.rbf_model.specs.File.{DiskFile}
use Rattle.rbf_model.specs.Volume.{DiskVolume}
use Rattle.rbf_change.specs.Calls.{cluster_size}
use Rattle.rbf_change.specs.Names.{entry_place}
use Rattle.rbf_change.specs.NewFiles.{entry_clusters}
use Rattle.rbf_change.specs.Growth.{clusters_needed}
use Rattle.rbf_access.specs.Drive.{DriveCounts, MovesCounts}
use Rattle.rbf_access.specs.Mounted.{RepresentsVolume}
use Rattle.rbf_access.specs.Reading.{IsFdOf}
use Rattle.rbf_access.proofs.Counting.{counts_most}
use Rattle.rbf_entries.specs.Entries.{IsEntryPlace, MayFill}
use Rattle.rbf_walk.proofs.Stepping.{same_content}
use Rattle.rbf_write.specs.declared.loaded.Loaded.{Loaded}
use Rattle.rbf_write.specs.Files.{IsDescriptorLoaded}
use Rattle.rbf_entries.specs.Rooms.{place_clusters}
use Rattle.rbf_entries.specs.NewEntry.{EntryWrite, MayEnter, MayAppend}
use Rattle.rbf_entries.specs.Entering.{entry_calls}
use Rattle.rbf_entries.proofs.Placing.{place_most, place_free, whole_entries, behind_dots}
use Rattle.rbf_entries.proofs.Appending.{needs_few}

three_or_four : (c : ℕ) → c ≤ 1 → 3 + c ≤ (if nat_lt 0 c then 4 else 3)
three_or_four c few = ⊎_elim
    (λ some. subst (λ n. 3 + c ≤ n) (sym (cond-true (nat_lt 0 c) 4 3 (lt-ltb 0 c some))) (omega arith))
    (λ none. subst (λ n. 3 + c ≤ n) (sym (cond-false (nat_lt 0 c) 4 3 (le-ltb 0 c none))) (omega arith))
    (cases_lt 0 c)

module _ (m0 : Option (List ℕ)) (d place : ℕ) (entry : List ℕ) (may : MayEnter m0 d place entry) (loaded : Loaded) (is_loaded : IsDescriptorLoaded m0 d loaded) where
  says : IsFdOf may.dir loaded.file
  says = is_loaded.says may.content may.dir may.on may.is

  -- whichever volume the media represents
  any : (P : DiskVolume → DiskFile → Type 0) → P may.content may.dir → (v : DiskVolume) (file : DiskFile) → RepresentsVolume m0 v → v.files d ≡ Some file → P v file
  any P here v file on is =
      let same : may.content ≡ v = same_content m0 may.content v may.on on in
      let one : may.dir ≡ file = same_Some may.dir file (sym may.is ∙ ap (λ (w : DiskVolume). w.files d) same ∙ is) in
      subst (P v) one (subst (λ x. P x may.dir) same here)

  module _ (inside : place < loaded.file.size / 32) where
    low : place < length may.dir.contents / 32
    low = let size = says.size_is in omega arith

    free : is_used (directory_entry may.dir.contents place) ≡ false
    free = place_free may.dir.contents place may.place_is low

    its_place : IsEntryPlace m0 d place
    its_place = record {
      content = may.content;
      on = may.on;
      dir = may.dir;
      is = may.is;
      directory = may.directory;
      after = behind_dots _ may.content.files may.on.vol.sound.tree d may.dir may.is may.directory place free;
      within = let there = low in omega arith;
    }

    pub may_fill : MayFill m0 d place entry
    unfolding its_place
    may_fill = record { place = its_place; free = free; new = may.new; ready = may.ready }

    pub fill_calls : (v : DiskVolume) (file : DiskFile) → RepresentsVolume m0 v → v.files d ≡ Some file
        → (f : Option ℕ) (s t : DriveCounts) → MovesCounts f 2 s t → MovesCounts f (entry_calls v file) s t
    fill_calls = any (λ v file. (f : Option ℕ) (s t : DriveCounts) → MovesCounts f 2 s t → MovesCounts f (entry_calls v file) s t) (λ f s t moved.
        let there = low in
        let at = may.place_is in
        subst (λ n. MovesCounts f n s t)
        (sym (cond-true (nat_lt (32 * entry_place may.dir.contents) (length may.dir.contents)) 2
        (if nat_lt 0 (entry_clusters (cluster_size may.content) may.dir) then 4 else 3)
        (lt-ltb (32 * entry_place may.dir.contents) (length may.dir.contents) (omega arith)))) moved)

  module _ (outside : loaded.file.size / 32 ≤ place) where
    ends_there : length may.dir.contents ≡ 32 * place
    ends_there =
        let size = says.size_is in
        let most = place_most may.dir.contents in
        let at = may.place_is in
        let exact = (whole_entries _ may.content.files may.on.vol.sound.tree d may.dir may.is may.directory).1 in
        omega arith

    pub may_append : MayAppend m0 d place entry
    may_append = record { content = may.content; on = may.on; dir = may.dir; is = may.is; directory = may.directory; end = ends_there; new = may.new; ready = may.ready; room = may.room }

    module _ (now : TimePacket) (whole : length entry ≡ 32) where
      abbrev a : EntryWrite
      a = record { directory = d; place = place; entry = entry; now = now }

      calls_here : 3 + place_clusters may.content may.dir place ≤ entry_calls may.content may.dir
      unfolding may_append
      calls_here =
          let end = ends_there in
          let at = may.place_is in
          let same : entry_clusters (cluster_size may.content) may.dir ≡ place_clusters may.content may.dir place =
          ap (λ p. clusters_needed (cluster_size may.content) may.dir.segments (32 * (p + 1))) (sym may.place_is) in
          subst (λ n. 3 + place_clusters may.content may.dir place ≤ n)
          (sym (cond-false (nat_lt (32 * entry_place may.dir.contents) (length may.dir.contents)) 2
          (if nat_lt 0 (entry_clusters (cluster_size may.content) may.dir) then 4 else 3)
          (le-ltb (32 * entry_place may.dir.contents) (length may.dir.contents) (omega arith))))
          (subst (λ c. 3 + c ≤ (if nat_lt 0 (entry_clusters (cluster_size may.content) may.dir) then 4 else 3)) same
          (three_or_four (entry_clusters (cluster_size may.content) may.dir) (subst (λ c. c ≤ 1) (sym same) (needs_few m0 a may_append whole))))

      pub append_calls : (v : DiskVolume) (file : DiskFile) → RepresentsVolume m0 v → v.files d ≡ Some file
          → (f : Option ℕ) (s t : DriveCounts) → MovesCounts f (3 + place_clusters v file place) s t
          → MovesCounts f (entry_calls v file) s t
      append_calls = any (λ v file. (f : Option ℕ) (s t : DriveCounts) → MovesCounts f (3 + place_clusters v file place) s t → MovesCounts f (entry_calls v file) s t)
          (λ f s t moved. counts_most f (3 + place_clusters may.content may.dir place) (entry_calls may.content may.dir) s t calls_here moved)
