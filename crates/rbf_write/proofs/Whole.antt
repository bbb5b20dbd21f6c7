-- A whole write: what it answers is what the laying of its bytes answers.
use Rattle.std.proofs.Common.{◌≡◌, ℕ, ◌+◌, ◌-◌, ◌<◌, ◌≤◌, Bool, true, false, not, ◌==◌, ◌&&◌, Option, Some, None, IsSome, Result, Ok, Err, List, [], ◌∷◌, length, refl, sym, ap, ◌∙◌, subst, inl, inr, ⊎_elim, arith, eq-eqb, eqb-true}
use Rattle.std.specs.Prelude.{if◌then◌else◌}
use Rattle.std.proofs.lemmas.Bool.{both_ways, cond-true, cond-false, false_from_ne_true}
use Rattle.os9_base.specs.declared.registers.TimePacket.{TimePacket}
use Rattle.rbf_model.specs.Fields.{segments_field}
use Rattle.rbf_model.specs.Geometry.{Geometry, image_geometry, sector}
use Rattle.rbf_model.specs.Segments.{sectors_of}
use Rattle.rbf_model.specs.File.{DiskFile}
use Rattle.rbf_model.specs.Volume.{DiskVolume}
use Rattle.rbf_model.specs.Writes.{put_at}
use Rattle.rbf_model.proofs.Owners.{cluster_positive}
use Rattle.rbf_change.specs.Calls.{cluster_size, is_free_in, free_total, replaced, minute_of}
use Rattle.rbf_change.specs.Contents.{extended, written, sector_count}
use Rattle.rbf_change.specs.Growth.{with_clusters, clusters_needed, IsChoice, IsOneTooMany}
use Rattle.rbf_change.proofs.LawfulWrites.{shape-image}
use Rattle.rbf_access.specs.declared.faults.FileFault.{FileFault}
use Rattle.rbf_access.specs.declared.faults.FileFault.TheVariants.{Device, NoCluster, TooManyRuns}
use Rattle.rbf_access.specs.Drive.{DriveCounts, MovesCounts}
use Rattle.rbf_access.specs.Faults.{file_fault}
use Rattle.rbf_access.specs.Mounted.{RepresentsVolume}
use Rattle.rbf_access.proofs.Counting.{counts_then}
use Rattle.rbf_access.proofs.ReadFile.{room_for}
use Rattle.rbf_alloc.specs.Grown.{ChangesMap}
use Rattle.rbf_write.proofs.FilledFile.{put_same_file}
use Rattle.rbf_write.specs.Laying.{Laying, laying_end, laid_contents, laid_file, laying_needs, IsTidyChange, AnswersLaying}
use Rattle.rbf_write.specs.Outcomes.{contents_written, write_needs, AreBytesWritten, AnswersWrite, unchanged, stopped, AreMarked, laying_calls, write_calls}
use Rattle.rbf_write.proofs.Laid.{tidy_of, same_end, no_clusters}
use Rattle.rbf_write.proofs.Steps.{few_segments}

-- an image that stays
same_map : (image : List ℕ) → ChangesMap image image
same_map image = record { others = λ s out. refl; end = λ c past. and_true _ }
  where
    and_true : (t : Bool) → t ≡ (t && not false)
    and_true true = refl
    and_true false = refl

pub nothing_changed : (before after : Option (List ℕ)) (v : DiskVolume) → RepresentsVolume before v → after ≡ before
    → (n : ℕ) (segments : List (ℕ × ℕ)) (end : ℕ) → IsTidyChange before after n segments end
nothing_changed before after v on same n segments end =
    tidy_of before after on.image on.image on.image n segments end on.is (same ∙ on.is) (same_map on.image)
    (λ s low. refl) (λ s map differ out. refl) (λ p high. refl) (same_end (sector on.image n) (sector on.image n) refl)

pub laid_is_written : (contents : List ℕ) (at : ℕ) (bytes : List ℕ) → 1 ≤ length bytes → put_at (extended contents at) at bytes ≡ written contents at bytes
laid_is_written contents at [] some = absurd (omega arith)
laid_is_written contents at (byte ∷ bytes) some = refl

module _ (before : Option (List ℕ)) (v : DiskVolume) (old : DiskFile) (on : RepresentsVolume before v) (write : Laying) (is : v.files write.number ≡ Some old) where
  abbrev k : ℕ
  k = cluster_size v

  positive : 1 ≤ k
  positive = subst (λ (g : Geometry). 1 ≤ g.cluster) (sym (shape-image on.image v on.vol)) (cluster_positive (image_geometry on.image).cluster on.vol.sound.shape.header.clusters)

  -- no bytes are written
  pub nothing_written : write.bytes ≡ [] → AreBytesWritten v old write before before
  nothing_written empty =
      let contents : contents_written old write ≡ old.contents = ap (written old.contents write.at) empty in
      let size : length (contents_written old write) ≡ length old.contents = ap length contents in
      let room = room_for before v on write.number old is in
      let missing : sector_count (length old.contents) - length (sectors_of old.segments) ≡ 0 = omega arith in
      let none_needed : write_needs v old write ≡ 0 =
      ap (clusters_needed k old.segments) size ∙ no_clusters k
      (sector_count (length old.contents) - length (sectors_of old.segments)) positive missing in
      let dated : old.modified ≡ (if length (contents_written old write) == length old.contents then old.modified else minute_of write.now) =
      sym (cond-true (length (contents_written old write) == length old.contents) old.modified (minute_of write.now) (eq-eqb (length (contents_written old write)) (length old.contents) size)) in
      let list : old.segments ≡ segments_field (sector on.image write.number) = ap (λ (f : DiskFile). f.segments) (on.vol.sound.shows.shown write.number old is) in
      record {
        enough = omega arith;
        volume = v;
        on = on;
        writes = record {
          old = old;
          new = old;
          is = is;
          changed = record {
            gained = [];
            choice = record { enough = sym none_needed; gained = tt; fits = subst (λ xs. length xs ≤ 48) (sym list) (few_segments (sector on.image write.number)) };
            file = ap (λ c. record old { contents = c }) (sym contents) ∙ ap (λ m. record old { contents = contents_written old write; modified = m }) dated;
          };
          volume = ap (λ fs. record { ident = v.ident; files = fs; lost = v.lost; rest = v.rest }) (sym (put_same_file v.files write.number old is));
        };
        tidy = nothing_changed before before v on refl write.number old.segments (laying_end write);
        nothing = λ empty. refl;
      }

  module _ (some : 1 ≤ length write.bytes) where
    contents_are : laid_contents old.contents write ≡ contents_written old write
    contents_are = laid_is_written old.contents write.at write.bytes some

    needs_are : laying_needs v old write ≡ write_needs v old write
    needs_are = ap (λ c. clusters_needed k old.segments (length c)) contents_are

    -- a fault at the descriptor's read
    pub load_answers : (after : Option (List ℕ)) (fault : FileFault) → IsSome (file_fault {A = Unit {0}} (Err fault)) → after ≡ before → AnswersWrite v old write before after (Err fault)
    load_answers after NoCluster is_fault same = absurd (both_ways false refl is_fault)
    load_answers after TooManyRuns is_fault same = absurd (both_ways false refl is_fault)
    load_answers after (Device n) is_fault same = unchanged (omega arith) same

    pub write_answers : (after : Option (List ℕ)) (result : Result (Unit {0}) FileFault) → AnswersLaying v old write before after result → AnswersWrite v old write before after result
    write_answers after (Ok done) laid = record {
      enough = subst (λ m. m ≤ free_total v) needs_are laid.enough;
      volume = replaced v write.number (Some (laid_file old write (with_clusters k old.segments laid.gained)));
      on = laid.on;
      writes = record {
        old = old;
        new = laid_file old write (with_clusters k old.segments laid.gained);
        is = is;
        changed = record {
          gained = laid.gained;
          choice = subst (λ c. IsChoice k (is_free_in v) old.segments (length c) laid.gained) contents_are laid.choice;
          file = ap (λ c. record old {
            contents = c;
            segments = with_clusters k old.segments laid.gained;
            modified = if length c == length old.contents then old.modified else minute_of write.now;
          }) contents_are;
        };
        volume = refl;
      };
      tidy = laid.tidy;
      nothing = λ empty. let none = ap length empty in absurd (omega arith);
    }
    write_answers after (Err (Device n)) laid =
        let chosen : IsChoice k (is_free_in v) old.segments (length (contents_written old write)) laid.taken =
        subst (λ c. IsChoice k (is_free_in v) old.segments (length c) laid.taken) contents_are laid.choice in
        stopped (record {
          volume = laid.left;
          on = laid.on;
          ends = record {
            some = some;
            old = old;
            is = is;
            count = laid.count;
            front = laid.front;
            taken = laid.taken;
            planned = inr chosen;
            volume = laid.lose;
            order = ⊎_elim (λ none_yet. inl none_yet) (λ all. inr (record { choice = chosen; lost = all })) laid.order;
          };
          choice = chosen;
          tidy = laid.tidy;
        })
    write_answers after (Err NoCluster) laid = record { few = subst (λ m. free_total v < m) needs_are laid.few; media_kept = laid.media_kept }
    write_answers after (Err TooManyRuns) laid = record {
      enough = subst (λ m. m ≤ free_total v) needs_are laid.enough;
      chosen = laid.chosen;
      full = subst (λ c. IsOneTooMany k (is_free_in v) old.segments (length c) laid.chosen) contents_are laid.full;
      media_kept = laid.media_kept;
    }

-- a write of a loaded file
module _ (before mid : Option (List ℕ)) (n m at : ℕ) (from : List ℕ) (now : TimePacket) (same : mid ≡ before) (number : m ≡ n) (some : 1 ≤ length from) where
  pub whole_answers : (after : Option (List ℕ)) (result : Result (Unit {0}) FileFault)
      → ((v : DiskVolume) (file : DiskFile) → RepresentsVolume mid v → v.files m ≡ Some file → AnswersLaying v file (record { number = m; at = at; bytes = from; now = now }) mid after result)
      → (v : DiskVolume) (file : DiskFile) → RepresentsVolume before v → v.files n ≡ Some file → AnswersWrite v file (record { number = n; at = at; bytes = from; now = now }) before after result
  whole_answers after result answers v file on is =
      let there : v.files m ≡ Some file = subst (λ i. v.files i ≡ Some file) (sym number) is in
      let laid = answers v file (record { image = on.image; is = same ∙ on.is; vol = on.vol }) there in
      write_answers before v file on (record { number = n; at = at; bytes = from; now = now }) is some after result
      (subst (λ i. AnswersLaying v file (record { number = i; at = at; bytes = from; now = now }) before after result) number
      (subst (λ b. AnswersLaying v file (record { number = m; at = at; bytes = from; now = now }) b after result) same laid))

  pub whole_calls : (after : Option (List ℕ)) (result : Result (Unit {0}) FileFault) (f : Option ℕ) (s t u : DriveCounts) → MovesCounts None 1 s t
      → ((v : DiskVolume) (file : DiskFile) → RepresentsVolume mid v → v.files m ≡ Some file → (marks : ℕ)
      → AreMarked v file m after result marks → MovesCounts f (laying_calls v file marks at (at + length from)) t u)
      → (v : DiskVolume) (file : DiskFile) → RepresentsVolume before v → v.files n ≡ Some file → (marks : ℕ)
      → AreMarked v file n after result marks → MovesCounts f (write_calls v file marks at (length from)) s u
  whole_calls after result f s t u one calls v file on is marks are =
      let there : v.files m ≡ Some file = subst (λ i. v.files i ≡ Some file) (sym number) is in
      let laid = calls v file (record { image = on.image; is = same ∙ on.is; vol = on.vol }) there marks (subst (λ i. AreMarked v file i after result marks) (sym number) are) in
      let all : write_calls v file marks at (length from) ≡ 1 + laying_calls v file marks at (at + length from) =
      cond-false (length from == 0) 0 (1 + laying_calls v file marks at (at + length from))
      (false_from_ne_true (length from == 0) (λ h. let none_there = eqb-true (length from) 0 h in absurd (omega arith))) in
      subst (λ most. MovesCounts f most s u) (sym all) (counts_then f 1 (laying_calls v file marks at (at + length from)) s t u one laid)
