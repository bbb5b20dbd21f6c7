-- A write to a directory's sector with which a file goes from the volume.
use Rattle.std.proofs.Common.{◌≡◌, ℕ, List, length, Some, None, sym, ap, ◌∙◌, ⊎_elim, arith}
use Rattle.std.proofs.lemmas.Bool.{both_ways, false≢true}
use Rattle.std.proofs.lemmas.Option.{none-some}
use Rattle.rbf_model.specs.Disk.{disk_of}
use Rattle.rbf_model.specs.Fields.{is_used}
use Rattle.rbf_model.specs.Geometry.{Geometry}
use Rattle.rbf_model.specs.File.{DiskFile}
use Rattle.rbf_model.specs.Space.{is_marked}
use Rattle.rbf_model.specs.Volume.{DiskVolume, Sound}
use Rattle.rbf_model.specs.Writes.{put, put_file, with_file, with_file_in_place}
use Rattle.rbf_model.specs.Laws.{RemovesEntry, with_directory_entry}
use Rattle.rbf_model.proofs.Change.{put_file_cases, mapped_after}
use Rattle.rbf_model.proofs.Fall.{tree_without_leaf}
use Rattle.rbf_model.proofs.Shown.{IsShown, disk_put, ident_beside}
use Rattle.rbf_model.proofs.Entered.{past_entry, size_entry, changes_entry, entry_is, shown_entry_other, mapped_entry}

-- the entry of a file that becomes free
pub leave_law : (g : Geometry) (disk : ℕ → List ℕ) (v : DiskVolume) → Sound (disk_of g disk) v → (d : ℕ) (dir : DiskFile) (j s : ℕ) (bytes : List ℕ) → length bytes ≡ 256
    → (i : ℕ) (entry : List ℕ) (n : ℕ) (file : DiskFile) → RemovesEntry disk v (record { directory = d; file = dir; place = i; bytes = entry }) (record { place = j; lsn = s; bytes = bytes }) n file
    → Sound (disk_of g (put disk s bytes)) (with_file g (with_file_in_place v d (with_directory_entry dir i entry)) n None)
leave_law g disk v sound d dir j s bytes whole i entry n file leaves = record {
  shape = sound.shape;
  sectors = disk_put g disk s bytes sound.sectors whole;
  shows = record {
    ident = ident_beside g disk v sound s bytes (let past = past_entry g disk v sound d dir j s bytes whole i entry leaves.puts in omega arith);
    shown = λ m other is. (shown m other is).same;
    room = λ m other is. (shown m other is).room;
  };
  mapped = mapped_after g (is_marked (put disk s bytes)) (put_file v.files d (Some (with_directory_entry dir i entry))) v.lost
      (mapped_entry g disk v sound d dir j s bytes whole i entry leaves.puts) n None (λ f h. absurd (none-some f h)) (λ f h. absurd (none-some f h))
      (λ c h. absurd (false≢true h));
  tree = tree_without_leaf g v.files sound.tree d i n dir (with_directory_entry dir i entry) file leaves.puts.sector.is leaves.puts.directory leaves.puts.directory
      (size_entry g disk v sound d dir j s bytes whole i entry leaves.puts) (changes_entry g disk v sound d dir j s bytes whole i entry leaves.puts)
      (λ has. both_ways (is_used entry) leaves.free (sym (ap is_used (entry_is g disk v sound d dir j s bytes whole i entry leaves.puts)) ∙ has.used)) leaves.names leaves.is
      leaves.not_directory;
}
  where
    shown : (m : ℕ) (other : DiskFile) → put_file (put_file v.files d (Some (with_directory_entry dir i entry))) n None m ≡ Some other → IsShown (put disk s bytes) m other
    shown m other is =
        ⊎_elim
        (λ here. absurd (none-some other here.1))
        (λ there. shown_entry_other g disk v sound d dir j s bytes whole i entry leaves.puts m other there.1)
        (put_file_cases (put_file v.files d (Some (with_directory_entry dir i entry))) n None m other is)
