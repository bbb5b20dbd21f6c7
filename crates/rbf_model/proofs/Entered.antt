-- A write to a directory's sector that changes one entry, and with it a file that comes into the volume.
use Rattle.std.proofs.Common.{◌≡◌, ◌≢◌, ℕ, ◌*◌, ◌<◌, true, List, length, take, Some, None, refl, sym, ap, ◌∙◌, subst, ⊎_elim, arith}
use Rattle.std.proofs.lemmas.Bool.{both_ways, false_from_ne_true}
use Rattle.std.proofs.lemmas.Option.{same_Some, none-some}
use Rattle.rbf_model.specs.Disk.{disk_of}
use Rattle.rbf_model.specs.Fields.{directory_entry, is_used, size_field, segments_field}
use Rattle.rbf_model.specs.Geometry.{Geometry, map_sectors}
use Rattle.rbf_model.specs.Segments.{has}
use Rattle.rbf_model.specs.File.{DiskFile, file_from, file_at, segment_bytes, is_directory_size}
use Rattle.rbf_model.specs.Space.{is_marked, own_sectors, IsMapped}
use Rattle.rbf_model.specs.Tree.{HasEntry}
use Rattle.rbf_model.specs.Volume.{DiskVolume, Sound}
use Rattle.rbf_model.specs.Writes.{put, put_at, put_file, with_file, with_file_in_place, IsNewEntry}
use Rattle.rbf_model.specs.Laws.{PutsEntry, AddsEntry, with_directory_entry}
use Rattle.rbf_model.proofs.Change.{put_file_cases, mapped_same}
use Rattle.rbf_model.proofs.Leaf.{tree_with_leaf}
use Rattle.rbf_model.proofs.Pieces.{ChangesEntry, length-put_at, entry_put, changes_put}
use Rattle.rbf_model.proofs.Bytes.{put_beside}
use Rattle.rbf_model.proofs.Owners.{owns_own, root_file}
use Rattle.rbf_model.proofs.Shown.{IsShown, disk_put, shown_at, ident_beside}
use Rattle.rbf_model.proofs.Data.{marks_kept, own_sector, not_descriptor, file_written, room_at, past_map, shown_other}
use Rattle.rbf_model.proofs.Ready.{ready_apart, ready_absent, mapped_comes}

module _ (g : Geometry) (disk : ℕ → List ℕ) (v : DiskVolume) (sound : Sound (disk_of g disk) v) (d : ℕ) (dir : DiskFile) (j s : ℕ) (bytes : List ℕ) (whole : length bytes ≡ 256)
    (i : ℕ) (entry : List ℕ) (puts : PutsEntry disk v (record { directory = d; file = dir; place = i; bytes = entry }) (record { place = j; lsn = s; bytes = bytes })) where
  pub past_entry : map_sectors g < s
  past_entry = past_map g disk v sound d j s dir bytes whole puts.sector

  pub length_entry : length (with_directory_entry dir i entry).contents ≡ length dir.contents
  length_entry = let fits = puts.within in let fills = puts.whole in length-put_at dir.contents entry (32 * i) (omega arith)

  pub size_entry : is_directory_size (length (with_directory_entry dir i entry).contents) ≡ true
  size_entry = subst (λ size. is_directory_size size ≡ true) (sym length_entry) (sound.tree.sizes d dir puts.sector.is puts.directory)

  pub changes_entry : ChangesEntry dir.contents (with_directory_entry dir i entry).contents i
  changes_entry = changes_put dir.contents entry i puts.whole puts.within

  pub entry_is : directory_entry (with_directory_entry dir i entry).contents i ≡ entry
  entry_is = entry_put dir.contents entry i puts.whole puts.within

  -- the directory shows the entry
  pub shown_entry : IsShown (put disk s bytes) d (with_directory_entry dir i entry)
  shown_entry = record {
    same = sym (file_written g disk v sound d j s dir bytes whole puts.sector ∙ ap (λ c. record dir { contents = c }) (sym contents));
    room = room_at g disk v sound d j s dir bytes whole puts.sector (with_directory_entry dir i entry) refl;
  }
    where
      contents : put_at dir.contents (32 * i) entry ≡ take (size_field (disk d)) (put_at (segment_bytes disk (segments_field (disk d))) (256 * j) bytes)
      contents =
          sym puts.contents
          ∙ ap (λ b. (file_from (put disk s bytes) b).contents) (sym (put_beside disk s bytes d (not_descriptor g disk v sound d j s dir bytes whole puts.sector)))
          ∙ ap (λ f. f.contents) (file_written g disk v sound d j s dir bytes whole puts.sector)

  pub shown_entry_other : (m : ℕ) (other : DiskFile) → put_file v.files d (Some (with_directory_entry dir i entry)) m ≡ Some other → IsShown (put disk s bytes) m other
  shown_entry_other m other is =
      ⊎_elim
      (λ here. subst (λ k. IsShown (put disk s bytes) k other) (sym here.0)
      (subst (IsShown (put disk s bytes) d) (same_Some (with_directory_entry dir i entry) other here.1) shown_entry))
      (λ there. shown_other g disk v sound d j s dir bytes whole puts.sector m other there.0 there.1)
      (put_file_cases v.files d (Some (with_directory_entry dir i entry)) m other is)

  -- and keeps its space
  pub mapped_entry : IsMapped g (is_marked (put disk s bytes)) (put_file v.files d (Some (with_directory_entry dir i entry))) v.lost
  mapped_entry =
      mapped_same g (is_marked (put disk s bytes)) v.files v.lost (marks_kept g disk v sound s bytes whole past_entry) d dir (with_directory_entry dir i entry) puts.sector.is refl

-- a free entry that becomes a new file's
pub enter_law : (g : Geometry) (disk : ℕ → List ℕ) (v : DiskVolume) → Sound (disk_of g disk) v → (d : ℕ) (dir : DiskFile) (j s : ℕ) (bytes : List ℕ) → length bytes ≡ 256
    → (i : ℕ) (entry : List ℕ) (n : ℕ) → AddsEntry (disk_of g disk) v (record { directory = d; file = dir; place = i; bytes = entry }) (record { place = j; lsn = s; bytes = bytes }) n
    → Sound (disk_of g (put disk s bytes)) (with_file g (with_file_in_place v d (with_directory_entry dir i entry)) n (Some (file_at disk n)))
enter_law g disk v sound d dir j s bytes whole i entry n enters = record {
  shape = sound.shape;
  sectors = disk_put g disk s bytes sound.sectors whole;
  shows = record {
    ident = ident_beside g disk v sound s bytes (let past = past_entry g disk v sound d dir j s bytes whole i entry enters.puts in omega arith);
    shown = λ m other is. (shown m other is).same;
    room = λ m other is. (shown m other is).room;
  };
  mapped = mapped_comes g (is_marked (put disk s bytes)) (put_file v.files d (Some (with_directory_entry dir i entry))) v.lost mapped n (file_at disk n) enters.ready.clusters
      enters.ready.within enters.ready.distinct not_root;
  tree = tree_with_leaf g v.files sound.tree d i n dir (with_directory_entry dir i entry) (file_at disk n) enters.puts.sector.is enters.puts.directory enters.puts.directory
      (size_entry g disk v sound d dir j s bytes whole i entry enters.puts) enters.puts.after (changes_entry g disk v sound d dir j s bytes whole i entry enters.puts)
      (λ has. both_ways (is_used (directory_entry dir.contents i)) enters.free has.used) has_entry new absent enters.ready.number enters.ready.made;
}
  where
    mapped : IsMapped g (is_marked (put disk s bytes)) (put_file v.files d (Some (with_directory_entry dir i entry))) v.lost
    mapped = mapped_entry g disk v sound d dir j s bytes whole i entry enters.puts

    absent : v.files n ≡ None
    absent = ready_absent g (is_marked disk) v.files v.lost sound.mapped n (file_at disk n) enters.ready.clusters

    not_root : n ≢ g.root
    not_root same = let r = root_file g disk v sound in none-some r.0 (sym absent ∙ ap v.files same ∙ r.1)

    entry_there : directory_entry (with_directory_entry dir i entry).contents i ≡ entry
    entry_there = entry_is g disk v sound d dir j s bytes whole i entry enters.puts

    has_entry : HasEntry (with_directory_entry dir i entry).contents i
    has_entry = record {
      within = let fits = enters.puts.within in let same = length_entry g disk v sound d dir j s bytes whole i entry enters.puts in omega arith;
      used = ap is_used entry_there ∙ enters.new.used;
    }

    new : IsNewEntry dir.contents i (directory_entry (with_directory_entry dir i entry).contents i) n
    new = subst (λ e. IsNewEntry dir.contents i e n) (sym entry_there) enters.new

    shown_new : IsShown (put disk s bytes) n (file_at disk n)
    shown_new =
        shown_at disk n (file_at disk n) s bytes (record { same = refl; room = enters.ready.room })
        (false_from_ne_true (has (own_sectors n (file_at disk n)) s)
        (ready_apart g (is_marked disk) v.files v.lost sound.mapped n (file_at disk n) enters.ready.clusters d dir s enters.puts.sector.is
        (owns_own g d dir s (own_sector g disk v sound d j s dir bytes whole enters.puts.sector))))

    shown : (m : ℕ) (other : DiskFile) → put_file (put_file v.files d (Some (with_directory_entry dir i entry))) n (Some (file_at disk n)) m ≡ Some other → IsShown (put disk s bytes) m other
    shown m other is =
        ⊎_elim
        (λ here. subst (λ k. IsShown (put disk s bytes) k other) (sym here.0)
        (subst (IsShown (put disk s bytes) n) (same_Some (file_at disk n) other here.1) shown_new))
        (λ there. shown_entry_other g disk v sound d dir j s bytes whole i entry enters.puts m other there.1)
        (put_file_cases (put_file v.files d (Some (with_directory_entry dir i entry))) n (Some (file_at disk n)) m other is)
