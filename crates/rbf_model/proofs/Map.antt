-- Writes to the map: clusters are taken, and given back.
use Rattle.std.proofs.Common.{◌≡◌, ℕ, ◌+◌, Bool, false, not, ◌&&◌, ◌||◌, List, length, Some, sym, ◌∙◌, ⊎_elim, arith}
use Rattle.std.proofs.lemmas.Bool.{both_ways, false_from_ne_true, or_cases, or_left, or_right, and_parts, and_from, not_from_false}
use Rattle.rbf_model.specs.Disk.{disk_of}
use Rattle.rbf_model.specs.Geometry.{Geometry, map_sectors}
use Rattle.rbf_model.specs.Segments.{has}
use Rattle.rbf_model.specs.File.{DiskFile}
use Rattle.rbf_model.specs.Space.{is_marked, own_sectors, has_cluster, IsMapped}
use Rattle.rbf_model.specs.Volume.{DiskVolume, Sound}
use Rattle.rbf_model.specs.Writes.{put, with_lost}
use Rattle.rbf_model.specs.Laws.{IsMapSector, MarksFreeClusters, FreesClusters}
use Rattle.rbf_model.proofs.Segments.{has_range}
use Rattle.rbf_model.proofs.Free.{free_parts}
use Rattle.rbf_model.proofs.Owners.{own_not_system, file_cluster_below, whole_below}
use Rattle.rbf_model.proofs.Shown.{IsShown, disk_put, shown_beside, ident_beside}

module _ (g : Geometry) (disk : ℕ → List ℕ) (v : DiskVolume) (sound : Sound (disk_of g disk) v) (s : ℕ) (bytes : List ℕ) (whole : length bytes ≡ 256) where
  -- the files are no part of the map
  map_shown : IsMapSector g s → (n : ℕ) (file : DiskFile) → v.files n ≡ Some file → IsShown (put disk s bytes) n file
  map_shown map n file is =
      shown_beside g disk v sound n file s bytes is
      (false_from_ne_true (has (own_sectors n file) s) (λ own.
      let w = map.within in
      own_not_system g disk v sound n file s is own (has_range 0 (1 + map_sectors g) s (omega arith) (omega arith))))

  -- only marks and lost clusters change
  map_write : IsMapSector g s → (lost : ℕ → Bool) → IsMapped g (is_marked (put disk s bytes)) v.files lost → Sound (disk_of g (put disk s bytes)) (with_lost v lost)
  map_write map lost mapped = record {
    shape = sound.shape;
    sectors = disk_put g disk s bytes sound.sectors whole;
    shows = record {
      ident = ident_beside g disk v sound s bytes map.after;
      shown = λ n file is. (map_shown map n file is).same;
      room = λ n file is. (map_shown map n file is).room;
    };
    mapped = mapped;
    tree = sound.tree;
  }

  -- free clusters that are marked are lost
  pub takes_law : (taken : ℕ → Bool) → MarksFreeClusters (disk_of g disk) v s bytes taken → Sound (disk_of g (put disk s bytes)) (with_lost v (λ c. v.lost c || taken c))
  takes_law taken takes = map_write takes.map (λ c. v.lost c || taken c) (record {
    within = sound.mapped.within;
    marks = λ n file c is used.
        takes.marks c (file_cluster_below g disk v sound n file c is used) ∙ or_left (is_marked disk c) (taken c) (sound.mapped.marks n file c is used);
    once = sound.mapped.once;
    apart = sound.mapped.apart;
    lost_are = λ c. (
      λ h. ⊎_elim
          (λ was.
          let l = (sound.mapped.lost_are c).0 was in
          record { whole = l.whole; marked_in = takes.marks c (whole_below g sound.shape c l.whole) ∙ or_left (is_marked disk c) (taken c) l.marked_in; unused = l.unused })
          (λ now.
          let f = free_parts g disk v sound c (takes.free c now) in
          record { whole = f.0; marked_in = takes.marks c (whole_below g sound.shape c f.0) ∙ or_right (is_marked disk c) (taken c) now; unused = f.2 })
          (or_cases (v.lost c) (taken c) h),
      λ l. ⊎_elim
          (λ was. or_left (v.lost c) (taken c) ((sound.mapped.lost_are c).1 (record { whole = l.whole; marked_in = was; unused = l.unused })))
          (λ now. or_right (v.lost c) (taken c) now)
          (or_cases (is_marked disk c) (taken c) (sym (takes.marks c (whole_below g sound.shape c l.whole)) ∙ l.marked_in)),
    );
  })

  -- lost clusters whose marks are cleared are lost no more
  pub frees_law : (freed : ℕ → Bool) → FreesClusters (disk_of g disk) v s bytes freed → Sound (disk_of g (put disk s bytes)) (with_lost v (λ c. v.lost c && not (freed c)))
  frees_law freed frees = map_write frees.map (λ c. v.lost c && not (freed c)) (record {
    within = sound.mapped.within;
    marks = λ n file c is used.
        let kept : freed c ≡ false =
        false_from_ne_true (freed c) (λ gone. ⊎_elim
        (λ lost. both_ways (has_cluster g n file c) (((sound.mapped.lost_are c).0 lost).unused n file is) used)
        (λ part. both_ways (has_cluster g n file c) (part.1 n file is) used)
        (frees.unused c gone)) in
        frees.marks c (file_cluster_below g disk v sound n file c is used)
        ∙ and_from (is_marked disk c) (not (freed c)) (sound.mapped.marks n file c is used) (not_from_false (freed c) kept);
    once = sound.mapped.once;
    apart = sound.mapped.apart;
    lost_are = λ c. (
      λ h.
          let parts = and_parts (v.lost c) (not (freed c)) h in
          let l = (sound.mapped.lost_are c).0 parts.0 in
          record { whole = l.whole; marked_in = frees.marks c (whole_below g sound.shape c l.whole) ∙ and_from (is_marked disk c) (not (freed c)) l.marked_in parts.1; unused = l.unused },
      λ l.
          let parts = and_parts (is_marked disk c) (not (freed c)) (sym (frees.marks c (whole_below g sound.shape c l.whole)) ∙ l.marked_in) in
          and_from (v.lost c) (not (freed c)) ((sound.mapped.lost_are c).1 (record { whole = l.whole; marked_in = parts.0; unused = l.unused })) parts.1,
    );
  })
