-- Sectors that a tool for a path leaves as they are.
use Rattle.std.proofs.Common.{◌≡◌, ◌≢◌, ◌⊎◌, ℕ, suc, ◌+◌, ◌*◌, ◌/◌, ◌<◌, ◌≤◌, ◌==◌, Bool, true, false, Option, Some, None, List, [], ◌∷◌, take, drop, length, get_or, refl, sym, ap, ◌∙◌, subst, inl, inr, eq-eqb, arith}
use Rattle.std.specs.Prelude.{if◌then◌else◌, unwrap_or}
use Rattle.std.proofs.lemmas.Bool.{cases_eq, cases_lt, cond-true, cond-false, false≢true, ne_eqb, or_left, or_right}
use Rattle.std.proofs.lemmas.List.{get_or_past, take-append-drop}
use Rattle.std.proofs.lemmas.Option.{none-some, same_Some}
use Rattle.rbf_model.specs.Fields.{directory_entry}
use Rattle.rbf_model.specs.File.{DiskFile}
use Rattle.rbf_model.specs.Geometry.{Geometry, geometry, image_geometry, map_sectors, sector}
use Rattle.rbf_model.specs.Laws.{IsMapSector, with_directory_entry}
use Rattle.rbf_model.specs.Segments.{AreDistinct, has, sectors_of}
use Rattle.rbf_model.specs.Space.{has_cluster, owned, own_sectors, system_sectors}
use Rattle.rbf_model.specs.Volume.{DiskVolume, Vol, is_free}
use Rattle.rbf_model.specs.Walk.{arrives}
use Rattle.rbf_model.specs.Writes.{put_file}
use Rattle.rbf_model.proofs.Bytes.{distinct_first, distinct_second, has_place, not_has_first}
use Rattle.rbf_model.proofs.Free.{free_parts}
use Rattle.rbf_model.proofs.Growth.{cluster_of_range}
use Rattle.rbf_model.proofs.Owners.{cluster_positive, own_after, own_apart, owns_own}
use Rattle.rbf_model.proofs.Segments.{has_left, has_range}
use Rattle.rbf_model.proofs.Space.{cluster_from_owns}
use Rattle.rbf_change.specs.Calls.{cluster_size, is_free_in, shape}
use Rattle.rbf_change.specs.Contents.{sector_count}
use Rattle.rbf_change.specs.Growth.{with_clusters}
use Rattle.rbf_change.specs.Names.{entry_place, freed_entry, new_entry}
use Rattle.rbf_change.specs.NewFiles.{IsFileEntered, IsNewFile, Plan}
use Rattle.rbf_change.specs.Tidy.{KeepsListEnd}
use Rattle.rbf_change.proofs.LawfulWrites.{shape-image}
use Rattle.rbf_access.specs.Mounted.{RepresentsVolume}
use Rattle.rbf_entries.specs.Entering.{Entering, IsEnteredOn}
use Rattle.rbf_entries.specs.NewEntry.{sector_of_place}
use Rattle.rbf_entries.specs.Deleted.{IsDeleted, IsDeletedBy}
use Rattle.rbf_write.proofs.Gained.{cluster_sectors, sectors_with}
use Rattle.rbf_write.specs.Laying.{IsTidyChange, Laying}
use Rattle.rbf_write.specs.Outcomes.{AreBytesWritten}
use Rattle.vol_tools.specs.Names.{place}
use Rattle.vol_tools.specs.declared.place.Place.{Place}
use Rattle.vol_tools.specs.Numbers.{way_end}
use Rattle.vol_tools.specs.Path.{place_of}
use Rattle.vol_tools.specs.Tool.{LeadsTo}
use Rattle.vol_tools.specs.Others.{IsOfNewFile, KeepsOthers, PathEntry}
use Rattle.vol_tools.specs.Tail.{OnMedia}
use Rattle.vol_tools.proofs.Entries.{entry-length, not-there, short-name}
use Rattle.vol_tools.proofs.Tails.{first_is, some_is, tail_of, vol_of}

-- the directory of a place
pub leads-to : (v : DiskVolume) (path : List ℕ) (at : Place) (d : ℕ) → place_of path ≡ Some (place at) → way_end v at.way.items ≡ arrives d → LeadsTo v path d at.name
leads-to v path at d is way = record { place = place at; is = is; way = way; named = refl }

-- ---- lists of sectors

-- a front of a list that has not the number has it not
has-take : (count : ℕ) (xs : List ℕ) (s : ℕ) → has xs s ≡ false → has (take count xs) s ≡ false
has-take count xs s none = by (has (take count xs) s) refl
  where
    by : (b : Bool) → has (take count xs) s ≡ b → has (take count xs) s ≡ false
    by false is = is
    by true is =
        absurd (false≢true (sym none ∙ subst (λ ys. has ys s ≡ true) (take-append-drop count xs) (has_left (take count xs) (drop count xs) s is)))

-- nor has a place of it that number
not-placed : (xs : List ℕ) (j s : ℕ) → has xs s ≡ false → s ≢ 0 → s ≢ get_or xs j 0
not-placed xs j s none some is = elim (cases_lt j (length xs)) [
  | inl within ↦ false≢true (sym none ∙ subst (λ t. has xs t ≡ true) (sym is) (has_place xs j within))
  | inr past ↦ some (is ∙ get_or_past xs j 0 past)
]

-- nor is a descriptor among the sectors of its segments
own-distinct : (g : Geometry) (n : ℕ) (file : DiskFile) → AreDistinct (owned g n file) → has (sectors_of file.segments) n ≡ false
unfolding owned
own-distinct g n file once =
    distinct_first n (sectors_of file.segments) (distinct_second (if n == g.root then system_sectors g else []) (own_sectors n file) once)

-- ---- new files

module _ (image : List ℕ) (v : DiskVolume) (vol : Vol image v) where
  abbrev g : Geometry
  g = image_geometry image

  -- the number of a new file was that of none
  pub absent : (n : ℕ) (plan : Plan) (file : DiskFile) → IsNewFile (cluster_size v) (is_free_in v) n plan file → v.files n ≡ None
  absent n plan file made = by (v.files n) refl
    where
      same : shape v ≡ g
      same = shape-image image v vol

      first : n ≡ made.cluster * g.cluster
      first = subst (λ (h : Geometry). n ≡ made.cluster * h.cluster) same made.first

      cluster_is : n / g.cluster ≡ made.cluster
      cluster_is =
          let some : 1 ≤ g.cluster = cluster_positive g.cluster vol.sound.shape.header.clusters in
          cluster_of_range g.cluster made.cluster n some (has_range (made.cluster * g.cluster) g.cluster n (omega (arith, first)) (omega (arith, first, some)))

      free : is_free g v made.cluster ≡ true
      free = subst (λ (h : Geometry). is_free h v made.cluster ≡ true) same made.taken

      by : (found : Option DiskFile) → v.files n ≡ found → v.files n ≡ None
      by None is = is
      by (Some other) is =
          let unused : has_cluster g n other made.cluster ≡ false = (free_parts g (sector image) v vol.sound made.cluster free).2 n other is in
          let used : has_cluster g n other (n / g.cluster) ≡ true = cluster_from_owns g n other n (owns_own g n other n (has_place (own_sectors n other) 0 (omega arith))) in
          absurd (false≢true (sym unused ∙ subst (λ c. has_cluster g n other c ≡ true) cluster_is used))

-- ---- what stays

-- a sector of no new file
module _ (v w : DiskVolume) (s : ℕ) (none : IsOfNewFile v w s → ⊥) where
  not-of : (n : ℕ) (file : DiskFile) → v.files n ≡ None → w.files n ≡ Some file → has (own_sectors n file) s ≡ false
  not-of n file before is = by (has (own_sectors n file) s) refl
    where
      by : (b : Bool) → has (own_sectors n file) s ≡ b → has (own_sectors n file) s ≡ false
      by true of = absurd (none (record { number = n; none = before; file = file; is = is; of = of }))
      by false of = of

-- a descriptor that stays
list-same : (one other : List ℕ) → other ≡ one → KeepsListEnd one other
list-same one other same = subst (KeepsListEnd one) (sym same) (record { same = λ is i past. refl; ended = inl refl; behind = λ i past. refl })

module _ (path : List ℕ) (v : DiskVolume) (old new : Option (List ℕ)) (on : RepresentsVolume old v) where
  -- a new file
  module _ (dir : DiskFile) (e : Entering) (dir-there : v.files e.directory ≡ Some dir) (n : ℕ) (it : IsEnteredOn v dir e old new n) (leads : LeadsTo v path e.directory e.name) where
    abbrev both : IsFileEntered v e.directory n e.name (e.plan n)
    both = it.enters.both

    vol : Vol it.image v
    vol = vol_of old v on it.image it.was

    gone : v.files n ≡ None
    gone = absent it.image v vol n (e.plan n) both.file both.made

    apart : e.directory ≢ n
    apart is = none-some both.old (sym gone ∙ ap v.files (sym is) ∙ both.is)

    file_there : it.after.files n ≡ Some both.file
    file_there =
        ap (λ (w : DiskVolume). w.files n) it.enters.volume ∙ cond-true (n == n) (Some both.file) (put_file v.files e.directory (Some both.new) n) (eq-eqb n n refl)

    directory_there : it.after.files e.directory ≡ Some both.new
    directory_there =
        ap (λ (w : DiskVolume). w.files e.directory) it.enters.volume ∙ cond-false (e.directory == n) (Some both.file)
        (put_file v.files e.directory (Some both.new) e.directory) (ne_eqb e.directory n apart)
        ∙ cond-true (e.directory == e.directory) (Some both.new) (v.files e.directory) (eq-eqb e.directory e.directory refl)

    abbrev place-then : ℕ
    place-then = entry_place dir.contents

    abbrev entry-then : PathEntry path v it.after
    entry-then = record {
      directory = e.directory;
      name = e.name;
      leads = leads;
      old = dir;
      was = dir-there;
      new = both.new;
      is = directory_there;
      place = place-then;
      stands = sym (ap (λ o. unwrap_or o place-then) (not-there v dir e it.allowed));
      lsn = sector_of_place both.new.segments place-then;
      holds = refl;
    }

    short : length e.name ≤ 29
    short = subst (λ (name : List ℕ). length name ≤ 29) (sym leads.named) (short-name path leads.place leads.is)

    pub entered-others : OnMedia (KeepsOthers path) old new
    entered-others =
        tail_of (KeepsOthers path) old new it.image it.now it.was it.is
        (record {
          before = v;
          was = vol;
          after = it.after;
          is = it.vol;
          entry = entry-then;
          others = λ s beside none.
              it.others s beside (has-take (suc (sector_count (length both.file.contents))) (own_sectors n both.file) s (not-of v it.after s none n both.file gone file_there));
          filled = (new_entry e.name n, entry-length e.name n short, it.filled);
          list = it.kept_list;
        })

  -- a deletion
  module _ (d : ℕ) (name : List ℕ) (leads : LeadsTo v path d name) (by : IsDeletedBy v d name old new) (apart : d ≢ by.number) where
    abbrev deleted : IsDeleted v d by.number name old new
    deleted = by.is

    was_vol : Vol deleted.image v
    was_vol = vol_of old v on deleted.image deleted.was

    abbrev dir : DiskFile
    dir = deleted.deletes.dir

    abbrev at : ℕ
    at = deleted.deletes.place

    abbrev changed : DiskFile
    changed = with_directory_entry deleted.deletes.drops.old at (freed_entry (directory_entry deleted.deletes.drops.old.contents at))

    dir_is : deleted.deletes.drops.old ≡ dir
    dir_is = same_Some deleted.deletes.drops.old dir (sym deleted.deletes.drops.is ∙ deleted.deletes.is)

    changed_there : deleted.after.files d ≡ Some changed
    changed_there =
        ap (λ (w : DiskVolume). w.files d) deleted.deletes.drops.volume
        ∙ cond-false (d == by.number) None (put_file v.files d (Some changed) d) (ne_eqb d by.number apart)
        ∙ cond-true (d == d) (Some changed) (v.files d) (eq-eqb d d refl)

    abbrev entry-freed : PathEntry path v deleted.after
    entry-freed = record {
      directory = d;
      name = name;
      leads = leads;
      old = dir;
      was = deleted.deletes.is;
      new = changed;
      is = changed_there;
      place = at;
      stands = sym (ap (λ o. unwrap_or o (entry_place dir.contents)) deleted.deletes.there);
      lsn = sector_of_place dir.segments at;
      holds = ap (λ (file : DiskFile). sector_of_place file.segments at) (sym dir_is);
    }

    -- its descriptor stays
    past-map : map_sectors (image_geometry deleted.image) < d
    past-map =
        own_after (image_geometry deleted.image) (sector deleted.image) v was_vol.sound d dir d deleted.deletes.is (or_left (d == d) (has (sectors_of dir.segments) d) (eq-eqb d d refl))

    no-sector : has (sectors_of dir.segments) d ≡ false
    no-sector = own-distinct (image_geometry deleted.image) d dir (was_vol.sound.mapped.once d dir deleted.deletes.is)

    descriptor-same : sector deleted.now d ≡ sector deleted.image d
    descriptor-same =
        deleted.writes.others d (not-placed (sectors_of dir.segments) (at / 8) d no-sector (λ zero. let low = past-map
        in absurd (omega arith))) (λ map. let low = past-map in let high = map.within in absurd (omega arith))

    pub deleted-others : OnMedia (KeepsOthers path) old new
    deleted-others =
        tail_of (KeepsOthers path) old new deleted.image deleted.now deleted.was deleted.is
        (record {
          before = v;
          was = was_vol;
          after = deleted.after;
          is = deleted.vol;
          entry = entry-freed;
          others = λ s beside none out other. deleted.writes.others s other beside;
          filled = (0 ∷ [], omega arith, deleted.writes.entry);
          list = list-same (sector deleted.image d) (sector deleted.now d) descriptor-same;
        })

-- bytes that are written to the file that is new
module _ (path : List ℕ) (write : Laying) (mid new : Option (List ℕ)) (image inner now : List ℕ)
    (between : mid ≡ Some inner) (is : new ≡ Some now) (first : KeepsOthers path image inner)
    (kept : sector inner 0 ≡ sector image 0) (gone : first.before.files write.number ≡ None) (file : DiskFile)
    (it : AreBytesWritten first.after file write mid new) where
  abbrev n : ℕ
  n = write.number

  abbrev d : ℕ
  d = first.entry.directory

  abbrev t : IsTidyChange mid new n it.writes.new.segments (write.at + length write.bytes)
  t = it.tidy

  vol_now : Vol now it.volume
  vol_now = vol_of new it.volume it.on now is

  there : it.volume.files n ≡ Some it.writes.new
  there =
      ap (λ (w : DiskVolume). w.files n) it.writes.volume ∙ cond-true (n == n) (Some it.writes.new) (first.after.files n) (eq-eqb n n refl)

  others-there : (m : ℕ) → m ≢ n → it.volume.files m ≡ first.after.files m
  others-there m other =
      ap (λ (w : DiskVolume). w.files m) it.writes.volume ∙ cond-false (m == n) (Some it.writes.new) (first.after.files m) (ne_eqb m n other)

  -- it keeps its sectors
  more : (s : ℕ) → has (own_sectors n it.writes.old) s ≡ true → has (own_sectors n it.writes.new) s ≡ true
  more s of =
      let k = cluster_size first.after in
      let changed = it.writes.changed in
      let segments : it.writes.new.segments ≡ with_clusters k it.writes.old.segments changed.gained = ap (λ (f : DiskFile). f.segments) changed.file in
      let sectors = ap sectors_of segments ∙ sectors_with k it.writes.old.segments changed.gained in
      subst (λ xs. has (n ∷ xs) s ≡ true) (sym sectors) (has_left (own_sectors n it.writes.old) (cluster_sectors k changed.gained) s of)

  grown : (s : ℕ) → IsOfNewFile first.before first.after s → IsOfNewFile first.before it.volume s
  grown s new = elim (cases_eq new.number n) [
    | inl same ↦
        let is_old : new.file ≡ it.writes.old = same_Some new.file it.writes.old (sym new.is ∙ ap first.after.files same ∙ it.writes.is) in
        let of_old : has (own_sectors n it.writes.old) s ≡ true = subst (λ f. has (own_sectors n f) s ≡ true) is_old (subst (λ m. has (own_sectors m new.file) s ≡ true) same new.of) in
        record { number = n; none = gone; file = it.writes.new; is = there; of = more s of_old }
    | inr other ↦ record { number = new.number; none = new.none; file = new.file; is = others-there new.number other ∙ new.is; of = new.of }
  ]

  -- a sector that is not the file's
  still : (s : ℕ) → ¬ IsMapSector (image_geometry inner) s → has (own_sectors n it.writes.new) s ≡ false → sector now s ≡ sector inner s
  still s beside none =
      let parts = not_has_first n (sectors_of it.writes.new.segments) s none in
      let one : t.image ≡ inner = some_is (sym t.was ∙ between) in
      let other : t.now ≡ now = some_is (sym t.is ∙ is) in
      subst (λ x. sector now s ≡ sector x s) one
      (subst (λ x. sector x s ≡ sector t.image s) other (t.others s (λ map. beside (subst (λ image. IsMapSector (image_geometry image) s) one map)) (λ e. parts.0 (sym e)) parts.1))

  -- nor is one of the directory's
  d-other : d ≢ n
  d-other same = none-some first.entry.old (sym gone ∙ ap first.before.files (sym same) ∙ first.entry.was)

  d-there : it.volume.files d ≡ Some first.entry.new
  d-there = others-there d d-other ∙ first.entry.is

  first-same : sector now 0 ≡ sector inner 0
  first-same = first_is inner now first.after it.volume first.is vol_now (ap (λ (w : DiskVolume). w.ident) it.writes.volume)

  own-still : (s : ℕ) → has (own_sectors d first.entry.new) s ≡ true → sector now s ≡ sector inner s
  own-still s own = still s no-map (by (has (own_sectors n it.writes.new) s) refl)
    where
      no-map : ¬ IsMapSector (image_geometry inner) s
      no-map map =
          let past = own_after (image_geometry now) (sector now) it.volume vol_now.sound d first.entry.new s d-there own in
          let within = map.within in
          let same : map_sectors (image_geometry inner) ≡ map_sectors (image_geometry now) = ap (λ bytes. map_sectors (geometry bytes)) (sym first-same) in
          absurd (omega arith)

      by : (b : Bool) → has (own_sectors n it.writes.new) s ≡ b → has (own_sectors n it.writes.new) s ≡ false
      by false of = of
      by true of =
          absurd (d-other (own_apart (image_geometry now) (sector now) it.volume vol_now.sound d n first.entry.new it.writes.new s d-there there own of))

  lsn-still : sector now first.entry.lsn ≡ sector inner first.entry.lsn
  lsn-still = elim (cases_lt (first.entry.place / 8) (length (sectors_of first.entry.new.segments))) [
    | inl within ↦
        let own = or_right (d == sector_of_place first.entry.new.segments first.entry.place) _ (has_place (sectors_of first.entry.new.segments) (first.entry.place / 8) within) in
        own-still first.entry.lsn (subst (λ s. has (own_sectors d first.entry.new) s ≡ true) (sym first.entry.holds) own)
    | inr past ↦
        let zero : first.entry.lsn ≡ 0 = first.entry.holds ∙ get_or_past (sectors_of first.entry.new.segments) (first.entry.place / 8) 0 past in
        subst (λ s. sector now s ≡ sector inner s) (sym zero) first-same
  ]

  pub written-others : KeepsOthers path image now
  written-others = record {
    before = first.before;
    was = first.was;
    after = it.volume;
    is = vol_now;
    entry = record {
      directory = d;
      name = first.entry.name;
      leads = first.entry.leads;
      old = first.entry.old;
      was = first.entry.was;
      new = first.entry.new;
      is = d-there;
      place = first.entry.place;
      stands = first.entry.stands;
      lsn = first.entry.lsn;
      holds = first.entry.holds;
    };
    others = λ s beside none out other.
        still s (λ map. beside (subst (λ bytes. IsMapSector (geometry bytes) s) kept map)) (not-of first.before it.volume s none n it.writes.new gone there)
        ∙ first.others s beside (λ new. none (grown s new)) out other;
    filled = (first.filled.0, first.filled.1, lsn-still ∙ first.filled.2);
    list =
        subst (KeepsListEnd (sector image d)) (sym (own-still d (or_left (d == d) (has (sectors_of first.entry.new.segments) d) (eq-eqb d d refl)))) first.list;
  }
