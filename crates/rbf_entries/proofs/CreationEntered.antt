-- A new file without contents that is entered into a directory: what the media represents at each answer.
use Rattle.std.proofs.Common.{◌≡◌, ◌≢◌, ℕ, ◌+◌, ◌*◌, ◌/◌, ◌%◌, ◌<◌, ◌≤◌, Bool, true, false, not, ◌==◌, ◌&&◌, ◌||◌, Option, Some, None, List, ◌∷◌, length, take, inl, inr, ◌⊎◌, refl, sym, ap, ◌∙◌, subst, ⊎_elim, arith, eq-eqb, eqb-true}
use Rattle.std.specs.Prelude.{if◌then◌else◌, filter}
use Rattle.std.specs.List.{range_with_len}
use Rattle.std.proofs.lemmas.Bool.{or_left, or_right, or_cases, both_ways}
use Rattle.std.proofs.lemmas.Option.{same_Some, none-some}
use Rattle.rbf_model.specs.Disk.{image_disk}
use mathlib.Core.Path.{fun_ext}
use Rattle.os9_base.specs.Name.{IsName}
use Rattle.os9_base.specs.declared.registers.TimePacket.{TimePacket}
use Rattle.os9_outer.specs.Drive.{sector_at}
use Rattle.rbf_model.specs.Fields.{descriptor_field}
use Rattle.rbf_model.specs.File.{DiskFile, file_at, is_directory}
use Rattle.rbf_model.specs.Geometry.{Geometry, geometry, image_geometry, sector, map_sectors}
use Rattle.rbf_model.specs.Laws.{IsMapSector, IsReady}
use Rattle.rbf_model.specs.Segments.{has, sectors_of}
use Rattle.rbf_model.specs.Space.{is_marked, has_cluster, Unused, cluster_count, is_whole}
use Rattle.rbf_model.specs.Volume.{DiskVolume, Vol, in_file}
use Rattle.rbf_model.specs.Writes.{put_at, put_file, with_file, with_lost}
use Rattle.rbf_model.proofs.Bytes.{not_has_first}
use Rattle.rbf_model.proofs.Change.{put_file_beside}
use Rattle.rbf_model.proofs.Owners.{own_after, owns_own, owns_system, root_file}
use Rattle.rbf_model.proofs.Segments.{has_range}
use Rattle.rbf_model.proofs.Space.{cluster_from_owns}
use Rattle.rbf_change.specs.Calls.{shape, cluster_size, is_free_in, free_total, replaced, written_file, WritesFile}
use Rattle.rbf_change.specs.Contents.{sector_count, written}
use Rattle.rbf_change.specs.Faults.{MayLose}
use Rattle.rbf_change.specs.Growth.{uses, with_clusters, clusters_needed, IsChoice}
use Rattle.rbf_change.specs.Names.{new_entry, entry_place, is_dots}
use Rattle.rbf_change.specs.NewFiles.{Plan, file_plan, IsNewFile, free_without, IsFileEntered}
use Rattle.rbf_change.specs.Parts.{EntryIsPut}
use Rattle.rbf_change.specs.Tidy.{KeepsMapEnd, KeepsListEnd, IsNewList}
use Rattle.rbf_change.proofs.LawfulWrites.{shape-image}
use Rattle.rbf_access.specs.Mounted.{RepresentsVolume}
use Rattle.rbf_access.specs.Reading.{IsFdOf}
use Rattle.rbf_access.proofs.ReadFile.{room_for}
use Rattle.rbf_entries.specs.Made.{IsMade, FileMakingEnds}
use Rattle.rbf_write.proofs.Steps.{few_segments, own_not_free}
use Rattle.rbf_entries.specs.NewEntry.{EntryWrite, MayEnter, IsEntryWritten, EntryStops, IsAfterMarks, IsUncountedEntry, sector_of_place}
use Rattle.rbf_entries.specs.Entering.{Entering, IsFileOnMedia, entry_calls, EnteringTook, IsEnteredOn, refusal_of}
use Rattle.rbf_entries.specs.Rooms.{place_clusters, HasClusterRoom}
use Rattle.rbf_entries.proofs.Choice.{one_needed, choice_exists, one_passes}
use Rattle.rbf_entries.proofs.Needs.{needs_entry}
use Rattle.rbf_entries.proofs.Sectors.{entry_no_map, entry_apart, untaken}
use Rattle.rbf_entries.proofs.NewEntries.{new_length, new_number, may_enter}
use Rattle.rbf_walk.specs.Search.{IsAbsentName}
use Rattle.rbf_walk.proofs.Stepping.{same_content}
use Rattle.rbf_write.specs.declared.loaded.Loaded.{Loaded}
use Rattle.rbf_write.specs.Files.{IsDescriptorLoaded}
use Rattle.rbf_entries.specs.Creating.{request}
use Rattle.rbf_entries.proofs.Placing.{place_most}
use Rattle.rbf_entries.proofs.NewOnes.{free_in_lost, positive, first_free, free_facts, contents_are, its_cluster, still_free}

none_from : (o : Option DiskFile) → ((f : DiskFile) → o ≡ Some f → ⊥) → o ≡ None
none_from None h = refl
none_from (Some f) h = absurd (h f refl)

and_not_false : (t : Bool) → (t && not false) ≡ t
and_not_false true = refl
and_not_false false = refl

module _ (m0 : Option (List ℕ)) (v : DiskVolume) (on : RepresentsVolume m0 v) (d : ℕ) (name : List ℕ) (attr user : ℕ)
    (execute : Bool) (now : TimePacket) (dir : DiskFile) (is : v.files d ≡ Some dir) (directory : is_directory dir ≡ true)
    (place : ℕ) (named : IsName name) (proper : is_dots name ≡ false) (absent : IsAbsentName dir.contents name place) (room : HasClusterRoom v dir place 1) where
  abbrev k : ℕ
  k = cluster_size v

  abbrev g : Geometry
  g = image_geometry on.image

  abbrev plan : Plan
  plan = file_plan attr user now

  abbrev e : Entering
  e = request d name attr user execute now

  volume_shape : shape v ≡ g
  volume_shape = shape-image on.image v on.vol

  fits_dir : length dir.contents ≤ 256 * length (sectors_of dir.segments)
  fits_dir = room_for m0 v on d dir is

  few_runs : length dir.segments ≤ 48
  few_runs = subst (λ f. length f.segments ≤ 48) (sym (on.vol.sound.shows.shown d dir is)) (few_segments (sector on.image d))

  place_low : 32 * place ≤ length dir.contents
  place_low = let most = place_most dir.contents in let same = absent.free_is in omega arith

  abbrev free_then : ℕ → DiskFile → ℕ → Bool
  free_then n file = free_without (shape v) (is_free_in v) n file

  module _ (n : ℕ) (file : DiskFile) (new : IsNewFile k (is_free_in v) n plan file) where
    abbrev entry : List ℕ
    entry = new_entry name n

    some_k : 1 ≤ k
    some_k = positive m0 v on n plan refl file new

    entry_whole : length entry ≡ 32
    entry_whole = new_length name n named

    needs_written : clusters_needed k dir.segments (length (written dir.contents (32 * place) entry)) ≡ place_clusters v dir place
    needs_written = needs_entry v dir place entry entry_whole fits_dir

    needs_few : place_clusters v dir place ≤ 1
    needs_few = let low = place_low in let fits = fits_dir in one_needed k dir.segments place some_k (omega arith)

    free_some : 1 ≤ place_clusters v dir place → 1 ≤ length (filter (free_then n file) (range_with_len 0 (cluster_count (shape v))))
    free_some one = let enough = room.enough in let left = still_free m0 v on n plan refl file new in omega arith

    apart_then : (c : ℕ) → uses k dir.segments c ≡ true → free_then n file c ≡ false
    apart_then c used = ap (λ t. t && not (has_cluster (shape v) n file c)) (own_not_free m0 v on d dir is c used)

    abbrev size_then : ℕ
    size_then = length (written dir.contents (32 * place) entry)

    -- the directory may gain what it needs
    some_choice : (taken : List ℕ) × IsChoice k (free_then n file) dir.segments size_then taken
    some_choice =
        let few = needs_few in
        choice_exists k (free_then n file) dir.segments size_then (let same = needs_written in omega arith) few_runs
        (λ one. room.few (let same = needs_written in omega arith)) apart_then
        (λ one. one_passes (free_then n file) (range_with_len 0 (cluster_count (shape v))) (free_some (let same = needs_written in omega arith)))

    -- no free cluster has a sector of the map
    no_map : (s : ℕ) → is_free_in v (s / k) ≡ true → ¬ IsMapSector g s
    no_map s free map =
        let within = map.within in
        let r = root_file g (sector on.image) v on.vol.sound in
        both_ways (has_cluster (shape v) g.root r.0 (s / k)) ((free_facts m0 v on n plan refl file new (s / k) free).1 g.root r.0 r.1)
        (subst (λ h. has_cluster h g.root r.0 (s / h.cluster) ≡ true) (sym volume_shape)
        (cluster_from_owns g g.root r.0 s (owns_system g r.0 s (has_range 0 (1 + map_sectors g) s (omega arith) (omega arith)))))

    -- the new file's clusters were free
    here_free : is_free_in v (n / k) ≡ true
    here_free = first_free m0 v on n plan refl file new

    facts : (c : ℕ) → is_free_in v c ≡ true → (v.lost c ≡ false) × Unused (shape v) v.files c
    facts = free_facts m0 v on n plan refl file new

    fresh : (c : ℕ) → has_cluster (shape v) n file c ≡ true → is_free_in v c ≡ true
    fresh c h = subst (λ x. is_free_in v x ≡ true) (sym (its_cluster m0 v on n plan refl file new c h)) here_free

    -- its descriptor is the one sector of it that is written
    only_number : (s : ℕ) → has (n ∷ take (sector_count (length file.contents)) (sectors_of file.segments)) s ≡ true → n ≡ s
    only_number s h =
        eqb-true n s (or_false (n == s) (subst (λ c. has (n ∷ take (sector_count (length c)) (sectors_of file.segments)) s ≡ true) (contents_are m0 v on n plan refl file new) h))
      where
        or_false : (t : Bool) → (t || false) ≡ true → t ≡ true
        or_false true h = refl
        or_false false h = h

    module _ (gained : List ℕ) (choice : IsChoice k (free_then n file) dir.segments size_then gained) where
      abbrev segments : List (ℕ × ℕ)
      segments = with_clusters k dir.segments gained

      -- the sector of the entry in the directory, which may have gained a cluster
      abbrev at : ℕ
      at = sector_of_place segments place

      at_no_map : (image : List ℕ) → m0 ≡ Some image → ¬ IsMapSector (image_geometry image) at
      at_no_map = entry_no_map m0 v on d place dir is entry entry_whole n file fresh gained choice

      at_apart : at ≢ n
      at_apart = entry_apart m0 v on d place dir is entry entry_whole n file fresh gained choice n (or_left (n == n) (has (sectors_of file.segments) n) (eq-eqb n n refl))

      -- no cluster that it gains has been taken where the file's alone have
      ungained : (w : DiskVolume) → MayLose v w (has_cluster (shape v) n file) → (c : ℕ) → has gained c ≡ true → w.lost c ≡ false
      ungained = untaken m0 v on d place dir is entry entry_whole n file fresh gained choice

      abbrev new_dir : DiskFile
      new_dir = written_file dir (32 * entry_place dir.contents) entry now segments

      abbrev both : IsFileEntered v d n name plan
      both = record {
        old = dir;
        new = new_dir;
        file = file;
        is = is;
        made = new;
        entry = record {
          gained = gained;
          choice = subst (λ p. IsChoice k (free_then n file) dir.segments (length (written dir.contents (32 * p) entry)) gained) absent.free_is choice;
          file = refl;
        };
      }

      -- a fault came when clusters of these may have been taken
      pub took : refusal_of v dir e ≡ None → (image image1 : List ℕ) (left : DiskVolume) (m1 : Option (List ℕ))
          → m0 ≡ Some image → m1 ≡ Some image1 → Vol image1 left
          → MayLose v left (λ c. has_cluster (shape v) n file c || has gained c)
          → ((s : ℕ) → ¬ IsMapSector (image_geometry image) s → s ≢ n → s ≢ at → sector image1 s ≡ sector image s)
          → IsAfterMarks image image1 n left (λ c. has_cluster (shape v) n file c) → (sector image1 n ≡ sector image n) ⊎ (file_at (sector image1) n ≡ file)
          → ((c : ℕ) → has gained c ≡ true → left.lost c ≡ true → file_at (sector image1) n ≡ file)
          → (sector image1 at ≡ sector image at) ⊎ (IsUncountedEntry image image1 dir at place entry × IsFileOnMedia v left image1 n file gained)
          → KeepsMapEnd image image1 (λ _. false) → EnteringTook v dir e m0 m1
      took allowed image image1 left m1 was now_is vol lose others order described grown entered_last end = record {
        allowed = allowed;
        image = image;
        now = image1;
        was = was;
        is = now_is;
        left = left;
        vol = vol;
        number = n;
        ends = record { both = both; volume = lose };
        others = λ s none out differ. others s none
            (λ same. (not_has_first n (take (sector_count (length file.contents)) (sectors_of file.segments)) s out).0 (sym same))
            (λ same. differ (same ∙ ap (sector_of_place segments) absent.free_is));
        marks = λ s h. subst (λ t. IsAfterMarks image image1 t left (λ c. has_cluster (shape v) n file c)) (only_number s h) order;
        descriptor = described;
        growth = grown;
        entry =
            subst (λ p. (sector image1 (sector_of_place segments p) ≡ sector image (sector_of_place segments p)) ⊎
            (IsUncountedEntry image image1 dir (sector_of_place segments p) p entry × IsFileOnMedia v left image1 n file
            gained))
            absent.free_is entered_last;
        end = end;
      }

  -- a fault came before the descriptor was written
  number_stays : {m1 : Option (List ℕ)} (ends : FileMakingEnds v plan m0 m1) → sector ends.now ends.number ≡ sector ends.image ends.number
  number_stays ends =
      ends.others ends.number
      (subst (λ i. ¬ IsMapSector (image_geometry i) ends.number) (same_Some on.image ends.image (sym on.is ∙ ends.was))
      (no_map ends.number ends.file ends.chosen ends.number (first_free m0 v on ends.number plan refl ends.file ends.chosen)))

  pub unmade : refusal_of v dir e ≡ None → (m1 : Option (List ℕ)) → FileMakingEnds v plan m0 m1 → EnteringTook v dir e m0 m1
  unmade allowed m1 ends =
      let c = some_choice ends.number ends.file ends.chosen in
      took ends.number ends.file ends.chosen c.0 c.1 allowed ends.image ends.now ends.left m1 ends.was ends.is ends.vol
      (record {
        same = ends.lose.same;
        still = ends.lose.still;
        only = λ x h. more_of (v.lost x) (has_cluster (shape v) ends.number ends.file x) (has c.0 x) (ends.lose.only x h);
      })
      (λ s none differ out. ends.others s none)
      (inl (number_stays ends))
      (inl (number_stays ends))
      (λ x gains lost. absurd (both_ways (ends.left.lost x) (ungained ends.number ends.file ends.chosen c.0 c.1 ends.left ends.lose x gains) lost))
      (inl (ends.others (at ends.number ends.file ends.chosen c.0 c.1) (at_no_map ends.number ends.file ends.chosen c.0 c.1 ends.image ends.was)))
      ends.end
    where
      more_of : (a b t : Bool) → (a || b) ≡ true → (a || (b || t)) ≡ true
      more_of true b t h = refl
      more_of false true t h = refl
      more_of false false t h = absurd (both_ways false refl h)

  -- the file has been made
  module _ (n : ℕ) (mid : Option (List ℕ)) (made : IsMade v n plan m0 mid) where
    abbrev file : DiskFile
    file = made.made.file

    abbrev new : IsNewFile k (is_free_in v) n plan made.made.file
    new = made.made.made

    abbrev its : ℕ → Bool
    its c = has_cluster (shape v) n made.made.file c

    abbrev u : DiskVolume
    u = with_lost v (λ c. v.lost c || its c)

    left_is : made.left ≡ u
    left_is = made.made.volume

    abbrev on_mid : RepresentsVolume mid made.left
    on_mid = record { image = made.now; is = made.is; vol = made.vol }

    vol_mid : Vol made.now u
    vol_mid = subst (Vol made.now) left_is made.vol

    abbrev g1 : Geometry
    g1 = image_geometry made.now

    shape1 : shape v ≡ g1
    shape1 = shape-image made.now u vol_mid

    free_is : is_free_in u ≡ free_then n file
    free_is = fun_ext (λ c. free_in_lost (shape v) v its c)

    pub low : n < 16777216
    low =
        let below = (made.ready d).number.below in
        let most = made.vol.header.header.most in
        omega arith

    whole : length (new_entry name n) ≡ 32
    whole = new_length name n named

    number : descriptor_field (new_entry name n) ≡ n
    number = new_number name n named low

    pub left_file : made.left.files d ≡ Some dir
    left_file = ap (λ (x : DiskVolume). x.files d) left_is ∙ is

    lose_its : MayLose v u its
    lose_its = record { same = refl; still = λ c h. or_left (v.lost c) (its c) h; only = λ c h. h }

    its_lost : (c : ℕ) → its c ≡ true → u.lost c ≡ true
    its_lost c h = or_right (v.lost c) (its c) h

    image_same : image_geometry made.image ≡ g1
    image_same = ap geometry (sym (made.writes.others 0 (λ map. let first = map.after in absurd (omega arith)) (λ same. let some = (made.ready d).number.after in absurd (omega arith))))

    abbrev appending : EntryWrite
    appending = record { directory = d; place = place; entry = new_entry name n; now = now }

    -- a fault came before the entry was in the directory
    pub unentered : refusal_of v dir e ≡ None → (m1 : Option (List ℕ)) → EntryStops made.left dir appending mid m1 → EnteringTook v dir e m0 m1
    unentered allowed m1 stops =
        let here : EntryStops u dir appending mid m1 = subst (λ x. EntryStops x dir appending mid m1) left_is stops in
        let same : here.image ≡ made.now = same_Some here.image made.now (sym here.was ∙ made.is) in
        let choice_here : IsChoice k (free_then n file) dir.segments (size_then n file new) here.taken = subst (λ f. IsChoice k f dir.segments (size_then n file new) here.taken) free_is here.choice in
        let entry_sector = sector_of_place (with_clusters k dir.segments here.taken) place in
        let entry_was : sector here.image entry_sector ≡ sector made.image entry_sector =
        ap (λ i. sector i entry_sector) same ∙ made.writes.others entry_sector
        (at_no_map n file new here.taken choice_here made.image made.was)
        (at_apart n file new here.taken choice_here) in
        let shown_then : file_at (sector here.now) n ≡ file =
        subst (λ m. file_at (sector here.now) m ≡ file_at (sector here.image) m) number here.named ∙ ap
        (λ i. file_at (sector i) n) same ∙ made.made.shown in
        took n file new here.taken choice_here allowed made.image here.now here.left m1 made.was here.is here.vol
        (record {
          same = here.lose.same;
          still = λ c h. here.lose.still c (or_left (v.lost c) (its c) h);
          only = λ c h. assoc (v.lost c) (its c) (has here.taken c) (here.lose.only c h);
        })
        (λ s none differ out.
        here.others s (λ map. none (subst (λ h. IsMapSector h s) (ap image_geometry same ∙ sym image_same) map)) out ∙ ap (λ i. sector i s) same ∙ made.writes.others s none differ)
        (inr (λ c h. here.lose.still c (its_lost c h)))
        (inr shown_then)
        (λ c gains lost. shown_then)
        (⊎_elim
        (λ still. inl (still ∙ entry_was))
        (λ behind. inr (
          record { end = behind.0.end; filled = behind.0.filled ∙ ap (λ b. put_at b (32 * (place % 8)) (new_entry name n)) entry_was },
          record {
            shown = shown_then;
            marked = λ c h. ⊎_elim (λ own. here.lose.still c (its_lost c own)) (behind.1 c) (or_cases (its c) (has here.taken c) h);
          },
        ))
        here.order)
        (λ c behind.
        let there = subst (λ i. KeepsMapEnd i here.now (λ _. false)) same here.end in
        there c (record { not_whole = subst (λ h. h.total / h.cluster ≤ c) image_same behind.not_whole; in_map = subst (λ h. c < 2048 * map_sectors h) image_same behind.in_map })
        ∙ and_not_false (is_marked (sector made.now) c) ∙ made.writes.end c behind)
      where
        assoc : (a b t : Bool) → ((a || b) || t) ≡ true → (a || (b || t)) ≡ true
        assoc true b t h = refl
        assoc false b t h = h

    enough_left : HasClusterRoom u dir place 0
    enough_left =
        let enough = room.enough in
        let left = still_free m0 v on n plan refl file new in
        let same : free_total u ≡ length (filter (free_then n file) (range_with_len 0 (cluster_count (shape v)))) = ap (λ f. length (filter f (range_with_len 0 (cluster_count (shape v))))) free_is in
        record { enough = omega arith; few = room.few }

    ready_entry : IsReady (image_disk made.now) made.left d (descriptor_field (new_entry name n))
    ready_entry = subst (IsReady (image_disk made.now) made.left d) (sym number) (made.ready d)

    pub may_enter_it : (bytes : List ℕ) → bytes ≡ new_entry name n → MayEnter mid d place bytes
    may_enter_it bytes same = subst (MayEnter mid d place) (sym same) (record {
      content = made.left;
      on = on_mid;
      dir = dir;
      is = left_file;
      directory = directory;
      place_is = absent.free_is;
      new = may_enter dir.contents name place n named proper absent.nowhere;
      ready = ready_entry;
      room = subst (λ x. HasClusterRoom x dir place 0) (sym left_is) enough_left;
    })

    its_free : is_free_in v (n / k) ≡ true
    its_free = here_free n file new

    its_facts : (c : ℕ) → is_free_in v c ≡ true → (v.lost c ≡ false) × Unused (shape v) v.files c
    its_facts = facts n file new

    no_file : v.files n ≡ None
    no_file = none_from (v.files n) (λ f at.
        both_ways (has_cluster (shape v) n f (n / k)) ((its_facts (n / k) its_free).1 n f at)
        (cluster_from_owns (shape v) n f n (owns_own (shape v) n f n (or_left (n == n) (has (sectors_of f.segments) n) (eq-eqb n n refl)))))

    apart : n ≢ d
    apart same = none-some dir (sym no_file ∙ ap v.files same ∙ is)

    free_no_map : (s : ℕ) → is_free_in v (s / k) ≡ true → ¬ IsMapSector (image_geometry made.image) s
    free_no_map s free = subst (λ i. ¬ IsMapSector (image_geometry i) s) (same_Some on.image made.image (sym on.is ∙ made.was)) (no_map n file new s free)

    d_no_map : ¬ IsMapSector (image_geometry made.image) d
    d_no_map map =
        let inside_map = map.within in
        let same : map_sectors (image_geometry made.image) ≡ map_sectors g = ap map_sectors (image_same ∙ sym shape1 ∙ volume_shape) in
        let past_it = own_after g (sector on.image) v on.vol.sound d dir d is (or_left (d == d) (has (sectors_of dir.segments) d) (eq-eqb d d refl)) in
        absurd (omega arith)

    -- the directory's descriptor is as it was read
    pub read_still : (loaded : Loaded) → IsDescriptorLoaded m0 d loaded → IsDescriptorLoaded mid d loaded
    read_still loaded read = record {
      number_is = read.number_is;
      bytes_are = read.bytes_are ∙ ap (λ m. sector_at m d) made.was ∙ sym (made.writes.others d d_no_map (λ same. apart (sym same))) ∙ sym (ap (λ m. sector_at m d) made.is);
      list_is = read.list_is;
      says = λ w f on_w is_w.
          subst (λ x. IsFdOf x loaded.file) (same_Some dir f (sym left_file ∙ ap (λ (x : DiskVolume). x.files d) (same_content mid made.left w on_mid on_w) ∙ is_w)) (read.says v dir on is);
    }

    pub calls_left : entry_calls made.left dir ≡ entry_calls v dir
    calls_left = ap (λ x. entry_calls x dir) left_is

    -- the entry is in the directory
    pub entered : refusal_of v dir e ≡ None → (m1 : Option (List ℕ)) → IsEntryWritten made.left appending mid m1 → IsEnteredOn v dir e m0 m1 n
    entered allowed m1 done0 =
        record {
          allowed = allowed;
          image = made.image;
          now = done.now;
          was = made.was;
          is = done.is;
          after = done.after;
          vol = done.vol;
          enters = record { both = both_then; volume = volume_is };
          filled =
              subst (λ p. sector done.now (sector_of_place put_in.new.segments p) ≡ put_at
              (sector made.image (sector_of_place put_in.new.segments p)) (32 * (p % 8)) (new_entry name n))
              absent.free_is
              (done.writes.filled ∙ ap (λ b. put_at b (32 * (place % 8)) (new_entry name n)) (image_at ∙ made.writes.others (sector_of_place put_in.new.segments place) no_map_then apart_then_n));
          others = λ s none out other differ.
              done.writes.others s (λ map. none (subst (λ h. IsMapSector h s) (ap image_geometry same_image ∙ sym image_same) map)) other
              (λ same. differ (same ∙ ap (sector_of_place put_in.new.segments) absent.free_is))
              ∙ ap (λ i. sector i s) same_image
              ∙ made.writes.others s none (λ same. (not_has_first n (take (sector_count (length file.contents)) (sectors_of file.segments)) s out).0 (sym same));
          list =
              subst IsNewList (sym (done.writes.others n (λ map. free_no_map n its_free
              (subst (λ h. IsMapSector h n) (ap image_geometry same_image ∙ sym image_same) map)) apart
              (λ same. apart_then_n (sym same)) ∙ ap (λ i. sector i n) same_image)) made.made.rest;
          kept_list = subst (λ b. KeepsListEnd b (sector done.now d)) (ap (λ i. sector i d) same_image ∙ made.writes.others d d_no_map (λ same. apart (sym same))) done.writes.list;
          end = λ c behind.
              subst (λ i. KeepsMapEnd i done.now (λ _. false)) same_image done.writes.end c
              (record { not_whole = subst (λ h. h.total / h.cluster ≤ c) image_same behind.not_whole; in_map = subst (λ h. c < 2048 * map_sectors h) image_same behind.in_map })
              ∙ and_not_false (is_marked (sector made.now) c) ∙ made.writes.end c behind;
        }
      where
        done : IsEntryWritten u appending mid m1
        done = subst (λ x. IsEntryWritten x appending mid m1) left_is done0

        same_image : done.image ≡ made.now
        same_image = same_Some done.image made.now (sym done.was ∙ made.is)

        put_in : EntryIsPut u done.after (sector done.image) d place (new_entry name n) now
        put_in = done.put

        old_is : put_in.old ≡ dir
        old_is = same_Some put_in.old dir (sym put_in.is ∙ is)

        written_then : WritesFile k (free_then n file) (32 * place) (new_entry name n) now put_in.old put_in.new
        written_then = subst (λ f. WritesFile k f (32 * place) (new_entry name n) now put_in.old put_in.new) free_is put_in.written

        both_then : IsFileEntered v d n name plan
        both_then = record {
          old = put_in.old;
          new = put_in.new;
          file = file;
          is = put_in.is;
          made = new;
          entry = subst (λ p. WritesFile k (free_then n file) (32 * p) (new_entry name n) now put_in.old put_in.new) (absent.free_is ∙ ap (λ f. entry_place f.contents) (sym old_is)) written_then;
        }

        choice_then : IsChoice k (free_then n file) dir.segments (length (written dir.contents (32 * place) (new_entry name n))) written_then.gained
        choice_then = subst (λ f. IsChoice k (free_then n file) f.segments (length (written f.contents (32 * place) (new_entry name n))) written_then.gained) old_is written_then.choice

        segments_then : put_in.new.segments ≡ with_clusters k dir.segments written_then.gained
        segments_then = ap (λ f. f.segments) written_then.file ∙ ap (λ f. with_clusters k f.segments written_then.gained) old_is

        at_is : sector_of_place put_in.new.segments place ≡ sector_of_place (with_clusters k dir.segments written_then.gained) place
        at_is = ap (λ xs. sector_of_place xs place) segments_then

        no_map_then : ¬ IsMapSector (image_geometry made.image) (sector_of_place put_in.new.segments place)
        no_map_then = subst (λ s. ¬ IsMapSector (image_geometry made.image) s) (sym at_is) (at_no_map n file new written_then.gained choice_then made.image made.was)

        apart_then_n : sector_of_place put_in.new.segments place ≢ n
        apart_then_n same = at_apart n file new written_then.gained choice_then (sym at_is ∙ same)

        image_at : sector done.image (sector_of_place put_in.new.segments place) ≡ sector made.now (sector_of_place put_in.new.segments place)
        image_at = ap (λ i. sector i (sector_of_place put_in.new.segments place)) same_image

        file_is : file_at (sector done.image) n ≡ file
        file_is = ap (λ i. file_at (sector i) n) same_image ∙ made.made.shown

        lost_same : (c : ℕ) → (with_file (shape v) (replaced u d (Some put_in.new)) n (Some file)).lost c ≡ v.lost c
        lost_same c =
            pick (its c) (in_file (shape v) n (put_file v.files d (Some put_in.new) n) c) (is_whole (shape v) c) (v.lost c)
            (ap (λ o. in_file (shape v) n o c) (put_file_beside v.files d (Some put_in.new) n apart ∙ no_file))
            (λ h. (its_facts c (made.fresh c h)).0)
          where
            pick : (h t whole_one l : Bool) → t ≡ false → (h ≡ true → l ≡ false) → (if h then false else (if t then whole_one else (l || h))) ≡ l
            pick true t whole_one l none_in none = sym (none refl)
            pick false true whole_one l none_in none = absurd (cc none_in)
            pick false false whole_one true none_in none = refl
            pick false false whole_one false none_in none = refl

        volume_is : done.after ≡ replaced (replaced v d (Some put_in.new)) n (Some file)
        volume_is =
            put_in.volume
            ∙ ap (λ m. with_file (shape v) (replaced u d (Some put_in.new)) m (Some (file_at (sector done.image) m))) number
            ∙ ap (λ f. with_file (shape v) (replaced u d (Some put_in.new)) n (Some f)) file_is
            ∙ ap (λ lost. record { ident = v.ident; files = put_file (put_file v.files d (Some put_in.new)) n (Some file); lost = lost; rest = v.rest }) (fun_ext lost_same)
