-- A file whose attributes are others.
use Rattle.std.proofs.Common.{◌≡◌, ℕ, ◌==◌, ◌+◌, ◌-◌, ◌*◌, ◌/◌, ◌%◌, ◌<◌, ◌≤◌, Bool, true, false, Option, Some, None, Result, Err, IsSome, List, [], ◌∷◌, ◌++◌, length, take, drop, get_or, map, take_while, cond, refl, ap, ap₂, sym, subst, ◌∙◌, ◌⊎◌, inl, inr, ⊎_elim, arith, append_assoc, length-append, length-take}
use mathlib.Core.Path.{fun_ext}
use Rattle.std.specs.Prelude.{slice_index}
use Rattle.std.specs.List.{range_with_len}
use Rattle.std.specs.Int.{bit_at}
use Rattle.std.proofs.lemmas.Bool.{cases_Bool, cond-true, cond-false, false_from_ne_true, false≢true, both_ways}
use Rattle.std.proofs.lemmas.List.{get_or_append_left, get_or-append_right, get_or-take, get_or-drop, take_at, drop_at}
use Rattle.os9_base.specs.declared.registers.TimePacket.{TimePacket}
use Rattle.os9_outer.specs.Drive.{sector_at, with_sector}
use Rattle.rbf_model.specs.Disk.{disk_of}
use Rattle.rbf_model.specs.Fields.{attributes_field, owner_field, modified_field, links_field, size_field, created_field, segment_field, segments_field, has_sectors}
use Rattle.rbf_model.specs.File.{DiskFile, file_from, file_at, segment_bytes, has_room, is_directory}
use Rattle.rbf_model.specs.Geometry.{Geometry, image_geometry, sector, LieWithin}
use Rattle.rbf_model.specs.Laws.{Describes, Redescribes}
use Rattle.rbf_model.specs.Segments.{AreDistinct}
use Rattle.rbf_model.specs.Space.{is_whole, has_cluster}
use Rattle.rbf_model.specs.Volume.{DiskVolume, Vol, in_file}
use Rattle.rbf_model.specs.Writes.{put_at, put_file, put_sector, lost_after, with_file}
use Rattle.rbf_model.proofs.Change.{owned_is, has_cluster_is}
use Rattle.rbf_model.proofs.Described.{past_descriptor}
use Rattle.rbf_model.proofs.Free.{in_file_at, number_below}
use Rattle.rbf_model.proofs.ImageLaws.{describe_image}
use Rattle.rbf_model.proofs.Pieces.{length-put_at}
use Rattle.rbf_model.proofs.SectorBytes.{length_of_file}
use Rattle.rbf_sector.specs.Parts.{KeepsBeside}
use Rattle.rbf_sector.proofs.Written.{number_kept, byte_kept, bytes_kept, puts_beside, puts_there}
use Rattle.rbf_sector.specs.declared.fd.Fd.{Fd}
use Rattle.rbf_change.specs.Calls.{replaced, minute_of, changed_attributes, with_attributes, SetsAttributes}
use Rattle.rbf_change.specs.NewFiles.{owns_file}
use Rattle.rbf_access.specs.Mounted.{HasFile}
use Rattle.rbf_access.specs.Reading.{IsFdOf, OnFile}
use Rattle.rbf_access.proofs.Counting.{counts_then, counts_most}
use Rattle.rbf_access.proofs.Reading.{IsReadFrom, fd_of}
use Rattle.rbf_access.specs.Drive.{DriveCounts, MovesCounts}
use Rattle.rbf_access.specs.Faults.{file_fault}
use Rattle.rbf_access.specs.declared.faults.FileFault.{FileFault}
use Rattle.rbf_access.specs.declared.faults.FileFault.TheVariants.{Device, NoCluster, TooManyRuns}
use Rattle.rbf_walk.specs.Walk.{directory_fault}
use Rattle.rbf_walk.specs.declared.error.DirError.{DirError}
use Rattle.rbf_walk.specs.declared.error.DirError.TheVariants.{File}
use Rattle.rbf_entries.specs.Becomes.{Becomes}
use Rattle.rbf_entries.specs.Attributes.{attributed, attribute_calls, with_new_attributes, AnswersOwner}
use Rattle.rbf_entries.proofs.Stored.{IsStored}

-- a descriptor with other attributes
module _ (d : List ℕ) (attributes : ℕ) (now : TimePacket) (whole : length d ≡ 256) where
  abbrev value : ℕ
  value = changed_attributes (slice_index d 0) attributes

  abbrev mid : List ℕ
  mid = put_at d 0 (value ∷ [])

  first : KeepsBeside d mid 0 1
  first = puts_beside d mid (value ∷ []) 0 (omega arith) refl

  mid_whole : length mid ≡ 256
  mid_whole = length-put_at d (value ∷ []) 0 (omega arith) ∙ whole

  second : KeepsBeside mid (attributed d attributes now) 3 5
  second = puts_beside mid (attributed d attributes now) (minute_of now) 3 (let size = mid_whole in omega arith) refl

  pub attributed_whole : length (attributed d attributes now) ≡ 256
  attributed_whole = length-put_at mid (minute_of now) 3 (let size = mid_whole in omega arith) ∙ mid_whole

  attributes_are : attributes_field (attributed d attributes now) ≡ value
  attributes_are = byte_kept mid (attributed d attributes now) 3 5 0 second (inl (omega arith))

  modified_are : modified_field (attributed d attributes now) ≡ minute_of now
  modified_are = puts_there mid (attributed d attributes now) (minute_of now) 3 (let size = mid_whole in omega arith) refl

  owner_same : owner_field (attributed d attributes now) ≡ owner_field d
  owner_same = number_kept mid (attributed d attributes now) 3 5 1 2 second (inl (omega arith)) ∙ number_kept d mid 0 1 1 2 first (inr (omega arith))

  links_same : links_field (attributed d attributes now) ≡ links_field d
  links_same = byte_kept mid (attributed d attributes now) 3 5 8 second (inr (omega arith)) ∙ byte_kept d mid 0 1 8 first (inr (omega arith))

  pub size_same : size_field (attributed d attributes now) ≡ size_field d
  size_same = number_kept mid (attributed d attributes now) 3 5 9 4 second (inr (omega arith)) ∙ number_kept d mid 0 1 9 4 first (inr (omega arith))

  created_same : created_field (attributed d attributes now) ≡ created_field d
  created_same = bytes_kept mid (attributed d attributes now) 3 5 13 3 second (inr (omega arith)) ∙ bytes_kept d mid 0 1 13 3 first (inr (omega arith))

  pair_same : (i : ℕ) → segment_field (attributed d attributes now) i ≡ segment_field d i
  pair_same i =
      ap₂ (λ x y. (x, y))
      (number_kept mid (attributed d attributes now) 3 5 (16 + 5 * i) 3 second (inr (omega arith)) ∙ number_kept d mid 0 1 (16 + 5 * i) 3 first (inr (omega arith)))
      (number_kept mid (attributed d attributes now) 3 5 (19 + 5 * i) 2 second (inr (omega arith)) ∙ number_kept d mid 0 1 (19 + 5 * i) 2 first (inr (omega arith)))

  pub segments_same : segments_field (attributed d attributes now) ≡ segments_field d
  unfolding segments_field
  segments_same = ap (λ (f : ℕ → ℕ × ℕ). take_while has_sectors (map f (range_with_len 0 48))) (fun_ext pair_same)

  -- the file that it describes
  pub file_is : (disk : ℕ → List ℕ) → file_from disk (attributed d attributes now) ≡ with_attributes (file_from disk d) attributes now
  file_is disk = λ i. record {
    attributes = attributes_are i;
    owner = owner_same i;
    modified = modified_are i;
    links = links_same i;
    created = created_same i;
    segments = segments_same i;
    contents = take (size_same i) (segment_bytes disk (segments_same i));
  }

-- the kind of the file stays
kind_bit : (old attributes : ℕ) → bit_at (changed_attributes old attributes) 7 ≡ bit_at old 7
kind_bit old attributes =
    let high : (128 * (old / 128) + attributes % 128) / 128 ≡ old / 128 = omega arith in
    ap (λ q. q % 2) high

module _ (media : Option (List ℕ)) (n attributes : ℕ) (now : TimePacket) (has : HasFile media n) where
  abbrev pub image : List ℕ
  image = has.on.image

  abbrev pub v : DiskVolume
  v = has.content

  abbrev pub g : Geometry
  g = image_geometry image

  abbrev pub news : List ℕ
  news = attributed (sector image n) attributes now

  abbrev pub changed : DiskFile
  changed = with_attributes has.file attributes now

  shown : has.file ≡ file_at (sector image) n
  shown = has.on.vol.sound.shows.shown n has.file has.is

  below : n < g.total
  below = let low = number_below g (sector image) v has.on.vol.sound n has.file has.is in omega arith

  descriptor_whole : length (sector image n) ≡ 256
  descriptor_whole = has.on.vol.sound.sectors n below

  described : file_from (sector image) news ≡ changed
  described = file_is (sector image n) attributes now descriptor_whole (sector image) ∙ ap (λ f. with_attributes f attributes now) (sym shown)

  segments_are : segments_field news ≡ has.file.segments
  segments_are = segments_same (sector image n) attributes now descriptor_whole ∙ ap (λ (f : DiskFile). f.segments) (sym shown)

  describes : Describes (disk_of g (sector image)) v n has.file news
  describes = record {
    is = has.is;
    within = subst (LieWithin g) (sym segments_are) (has.on.vol.sound.mapped.within n has.file has.is);
    distinct = subst AreDistinct (sym (owned_is g n (file_from (sector image) news) has.file segments_are)) (has.on.vol.sound.mapped.once n has.file has.is);
    room =
        ap₂ has_room segments_are (size_same (sector image n) attributes now descriptor_whole) ∙ has.on.vol.sound.shows.room n has.file has.is;
    clusters = λ c used. inr (sym (has_cluster_is g n (file_from (sector image) news) has.file c segments_are) ∙ used);
  }

  redescribes : Redescribes (disk_of g (sector image)) v n has.file news
  redescribes = record {
    describes = describes;
    kind = ap is_directory described ∙ ap (λ b. b == 1) (kind_bit has.file.attributes attributes);
    directory = λ _. (segments_are, size_same (sector image n) attributes now descriptor_whole ∙ sym (length_of_file g (sector image) v has.on.vol.sound n has.file has.is));
  }

  lost_stays : (c : ℕ) → lost_after g v.files v.lost n (Some changed) c ≡ v.lost c
  lost_stays c =
      ⊎_elim
      (λ used. cond-true (has_cluster g n changed c) _ _ used
      ∙ sym (false_from_ne_true (v.lost c) (λ l. both_ways _ (((has.on.vol.sound.mapped.lost_are c).0 l).unused n has.file has.is) (sym (has_cluster_is g n changed has.file c refl) ∙ used))))
      (λ unused. cond-false (has_cluster g n changed c) false (cond (in_file g n (v.files n) c) (is_whole g c) (v.lost c)) unused
      ∙ cond-false (in_file g n (v.files n) c) (is_whole g c) (v.lost c) (in_file_at g n (v.files n) has.file c has.is ∙ sym (has_cluster_is g n changed has.file c refl) ∙ unused))
      (cases_Bool (has_cluster g n changed c))

  volume_is : with_file g v n (Some (file_from (sector image) news)) ≡ replaced v n (Some changed)
  volume_is =
      ap (λ f. with_file g v n (Some f)) described
      ∙ ap (λ (l : ℕ → Bool). record { ident = v.ident; files = put_file v.files n (Some changed); lost = l; rest = v.rest }) (fun_ext lost_stays)

  pub attributes_stored : (after : Option (List ℕ)) → after ≡ with_new_attributes media n attributes now → IsStored media after v (replaced v n (Some changed))
  attributes_stored after is = record {
    on = has.on;
    lsn = n;
    bytes = news;
    whole = attributed_whole (sector image n) attributes now descriptor_whole;
    past = past_descriptor g (sector image) v has.on.vol.sound n has.file news (attributed_whole (sector image n) attributes now descriptor_whole) describes;
    below = below;
    is = is ∙ ap (λ m. with_sector media n (attributed (sector_at m n) attributes now)) has.on.is;
    vol = subst (Vol (put_sector image n news)) volume_is
        (describe_image image v has.on.vol n has.file news (attributed_whole (sector image n) attributes now descriptor_whole) redescribes);
  }

  pub attributes_set : SetsAttributes v (replaced v n (Some changed)) n attributes now
  attributes_set = record { old = has.file; new = changed; is = has.is; changed = refl; volume = refl }

-- the bytes that are written, as the code makes them
pub attributes_written : (media mid after : Option (List ℕ)) (n attributes : ℕ) (now : TimePacket) (bytes news : List ℕ) → bytes ≡ sector_at media n → mid ≡ media
    → news ≡ attributed bytes attributes now → after ≡ with_sector mid n news → after ≡ with_new_attributes media n attributes now
attributes_written media mid after n attributes now bytes news read same are wrote =
    wrote ∙ ap (λ m. with_sector m n news) same ∙ ap (with_sector media n) (are ∙ ap (λ b. attributed b attributes now) read)

-- whether the user may change them, as the code asks the descriptor that it has read
pub owner_known : (media : Option (List ℕ)) (n : ℕ) (bytes : List ℕ) (fd : Fd) → bytes ≡ sector_at media n → IsReadFrom bytes fd → (user : ℕ) (said : Bool)
    → ((of : DiskFile) → IsFdOf of fd → said ≡ owns_file of user) → (b : Bool) → said ≡ b → OnFile media n (λ file. owns_file file user ≡ b)
owner_known media n bytes fd are read user said asked b is v file on there = sym (asked file (fd_of media n bytes fd are read v file on there)) ∙ is

-- the descriptor is read for any user
pub first_call : (f : Option ℕ) (file : DiskFile) (user : ℕ) (s t : DriveCounts) → MovesCounts f 1 s t → MovesCounts f (attribute_calls file user) s t
first_call f file user s t one = counts_most f 1 (attribute_calls file user) s t (least (cases_Bool (owns_file file user))) one
  where
    least : (owns_file file user ≡ true) ⊎ (owns_file file user ≡ false) → 1 ≤ attribute_calls file user
    least (inl owns) = let two : attribute_calls file user ≡ 2 = cond-true (owns_file file user) 2 1 owns in omega arith
    least (inr other) = let first : attribute_calls file user ≡ 1 = cond-false (owns_file file user) 2 1 other in omega arith

-- and it is written for its owner
pub second_call : (f : Option ℕ) (file : DiskFile) (user : ℕ) (s t u : DriveCounts) → owns_file file user ≡ true → MovesCounts None 1 s t → MovesCounts f 1 t u
    → MovesCounts f (attribute_calls file user) s u
second_call f file user s t u owns one other =
    let two : attribute_calls file user ≡ 2 = cond-true (owns_file file user) 2 1 owns in
    counts_most f 2 (attribute_calls file user) s u (omega arith) (counts_then f 1 1 s t u one other)

-- the answer of a fault, whoever the user is
pub fault_answers : (A B : Type 0) (file : DiskFile) (user : ℕ) (fault : FileFault) (r : Result B DirError) → r ≡ Err (File fault) → IsSome (file_fault {A = A} (Err fault)) → AnswersOwner file user r
fault_answers A B file user fault r is device = subst (AnswersOwner file user) (sym is) (by_fault fault device)
  where
    by_fault : (f : FileFault) → IsSome (file_fault {A = A} (Err f)) → AnswersOwner {A = B} file user (Err (File f))
    by_fault (Device n) some = tt
    by_fault NoCluster some = absurd (false≢true some)
    by_fault TooManyRuns some = absurd (false≢true some)

pub fault_counts : (A B : Type 0) (fault : FileFault) (r : Result B DirError) (n : ℕ) (s t : DriveCounts) → r ≡ Err (File fault) → MovesCounts (file_fault {A = A} (Err fault)) n s t
    → MovesCounts (directory_fault r) n s t
fault_counts A B fault r n s t is moved = subst (λ f. MovesCounts f n s t) (sym (ap directory_fault is ∙ same_fault fault)) moved
  where
    same_fault : (f : FileFault) → directory_fault {A = B} (Err (File f)) ≡ file_fault {A = A} (Err f)
    same_fault (Device k) = refl
    same_fault NoCluster = refl
    same_fault TooManyRuns = refl

-- the same change, from where the descriptor has been read
pub becomes_after : (media mid now : Option (List ℕ)) (change : DiskVolume → DiskVolume → Type 0) → mid ≡ media → Becomes mid now change → Becomes media now change
becomes_after media mid now change same becomes = subst (λ m. Becomes m now change) same becomes
