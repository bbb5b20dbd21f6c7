-- Each change keeps a volume in order, where it is done and where a fault of the drive has ended it.
use Rattle.std.proofs.Common.{◌≡◌, ◌≢◌, ℕ, ◌+◌, ◌-◌, ◌*◌, ◌/◌, ◌<◌, ◌≤◌, min, ◌==◌, Bool, true, false, Option, Some, None, List, [], ◌++◌, length, take, drop, refl, sym, ap, ◌∙◌, subst, arith, leb-true, le-leb, length-take, length-drop, length-append}
use Rattle.std.specs.Prelude.{if◌then◌else◌}
use Rattle.std.proofs.lemmas.List.FromFn.{length-map-range_with_len}
use Rattle.std.proofs.lemmas.List.Quantifiers.{position-Some}
use Rattle.std.proofs.lemmas.Option.{none-some, same_Some}
use Rattle.os9_base.specs.declared.registers.TimePacket.{TimePacket}
use Rattle.rbf_model.specs.Fields.{directory_entry}
use Rattle.rbf_model.specs.File.{DiskFile, is_directory}
use Rattle.rbf_model.specs.Geometry.{geometry}
use Rattle.rbf_model.specs.Laws.{with_directory_entry}
use Rattle.rbf_model.specs.Segments.{sectors_of, shortened_segments}
use Rattle.rbf_model.specs.Volume.{DiskVolume}
use Rattle.rbf_model.specs.Walk.{directory_entries, entry_has_name}
use Rattle.rbf_model.specs.Writes.{put_at}
use Rattle.rbf_segs.proofs.Runs.{length-shortened, sectors_of-shortened}
use Rattle.rbf_change.specs.Calls.{SizesFile, cluster_size, cuts, lengthens, minute_of, replaced, shape, stays}
use Rattle.rbf_change.specs.Contents.{sector_count}
use Rattle.rbf_change.specs.Cut.{cut_file, kept_count}
use Rattle.rbf_change.specs.Faults.{DeletionEnds, IsWriteFront, MayLose, NewFileEnds, SizeEnds, before, cut, end, gone, longer, none, sector, taken, with_front}
use Rattle.rbf_change.specs.Growth.{IsChoice, with_clusters}
use Rattle.rbf_change.specs.Names.{freed_entry, place_of}
use Rattle.rbf_change.specs.NewFiles.{Deletes, EntersNewFile, Plan, directory_plan, file_plan}
use Rattle.file_rules.specs.Change.{Change, AppliesChange, ChangeMayLeave, creates, deletes, makes_directory, sets_attributes, sizes, writes}
use Rattle.file_laws.proofs.Kept.{AllStill, Still}
use Rattle.file_laws.proofs.Volumes.{all-same, attributes-kind, changes-still, deleted-still, deletion-still, entered-still, new-file-still, size-kind, size-still, write-still}
use Rattle.run_laws.specs.InOrder.{DeletesNoDirectory, IsDescribable, IsInOrder}
use Rattle.run_laws.proofs.Sizes.{choice-holds, length-put, length-resized}

-- ---- files that a descriptor can describe

-- each of some files is one
abbrev Held : (ℕ → Option DiskFile) → Type 0
Held files = (n : ℕ) (file : DiskFile) → files n ≡ Some file → IsDescribable file

held-by : (file : DiskFile) → length file.contents ≤ 256 * length (sectors_of file.segments) → length file.segments ≤ 48 → IsDescribable file
held-by file room few =
    record { room = le-leb (length file.contents) (256 * length (sectors_of file.segments)) room; few = few }

room-of : (file : DiskFile) → IsDescribable file → length file.contents ≤ 256 * length (sectors_of file.segments)
room-of file held = leb-true (length file.contents) (256 * length (sectors_of file.segments)) held.room

-- a file as long as another one, with the same segments
held-as : (old new : DiskFile) → length new.contents ≤ length old.contents → new.segments ≡ old.segments → IsDescribable old → IsDescribable new
held-as old new short same held =
    let had : length (sectors_of new.segments) ≡ length (sectors_of old.segments) = ap (λ (segments : List (ℕ × ℕ)). length (sectors_of segments)) same in
    let many : length new.segments ≡ length old.segments = ap (λ (segments : List (ℕ × ℕ)). length segments) same in
    held-by new (omega (arith, short, had, room-of old held)) (omega (arith, many, held.few))

held-put : (v : DiskVolume) (n : ℕ) (new : Option DiskFile) → ((file : DiskFile) → new ≡ Some file → IsDescribable file) → Held v.files → Held (replaced v n new).files
held-put v n new fits held m file is = by_number (m == n) is
  where
    by_number : (same : Bool) → (if same then new else v.files m) ≡ Some file → IsDescribable file
    by_number true is = fits file is
    by_number false is = held m file is

held-file : (v : DiskVolume) (n : ℕ) (new : DiskFile) → IsDescribable new → Held v.files → Held (replaced v n (Some new)).files
held-file v n new fits = held-put v n (Some new) (λ file is. subst IsDescribable (same_Some new file is) fits)

held-none : (v : DiskVolume) (n : ℕ) → Held v.files → Held (replaced v n None).files
held-none v n = held-put v n None (λ file is. absurd (none-some file is))

held-same : (v w : DiskVolume) → w ≡ v → Held v.files → Held w.files
held-same v w same held = subst (λ (u : DiskVolume). Held u.files) (sym same) held

held-lost : (v w : DiskVolume) (clusters : ℕ → Bool) → MayLose v w clusters → Held v.files → Held w.files
held-lost v w clusters lose held = subst (λ (u : DiskVolume). Held u.files) (sym lose.same) held

-- ---- one file

-- a file that has gained what a size needs has room for it
held-choice : (k : ℕ) (free : ℕ → Bool) (segments : List (ℕ × ℕ)) (size : ℕ) (gained : List ℕ) (new : DiskFile) → 0 < k → IsChoice k free segments size gained → length new.contents ≡ size
    → new.segments ≡ with_clusters k segments gained → IsDescribable new
held-choice k free segments size gained new some choice long is =
    let room = choice-holds k free segments size gained some choice in
    let had : length (sectors_of new.segments) ≡ length (sectors_of (with_clusters k segments gained)) = ap (λ (segments : List (ℕ × ℕ)). length (sectors_of segments)) is in
    let many : length new.segments ≡ length (with_clusters k segments gained) = ap (λ (segments : List (ℕ × ℕ)). length segments) is in
    held-by new (omega (arith, room, long, had)) (omega (arith, choice.fits, many))

held-cut : (k n size : ℕ) (now : List ℕ) (old : DiskFile) → size < length old.contents → IsDescribable old → IsDescribable (cut_file k n old size now)
held-cut k n size now old less held =
    let kept = kept_count k n old size in
    let long : length (sectors_of (shortened_segments kept old.segments)) ≡ min kept (length (sectors_of old.segments)) = ap length (sectors_of-shortened kept old.segments)
    ∙ length-take kept (sectors_of old.segments) in
    let most : sector_count size ≤ kept = omega arith in
    let short : length (take size old.contents) ≤ size = omega (arith, length-take size old.contents) in
    held-by (cut_file k n old size now) (omega (arith, long, most, short, less, room-of old held)) (omega (arith, length-shortened kept old.segments, held.few))

held-size : (k : ℕ) (free : ℕ → Bool) (n size : ℕ) (now : TimePacket) (old new : DiskFile) → 0 < k → SizesFile k free n size now old new → IsDescribable old → IsDescribable new
held-size k free n size now old _ some (stays same) held = held
held-size k free n size now old new some (lengthens less it) held =
    held-choice k free old.segments size it.gained new some it.choice
    (ap (λ (file : DiskFile). length file.contents) it.file ∙ length-resized old.contents size)
    (ap (λ (file : DiskFile). file.segments) it.file)
held-size k free n size now old _ some (cuts more) held = held-cut k n size (minute_of now) old more held

-- an entry of a directory that is made free
freed-long : (contents name : List ℕ) (i : ℕ) → place_of contents name ≡ Some i → length (put_at contents (32 * i) (freed_entry (directory_entry contents i))) ≤ length contents
freed-long contents name i is =
    let found = (position-Some (entry_has_name name) (directory_entries contents) i [] is).0 in
    let many : length (directory_entries contents) ≡ length contents / 32 = length-map-range_with_len (directory_entry contents) 0 (length contents / 32) in
    let rest : length (drop (32 * i) contents) ≡ length contents - 32 * i = length-drop (32 * i) contents in
    let whole : length (directory_entry contents i) ≡ min 32 (length (drop (32 * i) contents)) = length-take 32 (drop (32 * i) contents) in
    let freed : length (drop 1 (directory_entry contents i)) ≡ length (directory_entry contents i) - 1 = length-drop 1 (directory_entry contents i) in
    let put = length-put contents (freed_entry (directory_entry contents i)) (32 * i) (omega (arith, found, many)) in
    omega (arith, found, many, rest, whole, freed, put)

held-deleted : (v w : DiskVolume) (d n : ℕ) (name : List ℕ) → Deletes v w d n name → Held v.files → Held w.files
held-deleted v w d n name it held =
    let old = it.drops.old in
    let same : it.dir ≡ old = same_Some it.dir old (sym it.is ∙ it.drops.is) in
    let place : place_of old.contents name ≡ Some it.place = subst (λ (dir : DiskFile). place_of dir.contents name ≡ Some it.place) same it.there in
    let new = with_directory_entry old it.place (freed_entry (directory_entry old.contents it.place)) in
    held-same (replaced (replaced v d (Some new)) n None) w it.drops.volume
    (held-none (replaced v d (Some new)) n (held-file v d new (held-as old new (freed-long old.contents name it.place place) refl (held d old it.drops.is)) held))

-- ---- where it is done

held-entered : (v w : DiskVolume) (d n : ℕ) (name : List ℕ) (plan : Plan) → 0 < cluster_size v → EntersNewFile v w d n name plan → Held v.files → Held w.files
held-entered v w d n name plan some it held =
    let both = it.both in
    held-same (replaced (replaced v d (Some both.new)) n (Some both.file)) w it.volume
    (held-file (replaced v d (Some both.new)) n both.file
    (held-choice (cluster_size v) _ _ (length plan.contents) both.made.gained both.file some both.made.choice (ap (λ (file : DiskFile). length file.contents) both.made.is)
    (ap (λ (file : DiskFile). file.segments) both.made.is))
    (held-file v d both.new
    (held-choice (cluster_size v) _ _ _ both.entry.gained both.new some both.entry.choice (ap (λ (file : DiskFile). length file.contents) both.entry.file)
    (ap (λ (file : DiskFile). file.segments) both.entry.file)) held))

held-made : (change : Change) (user : ℕ) (now : TimePacket) (v w : DiskVolume) (number : ℕ) → 0 < cluster_size v → AppliesChange change user now v w number → Held v.files → Held w.files
held-made (writes n at bytes) user now v w number some it held =
    held-same (replaced v n (Some it.new)) w it.volume
    (held-file v n it.new
    (held-choice (cluster_size v) _ it.old.segments _ it.changed.gained it.new some it.changed.choice (ap (λ (file : DiskFile). length file.contents) it.changed.file)
    (ap (λ (file : DiskFile). file.segments) it.changed.file)) held)
held-made (sizes n size) user now v w number some it held =
    held-same (replaced v n (Some it.new)) w it.volume
    (held-file v n it.new (held-size (cluster_size v) _ n size now it.old it.new some it.changed (held n it.old it.is)) held)
held-made (sets_attributes n attributes) user now v w number some it held =
    let long : length it.new.contents ≡ length it.old.contents = ap (λ (file : DiskFile). length file.contents) it.changed in
    held-same (replaced v n (Some it.new)) w it.volume
    (held-file v n it.new (held-as it.old it.new (omega (arith, long)) (ap (λ (file : DiskFile). file.segments) it.changed) (held n it.old it.is)) held)
held-made (creates d name attributes) user now v w number some it held =
    held-entered v w d number name (file_plan attributes user now) some it held
held-made (makes_directory d name attributes) user now v w number some it held =
    held-entered v w d number name (directory_plan attributes user now d number) some it held
held-made (deletes d n name) user now v w number some it held = held-deleted v w d n name it held

-- ---- where a fault has ended it

front-long : (contents bytes : List ℕ) (at count : ℕ) → IsWriteFront (length contents) at bytes count → length (put_at contents at (take count bytes)) ≤ length contents
front-long contents bytes at _ none =
    let front : length (take at contents) ≡ min at (length contents) = length-take at contents in
    let rest : length (drop (at + 0) contents) ≡ length contents - (at + 0) = length-drop (at + 0) contents in
    let both : length (take at contents ++ []) ≡ length (take at contents) + 0 = length-append (take at contents) [] in
    let all : length ((take at contents ++ []) ++ drop (at + 0) contents) ≡ length (take at contents ++ []) + length (drop (at + 0) contents) =
    length-append (take at contents ++ []) (drop (at + 0) contents) in
    omega (arith, front, rest, both, all)
front-long contents bytes at count (sector fewer low place) =
    let long : length (take count bytes) ≡ min count (length bytes) = length-take count bytes in
    let put = length-put contents (take count bytes) at (omega (arith, low)) in
    omega (arith, long, put, low, fewer)
front-long contents bytes at count (end fewer last) =
    let long : length (take count bytes) ≡ min count (length bytes) = length-take count bytes in
    let put = length-put contents (take count bytes) at (omega (arith, last)) in
    omega (arith, long, put, last, fewer)

held-size_ends : (image : List ℕ) (v w : DiskVolume) (n size : ℕ) (now : TimePacket) → SizeEnds image v w n size now → Held v.files → Held w.files
held-size_ends image v w n size now (before same) held = held-same v w same held
held-size_ends image v w n size now (longer it) held = held-lost v w _ it.volume held
held-size_ends image v w n size now (cut it) held =
    held-lost (replaced v n (Some it.new)) w _ it.volume
    (held-file v n it.new (subst IsDescribable (sym it.cut) (held-cut (cluster_size v) n size (minute_of now) it.old it.shorter (held n it.old it.is))) held)

held-new_ends : (v w : DiskVolume) (d : ℕ) (name : List ℕ) (plan : ℕ → Plan) → NewFileEnds v w d name plan → Held v.files → Held w.files
held-new_ends v w d name plan (before same) held = held-same v w same held
held-new_ends v w d name plan (taken it) held = held-lost v w _ it.volume held

held-deletion_ends : (image : List ℕ) (v w : DiskVolume) (d n : ℕ) (name : List ℕ) → DeletionEnds image v w d n name → Held v.files → Held w.files
held-deletion_ends image v w d n name (before same) held = held-same v w same held
held-deletion_ends image v w d n name (gone {u = u} it there lose unfinished) held =
    held-lost u w _ lose (held-deleted v u d n name it held)

held-left : (change : Change) (user : ℕ) (now : TimePacket) (v w : DiskVolume) → ChangeMayLeave change user now v w → Held v.files → Held w.files
held-left (writes n at bytes) user now v w it held =
    held-lost (replaced v n (Some (with_front it.old at bytes it.count))) w _ it.volume
    (held-file v n (with_front it.old at bytes it.count)
    (held-as it.old (with_front it.old at bytes it.count) (front-long it.old.contents bytes at it.count it.front) refl (held n it.old it.is)) held)
held-left (sizes n size) user now v w it held = held-size_ends it.0 v w n size now it.2 held
held-left (sets_attributes n attributes) user now v w it held = held-same v w it held
held-left (creates d name attributes) user now v w it held =
    held-new_ends v w d name (λ n. file_plan attributes user now) it held
held-left (makes_directory d name attributes) user now v w it held =
    held-new_ends v w d name (directory_plan attributes user now d) it held
held-left (deletes d n name) user now v w it held = held-deletion_ends it.0 v w d n name it.2 held

-- ---- the root

-- the identification sector stays, and this file is there
record StaysThere (v w : DiskVolume) (n : ℕ) : Type 0 where
  pub ident : w.ident ≡ v.ident
  pub file : Still v w n

all-there : (v w : DiskVolume) (n : ℕ) → AllStill v w → StaysThere v w n
all-there v w n all = record { ident = all.ident; file = all.files n }

-- a directory is not the file that is deleted
not-deleted : (v : DiskVolume) (n root : ℕ) (file : DiskFile) → v.files root ≡ Some file → is_directory file ≡ true
    → ((file : DiskFile) → v.files n ≡ Some file → is_directory file ≡ true → ⊥) → root ≢ n
not-deleted v n root file there kind plain same = plain file (ap v.files (sym same) ∙ there) kind

module _ (v w : DiskVolume) (order : IsInOrder v) where
  root-made : (change : Change) (user : ℕ) (now : TimePacket) (number : ℕ) → 0 < cluster_size v → DeletesNoDirectory change v → AppliesChange change user now v w number → StaysThere v w (shape v).root
  root-made (writes n at bytes) user now number some plain it =
      all-there v w (shape v).root (changes-still _ (λ old new is. ap (λ (file : DiskFile). is_directory file) is.file) v w n it)
  root-made (sizes n size) user now number some plain it =
      all-there v w (shape v).root (changes-still _ (λ old new is. size-kind (cluster_size v) _ n size now old new is) v w n it)
  root-made (sets_attributes n attributes) user now number some plain it =
      all-there v w (shape v).root
      (changes-still _ (λ old new is. ap (λ (file : DiskFile). is_directory file) is ∙ attributes-kind old.attributes attributes) v w n it)
  root-made (creates d name attributes) user now number some plain it =
      all-there v w (shape v).root (entered-still v w d number name (file_plan attributes user now) some it)
  root-made (makes_directory d name attributes) user now number some plain it =
      all-there v w (shape v).root (entered-still v w d number name (directory_plan attributes user now d number) some it)
  root-made (deletes d n name) user now number some plain it =
      let others = deleted-still v w d n name it in
      record {
        ident = others.ident;
        file = others.files (shape v).root (not-deleted v n (shape v).root order.root order.there order.directory plain);
      }

  root-left : (change : Change) (user : ℕ) (now : TimePacket) → DeletesNoDirectory change v → ChangeMayLeave change user now v w → StaysThere v w (shape v).root
  root-left (writes n at bytes) user now plain it = all-there v w (shape v).root (write-still v w n at bytes it)
  root-left (sizes n size) user now plain it = all-there v w (shape v).root (size-still it.0 v w n size now it.2)
  root-left (sets_attributes n attributes) user now plain it = all-there v w (shape v).root (all-same v w it)
  root-left (creates d name attributes) user now plain it =
      all-there v w (shape v).root (new-file-still v w d name (λ n. file_plan attributes user now) it)
  root-left (makes_directory d name attributes) user now plain it =
      all-there v w (shape v).root (new-file-still v w d name (directory_plan attributes user now d) it)
  root-left (deletes d n name) user now plain it =
      let others = deletion-still it.0 v w d n name it.2 in
      record {
        ident = others.ident;
        file = others.files (shape v).root (not-deleted v n (shape v).root order.root order.there order.directory plain);
      }

  ordered : Held w.files → StaysThere v w (shape v).root → IsInOrder w
  ordered held stay =
      let it = stay.file order.root order.there in
      record {
        files = held;
        root = it.file;
        there = ap (λ (ident : List ℕ). w.files (geometry ident).root) stay.ident ∙ it.there;
        directory = it.kind ∙ order.directory;
      }

  -- a change keeps a volume in order
  pub order-made : (change : Change) (user : ℕ) (now : TimePacket) (number : ℕ) → 0 < cluster_size v → DeletesNoDirectory change v → AppliesChange change user now v w number → IsInOrder w
  order-made change user now number some plain it =
      ordered (held-made change user now v w number some it order.files) (root-made change user now number some plain it)

  -- and so does one that a fault has ended
  pub order-left : (change : Change) (user : ℕ) (now : TimePacket) → DeletesNoDirectory change v → ChangeMayLeave change user now v w → IsInOrder w
  order-left change user now plain it =
      ordered (held-left change user now v w it order.files) (root-left change user now plain it)
