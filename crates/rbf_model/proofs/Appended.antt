-- A write of a directory's descriptor with which a file comes into the volume.
use Rattle.std.proofs.Common.{◌≡◌, ◌≢◌, ℕ, ◌+◌, ◌%◌, ◌≤◌, ◌==◌, true, List, length, Some, None, refl, sym, ap, ◌∙◌, subst, ⊎_elim, arith, length-append, leb-true, le-leb, eqb-true, eq-eqb}
use Rattle.std.proofs.lemmas.Bool.{false_from_ne_true, or_left, cases_eq, and_parts, and_from}
use Rattle.std.proofs.lemmas.Option.{same_Some, none-some}
use Rattle.rbf_model.specs.Disk.{disk_of}
use Rattle.rbf_model.specs.Fields.{directory_entry, is_used}
use Rattle.rbf_model.specs.Geometry.{Geometry}
use Rattle.rbf_model.specs.Segments.{has, sectors_of}
use Rattle.rbf_model.specs.File.{DiskFile, file_from, file_at, is_directory_size}
use Rattle.rbf_model.specs.Space.{is_marked, own_sectors, IsMapped}
use Rattle.rbf_model.specs.Tree.{HasEntry}
use Rattle.rbf_model.specs.Volume.{DiskVolume, Sound}
use Rattle.rbf_model.specs.Writes.{put, put_file, lost_after, with_file, IsNewEntry}
use Rattle.rbf_model.specs.Laws.{AppendsEntry}
use Rattle.rbf_model.proofs.Change.{put_file_here, put_file_beside, put_file_cases}
use Rattle.rbf_model.proofs.Leaf.{tree_with_leaf}
use Rattle.rbf_model.proofs.Pieces.{ChangesEntry, entry_added, changes_added}
use Rattle.rbf_model.proofs.Owners.{owns_own, root_file}
use Rattle.rbf_model.proofs.Shown.{IsShown, disk_put, shown_at, ident_beside}
use Rattle.rbf_model.proofs.Described.{past_descriptor, shown_beside_descriptor, shown_described, mapped_described}
use Rattle.rbf_model.proofs.Ready.{ready_apart, ready_absent, mapped_comes}

-- a directory's size with one entry more
grown_size : (size : ℕ) → is_directory_size size ≡ true → is_directory_size (size + 32) ≡ true
grown_size size h =
    let parts = and_parts _ _ h in
    let low : 64 ≤ size = leb-true 64 size parts.0 in
    let even : size % 32 ≡ 0 = eqb-true (size % 32) 0 parts.1 in
    and_from _ _ (le-leb 64 (size + 32) (omega arith)) (eq-eqb ((size + 32) % 32) 0 (omega arith))

pub append_law : (g : Geometry) (disk : ℕ → List ℕ) (v : DiskVolume) → Sound (disk_of g disk) v → (d : ℕ) (dir : DiskFile) (bytes : List ℕ) → length bytes ≡ 256
    → (i : ℕ) (entry : List ℕ) (n : ℕ) → AppendsEntry (disk_of g disk) v (record { directory = d; file = dir; place = i; bytes = entry }) bytes n
    → Sound (disk_of g (put disk d bytes)) (with_file g (with_file g v d (Some (file_from disk bytes))) n (Some (file_at disk n)))
append_law g disk v sound d dir bytes whole i entry n appends = record {
  shape = sound.shape;
  sectors = disk_put g disk d bytes sound.sectors whole;
  shows = record {
    ident = ident_beside g disk v sound d bytes (let past = past_descriptor g disk v sound d dir bytes whole appends.describes in omega arith);
    shown = λ m other is. (shown m other is).same;
    room = λ m other is. (shown m other is).room;
  };
  mapped = mapped_comes g (is_marked (put disk d bytes)) (put_file v.files d (Some now)) (lost_after g v.files v.lost d (Some now)) mapped n (file_at disk n)
      appends.ready.clusters appends.ready.within appends.ready.distinct not_root;
  tree = tree_with_leaf g v.files sound.tree d i n dir now (file_at disk n) appends.describes.is appends.directory appends.kind size after changes
      (λ has. let fits = has.within in let end = appends.end in absurd (omega arith)) has_entry new absent appends.ready.number appends.ready.made;
}
  where
    now : DiskFile
    now = file_from disk bytes

    mapped : IsMapped g (is_marked (put disk d bytes)) (put_file v.files d (Some (file_from disk bytes))) (lost_after g v.files v.lost d (Some (file_from disk bytes)))
    mapped = mapped_described g disk v sound d dir bytes whole appends.describes

    absent_then : put_file v.files d (Some (file_from disk bytes)) n ≡ None
    absent_then =
        ready_absent g (is_marked (put disk d bytes)) (put_file v.files d (Some (file_from disk bytes))) (lost_after g v.files v.lost d (Some (file_from disk bytes))) mapped n (file_at disk n)
        appends.ready.clusters

    absent : v.files n ≡ None
    absent =
        ⊎_elim
        (λ same. absurd (none-some (file_from disk bytes) (sym absent_then ∙ ap (put_file v.files d (Some (file_from disk bytes))) same ∙ put_file_here v.files d (Some (file_from disk bytes)))))
        (λ differ. sym (put_file_beside v.files d (Some (file_from disk bytes)) n differ) ∙ absent_then)
        (cases_eq n d)

    not_root : n ≢ g.root
    not_root same = let r = root_file g disk v sound in none-some r.0 (sym absent ∙ ap v.files same ∙ r.1)

    old_size : is_directory_size (length dir.contents) ≡ true
    old_size = sound.tree.sizes d dir appends.describes.is appends.directory

    grown : length (file_from disk bytes).contents ≡ length dir.contents + 32
    grown = ap length appends.contents ∙ length-append dir.contents entry ∙ ap (λ k. length dir.contents + k) appends.whole

    size : is_directory_size (length (file_from disk bytes).contents) ≡ true
    size = subst (λ k. is_directory_size k ≡ true) (sym grown) (grown_size (length dir.contents) old_size)

    after : 2 ≤ i
    after =
        let low : 64 ≤ length dir.contents = leb-true 64 (length dir.contents) (and_parts _ _ old_size).0 in
        let end = appends.end in
        omega arith

    changes : ChangesEntry dir.contents (file_from disk bytes).contents i
    changes = subst (λ c. ChangesEntry dir.contents c i) (sym appends.contents) (changes_added dir.contents entry i appends.whole appends.end)

    entry_there : directory_entry (file_from disk bytes).contents i ≡ entry
    entry_there = ap (λ c. directory_entry c i) appends.contents ∙ entry_added dir.contents entry i appends.whole appends.end

    has_entry : HasEntry (file_from disk bytes).contents i
    has_entry = record { within = let end = appends.end in let longer = grown in omega arith; used = ap is_used entry_there ∙ appends.new.used }

    new : IsNewEntry dir.contents i (directory_entry (file_from disk bytes).contents i) n
    new = subst (λ e. IsNewEntry dir.contents i e n) (sym entry_there) appends.new

    own_descriptor : has (own_sectors d (file_from disk bytes)) d ≡ true
    own_descriptor = or_left (d == d) (has (sectors_of (file_from disk bytes).segments) d) (eq-eqb d d refl)

    shown_new : IsShown (put disk d bytes) n (file_at disk n)
    shown_new =
        shown_at disk n (file_at disk n) d bytes (record { same = refl; room = appends.ready.room })
        (false_from_ne_true (has (own_sectors n (file_at disk n)) d)
        (ready_apart g (is_marked (put disk d bytes)) (put_file v.files d (Some (file_from disk bytes))) (lost_after g v.files v.lost d (Some (file_from disk bytes))) mapped n
        (file_at disk n) appends.ready.clusters d (file_from disk bytes) d (put_file_here v.files d (Some (file_from disk bytes)))
        (owns_own g d (file_from disk bytes) d own_descriptor)))

    shown_then : (m : ℕ) (other : DiskFile) → put_file v.files d (Some (file_from disk bytes)) m ≡ Some other → IsShown (put disk d bytes) m other
    shown_then m other is =
        ⊎_elim
        (λ here. subst (λ k. IsShown (put disk d bytes) k other) (sym here.0)
        (subst (IsShown (put disk d bytes) d) (same_Some (file_from disk bytes) other here.1) (shown_described g disk v sound d dir bytes whole appends.describes)))
        (λ there. shown_beside_descriptor g disk v sound d dir bytes whole appends.describes m other there.0 there.1)
        (put_file_cases v.files d (Some (file_from disk bytes)) m other is)

    shown : (m : ℕ) (other : DiskFile) → put_file (put_file v.files d (Some (file_from disk bytes))) n (Some (file_at disk n)) m ≡ Some other → IsShown (put disk d bytes) m other
    shown m other is =
        ⊎_elim
        (λ here. subst (λ k. IsShown (put disk d bytes) k other) (sym here.0)
        (subst (IsShown (put disk d bytes) n) (same_Some (file_at disk n) other here.1) shown_new))
        (λ there. shown_then m other there.1)
        (put_file_cases (put_file v.files d (Some (file_from disk bytes))) n (Some (file_at disk n)) m other is)
