-- The state in which the volumes of the first drives are mounted, and the directories of the first process.
use Rattle.std.proofs.Common.{◌≡◌, ℕ, zero, suc, ◌+◌, ◌-◌, ◌<◌, ◌≤◌, ◌∙◌, inl, inr, Option, Some, None, List, [], ◌∷◌, ◌++◌, codes, length, map, replicate, set, get_or, take, slice_get, eqb, ltb, lt-ltb, refl, ap, sym, subst, arith, length-take}
use Rattle.std.specs.Prelude.{unwrap_or}
use Rattle.std.specs.List.{AllZip}
use Rattle.std.specs.Option.{option_map_or}
use Rattle.std.proofs.lemmas.Bool.{cases_eq, cases_lt, cond-true, cond-false, eq-eqb, le-ltb, ne_eqb}
use Rattle.std.proofs.lemmas.List.{length-map, take_all}
use Rattle.std.proofs.lemmas.Option.{none-some, same_Some, slice_get-get_or, slice_get_within, get_or_from_slice_get}
use Rattle.rbf_model.specs.Volume.{DiskVolume, Vol}
use Rattle.rbf_access.specs.Mounted.{RepresentsVolume, media_calls}
use Rattle.file_rules.specs.Files.{KeepsDriveFaults}
use Rattle.file_rules.specs.Processes.{directories_on, directory_in_root}
use Rattle.file_rules.specs.Route.{root_of}
use Rattle.file_rules.specs.declared.places.Directories.{Directories}
use Rattle.lock_model.specs.declared.place.FilePlace.{FilePlace}
use Rattle.file_drives.specs.Drives.{DriveView, drive_state, drive_states, media_at, unused_drive}
use Rattle.file_drives.specs.Mounted.{DriveHolds, mounted_at}
use Rattle.file_state.specs.Tie.{RepresentsFiles}
use Rattle.file_state.specs.declared.state.FileState.{FileState}
use Rattle.cold_start.proofs.ReadLemmas.{read-more, read-none, read-then}
use Rattle.cold_start.specs.Start.{HasMounted, HoldVolumes, MountsVolume, ReadUpTo, mounted_files, mounts_calls, only_drive}

abbrev some_volume : DiskVolume → Option DiskVolume
some_volume v = Some v

-- ---- what the drives hold

-- they hold it still where the media stayed
pub holds-still : (views after : List DriveView) (n : ℕ) (v : DiskVolume) → length after ≡ length views → media_at after n ≡ media_at views n → DriveHolds views n v → DriveHolds after n v
holds-still views after n v many same holds =
    let inside : n < length views = slice_get_within views n holds.view holds.is in
    let there : media_at views n ≡ holds.view.media = ap (λ (view : DriveView). view.media) (get_or_from_slice_get views n holds.view unused_drive holds.is) in
    record {
      view = get_or after n unused_drive;
      is = slice_get-get_or after n unused_drive (omega (arith, inside, many));
      on = subst (λ media. RepresentsVolume media v) (sym (same ∙ there)) holds.on;
    }

pub some-volume : (volumes : List DiskVolume) (n : ℕ) → n < length volumes → (v : DiskVolume) × (slice_get volumes n ≡ Some v)
some-volume [] n low = absurd (omega (arith, low))
some-volume (v ∷ volumes) zero low = (v, refl)
some-volume (v ∷ volumes) (suc n) low = some-volume volumes n (omega (arith, low))

-- ---- one volume more

set-volume : (volumes : List DiskVolume) (n k : ℕ) (v : DiskVolume) → slice_get volumes n ≡ Some v
    → set (map some_volume (take n volumes) ++ replicate (suc k) None) n (Some v) ≡ map some_volume
    (take (suc n) volumes) ++ replicate k None
set-volume [] n k v is = absurd (none-some v is)
set-volume (u ∷ volumes) zero k v is = ap (λ (o : Option DiskVolume). o ∷ replicate k None) (sym is)
set-volume (u ∷ volumes) (suc n) k v is = ap (λ rest. some_volume u ∷ rest) (set-volume volumes n k v is)

pub volumes-next : (volumes : List DiskVolume) (n many more : ℕ) (v : DiskVolume) → slice_get volumes n ≡ Some v
    → more ≡ many → length volumes ≤ many → set (map some_volume (take n volumes) ++ replicate
    (many - length (take n volumes)) None) n (Some v) ≡ map some_volume (take (n + 1) volumes) ++ replicate
    (more - length (take (n + 1) volumes)) None
volumes-next volumes n many more v is same enough =
    let inside : n < length volumes = slice_get_within volumes n v is in
    let few = length-take n volumes in
    let next = length-take (n + 1) volumes in
    let left : many - length (take n volumes) ≡ suc (more - length (take (n + 1) volumes)) = omega (arith, inside, few, next, same, enough) in
    ap (λ k. set (map some_volume (take n volumes) ++ replicate k None) n (Some v)) left
    ∙ set-volume volumes n (more - length (take (n + 1) volumes)) v is
    ∙ ap (λ k. map some_volume (take k volumes) ++ replicate (more - length (take (n + 1) volumes)) None) next_is
  where
    next_is : suc n ≡ n + 1
    next_is = omega arith

-- ---- the first so many are mounted

pub record MountedTo (n drives : ℕ) (first state : FileState) (before now : List DriveView) : Type 0 where
  pub mounted : (volumes : List DiskVolume) → length volumes ≡ drives → HoldVolumes volumes before → HasMounted [] first before → HasMounted (take n volumes) state now
  pub read : ReadUpTo (mounts_calls n before) before now
  pub none : KeepsDriveFaults (drive_states before) (drive_states now)

pub mounted-none : (drives : ℕ) (state : FileState) (views : List DriveView) → MountedTo 0 drives state state views views
mounted-none drives state views = record {
  mounted = λ volumes many hold has. has;
  read = read-none (mounts_calls 0 views) views;
  none = refl;
}

-- the volume to be mounted next
pub next-held : (n drives : ℕ) (first state : FileState) (before now : List DriveView) (volumes : List DiskVolume)
    → n < drives → MountedTo n drives first state before now → length volumes ≡ drives → HoldVolumes volumes before
    → (v : DiskVolume) × DriveHolds now n v
next-held n drives first state before now volumes inside so_far many hold =
    let v = some-volume volumes n (omega (arith, many, inside)) in
    (v.0, holds-still before now n v.0 so_far.read.as_many (so_far.read.media n) (hold.each n v.0 v.1))

below : (n m : ℕ) (views : List DriveView) → m < n → mounts_calls n views m ≡ media_calls (media_at views m)
below n m views low = cond-true (ltb m n) (media_calls (media_at views m)) 0 (lt-ltb m n low)

module _ (n drives : ℕ) (first state new : FileState) (before now after : List DriveView) (inside : n < drives)
    (enough : drives ≤ length before) (so_far : MountedTo n drives first state before now)
    (read : ReadUpTo (only_drive n (media_calls (media_at now n))) now after) where
  -- so often the drives were called
  fewer : (m : ℕ) → mounts_calls n before m + only_drive n (media_calls (media_at now n)) m ≤ mounts_calls (n + 1) before m
  fewer m =
      elim (cases_eq m n) [
        | inl same ↦
            let old : mounts_calls n before m ≡ 0 = cond-false (ltb m n) (media_calls (media_at before m)) 0 (le-ltb m n (omega (arith, same))) in
            let all : mounts_calls (n + 1) before m ≡ media_calls (media_at before m) = below (n + 1) m before (omega (arith, same)) in
            let one : only_drive n (media_calls (media_at now n)) m ≡ media_calls (media_at now n) = cond-true (eqb m n) (media_calls (media_at now n)) 0 (eq-eqb m n same) in
            let media : media_calls (media_at now n) ≡ media_calls (media_at before m) = ap media_calls (so_far.read.media n) ∙ ap (λ k. media_calls (media_at before k)) (sym same) in
            omega (arith, old, all, one, media)
        | inr apart ↦
            let one : only_drive n (media_calls (media_at now n)) m ≡ 0 = cond-false (eqb m n) (media_calls (media_at now n)) 0 (ne_eqb m n apart) in
            elim (cases_lt m n) [
              | inl low ↦
                  let old = below n m before low in
                  let all = below (n + 1) m before (omega (arith, low)) in
                  omega (arith, one, old, all)
              | inr past ↦
                  let old : mounts_calls n before m ≡ 0 = cond-false (ltb m n) (media_calls (media_at before m)) 0 (le-ltb m n past) in
                  omega (arith, one, old)
            ]
      ]

  pub mounted-read : ReadUpTo (mounts_calls (n + 1) before) before after
  mounted-read =
      read-more (λ m. mounts_calls n before m + only_drive n (media_calls (media_at now n)) m) (mounts_calls (n + 1) before) before after fewer
      (read-then (mounts_calls n before) (only_drive n (media_calls (media_at now n))) before now after so_far.read read)

  -- all so far, and so at most for all drives
  pub mounted-read-all : ReadUpTo (mounts_calls drives before) before after
  mounted-read-all = read-more (mounts_calls (n + 1) before) (mounts_calls drives before) before after more mounted-read
    where
      more : (m : ℕ) → mounts_calls (n + 1) before m ≤ mounts_calls drives before m
      more m =
          elim (cases_lt m (n + 1)) [
            | inl low ↦
                let few = below (n + 1) m before low in
                let all = below drives m before (omega (arith, low, inside)) in
                omega (arith, few, all)
            | inr past ↦
                let few : mounts_calls (n + 1) before m ≡ 0 = cond-false (ltb m (n + 1)) (media_calls (media_at before m)) 0 (le-ltb m (n + 1) past) in
                omega (arith, few)
          ]

  pub mounted-one : MountsVolume n state now new after → KeepsDriveFaults (drive_states now) (drive_states after) → MountedTo (n + 1) drives first new before after
  mounted-one mounts none = record {
    mounted = λ volumes many hold has.
        let v = some-volume volumes n (omega (arith, many, inside)) in
        let held = holds-still before now n v.0 so_far.read.as_many (so_far.read.media n) (hold.each n v.0 v.1) in
        let was = so_far.read.as_many in
        let is = read.as_many in
        let first_many : length (drive_states now) ≡ length now = length-map now drive_state in
        let last_many : length (drive_states after) ≡ length after = length-map after drive_state in
        subst (λ all. RepresentsFiles new after (record (mounted_files (take (n + 1) volumes) (drive_states after)) { volumes = all }))
        (volumes-next volumes n (length (drive_states now)) (length (drive_states after)) v.0 v.1 (omega (arith, is, first_many, last_many)) (omega (arith, many, enough, was, first_many)))
        (mounts (mounted_files (take n volumes) (drive_states now)) v.0 (so_far.mounted volumes many hold has) held);
    read = mounted-read;
    none = none ∙ so_far.none;
  }

-- all are mounted
pub mounted-all : (n drives : ℕ) (first state : FileState) (before now : List DriveView) (volumes : List DiskVolume)
    → drives ≤ n → MountedTo n drives first state before now → length volumes ≡ drives → HoldVolumes volumes before
    → HasMounted [] first before → HasMounted volumes state now
mounted-all n drives first state before now volumes past so_far many hold has =
    subst (λ all. HasMounted all state now) (take_all n volumes (omega (arith, past, many))) (so_far.mounted volumes many hold has)

pub read-to : (n drives : ℕ) (first state : FileState) (before now : List DriveView) → n ≡ drives → MountedTo n drives first state before now → ReadUpTo (mounts_calls drives before) before now
read-to n drives first state before now same so_far = subst (λ k. ReadUpTo (mounts_calls k before) before now) same so_far.read

-- ---- the directories of the first process

-- the volume of D0
pub first-volume : (volumes : List DiskVolume) (k : ℕ) → mounted_at (map some_volume volumes ++ replicate k None) 0 ≡ slice_get volumes 0
first-volume [] zero = refl
first-volume [] (suc k) = refl
first-volume (v ∷ volumes) k = refl

-- this or else that
pub chosen : (place : FilePlace) (found : Option FilePlace) → Some (unwrap_or found place) ≡ option_map_or (λ place. Some place) found (Some place)
chosen place None = refl
chosen place (Some other) = refl

-- its directories on this volume
pub given-directories : (root : FilePlace) (commands : Option FilePlace) (v : DiskVolume) → root ≡ root_of 0 v
    → commands ≡ directory_in_root v root (codes "CMDS") → directories_on v ≡ record {
      data_directory = Some root;
      execution_directory = Some (unwrap_or commands root);
    }
given-directories root commands v is found =
    let all : Directories = record { data_directory = Some root; execution_directory = Some (unwrap_or commands root) } in
    sym (ap (λ (execution : Option FilePlace). let given : Directories = record {
      data_directory = Some root;
      execution_directory = execution;
    } in given)
    (chosen root commands ∙ ap (λ found. option_map_or (λ place. Some place) found (Some root)) found)
    ∙ ap (λ (place : FilePlace). let given : Directories = record {
      data_directory = Some place;
      execution_directory =
          option_map_or (λ place. Some place) (directory_in_root v place (codes "CMDS")) (Some place);
    } in given) is)

-- the images of the volumes
pub images-zip : (images : List (List ℕ)) (volumes : List DiskVolume) → length images ≡ length volumes
    → ((n : ℕ) (image : List ℕ) (v : DiskVolume) → slice_get images n ≡ Some image → slice_get volumes n ≡ Some v
    → Vol image v) → AllZip Vol images volumes
images-zip [] [] same each = tt
images-zip [] (v ∷ volumes) same each = absurd (omega (arith, same))
images-zip (image ∷ images) [] same each = absurd (omega (arith, same))
images-zip (image ∷ images) (v ∷ volumes) same each =
    (each 0 image v refl refl, images-zip images volumes (omega (arith, same)) (λ n. each (suc n)))

-- what a drive holds is the volume of its image
pub image-vol : (views : List DriveView) (n : ℕ) (image : List ℕ) (v : DiskVolume) → media_at views n ≡ Some image → DriveHolds views n v → Vol image v
image-vol views n image v is holds =
    let there : media_at views n ≡ holds.view.media = ap (λ (view : DriveView). view.media) (get_or_from_slice_get views n holds.view unused_drive holds.is) in
    subst (λ bytes. Vol bytes v) (same_Some holds.on.image image (sym holds.on.is ∙ sym there ∙ is)) holds.on.vol
