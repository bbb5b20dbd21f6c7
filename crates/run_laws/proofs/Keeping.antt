-- Volumes stay in their drives, and their files keep numbers of their sectors.
use Rattle.std.proofs.Common.{◌≡◌, ◌⊎◌, ℕ, ◌+◌, ◌-◌, ◌*◌, ◌<◌, ◌≤◌, ◌==◌, Bool, true, false, Option, Some, None, List, [], ◌∷◌, length, map, replicate, refl, sym, ap, ◌∙◌, subst, inl, inr, arith}
use Rattle.std.specs.Prelude.{if◌then◌else◌, slice_index_or, slice_set}
use Rattle.std.specs.List.{AllZip}
use Rattle.std.proofs.lemmas.Bool.{cases_eq, cases_lt, eqb-true, leb-true}
use Rattle.std.proofs.lemmas.List.{get_or_past, length-append, length-map, length-replicate}
use Rattle.std.proofs.lemmas.Option.{none-some, same_Some}
use Rattle.os9_base.specs.declared.registers.TimePacket.{TimePacket}
use Rattle.os9_outer.specs.TerminalState.{TerminalState}
use Rattle.rbf_model.specs.File.{DiskFile}
use Rattle.rbf_model.specs.Geometry.{Geometry, geometry, image_geometry, sector}
use Rattle.rbf_model.specs.Volume.{DiskVolume, Vol}
use Rattle.rbf_model.proofs.Free.{number_below}
use Rattle.rbf_change.specs.Calls.{Changes, cluster_size, replaced, shape}
use Rattle.rbf_change.specs.Faults.{DeletionEnds, MayLose, NewFileEnds, SizeEnds, before, cut, gone, longer, taken}
use Rattle.rbf_change.specs.NewFiles.{Deletes, EntersNewFile, Plan, directory_plan, file_plan}
use Rattle.rbf_change.proofs.LawfulWrites.{shape-image}
use Rattle.file_rules.specs.Attempts.{file_step}
use Rattle.file_rules.specs.Change.{Change, AppliesChange, ChangeMayLeave, creates, deletes, makes_directory, sets_attributes, sizes, writes}
use Rattle.file_rules.specs.Files.{Asker, DriveState, Files, volume_at, with_drives, with_volume}
use Rattle.file_rules.specs.Processes.{first_files}
use Rattle.file_rules.specs.Step.{Deed, DoesDeed, FileDoes, FileEffect, MayBeLeft, as_io, changes, deed_of, drive_of, leaves_so, on_files}
use Rattle.file_rules.specs.declared.path_call.PathCall.{PathCall}
use Rattle.file_laws.specs.Kinds.{AreKinds}
use Rattle.file_laws.proofs.Counts.{none-many}
use Rattle.file_laws.proofs.Kept.{volume-new, volume-other}
use Rattle.file_laws.proofs.Starts.{image-of}
use Rattle.file_laws.proofs.Volumes.{free-whole}
use Rattle.file_laws.proofs.TouchAttempts.{step-splits}
use Rattle.file_laws.proofs.Splits.{EndsSo, Splits}
use Rattle.run_laws.specs.Mounted.{MountsAreSound, HasNumbers}

-- ---- one volume

-- where the files of v have numbers of its sectors, those of w do
record KeepsNumbers (v w : DiskVolume) : Type 0 where
  pub ident : w.ident ≡ v.ident
  pub files : HasNumbers v → (n : ℕ) (file : DiskFile) → w.files n ≡ Some file → n < (shape v).total

numbers-of : (v w : DiskVolume) → KeepsNumbers v w → HasNumbers v → HasNumbers w
numbers-of v w keeps has n file is =
    subst (λ (ident : List ℕ). n < (geometry ident).total) (sym keeps.ident) (keeps.files has n file is)

numbers-then : (u v w : DiskVolume) → KeepsNumbers u v → KeepsNumbers v w → KeepsNumbers u w
numbers-then u v w first next = record {
  ident = next.ident ∙ first.ident;
  files =
      λ has n file is. subst (λ (ident : List ℕ). n < (geometry ident).total) first.ident (next.files (numbers-of u v first has) n file is);
}

numbers-same : (v w : DiskVolume) → w ≡ v → KeepsNumbers v w
numbers-same v w same = record {
  ident = ap (λ (u : DiskVolume). u.ident) same;
  files = λ has n file is. has n file (sym (ap (λ (u : DiskVolume). u.files n) same) ∙ is);
}

numbers-lost : (v w : DiskVolume) (clusters : ℕ → Bool) → MayLose v w clusters → KeepsNumbers v w
numbers-lost v w clusters lose = record {
  ident = ap (λ (u : DiskVolume). u.ident) lose.same;
  files = λ has n file is. has n file (sym (ap (λ (u : DiskVolume). u.files n) lose.same) ∙ is);
}

-- one file is another, whose number is one of the sectors
numbers-put : (v : DiskVolume) (n : ℕ) (new : Option DiskFile) → ((file : DiskFile) → new ≡ Some file → HasNumbers v → n < (shape v).total) → KeepsNumbers v (replaced v n new)
numbers-put v n new below =
    record { ident = refl; files = λ has m file is. by_number m file (m == n) refl is has }
  where
    by_number : (m : ℕ) (file : DiskFile) (same : Bool) → (m == n) ≡ same → (if same then new else v.files m) ≡ Some file → HasNumbers v → m < (shape v).total
    by_number m file true same is has =
        subst (λ (k : ℕ). k < (shape v).total) (sym (eqb-true m n same)) (below file is has)
    by_number m file false same is has = has m file is

numbers-changed : (change : DiskFile → DiskFile → Type 0) (v w : DiskVolume) (n : ℕ) → Changes change v w n → KeepsNumbers v w
numbers-changed change v w n it =
    subst (KeepsNumbers v) (sym it.volume) (numbers-put v n (Some it.new) (λ file is has. has n it.old it.is))

below-total : (c k n total : ℕ) → n ≡ c * k → 0 < k → (c + 1) * k ≤ total → n < total
below-total c k n total is some end = omega arith

numbers-entered : (v w : DiskVolume) (d n : ℕ) (name : List ℕ) (plan : Plan) → 0 < cluster_size v → EntersNewFile v w d n name plan → KeepsNumbers v w
numbers-entered v w d n name plan some it =
    let both = it.both in
    let made = both.made in
    let new : n < (shape v).total = below-total made.cluster (cluster_size v) n (shape v).total made.first some
    (leb-true ((made.cluster + 1) * cluster_size v) (shape v).total (free-whole (shape v) v made.cluster
    made.taken)) in
    subst (KeepsNumbers v) (sym it.volume)
    (numbers-then v (replaced v d (Some both.new)) (replaced (replaced v d (Some both.new)) n (Some both.file))
    (numbers-put v d (Some both.new) (λ file is has. has d both.old both.is))
    (numbers-put (replaced v d (Some both.new)) n (Some both.file) (λ file is has. new)))

numbers-deleted : (v w : DiskVolume) (d n : ℕ) (name : List ℕ) → Deletes v w d n name → KeepsNumbers v w
numbers-deleted v w d n name it =
    subst (KeepsNumbers v) (sym it.drops.volume)
    (numbers-then v (replaced v d _) (replaced (replaced v d _) n None)
    (numbers-put v d (Some _) (λ file is has. has d it.drops.old it.drops.is))
    (numbers-put (replaced v d _) n None (λ file is has. absurd (none-some file is))))

numbers-made : (change : Change) (user : ℕ) (now : TimePacket) (v w : DiskVolume) (number : ℕ) → 0 < cluster_size v → AppliesChange change user now v w number → KeepsNumbers v w
numbers-made (writes n at bytes) user now v w number some it = numbers-changed _ v w n it
numbers-made (sizes n size) user now v w number some it = numbers-changed _ v w n it
numbers-made (sets_attributes n attributes) user now v w number some it = numbers-changed _ v w n it
numbers-made (creates d name attributes) user now v w number some it =
    numbers-entered v w d number name (file_plan attributes user now) some it
numbers-made (makes_directory d name attributes) user now v w number some it =
    numbers-entered v w d number name (directory_plan attributes user now d number) some it
numbers-made (deletes d n name) user now v w number some it = numbers-deleted v w d n name it

-- ---- what a fault leaves

size-left : (image : List ℕ) (v w : DiskVolume) (n size : ℕ) (now : TimePacket) → SizeEnds image v w n size now → KeepsNumbers v w
size-left image v w n size now (before same) = numbers-same v w same
size-left image v w n size now (longer it) = numbers-lost v w _ it.volume
size-left image v w n size now (cut it) =
    numbers-then v (replaced v n (Some it.new)) w (numbers-put v n (Some it.new) (λ file is has. has n it.old it.is)) (numbers-lost (replaced v n (Some it.new)) w _ it.volume)

new-file-left : (v w : DiskVolume) (d : ℕ) (name : List ℕ) (plan : ℕ → Plan) → NewFileEnds v w d name plan → KeepsNumbers v w
new-file-left v w d name plan (before same) = numbers-same v w same
new-file-left v w d name plan (taken it) = numbers-lost v w _ it.volume

deletion-left : (image : List ℕ) (v w : DiskVolume) (d n : ℕ) (name : List ℕ) → DeletionEnds image v w d n name → KeepsNumbers v w
deletion-left image v w d n name (before same) = numbers-same v w same
deletion-left image v w d n name (gone {u = u} it there lose unfinished) =
    numbers-then v u w (numbers-deleted v u d n name it) (numbers-lost u w _ lose)

numbers-left : (change : Change) (user : ℕ) (now : TimePacket) (v w : DiskVolume) → ChangeMayLeave change user now v w → KeepsNumbers v w
numbers-left (writes n at bytes) user now v w it =
    numbers-then v (replaced v n _) w (numbers-put v n (Some _) (λ file is has. has n it.old it.is)) (numbers-lost (replaced v n _) w _ it.volume)
numbers-left (sizes n size) user now v w it = size-left it.0 v w n size now it.2
numbers-left (sets_attributes n attributes) user now v w it = numbers-same v w it
numbers-left (creates d name attributes) user now v w it =
    new-file-left v w d name (λ n. file_plan attributes user now) it
numbers-left (makes_directory d name attributes) user now v w it =
    new-file-left v w d name (directory_plan attributes user now d) it
numbers-left (deletes d n name) user now v w it = deletion-left it.0 v w d n name it.2

-- ---- all volumes

pub mounted-same : (files new : Files) → new.volumes ≡ files.volumes → length new.drives ≡ length files.drives → MountsAreSound files → MountsAreSound new
mounted-same files new volumes drives mounted = record {
  drives =
      λ drive v is. subst (λ (n : ℕ). drive < n) (sym drives) (mounted.drives drive v (sym (at drive) ∙ is));
  numbers = λ drive v is. mounted.numbers drive v (sym (at drive) ∙ is);
}
  where
    at : (drive : ℕ) → volume_at new drive ≡ volume_at files drive
    at drive = ap (λ (volumes : List (Option DiskVolume)). slice_index_or volumes drive None) volumes

mounted-set : (files new : Files) (drive : ℕ) (old left : DiskVolume) → volume_at files drive ≡ Some old
    → new.volumes ≡ slice_set files.volumes drive (Some left) → length new.drives ≡ length files.drives
    → KeepsNumbers old left → MountsAreSound files → MountsAreSound new
mounted-set files new drive old left is volumes drives keeps mounted = record {
  drives =
      λ other v there. subst (λ (n : ℕ). other < n) (sym drives) (in_drive other v there (cases_eq other drive));
  numbers = λ other v there. numbers_at other v there (cases_eq other drive);
}
  where
    at : (other : ℕ) → volume_at new other ≡ volume_at (with_volume files drive left) other
    at other = ap (λ (volumes : List (Option DiskVolume)). slice_index_or volumes other None) volumes

    in_drive : (other : ℕ) (v : DiskVolume) → volume_at new other ≡ Some v → (other ≡ drive) ⊎ (other ≡ drive → ⊥) → other < length files.drives
    in_drive other v there (inl same) =
        subst (λ (n : ℕ). n < length files.drives) (sym same) (mounted.drives drive old is)
    in_drive other v there (inr apart) =
        mounted.drives other v (sym (volume-other files drive old left is other apart) ∙ sym (at other) ∙ there)

    numbers_at : (other : ℕ) (v : DiskVolume) → volume_at new other ≡ Some v → (other ≡ drive) ⊎ (other ≡ drive → ⊥) → HasNumbers v
    numbers_at other v there (inl same) =
        subst HasNumbers (same_Some left v (sym (volume-new files drive old left is) ∙ sym
        (ap (volume_at (with_volume files drive left)) same) ∙ sym (at other) ∙ there))
        (numbers-of old left keeps (mounted.numbers drive old is))
    numbers_at other v there (inr apart) =
        mounted.numbers other v (sym (volume-other files drive old left is other apart) ∙ sym (at other) ∙ there)

-- ---- an attempt of a call on paths, files and directories

-- what changes no volume leaves the volumes
pub ends-volumes : (call : PathCall) (asker : Asker) (files : Files) (terms : ℕ) (it : FileEffect) → EndsSo call asker files terms it → it.files.volumes ≡ files.volumes
ends-volumes call asker files terms it (inl left) = left.volumes
ends-volumes call asker files terms it (inr (inl device)) = ap (λ (it : FileEffect). it.files.volumes) device.same
ends-volumes call asker files terms it (inr (inr waiting)) = ap (λ (it : FileEffect). it.files.volumes) waiting.same

module _ (call : PathCall) (asker : Asker) (files : Files) (kinds : AreKinds files) (mounted : MountsAreSound files) (old new : List TerminalState) where
  deed-mounted : (reached : Option ℕ) (deed : Deed) (it : FileEffect) (drives : List DriveState)
      → length drives ≡ length files.drives → Splits call asker files (length old) reached deed → DoesDeed deed asker
      files it old new → MountsAreSound (with_drives it.files drives)
  deed-mounted reached (leaves_so effect) it drives many left (is, same) =
      subst (λ (it : FileEffect). MountsAreSound (with_drives it.files drives)) (sym is)
      (mounted-same files (with_drives effect.files drives) (ends-volumes call asker files (length old) effect left) many mounted)
  deed-mounted reached (as_io step) it drives many on (effect, does, is) =
      subst (λ (it : FileEffect). MountsAreSound (with_drives it.files drives)) (sym is)
      (mounted-same files (with_drives (on_files asker.caller.process.0 files effect).files drives) refl many mounted)
  deed-mounted reached (changes change) it drives many answers (inl changed, same) =
      subst (λ (it : FileEffect). MountsAreSound (with_drives it.files drives)) (sym changed.effect_is)
      (mounted-set files (with_drives (with_volume (change.effect changed.number).files change.drive changed.new) drives) change.drive changed.old changed.new changed.is
      (ap (λ (volumes : List (Option DiskVolume)). slice_set volumes change.drive (Some changed.new)) (answers.left changed.number).volumes)
      many (numbers-made change.change asker.user asker.now changed.old changed.new changed.number (kinds.clusters change.drive changed.old changed.is) changed.makes) mounted)
  deed-mounted reached (changes change) it drives many answers (inr long, same) =
      subst (λ (it : FileEffect). MountsAreSound (with_drives it.files drives)) (sym long.effect_is)
      (mounted-same files (with_drives files drives) refl many mounted)

  deed-left : (deed : Deed) (was left : DiskVolume) → MayBeLeft deed asker was left → KeepsNumbers was left
  deed-left (leaves_so effect) was left it = numbers-same was left it
  deed-left (as_io step) was left it = numbers-same was left it
  deed-left (changes change) was left it = numbers-left change.change asker.user asker.now was left it

  pub does-mounted : (effect : FileEffect) → FileDoes (file_step call asker files (length old)) asker files effect old new → MountsAreSound effect.files
  does-mounted effect (inl well) =
      subst (λ (effect : FileEffect). MountsAreSound effect.files) (sym well.effect_is)
      (deed-mounted (drive_of (file_step call asker files (length old)))
      (deed_of (file_step call asker files (length old)) files) well.it well.drives
      (none-many files.drives well.drives well.none_failed) (step-splits call asker files (length old)) well.does)
  does-mounted effect (inr (broken, same)) =
      subst (λ (effect : FileEffect). MountsAreSound effect.files) (sym broken.effect_is)
      (mounted-set files (with_drives (with_volume files broken.drive broken.left) broken.drives) broken.drive broken.old broken.left broken.is refl broken.failed.as_many
      (deed-left (deed_of (file_step call asker files (length old)) files) broken.old broken.left broken.may_be) mounted)

-- ---- the start

image-numbers : (image : List ℕ) (v : DiskVolume) → Vol image v → HasNumbers v
image-numbers image v vol n file is =
    let below = number_below (image_geometry image) (sector image) v vol.sound n file is in
    subst (λ (g : Geometry). n < g.total) (sym (shape-image image v vol)) (omega (arith, below))

zip-long : (images : List (List ℕ)) (volumes : List DiskVolume) → AllZip Vol images volumes → length volumes ≡ length images
zip-long [] [] mounted = refl
zip-long [] (v ∷ volumes) mounted = absurd mounted
zip-long (image ∷ images) [] mounted = absurd mounted
zip-long (image ∷ images) (v ∷ volumes) mounted =
    let rest : length volumes ≡ length images = zip-long images volumes mounted.1 in omega (arith, rest)

pub mounted-first : (images : List (List ℕ)) (volumes : List DiskVolume) (drives : List DriveState)
    → AllZip Vol images volumes → length images ≤ length drives → MountsAreSound (first_files volumes drives)
mounted-first images volumes drives mounted few = record {
  drives = in_drive;
  numbers =
      λ drive v is. (let of = image-of images volumes (length drives - length volumes) drive v mounted is in image-numbers of.0 v of.1);
}
  where
    places : List (Option DiskVolume)
    places = (first_files volumes drives).volumes

    long : length places ≡ length drives
    long =
        let many : length volumes ≡ length images = zip-long images volumes mounted in
        omega (
          arith,
          many,
          few,
          length-append (map (λ (v : DiskVolume). Some v) volumes)
              (replicate (length drives - length volumes) (let none : Option DiskVolume = None in none)),
          length-map
              volumes (λ (v : DiskVolume). Some v),
          length-replicate (length drives - length volumes)
              (let none : Option DiskVolume = None in none),
        )

    in_drive : (drive : ℕ) (v : DiskVolume) → volume_at (first_files volumes drives) drive ≡ Some v → drive < length drives
    in_drive drive v is =
        elim (cases_lt drive (length drives)) [
          | inl within ↦ within
          | inr past ↦
              absurd (none-some v (sym (get_or_past places drive None (subst (λ (n : ℕ). n ≤ drive) (sym long) past)) ∙ is))
        ]
