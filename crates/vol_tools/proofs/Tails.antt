-- LSN 0 and the end of the map stay.
use Rattle.std.proofs.Common.{◌≡◌, ◌⊎◌, ℕ, ◌*◌, ◌/◌, ◌<◌, ◌≤◌, ◌==◌, ◌&&◌, not, Bool, true, false, Option, Some, None, List, Result, Ok, Err, refl, sym, ap, ◌∙◌, subst, inl, inr, ⊎_elim, eq-eqb, OnErr, OnOk}
use Rattle.std.proofs.lemmas.Bool.{cases_Bool, cond-true}
use Rattle.rbf_model.specs.Fields.{directory_entry}
use Rattle.rbf_model.specs.File.{DiskFile}
use Rattle.rbf_model.specs.Geometry.{Geometry, geometry, image_geometry, sector, map_sectors}
use Rattle.rbf_model.specs.Laws.{with_directory_entry}
use Rattle.rbf_model.specs.Space.{is_marked, has_cluster}
use Rattle.rbf_model.specs.Volume.{DiskVolume, Vol}
use Rattle.rbf_model.proofs.Owners.{file_cluster_below}
use Rattle.rbf_change.specs.Calls.{replaced, shape}
use Rattle.rbf_change.specs.Names.{freed_entry}
use Rattle.rbf_change.specs.NewFiles.{Deletes}
use Rattle.rbf_change.specs.Tidy.{IsMapEnd, KeepsMapEnd, MayKeepMapEnd}
use Rattle.rbf_change.proofs.LawfulWrites.{shape-image}
use Rattle.rbf_access.specs.Mounted.{RepresentsVolume}
use Rattle.rbf_access.specs.declared.faults.FileFault.{FileFault}
use Rattle.rbf_access.specs.declared.faults.FileFault.TheVariants as file
use Rattle.rbf_walk.specs.declared.error.DirError.{DirError}
use Rattle.rbf_walk.specs.declared.error.DirError.TheVariants.{NotAllowed, BadPath, NotFound, Exists, File}
use Rattle.rbf_entries.specs.Entering.{Entering, AnswersEntering, EnteringStops, unchanged, took}
use Rattle.rbf_entries.specs.Deleted.{DeletionStops, as_before, lost_now, IsDeletedBy}
use Rattle.rbf_write.specs.Laying.{Laying}
use Rattle.rbf_write.specs.Outcomes.{AnswersWrite, WriteIsEnded, unchanged as as_it_was, stopped}
use Rattle.vol_tools.specs.Tool.{Tool, put, get, mkdir, remove, list, repair}
use Rattle.vol_tools.specs.Tail.{IsGivenUp, KeepsTail, KeepsTailBy, KeepsTailUnused, OnMedia}

pub some_is : {a b : List ℕ} → ◌≡◌ {A = Option (List ℕ)} (Some a) (Some b) → a ≡ b
some_is h = cc

-- of an image and the one that is left
pub tail_of : (holds : List ℕ → List ℕ → Type 0) (old new : Option (List ℕ)) (image now : List ℕ) → old ≡ Some image → new ≡ Some now → holds image now → OnMedia holds old new
tail_of holds old new image now was is keeps a b at_a at_b =
    let one : image ≡ a = some_is (sym was ∙ at_a) in
    let other : now ≡ b = some_is (sym is ∙ at_b) in
    subst (λ x. holds x b) one (subst (holds image) other keeps)

-- media that is as it was
pub as_it_is : (holds : List ℕ → List ℕ → Type 0) → ((image : List ℕ) → holds image image) → (old new : Option (List ℕ)) → new ≡ old → OnMedia holds old new
as_it_is holds so old new same image now was is =
    let one : image ≡ now = some_is (sym was ∙ sym same ∙ is) in
    subst (holds image) one (so image)

tail_same : (image : List ℕ) → KeepsTail image image
tail_same image = record { first = refl; bits = λ c end. refl }

unused_same : (image : List ℕ) → KeepsTailUnused image image
unused_same image = record { first = refl; bits = λ c end. inl refl }

tail_same_by : (tool : Tool) (image : List ℕ) → KeepsTailBy tool image image
tail_same_by (put path bytes) image = tail_same image
tail_same_by (get path) image = tail_same image
tail_same_by (mkdir path) image = tail_same image
tail_same_by (remove path) image = unused_same image
tail_same_by (list path) image = tail_same image
tail_same_by repair image = tail_same image

pub tail_kept : (old new : Option (List ℕ)) → new ≡ old → OnMedia KeepsTail old new
tail_kept old new same = as_it_is KeepsTail tail_same old new same

pub unused_kept : (old new : Option (List ℕ)) → new ≡ old → OnMedia KeepsTailUnused old new
unused_kept old new same = as_it_is KeepsTailUnused unused_same old new same

pub tail_kept_by : (tool : Tool) (old new : Option (List ℕ)) → new ≡ old → OnMedia (KeepsTailBy tool) old new
tail_kept_by tool old new same = as_it_is (KeepsTailBy tool) (tail_same_by tool) old new same

pub tail_from : (holds : List ℕ → List ℕ → Type 0) (old mid new : Option (List ℕ)) → mid ≡ old → OnMedia holds mid new → OnMedia holds old new
tail_from holds old mid new same h image now was is = h image now (same ∙ was) is

end_still : (image mid : List ℕ) (c : ℕ) → sector mid 0 ≡ sector image 0 → IsMapEnd image c → IsMapEnd mid c
end_still image mid c first end =
    let same : image_geometry image ≡ image_geometry mid = ap geometry (sym first) in
    record {
      not_whole = subst (λ (g : Geometry). g.total / g.cluster ≤ c) same end.not_whole;
      in_map = subst (λ (g : Geometry). c < 2048 * map_sectors g) same end.in_map;
    }

-- one change behind another; there is media between them
pub tail_then : (old mid new : Option (List ℕ)) (image : List ℕ) → mid ≡ Some image → OnMedia KeepsTail old mid → OnMedia KeepsTail mid new → OnMedia KeepsTail old new
tail_then old mid new image is one other a b at_a at_b =
    let first = one a image at_a is in
    let second = other image b is at_b in
    record {
      first = second.first ∙ first.first;
      bits = λ c end. second.bits c (end_still a image c first.first end) ∙ first.bits c end;
    }

and_true : (t : Bool) → (t && true) ≡ t
and_true true = refl
and_true false = refl

and_false : (t : Bool) → (t && false) ≡ false
and_false true = refl
and_false false = refl

-- a file that has been deleted is no more
no_file : (u w : DiskVolume) (n : ℕ) → w ≡ replaced u n None → w.files n ≡ None
no_file u w n volume =
    ap (λ (w : DiskVolume). w.files n) volume ∙ cond-true (n == n) None (u.files n) (eq-eqb n n refl)

has_gone : (v w : DiskVolume) (d n : ℕ) (name : List ℕ) → Deletes v w d n name → w.files n ≡ None
has_gone v w d n name deletes =
    let drops = deletes.drops in
    let i = deletes.place in
    no_file (replaced v d (Some (with_directory_entry drops.old i (freed_entry (directory_entry drops.old.contents i))))) w n drops.volume

module _ (image now : List ℕ) (v w : DiskVolume) (vol : Vol image v) (left : Vol now w) (same : w.ident ≡ v.ident) where
  pub first_is : sector now 0 ≡ sector image 0
  first_is = sym left.sound.shows.ident ∙ same ∙ vol.sound.shows.ident

  pub none_given : KeepsMapEnd image now (λ _. false) → KeepsTail image now
  none_given keeps = record { first = first_is; bits = λ c end. keeps c end ∙ and_true (is_marked (sector image) c) }

  module _ (n : ℕ) (f : DiskFile) (there : v.files n ≡ Some f) (gone : w.files n ≡ None) where
    given_up : (c : ℕ) → has_cluster (shape v) n f c ≡ true → is_marked (sector now) c ≡ false → IsGivenUp image now c
    given_up c has clear =
        let here : has_cluster (image_geometry image) n f c ≡ true = ap (λ g. has_cluster g n f c) (sym (shape-image image v vol)) ∙ has in
        record {
          clear = clear;
          before = v;
          was = vol;
          after = w;
          is = left;
          number = n;
          file = f;
          there = there;
          had = here;
          low = file_cluster_below (image_geometry image) (sector image) v vol.sound n f c there here;
          gone = gone;
        }

    -- a mark that is cleared if the file had the cluster
    unused_bit : (c : ℕ) → is_marked (sector now) c ≡ (is_marked (sector image) c && not
        (has_cluster (shape v) n f c)) → (is_marked (sector now) c ≡ is_marked (sector image) c) ⊎ IsGivenUp image now
        c
    unused_bit c is =
        ⊎_elim
        (λ has. inr (given_up c has (is ∙ ap (λ b. is_marked (sector image) c && not b) has ∙ and_false (is_marked (sector image) c))))
        (λ none. inl (is ∙ ap (λ b. is_marked (sector image) c && not b) none ∙ and_true (is_marked (sector image) c)))
        (cases_Bool (has_cluster (shape v) n f c))

    pub file_given : KeepsMapEnd image now (has_cluster (shape v) n f) → KeepsTailUnused image now
    file_given keeps = record { first = first_is; bits = λ c end. unused_bit c (keeps c end) }

    pub file_may : MayKeepMapEnd image now (has_cluster (shape v) n f) → KeepsTailUnused image now
    file_may keeps = record {
      first = first_is;
      bits = λ c end. ⊎_elim (λ still. inl still) (λ cleared. unused_bit c cleared) (keeps c end);
    }

-- the image of a volume is the one that a change names
pub vol_of : (old : Option (List ℕ)) (v : DiskVolume) (on : RepresentsVolume old v) (image : List ℕ) → old ≡ Some image → Vol image v
vol_of old v on image was = let one : on.image ≡ image = some_is (sym on.is ∙ was) in subst (λ x. Vol x v) one on.vol

module _ (v : DiskVolume) (old new : Option (List ℕ)) (on : RepresentsVolume old v) where
  -- a new file
  pub entering-tail : (dir : DiskFile) (e : Entering) (r : Result ℕ DirError) → AnswersEntering v dir e old new r → OnMedia KeepsTail old new
  entering-tail dir e (Ok n) it =
      tail_of KeepsTail old new it.image it.now it.was it.is
      (none_given it.image it.now v it.after (vol_of old v on it.image it.was) it.vol (ap (λ (w : DiskVolume). w.ident) it.enters.volume) it.end)
  entering-tail dir e (Err NotAllowed) it = tail_kept old new it.media_kept
  entering-tail dir e (Err BadPath) it = tail_kept old new it.media_kept
  entering-tail dir e (Err NotFound) it = absurd it
  entering-tail dir e (Err Exists) it = tail_kept old new it.media_kept
  entering-tail dir e (Err (File (file.Device n))) it = by_stop it.1
    where
      by_stop : EnteringStops v dir e old new → OnMedia KeepsTail old new
      by_stop (unchanged same) = tail_kept old new same
      by_stop (took t) =
          tail_of KeepsTail old new t.image t.now t.was t.is
          (none_given t.image t.now v t.left (vol_of old v on t.image t.was) t.vol (ap (λ (w : DiskVolume). w.ident) t.ends.volume.same) t.end)
  entering-tail dir e (Err (File file.NoCluster)) it = tail_kept old new it.media_kept
  entering-tail dir e (Err (File file.TooManyRuns)) it = tail_kept old new it.media_kept

  -- a write
  pub write-tail : (f : DiskFile) (write : Laying) (r : Result (Unit {0}) FileFault) → AnswersWrite v f write old new r → OnMedia KeepsTail old new
  write-tail f write (Ok done) it =
      let t = it.tidy in
      tail_of KeepsTail old new t.image t.now t.was t.is
      (none_given t.image t.now v it.volume (vol_of old v on t.image t.was) (vol_of new it.volume it.on t.now t.is) (ap (λ (w : DiskVolume). w.ident) it.writes.volume) t.map_end)
  write-tail f write (Err (file.Device n)) it = by_stop it
    where
      by_stop : WriteIsEnded v write old new → OnMedia KeepsTail old new
      by_stop (as_it_was some same) = tail_kept old new same
      by_stop (stopped s) =
          let t = s.tidy in
          tail_of KeepsTail old new t.image t.now t.was t.is
          (none_given t.image t.now v s.volume (vol_of old v on t.image t.was) (vol_of new s.volume s.on t.now t.is) (ap (λ (w : DiskVolume). w.ident) s.ends.volume.same) t.map_end)
  write-tail f write (Err file.NoCluster) it = tail_kept old new it.media_kept
  write-tail f write (Err file.TooManyRuns) it = tail_kept old new it.media_kept

  -- a deletion
  pub deleted-tail : (d : ℕ) (name : List ℕ) → IsDeletedBy v d name old new → OnMedia KeepsTailUnused old new
  deleted-tail d name by =
      let it = by.is in
      tail_of KeepsTailUnused old new it.image it.now it.was it.is
      (file_given it.image it.now v it.after (vol_of old v on it.image it.was) it.vol
      (ap (λ (w : DiskVolume). w.ident) it.deletes.drops.volume) by.number it.file it.there
      (has_gone v it.after d by.number name it.deletes) it.end)

  pub stopped-tail : (d : ℕ) (name : List ℕ) (user : ℕ) (execute : Bool) → DeletionStops v d name user execute old new → OnMedia KeepsTailUnused old new
  stopped-tail d name user execute (as_before same) = unused_kept old new same
  stopped-tail d name user execute (lost_now {n = n} it) =
      let h = it.half in
      tail_of KeepsTailUnused old new h.image h.now h.was h.is
      (file_may h.image h.now v h.left (vol_of old v on h.image h.was) h.vol
      (ap (λ (w : DiskVolume). w.ident) h.lose.same ∙ ap (λ (w : DiskVolume). w.ident) h.deletes.drops.volume) n
      h.file h.there (ap (λ (w : DiskVolume). w.files n) h.lose.same ∙ has_gone v h.after d n name h.deletes)
      h.end)
