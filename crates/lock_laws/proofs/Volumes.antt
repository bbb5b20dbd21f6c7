-- What a change of a volume makes of the contents of a file that a path is on, done or ended by a fault.
use Rattle.std.proofs.Common.{◌≡◌, ◌≢◌, ℕ, ◌<◌, ◌≤◌, ◌==◌, Bool, true, false, Option, Some, None, List, [], length, refl, sym, ap, ◌∙◌, subst, inl, inr, arith}
use Rattle.std.specs.Prelude.{if◌then◌else◌}
use Rattle.std.proofs.lemmas.Bool.{cases_eq, eq-eqb, eqb-true, false≢true}
use Rattle.std.proofs.lemmas.Option.{same_Some}
use Rattle.os9_base.specs.declared.registers.TimePacket.{TimePacket}
use Rattle.lock_model.specs.Laws.{Covers}
use Rattle.lock_model.specs.declared.lock.Range.{Range}
use Rattle.rbf_model.specs.Fields.{directory_entry}
use Rattle.rbf_model.specs.File.{DiskFile, is_directory}
use Rattle.rbf_model.specs.Laws.{with_directory_entry}
use Rattle.rbf_model.specs.Volume.{DiskVolume}
use Rattle.rbf_change.specs.Calls.{SetsAttributes, SetsSize, SizesFile, WritesFileAt, cluster_size, cuts, is_free_in, lengthens, replaced, stays}
use Rattle.rbf_change.specs.Faults.{DeletionEnds, MayLose, NewFileEnds, SizeEnds, WriteEnds, before, cut, gone, longer, taken, with_front}
use Rattle.rbf_change.specs.Names.{freed_entry}
use Rattle.rbf_change.specs.NewFiles.{Deletes, EntersNewFile, Plan}
use Rattle.file_laws.proofs.Volumes.{fresh}
use Rattle.lock_laws.specs.Contents.{ChangesWithin}
use Rattle.lock_laws.proofs.Bytes.{cut-within, front-within, resized-within, same-within, written-within}

-- file n of a volume is there still, and its contents are so
pub record IsThen (fact : List ℕ → List ℕ → Type 0) (v w : DiskVolume) (n : ℕ) (file : DiskFile) : Type 0 where
  pub new : DiskFile
  pub there : w.files n ≡ Some new
  pub holds : fact file.contents new.contents

abbrev pub Same : List ℕ → List ℕ → Type 0
Same old new = new ≡ old

same-file : (v w : DiskVolume) (n : ℕ) (file : DiskFile) → w.files n ≡ Some file → IsThen Same v w n file
same-file v w n file there = record { new = file; there = there; holds = refl }

-- ---- one file is another

-- the directory with a free entry
abbrev with_free_entry : DiskFile → ℕ → DiskFile
with_free_entry old i = with_directory_entry old i (freed_entry (directory_entry old.contents i))

other-there : (v : DiskVolume) (n m : ℕ) (file : Option DiskFile) → m ≢ n → (replaced v n file).files m ≡ v.files m
other-there v n m file apart = by_test (m == n) refl
  where
    by_test : (same : Bool) → (m == n) ≡ same → (replaced v n file).files m ≡ v.files m
    by_test true is = absurd (apart (eqb-true m n is))
    by_test false is = ap (λ (b : Bool). if b then file else v.files m) is

own-there : (v : DiskVolume) (n m : ℕ) (file : Option DiskFile) → m ≡ n → (replaced v n file).files m ≡ file
own-there v n m file same = ap (λ (b : Bool). if b then file else v.files m) (eq-eqb m n same)

-- what is true of the file that is another, and the others stay
replaced-then : (fact : List ℕ → List ℕ → Type 0) (v : DiskVolume) (k n : ℕ) (was now file : DiskFile)
    → v.files k ≡ Some was → v.files n ≡ Some file → n ≡ k → fact was.contents now.contents
    → IsThen fact v (replaced v k (Some now)) n file
replaced-then fact v k n was now file is there same holds =
    let old : was ≡ file = same_Some was file (sym is ∙ sym (ap v.files same) ∙ there) in record {
      new = now;
      there = own-there v k n (Some now) same;
      holds = subst (λ (file : DiskFile). fact file.contents now.contents) old holds;
    }

replaced-same : (v : DiskVolume) (k n : ℕ) (now file : DiskFile) → v.files n ≡ Some file → n ≢ k → IsThen Same v (replaced v k (Some now)) n file
replaced-same v k n now file there apart =
    same-file v (replaced v k (Some now)) n file (other-there v k n (Some now) apart ∙ there)

-- no cluster is a file
lost-then : (fact : List ℕ → List ℕ → Type 0) (v u w : DiskVolume) (n : ℕ) (file : DiskFile) (clusters : ℕ → Bool) → MayLose u w clusters → IsThen fact v u n file → IsThen fact v w n file
lost-then fact v u w n file clusters lose it = record {
  new = it.new;
  there = ap (λ (u : DiskVolume). u.files n) lose.same ∙ it.there;
  holds = it.holds;
}

-- ---- the file that is changed

module _ (v w : DiskVolume) (n : ℕ) (file : DiskFile) (there : v.files n ≡ Some file) (range : Range) where
  abbrev Within : List ℕ → List ℕ → List ℕ → Type 0
  Within bytes = ChangesWithin range bytes

  pub write-then : (bytes : List ℕ) (now : TimePacket) → Covers range (length bytes) → WritesFileAt v w n range.start bytes now → IsThen (Within bytes) v w n file
  write-then bytes now covers it =
      subst (λ (w : DiskVolume). IsThen (Within bytes) v w n file) (sym it.volume)
      (replaced-then (Within bytes) v n n it.old it.new file it.is there refl
      (subst (λ (new : DiskFile). Within bytes it.old.contents new.contents) (sym it.changed.file) (written-within range it.old.contents bytes covers)))

  sized-within : range.end ≡ None → (size : ℕ) (now : TimePacket) → range.start ≤ size → (old new : DiskFile)
      → SizesFile (cluster_size v) (is_free_in v) n size now old new → Within [] old.contents new.contents
  sized-within open_end size now from old _ (stays same) = same-within range [] old.contents old.contents refl
  sized-within open_end size now from old new (lengthens less it) =
      subst (λ (new : DiskFile). Within [] old.contents new.contents) (sym it.file) (resized-within range open_end old.contents size from (omega (arith, less)))
  sized-within open_end size now from old _ (cuts more) = cut-within range open_end old.contents size from (omega (arith, more))

  pub size-then : range.end ≡ None → (size : ℕ) (now : TimePacket) → range.start ≤ size → SetsSize v w n size now → IsThen (Within []) v w n file
  size-then open_end size now from it =
      subst (λ (w : DiskVolume). IsThen (Within []) v w n file) (sym it.volume)
      (replaced-then (Within []) v n n it.old it.new file it.is there refl (sized-within open_end size now from it.old it.new it.changed))

  pub write-ended : (bytes : List ℕ) → Covers range (length bytes) → WriteEnds v w n range.start bytes → IsThen (Within bytes) v w n file
  write-ended bytes covers it =
      lost-then (Within bytes) v (replaced v n (Some (with_front it.old range.start bytes it.count))) w n file _ it.volume
      (replaced-then (Within bytes) v n n it.old (with_front it.old range.start bytes it.count) file it.is there refl (front-within range it.old.contents bytes it.count covers it.front))

  stays-then : w ≡ v → IsThen (Within []) v w n file
  stays-then same = record {
    new = file;
    there = ap (λ (u : DiskVolume). u.files n) same ∙ there;
    holds = same-within range [] file.contents file.contents refl;
  }

  pub size-ended : range.end ≡ None → (image : List ℕ) (size : ℕ) (now : TimePacket) → range.start ≤ size → SizeEnds image v w n size now → IsThen (Within []) v w n file
  size-ended open_end image size now from (before same) = stays-then same
  size-ended open_end image size now from (longer it) =
      lost-then (Within []) v v w n file _ it.volume (record { new = file; there = there; holds = same-within range [] file.contents file.contents refl })
  size-ended open_end image size now from (cut it) =
      lost-then (Within []) v (replaced v n (Some it.new)) w n file _ it.volume
      (replaced-then (Within []) v n n it.old it.new file it.is there refl
      (subst (λ (new : DiskFile). Within [] it.old.contents new.contents) (sym it.cut) (cut-within range open_end it.old.contents size from (omega (arith, it.shorter)))))

-- ---- files that are not changed

module _ (v w : DiskVolume) (n : ℕ) (file : DiskFile) (there : v.files n ≡ Some file) where
  unchanged : w ≡ v → IsThen Same v w n file
  unchanged same = same-file v w n file (ap (λ (u : DiskVolume). u.files n) same ∙ there)

  -- another file of the volume is changed
  pub other-written : (k at : ℕ) (bytes : List ℕ) (now : TimePacket) → n ≢ k → WritesFileAt v w k at bytes now → IsThen Same v w n file
  other-written k at bytes now apart it = subst (λ (w : DiskVolume). IsThen Same v w n file) (sym it.volume) (replaced-same v k n it.new file there apart)

  pub other-sized : (k size : ℕ) (now : TimePacket) → n ≢ k → SetsSize v w k size now → IsThen Same v w n file
  other-sized k size now apart it = subst (λ (w : DiskVolume). IsThen Same v w n file) (sym it.volume) (replaced-same v k n it.new file there apart)

  pub other-write-ended : (k at : ℕ) (bytes : List ℕ) → n ≢ k → WriteEnds v w k at bytes → IsThen Same v w n file
  other-write-ended k at bytes apart it =
      lost-then Same v (replaced v k (Some (with_front it.old at bytes it.count))) w n file _ it.volume (replaced-same v k n (with_front it.old at bytes it.count) file there apart)

  pub other-size-ended : (image : List ℕ) (k size : ℕ) (now : TimePacket) → n ≢ k → SizeEnds image v w k size now → IsThen Same v w n file
  other-size-ended image k size now apart (before same) = unchanged same
  other-size-ended image k size now apart (longer it) = lost-then Same v v w n file _ it.volume (same-file v v n file there)
  other-size-ended image k size now apart (cut it) =
      lost-then Same v (replaced v k (Some it.new)) w n file _ it.volume (replaced-same v k n it.new file there apart)

  -- it is given the size that it has
  pub sized-same : (size : ℕ) (now : TimePacket) → length file.contents ≡ size → SetsSize v w n size now → IsThen Same v w n file
  sized-same size now long it =
      subst (λ (w : DiskVolume). IsThen Same v w n file) (sym it.volume)
      (replaced-then Same v n n it.old it.new file it.is there refl
      (by_size it.old it.new (ap (λ (file : DiskFile). length file.contents)
      (same_Some it.old file (sym it.is ∙ there)) ∙ long) it.changed))
    where
      by_size : (old new : DiskFile) → length old.contents ≡ size → SizesFile (cluster_size v) (is_free_in v) n size now old new → Same old.contents new.contents
      by_size old _ same (stays is) = refl
      by_size old new same (lengthens less changed) = absurd (omega (arith, less, same))
      by_size old _ same (cuts more) = absurd (omega (arith, more, same))

  -- attributes are no contents
  pub attributes-then : (k attributes : ℕ) (now : TimePacket) → SetsAttributes v w k attributes now → IsThen Same v w n file
  attributes-then k attributes now it =
      subst (λ (w : DiskVolume). IsThen Same v w n file) (sym it.volume) (elim (cases_eq n k) [
        | inl same ↦
            replaced-then Same v k n it.old it.new file it.is there same (ap (λ (file : DiskFile). file.contents) it.changed)
        | inr apart ↦ replaced-same v k n it.new file there apart
      ])

  pub attributes-ended : w ≡ v → IsThen Same v w n file
  attributes-ended same = unchanged same

  -- a file that is not a directory, when a directory is changed
  module _ (plain : is_directory file ≡ false) (d : ℕ) (folder : DiskFile) (at : v.files d ≡ Some folder) (is : is_directory folder ≡ true) where
    apart-from : n ≢ d
    apart-from same =
        let one : file ≡ folder = same_Some file folder (sym there ∙ ap v.files same ∙ at) in
        false≢true (sym plain ∙ ap (λ (file : DiskFile). is_directory file) one ∙ is)

    pub entered-then : (k : ℕ) (name : List ℕ) (plan : Plan) → 0 < cluster_size v → EntersNewFile v w d k name plan → IsThen Same v w n file
    entered-then k name plan some it =
        same-file v w n file
        (ap (λ (u : DiskVolume). u.files n) it.volume
        ∙ other-there (replaced v d (Some it.both.new)) k n (Some it.both.file) (λ same. fresh v k plan it.both.file some it.both.made file (sym (ap v.files same) ∙ there))
        ∙ other-there v d n (Some it.both.new) apart-from ∙ there)

    pub deleted-then : (k : ℕ) (name : List ℕ) → n ≢ k → Deletes v w d k name → IsThen Same v w n file
    deleted-then k name apart it =
        same-file v w n file
        (ap (λ (u : DiskVolume). u.files n) it.drops.volume
        ∙ other-there (replaced v d (Some (with_free_entry it.drops.old it.place))) k n None apart ∙ other-there v d n (Some (with_free_entry it.drops.old it.place)) apart-from ∙ there)

  pub new-file-ended : (d : ℕ) (name : List ℕ) (plan : ℕ → Plan) → NewFileEnds v w d name plan → IsThen Same v w n file
  new-file-ended d name plan (before same) = unchanged same
  new-file-ended d name plan (taken it) = lost-then Same v v w n file _ it.volume (same-file v v n file there)

module _ (v w : DiskVolume) (n : ℕ) (file : DiskFile) (there : v.files n ≡ Some file) (plain : is_directory file ≡
    false) (d : ℕ) (folder : DiskFile) (at : v.files d ≡ Some folder) (is : is_directory folder ≡ true) where
  pub deletion-ended : (image : List ℕ) (k : ℕ) (name : List ℕ) → n ≢ k → DeletionEnds image v w d k name → IsThen Same v w n file
  deletion-ended image k name apart (before same) = same-file v w n file (ap (λ (u : DiskVolume). u.files n) same ∙ there)
  deletion-ended image k name apart (gone {u = u} it gone_is lose unfinished) =
      lost-then Same v u w n file _ lose (deleted-then v u n file there plain d folder at is k name apart it)
