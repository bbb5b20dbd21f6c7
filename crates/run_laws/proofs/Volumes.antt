-- What a change of a volume, and what a fault of its drive, leave of its ends; and of the volumes of a machine where
-- one of them is another.
use Rattle.std.proofs.Common.{◌≡◌, ◌≢◌, ◌⊎◌, ℕ, ◌<◌, ◌≤◌, Option, Some, None, List, length, refl, sym, ap, ◌∙◌, subst, inl, inr}
use Rattle.std.specs.Prelude.{Bool, slice_index_or, slice_set}
use Rattle.std.proofs.lemmas.Bool.{cases_eq, cases_lt}
use Rattle.std.proofs.lemmas.List.{get_or-set_same, get_or-set_other, get_or_past}
use Rattle.std.proofs.lemmas.Option.{none-some, same_Some}
use Rattle.os9_base.specs.declared.registers.TimePacket.{TimePacket}
use Rattle.rbf_model.specs.Volume.{DiskVolume}
use Rattle.rbf_change.specs.Calls.{replaced}
use Rattle.rbf_change.specs.Faults as ends
use Rattle.rbf_change.specs.Faults.{DeletionEnds, MayLose, NewFileEnds, SizeEnds, with_front}
use Rattle.rbf_change.specs.NewFiles.{Plan, directory_plan, file_plan}
use Rattle.file_rules.specs.Change.{Change, writes, sizes, sets_attributes, creates, makes_directory, deletes, AppliesChange, ChangeMayLeave}
use Rattle.run_laws.specs.Ends.{KeepsVolumeEnds}

-- ---- one volume

pub ends-same : (v : DiskVolume) → KeepsVolumeEnds v v
ends-same v = record { ident = refl; rest = refl }

pub ends-then : (u v w : DiskVolume) → KeepsVolumeEnds u v → KeepsVolumeEnds v w → KeepsVolumeEnds u w
ends-then u v w first next = record { ident = next.ident ∙ first.ident; rest = next.rest ∙ first.rest }

-- a volume that is this one
pub ends-is : (u v w : DiskVolume) → w ≡ v → KeepsVolumeEnds u v → KeepsVolumeEnds u w
ends-is u v w is kept = subst (KeepsVolumeEnds u) (sym is) kept

-- and one that has lost clusters
ends-lost : (u v w : DiskVolume) (clusters : ℕ → Bool) → KeepsVolumeEnds u v → MayLose v w clusters → KeepsVolumeEnds u w
ends-lost u v w clusters kept lose = record {
  ident = ap (λ (w : DiskVolume). w.ident) lose.same ∙ kept.ident;
  rest = ap (λ (w : DiskVolume). w.rest) lose.same ∙ kept.rest;
}

module _ (v w : DiskVolume) where
  pub ends-made : (change : Change) (user : ℕ) (now : TimePacket) (number : ℕ) → AppliesChange change user now v w number → KeepsVolumeEnds v w
  ends-made (writes n at bytes) user now number it = ends-is v _ w it.volume (record { ident = refl; rest = refl })
  ends-made (sizes n size) user now number it = ends-is v _ w it.volume (record { ident = refl; rest = refl })
  ends-made (sets_attributes n attributes) user now number it = ends-is v _ w it.volume (record { ident = refl; rest = refl })
  ends-made (creates d name attributes) user now number it = ends-is v _ w it.volume (record { ident = refl; rest = refl })
  ends-made (makes_directory d name attributes) user now number it = ends-is v _ w it.volume (record { ident = refl; rest = refl })
  ends-made (deletes d n name) user now number it = ends-is v _ w it.drops.volume (record { ident = refl; rest = refl })

  ends-sized : (image : List ℕ) (n size : ℕ) (now : TimePacket) → SizeEnds image v w n size now → KeepsVolumeEnds v w
  ends-sized image n size now (ends.before same) = ends-is v v w same (ends-same v)
  ends-sized image n size now (ends.longer end) = ends-lost v v w _ (ends-same v) end.volume
  ends-sized image n size now (ends.cut end) =
      ends-lost v (replaced v n (Some end.new)) w _ (record { ident = refl; rest = refl }) end.volume

  ends-new : (d : ℕ) (name : List ℕ) (plan : ℕ → Plan) → NewFileEnds v w d name plan → KeepsVolumeEnds v w
  ends-new d name plan (ends.before same) = ends-is v v w same (ends-same v)
  ends-new d name plan (ends.taken end) = ends-lost v v w _ (ends-same v) end.volume

  ends-deleted : (image : List ℕ) (d n : ℕ) (name : List ℕ) → DeletionEnds image v w d n name → KeepsVolumeEnds v w
  ends-deleted image d n name (ends.before same) = ends-is v v w same (ends-same v)
  ends-deleted image d n name (ends.gone {u = u} it there lose marked) =
      ends-lost v u w _ (ends-is v _ u it.drops.volume (record { ident = refl; rest = refl })) lose

  pub ends-left : (change : Change) (user : ℕ) (now : TimePacket) → ChangeMayLeave change user now v w → KeepsVolumeEnds v w
  ends-left (writes n at bytes) user now it =
      ends-lost v (replaced v n (Some (with_front it.old at bytes it.count))) w _ (record { ident = refl; rest = refl }) it.volume
  ends-left (sizes n size) user now (image, vol, it) = ends-sized image n size now it
  ends-left (sets_attributes n attributes) user now it = ends-is v v w it (ends-same v)
  ends-left (creates d name attributes) user now it = ends-new d name (λ n. file_plan attributes user now) it
  ends-left (makes_directory d name attributes) user now it = ends-new d name (directory_plan attributes user now d) it
  ends-left (deletes d n name) user now (image, vol, it) = ends-deleted image d n name it

-- ---- the volumes in the drives

-- the volumes that are there keep their ends, and where none is there is none
pub record Keep (old new : List (Option DiskVolume)) : Type 0 where
  pub kept : (drive : ℕ) (v : DiskVolume) → slice_index_or old drive None ≡ Some v
      → (w : DiskVolume) × (slice_index_or new drive None ≡ Some w) × KeepsVolumeEnds v w
  pub none : (drive : ℕ) → slice_index_or old drive None ≡ None → slice_index_or new drive None ≡ None

pub keep-same : (old new : List (Option DiskVolume)) → new ≡ old → Keep old new
keep-same old new is = subst (Keep old) (sym is) (record {
  kept = λ drive v there. (v, there, ends-same v);
  none = λ drive nothing. nothing;
})

pub keep-then : (a b c : List (Option DiskVolume)) → Keep a b → Keep b c → Keep a c
keep-then a b c first next = record {
  kept = λ drive u there.
      let (v, then, one) = first.kept drive u there in
      let (w, now, other) = next.kept drive v then in
      (w, now, ends-then u v w one other);
  none = λ drive nothing. next.none drive (first.none drive nothing);
}

-- another volume with the same ends is in a drive that has one
module _ (old : List (Option DiskVolume)) (drive : ℕ) (v w : DiskVolume) (was : slice_index_or old drive None ≡ Some v) (ends_kept : KeepsVolumeEnds v w) where
  abbrev changed : List (Option DiskVolume)
  changed = slice_set old drive (Some w)

  there-now : slice_index_or changed drive None ≡ Some w
  there-now = by_place (cases_lt drive (length old))
    where
      by_place : (drive < length old) ⊎ (length old ≤ drive) → slice_index_or changed drive None ≡ Some w
      by_place (inl within) = get_or-set_same old drive (Some w) None within
      by_place (inr past) = absurd (none-some v (sym (get_or_past old drive None past) ∙ was))

  other-now : (other : ℕ) → other ≢ drive → slice_index_or changed other None ≡ slice_index_or old other None
  other-now other differ = get_or-set_other old drive other (Some w) None differ

  -- the drive of a number, where it is this one
  at-drive : (other : ℕ) → other ≡ drive → slice_index_or old other None ≡ Some v
  at-drive other same = ap (λ (n : ℕ). slice_index_or old n None) same ∙ was

  kept-by : (other : ℕ) (u : DiskVolume) → slice_index_or old other None ≡ Some u → (other ≡ drive) ⊎ (other ≢ drive)
      → (x : DiskVolume) × (slice_index_or changed other None ≡ Some x) × KeepsVolumeEnds u x
  kept-by other u there (inl same) = (
    w,
    ap (λ (n : ℕ). slice_index_or changed n None) same ∙ there-now,
    subst (λ (u : DiskVolume). KeepsVolumeEnds u w) (same_Some v u (sym (at-drive other same) ∙ there)) ends_kept,
  )
  kept-by other u there (inr differ) = (u, other-now other differ ∙ there, ends-same u)

  none-by : (other : ℕ) → slice_index_or old other None ≡ None → (other ≡ drive) ⊎ (other ≢ drive) → slice_index_or changed other None ≡ None
  none-by other nothing (inl same) = absurd (none-some v (sym nothing ∙ at-drive other same))
  none-by other nothing (inr differ) = other-now other differ ∙ nothing

  pub keep-changed : (new : List (Option DiskVolume)) → new ≡ changed → Keep old new
  keep-changed new is = subst (Keep old) (sym is) (record {
    kept = λ other u there. kept-by other u there (cases_eq other drive);
    none = λ other nothing. none-by other nothing (cases_eq other drive);
  })
