-- A new file gets its bytes.
use Rattle.std.proofs.Common.{◌≡◌, ℕ, Option, Some, None, List, [], length, ◌⊎◌, Result, Ok, Err, refl, sym, ap, ◌∙◌, ◌==◌, inl, inr, eq-eqb}
use Rattle.std.proofs.lemmas.Bool.{cond-true}
use Rattle.os9_base.specs.declared.registers.TimePacket.{TimePacket}
use Rattle.os9_base.specs.declared.errors.TheConstants.{E_BPNAM}
use Rattle.rbf_model.specs.File.{DiskFile}
use Rattle.rbf_model.specs.Volume.{DiskVolume}
use Rattle.rbf_change.specs.Calls.{shape, cluster_size}
use Rattle.rbf_change.specs.NewFiles.{file_plan}
use Rattle.rbf_access.specs.Drive.{DriveCounts, MovesCounts}
use Rattle.rbf_access.specs.MapMarks.{marking_sectors}
use Rattle.rbf_access.specs.Mounted.{RepresentsVolume}
use Rattle.rbf_access.specs.declared.faults.FileFault.{FileFault}
use Rattle.rbf_access.specs.declared.faults.FileFault.TheVariants as file
use Rattle.rbf_walk.proofs.Stepping.{file_in}
use Rattle.rbf_alloc.specs.Grown.{is_gained}
use Rattle.rbf_write.specs.Files.{HasDataFile}
use Rattle.rbf_write.specs.Outcomes.{AnswersWrite, AreMarked, WriteIsEnded, unchanged, stopped, write_calls}
use Rattle.vol_tools.specs.Names.{place}
use Rattle.vol_tools.specs.Numbers.{create_number}
use Rattle.vol_tools.specs.Refusals.{MakingStops, ToolMayLeave, halfway, unchanged as as_before, full, long}
use Rattle.vol_tools.specs.Tool.{put, CreatesAt, file_attributes}
use Rattle.vol_tools.specs.UsesInTurn.{Use}
use Rattle.vol_tools.specs.Answers.{AnswersTool, GivesOn, LeavesOn}
use Rattle.vol_tools.specs.Faults.{of_file, MovesFaults}
use Rattle.vol_tools.specs.Making.{AnswersMaking, MadeOn, new_file}
use Rattle.vol_tools.specs.declared.fault.ToolFault.{ToolFault}
use Rattle.vol_tools.specs.declared.fault.ToolFault.TheVariants.{Number, Device, OutOfMemory}
use Rattle.vol_tools.proofs.Counts.{faults_of}
use Rattle.vol_tools.proofs.Ways.{still}

no_number : {A : Type 0} (o : Option ℕ) (n : ℕ) → o ≡ None → o ≡ Some n → A
no_number o n none some = absurd (clash (sym none ∙ some))
  where
    clash : ◌≡◌ {A = Option ℕ} None (Some n) → ⊥
    clash e = cc

module _ (path bytes : List ℕ) (now : TimePacket) (v : DiskVolume) where
  abbrev use_ : Use
  use_ = record { tool = put path bytes; now = now }

  -- the path names no place for a new file
  pub no_place : (old : Option (List ℕ)) → RepresentsVolume old v → create_number v path ≡ Some E_BPNAM → AnswersTool {A = Unit {0}} use_ (λ _. []) v old old (Err (Number E_BPNAM))
  no_place old on h = record { volume = v; on = on; refuses = inl (h, refl); kept = λ _. refl }

  by_ends : (w : DiskVolume) → (w ≡ v) ⊎ ((create_number v path ≡ None) × MakingStops v w path (λ d k. file_plan file_attributes 0 now)) → ToolMayLeave (put path bytes) now v w
  by_ends w (inl same) = as_before same
  by_ends w (inr half) = halfway half.0 (inl half.1)

  -- the file was not made
  pub not_made : (old new : Option (List ℕ)) (fault : ToolFault) → RepresentsVolume old v → AnswersMaking (new_file now) path v old new (Err fault)
      → AnswersTool {A = Unit {0}} use_ (λ _. []) v old new (Err fault)
  not_made old new (Number n) on h = record { volume = v; on = still old new v h.1 on; refuses = inl (h.0, refl); kept = λ _. h.1 }
  not_made old new (Device n) on h = record { volume = h.volume; on = h.on; may = by_ends h.volume h.ends }
  not_made old new OutOfMemory on h = absurd h

  module _ (n : ℕ) (mid : Option (List ℕ)) (made : MadeOn (new_file now) path v n mid) where
    created : CreatesAt v made.volume path n now
    created = record { allowed = made.allowed; directory = made.directory; name = made.name; leads = made.leads; creates = made.enters }

    -- the new file of the volume that is left
    pub new_there : (f : DiskFile) × (made.volume.files n ≡ Some f)
    new_there =
        let both = made.enters.both in
        (both.file, ap (λ (u : DiskVolume). u.files n) made.enters.volume ∙ cond-true (n == n) (Some both.file) _ (eq-eqb n n refl))

    ended : (new : Option (List ℕ)) → WriteIsEnded made.volume (record { number = n; at = 0; bytes = bytes; now = now }) mid new → LeavesOn use_ v new
    ended new (unchanged some kept) = record {
      volume = made.volume;
      on = still mid new made.volume kept made.on;
      may = halfway made.allowed (inr (record { number = n; created = made.volume; creates = created; ends = inl refl }));
    }
    ended new (stopped it) = record {
      volume = it.volume;
      on = it.on;
      may = halfway made.allowed (inr (record { number = n; created = made.volume; creates = created; ends = inr it.ends }));
    }

    module _ (new : Option (List ℕ)) where
      pub written : AnswersWrite made.volume (new_there.0) (record { number = n; at = 0; bytes = bytes; now = now }) mid new (Ok tt) → GivesOn use_ v [] new
      written r = record { volume = r.volume; on = r.on; gives = (record { number = n; created = made.volume; creates = created; writes = r.writes }, refl) }

      pub not_written : (old : Option (List ℕ)) (e : FileFault) → AnswersWrite made.volume (new_there.0) (record { number = n; at = 0; bytes = bytes; now = now }) mid new (Err e)
          → AnswersTool {A = Unit {0}} use_ (λ _. []) v old new (Err (of_file e))
      not_written old (file.Device k) r = ended new r
      not_written old file.NoCluster r = record {
        volume = made.volume;
        on = still mid new made.volume r.media_kept made.on;
        refuses = inr (record { file_number = n; creates = created; file = new_there.0; there = new_there.1; refused = full r.few });
        kept = λ some. no_number _ _ made.allowed some;
      }
      not_written old file.TooManyRuns r = record {
        volume = made.volume;
        on = still mid new made.volume r.media_kept made.on;
        refuses = inr (record { file_number = n; creates = created; file = new_there.0; there = new_there.1; refused = long r.enough r.full });
        kept = λ some. no_number _ _ made.allowed some;
      }

-- a file of the media is one
same_file : (media : Option (List ℕ)) (u w : DiskVolume) (n : ℕ) (one other : DiskFile) → RepresentsVolume media u
    → u.files n ≡ Some one → RepresentsVolume media w → w.files n ≡ Some other → one ≡ other
same_file media u w n one other on is on_w is_w =
    let both : ◌≡◌ {A = Option DiskFile} (Some one) (Some other) = sym (file_in media n (record { content = u; on = on; file = one; is = is }) w on_w) ∙ is_w in
    cc

-- how the counts of a write that was done moved
pub write_moved : (before after : Option (List ℕ)) (n at : ℕ) (bytes : List ℕ) (now : TimePacket) (s t : DriveCounts) (has : HasDataFile before n)
    → AnswersWrite has.content has.file (record { number = n; at = at; bytes = bytes; now = now }) before after (Ok tt)
    → ((marks : ℕ) → AreMarked has.content has.file n after (Ok tt) marks → MovesCounts None (write_calls has.content has.file marks at (length bytes)) s t)
    → MovesFaults None s t
write_moved before after n at bytes now s t has it counts =
    let there : it.volume.files n ≡ Some it.writes.new = ap (λ (w : DiskVolume). w.files n) it.writes.volume ∙ cond-true (n == n) (Some it.writes.new) _ (eq-eqb n n refl) in
    let k = cluster_size has.content in
    faults_of None _ s t
    (counts (marking_sectors (shape has.content) (is_gained k has.file.segments it.writes.new.segments))
    (λ w new on is. ap (λ (f : DiskFile). marking_sectors (shape has.content) (is_gained k has.file.segments f.segments)) (same_file after it.volume w n it.writes.new new it.on there on is)))
