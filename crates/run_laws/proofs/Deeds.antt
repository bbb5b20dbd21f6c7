-- What an attempt on a path does is one where no device fails and no cluster is taken.
use Rattle.std.proofs.Common.{◌≡◌, ◌⊎◌, ℕ, zero, suc, ◌<◌, ◌≤◌, Bool, Option, Some, None, List, [], ◌∷◌, length, refl, sym, ap, ◌∙◌, subst, inl, inr, arith}
use Rattle.std.proofs.lemmas.Option.{same_Some}
use Rattle.os9_base.specs.Count.{Rose}
use Rattle.os9_base.specs.declared.errors.TheConstants.{E_SLF}
use Rattle.os9_base.specs.declared.registers.Regs.{Regs}
use Rattle.os9_base.specs.declared.registers.TimePacket.{TimePacket}
use Rattle.os9_outer.specs.TerminalState.{TerminalState}
use Rattle.rbf_model.specs.Fields.{directory_entry}
use Rattle.rbf_model.specs.File.{DiskFile}
use Rattle.rbf_model.specs.Laws.{with_directory_entry}
use Rattle.rbf_model.specs.Volume.{DiskVolume}
use Rattle.rbf_change.specs.Calls.{Changes, SizesFile, WritesFile, cluster_size, cuts, is_free_in, lengthened_file, lengthens, replaced, stays, with_attributes, written_file}
use Rattle.rbf_change.specs.Contents.{written}
use Rattle.rbf_change.specs.Growth.{IsChoice, clusters_needed, with_clusters}
use Rattle.rbf_change.specs.Names.{freed_entry, place_of}
use Rattle.io_model.specs.Attempts.{HasIoEffect}
use Rattle.io_model.specs.Step.{IoEffect, IoEnd, IoStep, answers, fails}
use Rattle.file_rules.specs.Change.{Change, FindsNoPlace, AppliesChange, MayBeTooLong, writes, sizes, sets_attributes, creates, makes_directory, deletes}
use Rattle.file_rules.specs.Files.{Asker, DriveState, Files, drive_at, volume_at}
use Rattle.file_rules.specs.Step.{Deed, DoesDeed, FileDoes, FileEffect, FileStep, GoesWell, IsBroken, IsChanged, IsTooLong, VolumeChange, as_io, changes, deed_of, leaves_so, on_files, with_drives_after, with_volume_after}
use Rattle.file_rules.specs.declared.path_call.PathCall.{PathCall}
use Rattle.file_laws.proofs.Splits.{Answers, CreatesFile, Splits}
use Rattle.run_laws.specs.Faults.{DeedTakes, NeedsClusters, NoDriveFailed, TakesClusters, TakesFrom}
use Rattle.run_laws.proofs.Terminals.{NoneOf, OneEffect, does-one}

-- ---- clusters

zero-or : (n : ℕ) → (n ≡ 0) ⊎ (0 < n)
zero-or zero = inl refl
zero-or (suc n) = inr (omega arith)

empty-of : (clusters : List ℕ) → length clusters ≤ 0 → clusters ≡ []
empty-of [] few = refl
empty-of (c ∷ clusters) few = absurd (omega (arith, few))

-- where no clusters are needed there is one choice
choice-one : (k : ℕ) (free : ℕ → Bool) (segments : List (ℕ × ℕ)) (size : ℕ) (gained others : List ℕ)
    → clusters_needed k segments size ≡ 0 → IsChoice k free segments size gained → IsChoice k free segments size
    others → gained ≡ others
choice-one k free segments size gained others none one two =
    empty-of gained (omega (arith, one.enough, none)) ∙ sym (empty-of others (omega (arith, two.enough, none)))

long-needs : (v : DiskVolume) (n : ℕ) (size : DiskFile → ℕ) → FindsNoPlace v n size → NeedsClusters v n size
long-needs v n size long = by_needed (zero-or (clusters_needed (cluster_size v) long.file.segments (size long.file)))
  where
    by_needed : (clusters_needed (cluster_size v) long.file.segments (size long.file) ≡ 0) ⊎ (0 < clusters_needed (cluster_size v) long.file.segments (size long.file)) → NeedsClusters v n size
    by_needed (inl none) =
        let empty : long.gained ≡ [] = empty-of long.gained (omega (arith, long.full.needed, none)) in
        record {
          file = long.file;
          is = long.is;
          some = inr (subst (λ (gained : List ℕ). 48 < length (with_clusters (cluster_size v) long.file.segments gained)) empty long.full.full);
        }
    by_needed (inr some) = record { file = long.file; is = long.is; some = inl some }

long-takes : (change : Change) (v : DiskVolume) → MayBeTooLong change v → TakesClusters change v
long-takes (writes n at bytes) v long = long-needs v n (λ file. length (written file.contents at bytes)) long
long-takes (sizes n size) v long = long-needs v n (λ file. size) long
long-takes (creates d name attributes) v long = tt
long-takes (makes_directory d name attributes) v long = tt
long-takes (sets_attributes n attributes) v long = absurd long
long-takes (deletes d n name) v long = absurd long

create-takes : (change : Change) (v : DiskVolume) → CreatesFile change → TakesClusters change v
create-takes (creates d name attributes) v new = tt
create-takes (makes_directory d name attributes) v new = tt
create-takes (writes n at bytes) v new = absurd new
create-takes (sizes n size) v new = absurd new
create-takes (sets_attributes n attributes) v new = absurd new
create-takes (deletes d n name) v new = absurd new

-- ---- changes of a volume

sized-one : (k : ℕ) (free : ℕ → Bool) (n size : ℕ) (now : TimePacket) (old new other : DiskFile) → clusters_needed k
    old.segments size ≡ 0 → SizesFile k free n size now old new → SizesFile k free n size now old other → new ≡ other
sized-one k free n size now old _ _ none (stays same) (stays same_too) = refl
sized-one k free n size now old _ _ none (stays same) (cuts less) = absurd (omega (arith, same, less))
sized-one k free n size now old _ other none (stays same) (lengthens more it) = absurd (omega (arith, same, more))
sized-one k free n size now old _ _ none (cuts less) (stays same) = absurd (omega (arith, same, less))
sized-one k free n size now old _ _ none (cuts less) (cuts less_too) = refl
sized-one k free n size now old _ other none (cuts less) (lengthens more it) = absurd (omega (arith, less, more))
sized-one k free n size now old new _ none (lengthens more it) (stays same) = absurd (omega (arith, same, more))
sized-one k free n size now old new _ none (lengthens more it) (cuts less) = absurd (omega (arith, less, more))
sized-one k free n size now old new other none (lengthens more it) (lengthens more_too second) =
    it.file
    ∙ ap (λ (gained : List ℕ). lengthened_file old size now (with_clusters k old.segments gained)) (choice-one k free old.segments size it.gained second.gained none it.choice second.choice)
    ∙ sym second.file

written-one : (k : ℕ) (free : ℕ → Bool) (at : ℕ) (bytes : List ℕ) (now : TimePacket) (old new other : DiskFile)
    → clusters_needed k old.segments (length (written old.contents at bytes)) ≡ 0 → WritesFile k free at bytes now old
    new → WritesFile k free at bytes now old other → new ≡ other
written-one k free at bytes now old new other none one two =
    one.file
    ∙ ap (λ (gained : List ℕ). written_file old at bytes now (with_clusters k old.segments gained))
    (choice-one k free old.segments (length (written old.contents at bytes)) one.gained two.gained none one.choice
    two.choice)
    ∙ sym two.file

-- a change of one file by a rule that gives one file where no clusters are needed
file-one : (size : DiskFile → ℕ) (change : DiskFile → DiskFile → Type 0) (v w x : DiskVolume) (n : ℕ)
    → ((old new other : DiskFile) → clusters_needed (cluster_size v) old.segments (size old) ≡ 0 → change old new
    → change old other → new ≡ other) → Changes change v w n → Changes change v x n → NeedsClusters v n size ⊎ (w ≡ x)
file-one size change v w x n same one two = by_needed (zero-or (clusters_needed (cluster_size v) one.old.segments (size one.old)))
  where
    old : two.old ≡ one.old
    old = same_Some two.old one.old (sym two.is ∙ one.is)

    by_needed : (clusters_needed (cluster_size v) one.old.segments (size one.old) ≡ 0) ⊎ (0 < clusters_needed (cluster_size v) one.old.segments (size one.old)) → NeedsClusters v n size ⊎ (w ≡ x)
    by_needed (inl none) =
        let new : one.new ≡ two.new = same one.old one.new two.new none one.changed (subst (λ (old : DiskFile). change old two.new) old two.changed) in
        inr (one.volume ∙ ap (λ (new : DiskFile). replaced v n (Some new)) new ∙ sym two.volume)
    by_needed (inr some) = inl (record { file = one.old; is = one.is; some = inl some })

-- what a change makes of a volume is one, or it takes clusters
makes-one : (change : Change) (user : ℕ) (now : TimePacket) (v w x : DiskVolume) (m n : ℕ) → AppliesChange change user
    now v w m → AppliesChange change user now v x n → TakesClusters change v ⊎ (w ≡ x)
makes-one (writes n at bytes) user now v w x m k one two =
    file-one (λ file. length (written file.contents at bytes)) (WritesFile (cluster_size v) (is_free_in v) at bytes now) v w x n (written-one (cluster_size v) (is_free_in v) at bytes now) one two
makes-one (sizes n size) user now v w x m k one two =
    file-one (λ file. size) (SizesFile (cluster_size v) (is_free_in v) n size now) v w x n (sized-one (cluster_size v) (is_free_in v) n size now) one two
makes-one (creates d name attributes) user now v w x m k one two = inl tt
makes-one (makes_directory d name attributes) user now v w x m k one two = inl tt
makes-one (sets_attributes n attributes) user now v w x m k one two =
    let old : one.old ≡ two.old = same_Some one.old two.old (sym one.is ∙ two.is) in
    let new : one.new ≡ two.new = one.changed ∙ ap (λ (old : DiskFile). with_attributes old attributes now) old ∙ sym two.changed in
    inr (one.volume ∙ ap (λ (new : DiskFile). replaced v n (Some new)) new ∙ sym two.volume)
makes-one (deletes d n name) user now v w x m k one two =
    let dir : one.dir ≡ two.dir = same_Some one.dir two.dir (sym one.is ∙ two.is) in
    let place : one.place ≡ two.place = same_Some one.place two.place (sym one.there ∙ ap (λ (dir : DiskFile). place_of dir.contents name) dir ∙ two.there) in
    let old : one.drops.old ≡ two.drops.old = same_Some one.drops.old two.drops.old (sym one.drops.is ∙ two.drops.is) in
    inr (one.drops.volume ∙ (λ i. replaced (replaced v d (Some (with_directory_entry (old i) (place i) (freed_entry (directory_entry (old i).contents (place i)))))) n None) ∙ sym two.drops.volume)

module _ (it : VolumeChange) (asker : Asker) (files : Files) (effect other : FileEffect) where
  taking : (old : DiskVolume) → volume_at files it.drive ≡ Some old → TakesClusters it.change old → TakesFrom files it
  taking old mounted takes = record { old = old; mounted = mounted; takes = takes }

  changed-one : ((m n : ℕ) → it.effect m ≡ it.effect n) → IsChanged it asker files effect → IsChanged it asker files other → TakesFrom files it ⊎ (effect ≡ other)
  changed-one fixed one two =
      let old : two.old ≡ one.old = same_Some two.old one.old (sym two.is ∙ one.is) in
      by_made (makes-one it.change asker.user asker.now one.old one.new two.new one.number two.number one.makes
      (subst (λ (old : DiskVolume). AppliesChange it.change asker.user asker.now old two.new two.number) old two.makes))
    where
      by_made : TakesClusters it.change one.old ⊎ (one.new ≡ two.new) → TakesFrom files it ⊎ (effect ≡ other)
      by_made (inl takes) = inl (taking one.old one.is takes)
      by_made (inr new) =
          inr (one.effect_is ∙ (λ i. with_volume_after (fixed one.number two.number i) it.drive (new i)) ∙ sym two.effect_is)

  changes-one : CreatesFile it.change ⊎ ((m n : ℕ) → it.effect m ≡ it.effect n) → IsChanged it asker files effect ⊎
      IsTooLong it files effect → IsChanged it asker files other ⊎ IsTooLong it files other → TakesFrom files it ⊎
      (effect ≡ other)
  changes-one fixed (inr long) two = inl (taking long.old long.is (long-takes it.change long.old long.too_long))
  changes-one fixed (inl one) (inr long) = inl (taking long.old long.is (long-takes it.change long.old long.too_long))
  changes-one (inl new) (inl one) (inl two) = inl (taking one.old one.is (create-takes it.change one.old new))
  changes-one (inr fixed) (inl one) (inl two) = changed-one fixed one two

-- ---- what is done

-- an attempt is answered, or refused
abbrev pub IsDone : IoEnd → Type 0
IsDone end = ((regs : Regs) × (end ≡ answers regs)) ⊎ ((number : ℕ) × (end ≡ fails number))

-- what an attempt leaves is one
pub record OneDeed (effect other : FileEffect) (after others : List TerminalState) : Type 0 where
  pub effects : effect ≡ other
  pub terminals : after ≡ others

-- an attempt makes a change of a volume, and this is its effect but for the drives
pub record MakesChange (it : VolumeChange) (asker : Asker) (files : Files) (effect : FileEffect) (before after : List TerminalState) : Type 0 where
  pub made : FileEffect
  pub does : IsChanged it asker files made ⊎ IsTooLong it files made
  pub answers_so : IsDone made.end
  pub effect_is : effect ≡ with_drives_after made files.drives
  pub terminals : after ≡ before

-- two attempts make one change that takes clusters
pub record BothTake (asker : Asker) (files : Files) (deed : Deed) (effect other : FileEffect) (before after others : List TerminalState) : Type 0 where
  pub takes : DeedTakes files deed
  pub one : MakesChange takes.it asker files effect before after
  pub second : MakesChange takes.it asker files other before others

module _ (call : PathCall) (asker : Asker) (files : Files) (reached : Option ℕ) (before after others : List TerminalState) (none : NoneOf before after) (none_too : NoneOf before others) where
  -- what such a change answers
  change-done : (terms : ℕ) (it : VolumeChange) (effect : FileEffect) → Answers call asker files terms reached it → IsChanged it asker files effect ⊎ IsTooLong it files effect → IsDone effect.end
  change-done terms it effect so (inl changed) =
      let (regs, is) = so.answer changed.number in
      inl (regs, ap (λ (effect : FileEffect). effect.end) changed.effect_is ∙ is)
  change-done terms it effect so (inr long) = inr (E_SLF, ap (λ (effect : FileEffect). effect.end) long.effect_is)

  deed-one : (terms : ℕ) (deed : Deed) (one two effect other : FileEffect) → Splits call asker files terms reached
      deed → DoesDeed deed asker files one before after → DoesDeed deed asker files two before others
      → effect ≡ with_drives_after one files.drives → other ≡ with_drives_after two files.drives
      → BothTake asker files deed effect other before after others ⊎ OneDeed effect other after others
  deed-one terms (leaves_so it) one two effect other splits (is, same) (is_too, same_too) effect_is other_is =
      inr (record {
        effects = effect_is ∙ ap (λ (effect : FileEffect). with_drives_after effect files.drives) (is ∙ sym is_too) ∙ sym other_is;
        terminals = same ∙ sym same_too;
      })
  deed-one terms (as_io step) one two effect other splits (it, does, is) (second, does_too, is_too) effect_is other_is =
      let same : OneEffect it second after others = does-one asker.caller files.io before after others none none_too step it second does does_too in
      inr (record {
        effects = effect_is ∙ ap (λ (effect : FileEffect). with_drives_after effect files.drives) (is ∙ ap (on_files asker.caller.process.0 files) same.effects ∙ sym is_too) ∙ sym other_is;
        terminals = same.terminals;
      })
  deed-one terms (changes it) one two effect other splits (is, same) (is_too, same_too) effect_is other_is =
      by_change (changes-one it asker files one two splits.fixed is is_too)
    where
      by_change : TakesFrom files it ⊎ (one ≡ two) → BothTake asker files (changes it) effect other before after others ⊎ OneDeed effect other after others
      by_change (inl takes) =
          inl (record {
            takes = record { it = it; is = refl; taken = takes };
            one = record { made = one; does = is; answers_so = change-done terms it one splits is; effect_is = effect_is; terminals = same };
            second = record { made = two; does = is_too; answers_so = change-done terms it two splits is_too; effect_is = other_is; terminals = same_too };
          })
      by_change (inr effects) =
          inr (record {
            effects = effect_is ∙ ap (λ (effect : FileEffect). with_drives_after effect files.drives) effects ∙ sym other_is;
            terminals = same ∙ sym same_too;
          })

  broken-not : (step : FileStep) (effect : FileEffect) → IsBroken step asker files effect → NoDriveFailed files.drives effect.files.drives → ⊥
  broken-not step effect broken not_failed =
      not_failed broken.drive
      (subst (λ (effect : FileEffect). Rose (drive_at files.drives broken.drive).faults (drive_at effect.files.drives broken.drive).faults) (sym broken.effect_is) broken.failed.rose)

  pub attempt-one : (terms : ℕ) (step : FileStep) (effect other : FileEffect) → Splits call asker files terms reached
      (deed_of step files) → FileDoes step asker files effect before after → FileDoes step asker files other before
      others → NoDriveFailed files.drives effect.files.drives → NoDriveFailed files.drives other.files.drives
      → BothTake asker files (deed_of step files) effect other before after others ⊎ OneDeed effect other after others
  attempt-one terms step effect other splits (inr (broken, same)) two not_failed not_failed_too =
      absurd (broken-not step effect broken not_failed)
  attempt-one terms step effect other splits (inl one) (inr (broken, same)) not_failed not_failed_too =
      absurd (broken-not step other broken not_failed_too)
  attempt-one terms step effect other splits (inl one) (inl two) not_failed not_failed_too =
      deed-one terms (deed_of step files) one.it two.it effect other splits one.does two.does
      (one.effect_is ∙ ap (with_drives_after one.it) one.none_failed)
      (two.effect_is ∙ ap (with_drives_after two.it) two.none_failed)
