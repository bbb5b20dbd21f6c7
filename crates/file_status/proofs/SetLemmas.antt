-- I$SetStt of a file or a directory.
use Rattle.std.proofs.Common.{◌≡◌, ℕ, ◌+◌, ◌%◌, ◌≤◌, ◌∙◌, min, Bool, true, false, not, nat_lt, Option, List, length, Result, Ok, Err, refl, ap, sym, subst, ⊎_elim, arith}
use Rattle.std.specs.Prelude.{if◌then◌else◌}
use Rattle.std.proofs.lemmas.Bool.{or_left}
use Rattle.os9_base.specs.declared.call.CallEnd.{CallEnd}
use Rattle.os9_base.specs.declared.errors.TheConstants.{E_FNA, E_BMODE}
use Rattle.os9_base.specs.declared.registers.Regs.{Regs}
use Rattle.os9_base.specs.declared.registers.TimePacket.{TimePacket}
use Rattle.os9_outer.specs.TerminalState.{TerminalState}
use Rattle.proc_model.specs.Processes.{Processes, regs_at, user_at, with_regs_of}
use Rattle.io_model.specs.declared.path.Desc.{Desc}
use Rattle.io_model.specs.Modes.{can_write}
use Rattle.proc_state.specs.Tie.{RepresentsProcesses}
use Rattle.proc_state.specs.declared.state.ProcState.{ProcState}
use Rattle.rbf_model.specs.File.{DiskFile}
use Rattle.rbf_model.specs.Volume.{DiskVolume}
use Rattle.rbf_change.specs.Calls.{cluster_size, free_total}
use Rattle.rbf_change.specs.Growth.{clusters_needed}
use Rattle.rbf_change.specs.NewFiles.{owns_file}
use Rattle.rbf_access.specs.declared.faults.FileFault.TheVariants.{Device, NoCluster, TooManyRuns}
use Rattle.rbf_access.specs.declared.volume.Volume.{Volume}
use Rattle.rbf_entries.specs.Attributes.{attribute_calls}
use Rattle.rbf_write.specs.Outcomes.{laying_calls}
use Rattle.rbf_write.specs.Sizes.{Sizing, giving_calls, size_calls}
use Rattle.rbf_walk.specs.Walk.{directory_error}
use Rattle.rbf_walk.specs.declared.error.DirError.{DirError}
use Rattle.rbf_walk.specs.declared.error.DirError.TheVariants.{NotAllowed, BadPath, NotFound, Exists, File}
use Rattle.file_rules.specs.Attempts.{asker_of}
use Rattle.file_rules.specs.Change.{Change, sets_attributes}
use Rattle.file_rules.specs.Files.{Files, OpenFile}
use Rattle.file_rules.specs.Seek.{long_of}
use Rattle.file_rules.specs.Locking.{is_for_update, request_now}
use Rattle.file_rules.specs.Status.{locks_bytes, sets_attributes_of, sets_lock, sets_size, size_claim, sizes_locked}
use Rattle.file_rules.specs.Step.{FileStep, comes, changes, leaves, reaches, refuses}
use Rattle.io_model.specs.Step.{answers}
use Rattle.lock_model.specs.declared.place.FilePlace.{FilePlace}
use Rattle.file_drives.specs.Changed.{ChangesVolume, numbered}
use Rattle.file_drives.specs.Drives.{DriveView}
use Rattle.file_state.proofs.CountLemmas.{has-changed-in, HasChangedIn}
use Rattle.file_state.proofs.RequestLemmas.{lacks-none}
use Rattle.file_state.specs.Ends.{EndsFileAttempt, EndsOrLacks}
use Rattle.file_state.specs.Tie.{RepresentsFiles}
use Rattle.file_state.specs.declared.state.FileState.{FileState}
use Rattle.file_state.specs.declared.state.OpenFile.{OpenFile as KernelFile}
use Rattle.file_status.proofs.GetLemmas.{stops}
use Rattle.file_status.proofs.StandLemmas.{change-broken, change-made, change-refused, with_disks}
use Rattle.file_status.specs.Status.{RepresentsOpenFile, uncalled}

-- nothing is less than nothing
none-lacking : (free : ℕ) → nat_lt free 0 ≡ true → ⊥
none-lacking free h = grind arith

-- a file gains no more sectors of marks than clusters
pub size-at-most : (v : DiskVolume) (file : DiskFile) (marks : ℕ) (sizing : Sizing) → size_calls v file marks sizing ≤
    size_calls v file (clusters_needed (cluster_size v) file.segments sizing.size) sizing
size-at-most v file marks sizing = by (nat_lt (length file.contents) sizing.size)
  where
    gained : ℕ
    gained = clusters_needed (cluster_size v) file.segments sizing.size

    rest : ℕ
    rest = if nat_lt sizing.size (length file.contents) then 2 + giving_calls v file sizing else 1

    fewer : min gained marks ≤ min gained gained
    fewer = grind arith

    by : (longer : Bool) → (if longer then 1 + laying_calls v file marks sizing.size sizing.size else rest) ≤ (if longer then 1 + laying_calls v file gained sizing.size sizing.size else rest)
    by true = omega (arith, fewer)
    by false = omega arith

pub one-at-least : (v : DiskVolume) (file : DiskFile) (marks : ℕ) (sizing : Sizing) → 1 ≤ size_calls v file marks sizing
one-at-least v file marks sizing = by (nat_lt (length file.contents) sizing.size) (nat_lt sizing.size (length file.contents))
  where
    by : (longer shorter : Bool) → 1 ≤ (if longer then 1 + laying_calls v file marks sizing.size sizing.size else (if shorter then 2 + giving_calls v file sizing else 1))
    by true shorter = omega arith
    by false true = omega arith
    by false false = omega arith

module _ (m : Processes) (files : Files) (now : TimePacket) (p : ℕ) (end : CallEnd) (processes : ProcState)
    (state new : FileState) (before after : List DriveView) (terms : List TerminalState)
    (disks : List (Option Volume)) (opened : KernelFile) (it : OpenFile) (stands : RepresentsFiles state before files)
    (open_is : RepresentsOpenFile files opened it) (new_is : new ≡ uncalled (with_disks state disks) p) where
  abbrev place : FilePlace
  place = opened.place

  -- ---- SS.Attr

  abbrev attributing : Regs → Change
  attributing regs = sets_attributes place.number (regs.x % 256)

  abbrev is_foreign : ℕ → Bool
  is_foreign user = not (owns_file it.file user)

  abbrev attribute_deed : Regs → FilePlace → FileStep
  attribute_deed regs at =
      refuses (is_foreign (user_at m p)) E_FNA
      (comes (changes (record { drive = at.drive; change = sets_attributes at.number (regs.x % 256); effect = λ n. leaves (answers (regs_at m p)) files })))

  attribute-step : (regs : Regs) → regs ≡ regs_at m p → EndsFileAttempt (reaches place.drive (attribute_deed regs place))
      (attribute_calls it.file (user_at m p)) m files now p end processes new before after terms
      → EndsFileAttempt (sets_attributes_of (asker_of m p now) files it) (attribute_calls it.file (user_at m p)) m files now p
      end processes new before after terms
  attribute-step regs same ends =
      subst (λ (at : FilePlace). EndsFileAttempt (reaches at.drive (attribute_deed (regs_at m p) at))
      (attribute_calls it.file (user_at m p)) m files now p end processes new before after terms)
      (sym open_is.place_is)
      (subst (λ (r : Regs). EndsFileAttempt (reaches place.drive (attribute_deed r place)) (attribute_calls it.file (user_at m p)) m files now p end processes new before after terms) same ends)

  abbrev AttributesChange : Regs → ℕ → Result (Unit {0}) DirError → Type 0
  AttributesChange regs user result = ChangesVolume place (record {
    change = attributing regs;
    user = user;
    now = now;
  }) (numbered result) (λ v file left. attribute_calls file user) state.disks before disks after

  owned : (owns : Bool) → owns ≡ true → not owns ≡ false
  owned true h = refl
  owned false h = sym h

  foreign : (owns : Bool) → owns ≡ false → not owns ≡ true
  foreign true h = sym h
  foreign false h = refl

  attributes-changed : (regs : Regs) (user : ℕ) (result : Result (Unit {0}) DirError) → user ≡ user_at m p
      → AttributesChange regs user result → HasChangedIn (λ left. attribute_calls it.file (user_at m p))
      (record { change = attributing regs; user = user_at m p; now = now }) (numbered result) place.drive it.volume
      it.file files (with_disks state disks) before after
  attributes-changed regs user result who changed =
      has-changed-in state (with_disks state disks) before after files place it.volume it.file
      (record { change = attributing regs; user = user_at m p; now = now }) (numbered result)
      (λ v file left. attribute_calls file (user_at m p)) stands open_is.volume_is open_is.file_is refl refl refl
      (subst (λ u. AttributesChange regs u result) who changed)

  pub attributes-set : (regs : Regs) (user : ℕ) → regs ≡ regs_at m p → user ≡ user_at m p → AttributesChange regs user
      (Ok tt) → end ≡ CallEnd.Done → RepresentsProcesses processes (with_regs_of m p regs)
      → EndsFileAttempt (sets_attributes_of (asker_of m p now) files it) (attribute_calls it.file (user_at m p)) m files now p
      end processes new before after terms
  attributes-set regs user same who changed is_end tied =
      let made = attributes-changed regs user (Ok tt) who changed in
      attribute-step regs same
      (change-made (attribute_calls it.file (user_at m p)) m files now p end processes (with_disks state disks) new
      before after terms place.drive it.volume open_is.volume_is new_is made.calls (attributing regs) it.file
      open_is.file_is (regs_at m p) (is_foreign (user_at m p)) E_FNA
      0 (owned (owns_file it.file (user_at m p)) made.changed.answers.allowed) made.changed is_end (subst (λ (r : Regs). RepresentsProcesses processes (with_regs_of m p r)) same tied))

  pub attributes-failed : (regs : Regs) (user : ℕ) (error : DirError) → regs ≡ regs_at m p → user ≡ user_at m p
      → AttributesChange regs user (Err error) → end ≡ CallEnd.Error (directory_error error) → RepresentsProcesses processes m
      → EndsFileAttempt (sets_attributes_of (asker_of m p now) files it) (attribute_calls it.file (user_at m p)) m files now p
      end processes new before after terms
  attributes-failed regs user NotAllowed same who changed is_end tied =
      let closed = attributes-changed regs user (Err NotAllowed) who changed in
      attribute-step regs same
      (change-refused (attribute_calls it.file (user_at m p)) m files now p end processes (with_disks state disks) new
      before after terms place.drive it.volume open_is.volume_is new_is closed.calls (attributing regs) it.file
      open_is.file_is (regs_at m p) (is_foreign (user_at m p)) E_FNA
      (Err NotAllowed) (foreign (owns_file it.file (user_at m p)) closed.changed.answers.forbidden) closed.changed tt closed.changed.answers.same closed.changed.moved is_end tied)
  attributes-failed regs user BadPath same who changed is_end tied = absurd (attributes-changed regs user (Err BadPath) who changed).changed.answers
  attributes-failed regs user NotFound same who changed is_end tied = absurd (attributes-changed regs user (Err NotFound) who changed).changed.answers
  attributes-failed regs user Exists same who changed is_end tied = absurd (attributes-changed regs user (Err Exists) who changed).changed.answers
  attributes-failed regs user (File (Device number)) same who changed is_end tied =
      let broken = attributes-changed regs user (Err (File (Device number))) who changed in
      attribute-step regs same
      (change-broken (attribute_calls it.file (user_at m p)) m files now p end processes (with_disks state disks) new
      before after terms place.drive it.volume open_is.volume_is new_is broken.calls (attributing regs) it.file
      open_is.file_is (regs_at m p) (is_foreign (user_at m p)) E_FNA
      number stands.drives (λ refused. or_left (is_foreign (user_at m p)) _ refused) broken.changed is_end tied)
  attributes-failed regs user (File NoCluster) same who changed is_end tied =
      absurd (none-lacking (free_total it.volume) (attributes-changed regs user (Err (File NoCluster)) who changed).changed.answers.few)
  attributes-failed regs user (File TooManyRuns) same who changed is_end tied =
      absurd (⊎_elim (λ e. let e : false ≡ true = e in cc) (λ it. it) (attributes-changed regs user (Err (File TooManyRuns)) who changed).changed.answers.full)

-- ---- a path whose mode allows it not

module _ (m : Processes) (files : Files) (now : TimePacket) (p : ℕ) (end : CallEnd) (processes : ProcState)
    (state new : FileState) (views : List DriveView) (terms : List TerminalState) (opened : KernelFile)
    (it : OpenFile) (most : ℕ) (stands : RepresentsFiles state views files) (open_is : RepresentsOpenFile files opened it)
    (new_is : new ≡ uncalled state p) (end_is : end ≡ CallEnd.Error E_BMODE) (tied : RepresentsProcesses processes m) where
  abbrev size_next : FileStep
  size_next =
      reaches it.place.drive
      (sizes_locked (asker_of m p now) files it (long_of (regs_at m p)) (request_now (asker_of m p now) files it (size_claim it (long_of (regs_at m p)))))

  pub size-stopped : not (can_write opened.desc.mode) ≡ true → EndsOrLacks (sets_size (asker_of m p now) files it) most m files now p end processes new views views terms
  size-stopped closed =
      lacks-none (sets_size (asker_of m p now) files it) most m files now p end processes new views views terms
      (stops most m files now p end processes new views terms state (not (can_write it.opened.desc.mode)) E_BMODE size_next
      (ap (λ (desc : Desc). not (can_write desc.mode)) open_is.desc_is ∙ closed) end_is tied stands new_is)

  abbrev lock_next : FileStep
  lock_next = locks_bytes (asker_of m p now) files it (long_of (regs_at m p))

  pub lock-stopped : not (is_for_update opened.desc.mode) ≡ true → EndsOrLacks (sets_lock (asker_of m p now) files it) most m files now p end processes new views views terms
  lock-stopped closed =
      lacks-none (sets_lock (asker_of m p now) files it) most m files now p end processes new views views terms
      (stops most m files now p end processes new views terms state (not (is_for_update it.opened.desc.mode)) E_BMODE lock_next
      (ap (λ (desc : Desc). not (is_for_update desc.mode)) open_is.desc_is ∙ closed) end_is tied stands new_is)
