-- A boot comes to one end: its boot file comes to one, and an image has one volume.
use Rattle.std.proofs.Common.{◌≡◌, ◌⊎◌, ℕ, None, List, [], ◌∷◌, refl, sym, ap, ◌∙◌, inl, inr}
use Rattle.std.specs.List.{AllZip}
use Rattle.rbf_model.specs.Volume.{DiskVolume, Vol}
use Rattle.rbf_model.proofs.Unique.{vol_is_unique}
use Rattle.proc_model.specs.Processes.{Processes}
use Rattle.file_rules.specs.Files.{DriveState, Files}
use Rattle.file_rules.specs.Processes.{StartsWithImages, first_files}
use Rattle.machine_model.specs.declared.ends.BootFault.{BootFault}
use Rattle.machine_model.specs.ProcessStart.{RefusesBoot, StartsProcesses, first_start, only_process}
use Rattle.machine_model.proofs.StartLaws.{Starts-one, never-both as never-both-processes, some-end as some-end-processes}
use Rattle.time_rules.specs.Clock.{first_clock}
use Rattle.machine_model.specs.Start.{Boot, Starts}
use Rattle.machine_model.specs.State.{State}

-- ---- the images

volumes-one : (images : List (List ℕ)) (one other : List DiskVolume) → AllZip Vol images one → AllZip Vol images other → one ≡ other
volumes-one [] [] [] mounted again = refl
volumes-one [] [] (w ∷ ws) mounted again = absurd again
volumes-one [] (v ∷ vs) other mounted again = absurd mounted
volumes-one (image ∷ images) [] other mounted again = absurd mounted
volumes-one (image ∷ images) (v ∷ vs) [] mounted again = absurd again
volumes-one (image ∷ images) (v ∷ vs) (w ∷ ws) mounted again =
    let first : v ≡ w = vol_is_unique image v w mounted.0 again.0 in
    let rest : vs ≡ ws = volumes-one images vs ws mounted.1 again.1 in
    cc

files-one : (images : List (List ℕ)) (drives : List DriveState) (one other : Files) → StartsWithImages images drives one → StartsWithImages images drives other → one ≡ other
files-one images drives one other mounted again =
    mounted.is ∙ ap (λ (volumes : List DiskVolume). first_files volumes drives) (volumes-one images mounted.volumes again.volumes mounted.mounted again.mounted) ∙ sym again.is

-- ---- the boot file

abbrev first_processes : (boot : Boot) (s : State) → Starts boot s → Processes
first_processes boot s starts = only_process starts.memory (first_start starts.number starts.entry)

starts-so : (boot : Boot) (s : State) (starts : Starts boot s) → StartsProcesses boot.file boot.blocks (first_processes boot s starts)
starts-so boot s starts = record {
  entries = starts.entries;
  number = starts.number;
  entry = starts.entry;
  memory = starts.memory;
  has = starts.has;
  begins = starts.begins;
  is = refl;
}

-- ---- the laws

abbrev first_state : Boot → Processes → Files → State
first_state boot processes files =
    record { processes = processes; files = files; clock = first_clock boot.time; chosen = None; terms = boot.terms }

states-one : (boot : Boot) (m n : Processes) (one other : Files) → m ≡ n → one ≡ other → first_state boot m one ≡ first_state boot n other
states-one boot m n one other same_processes files = λ i. first_state boot (same_processes i) (files i)

pub starts-one : (boot : Boot) (s t : State) → Starts boot s → Starts boot t → s ≡ t
starts-one boot s t one other =
    let same_processes : first_processes boot s one ≡ first_processes boot t other = Starts-one boot.file boot.blocks _ _ (starts-so boot s one) (starts-so boot t other) in
    let files : one.files ≡ other.files = files-one boot.images boot.drives one.files other.files one.mounted other.mounted in
    one.is ∙ states-one boot (first_processes boot s one) (first_processes boot t other) one.files other.files same_processes files ∙ sym other.is

pub never-both : (boot : Boot) (s : State) (fault : BootFault) → Starts boot s → RefusesBoot boot.file boot.blocks fault → ⊥
never-both boot s fault starts refusal =
    never-both-processes boot.file boot.blocks (first_processes boot s starts) fault (starts-so boot s starts) refusal

by_file : (boot : Boot) (volumes : List DiskVolume) → AllZip Vol boot.images volumes
    → ((m : Processes) × StartsProcesses boot.file boot.blocks m) ⊎ ((fault : BootFault) × RefusesBoot boot.file boot.blocks
    fault) → ((s : State) × Starts boot s) ⊎ ((fault : BootFault) × RefusesBoot boot.file boot.blocks fault)
by_file boot volumes mounted (inr refusal) = inr refusal
by_file boot volumes mounted (inl (m, starts)) =
    inl (
      first_state boot (only_process starts.memory (first_start starts.number starts.entry)) (first_files volumes boot.drives),
      record {
        entries = starts.entries;
        number = starts.number;
        entry = starts.entry;
        memory = starts.memory;
        has = starts.has;
        begins = starts.begins;
        files = first_files volumes boot.drives;
        mounted = record { volumes = volumes; mounted = mounted; is = refl };
        is = refl;
      },
    )

pub some-end : (boot : Boot) (volumes : List DiskVolume) → AllZip Vol boot.images volumes → ((s : State) × Starts boot s) ⊎ ((fault : BootFault) × RefusesBoot boot.file boot.blocks fault)
some-end boot volumes mounted =
    by_file boot volumes mounted (some-end-processes boot.file boot.blocks)
