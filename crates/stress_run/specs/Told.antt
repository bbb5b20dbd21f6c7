-- What is printed after the run of a stress.
use Rattle.std.specs.Prelude.{◌≡◌, ℕ, Result, Ok, Err, List}
use Rattle.boot_run.specs.declared.machine.RunEnd.{RunEnd}
use Rattle.boot_run.specs.declared.machine.RunEnd.TheVariants as Run
use Rattle.os9_outer.specs.declared.host.Host.{Ghosts}
use Rattle.os9_outer.specs.declared.host.HostFault.{HostFault}
use Rattle.os9_outer.specs.declared.host.HostFault.TheVariants.{Failed, OutOfMemory}
use Rattle.os9_words.specs.Lines.{stress_line}
use Rattle.os9_words.specs.Streams.{WritesOut}
use Rattle.rbf_model.specs.Volume.{DiskVolume, Vol}
use Rattle.stress_run.specs.Counts.{counts_with}
use Rattle.stress_run.specs.declared.stress.StressEnd.{StressEnd}
use Rattle.stress_run.specs.declared.stress.StressEnd.TheVariants.{Ended, Living, DriveFailed, OutputFailed, NoMemory}

-- some text was written to the output stream as far as the result says; if the image represents a volume it is the line
-- of this number of slices and of what that volume has
pub record WritesCounts {Host Value : Type 0} (members : Ghosts Host) (slices : ℕ) (image : List ℕ)
    (answer : Result Value HostFault) (before now : Host) : Type 0 where
  pub text : List ℕ
  pub writes : WritesOut members text answer before now
  pub counts : (v : DiskVolume) → Vol image v
      → WritesOut members (stress_line (counts_with slices v)) answer before now

-- the end of a stress, by the end of its run and the outcome of the counts
abbrev pub end_told : {Value : Type 0} → StressEnd → Result Value HostFault → StressEnd
end_told end (Ok _) = end
end_told end (Err Failed) = OutputFailed
end_told end (Err OutOfMemory) = NoMemory

-- the counts were written after a run with this end, and this is the end of the stress
pub record TellsCounts {Host : Type 0} (members : Ghosts Host) (whole : StressEnd) (slices : ℕ) (image : List ℕ)
    (end : StressEnd) (before now : Host) : Type 0 where
  pub answer : Result (Unit {0}) HostFault
  pub is : end ≡ end_told whole answer
  pub writes : WritesCounts members slices image answer before now

-- nothing was written, and this is the end of the stress
pub record TellsNothing {Host : Type 0} (stopped end : StressEnd) (before now : Host) : Type 0 where
  pub is : end ≡ stopped
  pub kept : now ≡ before

-- what is printed after a run, by its end
abbrev pub ReportsRunEnd : {Host : Type 0} → Ghosts Host → RunEnd → List ℕ → StressEnd → Host → Host → Type 0
ReportsRunEnd members (Run.Ended begun) image end before now = TellsCounts members Ended begun image end before now
ReportsRunEnd members (Run.Living begun) image end before now = TellsCounts members Living begun image end before now
ReportsRunEnd members (Run.Refused fault) image end before now = TellsNothing NoMemory end before now
ReportsRunEnd members (Run.DriveFailed drive number) image end before now =
    TellsNothing (DriveFailed drive number) end before now
ReportsRunEnd members Run.OutputFailed image end before now = TellsNothing OutputFailed end before now
ReportsRunEnd members Run.NoMemory image end before now = TellsNothing NoMemory end before now
