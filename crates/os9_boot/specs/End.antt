-- The end of a command, by the end of its stress.
use Rattle.stress_run.specs.declared.stress.StressEnd.{StressEnd}
use Rattle.boot_run.specs.declared.status.End.{End}
use Rattle.boot_run.specs.declared.status.End.TheVariants.{Ended, Living, CannotWrite, NoMemory, DriveFailed}

abbrev pub stress_end : StressEnd → End
stress_end StressEnd.Ended = Ended
stress_end StressEnd.Living = Living
stress_end (StressEnd.DriveFailed drive number) = DriveFailed drive number
stress_end StressEnd.OutputFailed = CannotWrite
stress_end StressEnd.NoMemory = NoMemory
