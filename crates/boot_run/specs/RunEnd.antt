-- The end of a run whose machine did not start.
use Rattle.machine_model.specs.declared.ends.BootFault.TheVariants.{OutOfMemory, BadModule, NoFirst, TooLarge}
use Rattle.os9_kernel.specs.declared.new.StartError.{StartError}
use Rattle.os9_kernel.specs.declared.new.StartError.TheVariants.{Boot, Drive}
use Rattle.boot_run.specs.declared.machine.RunEnd.{RunEnd}
use Rattle.boot_run.specs.declared.machine.RunEnd.TheVariants.{Refused, DriveFailed, NoMemory}

-- the boot file is refused or a drive failed; or memory was out
abbrev pub start_end : StartError → RunEnd
start_end (Boot OutOfMemory) = NoMemory
start_end (Boot (BadModule at error)) = Refused (BadModule at error)
start_end (Boot NoFirst) = Refused NoFirst
start_end (Boot TooLarge) = Refused TooLarge
start_end (Drive drive number) = DriveFailed drive number
