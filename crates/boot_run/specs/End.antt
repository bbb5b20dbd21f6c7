-- How a command ended.
use Rattle.std.specs.Prelude.{ℕ, Option, Some, None, List, slice_get}
use Rattle.os9_words.specs.declared.command.RunWords.{RunWords}
use Rattle.machine_model.specs.declared.ends.BootFault.{BootFault}
use Rattle.machine_model.specs.declared.ends.BootFault.TheVariants.{OutOfMemory, BadModule as BadModuleFault, NoFirst as NoFirstFault, TooLarge as TooLargeFault}
use Rattle.boot_run.specs.declared.status.Input.{Input}
use Rattle.boot_run.specs.declared.status.Input.TheVariants.{Script, Slices, Modules, Image, File, Source, Commands}
use Rattle.boot_run.specs.declared.status.End.{End}
use Rattle.boot_run.specs.declared.status.End.TheVariants.{Ended, Living, CannotRead, CannotWrite, CannotWriteImage, NoMemory, BadImage, BadText, BadBounds, BadModule, NoFirst, TooLarge, DriveFailed, CannotWriteFile, Refused, BadSource, TerminalFailed}

-- the status of the end
abbrev pub status_number : End → ℕ
status_number Ended = 0
status_number Living = 5
status_number (CannotRead _) = 2
status_number CannotWrite = 3
status_number (CannotWriteImage _) = 3
status_number CannotWriteFile = 3
status_number NoMemory = 4
status_number (BadImage _ _) = 6
status_number (BadText _ _) = 7
status_number BadBounds = 8
status_number (BadModule _ _) = 8
status_number NoFirst = 8
status_number TooLarge = 8
status_number (DriveFailed _ _) = 9
status_number (Refused _) = 11
status_number (BadSource _ _) = 10
status_number (TerminalFailed _) = 12

-- how a refused boot file ends a command
abbrev pub boot_end : BootFault → End
boot_end OutOfMemory = NoMemory
boot_end (BadModuleFault at error) = BadModule at error
boot_end NoFirstFault = NoFirst
boot_end TooLargeFault = TooLarge

-- the file that the line of an end names, if it names one
abbrev pub named_by : End → Option Input
named_by (CannotRead input) = Some input
named_by (CannotWriteImage number) = Some (Image number)
named_by (BadImage number fault) = Some (Image number)
named_by (BadText input line) = Some input
named_by CannotWriteFile = Some File
named_by (Refused number) = Some (Image 0)
named_by (BadSource line error) = Some Source
named_by end = None

-- the name of a file that the words of a run or a boot give, if they give one
abbrev pub run_file_name : RunWords → Input → Option (List ℕ)
run_file_name run Script = run.script
run_file_name run Slices = Some run.slices
run_file_name run Modules = slice_get run.files 0
run_file_name run (Image number) = slice_get run.files number
run_file_name run File = run.history
run_file_name run Source = None
run_file_name run Commands = None
