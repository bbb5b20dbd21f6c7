-- The lines on the error stream, and the lines of `check` and `stress` on the output stream.
use Rattle.std.specs.Prelude.{ℕ, List, [], ◌∷◌, ◌++◌, codes, decimal}
use Rattle.os9_words.specs.declared.message.Message.{Message}
use Rattle.os9_words.specs.declared.message.Message.TheVariants.{Words, CannotRead, CannotWrite, CannotWriteFile, NoMemory, BadImage, BadText, BadBounds, BadModule, TooLarge, NoFirst, DriveFailed, BadSource, Refused, TerminalFailed}
use Rattle.os9_words.specs.declared.stress_counts.StressCounts.{StressCounts}

-- the line with this text
abbrev pub line_of : List ℕ → List ℕ
line_of text = text ++ 10 ∷ []

-- the words are not a command line
abbrev pub words_line : List ℕ
words_line = line_of (codes "os9: words")

-- the file of this name could not be read
abbrev pub cannot_read_line : List ℕ → List ℕ
cannot_read_line name = line_of (codes "os9: cannot read " ++ name)

-- the output stream could not be written
abbrev pub cannot_write_output_line : List ℕ
cannot_write_output_line = line_of (codes "os9: cannot write output")

-- the file of this name could not be written
abbrev pub cannot_write_file_line : List ℕ → List ℕ
cannot_write_file_line name = line_of (codes "os9: cannot write " ++ name)

-- out of memory
abbrev pub no_memory_line : List ℕ
no_memory_line = line_of (codes "os9: no memory")

-- the image in the file of this name breaks this rule at the sector of this number
abbrev pub image_fault_line : List ℕ → ℕ → ℕ → List ℕ
image_fault_line name rule lsn =
    line_of (codes "os9: " ++ name ++ codes ": rule " ++ decimal rule ++ codes " at LSN " ++ decimal lsn)

-- the line of this number of the text in the file of this name is the first that breaks a rule
abbrev pub text_fault_line : List ℕ → ℕ → List ℕ
text_fault_line name line = line_of (codes "os9: " ++ name ++ codes ": line " ++ decimal line)

-- the boot file does not lie within its volume
abbrev pub boot_bounds_line : List ℕ
boot_bounds_line = line_of (codes "os9: boot bounds")

-- the module at this byte of the boot file is refused with this error
abbrev pub boot_module_line : ℕ → ℕ → List ℕ
boot_module_line at error = line_of (codes "os9: boot module " ++ decimal error ++ codes " at " ++ decimal at)

-- the boot file and its first process need too much memory
abbrev pub boot_too_large_line : List ℕ
boot_too_large_line = line_of (codes "os9: boot too large")

-- the boot file has no program `SysGo`
abbrev pub no_first_line : List ℕ
no_first_line = line_of (codes "os9: boot no SysGo")

-- the drive of this number failed with the fault of this number
abbrev pub drive_failed_line : ℕ → ℕ → List ℕ
drive_failed_line drive fault = line_of (codes "os9: drive " ++ decimal drive ++ codes ": " ++ decimal fault)

-- the source in the file of this name is refused: its line of this number, or 0 for the whole, and the fault's number
abbrev pub source_fault_line : List ℕ → ℕ → ℕ → List ℕ
source_fault_line name line error =
    line_of (codes "os9: " ++ name ++ codes ": line " ++ decimal line ++ codes " error " ++ decimal error)

-- a tool for the image in the file of this name is refused with the error of this number
abbrev pub refused_line : List ℕ → ℕ → List ℕ
refused_line name error = line_of (codes "os9: " ++ name ++ codes ": error " ++ decimal error)

-- the terminal of this number failed
abbrev pub terminal_failed_line : ℕ → List ℕ
terminal_failed_line terminal = line_of (codes "os9: terminal " ++ decimal terminal)

-- the line of a message
abbrev pub message_line : Message → List ℕ
message_line Words = words_line
message_line (CannotRead name) = cannot_read_line name.now
message_line CannotWrite = cannot_write_output_line
message_line (CannotWriteFile name) = cannot_write_file_line name.now
message_line NoMemory = no_memory_line
message_line (BadImage name rule lsn) = image_fault_line name.now rule lsn
message_line (BadText name line) = text_fault_line name.now line
message_line BadBounds = boot_bounds_line
message_line (BadModule at error) = boot_module_line at error
message_line TooLarge = boot_too_large_line
message_line NoFirst = no_first_line
message_line (DriveFailed drive fault) = drive_failed_line drive fault
message_line (BadSource name line error) = source_fault_line name.now line error
message_line (Refused name error) = refused_line name.now error
message_line (TerminalFailed terminal) = terminal_failed_line terminal

-- the counts of `check`: files other than directories, directories including the root, free clusters and
-- lost clusters
abbrev pub counts_line : ℕ → ℕ → ℕ → ℕ → List ℕ
counts_line files directories free lost =
    line_of (codes "files " ++ decimal files ++ codes " dirs " ++ decimal directories
    ++ codes " free " ++ decimal free ++ codes " lost " ++ decimal lost)

-- the counts of `stress`
abbrev pub stress_line : StressCounts → List ℕ
stress_line counts =
    line_of (codes "slices " ++ decimal counts.slices ++ codes " files " ++ decimal counts.files
    ++ codes " bytes " ++ decimal counts.bytes ++ codes " free " ++ decimal counts.free
    ++ codes " lost " ++ decimal counts.lost)
