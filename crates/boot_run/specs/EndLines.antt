-- The line that says why a command ended.
use Rattle.std.specs.Prelude.{ℕ, Option, Some, None, List, []}
use Rattle.os9_words.specs.declared.message.Message.{Message}
use Rattle.os9_words.specs.Lines.{message_line, cannot_read_line, cannot_write_output_line, cannot_write_file_line, drive_failed_line, no_memory_line, image_fault_line, text_fault_line, boot_bounds_line, boot_module_line, boot_too_large_line, no_first_line, refused_line, source_fault_line, terminal_failed_line}
use Rattle.asm6809.specs.Faults.{error_number}
use Rattle.boot_run.specs.declared.status.End.{End}
use Rattle.boot_run.specs.declared.status.End.TheVariants.{Ended, Living, CannotRead, CannotWrite, CannotWriteImage, NoMemory, BadImage, BadText, BadBounds, BadModule, NoFirst, TooLarge, DriveFailed, CannotWriteFile, Refused, BadSource, TerminalFailed}

-- the line that says why a command ended, with this name of the file that it names; no bytes if there is no line
abbrev pub end_line : List ℕ → End → List ℕ
end_line name (CannotRead input) = cannot_read_line name
end_line name CannotWrite = cannot_write_output_line
end_line name (CannotWriteImage number) = cannot_write_file_line name
end_line name NoMemory = no_memory_line
end_line name (BadImage number fault) = image_fault_line name fault.rule fault.lsn
end_line name (BadText input line) = text_fault_line name line
end_line name BadBounds = boot_bounds_line
end_line name (BadModule at error) = boot_module_line at error
end_line name NoFirst = no_first_line
end_line name TooLarge = boot_too_large_line
end_line name (DriveFailed drive number) = drive_failed_line drive number
end_line name CannotWriteFile = cannot_write_file_line name
end_line name (Refused number) = refused_line name number
end_line name (BadSource line error) = source_fault_line name line (error_number error)
end_line name (TerminalFailed terminal) = terminal_failed_line terminal
end_line name Ended = []
end_line name Living = []

-- the line of a message, if there is one
abbrev pub text_of : Option Message → List ℕ
text_of None = []
text_of (Some message) = message_line message
