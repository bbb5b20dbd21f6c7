-- The bytes of a name are the name, and each message is written as its line.
use Rattle.os9_words.proofs.message.report.Goals as goal

pub returns-in-CannotRead : goal.returns-in-CannotRead
returns-in-CannotRead g c = rw c.in-CannotRead.is (rw c.as_bytes.ensures.value at c.report_pieces.ensures)

pub returns-in-CannotWrite : goal.returns-in-CannotWrite
returns-in-CannotWrite g c = rw c.in-CannotWrite.is c.report_text-in-CannotWrite.ensures

pub returns-in-CannotWriteFile : goal.returns-in-CannotWriteFile
returns-in-CannotWriteFile g c =
    rw c.in-CannotWriteFile.is (rw c.as_bytes-in-CannotWriteFile.ensures.value at c.report_pieces-in-CannotWriteFile.ensures)

pub returns-in-BadBounds : goal.returns-in-BadBounds
returns-in-BadBounds g c = rw c.in-BadBounds.is c.report_text-in-BadBounds.ensures

pub returns-in-NoMemory : goal.returns-in-NoMemory
returns-in-NoMemory g c = rw c.in-NoMemory.is c.report_text-in-NoMemory.ensures

pub returns-in-BadModule : goal.returns-in-BadModule
returns-in-BadModule g c = rw c.in-BadModule.is c.report_bad_module.ensures

pub returns-in-TooLarge : goal.returns-in-TooLarge
returns-in-TooLarge g c = rw c.in-TooLarge.is c.report_text-in-TooLarge.ensures

pub returns-in-NoFirst : goal.returns-in-NoFirst
returns-in-NoFirst g c = rw c.in-NoFirst.is c.report_text-in-NoFirst.ensures

pub returns-in-DriveFailed : goal.returns-in-DriveFailed
returns-in-DriveFailed g c = rw c.in-DriveFailed.is c.report_drive_failed.ensures
