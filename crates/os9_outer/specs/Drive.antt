-- Drives: the media as a list of bytes, in sectors of 256.
use Rattle.std.specs.Prelude.{ℕ, ◌+◌, ◌*◌, ◌/◌, min, Option, Some, None, List, [], ◌++◌, length, take, drop}
use Rattle.os9_outer.specs.declared.drive.DriveFault.{DriveFault}
use Rattle.os9_outer.specs.declared.drive.DriveFault.TheVariants.{WriteProtect, ReadFault, WriteFault, NotReady, SeekFault}
use Rattle.os9_base.specs.declared.errors.TheConstants.{E_WP, E_READ, E_WRITE, E_NOTRDY, E_SEEK}

-- the error number of a drive's fault (System Programmer's Manual, error codes: E$WP, E$Read, E$Write,
-- E$NotRdy, E$Seek)
abbrev pub drive_error : DriveFault → ℕ
drive_error WriteProtect = E_WP
drive_error ReadFault = E_READ
drive_error WriteFault = E_WRITE
drive_error NotReady = E_NOTRDY
drive_error SeekFault = E_SEEK

-- the number of whole sectors of the media, up to the most that 32 bits count; none without media
abbrev pub sector_count : Option (List ℕ) → ℕ
sector_count None = 0
sector_count (Some bytes) = min (length bytes / 256) 4294967295

-- the 256 bytes of the sector of this number
abbrev pub sector_at : Option (List ℕ) → ℕ → List ℕ
sector_at None lsn = []
sector_at (Some bytes) lsn = take 256 (drop (256 * lsn) bytes)

-- the media with these bytes from the sector of this number on
abbrev pub with_sector : Option (List ℕ) → ℕ → List ℕ → Option (List ℕ)
with_sector None lsn sector = None
with_sector (Some bytes) lsn sector =
    Some (take (256 * lsn) bytes ++ sector ++ drop (256 * lsn + 256) bytes)
