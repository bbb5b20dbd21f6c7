-- Calls that set the date of a file (System Programmer's Manual, "I/O service requests").
use Rattle.std.specs.Prelude.{◌≡◌, Bool, true, false}
use Rattle.os9_base.specs.declared.registers.TimePacket.{TimePacket}
use Rattle.file_rules.specs.declared.path_call.PathCall.{PathCall}
use Rattle.file_rules.specs.declared.path_call.PathCall.TheVariants as Call

-- the call may set one
abbrev pub sets_date : PathCall → Bool
sets_date Call.Create = true
sets_date Call.MakDir = true
sets_date Call.Write = true
sets_date Call.WritLn = true
sets_date Call.SetStt = true
sets_date Call.PErr = true
sets_date Call.Dup = false
sets_date Call.Open = false
sets_date Call.ChgDir = false
sets_date Call.Delete = false
sets_date Call.DeletX = false
sets_date Call.Seek = false
sets_date Call.Read = false
sets_date Call.ReadLn = false
sets_date Call.GetStt = false
sets_date Call.Close = false

-- a time is that of the call; for a call that sets no date any time is
abbrev pub IsTimeFor : PathCall → TimePacket → TimePacket → Type 0
IsTimeFor call now time = sets_date call ≡ true → time ≡ now
