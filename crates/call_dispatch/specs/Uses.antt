-- Calls that use an open path (System Programmer's Manual, "I/O service requests").
use Rattle.io_model.specs.declared.io_call.IoCall.{IoCall}
use Rattle.io_model.specs.declared.io_call.IoCall.TheVariants as Device
use Rattle.file_rules.specs.declared.path_call.PathCall.{PathCall}
use Rattle.file_rules.specs.declared.path_call.PathCall.TheVariants as Call
use Rattle.call_dispatch.specs.declared.path_use.PathUse.{PathUse}
use Rattle.call_dispatch.specs.declared.path_use.PathUse.TheVariants as Use

-- the call
abbrev pub call_of : PathUse → PathCall
call_of Use.Read = Call.Read
call_of Use.ReadLn = Call.ReadLn
call_of Use.Write = Call.Write
call_of Use.WritLn = Call.WritLn
call_of Use.GetStt = Call.GetStt
call_of Use.SetStt = Call.SetStt
call_of Use.PErr = Call.PErr

-- the call on a terminal or a pipe
abbrev pub device_of : PathUse → IoCall
device_of Use.Read = Device.Read
device_of Use.ReadLn = Device.ReadLn
device_of Use.Write = Device.Write
device_of Use.WritLn = Device.WritLn
device_of Use.GetStt = Device.GetStt
device_of Use.SetStt = Device.SetStt
device_of Use.PErr = Device.PErr
