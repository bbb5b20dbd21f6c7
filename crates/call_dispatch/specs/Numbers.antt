-- Calls on the number of a path (System Programmer's Manual, "I/O service requests").
use Rattle.file_rules.specs.declared.path_call.PathCall.{PathCall}
use Rattle.file_rules.specs.declared.path_call.PathCall.TheVariants as Call
use Rattle.call_dispatch.specs.Uses.{call_of}
use Rattle.call_dispatch.specs.declared.numbers.NumberCall.{NumberCall}
use Rattle.call_dispatch.specs.declared.numbers.NumberCall.TheVariants as Number

-- the call
abbrev pub number_call : NumberCall → PathCall
number_call Number.Dup = Call.Dup
number_call Number.Seek = Call.Seek
number_call Number.Close = Call.Close
number_call (Number.Use used) = call_of used
