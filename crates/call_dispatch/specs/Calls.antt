-- Calls that take a path list, and all calls on paths, files and directories (System Programmer's Manual, "I/O service
-- requests").
use Rattle.file_rules.specs.declared.path_call.PathCall.{PathCall}
use Rattle.file_rules.specs.declared.path_call.PathCall.TheVariants as Call
use Rattle.call_dispatch.specs.Numbers.{number_call}
use Rattle.call_dispatch.specs.declared.path_calls.CallKind.{CallKind}
use Rattle.call_dispatch.specs.declared.path_calls.CallKind.TheVariants as Kind
use Rattle.call_dispatch.specs.declared.lists.ListCall.{ListCall}
use Rattle.call_dispatch.specs.declared.lists.ListCall.TheVariants as Listed

-- the call
abbrev pub list_call : ListCall → PathCall
list_call Listed.Create = Call.Create
list_call Listed.Open = Call.Open
list_call Listed.MakDir = Call.MakDir
list_call Listed.ChgDir = Call.ChgDir
list_call Listed.Delete = Call.Delete
list_call Listed.DeletX = Call.DeletX

abbrev pub kind_call : CallKind → PathCall
kind_call (Kind.Number call) = number_call call
kind_call (Kind.List call) = list_call call
