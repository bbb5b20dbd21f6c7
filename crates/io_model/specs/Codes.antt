-- The codes of the calls on paths (System Programmer's Manual, "System calls").
use Rattle.std.specs.Prelude.{ℕ, ◌==◌, Option, Some, None, option_map, option_and_then, List, [], ◌∷◌, find}
use Rattle.os9_base.specs.declared.calls.TheConstants.{I_DUP, I_CREATE, I_OPEN, I_CLOSE, I_READ, I_READLN, I_WRITE, I_WRITLN, I_GETSTT, I_SETSTT, F_PERR}
use Rattle.io_model.specs.declared.io_call.Direction.{Direction}
use Rattle.io_model.specs.declared.io_call.Direction.TheVariants.{Reading, Writing}
use Rattle.io_model.specs.declared.io_call.IoCall.{IoCall}
use Rattle.io_model.specs.declared.io_call.IoCall.TheVariants as Call

-- the calls by their codes
abbrev pub io_codes : List (ℕ × IoCall)
io_codes =
    (I_DUP, Call.Dup) ∷ (I_CREATE, Call.Create) ∷ (I_OPEN, Call.Open) ∷ (I_CLOSE, Call.Close) ∷ (I_READ, Call.Read)
    ∷ (I_READLN, Call.ReadLn) ∷ (I_WRITE, Call.Write) ∷ (I_WRITLN, Call.WritLn) ∷ (I_GETSTT, Call.GetStt)
    ∷ (I_SETSTT, Call.SetStt) ∷ (F_PERR, Call.PErr) ∷ []

-- the call of a code, if there is one
abbrev pub io_call_of : ℕ → Option IoCall
io_call_of code = option_map (λ coded. coded.1) (find (λ coded. coded.0 == code) io_codes)

-- the direction in which a call moves bytes, if it moves any
abbrev pub direction_of_call : IoCall → Option Direction
direction_of_call Call.Dup = None
direction_of_call Call.Create = None
direction_of_call Call.Open = None
direction_of_call Call.Close = None
direction_of_call Call.Read = Some Reading
direction_of_call Call.ReadLn = Some Reading
direction_of_call Call.Write = Some Writing
direction_of_call Call.WritLn = Some Writing
direction_of_call Call.GetStt = None
direction_of_call Call.SetStt = None
direction_of_call Call.PErr = Some Writing

-- the direction in which the call of a code moves bytes, if it moves any
abbrev pub direction_of : ℕ → Option Direction
direction_of code = option_and_then direction_of_call (io_call_of code)
