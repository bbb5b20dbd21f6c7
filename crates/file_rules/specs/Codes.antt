-- The codes of the calls on paths, files and directories (System Programmer's Manual, "System calls").
use Rattle.std.specs.Prelude.{ℕ, ◌==◌, Option, option_map, List, [], ◌∷◌, find}
use Rattle.os9_base.specs.declared.calls.TheConstants.{I_DUP, I_CREATE, I_OPEN, I_MAKDIR, I_CHGDIR, I_DELETE, I_DELETX, I_SEEK, I_READ, I_WRITE, I_READLN, I_WRITLN, I_GETSTT, I_SETSTT, I_CLOSE, F_PERR}
use Rattle.file_rules.specs.declared.path_call.PathCall.{PathCall}
use Rattle.file_rules.specs.declared.path_call.PathCall.TheVariants as Call

-- the calls by their codes
abbrev pub path_codes : List (ℕ × PathCall)
path_codes =
    (I_DUP, Call.Dup) ∷ (I_CREATE, Call.Create) ∷ (I_OPEN, Call.Open) ∷ (I_MAKDIR, Call.MakDir)
    ∷ (I_CHGDIR, Call.ChgDir) ∷ (I_DELETE, Call.Delete) ∷ (I_DELETX, Call.DeletX) ∷ (I_SEEK, Call.Seek)
    ∷ (I_READ, Call.Read) ∷ (I_WRITE, Call.Write) ∷ (I_READLN, Call.ReadLn) ∷ (I_WRITLN, Call.WritLn)
    ∷ (I_GETSTT, Call.GetStt) ∷ (I_SETSTT, Call.SetStt) ∷ (I_CLOSE, Call.Close) ∷ (F_PERR, Call.PErr) ∷ []

-- the call of a code, if there is one
abbrev pub path_call_of : ℕ → Option PathCall
path_call_of code = option_map (λ coded. coded.1) (find (λ coded. coded.0 == code) path_codes)
