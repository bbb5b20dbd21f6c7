-- The codes of the calls on processes and modules (System Programmer's Manual, "System calls").
use Rattle.std.specs.Prelude.{ℕ, ◌==◌, Option, option_map, List, [], ◌∷◌}
use Rattle.std.specs.List.{find}
use Rattle.os9_base.specs.declared.calls.TheConstants.{F_LINK, F_UNLINK, F_FORK, F_WAIT, F_CHAIN, F_EXIT, F_MEM, F_SEND, F_ICPT, F_SLEEP, F_ID, F_SPRIOR, F_PRSNAM, F_CMPNAM, F_CRC, F_SUSER, F_UNLOAD}
use Rattle.proc_model.specs.declared.proc_call.ProcCall.{ProcCall}
use Rattle.proc_model.specs.declared.proc_call.ProcCall.TheVariants as Call

-- the calls by their codes
abbrev pub call_codes : List (ℕ × ProcCall)
call_codes =
    (F_LINK, Call.Link) ∷ (F_UNLINK, Call.UnLink) ∷ (F_FORK, Call.Fork) ∷ (F_WAIT, Call.Wait) ∷ (F_CHAIN, Call.Chain)
    ∷ (F_EXIT, Call.Exit) ∷ (F_MEM, Call.Mem) ∷ (F_SEND, Call.Send) ∷ (F_ICPT, Call.Icpt) ∷ (F_SLEEP, Call.Sleep)
    ∷ (F_ID, Call.Id) ∷ (F_SPRIOR, Call.SPrior) ∷ (F_PRSNAM, Call.PrsNam) ∷ (F_CMPNAM, Call.CmpNam)
    ∷ (F_CRC, Call.Crc) ∷ (F_SUSER, Call.SUser) ∷ (F_UNLOAD, Call.UnLoad) ∷ []

-- the call of a code, if there is one
abbrev pub call_of : ℕ → Option ProcCall
call_of code = option_map (λ coded. coded.1) (find (λ coded. coded.0 == code) call_codes)
