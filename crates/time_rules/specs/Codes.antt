-- The codes of the calls on the time (System Programmer's Manual, "System calls").
use Rattle.std.specs.Prelude.{ℕ, ◌==◌, Option, option_map, List, [], ◌∷◌, find}
use Rattle.os9_base.specs.declared.calls.TheConstants.{F_TIME, F_STIME}
use Rattle.time_rules.specs.declared.time_call.TimeCall.{TimeCall}
use Rattle.time_rules.specs.declared.time_call.TimeCall.TheVariants as Call

-- the calls by their codes
abbrev pub time_codes : List (ℕ × TimeCall)
time_codes = (F_TIME, Call.Time) ∷ (F_STIME, Call.STime) ∷ []

-- the call of a code, if there is one
abbrev pub time_call_of : ℕ → Option TimeCall
time_call_of code = option_map (λ coded. coded.1) (find (λ coded. coded.0 == code) time_codes)
