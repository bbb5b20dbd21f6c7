-- F$CmpNam: compares two names, regardless of the case of letters (System Programmer's Manual, F$CmpNam).
-- Takes the length of the first name in B, its address in X, and the address of the second one, whose last character
-- has bit 7, in Y. The bytes are read pair by pair until the result is known.
-- Errors: E$BPAddr, E$BNam (they differ, or B is 0).
use Rattle.std.specs.Prelude.{ℕ, zero, suc, ◌+◌, ◌==◌, nat_lt, not, Bool, false, Option, Some, None, if◌then◌else◌}
use Rattle.os9_base.specs.Cells.{Cells}
use Rattle.os9_base.specs.Name.{lower, low_bits}
use Rattle.os9_base.specs.declared.errors.TheConstants.{E_BPADDR, E_BNAM}
use Rattle.os9_base.specs.UserNames.{user_cell}
use Rattle.proc_model.specs.Processes.{Processes, regs_at, cells_at}
use Rattle.proc_model.specs.CallResult.{CallResult, done, needs, refuses}

-- a character of the first name agrees with one of the second name
abbrev pub agrees : ℕ → ℕ → Bool
agrees one other = lower one == lower (low_bits other)

-- the result for a pair of bytes and this number of characters left of the first name: the rest decides if the second
-- name goes on
abbrev pub same_with : Option Bool → ℕ → Option ℕ → Option ℕ → Option Bool
same_with rest left None other = None
same_with rest left (Some one) None = None
same_with rest left (Some one) (Some other) =
    if agrees one other then (if nat_lt other 128 then rest else Some (left == 0)) else Some false

-- the first name, of this length, agrees with the second one; nothing if a byte that has to be read is missing
abbrev pub same_names : Cells → ℕ → ℕ → ℕ → Option Bool
same_names cells one other zero = Some false
same_names cells one other (suc left) =
    same_with (same_names cells (one + 1) (other + 1) left) left (user_cell cells one) (user_cell cells other)

abbrev pub f_cmpnam : Processes → ℕ → CallResult
f_cmpnam s p =
    needs (same_names (cells_at s p) (regs_at s p).x (regs_at s p).y (regs_at s p).b) E_BPADDR
    (λ same. refuses (not same) E_BNAM (done s))
