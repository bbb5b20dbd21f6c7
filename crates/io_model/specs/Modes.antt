-- The modes of paths (System Programmer's Manual, I$Open and I$Create).
use Rattle.std.specs.Prelude.{ℕ, ◌+◌, ◌==◌, not, Bool, bit_and}
use Rattle.io_model.specs.declared.modes.TheConstants.{MODE_READ, MODE_WRITE, MODE_EXECUTE}

-- a mode has at least one of these bits
abbrev pub has_bit_of : ℕ → ℕ → Bool
has_bit_of bits mode = not (bit_and mode bits == 0)

-- a mode that a path may be opened with
abbrev pub is_mode : ℕ → Bool
is_mode mode = has_bit_of (MODE_READ + MODE_WRITE + MODE_EXECUTE) mode

-- a path of this mode may be read
abbrev pub can_read : ℕ → Bool
can_read mode = has_bit_of (MODE_READ + MODE_EXECUTE) mode

-- a path of this mode may be written
abbrev pub can_write : ℕ → Bool
can_write mode = has_bit_of MODE_WRITE mode
