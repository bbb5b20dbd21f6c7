-- What the steps of reads are.
use Rattle.std.proofs.Common.{◌≡◌, refl}
use Rattle.io_model.specs.declared.terminal.ReadKind.TheVariants.{Bytes, WholeLine}
use Rattle.io_model.specs.Io.{Io}
use Rattle.io_model.specs.Read.{i_read, i_readln}
use Rattle.io_model.specs.Step.{Caller}
use Rattle.device_io.specs.Moving.{read_step, read_named, read_open, read_on}

pub read_step-bytes : (caller : Caller) (io : Io) → read_step Bytes caller io ≡ i_read caller io
unfolding read_step read_named read_open read_on
read_step-bytes caller io = refl

pub read_step-line : (caller : Caller) (io : Io) → read_step WholeLine caller io ≡ i_readln caller io
unfolding read_step read_named read_open read_on
read_step-line caller io = refl
