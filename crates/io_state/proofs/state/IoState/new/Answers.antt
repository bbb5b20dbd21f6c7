use Rattle.std.proofs.Common.{refl}
use Rattle.io_model.specs.Io.{first_io}
use Rattle.io_state.proofs.SoundLemmas.{is-first}
use Rattle.io_state.proofs.state.IoState.new.Goals as goal

pub invariant_of-result : goal.invariant_of-result
invariant_of-result c =
    is-first c.in_ok-first_paths.field-0 c.in_ok-new.field-0 c.in_ok-new-2.field-0 first_io.calls c.in_ok-first_paths.ensures.paths c.in_ok-first_paths.ensures.shape c.in_ok-new.ensures refl
