use Rattle.file_laws.proofs.OfAttempts.{comes-of}
use Rattle.file_laws.proofs.touches.attempts_are_on_a_device_or_touch_none.Goals as goal

pub returns : goal.returns
returns c = comes-of
