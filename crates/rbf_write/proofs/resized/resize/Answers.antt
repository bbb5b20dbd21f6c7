use Rattle.std.proofs.Common.{refl, arith}
use Rattle.rbf_write.specs.Finished.{resized}
use Rattle.rbf_write.proofs.resized.resize.Goals as goal

pub returns-clause-done : goal.returns-clause-done
returns-clause-done g c = resized {bytes = c.resized-bytes.result} (omega arith) c.resized-bytes.ensures c.in_ok-store.ensures.written

pub store-requires-clause-sound : goal.store-requires-clause-sound
store-requires-clause-sound g c = c.requires.may.may.sound _ (resized {bytes = c.resized-bytes.result} (omega arith) c.resized-bytes.ensures refl)

pub store-requires-clause-on : goal.store-requires-clause-on
store-requires-clause-on g c = c.requires.may.may.number

pub resized-bytes-requires-clause-list : goal.resized-bytes-requires-clause-list
resized-bytes-requires-clause-list g c = c.requires.may.may.list

pub resized-bytes-requires-clause-fields : goal.resized-bytes-requires-clause-fields
resized-bytes-requires-clause-fields g c = c.requires.may.fields
