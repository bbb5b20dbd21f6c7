use Rattle.std.proofs.Common.{arith}
use Rattle.std.proofs.lemmas.Result.{on_ok_weaker}
use Rattle.rbf_write.specs.Finished.{resized}
use Rattle.rbf_write.proofs.laying.finish.Goals as goal

pub store_fields-requires-clause-may : goal.store_fields-requires-clause-may
store_fields-requires-clause-may g c = record {
  number = c.requires.may.number;
  list = c.requires.may.list;
  same = c.requires.may.same;
  sound = λ after stored. c.requires.may.sound after (resized {bytes = stored.bytes} (omega arith) stored.says stored.written);
}

pub returns-clause-done : goal.returns-clause-done
returns-clause-done g c =
    on_ok_weaker c.store_fields.result
    (λ stored. resized {bytes = stored.bytes} (omega arith) stored.says stored.written)
    c.store_fields.ensures.stored
