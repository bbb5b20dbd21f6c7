use Rattle.std.proofs.Common.{◌≡◌, ◌<◌, ◌^◌, take}
use Rattle.proc_model.specs.CrcModel.{crc_register}
use Rattle.module_format.proofs.crc.crc_step.Given as goal

-- the register so far
abbrev pub invariant-loop-byte : goal.invariant-loop-byte
invariant-loop-byte l = record {
  below : l.register < 2 ^ 24;
  divided : l.register ≡ crc_register l.acc (take l.byte-index l.bytes);
}
