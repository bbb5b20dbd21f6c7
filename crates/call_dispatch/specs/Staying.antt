-- The requirements of attempts, which are those of reads and writes.
pub use Rattle.device_io.specs.Moving.{MayAttemptIo, PendingReadIsAllowed}
