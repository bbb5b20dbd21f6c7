-- What is left after the bytes of the terminals were passed to the output stream.
use Rattle.std.specs.Prelude.{◌≡◌, ◌≢◌, ℕ, Result, [], OnOk, OnErr, All}
use Rattle.os9_outer.specs.Host.{OnFailed, UnlessFailed}
use Rattle.os9_outer.specs.Stream.{stream_with, GainsPrefix}
use Rattle.os9_outer.specs.declared.host.HostFault.{HostFault}
use Rattle.machine_model.specs.Console.{console_bytes, terminals_emptied}
use Rattle.boot_run.specs.Console.{IsObserved, emptied_front}
use Rattle.boot_run.specs.World.{World, HasNoFault, FailsToWrite}

pub record PassesBytes {Value : Type 0} (answer : Result Value HostFault) (before after : World) : Type 0 where
  -- after Ok no terminal has bytes any more
  pub taken : OnOk answer (after.devices.terms ≡ terminals_emptied before.devices.terms)
  -- and the output has gained them
  pub written : OnOk answer (All IsObserved before.devices.terms
      → after.out ≡ stream_with before.out (console_bytes before.devices.terms))
  -- else it has gained their beginning
  pub prefix : OnErr answer (All IsObserved before.devices.terms
      → GainsPrefix before.out (console_bytes before.devices.terms) after.out)
  -- and there were some
  pub some : OnErr answer (All IsObserved before.devices.terms → console_bytes before.devices.terms ≢ [])
  -- and the bytes of the first terminals were taken
  pub left : OnErr answer ((count : ℕ) × (after.devices.terms ≡ emptied_front count before.devices.terms))
  -- the host failed last at the output, or not at all
  pub output_fault : OnFailed answer (FailsToWrite before after)
  pub no_fault : UnlessFailed answer (HasNoFault before after)
  pub files_kept : after.files ≡ before.files
