use Rattle.std.proofs.Common.{refl, rules}
use Rattle.file_drives.proofs.DriveLemmas.{none-failed, one-failed}
use Rattle.rbf_access.specs.declared.faults.VolFault.TheVariants.{Device, OutOfMemory}
use Rattle.cold_start.proofs.ReadLemmas.{mount-broken, mount-read, moves-of, read-one}
use Rattle.cold_start.proofs.mounting.mount_one.Goals as goal

pub returns-in-Ok-clause-mounts : goal.returns-in-Ok-clause-mounts
returns-in-Ok-clause-mounts g c =
    let reads = mount-read _ c.args.n _ _ (λ media. refl) c.in-Ok.ensures.drive in
    record {
      mounted = search rules;
      read = read-one _ _ c.args.n _ _ reads;
      moves = none-failed _ c.args.n _ _ (moves-of _ _ c.args.n _ _ reads);
      fails = tt;
    }

pub returns-in-Err-Device-clause-mounts : goal.returns-in-Err-Device-clause-mounts
returns-in-Err-Device-clause-mounts g c =
    let reads = mount-broken c.in-Err-Device.field-0 (Device c.in-Err-Device.number) c.args.n _ _ c.in-Err-Device.field-0-is (λ media. refl) c.in-Err-Device.ensures.drive in
    record {
      mounted = tt;
      read = read-one _ _ c.args.n _ _ reads;
      moves = one-failed c.in-Err-Device.number _ c.args.n _ _ (moves-of _ _ c.args.n _ _ reads);
      fails = refl;
    }

pub returns-in-Err-OutOfMemory-clause-mounts : goal.returns-in-Err-OutOfMemory-clause-mounts
returns-in-Err-OutOfMemory-clause-mounts g c =
    let reads = mount-broken c.in-Err-OutOfMemory.field-0 OutOfMemory c.args.n _ _ c.in-Err-OutOfMemory.field-0-is (λ media. refl) c.in-Err-OutOfMemory.ensures.drive in
    record {
      mounted = tt;
      read = read-one _ _ c.args.n _ _ reads;
      moves = none-failed _ c.args.n _ _ (moves-of _ _ c.args.n _ _ reads);
      fails = tt;
    }
