-- The start of a kernel is one of the machine.
use Rattle.std.proofs.Common.{◌≡◌, ℕ, ◌<◌, ◌≤◌, true, Ok, Err, None, option_map, List, length, refl, sym, subst, arith}
use Rattle.os9_base.specs.declared.registers.Pid.{Pid}
use Rattle.proc_model.specs.Processes.{Processes}
use Rattle.time_rules.specs.CivilTime.{is_time_packet}
use Rattle.file_drives.specs.Drives.{DriveView}
use Rattle.cold_start.specs.Start.{StartedOn, StartsDrives}
use Rattle.cold_start.specs.declared.fault.StartFault.TheVariants.{OutOfMemory, Drive}
use Rattle.file_state.specs.declared.state.FileState.{FileState}
use Rattle.machine_model.specs.ProcessStart.{StartsProcesses, first_start, only_process}
use Rattle.proc_state.specs.Tie.{RepresentsProcesses}
use Rattle.proc_state.specs.declared.state.ProcState.{ProcState}
use Rattle.time_rules.specs.Clock.{first_clock}
use Rattle.machine_model.specs.Start.{Starts}
use Rattle.machine_model.specs.State.{State}
use Rattle.os9_kernel.specs.declared.kernel.Kernel.{Kernel}
use Rattle.os9_kernel.specs.declared.new.Config.{Config}
use Rattle.os9_kernel.specs.Outside.{Outside}
use Rattle.os9_kernel.specs.Starting.{IsStarted, boot_of}
use Rattle.lock_laws.proofs.OpenRuns.{start-open}

-- the processes are those of a machine that starts
abbrev pub ProcessesStart : List ℕ → ℕ → ProcState → Type 0
ProcessesStart file blocks processes = (m : Processes) × StartsProcesses file blocks m × RepresentsProcesses processes m

pub kernel-starts : (config : Config) (file : List ℕ) (images : List (List ℕ)) (after : Outside) (kernel : Kernel)
    → ProcessesStart file config.blocks kernel.machine.processes → StartedOn images kernel.machine.files after.drives
    → kernel.clock ≡ first_clock config.time → kernel.chosen ≡ None → kernel.looked_until ≡ 0 → kernel.known.until ≡ 0 → is_time_packet config.time ≡ true
    → 0 < length after.terms → length after.terms ≤ 4 → IsStarted config file images after kernel
kernel-starts config file images after kernel processes on clock none again none_known civil some few =
    let (was, begins, there) = processes in
    let m : Processes = only_process begins.memory (first_start begins.number begins.entry) in
    let s : State = record { processes = m; files = on.was; clock = first_clock config.time; chosen = None; terms = after.terms } in
    let starts : Starts (boot_of config file images after) s = record {
      entries = begins.entries;
      number =
          begins.number;
      entry = begins.entry;
      memory = begins.memory;
      has = begins.has;
      begins = begins.begins;
      files =
          on.was;
      mounted = on.starts;
      is = refl;
    } in (
      s,
      starts,
      record {
        processes = subst (λ (m : Processes). RepresentsProcesses kernel.machine.processes m) begins.is there;
        files = on.stands;
        is = λ i. record {
          processes = m;
          files = on.was;
          clock = sym clock i;
          chosen = option_map (λ (p : Pid). p.0) (sym none i);
          terms = after.terms;
        };
        run = start-open (boot_of config file images after) s starts some few civil;
        looked = λ tick from below. absurd (omega (arith, again, below));
        known = λ tick p cause from below. absurd (omega (arith, none_known, below));
      },
    )

-- ---- the drives

-- no drive was called
pub starts-same : (images : ℕ) (views : List DriveView) → StartsDrives {A = Kernel} images (Err OutOfMemory) views views
starts-same images views = record {
  moves = refl;
  among = tt;
  media = λ n. refl;
  reads = λ volumes long hold. record { as_many = refl; media = λ n. refl; calls = λ n. omega arith };
}

-- what the start of files did to them
module _ (images : ℕ) (before after : List DriveView) where
  pub starts-ok : (files : FileState) (kernel : Kernel) → StartsDrives {A = FileState} images (Ok files) before after → StartsDrives {A = Kernel} images (Ok kernel) before after
  starts-ok files kernel it = record { moves = it.moves; among = it.among; media = it.media; reads = it.reads }

  pub starts-memory : StartsDrives {A = FileState} images (Err OutOfMemory) before after → StartsDrives {A = Kernel} images (Err OutOfMemory) before after
  starts-memory it = record { moves = it.moves; among = it.among; media = it.media; reads = it.reads }

  pub starts-fault : (drive number : ℕ) → StartsDrives {A = FileState} images (Err (Drive drive number)) before after → StartsDrives {A = Kernel} images (Err (Drive drive number)) before after
  starts-fault drive number it = record { moves = it.moves; among = it.among; media = it.media; reads = it.reads }
