-- Two states for which a kernel stands.
use Rattle.std.proofs.Common.{◌≡◌, ◌∙◌, option_map, sym, ap}
use Rattle.os9_base.specs.declared.registers.Pid.{Pid}
use Rattle.proc_model.specs.Memory.{MemoryState}
use Rattle.proc_model.specs.Processes.{Processes, with_memory}
use Rattle.file_rules.specs.Files.{Files}
use Rattle.machine_model.specs.State.{State}
use Rattle.os9_kernel.specs.Outside.{Outside}
use Rattle.os9_kernel.specs.Tie.{Represents}
use Rattle.os9_kernel.specs.declared.kernel.Kernel.{Kernel}
use Rattle.state_laws.specs.Numbers.{DifferInNumbersAlone}
use Rattle.state_laws.proofs.Mounts.{files-one}
use Rattle.state_laws.proofs.Objects.{memories-differ}

module _ (kernel : Kernel) (devices : Outside) (s t : State) (stands : Represents kernel devices s) (stands_too : Represents kernel devices t) where
  -- the state that the kernel stands for, by its processes and its files
  abbrev state_of : Processes → Files → State
  state_of processes files = record {
    processes = processes;
    files = files;
    clock = kernel.clock;
    chosen = option_map (λ (p : Pid). p.0) kernel.chosen;
    terms = devices.terms;
  }

  abbrev memory : MemoryState
  memory = t.processes.memory

  same_files : t.files ≡ s.files
  same_files = files-one kernel.machine.files devices.drives t.files s.files stands_too.files stands.files

  rest : t ≡ record s { processes = with_memory s.processes memory }
  rest =
      stands_too.is
      ∙ ap (λ (files : Files). state_of t.processes files) same_files
      ∙ ap (λ (processes : Processes). state_of processes s.files) stands_too.processes.is
      ∙ sym (ap (λ (processes : Processes). state_of (with_memory processes memory) s.files) stands.processes.is)
      ∙ sym (ap (λ (state : State). record state { processes = with_memory s.processes memory }) stands.is)

  pub representation-is-unique : DifferInNumbersAlone s t
  representation-is-unique = record {
    memory = memories-differ kernel.machine.processes.memory.pool kernel.machine.processes.memory.maps.items
        kernel.machine.processes.memory.dir kernel.machine.processes.memory.sound s.processes.memory memory stands.processes.memory
        stands_too.processes.memory;
    rest = rest;
  }
