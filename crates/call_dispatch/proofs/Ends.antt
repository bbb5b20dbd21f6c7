-- How the calls end.
use Rattle.std.proofs.Common.{◌≡◌, ℕ, Option, List, refl}
use Rattle.os9_base.specs.declared.call.CallEnd.{CallEnd}
use Rattle.os9_base.specs.declared.call.CallEnd.TheVariants.{Done, Error, Wait, Ended, NoMemory}
use Rattle.proc_model.specs.declared.record.Record.{Record}
use Rattle.proc_model.specs.Records.{IsLiving}
use Rattle.proc_model.specs.Processes.{Processes}
use Rattle.proc_state.specs.declared.state.ProcState.{ProcState}
use Rattle.proc_state.specs.Tie.{RepresentsProcesses}
use Rattle.proc_state.proofs.Entered.{represented}
use Rattle.proc_calls.specs.Telling.{LivesOn}

-- a process that lives is not ended by its call
pub lives_on : (end : CallEnd) (records : List (Option Record)) (p : ℕ) → IsLiving records p → LivesOn end records p
lives_on Done records p lives = lives
lives_on (Error number) records p lives = lives
lives_on Wait records p lives = lives
lives_on Ended records p lives = tt
lives_on NoMemory records p lives = tt

-- nobody has to live where the call ended the process
pub ended_on : (end : CallEnd) (records : List (Option Record)) (p : ℕ) → end ≡ Ended → LivesOn end records p
ended_on Ended records p is = tt
ended_on NoMemory records p is = tt
ended_on Done records p is = cc
ended_on (Error number) records p is = cc
ended_on Wait records p is = cc

-- all processes are those of some machine
pub some_processes : (processes : ProcState) → (m : Processes) × RepresentsProcesses processes m
some_processes processes = (_, record { memory = represented processes.memory; is = refl })
