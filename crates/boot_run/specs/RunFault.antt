-- Why a run stopped before its end.
use Rattle.std.specs.Prelude.{⊤, Result, Ok, Err}
use Rattle.boot_run.specs.declared.run.RunFault.{RunFault}
use Rattle.boot_run.specs.declared.run.RunFault.TheVariants.{Output, NoMemory}

-- the fact holds if the output stream failed
abbrev pub OnOutputFault : {T : Type 0} → Result T RunFault → Type 0 → Type 0
OnOutputFault (Ok _) fact = ⊤
OnOutputFault (Err Output) fact = fact
OnOutputFault (Err NoMemory) fact = ⊤

-- the fact holds if it did not
abbrev pub UnlessOutputFault : {T : Type 0} → Result T RunFault → Type 0 → Type 0
UnlessOutputFault (Ok _) fact = fact
UnlessOutputFault (Err Output) fact = ⊤
UnlessOutputFault (Err NoMemory) fact = fact
