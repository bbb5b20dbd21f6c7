-- A process without an unfinished read may begin any.
use Rattle.std.proofs.Common.{◌≡◌, ℕ, ◌==◌, false, Option, Some, None, IfSome, option_map, ap, arith}
use Rattle.std.specs.Option.{option_map_or}
use Rattle.std.proofs.lemmas.Bool.Decides.{nat_tests}
use Rattle.os9_base.specs.declared.registers.Pid.{Pid}
use Rattle.io_model.specs.Terminal.{Terminal, is_process, reader, IsSameCall}
use Rattle.io_model.specs.declared.terminal.Reading.{Reading}

differ : (a b : ℕ) → (a == b) ≡ false → b ≡ a → ⊥
differ a b h same = grind (arith, nat_tests)

by_reading : (request : Reading) (reading : Option Reading) → option_map_or (is_process request.process)
    (option_map (λ (it : Reading). it.process) reading) false ≡ false
    → IfSome reading (λ it. it.process ≡ request.process → it ≡ request)
by_reading request None free = tt
by_reading request (Some it) free = λ same. absurd (differ request.process.0 it.process.0 free (ap (λ (p : Pid). p.0) same))

pub same_call : (request : Reading) (t : Terminal) → option_map_or (is_process request.process) (reader t) false ≡ false → IsSameCall request t
same_call request t free = by_reading request t.reading free
