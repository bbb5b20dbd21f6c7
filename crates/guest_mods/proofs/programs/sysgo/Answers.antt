-- The code is the table and the count of Workers.
use Rattle.std.proofs.Common.{◌≡◌, List, ℕ, ◌++◌, ◌∷◌, [], ap, ◌∙◌, subst}
use Rattle.std.specs.Prelude.{IfOk, codes}
use Rattle.guest_mods.specs.Stress.{sysgo_code, program_module}
use Rattle.guest_mods.proofs.programs.sysgo.Goals as goal

pub returns : goal.returns
unfolding sysgo_code
returns c =
    let code : c.deref.result.now ≡ sysgo_code c.args.workers =
    c.deref.ensures.value ∙ c.in_ok-extend_from_slice.ensures.items ∙ ap (λ (l : List ℕ). l ++ c.args.workers ∷ []) c.in_ok-code.ensures.items in
    record { bytes = subst (λ (code : List ℕ). IfOk c.program.result (λ b. b.items ≡ program_module (codes "SysGo") code)) code c.program.ensures.bytes }
