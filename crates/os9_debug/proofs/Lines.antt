-- What lines give.
use Rattle.std.proofs.Common.{◌≡◌, ℕ, ◌<◌, Some, None, option_map, List, [], ◌∷◌, length, refl, sym, ap, ◌∙◌, arith}
use Rattle.os9_debug.specs.declared.command.Command.{Command}
use Rattle.os9_debug.specs.Commands.{line_command, line_commands}

pub no-line : (line : List ℕ) → length line ≡ 0 → line_commands line ≡ Some []
no-line [] none = refl
no-line (byte ∷ bytes) none = absurd (omega (arith, none))

some-line : (line : List ℕ) → 0 < length line → line_commands line ≡ option_map (λ command. command ∷ []) (line_command line)
some-line [] some = absurd (omega (arith, some))
some-line (byte ∷ bytes) some = refl

pub line-given : (line : List ℕ) (command : Command) → 0 < length line → Some command ≡ line_command line → line_commands line ≡ Some (command ∷ [])
line-given line command some is = some-line line some ∙ ap (option_map (λ command. command ∷ [])) (sym is)

pub line-refused : (line : List ℕ) → 0 < length line → None ≡ line_command line → line_commands line ≡ None
line-refused line some is = some-line line some ∙ ap (option_map (λ command. command ∷ [])) (sym is)
