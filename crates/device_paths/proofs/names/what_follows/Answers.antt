use Rattle.std.proofs.Common.{◌≡◌, ◌∙◌, ◌+◌, ◌<◌, ℕ, Some, Option, sym, ap, arith}
use Rattle.guest_memory.specs.Tie.{cells_of}
use Rattle.io_model.specs.PathList.{behind, behind_slash, is_marked}
use Rattle.os9_base.specs.Cells.{Cells}
use Rattle.os9_base.specs.UserNames.{user_cell}
use Rattle.device_paths.proofs.NamesLemmas.{behind-slash_at}
use Rattle.device_paths.proofs.names.what_follows.Goals as goal

pub returns-in-Some-eq47-clause-behind : goal.returns-in-Some-eq47-clause-behind
returns-in-Some-eq47-clause-behind c =
    let cells : Cells = cells_of c.args.memory.now c.args.p.0 in
    let n : ℕ = c.from-len.result in
    let slash : user_cell cells (c.args.at + n) ≡ Some 47 = cc in
    let some : 0 < n = omega (arith, c.from-len.ensures, c.requires.some) in
    c.behind_slash.ensures
    ∙ ap behind_slash c.byte-in-Some-eq47.ensures.byte
    ∙ sym (behind-slash_at cells c.args.at n some (ap (λ (byte : Option ℕ). is_marked byte) (sym c.byte.ensures.byte) ∙ sym c.is_marked.ensures ∙ c.if-is_marked.false) slash)
    ∙ ap (λ (k : ℕ). behind cells (c.args.at + k)) c.from-len.ensures
