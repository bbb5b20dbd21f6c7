use Rattle.std.proofs.Common.{◌≡◌, ◌∙◌, List, ap, get_or, arith}
use Rattle.std.proofs.lemmas.List.{get_or_read}
use Rattle.io_model.specs.Terminal.{Terminal, new_terminal, TerminalReadAttempt, stored_bytes}
use Rattle.io_state.proofs.TerminalLemmas.{terminal-changed}
use Rattle.io_state.proofs.WaitLemmas.{stored-count, stored-front}
use Rattle.io_state.specs.Terminals.{count_of}
use Rattle.io_state.proofs.terminals.Terminals.read.Goals as goal

pub returns-clause-device : goal.returns-clause-device
returns-clause-device g c =
    terminal-changed _ (λ t u before after. TerminalReadAttempt c.args.request c.read_in_box.result t u before after)
    c.self.inside.terms.items c.args.self.now c.args.devices.now.terms.items c.args.n c.index_mut.result.now
    c.read_in_box.new.term c.index_mut-2.result.now c.read_in_box.new.driver c.self.view_is
    (omega (arith, c.self.invariant, c.requires.terminal)) (omega (arith, c.args.devices.now.terms.ok.0))
    c.index_mut.ensures.value c.index_mut-2.ensures.value c.read_in_box.ensures.read

pub returns-clause-stored : goal.returns-clause-stored
returns-clause-stored g c =
    let same : c.index_mut.result.now ≡ get_or c.args.self.now c.args.n new_terminal =
    get_or_read c.self.inside.terms.items c.args.n c.index_mut.result.now
    (omega (arith, c.self.invariant, c.requires.terminal)) c.index_mut.ensures.value new_terminal ∙ ap
    (λ (ts : List Terminal). get_or ts c.args.n new_terminal) c.self.view_is in
    stored-front (stored_bytes c.read_in_box.result c.args.request c.index_mut.result.now) _ c.read_in_box.new.into _
    (count_of c.read_in_box.result) (stored-count c.args.request c.read_in_box.result c.index_mut.result.now
    c.read_in_box.new.term _ _ c.read_in_box.ensures.read) c.read_in_box.ensures.stored
    ∙ ap (λ (t : Terminal). stored_bytes c.read_in_box.result c.args.request t) same
