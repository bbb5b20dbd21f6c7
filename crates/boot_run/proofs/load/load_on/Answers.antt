use Rattle.std.proofs.Common.{arith}
use Rattle.device_table.specs.Seen.{boxed_terminal_state}
use Rattle.device_table.proofs.TerminalLemmas.{ChangesOne-set}
use Rattle.boot_run.proofs.LoadLemmas.{is-loaded, state-at}
use Rattle.boot_run.proofs.load.load_on.Goals as goal

pub load_in_box-requires : goal.load_in_box-requires
load_in_box-requires g c =
    c.requires.unloaded _ (state-at _ c.args.devices.now.terms.items c.args.n c.index_mut.result.now (omega (arith, c.args.devices.now.terms.ok.0)) c.index_mut.ensures.value)

pub returns-clause-terminal : goal.returns-clause-terminal
returns-clause-terminal g c =
    let load = c.load_in_box.ensures in
    let old = boxed_terminal_state (λ box. (g.dyn-2.0.entry box.vtable).1) c.index_mut.result.now in
    let new = boxed_terminal_state (λ box. (g.dyn-2.0.entry box.vtable).1) c.load_in_box.new.term in
    ChangesOne-set _ _ c.args.devices.now.terms.items c.args.n c.index_mut.result.now c.load_in_box.new.term
    (omega (arith, c.args.devices.now.terms.ok.0)) c.index_mut.ensures.value (is-loaded c.args.keys.items old new
    load.loaded load.put_kept load.faults_kept)
