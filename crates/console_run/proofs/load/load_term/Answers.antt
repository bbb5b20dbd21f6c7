use Rattle.std.proofs.Common.{◌∙◌, sym, arith}
use Rattle.device_table.proofs.TerminalLemmas.{ChangesOne-set}
use Rattle.console_run.proofs.KeyLemmas.{first-keys, first-loaded, loads-empty}
use Rattle.console_run.proofs.load.load_term.Goals as goal

pub load_in_box-requires : goal.load_in_box-requires
load_in_box-requires g c = record {
  none_left =
      sym (first-keys _ c.args.devices.now.terms.items c.index_mut.result.now (omega (arith, c.requires.some, c.args.devices.now.terms.ok.0)) c.index_mut.ensures.value) ∙ c.requires.none_left;
}

pub returns-clause-loaded : goal.returns-clause-loaded
returns-clause-loaded g c =
    let took = c.load_in_box.ensures in
    let none = sym (first-keys _ c.args.devices.now.terms.items c.index_mut.result.now
    (omega (arith, c.requires.some, c.args.devices.now.terms.ok.0)) c.index_mut.ensures.value) ∙
    c.requires.none_left in
    first-loaded c.args.keys.items _ _ (ChangesOne-set _ _ c.args.devices.now.terms.items 0 c.index_mut.result.now
    c.load_in_box.new.term (omega (arith, c.requires.some, c.args.devices.now.terms.ok.0))
    c.index_mut.ensures.value (loads-empty c.args.keys.items _ _ none took.loaded took.put_kept took.faults_kept))
