use Rattle.std.proofs.Common.{◌∙◌, sym, arith}
use Rattle.device_table.proofs.TerminalLemmas.{ChangesOne-set}
use Rattle.console_run.proofs.KeyLemmas.{first-keys, first-kept, keeps-keys}
use Rattle.console_run.proofs.load.has_no_keys.Goals as goal

pub returns-clause-none : goal.returns-clause-none
returns-clause-none g c took =
    first-keys _ c.args.devices.now.terms.items c.index_mut.result.now (omega (arith, c.requires, c.args.devices.now.terms.ok.0)) c.index_mut.ensures.value ∙ c.takes_keys.ensures.was_empty took

pub returns-clause-left : goal.returns-clause-left
returns-clause-left g c refused none =
    c.takes_keys.ensures.was_loaded refused (sym (first-keys _ c.args.devices.now.terms.items c.index_mut.result.now
    (omega (arith, c.requires, c.args.devices.now.terms.ok.0)) c.index_mut.ensures.value) ∙ none)

pub returns-clause-kept : goal.returns-clause-kept
returns-clause-kept g c =
    let took = c.takes_keys.ensures in
    first-kept _ _ (ChangesOne-set _ _ c.args.devices.now.terms.items 0 c.index_mut.result.now c.takes_keys.new.term
    (omega (arith, c.requires, c.args.devices.now.terms.ok.0)) c.index_mut.ensures.value
    (keeps-keys c.takes_keys.result _ _ (λ here. took.loaded here ∙ c.new.ensures.items) took.was_empty took.kept
    took.put_kept took.faults_kept))
