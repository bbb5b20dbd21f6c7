use Rattle.std.proofs.Common.{sym, ◌∙◌}
use Rattle.terminal_mgr.proofs.PollLemmas.{kept-none, kept-one, dropped-none, rings-none}
use Rattle.terminal_mgr.proofs.arrival.accept.Goals as goal

pub returns-in_err-ring-in-None-clause-kept : goal.returns-in_err-ring-in-None-clause-kept
returns-in_err-ring-in-None-clause-kept g c =
    kept-one c.args.ahead.now _ c.args.key (sym c.key_signal.ensures ∙ c.in-None.is) c.keep.ensures.kept

pub returns-in_ok-ring-in-None-clause-kept : goal.returns-in_ok-ring-in-None-clause-kept
returns-in_ok-ring-in-None-clause-kept g c =
    kept-one c.args.ahead.now _ c.args.key (sym c.key_signal.ensures ∙ c.in-None.is) c.keep.ensures.kept

pub returns-else-not-keep-clause-kept : goal.returns-else-not-keep-clause-kept
returns-else-not-keep-clause-kept g c =
    kept-one c.args.ahead.now _ c.args.key (sym c.key_signal.ensures ∙ c.in-None.is) c.keep.ensures.kept

pub returns-in-Some-clause-kept : goal.returns-in-Some-clause-kept
returns-in-Some-clause-kept g c =
    kept-none c.args.ahead.now c.args.key c.in-Some.signal c.requires (sym c.key_signal.ensures ∙ c.in-Some.is)

pub returns-in-Some-clause-rung : goal.returns-in-Some-clause-rung
returns-in-Some-clause-rung g c = (0, 0, sym (dropped-none c.args.ahead.now c.args.key c.in-Some.signal c.requires (sym c.key_signal.ensures ∙ c.in-Some.is)), rings-none _)
