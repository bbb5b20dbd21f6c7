use Rattle.std.proofs.Common.{refl, Ok, Err}
use Rattle.os9_base.specs.declared.errors.TheConstants.{E_KWNMOD}
use Rattle.proc_model.specs.CrcModel.{divided_once}
use Rattle.proc_model.specs.Loading.{at_end, refused, entered}
use Rattle.proc_model.specs.Module.{info_at}
use Rattle.proc_model.specs.Slots.{highest_run_upto}
use Rattle.file_rules.specs.LoadRows.{first_revision, second_revision, linked_memory, newer_entries}
use Rattle.file_rules.proofs.load_rows.newer_revisions_are_loaded.Goals as goal

pub returns-clause-known : goal.returns-clause-known
unfolding highest_run_upto divided_once
returns-clause-known c = record {
  entries = Err (0, E_KWNMOD);
  modules = refused {info = info_at 0 first_revision} refl refl;
  is = refl;
}

pub returns-clause-newer : goal.returns-clause-newer
unfolding highest_run_upto divided_once
returns-clause-newer c = record {
  entries = Ok newer_entries;
  modules = entered {info = info_at 0 second_revision} refl refl (at_end refl);
  is = refl;
}

pub returns-clause-empty : goal.returns-clause-empty
unfolding highest_run_upto divided_once
returns-clause-empty c = record {
  entries = Ok linked_memory.modules;
  modules = at_end refl;
  is = refl;
}
