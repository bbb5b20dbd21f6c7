use Rattle.std.proofs.Common.{Err, Ok, Option, rules, subst}
use Rattle.lock_model.specs.declared.place.FilePlace.{FilePlace}
use Rattle.cold_start.proofs.StartLemmas.{fails-as, moves-as, root-moves, root-reads}
use Rattle.cold_start.specs.Start.{IsFaultOfDrive}
use Rattle.cold_start.proofs.files.give_root.Goals as goal

pub returns-in-Err-clause-gives : goal.returns-in-Err-clause-gives
returns-in-Err-clause-gives g c = record {
  stands = λ files v stands is. tt;
  read = λ files v stands is.
      root-reads c.args.state.now.disks _ c.args.root c.requires.root c.find_commands.new.disks _ _ c.requires.first c.in-Err.ensures.drive files.volumes v stands.mounted is;
  moves =
      moves-as (Option FilePlace) (Unit {0}) c.in-Err.fault _ _ (root-moves c.args.state.now.disks _ c.args.root
      c.requires.root c.find_commands.new.disks _ {A = Option FilePlace} (Err c.in-Err.fault)
      c.in-Err.ensures.failed c.in-Err.ensures.drive);
  fails =
      fails-as (Option FilePlace) (Unit {0}) c.in-Err.fault 0 (subst (λ d. IsFaultOfDrive {A = Option FilePlace} d (Err c.in-Err.fault)) c.requires.first c.in-Err.ensures.failed);
}

pub returns-in-Ok-clause-gives : goal.returns-in-Ok-clause-gives
returns-in-Ok-clause-gives g c = record {
  stands = search rules;
  read = λ files v stands is.
      root-reads c.args.state.now.disks _ c.args.root c.requires.root c.find_commands.new.disks _ _ c.requires.first c.in-Ok.ensures.drive files.volumes v stands.mounted is;
  moves =
      root-moves c.args.state.now.disks _ c.args.root c.requires.root c.find_commands.new.disks _ {A = Option FilePlace} (Ok c.in-Ok.commands) c.in-Ok.ensures.failed c.in-Ok.ensures.drive;
  fails = tt;
}
