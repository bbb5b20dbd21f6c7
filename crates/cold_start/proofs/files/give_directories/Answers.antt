use Rattle.std.proofs.Common.{refl}
use Rattle.file_drives.specs.Mounted.{mounted_at}
use Rattle.cold_start.specs.Start.{mounted_files}
use Rattle.cold_start.proofs.ReadLemmas.{read-none}
use Rattle.cold_start.proofs.StartLemmas.{among-first, read-first, root-at, root-first, root-none, stands-first, without-drives}
use Rattle.cold_start.proofs.files.give_directories.Goals as goal

pub give_root-requires-clause-root : goal.give_root-requires-clause-root
give_root-requires-clause-root g c = root-at c.args.state.now _ c.in-Some.root c.requires.first c.in-Some.ensures.root

pub give_root-requires-clause-first : goal.give_root-requires-clause-first
give_root-requires-clause-first g c = root-first c.args.state.now _ c.in-Some.root c.requires.first c.in-Some.ensures.root

pub returns-in-Some-clause-gives : goal.returns-in-Some-clause-gives
returns-in-Some-clause-gives g c = record {
  stands = λ volumes has.
      stands-first c.args.state.now c.give_root.new.state _ _ volumes c.in-Some.root has c.in-Some.ensures.root c.give_root.ensures.gives.read c.give_root.result c.give_root.ensures.gives.stands;
  read = λ volumes has.
      read-first c.args.state.now c.give_root.new.state _ _ volumes c.in-Some.root has c.in-Some.ensures.root c.give_root.ensures.gives.read;
  moves = c.give_root.ensures.gives.moves;
  among = λ volumes has.
      among-first c.args.state.now c.give_root.new.state _ _ volumes c.in-Some.root has c.in-Some.ensures.root c.give_root.ensures.gives.read c.give_root.result c.give_root.ensures.gives.fails;
}

pub returns-in-None-clause-gives : goal.returns-in-None-clause-gives
returns-in-None-clause-gives g c = record {
  stands = λ volumes has.
      let files = mounted_files volumes _ in
      without-drives volumes c.args.state.now _ (root-none (mounted_at files.volumes 0) (c.in-None.ensures.root _ files.volumes has.mounted)) has;
  read = λ volumes has. read-none _ _;
  moves = refl;
  among = λ volumes has. tt;
}
