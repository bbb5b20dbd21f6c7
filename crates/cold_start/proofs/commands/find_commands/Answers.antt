use Rattle.std.proofs.Common.{codes, Some}
use Rattle.cold_start.specs.Start.{start_fault}
use Rattle.cold_start.proofs.CommandLemmas.{entry-answer, entry-file, entry-read, named-as, root-file}
use Rattle.cold_start.proofs.commands.find_commands.Goals as goal

pub contents-requires : goal.contents-requires
contents-requires g c = record { file = root-file c.args.disks.now _ c.args.root c.requires.root }

pub directory_at-requires : goal.directory_at-requires
directory_at-requires g c = record {
  file =
      entry-file c.args.disks.now _ c.args.root c.requires.root c.in_ok-bytes.bytes.items c.contents.new.disks _ (codes "CMDS") c.in_ok-bytes.ensures.drive c.in_ok-bytes.ensures.ok c.in-Some.number
      (named-as c.deref.result.now c.in_ok-bytes.bytes.items c.commands.result (codes "CMDS") (Some c.in-Some.number) c.deref.ensures.value c.commands.ensures c.in-Some.ensures);
}

pub returns-in-Some-clause-found : goal.returns-in-Some-clause-found
returns-in-Some-clause-found g c =
    entry-answer c.args.disks.now _ c.args.root c.requires.root c.in_ok-bytes.bytes.items c.contents.new.disks _ (codes "CMDS") c.in_ok-bytes.ensures.drive c.in_ok-bytes.ensures.ok c.in-Some.number
    (named-as c.deref.result.now c.in_ok-bytes.bytes.items c.commands.result (codes "CMDS") (Some c.in-Some.number) c.deref.ensures.value c.commands.ensures c.in-Some.ensures)
    c.directory_at.result c.directory_at.ensures.ok

pub returns-in-Some-clause-drive : goal.returns-in-Some-clause-drive
returns-in-Some-clause-drive g c =
    entry-read c.args.disks.now _ c.args.root c.requires.root c.in_ok-bytes.bytes.items c.contents.new.disks _ (codes "CMDS") c.in_ok-bytes.ensures.drive c.in_ok-bytes.ensures.ok c.in-Some.number
    (named-as c.deref.result.now c.in_ok-bytes.bytes.items c.commands.result (codes "CMDS") (Some c.in-Some.number) c.deref.ensures.value c.commands.ensures c.in-Some.ensures)
    c.directory_at.new.disks _ (start_fault c.directory_at.result) c.directory_at.ensures.drive
