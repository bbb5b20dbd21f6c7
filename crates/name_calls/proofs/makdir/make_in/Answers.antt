use Rattle.std.proofs.Common.{refl}
use Rattle.file_state.specs.declared.state.FileState.{FileState}
use Rattle.name_calls.proofs.MakingLemmas.{directory-made, directory-refused, place-refused}
use Rattle.name_calls.proofs.makdir.make_in.Goals as goal

pub returns-in-Err-clause-makes : goal.returns-in-Err-clause-makes
returns-in-Err-clause-makes g c look seen asker files before who loc =
    let mid : FileState = record c.args.files.now { disks = c.find_place.new.self } in
    place-refused c.args.by c.args.user c.args.located look seen asker files c.args.files.now mid before _ _ who loc
    c.find_place.result refl refl refl c.find_place.ensures.answer c.find_place.ensures.drive c.in-Err.error
    c.number.result c.in-Err.is c.number.ensures

pub returns-in-Err-make_dir_at-clause-makes : goal.returns-in-Err-make_dir_at-clause-makes
returns-in-Err-make_dir_at-clause-makes g c look seen asker files before who loc =
    let mid : FileState = record c.args.files.now { disks = c.find_place.new.self } in
    let new : FileState = record c.args.files.now { disks = c.make_dir_at.new.self } in
    directory-refused c.args.by c.args.user c.args.located look seen asker files c.args.files.now mid before _ _ who loc
    c.find_place.result refl refl refl c.find_place.ensures.answer c.find_place.ensures.drive c.in-Ok.place
    c.in-Ok.is c.in-Ok.ensures.found.user_is new _ refl refl refl c.make_dir_at.result
    c.make_dir_at.ensures.changed c.in-Err-make_dir_at.fault c.number-in-Err-make_dir_at.result
    c.in-Err-make_dir_at.is c.number-in-Err-make_dir_at.ensures

pub returns-in-Ok-make_dir_at-clause-makes : goal.returns-in-Ok-make_dir_at-clause-makes
returns-in-Ok-make_dir_at-clause-makes g c look seen asker files before who loc =
    let mid : FileState = record c.args.files.now { disks = c.find_place.new.self } in
    let new : FileState = record c.args.files.now { disks = c.make_dir_at.new.self } in
    directory-made c.args.by c.args.user c.args.located look seen asker files c.args.files.now mid before _ _ who loc
    c.find_place.result refl refl refl c.find_place.ensures.answer c.find_place.ensures.drive c.in-Ok.place
    c.in-Ok.is c.in-Ok.ensures.found.user_is new _ refl refl refl c.make_dir_at.result
    c.make_dir_at.ensures.changed _ c.in-Ok-make_dir_at.is
