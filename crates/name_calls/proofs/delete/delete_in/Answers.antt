use Rattle.std.proofs.Common.{◌≡◌, true, false, refl}
use Rattle.file_state.specs.declared.state.FileState.{FileState}
use Rattle.name_calls.proofs.AgainLemmas.{still-there}
use Rattle.name_calls.proofs.DeletingLemmas.{entry-refused, file-deleted, file-kept, file-shared}
use Rattle.name_calls.proofs.delete.delete_in.Goals as goal

pub delete_at-requires-clause-file : goal.delete_at-requires-clause-file
delete_at-requires-clause-file g c = still-there c.args.located.last.directory _ _ c.args.files.now.disks c.find_deletable.new.self _ _ c.requires c.find_deletable.ensures.drive

pub returns-in-Err-clause-deletes : goal.returns-in-Err-clause-deletes
returns-in-Err-clause-deletes g c look seen asker files before who loc =
    let mid : FileState = record c.args.files.now { disks = c.find_deletable.new.self } in
    entry-refused c.args.by.user c.args.by.execute c.args.located look seen asker files c.args.files.now mid before _ _ who loc
    c.find_deletable.result refl refl refl c.find_deletable.ensures.answer c.find_deletable.ensures.drive
    c.in-Err.error c.number.result c.in-Err.is c.number.ensures

pub returns-then-is_open-clause-deletes : goal.returns-then-is_open-clause-deletes
returns-then-is_open-clause-deletes g c look seen asker files before who loc =
    let mid : FileState = record c.args.files.now { disks = c.find_deletable.new.self } in
    let taken : c.is_open.result ≡ true = cc in
    file-shared c.args.by.user c.args.by.execute c.args.located look seen asker files c.args.files.now mid before _ _ who loc
    c.find_deletable.result refl refl refl c.find_deletable.ensures.answer c.find_deletable.ensures.drive
    c.in-Ok.found c.in-Ok.is c.is_open.result (λ f stands. c.is_open.ensures _ f stands) taken

pub returns-in-Err-delete_at-clause-deletes : goal.returns-in-Err-delete_at-clause-deletes
returns-in-Err-delete_at-clause-deletes g c look seen asker files before who loc =
    let mid : FileState = record c.args.files.now { disks = c.find_deletable.new.self } in
    let new : FileState = record c.args.files.now { disks = c.delete_at.new.self } in
    let quiet : c.is_open.result ≡ false = cc in
    file-kept c.args.by.user c.args.by.execute c.args.located look seen asker files c.args.files.now mid before _ _ who loc
    c.find_deletable.result refl refl refl c.find_deletable.ensures.answer c.find_deletable.ensures.drive
    c.in-Ok.found c.in-Ok.is c.is_open.result (λ f stands. c.is_open.ensures _ f stands) quiet new _ refl refl
    refl c.delete_at.result c.in-Ok.ensures.found (λ asked is. c.delete_at.ensures.changed asked is)
    c.in-Err-delete_at.fault c.number-in-Err-delete_at.result c.in-Err-delete_at.is
    c.number-in-Err-delete_at.ensures

pub returns-in-Ok-delete_at-clause-deletes : goal.returns-in-Ok-delete_at-clause-deletes
returns-in-Ok-delete_at-clause-deletes g c look seen asker files before who loc =
    let mid : FileState = record c.args.files.now { disks = c.find_deletable.new.self } in
    let new : FileState = record c.args.files.now { disks = c.delete_at.new.self } in
    let quiet : c.is_open.result ≡ false = cc in
    file-deleted c.args.by.user c.args.by.execute c.args.located look seen asker files c.args.files.now mid before _ _ who loc
    c.find_deletable.result refl refl refl c.find_deletable.ensures.answer c.find_deletable.ensures.drive
    c.in-Ok.found c.in-Ok.is c.is_open.result (λ f stands. c.is_open.ensures _ f stands) quiet new _ refl refl
    refl c.delete_at.result c.in-Ok.ensures.found (λ asked is. c.delete_at.ensures.changed asked is)
    c.in-Ok-delete_at.is
