use Rattle.std.proofs.Common.{length, take, drop, arith, length-take}
use Rattle.std.proofs.lemmas.List.{length-take-le}
use Rattle.file_io.proofs.OpenedLemmas.{mounted-low}
use Rattle.file_io.proofs.ReadingLemmas.{count-from, loaded-few, loaded-fits, loaded-of}
use Rattle.file_io.proofs.loading.load_front.Goals as goal

pub overflow_cast-result : goal.overflow_cast-result
overflow_cast-result g c =
    let has = c.requires.file in
    let read = c.in-Ok.ensures.ok has.volumes has.volume has.file has.mounted has.is has.there in
    omega (arith, read.count_is, count-from has.file.contents c.args.part.at (length (take c.args.part.most c.args.into.now)), length-take c.args.part.most c.args.into.now)

pub returns-in-Ok-clause-ok : goal.returns-in-Ok-clause-ok
returns-in-Ok-clause-ok g c volumes v file mounted is there =
    loaded-of file c.args.part.at c.args.part.most (take c.args.part.most c.args.into.now) c.read_at.new.into
    (drop c.args.part.most c.args.into.now) c.in-Ok.count (length-take-le c.args.part.most c.args.into.now c.requires.room)
    (c.in-Ok.ensures.ok volumes v file mounted is there)

pub returns-in-Ok-clause-few : goal.returns-in-Ok-clause-few
returns-in-Ok-clause-few g c =
    let has = c.requires.file in
    loaded-few has.file c.args.part.at c.args.part.most _ c.in-Ok.count (returns-in-Ok-clause-ok g c has.volumes has.volume has.file has.mounted has.is has.there)

pub returns-in-Ok-clause-fits : goal.returns-in-Ok-clause-fits
returns-in-Ok-clause-fits g c =
    let has = c.requires.file in
    loaded-fits has.file c.args.part.at c.args.part.most _ c.in-Ok.count (returns-in-Ok-clause-ok g c has.volumes has.volume has.file has.mounted has.is has.there) (omega arith)
    (mounted-low c.args.disks.now _ has.volumes c.args.part.place.drive has.volume c.args.part.place.number has.file has.mounted has.is has.there)
