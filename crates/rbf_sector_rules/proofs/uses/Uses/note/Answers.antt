use Rattle.std.proofs.Common.{refl}
use Rattle.rbf_sector_rules.specs.declared.uses.Uses.{Uses}
use Rattle.rbf_sector_rules.proofs.Noted.{noted_shared, noted_again, noted_new}
use Rattle.rbf_sector_rules.proofs.uses.Uses.note.Goals as goal

pub returns-then-give : goal.returns-then-give
returns-then-give c =
    let old = c.args.self.now in
    let new : Uses = record { users = old.users; owners = c.give.new.owners; least = c.min-self.result } in
    let had = c.if-give.ensures.another in
    noted_shared c.args.cluster c.args.owner c.args.s old new c.if-give.ensures.given refl had.0 had.1 had.2 c.min-self.ensures

pub returns-then-note_user : goal.returns-then-note_user
returns-then-note_user c =
    let old = c.args.self.now in
    let new : Uses = record { users = c.note_user.new.users; owners = c.give.new.owners; least = c.min-self-then-note_user.result } in
    noted_again c.args.cluster c.args.owner c.args.s old new c.if-give.ensures.given c.requires.users
    c.note_user.ensures.noted c.if-give.ensures.another c.if-note_user.ensures.before
    c.min-self-then-note_user.ensures

pub returns-else-note_user : goal.returns-else-note_user
returns-else-note_user c =
    let old = c.args.self.now in
    let new : Uses = record { users = c.note_user.new.users; owners = c.give.new.owners; least = old.least } in
    noted_new c.args.cluster c.args.owner c.args.s old new c.if-give.ensures.given c.requires.users c.note_user.ensures.noted c.if-give.ensures.another c.if-note_user.ensures.before refl
