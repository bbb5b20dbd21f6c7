use Rattle.os9_boot.proofs.RoomLemmas.{empty-more}
use Rattle.os9_boot.proofs.devices.add_drive.Goals as goal

pub returns-clause-empty : goal.returns-clause-empty
returns-clause-empty g c = λ empty. rw c.in_ok-push.ensures.items (empty-more (λ box. (g.dyn-1.0.entry box.vtable).1) _ _ c.requires empty)
