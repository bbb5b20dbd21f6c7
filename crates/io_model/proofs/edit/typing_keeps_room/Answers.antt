use Rattle.io_model.proofs.RoomLemmas.{edited_room, copied_room}
use Rattle.io_model.proofs.edit.typing_keeps_room.Goals as goal

pub returns-clause-whole_line : goal.returns-clause-whole_line
returns-clause-whole_line c = λ most line key room. edited_room most line room key

pub returns-clause-bytes : goal.returns-clause-bytes
returns-clause-bytes c = λ most line key room. copied_room most line room key
