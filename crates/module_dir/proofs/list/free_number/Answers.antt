use Rattle.std.proofs.Common.{◌≡◌, ◌∙◌, sym, rules, position, is_none}
use Rattle.std.proofs.lemmas.Iterator.{YieldsList-from_slice}
use Rattle.std.proofs.lemmas.Iterator.Search.{position_from_yields_List}
use Rattle.proc_model.proofs.ModuleListLaws.{room_by_number}
use Rattle.module_dir.specs.Entries.{seen, held_entries}
use Rattle.module_dir.proofs.Lists.{position-is_none}
use Rattle.module_dir.proofs.list.free_number.Goals as goal

pub returns-clause-number : goal.returns-clause-number
returns-clause-number c =
    let e : c.position.result ≡ position is_none c.args.entries.now =
    position_from_yields_List (λ place. is_none place) _ _ c.position.result c.position.ensures.ran (YieldsList-from_slice _ c.iter.ensures.rest) (λ x b q k. search rules)
    in e ∙ sym (position-is_none seen c.args.entries.now)

pub returns-clause-room : goal.returns-clause-room
returns-clause-room c = rw (returns-clause-number c) (room_by_number (held_entries c.args.entries.now))
