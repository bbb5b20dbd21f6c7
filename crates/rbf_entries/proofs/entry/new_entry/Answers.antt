use Rattle.rbf_entries.proofs.EntryBytes.{numbered}
use Rattle.rbf_entries.proofs.NewEntries.{padded_length}
use Rattle.rbf_entries.proofs.entry.new_entry.Goals as goal

pub returns : goal.returns
returns c = numbered c.args.name.now c.padded-bytes.result _ _ _ (padded_length c.args.name.now c.padded-bytes.ensures.name) c.padded-bytes.ensures.bytes
