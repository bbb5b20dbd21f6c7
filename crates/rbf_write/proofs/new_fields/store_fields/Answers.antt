use Rattle.std.proofs.Common.{refl, ◌∙◌}
use Rattle.rbf_write.proofs.new_fields.store_fields.Goals as goal

pub store-requires-clause-sound : goal.store-requires-clause-sound
store-requires-clause-sound g c =
    let w = c.with_descriptor-bytes.ensures in
    let f = w.fields in
    let dated = c.minute.ensures in
    c.requires.may.sound _
    (record {
      bytes = c.with_descriptor-bytes.result;
      says = record {
        whole = w.whole;
        fields = record {
          attributes_are = f.attributes_are;
          owner_is = f.owner_is;
          modified_is = f.modified_is ∙ dated;
          links_are = f.links_are;
          size_is = f.size_is;
          created_is = f.created_is;
        };
        list = w.list;
        end = w.end;
      };
      written = refl;
    })

pub store-requires-clause-on : goal.store-requires-clause-on
store-requires-clause-on g c = c.requires.may.number

pub with_descriptor-bytes-requires-clause-list : goal.with_descriptor-bytes-requires-clause-list
with_descriptor-bytes-requires-clause-list g c = c.requires.may.list

pub with_descriptor-bytes-requires-clause-same : goal.with_descriptor-bytes-requires-clause-same
with_descriptor-bytes-requires-clause-same g c = c.requires.may.same
