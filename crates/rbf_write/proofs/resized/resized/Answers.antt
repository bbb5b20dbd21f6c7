use Rattle.std.proofs.Common.{◌≡◌, length, take, drop, inl, inr, sym, ap, ◌∙◌, arith}
use Rattle.rbf_sector.proofs.Written.{byte_kept, bytes_kept, number_kept, puts_beside, puts_there}
use Rattle.rbf_write.proofs.Descriptors.{list_stays}
use Rattle.rbf_write.proofs.resized.resized.Goals as goal

pub returns : goal.returns
returns c =
    let five : length c.minute.result ≡ 5 = ap length c.minute.ensures in
    let date = puts_beside c.args.loaded.now.descriptor _ c.minute.result 3 (omega arith) c.put_bytes.ensures in
    let size = c.put_u32.ensures.beside in
    let f = c.requires.fields in
    let list = list_stays c.args.loaded.now.descriptor c.put_u32.new.bytes (omega arith) (omega arith) (λ i past. size.behind i (omega arith) ∙ date.behind i (omega arith)) in
    record {
      whole = omega arith;
      fields = record {
        attributes_are = byte_kept _ _ _ _ 0 size (inl (omega arith)) ∙ byte_kept _ _ _ _ 0 date (inl (omega arith)) ∙ f.attributes_are;
        owner_is = number_kept _ _ _ _ 1 2 size (inl (omega arith)) ∙ number_kept _ _ _ _ 1 2 date (inl (omega arith)) ∙ f.owner_is;
        modified_is =
            bytes_kept _ _ _ _ 3 5 size (inl (omega arith)) ∙ ap (λ n. take n (drop 3 c.put_bytes.new.bytes)) (sym five)
            ∙ puts_there c.args.loaded.now.descriptor _ c.minute.result 3 (omega arith) c.put_bytes.ensures ∙ c.minute.ensures;
        links_are = byte_kept _ _ _ _ 8 size (inl (omega arith)) ∙ byte_kept _ _ _ _ 8 date (inr (omega arith)) ∙ f.links_are;
        size_is = c.put_u32.ensures.number;
        created_is = bytes_kept _ _ _ _ 13 3 size (inr (omega arith)) ∙ bytes_kept _ _ _ _ 13 3 date (inr (omega arith)) ∙ f.created_is;
      };
      list = list ∙ c.requires.list;
      end = record {
        same = λ kept i past. size.behind i (omega arith) ∙ date.behind i (omega arith);
        ended = inl list;
        behind = λ i past. size.behind i (omega arith) ∙ date.behind i (omega arith);
      };
    }
