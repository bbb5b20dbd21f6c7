use Rattle.std.proofs.Common.{◌≡◌, length, take, drop, inl, ap, ◌∙◌, arith, get_or-set_same}
use Rattle.rbf_sector.proofs.Written.{number_kept, bytes_kept, set_beside, puts_beside, puts_there}
use Rattle.rbf_sector.proofs.fd.write_fields.Goals as goal

pub returns-clause-attr : goal.returns-clause-attr
returns-clause-attr c =
    let b = c.args.b.now in
    let modified = puts_beside c.put_u16.new.bytes _ c.args.f.now.modified 3 (omega arith) c.put_bytes.ensures in
    let created = puts_beside c.put_u32.new.bytes _ c.args.f.now.created 13 (omega arith) c.put_bytes-2.ensures in
    created.before 0 (omega arith) ∙ c.put_u32.ensures.beside.before 0 (omega arith) ∙ (set_beside c.put_bytes.new.bytes 8 _).before 0 (omega arith)
    ∙ modified.before 0 (omega arith) ∙ c.put_u16.ensures.beside.before 0 (omega arith) ∙ get_or-set_same b 0 c.args.f.now.attr 0 (omega arith)

pub returns-clause-owner : goal.returns-clause-owner
returns-clause-owner c =
    let modified = puts_beside c.put_u16.new.bytes _ c.args.f.now.modified 3 (omega arith) c.put_bytes.ensures in
    let created = puts_beside c.put_u32.new.bytes _ c.args.f.now.created 13 (omega arith) c.put_bytes-2.ensures in
    number_kept _ _ _ _ 1 2 created (inl (omega arith)) ∙ number_kept _ _ _ _ 1 2 c.put_u32.ensures.beside (inl (omega arith))
    ∙ number_kept _ _ _ _ 1 2 (set_beside c.put_bytes.new.bytes 8 _) (inl (omega arith)) ∙ number_kept _ _ _ _ 1 2 modified (inl (omega arith)) ∙ c.put_u16.ensures.number

pub returns-clause-modified : goal.returns-clause-modified
returns-clause-modified c =
    let size : 5 ≡ length c.args.f.now.modified = omega arith in
    let created = puts_beside c.put_u32.new.bytes _ c.args.f.now.created 13 (omega arith) c.put_bytes-2.ensures in
    bytes_kept _ _ _ _ 3 5 created (inl (omega arith)) ∙ bytes_kept _ _ _ _ 3 5 c.put_u32.ensures.beside (inl (omega arith))
    ∙ bytes_kept _ _ _ _ 3 5 (set_beside c.put_bytes.new.bytes 8 _) (inl (omega arith)) ∙ ap (λ n. take n (drop 3 c.put_bytes.new.bytes)) size
    ∙ puts_there c.put_u16.new.bytes _ c.args.f.now.modified 3 (omega arith) c.put_bytes.ensures

pub returns-clause-links : goal.returns-clause-links
returns-clause-links c =
    let created = puts_beside c.put_u32.new.bytes _ c.args.f.now.created 13 (omega arith) c.put_bytes-2.ensures in
    created.before 8 (omega arith) ∙ c.put_u32.ensures.beside.before 8 (omega arith) ∙ get_or-set_same c.put_bytes.new.bytes 8 c.args.f.now.links 0 (omega arith)

pub returns-clause-created : goal.returns-clause-created
returns-clause-created c =
    let size : 3 ≡ length c.args.f.now.created = omega arith in
    ap (λ n. take n (drop 13 c.put_bytes-2.new.bytes)) size ∙ puts_there c.put_u32.new.bytes _ c.args.f.now.created 13 (omega arith) c.put_bytes-2.ensures

pub returns-clause-beside : goal.returns-clause-beside
returns-clause-beside c = record {
  same_length = omega arith;
  before = λ i below. absurd (omega arith);
  behind = λ i past.
      let modified_size : length c.args.f.now.modified ≡ 5 = omega arith in
      let created_size : length c.args.f.now.created ≡ 3 = omega arith in
      let modified = puts_beside c.put_u16.new.bytes _ c.args.f.now.modified 3 (omega arith) c.put_bytes.ensures in
      let created = puts_beside c.put_u32.new.bytes _ c.args.f.now.created 13 (omega arith) c.put_bytes-2.ensures in
      created.behind i (omega arith) ∙ c.put_u32.ensures.beside.behind i (omega arith) ∙ (set_beside c.put_bytes.new.bytes 8 _).behind i (omega arith)
      ∙ modified.behind i (omega arith) ∙ c.put_u16.ensures.beside.behind i (omega arith) ∙ (set_beside c.args.b.now 0 c.args.f.now.attr).behind i (omega arith);
}
