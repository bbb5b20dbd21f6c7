use Rattle.std.proofs.Common.{◌≡◌, length, take, inl, ap, ◌∙◌, arith}
use Rattle.rbf_sector.proofs.Written.{bytes_kept, puts_there}
use Rattle.rbf_sector.proofs.entry.write_entry.Goals as goal

pub returns-clause-name : goal.returns-clause-name
returns-clause-name c =
    let kept = bytes_kept _ _ 29 3 0 29 c.put_u24.ensures.beside (inl (omega arith)) in
    let size : 29 ≡ length c.args.e.now.name = omega arith in
    kept ∙ ap (λ n. take n c.put_bytes.new.bytes) size ∙ puts_there _ _ _ 0 (omega arith) c.put_bytes.ensures
