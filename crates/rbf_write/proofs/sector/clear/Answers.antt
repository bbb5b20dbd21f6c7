use Rattle.std.proofs.Common.{◌≡◌, ◌∙◌, refl, take, length, arith}
use Rattle.std.proofs.lemmas.List.{length-take-le}
use Rattle.rbf_write.proofs.LaidBytes.{zeros}
use Rattle.rbf_write.proofs.LaidSector.{cleared, zeros_front}
use Rattle.rbf_write.proofs.sector.clear.Goals as goal

pub returns-then-end-first : goal.returns-then-end-first
returns-then-end-first c = record { whole = refl; zeros = λ q low high. absurd (omega arith); others = λ q far. refl }

pub returns : goal.returns
returns c =
    let n = c.saturating_sub.result in
    let few = c.saturating_sub.ensures in
    let end = c.requires.end in
    let size : length (take n (zeros 256)) ≡ n = length-take-le n (zeros 256) (omega arith) in
    cleared c.args.first c.args.end c.args.bytes.now c.put_bytes.new.bytes (take n (zeros 256)) (omega arith)
    c.requires.first c.requires.end (size ∙ few) (λ j low. zeros_front n j (omega arith)) c.put_bytes.ensures
