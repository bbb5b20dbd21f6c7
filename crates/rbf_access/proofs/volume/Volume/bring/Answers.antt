use Rattle.std.proofs.Common.{refl, sym, subst, ◌∙◌}
use Rattle.std.proofs.lemmas.Bool.{false≢true}
use Rattle.rbf_access.specs.Cached.{IsCacheOf, IsSectorUsed}
use Rattle.rbf_access.proofs.Caching.{bytes_held, cached_used, cached_read, used_put, used_kept, still_put}
use Rattle.rbf_access.proofs.volume.Volume.bring.Goals as goal

pub returns-then-touch-clause-cached : goal.returns-then-touch-clause-cached
returns-then-touch-clause-cached g c =
    let was = bytes_held _ (c.touch.ensures.held.0 c.if-touch.true) in
    cached_used _ _ c.args.self.now.cache c.touch.new.self c.args.lsn was.0 refl (c.touch.ensures.first was.0 was.1) was.1 c.requires.cached

pub returns-then-touch-clause-used : goal.returns-then-touch-clause-used
returns-then-touch-clause-used g c =
    let was = bytes_held _ (c.touch.ensures.held.0 c.if-touch.true) in
    used_put c.args.lsn c.args.self.now.cache c.touch.new.self was.0 (c.touch.ensures.first was.0 was.1)

pub returns-then-touch-clause-still : goal.returns-then-touch-clause-still
returns-then-touch-clause-still g c m is held =
    let was = bytes_held _ is in
    still_put c.args.lsn c.args.self.now.cache c.touch.new.self was.0 (c.touch.ensures.first was.0 was.1) m held

pub returns-in-Ok-clause-cached : goal.returns-in-Ok-clause-cached
returns-in-Ok-clause-cached g c =
    let same = c.touch.ensures.absent c.if-touch.false in
    cached_read _ _ c.touch.new.self c.add.new.self 256 c.args.lsn c.read_into.new.into c.in-Ok.ensures.media_kept c.add.ensures c.in-Ok.ensures.bytes
    (subst (IsCacheOf _) (sym same) c.requires.cached)

pub returns-in-Ok-clause-used : goal.returns-in-Ok-clause-used
returns-in-Ok-clause-used g c =
    let same = c.touch.ensures.absent c.if-touch.false in
    subst (λ old. IsSectorUsed c.args.lsn old c.add.new.self) same (used_kept c.args.lsn c.touch.new.self c.add.new.self c.read_into.new.into c.add.ensures)

pub returns-in-Ok-clause-still : goal.returns-in-Ok-clause-still
returns-in-Ok-clause-still g c m is held = absurd (false≢true (sym c.if-touch.false ∙ c.touch.ensures.held.1 is))

pub returns-in-Err-clause-still : goal.returns-in-Err-clause-still
returns-in-Err-clause-still g c m is held = absurd (false≢true (sym c.if-touch.false ∙ c.touch.ensures.held.1 is))
