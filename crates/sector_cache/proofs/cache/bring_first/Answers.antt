use Rattle.std.proofs.Common.{sym, ap}
use Rattle.lru.specs.LruCache.{LruCache}
use Rattle.sector_cache.proofs.cache.bring_first.Goals as goal

pub returns-then-is_first : goal.returns-then-is_first
returns-then-is_first c = sym (c.is_first.ensures c.if-is_first.true)

pub returns : goal.returns
returns c = ap (λ (o : LruCache _ _). o.entries) c.promote.ensures.entries
