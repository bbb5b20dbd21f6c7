-- What a write through a view leaves unchanged.
use Rattle.std.specs.Prelude.{◌≡◌}
use Rattle.std.proofs.Common.{◌∙◌, ap, refl}
use Rattle.block_map.specs.Window.{SameBeyond, SameBeyond-self, SameBeyond-then}
use Rattle.block_map.specs.declared.view.View.{View}

-- the same map over the same pool; the counts, and the bytes that the map does not name, are unchanged
pub record SameBeside (before after : View) : Type 0 where
  pub map : after.map ≡ before.map
  pub pool : after.pool.ghost_name ≡ before.pool.ghost_name
  pub beyond : SameBeyond before.map.now before.pool.now after.pool.now

pub SameBeside-self : (view : View) → SameBeside view view
SameBeside-self view = record { map = refl; pool = refl; beyond = SameBeyond-self view.map.now view.pool.now }

pub SameBeside-then : (first middle last : View) → SameBeside first middle → SameBeside middle last
    → SameBeside first last
SameBeside-then first middle last one two = record {
  map = two.map ∙ one.map;
  pool = two.pool ∙ one.pool;
  beyond =
      SameBeyond-then first.map.now middle.map.now first.pool.now middle.pool.now last.pool.now
      (ap (λ m. m.now) one.map) one.beyond two.beyond;
}
