use Rattle.std.proofs.Common.{refl}
use Rattle.rbf_model.specs.Space.{owned, has_cluster}
use Rattle.rbf_model.specs.Volume.{is_free}
use Rattle.file_rules.proofs.byte_rows.status_is_set.Goals as goal

pub returns-clause-size : goal.returns-clause-size
unfolding is_free has_cluster owned
returns-clause-size c = refl

pub returns-clause-full : goal.returns-clause-full
unfolding is_free has_cluster owned
returns-clause-full c = refl
