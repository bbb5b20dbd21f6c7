use Rattle.std.proofs.Common.{refl}
use Rattle.rbf_model.specs.Space.{owned, has_cluster}
use Rattle.rbf_model.specs.Volume.{is_free}
use Rattle.file_rules.proofs.path_rows.directories_are_made.Goals as goal

pub returns-clause-made : goal.returns-clause-made
unfolding is_free has_cluster owned
returns-clause-made c = refl

pub returns-clause-full : goal.returns-clause-full
unfolding is_free has_cluster owned
returns-clause-full c = refl

pub returns-clause-file : goal.returns-clause-file
unfolding is_free has_cluster owned
returns-clause-file c = refl
