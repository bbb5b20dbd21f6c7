use Rattle.std.proofs.Common.{refl}
use Rattle.rbf_model.specs.Space.{owned, has_cluster}
use Rattle.rbf_model.specs.Volume.{is_free}
use Rattle.file_rules.proofs.byte_rows.bytes_are_written.Goals as goal

pub returns-clause-last : goal.returns-clause-last
unfolding is_free has_cluster owned
returns-clause-last c = refl

pub returns-clause-full : goal.returns-clause-full
unfolding is_free has_cluster owned
returns-clause-full c = refl

pub returns-clause-bytes : goal.returns-clause-bytes
unfolding is_free has_cluster owned
returns-clause-bytes c = refl

pub returns-clause-line : goal.returns-clause-line
unfolding is_free has_cluster owned
returns-clause-line c = refl

pub returns-clause-error : goal.returns-clause-error
unfolding is_free has_cluster owned
returns-clause-error c = refl
