use Rattle.lock_laws.proofs.Contents.{contents-come}
use Rattle.lock_laws.proofs.claims.contents_change_in_the_range_of_a_granted_request.Goals as goal

pub returns : goal.returns
returns c = contents-come
