-- The volume of the image that has been inserted is mounted.
use Rattle.std.proofs.Common.{rules}
use Rattle.tool_vectors.proofs.Images.{on_copy}
use Rattle.tool_vectors.proofs.used.on_drive.Goals as goal

pub use_verb-requires : goal.use_verb-requires
use_verb-requires g c =
    c.in_ok-volume.ensures.mounted c.requires.0
    (on_copy _ _ _ c.requires.0 c.in-Ok.ensures.0 (c.in_ok-copy.ensures.items_if_clones_equal (search rules)) c.requires.1)
