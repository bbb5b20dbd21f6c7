-- An image with a tree is well formed.
use Rattle.std.proofs.Common.{◌∙◌, sym}
use Rattle.tool_vectors.proofs.Images.{sound_image}
use Rattle.tool_vectors.proofs.used.use_tool.Goals as goal

pub on_image-requires : goal.on_image-requires
on_image-requires c =
    sound_image _ _ _ (c.deref.ensures.value ∙ sym c.deref-in_default.ensures.value) c.in-Ok.ensures.tree
