-- Mounted volumes, their roots, and files that are no directories.
use Rattle.std.proofs.Common.{◌≡◌, ℕ, ◌==◌, false, Option, Some, List, ap, sym, ◌∙◌}
use Rattle.std.specs.Int.{bit_at}
use Rattle.rbf_model.specs.Geometry.{Geometry, image_geometry, sector}
use Rattle.rbf_model.proofs.Owners.{root_file}
use Rattle.rbf_sector.specs.declared.fd.Fd.{Fd}
use Rattle.rbf_check.specs.declared.tree.Tree.{Tree}
use Rattle.rbf_check.specs.Tree.{IsTreeOf}
use Rattle.rbf_change.specs.Calls.{shape}
use Rattle.rbf_change.proofs.LawfulWrites.{shape-image}
use Rattle.rbf_access.specs.Mounted.{RepresentsVolume, IsMounted, HasFile}
use Rattle.rbf_access.specs.Reading.{IsFdOf, OnFile}
use Rattle.rbf_access.specs.declared.volume.Volume.{Volume}
use Rattle.rbf_write.specs.Files.{HasDataFile}

pub on_image : (media : Option (List ℕ)) (image : List ℕ) (tree : Tree) → media ≡ Some image → (known : IsTreeOf image tree) → RepresentsVolume media known.volume
on_image media image tree is known = record { image = image; is = is; vol = known.represents }

-- a mounted volume has a root
pub has_root : (media : Option (List ℕ)) (volume : Volume) (n : ℕ) → (mounted : IsMounted volume media) → n ≡ (shape mounted.content).root → HasFile media n
has_root media volume n mounted root =
    let v = mounted.content in
    let image = mounted.on.image in
    let g = image_geometry image in
    let file = root_file g (sector image) v mounted.on.vol.sound in
    let there : n ≡ g.root = root ∙ ap (λ (h : Geometry). h.root) (shape-image image v mounted.on.vol) in
    record { content = v; on = mounted.on; file = file.0; is = ap v.files there ∙ file.1 }

-- a file whose descriptor does not say that it is a directory
pub data_file : (media now : Option (List ℕ)) (n : ℕ) (fd : Fd) → now ≡ media → HasFile media n → OnFile media n (λ file. IsFdOf file fd) → (bit_at fd.attr 7 == 1) ≡ false → HasDataFile now n
data_file media now n fd same has says not_directory = record {
  content = has.content;
  on = record { image = has.on.image; is = same ∙ has.on.is; vol = has.on.vol };
  file = has.file;
  is = has.is;
  not_directory = ap (λ a. bit_at a 7 == 1) (sym (says has.content has.file has.on has.is).attributes_are) ∙ not_directory;
}
