-- The parts stand one behind the other.
use Rattle.std.proofs.Common.{◌≡◌, ◌+◌, ◌++◌, ℕ, List, [], length, arith, ap, ◌∙◌}
use Rattle.guest_mods.specs.BootDisk.{ident_front, root_front, root_entries, file_front, used_sectors, sector_with}
use Rattle.vol_tools.specs.Image.{marks_map}
use Rattle.guest_mods.proofs.Parts.{parts-put}
use Rattle.guest_mods.proofs.image.used_part.Goals as goal

pub returns : goal.returns
returns c =
    let p0 : c.new-part.result.items ≡ [] = c.new-part.ensures.items in
    let p1 : c.push_sector.new.image.items ≡ c.new-part.result.items ++ sector_with
    (ident_front (length c.args.file.now)) = c.in_ok-push_sector.ensures ∙ ap
    (λ (b : List ℕ). c.new-part.result.items ++ sector_with b) c.ident.ensures in
    let marked : 6 + c.from.result ≡ used_sectors (length c.args.file.now) = omega (arith, c.from.ensures, c.sectors_for.ensures) in
    let p2 : c.push_map.new.image.items ≡ c.push_sector.new.image.items ++ marks_map
    (used_sectors (length c.args.file.now)) 512 = c.in_ok-push_map.ensures ∙ ap
    (λ (n : ℕ). c.push_sector.new.image.items ++ marks_map n 512) marked in
    let p3 : c.push_sector-2.new.image.items ≡ c.push_map.new.image.items ++ sector_with root_front =
    c.in_ok-push_sector-2.ensures ∙ ap (λ (b : List ℕ). c.push_map.new.image.items ++ sector_with b)
    c.root.ensures in
    let p4 : c.push_sector-3.new.image.items ≡ c.push_sector-2.new.image.items ++ sector_with root_entries =
    c.in_ok-push_sector-3.ensures ∙ ap (λ (b : List ℕ). c.push_sector-2.new.image.items ++ sector_with b)
    c.entries.ensures in
    let p5 : c.push_sector-4.new.image.items ≡ c.push_sector-3.new.image.items ++ sector_with
    (file_front (length c.args.file.now)) = c.in_ok-push_sector-4.ensures ∙ ap
    (λ (b : List ℕ). c.push_sector-3.new.image.items ++ sector_with b) c.descriptor.ensures in
    let p6 : c.extend_from_slice.new.self.items ≡ c.push_sector-4.new.image.items ++ c.args.file.now = c.in_ok-extend_from_slice.ensures.items in
    parts-put _ _ _ _ _ _ _ _ _ _ _ _ _ p0 p1 p2 p3 p4 p5 p6
