-- Directories that begin with themselves and their parents.
use Rattle.std.proofs.Common.{◌≡◌, ◌≢◌, ◌⊎◌, ℕ, ◌+◌, ◌*◌, ◌<◌, ◌≤◌, Bool, true, false, List, [], length, take, drop, get_or, set, replicate, Option, Some, None, refl, sym, ap, ◌∙◌, subst, inl, inr, ⊎_elim, arith}
use Rattle.std.specs.Prelude.{Contains, MatchBool}
use Rattle.std.proofs.lemmas.Bool.{cases_lt, cases_eq, cases_Bool, false≢true}
use Rattle.std.proofs.lemmas.List.{get_or_default, get_or-set_same, get_or-set_other, length-set, drop_all}
use Rattle.rbf_model.specs.Disk.{disk_of}
use Rattle.os9_base.specs.Name.{stored_name}
use Rattle.rbf_model.specs.Segments.{has}
use Rattle.rbf_model.specs.Fields.{directory_entry, entry_name_field, descriptor_field}
use Rattle.rbf_model.specs.Geometry.{Geometry, IsNumber, sector}
use Rattle.rbf_model.specs.Tree.{dot, dot_dot, IsEntry, IsParent, of_root, of_other, HasDots, self_first, parent_first}
use Rattle.rbf_model.specs.Faults.{Breaks}
use Rattle.rbf_model.specs.Search.{IsListOfReached, searchable_bytes}
use Rattle.rbf_model.specs.Faults.Breaks.{no_dots}
use Rattle.rbf_sector.specs.declared.entry.Entry.{Entry}
use Rattle.rbf_sector.specs.Ident.{geometry_of}
use Rattle.rbf_sector_rules.specs.declared.image.IdentifiedImage.{IdentifiedImage}
use Rattle.rbf_sector_rules.specs.declared.links.Link.{Link}
use Rattle.rbf_sector_rules.specs.Linked.{AreLinks}
use Rattle.rbf_sector_rules.specs.Least.{IsLeast, Before, IsLeastBreach}
use Rattle.rbf_check.specs.Named.{link_at}
use Rattle.rbf_check.specs.Dots.{NamesSo, AreDots, BeginsWithDots, MarksDots, AreDotted, IsWithoutDots, AreDotsDecided}
use Rattle.rbf_sector_rules.proofs.Cases.{dots_of}
use Rattle.rbf_sector_rules.proofs.Tables.{filled}
use Rattle.rbf_sector_rules.proofs.Leasts.{least_along, least_in_list}
use Rattle.rbf_sector_rules.proofs.Options.{none_some}
use Rattle.rbf_sector_rules.specs.declared.file.FoundFile.{FoundFile}
use Rattle.rbf_sector_rules.specs.Files.{AreFiles}
use Rattle.rbf_sector_rules.proofs.FoundFiles.{file_reached}
use Rattle.rbf_sector_rules.proofs.FoundNumbers.{number_reached}

-- an entry that is read
module _ (entry : List ℕ) (read : Entry) (name_is : read.name ≡ take 29 entry) (lsn : read.lsn ≡ descriptor_field entry) (name : List ℕ) (n : ℕ) where
  entry_of : NamesSo read name n → IsEntry entry name n
  entry_of so =
      let P : List ℕ → Type 0 = λ bytes. stored_name bytes ≡ Some name in
      record { name_is = subst P name_is so.0; descriptor = sym lsn ∙ so.1 }

  so_of : IsEntry entry name n → NamesSo read name n
  so_of is =
      let P : List ℕ → Type 0 = λ bytes. stored_name bytes ≡ Some name in
      (subst P (sym name_is) is.name_is, lsn ∙ is.descriptor)

module _ (contents : List ℕ) (d p : ℕ) where
  -- a directory of fewer than two entries
  pub too_short : (entries : ℕ) → 32 * entries ≡ length contents → entries < 2 → BeginsWithDots contents d p → ⊥
  too_short entries counted few dots =
      let gone : drop 32 contents ≡ [] = drop_all 32 contents (omega arith) in
      let none : entry_name_field (directory_entry contents 1) ≡ None = ap (λ xs. entry_name_field (take 32 xs)) gone in
      ⊎_elim
      (λ a. none_some dot_dot (entry_name_field (directory_entry contents 1)) none a.1.name_is)
      (λ b. none_some dot (entry_name_field (directory_entry contents 1)) none b.1.name_is)
      dots

  module _ (first second : Entry) (first_name : first.name ≡ take 29 (directory_entry contents 0))
      (first_lsn : first.lsn ≡ descriptor_field (directory_entry contents 0)) (second_name : second.name ≡ take 29
      (directory_entry contents 1)) (second_lsn : second.lsn ≡ descriptor_field (directory_entry contents 1)) where
    pub begins_own : AreDots first second d p → BeginsWithDots contents d p
    begins_own dots =
        inl (entry_of (directory_entry contents 0) first first_name first_lsn dot d dots.0, entry_of (directory_entry contents 1) second second_name second_lsn dot_dot p dots.1)

    pub begins_parent : AreDots second first d p → BeginsWithDots contents d p
    begins_parent dots =
        inr (entry_of (directory_entry contents 0) first first_name first_lsn dot_dot p dots.1, entry_of (directory_entry contents 1) second second_name second_lsn dot d dots.0)

    pub begins_not : (AreDots first second d p → ⊥) → (AreDots second first d p → ⊥) → BeginsWithDots contents d p → ⊥
    begins_not one other dots = ⊎_elim
        (λ a. one (so_of (directory_entry contents 0) first first_name first_lsn dot d a.0, so_of (directory_entry contents 1) second second_name second_lsn dot_dot p a.1))
        (λ b. other (so_of (directory_entry contents 1) second second_name second_lsn dot d b.1, so_of (directory_entry contents 0) first first_name first_lsn dot_dot p b.0))
        dots

-- what an answer says, and when it is so
pub answer_true : (b : Bool) (P Q : Type 0) → MatchBool b P Q → b ≡ true → P
answer_true true P Q m e = m
answer_true false P Q m e = absurd (false≢true e)

pub answer_must : (b : Bool) (P : Type 0) → MatchBool b P (P → ⊥) → P → b ≡ true
answer_must true P m p = refl
answer_must false P m p = absurd (m p)

pub nothing_marked : (n : ℕ) (marks : List Bool) → marks ≡ replicate n false → (i : ℕ) → get_or marks i false ≡ true → ⊥
nothing_marked n marks is i h =
    false≢true (sym (filled marks n false is i) ∙ h)

-- what a link marks
module _ (contents : List ℕ) (root : ℕ) (link : Link) (old : List Bool) where
  pub marks_nothing : (link.descriptor ≡ root) ⊎ (BeginsWithDots contents link.descriptor link.directory → ⊥) → MarksDots contents root link old old
  marks_nothing why = record {
    size = refl;
    kept = λ n h. h;
    only = λ n h. inl h;
    there = λ other dots. ⊎_elim (λ same. absurd (other same)) (λ not_dots. absurd (not_dots dots)) why;
  }

  pub marks_it : link.descriptor < length old → link.descriptor ≢ root → BeginsWithDots contents link.descriptor link.directory → MarksDots contents root link old (set old link.descriptor true)
  marks_it low other dots = record {
    size = length-set old link.descriptor true;
    kept = λ n h. ⊎_elim
        (λ same. ap (λ m. get_or (set old link.descriptor true) m false) same ∙ get_or-set_same old link.descriptor true false low)
        (λ apart. get_or-set_other old link.descriptor n true false apart ∙ h)
        (cases_eq n link.descriptor);
    only = λ n h. ⊎_elim
        (λ same. inr (same, other, dots))
        (λ apart. inl (sym (get_or-set_other old link.descriptor n true false apart) ∙ h))
        (cases_eq n link.descriptor);
    there = λ o b. get_or-set_same old link.descriptor true false low;
  }

-- what the root and the first so many links mark
pub record AreDottedBy (g : Geometry) (disk : ℕ → List ℕ) (links : List Link) (dotted : List Bool) (next : ℕ) : Type 0 where
  pub size : length dotted ≡ g.total
  pub only : (n : ℕ) → get_or dotted n false ≡ true → HasDots g (searchable_bytes (disk_of g disk)) n
  pub at_root : BeginsWithDots (searchable_bytes (disk_of g disk) g.root) g.root g.root → get_or dotted g.root false ≡ true
  pub there : (k : ℕ) → k < next → (link_at links k).descriptor ≢ g.root
      → BeginsWithDots (searchable_bytes (disk_of g disk) (link_at links k).descriptor) (link_at links k).descriptor
      (link_at links k).directory → get_or dotted (link_at links k).descriptor false ≡ true

module _ (g : Geometry) (disk : ℕ → List ℕ) where
  has_dots : (n p : ℕ) → BeginsWithDots (searchable_bytes (disk_of g disk) n) n p → IsParent g (searchable_bytes (disk_of g disk)) n p → HasDots g (searchable_bytes (disk_of g disk)) n
  has_dots n p dots parent = ⊎_elim (λ a. self_first a.0 a.1 parent) (λ b. parent_first b.0 b.1 parent) dots

  pub dotted_root : (links : List Link) (none dotted : List Bool) (answer : Bool) → g.root < g.total
      → length none ≡ g.total → ((n : ℕ) → get_or none n false ≡ true → ⊥) → dotted ≡ set none g.root answer
      → (answer ≡ true → BeginsWithDots (searchable_bytes (disk_of g disk) g.root) g.root g.root)
      → (BeginsWithDots (searchable_bytes (disk_of g disk) g.root) g.root g.root → answer ≡ true) → AreDottedBy g disk
      links dotted 0
  dotted_root links none dotted answer low size empty is holds must =
      let low_none : g.root < length none = omega arith in
      let here : get_or dotted g.root false ≡ answer = ap (λ t. get_or t g.root false) is ∙ get_or-set_same none g.root answer false low_none in
      record {
        size = ap length is ∙ length-set none g.root answer ∙ size;
        only = λ n h. ⊎_elim
            (λ same.
            let P : ℕ → Type 0 = λ m. HasDots g (searchable_bytes (disk_of g disk)) m in
            let true_at : answer ≡ true = sym here ∙ ap (λ m. get_or dotted m false) (sym same) ∙ h in
            subst P (sym same) (has_dots g.root g.root (holds true_at) (of_root refl refl)))
            (λ apart. absurd (empty n (sym (ap (λ t. get_or t n false) is ∙ get_or-set_other none g.root n answer false apart) ∙ h)))
            (cases_eq n g.root);
        at_root = λ dots. here ∙ must dots;
        there = λ k below other dots. absurd (omega arith);
      }

  pub dotted_more : (links : List Link) (old new : List Bool) (next : ℕ) → AreLinks (disk_of g disk) links
      → next < length links → AreDottedBy g disk links old next
      → MarksDots (searchable_bytes (disk_of g disk) (link_at links next).descriptor) g.root (link_at links next) old
      new → AreDottedBy g disk links new (next + 1)
  dotted_more links old new next are low before marks =
      let link = link_at links next in
      let contains : Contains links link = (next, low, get_or_default links next link (record { directory = 0; entry = 0; descriptor = 0 }) low) in
      record {
        size = marks.size ∙ before.size;
        only = λ n h. ⊎_elim
            (λ earlier. before.only n earlier)
            (λ here.
            let P : ℕ → Type 0 = λ m. HasDots g (searchable_bytes (disk_of g disk)) m in
            subst P (sym here.0) (has_dots link.descriptor link.directory here.2 (of_other here.1 (are.each link contains).0)))
            (marks.only n h);
        at_root = λ dots. marks.kept g.root (before.at_root dots);
        there = λ k below other dots. ⊎_elim
            (λ earlier. marks.kept (link_at links k).descriptor (before.there k earlier other dots))
            (λ last.
            let at : k ≡ next = omega arith in
            let P : ℕ → Type 0 = λ q. (link_at links q).descriptor ≢ g.root
            → BeginsWithDots (searchable_bytes (disk_of g disk) (link_at links q).descriptor)
            (link_at links q).descriptor (link_at links q).directory → get_or new (link_at links q).descriptor
            false ≡ true in
            subst P (sym at) marks.there other dots)
            (cases_lt k next);
      }

  marked_of_parent : (links : List Link) (dotted : List Bool) (next n p : ℕ) → length links ≤ next
      → AreLinks (disk_of g disk) links → AreDottedBy g disk links dotted next → IsNumber g n
      → BeginsWithDots (searchable_bytes (disk_of g disk) n) n p → IsParent g (searchable_bytes (disk_of g disk)) n p
      → get_or dotted n false ≡ true
  marked_of_parent links dotted next n p all are by number dots (of_root n_root p_root) =
      let P : ℕ → Type 0 = λ m. BeginsWithDots (searchable_bytes (disk_of g disk) m) m p in
      let Q : ℕ → Type 0 = λ m. BeginsWithDots (searchable_bytes (disk_of g disk) g.root) g.root m in
      ap (λ m. get_or dotted m false) n_root ∙ by.at_root (subst Q p_root (subst P n_root dots))
  marked_of_parent links dotted next n p all are by number dots (of_other {i = i} other link) =
      let c = are.all p i n link number in
      let whole : Link = record { directory = p; entry = i; descriptor = n } in
      let is : link_at links c.0 ≡ whole = get_or_default links c.0 (record { directory = 0; entry = 0; descriptor = 0 }) whole c.1 ∙ c.2 in
      let P : Link → Type 0 = λ l. l.descriptor ≢ g.root → BeginsWithDots (searchable_bytes (disk_of g disk) l.descriptor) l.descriptor l.directory → get_or dotted l.descriptor false ≡ true in
      subst P is (by.there c.0 (omega (arith, c.1))) other dots

  marked_of_dots : (links : List Link) (dotted : List Bool) (next n : ℕ) → length links ≤ next
      → AreLinks (disk_of g disk) links → AreDottedBy g disk links dotted next → IsNumber g n
      → HasDots g (searchable_bytes (disk_of g disk)) n → get_or dotted n false ≡ true
  marked_of_dots links dotted next n all are by number (self_first {p = p} one two parent) =
      marked_of_parent links dotted next n p all are by number (inl (one, two)) parent
  marked_of_dots links dotted next n all are by number (parent_first {p = p} one two parent) =
      marked_of_parent links dotted next n p all are by number (inr (one, two)) parent

  pub dotted_are : (links : List Link) (dotted : List Bool) (next : ℕ) → length links ≤ next
      → AreLinks (disk_of g disk) links → AreDottedBy g disk links dotted next → AreDotted (disk_of g disk) dotted
  dotted_are links dotted next all are by = record {
    size = by.size;
    only = by.only;
    there = λ n number dots. marked_of_dots links dotted next n all are by number dots;
  }

  -- the least of all
  pub least_without : (found : List ℕ) (i : ℕ) (least : Option ℕ) → IsListOfReached (disk_of g disk) found → i ≡ length found
      → IsLeast (Before (λ k. IsWithoutDots (disk_of g disk) (get_or found k 0)) i) least
      → IsLeastBreach (disk_of g disk) 7 least
  least_without found i least are all is =
      least_along (λ s. (n : ℕ) × (has found n ≡ true) × IsWithoutDots (disk_of g disk) n s) (Breaks (disk_of g disk) 7)
      (λ s h. let P : ℕ → Type 0 = λ n. Breaks (disk_of g disk) 7 n in subst P (sym h.2.0) (no_dots ((are h.0).0 h.1) h.2.1.0 h.2.1.1))
      (λ s b. let f = dots_of g disk s b in (s, (are s).1 f.0, (refl, (f.1, f.2))))
      least (least_in_list (IsWithoutDots (disk_of g disk)) found i all least is)

-- a file that is found has a number of the volume
pub file_after : (image : IdentifiedImage) (files : List FoundFile) (k : ℕ) (file : FoundFile) → AreFiles image files → k < length files → file ≡ get_or files k file → 1 ≤ file.number
file_after image files k file are low at = (number_reached image file.number (file_reached image files k file are low at)).after

-- the descriptor of a link, marked
pub marks_one : (contents : List ℕ) (root : ℕ) (link : Link) (old : List Bool) → link.descriptor < length old
    → link.descriptor ≢ root → BeginsWithDots contents link.descriptor link.directory → MarksDots contents root link
    old (set old link.descriptor true)
marks_one contents root link old low other dots =
    let d = link.descriptor in
    record {
      size = length-set old d true;
      kept = λ n marked. ⊎_elim (λ same. ap (λ k. get_or (set old d true) k false) same ∙ get_or-set_same old d true
          false low) (λ apart. get_or-set_other old d n true false apart ∙ marked) (cases_eq n d);
      only = λ n marked. ⊎_elim (λ same. inr (same, other, dots)) (λ apart. inl (sym (get_or-set_other old d n true false apart) ∙ marked)) (cases_eq n d);
      there = λ is_other begins. get_or-set_same old d true false low;
    }

-- and so is one that a link names
pub number_linked : (g : Geometry) (disk : ℕ → List ℕ) (links : List Link) (k : ℕ) → AreLinks (disk_of g disk) links → k < length links → IsNumber g (link_at links k).descriptor
number_linked g disk links k are low =
    (are.each (link_at links k) (k, low, get_or_default links k (link_at links k) (record { directory = 0; entry = 0; descriptor = 0 }) low)).1

-- the marks decide
pub dots_decided : (g : Geometry) (disk : ℕ → List ℕ) (dotted : List Bool) → AreDotted (disk_of g disk) dotted → AreDotsDecided (disk_of g disk)
dots_decided g disk dotted are = λ n number. ⊎_elim
    (λ marked. inl (are.only n marked))
    (λ not_marked. inr (λ dots. false≢true (sym not_marked ∙ are.there n number dots)))
    (cases_Bool (get_or dotted n false))
