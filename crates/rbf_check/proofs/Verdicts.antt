-- The least fault, and what holds where there is none.
use Rattle.std.proofs.Common.{◌≡◌, ◌⊎◌, ℕ, ◌+◌, ◌*◌, ◌/◌, ◌<◌, ◌≤◌, List, get_or, Option, Some, None, refl, sym, ◌∙◌, subst, inl, inr, ⊎_elim, arith, ap}
use Rattle.std.specs.Prelude.{Result, Ok, Err, MatchOption, IfErr, IsErrAnd}
use Rattle.std.proofs.lemmas.Bool.{cases_lt, cases_eq, cases_Bool}
use Rattle.std.proofs.lemmas.Option.{slice_get-get_or}
use Rattle.rbf_model.specs.Disk.{disk_of}
use Rattle.rbf_check.specs.declared.faults.CheckError.{CheckError}
use Rattle.rbf_check.specs.declared.faults.CheckError.TheVariants.{Fault, OutOfMemory}
use Rattle.rbf_model.specs.Fields.{directory_entry, entry_name_field, descriptor_field, segments_field, size_field}
use Rattle.rbf_model.specs.Geometry.{Geometry, IsNumber, IsHeader, HasMap, HasHeader, image_geometry, map_sectors, sector}
use Rattle.rbf_model.specs.File.{file_at, is_directory, is_directory_size, has_room}
use Rattle.rbf_model.specs.Space.{is_marked, owned}
use Rattle.rbf_model.specs.Tree.{HasEntry, HasEntryNames}
use Rattle.rbf_model.specs.Faults.{Breaks, IsFault, ImageBreaks}
use Rattle.rbf_model.specs.Search.{IsReachedOn, searchable_bytes}
use Rattle.rbf_model.specs.Keeps.{Keeps}
use Rattle.rbf_model.specs.Faults.Breaks.{bad_number, bad_segment, bad_map, unmarked, used_twice, shared, no_room, no_root, bad_size, no_dots, bad_name, same_name, named_twice, named_root}
use Rattle.rbf_model.specs.Faults.ImageBreaks.{bad_header, breaks}
use Rattle.rbf_model.proofs.Keeps.{number_of_reached}
use Rattle.rbf_sector.specs.Ident.{geometry_of}
use Rattle.rbf_sector_rules.specs.declared.image.IdentifiedImage.{IdentifiedImage}
use Rattle.rbf_sector_rules.specs.Least.{IsLeastBreach}
use Rattle.rbf_check.specs.Dots.{AreDotsDecided}
use Rattle.rbf_check.specs.Verdict.{KeepsBefore, IsLeastFault, IsLeastError, IsErrorOf}
use Rattle.rbf_sector_rules.proofs.Owned.{lie_within}
use Rattle.rbf_sector_rules.proofs.Options.{none_some, some_same}

-- an error that is handed on as it is
pub handed_on : {T : Type 0} (r : Result T CheckError) (e : CheckError) (P : CheckError → Type 0) → IsErrAnd r (λ y. y ≡ e) → P e → IfErr r P
handed_on (Ok x) e P same h = tt
handed_on (Err y) e P same h = subst P (sym same) h

module _ (g : Geometry) (disk : ℕ → List ℕ) where
  rule_positive : {rule lsn : ℕ} → Breaks (disk_of g disk) rule lsn → 1 ≤ rule
  rule_positive (bad_map bad) = omega arith
  rule_positive (bad_number a b c) = omega arith
  rule_positive (bad_segment a b c) = omega arith
  rule_positive (unmarked a b c) = omega arith
  rule_positive (used_twice a b c d) = omega arith
  rule_positive (shared a b c d f h k) = omega arith
  rule_positive (no_room a b) = omega arith
  rule_positive (no_root a) = omega arith
  rule_positive (bad_size a b c) = omega arith
  rule_positive (no_dots a b c) = omega arith
  rule_positive (bad_name a b) = omega arith
  rule_positive (same_name a b) = omega arith
  rule_positive (named_twice a b c d) = omega arith
  rule_positive (named_root a) = omega arith

  pub none_first : KeepsBefore (disk_of g disk) 1
  none_first q at low b = let positive = rule_positive b in absurd (omega arith)

  pub none_next : (rule next : ℕ) → next ≡ rule + 1 → KeepsBefore (disk_of g disk) rule → ((at : ℕ) → Breaks (disk_of g disk) rule at → ⊥) → KeepsBefore (disk_of g disk) next
  none_next rule next is before here q at low b = ⊎_elim
      (λ less. before q at less b)
      (λ more. let P : ℕ → Type 0 = λ r. Breaks (disk_of g disk) r at in let same : q ≡ rule = omega arith in here at (subst P same b))
      (cases_lt q rule)

  pub least_at : (rule lsn : ℕ) → KeepsBefore (disk_of g disk) rule → IsLeastBreach (disk_of g disk) rule (Some lsn) → IsLeastFault (disk_of g disk) rule lsn
  least_at rule lsn before is = record {
    broken = is.0;
    least = λ other at b. ⊎_elim
        (λ less. absurd (before other at less b))
        (λ more. ⊎_elim
        (λ above. inl above)
        (λ not_above. let P : ℕ → Type 0 = λ r. Breaks (disk_of g disk) r at in let same : other ≡ rule = omega arith in inr (sym same, is.1 at (subst P same b)))
        (cases_lt rule other))
        (cases_lt other rule);
  }

  -- a rule that is not broken
  abbrev pub NotBroken : ℕ → Type 0
  NotBroken rule = (at : ℕ) → Breaks (disk_of g disk) rule at → ⊥

  pub has_map : NotBroken 2 → HasMap g
  has_map kept =
      ⊎_elim
      (λ bad. absurd (kept 1 (bad_map (λ map. let bits = map.bits in absurd (omega arith)))))
      (λ bits. ⊎_elim
      (λ bad. absurd (kept 1 (bad_map (λ map. let fits = map.fits in absurd (omega arith)))))
      (λ fits. record { bits = bits; fits = fits })
      (cases_lt g.total (1 + map_sectors g)))
      (cases_lt (8 * g.map_bytes * g.cluster) g.total)

  pub not_broken : (rule : ℕ) (least : Option ℕ) → IsLeastBreach (disk_of g disk) rule least → least ≡ None → NotBroken rule
  not_broken rule least is none =
      let P : Option ℕ → Type 0 = λ o. IsLeastBreach (disk_of g disk) rule o in subst P none is

  -- a rule that is passed, and one that is not
  pub passed : (rule next : ℕ) (breach : Option ℕ) → next ≡ rule + 1 → KeepsBefore (disk_of g disk) rule
      → IsLeastBreach (disk_of g disk) rule breach → breach ≡ None → KeepsBefore (disk_of g disk) next
  passed rule next breach is before least none = none_next rule next is before (not_broken rule breach least none)

  pub stopped : (rule : ℕ) (breach : Option ℕ) (error : CheckError) → KeepsBefore (disk_of g disk) rule
      → IsLeastBreach (disk_of g disk) rule breach → MatchOption breach ⊥
      (λ lsn. error ≡ Fault (record { rule = rule; lsn = lsn })) → IsLeastError (disk_of g disk) error
  stopped rule None error before least is = absurd is
  stopped rule (Some lsn) error before least is =
      let P : CheckError → Type 0 = λ e. IsLeastError (disk_of g disk) e in subst P (sym is) (least_at rule lsn before least)

  rule_most : {rule lsn : ℕ} → Breaks (disk_of g disk) rule lsn → rule < 10
  rule_most (bad_map bad) = omega arith
  rule_most (bad_number a b c) = omega arith
  rule_most (bad_segment a b c) = omega arith
  rule_most (unmarked a b c) = omega arith
  rule_most (used_twice a b c d) = omega arith
  rule_most (shared a b c d f h k) = omega arith
  rule_most (no_room a b) = omega arith
  rule_most (no_root a) = omega arith
  rule_most (bad_size a b c) = omega arith
  rule_most (no_dots a b c) = omega arith
  rule_most (bad_name a b) = omega arith
  rule_most (same_name a b) = omega arith
  rule_most (named_twice a b c d) = omega arith
  rule_most (named_root a) = omega arith

  none_at_all : KeepsBefore (disk_of g disk) 10 → (q at : ℕ) → Breaks (disk_of g disk) q at → ⊥
  none_at_all before q at b = before q at (rule_most b) b

  option_cases : (o : Option (List ℕ)) → (o ≡ None) ⊎ ((name : List ℕ) × (o ≡ Some name))
  option_cases None = inl refl
  option_cases (Some name) = inr (name, refl)

  module _ (header : IsHeader g) (before : KeepsBefore (disk_of g disk) 10) (decided : AreDotsDecided (disk_of g disk)) where
    none : (q at : ℕ) → Breaks (disk_of g disk) q at → ⊥
    none = none_at_all before

    map_kept : HasMap g
    map_kept = has_map (λ at b. none 2 at b)

    number_kept : (d i : ℕ) → IsReachedOn (disk_of g disk) d → HasEntry (searchable_bytes (disk_of g disk) d) i
        → IsNumber g (descriptor_field (directory_entry (searchable_bytes (disk_of g disk) d) i))
    number_kept d i reached entry =
        let n = descriptor_field (directory_entry (searchable_bytes (disk_of g disk) d) i) in
        ⊎_elim
        (λ zero. absurd (none 1 d (bad_number reached entry (λ number. let after = number.after in absurd (omega arith)))))
        (λ after. ⊎_elim
        (λ below. record { after = after; below = below })
        (λ past. absurd (none 1 d (bad_number reached entry (λ number. let below = number.below in absurd (omega arith)))))
        (cases_lt n g.total))
        (cases_lt n 1)

    names_kept : (d : ℕ) → IsReachedOn (disk_of g disk) d → HasEntryNames (searchable_bytes (disk_of g disk) d)
    names_kept d reached i after entry =
        let field = entry_name_field (directory_entry (searchable_bytes (disk_of g disk) d) i) in
        let bad = λ (wrong : HasEntryNames (searchable_bytes (disk_of g disk) d) → ⊥). none 8 d (bad_name reached wrong) in
        ⊎_elim
        (λ missing. absurd (bad (λ names. let w = names i after entry in none_some w.0 field missing w.1)))
        (λ there. (
          there.0,
          there.1,
          record {
            not_self = λ is. bad (λ names. let w = names i after entry in w.2.not_self (some_same w.0 there.0 field w.1 there.1 ∙ is));
            not_parent = λ is. bad (λ names. let w = names i after entry in w.2.not_parent (some_same w.0 there.0 field w.1 there.1 ∙ is));
          },
        ))
        (option_cases field)

    pub keeps : Keeps (disk_of g disk)
    keeps = record {
      numbers = number_kept;
      segments = λ n reached. lie_within g disk header (λ lsn b. none 1 lsn b) map_kept n reached;
      map = map_kept;
      marks = λ n s reached used. ⊎_elim (λ marked. marked) (λ free. absurd (none 3 s (unmarked reached used free))) (cases_Bool (is_marked disk (s / g.cluster)));
      once = λ n reached i j d low high same.
          let xs = owned g n (file_at disk n) in
          let s = get_or xs i d in
          none 4 s (used_twice reached low (slice_get-get_or xs i d (omega arith)) (slice_get-get_or xs j d high ∙ ap Some (sym same)));
      apart = λ n m c one other has_one has_other. ⊎_elim
          (λ same. same)
          (λ differ. absurd (none 4 (c * g.cluster) (shared c one other differ has_one has_other refl)))
          (cases_eq n m);
      room = λ n reached. ⊎_elim (λ room. room) (λ wrong. absurd (none 5 n (no_room reached wrong))) (cases_Bool (has_room (segments_field (disk n)) (size_field (disk n))));
      root = ⊎_elim (λ directory. directory) (λ wrong. absurd (none 6 g.root (no_root wrong))) (cases_Bool (is_directory (file_at disk g.root)));
      sizes = λ n reached directory. ⊎_elim (λ size. size) (λ wrong. absurd (none 6 n (bad_size reached directory wrong))) (cases_Bool (is_directory_size (size_field (disk n))));
      dots = λ n reached directory. ⊎_elim (λ dots. dots)
          (λ wrong. absurd (none 7 n (no_dots reached directory wrong)))
          (decided n (number_of_reached g (searchable_bytes (disk_of g disk)) header reached));
      names = names_kept;
      different = λ d reached i j one other i_after j_after i_entry j_entry i_is j_is same. ⊎_elim
          (λ e. e)
          (λ differ. absurd (none 8 d (same_name reached (λ different. differ (different i j one other i_after j_after i_entry j_entry i_is j_is same)))))
          (cases_eq i j);
      named_once = λ d e i j n one other.
          let P : ℕ → Type 0 = λ m. IsNumber g m in
          let number : IsNumber g n = subst P one.names.descriptor (number_kept d i one.from one.names.entry) in
          ⊎_elim
          (λ d_e. ⊎_elim
          (λ i_j. (d_e, i_j))
          (λ differ. absurd (none 9 n (named_twice number one other (λ same. differ same.1))))
          (cases_eq i j))
          (λ differ. absurd (none 9 n (named_twice number one other (λ same. differ same.0))))
          (cases_eq d e);
      root_free = λ d i link. none 9 g.root (named_root link);
    }

-- an image without a header
header_first : (image : List ℕ) → (HasHeader image → ⊥) → (other at : ℕ) → ImageBreaks image other at → (1 < other) ⊎ ((1 ≡ other) × (0 ≤ at))
header_first image wrong other at (bad_header w) = inr (refl, omega arith)
header_first image wrong other at (breaks header b) = absurd (wrong header)

pub no_header : (image : List ℕ) → (HasHeader image → ⊥) → IsFault image 1 0
no_header image wrong = record { broken = bad_header wrong; least = header_first image wrong }

-- one with a header
module _ (image : IdentifiedImage) where
  fault_there : (g : Geometry) → image_geometry image.bytes.now ≡ g → (rule lsn : ℕ)
      → IsLeastFault (disk_of g (sector image.bytes.now)) rule lsn
      → IsLeastFault (disk_of (image_geometry image.bytes.now) (sector image.bytes.now)) rule lsn
  fault_there g same rule lsn fault =
      let P : Geometry → Type 0 = λ h. IsLeastFault (disk_of h (sector image.bytes.now)) rule lsn in
      subst P (sym same) fault

  least_image : (rule lsn : ℕ) → IsLeastFault (disk_of (image_geometry image.bytes.now) (sector image.bytes.now)) rule
      lsn → (other at : ℕ) → ImageBreaks image.bytes.now other at → (rule < other) ⊎ ((rule ≡ other) × (lsn ≤ at))
  least_image rule lsn fault other at (bad_header wrong) = absurd (wrong image.identified.header)
  least_image rule lsn fault other at (breaks header b) = fault.least other at b

  fault_is : (rule lsn : ℕ) → IsLeastFault (disk_of (geometry_of image.ident) (sector image.bytes.now)) rule lsn → IsFault image.bytes.now rule lsn
  fault_is rule lsn fault =
      let there = fault_there (geometry_of image.ident) image.identified.geometry rule lsn fault in
      record { broken = breaks image.identified.header there.broken; least = least_image rule lsn there }

  pub error_is : (error : CheckError) → IsLeastError (disk_of (geometry_of image.ident) (sector image.bytes.now)) error → IsErrorOf image.bytes.now error
  error_is (Fault fault) least = fault_is fault.rule fault.lsn least
  error_is OutOfMemory wanting = tt
