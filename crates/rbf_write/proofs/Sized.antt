-- A file that is made longer: what the call answers is what the laying of no bytes at its new end answers.
use Rattle.std.proofs.Common.{◌≡◌, ℕ, ◌+◌, ◌-◌, ◌<◌, ◌≤◌, max, Bool, true, false, not, ◌==◌, ◌&&◌, Option, Some, None, IsSome, Result, Ok, Err, List, [], length, refl, sym, ap, ◌∙◌, subst, inr, arith, eqb-true}
use Rattle.std.specs.Prelude.{if◌then◌else◌, nat_lt}
use Rattle.std.proofs.lemmas.Bool.{both_ways, cond-true, cond-false, false_from_ne_true, ltb-true, lt-ltb}
use Rattle.std.proofs.lemmas.List.{take_all}
use Rattle.os9_base.specs.declared.registers.TimePacket.{TimePacket}
use Rattle.rbf_model.specs.Geometry.{Geometry, image_geometry, sector}
use Rattle.rbf_model.specs.Segments.{sectors_of, has}
use Rattle.rbf_model.specs.File.{DiskFile}
use Rattle.rbf_model.specs.Space.{is_marked}
use Rattle.rbf_model.specs.Volume.{DiskVolume}
use Rattle.rbf_model.proofs.Owners.{cluster_positive}
use Rattle.rbf_change.specs.Calls.{cluster_size, is_free_in, free_total, replaced, minute_of, lengthened_file, stays, lengthens}
use Rattle.rbf_change.specs.Contents.{extended, resized, sector_count}
use Rattle.rbf_change.specs.Growth.{with_clusters, clusters_needed, IsChoice, IsOneTooMany}
use Rattle.rbf_change.specs.Faults.{MayLose, IsWriteFront, none, sector as front_sector, end as front_end, with_front, SizeEnds}
use Rattle.rbf_change.specs.Faults as ends
use Rattle.rbf_change.proofs.LawfulWrites.{shape-image}
use Rattle.rbf_access.specs.declared.faults.FileFault.{FileFault}
use Rattle.rbf_access.specs.declared.faults.FileFault.TheVariants.{Device, NoCluster, TooManyRuns}
use Rattle.rbf_access.specs.Drive.{DriveCounts, MovesCounts}
use Rattle.rbf_access.specs.Faults.{file_fault}
use Rattle.rbf_access.specs.Mounted.{RepresentsVolume}
use Rattle.rbf_access.proofs.Counting.{counts_then}
use Rattle.rbf_access.proofs.ReadFile.{room_for}
use Rattle.rbf_write.proofs.FilledFile.{put_same_file}
use Rattle.rbf_write.specs.Laying.{Laying, laid_contents, laid_file, laying_end, laying_needs, IsTidyChange, IsTidyStop, AnswersLaying}
use Rattle.rbf_write.specs.Outcomes.{AreMarked, laying_calls}
use Rattle.rbf_write.specs.Sizes.{Sizing, size_needs, giving_up, given_up, zeroed_segments, IsTidySize, IsFileSized, AnswersSize, giving_calls, size_calls}
use Rattle.rbf_write.proofs.Contents.{put_none, length-extended}
use Rattle.rbf_write.proofs.Laid.{same_volume, no_clusters}
use Rattle.rbf_write.proofs.Whole.{nothing_changed}

pub tidy_size : (before after : Option (List ℕ)) (n : ℕ) (segments : List (ℕ × ℕ)) (size : ℕ) (gone : ℕ → Bool)
    → ((c : ℕ) → gone c ≡ false) → IsTidyChange before after n segments size → IsTidySize before after n segments size gone
tidy_size before after n segments size gone none_gone tidy = record {
  image = tidy.image;
  now = tidy.now;
  was = tidy.was;
  is = tidy.is;
  others = tidy.others;
  behind = tidy.behind;
  map_end = λ c past. tidy.map_end c past ∙ ap (λ t. is_marked (sector tidy.image) c && not t) (sym (none_gone c));
  list = tidy.list;
}

-- no bytes have no front
no_front : (size at count : ℕ) → IsWriteFront size at [] count → count ≡ 0
no_front size at _ none = refl
no_front size at _ (front_sector few below whole) = absurd (omega arith)
no_front size at _ (front_end few there) = absurd (omega arith)

module _ (before : Option (List ℕ)) (v : DiskVolume) (old : DiskFile) (on : RepresentsVolume before v) (sizing : Sizing) (is : v.files sizing.number ≡ Some old) where
  abbrev n : ℕ
  n = sizing.number

  abbrev k : ℕ
  k = cluster_size v

  positive : 1 ≤ k
  positive = subst (λ (g : Geometry). 1 ≤ g.cluster) (sym (shape-image on.image v on.vol)) (cluster_positive (image_geometry on.image).cluster on.vol.sound.shape.header.clusters)

  none_given_up : length old.contents ≤ sizing.size → (c : ℕ) → giving_up v old sizing c ≡ false
  none_given_up least c =
      cond-false (nat_lt sizing.size (length old.contents)) (given_up v old sizing c) false
      (false_from_ne_true (nat_lt sizing.size (length old.contents)) (λ h. let low = ltb-true sizing.size (length old.contents) h in absurd (omega arith)))

  -- the size stays
  pub size_stays : length old.contents ≡ sizing.size → (after : Option (List ℕ)) → after ≡ before → IsFileSized v old sizing before after
  size_stays same after kept =
      let room = room_for before v on n old is in
      let missing : sector_count sizing.size - length (sectors_of old.segments) ≡ 0 = omega arith in
      let none_needed : size_needs v old sizing ≡ 0 = no_clusters k (sector_count sizing.size - length (sectors_of old.segments)) positive missing in
      record {
        enough = omega arith;
        volume = v;
        on = record { image = on.image; is = kept ∙ on.is; vol = on.vol };
        sets = record {
          old = old;
          new = old;
          is = is;
          changed = stays same;
          volume = ap (λ fs. record { ident = v.ident; files = fs; lost = v.lost; rest = v.rest }) (sym (put_same_file v.files n old is));
        };
        tidy =
            tidy_size before after n (zeroed_segments old sizing old.segments) sizing.size (giving_up v old sizing)
            (none_given_up (omega arith)) (nothing_changed before after v on kept n
            (zeroed_segments old sizing old.segments) sizing.size);
        same = λ stays_so. kept;
      }

  -- a fault at the descriptor's read
  pub unread_ends : (after : Option (List ℕ)) (fault : FileFault) → IsSome (file_fault {A = Unit {0}} (Err fault)) → after ≡ before → AnswersSize v old sizing before after (Err fault)
  unread_ends after NoCluster is_fault same = absurd (both_ways false refl is_fault)
  unread_ends after TooManyRuns is_fault same = absurd (both_ways false refl is_fault)
  unread_ends after (Device m) is_fault same = record {
    volume = v;
    on = record { image = on.image; is = same ∙ on.is; vol = on.vol };
    ends = ends.before refl;
    tidy = same;
  }

  -- the file is made longer
  module _ (longer : length old.contents < sizing.size) where
    abbrev laying : Laying
    laying = record { number = sizing.number; at = sizing.size; bytes = []; now = sizing.now }

    contents_are : laid_contents old.contents laying ≡ resized old.contents sizing.size
    contents_are =
        let size = length-extended old.contents sizing.size in
        put_none (extended old.contents sizing.size) sizing.size ∙ sym (take_all sizing.size (extended old.contents sizing.size) (omega arith))

    size_is : length (laid_contents old.contents laying) ≡ sizing.size
    size_is =
        let size = length-extended old.contents sizing.size in
        ap length (put_none (extended old.contents sizing.size) sizing.size) ∙ omega arith

    end_is : laying_end laying ≡ sizing.size
    end_is = omega arith

    needs_are : laying_needs v old laying ≡ size_needs v old sizing
    needs_are = ap (clusters_needed k old.segments) size_is

    file_is : (segments : List (ℕ × ℕ)) → laid_file old laying segments ≡ lengthened_file old sizing.size sizing.now segments
    file_is segments =
        let dated : (if length (laid_contents old.contents laying) == length old.contents then old.modified else minute_of sizing.now) ≡ minute_of sizing.now =
        cond-false (length (laid_contents old.contents laying) == length old.contents) old.modified (minute_of sizing.now)
        (false_from_ne_true (length (laid_contents old.contents laying) == length old.contents)
        (λ h. let same = eqb-true (length (laid_contents old.contents laying)) (length old.contents) h in let
        size = size_is in absurd (omega arith))) in
        ap (λ m. record old { contents = laid_contents old.contents laying; segments = segments; modified = m }) dated
        ∙ ap (λ c. record old { contents = c; segments = segments; modified = minute_of sizing.now }) contents_are

    pub longer_answers : (after : Option (List ℕ)) (result : Result (Unit {0}) FileFault) → AnswersLaying v old laying before after result → AnswersSize v old sizing before after result
    longer_answers after (Ok done) laid = record {
      enough = subst (λ m. m ≤ free_total v) needs_are laid.enough;
      volume = replaced v n (Some (laid_file old laying (with_clusters k old.segments laid.gained)));
      on = laid.on;
      sets = record {
        old = old;
        new = laid_file old laying (with_clusters k old.segments laid.gained);
        is = is;
        changed = lengthens longer (record {
          gained = laid.gained;
          choice = subst (λ s. IsChoice k (is_free_in v) old.segments s laid.gained) size_is laid.choice;
          file = file_is (with_clusters k old.segments laid.gained);
        });
        volume = refl;
      };
      tidy = subst (λ xs. IsTidySize before after n xs sizing.size (giving_up v old sizing))
          (sym (cond-true (nat_lt (length old.contents) sizing.size) (with_clusters k old.segments laid.gained) [] (lt-ltb (length old.contents) sizing.size longer)))
          (tidy_size before after n (with_clusters k old.segments laid.gained) sizing.size (giving_up v old sizing) (none_given_up (omega arith))
          (subst (λ e. IsTidyChange before after n (with_clusters k old.segments laid.gained) e) end_is laid.tidy));
      same = λ stays_so. absurd (omega arith);
    }
    longer_answers after (Err (Device m)) laid =
        let choice : IsChoice k (is_free_in v) old.segments sizing.size laid.taken = subst (λ s. IsChoice k (is_free_in v) old.segments s laid.taken) size_is laid.choice in
        let nothing : laid.count ≡ 0 = no_front (length old.contents) sizing.size laid.count laid.front in
        let lose : MayLose (replaced v n (Some (with_front old sizing.size [] 0))) laid.left (has laid.taken) =
        subst (λ c. MayLose (replaced v n (Some (with_front old sizing.size [] c))) laid.left (has laid.taken)) nothing laid.lose in
        record {
          volume = laid.left;
          on = laid.on;
          ends = ends.longer (record {
            old = old;
            is = is;
            longer = longer;
            taken = laid.taken;
            planned = inr choice;
            volume = subst (λ x. MayLose x laid.left (has laid.taken)) (same_volume before v on laying old is) lose;
          });
          tidy = (choice, subst (λ e. IsTidyStop before after n (with_clusters k old.segments laid.taken) e) end_is laid.tidy);
        }
    longer_answers after (Err NoCluster) laid = record { few = subst (λ m. free_total v < m) needs_are laid.few; media_kept = laid.media_kept }
    longer_answers after (Err TooManyRuns) laid = record {
      enough = subst (λ m. m ≤ free_total v) needs_are laid.enough;
      chosen = laid.chosen;
      full = subst (λ s. IsOneTooMany k (is_free_in v) old.segments s laid.chosen) size_is laid.full;
      media_kept = laid.media_kept;
    }

-- a loaded file that is made longer
module _ (before mid : Option (List ℕ)) (n m size : ℕ) (now : TimePacket) (same : mid ≡ before) (number : m ≡ n) where
  pub sized_answers : (after : Option (List ℕ)) (result : Result (Unit {0}) FileFault) (v : DiskVolume)
      (file : DiskFile) → RepresentsVolume before v → v.files n ≡ Some file → length file.contents < size
      → ((w : DiskVolume) (f : DiskFile) → RepresentsVolume mid w → w.files m ≡ Some f → AnswersLaying w f (record { number = m; at = size; bytes = []; now = now }) mid after result)
      → AnswersSize v file (record { number = n; size = max size (length file.contents); now = now }) before after result
  sized_answers after result v file on is longer answers =
      let there : v.files m ≡ Some file = subst (λ i. v.files i ≡ Some file) (sym number) is in
      let laid = answers v file (record { image = on.image; is = same ∙ on.is; vol = on.vol }) there in
      let most : size ≡ max size (length file.contents) = omega arith in
      subst (λ s. AnswersSize v file (record { number = n; size = s; now = now }) before after result) most
      (longer_answers before v file on (record { number = n; size = size; now = now }) is longer after result
      (subst (λ i. AnswersLaying v file (record { number = i; at = size; bytes = []; now = now }) before after result) number
      (subst (λ b. AnswersLaying v file (record { number = m; at = size; bytes = []; now = now }) b after result) same laid)))

  pub sized_calls : (after : Option (List ℕ)) (result : Result (Unit {0}) FileFault) (f : Option ℕ) (s t u : DriveCounts) (v : DiskVolume) (file : DiskFile)
      → RepresentsVolume before v → v.files n ≡ Some file → length file.contents < size
      → MovesCounts None 1 s t
      → ((w : DiskVolume) (g : DiskFile) → RepresentsVolume mid w → w.files m ≡ Some g → (marks : ℕ) → AreMarked w g m after result marks → MovesCounts f (laying_calls w g marks size (size + 0)) t u)
      → (marks : ℕ) → AreMarked v file n after result marks → MovesCounts f (size_calls v file marks (record { number = n; size = max size (length file.contents); now = now })) s u
  sized_calls after result f s t u v file on is longer one calls marks are =
      let there : v.files m ≡ Some file = subst (λ i. v.files i ≡ Some file) (sym number) is in
      let end : size + 0 ≡ size = omega arith in
      let laid : MovesCounts f (laying_calls v file marks size size) t u =
      subst (λ e. MovesCounts f (laying_calls v file marks size e) t u) end
      (calls v file (record { image = on.image; is = same ∙ on.is; vol = on.vol }) there marks (subst (λ i. AreMarked v file i after result marks) (sym number) are)) in
      let most : size ≡ max size (length file.contents) = omega arith in
      let sizing : Sizing = record { number = n; size = size; now = now } in
      let all : size_calls v file marks sizing ≡ 1 + laying_calls v file marks size size =
      cond-true (nat_lt (length file.contents) size) (1 + laying_calls v file marks size size)
      (if nat_lt size (length file.contents) then 2 + giving_calls v file sizing else 1)
      (lt-ltb (length file.contents) size longer) in
      subst (λ z. MovesCounts f (size_calls v file marks (record { number = n; size = z; now = now })) s u) most
      (subst (λ c. MovesCounts f c s u) (sym all) (counts_then f 1 (laying_calls v file marks size size) s t u one
      laid))

-- where the size stays, one call has been made at most
pub stays_calls : (v : DiskVolume) (file : DiskFile) (marks : ℕ) (sizing : Sizing) → 1 ≤ size_calls v file marks sizing
stays_calls v file marks sizing =
    least (nat_lt (length file.contents) sizing.size) (nat_lt sizing.size (length file.contents)) (laying_calls v file marks sizing.size sizing.size) (giving_calls v file sizing)
  where
    least : (a b : Bool) (x y : ℕ) → 1 ≤ (if a then 1 + x else (if b then 2 + y else 1))
    least true b x y = omega arith
    least false true x y = omega arith
    least false false x y = omega arith
