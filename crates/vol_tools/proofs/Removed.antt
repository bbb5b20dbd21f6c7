-- A file that is deleted by its path.
use Rattle.std.proofs.Common.{◌≡◌, ℕ, false, Option, Some, None, List, [], Result, Ok, Err, refl, ap, ◌∙◌, inl, inr, OnErr, IsNone}
use Rattle.os9_base.specs.declared.registers.TimePacket.{TimePacket}
use Rattle.os9_base.specs.declared.errors.TheConstants.{E_BPNAM}
use Rattle.rbf_model.specs.File.{DiskFile}
use Rattle.rbf_model.specs.Volume.{DiskVolume}
use Rattle.rbf_model.specs.Walk.{arrives}
use Rattle.rbf_change.specs.Names.{deletion_end}
use Rattle.rbf_access.specs.Mounted.{RepresentsVolume}
use Rattle.rbf_access.specs.declared.faults.FileFault.TheVariants as file
use Rattle.rbf_walk.specs.Walk.{directory_fault}
use Rattle.rbf_walk.specs.declared.error.DirError.{DirError}
use Rattle.rbf_walk.specs.declared.error.DirError.TheVariants.{NotAllowed, BadPath, NotFound, Exists, File}
use Rattle.rbf_entries.specs.Deleted.{AnswersDeletion, DeletionStops, as_before, lost_now, IsDeletedBy}
use Rattle.vol_tools.specs.Names.{place}
use Rattle.vol_tools.specs.declared.place.Place.{Place}
use Rattle.vol_tools.specs.Numbers.{way_end, on_arrival, deleting_number, removing_number, remove_number}
use Rattle.vol_tools.specs.Path.{place_of}
use Rattle.vol_tools.specs.Refusals.{ToolMayLeave, halfway, unchanged}
use Rattle.vol_tools.specs.Tool.{remove, LeadsTo}
use Rattle.vol_tools.specs.UsesInTurn.{Use}
use Rattle.vol_tools.specs.Answers.{AnswersTool, AnswersWay, LeavesOn}
use Rattle.vol_tools.specs.Faults.{of_directory}
use Rattle.vol_tools.specs.declared.fault.ToolFault.{ToolFault}
use Rattle.vol_tools.specs.declared.fault.ToolFault.TheVariants.{Number, Device, OutOfMemory}
use Rattle.vol_tools.proofs.Ways.{stops_short, still}

module _ (path : List ℕ) (now : TimePacket) (v : DiskVolume) where
  abbrev use_ : Use
  use_ = record { tool = remove path; now = now }

  pub no_place : (old : Option (List ℕ)) → RepresentsVolume old v → remove_number v path ≡ Some E_BPNAM → AnswersTool {A = Unit {0}} use_ (λ _. []) v old old (Err (Number E_BPNAM))
  no_place old on h = record { volume = v; on = on; refuses = inl (h, refl); kept = λ _. refl }

  module _ (at : Place) (is : place_of path ≡ Some (place at)) where
    number-is : remove_number v path ≡ on_arrival (way_end v at.way.items) (λ d. deleting_number v at.name (v.files d))
    number-is = ap (removing_number v) is

    -- the way does not lead to a directory
    pub way-refuses : (old mid : Option (List ℕ)) (fault : ToolFault) → mid ≡ old → RepresentsVolume old v → AnswersWay (way_end v at.way.items) (Err fault)
        → AnswersTool {A = Unit {0}} use_ (λ _. []) v old mid (Err fault)
    way-refuses old mid (Number n) same on h = record {
      volume = v;
      on = still old mid v same on;
      refuses = inl (number-is ∙ stops_short (way_end v at.way.items) (λ d. deleting_number v at.name (v.files d)) n h, refl);
      kept = λ _. same;
    }
    way-refuses old mid (Device n) same on h = record { volume = v; on = still old mid v same on; may = unchanged refl }
    way-refuses old mid OutOfMemory same on h = absurd h

    module _ (d : ℕ) (dir : DiskFile) (there : v.files d ≡ Some dir) (way : way_end v at.way.items ≡ arrives d) where
      leads : LeadsTo v path d at.name
      leads = record { place = place at; is = is; way = way; named = refl }

      -- the number of the deletion is that of the tool
      number-here : (f : DiskFile) → v.files d ≡ Some f → remove_number v path ≡ on_arrival (deletion_end v.files f at.name 0 false) (λ n. None)
      number-here f here = number-is ∙ ap (λ end. on_arrival end (λ n. deleting_number v at.name (v.files n))) way ∙ ap (deleting_number v at.name) here

      module _ (old mid new : Option (List ℕ)) (same : mid ≡ old) (on : RepresentsVolume old v) where
        refused : (n : ℕ) → remove_number v path ≡ Some n → new ≡ mid → AnswersTool {A = Unit {0}} use_ (λ _. []) v old new (Err (Number n))
        refused n h kept = record { volume = v; on = still old new v (kept ∙ same) on; refuses = inl (h, refl); kept = λ _. kept ∙ same }

        stopped : DeletionStops v d at.name 0 false mid new → LeavesOn use_ v new
        stopped (as_before kept) = record { volume = v; on = still old new v (kept ∙ same) on; may = unchanged refl }
        stopped (lost_now {n = n} it) =
            let half = it.half in
            let allowed = number-here half.deletes.dir half.deletes.is ∙ ap (λ end. on_arrival end (λ n. None)) it.allowed in
            record {
              volume = half.left;
              on = record { image = half.now; is = half.is; vol = half.vol };
              may = halfway allowed (record {
                removed = half.after;
                removes = record { allowed = allowed; directory = d; name = at.name; number = n; leads = leads; deletes = half.deletes };
                file = half.file;
                there = half.there;
                lose = half.lose;
              });
            }

        pub deletion-refuses : (e : DirError) → AnswersDeletion (deletion_end v.files dir at.name 0 false) (Err e) → DeletionStops v d at.name 0 false mid new
            → (IsNone (directory_fault {A = Unit {0}} (Err e)) → new ≡ mid) → AnswersTool {A = Unit {0}} use_ (λ _. []) v old new (Err (of_directory e))
        deletion-refuses NotAllowed h stops kept = refused _ (number-here dir there ∙ ap (λ end. on_arrival end (λ n. None)) h) (kept refl)
        deletion-refuses BadPath h stops kept = absurd h
        deletion-refuses NotFound h stops kept = refused _ (number-here dir there ∙ ap (λ end. on_arrival end (λ n. None)) h) (kept refl)
        deletion-refuses Exists h stops kept = absurd h
        deletion-refuses (File (file.Device n)) h stops kept = stopped stops
        deletion-refuses (File file.NoCluster) h stops kept = absurd h
        deletion-refuses (File file.TooManyRuns) h stops kept = absurd h

        pub deleted : AnswersDeletion (deletion_end v.files dir at.name 0 false) (Ok tt) → IsDeletedBy v d at.name mid new → AnswersTool {A = Unit {0}} use_ (λ _. []) v old new (Ok tt)
        deleted h by =
            let it = by.is in
            record {
              volume = it.after;
              on = record { image = it.now; is = it.is; vol = it.vol };
              gives = (
                record {
                  allowed = number-here dir there ∙ ap (λ end. on_arrival end (λ n. None)) h.1;
                  directory = d;
                  name = at.name;
                  number = by.number;
                  leads = leads;
                  deletes = it.deletes;
                },
                refl,
              );
            }
