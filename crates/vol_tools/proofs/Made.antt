-- A file or a directory that is made by a path.
use Rattle.std.proofs.Common.{◌≡◌, ℕ, false, Option, Some, None, option_map, List, length, Result, Ok, Err, refl, sym, ap, ◌∙◌, subst, inl, inr, eq-eqb, ◌==◌}
use Rattle.std.proofs.lemmas.Bool.{cond-true, cond-false}
use Rattle.os9_base.specs.declared.registers.TimePacket.{TimePacket}
use Rattle.os9_base.specs.declared.errors.TheConstants.{E_BPNAM}
use Rattle.rbf_model.specs.File.{DiskFile, is_directory}
use Rattle.rbf_model.specs.Volume.{DiskVolume}
use Rattle.rbf_model.specs.Walk.{arrives}
use Rattle.rbf_change.specs.Names.{is_dots}
use Rattle.rbf_change.specs.NewFiles.{Plan}
use Rattle.rbf_access.specs.Mounted.{RepresentsVolume}
use Rattle.rbf_access.specs.declared.faults.FileFault.TheVariants as file
use Rattle.rbf_walk.specs.declared.error.DirError.{DirError}
use Rattle.rbf_walk.specs.declared.error.DirError.TheVariants.{NotAllowed, BadPath, NotFound, Exists, File}
use Rattle.rbf_entries.specs.Entering.{Entering, AnswersEntering, IsEnteredOn, EnteringIsRefused, EnteringStops, unchanged, took, refusal_of}
use Rattle.rbf_entries.specs.Creating.{request}
use Rattle.rbf_write.specs.Files.{HasDataFile}
use Rattle.vol_tools.specs.Names.{place}
use Rattle.vol_tools.specs.declared.place.Place.{Place}
use Rattle.vol_tools.specs.Numbers.{way_end, on_arrival, making_number, entering_number, refusal_number}
use Rattle.vol_tools.specs.Path.{place_of}
use Rattle.vol_tools.specs.Tool.{LeadsTo, file_attributes}
use Rattle.vol_tools.specs.Answers.{AnswersWay}
use Rattle.vol_tools.specs.Faults.{of_directory}
use Rattle.vol_tools.specs.Making.{Making, MadeOn, ToolMakingEnds, AnswersMaking, IsNewPlaceOf, new_file}
use Rattle.vol_tools.specs.declared.fault.ToolFault.{ToolFault}
use Rattle.vol_tools.specs.declared.fault.ToolFault.TheVariants.{Number, Device, OutOfMemory}
use Rattle.vol_tools.proofs.Ways.{stops_short, still}

module _ (making : Making) (path : List ℕ) (at : Place) (new_at : IsNewPlaceOf path at) (v : DiskVolume) where
  next : ℕ → Option ℕ
  next d = entering_number v at.name making.size (v.files d)

  number-is : making_number v making.size (place_of path) ≡ on_arrival (way_end v at.way.items) (λ d. entering_number v at.name making.size (v.files d))
  number-is =
      ap (making_number v making.size) new_at.is
      ∙ cond-false (is_dots at.name) (Some E_BPNAM) (on_arrival (way_end v at.way.items) (λ d. entering_number v at.name making.size (v.files d))) new_at.proper

  -- the way does not lead to a directory
  pub way-refuses : (old mid : Option (List ℕ)) (fault : ToolFault) → mid ≡ old → RepresentsVolume old v
      → AnswersWay (way_end v at.way.items) (Err fault) → AnswersMaking making path v old mid (Err fault)
  way-refuses old mid (Number n) same on h = (number-is ∙ stops_short (way_end v at.way.items) (λ d. entering_number v at.name making.size (v.files d)) n h, same)
  way-refuses old mid (Device n) same on h = record { volume = v; on = still old mid v same on; ends = inl refl }
  way-refuses old mid OutOfMemory same on h = absurd h

  -- the entry, in directory d
  module _ (d : ℕ) (dir : DiskFile) (there : v.files d ≡ Some dir) (way : way_end v at.way.items ≡ arrives d) where
    abbrev pub entering : Entering
    entering = record { directory = d; name = at.name; user = 0; execute = false; plan = making.plan d }

    leads : LeadsTo v path d at.name
    leads = record { place = place at; is = new_at.is; way = way; named = refl }

    module _ (sized : length (making.plan d 0).contents ≡ making.size) where
      entering-is : making_number v making.size (place_of path) ≡ option_map refusal_number (refusal_of v dir entering)
      entering-is =
          number-is
          ∙ ap (λ end. on_arrival end (λ n. entering_number v at.name making.size (v.files n))) way
          ∙ ap (entering_number v at.name making.size) there
          ∙ ap (λ n. entering_number v at.name n (Some dir)) (sym sized)

      module _ (old mid new : Option (List ℕ)) (same : mid ≡ old) (on : RepresentsVolume old v) where
        stopped : EnteringStops v dir entering mid new → ToolMakingEnds making path v new
        stopped (unchanged kept) = record { volume = v; on = still old new v (kept ∙ same) on; ends = inl refl }
        stopped (took it) = record {
          volume = it.left;
          on = record { image = it.now; is = it.is; vol = it.vol };
          ends = inr (entering-is ∙ ap (option_map refusal_number) it.allowed, record { directory = d; name = at.name; leads = leads; number = it.number; ends = it.ends });
        }

        pub entry-refuses : (e : DirError) → AnswersEntering v dir entering mid new (Err e) → AnswersMaking making path v old new (Err (of_directory e))
        entry-refuses NotAllowed r = (entering-is ∙ ap (option_map refusal_number) r.because, r.media_kept ∙ same)
        entry-refuses BadPath r = (entering-is ∙ ap (option_map refusal_number) r.because, r.media_kept ∙ same)
        entry-refuses NotFound r = absurd r
        entry-refuses Exists r = (entering-is ∙ ap (option_map refusal_number) r.because, r.media_kept ∙ same)
        entry-refuses (File (file.Device n)) r = stopped r.1
        entry-refuses (File file.NoCluster) r = (entering-is ∙ ap (option_map refusal_number) r.because, r.media_kept ∙ same)
        entry-refuses (File file.TooManyRuns) r = (entering-is ∙ ap (option_map refusal_number) r.because, r.media_kept ∙ same)

        pub entered : (n : ℕ) → AnswersEntering v dir entering mid new (Ok n) → AnswersMaking making path v old new (Ok n)
        entered n e = record {
          allowed = entering-is ∙ ap (option_map refusal_number) e.allowed;
          volume = e.after;
          on = record { image = e.now; is = e.is; vol = e.vol };
          directory = d;
          name = at.name;
          leads = leads;
          enters = e.enters;
        }

-- a new file is no directory
pub data_there : (v : DiskVolume) (dir : DiskFile) (d : ℕ) (name : List ℕ) (now : TimePacket) (old new : Option (List ℕ)) (n : ℕ)
    → IsEnteredOn v dir (request d name file_attributes 0 false now) old new n → HasDataFile new n
data_there v dir d name now old new n e =
    let both = e.enters.both in
    record {
      content = e.after;
      on = record { image = e.now; is = e.is; vol = e.vol };
      file = both.file;
      is = ap (λ (w : DiskVolume). w.files n) e.enters.volume ∙ cond-true (n == n) (Some both.file) _ (eq-eqb n n refl);
      not_directory = ap is_directory both.made.is;
    }
