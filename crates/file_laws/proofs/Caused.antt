-- Why the parts of a step of a call on files refuse: the tests, the list that is read, and the walk.
use Rattle.std.proofs.Common.{◌≡◌, ◌⊎◌, ℕ, not, Bool, true, false, Option, Some, None, Result, Ok, Err, List, is_none, refl, subst}
use Rattle.std.proofs.lemmas.Bool.{false≢true}
use Rattle.os9_base.specs.declared.errors.TheConstants.{E_BPADDR, E_BPNAM, E_FNA, E_MNF, E_PNNF}
use Rattle.os9_base.specs.declared.registers.Regs.{Regs}
use Rattle.os9_outer.specs.TerminalState.{TerminalState}
use Rattle.os9_base.specs.declared.name_fault.NameFault.{NameFault}
use Rattle.os9_base.specs.declared.name_fault.NameFault.TheVariants.{Unreadable, NoName}
use Rattle.rbf_model.specs.Volume.{DiskVolume}
use Rattle.rbf_model.specs.Walk.{WalkEnd, arrives, not_allowed, not_found, walk}
use Rattle.io_model.specs.Attempts.{HasIoEffect}
use Rattle.io_model.specs.PathList.{PathList}
use Rattle.io_model.specs.Step.{IoEffect, answers, fails}
use Rattle.file_rules.specs.Files.{Files, volume_at}
use Rattle.file_rules.specs.Step.{refused, reaches, needs, refuses, FileStep, Deed, leaves_so, as_io, changes, deed_of, done}
use Rattle.file_rules.specs.Route.{Found, along, list_of, reads_list as reads_list_of, walk_ends, walks}
use Rattle.lock_model.specs.declared.place.FilePlace.{FilePlace}
use Rattle.file_laws.specs.Causes.{FileCause, FindsNamedFile, FileBytesUnreadable, ListHasRoute, WalksOnVolume, bad_address, finds_nothing, may_not_pass, no_name, no_volume, not_there, reads_list}
use Rattle.file_laws.specs.Claims.{MadePathCall}
use Rattle.file_laws.specs.Devices.{IsOnNoFile}
use Rattle.file_laws.proofs.Splits.{IsDeviceStep, not-refused}

pub is_nothing : {X : Type 0} (o : Option X) → is_none o ≡ true → o ≡ None
is_nothing None is = refl
is_nothing (Some x) is = absurd (false≢true is)

pub not-is : (b : Bool) → not b ≡ true → b ≡ false
not-is true is = absurd (false≢true is)
not-is false is = refl

same-fails : (n m : ℕ) → fails n ≡ fails m → n ≡ m
same-fails n m is = cc

module _ (m : MadePathCall) where
  -- why what is done is refused
  abbrev pub Caused : Deed → Type 0
  Caused (leaves_so it) = (number : ℕ) → it.end ≡ fails number → FileCause m number
  Caused (as_io step) =
      IsDeviceStep m.call m.asker m.files m.terms step × IsOnNoFile m.call m.asker m.files m.terms ⊎
      ((it : IoEffect) (old new : List TerminalState) (number : ℕ) → HasIoEffect step m.asker.caller m.files.io it old
      new → it.end ≡ fails number → FileCause m number)
  Caused (changes it) = (n : ℕ) → (regs : Regs) × ((it.effect n).end ≡ answers regs)

  abbrev pub StepCaused : FileStep → Type 0
  StepCaused step = Caused (deed_of step m.files)

  pub caused-refused : (number : ℕ) → FileCause m number → StepCaused (refused number)
  caused-refused number cause = λ other is. subst (FileCause m) (same-fails number other is) cause

  pub caused-done : (regs : Regs) (files : Files) → StepCaused (done regs files)
  caused-done regs files = λ number is. absurd (not-refused regs number is)

  pub caused-needs : {A : Type 0} (o : Option A) (number : ℕ) (next : A → FileStep) → (o ≡ None → FileCause m number) → ((a : A) → o ≡ Some a → StepCaused (next a)) → StepCaused (needs o number next)
  caused-needs None number next cause holds = caused-refused number (cause refl)
  caused-needs (Some a) number next cause holds = holds a refl

  pub caused-refuses : (test : Bool) (number : ℕ) (next : FileStep) → (test ≡ true → FileCause m number) → StepCaused next → StepCaused (refuses test number next)
  caused-refuses true number next cause holds = caused-refused number (cause refl)
  caused-refuses false number next cause holds = holds

  pub caused-tests : (test : Bool) (number : ℕ) (next : FileStep) → (test ≡ true → FileCause m number) → (test ≡ false → StepCaused next) → StepCaused (refuses test number next)
  caused-tests true number next cause holds = caused-refused number (cause refl)
  caused-tests false number next cause holds = holds refl

  -- ---- the list

  module _ (reads : reads_list m.call ≡ true) (unreadable : list_of m.asker ≡ Err Unreadable → FileBytesUnreadable m.call m.asker m.files) where
    pub caused-list : (read : Result PathList NameFault) → list_of m.asker ≡ read → (test : FileStep → FileStep)
        (next : PathList → FileStep) → ((step : FileStep) → StepCaused step → StepCaused (test step))
        → ((list : PathList) → list_of m.asker ≡ Ok list → StepCaused (next list))
        → StepCaused (reads_list_of read test next)
    caused-list (Ok list) is test next tests holds = tests (next list) (holds list is)
    caused-list (Err Unreadable) is test next tests holds = caused-refused E_BPADDR (bad_address refl (unreadable is))
    caused-list (Err NoName) is test next tests holds =
        tests (refused E_BPNAM) (caused-refused E_BPNAM (no_name refl reads is))

  -- ---- the walk

  module _ (execute : Bool) (names steps : List (List ℕ)) (walks_so : (place : FilePlace) (v : DiskVolume)
      (end : WalkEnd) → ListHasRoute m (along place names) → volume_at m.files place.drive ≡ Some v
      → walk v.files m.asker.user execute place.number steps ≡ end → WalksOnVolume m names place v end) where
    pub caused-walks : (place : FilePlace) (next : Found → FileStep) → ListHasRoute m (along place names)
        → ((found : Found) → FindsNamedFile m names found → StepCaused (next found))
        → StepCaused (walks m.asker m.files execute place steps next)
    caused-walks place next leads holds =
        caused-needs (volume_at m.files place.drive) E_MNF (λ v. reaches place.drive (walk_ends place.drive v (walk v.files m.asker.user execute place.number steps) next))
        (λ none. no_volume names place refl leads none)
        (λ v is. by_end v is (walk v.files m.asker.user execute place.number steps) refl)
      where
        by_end : (v : DiskVolume) → volume_at m.files place.drive ≡ Some v → (end : WalkEnd)
            → walk v.files m.asker.user execute place.number steps ≡ end
            → StepCaused (walk_ends place.drive v end next)
        by_end v mounted (arrives n) is =
            caused-needs (v.files n) E_PNNF (λ file. next (record { place = record { drive = place.drive; number = n }; volume = v; file = file }))
            (λ none. not_there names place v n refl (walks_so place v (arrives n) leads mounted is) none)
            (λ file there. holds (record {
              place = record { drive = place.drive; number = n };
              volume = v;
              file = file;
            }) (record {
              start = place.number;
              walks = walks_so place v (arrives n) leads mounted is;
              there =
                  there;
            }))
        by_end v mounted not_allowed is =
            caused-refused E_FNA (may_not_pass names place v refl (walks_so place v not_allowed leads mounted is))
        by_end v mounted not_found is =
            caused-refused E_PNNF (finds_nothing names place v refl (walks_so place v not_found leads mounted is))
