-- What touches no terminal and no pipe keeps paths, calls that wait, terminals and pipes.
use Rattle.std.proofs.Common.{◌≡◌, ◌≢◌, ℕ, ◌+◌, ◌<◌, true, Option, Some, None, is_none, List, [], length, drop, position, get_or, refl, sym, ap, ◌∙◌, subst, inl, inr, arith}
use Rattle.std.specs.Prelude.{option_map, option_and_then, slice_index_or, slice_set}
use Rattle.std.specs.Option.{option_map_or}
use Rattle.std.proofs.lemmas.Bool.{cases_eq, cases_lt, false≢true}
use Rattle.std.proofs.lemmas.Grind.{get_or_after_one}
use Rattle.std.proofs.lemmas.List.{get_or-set_same, get_or-set_other, get_or_past, length-set}
use Rattle.std.proofs.lemmas.List.Quantifiers.{position-Some}
use Rattle.std.proofs.lemmas.Option.{none-some, option_and_then_some, same_Some}
use Rattle.os9_base.specs.declared.registers.TimePacket.{TimePacket}
use Rattle.os9_outer.specs.TerminalState.{TerminalState}
use Rattle.proc_model.specs.CallResult.{CallResult}
use Rattle.proc_model.specs.Processes.{Processes}
use Rattle.io_model.specs.Path.{PathTable, desc_of, free_number, free_path, numbers_of, paths_after_begin, slot_of, with_desc, with_path}
use Rattle.io_model.specs.declared.path.Desc.{Desc}
use Rattle.io_model.specs.declared.path.SysPath.{SysPath}
use Rattle.io_model.specs.declared.path.Target.{Target}
use Rattle.rbf_model.specs.File.{DiskFile}
use Rattle.rbf_model.specs.Volume.{DiskVolume}
use Rattle.io_model.specs.Io.{Io, OpenPath, pending_at, new_desc, open_path, with_call, with_paths}
use Rattle.file_rules.specs.Attempts.{asker_of}
use Rattle.file_rules.specs.Files.{Asker, Files, OpenFile, open_file, open_file_at, place_of_target, volume_at}
use Rattle.file_rules.specs.declared.path_call.PathCall.{PathCall}
use Rattle.lock_model.specs.declared.place.FilePlace.{FilePlace}
use Rattle.file_laws.specs.Devices.{IsDevice, number_in}
use Rattle.file_laws.specs.Touch.{BeginsPath, KeepsCalls, KeepsIo, KeepsPaths, TouchesNoDevice, MovesPosition, PathsMove, SetsTicks}

-- ---- calls that wait

call-none : (io : Io) (p : ℕ) → pending_at (with_call io p None) p ≡ None
call-none io p =
    elim (cases_lt p (length io.calls)) [
      | inl within ↦ get_or-set_same io.calls p None None within
      | inr past ↦ get_or_past (with_call io p None).calls p None (rw length-set past)
    ]

pub calls-kept : (io : Io) (paths : PathTable) (p : ℕ) → KeepsCalls p io (with_call (with_paths io paths) p None)
calls-kept io paths p = record {
  none = call-none io p;
  others = λ q differ. get_or-set_other io.calls p q None None differ;
  places = length-set io.calls p None;
}

-- ---- paths that numbers name

abbrev path_with : SysPath → Desc → OpenPath
path_with s desc = record { path = s; desc = desc }

map-some : {A B P : Type 0} (f : A → B) (o : Option A) (y : B) → option_map f o ≡ Some y → ((x : A) → o ≡ Some x → f x ≡ y → P) → P
map-some f None y is next = absurd (none-some y is)
map-some f (Some x) y is next = next x refl (same_Some (f x) y is)

-- a number names a path, whose descriptor is there
record IsOpened (io : Io) (q n : ℕ) (opened : OpenPath) : Type 0 where
  pub slot : slot_of io.paths q n ≡ Some opened.path
  pub desc : desc_of io.paths opened.path.0 ≡ Some opened.desc

opened-is : (io : Io) (q n : ℕ) (opened : OpenPath) → open_path io q n ≡ Some opened → IsOpened io q n opened
opened-is io q n opened is =
    option_and_then_some (λ (s : SysPath). option_map (path_with s) (desc_of io.paths s.0)) (slot_of io.paths q n) opened is (λ s at mapped.
    map-some (path_with s) (desc_of io.paths s.0) opened mapped (λ desc there same.
    subst (IsOpened io q n) same (record { slot = at; desc = there })))

open-by : (io : Io) (q n : ℕ) (s : SysPath) (desc : Desc) → slot_of io.paths q n ≡ Some s → desc_of io.paths s.0 ≡ Some desc → open_path io q n ≡ Some (path_with s desc)
open-by io q n s desc slot there =
    ap (option_and_then (λ (s : SysPath). option_map (path_with s) (desc_of io.paths s.0))) slot
    ∙ ap (option_map (path_with s)) there

-- a descriptor stays, but for its position and its ticks
abbrev pub IsLike : Desc → Desc → Type 0
IsLike desc now = now ≡ record desc { at = now.at; ticks = now.ticks }

abbrev pub DescStays : PathTable → ℕ → Desc → Type 0
DescStays new s desc = (now : Desc) × (desc_of new s ≡ Some now) × IsLike desc now

pub record PathsStay (p : ℕ) (old new : PathTable) : Type 0 where
  pub numbers : (q : ℕ) → q ≢ p → numbers_of new q ≡ numbers_of old q
  pub slots : (q n : ℕ) (s : SysPath) → slot_of old q n ≡ Some s → slot_of new q n ≡ Some s
  pub descs : (s : ℕ) (desc : Desc) → desc_of old s ≡ Some desc → DescStays new s desc
  pub devices : (s : ℕ) (desc : Desc) → desc_of old s ≡ Some desc → IsDevice desc.target → desc_of new s ≡ Some desc
  pub no_device_new : (s : ℕ) (desc : Desc) → desc_of new s ≡ Some desc → IsDevice desc.target → desc_of old s ≡ Some desc

paths-kept : (p : ℕ) (io : Io) (new : PathTable) → PathsStay p io.paths new → KeepsPaths p io (with_call (with_paths io new) p None)
paths-kept p io new stay = record {
  numbers = stay.numbers;
  paths = λ q n opened is.
      let it = opened-is io q n opened is in
      let (now, there, like) = stay.descs opened.path.0 opened.desc it.desc in (
        path_with opened.path now,
        open-by (with_call (with_paths io new) p None) q n opened.path now (stay.slots q n opened.path it.slot) there,
        record { path = refl; desc = like },
      );
  devices = stay.devices;
  no_device_new = stay.no_device_new;
}

stay-same : (p : ℕ) (paths : PathTable) → PathsStay p paths paths
stay-same p paths = record {
  numbers = λ q differ. refl;
  slots = λ q n s is. is;
  descs = λ s desc is. (desc, is, refl);
  devices = λ s desc is device. is;
  no_device_new = λ s desc is device. is;
}

-- a descriptor that is there is in the table
pub desc-within : (paths : PathTable) (s : ℕ) (desc : Desc) → desc_of paths s ≡ Some desc → s < length paths.descs
desc-within paths s desc is =
    elim (cases_lt s (length paths.descs)) [
      | inl within ↦ within
      | inr past ↦ absurd (none-some desc (sym (get_or_past paths.descs s None past) ∙ is))
    ]

-- ---- a position, and ticks

not-both : (target : Target) (place : FilePlace) → place_of_target target ≡ Some place → IsDevice target → ⊥
not-both target place on device = none-some place (sym device ∙ on)

module _ (p : ℕ) (paths : PathTable) (s : ℕ) (desc new : Desc) (place : FilePlace) (there : desc_of paths s ≡ Some desc) (on : place_of_target desc.target ≡ Some place) (like : IsLike desc new) where
  abbrev moved : PathTable
  moved = with_desc paths s (Some new)

  moved-at : desc_of moved s ≡ Some new
  moved-at = get_or-set_same paths.descs s (Some new) None (desc-within paths s desc there)

  moved-other : (t : ℕ) → t ≢ s → desc_of moved t ≡ desc_of paths t
  moved-other t differ = get_or-set_other paths.descs s t (Some new) None differ

  was-same : (t : ℕ) (other : Desc) → t ≡ s → desc_of paths t ≡ Some other → desc ≡ other
  was-same t other same is = same_Some desc other (sym there ∙ sym (ap (desc_of paths) same) ∙ is)

  is-new : (t : ℕ) (other : Desc) → t ≡ s → desc_of moved t ≡ Some other → new ≡ other
  is-new t other same is = same_Some new other (sym moved-at ∙ sym (ap (desc_of moved) same) ∙ is)

  new-on : place_of_target new.target ≡ Some place
  new-on = ap (λ (d : Desc). place_of_target d.target) like ∙ on

  stay-moved : PathsStay p paths moved
  stay-moved = record {
    numbers = λ q differ. refl;
    slots = λ q n t is. is;
    descs = λ t other is.
        elim (cases_eq t s) [
          | inl same ↦ (new, ap (desc_of moved) same ∙ moved-at, subst (λ (d : Desc). IsLike d new) (was-same t other same is) like)
          | inr differ ↦ (other, moved-other t differ ∙ is, refl)
        ];
    devices = λ t other is device.
        elim (cases_eq t s) [
          | inl same ↦ absurd (not-both other.target place (ap (λ (d : Desc). place_of_target d.target) (sym (was-same t other same is)) ∙ on) device)
          | inr differ ↦ moved-other t differ ∙ is
        ];
    no_device_new = λ t other is device.
        elim (cases_eq t s) [
          | inl same ↦ absurd (not-both other.target place (ap (λ (d : Desc). place_of_target d.target) (sym (is-new t other same is)) ∙ new-on) device)
          | inr differ ↦ sym (moved-other t differ) ∙ is
        ];
  }

-- what a file that a number names is
pub record IsNamed (files : Files) (p n : ℕ) (found : OpenFile) : Type 0 where
  pub desc : desc_of files.io.paths found.opened.path.0 ≡ Some found.opened.desc
  pub place : place_of_target found.opened.desc.target ≡ Some found.place

pub file-named : (files : Files) (p n : ℕ) (found : OpenFile) → open_file files p n ≡ Some found → IsNamed files p n found
file-named files p n found is =
    option_and_then_some (λ (path : OpenPath). option_and_then (open_file_at files path) (place_of_target path.desc.target)) (open_path files.io p n) found is (λ path named at.
    option_and_then_some (open_file_at files path) (place_of_target path.desc.target) found at (λ place on here.
    option_and_then_some (λ (v : DiskVolume). option_map (λ (file : DiskFile). record {
      opened = path;
      place = place;
      volume = v;
      file = file;
    }) (v.files place.number)) (volume_at files place.drive) found here
    (λ v mounted mapped.
    map-some (λ (file : DiskFile). record { opened = path; place = place; volume = v; file = file }) (v.files place.number) found mapped (λ file there same.
    subst (IsNamed files p n) same (record { desc = (opened-is files.io p n path named).desc; place = on })))))

-- the system path that the number names
pub file-slot : (files : Files) (p n : ℕ) (found : OpenFile) → open_file files p n ≡ Some found → slot_of files.io.paths p n ≡ Some found.opened.path
file-slot files p n found is =
    option_and_then_some (λ (path : OpenPath). option_and_then (open_file_at files path) (place_of_target path.desc.target)) (open_path files.io p n) found is (λ path named at.
    option_and_then_some (open_file_at files path) (place_of_target path.desc.target) found at (λ place on here.
    option_and_then_some (λ (v : DiskVolume). option_map (λ (file : DiskFile). record {
      opened = path;
      place = place;
      volume = v;
      file = file;
    }) (v.files place.number)) (volume_at files place.drive) found here
    (λ v mounted mapped.
    map-some (λ (file : DiskFile). record { opened = path; place = place; volume = v; file = file }) (v.files place.number) found mapped (λ file there same.
    subst (λ (f : OpenFile). slot_of files.io.paths p n ≡ Some f.opened.path) same (opened-is files.io p n path named).slot))))

-- and the path
pub file-opened : (files : Files) (p n : ℕ) (found : OpenFile) → open_file files p n ≡ Some found → open_path files.io p n ≡ Some found.opened
file-opened files p n found is =
    option_and_then_some (λ (path : OpenPath). option_and_then (open_file_at files path) (place_of_target path.desc.target)) (open_path files.io p n) found is (λ path named at.
    option_and_then_some (open_file_at files path) (place_of_target path.desc.target) found at (λ place on here.
    option_and_then_some (λ (v : DiskVolume). option_map (λ (file : DiskFile). record {
      opened = path;
      place = place;
      volume = v;
      file = file;
    }) (v.files place.number)) (volume_at files place.drive) found here
    (λ v mounted mapped.
    map-some (λ (file : DiskFile). record { opened = path; place = place; volume = v; file = file }) (v.files place.number) found mapped (λ file there same.
    subst (λ (f : OpenFile). open_path files.io p n ≡ Some f.opened) same named))))

pub stay-position : (call : PathCall) (asker : Asker) (files : Files) (paths : PathTable) → MovesPosition call asker files paths → PathsStay asker.caller.process.0 files.io.paths paths
stay-position call asker files paths it =
    let named = file-named files asker.caller.process.0 (number_in call asker) it.found it.named in
    subst (PathsStay asker.caller.process.0 files.io.paths) (sym it.is) (stay-moved asker.caller.process.0
    files.io.paths it.found.opened.path.0 it.found.opened.desc (record it.found.opened.desc { at = it.at })
    it.found.place named.desc named.place refl)

pub stay-ticks : (call : PathCall) (asker : Asker) (files : Files) (paths : PathTable) → SetsTicks call asker files paths → PathsStay asker.caller.process.0 files.io.paths paths
stay-ticks call asker files paths it =
    let named = file-named files asker.caller.process.0 (number_in call asker) it.found it.named in
    subst (PathsStay asker.caller.process.0 files.io.paths) (sym it.is) (stay-moved asker.caller.process.0
    files.io.paths it.found.opened.path.0 it.found.opened.desc (record it.found.opened.desc
    { ticks = asker.caller.regs.x }) it.found.place named.desc named.place refl)

-- ---- a new path

is_nothing : {X : Type 0} (place : Option X) → is_none place ≡ true → place ≡ None
is_nothing None is = refl
is_nothing (Some x) is = absurd (false≢true is)

free-at : (paths : PathTable) (s : ℕ) (place : Option ℕ) → position is_none (drop 1 paths.descs) ≡ place → option_map (λ (k : ℕ). k + 1) place ≡ Some s → desc_of paths s ≡ None
free-at paths s None at is = absurd (none-some s is)
free-at paths s (Some i) at is =
    let found = position-Some is_none (drop 1 paths.descs) i None at in
    let same : 1 + i ≡ s = omega (arith, same_Some (i + 1) s is) in
    ap (desc_of paths) (sym same) ∙ sym (get_or_after_one paths.descs i None) ∙ is_nothing (get_or (drop 1 paths.descs) i None) found.1

-- a free path has no descriptor, and a free number names none
pub free-desc : (paths : PathTable) (s : ℕ) → free_path paths ≡ Some s → desc_of paths s ≡ None
free-desc paths s is = free-at paths s (position is_none (drop 1 paths.descs)) refl is

pub free-slot : (paths : PathTable) (p n : ℕ) → free_number paths p ≡ Some n → slot_of paths p n ≡ None
free-slot paths p n is =
    let found = position-Some is_none (numbers_of paths p) n None is in
    is_nothing (get_or (numbers_of paths p) n None) found.1

module _ (p : ℕ) (paths : PathTable) (target : Target) (mode : ℕ) (place : FilePlace) (on : place_of_target target ≡ Some place) where
  module _ (n s : ℕ) (number : free_number paths p ≡ Some n) (path : free_path paths ≡ Some s) where
    abbrev pub begun : PathTable
    begun = with_path paths p (new_desc target mode) n s

    pub begun-other : (t : ℕ) → t ≢ s → desc_of begun t ≡ desc_of paths t
    begun-other t differ = get_or-set_other paths.descs s t (Some (new_desc target mode)) None differ

    there-other : (t : ℕ) (desc : Desc) → desc_of paths t ≡ Some desc → t ≢ s
    there-other t desc is same = none-some desc (sym (free-desc paths s path) ∙ sym (ap (desc_of paths) same) ∙ is)

    pub begun-numbers : (q : ℕ) → q ≢ p → numbers_of begun q ≡ numbers_of paths q
    begun-numbers q differ = get_or-set_other paths.own p q _ [] differ

    begun-own : (m : ℕ) (t : SysPath) → slot_of paths p m ≡ Some t → slot_of begun p m ≡ Some t
    begun-own m t is =
        elim (cases_lt p (length paths.own)) [
          | inl within ↦ ap (λ (numbers : List (Option SysPath)). slice_index_or numbers m None)
              (get_or-set_same paths.own p (slice_set (numbers_of paths p) n (Some (record { 0 = s }))) [] within) ∙
              get_or-set_other (numbers_of paths p) n m (Some (record { 0 = s })) None apart ∙ is
          | inr past ↦ absurd (none-some t (sym (ap (λ (numbers : List (Option SysPath)). slice_index_or numbers m None) (get_or_past paths.own p [] past)) ∙ is))
        ]
      where
        apart : m ≢ n
        apart same = none-some t (sym (free-slot paths p n number) ∙ sym (ap (slot_of paths p) same) ∙ is)

    begun-slot : (q m : ℕ) (t : SysPath) → slot_of paths q m ≡ Some t → slot_of begun q m ≡ Some t
    begun-slot q m t is =
        elim (cases_eq q p) [
          | inl same ↦ ap (λ (q : ℕ). slot_of begun q m) same ∙ begun-own m t (ap (λ (q : ℕ). slot_of paths q m) (sym same) ∙ is)
          | inr differ ↦ ap (λ (numbers : List (Option SysPath)). slice_index_or numbers m None) (begun-numbers q differ) ∙ is
        ]

    -- the new one is on a file
    begun-new : (t : ℕ) (desc : Desc) → desc_of begun t ≡ Some desc → IsDevice desc.target → t ≢ s
    begun-new t desc is device same =
        elim (cases_lt s (length paths.descs)) [
          | inl within ↦ not-both desc.target place (ap (λ (d : Desc). place_of_target d.target)
              (sym (same_Some (new_desc target mode) desc
              (sym (get_or-set_same paths.descs s (Some (new_desc target mode)) None within) ∙ sym
              (ap (desc_of begun) same) ∙ is))) ∙ on) device
          | inr past ↦ none-some desc (sym (get_or_past begun.descs s None (rw length-set past)) ∙ sym (ap (desc_of begun) same) ∙ is)
        ]

    pub stay-new : PathsStay p paths begun
    stay-new = record {
      numbers = begun-numbers;
      slots = begun-slot;
      descs = λ t desc is. (desc, begun-other t (there-other t desc is) ∙ is, refl);
      devices = λ t desc is device. begun-other t (there-other t desc is) ∙ is;
      no_device_new = λ t desc is device. sym (begun-other t (begun-new t desc is device)) ∙ is;
    }

  stay-begun : PathsStay p paths (paths_after_begin paths p (new_desc target mode))
  stay-begun = by_places (free_number paths p) (free_path paths) refl refl
    where
      by_places : (number path : Option ℕ) → free_number paths p ≡ number → free_path paths ≡ path → PathsStay p paths
          (option_map_or (λ n. option_map_or (with_path paths p (new_desc target mode) n) path paths) number paths)
      by_places None path number_is path_is = stay-same p paths
      by_places (Some n) None number_is path_is = stay-same p paths
      by_places (Some n) (Some s) number_is path_is = stay-new n s number_is path_is

stay-path : (call : PathCall) (asker : Asker) (files : Files) (paths : PathTable) → BeginsPath call asker files paths → PathsStay asker.caller.process.0 files.io.paths paths
stay-path call asker files paths it =
    subst (PathsStay asker.caller.process.0 files.io.paths) (sym it.is) (stay-begun asker.caller.process.0 files.io.paths it.target asker.caller.regs.a it.place it.on)

-- ---- all of input and output

pub stays : (call : PathCall) (asker : Asker) (files : Files) (paths : PathTable) → PathsMove call asker files paths → PathsStay asker.caller.process.0 files.io.paths paths
stays call asker files paths (inl same) =
    subst (PathsStay asker.caller.process.0 files.io.paths) (sym same) (stay-same asker.caller.process.0 files.io.paths)
stays call asker files paths (inr (inl moves)) = stay-position call asker files paths moves
stays call asker files paths (inr (inr (inl sets))) = stay-ticks call asker files paths sets
stays call asker files paths (inr (inr (inr begins))) = stay-path call asker files paths begins

pub io-kept : {call : PathCall} {now : TimePacket} (processes : Processes) (files : Files) (p : ℕ) (result : CallResult)
    (new : Files) (before after : List TerminalState) → TouchesNoDevice call processes files now p result new before after
    → KeepsIo p files.io new.io
io-kept {call} {now} processes files p result new before after it = subst (KeepsIo p files.io) (sym it.rest) (record {
  paths = paths-kept p files.io new.io.paths (stays call (asker_of processes p now) files new.io.paths it.paths);
  calls = calls-kept files.io new.io.paths p;
  terminals = refl;
  pipes = refl;
})
