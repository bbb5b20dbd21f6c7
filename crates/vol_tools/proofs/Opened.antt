-- A file that is opened by its path, and read whole.
use Rattle.std.proofs.Common.{◌≡◌, ℕ, ◌+◌, ◌-◌, ◌<◌, ◌≤◌, ◌&&◌, append-nil, Bool, true, false, not, Option, Some, None, IsSome, List, [], ◌++◌, length, take, drop, replicate, Result, Ok, Err, refl, sym, ap, ◌∙◌, subst, inl, inr, arith}
use Rattle.std.proofs.lemmas.Bool.{cond-true, cond-false, false≢true, and_parts}
use Rattle.std.proofs.lemmas.List.{take_all, drop_all, length-replicate}
use Rattle.os9_base.specs.declared.registers.TimePacket.{TimePacket}
use Rattle.os9_base.specs.declared.errors.TheConstants.{E_FNA, E_BPNAM}
use Rattle.rbf_model.specs.File.{DiskFile, is_directory}
use Rattle.rbf_model.specs.Volume.{DiskVolume}
use Rattle.rbf_model.specs.Walk.{arrives, file_permits}
use Rattle.rbf_access.specs.Faults.{file_fault}
use Rattle.rbf_access.specs.Mounted.{HasFile, RepresentsVolume}
use Rattle.rbf_access.specs.Reading.{IsFdOf, IsReadInto, OnFile}
use Rattle.rbf_access.specs.declared.faults.FileFault.{FileFault}
use Rattle.rbf_access.specs.declared.faults.FileFault.TheVariants as file
use Rattle.rbf_sector.specs.declared.fd.Fd.{Fd}
use Rattle.rbf_walk.proofs.Stepping.{file_in}
use Rattle.vol_tools.specs.Numbers.{way_end, on_arrival, reading_number, opening_number}
use Rattle.vol_tools.specs.Refusals.{refused_number, unchanged}
use Rattle.vol_tools.specs.Listing.{directory_lines}
use Rattle.vol_tools.specs.Path.{path_names, directory_names}
use Rattle.vol_tools.specs.Tool.{get, list}
use Rattle.vol_tools.specs.UsesInTurn.{Use}
use Rattle.vol_tools.specs.Answers.{AnswersTool, AnswersWay, GivesOn, RefusesOn}
use Rattle.vol_tools.specs.Listed.{HasListing}
use Rattle.vol_tools.specs.Faults.{of_file}
use Rattle.vol_tools.specs.Opening.{AnswersBytes, AnswersOpening, HasOpened, IsOpenedFile, is_of_kind}
use Rattle.vol_tools.specs.declared.fault.ToolFault.{ToolFault}
use Rattle.vol_tools.specs.declared.fault.ToolFault.TheVariants.{Number, Device, OutOfMemory}
use Rattle.vol_tools.specs.declared.opening.Kind.{Kind}
use Rattle.vol_tools.specs.declared.opening.Kind.TheVariants.{File, Directory}
use Rattle.vol_tools.specs.declared.opening.Opened.{Opened}
use Rattle.vol_tools.proofs.Ways.{stops_short, still}

module _ (v : DiskVolume) (names : List (List ℕ)) (kind : Kind) where
  pub way-stops : (fault : ToolFault) → AnswersWay (way_end v names) (Err fault) → AnswersOpening v names kind (Err fault)
  way-stops (Number n) h = stops_short (way_end v names) (λ m. opening_number (is_of_kind kind) (v.files m)) n h
  way-stops (Device n) h = tt
  way-stops OutOfMemory h = h

  module _ (n : ℕ) (f : DiskFile) (way : way_end v names ≡ arrives n) (there : v.files n ≡ Some f) where
    number-is : reading_number v (is_of_kind kind) (Some names) ≡ opening_number (is_of_kind kind) (Some f)
    number-is = ap (λ end. on_arrival end (λ m. opening_number (is_of_kind kind) (v.files m))) way ∙ ap (opening_number (is_of_kind kind)) there

    module _ (fd : Fd) (fields : IsFdOf f fd) (test : Bool) (tested : (on : DiskFile) → IsFdOf on fd → test ≡ (is_of_kind kind on && file_permits on 0 1)) where
      pub closed : test ≡ false → reading_number v (is_of_kind kind) (Some names) ≡ Some E_FNA
      closed fails = number-is ∙ cond-false (is_of_kind kind f && file_permits f 0 1) None (Some E_FNA) (sym (tested f fields) ∙ fails)

      pub opened : test ≡ true → (o : Opened) → o.number ≡ n → o.size ≡ fd.size → IsOpenedFile v names kind o
      opened passes o same sized = record {
        file = f;
        there = ap v.files same ∙ there;
        leads = way ∙ ap arrives (sym same);
        readable = sym (tested f fields) ∙ passes;
        size_is = sized ∙ fields.size_is;
      }

-- a call on a file that a fault of the drive ended
pub fault-opens : (A : Type 0) (v : DiskVolume) (names : List (List ℕ)) (kind : Kind) (e : FileFault) → IsSome (file_fault {A = A} (Err e)) → AnswersOpening v names kind (Err (of_file e))
fault-opens A v names kind (file.Device n) some = tt
fault-opens A v names kind file.NoCluster some = absurd (false≢true some)
fault-opens A v names kind file.TooManyRuns some = absurd (false≢true some)

pub fault-bytes : (A B : Type 0) (are : B → Type 0) (e : FileFault) → IsSome (file_fault {A = A} (Err e)) → AnswersBytes are (Err (of_file e))
fault-bytes A B are (file.Device n) some = tt
fault-bytes A B are file.NoCluster some = absurd (false≢true some)
fault-bytes A B are file.TooManyRuns some = absurd (false≢true some)

pub has_opened : (media : Option (List ℕ)) (n : ℕ) (has : HasFile media n) (fd : Fd) → OnFile media n (λ f. IsFdOf f fd) → (o : Opened) → o.number ≡ n → o.size ≡ fd.size → HasOpened media o
has_opened media n has fd known o same sized = record {
  content = has.content;
  on = has.on;
  file = has.file;
  is = ap has.content.files same ∙ has.is;
  size_is = sized ∙ (known has.content has.file has.on has.is).size_is;
}

pub file_opened : (media mid : Option (List ℕ)) (o : Opened) → mid ≡ media → HasOpened media o → HasFile mid o.number
file_opened media mid o same has = record { content = has.content; on = still media mid has.content same has.on; file = has.file; is = has.is }

-- a read into as many bytes as the file has fills them
pub all_read : (f : DiskFile) (before now : List ℕ) (count : ℕ) → IsReadInto f 0 before now count → length before ≡ length f.contents → now ≡ f.contents
all_read f before now count it long =
    let all : take (length before) f.contents ≡ f.contents = take_all (length before) f.contents (omega arith) in
    let rest : drop (length (take (length before) f.contents)) before ≡ [] = drop_all _ before (let whole = ap length all in omega arith) in
    it.buffer_is ∙ ap (λ xs. take (length before) f.contents ++ xs) rest ∙ ap (λ xs. xs ++ []) all ∙ append-nil f.contents

-- the file of a number is one
pub same_contents : (media : Option (List ℕ)) (o : Opened) (has : HasOpened media o) (v : DiskVolume) (f : DiskFile) → RepresentsVolume media v → v.files o.number ≡ Some f → o.size ≡ length f.contents
same_contents media o has v f on is =
    let both : ◌≡◌ {A = Option DiskFile} (Some has.file) (Some f) = sym (file_in media o.number (record { content = has.content; on = has.on; file = has.file; is = has.is }) v on) ∙ is in
    let one : has.file ≡ f = same_file both in
    has.size_is ∙ ap (λ (x : DiskFile). length x.contents) one
  where
    same_file : {a b : DiskFile} → ◌≡◌ {A = Option DiskFile} (Some a) (Some b) → a ≡ b
    same_file h = cc

-- an error is the same whatever bytes were to be given
pub error_bytes : (A B : Type 0) (are : A → Type 0) (other : B → Type 0) (e : ToolFault) → AnswersBytes are (Err e) → AnswersBytes other (Err e)
error_bytes A B are other (Number n) h = h
error_bytes A B are other (Device n) h = tt
error_bytes A B are other OutOfMemory h = tt

-- a tool that only reads is refused
pub refused_reading : (use_ : Use) (v : DiskVolume) (old : Option (List ℕ)) → RepresentsVolume old v
    → (new : Option (List ℕ)) (n : ℕ) → new ≡ old → refused_number v use_.tool ≡ Some n → RefusesOn use_ v n old new
refused_reading use_ v old on new n same h = record { volume = v; on = still old new v same on; refuses = inl (h, refl); kept = λ _. same }

-- names that are the same open the same
pub opening_as : (v : DiskVolume) (names way : List (List ℕ)) (kind : Kind) (r : Result Opened ToolFault) → names ≡ way → AnswersOpening v names kind r → AnswersOpening v way kind r
opening_as v names way kind r same h = subst (λ x. AnswersOpening v x kind r) same h

-- a read into all bytes of a list gives it the file's
pub whole_read : (f : DiskFile) (items before now : List ℕ) (len count : ℕ) → IsReadInto f 0 before now count → before ≡ items → length items ≡ length f.contents → len ≡ length items
    → take len (now ++ drop (length now) items) ≡ f.contents
whole_read f items before now len count it same long most =
    let is : now ≡ f.contents = all_read f before now count it (ap length same ∙ long) in
    let many : length now ≡ length f.contents = ap length is in
    let rest : drop (length now) items ≡ [] = drop_all (length now) items (omega arith) in
    ap (λ xs. take len (now ++ xs)) rest ∙ ap (take len) (append-nil now) ∙ take_all len now (omega arith) ∙ is

-- answers of a tool that only reads
module _ (A : Type 0) (bytes : A → List ℕ) (use_ : Use) (v : DiskVolume) (old : Option (List ℕ)) (on : RepresentsVolume old v) where
  pub reading_ended : (new : Option (List ℕ)) (B : Type 0) (are : B → Type 0) (fault : ToolFault) → new ≡ old → AnswersBytes are (Err fault) → AnswersTool {A = A} use_ bytes v old new (Err fault)
  reading_ended new B are (Number n) same h = absurd h
  reading_ended new B are (Device n) same h = record { volume = v; on = still old new v same on; may = unchanged refl }
  reading_ended new B are OutOfMemory same h = same

  pub opening_ended : (new : Option (List ℕ)) (names : List (List ℕ)) (kind : Kind) (fault : ToolFault) → new ≡ old → refused_number v use_.tool ≡ reading_number v (is_of_kind kind) (Some names)
      → AnswersOpening v names kind (Err fault) → AnswersTool {A = A} use_ bytes v old new (Err fault)
  opening_ended new names kind (Number n) same is h = refused_reading use_ v old on new n same (is ∙ h)
  opening_ended new names kind (Device n) same is h = record { volume = v; on = still old new v same on; may = unchanged refl }
  opening_ended new names kind OutOfMemory same is h = absurd h

-- what is opened is not refused
allowed_opened : (v : DiskVolume) (names : List (List ℕ)) (kind : Kind) (o : Opened) → IsOpenedFile v names kind o → reading_number v (is_of_kind kind) (Some names) ≡ None
allowed_opened v names kind o it =
    ap (λ end. on_arrival end (λ m. opening_number (is_of_kind kind) (v.files m))) it.leads
    ∙ ap (opening_number (is_of_kind kind)) it.there
    ∙ cond-true (is_of_kind kind it.file && file_permits it.file 0 1) None (Some E_FNA) it.readable

-- the bytes of a file that is got
pub got : (v : DiskVolume) (path : List ℕ) (now : TimePacket) (names : List (List ℕ)) (old new : Option (List ℕ)) → new ≡ old → RepresentsVolume old v
    → path_names path ≡ Some names → (o : Opened) → (it : IsOpenedFile v names File o)
    → (bytes : List ℕ) → bytes ≡ it.file.contents → GivesOn (record { tool = get path; now = now }) v bytes new
got v path now names old new same on are o it bytes is = record {
  volume = v;
  on = still old new v same on;
  gives = (
    record {
      allowed = ap (reading_number v (is_of_kind File)) are ∙ allowed_opened v names File o it;
      file = it.file;
      reaches = record { way = names; are = are; number = o.number; arrives_there = it.leads; there = it.there };
      bytes = is;
    },
    refl,
  );
}

-- the lines of a directory that is listed
pub listed : (v : DiskVolume) (path : List ℕ) (now : TimePacket) (names : List (List ℕ)) (old new : Option (List ℕ)) → new ≡ old → RepresentsVolume old v
    → directory_names path ≡ Some names → (o : Opened) → (it : IsOpenedFile v names Directory o)
    → (lines : List ℕ) → lines ≡ directory_lines v it.file → GivesOn (record { tool = list path; now = now }) v lines new
listed v path now names old new same on are o it lines is = record {
  volume = v;
  on = still old new v same on;
  gives = (
    record {
      allowed = ap (reading_number v (is_of_kind Directory)) are ∙ allowed_opened v names Directory o it;
      file = it.file;
      reaches = record { way = names; are = are; number = o.number; arrives_there = it.leads; there = it.there };
      lines = is;
    },
    refl,
  );
}

pub has_listing : (media mid : Option (List ℕ)) (v : DiskVolume) → RepresentsVolume media v → mid ≡ media
    → (names : List (List ℕ)) (o : Opened) (it : IsOpenedFile v names Directory o) (contents : List ℕ) → contents ≡ it.file.contents → HasListing mid contents
has_listing media mid v on same names o it contents is = record {
  content = v;
  on = still media mid v same on;
  number = o.number;
  directory = it.file;
  is = it.there;
  lists = (and_parts (is_directory it.file) (file_permits it.file 0 1) it.readable).0;
  bytes = sym is;
}

-- the last call of a tool that only reads gives its bytes, or ends it
pub last_reads : (A : Type 0) (bytes : A → List ℕ) (use_ : Use) (v : DiskVolume) (old new : Option (List ℕ)) (are : A → Type 0) → RepresentsVolume old v → new ≡ old → ((a : A)
    → are a → GivesOn use_ v (bytes a) new)
    → (r : Result A ToolFault) → AnswersBytes are r → AnswersTool use_ bytes v old new r
last_reads A bytes use_ v old new are on same gives (Ok a) h = gives a h
last_reads A bytes use_ v old new are on same gives (Err fault) h = reading_ended A bytes use_ v old on new A are fault same h
