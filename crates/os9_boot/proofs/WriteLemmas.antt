-- How a boot ends behind its run, by the writes of its images and of its history.
use Rattle.std.proofs.Common.{◌≡◌, ◌⊎◌, ◌==◌, ◌<◌, ◌≤◌, ℕ, zero, suc, Bool, true, false, Option, Some, None, Ok, Err, List, [], ◌∷◌, ◌++◌, length, take, slice_get, refl, sym, ap, ◌∙◌, subst, inl, inr, arith, append-nil}
use Rattle.std.specs.Option.{option_map_or}
use Rattle.std.specs.Prelude.{Result}
use Rattle.std.proofs.lemmas.Bool.{eq-eqb, eqb-true}
use Rattle.std.proofs.lemmas.List.{take-append-le}
use Rattle.std.proofs.lemmas.Option.{none-some, same_Some, slice_get_within}
use Rattle.std.proofs.Math.Seq.{take-append_seam}
use Rattle.lock_model.specs.Lines.{history_text}
use Rattle.lock_model.specs.declared.history.Entry.{Entry}
use Rattle.os9_outer.specs.Host.{HostFiles, IfObserved, KeepsOrHoldsPrefix}
use Rattle.os9_outer.specs.declared.host.HostFault.{HostFault}
use Rattle.os9_outer.specs.declared.host.HostFault.TheVariants.{Failed}
use Rattle.boot_run.specs.ImageWrites.{FailsAt, WritesImages}
use Rattle.boot_run.specs.Images.{WritesAll, WritesUpTo, with_file, with_images}
use Rattle.boot_run.specs.declared.write.WriteFault.TheVariants.{Image, OutOfMemory}
use Rattle.boot_run.specs.World.{World, FailsToWriteFile, HasNoFault}
use Rattle.boot_run.specs.declared.machine.RunEnd.{RunEnd}
use Rattle.boot_run.specs.declared.machine.RunEnd.TheVariants as Run
use Rattle.boot_run.specs.Output.{WritesOutput}
use Rattle.boot_run.specs.declared.status.End.{End}
use Rattle.boot_run.specs.declared.status.End.TheVariants.{CannotWriteFile, CannotWriteImage, NoMemory}
use Rattle.os9_boot.specs.History.{Outputs, output_bytes}
use Rattle.os9_boot.specs.Written.{EndsBoot, WritesBack, WritesHistory, end_unwritten, ends_run}

-- the run came to its end
abbrev pub CameToEnd : RunEnd → Type 0
CameToEnd end = ((begun : ℕ) × (end ≡ Run.Ended begun)) ⊎ ((begun : ℕ) × (end ≡ Run.Living begun))

-- ---- lists that are longer

-- what is there is there in front of more
there-in-front : (xs more : List (List ℕ)) (n : ℕ) (x : List ℕ) → slice_get xs n ≡ Some x → slice_get (xs ++ more) n ≡ Some x
there-in-front [] more n x is = absurd (none-some x is)
there-in-front (first ∷ xs) more zero x is = is
there-in-front (first ∷ xs) more (suc n) x is = there-in-front xs more n x is

-- the first behind a list
there-behind : (xs more : List (List ℕ)) (x : List ℕ) → slice_get (xs ++ x ∷ more) (length xs) ≡ Some x
there-behind [] more x = refl
there-behind (first ∷ xs) more x = there-behind xs more x

-- the files behind as many names and images are those behind the last of them
with_images-last : (names images : List (List ℕ)) (name image : List ℕ) (files : HostFiles) → length images ≡ length names
    → with_images files (names ++ name ∷ []) (images ++ image ∷ []) ≡ with_file (with_images files names images) name image
with_images-last [] [] name image files many = refl
with_images-last [] (one ∷ images) name image files many = absurd (omega (arith, many))
with_images-last (first ∷ names) [] name image files many = absurd (omega (arith, many))
with_images-last (first ∷ names) (one ∷ images) name image files many =
    with_images-last names images name image (with_file files first one) (omega (arith, many))

-- ---- what was written, observed or not

then-so : (first next whole : HostFiles → HostFiles → Type 0) → ((before mid now : HostFiles) → first before mid → next mid now → whole before now)
    → (before mid now : Option HostFiles) → IfObserved first before mid → IfObserved next mid now → IfObserved whole before now
then-so first next whole by None None None one other = refl
then-so first next whole by None None (Some now) one other = absurd (cc other)
then-so first next whole by None (Some mid) now one other = absurd (cc one)
then-so first next whole by (Some before) None now one other = absurd one
then-so first next whole by (Some before) (Some mid) None one other = absurd other
then-so first next whole by (Some before) (Some mid) (Some now) one other = by before mid now one other

so-too : (one other : HostFiles → HostFiles → Type 0) → ((before now : HostFiles) → one before now → other before now)
    → (before now : Option HostFiles) → IfObserved one before now → IfObserved other before now
so-too one other by None now is = is
so-too one other by (Some before) None is = absurd is
so-too one other by (Some before) (Some now) is = by before now is

-- the images were written up to one of them: so were the images and what is behind them
up-to-front : (number : ℕ) (names images more texts : List (List ℕ)) (before now : HostFiles)
    → WritesUpTo number names images before now → WritesUpTo number (names ++ more) (images ++ texts) before now
up-to-front number names images more texts before now it =
    let low : number ≤ length names = omega (arith, slice_get_within names number it.name it.named) in
    let few : number ≤ length images = omega (arith, slice_get_within images number it.image it.written) in
    let names_same : take number names ≡ take number (names ++ more) = sym (take-append-le number names more low) in
    let images_same : take number images ≡ take number (images ++ texts) = sym (take-append-le number images texts few) in
    record {
      name = it.name;
      image = it.image;
      named = there-in-front names more number it.name it.named;
      written = there-in-front images texts number it.image it.written;
      others = λ other is. it.others other is
          ∙ ap (λ (names : List (List ℕ)). with_images before names (take number images) other) names_same
          ∙ ap (λ (images : List (List ℕ)). with_images before (take number (names ++ more)) images other) images_same;
      part =
          subst (λ (images : List (List ℕ)). KeepsOrHoldsPrefix (with_images before (take number (names ++ more)) images it.name) it.image (now it.name)) images_same
          (subst (λ (names : List (List ℕ)). KeepsOrHoldsPrefix (with_images before names (take number images) it.name) it.image (now it.name)) names_same it.part);
    }

module _ (names images : List (List ℕ)) (name text : List ℕ) (many : length images ≡ length names) where
  -- a file behind them was written too
  all-behind : (before mid now : HostFiles) → WritesAll names images before mid → WritesAll (name ∷ []) (text ∷ []) mid now
      → WritesAll (names ++ name ∷ []) (images ++ text ∷ []) before now
  all-behind before mid now all last other =
      last other ∙ by ∙ sym (ap (λ (files : HostFiles). files other) (with_images-last names images name text before many))
    where
      by : with_file mid name text other ≡ with_file (with_images before names images) name text other
      by = simp (all other)

  -- or not, or in part
  up-to-last : (before mid now : HostFiles) → WritesAll names images before mid → WritesUpTo 0 (name ∷ []) (text ∷ []) mid now
      → WritesUpTo (length names) (names ++ name ∷ []) (images ++ text ∷ []) before now
  up-to-last before mid now all last =
      let names_same : names ≡ take (length names) (names ++ name ∷ []) = sym (take-append_seam names (name ∷ [])) in
      let images_same : images ≡ take (length names) (images ++ text ∷ []) =
      sym (subst (λ n. take n (images ++ text ∷ []) ≡ images) many (take-append_seam images (text ∷ []))) in
      let named : name ≡ last.name = same_Some name last.name last.named in
      let written : text ≡ last.image = same_Some text last.image last.written in
      let front : (other : List ℕ) → mid other ≡ with_images before (take (length names) (names ++ name ∷ []))
      (take (length names) (images ++ text ∷ [])) other =
      λ other. all other ∙ ap (λ (names : List (List ℕ)). with_images before names images other) names_same
      ∙ ap (λ (images : List (List ℕ)). with_images before (take (length names) (names ++ name ∷ [])) images other) images_same in
      record {
        name = last.name;
        image = last.image;
        named = there-behind names [] name ∙ ap Some named;
        written = subst (λ n. slice_get (images ++ text ∷ []) n ≡ Some text) many (there-behind images [] text) ∙ ap Some written;
        others = λ other is. last.others other is ∙ front other;
        part = subst (λ (was : Option (List ℕ)). KeepsOrHoldsPrefix was last.image (now last.name)) (front last.name) last.part;
      }

-- nothing was written yet
pub none-yet : (name text : List ℕ) (files : Option HostFiles) → IfObserved (WritesUpTo 0 (name ∷ []) (text ∷ [])) files files
none-yet name text None = refl
none-yet name text (Some files) = record {
  name = name;
  image = text;
  named = refl;
  written = refl;
  others = λ other is. refl;
  part = inl refl;
}

-- ---- the text of the history

module _ (name bytes : List ℕ) (history : List Entry) (before after : World) (is : bytes ≡ history_text history) where
  abbrev ToldSo : Result (Unit {0}) HostFault → Type 0
  ToldSo answer = WritesOutput {Value = Unit {0}} name bytes answer before after

  with-text : (answer : Result (Unit {0}) HostFault) → ToldSo answer → WritesOutput {Value = Unit {0}} name (history_text history) answer before after
  with-text answer it = subst (λ bytes. WritesOutput {Value = Unit {0}} name bytes answer before after) is it

  pub text-written : (value : Unit {0}) → ToldSo (Ok value) → WritesHistory {Value = Unit {0}} name history (Ok tt) before after
  text-written value it =
      let it = with-text (Ok value) it in
      record { written = it.written; no_fault = it.no_fault; stopped = tt; out_kept = it.out; devices_kept = it.devices }

  pub text-failed : ToldSo (Err Failed) → WritesHistory {Value = Unit {0}} name history (Err CannotWriteFile) before after
  text-failed it =
      let it = with-text (Err Failed) it in
      record { written = tt; no_fault = tt; stopped = (it.failed, it.part); out_kept = it.out; devices_kept = it.devices }

  pub text-wanting : ToldSo (Err HostFault.OutOfMemory) → WritesHistory {Value = Unit {0}} name history (Err NoMemory) before after
  text-wanting it =
      let it = with-text (Err HostFault.OutOfMemory) it in
      record { written = tt; no_fault = tt; stopped = (it.no_fault, it.part); out_kept = it.out; devices_kept = it.devices }

-- ---- the end of a boot

-- what was written behind its run
behind-run : (outputs : Outputs) (bytes : List (List ℕ)) (end : RunEnd) (answer : End) (before after : World)
    → CameToEnd end → WritesBack outputs bytes (ends_run end) answer before after
    → EndsBoot outputs bytes end answer before after
behind-run outputs bytes end answer before after (inl (begun, is)) wrote = by end is wrote
  where
    by : (end : RunEnd) → end ≡ Run.Ended begun → WritesBack outputs bytes (ends_run end) answer before after → EndsBoot outputs bytes end answer before after
    by end is wrote = rw is (rw is at wrote)
behind-run outputs bytes end answer before after (inr (begun, is)) wrote = by end is wrote
  where
    by : (end : RunEnd) → end ≡ Run.Living begun → WritesBack outputs bytes (ends_run end) answer before after → EndsBoot outputs bytes end answer before after
    by end is wrote = rw is (rw is at wrote)

-- an image is in front of the history
image-number : (outputs : Outputs) (number : ℕ) → number < length outputs.images → end_unwritten outputs number ≡ CannotWriteImage number
image-number outputs number low = by (number == length outputs.images) refl
  where
    by : (same : Bool) → (number == length outputs.images) ≡ same → end_unwritten outputs number ≡ CannotWriteImage number
    by true same = absurd (omega (arith, low, eqb-true number (length outputs.images) same))
    by false same = rw same refl

history-number : (outputs : Outputs) → end_unwritten outputs (length outputs.images) ≡ CannotWriteFile
history-number outputs = rw (eq-eqb (length outputs.images) (length outputs.images) refl) refl

module _ (files images : List (List ℕ)) (history : List Entry) (end : RunEnd) (before : World)
    (many : length images ≡ length files) (came : CameToEnd end) where
  -- a boot that writes its history in the file of this name, or none
  abbrev Back : Option (List ℕ) → End → World → Type 0
  Back told answer after =
      EndsBoot (record { images = files; history = told })
      (output_bytes (record { images = files; history = told }) images history) end answer before after

  abbrev more_names : Option (List ℕ) → List (List ℕ)
  more_names told = option_map_or (λ name. name ∷ []) told []

  abbrev more_texts : Option (List ℕ) → List (List ℕ)
  more_texts told = option_map_or (λ name. history_text history ∷ []) told []

  still : (mid after : World) → HasNoFault before mid → HasNoFault mid after → HasNoFault before after
  still mid after first second = (second.0 ∙ first.0, second.1 ∙ first.1, second.2 ∙ first.2)

  fails-later : (mid after : World) (name : List ℕ) → HasNoFault before mid → FailsToWriteFile name mid after → FailsToWriteFile name before after
  fails-later mid after name first failed = (rw (← first.0) failed.0, failed.1, failed.2)

  -- ---- not all images were written

  fails-in-front : (told : Option (List ℕ)) (number : ℕ) (after : World) → FailsAt number files before after → FailsAt number (files ++ more_names told) before after
  fails-in-front told number after (name, named, failed) = (name, there-in-front files (more_names told) number name named, failed)

  pub image-unwritten : (told : Option (List ℕ)) (number : ℕ) (after : World) → WritesImages {Value = Unit {0}} files
      images (Err (Image number)) before after → Back told (CannotWriteImage number) after
  image-unwritten told number after wrote =
      let (up_to, failed) = wrote.stopped in
      let low : number < length files = slice_get_within files number failed.0 failed.1 in
      let front = so-too _ _ (up-to-front number files images (more_names told) (more_texts told)) before.files after.files up_to in
      behind-run (record { images = files; history = told }) _ end (CannotWriteImage number) before after came (record {
        files = inr (number, (front, inl (sym (image-number (record { images = files; history = told }) number low), fails-in-front told number after failed)));
        out_kept = wrote.out_kept;
        devices_kept = wrote.devices_kept;
      })

  pub memory-wanting : (told : Option (List ℕ)) (after : World) → WritesImages {Value = Unit {0}} files images (Err OutOfMemory) before after → Back told NoMemory after
  memory-wanting told after wrote =
      let ((number, up_to), kept) = wrote.stopped in
      let front = so-too _ _ (up-to-front number files images (more_names told) (more_texts told)) before.files after.files up_to in
      behind-run (record { images = files; history = told }) _ end NoMemory before after came (record {
        files = inr (number, (front, inr (refl, kept)));
        out_kept = wrote.out_kept;
        devices_kept = wrote.devices_kept;
      })

  -- ---- all images were written

  -- and no file is named for the history
  pub images-written : (value : Unit {0}) (told : Option (List ℕ)) (answer : End) (after : World) → told ≡ None → answer ≡ ends_run end → WritesImages {Value = Unit {0}} files
      images (Ok value) before after → Back told answer after
  images-written value told answer after none ended wrote = rw (none, ended) (behind-run (record { images = files; history = None }) _ end (ends_run end) before after came (record {
    files = inl (refl, wrote.no_fault, rw (append-nil files, append-nil images) wrote.written);
    out_kept = wrote.out_kept;
    devices_kept = wrote.devices_kept;
  }))

  module _ (value : Unit {0}) (told : Option (List ℕ)) (name : List ℕ) (named : told ≡ Some name) (mid after : World)
      (wrote : WritesImages {Value = Unit {0}} files images (Ok value) before mid) where
    wholly : IfObserved (WritesAll (name ∷ []) (history_text history ∷ [])) mid.files after.files
        → IfObserved (WritesAll (files ++ name ∷ []) (images ++ history_text history ∷ [])) before.files after.files
    wholly last =
        then-so _ _ _ (all-behind files images name (history_text history) many) before.files mid.files after.files wrote.written last

    -- the history was written too
    pub history-written : (done : Unit {0}) (answer : End) → answer ≡ ends_run end → WritesHistory {Value = Unit {0}} name history (Ok done) mid after → Back told answer after
    history-written done answer ended last = rw (named, ended) (behind-run (record { images = files; history = Some name }) _ end (ends_run end) before after came (record {
      files = inl (refl, still mid after wrote.no_fault last.no_fault, wholly last.written);
      out_kept = last.out_kept ∙ wrote.out_kept;
      devices_kept = last.devices_kept ∙ wrote.devices_kept;
    }))

    partly : IfObserved (WritesUpTo 0 (name ∷ []) (history_text history ∷ [])) mid.files after.files
        → IfObserved (WritesUpTo (length files) (files ++ name ∷ []) (images ++ history_text history ∷ [])) before.files after.files
    partly part = then-so _ _ _ (up-to-last files images name (history_text history) many) before.files mid.files after.files wrote.written part

    last-fails : FailsToWriteFile name mid after → FailsAt (length files) (files ++ name ∷ []) before after
    last-fails failed = (name, there-behind files [] name, fails-later mid after name wrote.no_fault failed)

    -- or it was not
    pub history-unwritten : (answer : End) → WritesHistory {Value = Unit {0}} name history (Err answer) mid after → Back told answer after
    history-unwritten CannotWriteFile last = rw named (behind-run (record { images = files; history = Some name }) _ end CannotWriteFile before after came (record {
      files =
          inr (length files, (partly last.stopped.1, inl (sym (history-number (record { images = files; history = Some name })), last-fails last.stopped.0)));
      out_kept = last.out_kept ∙ wrote.out_kept;
      devices_kept = last.devices_kept ∙ wrote.devices_kept;
    }))
    history-unwritten NoMemory last = rw named (behind-run (record { images = files; history = Some name }) _ end NoMemory before after came (record {
      files = inr (length files, (partly last.stopped.1, inr (refl, still mid after wrote.no_fault last.stopped.0)));
      out_kept = last.out_kept ∙ wrote.out_kept;
      devices_kept = last.devices_kept ∙ wrote.devices_kept;
    }))
    history-unwritten answer last = absurd last.stopped
