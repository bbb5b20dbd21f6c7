-- Paths on files and directories: opened ones, and those of another position.
use Rattle.std.proofs.Common.{◌≡◌, ◌<◌, ℕ, Option, Some, None, option_map, length, inl, inr, sym, ap, ◌∙◌}
use Rattle.std.proofs.lemmas.Bool.{cases_eq, cases_lt}
use Rattle.std.proofs.lemmas.List.{get_or-set_same, get_or-set_other, get_or_past}
use Rattle.io_model.specs.declared.path.Desc.{Desc}
use Rattle.io_model.specs.declared.path.Target.{Target}
use Rattle.io_model.specs.declared.path.Target.TheVariants.{File, Folder, Term, Pipe}
use Rattle.io_model.specs.Path.{PathTable, ArePaths, desc_of, with_desc}
use Rattle.io_model.specs.Io.{Io, with_paths}
use Rattle.io_state.specs.Files.{IsOnDisk}
use Rattle.io_state.specs.Sound.{target_at, IsIo}
use Rattle.io_state.proofs.SoundLemmas.{MayOpen, are-fewer, is-io_with_paths}
use Rattle.io_state.proofs.WaitLemmas.{waits-with_paths}

-- a path may be opened on a file or a directory
pub may-open_on_disk : (io : Io) (desc : Desc) (target : Target) → desc.target ≡ target → IsOnDisk target → MayOpen io desc
may-open_on_disk io desc (File drive number) on disk = record {
  pipe = λ n e. absurd (let x : File drive number ≡ Pipe n = sym on ∙ e in cc);
  fresh = λ s n e. absurd (let x : File drive number ≡ Pipe n = sym on ∙ e in cc);
  terminal = λ n e. absurd (let x : File drive number ≡ Term n = sym on ∙ e in cc);
}
may-open_on_disk io desc (Folder drive number) on disk = record {
  pipe = λ n e. absurd (let x : Folder drive number ≡ Pipe n = sym on ∙ e in cc);
  fresh = λ s n e. absurd (let x : Folder drive number ≡ Pipe n = sym on ∙ e in cc);
  terminal = λ n e. absurd (let x : Folder drive number ≡ Term n = sym on ∙ e in cc);
}
may-open_on_disk io desc (Term terminal) on disk = absurd disk
may-open_on_disk io desc (Pipe pipe) on disk = absurd disk

abbrev nothing : {X : Type 0} → Option X
nothing = None

-- a path that is there has a place
desc-within : (paths : PathTable) (s : ℕ) (desc : Desc) → desc_of paths s ≡ Some desc → s < length paths.descs
desc-within paths s desc is = elim (cases_lt s (length paths.descs)) [
  | inl within ↦ within
  | inr past ↦ absurd (let x : nothing {X = Desc} ≡ Some desc = sym (get_or_past paths.descs s None past) ∙ is in cc)
]

-- what paths are opened on, where one has another descriptor of the same
same-targets : (paths : PathTable) (s t : ℕ) (old new : Desc) → desc_of paths s ≡ Some old → new.target ≡ old.target → target_at (with_desc paths s (Some new)) t ≡ target_at paths t
same-targets paths s t old new is same = elim (cases_eq t s) [
  | inl here ↦
      ap (λ (k : ℕ). target_at (with_desc paths s (Some new)) k) here
      ∙ ap (option_map (λ (d : Desc). d.target)) (get_or-set_same paths.descs s (Some new) None (desc-within paths s old is))
      ∙ ap (λ (x : Target). Some x) same
      ∙ sym (ap (option_map (λ (d : Desc). d.target)) is)
      ∙ sym (ap (λ (k : ℕ). target_at paths k) here)
  | inr differ ↦ ap (option_map (λ (d : Desc). d.target)) (get_or-set_other paths.descs s t (Some new) None differ)
]

-- the state where a path has another descriptor of the same
pub is-io_with_desc : (io : Io) (paths : PathTable) (s : ℕ) (old new : Desc) → paths ≡ with_desc io.paths s (Some new)
    → ArePaths paths → desc_of io.paths s ≡ Some old → new.target ≡ old.target → IsIo io → IsIo (with_paths io paths)
is-io_with_desc io paths s old new are shape is same sound =
    let targets : (t : ℕ) → target_at (with_desc io.paths s (Some new)) t ≡ target_at io.paths t = λ t. same-targets io.paths s t old new is same in
    is-io_with_paths io paths (with_desc io.paths s (Some new)) are shape
    (are-fewer io (with_desc io.paths s (Some new)) (λ t x e. sym (targets t) ∙ e) sound.targets)
    (waits-with_paths io (with_desc io.paths s (Some new)) (λ q call kept held. (held, targets call.path.0)) sound.waits) sound
