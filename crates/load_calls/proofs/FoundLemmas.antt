-- A file of modules that was found: what is tested of it, and its bytes in a buffer.
use Rattle.std.proofs.Common.{◌≡◌, ◌∙◌, ℕ, not, nat_lt, Bool, true, false, Ok, Err, List, ◌++◌, length, take, drop, append_assoc, refl, ap, sym, arith, if◌then◌else◌}
use Rattle.std.proofs.lemmas.List.{take_all, take_at}
use Rattle.os9_base.specs.declared.errors.TheConstants.{E_FNA, E_SHARE, E_MEMFUL}
use Rattle.os9_base.specs.declared.limits.TheConstants.{MOST_GROUP_BYTES}
use Rattle.io_model.specs.PathList.{PathList}
use Rattle.io_model.specs.declared.modes.TheConstants.{MODE_EXECUTE}
use Rattle.rbf_access.specs.Reading.{IsReadInto, filled_buffer}
use Rattle.rbf_change.specs.Contents.{bytes_from}
use Rattle.rbf_model.specs.File.{DiskFile}
use Rattle.file_rules.specs.Files.{Asker, Files}
use Rattle.file_rules.specs.Open.{may_open}
use Rattle.file_rules.specs.ProgramFile.{program_found}
use Rattle.file_rules.specs.Sharing.{is_not_shared}
use Rattle.file_rules.specs.Step.{comes, refuses}
use Rattle.file_rules.specs.Route.{Found}
use Rattle.load_calls.specs.Found.{IsWhole, program_by, program_size}

-- ---- its size

-- the tests of a file that was found come to its size, or refuse it
pub found-step : (asker : Asker) (files : Files) (list : PathList) (found : Found) → program_found asker files list found ≡ program_by found list.next (program_size asker.user files found)
found-step asker files list found =
    by (may_open found.file asker.user MODE_EXECUTE) (is_not_shared files found MODE_EXECUTE) (nat_lt MOST_GROUP_BYTES (length found.file.contents))
  where
    by : (may unshared long : Bool) → refuses (not may) E_FNA
        (refuses unshared E_SHARE
        (refuses long E_MEMFUL (comes (record { bytes = found.file.contents; next = list.next })))) ≡ program_by found
        list.next (if not may then Err E_FNA else if unshared then Err E_SHARE else if long then Err E_MEMFUL else Ok
        (length found.file.contents))
    by false unshared long = refl
    by true true long = refl
    by true false true = refl
    by true false false = refl

-- what was not refused is all of it
pub size-whole : (user : ℕ) (files : Files) (found : Found) (size : ℕ) → Ok size ≡ program_size user files found → size ≡ length found.file.contents
size-whole user files found size is =
    by (may_open found.file user MODE_EXECUTE) (is_not_shared files found MODE_EXECUTE) (nat_lt MOST_GROUP_BYTES (length found.file.contents)) is
  where
    by : (may unshared long : Bool) → Ok size ≡ (if not may then Err E_FNA else if unshared then Err E_SHARE else if
        long then Err E_MEMFUL else Ok (length found.file.contents)) → size ≡ length found.file.contents
    by false unshared long is = cc
    by true true long is = cc
    by true false true is = cc
    by true false false is = cc

-- ---- its bytes

-- a read of as many bytes as it has puts all of them to the front
pub whole-of : (file : DiskFile) (size : ℕ) (before new rest : List ℕ) (count : ℕ) → length before ≡ size → IsReadInto file 0 before new count → IsWhole file size (new ++ rest)
whole-of file size before new rest count long read = record { bytes_are = whole }
  where
    whole : length file.contents ≡ size → take size (new ++ rest) ≡ file.contents
    whole same =
        let bytes = file.contents in
        let given : bytes_from bytes 0 (length before) ≡ bytes = take_all (length before) bytes (omega (arith, same, long)) in
        let filled : new ≡ bytes ++ drop (length bytes) before = read.buffer_is ∙ ap (λ (b : List ℕ). filled_buffer b before) given in
        ap (λ n. take n (new ++ rest)) (sym same)
        ∙ ap (λ (b : List ℕ). take (length bytes) (b ++ rest)) filled
        ∙ ap (λ (b : List ℕ). take (length bytes) b) (append_assoc bytes (drop (length bytes) before) rest)
        ∙ take_at bytes (drop (length bytes) before ++ rest) (length bytes) refl
