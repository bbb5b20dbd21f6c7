-- The drive's count of faults over the calls of a tool.
use Rattle.std.proofs.Common.{◌≡◌, ℕ, Option, Some, None, IfSome, IfNone, Result, Ok, Err, refl, sym, subst, ◌∙◌, arith}
use Rattle.os9_base.specs.Count.{Rose}
use Rattle.os9_outer.specs.declared.drive.DriveFault.{DriveFault}
use Rattle.rbf_access.specs.Drive.{DriveCounts, MovesCounts}
use Rattle.rbf_access.specs.Faults.{file_fault}
use Rattle.rbf_access.specs.declared.faults.FileFault.{FileFault}
use Rattle.rbf_access.specs.declared.faults.FileFault.TheVariants as file
use Rattle.rbf_walk.specs.Walk.{directory_fault}
use Rattle.rbf_walk.specs.declared.error.DirError.{DirError}
use Rattle.rbf_walk.specs.declared.error.DirError.TheVariants.{NotAllowed, BadPath, NotFound, Exists, File}
use Rattle.vol_tools.specs.Faults.{of_file, of_directory, tool_fault, MovesFaults}
use Rattle.vol_tools.specs.declared.fault.ToolFault.{ToolFault}
use Rattle.vol_tools.specs.declared.fault.ToolFault.TheVariants.{Number, Device, OutOfMemory}

-- nothing was done
pub no_faults : (s : DriveCounts) → MovesFaults None s s
no_faults s = record { never_falls = omega arith; rose = tt; number = tt; kept = refl; last_kept = refl }

pub faults_of : (f : Option ℕ) (most : ℕ) (s t : DriveCounts) → MovesCounts f most s t → MovesFaults f s t
faults_of f most s t m = record { never_falls = m.never_falls; rose = m.rose; number = m.number; kept = m.kept; last_kept = m.last_kept }

-- calls without a fault, and then calls that a fault may end
pub faults_then : (f : Option ℕ) (s t u : DriveCounts) → MovesFaults None s t → MovesFaults f t u → MovesFaults f s u
faults_then f s t u one other =
    let same : t.faults ≡ s.faults = one.kept in
    let falls = other.never_falls in
    record {
      never_falls = omega arith;
      rose = subst (λ n. IfSome f (λ k. Rose n u.faults)) same other.rose;
      number = other.number;
      kept = subst (λ n. IfNone f (u.faults ≡ n)) same other.kept;
      last_kept = subst (λ (last : Option DriveFault). IfNone f (u.last ≡ last)) one.last_kept other.last_kept;
    }

-- an error is the same for answers of any kind
same_number : (A B : Type 0) (e : ToolFault) → tool_fault {A = A} (Err e) ≡ tool_fault {A = B} (Err e)
same_number A B (Number n) = refl
same_number A B (Device n) = refl
same_number A B OutOfMemory = refl

pub same_faults : (A B : Type 0) (e : ToolFault) (s t : DriveCounts) → MovesFaults (tool_fault {A = A} (Err e)) s t → MovesFaults (tool_fault {A = B} (Err e)) s t
same_faults A B e s t m = subst (λ f. MovesFaults f s t) (same_number A B e) m

-- an error of the calls below as one of the tool
directory_faults : (A B : Type 0) (e : DirError) → tool_fault {A = A} (Err (of_directory e)) ≡ directory_fault {A = B} (Err e)
directory_faults A B NotAllowed = refl
directory_faults A B BadPath = refl
directory_faults A B NotFound = refl
directory_faults A B Exists = refl
directory_faults A B (File (file.Device n)) = refl
directory_faults A B (File file.NoCluster) = refl
directory_faults A B (File file.TooManyRuns) = refl

file_faults : (A B : Type 0) (e : FileFault) → tool_fault {A = A} (Err (of_file e)) ≡ file_fault {A = B} (Err e)
file_faults A B (file.Device n) = refl
file_faults A B file.NoCluster = refl
file_faults A B file.TooManyRuns = refl

pub directory_ends : (A B : Type 0) (e : DirError) (most : ℕ) (s t : DriveCounts) → MovesCounts (directory_fault {A = B} (Err e)) most s t → MovesFaults (tool_fault {A = A} (Err (of_directory e))) s t
directory_ends A B e most s t m = subst (λ f. MovesFaults f s t) (sym (directory_faults A B e)) (faults_of _ most s t m)

pub file_ends : (A B : Type 0) (e : FileFault) (most : ℕ) (s t : DriveCounts) → MovesCounts (file_fault {A = B} (Err e)) most s t → MovesFaults (tool_fault {A = A} (Err (of_file e))) s t
file_ends A B e most s t m = subst (λ f. MovesFaults f s t) (sym (file_faults A B e)) (faults_of _ most s t m)

-- the same behind calls without a fault
pub directory_ends_then : (A B : Type 0) (e : DirError) (most : ℕ) (s t u : DriveCounts) → MovesFaults None s t → MovesCounts (directory_fault {A = B} (Err e)) most t u
    → MovesFaults (tool_fault {A = A} (Err (of_directory e))) s u
directory_ends_then A B e most s t u one m = faults_then _ s t u one (directory_ends A B e most t u m)

pub file_ends_then : (A B : Type 0) (e : FileFault) (most : ℕ) (s t u : DriveCounts) → MovesFaults None s t → MovesCounts (file_fault {A = B} (Err e)) most t u
    → MovesFaults (tool_fault {A = A} (Err (of_file e))) s u
file_ends_then A B e most s t u one m = faults_then _ s t u one (file_ends A B e most t u m)

pub done_then : (most : ℕ) (s t u : DriveCounts) → MovesFaults None s t → MovesCounts None most t u → MovesFaults None s u
done_then most s t u one m = faults_then None s t u one (faults_of None most t u m)
