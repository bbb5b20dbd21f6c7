-- Files and output streams of a host, as far as they can be observed.
use Rattle.std.specs.Prelude.{◌≡◌, ℕ, ◌⊎◌, ⊤, Option, Some, None, unwrap_or, Result, Ok, Err, List, [], ◌∷◌, ◌++◌, take}
use Rattle.os9_outer.specs.declared.host.HostFault.{HostFault}
use Rattle.os9_outer.specs.declared.host.HostFault.TheVariants.{Failed, OutOfMemory}

-- the bytes under each name, or nothing if there is no file of that name
abbrev pub HostFiles : Type 0
HostFiles = List ℕ → Option (List ℕ)

-- the result of a read of a name: its bytes, or none if there is no such file
abbrev pub file_contents : HostFiles → List ℕ → List ℕ
file_contents files name = unwrap_or (files name) []

-- the fact holds if the call returned `Failed`
abbrev pub OnFailed : {T : Type 0} → Result T HostFault → Type 0 → Type 0
OnFailed (Ok _) fact = ⊤
OnFailed (Err Failed) fact = fact
OnFailed (Err OutOfMemory) fact = ⊤

-- the fact holds if the call returned anything but `Failed`
abbrev pub UnlessFailed : {T : Type 0} → Result T HostFault → Type 0 → Type 0
UnlessFailed (Ok _) fact = fact
UnlessFailed (Err Failed) fact = ⊤
UnlessFailed (Err OutOfMemory) fact = fact

-- the fact holds of the files before and after, if they are observed; what is not observed stays so
abbrev pub IfObserved : (HostFiles → HostFiles → Type 0) → Option HostFiles → Option HostFiles → Type 0
IfObserved fact None now = now ≡ None
IfObserved fact (Some before) None = ⊥
IfObserved fact (Some before) (Some now) = fact before now

-- the file is unchanged, or holds the first of these bytes: all, some or none of them
abbrev pub KeepsOrHoldsPrefix : Option (List ℕ) → List ℕ → Option (List ℕ) → Type 0
KeepsOrHoldsPrefix before bytes now = (now ≡ before) ⊎ ((count : ℕ) × (now ≡ Some (take count bytes)))

-- The name of the file is noted after those of earlier calls. If memory is out it may not be noted, and then nothing
-- was begun.
abbrev pub NotesName : {T : Type 0} → Result T HostFault → List ℕ → List (List ℕ) → List (List ℕ) → Type 0
NotesName (Ok _) name before now = now ≡ before ++ name ∷ []
NotesName (Err Failed) name before now = now ≡ before ++ name ∷ []
NotesName (Err OutOfMemory) name before now = (now ≡ before) ⊎ (now ≡ before ++ name ∷ [])
