-- The files that a command names, and what reading them gives.
use Rattle.std.specs.Prelude.{◌≡◌, ◌≢◌, ℕ, ◌⊎◌, Bool, List, Result, Ok, Err, if◌then◌else◌, string_bytes, slice_get, IfSome, ⊤}
use Rattle.std.specs.List.{list_any}
use Rattle.std.specs.Option.{IsSomeAnd}
use Rattle.std.specs.Str.{bytes_eq}
use Rattle.smap_io.specs.declared.transfer.ReadFailure.{ReadFailure}
use Rattle.smap_io.specs.declared.transfer.ReadFailure.TheVariants.{Device, Memory}
use Rattle.smap_replies.specs.Lines.{file_failed_line}
use Rattle.smap_replies.specs.Outcome.{Report, failure}
use Rattle.smap_replies.specs.declared.files.Loaded.{Loaded}
use Rattle.smap_replies.specs.declared.files.UnreadCause.{UnreadCause}
use Rattle.smap_replies.specs.declared.files.UnreadCause.TheVariants.{Missing, Other}

-- what reading a file may give, by the number of its path among those that the command names, from 0, and the path: bytes,
-- or why there are none
abbrev pub MayRead : Type 1
MayRead = (number : ℕ) (path : List ℕ) → Result (List ℕ) ReadFailure → Type 0

-- a file in memory with this path and these bytes
abbrev pub IsLoaded : (path bytes : List ℕ) → Loaded → Type 0
IsLoaded path bytes file = (string_bytes file.path ≡ path) × (file.bytes.items ≡ bytes)

-- what reading one of these files gives, which is that of the number where it has the path; where it has another, or there
-- is none, the device fails
abbrev pub gives_loaded : List Loaded → MayRead
gives_loaded files number path (Ok bytes) = IsSomeAnd (slice_get files number) (IsLoaded path bytes)
gives_loaded files number path (Err Device) = IfSome (slice_get files number) (λ file. string_bytes file.path ≢ path)
gives_loaded files number path (Err Memory) = ⊤

-- why the file at a path can't be read, of what may be said of that
abbrev pub MayCause : Type 1
MayCause = (path : List ℕ) → UnreadCause → Type 0

-- one of these files has the path
abbrev pub has_loaded : List Loaded → (path : List ℕ) → Bool
has_loaded files path = list_any (λ file. bytes_eq (string_bytes file.path) path) files

-- of a path that one of these files has nothing is known, and any other has no file
abbrev pub causes_loaded : List Loaded → MayCause
causes_loaded files path cause = cause ≡ (if has_loaded files path then Other else Missing)

-- the file can't be read, and that is reported
abbrev pub IsUnread : MayRead → (number : ℕ) (path : List ℕ) → Report → Type 0
IsUnread Reads number path report = Reads number path (Err Device) × (report ≡ failure (file_failed_line path))

-- a file can't be read, and that is reported; or it is, and its bytes decide
abbrev pub OfFile : MayRead → (number : ℕ) (path : List ℕ) → (List ℕ → Report → Type 0) → Report → Type 0
OfFile Reads number path Reports report =
    IsUnread Reads number path report ⊎ ((bytes : List ℕ) × Reads number path (Ok bytes) × Reports bytes report)
