-- The files outside the program, as a `Files` tells them, and what its calls do to them.
use Rattle.std.specs.Prelude.{◌≡◌, ◌≢◌, ◌⊎◌, ℕ, ◌+◌, ◌≤◌, List, [], ◌++◌, length, take, drop, Bool, Option, Some, IsSome, unwrap_or}
use Rattle.ck_ports.specs.Faults.{Faults}
use Rattle.ck_ports.specs.declared.files.Mode.{Mode}

-- Names are lists of bytes. Where `tells` is false, what is said of files, names and the place means nothing.
pub record Outside : Type 0 where
  pub mode : Mode
  pub reading : Faults
  pub writing : Faults
  pub tells : Bool
  -- what the named file holds, if it is there
  pub file : List ℕ → Option (List ℕ)
  pub open_name : List ℕ
  -- how many bytes of the open file were read
  pub place : ℕ

-- the bytes of the open file
abbrev pub content_of : Outside → List ℕ
content_of o = unwrap_or (o.file o.open_name) []

-- the bytes of the open file that were not read yet
abbrev pub rest_of : Outside → List ℕ
rest_of o = drop o.place (content_of o)

-- each file holds what it held
abbrev pub SameFiles : Outside → Outside → Type 0
SameFiles old new = (name : List ℕ) → new.file name ≡ old.file name

-- each file but this one holds what it held
abbrev pub SameOtherFiles : List ℕ → Outside → Outside → Type 0
SameOtherFiles name old new = (other : List ℕ) → other ≢ name → new.file other ≡ old.file other

-- the named file is there, and it is open at its first byte
pub record IsOpened (name : List ℕ) (old new : Outside) : Type 0 where
  pub there : IsSome (old.file name)
  pub open_name : new.open_name ≡ name
  pub place : new.place ≡ 0

-- the named file is open, and it is empty
pub record IsEmptied (name : List ℕ) (new : Outside) : Type 0 where
  pub open_name : new.open_name ≡ name
  pub empty : new.file name ≡ Some []

-- the next n bytes of the open file stand first in the buffer, and n is 0 only at its end
pub record ReadsNext (n : ℕ) (buffer : List ℕ) (old new : Outside) : Type 0 where
  pub there : n ≤ length (rest_of old)
  pub bytes : take n buffer ≡ take n (rest_of old)
  pub at_end : n ≡ 0 → rest_of old ≡ []
  pub place : new.place ≡ old.place + n

-- the open file ends with these bytes after what it held
abbrev pub Appends : List ℕ → Outside → Outside → Type 0
Appends bytes old new = new.file old.open_name ≡ Some (content_of old ++ bytes)

-- the open file ends with a prefix of these bytes after what it held
abbrev pub AppendsPrefix : List ℕ → Outside → Outside → Type 0
AppendsPrefix bytes old new = (n : ℕ) × (n ≤ length bytes) × Appends (take n bytes) old new

-- the named file holds a prefix of these bytes
abbrev pub HoldsPrefix : List ℕ → List ℕ → Outside → Type 0
HoldsPrefix name bytes o = (n : ℕ) × (n ≤ length bytes) × (o.file name ≡ Some (take n bytes))

-- of the bytes that it was to hold, or it holds what it held
abbrev pub IsCutOff : List ℕ → List ℕ → Outside → Outside → Type 0
IsCutOff name bytes old new = (new.file name ≡ old.file name) ⊎ HoldsPrefix name bytes new

-- nothing has changed
pub record SameOutside (old new : Outside) : Type 0 where
  pub mode : new.mode ≡ old.mode
  pub reading : new.reading ≡ old.reading
  pub writing : new.writing ≡ old.writing
  pub tells : new.tells ≡ old.tells
  pub files : SameFiles old new
  pub open_name : new.open_name ≡ old.open_name
  pub place : new.place ≡ old.place
