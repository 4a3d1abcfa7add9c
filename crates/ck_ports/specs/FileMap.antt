-- Files by name.
use Rattle.std.specs.Prelude.{◌≡◌, ◌≢◌, ℕ, List, Option, Vec}
use Rattle.std.specs.Option.{option_map}
use Rattle.std.specs.BTreeMap.{get_by_text}
use Rattle.std.specs.declared.alloc.Global.{Global}
use Rattle.ck_ports.specs.declared.file_map.FileMap.{FileMap}

-- what the named file holds, if it is there
abbrev pub bytes_in : FileMap → List ℕ → Option (List ℕ)
bytes_in map name = option_map (λ (bytes : Vec ℕ Global). bytes.items) (get_by_text map.files name)

-- each file holds what it held
abbrev pub SameFilesIn : FileMap → FileMap → Type 0
SameFilesIn old new = (name : List ℕ) → bytes_in new name ≡ bytes_in old name

-- each file but this one holds what it held
abbrev pub SameOtherFilesIn : List ℕ → FileMap → FileMap → Type 0
SameOtherFilesIn name old new = (other : List ℕ) → other ≢ name → bytes_in new other ≡ bytes_in old other
