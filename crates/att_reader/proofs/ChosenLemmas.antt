-- The rows of the table one by one.
use Rattle.std.proofs.Common.{◌≡◌, ◌∙◌, ◌<◌, ◌≤◌, ◌+◌, ◌==◌, ℕ, zero, suc, List, [], ◌∷◌, length, map, take, drop, get_or, slice_get, count_by, Option, None, Some, false, if◌then◌else◌, refl, ap, zero-add}
use Rattle.std.proofs.Math.Seq.{drop-nil}
use Rattle.std.proofs.lemmas.Option.{slice_get-map}
use Rattle.std.proofs.lemmas.List.{drop_more, drop_all, map_more, take_all}
use Rattle.std.proofs.lemmas.List.Sums.{sum_by-append}
use Rattle.asm_core.specs.Reading.Chosen.{Class, choice_in, class_of, first_choice, is_memory, lock_fits}
use Rattle.asm_core.specs.declared.inst.Width.{Width}
use Rattle.asm_core.specs.declared.reading.LineOperand.{LineOperand}
use Rattle.asm_core.specs.declared.names.Choice.{Choice}
use Rattle.att_reader.specs.Table.{row_of}
use Rattle.att_reader.specs.declared.table.NameEntry.{NameEntry}

pub choice_found : (name : List ℕ) (suffix : Option Width) (cs : List Class) (es : List NameEntry) (i : ℕ)
    (d : NameEntry) (c : Choice) → i < length es
    → choice_in name suffix cs (row_of (get_or es i d)) ≡ Some c
    → first_choice name suffix cs (map row_of (drop i es)) ≡ Some c
choice_found name suffix cs es i d c lt e = rw (drop_more es i d lt, e) refl

pub choice_passed : (name : List ℕ) (suffix : Option Width) (cs : List Class) (es : List NameEntry) (i : ℕ)
    (d : NameEntry) → i < length es
    → choice_in name suffix cs (row_of (get_or es i d)) ≡ None
    → first_choice name suffix cs (map row_of (drop i es)) ≡ first_choice name suffix cs (map row_of (drop (i + 1) es))
choice_passed name suffix cs es i d lt e = rw (drop_more es i d lt, e) refl

pub choice_none : (name : List ℕ) (suffix : Option Width) (cs : List Class) (es : List NameEntry) (i : ℕ)
    → length es ≤ i → first_choice name suffix cs (map row_of (drop i es)) ≡ None
choice_none name suffix cs es i le = rw (drop_all i es le) refl

pub ruleset choice_steps = (choice_found, choice_passed, choice_none)

abbrev pub memory_in : List LineOperand → ℕ
memory_in os = count_by is_memory (map class_of os)

pub memory_more : (os : List LineOperand) (i : ℕ) (d : LineOperand) → i < length os
    → memory_in (take (i + 1) os) ≡ memory_in (take i os) + (if is_memory (class_of (get_or os i d)) then 1 else 0)
memory_more os i d lt =
    let f : Class → ℕ = λ c. if is_memory c then 1 else 0 in
    let c = class_of (get_or os i d) in
    ap (count_by is_memory) (map_more class_of os i d lt)
    ∙ (sum_by-append f (map class_of (take i os)) (c ∷ []) ∙ rw (zero-add (f c)) refl)

pub memory_all : (os : List LineOperand) (i : ℕ) → length os ≤ i → memory_in (take i os) ≡ memory_in os
memory_all os i le = rw (take_all i os le) refl

pub ruleset memory_steps = (memory_more, memory_all)

front_at : (cs : List Class) (j : ℕ) (c : Class) → slice_get cs j ≡ Some c → take 1 (drop j cs) ≡ c ∷ []
front_at [] j c e = absurd (cc)
front_at (x ∷ cs) zero c e = let same : x ≡ c = cc in rw same refl
front_at (x ∷ cs) (suc j) c e = front_at cs j c e

none_at : (cs : List Class) (j : ℕ) → slice_get cs j ≡ None → take 1 (drop j cs) ≡ []
none_at [] j e = rw (drop-nil j) refl
none_at (x ∷ cs) zero e = absurd (cc)
none_at (x ∷ cs) (suc j) e = none_at cs j e

counts_one : (c : Class) → (count_by is_memory (c ∷ []) == 1) ≡ is_memory c
counts_one Class.Memory = refl
counts_one (Class.Register w count) = refl
counts_one Class.Number = refl
counts_one Class.Label = refl

pub lock_there : (j : ℕ) (os : List LineOperand) (o : LineOperand) → slice_get os j ≡ Some o
    → lock_fits (Some j) (map class_of os) ≡ is_memory (class_of o)
lock_there j os o e =
    let there : slice_get (map class_of os) j ≡ Some (class_of o) = slice_get-map class_of os j ∙ rw e refl in
    rw (front_at (map class_of os) j (class_of o) there) (counts_one (class_of o))

pub lock_absent : (j : ℕ) (os : List LineOperand) → slice_get os j ≡ None → lock_fits (Some j) (map class_of os) ≡ false
lock_absent j os e =
    let absent : slice_get (map class_of os) j ≡ None = slice_get-map class_of os j ∙ rw e refl in
    rw (none_at (map class_of os) j absent) refl

pub ruleset lock_steps = (lock_there, lock_absent)
