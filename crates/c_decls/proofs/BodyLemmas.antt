-- What bodies declare at a level of nesting, and which struct or union they complete.
use Rattle.std.proofs.Common.{◌≡◌, ℕ, suc, ◌-◌, ◌<◌, ◌≤◌, true, false, Some, length, refl, ◌∙◌, ap, arith}
use Rattle.std.proofs.lemmas.List.{set_past}
use Rattle.c_types.specs.declared.tag.Tag.{Tag}
use Rattle.c_words.specs.File.{File}
use Rattle.c_words.specs.Words.{start_at}
use Rattle.c_words.specs.declared.word.TagWord.{TagWord}
use Rattle.c_words.specs.declared.word.TagWord.TheVariants as tag_words
use Rattle.c_scopes.specs.Seen.{Declared}
use Rattle.c_decls.specs.Hiding.{hidden_body}
use Rattle.c_decls.specs.Enumerators.{enum_declared}
use Rattle.c_decls.specs.Bodies.{body_declared, completed, struct_declared}

-- ---- a level of nesting

body-zero : (f : File) (to : ℕ) (kind : TagWord) (i : ℕ) (seen : Declared) → body_declared f to 0 kind i seen ≡ hidden_body f (start_at f i) to kind i seen
unfolding body_declared
body-zero f to kind i seen = refl

struct-suc : (f : File) (to d i : ℕ) (seen : Declared)
    → body_declared f to (suc d) tag_words.Struct i seen ≡ struct_declared f to d (body_declared f to d) false i seen
unfolding body_declared
struct-suc f to d i seen = refl

union-suc : (f : File) (to d i : ℕ) (seen : Declared)
    → body_declared f to (suc d) tag_words.Union i seen ≡ struct_declared f to d (body_declared f to d) true i seen
unfolding body_declared
union-suc f to d i seen = refl

enum-suc : (f : File) (to d i : ℕ) (seen : Declared) → body_declared f to (suc d) tag_words.Enum i seen ≡ enum_declared f to d i seen
unfolding body_declared
enum-suc f to d i seen = refl

pub body-none : (f : File) (to d : ℕ) (kind : TagWord) (i : ℕ) (seen : Declared) → d ≡ 0 → body_declared f to d kind i seen ≡ hidden_body f (start_at f i) to kind i seen
body-none f to d kind i seen e = rw e (body-zero f to kind i seen)

pub body-struct : (f : File) (to d i : ℕ) (seen : Declared) → 0 < d
    → body_declared f to d tag_words.Struct i seen ≡ struct_declared f to (d - 1) (body_declared f to (d - 1)) false i seen
body-struct f to d i seen lt =
    let e : d ≡ suc (d - 1) = omega arith in
    ap (λ n. body_declared f to n tag_words.Struct i seen) e ∙ struct-suc f to (d - 1) i seen

pub body-union : (f : File) (to d i : ℕ) (seen : Declared) → 0 < d
    → body_declared f to d tag_words.Union i seen ≡ struct_declared f to (d - 1) (body_declared f to (d - 1)) true i seen
body-union f to d i seen lt =
    let e : d ≡ suc (d - 1) = omega arith in
    ap (λ n. body_declared f to n tag_words.Union i seen) e ∙ union-suc f to (d - 1) i seen

pub body-enum : (f : File) (to d i : ℕ) (seen : Declared) → 0 < d → body_declared f to d tag_words.Enum i seen ≡ enum_declared f to (d - 1) i seen
body-enum f to d i seen lt =
    let e : d ≡ suc (d - 1) = omega arith in
    ap (λ n. body_declared f to n tag_words.Enum i seen) e ∙ enum-suc f to (d - 1) i seen

pub ruleset body_steps = (body-none, body-struct, body-union, body-enum)

-- ---- a number past the last

pub completed-past : (t : Tag) (seen : Declared) (number : ℕ) → length seen.tags.list ≤ number → completed t seen (Some number) ≡ seen
completed-past t seen number le = rw (set_past seen.tags.list number t le) refl

pub ruleset completed_steps = (completed-past)
