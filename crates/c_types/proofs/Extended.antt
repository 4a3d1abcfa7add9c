-- The extents of the members from an index on.
use Rattle.std.proofs.Common.{◌≡◌, ℕ, ◌+◌, ◌-◌, ◌≤◌, ◌<◌, Bool, List, [], ◌∷◌, ◌++◌, length, drop, get_or, Option, Some, None, refl, ap, sym, ◌∙◌, append_assoc, append-nil, length-drop, arith}
use Rattle.std.proofs.lemmas.Bool.Decides.{nat_tests}
use Rattle.std.proofs.lemmas.List.{drop_more, drop_all}
use Rattle.std.specs.Prelude.{◌==◌}
use Rattle.std.specs.Option.{option_map}
use Rattle.c_types.specs.declared.ctype.CType.{CType}
use Rattle.c_types.specs.declared.tag.Tags.{Tags}
use Rattle.c_types.specs.declared.extent.Extent.{Extent}
use Rattle.c_types.specs.Layouts.{extents_of, member_extent, with_first}

-- a list, and then another if it is known
abbrev pub after : List Extent → Option (List Extent) → Option (List Extent)
after before rest = option_map (λ (es : List Extent). before ++ es) rest

pub after-nil : (rest : Option (List Extent)) → after [] rest ≡ rest
after-nil None = refl
after-nil (Some es) = refl

pub after-with_first : (before : List Extent) (e : Extent) (rest : Option (List Extent)) → after before (with_first (Some e) rest) ≡ after (before ++ e ∷ []) rest
after-with_first before e None = refl
after-with_first before e (Some es) = ap (λ (xs : List Extent). Some xs) (sym (append_assoc before (e ∷ []) es))

-- nothing is left past the last
is_last : (n m : ℕ) → m ≤ n → (n - m == 0) ≡ (m == n)
is_last n m le = grind (arith, nat_tests)

extents_of-cons : (tags : Tags) (place : ℕ) (t : CType) (ts : List CType) (last : Bool) → (length ts == 0) ≡ last
    → extents_of tags place (t ∷ ts) ≡ with_first (member_extent tags place last t) (extents_of tags place ts)
extents_of-cons tags place t ts last e = ap (λ (b : Bool). with_first (member_extent tags place b t) (extents_of tags place ts)) e

pub extents_of-drop : (tags : Tags) (place : ℕ) (ts : List CType) (k : ℕ) (d : CType) → k < length ts
    → extents_of tags place (drop k ts) ≡ with_first (member_extent tags place (k + 1 == length ts) (get_or ts k d)) (extents_of tags place (drop (k + 1) ts))
extents_of-drop tags place ts k d lt =
    ap (extents_of tags place) (drop_more ts k d lt)
    ∙ extents_of-cons tags place (get_or ts k d) (drop (k + 1) ts) (k + 1 == length ts)
    (ap (λ n. n == 0) (length-drop (k + 1) ts) ∙ is_last (length ts) (k + 1) (omega arith))

-- One more extent is known.
pub after-more : (tags : Tags) (place : ℕ) (ts : List CType) (k : ℕ) (d : CType) (before : List Extent) (e : Extent) → k < length ts
    → member_extent tags place (k + 1 == length ts) (get_or ts k d) ≡ Some e
    → after (before ++ e ∷ []) (extents_of tags place (drop (k + 1) ts)) ≡ after before (extents_of tags place (drop k ts))
after-more tags place ts k d before e lt is =
    let rest : Option (List Extent) = extents_of tags place (drop (k + 1) ts) in
    sym (after-with_first before e rest)
    ∙ ap (λ (first : Option Extent). after before (with_first first rest)) (sym is)
    ∙ ap (after before) (sym (extents_of-drop tags place ts k d lt))

-- A member has none.
pub after-none : (tags : Tags) (place : ℕ) (ts : List CType) (k : ℕ) (d : CType) (before : List Extent) → k < length ts
    → member_extent tags place (k + 1 == length ts) (get_or ts k d) ≡ None
    → after before (extents_of tags place (drop k ts)) ≡ None
after-none tags place ts k d before lt is =
    ap (after before) (extents_of-drop tags place ts k d lt)
    ∙ ap (λ (first : Option Extent). after before (with_first first (extents_of tags place (drop (k + 1) ts)))) is

pub after-all : (tags : Tags) (place : ℕ) (ts : List CType) (k : ℕ) (before : List Extent) → length ts ≤ k
    → after before (extents_of tags place (drop k ts)) ≡ Some before
after-all tags place ts k before le =
    ap (λ (rest : List CType). after before (extents_of tags place rest)) (drop_all k ts le) ∙ ap (λ (es : List Extent). Some es) (append-nil before)
