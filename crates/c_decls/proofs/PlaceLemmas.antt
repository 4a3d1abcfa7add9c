-- The innermost of the open blocks.
use Rattle.std.proofs.Common.{◌≡◌, ◌-◌, List, [], ◌∷◌, ◌++◌, Some, None, length, take, refl, ◌∙◌, ap, arith}
use Rattle.std.proofs.lemmas.List.{length-append}
use Rattle.std.proofs.Math.Seq.{take-append_seam}
use Rattle.c_scopes.proofs.Places.{slice_get-last}
use Rattle.c_decls.specs.declared.place.Frame.{Frame}
use Rattle.c_decls.specs.declared.place.Place.{Place}
use Rattle.c_decls.specs.Places.{last_frame, left}

but_last : (xs : List Frame) (x : Frame) → length (xs ++ x ∷ []) - 1 ≡ length xs
but_last xs x = let more = length-append xs (x ∷ []) in omega (arith, more)

last_whole : (xs : List Frame) (x : Frame) → last_frame (xs ++ x ∷ []) ≡ Some x
last_whole xs x = let at : length (xs ++ x ∷ []) - 1 ≡ length xs = but_last xs x in rw at (slice_get-last xs x)

take_whole : (xs : List Frame) (x : Frame) → take (length (xs ++ x ∷ []) - 1) (xs ++ x ∷ []) ≡ xs
take_whole xs x = let at : length (xs ++ x ∷ []) - 1 ≡ length xs = but_last xs x in rw at (take-append_seam xs (x ∷ []))

-- the innermost block closes
pub left-one : (p : Place) (xs : List Frame) (x : Frame) → p.frames ≡ xs ++ x ∷ [] → left p ≡ record { frames = xs; next = x.behind; sealed = x.sealed }
left-one p xs x e =
    let last : last_frame p.frames ≡ Some x = ap last_frame e ∙ last_whole xs x in
    let rest : take (length p.frames - 1) p.frames ≡ xs = ap (λ fs. take (length fs - 1) fs) e ∙ take_whole xs x in
    rw (last, rest) refl

-- there is none
pub left-none : (p : Place) → p.frames ≡ [] → left p ≡ p
left-none p e = let none : last_frame p.frames ≡ None = ap last_frame e in rw none refl

pub ruleset frame_rules = (left-one, left-none)
