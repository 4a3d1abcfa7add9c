-- Which classes are rivals, by what is known of their operands.
use Rattle.std.proofs.Common.{◌≡◌, ◌≢◌, ℕ, ◌+◌, ◌&&◌, ◌||◌, Bool, true, false, refl, arith}
use Rattle.std.proofs.lemmas.Bool.{ne_eqb}
use Rattle.register_search.specs.Assignment.{are_rivals}
use Rattle.asm_places.specs.Classes.{group_for}
use Rattle.asm_places.specs.declared.goal.Asked.{Asked}
use Rattle.asm_places.specs.declared.goal.Goal.TheVariants.{Room, Use}

pub rivals_use : (a : Asked) (k j : ℕ) (e o h f p g : Bool) → k ≢ j → are_rivals (group_for (Use a) k e o h) (group_for (Use a) j f p g) ≡ (e || (f || (o && p)))
rivals_use a k j true o h true p g differ = refl
rivals_use a k j true o h false true g differ = refl
rivals_use a k j true o h false false g differ = refl
rivals_use a k j false true h true p g differ = refl
rivals_use a k j false false h true p g differ = refl
rivals_use a k j false true h false true g differ = refl
rivals_use a k j false true h false false g differ = ne_eqb 0 (2 + j) (λ same. omega arith)
rivals_use a k j false false h false true g differ = ne_eqb (2 + k) 0 (λ same. omega arith)
rivals_use a k j false false h false false g differ = ne_eqb (2 + k) (2 + j) (λ same. differ (omega arith))

-- what is no output is an input
pub rivals_room : (k j : ℕ) (e o h f p g : Bool) → (o ≡ false → h ≡ true) → (p ≡ false → g ≡ true)
    → are_rivals (group_for Room k e o h) (group_for Room j f p g) ≡ (e || (f || ((o && p) || (h && g))))
rivals_room k j true o h true p g i l = refl
rivals_room k j true o h false true true i l = refl
rivals_room k j true o h false true false i l = refl
rivals_room k j true o h false false g i l = refl
rivals_room k j false true true true p g i l = refl
rivals_room k j false true false true p g i l = refl
rivals_room k j false false h true p g i l = refl
rivals_room k j false true true false true true i l = refl
rivals_room k j false true true false true false i l = refl
rivals_room k j false true true false false true i l = refl
rivals_room k j false true true false false false i l = let wrong : false ≡ true = l refl in cc
rivals_room k j false true false false true true i l = refl
rivals_room k j false true false false true false i l = refl
rivals_room k j false true false false false true i l = refl
rivals_room k j false true false false false false i l = let wrong : false ≡ true = l refl in cc
rivals_room k j false false true false true true i l = refl
rivals_room k j false false true false true false i l = refl
rivals_room k j false false true false false true i l = refl
rivals_room k j false false true false false false i l = let wrong : false ≡ true = l refl in cc
rivals_room k j false false false false p g i l = let wrong : false ≡ true = i refl in cc
