-- One step to the end of a group, by the code's own tests.
use Rattle.std.proofs.Common.{◌≡◌, ℕ, ◌+◌, ◌<◌, ◌≤◌, Bool, true, false, List, drop, length, get_or, Some, None, cond, refl, arith, ◌==◌}
use Rattle.std.proofs.lemmas.List.{drop_more, drop_all}
use Rattle.std.proofs.lemmas.Bool.Decides.{nat_tests}
use Rattle.asm_core.specs.TemplateForms.{group_end}

pub group_end-step : (taken : Bool) (text : List ℕ) (i : ℕ) → i < length text
    → group_end taken i (drop i text) ≡ cond taken (group_end false (i + 1) (drop (i + 1) text))
    (cond (get_or text i 0 == 125) (Some (i + 1)) (group_end (get_or text i 0 == 37) (i + 1) (drop (i + 1) text)))
unfolding group_end
group_end-step taken text i lt = rw (drop_more text i 0 lt) refl

pub group_end-done : (taken : Bool) (text : List ℕ) (i : ℕ) → length text ≤ i → group_end taken i (drop i text) ≡ None
unfolding group_end
group_end-done taken text i e = rw (drop_all i text e) refl

pub group_end-taken : (taken : Bool) (text : List ℕ) (i : ℕ) → i < length text → taken ≡ true
    → group_end taken i (drop i text) ≡ group_end false (i + 1) (drop (i + 1) text)
group_end-taken taken text i lt t = grind (arith, nat_tests, group_end-step)

pub group_end-close : (taken : Bool) (text : List ℕ) (i : ℕ) → i < length text → taken ≡ false → get_or text i 0 ≡ 125
    → group_end taken i (drop i text) ≡ Some (i + 1)
group_end-close taken text i lt t e = grind (arith, nat_tests, group_end-step)

pub group_end-other : (taken : Bool) (text : List ℕ) (i : ℕ) → i < length text → taken ≡ false → (get_or text i 0 ≡ 125 → ⊥)
    → group_end taken i (drop i text) ≡ group_end (get_or text i 0 == 37) (i + 1) (drop (i + 1) text)
group_end-other taken text i lt t n = grind (arith, nat_tests, group_end-step)

pub ruleset group_steps = (group_end-done, group_end-taken, group_end-close, group_end-other)
