-- The flags that conditions name, as bits.
use Rattle.std.proofs.Common.{◌≡◌, ◌⊎◌, inl, inr, ℕ, ◌+◌, ◌<◌, ◌≤◌, ◌||◌, ◌==◌, List, [], ◌∷◌, length, take, get_or, Bool, false, refl, sym, ap, subst, ◌∙◌, arith}
use Rattle.std.specs.List.{list_any, flat_map}
use Rattle.std.proofs.lemmas.Bool.{cases_lt}
use Rattle.std.proofs.lemmas.List.{take_all}
use Rattle.std.proofs.lemmas.List.Folds.{list_any_more, list_any-append}
use Rattle.asm_core.specs.Flag.{flag_number}
use Rattle.asm_core.specs.declared.flag.Flag.{Flag}
use Rattle.asm_core.specs.declared.cond.Cond.{Cond}
use Rattle.asm_core.specs.declared.interface.OperandIface.{OperandIface}
use Rattle.asm_core.specs.declared.interface.Interface.{Interface}
use Rattle.blk_deps.specs.Rules.{condition_flags, flags_of_output}
use Rattle.blk_deps.specs.Ground.{has_bit, is_result_flag}
use Rattle.blk_deps.proofs.GroundPlaces.{below_seven}

-- some of these is the flag of that number
abbrev pub names_flag : ℕ → List Flag → Bool
names_flag f gs = list_any (λ (g : Flag). flag_number g == f) gs

-- what the first k operands name is there
pub record FlagsBelow (i : Interface) (has : ℕ → Bool) (k : ℕ) : Type 0 where
  pub each : (f : ℕ) → f < 6 → has f ≡ list_any (λ (o : OperandIface). names_flag f (flags_of_output o))
      (take k i.operands)

pub flags_start : (i : Interface) (has : ℕ → Bool) → ((f : ℕ) → has f ≡ false) → FlagsBelow i has 0
flags_start i has none = record { each = λ f lt. none f }

pub flags_more : (i : Interface) (has next named : ℕ → Bool) (k : ℕ) (o : OperandIface) → k < length i.operands
    → get_or i.operands k o ≡ o
    → ((f : ℕ) → f < 6 → named f ≡ names_flag f (flags_of_output o)) → ((f : ℕ) → next f ≡ (has f || named f))
    → FlagsBelow i has k → FlagsBelow i next (k + 1)
flags_more i has next named k o lt here told joined below = record {
  each = λ f within.
      joined f ∙ ap (λ b. b || named f) (below.each f within)
      ∙ ap (λ b. list_any (λ (q : OperandIface). names_flag f (flags_of_output q)) (take k i.operands) || b)
      (told f within ∙ ap (λ (q : OperandIface). names_flag f (flags_of_output q)) (sym here))
      ∙ sym (list_any_more (λ (q : OperandIface). names_flag f (flags_of_output q)) i.operands k o lt);
}

any_flat : (f : ℕ) (os : List OperandIface)
    → list_any (λ (o : OperandIface). names_flag f (flags_of_output o)) os ≡ names_flag f (flat_map flags_of_output os)
any_flat f [] = refl
any_flat f (o ∷ os) =
    ap (λ b. names_flag f (flags_of_output o) || b) (any_flat f os)
    ∙ sym (list_any-append (λ (g : Flag). flag_number g == f) (flags_of_output o) (flat_map flags_of_output os))

pub flags_all : (i : Interface) (has : ℕ → Bool) (k : ℕ) → length i.operands ≤ k → FlagsBelow i has k → (f : ℕ) → f < 6
    → has f ≡ is_result_flag i f
flags_all i has k le below f within =
    below.each f within ∙ ap (list_any (λ (o : OperandIface). names_flag f (flags_of_output o)))
    (take_all k i.operands le) ∙ any_flat f i.operands

-- ---- a condition

-- the bits are the flags that the condition names
pub record Tells (w : ℕ) (cond : Cond) : Type 0 where
  pub each : (f : ℕ) → f < 6 → has_bit w f ≡ names_flag f (condition_flags cond)

pub tells : (w : ℕ) (cond : Cond) → has_bit w 0 ≡ names_flag 0 (condition_flags cond)
    → has_bit w 1 ≡ names_flag 1 (condition_flags cond) → has_bit w 2 ≡ names_flag 2 (condition_flags cond)
    → has_bit w 3 ≡ names_flag 3 (condition_flags cond) → has_bit w 4 ≡ names_flag 4 (condition_flags cond)
    → has_bit w 5 ≡ names_flag 5 (condition_flags cond) → Tells w cond
tells w cond cf pf af zf sf of = record {
  each = λ f lt.
      (elim (cases_lt f 5) [
        | inl less ↦ below_seven (λ n. n < 5 → has_bit w n ≡ names_flag n (condition_flags cond)) (λ _. cf) (λ _. pf)
            (λ _. af) (λ _. zf) (λ _. sf) (λ lt5. absurd (omega arith)) (λ lt5. absurd (omega arith)) f (omega arith)
            less
        | inr more ↦ let five : f ≡ 5 = omega arith in subst (λ n. has_bit w n ≡ names_flag n (condition_flags cond))
            (sym five) of
      ]);
}

-- one of two conditions that name the same
pub by_either : (w : ℕ) (cond one other : Cond) → (cond ≡ one) ⊎ (cond ≡ other) → Tells w one → Tells w other → (f : ℕ)
    → f < 6 → has_bit w f ≡ names_flag f (condition_flags cond)
by_either w cond one other is a b f lt = elim is [
  | inl e ↦ a.each f lt ∙ sym (ap (λ x. names_flag f (condition_flags x)) e)
  | inr e ↦ b.each f lt ∙ sym (ap (λ x. names_flag f (condition_flags x)) e)
]
