-- Lists that are pushed piece by piece.
use Rattle.std.proofs.Common.{◌≡◌, ℕ, ◌+◌, List, [], ◌∷◌, ◌++◌, length, map, refl, sym, ap, ◌∙◌, append_assoc, arith}
use Rattle.std.specs.List.{range_with_len}
use Rattle.asm_core.specs.declared.flag.Flag.{Flag}
use Rattle.asm_core.specs.declared.finding.Rule.{Rule}
use Rattle.asm_core.specs.declared.finding.Cell.{Cell}
use Rattle.asm_core.specs.declared.interface.Interface.{Interface}
use Rattle.std.proofs.lemmas.List.FromFn.{map-range_with_len_more}
use Rattle.blk_deps.specs.Operands.{numbers_in}
use Rattle.blk_deps.specs.Findings.{alone, pairs_of, place_names, operands_alone, violations_of}
use Rattle.blk_deps.specs.Listing.{register_names, flag_names, each_alone, changes_of, reads_of, uses_of}
use Rattle.blk_deps.specs.declared.violation.Violation.{Violation}
use Rattle.blk_deps.proofs.ReachLemmas.{counted}

pub two : {A : Type 0} (old first second a b : List A) → first ≡ old ++ a → second ≡ first ++ b → second
    ≡ old ++ (a ++ b)
two old first second a b one other = other ∙ ap (λ l. l ++ b) one ∙ append_assoc old a b

pub three : {A : Type 0} (old first second third a b c : List A) → first ≡ old ++ a → second ≡ first ++ b → third
    ≡ second ++ c → third ≡ old ++ (a ++ (b ++ c))
three old first second third a b c one other last = two old first third a (b ++ c) one
    (two first second third b c other last)

-- a number more
pub numbers_more : (names : List Cell) (k : ℕ) (new : List Cell) → names ≡ map Cell.Operand (range_with_len 0 k)
    → new ≡ names ++ Cell.Operand k ∷ [] → new ≡ map Cell.Operand (range_with_len 0 (k + 1))
numbers_more names k new before pushed = pushed ∙ ap (λ l. l ++ Cell.Operand k ∷ []) before
    ∙ sym (map-range_with_len_more Cell.Operand 0 k k (omega arith))

pub numbers_all : (i : Interface) (names : List Cell) (k : ℕ) → k ≡ length i.operands → names
    ≡ map Cell.Operand (range_with_len 0 k) → names ≡ map Cell.Operand (numbers_in i)
numbers_all i names k all before = before ∙ ap (λ n. map Cell.Operand (range_with_len 0 n)) all
    ∙ ap (map Cell.Operand) (sym (counted 0 i.operands))

-- what is pushed for the operands
map_twice : {A B C : Type 0} (f : B → C) (g : A → B) (xs : List A) → map f (map g xs) ≡ map (λ x. f (g x)) xs
map_twice f g [] = refl
map_twice f g (x ∷ xs) = ap (λ l. f (g x) ∷ l) (map_twice f g xs)

on_operands : (rule : Rule) (i : Interface) → each_alone rule (map Cell.Operand (numbers_in i)) ≡ operands_alone rule i
on_operands rule i = map_twice (alone rule) Cell.Operand (numbers_in i)

joined : (a b d f g h k m p q : List Violation) (x y z n : Violation)
    → (a ++ (b ++ (x ∷ y ∷ z ∷ d))) ++ ((f ++ (g ++ (h ++ (k ++ n ∷ [])))) ++ (m ++ (p ++ q)))
    ≡ ((((((((((((a ++ b) ++ x ∷ []) ++ y ∷ []) ++ z ∷ []) ++ d) ++ f) ++ g) ++ h) ++ k) ++ n ∷ []) ++ m) ++ p) ++ q
joined a b d f g h k m p q x y z n = simp append_assoc

same_lists : (a b d f g h k m p q b₂ d₂ h₂ k₂ m₂ p₂ q₂ : List Violation) (x y z n : Violation) → b ≡ b₂ → d ≡ d₂
    → h ≡ h₂ → k ≡ k₂ → m ≡ m₂ → p ≡ p₂ → q ≡ q₂
    → ((((((((((((a ++ b) ++ x ∷ []) ++ y ∷ []) ++ z ∷ []) ++ d) ++ f) ++ g) ++ h) ++ k) ++ n ∷ []) ++ m) ++ p) ++ q
    ≡ ((((((((((((a ++ b₂) ++ x ∷ []) ++ y ∷ []) ++ z ∷ []) ++ d₂) ++ f) ++ g) ++ h₂) ++ k₂) ++ n ∷ []) ++ m₂) ++ p₂)
    ++ q₂
same_lists a b d f g h k m p q b₂ d₂ h₂ k₂ m₂ p₂ q₂ x y z n eb ed eh ek em ep eq = cc

pub all_parts : (i : Interface) (operands names : List Cell) → operands ≡ map Cell.Operand (numbers_in i) → names
    ≡ register_names ++ operands
    → changes_of operands ++ (reads_of operands ++ uses_of operands names) ≡ violations_of i
unfolding changes_of reads_of uses_of
all_parts i operands names is are =
    joined (each_alone Rule.W1 register_names) (each_alone Rule.W2 operands) (each_alone Rule.M2 operands)
    (each_alone Rule.R1 register_names) (each_alone Rule.R1 flag_names)
    (each_alone Rule.R2 operands) (each_alone Rule.R3 operands) (each_alone Rule.U2 operands)
    (pairs_of Rule.U3 names) (each_alone Rule.U4 operands)
    (alone Rule.W3 Cell.Cc) (alone Rule.W4 (Cell.Flag Flag.Df)) (alone Rule.M1 Cell.Memory) (alone Rule.R3 Cell.Nothing)
    ∙ same_lists (each_alone Rule.W1 register_names) (each_alone Rule.W2 operands) (each_alone Rule.M2 operands)
    (each_alone Rule.R1 register_names) (each_alone Rule.R1 flag_names)
    (each_alone Rule.R2 operands) (each_alone Rule.R3 operands) (each_alone Rule.U2 operands)
    (pairs_of Rule.U3 names) (each_alone Rule.U4 operands)
    (operands_alone Rule.W2 i) (operands_alone Rule.M2 i) (operands_alone Rule.R2 i) (operands_alone Rule.R3 i)
    (operands_alone Rule.U2 i) (pairs_of Rule.U3 (place_names i)) (operands_alone Rule.U4 i)
    (alone Rule.W3 Cell.Cc) (alone Rule.W4 (Cell.Flag Flag.Df)) (alone Rule.M1 Cell.Memory) (alone Rule.R3 Cell.Nothing)
    (of Rule.W2) (of Rule.M2) (of Rule.R2) (of Rule.R3) (of Rule.U2) (ap (pairs_of Rule.U3) (are
    ∙ ap (λ l. register_names ++ l) is)) (of Rule.U4)
  where
    of : (rule : Rule) → each_alone rule operands ≡ operands_alone rule i
    of rule = ap (each_alone rule) is ∙ on_operands rule i

pub five : {A : Type 0} (old l1 l2 l3 l4 l5 a b c d e : List A) → l1 ≡ old ++ a → l2 ≡ l1 ++ b → l3 ≡ l2 ++ c → l4
    ≡ l3 ++ d → l5 ≡ l4 ++ e → l5 ≡ old ++ (a ++ (b ++ (c ++ (d ++ e))))
five old l1 l2 l3 l4 l5 a b c d e e1 e2 e3 e4 e5 = two old l1 l5 a (b ++ (c ++ (d ++ e))) e1 (two l1 l2 l5 b (c ++
    (d ++ e)) e2 (three l2 l3 l4 l5 c d e e3 e4 e5))

pub all_pushed : (i : Interface) (new start : List Violation) (o₂ o₃ o₄ m operands names : List Cell) → start ≡ []
    → o₂ ≡ operands → o₃ ≡ operands → o₄ ≡ operands → m ≡ names
    → operands ≡ map Cell.Operand (numbers_in i) → names ≡ register_names ++ operands
    → new ≡ start ++ (changes_of o₂ ++ (reads_of o₃ ++ uses_of o₄ m)) → new ≡ violations_of i
all_pushed i new start o₂ o₃ o₄ m operands names none e₂ e₃ e₄ em is are pushed =
    pushed ∙ ap (λ l. l ++ (changes_of o₂ ++ (reads_of o₃ ++ uses_of o₄ m))) none
    ∙ ap (λ l. changes_of l ++ (reads_of o₃ ++ uses_of o₄ m)) e₂
    ∙ ap (λ l. changes_of operands ++ (reads_of l ++ uses_of o₄ m)) e₃
    ∙ ap (λ l. changes_of operands ++ (reads_of operands ++ uses_of l m)) e₄
    ∙ ap (λ l. changes_of operands ++ (reads_of operands ++ uses_of operands l)) em
    ∙ all_parts i operands names is are
