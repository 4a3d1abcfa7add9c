-- The stacks of the blocks of a statement, and the least lines on which they break the rules.
use Rattle.std.proofs.Common.{◌≡◌, ◌⊎◌, inl, inr, ℕ, zero, suc, ◌-◌, ◌+◌, ◌<◌, ◌≤◌, nat_lt, Bool, true, false, List, [], ◌∷◌, ◌++◌, length, Option, None, Some, slice_get, get_or, if◌then◌else◌, Result, IfOk, refl, sym, ap, subst, ◌∙◌, arith}
use Rattle.std.proofs.lemmas.Bool.{cases_lt}
use Rattle.std.proofs.lemmas.List.{length-append}
use Rattle.std.proofs.lemmas.Bool.Decides.{nat_tests}
use Rattle.std.proofs.lemmas.Result.{IfOk-weaker}
use Rattle.std.proofs.lemmas.Option.{slice_get_within, slice_get-get_or}
use Rattle.x86_rows.proofs.Appended.{slice_get-append_first, slice_get-append_rest}
use Rattle.asm_core.specs.declared.lines.Graph.{Graph}
use Rattle.asm_core.specs.declared.finding.Rule.{Rule}
use Rattle.asm_core.specs.declared.finding.Cell.{Cell}
use Rattle.asm_core.specs.declared.finding.Finding.{Finding}
use Rattle.asm_core.specs.declared.memory.Memory.{Memory}
use Rattle.blk_deps.specs.StackTable.{IsStack, IsLeastOf, IsBrokenOn}
use Rattle.blk_deps.specs.Findings.{alone, IsLeast, AreFindings, IsStackBroken, stack_violations}
use Rattle.blk_deps.specs.Judged.{IsRuleBroken, AreStacks, lesser}
use Rattle.blk_deps.specs.Noting.{AreLeast, findings_at}
use Rattle.blk_deps.proofs.NotingLemmas.{least_found}
use Rattle.blk_deps.specs.declared.stack.Stack.{Stack}
use Rattle.blk_deps.specs.declared.violation.Violation.{Violation}

-- ---- the least line

module _ (P Q : ℕ → Type 0) where
  pub least_as : (o : Option ℕ) → ((line : ℕ) → P line → Q line) → ((line : ℕ) → Q line → P line) → IsLeastOf P o → IsLeastOf Q o
  least_as None up down none = λ line q. none line (down line q)
  least_as (Some n) up down is = record { broken = up n is.broken; least = λ earlier lt q. is.least earlier lt (down earlier q) }

  first_least : (a : ℕ) → IsLeast P a → ((line : ℕ) → line < a → Q line → ⊥) → IsLeast (λ line. P line ⊎ Q line) a
  first_least a one other = record { broken = inl one.broken; least = least }
    where
      least : (earlier : ℕ) → earlier < a → P earlier ⊎ Q earlier → ⊥
      least earlier lt (inl p) = one.least earlier lt p
      least earlier lt (inr q) = other earlier lt q

  second_least : (b : ℕ) → IsLeast Q b → ((line : ℕ) → line < b → P line → ⊥) → IsLeast (λ line. P line ⊎ Q line) b
  second_least b one other = record { broken = inr one.broken; least = least }
    where
      least : (earlier : ℕ) → earlier < b → P earlier ⊎ Q earlier → ⊥
      least earlier lt (inl p) = other earlier lt p
      least earlier lt (inr q) = one.least earlier lt q

  no_least : ((line : ℕ) → P line → ⊥) → ((line : ℕ) → Q line → ⊥) → (line : ℕ) → P line ⊎ Q line → ⊥
  no_least one other line (inl p) = one line p
  no_least one other line (inr q) = other line q

  pub lesser_least : (a b : Option ℕ) → IsLeastOf P a → IsLeastOf Q b → IsLeastOf (λ line. P line ⊎ Q line) (lesser a b)
  lesser_least None None one other = no_least one other
  lesser_least None (Some b) one other = second_least b other (λ line lt. one line)
  lesser_least (Some a) None one other = first_least a one (λ line lt. other line)
  lesser_least (Some a) (Some b) one other = by (nat_lt b a) refl
    where
      above : nat_lt b a ≡ true → b < a
      above is = grind (arith, nat_tests, is)

      below : nat_lt b a ≡ false → a ≤ b
      below is = grind (arith, nat_tests, is)

      by : (less : Bool) → nat_lt b a ≡ less → IsLeastOf (λ line. P line ⊎ Q line) (if less then Some b else Some a)
      by true is = second_least b other (λ line lt. one.least line (let more = above is in omega (arith, lt, more)))
      by false is = first_least a one (λ line lt. other.least line (let more = below is in omega (arith, lt, more)))

-- ---- the blocks

module _ (graphs : List Graph) (rule : Rule) where
  pub no_blocks : IsLeastOf (IsRuleBroken graphs 0 rule) None
  no_blocks line is = let below = is.below in absurd (omega (arith, below))

  module _ (k : ℕ) (g : Graph) (at : slice_get graphs k ≡ Some g) where
    either : (line : ℕ) → IsRuleBroken graphs k rule line ⊎ IsBrokenOn g rule line → IsRuleBroken graphs (k + 1) rule line
    either line (inl is) =
        record { number = is.number; below = let below = is.below in omega (arith, below); graph = is.graph; is_graph = is.is_graph; broken = is.broken }
    either line (inr broken) = record { number = k; below = omega arith; graph = g; is_graph = at; broken = broken }

    apart : (line : ℕ) → IsRuleBroken graphs (k + 1) rule line → IsRuleBroken graphs k rule line ⊎ IsBrokenOn g rule line
    apart line is = elim (cases_lt is.number k) [
      | inl lt ↦ inl (record { number = is.number; below = lt; graph = is.graph; is_graph = is.is_graph; broken = is.broken })
      | inr ge ↦ inr (subst (λ h. IsBrokenOn h rule line) (same (let below = is.below in omega (arith, below, ge))) is.broken)
    ]
      where
        same : is.number ≡ k → is.graph ≡ g
        same there = let one : Some is.graph ≡ Some g = sym is.is_graph ∙ ap (slice_get graphs) there ∙ at in cc

    pub next_least : (a b : Option ℕ) → IsLeastOf (IsRuleBroken graphs k rule) a → IsLeastOf (IsBrokenOn g rule) b
        → IsLeastOf (IsRuleBroken graphs (k + 1) rule) (lesser a b)
    next_least a b one other = least_as (λ line. IsRuleBroken graphs k rule line ⊎ IsBrokenOn g rule line) (IsRuleBroken graphs (k + 1) rule) (lesser a b) either apart
        (lesser_least (IsRuleBroken graphs k rule) (IsBrokenOn g rule) a b one other)

pub element_at : {A : Type 0} (xs : List A) (k : ℕ) (x : A) → k < length xs → x ≡ get_or xs k x → slice_get xs k ≡ Some x
element_at xs k x inside is = slice_get-get_or xs k x inside ∙ ap Some (sym is)

pub stack_at : (graphs : List Graph) (stacks : List Stack) (k : ℕ) (g : Graph) (x : Stack) → AreStacks graphs stacks → k < length graphs
    → g ≡ get_or graphs k g → x ≡ get_or stacks k x → IsStack g x
stack_at graphs stacks k g x are inside is_g is_x =
    are.each k g x (element_at graphs k g inside is_g) (element_at stacks k x (let count = are.count in omega (arith, inside, count)) is_x)

-- ---- the stacks

-- the stacks of the first blocks, so many
pub record AreFirst (graphs : List Graph) (number : ℕ) (stacks : List Stack) : Type 0 where
  pub count : length stacks ≡ number
  pub each : (k : ℕ) (g : Graph) (x : Stack) → slice_get graphs k ≡ Some g → slice_get stacks k ≡ Some x → IsStack g x

module _ (graphs : List Graph) where
  pub no_stacks : AreFirst graphs 0 []
  no_stacks = record { count = refl; each = λ k g x at there. absurd (let inside = slice_get_within [] k x there in omega (arith, inside)) }

  pub one_stack : (k : ℕ) (g : Graph) (x : Stack) (old new : List Stack) → AreFirst graphs k old → slice_get graphs k ≡ Some g → IsStack g x
      → new ≡ old ++ x ∷ [] → AreFirst graphs (k + 1) new
  one_stack k g x old new are at is makes = record { count = count; each = each }
    where
      count : length new ≡ k + 1
      count = ap length makes ∙ length-append old (x ∷ []) ∙ ap (λ n. n + 1) are.count

      each : (n : ℕ) (h : Graph) (y : Stack) → slice_get graphs n ≡ Some h → slice_get new n ≡ Some y → IsStack h y
      each n h y at_h at_y = elim (cases_lt n k) [
        | inl lt ↦ are.each n h y at_h (sym (slice_get-append_first old (x ∷ []) n (let many = are.count in omega (arith, lt, many))) ∙ sym (ap (λ xs. slice_get xs n) makes) ∙ at_y)
        | inr ge ↦ last (let inside = slice_get_within new n y at_y in omega (arith, ge, inside, count))
      ]
        where
          last : n ≡ k → IsStack h y
          last there = subst (IsStack h) same_y (subst (λ i. IsStack i x) same_h is)
            where
              same_h : g ≡ h
              same_h = let one : Some g ≡ Some h = sym at ∙ sym (ap (slice_get graphs) there) ∙ at_h in cc

              behind : length old ≤ k
              behind = let many = are.count in omega (arith, many)

              zero : k - length old ≡ 0
              zero = let many = are.count in omega (arith, many)

              at_x : slice_get new k ≡ Some x
              at_x = ap (λ xs. slice_get xs k) makes ∙ slice_get-append_rest old (x ∷ []) k behind ∙ ap (slice_get (x ∷ [])) zero

              same_y : x ≡ y
              same_y = let one : Some x ≡ Some y = sym at_x ∙ sym (ap (slice_get new) there) ∙ at_y in cc

  pub all_stacks : (k : ℕ) (stacks : List Stack) → k ≡ length graphs → AreFirst graphs k stacks → AreStacks graphs stacks
  all_stacks k stacks all are = record { count = are.count ∙ all; each = are.each }

-- ---- the rules

module _ (graphs : List Graph) where
  least_of : (rule : Rule) (line : Option ℕ) → IsLeastOf (IsRuleBroken graphs (length graphs) rule) line → IsLeastOf (IsStackBroken graphs (alone rule Cell.Nothing)) line
  least_of rule line = least_as (IsRuleBroken graphs (length graphs) rule) (IsStackBroken graphs (alone rule Cell.Nothing)) line up down
    where
      up : (at : ℕ) → IsRuleBroken graphs (length graphs) rule at → IsStackBroken graphs (alone rule Cell.Nothing) at
      up at is = record {
        number = is.number;
        graph = is.graph;
        is_graph = is.is_graph;
        node = is.broken.node;
        breaks = is.broken.breaks;
        is_line = is.broken.is_line;
      }

      down : (at : ℕ) → IsStackBroken graphs (alone rule Cell.Nothing) at → IsRuleBroken graphs (length graphs) rule at
      down at is = record {
        number = is.number;
        below = slice_get_within graphs is.number is.graph is.is_graph;
        graph = is.graph;
        is_graph = is.is_graph;
        broken = record { node = is.node; breaks = is.breaks; is_line = is.is_line };
      }

  pub are_least : (a b c : Option ℕ)
      → IsLeastOf (IsRuleBroken graphs (length graphs) Rule.S1) a → IsLeastOf (IsRuleBroken graphs (length graphs) Rule.S2) b
      → IsLeastOf (IsRuleBroken graphs (length graphs) Rule.S3) c
      → AreLeast (IsStackBroken graphs) stack_violations (a ∷ b ∷ c ∷ [])
  are_least a b c one two three = record { count = refl; each = each }
    where
      move : (v w : Violation) (o line : Option ℕ) → Some w ≡ Some v → Some o ≡ Some line → IsLeastOf (IsStackBroken graphs w) o → IsLeastOf (IsStackBroken graphs v) line
      move v w o line same there is = subst (IsLeastOf (IsStackBroken graphs v)) (cc) (subst (λ u. IsLeastOf (IsStackBroken graphs u) o) (cc) is)

      each : (t : ℕ) (v : Violation) (line : Option ℕ) → slice_get stack_violations t ≡ Some v → slice_get (a ∷ b ∷ c ∷ []) t ≡ Some line
          → IsLeastOf (IsStackBroken graphs v) line
      each zero v line at there = move v (alone Rule.S1 Cell.Nothing) a line at there (least_of Rule.S1 a one)
      each (suc zero) v line at there = move v (alone Rule.S2 Cell.Nothing) b line at there (least_of Rule.S2 b two)
      each (suc (suc zero)) v line at there = move v (alone Rule.S3 Cell.Nothing) c line at there (least_of Rule.S3 c three)
      each (suc (suc (suc t))) v line at there = absurd (let inside = slice_get_within (a ∷ b ∷ c ∷ []) (suc (suc (suc t))) line there in omega (arith, inside))

  pub all_found : (r : Result (List Finding) Memory) (vs : List Violation) (a b c : Option ℕ) → vs ≡ stack_violations
      → IsLeastOf (IsRuleBroken graphs (length graphs) Rule.S1) a → IsLeastOf (IsRuleBroken graphs (length graphs) Rule.S2) b
      → IsLeastOf (IsRuleBroken graphs (length graphs) Rule.S3) c
      → IfOk r (λ found. found ≡ findings_at vs (a ∷ b ∷ c ∷ [])) → IfOk r (AreFindings (IsStackBroken graphs) stack_violations)
  all_found r vs a b c are one two three = IfOk-weaker r (λ found. found ≡ findings_at vs (a ∷ b ∷ c ∷ [])) (AreFindings (IsStackBroken graphs) stack_violations) each
    where
      each : (found : List Finding) → found ≡ findings_at vs (a ∷ b ∷ c ∷ []) → AreFindings (IsStackBroken graphs) stack_violations found
      each found is = subst (AreFindings (IsStackBroken graphs) stack_violations) (sym (is ∙ ap (λ xs. findings_at xs (a ∷ b ∷ c ∷ [])) are))
          (least_found (IsStackBroken graphs) stack_violations (a ∷ b ∷ c ∷ []) (are_least a b c one two three))
