-- Where nothing is found along the paths with less told, nothing is found with more told: each finding with more told
-- stands for one with less told, on the same path of the same block.
use Rattle.std.proofs.Common.{◌≡◌, inl, inr, ℕ, zero, suc, Bool, true, List, [], ◌∷◌, ◌++◌, map, Some, slice_get, slice_index, refl, sym, ap, subst}
use Rattle.asm_core.specs.Lists.{IsMember}
use Rattle.asm_core.specs.declared.flag.Flag.{Flag}
use Rattle.asm_core.specs.declared.lines.Graph.{Graph}
use Rattle.asm_core.specs.declared.shape.Shape.{Shape}
use Rattle.asm_core.specs.declared.interface.Interface.{Interface}
use Rattle.asm_core.specs.declared.finding.Rule.{Rule}
use Rattle.asm_core.specs.declared.finding.Cell.{Cell}
use Rattle.dataflow.specs.Paths.{facts_along}
use Rattle.blk_deps.specs.Operands.{numbers_in}
use Rattle.blk_deps.specs.Rules.{registers}
use Rattle.blk_deps.specs.Start.{TellsSharing}
use Rattle.blk_deps.specs.Findings.{Setting, facts_after, start_of, BreaksAt, IsBroken, alone, registers_alone, flags_alone, pairs_of, violations_of, finding_of, AreFindings}
use Rattle.blk_deps.specs.declared.violation.Violation.{Violation}
use Rattle.blk_deps.proofs.Causes.{line_single, end_single}
use Rattle.blk_patch.specs.Upward.{TellsMore, StandsFor, TellsMoreOfAll}
use Rattle.blk_patch.proofs.UpwardTests.{member_first, member_second}
use Rattle.blk_patch.proofs.UpwardFacts.{before, after, sharing_up, along_up}
use Rattle.blk_patch.proofs.UpwardRules.{text_up, line_up, end_up}
use Rattle.blk_patch.proofs.UpwardSharing.{some_sharing}

-- ---- one block

-- what is broken in the place of a break
pub record IsBrokenBefore (old : Interface) (x : Setting) (b : Violation) (n : ℕ) : Type 0 where
  pub violation : Violation
  pub stands : StandsFor old b violation
  pub breaks : BreaksAt x violation n

module _ (old new : Interface) (live fewer : List Shape) (s : Shape) (more : TellsMore old new live fewer s) (g : Graph)
    (depths : List ℕ) (less shares : ℕ → ℕ → Bool) (tells_new : TellsSharing new s less)
    (tells_old : TellsSharing old s shares) where
  abbrev sharing : (p q : ℕ) → less p q ≡ true → shares p q ≡ true
  sharing = sharing_up old new live fewer s more less shares tells_new tells_old

  abbrev was : Setting
  was = before old new live fewer s more g depths less shares sharing

  abbrev now : Setting
  now = after old new live fewer s more g depths less shares sharing

  pub breaks_up : (b : Violation) (n : ℕ) → BreaksAt now b n → IsBrokenBefore old was b n
  breaks_up b n (BreaksAt.at_line m line is on) =
      let found = line_up old new live fewer s more (slice_index depths m) line b
      (facts_along (start_of now) (facts_after now) on.0) on.2 in
      let cause = (line_single old s live (slice_index depths m) line found.violation).cause
      (facts_along (start_of now) (facts_after now) on.0) found.breaks in
      record {
        violation = found.violation;
        stands = found.stands;
        breaks = BreaksAt.at_line m line is (
          on.0,
          on.1,
          cause.enough (facts_along (start_of was) (facts_after was) on.0)
              (along_up old new live fewer s more g depths less shares sharing on.0 cause.fact cause.holds),
        );
      }
  breaks_up b n (BreaksAt.at_end on) =
      let cause = (end_single old s b).cause (facts_along (start_of now) (facts_after now) on.0)
      (end_up old new live fewer s more b (facts_along (start_of now) (facts_after now) on.0) on.2) in
      record {
        violation = b;
        stands = StandsFor.itself;
        breaks = BreaksAt.at_end (
          on.0,
          on.1,
          cause.enough (facts_along (start_of was) (facts_after was) on.0)
              (along_up old new live fewer s more g depths less shares sharing on.0 cause.fact cause.holds),
        );
      }
  breaks_up b n (BreaksAt.by_text m line is rule other breaks) = record {
    violation = b;
    stands = StandsFor.itself;
    breaks = BreaksAt.by_text m line is rule other (text_up less shares sharing line b.cell breaks);
  }

-- ---- what may be broken

abbrev operands_by : Rule → List ℕ → List Violation
operands_by rule ks = map (λ k. alone rule (Cell.Operand k)) ks

-- what may be broken, by the numbers of operands
abbrev violations_by : List ℕ → List Violation
violations_by ks =
    registers_alone Rule.W1
    ++ operands_by Rule.W2 ks
    ++ alone Rule.W3 Cell.Cc ∷ []
    ++ alone Rule.W4 (Cell.Flag Flag.Df) ∷ []
    ++ alone Rule.M1 Cell.Memory ∷ []
    ++ operands_by Rule.M2 ks
    ++ registers_alone Rule.R1 ++ flags_alone Rule.R1
    ++ operands_by Rule.R2 ks
    ++ operands_by Rule.R3 ks ++ alone Rule.R3 Cell.Nothing ∷ []
    ++ operands_by Rule.U2 ks
    ++ pairs_of Rule.U3 (map Cell.Reg registers ++ map Cell.Operand ks)
    ++ operands_by Rule.U4 ks

member_map : {A B : Type 0} (f : A → B) (xs : List A) (x : A) → IsMember x xs → IsMember (f x) (map f xs)
member_map f [] x member = absurd member
member_map f (y ∷ ys) x (inl same) = inl (ap f same)
member_map f (y ∷ ys) x (inr later) = inr (member_map f ys x later)

sixth : (v : Violation) (a b c d e f g h k l m n o p : List Violation) → IsMember v f
    → IsMember v (a ++ b ++ c ++ d ++ e ++ f ++ g ++ h ++ k ++ l ++ m ++ n ++ o ++ p)
sixth v a b c d e f g h k l m n o p member =
    member_first v (a ++ b ++ c ++ d ++ e ++ f ++ g ++ h ++ k ++ l ++ m ++ n ++ o) p
    (member_first v (a ++ b ++ c ++ d ++ e ++ f ++ g ++ h ++ k ++ l ++ m ++ n) o
    (member_first v (a ++ b ++ c ++ d ++ e ++ f ++ g ++ h ++ k ++ l ++ m) n
    (member_first v (a ++ b ++ c ++ d ++ e ++ f ++ g ++ h ++ k ++ l) m
    (member_first v (a ++ b ++ c ++ d ++ e ++ f ++ g ++ h ++ k) l
    (member_first v (a ++ b ++ c ++ d ++ e ++ f ++ g ++ h) k
    (member_first v (a ++ b ++ c ++ d ++ e ++ f ++ g) h
    (member_first v (a ++ b ++ c ++ d ++ e ++ f) g
    (member_second v (a ++ b ++ c ++ d ++ e) f member))))))))

passed_listed : (ks : List ℕ) (k : ℕ) → IsMember k ks
    → IsMember (alone Rule.M2 (Cell.Operand k)) (violations_by ks)
passed_listed ks k member =
    sixth (alone Rule.M2 (Cell.Operand k)) (registers_alone Rule.W1) (operands_by Rule.W2 ks)
    (alone Rule.W3 Cell.Cc ∷ []) (alone Rule.W4 (Cell.Flag Flag.Df) ∷ []) (alone Rule.M1 Cell.Memory ∷ [])
    (operands_by Rule.M2 ks) (registers_alone Rule.R1) (flags_alone Rule.R1) (operands_by Rule.R2 ks)
    (operands_by Rule.R3 ks) (alone Rule.R3 Cell.Nothing ∷ []) (operands_by Rule.U2 ks)
    (pairs_of Rule.U3 (map Cell.Reg registers ++ map Cell.Operand ks)) (operands_by Rule.U4 ks)
    (member_map (λ j. alone Rule.M2 (Cell.Operand j)) ks k member)

listed : (old : Interface) (b c : Violation) → StandsFor old b c → IsMember b (violations_of old)
    → IsMember c (violations_of old)
listed old b c StandsFor.itself member = member
listed old b c (StandsFor.passed k operand named) member = passed_listed (numbers_in old) k operand

-- ---- findings

module _ (Broken : Violation → ℕ → Type 0) where
  pub none_listed : (vs : List Violation) → AreFindings Broken vs [] → (v : Violation) → IsMember v vs → (line : ℕ)
      → Broken v line → ⊥
  unfolding AreFindings
  none_listed [] found v member line broken = absurd member
  none_listed (w ∷ vs) (inl h) v member line broken = let some : [] ≡ finding_of w h.0 ∷ h.2 = h.3 in cc
  none_listed (w ∷ vs) (inr h) v (inl same) line broken = h.0 line (subst (λ u. Broken u line) same broken)
  none_listed (w ∷ vs) (inr h) v (inr later) line broken = none_listed vs h.1 v later line broken

  pub listed_none : (vs : List Violation) → ((v : Violation) → IsMember v vs → (line : ℕ) → Broken v line → ⊥)
      → AreFindings Broken vs []
  unfolding AreFindings
  listed_none [] none = refl
  listed_none (w ∷ vs) none = inr (none w (inl refl), listed_none vs (λ v member. none v (inr member)))

member_at : (xs : List Shape) (n : ℕ) (x : Shape) → slice_get xs n ≡ Some x → IsMember x xs
member_at [] n x is = cc
member_at (y ∷ ys) zero x is = inl (let same : Some y ≡ Some x = is in let one : y ≡ x = cc in sym one)
member_at (y ∷ ys) (suc n) x is = inr (member_at ys n x is)

module _ (old new : Interface) (live fewer : List Shape) (graphs others : List Graph)
    (all : TellsMoreOfAll old new live fewer graphs others) where
  -- it can't be that nothing is found with less told where this is found with more told
  pub broken_up : (b : Violation) (line : ℕ) → IsBroken new fewer others b line
      → (((c : Violation) × StandsFor old b c × IsBroken old live graphs c line) → ⊥) → ⊥
  broken_up b line broken none = some_sharing old broken.shape found
    where
      more : TellsMore old new live fewer broken.shape
      more = all.tells broken.shape (member_at fewer broken.number broken.shape broken.is_shape)

      found : ((shares : ℕ → ℕ → Bool) × TellsSharing old broken.shape shares) → ⊥
      found told =
          let block = all.blocks broken.number broken.shape broken.graph broken.is_shape broken.is_graph in
          let up = breaks_up old new live fewer broken.shape more broken.graph broken.depths broken.shares told.0
          (broken.setting).shares told.1 b broken.node broken.breaks in
          none (
            up.violation,
            up.stands,
            record {
              number = block.number;
              shape = broken.shape;
              graph = broken.graph;
              is_shape = block.is_shape;
              is_graph = block.is_graph;
              depths = broken.depths;
              shares = told.0;
              setting = record { depths = (broken.setting).depths; shares = told.1 };
              node = broken.node;
              breaks = up.breaks;
              is_line = broken.is_line;
            },
          )

  quiet : AreFindings (IsBroken old live graphs) (violations_of old) [] → (b : Violation)
      → IsMember b (violations_of new) → (line : ℕ) → IsBroken new fewer others b line → ⊥
  quiet none b member line broken = broken_up b line broken found
    where
      more : TellsMore old new live fewer broken.shape
      more = all.tells broken.shape (member_at fewer broken.number broken.shape broken.is_shape)

      found : ((c : Violation) × StandsFor old b c × IsBroken old live graphs c line) → ⊥
      found was =
          none_listed (IsBroken old live graphs) (violations_of old) none was.0
          (listed old b was.0 was.1 (subst (λ ks. IsMember b (violations_by ks)) more.numbers member)) line was.2

  pub findings_up : AreFindings (IsBroken old live graphs) (violations_of old) []
      → AreFindings (IsBroken new fewer others) (violations_of new) []
  findings_up none = listed_none (IsBroken new fewer others) (violations_of new) (quiet none)
