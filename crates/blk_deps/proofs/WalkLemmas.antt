-- What is noted along a basic block.
use Rattle.std.proofs.Common.{◌≡◌, ◌⊎◌, inl, inr, ℕ, ◌+◌, ◌*◌, ◌<◌, ◌≤◌, ◌&&◌, ◌||◌, nat_lt, List, length, All, Bool, true, false, IsTrue, Some, slice_get, slice_index, refl, sym, ap, subst, ◌∙◌, arith}
use Rattle.std.specs.List.{list_any}
use Rattle.std.proofs.lemmas.Bool.{cases_lt, lt-ltb, le-ltb, false≢true, true≢false}
use Rattle.std.proofs.lemmas.List.{get_or_past}
use Rattle.asm_core.specs.declared.sym.Sym.{Sym}
use Rattle.asm_core.specs.declared.finding.Rule.{Rule}
use Rattle.asm_core.specs.declared.finding.Cell.{Cell}
use Rattle.blk_deps.specs.Facts.{Facts}
use Rattle.blk_deps.specs.Rules.{asks_byte_of, breaks_at_line, breaks_u2}
use Rattle.blk_deps.specs.Layout.{places_in}
use Rattle.blk_deps.specs.Ground.{has_bit}
use Rattle.blk_deps.specs.Naming.{lacks_bytes, breaks_by_name}
use Rattle.blk_deps.specs.Blocks.{facts_through}
use Rattle.blk_deps.specs.Findings.{Setting, facts_after}
use Rattle.blk_deps.specs.FlowFacts.{sharing_in}
use Rattle.blk_deps.specs.Noting.{IsNoted, BreaksOn}
use Rattle.blk_deps.specs.Walking.{BreaksByText, BreaksHere, BreaksAlong, is_u2, is_nothing, is_by_text, breaks_by_text, breaks_before}
use Rattle.blk_deps.specs.declared.layout.Layout.{Layout}
use Rattle.blk_deps.specs.declared.fact.Fact.{Fact}
use Rattle.blk_deps.specs.declared.violation.Violation.{Violation}
use Rattle.blk_deps.proofs.AnyLaws.{and_first, and_second, both_true, one_true, or_then, or_else}
use Rattle.blk_deps.proofs.Causes.{line_single}
use Rattle.blk_deps.proofs.FlowLemmas.{alike}
use Rattle.blk_deps.proofs.GroundBits.{no_bit}
use Rattle.blk_deps.proofs.NotingLemmas.{noted_none, noted_then, noted_as}

-- ---- texts

shares_bit : (l : Layout) (sharers : List ℕ) (p q : ℕ) → length sharers ≡ places_in l → q < places_in l → has_bit (slice_index sharers p) q ≡ sharing_in l sharers p q
shares_bit l sharers p q count within = elim (cases_lt p (places_in l)) [
  | inl lt ↦ sym (ap (λ b. b && (nat_lt q (places_in l) && has_bit (slice_index sharers p) q)) (lt-ltb p (places_in l) lt)
      ∙ ap (λ b. b && has_bit (slice_index sharers p) q) (lt-ltb q (places_in l) within))
  | inr ge ↦ ap (λ w. has_bit w q) (get_or_past sharers p 0 (omega (arith, count, ge))) ∙ no_bit q
      ∙ sym (ap (λ b. b && (nat_lt q (places_in l) && has_bit (slice_index sharers p) q)) (le-ltb p (places_in l) ge))
]

lacks_same : (l : Layout) (sharers : List ℕ) (p : ℕ) → length sharers ≡ places_in l
    → lacks_bytes sharers p ≡ (sharing_in l sharers p 4 || (sharing_in l sharers p 5 || sharing_in l sharers p 6))
lacks_same l sharers p count =
    let bit = slice_index sharers p in
    ap (λ a. a || (has_bit bit 5 || has_bit bit 6)) (shares_bit l sharers p 4 count (omega arith))
    ∙ ap (λ b. sharing_in l sharers p 4 || (b || has_bit bit 6)) (shares_bit l sharers p 5 count (omega arith))
    ∙ ap (λ c. sharing_in l sharers p 4 || (sharing_in l sharers p 5 || c)) (shares_bit l sharers p 6 count (omega arith))

pub name_same : (l : Layout) (sharers : List ℕ) (line : Sym) (cell : Cell) → length sharers ≡ places_in l
    → breaks_by_name sharers line cell ≡ breaks_u2 (sharing_in l sharers) line cell
name_same l sharers line (Cell.Operand k) count = ap (λ b. list_any (asks_byte_of k) line.args && b) (lacks_same l sharers (7 + k) count)
name_same l sharers line (Cell.Reg r) count = refl
name_same l sharers line (Cell.Flag f) count = refl
name_same l sharers line Cell.Memory count = refl
name_same l sharers line Cell.Cc count = refl
name_same l sharers line Cell.Nothing count = refl

is_rule : (rule : Rule) → is_u2 rule ≡ true → rule ≡ Rule.U2
is_rule Rule.U2 is = refl
is_rule Rule.W1 is = absurd (false≢true is)
is_rule Rule.W2 is = absurd (false≢true is)
is_rule Rule.W3 is = absurd (false≢true is)
is_rule Rule.W4 is = absurd (false≢true is)
is_rule Rule.M1 is = absurd (false≢true is)
is_rule Rule.M2 is = absurd (false≢true is)
is_rule Rule.R1 is = absurd (false≢true is)
is_rule Rule.R2 is = absurd (false≢true is)
is_rule Rule.R3 is = absurd (false≢true is)
is_rule Rule.U1 is = absurd (false≢true is)
is_rule Rule.U3 is = absurd (false≢true is)
is_rule Rule.U4 is = absurd (false≢true is)
is_rule Rule.S1 is = absurd (false≢true is)
is_rule Rule.S2 is = absurd (false≢true is)
is_rule Rule.S3 is = absurd (false≢true is)
is_rule Rule.J1 is = absurd (false≢true is)
is_rule Rule.K1 is = absurd (false≢true is)
is_rule Rule.K2 is = absurd (false≢true is)

is_no_cell : (cell : Cell) → is_nothing cell ≡ true → cell ≡ Cell.Nothing
is_no_cell Cell.Nothing is = refl
is_no_cell (Cell.Operand k) is = absurd (false≢true is)
is_no_cell (Cell.Reg r) is = absurd (false≢true is)
is_no_cell (Cell.Flag f) is = absurd (false≢true is)
is_no_cell Cell.Memory is = absurd (false≢true is)
is_no_cell Cell.Cc is = absurd (false≢true is)

-- ---- one instruction

pub before_then : (x : Setting) (depth : ℕ) (inst : Sym) (facts : Facts) (v : Violation) (r : Bool) → breaks_by_text x inst v ≡ true → r ≡ true
    → r ≡ breaks_before x depth inst facts v
unfolding breaks_before
before_then x depth inst facts v r text is = or_then r (breaks_by_text x inst v) (breaks_at_line x.interface x.live x.shape depth inst v facts) text is

pub before_else : (x : Setting) (depth : ℕ) (inst : Sym) (facts : Facts) (v : Violation) (r : Bool) → breaks_by_text x inst v ≡ false
    → r ≡ breaks_at_line x.interface x.live x.shape depth inst v facts → r ≡ breaks_before x depth inst facts v
unfolding breaks_before
before_else x depth inst facts v r text is = or_else r (breaks_by_text x inst v) (breaks_at_line x.interface x.live x.shape depth inst v facts) text is

module _ (x : Setting) where
  abbrev By : ℕ → Sym → Facts → Violation → Type 0
  By n inst facts v = BreaksByText x inst v ⊎ (breaks_at_line x.interface x.live x.shape (slice_index x.depths n) inst v facts ≡ true)

  text_true : (inst : Sym) (v : Violation) → BreaksByText x inst v → (is_by_text v && breaks_u2 x.shares inst v.cell) ≡ true
  text_true inst v is = both_true (is_by_text v) (breaks_u2 x.shares inst v.cell) (both_true (is_u2 v.rule) (is_nothing v.other) (ap is_u2 is.rule) (ap is_nothing is.other)) is.breaks

  true_text : (inst : Sym) (v : Violation) → (is_by_text v && breaks_u2 x.shares inst v.cell) ≡ true → BreaksByText x inst v
  true_text inst v is =
      let text = and_first (is_by_text v) (breaks_u2 x.shares inst v.cell) is in record {
        rule = is_rule v.rule (and_first (is_u2 v.rule) (is_nothing v.other) text);
        other = is_no_cell v.other (and_second (is_u2 v.rule) (is_nothing v.other) text);
        breaks = and_second (is_by_text v) (breaks_u2 x.shares inst v.cell) is;
      }

  before_true : (n : ℕ) (inst : Sym) (facts : Facts) (v : Violation) → By n inst facts v → breaks_before x (slice_index x.depths n) inst facts v ≡ true
  unfolding breaks_before
  before_true n inst facts v (inl text) = ap (λ b. b || breaks_at_line x.interface x.live x.shape (slice_index x.depths n) inst v facts) (text_true inst v text)
  before_true n inst facts v (inr by) = ap (λ b. (is_by_text v && breaks_u2 x.shares inst v.cell) || b) by ∙ any_or (is_by_text v && breaks_u2 x.shares inst v.cell)
    where
      any_or : (b : Bool) → (b || true) ≡ true
      any_or true = refl
      any_or false = refl

  true_before : (n : ℕ) (inst : Sym) (facts : Facts) (v : Violation) → breaks_before x (slice_index x.depths n) inst facts v ≡ true → By n inst facts v
  unfolding breaks_before
  true_before n inst facts v is = elim (one_true (is_by_text v && breaks_u2 x.shares inst v.cell) (breaks_at_line x.interface x.live x.shape (slice_index x.depths n) inst v facts) is) [
    | inl text ↦ inl (true_text inst v text)
    | inr by ↦ inr by
  ]

  pub noted_here : (n : ℕ) (inst : Sym) (facts : Facts) (vs : List Violation) (old new : List ℕ) → slice_get x.graph.insts n ≡ Some inst
      → IsNoted (BreaksOn (breaks_before x (slice_index x.depths n) inst facts) (n + 1)) vs old new → IsNoted (BreaksHere x n facts) vs old new
  noted_here n inst facts vs old new at noted =
      noted_as old new
      (λ v line p. record { inst = inst; is_inst = at; breaks = true_before n inst facts v p.1; is_line = p.0 })
      (λ v line h. (h.is_line, before_true n inst facts v (subst (λ i. By n i facts v) (let e : Some h.inst ≡ Some inst = sym h.is_inst ∙ at in same_some h.inst inst e) h.breaks)))
      noted
    where
      same_some : (a b : Sym) → Some a ≡ Some b → a ≡ b
      same_some a b e = cc

  -- the same facts
  here_alike : (n : ℕ) (one other : Facts) → ((fact : Fact) → one fact ≡ other fact) → (v : Violation) (line : ℕ) → BreaksHere x n one v line → BreaksHere x n other v line
  here_alike n one other same v line h = record { inst = h.inst; is_inst = h.is_inst; breaks = by h.breaks; is_line = h.is_line }
    where
      by : By n h.inst one v → By n h.inst other v
      by (inl text) = inl text
      by (inr is) = inr (sym (alike (line_single x.interface x.shape x.live (slice_index x.depths n) h.inst v) one other same) ∙ is)

  -- ---- along a block

  pub none_along : (first : ℕ) (facts : Facts) (vs : List Violation) (xs : List ℕ) → IsNoted (BreaksAlong x first 0 facts) vs xs xs
  none_along first facts vs xs = noted_none xs (λ v line along. let lt = along.within in omega (arith, lt))

  pub one_more_along : (first count : ℕ) (facts now : Facts) (vs : List Violation) (old mid new : List ℕ)
      → ((fact : Fact) → now fact ≡ facts_through (facts_after x) first count facts fact)
      → IsNoted (BreaksAlong x first count facts) vs old mid → IsNoted (BreaksHere x (first + count) now) vs mid new → IsNoted (BreaksAlong x first (count + 1) facts) vs old new
  one_more_along first count facts now vs old mid new same before here = noted_as old new up down (noted_then old mid new before here)
    where
      through : ℕ → Facts
      through n = facts_through (facts_after x) first n facts

      up : (v : Violation) (line : ℕ) → BreaksAlong x first count facts v line ⊎ BreaksHere x (first + count) now v line → BreaksAlong x first (count + 1) facts v line
      up v line (inl along) = record { passed = along.passed; within = let lt = along.within in omega (arith, lt); here = along.here }
      up v line (inr last) = record { passed = count; within = omega arith; here = here_alike (first + count) now (through count) same v line last }

      at_last : (v : Violation) (line passed : ℕ) → passed ≡ count → BreaksHere x (first + passed) (through passed) v line → BreaksHere x (first + count) now v line
      at_last v line passed is h = here_alike (first + count) (through count) now (λ fact. sym (same fact)) v line (subst (λ n. BreaksHere x (first + n) (through n) v line) is h)

      down : (v : Violation) (line : ℕ) → BreaksAlong x first (count + 1) facts v line → BreaksAlong x first count facts v line ⊎ BreaksHere x (first + count) now v line
      down v line along = elim (cases_lt along.passed count) [
        | inl lt ↦ inl (record { passed = along.passed; within = lt; here = along.here })
        | inr ge ↦ inr (at_last v line along.passed (let lt = along.within in omega (arith, lt, ge)) along.here)
      ]
