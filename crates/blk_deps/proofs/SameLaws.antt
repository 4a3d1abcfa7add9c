-- There is one setting of a block under a shape: which places may share a register, and how many words are pushed at each node, is
-- told in one way alone, so that what is broken in one telling is broken in each.
use Rattle.std.proofs.Common.{◌≡◌, ◌⊎◌, inl, inr, ◌↔◌, ℕ, zero, suc, ◌+◌, ◌-◌, ◌==◌, ◌<◌, ◌≤◌, ◌&&◌, ◌||◌, not, Bool, true, false, IsTrue, List, [], ◌∷◌, length, get_or, Option, None, Some, slice_get, slice_index, refl, sym, ◌∙◌, ap, subst, arith, eq-eqb}
use Rattle.std.proofs.lemmas.Bool.{eqb-true}
use Rattle.std.proofs.lemmas.List.{ext_get_or}
use Rattle.asm_core.specs.declared.sym.Sym.{Sym}
use Rattle.asm_core.specs.declared.lines.Graph.{Graph}
use Rattle.asm_core.specs.declared.shape.Shape.{Shape}
use Rattle.asm_core.specs.declared.interface.Interface.{Interface}
use Rattle.asm_core.specs.declared.finding.Cell.{Cell}
use Rattle.dataflow.specs.Cause.{IsSingle, HasOneCause}
use Rattle.dataflow.specs.Causes.{single_up}
use Rattle.dataflow.specs.Paths.{IsPathTo, facts_along}
use Rattle.blk_deps.specs.Cells.{is_byte, place_of, byte_of}
use Rattle.blk_deps.specs.Facts.{Facts, is_overwriting, overwrites_after, after_reads, after_put, after_puts, dropped, after_moves}
use Rattle.blk_deps.specs.MoveLaws.{puts_law, moves_law}
use Rattle.blk_deps.specs.Start.{TellsSharing, MayShare}
use Rattle.blk_deps.specs.Stack.{AreDepths, HasDepth}
use Rattle.blk_deps.specs.Ways.{size_of, goes}
use Rattle.blk_deps.specs.Line.{line_reads, line_puts}
use Rattle.blk_deps.specs.Rules.{breaks_at_line, breaks_at_end, breaks_u2}
use Rattle.blk_deps.specs.Findings.{Setting, IsSetting, moved_by, facts_after, start_of, OnPath, BreaksAt}
use Rattle.blk_deps.specs.declared.fact.Fact.{Fact}
use Rattle.blk_deps.specs.declared.fact.Fact.TheVariants.{Here, Has, Overwrites, Unwritten, DirectionSet}
use Rattle.blk_deps.specs.declared.step.Read.{Read}
use Rattle.blk_deps.specs.declared.step.Put.{Put}
use Rattle.blk_deps.specs.declared.violation.Violation.{Violation}
use Rattle.blk_deps.proofs.Causes.{line_single, end_single}

-- ---- depths

module _ (g : Graph) (ds es : List ℕ) (are : AreDepths g ds) (other : AreDepths g es) where
  same_depth : (n : ℕ) → slice_index ds n ≡ slice_index es n
  same_depth n = by (slice_index ds n == slice_index es n) refl
    where
      -- where they differed, no path would come to the node, and both would be 0
      differ : (slice_index ds n ≡ slice_index es n → ⊥) → ⊥
      differ unlike =
          let none : (depth : ℕ) → HasDepth g n depth → ⊥ = λ depth has. unlike (are.reached n depth has ∙ sym (other.reached n depth has)) in
          unlike (are.unreached n none ∙ sym (other.unreached n none))

      by : (b : Bool) → (slice_index ds n == slice_index es n) ≡ b → slice_index ds n ≡ slice_index es n
      by true is = eqb-true (slice_index ds n) (slice_index es n) is
      by false is = absurd (differ (λ same. let yes : (slice_index ds n == slice_index es n) ≡ true = eq-eqb (slice_index ds n) (slice_index es n) same in cc))

  pub same_depths : ds ≡ es
  same_depths = ext_get_or 0 ds es (are.count ∙ sym other.count) (λ n below. same_depth n)

-- ---- truth values

same_truth : (a b : Bool) → (a ≡ true → b ≡ true) → (b ≡ true → a ≡ true) → a ≡ b
same_truth true true f g = refl
same_truth true false f g = let no = f refl in cc
same_truth false true f g = let no = g refl in cc
same_truth false false f g = refl

-- a test that one fact makes true is the same of the same facts
pub single_same : {F : Type 0} {test : (F → Bool) → Bool} → IsSingle test → (one other : F → Bool) → ((fact : F) → one fact ≡ other fact) → test one ≡ test other
single_same {F} {test} single one other same =
    same_truth (test one) (test other)
    (λ is. single_up single one other (λ fact holds. sym (same fact) ∙ holds) is)
    (λ is. single_up single other one (λ fact holds. same fact ∙ holds) is)

-- ---- sharing

module _ (i : Interface) (s : Shape) (shares others : ℕ → ℕ → Bool) (tells : TellsSharing i s shares) (tell : TellsSharing i s others) where
  pub same_sharing : (p q : ℕ) → shares p q ≡ others p q
  same_sharing p q = same_truth (shares p q) (others p q) (λ yes. (tell p q).1 ((tells p q).0 yes)) (λ yes. (tells p q).1 ((tell p q).0 yes))

-- ---- facts

module _ (shares others : ℕ → ℕ → Bool) (same : (p q : ℕ) → shares p q ≡ others p q) where
  same_put : (put : Put) (s : Facts) (fact : Fact) → after_put shares put s fact ≡ after_put others put s fact
  same_put (Put.Place u hand) s (Overwrites d c) = rw (same d (place_of c)) refl
  same_put (Put.Place u hand) s Here = refl
  same_put (Put.Place u hand) s (Has c property) = refl
  same_put (Put.Place u hand) s (Unwritten k b) = refl
  same_put (Put.Place u hand) s DirectionSet = refl
  same_put (Put.Plain u hand) s fact = refl
  same_put (Put.Store operand first count) s Here = refl
  same_put (Put.Store operand first count) s (Has c property) = refl
  same_put (Put.Store operand first count) s (Overwrites d c) = refl
  same_put (Put.Store operand first count) s (Unwritten k b) = refl
  same_put (Put.Store operand first count) s DirectionSet = refl
  same_put (Put.Direction on) s Here = refl
  same_put (Put.Direction on) s (Has c property) = refl
  same_put (Put.Direction on) s (Overwrites d c) = refl
  same_put (Put.Direction on) s (Unwritten k b) = refl
  same_put (Put.Direction on) s DirectionSet = refl

  same_puts : (puts : List Put) (s : Facts) (fact : Fact) → after_puts shares puts s fact ≡ after_puts others puts s fact
  same_puts [] s fact = refl
  same_puts (put ∷ puts) s fact =
      same_puts puts (after_put shares put s) fact
      ∙ single_same ((puts_law others puts).each fact) (after_put shares put s) (after_put others put s) (same_put put s)

  same_dropped : (s t : Facts) → ((fact : Fact) → s fact ≡ t fact) → (fact : Fact) → dropped s fact ≡ dropped t fact
  same_dropped s t is (Has c property) = rw (is Here, is (Has c property)) refl
  same_dropped s t is Here = is Here
  same_dropped s t is (Overwrites d c) = is (Overwrites d c)
  same_dropped s t is (Unwritten k b) = is (Unwritten k b)
  same_dropped s t is DirectionSet = is DirectionSet

  same_moves : (reads : List Read) (puts : List Put) (s : Facts) (fact : Fact) → after_moves shares reads puts s fact ≡ after_moves others reads puts s fact
  same_moves reads puts s fact =
      same_dropped (after_puts shares puts (after_reads reads s)) (after_puts others puts (after_reads reads s)) (same_puts puts (after_reads reads s)) fact

-- ---- settings

module _ (i : Interface) (live : List Shape) (s : Shape) (g : Graph) (depths : List ℕ) (shares others : ℕ → ℕ → Bool) (same : (p q : ℕ) → shares p q ≡ others p q) where
  abbrev first : Setting
  first = record { interface = i; live = live; shape = s; graph = g; depths = depths; shares = shares }

  abbrev second : Setting
  second = record { interface = i; live = live; shape = s; graph = g; depths = depths; shares = others }

  same_by : (n : ℕ) (line : Option Sym) (one other : Facts) → ((fact : Fact) → one fact ≡ other fact) → (fact : Fact) → moved_by first n line one fact ≡ moved_by second n line other fact
  same_by n None one other is fact = is fact
  same_by n (Some line) one other is fact =
      same_moves shares others same (line_reads i s (slice_index depths n) line) (line_puts i s (slice_index depths n) line) one fact
      ∙ single_same ((moves_law others (line_reads i s (slice_index depths n) line) (line_puts i s (slice_index depths n) line)).each fact) one other is

  same_along : (path : List ℕ) (fact : Fact) → facts_along (start_of first) (facts_after first) path fact ≡ facts_along (start_of second) (facts_after second) path fact
  same_along [] fact = refl
  same_along (n ∷ path) fact =
      same_by n (slice_get g.insts n) (facts_along (start_of first) (facts_after first) path) (facts_along (start_of second) (facts_after second) path) (same_along path) fact

  same_path : (n : ℕ) (test : Facts → Bool) → IsSingle test → OnPath first n test → OnPath second n test
  same_path n test single on =
      (on.0, on.1, sym (single_same single (facts_along (start_of first) (facts_after first) on.0) (facts_along (start_of second) (facts_after second) on.0) (same_along on.0)) ∙ on.2)

  same_u2 : (line : Sym) (v : Violation) → breaks_u2 shares line v.cell ≡ breaks_u2 others line v.cell
  same_u2 line v = by v.cell
    where
      by : (c : Cell) → breaks_u2 shares line c ≡ breaks_u2 others line c
      by (Cell.Operand k) = rw (same (7 + k) 4, same (7 + k) 5, same (7 + k) 6) refl
      by (Cell.Reg r) = refl
      by (Cell.Flag f) = refl
      by Cell.Memory = refl
      by Cell.Cc = refl
      by Cell.Nothing = refl

  pub same_breaks : (v : Violation) (n : ℕ) → BreaksAt first v n → BreaksAt second v n
  same_breaks v n (BreaksAt.at_line m line is on) = BreaksAt.at_line m line is (same_path m (breaks_at_line i live s (slice_index depths m) line v) (line_single i s live (slice_index depths m) line v) on)
  same_breaks v n (BreaksAt.at_end on) = BreaksAt.at_end (same_path (size_of g) (breaks_at_end i s v) (end_single i s v) on)
  same_breaks v n (BreaksAt.by_text m line is rule other breaks) = BreaksAt.by_text m line is rule other (subst IsTrue (same_u2 line v) breaks)

-- What is broken in one setting is broken in each other.
module _ (i : Interface) (live : List Shape) (s : Shape) (g : Graph) (ds es : List ℕ) (shares others : ℕ → ℕ → Bool) where
  abbrev here : Setting
  here = record { interface = i; live = live; shape = s; graph = g; depths = ds; shares = shares }

  abbrev there : Setting
  there = record { interface = i; live = live; shape = s; graph = g; depths = es; shares = others }

  pub one_setting : IsSetting here → IsSetting there → (v : Violation) (n : ℕ) → BreaksAt here v n → BreaksAt there v n
  one_setting is other v n breaks =
      subst (λ depths. BreaksAt (record { interface = i; live = live; shape = s; graph = g; depths = depths; shares = others }) v n)
      (same_depths g ds es is.depths other.depths)
      (same_breaks i live s g ds shares others (same_sharing i s shares others is.shares other.shares) v n breaks)
