-- The direction flag is set behind an instruction only where the facts of the path say so, and at the end it isn't.
use Rattle.std.proofs.Common.{◌≡◌, inl, inr, ℕ, ◌+◌, ◌%◌, ◌==◌, ◌&&◌, nat_lt, not, Bool, true, false, List, [], ◌∷◌, ◌++◌, Option, None, Some, if◌then◌else◌, refl, sym, ap, subst, ◌∙◌, arith}
use Rattle.std.specs.List.{range_with_len, flat_map, cons_option}
use Rattle.std.proofs.lemmas.Bool.{and_parts, and_from, not-true}
use Rattle.asm_core.specs.Entries.{write_to, writes_of, by_of}
use Rattle.asm_core.specs.Flag.{flag_in}
use Rattle.asm_core.specs.Function.{bit}
use Rattle.asm_core.specs.Reading.Placed.{operand_under}
use Rattle.asm_core.specs.RowLaws.{Component, operand_byte, written_byte, IsToldByOne, LeavesCopies, IsLast}
use Rattle.asm_core.specs.Rows.{entry_row}
use Rattle.asm_core.specs.Steps.{Stand}
use Rattle.asm_core.specs.declared.flag.Flag.{Flag}
use Rattle.asm_core.specs.declared.inst.InstArg.{InstArg}
use Rattle.asm_core.specs.declared.inst.Repeat.{Repeat}
use Rattle.asm_core.specs.declared.sym.Arg.{Arg}
use Rattle.asm_core.specs.declared.sym.Sym.{Sym}
use Rattle.asm_core.specs.declared.row.By.{By}
use Rattle.asm_core.specs.declared.row.Written.{Written}
use Rattle.asm_core.specs.declared.row.Write.{Write}
use Rattle.asm_core.specs.declared.micro_op.Site.{Site}
use Rattle.asm_core.specs.declared.micro_op.Target.{Target}
use Rattle.asm_core.specs.declared.micro_op.MicroOp.{MicroOp}
use Rattle.asm_core.specs.declared.finding.Cell.{Cell}
use Rattle.asm_core.specs.declared.finding.Rule.{Rule}
use Rattle.asm_core.specs.declared.shape.Shape.{Shape}
use Rattle.asm_core.specs.declared.interface.Interface.{Interface}
use Rattle.asm_core.specs.declared.placement.Placement.{Placement}
use Rattle.asm_core.specs.declared.machine.Machine.{Machine}
use Rattle.x86_table.specs.TableLaws.{TellsSteps}
use Rattle.x86_table.proofs.EntryLaws.{obeys_table}
use Rattle.blk_deps.specs.Cells.{place_number, byte_cell, word_cell, slice_first}
use Rattle.blk_deps.specs.Facts.{Facts, after_reads, after_puts, after_moves}
use Rattle.blk_deps.specs.Findings.{alone}
use Rattle.blk_deps.specs.Line.{writes_in, line_reads, line_puts, puts_from, puts_to, put_byte, put_word}
use Rattle.blk_deps.specs.Operands.{is_place}
use Rattle.blk_deps.specs.declared.fact.Fact.TheVariants.{Here, DirectionSet}
use Rattle.blk_deps.specs.declared.step.Put.{Put}
use Rattle.blk_frame.specs.Accepted.{EndsSound}
use Rattle.blk_frame.specs.Laws.{IsTableStep}
use Rattle.blk_frame.proofs.Basics.{by_truth, either_false}
use Rattle.blk_frame.proofs.EndRules.{listed_direction}
use Rattle.blk_frame.proofs.LoneEntries.{entry_direction, entry_set, set_row}
use Rattle.blk_frame.proofs.LoneRows.{is_direction, no_direction, sets_direction}

-- An operation that sets the direction flag has no prefix that repeats.
abbrev pub SetsOnce : Sym → Type 0
SetsOnce line = sets_direction line.op ≡ true → line.repeat ≡ Repeat.No

-- ---- rows that leave it

abbrev df : Component
df = Component.FlagBit Flag.Df

abbrev IsStillTo : Written → Type 0
IsStillTo (Written.Flag Flag.Df) = ⊥
IsStillTo to = Unit {0}

abbrev AreStill : List Write → Type 0
AreStill [] = Unit {0}
AreStill (w ∷ ws) = IsStillTo w.to × AreStill ws

still_cons : (line : Sym) (by : By) (target : Target) (ws : List Write) → is_direction target ≡ false → AreStill ws
    → AreStill (cons_option (write_to line by target) ws)
still_cons line by (Target.Site (Site.Argument k bytes)) ws none are = (tt, are)
still_cons line by (Target.Site (Site.Register r bytes)) ws none are = (tt, are)
still_cons line by (Target.Site (Site.Pointed r)) ws none are = (tt, are)
still_cons line by (Target.Site (Site.Flag Flag.Df)) ws none are = cc
still_cons line by (Target.Site (Site.Flag f)) ws none are = (tt, are)
still_cons line by Target.Push ws none are = (tt, are)
still_cons line by Target.Pop ws none are = (tt, are)
still_cons line by target ws none are = are

row_still : (line : Sym) (ops : List MicroOp) → no_direction ops ≡ true → AreStill (writes_of ops line)
row_still line [] none = tt
row_still line (op ∷ ops) none =
    let parts = and_parts (not (is_direction op.target)) (no_direction ops) none in
    still_cons line (by_of line op.function op.x) op.target (writes_of ops line)
    (not-true (is_direction op.target) parts.0) (row_still line ops parts.1)

module _ (p : Placement) (m : Machine) where
  no_operand : (o : Option InstArg) (n : ℕ) → operand_byte o n m ≡ Some df → ⊥
  no_operand None n is = cc
  no_operand (Some (InstArg.Register r slice)) n is = cc
  no_operand (Some (InstArg.Address form k)) n is = cc
  no_operand (Some (InstArg.Number k)) n is = cc
  no_operand (Some (InstArg.Label k)) n is = cc

  no_byte : (to : Written) (o : ℕ) → IsStillTo to → written_byte p m to o ≡ Some df → ⊥
  no_byte (Written.Arg arg) o still is = no_operand (operand_under p arg) o is
  no_byte (Written.Flag Flag.Df) o still is = absurd still
  no_byte (Written.Flag f) o still is = cc
  no_byte Written.Push o still is = cc
  no_byte Written.Pop o still is = cc

  untold : (ws : List Write) → AreStill ws → IsToldByOne p m ws df → ⊥
  untold [] are told = told
  untold (w ∷ ws) are (inl told) = no_byte w.to (w.first + told.0) are.0 told.2
  untold (w ∷ ws) are (inr later) = untold ws are.1 later

-- ---- the facts

abbrev IsStillPut : Put → Type 0
IsStillPut (Put.Direction on) = ⊥
IsStillPut put = Unit {0}

abbrev AreStillPuts : List Put → Type 0
AreStillPuts [] = Unit {0}
AreStillPuts (put ∷ puts) = IsStillPut put × AreStillPuts puts

puts_still : (shares : ℕ → ℕ → Bool) (puts : List Put) (s : Facts) → AreStillPuts puts
    → after_puts shares puts s DirectionSet ≡ s DirectionSet
puts_still shares [] s are = refl
puts_still shares (Put.Place u hand ∷ puts) s are = puts_still shares puts _ are.1
puts_still shares (Put.Plain u hand ∷ puts) s are = puts_still shares puts _ are.1
puts_still shares (Put.Store operand first count ∷ puts) s are = puts_still shares puts _ are.1
puts_still shares (Put.Direction on ∷ puts) s are = absurd are.0

still_append : (xs ys : List Put) → AreStillPuts xs → AreStillPuts ys → AreStillPuts (xs ++ ys)
still_append [] ys first second = second
still_append (put ∷ puts) ys first second = (first.0, still_append puts ys first.1 second)

still_flat : (put : ℕ → List Put) (ns : List ℕ) → ((n : ℕ) → AreStillPuts (put n)) → AreStillPuts (flat_map put ns)
still_flat put [] each = tt
still_flat put (n ∷ ns) each = still_append (put n) (flat_map put ns) (each n) (still_flat put ns each)

still_if : (b : Bool) (put : Put) → IsStillPut put → AreStillPuts (if b then put ∷ [] else [])
still_if true put is = (is, tt)
still_if false put is = tt

module _ (i : Interface) (s : Shape) (depth : ℕ) where
  still_write : (hand : ℕ) (w : Write) (to : Written) → IsStillTo to → AreStillPuts (puts_to i s depth hand w to)
  still_write hand w (Written.Arg (Arg.Register place slice)) still =
      still_flat (λ n. put_byte i s place (slice_first slice + w.first + n) (hand + n)) (range_with_len 0 w.count)
      (λ n. still_if (nat_lt (slice_first slice + w.first + n) 4 && is_place i s (place_number place))
      (Put.Place (byte_cell (place_number place) (slice_first slice + w.first + n)) (hand + n)) tt)
  still_write hand w (Written.Arg (Arg.Memory k)) still =
      still_if (is_place i s (7 + k)) (Put.Store k w.first w.count) tt
  still_write hand w (Written.Arg (Arg.Number n)) still = tt
  still_write hand w (Written.Arg (Arg.Hole n)) still = tt
  still_write hand w (Written.Arg (Arg.Address d b n)) still = tt
  still_write hand w (Written.Arg (Arg.Label n)) still = tt
  still_write hand w (Written.Flag Flag.Df) still = absurd still
  still_write hand w (Written.Flag f) still = (tt, tt)
  still_write hand w Written.Push still = still_flat (λ n. put_word depth n (hand + n)) (range_with_len 0 w.count)
      (λ n. still_if (nat_lt n 4) (Put.Plain (word_cell depth n) (hand + n)) tt)
  still_write hand w Written.Pop still = tt

  still_writes : (ws : List Write) (hand : ℕ) → AreStill ws → AreStillPuts (puts_from i s depth hand ws)
  still_writes [] hand are = tt
  still_writes (w ∷ ws) hand are = still_append (puts_to i s depth hand w w.to)
      (puts_from i s depth (hand + w.count) ws) (still_write hand w w.to are.0)
      (still_writes ws (hand + w.count) are.1)

-- ---- steps

same_truth : (a b : Bool) → bit a ≡ bit b → a ≡ b
same_truth true true e = refl
same_truth false false e = refl
same_truth true false e = absurd (omega (arith, e))
same_truth false true e = absurd (omega (arith, e))

module _ (i : Interface) (s : Shape) (depth : ℕ) (line : Sym) (x : Stand) (step : IsTableStep i s depth line x) where
  tells : TellsSteps line (entry_row line)
  tells = obeys_table.entries line step.placed.few step.plain

  still : sets_direction line.op ≡ false → AreStill (writes_in line)
  still none = row_still line (entry_row line) (entry_direction line none)

  direction_left : sets_direction line.op ≡ false
      → flag_in Flag.Df x.after.flags ≡ flag_in Flag.Df x.before.flags
  direction_left none = same_truth _ _ ((tells.changes x step.stepped).components df
      (untold x.at x.before (writes_in line) (still none)))

  -- what is set is left so
  module _ (n : ℕ) (row : entry_row line ≡ set_row n) where
    abbrev on : Bool
    on = not (n == 0)

    leaves : LeavesCopies x.at line (set_row n) x.before x.after
    leaves = subst (λ ops. LeavesCopies x.at line ops x.before x.after) row
        (tells.copies x step.stepped step.copies)

    abbrev to_direction : Write
    to_direction = record { to = Written.Flag Flag.Df; first = 0; count = 1; by = By.Set on }

    last : IsLast x.at line (set_row n) x.before 0 0 to_direction df
    last = record { op = _; is_op = refl; is_write = refl; within = omega arith; here = refl; last = λ told. told }

    direction_on : flag_in Flag.Df x.after.flags ≡ true → on ≡ true
    direction_on is = by on (sym (ap bit is) ∙ leaves 0 0 to_direction df _ last refl)
      where
        by : (b : Bool) → 1 ≡ bit b % 256 % 2 → b ≡ true
        by true e = refl
        by false e = absurd (omega (arith, e))

    direction_put : (shares : ℕ → ℕ → Bool) (facts : Facts) → facts Here ≡ true
        → flag_in Flag.Df x.after.flags ≡ true
        → after_moves shares (line_reads i s depth line) (line_puts i s depth line) facts DirectionSet ≡ true
    direction_put shares facts here is = subst (λ puts. after_moves shares (line_reads i s depth line) puts facts
        DirectionSet ≡ true) (sym (ap (λ ops. puts_from i s depth 0 (writes_of ops line)) row))
        (and_from on (facts Here) (direction_on is) here)

-- behind a step the direction flag is set only where the facts say so
pub direction_after : (i : Interface) (s : Shape) (shares : ℕ → ℕ → Bool) (depth : ℕ) (line : Sym) (x : Stand)
    (facts : Facts) → SetsOnce line → IsTableStep i s depth line x → facts Here ≡ true
    → (flag_in Flag.Df x.before.flags ≡ true → facts DirectionSet ≡ true) → flag_in Flag.Df x.after.flags ≡ true
    → after_moves shares (line_reads i s depth line) (line_puts i s depth line) facts DirectionSet ≡ true
direction_after i s shares depth line x facts once step here told is = by_truth (sets_direction line.op) sets leaves
  where
    sets : sets_direction line.op ≡ true
        → after_moves shares (line_reads i s depth line) (line_puts i s depth line) facts DirectionSet ≡ true
    sets set =
        let row = entry_set line set (once set) in
        direction_put i s depth line x step row.0 row.1 shares facts here is

    leaves : sets_direction line.op ≡ false
        → after_moves shares (line_reads i s depth line) (line_puts i s depth line) facts DirectionSet ≡ true
    leaves none = puts_still shares (line_puts i s depth line) (after_reads (line_reads i s depth line) facts)
        (still_writes i s depth (writes_in line) 0 (still i s depth line x step none))
        ∙ told (sym (direction_left i s depth line x step none) ∙ is)

-- a repeated instruction leaves it
pub direction_turn : (i : Interface) (s : Shape) (depth : ℕ) (line : Sym) (x : Stand) → SetsOnce line
    → (line.repeat ≡ Repeat.No → ⊥) → IsTableStep i s depth line x
    → flag_in Flag.Df x.after.flags ≡ flag_in Flag.Df x.before.flags
direction_turn i s depth line x once more step = by_truth (sets_direction line.op)
    (λ set. absurd (more (once set))) (direction_left i s depth line x step)

-- at the end no path has set it
pub direction_end : (i : Interface) (s : Shape) (facts : Facts) → EndsSound i s facts → facts DirectionSet ≡ false
direction_end i s facts sound =
    (either_false (facts DirectionSet) _ (sound.each (alone Rule.W4 (Cell.Flag Flag.Df)) (listed_direction i))).0
