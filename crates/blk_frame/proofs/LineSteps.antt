-- A step of a placed line: the world has what the step leaves, and the facts hold of it.
use Rattle.std.proofs.Common.{◌≡◌, ℕ, ◌+◌, Bool, Option, None, Some, slice_get, slice_index, refl, sym, ap, ◌∙◌, arith}
use Rattle.std.proofs.lemmas.Bool.{lt-leb, le-leb}
use Rattle.asm_core.specs.Entries.{arg_or_zero, line_arg}
use Rattle.asm_core.specs.Rows.{entry_row}
use Rattle.asm_core.specs.RowLaws.{Component, component_in, IsToldByOne, IsPlaced}
use Rattle.asm_core.specs.Reading.Placed.{operand_under}
use Rattle.asm_core.specs.WellFormed.{IsInterface}
use Rattle.asm_core.specs.declared.sym.Arg.{Arg}
use Rattle.asm_core.specs.declared.sym.Sym.{Sym}
use Rattle.asm_core.specs.declared.shape.Shape.{Shape}
use Rattle.asm_core.specs.declared.interface.Interface.{Interface}
use Rattle.asm_core.specs.declared.placement.Placement.{Placement}
use Rattle.asm_core.specs.declared.machine.Machine.{Machine}
use Rattle.blk_deps.specs.Cells.{flag_cell, hand_cell}
use Rattle.blk_deps.specs.Facts as facts
use Rattle.blk_deps.specs.Facts.{Facts}
use Rattle.blk_deps.specs.Line.{writes_in, line_reads, line_puts}
use Rattle.blk_frame.specs.World.{Placed, ArePlaced, World, with_hands, after_puts, AreWritable}
use Rattle.blk_frame.specs.Matches.{IsShadowed, Matches, HasTop}
use Rattle.blk_frame.specs.Shown.{shown, IsSeen, Shows, placed_by}
use Rattle.blk_frame.specs.Lines.{NamesPlaces, IsOfShape, IsStepOfLine, hands_of}
use Rattle.blk_frame.proofs.Basics.{either_way}
use Rattle.blk_frame.proofs.Hands.{HoldsHands}
use Rattle.blk_frame.proofs.Places.{named_of}
use Rattle.blk_frame.proofs.LineWrites.{IsThere}
use Rattle.blk_frame.proofs.RowWrites.{EndsWell, ends_well}
use Rattle.blk_frame.proofs.HandValues.{are_copied}
use Rattle.blk_frame.proofs.HandsGiven.{hands_give}
use Rattle.blk_frame.proofs.Steps.{moves_match}
use Rattle.blk_frame.proofs.Tops.{moves_top}

-- a line's operands are there
pub args_there : (i : Interface) (s : Shape) (p : Placement) (line : Sym) → IsInterface i → IsPlaced p line
    → IsOfShape i s line → (k : ℕ) → IsThere i s p (line_arg line k)
args_there i s p line interface placed of_shape k = by_arg (slice_get line.args k) refl
  where
    one : (arg : Arg) → NamesPlaces i s arg → (operand_under p arg ≡ None → ⊥) → IsThere i s p arg
    one (Arg.Register place slice) names there = (names, named_of i s p interface place slice there)
    one (Arg.Number n) names there = tt
    one (Arg.Hole n) names there = tt
    one (Arg.Memory n) names there = tt
    one (Arg.Address d b n) names there = tt
    one (Arg.Label n) names there = tt

    by_arg : (arg : Option Arg) → slice_get line.args k ≡ arg → IsThere i s p (arg_or_zero arg)
    by_arg None is = tt
    by_arg (Some arg) is = one arg (of_shape.each k arg is) (placed.each k arg is)

-- hands aren't shown
hands_unshown : (given : ℕ → ℕ) (w : World) (c : Component) → IsSeen c → shown (with_hands given w) c ≡ shown w c
hands_unshown given w (Component.RegisterByte r j) seen = refl
hands_unshown given w (Component.FlagBit f) seen = rw (lt-leb 218 (flag_cell f) (omega (arith, seen))) refl
hands_unshown given w (Component.ScratchByte j) seen = rw (lt-leb 218 (154 + j) (omega (arith, seen))) refl
hands_unshown given w (Component.WholeRegister r) seen = absurd seen
hands_unshown given w (Component.MemoryByte a) seen = absurd seen
hands_unshown given w Component.Depth seen = absurd seen
hands_unshown given w Component.Esp seen = absurd seen

hands_held : (given : ℕ → ℕ) (w : World) → HoldsHands given (with_hands given w)
hands_held given w = record { each = λ h. rw (le-leb 218 (hand_cell h) (omega arith)) (ap given (omega arith)) }

module _ (i : Interface) (s : Shape) (p : Placement) (depth : ℕ) (line : Sym) (before after : Machine)
    (step : IsStepOfLine i s p depth line before after) (w : World) (shows : Shows before w) where
  abbrev x : Placed
  x = placed_by i s p

  abbrev pub given : ℕ → ℕ
  given = slice_index (hands_of i s p x depth line before after w)

  -- the world behind the step
  abbrev pub next : World
  next = after_puts x (line_puts i s depth line) (with_hands given w)

  there : (k : ℕ) → IsThere i s p (line_arg line k)
  there = args_there i s p line step.interface step.placed step.of_shape

  ends : EndsWell i s p step.interface before after depth line (entry_row line) there step.at_depth step.room 0 0
      (entry_row line)
  ends = ends_well i s p step.interface before after depth line (entry_row line) there step.at_depth step.room
      (entry_row line) 0 0 refl

  pub writable : AreWritable x (line_puts i s depth line)
  writable = ends.writable

  pub next_shows : Shows after next
  next_shows = record { each = each } where
    each : (c : Component) → IsSeen c → shown next c ≡ component_in c after
    each c seen = either_way {P = IsToldByOne p before (writes_in line) c} (shown next c) (component_in c after)
        (λ told. ends.at given (with_hands given w) c
        (hands_give i s p step.interface before after depth line
        (entry_row line) there step.at_depth step.room step.few w shows step.copies step.plain refl)
        (hands_held given w) seen told)
        (λ none. ends.elsewhere (with_hands given w) c seen none ∙ hands_unshown given w c seen ∙ shows.each c seen
        ∙ sym (step.changes.components c none))

  -- what the facts say before the line and behind it
  module _ (shares : ℕ → ℕ → Bool) (placed : ArePlaced x shares) (entry : World) (shadowed : IsShadowed x entry)
      (s1 : Facts) where
    pub next_matches : Matches x entry s1 w
        → Matches x entry (facts.after_moves shares (line_reads i s depth line) (line_puts i s depth line) s1) next
    next_matches matches = moves_match x shares placed entry shadowed (line_reads i s depth line)
        (line_puts i s depth line) given s1 w
        (are_copied i s p step.interface depth line before after w) writable matches

    pub next_top : HasTop x s1 → HasTop x
        (facts.after_moves shares (line_reads i s depth line) (line_puts i s depth line) s1)
    next_top tops = moves_top x shares placed (line_reads i s depth line) (line_puts i s depth line) s1 writable tops
