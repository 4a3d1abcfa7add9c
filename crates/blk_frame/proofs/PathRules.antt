-- Where no rule of paths that is asked is broken, the facts of each path break none.
use Rattle.std.proofs.Common.{◌≡◌, ℕ, ◌&&◌, Bool, true, false, List, Some, slice_get, slice_index, refl}
use Rattle.std.proofs.lemmas.Bool.{false_from_ne_true}
use Rattle.asm_core.specs.declared.lines.Graph.{Graph}
use Rattle.asm_core.specs.declared.sym.Sym.{Sym}
use Rattle.dataflow.specs.Paths.{IsPathTo}
use Rattle.blk_deps.specs.Ways.{size_of, goes, line_number}
use Rattle.blk_deps.specs.Findings.{Setting, BreaksAt, IsBroken}
use Rattle.blk_deps.specs.Rules.{breaks_at_line, breaks_at_end}
use Rattle.blk_deps.specs.declared.violation.Violation.{Violation}
use Rattle.blk_frame.specs.Accepted.{is_asked, NoneBroken, EndsSound, PassesSound, IsShapeOf, facts_on}

unbroken : (asked broken : Bool) → (asked ≡ true → broken ≡ true → ⊥) → (asked && broken) ≡ false
unbroken true broken denied = false_from_ne_true broken (denied refl)
unbroken false broken denied = refl

module _ (x : Setting) (graphs : List Graph) (number : ℕ) (is : IsShapeOf x graphs number)
    (none : NoneBroken x.interface x.live graphs) where
  abbrev broken_at : (b : Violation) (node : ℕ) → BreaksAt x b node
      → IsBroken x.interface x.live graphs b (line_number x.graph node)
  broken_at b node breaks = record {
    number = number;
    shape = x.shape;
    graph = x.graph;
    is_shape = is.is_shape;
    is_graph = is.is_graph;
    depths = x.depths;
    shares = x.shares;
    setting = is.setting;
    node = node;
    breaks = breaks;
    is_line = refl;
  }

  pub end_sound : (path : List ℕ) → IsPathTo (size_of x.graph) (goes x.graph) path (size_of x.graph)
      → EndsSound x.interface x.shape (facts_on x path)
  end_sound path to = record {
    each = λ b member. unbroken (is_asked b.rule)
        (breaks_at_end x.interface x.shape b (facts_on x path))
        (λ asked broken. none.each b (line_number x.graph (size_of x.graph)) member asked
        (broken_at b (size_of x.graph) (BreaksAt.at_end (path, to, broken))));
  }

  pub pass_sound : (path : List ℕ) (n : ℕ) (line : Sym) → slice_get x.graph.insts n ≡ Some line
      → IsPathTo (size_of x.graph) (goes x.graph) path n
      → PassesSound x.interface x.live x.shape (slice_index x.depths n) line (facts_on x path)
  pass_sound path n line at to = record {
    each = λ b member. unbroken (is_asked b.rule)
        (breaks_at_line x.interface x.live x.shape (slice_index x.depths n) line b (facts_on x path))
        (λ asked broken. none.each b (line_number x.graph n) member asked
        (broken_at b n (BreaksAt.at_line n line at (path, to, broken))));
  }
