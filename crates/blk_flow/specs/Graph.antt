-- Which instructions may follow an instruction: the next one, the goal of its jump, or either.
use Rattle.std.specs.Prelude.{◌≡◌, ℕ, ◌+◌, ◌==◌, Bool, true, false, List, [], ◌∷◌, Option, None, Some, Result, Ok, Err, slice_get, slice_index, if◌then◌else◌}
use Rattle.std.specs.List.{list_any}
use Rattle.asm_core.specs.declared.inst.Op.{Op}
use Rattle.asm_core.specs.declared.sym.Arg.{Arg}
use Rattle.asm_core.specs.declared.sym.Sym.{Sym}
use Rattle.asm_core.specs.declared.lines.JumpTarget.{JumpTarget}
use Rattle.asm_core.specs.declared.lines.Lines.{Lines}
use Rattle.asm_core.specs.declared.lines.Graph.{Graph}
use Rattle.blk_flow.specs.declared.flow_end.FlowEnd.{FlowEnd}

-- the goal of instruction n: the next instruction where it doesn't jump; none where it jumps to no label
abbrev pub goal_in : List JumpTarget → ℕ → Option ℕ
goal_in [] n = Some (n + 1)
goal_in (t ∷ ts) n = if t.inst == n then t.goal else goal_in ts n

abbrev pub onto_graph : Sym → ℕ → Result Graph FlowEnd → Result Graph FlowEnd
onto_graph s goal (Err e) = Err e
onto_graph s goal (Ok g) = Ok (record { insts = s ∷ g.insts; goals = goal ∷ g.goals })

abbrev pub graph_with : ℕ → Sym → Option ℕ → Result Graph FlowEnd → Result Graph FlowEnd
graph_with n s None rest = Err (FlowEnd.NoLabel n)
graph_with n s (Some goal) rest = onto_graph s goal rest

-- each instruction with its goal, or the first that jumps to no label; n is the number of the first
unfoldable pub graph_from : List JumpTarget → ℕ → List (Option Sym) → Result Graph FlowEnd
graph_from targets n [] = Ok (record { insts = []; goals = [] })
graph_from targets n (None ∷ insts) = graph_from targets (n + 1) insts
graph_from targets n (Some s ∷ insts) = graph_with n s (goal_in targets n) (graph_from targets (n + 1) insts)

-- the graph of lines that are all read
abbrev pub graph_of : Lines → Result Graph FlowEnd
graph_of l = graph_from l.targets 0 l.insts

-- what a call gives is that, if there is memory
abbrev pub Gives : Result Graph FlowEnd → Result Graph FlowEnd → Type 0
Gives (Ok g) given = given ≡ Ok g
Gives (Err FlowEnd.Memory) given = Unit {0}
Gives (Err (FlowEnd.NoLabel n)) given = given ≡ Err (FlowEnd.NoLabel n)

abbrev is_label : Arg → Bool
is_label (Arg.Label n) = true
is_label arg = false

-- some operand of it is a label
abbrev pub jumps : Sym → Bool
jumps s = list_any is_label s.args

-- it goes to its goal alone
abbrev pub always_jumps : Op → Bool
always_jumps Op.Jmp = true
always_jumps op = false

abbrev pub some_if : Bool → ℕ → Option ℕ
some_if b n = if b then Some n else None

abbrev pub successors_with : Graph → ℕ → Option Sym → List (Option ℕ)
successors_with g n None = None ∷ None ∷ []
successors_with g n (Some s) = (if always_jumps s.op then None else Some (n + 1)) ∷ some_if (jumps s) (slice_index g.goals n) ∷ []

-- the next instruction, unless it always jumps; and the goal, where it jumps
abbrev pub successors_of : Graph → ℕ → List (Option ℕ)
successors_of g n = successors_with g n (slice_get g.insts n)
