-- A run of an accepted block changes only what is declared.
use Rattle.std.proofs.Common.{◌≡◌, ◌⊎◌, inl, inr, ℕ, zero, suc, ◌+◌, ◌*◌, ◌%◌, ◌^◌, ◌<◌, ◌≤◌, List, [], ◌∷◌, length, map, Bool, true, IsTrue, if◌then◌else◌, Option, None, Some, slice_get, slice_index, refl, sym, ap, subst, ◌∙◌, arith}
use Rattle.std.specs.Option.{option_map}
use Rattle.std.proofs.lemmas.Option.{slice_get-map, slice_get_past}
use Rattle.std.proofs.lemmas.Bool.{both_ways, cases_lt, false_from_ne_true}
use Rattle.asm_core.specs.Entry.{IsEntry}
use Rattle.asm_core.specs.Flag.{flag_number, flag_in}
use Rattle.asm_core.specs.Frame.{MayWrite, MayChange, MayDiffer, IsFramed}
use Rattle.asm_core.specs.Lists.{IsMember}
use Rattle.asm_core.specs.Machine.{IsMachine, Location, Keeps, value_at, byte_at, layouts_of}
use Rattle.asm_core.specs.Placement.{IsAllowed}
use Rattle.asm_core.specs.Reading.Placed.{inst_under}
use Rattle.asm_core.specs.Rows.{row_step}
use Rattle.asm_core.specs.Run.{Outcome, run_of}
use Rattle.asm_core.specs.Shape.{shapes_of}
use Rattle.asm_core.specs.Steps.{IsAfter, Stand}
use Rattle.asm_core.specs.WellFormed.{IsInterface}
use Rattle.asm_core.proofs.PlacedLaws.{steps_as_line}
use Rattle.asm_core.proofs.Runs.{EndsIn}
use Rattle.asm_core.specs.declared.flag.Flag.{Flag}
use Rattle.asm_core.specs.declared.inst.Inst.{Inst}
use Rattle.asm_core.specs.declared.inst.Repeat.{Repeat}
use Rattle.asm_core.specs.declared.lines.Graph.{Graph}
use Rattle.asm_core.specs.declared.machine.Machine.{Machine}
use Rattle.asm_core.specs.declared.placement.Placement.{Placement}
use Rattle.asm_core.specs.declared.sym.Sym.{Sym}
use Rattle.dataflow.specs.Paths.{IsPathTo}
use Rattle.blk_deps.specs.declared.fact.Fact.TheVariants.{DirectionSet}
use Rattle.blk_deps.specs.Findings.{Setting, moved_by}
use Rattle.blk_deps.specs.StackTable.{IsSound}
use Rattle.blk_deps.specs.Ways.{IsGraph, size_of, goes}
use Rattle.blk_deps.proofs.StackLemmas.{path_within}
use Rattle.blk_text.specs.Text.{placed_code}
use Rattle.blk_frame.specs.Accepted.{NoneBroken, EndsSound, PassesSound, IsShapeOf, facts_on}
use Rattle.blk_frame.specs.Laws.{Holds, IsTableStep, AreStates}
use Rattle.blk_frame.specs.Shown.{placed_by}
use Rattle.blk_frame.proofs.DepthsThere.{depth_start, depth_few, depth_room, depth_pop, depth_on, depth_end}
use Rattle.blk_frame.proofs.DirectionKept.{direction_after, direction_turn, direction_end}
use Rattle.blk_frame.proofs.FactsHeld.{table_facts_held}
use Rattle.blk_frame.proofs.FlagFacts.{here_on, flags_plain}
use Rattle.blk_frame.proofs.FlagsKept.{flags_kept}
use Rattle.blk_frame.proofs.LayoutsKept.{layouts_kept}
use Rattle.blk_frame.proofs.MachineKept.{machine_kept}
use Rattle.blk_frame.proofs.MemoryKept.{memory_kept}
use Rattle.blk_frame.proofs.ReadLines.{LineFits}
use Rattle.blk_frame.proofs.RegistersKept.{registers_kept}
use Rattle.blk_frame.proofs.RunInduction.{runs_in}
use Rattle.blk_frame.proofs.StackMoves.{depth_behind, repeat_rests, stack_moves}
use Rattle.blk_frame.proofs.WayThere.{way_there}

-- ---- lines

line_there : (p : Placement) (insts : List Sym) (n : ℕ) (inst : Inst) → slice_get (map (inst_under p) insts) n ≡ Some inst
    → (line : Sym) × (slice_get insts n ≡ Some line) × (inst ≡ inst_under p line)
line_there p insts n inst e = by (slice_get insts n) refl
  where
    by : (o : Option Sym) → slice_get insts n ≡ o
        → (line : Sym) × (slice_get insts n ≡ Some line) × (inst ≡ inst_under p line)
    by None at =
        let gone : None ≡ Some inst = sym (slice_get-map (inst_under p) insts n ∙ ap (option_map (inst_under p)) at) ∙ e in cc
    by (Some line) at =
        let found : Some (inst_under p line) ≡ Some inst = sym (slice_get-map (inst_under p) insts n ∙ ap (option_map (inst_under p)) at) ∙ e in
        let same : inst_under p line ≡ inst = cc in
        (line, at, sym same)

line_gone : (p : Placement) (insts : List Sym) (n : ℕ) → slice_get (map (inst_under p) insts) n ≡ None
    → (slice_get insts n ≡ None)
line_gone p insts n e = by (slice_get insts n) refl
  where
    by : (o : Option Sym) → slice_get insts n ≡ o → o ≡ None
    by None at = refl
    by (Some line) at =
        let found : Some (inst_under p line) ≡ None = sym (slice_get-map (inst_under p) insts n ∙ ap (option_map (inst_under p)) at) ∙ e in cc

there_is : {A : Type 0} (xs : List A) (n : ℕ) → n < length xs → slice_get xs n ≡ None → ⊥
there_is [] n lt e = omega (arith, lt)
there_is (x ∷ xs) zero lt e = cc
there_is (x ∷ xs) (suc n) lt e = there_is xs n (omega (arith, lt)) e

-- ---- what a run keeps

-- the facts along that path say what they say of a state that the run has come to
record Known (x : Setting) (p : Placement) (entry : Machine) (n : ℕ) (path : List ℕ) (m : Machine) : Type 0 where
  depth : m.scratch_top ≡ slice_index x.depths n
  holds : Holds (placed_by x.interface x.shape p) entry (facts_on x path) m
  direction : flag_in Flag.Df m.flags ≡ true → facts_on x path DirectionSet ≡ true

-- The run stands before instruction n, to which that path comes.
record Comes (x : Setting) (p : Placement) (entry : Machine) (n : ℕ) (path : List ℕ) (m : Machine) : Type 0 where
  to : IsPathTo (size_of x.graph) (goes x.graph) path n
  known : Known x p entry n path m

-- It has made turns of the repeated instruction n.
record Turns (x : Setting) (p : Placement) (entry : Machine) (n : ℕ) (path : List ℕ) (m : Machine) : Type 0 where
  to : IsPathTo (size_of x.graph) (goes x.graph) path n
  known : Known x p entry n (n ∷ path) m
  line : Sym
  at : slice_get x.graph.insts n ≡ Some line
  repeated : line.repeat ≡ Repeat.No → ⊥

record OnWay (x : Setting) (p : Placement) (entry : Machine) (m : Machine) : Type 0 where
  node : ℕ
  at : m.at ≡ node
  path : List ℕ
  stands : Comes x p entry node path m ⊎ Turns x p entry node path m
  machine : IsMachine m
  layouts : layouts_of m.ranges ≡ layouts_of entry.ranges
  stack : (m.esp + 4 * m.scratch_top) % 2 ^ 32 ≡ entry.esp
  memory : (a : ℕ) → (MayWrite x.interface x.shape p entry a → ⊥) → byte_at m.ranges a ≡ byte_at entry.ranges a

module _ (x : Setting) (graphs : List Graph) (number : ℕ) (is : IsShapeOf x graphs number)
    (none : NoneBroken x.interface x.live graphs) (graph : IsGraph x.graph) (sound : IsSound x.graph) (p : Placement)
    (interface : IsInterface x.interface) (member : IsMember x.shape (shapes_of x.interface))
    (allowed : IsAllowed x.interface x.shape p) (entry : Machine) (start : IsEntry x.interface x.shape p entry)
    (lines : (n : ℕ) (line : Sym) → slice_get x.graph.insts n ≡ Some line → LineFits x.interface x.shape p line) where
  abbrev Kept : Machine → Type 0
  Kept = OnWay x p entry

  abbrev depth_at : ℕ → ℕ
  depth_at n = slice_index x.depths n

  at_start : Kept entry
  at_start = record {
    node = 0;
    at = start.start;
    path = [];
    stands = inl (record {
      to = refl;
      known = record {
        depth = start.nothing_pushed ∙ sym (depth_start x.graph sound x.depths is.setting.depths);
        holds = table_facts_held.start x.interface x.live x.shape p entry;
        direction = λ set. absurd (both_ways (flag_in Flag.Df entry.flags) start.direction set);
      };
    });
    machine = start.machine;
    layouts = refl;
    stack = let small = start.machine.esp in let top = start.nothing_pushed in omega (arith, small, top);
    memory = λ a may. refl;
  }

  few_nodes : (path : List ℕ) (n : ℕ) → IsPathTo (size_of x.graph) (goes x.graph) path n → n ≤ 512
  few_nodes path n to = let within = path_within x.graph graph path n to in let few = graph.few in omega (arith, within, few)

  -- ---- a step of the line at node n

  module _ (m : Machine) (n : ℕ) (at : m.at ≡ n) (path : List ℕ) (to : IsPathTo (size_of x.graph) (goes x.graph) path n)
      (line : Sym) (here : slice_get x.graph.insts n ≡ Some line) (depth : m.scratch_top ≡ slice_index x.depths n)
      (machine : IsMachine m) (layouts : layouts_of m.ranges ≡ layouts_of entry.ranges)
      (stack : (m.esp + 4 * m.scratch_top) % 2 ^ 32 ≡ entry.esp)
      (memory : (a : ℕ) → (MayWrite x.interface x.shape p entry a → ⊥) → byte_at m.ranges a ≡ byte_at entry.ranges a)
      (choice : ℕ) (words : List ℕ) (next : Machine)
      (step : IsAfter (row_step (inst_under p line) (slice_index x.graph.goals n) choice words m) next) where
    abbrev stand : Stand
    stand = record { at = p; before = m; choice = choice; words = words; goal = slice_index x.graph.goals n; after = next }

    fits : LineFits x.interface x.shape p line
    fits = lines n line here

    table_step : IsTableStep x.interface x.shape (slice_index x.depths n) line stand
    table_step = record {
      interface = interface;
      allowed = allowed;
      placed = fits.placed;
      of_shape = fits.of_shape;
      plain = fits.plain;
      stepped = record {
        is_machine = machine;
        fits = fits.targets;
        step = subst (λ s. IsAfter s next) ((steps_as_line p line fits.placed).steps (slice_index x.graph.goals n) choice words m) step;
      };
      copies = fits.copies;
      at_depth = depth;
      few = depth_few x.graph sound x.depths is.setting.depths path n to;
      room = λ push. depth_room x.graph sound x.depths is.setting.depths path n line to here push;
    }

    moves : (next.scratch_top ≡ depth_behind line (slice_index x.depths n))
        × ((next.esp + 4 * next.scratch_top) % 2 ^ 32 ≡ (m.esp + 4 * m.scratch_top) % 2 ^ 32)
    moves = stack_moves x.interface x.shape (slice_index x.depths n) line stand table_step
        (λ pop. depth_pop x.graph sound x.depths is.setting.depths path n line to here pop)

    passes : PassesSound x.interface x.live x.shape (slice_index x.depths n) line (facts_on x path)
    passes = table_facts_held.passes x graphs number is none path n line here to

    goal_small : slice_index x.graph.goals n < 2 ^ 32
    goal_small = by (cases_lt n (size_of x.graph))
      where
        by : (n < size_of x.graph) ⊎ (size_of x.graph ≤ n) → slice_index x.graph.goals n < 2 ^ 32
        by (inl lt) = let within = graph.inside n lt in let few = graph.few in omega (arith, within, few)
        by (inr le) =
            let gone : None ≡ Some line = sym (slice_get_past x.graph.insts n le) ∙ here in cc

    level : slice_index x.depths n ≡ 0 → m.esp ≡ entry.esp
    level none = let small = machine.esp in let top : m.scratch_top ≡ 0 = depth ∙ none in omega (arith, small, top, stack)

    -- wherever the run goes on
    kept_at : (node : ℕ) → next.at ≡ node → (behind : List ℕ) → Comes x p entry node behind next ⊎ Turns x p entry node behind next
        → (line.args ≡ []) ⊎ Holds (placed_by x.interface x.shape p) entry (facts_on x path) m → Kept next
    kept_at node there behind stands known = record {
      node = node;
      at = there;
      path = behind;
      stands = stands;
      machine = machine_kept line stand table_step.stepped (let few = few_nodes path n to in omega (arith, few, at)) goal_small;
      layouts = layouts_kept line stand table_step.stepped ∙ layouts;
      stack = moves.1 ∙ stack;
      memory = λ a may.
          memory_kept x.interface x.live x.shape (slice_index x.depths n) line stand entry (facts_on x path) table_step start
          (record { before = start.machine.regs; now = machine.regs }) layouts passes (here_on x path) known level fits.whole a may
          ∙ memory a may;
    }

    abbrev Behind : Option Sym → Type 0
    Behind o = flag_in Flag.Df next.flags ≡ true → moved_by x n o (facts_on x path) DirectionSet ≡ true

    -- a step from where the path has come to
    module _ (known : Known x p entry n path m) where
      known_behind : (node : ℕ) → next.scratch_top ≡ slice_index x.depths node → Known x p entry node (n ∷ path) next
      known_behind node deep = record {
        depth = deep;
        holds = table_facts_held.along x path n line stand entry is.setting here table_step known.holds;
        direction = subst Behind (sym here)
            (direction_after x.interface x.shape x.shares (slice_index x.depths n) line stand (facts_on x path) fits.sets_once table_step
            (here_on x path) known.direction);
      }

    -- a further turn
    module _ (more : line.repeat ≡ Repeat.No → ⊥) (known : Known x p entry n (n ∷ path) m) where
      known_again : (node : ℕ) → next.scratch_top ≡ slice_index x.depths node → Known x p entry node (n ∷ path) next
      known_again node deep = record {
        depth = deep;
        holds = table_facts_held.again x path n line stand entry is.setting here table_step more known.holds;
        direction = λ set. known.direction (sym (direction_turn x.interface x.shape (slice_index x.depths n) line stand fits.sets_once more table_step) ∙ set);
      }

    module _ (known : (node : ℕ) → next.scratch_top ≡ slice_index x.depths node → Known x p entry node (n ∷ path) next)
        (reached : (line.args ≡ []) ⊎ Holds (placed_by x.interface x.shape p) entry (facts_on x path) m) where
      below : n < size_of x.graph
      below = by (cases_lt n (size_of x.graph))
        where
          by : (n < size_of x.graph) ⊎ (size_of x.graph ≤ n) → n < size_of x.graph
          by (inl lt) = lt
          by (inr le) = let gone : None ≡ Some line = sym (slice_get_past x.graph.insts n le) ∙ here in cc

      went_on : (next.at ≡ goes x.graph n 0) ⊎ (next.at ≡ goes x.graph n 1) → Kept next
      went_on way =
          kept_at next.at refl (n ∷ path)
          (inl (record {
            to = (to, below, way);
            known = known next.at (moves.0 ∙ sym (depth_on x.graph sound x.depths is.setting.depths path n line to here next.at way));
          })) reached

      stayed : (line.repeat ≡ Repeat.No → ⊥) → next.at ≡ n → Kept next
      stayed more there =
          kept_at n there path
          (inr (record { to = to; known = known n (moves.0 ∙ rests); line = line; at = here; repeated = more })) reached
        where
          rests : depth_behind line (slice_index x.depths n) ≡ slice_index x.depths n
          rests = let still = repeat_rests line more in rw (still.0, still.1) refl

      goes_on : Kept next
      goes_on = elim (way_there x.graph line n stand here at refl fits.jumps_once table_step.stepped) [
        | inl way ↦ went_on (inl way)
        | inr rest ↦ elim rest [ inl way ↦ went_on (inr way) | inr stay ↦ stayed stay.0 stay.1 ]
      ]

  repeated_bare : (line : Sym) (n : ℕ) → slice_get x.graph.insts n ≡ Some line → (line.repeat ≡ Repeat.No → ⊥) → line.args ≡ []
  repeated_bare line n here more = elim (lines n line here).plain [ inl once ↦ absurd (more once) | inr bare ↦ bare ]

  step_kept : (m : Machine) (line : Sym) (choice : ℕ) (words : List ℕ) (next : Machine) (w : Kept m)
      → slice_get x.graph.insts w.node ≡ Some line
      → IsAfter (row_step (inst_under p line) (slice_index x.graph.goals w.node) choice words m) next → Kept next
  step_kept m line choice words next w here step = by w.stands
    where
      by : Comes x p entry w.node w.path m ⊎ Turns x p entry w.node w.path m → Kept next
      by (inl comes) =
          goes_on m w.node w.at w.path comes.to line here comes.known.depth w.machine w.layouts w.stack w.memory choice words next step
          (known_behind m w.node w.at w.path comes.to line here comes.known.depth w.machine w.layouts w.stack w.memory choice words next step comes.known)
          (inr comes.known.holds)
      by (inr turns) =
          let same : Some turns.line ≡ Some line = sym turns.at ∙ here in
          let one : turns.line ≡ line = cc in
          let more : line.repeat ≡ Repeat.No → ⊥ = subst (λ (l : Sym). l.repeat ≡ Repeat.No → ⊥) one turns.repeated in
          goes_on m w.node w.at w.path turns.to line here turns.known.depth w.machine w.layouts w.stack w.memory choice words next step
          (known_again m w.node w.at w.path turns.to line here turns.known.depth w.machine w.layouts w.stack w.memory choice words next step more turns.known)
          (inl (repeated_bare line w.node here more))

  each_kept : (m : Machine) (i : Inst) (choice : ℕ) (words : List ℕ) (next : Machine) → Kept m
      → slice_get (map (inst_under p) x.graph.insts) m.at ≡ Some i
      → IsAfter (row_step i (slice_index x.graph.goals m.at) choice words m) next → Kept next
  each_kept m i choice words next w e step =
      let found = line_there p x.graph.insts m.at i e in
      step_kept m found.0 choice words next w (subst (λ n. slice_get x.graph.insts n ≡ Some found.0) w.at found.1)
      (subst (λ n. IsAfter (row_step (inst_under p found.0) (slice_index x.graph.goals n) choice words m) next) w.at
      (subst (λ (j : Inst). IsAfter (row_step j (slice_index x.graph.goals m.at) choice words m) next) found.2 step))

  -- ---- how a run ends

  on_way : (m : Machine) → Kept m → Keeps (MayDiffer x.interface x.shape p entry) entry m
  on_way m w = record { values = values; layouts = w.layouts } where
    values : (l : Location) → (MayDiffer x.interface x.shape p entry l → ⊥) → value_at l m ≡ value_at l entry
    values (Location.Byte a) may = w.memory a may
    values (Location.Register r) may = absurd (may tt)
    values (Location.FlagBit f) may = absurd (may tt)
    values Location.Esp may = absurd (may tt)

  module _ (m : Machine) (w : Kept m) (path : List ℕ) (known : Known x p entry (size_of x.graph) path m)
      (to : IsPathTo (size_of x.graph) (goes x.graph) path (size_of x.graph)) where
    ends : EndsSound x.interface x.shape (facts_on x path)
    ends = table_facts_held.ends x graphs number is none path to

    states : AreStates entry m
    states = record { before = start.machine.regs; now = w.machine.regs }

    direction_same : flag_in Flag.Df m.flags ≡ flag_in Flag.Df entry.flags
    direction_same =
        false_from_ne_true (flag_in Flag.Df m.flags)
        (λ set. both_ways (facts_on x path DirectionSet) (direction_end x.interface x.shape (facts_on x path) ends) (known.direction set))
        ∙ sym start.direction

    other_flag : (f : Flag) → flag_number f < 6 → (IsTrue x.interface.cc → ⊥) → flag_in f m.flags ≡ flag_in f entry.flags
    other_flag f low may =
        flags_kept x.interface x.shape p entry m (facts_on x path) ends (flags_plain x interface path) known.holds
        (false_from_ne_true x.interface.cc may) f low

    abbrev as_number : Bool → ℕ
    as_number b = if b then 1 else 0

    at_end : Keeps (MayChange x.interface x.shape p entry) entry m
    at_end = record { values = values; layouts = w.layouts } where
      values : (l : Location) → (MayChange x.interface x.shape p entry l → ⊥) → value_at l m ≡ value_at l entry
      values (Location.Byte a) may = w.memory a may
      values (Location.Register r) may =
          registers_kept x.interface x.shape p entry m (facts_on x path) interface member allowed states known.holds ends r
          (λ output. may (inl output)) (λ clobbered. may (inr clobbered))
      values (Location.FlagBit Flag.Df) may = ap as_number direction_same
      values (Location.FlagBit Flag.Cf) may = ap as_number (other_flag Flag.Cf (omega arith) may)
      values (Location.FlagBit Flag.Pf) may = ap as_number (other_flag Flag.Pf (omega arith) may)
      values (Location.FlagBit Flag.Af) may = ap as_number (other_flag Flag.Af (omega arith) may)
      values (Location.FlagBit Flag.Zf) may = ap as_number (other_flag Flag.Zf (omega arith) may)
      values (Location.FlagBit Flag.Sf) may = ap as_number (other_flag Flag.Sf (omega arith) may)
      values (Location.FlagBit Flag.Of) may = ap as_number (other_flag Flag.Of (omega arith) may)
      values Location.Esp may =
          let none_pushed = known.depth ∙ depth_end x.graph sound x.depths is.setting.depths path to in
          let small = w.machine.esp in
          let stack = w.stack in
          omega (arith, none_pushed, small, stack)

  ended : (m : Machine) → Kept m → slice_get (map (inst_under p) x.graph.insts) m.at ≡ None → Keeps (MayChange x.interface x.shape p entry) entry m
  ended m w e = by w.stands
    where
      gone : slice_get x.graph.insts w.node ≡ None
      gone = subst (λ n. slice_get x.graph.insts n ≡ None) w.at (line_gone p x.graph.insts m.at e)

      last : (path : List ℕ) → IsPathTo (size_of x.graph) (goes x.graph) path w.node → w.node ≡ size_of x.graph
      last path to = by (cases_lt w.node (size_of x.graph))
        where
          by : (w.node < size_of x.graph) ⊎ (size_of x.graph ≤ w.node) → w.node ≡ size_of x.graph
          by (inl lt) = absurd (there_is x.graph.insts w.node lt gone)
          by (inr le) = let within = path_within x.graph graph path w.node to in omega (arith, le, within)

      by : Comes x p entry w.node w.path m ⊎ Turns x p entry w.node w.path m → Keeps (MayChange x.interface x.shape p entry) entry m
      by (inl comes) =
          let same = last w.path comes.to in
          at_end m w w.path (subst (λ n. Known x p entry n w.path m) same comes.known) (subst (IsPathTo (size_of x.graph) (goes x.graph) w.path) same comes.to)
      by (inr turns) = let wrong : Some turns.line ≡ None = sym turns.at ∙ gone in cc

  by_outcome : (o : Outcome) → EndsIn Kept (placed_code p x.graph) o → IsFramed x.interface x.shape p entry o
  by_outcome (Outcome.Ended m) h = ended m h.0 h.1
  by_outcome (Outcome.Going m) h = on_way m h
  by_outcome (Outcome.Failed fault m) h = on_way m h

  -- Whatever undefined bits and outside words come, after every number of steps only what is declared has changed.
  pub framed : (n : ℕ) (choices : List ℕ) (outside : List (List ℕ))
      → IsFramed x.interface x.shape p entry (run_of (placed_code p x.graph) n choices outside entry)
  framed n choices outside =
      by_outcome (run_of (placed_code p x.graph) n choices outside entry)
      (runs_in (placed_code p x.graph) Kept each_kept n choices outside entry at_start)
