-- How a step of a line moves the stack: by the word that it pushes or pops, and esp with it.
use Rattle.std.proofs.Common.{◌≡◌, ◌⊎◌, inl, inr, ℕ, zero, suc, ◌+◌, ◌-◌, ◌*◌, ◌%◌, ◌^◌, ◌<◌, ◌&&◌, not, Bool, true, false, List, [], ◌∷◌, ◌++◌, length, map, Option, None, Some, slice_get, slice_index, if◌then◌else◌, refl, sym, ap, ap₂, subst, ◌∙◌, arith}
use Rattle.std.specs.List.{list_all, list_any, cons_option}
use Rattle.std.proofs.lemmas.Bool.{both_ways, and_parts, and_from, lt-ltb}
use Rattle.asm_core.specs.Entries.{write_to, writes_of, by_of}
use Rattle.asm_core.specs.MicroOps.{arg_at, arg_destination, is_over, put, pushed, written}
use Rattle.asm_core.specs.Reading.Placed.{inst_under}
use Rattle.asm_core.specs.Rows.{is_zero_count, same_register, line_row, entry_row}
use Rattle.asm_core.specs.RowTerms.{op1, op2, op3, arg, to_arg, reg, to_reg, as_temporary, guarded_op, guarded, turn_of, repeated}
use Rattle.asm_core.specs.Steps.{Stand}
use Rattle.asm_core.specs.Table.{row_of, is_shift, self_row}
use Rattle.asm_core.specs.Table.Bits.{no_shift_row}
use Rattle.asm_core.specs.Table.Moves.{push_row, pop_row, condition}
use Rattle.asm_core.specs.declared.cond.Cond.{Cond}
use Rattle.asm_core.specs.declared.reg.Reg.{Reg}
use Rattle.asm_core.specs.declared.inst.Op.{Op}
use Rattle.asm_core.specs.declared.inst.Width.{Width}
use Rattle.asm_core.specs.declared.inst.Repeat.{Repeat}
use Rattle.asm_core.specs.declared.inst.InstArg.{InstArg}
use Rattle.asm_core.specs.declared.sym.Sym.{Sym}
use Rattle.asm_core.specs.declared.row.By.{By}
use Rattle.asm_core.specs.declared.row.Write.{Write}
use Rattle.asm_core.specs.declared.micro_op.Bytes.{Bytes}
use Rattle.asm_core.specs.declared.micro_op.Function.{Function}
use Rattle.asm_core.specs.declared.micro_op.Site.{Site}
use Rattle.asm_core.specs.declared.micro_op.Input.{Input}
use Rattle.asm_core.specs.declared.micro_op.Target.{Target}
use Rattle.asm_core.specs.declared.micro_op.MicroOp.{MicroOp}
use Rattle.asm_core.specs.declared.micro_op.Destination.{Destination}
use Rattle.asm_core.specs.declared.shape.Shape.{Shape}
use Rattle.asm_core.specs.declared.interface.Interface.{Interface}
use Rattle.asm_core.specs.declared.machine.Machine.{Machine}
use Rattle.x86_table.specs.TableLaws.{IsStepped}
use Rattle.x86_table.proofs.TableTurns.{never_over}
use Rattle.blk_deps.specs.Stack.{is_push, is_pop, pushes, pops}
use Rattle.blk_deps.specs.StackTable.{moves_stack}
use Rattle.blk_frame.specs.Laws.{IsTableStep}
use Rattle.blk_frame.proofs.FactsHeld.{table_facts_held}
use Rattle.blk_frame.proofs.LineEnds.{values_at, line_ended}
use Rattle.blk_frame.proofs.WayThere.{plain_row}

-- how many words are pushed behind an instruction, of those before it
abbrev pub depth_by : Bool → Bool → ℕ → ℕ
depth_by push pop depth = if push then depth + 1 else if pop then depth - 1 else depth

abbrev pub depth_behind : Sym → ℕ → ℕ
depth_behind line depth = depth_by (pushes line) (pops line) depth

-- ---- rows in which nothing is pushed or popped

abbrev is_level : Target → Bool
is_level target = not (moves_stack target)

abbrev are_level : List MicroOp → Bool
are_level = list_all (λ (op : MicroOp). is_level op.target)

abbrev is_pushed : List Write → Bool
is_pushed ws = list_any (λ (w : Write). is_push w.to) ws

abbrev is_popped : List Write → Bool
is_popped ws = list_any (λ (w : Write). is_pop w.to) ws

level_target : (line : Sym) (by : By) (target : Target) (ws : List Write) → is_level target ≡ true
    → (is_pushed ws ≡ false) × (is_popped ws ≡ false)
    → (is_pushed (cons_option (write_to line by target) ws) ≡ false)
    × (is_popped (cons_option (write_to line by target) ws) ≡ false)
level_target line by (Target.Site (Site.Argument k bytes)) ws is rest = rest
level_target line by (Target.Site (Site.Register r bytes)) ws is rest = rest
level_target line by (Target.Site (Site.Pointed r)) ws is rest = rest
level_target line by (Target.Site (Site.Flag f)) ws is rest = rest
level_target line by Target.Push ws is rest = cc
level_target line by Target.Pop ws is rest = cc
level_target line by target ws is rest = rest

level_writes : (line : Sym) (row : List MicroOp) → are_level row ≡ true
    → (is_pushed (writes_of row line) ≡ false) × (is_popped (writes_of row line) ≡ false)
level_writes line [] is = (refl, refl)
level_writes line (op ∷ ops) is =
    let parts = and_parts (is_level op.target) (are_level ops) is in
    level_target line (by_of line op.function op.x) op.target (writes_of ops line) parts.0
    (level_writes line ops parts.1)

level_append : (xs ys : List MicroOp) → are_level xs ≡ true → are_level ys ≡ true → are_level (xs ++ ys) ≡ true
level_append [] ys first second = second
level_append (op ∷ ops) ys first second =
    let parts = and_parts (is_level op.target) (are_level ops) first in
    and_from _ _ parts.0 (level_append ops ys parts.1 second)

temporaries : (row : List MicroOp) → are_level (map as_temporary row) ≡ true
temporaries [] = refl
temporaries (op ∷ ops) = temporaries ops

guard : (n k : ℕ) (target : Target) (rest : List MicroOp) → are_level rest ≡ true
    → are_level (guarded_op n k target rest) ≡ true
guard n k (Target.Site site) rest is = is
guard n k target rest is = is

guards : (n k : ℕ) (row : List MicroOp) → are_level (guarded n k row) ≡ true
guards n k [] = refl
guards n k (op ∷ ops) = guard n k op.target (guarded n (k + 1) ops) (guards n (k + 1) ops)

alone : (op : MicroOp) → is_level op.target ≡ true → are_level (op ∷ []) ≡ true
alone op is = and_from _ _ is refl

around : (t g : List MicroOp) (a b c d : MicroOp) → are_level t ≡ true → are_level g ≡ true
    → is_level a.target ≡ true → is_level b.target ≡ true → is_level c.target ≡ true → is_level d.target ≡ true
    → are_level (t ++ a ∷ [] ++ b ∷ [] ++ g ++ c ∷ [] ++ d ∷ []) ≡ true
around t g a b c d in_t in_g of_a of_b of_c of_d =
    level_append (t ++ a ∷ [] ++ b ∷ [] ++ g ++ c ∷ []) (d ∷ [])
    (level_append (t ++ a ∷ [] ++ b ∷ [] ++ g) (c ∷ [])
    (level_append (t ++ a ∷ [] ++ b ∷ []) g
    (level_append (t ++ a ∷ []) (b ∷ []) (level_append t (a ∷ []) in_t (alone a of_a)) (alone b of_b)) in_g)
    (alone c of_c))
    (alone d of_d)

in_turn : (compared : Input) (stay : MicroOp) (row : List MicroOp) → is_level stay.target ≡ true
    → are_level (turn_of compared stay row) ≡ true
in_turn compared stay row last =
    around (map as_temporary row) (guarded (length row) 0 row)
    (op2 Target.Turn Function.Value (reg Reg.Ecx Bytes.All) compared)
    (op1 Target.Temporary Function.CountDown (reg Reg.Ecx Bytes.All))
    (op3 (to_reg Reg.Ecx Bytes.All) Function.Pick (Input.Earlier (length row)) (Input.Earlier (length row + 1))
    (Input.Kept (Site.Register Reg.Ecx Bytes.All))) stay
    (temporaries row) (guards (length row) 0 row) refl refl refl last

after_condition : (c : Cond) (op : MicroOp) → is_level op.target ≡ true → are_level (condition c ++ op ∷ []) ≡ true
after_condition Cond.O op is = and_from _ _ is refl
after_condition c op is = and_from _ _ is refl

-- each operation but two leaves the stack
abbrev StackKind : Op → List MicroOp → Type 0
StackKind op row = (op ≡ Op.Push) ⊎ ((op ≡ Op.Pop) ⊎ (are_level row ≡ true))

row_kind : (op : Op) (w : Width) (n : ℕ) → StackKind op (row_of op w n)
row_kind Op.Push w n = inl refl
row_kind Op.Pop w n = inr (inl refl)
row_kind (Op.Cmov c) w n = inr (inr (after_condition c (op3 (to_arg 1) Function.Pick (Input.Earlier 2) (arg 0)
    (arg 1)) refl))
row_kind (Op.Set c) w n = inr (inr (after_condition c (op1 (to_arg 0) Function.Value (Input.Earlier 2)) refl))
row_kind (Op.J c) w n = inr (inr (after_condition c (op1 Target.Jump Function.Value (Input.Earlier 2)) refl))
row_kind Op.Mul Width.B n = inr (inr refl)
row_kind Op.Mul w n = inr (inr refl)
row_kind Op.Div Width.B n = inr (inr refl)
row_kind Op.Div w n = inr (inr refl)
row_kind Op.Idiv Width.B n = inr (inr refl)
row_kind Op.Idiv w n = inr (inr refl)
row_kind Op.Imul Width.B zero = inr (inr refl)
row_kind Op.Imul Width.B (suc zero) = inr (inr refl)
row_kind Op.Imul Width.B (suc (suc zero)) = inr (inr refl)
row_kind Op.Imul Width.B (suc (suc (suc n))) = inr (inr refl)
row_kind Op.Imul w zero = inr (inr refl)
row_kind Op.Imul w (suc zero) = inr (inr refl)
row_kind Op.Imul w (suc (suc zero)) = inr (inr refl)
row_kind Op.Imul w (suc (suc (suc n))) = inr (inr refl)
row_kind Op.Shl w zero = inr (inr refl)
row_kind Op.Shl w (suc zero) = inr (inr refl)
row_kind Op.Shl w (suc (suc n)) = inr (inr refl)
row_kind Op.Shr w zero = inr (inr refl)
row_kind Op.Shr w (suc zero) = inr (inr refl)
row_kind Op.Shr w (suc (suc n)) = inr (inr refl)
row_kind Op.Sar w zero = inr (inr refl)
row_kind Op.Sar w (suc zero) = inr (inr refl)
row_kind Op.Sar w (suc (suc n)) = inr (inr refl)
row_kind Op.Rol w zero = inr (inr refl)
row_kind Op.Rol w (suc zero) = inr (inr refl)
row_kind Op.Rol w (suc (suc n)) = inr (inr refl)
row_kind Op.Ror w zero = inr (inr refl)
row_kind Op.Ror w (suc zero) = inr (inr refl)
row_kind Op.Ror w (suc (suc n)) = inr (inr refl)
row_kind op w n = inr (inr refl)

-- ---- the lines that push and pop

abbrev LineKind : Repeat → Op → List MicroOp → Type 0
LineKind repeat op row = ((repeat ≡ Repeat.No) × (op ≡ Op.Push))
    ⊎ (((repeat ≡ Repeat.No) × (op ≡ Op.Pop)) ⊎ (are_level (repeated repeat row) ≡ true))

kind_alone : (op : Op) (row : List MicroOp) → StackKind op row → LineKind Repeat.No op row
kind_alone op row (inl push) = inl (refl, push)
kind_alone op row (inr (inl pop)) = inr (inl (refl, pop))
kind_alone op row (inr (inr level)) = inr (inr level)

line_kind : (repeat : Repeat) (op : Op) (w : Width) (n : ℕ) → LineKind repeat op (row_of op w n)
line_kind Repeat.No op w n = kind_alone op (row_of op w n) (row_kind op w n)
line_kind Repeat.Rep op w n = inr (inr (in_turn _ _ (row_of op w n) refl))
line_kind Repeat.Repe op w n = inr (inr (in_turn _ _ (row_of op w n) refl))
line_kind Repeat.Repne op w n = inr (inr (in_turn _ _ (row_of op w n) refl))

in_repeated : (repeat : Repeat) (row : List MicroOp) → (repeat ≡ Repeat.No → ⊥)
    → are_level (repeated repeat row) ≡ true
in_repeated Repeat.No row other = absurd (other refl)
in_repeated Repeat.Rep row other = in_turn _ _ row refl
in_repeated Repeat.Repe row other = in_turn _ _ row refl
in_repeated Repeat.Repne row other = in_turn _ _ row refl

-- ---- rows that tell entries

in_no_shift : (n : ℕ) → are_level (no_shift_row n) ≡ true
in_no_shift zero = refl
in_no_shift (suc zero) = refl
in_no_shift (suc (suc zero)) = refl
in_no_shift (suc (suc (suc n))) = refl

in_self : (op : Op) (row : List MicroOp) → are_level row ≡ true → are_level (self_row op row) ≡ true
in_self Op.Xor row is = refl
in_self Op.Sub row is = refl
in_self Op.Sbb row is = refl
in_self op row is = is

in_entry : (line : Sym) (shift self : Bool) → are_level (line_row line) ≡ true
    → are_level (if shift then no_shift_row (length line.args) else if self then self_row line.op (line_row line)
    else line_row line) ≡ true
in_entry line true self is = in_no_shift (length line.args)
in_entry line false true is = in_self line.op (line_row line) is
in_entry line false false is = is

entry_level : (line : Sym) → are_level (line_row line) ≡ true → are_level (entry_row line) ≡ true
entry_level line = in_entry line (is_shift line.op && is_zero_count (slice_get line.args 0))
    (same_register (slice_get line.args 0) (slice_get line.args 1))

level_rests : (line : Sym) → are_level (line_row line) ≡ true → (pushes line ≡ false) × (pops line ≡ false)
level_rests line is = level_writes line (entry_row line) (entry_level line is)

pub repeat_rests : (line : Sym) → (line.repeat ≡ Repeat.No → ⊥) → (pushes line ≡ false) × (pops line ≡ false)
repeat_rests line other =
    level_rests line (in_repeated line.repeat (row_of line.op line.width (length line.args)) other)

-- the row that tells the entries of a line with another operation and prefix
abbrev entry_with : Sym → Repeat → Op → List MicroOp
entry_with line repeat op =
    if is_shift op && is_zero_count (slice_get line.args 0) then no_shift_row (length line.args)
    else if same_register (slice_get line.args 0) (slice_get line.args 1)
    then self_row op (repeated repeat (row_of op line.width (length line.args)))
    else repeated repeat (row_of op line.width (length line.args))

either_same : (b : Bool) (row : List MicroOp) → (if b then row else row) ≡ row
either_same true row = refl
either_same false row = refl

push_entry : (line : Sym) → line.repeat ≡ Repeat.No → line.op ≡ Op.Push → entry_row line ≡ push_row
push_entry line none is =
    ap₂ (entry_with line) none is
    ∙ either_same (same_register (slice_get line.args 0) (slice_get line.args 1)) push_row

pop_entry : (line : Sym) → line.repeat ≡ Repeat.No → line.op ≡ Op.Pop → entry_row line ≡ pop_row
pop_entry line none is =
    ap₂ (entry_with line) none is
    ∙ either_same (same_register (slice_get line.args 0) (slice_get line.args 1)) pop_row

push_row_is : (line : Sym) → line.repeat ≡ Repeat.No → line.op ≡ Op.Push → line_row line ≡ push_row
push_row_is line none is = plain_row line none ∙ ap (λ op. row_of op line.width (length line.args)) is

pop_row_is : (line : Sym) → line.repeat ≡ Repeat.No → line.op ≡ Op.Pop → line_row line ≡ pop_row
pop_row_is line none is = plain_row line none ∙ ap (λ op. row_of op line.width (length line.args)) is

push_pushes : (line : Sym) → line.repeat ≡ Repeat.No → line.op ≡ Op.Push → pushes line ≡ true
push_pushes line none is = ap (λ row. is_pushed (writes_of row line)) (push_entry line none is)

pop_pops : (line : Sym) → line.repeat ≡ Repeat.No → line.op ≡ Op.Pop → (pushes line ≡ false) × (pops line ≡ true)
pop_pops line none is = (
  ap (λ row. is_pushed (writes_of row line)) (pop_entry line none is),
  ap (λ row. is_popped (writes_of row line)) (pop_entry line none is),
)

-- ---- steps

abbrev stack_base : Machine → ℕ
stack_base m = (m.esp + 4 * m.scratch_top) % 2 ^ 32

-- so many words are pushed, and what lies below them is where it was
abbrev StackAt : Machine → ℕ → Machine → Type 0
StackAt before depth m = (m.scratch_top ≡ depth) × (stack_base m ≡ stack_base before)

pushed_base : (e n : ℕ) → ((e + 2 ^ 32 - 4) % 2 ^ 32 + 4 * (n + 1)) % 2 ^ 32 ≡ (e + 4 * n) % 2 ^ 32
pushed_base e n = omega arith

popped_base : (e n : ℕ) → 0 < n → ((e + 4) % 2 ^ 32 + 4 * (n - 1)) % 2 ^ 32 ≡ (e + 4 * n) % 2 ^ 32
popped_base e n some = omega (arith, some)

arg_esp : (w : Width) (bytes : Bytes) (a : Option InstArg) (v : ℕ) (m : Machine)
    → (put (arg_destination w bytes a m) v m).esp ≡ m.esp
arg_esp w bytes (Some (InstArg.Register r slice)) v m = refl
arg_esp w bytes (Some (InstArg.Number n)) v m = refl
arg_esp w bytes (Some (InstArg.Address form k)) v m = refl
arg_esp w bytes (Some (InstArg.Label k)) v m = refl
arg_esp w bytes None v m = refl

module _ (line : Sym) (x : Stand) where
  -- the state with a row's values written
  abbrev by_row : List MicroOp → Machine
  by_row row = written row (inst_under x.at line) x.goal (values_at line x) x.before

  alone_ended : (P : Machine → Type 0) → IsStepped line x → line.repeat ≡ Repeat.No → P (by_row (line_row line))
      → P x.after
  alone_ended P stepped none holds = line_ended P line x stepped
      (λ over. absurd (both_ways _ (ap (λ row. is_over row (values_at line x)) (plain_row line none)
      ∙ never_over line.op line.width (length line.args) (values_at line x)) over))
      (λ more. holds)

  push_put : (v : ℕ) → x.before.scratch_top < 16
      → StackAt x.before (x.before.scratch_top + 1) (put (Destination.Push x.before.scratch_top) v x.before)
  push_put v room = subst (λ b. StackAt x.before (x.before.scratch_top + 1)
      (if b then pushed x.before.scratch_top v x.before else x.before)) (sym (lt-ltb x.before.scratch_top 16 room))
      (refl, pushed_base x.before.esp x.before.scratch_top)

  push_moves : x.before.scratch_top < 16 → StackAt x.before (x.before.scratch_top + 1) (by_row push_row)
  push_moves room = push_put (slice_index (values_at line x) 0) room

  pop_moves : 0 < x.before.scratch_top → StackAt x.before (x.before.scratch_top - 1) (by_row pop_row)
  pop_moves some = (
    refl,
    ap (λ e. ((e + 4) % 2 ^ 32 + 4 * (x.before.scratch_top - 1)) % 2 ^ 32)
        (arg_esp line.width Bytes.Whole (arg_at (inst_under x.at line) 0) (slice_index (values_at line x) 0) x.before)
        ∙ popped_base x.before.esp x.before.scratch_top some,
  )

  module _ (i : Interface) (s : Shape) (depth : ℕ) (step : IsTableStep i s depth line x)
      (some : pops line ≡ true → 0 < depth) where
    behind_push : line.repeat ≡ Repeat.No → line.op ≡ Op.Push → StackAt x.before (depth_behind line depth) x.after
    behind_push none is =
        let push = push_pushes line none is in
        let room = step.room push in
        let at_depth = step.at_depth in
        let number : x.before.scratch_top + 1 ≡ depth_behind line depth =
        ap (λ n. n + 1) at_depth ∙ sym (ap (λ b. depth_by b (pops line) depth) push) in
        subst (λ d. StackAt x.before d x.after) number
        (alone_ended (StackAt x.before (x.before.scratch_top + 1)) step.stepped none
        (subst (λ row. StackAt x.before (x.before.scratch_top + 1) (by_row row)) (sym (push_row_is line none is))
        (push_moves (omega (arith, room, at_depth)))))

    behind_pop : line.repeat ≡ Repeat.No → line.op ≡ Op.Pop → StackAt x.before (depth_behind line depth) x.after
    behind_pop none is =
        let pop = pop_pops line none is in
        let more = some pop.1 in
        let at_depth = step.at_depth in
        let number : x.before.scratch_top - 1 ≡ depth_behind line depth =
        ap (λ n. n - 1) at_depth ∙ sym (ap₂ (λ b c. depth_by b c depth) pop.0 pop.1) in
        subst (λ d. StackAt x.before d x.after) number
        (alone_ended (StackAt x.before (x.before.scratch_top - 1)) step.stepped none
        (subst (λ row. StackAt x.before (x.before.scratch_top - 1) (by_row row)) (sym (pop_row_is line none is))
        (pop_moves (omega (arith, more, at_depth)))))

    behind_level : are_level (line_row line) ≡ true → StackAt x.before (depth_behind line depth) x.after
    behind_level level =
        let rests = level_rests line level in
        let kept = table_facts_held.stack i s depth line x step rests.0 rests.1 in (
          kept.0 ∙ step.at_depth ∙ sym (ap₂ (λ b c. depth_by b c depth) rests.0 rests.1),
          ap₂ (λ e n. (e + 4 * n) % 2 ^ 32) kept.1 kept.0,
        )

    by_kind : LineKind line.repeat line.op (row_of line.op line.width (length line.args))
        → StackAt x.before (depth_behind line depth) x.after
    by_kind (inl push) = behind_push push.0 push.1
    by_kind (inr (inl pop)) = behind_pop pop.0 pop.1
    by_kind (inr (inr level)) = behind_level level

pub stack_moves : (i : Interface) (s : Shape) (depth : ℕ) (line : Sym) (x : Stand) → IsTableStep i s depth line x
    → (pops line ≡ true → 0 < depth)
    → (x.after.scratch_top ≡ depth_behind line depth)
    × ((x.after.esp + 4 * x.after.scratch_top) % 2 ^ 32 ≡ (x.before.esp + 4 * x.before.scratch_top) % 2 ^ 32)
stack_moves i s depth line x step some =
    by_kind line x i s depth step some (line_kind line.repeat line.op line.width (length line.args))
