-- Lines that are read, worked out by hand from the grammar and the table of names.
use Rattle.std.proofs.Common.{◌≡◌, ℕ, pos, negsuc, List, [], ◌∷◌, ◌++◌, map, true, false, Option, None, Some, Result, Ok, Err, codes, refl, ◌<◌, arith}
use Rattle.std.proofs.lemmas.Fmt.{decimal_digit}
use Rattle.asm_core.specs.Reg.{no_regs}
use Rattle.asm_core.proofs.Examples.Shapes.{any_register}
use Rattle.asm_core.specs.Expansion.{printed}
use Rattle.asm_core.specs.Reading.Names.{names}
use Rattle.asm_core.specs.Reading.Chosen.{choice_of}
use Rattle.asm_core.specs.Comments.{kept, comments_from, comment_until, comment_end, line_end, block_end}
use Rattle.asm_core.specs.Reading.Cut.{raws_of, raws_from, items_from, item_at, begun}
use Rattle.asm_core.specs.Reading.Written.{number_of, magnitude_of}
use Rattle.asm_core.specs.Reading.Operands.{operand_of, operands_of, operands_in, written_operand, disp_in, place_in, scale_in, base_in, index_in, between, enclosed, front_disp, address_at, address_of, ended, trimmed}
use Rattle.asm_core.specs.Reading.Facts.{facts_of}
use Rattle.asm_core.specs.Reading.Text.{form_read}
use Rattle.asm_core.specs.Reading.Line.{lines_under, template_raws, readings_of, readings_from, line_of, line_at, goal_of}
use Rattle.asm_core.proofs.Examples.Shapes.{operand, interface, shape, r, m}
use Rattle.asm_core.specs.declared.reg.Reg.{Reg}
use Rattle.asm_core.specs.declared.reg.Slice.{Slice}
use Rattle.asm_core.specs.declared.sym.Place.{Place}
use Rattle.asm_core.specs.declared.sym.Disp.{Disp}
use Rattle.asm_core.specs.declared.sym.Arg.{Arg}
use Rattle.asm_core.specs.declared.sym.Sym.{Sym}
use Rattle.asm_core.specs.declared.inst.Op.{Op}
use Rattle.asm_core.specs.declared.cond.Cond.{Cond}
use Rattle.asm_core.specs.declared.inst.Width.{Width}
use Rattle.asm_core.specs.declared.inst.Width.TheVariants.{B, W, L}
use Rattle.asm_core.specs.declared.inst.Repeat.{Repeat}
use Rattle.asm_core.specs.declared.piece.Modifier.{Modifier}
use Rattle.asm_core.specs.declared.piece.Piece.{Piece}
use Rattle.asm_core.specs.declared.placement.Base.{Base}
use Rattle.asm_core.specs.declared.placement.Spot.{Spot}
use Rattle.asm_core.specs.declared.interface.Role.{Role}
use Rattle.asm_core.specs.declared.interface.Interface.{Interface}
use Rattle.asm_core.specs.declared.shape.Kind.{Kind}
use Rattle.asm_core.specs.declared.shape.Shape.{Shape}
use Rattle.asm_core.specs.declared.lines.JumpTarget.{JumpTarget}
use Rattle.asm_core.specs.declared.lines.Lines.{Lines}
use Rattle.asm_core.specs.declared.lines.LinesEnd.{LinesEnd}

-- numbers: decimal, hexadecimal, binary, octal; from -2^31 to 2^32 - 1
least : number_of (codes "-0x80000000") ≡ Some (negsuc 2147483647)
unfolding number_of magnitude_of
least = refl

too_small : number_of (codes "-2147483649") ≡ None
unfolding number_of magnitude_of
too_small = refl

greatest : number_of (codes "4294967295") ≡ Some (pos 4294967295)
unfolding number_of magnitude_of
greatest = refl

too_great : number_of (codes "0x100000000") ≡ None
unfolding number_of magnitude_of
too_great = refl

binary : number_of (codes "0b101") ≡ Some (pos 5)
unfolding number_of magnitude_of
binary = refl

octal : number_of (codes "-017") ≡ Some (negsuc 14)
unfolding number_of magnitude_of
octal = refl

no_octal : number_of (codes "08") ≡ None
unfolding number_of magnitude_of
no_octal = refl

no_digits : number_of (codes "0x") ≡ None
unfolding number_of magnitude_of
no_digits = refl

-- how operands are printed
low_byte : printed 4 Modifier.B (Spot.Register Reg.Ebx) ≡ Some (codes "%bl")
low_byte = refl

no_low_byte : printed 4 Modifier.B (Spot.Register Reg.Esi) ≡ None
no_low_byte = refl

by_size : printed 2 Modifier.Plain (Spot.Register Reg.Esi) ≡ Some (codes "%si")
by_size = refl

pair : printed 8 Modifier.Plain Spot.Pair ≡ Some (codes "%eax")
pair = refl

immediate : printed 4 Modifier.W (Spot.Number (negsuc 0)) ≡ Some (codes "$-1")
immediate = let small1 : 1 < 10 = omega arith in rw (decimal_digit 1 small1) refl

bare : printed 4 Modifier.C (Spot.Number (pos 7)) ≡ Some (codes "7")
bare = let small7 : 7 < 10 = omega arith in rw (decimal_digit 7 small7) refl

on_the_stack : printed 4 Modifier.K (Spot.Memory (record { disp = pos 8; base = Some Base.Esp; index = Some (Reg.Ecx, 4) })) ≡ Some (codes "8(%esp,%ecx,4)")
on_the_stack = let small8 : 8 < 10 = omega arith in let small4 : 4 < 10 = omega arith in rw (decimal_digit 8 small8, decimal_digit 4 small4) refl

absolute : printed 4 Modifier.Plain (Spot.Memory (record { disp = pos 0; base = None; index = None })) ≡ Some (codes "0")
absolute = let small0 : 0 < 10 = omega arith in rw (decimal_digit 0 small0) refl

-- what the bytes of an address say
stack_read : form_read (codes "8(%esp,%ecx,4)") ≡ record { disp = pos 8; base = Some Base.Esp; index = Some (Reg.Ecx, 4) }
unfolding form_read number_of magnitude_of
stack_read = refl

-- bytes of a template that stand at 7
abbrev bytes : List ℕ → List Piece
bytes text = map (λ b. Piece.Byte b 7) text

abbrev hole : ℕ → List Piece
hole k = Piece.Hole k Modifier.Plain 7 ∷ []

abbrev unique : List Piece
unique = Piece.Unique 7 ∷ []

-- `"+r"(x):"r"(y),"m"(z),"I"(n)`
abbrev four : Interface
four = interface (operand Role.InOut (r ∷ []) ∷ operand Role.In (r ∷ []) ∷ operand Role.In (m ∷ []) ∷ operand Role.In (record any_register { regs = no_regs; numbers = Some (pos 0, pos 31) } ∷ []) ∷ [])

abbrev four_kinds : Shape
four_kinds = shape 0 (Kind.Register ∷ Kind.Register ∷ Kind.Memory ∷ Kind.Number ∷ [])

abbrev insts_in : Result Lines LinesEnd → List (Option Sym)
insts_in (Err e) = []
insts_in (Ok lines) = lines.insts

abbrev left_out_in : Result Lines LinesEnd → List ℕ
left_out_in (Err e) = []
left_out_in (Ok lines) = lines.left_out

abbrev targets_in : Result Lines LinesEnd → List JumpTarget
targets_in (Err e) = []
targets_in (Ok lines) = lines.targets

abbrev sym : Op → Width → List Arg → Option Sym
sym op width args = Some (record { op = op; width = width; args = args; repeat = Repeat.No; lock = false; place = 7 })

abbrev whole : Place → Arg
whole place = Arg.Register place Slice.All

abbrev x : Arg
x = whole (Place.Operand 0)

abbrev y : Arg
y = whole (Place.Operand 1)

-- one line with the operands of `four`
abbrev line : List Piece → List (Option Sym)
line ps = insts_in (lines_under names four four_kinds ps)

abbrev targets : List Piece → List JumpTarget
targets ps = targets_in (lines_under names four four_kinds ps)

abbrev left_out : List Piece → List ℕ
left_out ps = left_out_in (lines_under names four four_kinds ps)

-- `movl %1,%0`
moves_operands : line (bytes (codes "movl ") ++ (hole 1 ++ (bytes (codes ",") ++ hole 0))) ≡ sym Op.Mov L (y ∷ x ∷ []) ∷ []
unfolding kept comments_from comment_until comment_end line_end block_end begun item_at items_from raws_from raws_of number_of magnitude_of ended trimmed disp_in place_in scale_in base_in index_in between enclosed front_disp address_at address_of written_operand operand_of operands_in operands_of choice_of goal_of line_at line_of readings_from readings_of facts_of template_raws
moves_operands = refl

-- without a suffix the registers give the size
sizes_by_registers : line (bytes (codes "mov %al, %bl")) ≡ sym Op.Mov B (Arg.Register (Place.Reg Reg.Eax) Slice.Low8 ∷ Arg.Register (Place.Reg Reg.Ebx) Slice.Low8 ∷ []) ∷ []
unfolding kept comments_from comment_until comment_end line_end block_end begun item_at items_from raws_from raws_of number_of magnitude_of ended trimmed disp_in place_in scale_in base_in index_in between enclosed front_disp address_at address_of written_operand operand_of operands_in operands_of choice_of goal_of line_at line_of readings_from readings_of facts_of template_raws
sizes_by_registers = refl

-- registers of two sizes
two_sizes : line (bytes (codes "mov %al,%ebx")) ≡ None ∷ []
unfolding kept comments_from comment_until comment_end line_end block_end begun item_at items_from raws_from raws_of number_of magnitude_of ended trimmed disp_in place_in scale_in base_in index_in between enclosed front_disp address_at address_of written_operand operand_of operands_in operands_of choice_of goal_of line_at line_of readings_from readings_of facts_of template_raws
two_sizes = refl

-- no size
wants_a_size : line (bytes (codes "mov $5,(%eax)")) ≡ None ∷ []
unfolding kept comments_from comment_until comment_end line_end block_end begun item_at items_from raws_from raws_of number_of magnitude_of ended trimmed disp_in place_in scale_in base_in index_in between enclosed front_disp address_at address_of written_operand operand_of operands_in operands_of choice_of goal_of line_at line_of readings_from readings_of facts_of template_raws
wants_a_size = refl

-- an address
in_memory : line (bytes (codes "movw $-2 , -4( %eax , %ebx , 8 )")) ≡ sym Op.Mov W (Arg.Number (negsuc 1) ∷ Arg.Address (Disp.Number (negsuc 3)) (Some (Place.Reg Reg.Eax)) (Some (Place.Reg Reg.Ebx, 8)) ∷ []) ∷ []
unfolding kept comments_from comment_until comment_end line_end block_end begun item_at items_from raws_from raws_of number_of magnitude_of ended trimmed disp_in place_in scale_in base_in index_in between enclosed front_disp address_at address_of written_operand operand_of operands_in operands_of choice_of goal_of line_at line_of readings_from readings_of facts_of template_raws
in_memory = refl

-- holes in an address; a hole `%c` that isn't known is no scale
address_of_holes : line (bytes (codes "leal 4(,") ++ (hole 1 ++ (bytes (codes ",2),") ++ (hole 0 ++ (bytes (codes ";leal (") ++ (hole 1 ++ (bytes (codes ",%eax,") ++ (Piece.Hole 3 Modifier.C 7 ∷ bytes (codes "),%eax"))))))))) ≡ sym Op.Lea L (Arg.Address (Disp.Number (pos 4)) None (Some (Place.Operand 1, 2)) ∷ x ∷ []) ∷ None ∷ []
unfolding kept comments_from comment_until comment_end line_end block_end begun item_at items_from raws_from raws_of number_of magnitude_of ended trimmed disp_in place_in scale_in base_in index_in between enclosed front_disp address_at address_of written_operand operand_of operands_in operands_of choice_of goal_of line_at line_of readings_from readings_of facts_of template_raws
address_of_holes = refl

-- a memory operand and a number
memory_hole : line (bytes (codes "addl ") ++ (hole 3 ++ (bytes (codes ",") ++ hole 2))) ≡ sym Op.Add L (Arg.Hole 3 ∷ Arg.Memory 2 ∷ []) ∷ []
unfolding kept comments_from comment_until comment_end line_end block_end begun item_at items_from raws_from raws_of number_of magnitude_of ended trimmed disp_in place_in scale_in base_in index_in between enclosed front_disp address_at address_of written_operand operand_of operands_in operands_of choice_of goal_of line_at line_of readings_from readings_of facts_of template_raws
memory_hole = refl

-- two of them
two_memories : line (bytes (codes "addl ") ++ (hole 2 ++ (bytes (codes ",") ++ hole 2))) ≡ None ∷ []
unfolding kept comments_from comment_until comment_end line_end block_end begun item_at items_from raws_from raws_of number_of magnitude_of ended trimmed disp_in place_in scale_in base_in index_in between enclosed front_disp address_at address_of written_operand operand_of operands_in operands_of choice_of goal_of line_at line_of readings_from readings_of facts_of template_raws
two_memories = refl

-- a count in `%cl`, and a register that may lie in ecx
count : line (bytes (codes "shl %cl,") ++ (hole 0)) ≡ sym Op.Shl L (Arg.Register (Place.Reg Reg.Ecx) Slice.Low8 ∷ x ∷ []) ∷ []
unfolding kept comments_from comment_until comment_end line_end block_end begun item_at items_from raws_from raws_of number_of magnitude_of ended trimmed disp_in place_in scale_in base_in index_in between enclosed front_disp address_at address_of written_operand operand_of operands_in operands_of choice_of goal_of line_at line_of readings_from readings_of facts_of template_raws
count = refl

no_count : line (bytes (codes "shl ") ++ (Piece.Hole 1 Modifier.B 7 ∷ bytes (codes ",%eax"))) ≡ None ∷ []
unfolding kept comments_from comment_until comment_end line_end block_end begun item_at items_from raws_from raws_of number_of magnitude_of ended trimmed disp_in place_in scale_in base_in index_in between enclosed front_disp address_at address_of written_operand operand_of operands_in operands_of choice_of goal_of line_at line_of readings_from readings_of facts_of template_raws
no_count = refl

-- a condition, and a suffix behind one
condition : line (bytes (codes "setnz %al;cmovlel (%eax),%ebx")) ≡ sym (Op.Set Cond.Ne) B (Arg.Register (Place.Reg Reg.Eax) Slice.Low8 ∷ []) ∷ sym (Op.Cmov Cond.Le) L (Arg.Address (Disp.Number (pos 0)) (Some (Place.Reg Reg.Eax)) None ∷ whole (Place.Reg Reg.Ebx) ∷ []) ∷ []
unfolding kept comments_from comment_until comment_end line_end block_end begun item_at items_from raws_from raws_of number_of magnitude_of ended trimmed disp_in place_in scale_in base_in index_in between enclosed front_disp address_at address_of written_operand operand_of operands_in operands_of choice_of goal_of line_at line_of readings_from readings_of facts_of template_raws
condition = refl

-- `lock` in its own statement
locked : line (bytes (codes "lock; incl ") ++ hole 2) ≡ Some (record { op = Op.Inc; width = L; args = Arg.Memory 2 ∷ []; repeat = Repeat.No; lock = true; place = 7 }) ∷ []
unfolding kept comments_from comment_until comment_end line_end block_end begun item_at items_from raws_from raws_of number_of magnitude_of ended trimmed disp_in place_in scale_in base_in index_in between enclosed front_disp address_at address_of written_operand operand_of operands_in operands_of choice_of goal_of line_at line_of readings_from readings_of facts_of template_raws
locked = refl

-- `lock` without memory, and without an instruction
locked_register : line (bytes (codes "lock incl %eax;lock")) ≡ None ∷ None ∷ []
unfolding kept comments_from comment_until comment_end line_end block_end begun item_at items_from raws_from raws_of number_of magnitude_of ended trimmed disp_in place_in scale_in base_in index_in between enclosed front_disp address_at address_of written_operand operand_of operands_in operands_of choice_of goal_of line_at line_of readings_from readings_of facts_of template_raws
locked_register = refl

-- `rep`, and `rep nop`
repeated : line (bytes (codes "rep movsb;rep;nop;repe scasl")) ≡ Some (record { op = Op.Movs; width = B; args = []; repeat = Repeat.Rep; lock = false; place = 7 }) ∷ sym Op.Nop L [] ∷ Some (record { op = Op.Scas; width = L; args = []; repeat = Repeat.Repe; lock = false; place = 7 }) ∷ []
unfolding kept comments_from comment_until comment_end line_end block_end begun item_at items_from raws_from raws_of number_of magnitude_of ended trimmed disp_in place_in scale_in base_in index_in between enclosed front_disp address_at address_of written_operand operand_of operands_in operands_of choice_of goal_of line_at line_of readings_from readings_of facts_of template_raws
repeated = refl

-- the nearest label before and behind
backwards : line (bytes (codes "1:1: jmp 1b;jne 1f;1:")) ≡ sym Op.Jmp L (Arg.Label 0 ∷ []) ∷ sym (Op.J Cond.Ne) L (Arg.Label 2 ∷ []) ∷ []
unfolding kept comments_from comment_until comment_end line_end block_end begun item_at items_from raws_from raws_of number_of magnitude_of ended trimmed disp_in place_in scale_in base_in index_in between enclosed front_disp address_at address_of written_operand operand_of operands_in operands_of choice_of goal_of line_at line_of readings_from readings_of facts_of template_raws
backwards = refl

-- `2f` is the nearest label 2 behind the jump, not the last
the_nearest : line (bytes (codes "jmp 2f;2: nop;2: nop")) ≡ sym Op.Jmp L (Arg.Label 1 ∷ []) ∷ sym Op.Nop L [] ∷ sym Op.Nop L [] ∷ []
unfolding kept comments_from comment_until comment_end line_end block_end begun item_at items_from raws_from raws_of number_of magnitude_of ended trimmed disp_in place_in scale_in base_in index_in between enclosed front_disp address_at address_of written_operand operand_of operands_in operands_of choice_of goal_of line_at line_of readings_from readings_of facts_of template_raws
the_nearest = refl

-- no such label
no_label : line (bytes (codes "jmp 2f;2f")) ≡ sym Op.Jmp L (Arg.Label 2 ∷ []) ∷ None ∷ []
unfolding kept comments_from comment_until comment_end line_end block_end begun item_at items_from raws_from raws_of number_of magnitude_of ended trimmed disp_in place_in scale_in base_in index_in between enclosed front_disp address_at address_of written_operand operand_of operands_in operands_of choice_of goal_of line_at line_of readings_from readings_of facts_of template_raws
no_label = refl

no_target : targets (bytes (codes "jmp 2f;jmp 02f;2:")) ≡ record { inst = 0; goal = Some 2 } ∷ []
unfolding kept comments_from comment_until comment_end line_end block_end begun item_at items_from raws_from raws_of number_of magnitude_of ended trimmed disp_in place_in scale_in base_in index_in between enclosed front_disp address_at address_of written_operand operand_of operands_in operands_of choice_of goal_of line_at line_of readings_from readings_of facts_of template_raws
no_target = refl

-- a label with `%=`, and the second of two
unique_labels : line (bytes (codes ".La") ++ (unique ++ (bytes (codes ": jmp .La") ++ (unique ++ (bytes (codes ";.La") ++ (unique ++ bytes (codes ":"))))))) ≡ sym Op.Jmp L (Arg.Label 0 ∷ []) ∷ None ∷ []
unfolding kept comments_from comment_until comment_end line_end block_end begun item_at items_from raws_from raws_of number_of magnitude_of ended trimmed disp_in place_in scale_in base_in index_in between enclosed front_disp address_at address_of written_operand operand_of operands_in operands_of choice_of goal_of line_at line_of readings_from readings_of facts_of template_raws
unique_labels = refl

-- comments of both kinds
comments_aside : line (bytes (codes "nop # ;nop") ++ (Piece.Byte 10 7 ∷ bytes (codes "/* nop; */ nop ;/nop"))) ≡ sym Op.Nop L [] ∷ sym Op.Nop L [] ∷ None ∷ []
unfolding kept comments_from comment_until comment_end line_end block_end begun item_at items_from raws_from raws_of number_of magnitude_of ended trimmed disp_in place_in scale_in base_in index_in between enclosed front_disp address_at address_of written_operand operand_of operands_in operands_of choice_of goal_of line_at line_of readings_from readings_of facts_of template_raws
comments_aside = refl

-- a bit test of memory by a register is left out
bit_of_memory : left_out (bytes (codes "nop;lock btsl %eax,") ++ hole 2) ≡ 1 ∷ []
unfolding kept comments_from comment_until comment_end line_end block_end begun item_at items_from raws_from raws_of number_of magnitude_of ended trimmed disp_in place_in scale_in base_in index_in between enclosed front_disp address_at address_of written_operand operand_of operands_in operands_of choice_of goal_of line_at line_of readings_from readings_of facts_of template_raws
bit_of_memory = refl

bit_by_number : left_out (bytes (codes "lock btsl $3,") ++ hole 2) ≡ []
unfolding kept comments_from comment_until comment_end line_end block_end begun item_at items_from raws_from raws_of number_of magnitude_of ended trimmed disp_in place_in scale_in base_in index_in between enclosed front_disp address_at address_of written_operand operand_of operands_in operands_of choice_of goal_of line_at line_of readings_from readings_of facts_of template_raws
bit_by_number = refl
