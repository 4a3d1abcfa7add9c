-- What a patch may add to a statement, and what the statement tells the compiler with it. This project's own.
use Rattle.std.specs.Prelude.{ℕ, ◌+◌, ◌*◌, ◌^◌, ◌==◌, ◌&&◌, ◌||◌, bit_and, bit_or, fold, map, List, [], ◌∷◌, Bool, if◌then◌else◌}
use Rattle.std.specs.List.{list_any}
use Rattle.asm_core.specs.Reg.{reg_number}
use Rattle.asm_core.specs.Placement.{is_output}
use Rattle.asm_core.specs.declared.reg.Reg.{Reg}
use Rattle.asm_core.specs.declared.reg.Reg.TheVariants.{Eax, Ebx, Ecx, Edx, Esi, Edi, Ebp}
use Rattle.asm_core.specs.declared.reg.RegSet.{RegSet}
use Rattle.asm_core.specs.declared.interface.Role.{Role}
use Rattle.asm_core.specs.declared.interface.AltIface.{AltIface}
use Rattle.asm_core.specs.declared.interface.OperandIface.{OperandIface}
use Rattle.asm_core.specs.declared.interface.Interface.{Interface}
use Rattle.blk_patch.specs.declared.item.Item.{Item}

-- ---- items

-- items are the same where their numbers are
abbrev pub item_number : Item → ℕ
item_number (Item.Clobber r) = reg_number r
item_number Item.Memory = 7
item_number Item.Cc = 8
item_number (Item.Early k) = 9 + 3 * k
item_number (Item.Plus k) = 10 + 3 * k
item_number (Item.Byte k) = 11 + 3 * k

-- the item is among these
unfoldable pub has : List Item → Item → Bool
has items x = list_any (λ y. item_number x == item_number y) items

-- ---- operands

-- `plus k` turns `=` into `+`
abbrev pub role_with : List Item → ℕ → Role → Role
role_with items k Role.Out = if has items (Item.Plus k) then Role.InOut else Role.Out
role_with items k Role.InOut = Role.InOut
role_with items k Role.In = Role.In

-- `byte k` leaves the registers that have byte names
abbrev pub registers_with : List Item → ℕ → RegSet → RegSet
registers_with items k regs = if has items (Item.Byte k) then record { 0 = bit_and regs.0 15 } else regs

-- `early k` marks every alternative of the output
abbrev pub alternative_with : List Item → ℕ → Bool → AltIface → AltIface
alternative_with items k output alt = record {
  early = alt.early || (output && has items (Item.Early k));
  tied = alt.tied;
  regs = registers_with items k alt.regs;
  pair = alt.pair;
  mem = alt.mem;
  numbers = alt.numbers;
}

abbrev pub operand_with : List Item → ℕ → OperandIface → OperandIface
operand_with items k o = record {
  role = role_with items k o.role;
  size = o.size;
  pointer = o.pointer;
  known = o.known;
  flag = o.flag;
  alts = map (alternative_with items k (is_output o.role)) o.alts;
}

-- operands that are numbered from k upwards
unfoldable pub operands_with : List Item → ℕ → List OperandIface → List OperandIface
operands_with items k [] = []
operands_with items k (o ∷ os) = operand_with items k o ∷ operands_with items (k + 1) os

-- ---- clobbers

abbrev pub clobber_bit : List Item → Reg → ℕ
clobber_bit items r = if has items (Item.Clobber r) then 2 ^ reg_number r else 0

abbrev pub registers : List Reg
registers = Eax ∷ Ebx ∷ Ecx ∷ Edx ∷ Esi ∷ Edi ∷ Ebp ∷ []

abbrev pub clobbers_with : List Item → RegSet → RegSet
clobbers_with items regs = record { 0 = fold (λ bits r. bit_or bits (clobber_bit items r)) regs.0 registers }

-- ---- the whole

-- What the statement tells the compiler with these items. Their order and how often each stands there say nothing.
unfoldable pub with_items : List Item → Interface → Interface
with_items items i = record {
  operands = operands_with items 0 i.operands;
  clobbers = clobbers_with items i.clobbers;
  cc = i.cc || has items Item.Cc;
  memory = i.memory || has items Item.Memory;
}
