-- What the text of a constraint says (GCC manual, "Simple Constraints", "Multiple Alternative Constraints", "Constraint
-- Modifier Characters", "Machine Constraints" for x86, "Flag Output Operands"). What no letter here says has no meaning.
use Rattle.std.specs.Prelude.{ℕ, zero, suc, ◌+◌, ◌-◌, ◌*◌, ◌==◌, ◌||◌, nat_eq, nat_lt, List, [], ◌∷◌, ◌++◌, map, length, take, drop, fold, position, Bool, true, false, Option, None, Some, option_map, slice_index, codes, if◌then◌else◌}
use Rattle.std.specs.List.{flat_map, prefix_len, slice_split}
use Rattle.std.specs.Char.{is_ascii_digit}
use Rattle.std.specs.Cmp.Lexicographic.{pointwise}
use Rattle.asm_core.specs.Lists.{optional_at}
use Rattle.asm_core.specs.Cond.{cond_named}
use Rattle.asm_core.specs.declared.reg.Reg.{Reg}
use Rattle.asm_core.specs.declared.cond.Cond.{Cond}
use Rattle.asm_core.specs.declared.interface.Role.{Role}
use Rattle.asm_core.specs.declared.constraint.Letter.{Letter}
use Rattle.asm_core.specs.declared.constraint.Letter.TheVariants.{One, Pair, ByteRegister, AnyRegister, Memory, Number, WordShift, LongShift, SignedByte, AddressShift, UnsignedByte, General}
use Rattle.asm_core.specs.declared.constraint.Symbol.{Symbol}
use Rattle.asm_core.specs.declared.constraint.Symbol.TheVariants as symbols
use Rattle.asm_core.specs.declared.constraint.ConstrainedOperand.{ConstrainedOperand}
use Rattle.asm_core.specs.declared.operand.Operand.{Operand}
use Rattle.asm_core.specs.declared.statement.Part.{Part}
use Rattle.asm_core.specs.declared.statement.Parts.{Parts}

abbrev pub letters : List (ℕ × Letter)
letters =
    (97, One Reg.Eax) ∷ (98, One Reg.Ebx) ∷ (99, One Reg.Ecx) ∷ (100, One Reg.Edx) ∷ (83, One Reg.Esi) ∷ (68, One Reg.Edi)
    ∷ (65, Pair) ∷ (113, ByteRegister) ∷ (81, ByteRegister) ∷ (114, AnyRegister) ∷ (109, Memory)
    ∷ (105, Number) ∷ (110, Number) ∷ (73, WordShift) ∷ (74, LongShift) ∷ (75, SignedByte) ∷ (77, AddressShift) ∷ (78, UnsignedByte)
    ∷ (103, General) ∷ []

abbrev pub entry_of : {A : Type 0} → ℕ → List (ℕ × A) → Option A
entry_of b [] = None
entry_of b (x ∷ xs) = if b == x.0 then Some x.1 else entry_of b xs

unfoldable pub letter_of : ℕ → Option Letter
letter_of b = entry_of b letters

-- ---- ties

abbrev pub same : List ℕ → List ℕ → Bool
same name word = pointwise nat_eq name word

-- the number that the digits write
abbrev pub number_of : List ℕ → ℕ
number_of digits = fold (λ n d. n * 10 + (d - 48)) 0 digits

-- the output of that number, if there is one; `outputs` are the names of the outputs
unfoldable pub output_numbered : List (Option (List ℕ)) → List ℕ → Option ℕ
output_numbered outputs digits = if nat_lt (number_of digits) (length outputs) then Some (number_of digits) else None

abbrev pub has_name : List ℕ → Option (List ℕ) → Bool
has_name text None = false
has_name text (Some name) = same name text

-- the first output of that name
unfoldable pub output_named : List (Option (List ℕ)) → List ℕ → Option ℕ
output_named outputs text = position (has_name text) outputs

-- ---- symbols

abbrev pub is_close_bracket : ℕ → Bool
is_close_bracket b = b == 93

-- what an opening bracket begins, given where it is closed: without that it takes the whole alternative
abbrev pub bracketed : List (Option (List ℕ)) → List ℕ → Option ℕ → Symbol × ℕ
bracketed outputs bs None = (symbols.Other, length bs)
bracketed outputs bs (Some close) = (symbols.Tie (output_named outputs (take close bs)), close + 1)

abbrev pub letter_symbol : Option Letter → Symbol
letter_symbol None = symbols.Other
letter_symbol (Some letter) = symbols.Letter letter

-- a symbol of one byte
unfoldable pub byte_symbol : ℕ → Symbol
byte_symbol b = if b == 38 then symbols.Early else if b == 61 || b == 43 then symbols.Sign else letter_symbol (letter_of b)

-- The symbol that begins with the byte b before the bytes bs, and how many of these belong to it. A tie is the longest
-- run of digits, or what stands up to the closing bracket.
unfoldable pub symbol_at : List (Option (List ℕ)) → ℕ → List ℕ → Symbol × ℕ
symbol_at outputs b bs =
    if is_ascii_digit b then (symbols.Tie (output_numbered outputs (b ∷ take (prefix_len is_ascii_digit bs) bs)), prefix_len is_ascii_digit bs)
    else if b == 91 then bracketed outputs bs (position is_close_bracket bs)
    else (byte_symbol b, 0)

-- The symbols of one alternative, whose first bytes belong to the symbol before.
unfoldable pub symbols_from : List (Option (List ℕ)) → ℕ → List ℕ → List Symbol
symbols_from outputs taken [] = []
symbols_from outputs zero (b ∷ bs) = (symbol_at outputs b bs).0 ∷ symbols_from outputs (symbol_at outputs b bs).1 bs
symbols_from outputs (suc taken) (b ∷ bs) = symbols_from outputs taken bs

abbrev pub is_comma : ℕ → Bool
is_comma b = b == 44

-- Commas part the alternatives, wherever they stand.
unfoldable pub alternatives_in : List (Option (List ℕ)) → List ℕ → List (List Symbol)
alternatives_in outputs text = map (symbols_from outputs 0) (slice_split is_comma text)

-- ---- whole constraints

-- an output begins with `=` or `+`
abbrev pub role_of : List ℕ → Role
role_of text = if slice_index text 0 == 61 then Role.Out else (if slice_index text 0 == 43 then Role.InOut else Role.In)

abbrev pub is_signed : Role → Bool
is_signed Role.Out = true
is_signed Role.InOut = true
is_signed Role.In = false

abbrev pub behind_sign : List ℕ → List ℕ
behind_sign text = if is_signed (role_of text) then drop 1 text else text

-- the condition of that spelling, which `pe` and `po` are not for gcc
unfoldable pub flag_spelt : List ℕ → Option Cond
flag_spelt spelling = if same spelling (codes "pe") || same spelling (codes "po") then None else cond_named spelling

-- the whole constraint is `=@cc` and a spelling
unfoldable pub flag_of : List ℕ → Option Cond
flag_of text = if same (take 4 text) (codes "=@cc") then flag_spelt (drop 4 text) else None

-- a flag output's constraint holds in every alternative
abbrev pub alternatives_unless_flag : Option Cond → List (List Symbol) → List (List Symbol)
alternatives_unless_flag None alternatives = alternatives
alternatives_unless_flag (Some condition) alternatives = []

-- ---- operands

abbrev pub constrained_output : List (Option (List ℕ)) → ℕ → Part → Option Operand → ConstrainedOperand
constrained_output outputs number part typed = record {
  number = number;
  output = true;
  role = role_of part.constraint.bytes;
  flag = flag_of part.constraint.bytes;
  alternatives = alternatives_unless_flag (flag_of part.constraint.bytes) (alternatives_in outputs (behind_sign part.constraint.bytes));
  constraint = part.constraint.span.from;
  expression = part.expr.from;
  typed = typed;
}

abbrev pub constrained_input : List (Option (List ℕ)) → ℕ → Part → Option Operand → ConstrainedOperand
constrained_input outputs number part typed = record {
  number = number;
  output = false;
  role = Role.In;
  flag = None;
  alternatives = alternatives_in outputs part.constraint.bytes;
  constraint = part.constraint.span.from;
  expression = part.expr.from;
  typed = typed;
}

-- outputs come first
unfoldable pub constrained_operand : List (Option (List ℕ)) → ℕ → Part → Option Operand → ConstrainedOperand
constrained_operand outputs number part typed =
    if nat_lt number (length outputs) then constrained_output outputs number part typed else constrained_input outputs number part typed

-- the operands of the parts, numbered upwards
unfoldable pub constrained_from : List (Option (List ℕ)) → List (Option Operand) → ℕ → List Part → List ConstrainedOperand
constrained_from outputs types number [] = []
constrained_from outputs types number (p ∷ ps) = constrained_operand outputs number p (optional_at types number) ∷ constrained_from outputs types (number + 1) ps

abbrev pub name_of : Part → Option (List ℕ)
name_of part = option_map (λ name. name.bytes) part.name

-- the names of the parts
abbrev pub names_of : List Part → List (Option (List ℕ))
names_of parts = map name_of parts

unfoldable pub constrained_operands : Parts → List (Option Operand) → List ConstrainedOperand
constrained_operands parts types = constrained_from (names_of parts.outputs) types 0 (parts.outputs ++ parts.inputs)

-- the symbols of all alternatives
abbrev pub all_symbols : ConstrainedOperand → List Symbol
all_symbols w = flat_map (λ (alternative : List Symbol). alternative) w.alternatives
