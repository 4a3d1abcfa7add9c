-- How findings are printed.
use Rattle.std.specs.Prelude.{ℕ, ◌==◌, List, ◌++◌, codes, decimal, if◌then◌else◌}
use Rattle.asm_core.specs.Reg.{reg_name}
use Rattle.asm_core.specs.Flag.{flag_name}
use Rattle.asm_core.specs.declared.finding.Rule.{Rule}
use Rattle.asm_core.specs.declared.finding.Rule.TheVariants.{W1, W2, W3, W4, M1, M2, R1, R2, R3, U1, U2, U3, U4, S1, S2, S3, J1, K1, K2}
use Rattle.asm_core.specs.declared.finding.Cell.{Cell}
use Rattle.asm_core.specs.declared.finding.Cell.TheVariants
use Rattle.asm_core.specs.declared.finding.Finding.{Finding}

abbrev pub rule_name : Rule → List ℕ
rule_name W1 = codes "W1"
rule_name W2 = codes "W2"
rule_name W3 = codes "W3"
rule_name W4 = codes "W4"
rule_name M1 = codes "M1"
rule_name M2 = codes "M2"
rule_name R1 = codes "R1"
rule_name R2 = codes "R2"
rule_name R3 = codes "R3"
rule_name U1 = codes "U1"
rule_name U2 = codes "U2"
rule_name U3 = codes "U3"
rule_name U4 = codes "U4"
rule_name S1 = codes "S1"
rule_name S2 = codes "S2"
rule_name S3 = codes "S3"
rule_name J1 = codes "J1"
rule_name K1 = codes "K1"
rule_name K2 = codes "K2"

-- what is wrong where the rule is broken
abbrev pub rule_phrase : Rule → List ℕ
rule_phrase W1 = codes "a register is not as at entry"
rule_phrase W2 = codes "an input is changed"
rule_phrase W3 = codes "the flags are not as at entry"
rule_phrase W4 = codes "the direction flag is set"
rule_phrase M1 = codes "undeclared memory is reached"
rule_phrase M2 = codes "an operand is passed at its end"
rule_phrase R1 = codes "an undeclared register or flag is used"
rule_phrase R2 = codes "the old value of an output is used"
rule_phrase R3 = codes "undefined bits are used"
rule_phrase U1 = codes "the shapes differ here"
rule_phrase U2 = codes "a byte name may be missing"
rule_phrase U3 = codes "a place is overwritten before it is used"
rule_phrase U4 = codes "a memory operand is used while the stack is moved"
rule_phrase S1 = codes "the stack is not level at the end"
rule_phrase S2 = codes "the stack has two depths here"
rule_phrase S3 = codes "the stack is too deep or empty"
rule_phrase J1 = codes "a jump leaves the block"
rule_phrase K1 = codes "no placement has room"
rule_phrase K2 = codes "the interface is malformed"

-- a register or flag by its name, an operand as `%0`
abbrev pub cell_name : Cell → List ℕ
cell_name (TheVariants.Reg reg) = reg_name reg
cell_name (TheVariants.Flag flag) = flag_name flag
cell_name (TheVariants.Operand number) = codes "%" ++ decimal number
cell_name TheVariants.Memory = codes "memory"
cell_name TheVariants.Cc = codes "cc"
cell_name TheVariants.Nothing = codes "-"

-- an instruction by its number, the end by its name
abbrev pub line_name : ℕ → List ℕ
line_name line = if line == 0 then codes "-" else (if line == 513 then codes "end" else decimal line)

-- as `W2 at end: %0 -`
abbrev pub finding_text : Finding → List ℕ
finding_text f = rule_name f.rule ++ codes " at " ++ line_name f.line ++ codes ": " ++ cell_name f.cell ++ codes " " ++ cell_name f.other
