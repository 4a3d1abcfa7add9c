-- The lists behind the colons of an asm statement (GCC manual, "Extended Asm": OutputOperands, InputOperands, Clobbers).
use Rattle.std.specs.Prelude.{ℕ, Bool, false, List, [], ◌∷◌, ◌+◌, ◌-◌, ◌&&◌, nat_lt, if◌then◌else◌, Option, Some, None, drop}
use Rattle.c_tokens.specs.declared.token.Token.{Token}
use Rattle.c_tokens.specs.Closers.{closer_at}
use Rattle.asm_core.specs.declared.statement.Quoted.{Quoted}
use Rattle.asm_core.specs.declared.statement.Part.{Part}
use Rattle.asm_statement.specs.declared.operand.Operand.{Operand}
use Rattle.asm_statement.specs.declared.operand.Clobber.{Clobber}
use Rattle.asm_statement.specs.declared.list.Operands.{Operands}
use Rattle.asm_statement.specs.declared.list.Clobbers.{Clobbers}
use Rattle.asm_statement.specs.Classes.{is_name, is_literal, is_open_paren, is_open_bracket, is_close_bracket, is_comma}
use Rattle.asm_statement.specs.Source.{class_of, class_at, span_of}
use Rattle.asm_statement.specs.Literals.{quoted_at, name_at}

-- the index behind the adjacent literals from the index i on
unfoldable pub literals_end : Bool → List ℕ → ℕ → List Token → ℕ
literals_end prefixed text i [] = i
literals_end prefixed text i (t ∷ ts) = if is_literal prefixed (class_of text t) then literals_end prefixed text (i + 1) ts else i

abbrev pub literals_end_at : Bool → List ℕ → List Token → ℕ → ℕ
literals_end_at prefixed text ts first = literals_end prefixed text first (drop first ts)

-- An expression has a token at least.
abbrev pub expressed : List ℕ → List Token → Option Quoted → ℕ → ℕ → Option ℕ → Option Operand
expressed text ts name first paren None = None
expressed text ts name first paren (Some close) =
    if nat_lt (paren + 1) close
    then Some (record { part = record { name = name; constraint = quoted_at text ts first paren; expr = span_of ts (paren + 1) (close - 1) }; end = close + 1 })
    else None

abbrev pub constrained_up_to : List ℕ → List Token → Option Quoted → ℕ → ℕ → Option Operand
constrained_up_to text ts name first end =
    if nat_lt first end && is_open_paren (class_at text ts end) then expressed text ts name first end (closer_at text ts end) else None

-- literals, and an expression in parentheses
unfoldable pub constrained : List ℕ → List Token → Option Quoted → ℕ → Option Operand
constrained text ts name first = constrained_up_to text ts name first (literals_end_at false text ts first)

-- the operand at the index: `[name]` may stand before its literals
unfoldable pub operand_at : List ℕ → List Token → ℕ → Option Operand
operand_at text ts i =
    if is_open_bracket (class_at text ts i)
    then (if is_name (class_at text ts (i + 1)) && is_close_bracket (class_at text ts (i + 2)) then constrained text ts (Some (name_at text ts (i + 1))) (i + 3) else None)
    else constrained text ts None i

abbrev pub with_operand : Part → Option Operands → Option Operands
with_operand p None = None
with_operand p (Some r) = Some (record { list = p ∷ r.list; end = r.end })

-- Operands with commas between them, one at least; those before the index `until` are read.
unfoldable pub operands_from : List ℕ → List Token → ℕ → ℕ → List Token → Option Operands
operands_from text ts until i [] = None
operands_from text ts until i (t ∷ rest) =
    if nat_lt i until then operands_from text ts until (i + 1) rest
    else elim (operand_at text ts i) [
      | None ↦ None
      | Some x ↦ if is_comma (class_at text ts x.end) then with_operand x.part (operands_from text ts (x.end + 1) (i + 1) rest)
          else Some (record { list = x.part ∷ []; end = x.end })
    ]

-- the clobber at the index: literals
unfoldable pub clobber_at : List ℕ → List Token → ℕ → Option Clobber
clobber_at text ts i =
    if nat_lt i (literals_end_at false text ts i)
    then Some (record { quoted = quoted_at text ts i (literals_end_at false text ts i); end = literals_end_at false text ts i })
    else None

abbrev pub with_clobber : Quoted → Option Clobbers → Option Clobbers
with_clobber q None = None
with_clobber q (Some r) = Some (record { list = q ∷ r.list; end = r.end })

-- Clobbers with commas between them, one at least; those before the index `until` are read.
unfoldable pub clobbers_from : List ℕ → List Token → ℕ → ℕ → List Token → Option Clobbers
clobbers_from text ts until i [] = None
clobbers_from text ts until i (t ∷ rest) =
    if nat_lt i until then clobbers_from text ts until (i + 1) rest
    else elim (clobber_at text ts i) [
      | None ↦ None
      | Some x ↦ if is_comma (class_at text ts x.end) then with_clobber x.quoted (clobbers_from text ts (x.end + 1) (i + 1) rest)
          else Some (record { list = x.quoted ∷ []; end = x.end })
    ]
