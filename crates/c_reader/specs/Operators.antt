-- The operators with two operands, by their punctuators (C11 6.5.5 to 6.5.14, 6.5.16).
use Rattle.std.specs.Prelude.{ℕ, Option, Some, None}
use Rattle.c_words.specs.declared.word.Word.{Word}
use Rattle.c_words.specs.declared.word.Word.TheVariants as words
use Rattle.c_words.specs.declared.punct.Punct.{Punct}
use Rattle.c_words.specs.declared.punct.Punct.TheVariants as puncts
use Rattle.c_values.specs.declared.operator.Binary.{Binary}
use Rattle.c_values.specs.declared.operator.Binary.TheVariants.{Calculation, Shift, Comparison, Logic}
use Rattle.c_values.specs.declared.operator.Calculation.TheVariants as calculations
use Rattle.c_values.specs.declared.operator.Shift.TheVariants as shifts
use Rattle.c_values.specs.declared.operator.Comparison.TheVariants as comparisons
use Rattle.c_values.specs.declared.operator.Logic.TheVariants as logics
use Rattle.c_reader.specs.declared.operators.Operator.{Operator}
use Rattle.c_reader.specs.declared.operators.Assignment.{Assignment}
use Rattle.c_reader.specs.declared.operators.Assignment.TheVariants.{Plain, With}

abbrev row : ℕ → Binary → Option Operator
row level operation = Some (record { level = level; operation = operation })

-- how tightly each binds (0 is the tightest), and what it does
abbrev pub operator_of : Punct → Option Operator
operator_of puncts.Star = row 0 (Calculation calculations.Multiply)
operator_of puncts.Slash = row 0 (Calculation calculations.Divide)
operator_of puncts.Percent = row 0 (Calculation calculations.Remainder)
operator_of puncts.Plus = row 1 (Calculation calculations.Add)
operator_of puncts.Minus = row 1 (Calculation calculations.Subtract)
operator_of puncts.ShiftLeft = row 2 (Shift shifts.Left)
operator_of puncts.ShiftRight = row 2 (Shift shifts.Right)
operator_of puncts.Less = row 3 (Comparison comparisons.Less)
operator_of puncts.Greater = row 3 (Comparison comparisons.Greater)
operator_of puncts.LessEqual = row 3 (Comparison comparisons.AtMost)
operator_of puncts.GreaterEqual = row 3 (Comparison comparisons.AtLeast)
operator_of puncts.Equal = row 4 (Comparison comparisons.Equal)
operator_of puncts.NotEqual = row 4 (Comparison comparisons.Unequal)
operator_of puncts.Ampersand = row 5 (Calculation calculations.And)
operator_of puncts.Caret = row 6 (Calculation calculations.Xor)
operator_of puncts.Bar = row 7 (Calculation calculations.Or)
operator_of puncts.And = row 8 (Logic logics.And)
operator_of puncts.Or = row 9 (Logic logics.Or)
operator_of _ = None

abbrev pub assignment_of : Punct → Option Assignment
assignment_of puncts.Assign = Some Plain
assignment_of puncts.StarAssign = Some (With (Calculation calculations.Multiply))
assignment_of puncts.SlashAssign = Some (With (Calculation calculations.Divide))
assignment_of puncts.PercentAssign = Some (With (Calculation calculations.Remainder))
assignment_of puncts.PlusAssign = Some (With (Calculation calculations.Add))
assignment_of puncts.MinusAssign = Some (With (Calculation calculations.Subtract))
assignment_of puncts.ShiftLeftAssign = Some (With (Shift shifts.Left))
assignment_of puncts.ShiftRightAssign = Some (With (Shift shifts.Right))
assignment_of puncts.AndAssign = Some (With (Calculation calculations.And))
assignment_of puncts.XorAssign = Some (With (Calculation calculations.Xor))
assignment_of puncts.OrAssign = Some (With (Calculation calculations.Or))
assignment_of _ = None

abbrev pub assignment_in : Word → Option Assignment
assignment_in (words.Punct p) = assignment_of p
assignment_in _ = None
