use Rattle.std.proofs.Common.{◌≡◌, ◌+◌, ◌-◌, ◌*◌, ◌<◌, ◌≤◌, length}
use Rattle.c_reader.specs.Nesting.{inner}
use Rattle.c_reader.specs.Expressions.{binary_at}
use Rattle.c_reader.specs.Specifiers.{specifiers_at}
use Rattle.c_reader.specs.Declarators.{suffixes_at, listed_parameters}
use Rattle.c_reader.proofs.ExpressionLemmas.{commas_from, operators_from, parts_from}
use Rattle.c_reader.proofs.SpecifierLemmas.{specifiers_from}
use Rattle.c_reader.proofs.SuffixLemmas.{suffixes_from}
use Rattle.c_reader.proofs.ParameterLemmas.{listed_from}
use Rattle.c_reader.proofs.reader.Reader.+reader.Given as goal

-- Each call goes one level of nesting deeper, or down in the grammar.

abbrev pub decreases-array_suffix : goal.decreases-array_suffix
decreases-array_suffix l = 1000 * l.depth + 1

abbrev pub decreases-suffix_step : goal.decreases-suffix_step
decreases-suffix_step l = 1000 * l.depth + 2

abbrev pub decreases-suffixes_at : goal.decreases-suffixes_at
decreases-suffixes_at l = 1000 * l.depth + 3

abbrev pub decreases-in_parentheses : goal.decreases-in_parentheses
decreases-in_parentheses l = 1000 * l.depth + 4

abbrev pub decreases-declarator_behind : goal.decreases-declarator_behind
decreases-declarator_behind l = 1000 * l.depth + 5

abbrev pub decreases-nested_declarator : goal.decreases-nested_declarator
decreases-nested_declarator l = 1000 * l.depth + 0

abbrev pub decreases-declarator_at : goal.decreases-declarator_at
decreases-declarator_at l = 1000 * l.depth + 6

abbrev pub decreases-typeof_inside : goal.decreases-typeof_inside
decreases-typeof_inside l = 1000 * l.depth + 1

abbrev pub decreases-typeof_type : goal.decreases-typeof_type
decreases-typeof_type l = 1000 * l.depth + 2

abbrev pub decreases-with_typeof : goal.decreases-with_typeof
decreases-with_typeof l = 1000 * l.depth + 3

abbrev pub decreases-specifier_step : goal.decreases-specifier_step
decreases-specifier_step l = 1000 * l.depth + 4

abbrev pub decreases-specifiers_at : goal.decreases-specifiers_at
decreases-specifiers_at l = 1000 * l.depth + 5

abbrev pub decreases-type_name_at : goal.decreases-type_name_at
decreases-type_name_at l = 1000 * l.depth + 7

abbrev pub decreases-parameter_at : goal.decreases-parameter_at
decreases-parameter_at l = 1000 * l.depth + 7

abbrev pub decreases-parameters_step : goal.decreases-parameters_step
decreases-parameters_step l = 1000 * l.depth + 8

abbrev pub decreases-listed_parameters : goal.decreases-listed_parameters
decreases-listed_parameters l = 1000 * l.depth + 9

abbrev pub decreases-parameters_at : goal.decreases-parameters_at
decreases-parameters_at l = 1000 * l.depth + 10

abbrev pub decreases-nested : goal.decreases-nested
decreases-nested l = 1000 * l.depth + 0

abbrev pub decreases-nested_type_name : goal.decreases-nested_type_name
decreases-nested_type_name l = 1000 * l.depth + 0

abbrev pub decreases-nested_parameters : goal.decreases-nested_parameters
decreases-nested_parameters l = 1000 * l.depth + 0

abbrev pub decreases-primary_at : goal.decreases-primary_at
decreases-primary_at l = 1000 * l.depth + 1

abbrev pub decreases-indexed_at : goal.decreases-indexed_at
decreases-indexed_at l = 1000 * l.depth + 1

abbrev pub decreases-called_at : goal.decreases-called_at
decreases-called_at l = 1000 * l.depth + 1

abbrev pub decreases-postfix_step : goal.decreases-postfix_step
decreases-postfix_step l = 1000 * l.depth + 2

abbrev pub decreases-postfix_at : goal.decreases-postfix_at
decreases-postfix_at l = 1000 * l.depth + 3

abbrev pub decreases-unary_at : goal.decreases-unary_at
decreases-unary_at l = 1000 * l.depth + 4

abbrev pub decreases-cast_at : goal.decreases-cast_at
decreases-cast_at l = 1000 * l.depth + 5

abbrev pub decreases-size_operand_at : goal.decreases-size_operand_at
decreases-size_operand_at l = 1000 * l.depth + 5

abbrev pub decreases-conditional_at : goal.decreases-conditional_at
decreases-conditional_at l = 1000 * l.depth + 50

abbrev pub decreases-assignment_at : goal.decreases-assignment_at
decreases-assignment_at l = 1000 * l.depth + 51

abbrev pub decreases-comma_step : goal.decreases-comma_step
decreases-comma_step l = 1000 * l.depth + 52

abbrev pub decreases-comma_at : goal.decreases-comma_at
decreases-comma_at l = 1000 * l.depth + 53

abbrev pub decreases-binary_at : goal.decreases-binary_at
decreases-binary_at l = 1000 * l.depth + 6 + 3 * l.level

abbrev pub decreases-operators_behind : goal.decreases-operators_behind
decreases-operators_behind l = 1000 * l.depth + 8 + 3 * l.level

abbrev pub decreases-binary_step : goal.decreases-binary_step
decreases-binary_step l = 1000 * l.depth + 7 + 3 * l.level

-- ---- what is left gives what the whole gives

abbrev pub invariant-comma_at-loop-end : goal.invariant-comma_at-loop-end
invariant-comma_at-loop-end l = (l.i < l.end) × (commas_from l.self.source.now l.self.scopes.now (inner l.self.source.now l.self.scopes.now l.depth) l.end l.value ≡ commas_from l.self.source.now l.self.scopes.now (inner l.self.source.now l.self.scopes.now l.depth) l.initial.end l.initial.value)

abbrev pub decreases-comma_at-loop-end : goal.decreases-comma_at-loop-end
decreases-comma_at-loop-end l = length l.self.source.now.tokens - l.end

abbrev pub invariant-postfix_at-loop-end : goal.invariant-postfix_at-loop-end
invariant-postfix_at-loop-end l = (l.i < l.end) × (parts_from l.self.source.now l.self.scopes.now (inner l.self.source.now l.self.scopes.now l.depth) l.end l.value ≡ parts_from l.self.source.now l.self.scopes.now (inner l.self.source.now l.self.scopes.now l.depth) l.initial.end l.initial.value)

abbrev pub decreases-postfix_at-loop-end : goal.decreases-postfix_at-loop-end
decreases-postfix_at-loop-end l = length l.self.source.now.tokens - l.end

abbrev pub invariant-operators_behind-loop-end : goal.invariant-operators_behind-loop-end
invariant-operators_behind-loop-end l = (l.initial.end ≤ l.end) × (operators_from l.self.source.now (binary_at l.self.source.now l.self.scopes.now (inner l.self.source.now l.self.scopes.now l.depth) l.level) l.level l.end l.value ≡ operators_from l.self.source.now (binary_at l.self.source.now l.self.scopes.now (inner l.self.source.now l.self.scopes.now l.depth) l.level) l.level l.initial.end l.initial.value)

abbrev pub decreases-operators_behind-loop-end : goal.decreases-operators_behind-loop-end
decreases-operators_behind-loop-end l = length l.self.source.now.tokens - l.end

abbrev pub invariant-specifiers_at-loop-i : goal.invariant-specifiers_at-loop-i
invariant-specifiers_at-loop-i l = (l.first ≤ l.i) × (specifiers_from l.self.source.now l.self.scopes.now (inner l.self.source.now l.self.scopes.now l.depth) l.context l.i l.found ≡ specifiers_at l.self.source.now l.self.scopes.now (inner l.self.source.now l.self.scopes.now l.depth) l.context l.first)

abbrev pub decreases-specifiers_at-loop-i : goal.decreases-specifiers_at-loop-i
decreases-specifiers_at-loop-i l = length l.self.source.now.tokens - l.i

abbrev pub invariant-suffixes_at-loop-i : goal.invariant-suffixes_at-loop-i
invariant-suffixes_at-loop-i l = (l.first ≤ l.i) × (suffixes_from l.self.source.now (inner l.self.source.now l.self.scopes.now l.depth) l.context l.i l.list ≡ suffixes_at l.self.source.now (inner l.self.source.now l.self.scopes.now l.depth) l.context l.first)

abbrev pub decreases-suffixes_at-loop-i : goal.decreases-suffixes_at-loop-i
decreases-suffixes_at-loop-i l = length l.self.source.now.tokens - l.i

abbrev pub invariant-listed_parameters-loop-i : goal.invariant-listed_parameters-loop-i
invariant-listed_parameters-loop-i l = (l.first ≤ l.i) × (listed_from l.self.source.now l.self.scopes.now (inner l.self.source.now l.self.scopes.now l.depth) l.context l.i l.list ≡ listed_parameters l.self.source.now l.self.scopes.now (inner l.self.source.now l.self.scopes.now l.depth) l.context l.first)

abbrev pub decreases-listed_parameters-loop-i : goal.decreases-listed_parameters-loop-i
decreases-listed_parameters-loop-i l = length l.self.source.now.tokens - l.i
