-- Expressions: their types and constants, in the order of C's grammar from the smallest to the largest (C11 6.5).
use Rattle.std.specs.Prelude.{◌≡◌, ℕ, zero, suc, Bool, true, false, ◌+◌, ◌&&◌, ◌||◌, ◌==◌, not, if◌then◌else◌, length, Option, Some, None}
use Rattle.std.specs.Option.{option_and_then, option_map}
use Rattle.c_types.specs.declared.ctype.CType.{CType}
use Rattle.c_words.specs.File.{File}
use Rattle.c_words.specs.Words.{word_at, bytes_at, start_at}
use Rattle.c_words.specs.declared.word.Word.{Word}
use Rattle.c_words.specs.declared.word.Word.TheVariants as words
use Rattle.c_words.specs.declared.punct.Punct.{Punct}
use Rattle.c_words.specs.declared.punct.Punct.TheVariants as puncts
use Rattle.c_scopes.specs.Seen.{Declared}
use Rattle.c_values.specs.declared.value.Value.{Value}
use Rattle.c_values.specs.declared.operator.Binary.{Binary}
use Rattle.c_values.specs.declared.operator.Unary.TheVariants as unaries
use Rattle.c_values.specs.declared.value.Constant.{Constant}
use Rattle.c_values.specs.declared.value.Constant.TheVariants as constants
use Rattle.c_values.specs.Operands.{varying}
use Rattle.c_values.specs.Operators.{binary_of, unary_of}
use Rattle.c_values.specs.Pointers.{address_of, assignment_of, call_of, comma_of, compound_of, dereference_of, index_of, step_of}
use Rattle.c_values.specs.Casts.{cast_of}
use Rattle.c_values.specs.Choices.{conditional_of}
use Rattle.c_values.specs.Literals.{sizeof_of}
use Rattle.c_values.specs.Members.{member_of, pointed_member_of}
use Rattle.c_reader.specs.declared.operators.Operator.{Operator}
use Rattle.c_reader.specs.declared.operators.Assignment.{Assignment}
use Rattle.c_reader.specs.declared.operators.Assignment.TheVariants as assignments
use Rattle.c_reader.specs.Operators.{operator_of, assignment_in}
use Rattle.c_reader.specs.Leaves.{is_zero_at, named_value, number_value, character_value, text_value, texts_end}
use Rattle.c_reader.specs.declared.next.Next.{Next}
use Rattle.c_reader.specs.declared.next.Next.TheVariants.{Done, More}
use Rattle.c_reader.specs.declared.grammar.Level.{Level}
use Rattle.c_reader.specs.declared.grammar.Level.TheVariants as levels
use Rattle.c_reader.specs.declared.grammar.Typed.{Typed}
use Rattle.c_reader.specs.declared.grammar.TypeName.{TypeName}
use Rattle.c_reader.specs.Repeat.{repeated}
use Rattle.c_reader.specs.Marks.{is_name, is_open_paren, is_close_paren, is_close_bracket, is_open_brace, is_comma, is_colon, is_question, is_star, is_void}
use Rattle.c_reader.specs.Specifiers.{begins_type}
use Rattle.c_reader.specs.Grammar.{Inner}

abbrev pub typed : ℕ → Option Value → Option Typed
typed end value = option_map (λ v. record { value = v; end = end }) value

abbrev pub Linking : Type 0
Linking = Next Value (Option Typed)

abbrev linked : ℕ → Option Value → Linking
linked end None = Done None
linked end (Some v) = More v end

abbrev unlinked : ℕ → Value → Linking
unlinked i v = Done (Some (record { value = v; end = i }))

-- where the operand has ended
abbrev pub EndsAt : ℕ → Next Value Typed → Type 0
EndsAt i (Done x) = x.end ≡ i
EndsAt i (More v j) = Unit {0}

-- an expression ends before the file does
abbrev pub unended : ℕ → Value → Option Typed
unended i v = None

-- ---- primary expressions (6.5.1)

abbrev in_parens : File → Option Typed → Option Typed
in_parens f None = None
in_parens f (Some x) = if is_close_paren (word_at f x.end) then Some (record x { end = x.end + 1 }) else None

abbrev primary_mark : File → Inner → ℕ → Bool → Option Typed
primary_mark f n i true = in_parens f (n.expression levels.Comma (i + 1))
primary_mark f n i false = None

unfoldable pub primary_at : File → Declared → Inner → ℕ → Option Typed
primary_at f seen n i = elim (word_at f i) [
  | words.Name ↦ typed (i + 1) (named_value f seen i)
  | words.Number ↦ typed (i + 1) (number_value (bytes_at f i))
  | words.Char ↦ typed (i + 1) (character_value f i)
  | words.Text ↦ typed (texts_end f i) (text_value f i)
  | words.Punct p ↦ primary_mark f n i (is_open_paren (words.Punct p))
  | _ ↦ None
]

-- ---- postfix expressions (6.5.2)

abbrev indexed : File → Value → Option Typed → Linking
indexed f v None = Done None
indexed f v (Some x) = if is_close_bracket (word_at f x.end) then linked (x.end + 1) (index_of v x.value) else Done None

abbrev called : File → Value → Option Typed → Linking
called f v None = Done None
called f v (Some x) = if is_close_paren (word_at f x.end) then linked (x.end + 1) (call_of v) else Done None

abbrev pub indexed_at : File → Inner → ℕ → Value → Linking
indexed_at f n i v = indexed f v (n.expression levels.Comma (i + 1))

abbrev pub called_at : File → Inner → ℕ → Value → Linking
called_at f n i v =
    if is_close_paren (word_at f (i + 1)) then linked (i + 2) (call_of v) else called f v (n.expression levels.Comma (i + 1))

abbrev pub member_at : File → Declared → ℕ → Value → Linking
member_at f seen i v =
    if is_name (word_at f (i + 1)) then linked (i + 2) (member_of seen.tags (start_at f i) (bytes_at f (i + 1)) v) else Done None

abbrev pub pointed_member_at : File → Declared → ℕ → Value → Linking
pointed_member_at f seen i v =
    if is_name (word_at f (i + 1)) then linked (i + 2) (pointed_member_of seen.tags (start_at f i) (bytes_at f (i + 1)) v) else Done None

abbrev postfix_mark : File → Declared → Inner → ℕ → Value → Punct → Linking
postfix_mark f seen n i v puncts.OpenBracket = indexed_at f n i v
postfix_mark f seen n i v puncts.OpenParen = called_at f n i v
postfix_mark f seen n i v puncts.Dot = member_at f seen i v
postfix_mark f seen n i v puncts.Arrow = pointed_member_at f seen i v
postfix_mark f seen n i v puncts.Increment = linked (i + 1) (step_of v)
postfix_mark f seen n i v puncts.Decrement = linked (i + 1) (step_of v)
postfix_mark f seen n i v _ = unlinked i v

unfoldable pub postfix_step : File → Declared → Inner → ℕ → Value → Linking
postfix_step f seen n i v = elim (word_at f i) [
  | words.Punct p ↦ postfix_mark f seen n i v p
  | _ ↦ unlinked i v
]

abbrev postfixes : File → Declared → Inner → Option Typed → Option Typed
postfixes f seen n None = None
postfixes f seen n (Some x) = repeated (postfix_step f seen n) unended (length f.tokens) x.end x.value

unfoldable pub postfix_at : File → Declared → Inner → ℕ → Option Typed
postfix_at f seen n i = postfixes f seen n (primary_at f seen n i)

-- ---- unary expressions and casts (6.5.3, 6.5.4)

abbrev pub prefixed_value : Punct → Value → Option Value
prefixed_value puncts.Increment v = step_of v
prefixed_value puncts.Decrement v = step_of v
prefixed_value puncts.Ampersand v = address_of v
prefixed_value puncts.Star v = dereference_of v
prefixed_value puncts.Plus v = unary_of unaries.Plus v
prefixed_value puncts.Minus v = unary_of unaries.Minus v
prefixed_value puncts.Tilde v = unary_of unaries.Complement v
prefixed_value puncts.Exclamation v = unary_of unaries.Not v
prefixed_value _ v = None

abbrev pub is_prefix : Punct → Bool
is_prefix puncts.Increment = true
is_prefix puncts.Decrement = true
is_prefix puncts.Ampersand = true
is_prefix puncts.Star = true
is_prefix puncts.Plus = true
is_prefix puncts.Minus = true
is_prefix puncts.Tilde = true
is_prefix puncts.Exclamation = true
is_prefix _ = false

abbrev prefixed : Punct → Option Typed → Option Typed
prefixed p None = None
prefixed p (Some x) = typed x.end (prefixed_value p x.value)

abbrev unary_mark : File → Declared → Inner → ℕ → Punct → Option Typed
unary_mark f seen n i p = if is_prefix p then prefixed p (n.expression levels.Cast (i + 1)) else postfix_at f seen n i

unfoldable pub sized : Declared → ℕ → Option Typed → Option Typed
sized seen place None = None
sized seen place (Some x) = typed x.end (sizeof_of seen.tags place x.value.ctype)

-- `sizeof` asks its operand for its own type (6.5.3.4)
unfoldable pub unary_at : File → Declared → Inner → ℕ → Option Typed
unary_at f seen n i = elim (word_at f i) [
  | words.Sizeof ↦ sized seen (start_at f i) (n.expression levels.SizeOperand (i + 1))
  | words.Punct p ↦ unary_mark f seen n i p
  | _ ↦ postfix_at f seen n i
]

abbrev pub opens_type : File → Declared → ℕ → Bool
opens_type f seen i = is_open_paren (word_at f i) && begins_type f seen (i + 1)

-- Types have no qualifiers here, so only the plain spelling `(void *)` makes a null pointer constant (6.3.2.3, 3).
abbrev pub spells_void_pointer : File → ℕ → Bool
spells_void_pointer f i = is_void (word_at f i) && is_star (word_at f (i + 1)) && is_close_paren (word_at f (i + 2))

-- Only a number that is 0, which may stand in parentheses, makes one: a 0 that was computed may not be a constant
-- expression of the compiler's.
abbrev pub spells_zero : File → ℕ → ℕ → Bool
spells_zero f i end =
    (is_zero_at f i && (end == i + 1)) || (is_open_paren (word_at f i) && is_zero_at f (i + 1) && (end == i + 3))

abbrev pub never_null : Constant → Constant
never_null constants.Null = constants.Varies
never_null c = c

abbrev pub qualified : Bool → Value → Value
qualified plain v = if plain then v else record v { constant = never_null v.constant }

-- the operand begins at the index
abbrev cast_value : File → Bool → CType → ℕ → Option Typed → Option Typed
cast_value f plain t i None = None
cast_value f plain t i (Some x) =
    typed x.end (option_map (qualified (plain && spells_zero f i x.end)) (cast_of t x.value))

abbrev converted_to : File → Inner → Bool → Option TypeName → Option Typed
converted_to f n plain None = None
converted_to f n plain (Some t) =
    if is_close_paren (word_at f t.end)
    then cast_value f plain t.ctype (t.end + 1) (n.expression levels.Cast (t.end + 1))
    else None

unfoldable pub cast_at : File → Declared → Inner → ℕ → Option Typed
cast_at f seen n i = if opens_type f seen i then converted_to f n (spells_void_pointer f (i + 1)) (n.type_name (i + 1)) else unary_at f seen n i

abbrev named_size : File → Option TypeName → Option Typed
named_size f None = None
named_size f (Some t) =
    if is_close_paren (word_at f t.end) && not (is_open_brace (word_at f (t.end + 1)))
    then typed (t.end + 1) (varying t.ctype)
    else None

-- a type name in parentheses, or a unary expression; a compound literal has no type in this profile
unfoldable pub size_operand_at : File → Declared → Inner → ℕ → Option Typed
size_operand_at f seen n i = if opens_type f seen i then named_size f (n.type_name (i + 1)) else unary_at f seen n i

-- ---- operators with two operands (6.5.5 to 6.5.14)

-- the operator that a word is, if it is one that binds so tightly; 0 is the tightest
abbrev pub operator_at : ℕ → Word → Option Binary
operator_at level (words.Punct p) = option_and_then (λ (o : Operator). if o.level == level then Some o.operation else None) (operator_of p)
operator_at level _ = None

abbrev joined : Binary → Value → Option Typed → Linking
joined op v None = Done None
joined op v (Some x) = linked x.end (binary_of op v x.value)

abbrev pub Reads : Type 0
Reads = ℕ → Option Typed

abbrev binary_by : Reads → ℕ → Value → Option Binary → Linking
binary_by operand i v None = unlinked i v
binary_by operand i v (Some op) = joined op v (operand (i + 1))

-- an operator of the level and its right operand
abbrev pub binary_step : File → Reads → ℕ → ℕ → Value → Linking
binary_step f operand level i v = binary_by operand i v (operator_at level (word_at f i))

abbrev pub chained : File → Reads → ℕ → Option Typed → Option Typed
chained f operand level None = None
chained f operand level (Some x) = repeated (binary_step f operand level) unended (length f.tokens) x.end x.value

-- An expression of the so many tightest of the ten levels: operands of the tighter ones with operators of the level between them, from
-- left to right. Of no level it is a cast expression.
unfoldable pub binary_at : File → Declared → Inner → ℕ → ℕ → Option Typed
binary_at f seen n zero i = cast_at f seen n i
binary_at f seen n (suc level) i = chained f (binary_at f seen n level) level (binary_at f seen n level i)

-- ---- conditional expressions (6.5.15)

abbrev chosen : Value → Value → Option Typed → Option Typed
chosen condition a None = None
chosen condition a (Some b) = typed b.end (conditional_of condition a b.value)

abbrev at_colon : File → Inner → Value → Option Typed → Option Typed
at_colon f n condition None = None
at_colon f n condition (Some a) =
    if is_colon (word_at f a.end) then chosen condition a.value (n.expression levels.Conditional (a.end + 1)) else None

abbrev at_question : File → Inner → Option Typed → Option Typed
at_question f n None = None
at_question f n (Some c) =
    if is_question (word_at f c.end) then at_colon f n c.value (n.expression levels.Comma (c.end + 1)) else Some c

unfoldable pub conditional_at : File → Declared → Inner → ℕ → Option Typed
conditional_at f seen n i = at_question f n (binary_at f seen n 10 i)

-- ---- assignments (6.5.16)

abbrev pub assignment_value : Assignment → Value → Value → Option Value
assignment_value assignments.Plain v w = assignment_of v
assignment_value (assignments.With op) v w = compound_of op v w

abbrev assigned : Assignment → Value → Option Typed → Option Typed
assigned op v None = None
assigned op v (Some x) = typed x.end (assignment_value op v x.value)

abbrev assignment_by : Inner → Typed → Option Assignment → Option Typed
assignment_by n x None = Some x
assignment_by n x (Some op) = assigned op x.value (n.expression levels.Assignment (x.end + 1))

abbrev at_assignment : File → Inner → Option Typed → Option Typed
at_assignment f n None = None
at_assignment f n (Some x) = assignment_by n x (assignment_in (word_at f x.end))

unfoldable pub assignment_at : File → Declared → Inner → ℕ → Option Typed
assignment_at f seen n i = at_assignment f n (conditional_at f seen n i)

-- ---- the comma (6.5.17)

abbrev behind_comma : Option Typed → Linking
behind_comma None = Done None
behind_comma (Some x) = linked x.end (comma_of x.value)

unfoldable pub comma_step : File → Declared → Inner → ℕ → Value → Linking
comma_step f seen n i v = if is_comma (word_at f i) then behind_comma (assignment_at f seen n (i + 1)) else unlinked i v

abbrev comma_chain : File → Declared → Inner → Option Typed → Option Typed
comma_chain f seen n None = None
comma_chain f seen n (Some x) = repeated (comma_step f seen n) unended (length f.tokens) x.end x.value

unfoldable pub comma_at : File → Declared → Inner → ℕ → Option Typed
comma_at f seen n i = comma_chain f seen n (assignment_at f seen n i)

-- ---- by level

abbrev pub expression_at : File → Declared → Inner → Level → ℕ → Option Typed
expression_at f seen n levels.Comma i = comma_at f seen n i
expression_at f seen n levels.Assignment i = assignment_at f seen n i
expression_at f seen n levels.Conditional i = conditional_at f seen n i
expression_at f seen n levels.Cast i = cast_at f seen n i
expression_at f seen n levels.SizeOperand i = size_operand_at f seen n i
