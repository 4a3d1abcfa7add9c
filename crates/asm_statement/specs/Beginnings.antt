-- Which tokens begin an asm statement, by what stands before them.
use Rattle.std.specs.Prelude.{ℕ, Bool, true, false, List, [], ◌∷◌, ◌++◌, ◌+◌, ◌-◌, ◌||◌, ◌&&◌, not, if◌then◌else◌, Option, Some, None, length, take, slice_get}
use Rattle.c_tokens.specs.declared.token.Token.{Token}
use Rattle.asm_statement.specs.declared.class.Class.{Class}
use Rattle.asm_statement.specs.declared.class.Class.TheVariants.{Missing, Keyword, Lead, Head, Extension, Attribute, OpenParen, CloseParen, OpenBracket, CloseBracket, OpenBrace, CloseBrace, Semicolon, Colon}
use Rattle.asm_statement.specs.declared.beginning.Opened.{Opened}
use Rattle.asm_statement.specs.declared.beginning.Ready.{Ready}
use Rattle.asm_statement.specs.declared.beginning.Ready.TheVariants.{Unready, Plain, Attributed}
use Rattle.asm_statement.specs.declared.beginning.Before.{Before}
use Rattle.asm_statement.specs.declared.beginning.Beginning.{Beginning}
use Rattle.asm_statement.specs.Source.{class_of}
use Rattle.asm_statement.specs.Foreign.{begins_digraph, is_foreign}

-- the innermost of the brackets that are open
abbrev pub innermost : List Opened → Option Opened
innermost opened = slice_get opened (length opened - 1)

-- some open bracket is a brace
abbrev pub in_block : List Opened → Bool
in_block opened = elim (innermost opened) [ None ↦ false | Some o ↦ o.block ]

abbrev pub is_head : Class → Bool
is_head Head = true
is_head _ = false

abbrev pub is_attribute : Class → Bool
is_attribute Attribute = true
is_attribute _ = false

-- a statement may begin
abbrev pub is_ready : Ready → Bool
is_ready Unready = false
is_ready _ = true

-- parentheses behind an attribute's word where a statement may begin hold attributes
abbrev pub parenthesis : List Opened → Before → Opened
parenthesis opened b =
    record { head = is_head b.class; attributes = is_attribute b.class && is_ready b.ready; block = in_block opened }

-- So do brackets where a statement may begin.
abbrev pub opened_behind : List Opened → Before → Class → List Opened
opened_behind opened b OpenParen = opened ++ parenthesis opened b ∷ []
opened_behind opened b OpenBracket = opened ++
    (record { head = false; attributes = is_ready b.ready; block = in_block opened }) ∷ []
opened_behind opened b OpenBrace = opened ++ (record { head = false; attributes = false; block = true }) ∷ []
opened_behind opened b CloseParen = take (length opened - 1) opened
opened_behind opened b CloseBracket = take (length opened - 1) opened
opened_behind opened b CloseBrace = take (length opened - 1) opened
opened_behind opened b _ = opened

-- A statement may begin behind the parentheses of `if`, `while`, `for` or `switch`, and one that is outside behind
-- attributes.
abbrev pub ready_behind_bracket : Option Opened → Ready
ready_behind_bracket None = Unready
ready_behind_bracket (Some o) = if o.head then Plain else if o.attributes then Attributed else Unready

abbrev pub attributed : Ready → Ready
attributed Unready = Unready
attributed _ = Attributed

-- whether a statement may begin behind a token of the class
abbrev pub ready_behind : List Opened → Ready → Class → Ready
ready_behind opened ready Semicolon = Plain
ready_behind opened ready OpenBrace = Plain
ready_behind opened ready CloseBrace = Plain
ready_behind opened ready Colon = Plain
ready_behind opened ready Lead = Plain
ready_behind opened ready Extension = attributed ready
ready_behind opened ready Attribute = attributed ready
ready_behind opened ready CloseParen = ready_behind_bracket (innermost opened)
ready_behind opened ready CloseBracket = ready_behind_bracket (innermost opened)
ready_behind opened ready _ = Unready

-- before the first token
abbrev pub nothing_before : Before
nothing_before = record { class = Missing; ready = Plain; split = false; foreign = false }

-- What stands before the next token. Behind a digraph too a statement that is outside may begin.
abbrev pub behind : List ℕ → List Opened → Before → Token → Before
behind text opened b t = record {
  class = class_of text t;
  ready = if b.split then Attributed else ready_behind opened b.ready (class_of text t);
  split = begins_digraph text t;
  foreign = b.foreign || is_foreign text t;
}

abbrev pub begins : Class → Ready → Bool
begins Keyword ready = is_ready ready
begins _ ready = false

abbrev is_plain : Ready → Bool
is_plain Plain = true
is_plain _ = false

-- neither attributes stand before it nor, anywhere, a token that the compiler cuts otherwise
abbrev pub is_covered : Before → Bool
is_covered b = is_plain b.ready && not b.foreign

abbrev pub beginning_at : ℕ → List Opened → Before → Beginning
beginning_at i opened b = record { at = i; in_block = in_block opened; covered = is_covered b }

abbrev pub with_beginning : Bool → Beginning → List Beginning → List Beginning
with_beginning true b bs = b ∷ bs
with_beginning false b bs = bs

-- The beginnings among the tokens from the index i on, with the brackets that are open there, the innermost last, and
-- what stands before.
unfoldable pub beginnings_from : List ℕ → List Opened → Before → ℕ → List Token → List Beginning
beginnings_from text opened b i [] = []
beginnings_from text opened b i (t ∷ ts) =
    with_beginning (begins (class_of text t) b.ready) (beginning_at i opened b)
    (beginnings_from text (opened_behind opened b (class_of text t)) (behind text opened b t) (i + 1) ts)

abbrev pub beginnings_of : List ℕ → List Token → List Beginning
beginnings_of text ts = beginnings_from text [] nothing_before 0 ts
