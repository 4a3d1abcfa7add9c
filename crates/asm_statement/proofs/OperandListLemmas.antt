-- One operand of several.
use Rattle.std.proofs.Common.{◌≡◌, ℕ, zero, suc, ◌+◌, ◌-◌, ◌<◌, ◌≤◌, Bool, if◌then◌else◌, true, false, List, [], ◌∷◌, ◌++◌, drop, length, refl, ◌∙◌, sym, ap, arith, nat_lt, lt-ltb, append_assoc, Option, Some, None}
use Rattle.std.proofs.lemmas.List.{drop_more, drop_all}
use Rattle.std.proofs.lemmas.Bool.{le-ltb}
use Rattle.c_tokens.specs.declared.token.Token.{Token}
use Rattle.c_tokens.specs.declared.token.TokenKind.TheVariants.{Name}
use Rattle.asm_core.specs.declared.statement.Part.{Part}
use Rattle.asm_statement.specs.declared.class.Class.{Class}
use Rattle.asm_statement.specs.declared.class.Class.TheVariants.{Missing}
use Rattle.asm_statement.specs.declared.operand.Operand.{Operand}
use Rattle.asm_statement.specs.declared.list.Operands.{Operands}
use Rattle.asm_statement.specs.Classes.{is_comma}
use Rattle.asm_statement.specs.Source.{class_at}
use Rattle.asm_statement.specs.Operands.{operand_at, with_operand, operands_from}

abbrev no_token : Token
no_token = record { kind = Name; span = record { from = 0; to = 0 } }

-- a comma is a token
comma_there : (r : Class) → is_comma r ≡ true → r ≡ Missing → ⊥
comma_there r e m = let f : is_comma Missing ≡ true = ap is_comma (sym m) ∙ e in cc

-- what is read behind these operands
abbrev pub after : List Part → Option Operands → Option Operands
after before None = None
after before (Some r) = Some (record { list = before ++ r.list; end = r.end })

after-first : (before : List Part) (p : Part) (r : Option Operands) → after before (with_operand p r) ≡ after (before ++ p ∷ []) r
after-first before p None = refl
after-first before p (Some r) = ap (λ (l : List Part). let o : Operands = record { list = l; end = r.end } in Some o) (sym (append_assoc before (p ∷ []) r.list))

pub after-none : (r : Option Operands) → after [] r ≡ r
after-none None = refl
after-none (Some r) = refl

-- the tokens of an operand are passed over
skip : (text : List ℕ) (ts : List Token) (until : ℕ) (k i : ℕ) → i + k ≡ until → until ≤ length ts → operands_from text ts until i (drop i ts) ≡ operands_from text ts until until (drop until ts)
unfolding operands_from
skip text ts until zero i e le = let same : i ≡ until = omega arith in rw same refl
skip text ts until (suc k) i e le =
    let short : i < length ts = omega arith in
    let below : nat_lt i until ≡ true = lt-ltb i until (omega arith) in
    let next : i + 1 + k ≡ until = omega arith in
    rw (drop_more ts i no_token short, below) (skip text ts until k (i + 1) next le)

abbrev at_comma : List ℕ → List Token → ℕ → Operand → Bool → Option Operands
at_comma text ts i x true = with_operand x.part (operands_from text ts (x.end + 1) (i + 1) (drop (i + 1) ts))
at_comma text ts i x false = Some (record { list = x.part ∷ []; end = x.end })

-- what the operand at an index leads to
abbrev led_to : List ℕ → List Token → ℕ → Option Operand → Option Operands
led_to text ts i None = None
led_to text ts i (Some x) = at_comma text ts i x (is_comma (class_at text ts x.end))

same_test : (text : List ℕ) (ts : List Token) (i : ℕ) (x : Operand) (b : Bool)
    → (if b then with_operand x.part (operands_from text ts (x.end + 1) (i + 1) (drop (i + 1) ts)) else Some (record { list = x.part ∷ []; end = x.end })) ≡ at_comma text ts i x b
same_test text ts i x true = refl
same_test text ts i x false = refl

operands-step : (text : List ℕ) (ts : List Token) (i : ℕ) → i < length ts → (o : Option Operand) → operand_at text ts i ≡ o → operands_from text ts i i (drop i ts) ≡ led_to text ts i o
unfolding operands_from
operands-step text ts i lt None e =
    let here : nat_lt i i ≡ false = le-ltb i i (omega arith) in
    rw (drop_more ts i no_token lt, here, e) refl
operands-step text ts i lt (Some x) e =
    let here : nat_lt i i ≡ false = le-ltb i i (omega arith) in
    rw (drop_more ts i no_token lt, here, e) (same_test text ts i x (is_comma (class_at text ts x.end)))

pub operands-none : (text : List ℕ) (ts : List Token) (i : ℕ) → length ts ≤ i → operands_from text ts i i (drop i ts) ≡ None
unfolding operands_from
operands-none text ts i le = rw (drop_all i ts le) refl

pub operands-bad : (text : List ℕ) (ts : List Token) (i : ℕ) → i < length ts → operand_at text ts i ≡ None → operands_from text ts i i (drop i ts) ≡ None
operands-bad text ts i lt is = operands-step text ts i lt None is

pub ruleset operand_steps = (after-none, operands-none, operands-bad)

-- the operand is the last
pub operands_last : (text : List ℕ) (ts : List Token) (i : ℕ) (x : Operand) (r : Class) (before later : List Part) (whole : Option Operands)
    → i < length ts → operand_at text ts i ≡ Some x → r ≡ class_at text ts x.end → is_comma r ≡ false → later ≡ before ++ x.part ∷ []
    → after before (operands_from text ts i i (drop i ts)) ≡ whole → whole ≡ Some (record { list = later; end = x.end })
operands_last text ts i x r before later whole lt is there no_comma grown so_far =
    let at_end : is_comma (class_at text ts x.end) ≡ false = rw (sym there) no_comma in
    sym so_far ∙ rw (operands-step text ts i lt (Some x) is, at_end, grown) refl

-- a comma follows the operand
pub operands_more : (text : List ℕ) (ts : List Token) (i : ℕ) (x : Operand) (r : Class) (before later : List Part) (whole : Option Operands)
    → i < length ts → operand_at text ts i ≡ Some x → i < x.end → r ≡ class_at text ts x.end → ((r ≡ Missing → ⊥) → x.end < length ts) → is_comma r ≡ true → later ≡ before ++ x.part ∷ []
    → after before (operands_from text ts i i (drop i ts)) ≡ whole → after later (operands_from text ts (x.end + 1) (x.end + 1) (drop (x.end + 1) ts)) ≡ whole
operands_more text ts i x r before later whole lt is further there inside comma grown so_far =
    let at_comma' : is_comma (class_at text ts x.end) ≡ true = rw (sym there) comma in
    let short : x.end < length ts = inside (comma_there r comma) in
    let rest = operands_from text ts (x.end + 1) (x.end + 1) (drop (x.end + 1) ts) in
    let passed = skip text ts (x.end + 1) (x.end - i) (i + 1) (omega arith) (omega arith) in
    let step : operands_from text ts i i (drop i ts) ≡ with_operand x.part rest = rw (operands-step text ts i lt (Some x) is, at_comma') (ap (with_operand x.part) passed) in
    rw grown (sym (after-first before x.part rest) ∙ ap (after before) (sym step) ∙ so_far)
