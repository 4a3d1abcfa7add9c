-- One clobber of several.
use Rattle.std.proofs.Common.{◌≡◌, ℕ, zero, suc, ◌+◌, ◌-◌, ◌<◌, ◌≤◌, Bool, if◌then◌else◌, true, false, List, [], ◌∷◌, ◌++◌, drop, length, refl, ◌∙◌, sym, ap, arith, nat_lt, lt-ltb, append_assoc, Option, Some, None}
use Rattle.std.proofs.lemmas.List.{drop_more, drop_all}
use Rattle.std.proofs.lemmas.Bool.{le-ltb}
use Rattle.c_tokens.specs.declared.token.Token.{Token}
use Rattle.c_tokens.specs.declared.token.TokenKind.TheVariants.{Name}
use Rattle.asm_core.specs.declared.statement.Quoted.{Quoted}
use Rattle.asm_statement.specs.declared.class.Class.{Class}
use Rattle.asm_statement.specs.declared.class.Class.TheVariants.{Missing}
use Rattle.asm_statement.specs.declared.operand.Clobber.{Clobber}
use Rattle.asm_statement.specs.declared.list.Clobbers.{Clobbers}
use Rattle.asm_statement.specs.Classes.{is_comma}
use Rattle.asm_statement.specs.Source.{class_at}
use Rattle.asm_statement.specs.Operands.{clobber_at, with_clobber, clobbers_from}

abbrev no_token : Token
no_token = record { kind = Name; span = record { from = 0; to = 0 } }

-- a comma is a token
comma_there : (r : Class) → is_comma r ≡ true → r ≡ Missing → ⊥
comma_there r e m = let f : is_comma Missing ≡ true = ap is_comma (sym m) ∙ e in cc

-- what is read behind these clobbers
abbrev pub after : List Quoted → Option Clobbers → Option Clobbers
after before None = None
after before (Some r) = Some (record { list = before ++ r.list; end = r.end })

after-first : (before : List Quoted) (p : Quoted) (r : Option Clobbers) → after before (with_clobber p r) ≡ after (before ++ p ∷ []) r
after-first before p None = refl
after-first before p (Some r) = ap (λ (l : List Quoted). let o : Clobbers = record { list = l; end = r.end } in Some o) (sym (append_assoc before (p ∷ []) r.list))

pub after-none : (r : Option Clobbers) → after [] r ≡ r
after-none None = refl
after-none (Some r) = refl

-- the tokens of an clobber are passed over
skip : (text : List ℕ) (ts : List Token) (until : ℕ) (k i : ℕ) → i + k ≡ until → until ≤ length ts → clobbers_from text ts until i (drop i ts) ≡ clobbers_from text ts until until (drop until ts)
unfolding clobbers_from
skip text ts until zero i e le = let same : i ≡ until = omega arith in rw same refl
skip text ts until (suc k) i e le =
    let short : i < length ts = omega arith in
    let below : nat_lt i until ≡ true = lt-ltb i until (omega arith) in
    let next : i + 1 + k ≡ until = omega arith in
    rw (drop_more ts i no_token short, below) (skip text ts until k (i + 1) next le)

abbrev at_comma : List ℕ → List Token → ℕ → Clobber → Bool → Option Clobbers
at_comma text ts i x true = with_clobber x.quoted (clobbers_from text ts (x.end + 1) (i + 1) (drop (i + 1) ts))
at_comma text ts i x false = Some (record { list = x.quoted ∷ []; end = x.end })

-- what the clobber at an index leads to
abbrev led_to : List ℕ → List Token → ℕ → Option Clobber → Option Clobbers
led_to text ts i None = None
led_to text ts i (Some x) = at_comma text ts i x (is_comma (class_at text ts x.end))

same_test : (text : List ℕ) (ts : List Token) (i : ℕ) (x : Clobber) (b : Bool)
    → (if b then with_clobber x.quoted (clobbers_from text ts (x.end + 1) (i + 1) (drop (i + 1) ts)) else Some (record { list = x.quoted ∷ []; end = x.end })) ≡ at_comma text ts i x b
same_test text ts i x true = refl
same_test text ts i x false = refl

clobbers-step : (text : List ℕ) (ts : List Token) (i : ℕ) → i < length ts → (o : Option Clobber) → clobber_at text ts i ≡ o → clobbers_from text ts i i (drop i ts) ≡ led_to text ts i o
unfolding clobbers_from
clobbers-step text ts i lt None e =
    let here : nat_lt i i ≡ false = le-ltb i i (omega arith) in
    rw (drop_more ts i no_token lt, here, e) refl
clobbers-step text ts i lt (Some x) e =
    let here : nat_lt i i ≡ false = le-ltb i i (omega arith) in
    rw (drop_more ts i no_token lt, here, e) (same_test text ts i x (is_comma (class_at text ts x.end)))

pub clobbers-none : (text : List ℕ) (ts : List Token) (i : ℕ) → length ts ≤ i → clobbers_from text ts i i (drop i ts) ≡ None
unfolding clobbers_from
clobbers-none text ts i le = rw (drop_all i ts le) refl

pub clobbers-bad : (text : List ℕ) (ts : List Token) (i : ℕ) → i < length ts → clobber_at text ts i ≡ None → clobbers_from text ts i i (drop i ts) ≡ None
clobbers-bad text ts i lt is = clobbers-step text ts i lt None is

pub ruleset clobber_steps = (after-none, clobbers-none, clobbers-bad)

-- the clobber is the last
pub clobbers_last : (text : List ℕ) (ts : List Token) (i : ℕ) (x : Clobber) (r : Class) (before later : List Quoted) (whole : Option Clobbers)
    → i < length ts → clobber_at text ts i ≡ Some x → r ≡ class_at text ts x.end → is_comma r ≡ false → later ≡ before ++ x.quoted ∷ []
    → after before (clobbers_from text ts i i (drop i ts)) ≡ whole → whole ≡ Some (record { list = later; end = x.end })
clobbers_last text ts i x r before later whole lt is there no_comma grown so_far =
    let at_end : is_comma (class_at text ts x.end) ≡ false = rw (sym there) no_comma in
    sym so_far ∙ rw (clobbers-step text ts i lt (Some x) is, at_end, grown) refl

-- a comma follows the clobber
pub clobbers_more : (text : List ℕ) (ts : List Token) (i : ℕ) (x : Clobber) (r : Class) (before later : List Quoted) (whole : Option Clobbers)
    → i < length ts → clobber_at text ts i ≡ Some x → i < x.end → r ≡ class_at text ts x.end → ((r ≡ Missing → ⊥) → x.end < length ts) → is_comma r ≡ true → later ≡ before ++ x.quoted ∷ []
    → after before (clobbers_from text ts i i (drop i ts)) ≡ whole → after later (clobbers_from text ts (x.end + 1) (x.end + 1) (drop (x.end + 1) ts)) ≡ whole
clobbers_more text ts i x r before later whole lt is further there inside comma grown so_far =
    let at_comma' : is_comma (class_at text ts x.end) ≡ true = rw (sym there) comma in
    let short : x.end < length ts = inside (comma_there r comma) in
    let rest = clobbers_from text ts (x.end + 1) (x.end + 1) (drop (x.end + 1) ts) in
    let passed = skip text ts (x.end + 1) (x.end - i) (i + 1) (omega arith) (omega arith) in
    let step : clobbers_from text ts i i (drop i ts) ≡ with_clobber x.quoted rest = rw (clobbers-step text ts i lt (Some x) is, at_comma') (ap (with_clobber x.quoted) passed) in
    rw grown (sym (after-first before x.quoted rest) ∙ ap (after before) (sym step) ∙ so_far)
