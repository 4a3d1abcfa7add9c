-- One token in the search for beginnings.
use Rattle.std.proofs.Common.{◌≡◌, ℕ, ◌+◌, ◌<◌, ◌≤◌, Bool, true, false, List, [], ◌∷◌, ◌++◌, drop, length, get_or, refl, ◌∙◌, sym, ap, append_assoc}
use Rattle.std.proofs.lemmas.List.{drop_more, drop_all, append-nil}
use Rattle.c_tokens.specs.declared.token.Token.{Token}
use Rattle.asm_statement.specs.declared.class.Class.{Class}
use Rattle.asm_statement.specs.declared.beginning.Opened.{Opened}
use Rattle.asm_statement.specs.declared.beginning.Before.{Before}
use Rattle.asm_statement.specs.declared.beginning.Beginning.{Beginning}
use Rattle.asm_statement.specs.Source.{class_of}
use Rattle.asm_statement.specs.Beginnings.{beginning_at, beginnings_from, begins, behind, opened_behind, with_beginning}

pub beginnings-none : (text : List ℕ) (o : List Opened) (b : Before) (k : ℕ) (ts : List Token) → length ts ≤ k
    → beginnings_from text o b k (drop k ts) ≡ []
unfolding beginnings_from
beginnings-none text o b k ts le = rw (drop_all k ts le) refl

-- what is left behind a token
abbrev rest_from : List ℕ → List Opened → Before → ℕ → List Token → Token → List Beginning
rest_from text o b k ts t = beginnings_from text (opened_behind o b (class_of text t)) (behind text o b t) (k + 1)
    (drop (k + 1) ts)

beginnings-step : (text : List ℕ) (o : List Opened) (b : Before) (k : ℕ) (ts : List Token) (d : Token) → k < length ts
    → beginnings_from text o b k (drop k ts)
    ≡ with_beginning (begins (class_of text (get_or ts k d)) b.ready) (beginning_at k o b) (rest_from text o b k ts
    (get_or ts k d))
unfolding beginnings_from
beginnings-step text o b k ts d lt = rw (drop_more ts k d lt) refl

pub beginnings-other : (text : List ℕ) (o : List Opened) (b : Before) (k : ℕ) (ts : List Token) (d : Token)
    → k < length ts
    → begins (class_of text (get_or ts k d)) b.ready ≡ false → beginnings_from text o b k (drop k ts)
    ≡ rest_from text o b k ts (get_or ts k d)
beginnings-other text o b k ts d lt e = beginnings-step text o b k ts d lt ∙ rw e refl

pub beginnings-begin : (text : List ℕ) (o : List Opened) (b : Before) (k : ℕ) (ts : List Token) (d : Token)
    → k < length ts
    → begins (class_of text (get_or ts k d)) b.ready ≡ true → beginnings_from text o b k (drop k ts)
    ≡ beginning_at k o b ∷ rest_from text o b k ts (get_or ts k d)
beginnings-begin text o b k ts d lt e = beginnings-step text o b k ts d lt ∙ rw e refl

pub ruleset beginning_steps = (beginnings-none, beginnings-other, beginnings-begin, append-nil)

-- a beginning is found, and stands behind those before it
pub found_one : (text : List ℕ) (o o' : List Opened) (b b' : Before) (c : Class) (k : ℕ) (ts : List Token)
    (d : Token) (list later whole : List Beginning) (g : Beginning)
    → k < length ts → c ≡ class_of text (get_or ts k d) → begins c b.ready ≡ true → o' ≡ opened_behind o b c → b'
    ≡ behind text o b (get_or ts k d)
    → g ≡ beginning_at k o b → later ≡ list ++ g ∷ []
    → list ++ beginnings_from text o b k (drop k ts) ≡ whole
    → later ++ beginnings_from text o' b' (k + 1) (drop (k + 1) ts) ≡ whole
found_one text o o' b b' c k ts d list later whole g lt is begun opened passed same grown so_far =
    let rest = beginnings_from text o' b' (k + 1) (drop (k + 1) ts) in
    let begun' : begins (class_of text (get_or ts k d)) b.ready ≡ true = rw (sym is) begun in
    let step : beginnings_from text o b k (drop k ts) ≡ g ∷ rest = beginnings-begin text o b k ts d lt begun'
    ∙ rw (opened, passed, same, is) refl in
    rw grown (append_assoc list (g ∷ []) rest ∙ ap (λ (x : List Beginning). list ++ x) (sym step) ∙ so_far)
