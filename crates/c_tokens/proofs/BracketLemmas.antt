-- One token in the check of brackets, by the code's own tests.
use Rattle.std.proofs.Common.{◌≡◌, ℕ, ◌+◌, ◌-◌, ◌<◌, ◌≤◌, true, false, List, [], ◌∷◌, ◌++◌, take, drop, length, get_or, cond, refl, ◌∙◌, Some}
use Rattle.std.proofs.lemmas.List.{drop_more, drop_all}
use Rattle.c_tokens.specs.declared.token.Token.{Token}
use Rattle.c_tokens.specs.Brackets.{mark_of, opens, closes, closes_last, first_of, unbalanced_at}

pub bracket-none : (text opened : List ℕ) (ts : List Token) (k : ℕ) → length ts ≤ k → unbalanced_at text opened (drop k ts) ≡ first_of opened
unfolding unbalanced_at
bracket-none text opened ts k le = rw (drop_all k ts le) refl

bracket-step : (text opened : List ℕ) (ts : List Token) (k : ℕ) (d : Token) → k < length ts
    → unbalanced_at text opened (drop k ts) ≡ cond (opens (mark_of text (get_or ts k d))) (unbalanced_at text (opened ++ (get_or ts k d).span.from ∷ []) (drop (k + 1) ts))
    (cond (closes (mark_of text (get_or ts k d))) (cond (closes_last text opened (mark_of text (get_or ts k d))) (unbalanced_at text (take (length opened - 1) opened) (drop (k + 1) ts)) (Some (get_or ts k d).span.from))
    (unbalanced_at text opened (drop (k + 1) ts)))
unfolding unbalanced_at
bracket-step text opened ts k d lt = rw (drop_more ts k d lt) refl

pub bracket-open : (text opened : List ℕ) (ts : List Token) (k : ℕ) (d : Token) → k < length ts → opens (mark_of text (get_or ts k d)) ≡ true
    → unbalanced_at text opened (drop k ts) ≡ unbalanced_at text (opened ++ (get_or ts k d).span.from ∷ []) (drop (k + 1) ts)
bracket-open text opened ts k d lt o = bracket-step text opened ts k d lt ∙ rw o refl

pub bracket-close : (text opened : List ℕ) (ts : List Token) (k : ℕ) (d : Token) → k < length ts → opens (mark_of text (get_or ts k d)) ≡ false → closes (mark_of text (get_or ts k d)) ≡ true
    → closes_last text opened (mark_of text (get_or ts k d)) ≡ true
    → unbalanced_at text opened (drop k ts) ≡ unbalanced_at text (take (length opened - 1) opened) (drop (k + 1) ts)
bracket-close text opened ts k d lt o c l = bracket-step text opened ts k d lt ∙ rw (o, c, l) refl

pub bracket-stray : (text opened : List ℕ) (ts : List Token) (k : ℕ) (d : Token) → k < length ts → opens (mark_of text (get_or ts k d)) ≡ false → closes (mark_of text (get_or ts k d)) ≡ true
    → closes_last text opened (mark_of text (get_or ts k d)) ≡ false
    → unbalanced_at text opened (drop k ts) ≡ Some (get_or ts k d).span.from
bracket-stray text opened ts k d lt o c l = bracket-step text opened ts k d lt ∙ rw (o, c, l) refl

pub bracket-other : (text opened : List ℕ) (ts : List Token) (k : ℕ) (d : Token) → k < length ts → opens (mark_of text (get_or ts k d)) ≡ false → closes (mark_of text (get_or ts k d)) ≡ false
    → unbalanced_at text opened (drop k ts) ≡ unbalanced_at text opened (drop (k + 1) ts)
bracket-other text opened ts k d lt o c = bracket-step text opened ts k d lt ∙ rw (o, c) refl

pub ruleset bracket_steps = (bracket-none, bracket-open, bracket-close, bracket-stray, bracket-other)
