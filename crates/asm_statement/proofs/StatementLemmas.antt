-- One word behind a keyword, one statement of several.
use Rattle.std.proofs.Common.{◌≡◌, ℕ, ◌+◌, ◌<◌, ◌≤◌, Bool, true, false, List, [], ◌∷◌, drop, length, get_or, cond, refl, ◌∙◌, append_assoc, Option, Some, None}
use Rattle.std.proofs.lemmas.List.{drop_more, drop_all, append-nil}
use Rattle.c_tokens.specs.declared.token.Token.{Token}
use Rattle.asm_statement.specs.declared.beginning.Beginning.{Beginning}
use Rattle.asm_statement.specs.Classes.{is_word}
use Rattle.asm_statement.specs.Source.{class_of}
use Rattle.asm_statement.specs.Statements.{words_end, first_of, statement_at, statements_from}

words-step : (g : Bool) (text : List ℕ) (ts : List Token) (i : ℕ) (d : Token) → i < length ts
    → words_end g text i (drop i ts) ≡ cond (is_word g (class_of text (get_or ts i d))) (words_end g text (i + 1) (drop (i + 1) ts)) i
unfolding words_end
words-step g text ts i d lt = rw (drop_more ts i d lt) refl

pub words-more : (g : Bool) (text : List ℕ) (ts : List Token) (i : ℕ) (d : Token) → i < length ts → is_word g (class_of text (get_or ts i d)) ≡ true
    → words_end g text i (drop i ts) ≡ words_end g text (i + 1) (drop (i + 1) ts)
words-more g text ts i d lt e = words-step g text ts i d lt ∙ rw e refl

pub words-stop : (g : Bool) (text : List ℕ) (ts : List Token) (i : ℕ) (d : Token) → i < length ts → is_word g (class_of text (get_or ts i d)) ≡ false
    → words_end g text i (drop i ts) ≡ i
words-stop g text ts i d lt e = words-step g text ts i d lt ∙ rw e refl

pub words-done : (g : Bool) (text : List ℕ) (ts : List Token) (i : ℕ) → length ts ≤ i → words_end g text i (drop i ts) ≡ i
unfolding words_end
words-done g text ts i le = rw (drop_all i ts le) refl

pub ruleset word_steps = (words-more, words-stop, words-done)

pub statements-none : (text : List ℕ) (ts : List Token) (bs : List Beginning) (k : ℕ) → length bs ≤ k → statements_from text ts (drop k bs) ≡ []
unfolding statements_from
statements-none text ts bs k le = rw (drop_all k bs le) refl

pub first-past : (bs : List Beginning) (k : ℕ) → length bs ≤ k → first_of (drop k bs) ≡ None
first-past bs k le = rw (drop_all k bs le) refl

pub first-at : (bs : List Beginning) (k : ℕ) (d : Beginning) → k < length bs → first_of (drop k bs) ≡ Some (get_or bs k d).at
first-at bs k d lt = rw (drop_more bs k d lt) refl

pub ruleset first_rules = (first-past, first-at)

pub statements-step : (text : List ℕ) (ts : List Token) (bs : List Beginning) (k : ℕ) (d : Beginning) → k < length bs
    → statements_from text ts (drop k bs) ≡ statement_at text ts (get_or bs k d) (first_of (drop (k + 1) bs)) ∷ statements_from text ts (drop (k + 1) bs)
unfolding statements_from
statements-step text ts bs k d lt = rw (drop_more bs k d lt) refl

pub ruleset statement_steps = (statements-none, statements-step, append-nil, append_assoc)
