-- One literal of a template.
use Rattle.std.proofs.Common.{◌≡◌, ℕ, ◌+◌, ◌<◌, ◌≤◌, sym, ap, append_assoc, ◌++◌, Result, Ok, Err, List, [], drop, length, get_or, refl, ◌∙◌}
use Rattle.std.proofs.lemmas.List.{drop_more, drop_all, append-nil}
use Rattle.c_tokens.specs.declared.token.Token.{Token}
use Rattle.c_literals.specs.declared.raw.Raw.{Raw}
use Rattle.c_literals.proofs.LiteralLemmas.{after, after-none}
use Rattle.asm_statement.specs.Templates.{literal_of, joined, template_of}

pub after-joined : (before rs : List Raw) (read : Result (List Raw) ℕ) → after before (joined (Ok rs) read) ≡ after (before ++ rs) read
after-joined before rs (Ok more) = ap Ok (sym (append_assoc before rs more))
after-joined before rs (Err o) = refl

pub template-none : (text : List ℕ) (ts : List Token) (k : ℕ) → length ts ≤ k → template_of text (drop k ts) ≡ Ok []
unfolding template_of
template-none text ts k le = rw (drop_all k ts le) refl

pub template-step : (text : List ℕ) (ts : List Token) (k : ℕ) (d : Token) → k < length ts → template_of text (drop k ts) ≡ joined (literal_of text (get_or ts k d)) (template_of text (drop (k + 1) ts))
unfolding template_of
template-step text ts k d lt = rw (drop_more ts k d lt) refl

pub template-bad : (text : List ℕ) (ts : List Token) (k : ℕ) (d : Token) (o : ℕ) → k < length ts → literal_of text (get_or ts k d) ≡ Err o → template_of text (drop k ts) ≡ Err o
template-bad text ts k d o lt e = template-step text ts k d lt ∙ rw e refl

pub template-good : (text : List ℕ) (ts : List Token) (k : ℕ) (d : Token) (rs : List Raw) → k < length ts → literal_of text (get_or ts k d) ≡ Ok rs
    → template_of text (drop k ts) ≡ joined (Ok rs) (template_of text (drop (k + 1) ts))
template-good text ts k d rs lt e = template-step text ts k d lt ∙ rw e refl

pub ruleset template_steps = (template-none, template-bad, template-good, after-joined, after-none, append-nil)

-- a literal is read, and stands behind those before it
pub template_one : (text : List ℕ) (ts : List Token) (k : ℕ) (d : Token) (rs before later : List Raw) (whole : Result (List Raw) ℕ)
    → k < length ts → literal_of text (get_or ts k d) ≡ Ok rs → later ≡ before ++ rs
    → after before (template_of text (drop k ts)) ≡ whole → after later (template_of text (drop (k + 1) ts)) ≡ whole
template_one text ts k d rs before later whole lt is grown so_far =
    let rest = template_of text (drop (k + 1) ts) in
    let step : after before (template_of text (drop k ts)) ≡ after before (joined (Ok rs) rest) = rw (template-good text ts k d rs lt is) refl in
    rw grown (sym (after-joined before rs rest) ∙ sym step ∙ so_far)
