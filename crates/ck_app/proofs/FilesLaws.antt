-- The answers of several files, put together.
use Rattle.std.proofs.Common.{◌≡◌, ℕ, List, [], ◌∷◌, ◌++◌, Bool, true, false, Option, refl, sym, ◌∙◌, ap, subst}
use Rattle.std.proofs.lemmas.List.{append-nil, append_assoc}
use Rattle.ck_app.specs.Answer.{Answer, answer, IsReadAnswer}
use Rattle.ck_app.specs.FilesAnswer.{ends_run, undecided_after, status_after, answer_after, IsFirstAnswer, IsFilesAnswer}
use Rattle.ck_app.specs.declared.status.Status.{Status}

-- ---- statuses

after_done : (s : Status) → status_after Status.Done s ≡ s
after_done Status.Undecided = refl
after_done s = refl

undecided_twice : (f : Status) → undecided_after (undecided_after f) ≡ undecided_after f
undecided_twice Status.Rejected = refl
undecided_twice f = refl

undecided_assoc : (f r : Status) → ends_run r ≡ false → undecided_after (status_after f r) ≡ status_after f (undecided_after r)
undecided_assoc f Status.Done on = refl
undecided_assoc f Status.Undecided on = undecided_twice f
undecided_assoc f Status.Rejected on = refl
undecided_assoc f r on = cc

status_assoc : (f r b : Status) → ends_run r ≡ false → status_after (status_after f r) b ≡ status_after f (status_after r b)
status_assoc f r Status.Done on = refl
status_assoc f r Status.Undecided on = undecided_assoc f r on
status_assoc f r b on = refl

undecided_goes_on : (f : Status) → ends_run (undecided_after f) ≡ false
undecided_goes_on Status.Rejected = refl
undecided_goes_on f = refl

pub goes_on_after : (f r : Status) → ends_run f ≡ false → ends_run r ≡ false → ends_run (status_after f r) ≡ false
goes_on_after f Status.Done first rest = first
goes_on_after f Status.Undecided first rest = undecided_goes_on f
goes_on_after f r first rest = rest

rest_goes_on : (f r : Status) → ends_run (status_after f r) ≡ false → ends_run r ≡ false
rest_goes_on f Status.Done on = refl
rest_goes_on f Status.Undecided on = refl
rest_goes_on f r on = on

-- ---- answers

after_nothing : (a b : Answer) → a ≡ answer [] Status.Done → answer_after a b ≡ b
after_nothing a b is = ap (λ x. answer_after x b) is ∙ ap (answer b.printed) (after_done b.status)

before_nothing : (a : Answer) → a ≡ answer_after a (answer [] Status.Done)
before_nothing a = sym (ap (λ p. answer p a.status) (append-nil a.printed))

answer_assoc : (f r b : Answer) → ends_run r.status ≡ false → answer_after (answer_after f r) b ≡ answer_after f (answer_after r b)
answer_assoc f r b on =
    ap (λ p. answer p (status_after (status_after f.status r.status) b.status)) (append_assoc f.printed r.printed b.printed)
    ∙ ap (answer (f.printed ++ (r.printed ++ b.printed))) (status_assoc f.status r.status b.status on)

module _ (strict : Bool) (files : List ℕ → Option (List ℕ)) where
  abbrev are : List (List ℕ) → Answer → Type 0
  are = IsFilesAnswer strict files

  pub no_files : are [] (answer [] Status.Done)
  unfolding IsFilesAnswer
  no_files = refl

  -- a file that ends the run is the last
  pub last_file : (name : List ℕ) (others : List (List ℕ)) (a : Answer) → IsReadAnswer strict name (files name) a → ends_run a.status ≡ true → are (name ∷ others) a
  unfolding IsFilesAnswer
  last_file name others a is ends = (a, is, subst (λ e. IsFirstAnswer (are others) e a a) (sym ends) refl)

  alone : (e : Bool) (a : Answer) → IsFirstAnswer (are []) e a a
  alone true a = refl
  alone false a = (answer [] Status.Done, no_files, before_nothing a)

  pub one_file : (name : List ℕ) (a : Answer) → IsReadAnswer strict name (files name) a → are (name ∷ []) a
  unfolding IsFilesAnswer
  one_file name a is = (a, is, alone (ends_run a.status) a)

  behind : (names rest : List (List ℕ)) (first a b : Answer) → ends_run a.status ≡ false → ((x : Answer) → are names x → ends_run x.status ≡ false → are (names ++ rest) (answer_after x b))
      → (e : Bool) → ends_run first.status ≡ e → IsFirstAnswer (are names) e first a → IsFirstAnswer (are (names ++ rest)) e first (answer_after a b)
  behind names rest first a b on more true ends h = let goes : ends_run first.status ≡ false = subst (λ (x : Answer). ends_run x.status ≡ false) h on in cc
  behind names rest first a b on more false goes h =
      let rest_on : ends_run h.0.status ≡ false = rest_goes_on first.status h.0.status (subst (λ (x : Answer). ends_run x.status ≡ false) h.2 on) in
      (answer_after h.0 b, more h.0 h.1 rest_on, ap (λ x. answer_after x b) h.2 ∙ answer_assoc first h.0 b rest_on)

  pub files_append : (firsts rest : List (List ℕ)) (a b : Answer) → are firsts a → ends_run a.status ≡ false → are rest b → are (firsts ++ rest) (answer_after a b)
  unfolding IsFilesAnswer
  files_append [] rest a b is on more = subst (are rest) (sym (after_nothing a b is)) more
  files_append (name ∷ names) rest a b is on more =
      (is.0, is.1, behind names rest is.0 a b on (λ x h x_on. files_append names rest x b h x_on more) (ends_run is.0.status) refl is.2)
