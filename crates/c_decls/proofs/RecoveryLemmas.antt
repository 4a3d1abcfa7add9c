-- Where a declaration that isn't covered ends.
use Rattle.std.proofs.Common.{◌≡◌, ℕ, suc, ◌+◌, ◌-◌, ◌<◌, ◌≤◌, Bool, true, false, ◌&&◌, Option, Some, None, length, refl, ◌∙◌, ap, arith, nat_lt, lt-ltb}
use Rattle.std.proofs.lemmas.Bool.{le-ltb}
use Rattle.c_words.specs.File.{File}
use Rattle.c_words.specs.Words.{word_at, past_group}
use Rattle.c_reader.specs.declared.next.Next.TheVariants.{Done, More}
use Rattle.c_reader.specs.Repeat.{repeated}
use Rattle.c_reader.specs.Marks.{is_comma, is_name, is_open_brace, is_semicolon}
use Rattle.c_reader.proofs.RepeatLemmas.{repeated_done, repeated_more, repeated_stop}
use Rattle.c_decls.specs.declared.ends.Stop.TheVariants as stops
use Rattle.c_decls.specs.declared.recovery.Uncovered.{Uncovered}
use Rattle.c_decls.specs.declared.recovery.Within.{Within}
use Rattle.c_decls.specs.Ends.{level_end, level_stop}
use Rattle.c_decls.specs.Recovery.{body_behind, has_list, is_identifier_list, last_name, lists_step, lists_stop, names_step, uncovered_step, uncovered_stop}

-- ---- names with commas between them

and-first : (a b : Bool) → a ≡ false → (a && b) ≡ false
and-first a b e = rw e refl

and-second : (a b : Bool) → b ≡ false → (a && b) ≡ false
and-second true b e = e
and-second false b e = refl

and-both : (a b : Bool) → a ≡ true → b ≡ true → (a && b) ≡ true
and-both a b e g = rw (e, g) refl

names-step_more : (f : File) (i : ℕ) → (is_name (word_at f i) && is_comma (word_at f (i + 1))) ≡ true → names_step f i tt ≡ More tt (i + 2)
names-step_more f i e = rw e refl

names-step_done : (f : File) (i : ℕ) → (is_name (word_at f i) && is_comma (word_at f (i + 1))) ≡ false → names_step f i tt ≡ Done i
names-step_done f i e = rw e refl

names-done : (f : File) (i : ℕ) → i < length f.tokens → (is_name (word_at f i) && is_comma (word_at f (i + 1))) ≡ false → last_name f i ≡ i
names-done f i lt e = repeated_done (names_step f) level_stop (length f.tokens) i tt i lt (names-step_done f i e)

pub names-no_name : (f : File) (i : ℕ) → i < length f.tokens → is_name (word_at f i) ≡ false → last_name f i ≡ i
names-no_name f i lt e = names-done f i lt (and-first _ _ e)

pub names-no_comma : (f : File) (i : ℕ) → i < length f.tokens → is_comma (word_at f (i + 1)) ≡ false → last_name f i ≡ i
names-no_comma f i lt e = names-done f i lt (and-second _ _ e)

pub names-more : (f : File) (i : ℕ) → i < length f.tokens → is_name (word_at f i) ≡ true → is_comma (word_at f (i + 1)) ≡ true → last_name f i ≡ last_name f (i + 2)
names-more f i lt e g =
    repeated_more (names_step f) level_stop (length f.tokens) i (i + 2) tt tt lt (omega arith) (names-step_more f i (and-both _ _ e g))

pub names-stop : (f : File) (i : ℕ) → length f.tokens ≤ i → last_name f i ≡ i
names-stop f i le = repeated_stop (names_step f) level_stop (length f.tokens) i tt le

pub ruleset name_steps = (names-no_name, names-no_comma, names-more, names-stop)

-- ---- lists of identifiers in a group

abbrev pub lists_from : File → ℕ → ℕ → Bool
lists_from f end i = repeated (lists_step f end) lists_stop (length f.tokens) i tt

list_past : (f : File) (end i : ℕ) → end ≤ i → lists_step f end i tt ≡ Done false
list_past f end i le = let past : nat_lt i end ≡ false = le-ltb i end le in rw past refl

list_here : (f : File) (end i : ℕ) → i < end → is_identifier_list f i ≡ true → lists_step f end i tt ≡ Done true
list_here f end i lt e = let within : nat_lt i end ≡ true = lt-ltb i end lt in rw (within, e) refl

list_further : (f : File) (end i : ℕ) → i < end → is_identifier_list f i ≡ false → lists_step f end i tt ≡ More tt (i + 1)
list_further f end i lt e = let within : nat_lt i end ≡ true = lt-ltb i end lt in rw (within, e) refl

pub lists-end : (f : File) (end i : ℕ) → i < length f.tokens → end ≤ i → lists_from f end i ≡ false
lists-end f end i lt le = repeated_done (lists_step f end) lists_stop (length f.tokens) i tt false lt (list_past f end i le)

pub lists-here : (f : File) (end i : ℕ) → i < length f.tokens → i < end → is_identifier_list f i ≡ true → lists_from f end i ≡ true
lists-here f end i lt within e = repeated_done (lists_step f end) lists_stop (length f.tokens) i tt true lt (list_here f end i within e)

pub lists-more : (f : File) (end i : ℕ) → i < length f.tokens → i < end → is_identifier_list f i ≡ false → lists_from f end i ≡ lists_from f end (i + 1)
lists-more f end i lt within e = repeated_more (lists_step f end) lists_stop (length f.tokens) i (i + 1) tt tt lt (omega arith) (list_further f end i within e)

pub lists-stop : (f : File) (end i : ℕ) → length f.tokens ≤ i → lists_from f end i ≡ false
lists-stop f end i le = repeated_stop (lists_step f end) lists_stop (length f.tokens) i tt le

pub ruleset list_steps = (lists-end, lists-here, lists-more, lists-stop)

-- ---- the brace behind a semicolon

body-zero : (f : File) (i : ℕ) → body_behind f 0 i ≡ None
unfolding body_behind
body-zero f i = refl

body-first : (f : File) (n i : ℕ) → is_open_brace (word_at f (i + 1)) ≡ true → body_behind f (suc n) i ≡ Some (i + 1)
unfolding body_behind
body-first f n i e = rw e refl

body-next : (f : File) (n i : ℕ) → is_open_brace (word_at f (i + 1)) ≡ false → is_semicolon (word_at f (level_end f stops.Semicolon (i + 1))) ≡ true
    → body_behind f (suc n) i ≡ body_behind f n (level_end f stops.Semicolon (i + 1))
unfolding body_behind
body-next f n i e g = rw (e, g) refl

body-last : (f : File) (n i : ℕ) → is_open_brace (word_at f (i + 1)) ≡ false → is_semicolon (word_at f (level_end f stops.Semicolon (i + 1))) ≡ false
    → body_behind f (suc n) i ≡ None
unfolding body_behind
body-last f n i e g = rw (e, g) refl

pub body-none : (f : File) (n i : ℕ) → n ≤ 0 → body_behind f n i ≡ None
body-none f n i le = let none : n ≡ 0 = omega arith in rw none (body-zero f i)

pub body-here : (f : File) (n i : ℕ) → 0 < n → is_open_brace (word_at f (i + 1)) ≡ true → body_behind f n i ≡ Some (i + 1)
body-here f n i lt e = let some : n ≡ suc (n - 1) = omega arith in ap (λ k. body_behind f k i) some ∙ body-first f (n - 1) i e

pub body-more : (f : File) (n i : ℕ) → 0 < n → is_open_brace (word_at f (i + 1)) ≡ false → is_semicolon (word_at f (level_end f stops.Semicolon (i + 1))) ≡ true
    → body_behind f n i ≡ body_behind f (n - 1) (level_end f stops.Semicolon (i + 1))
body-more f n i lt e g = let some : n ≡ suc (n - 1) = omega arith in ap (λ k. body_behind f k i) some ∙ body-next f (n - 1) i e g

pub body-stop : (f : File) (n i : ℕ) → 0 < n → is_open_brace (word_at f (i + 1)) ≡ false → is_semicolon (word_at f (level_end f stops.Semicolon (i + 1))) ≡ false
    → body_behind f n i ≡ None
body-stop f n i lt e g = let some : n ≡ suc (n - 1) = omega arith in ap (λ k. body_behind f k i) some ∙ body-last f (n - 1) i e g

pub ruleset body_steps = (body-none, body-here, body-more, body-stop)

-- ---- the end of what isn't covered

abbrev pub uncovered_from : File → ℕ → Within → Uncovered
uncovered_from f i within = repeated (uncovered_step f) uncovered_stop (length f.tokens) i within

pub uncovered-done : (f : File) (i : ℕ) (within : Within) (r : Uncovered) → i < length f.tokens → uncovered_step f i within ≡ Done r → uncovered_from f i within ≡ r
uncovered-done f i within r lt e = repeated_done (uncovered_step f) uncovered_stop (length f.tokens) i within r lt e

pub uncovered-more : (f : File) (i j : ℕ) (within next : Within) → i < length f.tokens → i < j → uncovered_step f i within ≡ More next j
    → uncovered_from f i within ≡ uncovered_from f j next
uncovered-more f i j within next lt further e = repeated_more (uncovered_step f) uncovered_stop (length f.tokens) i j within next lt further e

pub uncovered-stop : (f : File) (i : ℕ) (within : Within) → length f.tokens ≤ i → uncovered_from f i within ≡ uncovered_stop i within
uncovered-stop f i within le = repeated_stop (uncovered_step f) uncovered_stop (length f.tokens) i within le

pub ruleset uncovered_steps = (uncovered-done, uncovered-more, uncovered-stop)
