-- Where parts end.
use Rattle.std.proofs.Common.{◌≡◌, ℕ, ◌<◌, ◌≤◌, Bool, true, false, ◌||◌, length, refl}
use Rattle.c_words.specs.File.{File}
use Rattle.c_words.specs.Words.{word_at, past_group, is_name_word}
use Rattle.c_reader.specs.declared.next.Next.TheVariants.{Done, More}
use Rattle.c_reader.specs.Repeat.{repeated}
use Rattle.c_reader.proofs.RepeatLemmas.{repeated_done, repeated_more, repeated_stop}
use Rattle.c_decls.specs.declared.ends.Stop.{Stop}
use Rattle.c_decls.specs.Ends.{stops_at, closes, level_step, level_stop, level_end, case_step, case_stop, behind_type, behind_word, type_step}

-- ---- the end at a level

level-step_done : (f : File) (stop : Stop) (i : ℕ) → (stops_at stop (word_at f i) || closes (word_at f i)) ≡ true → level_step f stop i tt ≡ Done i
level-step_done f stop i e = rw e refl

level-step_more : (f : File) (stop : Stop) (i : ℕ) → (stops_at stop (word_at f i) || closes (word_at f i)) ≡ false → level_step f stop i tt ≡ More tt (past_group f i)
level-step_more f stop i e = rw e refl

pub level-done : (f : File) (stop : Stop) (i : ℕ) → i < length f.tokens → (stops_at stop (word_at f i) || closes (word_at f i)) ≡ true → level_end f stop i ≡ i
level-done f stop i lt e = repeated_done (level_step f stop) level_stop (length f.tokens) i tt i lt (level-step_done f stop i e)

pub level-more : (f : File) (stop : Stop) (i : ℕ) → i < length f.tokens → i < past_group f i → (stops_at stop (word_at f i) || closes (word_at f i)) ≡ false
    → level_end f stop i ≡ level_end f stop (past_group f i)
level-more f stop i lt further e = repeated_more (level_step f stop) level_stop (length f.tokens) i (past_group f i) tt tt lt further (level-step_more f stop i e)

pub level-stop : (f : File) (stop : Stop) (i : ℕ) → length f.tokens ≤ i → level_end f stop i ≡ i
level-stop f stop i le = repeated_stop (level_step f stop) level_stop (length f.tokens) i tt le

or-false : (a b : Bool) → a ≡ false → b ≡ false → (a || b) ≡ false
or-false a b e g = rw (e, g) refl

or-first : (a b : Bool) → a ≡ true → (a || b) ≡ true
or-first a b e = rw e refl

or-second : (a b : Bool) → b ≡ true → (a || b) ≡ true
or-second true b e = refl
or-second false b e = e

pub level-at_stop : (f : File) (stop : Stop) (i : ℕ) → i < length f.tokens → stops_at stop (word_at f i) ≡ true → level_end f stop i ≡ i
level-at_stop f stop i lt e = level-done f stop i lt (or-first _ _ e)

pub level-at_close : (f : File) (stop : Stop) (i : ℕ) → i < length f.tokens → closes (word_at f i) ≡ true → level_end f stop i ≡ i
level-at_close f stop i lt e = level-done f stop i lt (or-second _ _ e)

pub level-on : (f : File) (stop : Stop) (i : ℕ) → i < length f.tokens → i < past_group f i → stops_at stop (word_at f i) ≡ false → closes (word_at f i) ≡ false
    → level_end f stop i ≡ level_end f stop (past_group f i)
level-on f stop i lt further e g = level-more f stop i lt further (or-false _ _ e g)

pub ruleset level_steps = (level-at_stop, level-at_close, level-on, level-stop)

-- ---- the words of a type

type-step_more : (f : File) (i : ℕ) → is_name_word (word_at f i) ≡ true → type_step f i tt ≡ More tt (behind_word f i)
type-step_more f i e = rw e refl

type-step_done : (f : File) (i : ℕ) → is_name_word (word_at f i) ≡ false → type_step f i tt ≡ Done i
type-step_done f i e = rw e refl

pub type-done : (f : File) (i : ℕ) → i < length f.tokens → is_name_word (word_at f i) ≡ false → behind_type f i ≡ i
type-done f i lt e = repeated_done (type_step f) level_stop (length f.tokens) i tt i lt (type-step_done f i e)

pub type-more : (f : File) (i : ℕ) → i < length f.tokens → i < behind_word f i → is_name_word (word_at f i) ≡ true → behind_type f i ≡ behind_type f (behind_word f i)
type-more f i lt further e = repeated_more (type_step f) level_stop (length f.tokens) i (behind_word f i) tt tt lt further (type-step_more f i e)

pub type-stop : (f : File) (i : ℕ) → length f.tokens ≤ i → behind_type f i ≡ i
type-stop f i le = repeated_stop (type_step f) level_stop (length f.tokens) i tt le

pub ruleset type_steps = (type-done, type-more, type-stop)

-- ---- the end of a case

abbrev pub case_from : File → ℕ → ℕ → ℕ
case_from f i waiting = repeated (case_step f) case_stop (length f.tokens) i waiting

pub case-done : (f : File) (i waiting r : ℕ) → i < length f.tokens → case_step f i waiting ≡ Done r → case_from f i waiting ≡ r
case-done f i waiting r lt e = repeated_done (case_step f) case_stop (length f.tokens) i waiting r lt e

pub case-more : (f : File) (i j waiting next : ℕ) → i < length f.tokens → i < j → case_step f i waiting ≡ More next j → case_from f i waiting ≡ case_from f j next
case-more f i j waiting next lt further e = repeated_more (case_step f) case_stop (length f.tokens) i j waiting next lt further e

pub case-stop : (f : File) (i waiting : ℕ) → length f.tokens ≤ i → case_from f i waiting ≡ i
case-stop f i waiting le = repeated_stop (case_step f) case_stop (length f.tokens) i waiting le

pub ruleset case_steps = (case-done, case-more, case-stop)
