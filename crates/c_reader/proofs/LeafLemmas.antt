-- Adjacent string literals.
use Rattle.std.proofs.Common.{◌≡◌, ℕ, ◌+◌, ◌<◌, ◌≤◌, true, false, length, refl, arith}
use Rattle.c_words.specs.File.{File}
use Rattle.c_words.specs.Words.{word_at}
use Rattle.c_reader.specs.declared.next.Next.TheVariants.{Done, More}
use Rattle.c_reader.specs.Leaves.{is_text, text_step, text_stop, texts_end}
use Rattle.c_reader.proofs.RepeatLemmas.{repeated_done, repeated_more, repeated_stop}

texts-step_more : (f : File) (i : ℕ) → is_text (word_at f i) ≡ true → text_step f i tt ≡ More tt (i + 1)
texts-step_more f i e = rw e refl

texts-step_done : (f : File) (i : ℕ) → is_text (word_at f i) ≡ false → text_step f i tt ≡ Done i
texts-step_done f i e = rw e refl

pub texts-done : (f : File) (i : ℕ) → i < length f.tokens → is_text (word_at f i) ≡ false → texts_end f i ≡ i
texts-done f i lt e = repeated_done (text_step f) text_stop (length f.tokens) i tt i lt (texts-step_done f i e)

pub texts-more : (f : File) (i : ℕ) → i < length f.tokens → is_text (word_at f i) ≡ true → texts_end f i ≡ texts_end f (i + 1)
texts-more f i lt e = repeated_more (text_step f) text_stop (length f.tokens) i (i + 1) tt tt lt (omega arith) (texts-step_more f i e)

pub texts-stop : (f : File) (i : ℕ) → length f.tokens ≤ i → texts_end f i ≡ i
texts-stop f i le = repeated_stop (text_step f) text_stop (length f.tokens) i tt le

pub ruleset text_steps = (texts-done, texts-more, texts-stop)
