-- Where items begin.
use Rattle.std.proofs.Common.{◌≡◌, ℕ, ◌+◌, ◌<◌, ◌≤◌, true, false, length, refl, arith}
use Rattle.c_words.specs.File.{File}
use Rattle.c_words.specs.Words.{word_at}
use Rattle.c_reader.specs.declared.next.Next.TheVariants.{Done, More}
use Rattle.c_reader.proofs.RepeatLemmas.{repeated_done, repeated_more, repeated_stop}
use Rattle.c_decls.specs.Items.{is_extension, extension_step, extension_stop, behind_extensions}

extension-step_more : (f : File) (i : ℕ) → is_extension (word_at f i) ≡ true → extension_step f i tt ≡ More tt (i + 1)
extension-step_more f i e = rw e refl

extension-step_done : (f : File) (i : ℕ) → is_extension (word_at f i) ≡ false → extension_step f i tt ≡ Done i
extension-step_done f i e = rw e refl

pub extensions-done : (f : File) (i : ℕ) → i < length f.tokens → is_extension (word_at f i) ≡ false → behind_extensions f i ≡ i
extensions-done f i lt e = repeated_done (extension_step f) extension_stop (length f.tokens) i tt i lt (extension-step_done f i e)

pub extensions-more : (f : File) (i : ℕ) → i < length f.tokens → is_extension (word_at f i) ≡ true → behind_extensions f i ≡ behind_extensions f (i + 1)
extensions-more f i lt e = repeated_more (extension_step f) extension_stop (length f.tokens) i (i + 1) tt tt lt (omega arith) (extension-step_more f i e)

pub extensions-stop : (f : File) (i : ℕ) → length f.tokens ≤ i → behind_extensions f i ≡ i
extensions-stop f i le = repeated_stop (extension_step f) extension_stop (length f.tokens) i tt le

pub ruleset extension_steps = (extensions-done, extensions-more, extensions-stop)
