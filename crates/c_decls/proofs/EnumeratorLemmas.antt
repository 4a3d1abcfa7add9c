-- The constants of an enumeration, one after the other.
use Rattle.std.proofs.Common.{◌≡◌, ℕ, ◌<◌, ◌≤◌, length}
use Rattle.c_words.specs.File.{File}
use Rattle.c_reader.specs.declared.next.Next.TheVariants.{Done, More}
use Rattle.c_reader.proofs.RepeatLemmas.{repeated_done, repeated_more, repeated_stop}
use Rattle.c_decls.specs.Enumerators.{Found, enumerator_step, enumerators_from, unended}

pub enumerators-done : (f : File) (to depth i : ℕ) (r now : Found) → i < length f.tokens → enumerator_step f to depth i r ≡ Done now
    → enumerators_from f to depth i r ≡ now
enumerators-done f to depth i r now lt e = repeated_done (enumerator_step f to depth) unended (length f.tokens) i r now lt e

pub enumerators-more : (f : File) (to depth i j : ℕ) (r now : Found) → i < length f.tokens → i < j → enumerator_step f to depth i r ≡ More now j
    → enumerators_from f to depth i r ≡ enumerators_from f to depth j now
enumerators-more f to depth i j r now lt further e = repeated_more (enumerator_step f to depth) unended (length f.tokens) i j r now lt further e

pub enumerators-stop : (f : File) (to depth i : ℕ) (r : Found) → length f.tokens ≤ i → enumerators_from f to depth i r ≡ unended i r
enumerators-stop f to depth i r le = repeated_stop (enumerator_step f to depth) unended (length f.tokens) i r le

pub ruleset enumerator_steps = (enumerators-done, enumerators-more, enumerators-stop)
