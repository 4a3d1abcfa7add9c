-- One token of a file.
use Rattle.std.proofs.Common.{◌≡◌, ℕ, ◌<◌, ◌≤◌, length}
use Rattle.c_words.specs.File.{File}
use Rattle.c_scopes.specs.Seen.{Declared}
use Rattle.c_reader.specs.declared.next.Next.TheVariants.{More}
use Rattle.c_reader.specs.Repeat.{repeated}
use Rattle.c_reader.proofs.RepeatLemmas.{repeated_more, repeated_stop}
use Rattle.c_decls.specs.Walk.{At, walk_end, walk_step}

abbrev pub walked_from : File → ℕ → At → Declared
walked_from f i at = repeated (walk_step f) walk_end (length f.tokens) i at

pub walked-more : (f : File) (i next : ℕ) (at now : At) → i < length f.tokens → i < next → walk_step f i at ≡ More now next
    → walked_from f i at ≡ walked_from f next now
walked-more f i next at now lt further e = repeated_more (walk_step f) walk_end (length f.tokens) i next at now lt further e

pub walked-stop : (f : File) (i : ℕ) (at : At) → length f.tokens ≤ i → walked_from f i at ≡ at.seen
walked-stop f i at le = repeated_stop (walk_step f) walk_end (length f.tokens) i at le

pub ruleset walk_steps = (walked-more, walked-stop)
