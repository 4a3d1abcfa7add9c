-- The tags of a part of a declaration, one after the other.
use Rattle.std.proofs.Common.{◌≡◌, ℕ, ◌<◌, ◌≤◌, length}
use Rattle.c_words.specs.File.{File}
use Rattle.c_scopes.specs.Seen.{Declared}
use Rattle.c_reader.specs.declared.next.Next.TheVariants.{Done, More}
use Rattle.c_reader.proofs.RepeatLemmas.{repeated_done, repeated_more, repeated_stop}
use Rattle.c_decls.specs.Hiding.{hidden_at_end}
use Rattle.c_decls.specs.Tags.{Bodies, named_tags, tags_step}

pub tags-done : (f : File) (to : ℕ) (body : Bodies) (end i : ℕ) (seen now : Declared) → i < length f.tokens → tags_step f to body end i seen ≡ Done now
    → named_tags f to body i end seen ≡ now
tags-done f to body end i seen now lt e = repeated_done (tags_step f to body end) hidden_at_end (length f.tokens) i seen now lt e

pub tags-more : (f : File) (to : ℕ) (body : Bodies) (end i j : ℕ) (seen now : Declared) → i < length f.tokens → i < j → tags_step f to body end i seen ≡ More now j
    → named_tags f to body i end seen ≡ named_tags f to body j end now
tags-more f to body end i j seen now lt further e = repeated_more (tags_step f to body end) hidden_at_end (length f.tokens) i j seen now lt further e

pub tags-stop : (f : File) (to : ℕ) (body : Bodies) (end i : ℕ) (seen : Declared) → length f.tokens ≤ i → named_tags f to body i end seen ≡ seen
tags-stop f to body end i seen le = repeated_stop (tags_step f to body end) hidden_at_end (length f.tokens) i seen le

pub ruleset tag_steps = (tags-done, tags-more, tags-stop)
