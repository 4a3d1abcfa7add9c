-- Declarations of members, and their parts, one after the other.
use Rattle.std.proofs.Common.{◌≡◌, ℕ, ◌<◌, ◌≤◌, true, false, nat_lt, length, refl, lt-ltb}
use Rattle.std.proofs.lemmas.Bool.{le-ltb}
use Rattle.c_words.specs.File.{File}
use Rattle.c_words.specs.Words.{word_at, past_group}
use Rattle.c_scopes.specs.Seen.{Declared}
use Rattle.c_reader.specs.declared.next.Next.TheVariants.{Done, More}
use Rattle.c_reader.specs.declared.grammar.Specifiers.{Specifiers}
use Rattle.c_reader.proofs.RepeatLemmas.{repeated_done, repeated_more, repeated_stop}
use Rattle.c_decls.specs.declared.members.Members.{Members}
use Rattle.c_decls.specs.Tags.{Bodies}
use Rattle.c_decls.specs.Members.{Found, declarators_from, found_at_end, is_tag_word, member_step, members_from, members_so_far, members_step, tag_step, tag_stop, tag_word_from, unended, unknown_from, unknown_step}

-- ---- declarators

pub declarators-done : (f : File) (to depth : ℕ) (body : Bodies) (s : Specifiers) (i : ℕ) (r now : Found) → i < length f.tokens → member_step f to depth body s i r ≡ Done now
    → declarators_from f to depth body s i r ≡ now
declarators-done f to depth body s i r now lt e = repeated_done (member_step f to depth body s) unended (length f.tokens) i r now lt e

pub declarators-more : (f : File) (to depth : ℕ) (body : Bodies) (s : Specifiers) (i j : ℕ) (r now : Found) → i < length f.tokens → i < j → member_step f to depth body s i r ≡ More now j
    → declarators_from f to depth body s i r ≡ declarators_from f to depth body s j now
declarators-more f to depth body s i j r now lt further e = repeated_more (member_step f to depth body s) unended (length f.tokens) i j r now lt further e

pub declarators-stop : (f : File) (to depth : ℕ) (body : Bodies) (s : Specifiers) (i : ℕ) (r : Found) → length f.tokens ≤ i → declarators_from f to depth body s i r ≡ unended i r
declarators-stop f to depth body s i r le = repeated_stop (member_step f to depth body s) unended (length f.tokens) i r le

pub ruleset declarator_steps = (declarators-done, declarators-more, declarators-stop)

-- ---- the keyword of a struct or union

tag_step-end : (f : File) (end i : ℕ) → end ≤ i → tag_step f end i tt ≡ Done i
tag_step-end f end i le = let past : nat_lt i end ≡ false = le-ltb i end le in rw past refl

tag_step-tag : (f : File) (end i : ℕ) → i < end → is_tag_word (word_at f i) ≡ true → tag_step f end i tt ≡ Done i
tag_step-tag f end i lt e = let before : nat_lt i end ≡ true = lt-ltb i end lt in rw (before, e) refl

tag_step-more : (f : File) (end i : ℕ) → i < end → is_tag_word (word_at f i) ≡ false → tag_step f end i tt ≡ More tt (past_group f i)
tag_step-more f end i lt e = let before : nat_lt i end ≡ true = lt-ltb i end lt in rw (before, e) refl

pub tag_word-end : (f : File) (i end : ℕ) → i < length f.tokens → end ≤ i → tag_word_from f i end ≡ i
tag_word-end f i end lt le = repeated_done (tag_step f end) tag_stop (length f.tokens) i tt i lt (tag_step-end f end i le)

pub tag_word-found : (f : File) (i end : ℕ) → i < length f.tokens → i < end → is_tag_word (word_at f i) ≡ true → tag_word_from f i end ≡ i
tag_word-found f i end lt before e = repeated_done (tag_step f end) tag_stop (length f.tokens) i tt i lt (tag_step-tag f end i before e)

pub tag_word-more : (f : File) (i end : ℕ) → i < length f.tokens → i < end → i < past_group f i → is_tag_word (word_at f i) ≡ false
    → tag_word_from f i end ≡ tag_word_from f (past_group f i) end
tag_word-more f i end lt before further e = repeated_more (tag_step f end) tag_stop (length f.tokens) i (past_group f i) tt tt lt further (tag_step-more f end i before e)

pub tag_word-stop : (f : File) (i end : ℕ) → length f.tokens ≤ i → tag_word_from f i end ≡ i
tag_word-stop f i end le = repeated_stop (tag_step f end) tag_stop (length f.tokens) i tt le

pub ruleset tag_word_steps = (tag_word-end, tag_word-found, tag_word-more, tag_word-stop)

-- ---- names in a declaration that isn't covered

pub unknown-done : (f : File) (seen : Declared) (end i : ℕ) (m now : Members) → i < length f.tokens → unknown_step f seen end i m ≡ Done now
    → unknown_from f seen end i m ≡ now
unknown-done f seen end i m now lt e = repeated_done (unknown_step f seen end) members_so_far (length f.tokens) i m now lt e

pub unknown-more : (f : File) (seen : Declared) (end i j : ℕ) (m now : Members) → i < length f.tokens → i < j → unknown_step f seen end i m ≡ More now j
    → unknown_from f seen end i m ≡ unknown_from f seen end j now
unknown-more f seen end i j m now lt further e = repeated_more (unknown_step f seen end) members_so_far (length f.tokens) i j m now lt further e

pub unknown-stop : (f : File) (seen : Declared) (end i : ℕ) (m : Members) → length f.tokens ≤ i → unknown_from f seen end i m ≡ m
unknown-stop f seen end i m le = repeated_stop (unknown_step f seen end) members_so_far (length f.tokens) i m le

pub ruleset unknown_steps = (unknown-done, unknown-more, unknown-stop)

-- ---- declarations

pub members-done : (f : File) (to depth : ℕ) (body : Bodies) (i : ℕ) (r now : Found) → i < length f.tokens → members_step f to depth body i r ≡ Done now
    → members_from f to depth body i r ≡ now
members-done f to depth body i r now lt e = repeated_done (members_step f to depth body) found_at_end (length f.tokens) i r now lt e

pub members-more : (f : File) (to depth : ℕ) (body : Bodies) (i j : ℕ) (r now : Found) → i < length f.tokens → i < j → members_step f to depth body i r ≡ More now j
    → members_from f to depth body i r ≡ members_from f to depth body j now
members-more f to depth body i j r now lt further e = repeated_more (members_step f to depth body) found_at_end (length f.tokens) i j r now lt further e

pub members-stop : (f : File) (to depth : ℕ) (body : Bodies) (i : ℕ) (r : Found) → length f.tokens ≤ i → members_from f to depth body i r ≡ r
members-stop f to depth body i r le = repeated_stop (members_step f to depth body) found_at_end (length f.tokens) i r le

pub ruleset member_steps = (members-done, members-more, members-stop)
