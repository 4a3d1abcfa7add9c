-- Where the walk through a file stands.
use Rattle.std.specs.Prelude.{ℕ, Bool, false, ◌+◌, ◌-◌, ◌==◌, ◌||◌, is_some, if◌then◌else◌, Option, Some, None, length, List, [], ◌∷◌, ◌++◌, take, slice_get}
use Rattle.c_words.specs.File.{File}
use Rattle.c_words.specs.Words.{word_at, end_at, past_group}
use Rattle.c_reader.specs.Marks.{is_name, is_open_brace, is_semicolon}
use Rattle.c_decls.specs.declared.ends.Stop.TheVariants as stops
use Rattle.c_decls.specs.declared.declaring.Ending.{Ending}
use Rattle.c_decls.specs.declared.declaring.Ending.TheVariants as endings
use Rattle.c_decls.specs.declared.place.Frame.{Frame}
use Rattle.c_decls.specs.declared.place.Place.{Place}
use Rattle.c_decls.specs.Ends.{level_end, opens_block, tag_kind}

-- no block is open, and the first item begins at the first token
abbrev pub beginning : Place
beginning = record { frames = []; next = 0; sealed = None }

-- the innermost of the open blocks
abbrev pub last_frame : List Frame → Option Frame
last_frame frames = slice_get frames (length frames - 1)

-- the offset at which the innermost scope ends; at file level one behind every file's end
abbrev pub scope_end : File → List Frame → ℕ
scope_end f frames = elim (last_frame frames) [ None ↦ 4294967295 | Some frame ↦ end_at f frame.close ]

-- the next item begins at the index
abbrev pub at_item : ℕ → Place → Place
at_item i p = record p { next = i; sealed = None }

-- The block whose brace has this index opens; behind it the next item begins at the index `behind`, and reading passes over the braces
-- `sealed` if they haven't come yet.
abbrev pub entered : File → ℕ → ℕ → Option ℕ → Place → Place
entered f brace behind sealed p = record {
  frames = p.frames ++ record { close = past_group f brace - 1; behind = behind; sealed = sealed } ∷ [];
  next = brace + 1;
  sealed = None;
}

-- a block that is an item, or a function's body
abbrev pub block_entered : File → ℕ → Place → Place
block_entered f brace p = entered f brace (past_group f brace) None p

abbrev left_to : Place → Option Frame → Place
left_to p None = p
left_to p (Some frame) = record { frames = take (length p.frames - 1) p.frames; next = frame.behind; sealed = frame.sealed }

-- the innermost block closes
abbrev pub left : Place → Place
left p = left_to p (last_frame p.frames)

-- behind the declaration at the index
abbrev pub moved : File → ℕ → Ending → Place → Place
moved f i (endings.Behind end) p = at_item end p
moved f i (endings.Body brace) p = block_entered f brace p
moved f i (endings.Skipped end braces) p = record p { next = end; sealed = braces }
moved f i endings.Uncovered p = at_item (i + 1) p

-- A token before the next item is passed; a block in a statement expression opens there.
abbrev pub passing : File → ℕ → Place → Place
passing f i p = if opens_block f i then entered f (i + 1) p.next p.sealed p else p

-- the braces at the index are passed over as one
abbrev pub is_sealed : ℕ → Option ℕ → Bool
is_sealed i None = false
is_sealed i (Some brace) = brace == i

-- ---- braces that are read as no block

-- the brace at the index has opened the innermost block
abbrev pub is_entered : File → ℕ → Place → Bool
is_entered f i p = elim (last_frame p.frames) [ None ↦ false | Some frame ↦ frame.close == past_group f i - 1 ]

-- the body of a struct, union or enumeration
abbrev pub follows_tag : File → ℕ → Bool
follows_tag f i =
    if is_name (word_at f (i - 1)) then is_some (tag_kind (word_at f (i - 2))) else is_some (tag_kind (word_at f (i - 1)))

abbrev pub has_statements : File → ℕ → Bool
has_statements f i = is_semicolon (word_at f (level_end f stops.Semicolon (i + 1)))

-- Neither a block nor a body, with a semicolon at its level: what is declared in it isn't known (this project's own).
abbrev pub is_unread : File → ℕ → Place → Bool
is_unread f i p =
    if is_open_brace (word_at f i) then (if is_entered f i p || follows_tag f i then false else has_statements f i) else false
