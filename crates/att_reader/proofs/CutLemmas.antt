-- One step of the cut of a template.
use Rattle.std.proofs.Common.{◌≡◌, ℕ, zero, suc, ◌+◌, ◌-◌, ◌<◌, ◌≤◌, nat_lt, nat_le, Bool, true, false, cond, List, [], ◌∷◌, ◌++◌, length, map, take, drop, None, Some, Bor, refl, sym, ap, ◌∙◌, arith, append_assoc, ◌==◌, ◌&&◌, ◌||◌, not}
use Rattle.std.proofs.lemmas.List.{map-append, drop-drop, length-drop, length-map}
use Rattle.std.proofs.lemmas.Bool.{le-leb}
use Rattle.std.proofs.lemmas.Bool.Decides.{nat_tests}
use Rattle.std.specs.Prelude.{slice_index}
use Rattle.std.specs.List.{prefix_len, list_any, slice_split, flat_map}
use Rattle.asm_core.specs.Reading.Cut.{Item, Waiting, none_waits, first_or, raws_from, raws_of, same_name, is_label, is_unique_label, prefix_named, word_len, begun, item_at, items_from, items_of, ends_statement}
use Rattle.asm_core.specs.Reading.Operands.{atom_code}
use Rattle.asm_core.specs.declared.names.Prefix.{Prefix}
use Rattle.asm_core.specs.declared.reading.Atom.{Atom}
use Rattle.att_reader.specs.Text.{IsText}
use Rattle.att_reader.specs.Seen.{names_seen, has_seen}
use Rattle.att_reader.specs.Raws.{raw_as, raws_as, atoms_of, cut_with, Adds, EndsWaiting, IsEmpty}
use Rattle.att_reader.specs.declared.text.Text.{Text}
use Rattle.att_reader.specs.declared.raw.Raw.TheVariants as raws
use Rattle.att_reader.specs.declared.raw.Instruction.{Instruction}
use Rattle.att_reader.specs.declared.cut.Cut.{Cut}

-- the labels that have been seen matter only by which names are among them
pub raws_from-alike : (w : Waiting Atom) (s t : List (List ℕ)) (items : List (Item Atom)) → ((n : List ℕ) → list_any (same_name n) s ≡ list_any (same_name n) t) → raws_from w s items ≡ raws_from w t items
unfolding raws_from
raws_from-alike w s t [] e = refl
raws_from-alike w s t (Item.Labelled name from ∷ items) e =
    rw (e name, raws_from-alike none_waits s t items e, raws_from-alike none_waits (name ∷ s) (name ∷ t) items (λ n. rw (e n) refl)) refl
raws_from-alike w s t (Item.Prefixed p from ∷ items) e = raws_from-alike _ s t items e
raws_from-alike w s t (Item.Body body ∷ items) e = rw (raws_from-alike none_waits s t items e) refl

-- the second of two equal labels
pub label_again : (old mid new : Cut) (name : List ℕ) (from : Text) → EndsWaiting old mid → (is_unique_label name && has_seen mid.seen name) ≡ true
    → new.raws.items ≡ mid.raws.items ++ raws.Dead from ∷ [] → new.waiting.items ≡ mid.waiting.items → new.froms.items ≡ mid.froms.items → new.seen ≡ mid.seen
    → Adds old new (Item.Labelled name from.atoms.now ∷ [])
unfolding cut_with raws_from
label_again old mid new name from e again r w f s = record { each = each }
  where
    each : (items : List (Item Atom)) → cut_with new items ≡ cut_with old ((Item.Labelled name from.atoms.now ∷ []) ++ items)
    each items =
        let again_old : (is_unique_label name && has_seen old.seen name) ≡ true = rw e.seen at again in
        rw (r, map-append raw_as mid.raws.items (raws.Dead from ∷ []), w, e.prefixes, f, e.froms, s, e.seen, e.raws, again_old) (simp append_assoc)

-- another label
pub label_first : (old mid new : Cut) (name : List ℕ) (from : List Atom) (text : Bor (List ℕ)) → EndsWaiting old mid → (is_unique_label name && has_seen mid.seen name) ≡ false → text.now ≡ name
    → new.raws.items ≡ mid.raws.items ++ raws.Label text ∷ [] → new.waiting.items ≡ mid.waiting.items → new.froms.items ≡ mid.froms.items
    → ((other : List ℕ) → has_seen new.seen other ≡ (same_name other name || has_seen mid.seen other))
    → Adds old new (Item.Labelled name from ∷ [])
unfolding cut_with raws_from
label_first old mid new name from text e first is r w f s = record { each = each }
  where
    each : (items : List (Item Atom)) → cut_with new items ≡ cut_with old ((Item.Labelled name from ∷ []) ++ items)
    each items =
        let first_old : (is_unique_label name && has_seen old.seen name) ≡ false = rw e.seen at first in
        let same : raws_from none_waits (names_seen new.seen) items ≡ raws_from none_waits (name ∷ names_seen mid.seen) items = raws_from-alike none_waits (names_seen new.seen) (name ∷ names_seen mid.seen) items s in
        rw (r, map-append raw_as mid.raws.items (raws.Label text ∷ []), is, w, e.prefixes, f, e.froms, same, e.seen, e.raws, first_old) (simp append_assoc)

pub prefix_added : (old new : Cut) (p : Prefix) (from : Text) → new.waiting.items ≡ old.waiting.items ++ p ∷ [] → new.froms.items ≡ old.froms.items ++ from ∷ []
    → new.raws ≡ old.raws → new.seen ≡ old.seen → Adds old new (Item.Prefixed p from.atoms.now ∷ [])
unfolding cut_with raws_from
prefix_added old new p from w f r s = record { each = each }
  where
    each : (items : List (Item Atom)) → cut_with new items ≡ cut_with old ((Item.Prefixed p from.atoms.now ∷ []) ++ items)
    each items = rw (w, f, map-append (λ (t : Text). t.atoms.now) old.froms.items (from ∷ []), r, s) refl

pub body_added : (old new : Cut) (i : Instruction) → new.raws.items ≡ old.raws.items ++ raws.Live i ∷ [] → i.before.items ≡ old.waiting.items
    → i.from.atoms.now ≡ first_or (atoms_of old.froms.items) i.body.atoms.now → new.waiting.items ≡ [] → new.froms.items ≡ [] → new.seen ≡ old.seen
    → Adds old new (Item.Body i.body.atoms.now ∷ [])
unfolding cut_with raws_from
body_added old new i r b from w f s = record { each = each }
  where
    each : (items : List (Item Atom)) → cut_with new items ≡ cut_with old ((Item.Body i.body.atoms.now ∷ []) ++ items)
    each items = rw (r, map-append raw_as old.raws.items (raws.Live i ∷ []), b, from, w, f, s) (simp append_assoc)

at_label : (labels : Bool) (next : Bool → List Atom → List (Item Atom)) (text : List Atom) (n : ℕ) → (length text == 0) ≡ false
    → (labels && (is_label (take n (map atom_code text)) && (slice_index (map atom_code text) n == 58))) ≡ true
    → item_at atom_code labels next text n ≡ Item.Labelled (take n (map atom_code text)) text ∷ next true (drop (n + 1) text)
unfolding item_at
at_label labels next text n some label = rw (some, label) refl

at_prefix : (labels : Bool) (next : Bool → List Atom → List (Item Atom)) (text : List Atom) (n : ℕ) (p : Prefix) → (length text == 0) ≡ false
    → (labels && (is_label (take n (map atom_code text)) && (slice_index (map atom_code text) n == 58))) ≡ false → prefix_named (take n (map atom_code text)) ≡ Some p
    → item_at atom_code labels next text n ≡ Item.Prefixed p text ∷ next false (drop n text)
unfolding item_at
at_prefix labels next text n p some label named = rw (some, label, named) refl

at_body : (labels : Bool) (next : Bool → List Atom → List (Item Atom)) (text : List Atom) (n : ℕ) → (length text == 0) ≡ false
    → (labels && (is_label (take n (map atom_code text)) && (slice_index (map atom_code text) n == 58))) ≡ false → prefix_named (take n (map atom_code text)) ≡ None
    → item_at atom_code labels next text n ≡ Item.Body text ∷ []
unfolding item_at
at_body labels next text n some label named = rw (some, label, named) refl

at_end : (labels : Bool) (next : Bool → List Atom → List (Item Atom)) (text : List Atom) (n : ℕ) → (length text == 0) ≡ true → item_at atom_code labels next text n ≡ []
unfolding item_at
at_end labels next text n none = rw none refl

from_step : (left : ℕ) (labels : Bool) (xs text : List Atom) → 0 < left → text ≡ begun atom_code xs
    → items_from atom_code left labels xs ≡ item_at atom_code labels (items_from atom_code (left - 1)) text (word_len (map atom_code text))
unfolding items_from
from_step zero labels xs text some is = absurd (omega arith)
from_step (suc left) labels xs text some is =
    let back : suc left - 1 ≡ left = omega arith in
    rw (back, is) refl

both : (a b : Bool) → (a && b) ≡ true → a ≡ true
both true b e = refl
both false b e = e

-- what is left of a statement gives what the whole gives
pub record Left (old now : Cut) (statement : List Atom) (left : ℕ) (labels : Bool) (rest : Text) : Type 0 where
  pub text : IsText rest
  pub each : (items : List (Item Atom)) → cut_with now (items_from atom_code left labels rest.atoms.now ++ items) ≡ cut_with old (items_of atom_code statement ++ items)

pub left_whole : (c : Cut) (statement : Text) (left : ℕ) → IsText statement → left ≡ length statement.atoms.now + 1 → Left c c statement.atoms.now left true statement
left_whole c statement left text is = record { text = text; each = λ items. rw is refl }

-- the word at the beginning of a text
pub record IsWord (text : Text) (n : ℕ) : Type 0 where
  pub same : IsText text
  pub len : n ≡ word_len text.codes.now
  pub some : (length text.atoms.now == 0) ≡ false

module _ (old now next : Cut) (statement : List Atom) (left : ℕ) (labels : Bool) (rest text : Text) (go : Left old now statement left labels rest) (some : 0 < left) (is : text.atoms.now ≡ begun atom_code rest.atoms.now) where
  go_on : (xs : List (Item Atom)) (more : List (Item Atom)) → items_from atom_code left labels rest.atoms.now ≡ xs ++ more → Adds now next xs → (items : List (Item Atom))
      → cut_with next (more ++ items) ≡ cut_with old (items_of atom_code statement ++ items)
  go_on xs more e adds items =
      let step : cut_with next (more ++ items) ≡ cut_with now (xs ++ (more ++ items)) = adds.each (more ++ items) in
      let whole = go.each items in
      let same : items_from atom_code left labels rest.atoms.now ++ items ≡ xs ++ (more ++ items) = rw e (append_assoc xs more items) in
      step ∙ ap (cut_with now) (sym same) ∙ whole

  pub left_label : (n : ℕ) (word : List ℕ) (more : Text) → IsWord text n → (labels && (is_label (take n text.codes.now) && (slice_index text.codes.now n == 58))) ≡ true → word ≡ take n text.codes.now
      → Adds now next (Item.Labelled word text.atoms.now ∷ []) → more.atoms.now ≡ drop (n + 1) text.atoms.now → IsText more → Left old next statement (left - 1) labels more
  left_label n word more w label named adds rest_is same =
      let cs = map atom_code text.atoms.now in
      let len : n ≡ word_len cs = rw w.same at w.len in
      let label' : (labels && (is_label (take n cs) && (slice_index cs n == 58))) ≡ true = rw w.same at label in
      let adds' : Adds now next (Item.Labelled (take n cs) text.atoms.now ∷ []) = rw (named, w.same) at adds in
      let still : labels ≡ true = both labels (is_label (take n cs) && (slice_index cs n == 58)) label' in
      let e = from_step left labels rest.atoms.now text.atoms.now some is ∙ ap (item_at atom_code labels (items_from atom_code (left - 1)) text.atoms.now) (sym len) ∙ at_label labels (items_from atom_code (left - 1)) text.atoms.now n w.some label' in
      record { text = same; each = λ items. rw (still, rest_is) (go_on (Item.Labelled (take n cs) text.atoms.now ∷ []) (items_from atom_code (left - 1) true (drop (n + 1) text.atoms.now)) e adds' items) }

  pub left_prefix : (n : ℕ) (p : Prefix) (more : Text) → IsWord text n → (labels && (is_label (take n text.codes.now) && (slice_index text.codes.now n == 58))) ≡ false
      → prefix_named (take n text.codes.now) ≡ Some p
      → Adds now next (Item.Prefixed p text.atoms.now ∷ []) → more.atoms.now ≡ drop n text.atoms.now → IsText more → Left old next statement (left - 1) false more
  left_prefix n p more w label named adds rest_is same =
      let cs = map atom_code text.atoms.now in
      let len : n ≡ word_len cs = rw w.same at w.len in
      let label' : (labels && (is_label (take n cs) && (slice_index cs n == 58))) ≡ false = rw w.same at label in
      let named' : prefix_named (take n cs) ≡ Some p = rw w.same at named in
      let e = from_step left labels rest.atoms.now text.atoms.now some is ∙ ap (item_at atom_code labels (items_from atom_code (left - 1)) text.atoms.now) (sym len) ∙ at_prefix labels (items_from atom_code (left - 1)) text.atoms.now n p w.some label' named' in
      record { text = same; each = λ items. rw rest_is (go_on (Item.Prefixed p text.atoms.now ∷ []) (items_from atom_code (left - 1) false (drop n text.atoms.now)) e adds items) }

  pub left_body : (n : ℕ) → IsWord text n → (labels && (is_label (take n text.codes.now) && (slice_index text.codes.now n == 58))) ≡ false
      → prefix_named (take n text.codes.now) ≡ None → Adds now next (Item.Body text.atoms.now ∷ []) → Adds old next (items_of atom_code statement)
  left_body n w label named adds =
      let cs = map atom_code text.atoms.now in
      let len : n ≡ word_len cs = rw w.same at w.len in
      let label' : (labels && (is_label (take n cs) && (slice_index cs n == 58))) ≡ false = rw w.same at label in
      let named' : prefix_named (take n cs) ≡ None = rw w.same at named in
      let e = from_step left labels rest.atoms.now text.atoms.now some is ∙ ap (item_at atom_code labels (items_from atom_code (left - 1)) text.atoms.now) (sym len) ∙ at_body labels (items_from atom_code (left - 1)) text.atoms.now n w.some label' named' in
      record { each = λ items. go_on (Item.Body text.atoms.now ∷ []) [] e adds items }

pub left_end : (old now : Cut) (statement : List Atom) (left : ℕ) (labels : Bool) (rest text : Text) → Left old now statement left labels rest → 0 < left → text.atoms.now ≡ begun atom_code rest.atoms.now
    → (length text.atoms.now == 0) ≡ true → Adds old now (items_of atom_code statement)
left_end old now statement left labels rest text go some is none =
    let e : items_from atom_code left labels rest.atoms.now ≡ [] = from_step left labels rest.atoms.now text.atoms.now some is ∙ at_end labels (items_from atom_code (left - 1)) text.atoms.now (word_len (map atom_code text.atoms.now)) none in
    record { each = λ items. rw e at (go.each items) }

pub left_over : (old now : Cut) (statement : List Atom) (left : ℕ) (labels : Bool) (rest : Text) → Left old now statement left labels rest → left ≡ 0 → Adds old now (items_of atom_code statement)
unfolding items_from
left_over old now statement left labels rest go over = record { each = λ items. rw over at (go.each items) }

lt_suc : (a b : ℕ) → nat_lt (suc a) (suc b) ≡ nat_lt a b
lt_suc a b = by (nat_lt a b) refl
  where
    by : (c : Bool) → nat_lt a b ≡ c → nat_lt (suc a) (suc b) ≡ c
    by true e = grind (arith, nat_tests)
    by false e = grind (arith, nat_tests)

-- the first part of what is split, and the rest behind what ends it
split_first : (xs : List Atom) → slice_split (λ x. ends_statement (atom_code x)) xs
    ≡ take (prefix_len (λ c. not (ends_statement c)) (map atom_code xs)) xs
    ∷ cond (nat_lt (prefix_len (λ c. not (ends_statement c)) (map atom_code xs)) (length xs))
    (slice_split (λ x. ends_statement (atom_code x)) (drop (prefix_len (λ c. not (ends_statement c)) (map atom_code xs) + 1) xs)) []
split_first [] = refl
split_first (x ∷ xs) = by (ends_statement (atom_code x)) refl (split_first xs)
  where
    by : (b : Bool) → ends_statement (atom_code x) ≡ b
        → slice_split (λ x. ends_statement (atom_code x)) xs
        ≡ take (prefix_len (λ c. not (ends_statement c)) (map atom_code xs)) xs
        ∷ cond (nat_lt (prefix_len (λ c. not (ends_statement c)) (map atom_code xs)) (length xs))
        (slice_split (λ x. ends_statement (atom_code x)) (drop (prefix_len (λ c. not (ends_statement c)) (map atom_code xs) + 1) xs)) []
        → slice_split (λ x. ends_statement (atom_code x)) (x ∷ xs)
        ≡ take (prefix_len (λ c. not (ends_statement c)) (map atom_code (x ∷ xs))) (x ∷ xs)
        ∷ cond (nat_lt (prefix_len (λ c. not (ends_statement c)) (map atom_code (x ∷ xs))) (length (x ∷ xs)))
        (slice_split (λ x. ends_statement (atom_code x)) (drop (prefix_len (λ c. not (ends_statement c)) (map atom_code (x ∷ xs)) + 1) (x ∷ xs))) []
    by true e more =
        let some : nat_lt 0 (suc (length xs)) ≡ true = grind (arith, nat_tests) in
        rw (e, some) refl
    by false e more =
        let next : (1 + prefix_len (λ c. not (ends_statement c)) (map atom_code xs)) ≡ suc (prefix_len (λ c. not (ends_statement c)) (map atom_code xs)) = omega arith in
        let next_more : (suc (prefix_len (λ c. not (ends_statement c)) (map atom_code xs)) + 1) ≡ suc (prefix_len (λ c. not (ends_statement c)) (map atom_code xs) + 1) = omega arith in
        rw (e, more, next, next_more, lt_suc (prefix_len (λ c. not (ends_statement c)) (map atom_code xs)) (length xs)) refl

-- what the statements from an index on give
abbrev pub left_from : ℕ → List Atom → List (Item Atom)
left_from start xs = cond (nat_le start (length xs)) (flat_map (items_of atom_code) (slice_split (λ x. ends_statement (atom_code x)) (drop start xs))) []

pub statement_step : (xs : List Atom) (start n : ℕ) → start ≤ length xs → n ≡ prefix_len (λ c. not (ends_statement c)) (map atom_code (drop start xs))
    → left_from start xs ≡ items_of atom_code (take n (drop start xs)) ++ left_from (start + (n + 1)) xs
statement_step xs start n le is =
    let here : nat_le start (length xs) ≡ true = le-leb start (length xs) le in
    rw (here, split_first (drop start xs), ← is, drop-drop (n + 1) start xs, length-drop start xs) (by (nat_lt n (length xs - start)) (nat_le (start + (n + 1)) (length xs)) refl refl)
  where
    more : List (List Atom)
    more = slice_split (λ x. ends_statement (atom_code x)) (drop (start + (n + 1)) xs)

    first : List (Item Atom)
    first = items_of atom_code (take n (drop start xs))

    by : (b c : Bool) → nat_lt n (length xs - start) ≡ b → nat_le (start + (n + 1)) (length xs) ≡ c
        → first ++ flat_map (items_of atom_code) (cond b more []) ≡ first ++ cond c (flat_map (items_of atom_code) more) []
    by true true e f = refl
    by false false e f = refl
    by true false e f = absurd (grind (arith, nat_tests))
    by false true e f = absurd (grind (arith, nat_tests))

pub raws_begun : (c : Cut) (xs : List Atom) → IsEmpty c → cut_with c (left_from 0 xs) ≡ raws_of atom_code xs
unfolding cut_with raws_of
raws_begun c xs is =
    let all : nat_le 0 (length xs) ≡ true = grind (arith, nat_tests) in
    rw (all, is.raws, is.prefixes, is.froms, is.seen) refl

pub raws_more : (old new : Cut) (xs : List Atom) (start n : ℕ) (rest front : Text) → cut_with old (left_from start xs) ≡ raws_of atom_code xs → start ≤ length xs
    → rest.atoms.now ≡ drop start xs → IsText rest → n ≡ prefix_len (λ c. not (ends_statement c)) rest.codes.now → front.atoms.now ≡ take n rest.atoms.now
    → Adds old new (items_of atom_code front.atoms.now) → cut_with new (left_from (start + (n + 1)) xs) ≡ raws_of atom_code xs
raws_more old new xs start n rest front whole within is same len first adds =
    let len_of : n ≡ prefix_len (λ c. not (ends_statement c)) (map atom_code (drop start xs)) = rw (same, is) at len in
    let adds_first : Adds old new (items_of atom_code (take n (drop start xs))) = rw (first, is) at adds in
    adds_first.each (left_from (start + (n + 1)) xs) ∙ ap (cut_with old) (sym (statement_step xs start n within len_of)) ∙ whole

pub raws_done : (old new : Cut) (xs : List Atom) (start : ℕ) → cut_with old (left_from start xs) ≡ raws_of atom_code xs → length xs < start → EndsWaiting old new → raws_as new.raws.items ≡ raws_of atom_code xs
unfolding cut_with raws_from
raws_done old new xs start whole past ends =
    let over : nat_le start (length xs) ≡ false = grind (arith, nat_tests) in
    ends.raws ∙ (rw over at whole)

pub within_more : (xs : List Atom) (start n : ℕ) (rest : Text) → start ≤ length xs → rest.atoms.now ≡ drop start xs → IsText rest → n ≤ length rest.codes.now → start + (n + 1) ≤ length xs + 1
within_more xs start n rest le is same within =
    let len : length rest.codes.now ≡ length xs - start = rw (same, is, length-map (drop start xs) atom_code) (length-drop start xs) in
    omega arith

pub ruleset label_steps = (label_again, label_first)
