-- What stands apart in a template stands apart in the body of each of its instructions.
use Rattle.std.proofs.Common.{◌≡◌, ℕ, zero, suc, ◌+◌, ◌==◌, ◌&&◌, nat_lt, not, List, [], ◌∷◌, ◌++◌, length, map, take, drop, Bool, true, false, cond, Option, None, Some, refl, slice_index, slice_get}
use Rattle.std.proofs.lemmas.List.{drop-map}
use Rattle.std.specs.List.{slice_split, onto_first, flat_map, list_any}
use Rattle.asm_core.specs.Reading.Cut.{ends_statement, begun, word_len, is_label, is_unique_label, same_name, prefix_named, Item, item_at, items_from, items_of, Raw, Waiting, none_waits, raws_from, raws_of}
use Rattle.asm_core.specs.Reading.Placed.{is_apart}
use Rattle.asm_core.specs.Reading.UnderShape.{instructions_of}
use Rattle.asm_core.specs.declared.names.Prefix.{Prefix}

both_true : (a b : Bool) → (a && b) ≡ true → b ≡ true
both_true true b h = h
both_true false b h = cc

first_true : (a b : Bool) → (a && b) ≡ true → a ≡ true
first_true true b h = refl
first_true false b h = cc

and_of : (a b : Bool) → a ≡ true → b ≡ true → (a && b) ≡ true
and_of a b ha hb = rw (ha, hb) refl

-- one alone stands apart
alone : (c : ℕ) → is_apart (c ∷ []) ≡ true
alone c = by (nat_lt c 2)
  where
    by : (b : Bool) → (not (b && false) && true) ≡ true
    by true = refl
    by false = refl

apart_drop : (n : ℕ) (cs : List ℕ) → is_apart cs ≡ true → is_apart (drop n cs) ≡ true
apart_drop zero cs h = h
apart_drop (suc n) [] h = refl
apart_drop (suc n) (c ∷ cs) h = apart_drop n cs (both_true _ (is_apart cs) h)

-- it holds of each, one by one
abbrev Each : {A : Type 0} → (A → Type 0) → List A → Type 0
Each P [] = Unit {0}
Each P (x ∷ xs) = P x × Each P xs

each-append : {A : Type 0} (P : A → Type 0) (xs ys : List A) → Each P xs → Each P ys → Each P (xs ++ ys)
each-append P [] ys hx hy = hy
each-append P (x ∷ xs) ys hx hy = (hx.0, each-append P xs ys hx.1 hy)

module _ {X : Type 0} (code : X → ℕ) where
  abbrev IsApart : List X → Type 0
  IsApart xs = is_apart (map code xs) ≡ true

  drop_apart : (n : ℕ) (xs : List X) → IsApart xs → IsApart (drop n xs)
  drop_apart n xs h = rw (← drop-map code n xs) (apart_drop n (map code xs) h)

  onto_parts : (x y : X) (parts : List (List X)) → nat_lt (code x) 2 && nat_lt (code y) 2 ≡ false → Each IsApart (onto_first y parts) → Each IsApart (onto_first x (onto_first y parts))
  onto_parts x y [] h all = (and_of (not (nat_lt (code x) 2 && nat_lt (code y) 2)) (is_apart (code y ∷ [])) (rw h refl) (alone (code y)), tt)
  onto_parts x y (part ∷ parts) h all = (and_of (not (nat_lt (code x) 2 && nat_lt (code y) 2)) (is_apart (map code (y ∷ part))) (rw h refl) all.0, all.1)

  not_false : (b : Bool) → not b ≡ true → b ≡ false
  not_false true h = cc
  not_false false h = refl

  onto_apart : (x : X) (xs : List X) → IsApart (x ∷ xs) → Each IsApart (slice_split (λ z. ends_statement (code z)) xs) → Each IsApart (onto_first x (slice_split (λ z. ends_statement (code z)) xs))
  onto_apart x [] h all = (h, tt)
  onto_apart x (y ∷ ys) h all = by (ends_statement (code y)) all
    where
      parts : List (List X)
      parts = slice_split (λ z. ends_statement (code z)) ys

      by : (b : Bool) → Each IsApart (cond b ([] ∷ parts) (onto_first y parts)) → Each IsApart (onto_first x (cond b ([] ∷ parts) (onto_first y parts)))
      by true all = (alone (code x), all.1)
      by false all = onto_parts x y parts (not_false (nat_lt (code x) 2 && nat_lt (code y) 2) (first_true _ (is_apart (map code (y ∷ ys))) h)) all

  split_apart : (xs : List X) → IsApart xs → Each IsApart (slice_split (λ z. ends_statement (code z)) xs)
  split_apart [] h = (refl, tt)
  split_apart (x ∷ xs) h = by (ends_statement (code x)) (split_apart xs (both_true _ (is_apart (map code xs)) h))
    where
      parts : List (List X)
      parts = slice_split (λ z. ends_statement (code z)) xs

      by : (b : Bool) → Each IsApart parts → Each IsApart (cond b ([] ∷ parts) (onto_first x parts))
      by true all = (refl, all)
      by false all = onto_apart x xs h all

  abbrev ItemApart : Item X → Type 0
  ItemApart (Item.Labelled name from) = Unit {0}
  ItemApart (Item.Prefixed p from) = Unit {0}
  ItemApart (Item.Body body) = IsApart body

  cond_items : (b : Bool) (xs ys : List (Item X)) → Each ItemApart xs → Each ItemApart ys → Each ItemApart (cond b xs ys)
  cond_items true xs ys hx hy = hx
  cond_items false xs ys hx hy = hy

  by_prefix : (left : ℕ) (xs : List X) (n : ℕ) → IsApart xs → ((b : Bool) (ys : List X) → IsApart ys → Each ItemApart (items_from code left b ys)) → (o : Option Prefix)
      → Each ItemApart (elim o as (λ _. List (Item X)) [ Some p ↦ Item.Prefixed p xs ∷ items_from code left false (drop n xs) | None ↦ Item.Body xs ∷ [] ])
  by_prefix left xs n h more None = (h, tt)
  by_prefix left xs n h more (Some p) = (tt, more false (drop n xs) (drop_apart n xs h))

  at_apart : (left : ℕ) (labels : Bool) (xs : List X) (n : ℕ) → IsApart xs → ((b : Bool) (ys : List X) → IsApart ys → Each ItemApart (items_from code left b ys)) → Each ItemApart (item_at code labels (items_from code left) xs n)
  unfolding item_at
  at_apart left labels xs n h more =
      cond_items (length xs == 0) [] _ tt
      (cond_items (labels && (is_label (take n (map code xs)) && (slice_index (map code xs) n == 58))) _ _ (tt, more true (drop (n + 1) xs) (drop_apart (n + 1) xs h))
      (by_prefix left xs n h more (prefix_named (take n (map code xs)))))

  begun_apart : (xs : List X) → IsApart xs → IsApart (begun code xs)
  unfolding begun
  begun_apart xs h = drop_apart _ xs h

  items_apart : (left : ℕ) (labels : Bool) (xs : List X) → IsApart xs → Each ItemApart (items_from code left labels xs)
  unfolding items_from
  items_apart zero labels xs h = tt
  items_apart (suc left) labels xs h = at_apart left labels (begun code xs) (word_len (map code (begun code xs))) (begun_apart xs h) (items_apart left)

  flat_apart : (parts : List (List X)) → Each IsApart parts → Each ItemApart (flat_map (items_of code) parts)
  flat_apart [] all = tt
  flat_apart (part ∷ parts) all = each-append ItemApart (items_of code part) (flat_map (items_of code) parts) (items_apart (length part + 1) true part all.0) (flat_apart parts all.1)

  abbrev RawApart : Raw X → Type 0
  RawApart (Raw.Named name) = Unit {0}
  RawApart (Raw.Dead from) = Unit {0}
  RawApart (Raw.Live before from body) = IsApart body

  dead_apart : (froms : List (List X)) → Each RawApart (map Raw.Dead froms)
  dead_apart [] = tt
  dead_apart (x ∷ xs) = (tt, dead_apart xs)

  cond_raws : (b : Bool) (xs ys : List (Raw X)) → Each RawApart xs → Each RawApart ys → Each RawApart (cond b xs ys)
  cond_raws true xs ys hx hy = hx
  cond_raws false xs ys hx hy = hy

  raws_apart : (w : Waiting X) (seen : List (List ℕ)) (items : List (Item X)) → Each ItemApart items → Each RawApart (raws_from w seen items)
  unfolding raws_from
  raws_apart w seen [] all = dead_apart w.froms
  raws_apart w seen (Item.Labelled name from ∷ items) all =
      each-append RawApart (map Raw.Dead w.froms) _ (dead_apart w.froms)
      (cond_raws (is_unique_label name && list_any (same_name name) seen) _ _ (tt, raws_apart none_waits seen items all.1) (tt, raws_apart none_waits (name ∷ seen) items all.1))
  raws_apart w seen (Item.Prefixed p from ∷ items) all = raws_apart (record { prefixes = w.prefixes ++ p ∷ []; froms = w.froms ++ from ∷ [] }) seen items all.1
  raws_apart w seen (Item.Body body ∷ items) all = (all.0, raws_apart none_waits seen items all.1)

  statements_apart : (xs : List X) → IsApart xs → Each RawApart (raws_of code xs)
  unfolding raws_of
  statements_apart xs h = raws_apart none_waits [] _ (flat_apart _ (split_apart xs h))

  instruction_apart : (raws : List (Raw X)) (n : ℕ) (before : List Prefix) (from body : List X) → Each RawApart raws → slice_get (instructions_of raws) n ≡ Some (Raw.Live before from body) → IsApart body
  instruction_apart [] n before from body all e = cc
  instruction_apart (Raw.Named name ∷ raws) n before from body all e = instruction_apart raws n before from body all.1 e
  instruction_apart (Raw.Dead f ∷ raws) zero before from body all e = cc
  instruction_apart (Raw.Dead f ∷ raws) (suc n) before from body all e = instruction_apart raws n before from body all.1 e
  instruction_apart (Raw.Live b f x ∷ raws) zero before from body all e = let same : x ≡ body = cc in rw (← same) all.0
  instruction_apart (Raw.Live b f x ∷ raws) (suc n) before from body all e = instruction_apart raws n before from body all.1 e

  -- the body of each instruction stands apart
  pub body_apart : (xs : List X) (n : ℕ) (before : List Prefix) (from body : List X) → is_apart (map code xs) ≡ true → slice_get (instructions_of (raws_of code xs)) n ≡ Some (Raw.Live before from body) → is_apart (map code body) ≡ true
  body_apart xs n before from body h e = instruction_apart (raws_of code xs) n before from body (statements_apart xs h) e
