-- The cut looks at codes alone: it commutes with every map that keeps them.
use Rattle.std.proofs.Common.{◌≡◌, ℕ, zero, suc, ◌+◌, ◌==◌, ◌&&◌, List, [], ◌∷◌, ◌++◌, length, map, take, drop, Bool, true, false, cond, Option, None, Some, refl, ap, sym, slice_index}
use Rattle.std.proofs.lemmas.List.{drop-map, length-map, map-append}
use Rattle.std.specs.List.{slice_split, onto_first, flat_map, list_any}
use Rattle.asm_core.specs.Reading.Cut.{ends_statement, begun, word_len, is_label, is_unique_label, same_name, prefix_named, Item, item_at, items_from, items_of, Raw, Waiting, none_waits, raws_from, raws_of, first_or, labels_from, instruction_count}
use Rattle.asm_core.specs.declared.names.Prefix.{Prefix}

-- a choice between two results commutes with a map
pub if-map : {A B : Type 0} (f : A → B) (b : Bool) (x y : A) → cond b (f x) (f y) ≡ f (cond b x y)
if-map f true x y = refl
if-map f false x y = refl

pub record KeepsCodes {X Y : Type 0} (code : X → ℕ) (code' : Y → ℕ) (f : X → Y) : Type 0 where
  pub each : (x : X) → code' (f x) ≡ code x

abbrev pub item_map : {X Y : Type 0} → (X → Y) → Item X → Item Y
item_map f (Item.Labelled name from) = Item.Labelled name (map f from)
item_map f (Item.Prefixed p from) = Item.Prefixed p (map f from)
item_map f (Item.Body from) = Item.Body (map f from)

abbrev pub raw_map : {X Y : Type 0} → (X → Y) → Raw X → Raw Y
raw_map f (Raw.Named name) = Raw.Named name
raw_map f (Raw.Dead from) = Raw.Dead (map f from)
raw_map f (Raw.Live before from body) = Raw.Live before (map f from) (map f body)

abbrev pub waiting_map : {X Y : Type 0} → (X → Y) → Waiting X → Waiting Y
waiting_map f w = record { prefixes = w.prefixes; froms = map (map f) w.froms }

module _ {X Y : Type 0} (code : X → ℕ) (code' : Y → ℕ) (f : X → Y) (keeps : KeepsCodes code code' f) where
  pub codes-kept : (xs : List X) → map code' (map f xs) ≡ map code xs
  codes-kept [] = refl
  codes-kept (x ∷ xs) = rw (keeps.each x, codes-kept xs) refl

  pub begun-kept : (xs : List X) → begun code' (map f xs) ≡ map f (begun code xs)
  unfolding begun
  begun-kept xs = rw (codes-kept xs, drop-map f _ xs) refl

  item-kept : (next : Bool → List X → List (Item X)) (next' : Bool → List Y → List (Item Y)) → ((b : Bool) (xs : List X) → next' b (map f xs) ≡ map (item_map f) (next b xs))
      → (xs : List X) (o : Option Prefix) (n : ℕ)
      → elim o as (λ _. List (Item Y)) [ Some p ↦ Item.Prefixed p (map f xs) ∷ next' false (drop n (map f xs)) | None ↦ Item.Body (map f xs) ∷ [] ]
      ≡ map (item_map f) (elim o as (λ _. List (Item X)) [ Some p ↦ Item.Prefixed p xs ∷ next false (drop n xs) | None ↦ Item.Body xs ∷ [] ])
  item-kept next next' same xs None n = refl
  item-kept next next' same xs (Some p) n = rw (drop-map f n xs, same false (drop n xs)) refl

  item_at-kept : (labels : Bool) (next : Bool → List X → List (Item X)) (next' : Bool → List Y → List (Item Y))
      → ((b : Bool) (xs : List X) → next' b (map f xs) ≡ map (item_map f) (next b xs)) → (xs : List X) (n : ℕ)
      → item_at code' labels next' (map f xs) n ≡ map (item_map f) (item_at code labels next xs n)
  unfolding item_at
  item_at-kept labels next next' same xs n =
      rw (
        codes-kept xs,
        length-map,
        drop-map f (n + 1) xs,
        same true (drop (n + 1) xs),
        item-kept next next' same xs (prefix_named (take n (map code xs))) n,
        if-map (map (item_map f)) (labels && (is_label (take n (map code xs)) && (slice_index (map code xs) n == 58))) (Item.Labelled (take n (map code xs)) xs ∷ next true (drop (n + 1) xs)) _,
      )
      (if-map (map (item_map f)) (length xs == 0) [] _)

  items_from-kept : (left : ℕ) (labels : Bool) (xs : List X) → items_from code' left labels (map f xs) ≡ map (item_map f) (items_from code left labels xs)
  unfolding items_from
  items_from-kept zero labels xs = refl
  items_from-kept (suc left) labels xs =
      rw (begun-kept xs, codes-kept (begun code xs)) (item_at-kept labels (items_from code left) (items_from code' left) (items_from-kept left) (begun code xs) (word_len (map code (begun code xs))))

  items_of-kept : (xs : List X) → items_of code' (map f xs) ≡ map (item_map f) (items_of code xs)
  items_of-kept xs = rw (length-map) (items_from-kept (length xs + 1) true xs)

  onto_first-kept : (x : X) (parts : List (List X)) → onto_first (f x) (map (map f) parts) ≡ map (map f) (onto_first x parts)
  onto_first-kept x [] = refl
  onto_first-kept x (p ∷ ps) = refl

  slice_split-kept : (xs : List X) → slice_split (λ y. ends_statement (code' y)) (map f xs) ≡ map (map f) (slice_split (λ x. ends_statement (code x)) xs)
  slice_split-kept [] = refl
  slice_split-kept (x ∷ xs) =
      rw (keeps.each x, slice_split-kept xs, onto_first-kept x (slice_split (λ z. ends_statement (code z)) xs))
      (if-map (map (map f)) (ends_statement (code x)) ([] ∷ slice_split (λ z. ends_statement (code z)) xs) (onto_first x (slice_split (λ z. ends_statement (code z)) xs)))

  flat_items-kept : (parts : List (List X)) → flat_map (items_of code') (map (map f) parts) ≡ map (item_map f) (flat_map (items_of code) parts)
  flat_items-kept [] = refl
  flat_items-kept (p ∷ ps) = rw (items_of-kept p, flat_items-kept ps, map-append (item_map f) (items_of code p) (flat_map (items_of code) ps)) refl

  dead-kept : (froms : List (List X)) → map Raw.Dead (map (map f) froms) ≡ map (raw_map f) (map Raw.Dead froms)
  dead-kept [] = refl
  dead-kept (x ∷ xs) = rw (dead-kept xs) refl

  first_or-kept : (froms : List (List X)) (d : List X) → first_or (map (map f) froms) (map f d) ≡ map f (first_or froms d)
  first_or-kept [] d = refl
  first_or-kept (x ∷ xs) d = refl

  raws_from-kept : (w : Waiting X) (seen : List (List ℕ)) (items : List (Item X)) → raws_from (waiting_map f w) seen (map (item_map f) items) ≡ map (raw_map f) (raws_from w seen items)
  unfolding raws_from
  raws_from-kept w seen [] = dead-kept w.froms
  raws_from-kept w seen (Item.Labelled name from ∷ items) =
      rw (
        dead-kept w.froms,
        raws_from-kept none_waits seen items,
        raws_from-kept none_waits (name ∷ seen) items,
        if-map (map (raw_map f)) (is_unique_label name && list_any (same_name name) seen) (Raw.Dead from ∷ raws_from none_waits seen items) (Raw.Named name ∷ raws_from none_waits (name ∷ seen) items),
      )
      (sym (map-append (raw_map f) (map Raw.Dead w.froms) _))
  raws_from-kept w seen (Item.Prefixed p from ∷ items) =
      rw (← map-append (map f) w.froms (from ∷ [])) (raws_from-kept (record { prefixes = w.prefixes ++ p ∷ []; froms = w.froms ++ from ∷ [] }) seen items)
  raws_from-kept w seen (Item.Body body ∷ items) = rw (first_or-kept w.froms body, raws_from-kept none_waits seen items) refl

  pub raws_of-kept : (xs : List X) → raws_of code' (map f xs) ≡ map (raw_map f) (raws_of code xs)
  unfolding raws_of
  raws_of-kept xs = rw (slice_split-kept xs, flat_items-kept (slice_split (λ x. ends_statement (code x)) xs)) (raws_from-kept none_waits [] _)

pub labels_from-kept : {X Y : Type 0} (f : X → Y) (n : ℕ) (raws : List (Raw X)) → labels_from n (map (raw_map f) raws) ≡ labels_from n raws
labels_from-kept f n [] = refl
labels_from-kept f n (Raw.Named name ∷ raws) = rw (labels_from-kept f n raws) refl
labels_from-kept f n (Raw.Dead from ∷ raws) = labels_from-kept f (n + 1) raws
labels_from-kept f n (Raw.Live before from body ∷ raws) = labels_from-kept f (n + 1) raws

pub instruction_count-kept : {X Y : Type 0} (f : X → Y) (raws : List (Raw X)) → instruction_count (map (raw_map f) raws) ≡ instruction_count raws
instruction_count-kept f [] = refl
instruction_count-kept f (Raw.Named name ∷ raws) = instruction_count-kept f raws
instruction_count-kept f (Raw.Dead from ∷ raws) = ap (λ n. 1 + n) (instruction_count-kept f raws)
instruction_count-kept f (Raw.Live before from body ∷ raws) = ap (λ n. 1 + n) (instruction_count-kept f raws)
