-- The holes in the bodies of instructions are those of the template.
use Rattle.std.proofs.Common.{ℕ, zero, suc, ◌+◌, ◌≤◌, ◌==◌, ◌&&◌, Bool, true, false, cond, List, [], ◌∷◌, ◌++◌, length, map, take, drop, Option, None, Some, All, arith, slice_index}
use Rattle.std.specs.List.{slice_split, onto_first, flat_map}
use Rattle.std.proofs.lemmas.List.Elements.{All-head, All-tail}
use Rattle.asm_core.specs.Comments.{kept}
use Rattle.asm_core.specs.Pieces.{NamesOneOf, piece_code}
use Rattle.asm_core.specs.Reading.Cut.{Item, Raw, Waiting, none_waits, raws_from, raws_of, begun, item_at, items_from, items_of, is_label, is_unique_label, same_name, prefix_named, ends_statement}
use Rattle.std.specs.List.{list_any}
use Rattle.asm_core.specs.Reading.Facts.{atom_of}
use Rattle.asm_core.specs.Reading.Operands.{atom_code}
use Rattle.asm_core.specs.declared.names.Prefix.{Prefix}
use Rattle.asm_core.specs.declared.piece.Piece.{Piece}
use Rattle.asm_core.specs.declared.reading.OperandFacts.{OperandFacts}
use Rattle.asm_core.specs.declared.reading.Atom.{Atom}
use Rattle.att_reader.specs.Named.{HolesBelow, BodiesBelow}

below_more : (p : Piece) (count : ℕ) → count ≤ 32 → NamesOneOf count p → NamesOneOf 32 p
below_more (Piece.Byte b at) count le is = tt
below_more (Piece.Hole k m at) count le is = omega arith
below_more (Piece.Unique at) count le is = tt

pub kept_below : (facts : ℕ → Option OperandFacts) (count : ℕ) (ps : List Piece) (ms : List Bool) → count ≤ 32 → All (NamesOneOf count) ps → HolesBelow 32 (map (atom_of facts) (kept piece_code ps ms))
unfolding kept
kept_below facts count [] ms le all = tt
kept_below facts count (p ∷ ps) [] le all = tt
kept_below facts count (p ∷ ps) (m ∷ ms) le all =
    by (m && cond (piece_code p == 10) false true) (kept_below facts count ps ms le (All-tail (NamesOneOf count) p ps all))
  where
    by : (b : Bool) → HolesBelow 32 (map (atom_of facts) (kept piece_code ps ms)) → HolesBelow 32 (map (atom_of facts) (cond b (kept piece_code ps ms) (p ∷ kept piece_code ps ms)))
    by true rest = rest
    by false rest = (below_more p count le (All-head (NamesOneOf count) p ps all), rest)

module _ (n : ℕ) where
  below_drop : (k : ℕ) (xs : List Atom) → HolesBelow n xs → HolesBelow n (drop k xs)
  below_drop zero xs is = is
  below_drop (suc k) [] is = tt
  below_drop (suc k) (x ∷ xs) is = below_drop k xs is.1

  abbrev PartsBelow : List (List Atom) → Type 0
  PartsBelow [] = Unit {0}
  PartsBelow (xs ∷ parts) = HolesBelow n xs × PartsBelow parts

  onto_below : (x : Atom) (parts : List (List Atom)) → NamesOneOf n x.piece → PartsBelow parts → PartsBelow (onto_first x parts)
  onto_below x [] is all = ((is, tt), tt)
  onto_below x (part ∷ parts) is all = ((is, all.0), all.1)

  split_below : (ends : Atom → Bool) (xs : List Atom) → HolesBelow n xs → PartsBelow (slice_split ends xs)
  split_below ends [] is = (tt, tt)
  split_below ends (x ∷ xs) is = by (ends x) (split_below ends xs is.1)
    where
      by : (b : Bool) → PartsBelow (slice_split ends xs) → PartsBelow (cond b ([] ∷ slice_split ends xs) (onto_first x (slice_split ends xs)))
      by true rest = (tt, rest)
      by false rest = onto_below x (slice_split ends xs) is.0 rest

  abbrev ItemsBelow : List (Item Atom) → Type 0
  ItemsBelow [] = Unit {0}
  ItemsBelow (Item.Labelled name from ∷ items) = ItemsBelow items
  ItemsBelow (Item.Prefixed p from ∷ items) = ItemsBelow items
  ItemsBelow (Item.Body body ∷ items) = HolesBelow n body × ItemsBelow items

  both_below : (xs ys : List (Item Atom)) → ItemsBelow xs → ItemsBelow ys → ItemsBelow (xs ++ ys)
  both_below [] ys a b = b
  both_below (Item.Labelled name from ∷ xs) ys a b = both_below xs ys a b
  both_below (Item.Prefixed p from ∷ xs) ys a b = both_below xs ys a b
  both_below (Item.Body body ∷ xs) ys a b = (a.0, both_below xs ys a.1 b)

  item_below : (labels : Bool) (next : Bool → List Atom → List (Item Atom)) (xs : List Atom) (m : ℕ) → HolesBelow n xs → ((b : Bool) (ys : List Atom) → HolesBelow n ys → ItemsBelow (next b ys))
      → ItemsBelow (item_at atom_code labels next xs m)
  unfolding item_at
  item_below labels next xs m is more =
      by (length xs == 0) (labels && (is_label (take m (map atom_code xs)) && (slice_index (map atom_code xs) m == 58))) (prefix_named (take m (map atom_code xs)))
    where
      by : (e l : Bool) (o : Option Prefix) → ItemsBelow (cond e [] (cond l (Item.Labelled (take m (map atom_code xs)) xs ∷ next true (drop (m + 1) xs))
          (elim o [ Some p ↦ Item.Prefixed p xs ∷ next false (drop m xs) | None ↦ Item.Body xs ∷ [] ])))
      by true l o = tt
      by false true o = more true (drop (m + 1) xs) (below_drop (m + 1) xs is)
      by false false (Some p) = more false (drop m xs) (below_drop m xs is)
      by false false None = (is, tt)

  items_below : (left : ℕ) (labels : Bool) (xs : List Atom) → HolesBelow n xs → ItemsBelow (items_from atom_code left labels xs)
  unfolding items_from begun
  items_below zero labels xs is = tt
  items_below (suc left) labels xs is = item_below labels (items_from atom_code left) (begun atom_code xs) _ (below_drop _ xs is) (λ b ys below. items_below left b ys below)

  all_below : (parts : List (List Atom)) → PartsBelow parts → ItemsBelow (flat_map (items_of atom_code) parts)
  all_below [] is = tt
  all_below (part ∷ parts) is = both_below (items_of atom_code part) (flat_map (items_of atom_code) parts) (items_below (length part + 1) true part is.0) (all_below parts is.1)

  dead_below : (froms : List (List Atom)) (raws : List (Raw Atom)) → BodiesBelow n raws → BodiesBelow n (map Raw.Dead froms ++ raws)
  dead_below [] raws is = is
  dead_below (from ∷ froms) raws is = dead_below froms raws is

  only_dead : (froms : List (List Atom)) → BodiesBelow n (map Raw.Dead froms)
  only_dead [] = tt
  only_dead (from ∷ froms) = only_dead froms

  raws_below : (w : Waiting Atom) (seen : List (List ℕ)) (items : List (Item Atom)) → ItemsBelow items → BodiesBelow n (raws_from w seen items)
  unfolding raws_from
  raws_below w seen [] is = only_dead w.froms
  raws_below w seen (Item.Labelled name from ∷ items) is =
      dead_below w.froms _ (by (is_unique_label name && list_any (same_name name) seen) (raws_below none_waits seen items is) (raws_below none_waits (name ∷ seen) items is))
    where
      by : (b : Bool) → BodiesBelow n (raws_from none_waits seen items) → BodiesBelow n (raws_from none_waits (name ∷ seen) items)
          → BodiesBelow n (cond b (Raw.Dead from ∷ raws_from none_waits seen items) (Raw.Named name ∷ raws_from none_waits (name ∷ seen) items))
      by true dead named = dead
      by false dead named = named
  raws_below w seen (Item.Prefixed p from ∷ items) is = raws_below _ seen items is
  raws_below w seen (Item.Body body ∷ items) is = (is.0, raws_below none_waits seen items is.1)

  pub bodies_below : (xs : List Atom) → HolesBelow n xs → BodiesBelow n (raws_of atom_code xs)
  unfolding raws_of
  bodies_below xs is = raws_below none_waits [] _ (all_below _ (split_below (λ x. ends_statement (atom_code x)) xs is))
