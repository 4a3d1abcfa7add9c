-- Each round adds an item that isn't there, and there are 99 of them.
use Rattle.std.proofs.Common.{◌≡◌, ◌⊎◌, inl, inr, ℕ, ◌-◌, ◌||◌, ◌<◌, ◌≤◌, ◌==◌, List, [], ◌∷◌, ◌++◌, length, map, Bool, true, false, Option, None, Some, slice_get, refl, sym, ap, subst, ◌∙◌, arith, if◌then◌else◌}
use Rattle.std.specs.List.{list_any, IsDistinct}
use Rattle.std.proofs.Math.Dec.{eqb}
use Rattle.std.proofs.lemmas.Bool.{and_parts, eqb-true, eq-eqb, both_ways, ne_eqb}
use Rattle.std.proofs.lemmas.List.{map-append, length-map, length-append}
use Rattle.std.proofs.lemmas.List.Folds.{list_any-append}
use Rattle.std.proofs.lemmas.Map.Keys.{IsDistinct-push}
use Rattle.std.proofs.lemmas.Map.Steps.{length-le_from_distinct_below}
use Rattle.std.proofs.lemmas.Option.{slice_get_within}
use Rattle.std.specs.Cmp.{IsEquivalence}
use Rattle.asm_core.specs.Reg.{reg_number}
use Rattle.asm_core.specs.WellFormed.{IsInterface}
use Rattle.asm_core.specs.declared.reg.Reg.{Reg}
use Rattle.asm_core.specs.declared.reg.Reg.TheVariants.{Eax, Ebx, Ecx, Edx, Esi, Edi, Ebp}
use Rattle.asm_core.specs.declared.finding.Rule.{Rule}
use Rattle.asm_core.specs.declared.finding.Cell.{Cell}
use Rattle.asm_core.specs.declared.finding.Finding.{Finding}
use Rattle.asm_core.specs.declared.statement.Part.{Part}
use Rattle.asm_core.specs.declared.statement.Parts.{Parts}
use Rattle.asm_core.specs.declared.statement.Body.{Body}
use Rattle.asm_core.specs.declared.statement.Statement.{Statement}
use Rattle.asm_core.specs.declared.interface.OperandIface.{OperandIface}
use Rattle.asm_core.specs.declared.interface.Interface.{Interface}
use Rattle.blk_check.specs.Judged.{IsInterfaceOf}
use Rattle.blk_check.specs.declared.verdict.Verdict.{Verdict}
use Rattle.blk_patch.specs.Items.{item_number, has, with_items}
use Rattle.blk_patch.specs.Suggested.{clobber_of, output_in, early_of, or_item, overwriter_item, written_in, may_be_read, plus_of, may_lose_high, byte_in, byte_of, item_by, item_of}
use Rattle.blk_patch.specs.Rounds.{unless_there, new_item, first_new, if_clobber, first_clobber, preferred, next_item, is_without_room, next_by, IsReached}
use Rattle.blk_patch.specs.declared.item.Item.{Item}
use Rattle.blk_patch.proofs.WithLaws.{with_long}

-- ---- options

module _ {A : Type 0} where
  pub some_is : (x y : A) → Some x ≡ Some y → x ≡ y
  some_is x y e = cc

  pub if_some : (b : Bool) (y x : A) → (if b then Some y else None) ≡ Some x → (b ≡ true) × (y ≡ x)
  if_some true y x e = (refl, some_is y x e)
  if_some false y x e = cc

pub either : (a b : Option Item) (x : Item) → or_item a b ≡ Some x → (a ≡ Some x) ⊎ (b ≡ Some x)
either None b x e = inr e
either (Some y) b x e = inl e

-- ---- the numbers of items

pub register_few : (r : Reg) → reg_number r < 7
register_few Eax = omega arith
register_few Ebx = omega arith
register_few Ecx = omega arith
register_few Edx = omega arith
register_few Esi = omega arith
register_few Edi = omega arith
register_few Ebp = omega arith

abbrev pub IsBelow : Item → Type 0
IsBelow x = item_number x < 99

register_below : (r : Reg) → IsBelow (Item.Clobber r)
register_below r = let few = register_few r in omega (arith, few)

clobber_below : (cell : Cell) (x : Item) → clobber_of cell ≡ Some x → IsBelow x
clobber_below (Cell.Reg r) x e = subst IsBelow (some_is (Item.Clobber r) x e) (register_below r)
clobber_below (Cell.Flag f) x e = cc
clobber_below (Cell.Operand k) x e = cc
clobber_below Cell.Memory x e = cc
clobber_below Cell.Cc x e = cc
clobber_below Cell.Nothing x e = cc

output_there : (found : Option OperandIface) → output_in found ≡ true → (o : OperandIface) × (found ≡ Some o)
output_there None e = cc
output_there (Some o) e = (o, refl)

written_there : (found : Option OperandIface) → written_in found ≡ true → (o : OperandIface) × (found ≡ Some o)
written_there None e = cc
written_there (Some o) e = (o, refl)

part_there : (found : Option Part) → may_lose_high found ≡ true → (p : Part) × (found ≡ Some p)
part_there None e = cc
part_there (Some p) e = (p, refl)

module _ (w : Interface) (few : length w.operands ≤ 30) where
  operand_few : (k : ℕ) (o : OperandIface) → slice_get w.operands k ≡ Some o → k < 30
  operand_few k o e = let within = slice_get_within w.operands k o e in let f = few in omega (arith, within, f)

  early_below : (cell : Cell) (x : Item) → early_of w cell ≡ Some x → IsBelow x
  early_below (Cell.Operand k) x e =
      let is = if_some (output_in (slice_get w.operands k)) (Item.Early k) x e in
      let there = output_there (slice_get w.operands k) is.0 in
      let lt = operand_few k there.0 there.1 in
      subst IsBelow is.1 (omega (arith, lt))
  early_below (Cell.Reg r) x e = cc
  early_below (Cell.Flag f) x e = cc
  early_below Cell.Memory x e = cc
  early_below Cell.Cc x e = cc
  early_below Cell.Nothing x e = cc

  plus_below : (cell : Cell) (x : Item) → plus_of w cell ≡ Some x → IsBelow x
  plus_below (Cell.Operand k) x e =
      let is = if_some (may_be_read w k) (Item.Plus k) x e in
      let there = written_there (slice_get w.operands k) (and_parts (written_in (slice_get w.operands k)) _ is.0).0 in
      let lt = operand_few k there.0 there.1 in
      subst IsBelow is.1 (omega (arith, lt))
  plus_below (Cell.Reg r) x e = cc
  plus_below (Cell.Flag f) x e = cc
  plus_below Cell.Memory x e = cc
  plus_below Cell.Cc x e = cc
  plus_below Cell.Nothing x e = cc

  overwriter_below : (d u : Cell) (x : Item) → overwriter_item w d u ≡ Some x → IsBelow x
  overwriter_below d u x e = elim (either (or_item (clobber_of d) (clobber_of u)) (early_of w d) x e) [
    | inl clobber ↦ elim
        (either (clobber_of d) (clobber_of u) x clobber) [ inl a ↦ clobber_below d x a | inr b ↦ clobber_below u x b ]
    | inr early ↦ early_below d x early
  ]

-- the operands of a statement's parts are at most 30
abbrev HasFew : Body → Type 0
HasFew body = (parts : Parts) → body ≡ Body.Parts parts → length (parts.outputs ++ parts.inputs) ≤ 30

byte_below_in : (body : Body) → HasFew body → (k : ℕ) (x : Item) → byte_in body k ≡ Some x → IsBelow x
byte_below_in (Body.Parts parts) few k x e =
    let is = if_some (may_lose_high (slice_get (parts.outputs ++ parts.inputs) k)) (Item.Byte k) x e in
    let there = part_there (slice_get (parts.outputs ++ parts.inputs) k) is.0 in
    let within = slice_get_within (parts.outputs ++ parts.inputs) k there.0 there.1 in
    let f = few parts refl in
    subst IsBelow is.1 (omega (arith, within, f))
byte_below_in (Body.Outside mark) few k x e = cc

byte_below : (body : Body) → HasFew body → (cell : Cell) (x : Item) → byte_of body cell ≡ Some x → IsBelow x
byte_below body few (Cell.Operand k) x e = byte_below_in body few k x e
byte_below body few (Cell.Reg r) x e = cc
byte_below body few (Cell.Flag f) x e = cc
byte_below body few Cell.Memory x e = cc
byte_below body few Cell.Cc x e = cc
byte_below body few Cell.Nothing x e = cc

module _ (body : Body) (few : HasFew body) (w : Interface) (small : length w.operands ≤ 30) where
  by_below : (rule : Rule) (cell other : Cell) (x : Item) → item_by body w rule cell other ≡ Some x → IsBelow x
  by_below Rule.W1 cell other x e = clobber_below cell x e
  by_below Rule.W2 cell other x e = cc
  by_below Rule.W3 cell other x e = subst IsBelow (some_is Item.Cc x e) (omega arith)
  by_below Rule.W4 cell other x e = cc
  by_below Rule.M1 cell other x e = subst IsBelow (some_is Item.Memory x e) (omega arith)
  by_below Rule.M2 cell other x e = cc
  by_below Rule.R1 cell other x e = cc
  by_below Rule.R2 cell other x e = plus_below w small cell x e
  by_below Rule.R3 cell other x e = cc
  by_below Rule.U1 cell other x e = cc
  by_below Rule.U2 cell other x e = byte_below body few cell x e
  by_below Rule.U3 cell other x e = overwriter_below w small cell other x e
  by_below Rule.U4 cell other x e = cc
  by_below Rule.S1 cell other x e = cc
  by_below Rule.S2 cell other x e = cc
  by_below Rule.S3 cell other x e = cc
  by_below Rule.J1 cell other x e = cc
  by_below Rule.K1 cell other x e = cc
  by_below Rule.K2 cell other x e = cc

  item_below : (f : Finding) (x : Item) → item_of body w f ≡ Some x → IsBelow x
  unfolding item_of
  item_below f x e = by_below f.rule f.cell f.other x e

-- ---- new items

-- the item of some finding, which isn't there yet
pub record IsNew (body : Body) (w : Interface) (items : List Item) (x : Item) : Type 0 where
  pub finding : Finding
  pub is_its : item_of body w finding ≡ Some x
  pub fresh : has items x ≡ false
  pub below : IsBelow x

unless_new : (items : List Item) (o : Option Item) (x : Item) → unless_there items o ≡ Some x
    → (o ≡ Some x) × (has items x ≡ false)
unless_new items None x e = cc
unless_new items (Some y) x e = by (has items y) refl
  where
    by : (b : Bool) → has items y ≡ b → (Some y ≡ Some x) × (has items x ≡ false)
    by true h = let none : None ≡ Some x = rw h at e in cc
    by false h = let same : Some y ≡ Some x = rw h at e in (same, subst (λ z. has items z ≡ false) (some_is y x same) h)

only_clobbers : (o : Option Item) (x : Item) → if_clobber o ≡ Some x → o ≡ Some x
only_clobbers None x e = cc
only_clobbers (Some (Item.Clobber r)) x e = e
only_clobbers (Some Item.Memory) x e = cc
only_clobbers (Some Item.Cc) x e = cc
only_clobbers (Some (Item.Early k)) x e = cc
only_clobbers (Some (Item.Plus k)) x e = cc
only_clobbers (Some (Item.Byte k)) x e = cc

one_of_both : (a c : Option Item) (x : Item) → preferred a c ≡ Some x → (a ≡ Some x) ⊎ (c ≡ Some x)
one_of_both None c x e = inl e
one_of_both (Some (Item.Clobber r)) c x e = inl e
one_of_both (Some Item.Memory) c x e = inl e
one_of_both (Some Item.Cc) c x e = inl e
one_of_both (Some (Item.Early k)) c x e = elim (either c (Some (Item.Early k)) x e) [ inl a ↦ inr a | inr b ↦ inl b ]
one_of_both (Some (Item.Plus k)) c x e = inl e
one_of_both (Some (Item.Byte k)) c x e = inl e

module _ (body : Body) (few : HasFew body) (w : Interface) (small : length w.operands ≤ 30) (items : List Item) where
  new_is : (f : Finding) (x : Item) → new_item body w items f ≡ Some x → IsNew body w items x
  new_is f x e =
      let is = unless_new items (item_of body w f) x e in
      record { finding = f; is_its = is.0; fresh = is.1; below = item_below body few w small f x is.0 }

  first_is : (fs : List Finding) (x : Item) → first_new body w items fs ≡ Some x → IsNew body w items x
  unfolding first_new
  first_is [] x e = cc
  first_is (f ∷ fs) x e = elim (either (new_item body w items f)
      (first_new body w items fs) x e) [ inl a ↦ new_is f x a | inr b ↦ first_is fs x b ]

  clobber_is : (fs : List Finding) (x : Item) → first_clobber body w items fs ≡ Some x → IsNew body w items x
  unfolding first_clobber
  clobber_is [] x e = cc
  clobber_is (f ∷ fs) x e = elim (either (if_clobber (new_item body w items f)) (first_clobber body w items fs) x e) [
    | inl a ↦ new_is f x (only_clobbers (new_item body w items f) x a)
    | inr b ↦ clobber_is fs x b
  ]

  next_is : (fs : List Finding) (x : Item) → next_item body w items fs ≡ Some x → IsNew body w items x
  next_is fs x e = elim (one_of_both (first_new body w items fs)
      (first_clobber body w items fs) x e) [ inl a ↦ first_is fs x a | inr b ↦ clobber_is fs x b ]

  unless_full : (b : Bool) (o : Option Item) (x : Item) → (if b then None else o) ≡ Some x → o ≡ Some x
  unless_full true o x e = cc
  unless_full false o x e = e

  round_is : (v : Verdict) (x : Item) → next_by body w items v ≡ Some x → IsNew body w items x
  round_is (Verdict.Ok proof) x e = cc
  round_is (Verdict.Broken fs) x e = next_is fs x (unless_full (is_without_room items fs)
      (next_item body w items fs) x e)
  round_is (Verdict.Outside mark) x e = cc

-- ---- all of them

numbers_equal : IsEquivalence eqb
numbers_equal = record {
  refl = λ x. eq-eqb x x refl;
  symm = λ x y. symmetric x y (eqb x y) refl;
  congr = λ x y z e. ap (λ m. eqb m z) (eqb-true x y e);
}
  where
    symmetric : (x y : ℕ) (b : Bool) → eqb x y ≡ b → eqb x y ≡ eqb y x
    symmetric x y true e = e ∙ sym (eq-eqb y x (sym (eqb-true x y e)))
    symmetric x y false e = e ∙ sym (ne_eqb y x (λ same. both_ways (eqb x y) e (eq-eqb x y (sym same))))

abbrev numbers : List Item → List ℕ
numbers items = map item_number items

has_number : (items : List Item) (n : ℕ) → list_any (eqb n) (numbers items) ≡ list_any (λ y. n == item_number y) items
has_number [] n = refl
has_number (y ∷ items) n = rw (has_number items n) refl

is_there : (items : List Item) (x : Item) → list_any (eqb (item_number x)) (numbers items) ≡ has items x
unfolding has
is_there items x = has_number items (item_number x)

record AreNumbered (items : List Item) : Type 0 where
  distinct : IsDistinct eqb (numbers items)
  below : (q : ℕ) → list_any (eqb q) (numbers items) ≡ true → q < 99

none_distinct : IsDistinct eqb []
unfolding IsDistinct
none_distinct = tt

one_below : (q n : ℕ) → n < 99 → list_any (eqb q) (n ∷ []) ≡ true → q < 99
one_below q n lt e = by (eqb q n) refl
  where
    by : (b : Bool) → eqb q n ≡ b → q < 99
    by true h = let same = eqb-true q n h in omega (arith, same, lt)
    by false h = let wrong : false ≡ true = rw h at e in cc

one_more : (items : List Item) (x : Item) → AreNumbered items → has items x ≡ false → IsBelow x
    → AreNumbered (items ++ x ∷ [])
one_more items x are fresh low =
    let whole : numbers (items ++ x ∷ []) ≡ numbers items ++ item_number x ∷ [] = map-append item_number items
    (x ∷ []) in
    record {
      distinct = subst (IsDistinct eqb) (sym whole) (IsDistinct-push numbers_equal (numbers items)
          (item_number x) are.distinct (is_there items x ∙ fresh));
      below = λ q e. parts q (list_any (eqb q) (numbers items)) refl
          (sym (list_any-append (eqb q) (numbers items) (item_number x ∷ [])) ∙ sym (ap (list_any (eqb q)) whole) ∙ e);
    }
  where
    parts : (q : ℕ) (b : Bool) → list_any (eqb q) (numbers items) ≡ b
        → (list_any (eqb q) (numbers items) || list_any (eqb q) (item_number x ∷ [])) ≡ true → q < 99
    parts q true h e = are.below q h
    parts q false h e = one_below q (item_number x) low (rw h at e)

module _ (s : Statement) (i : Interface) (is : IsInterface i) (stated : IsInterfaceOf i s) where
  parts_few : HasFew s.body
  parts_few parts e =
      let same : stated.parts ≡ parts = parts_same stated.parts parts (sym stated.has_parts ∙ e) in
      let count = stated.count in
      let few = is.few in
      subst (λ (p : Parts). length (p.outputs ++ p.inputs) ≤ 30) same (omega (arith, count, few))
    where
      parts_same : (a b : Parts) → Body.Parts a ≡ Body.Parts b → a ≡ b
      parts_same a b e = cc

  -- the items that are added are findings' items
  pub added_new : (before : List Item) (v : Verdict) (x : Item) → next_by s.body (with_items before i) before v ≡ Some x
      → IsNew s.body (with_items before i) before x
  added_new before v x next =
      round_is s.body parts_few (with_items before i)
      (subst (λ n. n ≤ 30) (sym (with_long before i)) is.few) before v x next

  numbered : (items : List Item) → IsReached s i items → AreNumbered items
  numbered items IsReached.begins = record { distinct = none_distinct; below = λ q e. cc }
  numbered items (IsReached.adds before v x reached verdict next) =
      let new = added_new before v x next in
      one_more before x (numbered before reached) new.fresh new.below

  pub reached_few : (items : List Item) → IsReached s i items → length items ≤ 99
  reached_few items reached =
      let are = numbered items reached in
      subst (λ n. n ≤ 99) (length-map items item_number) (length-le_from_distinct_below
      (numbers items) 99 are.distinct are.below)

  -- with one item more there are fewer left
  pub fewer_left : (items : List Item) (x : Item) → IsReached s i (items ++ x ∷ [])
      → 99 - length (items ++ x ∷ []) < 99 - length items
  fewer_left items x reached =
      let few = reached_few (items ++ x ∷ []) reached in
      let long = length-append items (x ∷ []) in
      omega (arith, few, long)

  -- no item is added twice
  pub reached_distinct : (items : List Item) → IsReached s i items → IsDistinct eqb (numbers items)
  reached_distinct items reached = (numbered items reached).distinct
