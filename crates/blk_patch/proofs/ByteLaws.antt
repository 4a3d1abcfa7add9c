-- An item that asks for a register with byte names is of an operand whose letters suit it: no letter but `r` allows a
-- register without byte names.
use Rattle.std.proofs.Common.{◌≡◌, inl, inr, ℕ, ◌+◌, ◌*◌, ◌==◌, List, [], ◌∷◌, ◌++◌, true, false, Option, None, Some, slice_get, refl, sym, ap, subst, ◌∙◌, arith}
use Rattle.std.proofs.lemmas.Bool.{eqb-true, not-true, or_cases}
use Rattle.asm_core.specs.WellFormed.{IsInterface}
use Rattle.asm_core.specs.declared.finding.Rule.{Rule}
use Rattle.asm_core.specs.declared.finding.Cell.{Cell}
use Rattle.asm_core.specs.declared.finding.Finding.{Finding}
use Rattle.asm_core.specs.declared.statement.Part.{Part}
use Rattle.asm_core.specs.declared.statement.Body.{Body}
use Rattle.asm_core.specs.declared.statement.Statement.{Statement}
use Rattle.asm_core.specs.declared.interface.Interface.{Interface}
use Rattle.blk_check.specs.Judged.{IsInterfaceOf}
use Rattle.blk_patch.specs.Items.{item_number, has, with_items}
use Rattle.blk_patch.specs.Letters.{HasLetters}
use Rattle.blk_patch.specs.Rounds.{IsReached}
use Rattle.blk_patch.specs.Suggested.{clobber_of, output_in, early_of, or_item, overwriter_item, may_be_read, plus_of, has_high_letter, may_lose_high, byte_in, byte_of, item_by, item_of}
use Rattle.blk_patch.specs.Upward.{LeavesPlaces}
use Rattle.blk_patch.specs.declared.item.Item.{Item}
use Rattle.blk_patch.proofs.ItemSets.{has_first, none_there, joined_parts}
use Rattle.blk_patch.proofs.RoundLaws.{some_is, if_some, either, register_few, IsNew, added_new}

-- ---- numbers

same_operand : (j k : ℕ) → 11 + 3 * j ≡ 11 + 3 * k → j ≡ k
same_operand j k e = omega (arith, e)

byte_of_number : (x : Item) (k : ℕ) → item_number (Item.Byte k) ≡ item_number x → x ≡ Item.Byte k
byte_of_number (Item.Clobber r) k e = let few = register_few r in absurd (omega (arith, few, e))
byte_of_number Item.Memory k e = absurd (omega (arith, e))
byte_of_number Item.Cc k e = absurd (omega (arith, e))
byte_of_number (Item.Early j) k e = absurd (omega (arith, e))
byte_of_number (Item.Plus j) k e = absurd (omega (arith, e))
byte_of_number (Item.Byte j) k e = ap Item.Byte (same_operand j k (sym e))

-- ---- the finding

module _ (k : ℕ) where
  no_clobber : (cell : Cell) → clobber_of cell ≡ Some (Item.Byte k) → ⊥
  no_clobber (Cell.Reg r) e = cc
  no_clobber (Cell.Flag f) e = cc
  no_clobber (Cell.Operand n) e = cc
  no_clobber Cell.Memory e = cc
  no_clobber Cell.Cc e = cc
  no_clobber Cell.Nothing e = cc

  module _ (w : Interface) where
    no_early : (cell : Cell) → early_of w cell ≡ Some (Item.Byte k) → ⊥
    no_early (Cell.Operand n) e =
        let is = if_some (output_in (slice_get w.operands n)) (Item.Early n) (Item.Byte k) e in
        let wrong : Item.Early n ≡ Item.Byte k = is.1 in
        cc
    no_early (Cell.Reg r) e = cc
    no_early (Cell.Flag f) e = cc
    no_early Cell.Memory e = cc
    no_early Cell.Cc e = cc
    no_early Cell.Nothing e = cc

    no_plus : (cell : Cell) → plus_of w cell ≡ Some (Item.Byte k) → ⊥
    no_plus (Cell.Operand n) e =
        let is = if_some (may_be_read w n) (Item.Plus n) (Item.Byte k) e in
        let wrong : Item.Plus n ≡ Item.Byte k = is.1 in
        cc
    no_plus (Cell.Reg r) e = cc
    no_plus (Cell.Flag f) e = cc
    no_plus Cell.Memory e = cc
    no_plus Cell.Cc e = cc
    no_plus Cell.Nothing e = cc

    no_overwriter : (d u : Cell) → overwriter_item w d u ≡ Some (Item.Byte k) → ⊥
    no_overwriter d u e = elim (either (or_item (clobber_of d) (clobber_of u)) (early_of w d) (Item.Byte k) e) [
      | inl clobber ↦ elim (either (clobber_of d) (clobber_of u) (Item.Byte k) clobber) [
        | inl a ↦ no_clobber d a
        | inr b ↦ no_clobber u b
      ]
      | inr early ↦ no_early d early
    ]

  byte_in_body : (body : Body) (n : ℕ) → byte_in body n ≡ Some (Item.Byte k) → byte_in body k ≡ Some (Item.Byte k)
  byte_in_body (Body.Parts parts) n e =
      let is = if_some (may_lose_high (slice_get (parts.outputs ++ parts.inputs) n)) (Item.Byte n) (Item.Byte k) e in
      let same : n ≡ k = bytes_same n k is.1 in
      subst (λ m. byte_in (Body.Parts parts) m ≡ Some (Item.Byte k)) same e
    where
      bytes_same : (a b : ℕ) → Item.Byte a ≡ Item.Byte b → a ≡ b
      bytes_same a b e = cc
  byte_in_body (Body.Outside mark) n e = cc

  byte_of_cell : (body : Body) (cell : Cell) → byte_of body cell ≡ Some (Item.Byte k)
      → byte_in body k ≡ Some (Item.Byte k)
  byte_of_cell body (Cell.Operand n) e = byte_in_body body n e
  byte_of_cell body (Cell.Reg r) e = cc
  byte_of_cell body (Cell.Flag f) e = cc
  byte_of_cell body Cell.Memory e = cc
  byte_of_cell body Cell.Cc e = cc
  byte_of_cell body Cell.Nothing e = cc

  module _ (body : Body) (w : Interface) where
    byte_by : (rule : Rule) (cell other : Cell) → item_by body w rule cell other ≡ Some (Item.Byte k)
        → byte_in body k ≡ Some (Item.Byte k)
    byte_by Rule.W1 cell other e = absurd (no_clobber cell e)
    byte_by Rule.W2 cell other e = cc
    byte_by Rule.W3 cell other e = let wrong = some_is Item.Cc (Item.Byte k) e in cc
    byte_by Rule.W4 cell other e = cc
    byte_by Rule.M1 cell other e = let wrong = some_is Item.Memory (Item.Byte k) e in cc
    byte_by Rule.M2 cell other e = cc
    byte_by Rule.R1 cell other e = cc
    byte_by Rule.R2 cell other e = absurd (no_plus w cell e)
    byte_by Rule.R3 cell other e = cc
    byte_by Rule.U1 cell other e = cc
    byte_by Rule.U2 cell other e = byte_of_cell body cell e
    byte_by Rule.U3 cell other e = absurd (no_overwriter w cell other e)
    byte_by Rule.U4 cell other e = cc
    byte_by Rule.S1 cell other e = cc
    byte_by Rule.S2 cell other e = cc
    byte_by Rule.S3 cell other e = cc
    byte_by Rule.J1 cell other e = cc
    byte_by Rule.K1 cell other e = cc
    byte_by Rule.K2 cell other e = cc

    byte_told : (f : Finding) → item_of body w f ≡ Some (Item.Byte k) → byte_in body k ≡ Some (Item.Byte k)
    unfolding item_of
    byte_told f e = byte_by f.rule f.cell f.other e

-- ---- items that are added

part_told : (found : Option Part) → may_lose_high found ≡ true
    → (p : Part) × (found ≡ Some p) × (has_high_letter p.constraint.bytes ≡ false)
part_told None e = cc
part_told (Some p) e = (p, refl, not-true (has_high_letter p.constraint.bytes) e)

module _ (s : Statement) (i : Interface) (is : IsInterface i) (stated : IsInterfaceOf i s) where
  byte_reached : (items : List Item) → IsReached s i items → (k : ℕ) → has items (Item.Byte k) ≡ true
      → byte_in s.body k ≡ Some (Item.Byte k)
  byte_reached items IsReached.begins k there = absurd (none_there (Item.Byte k) there)
  byte_reached items (IsReached.adds before v x reached verdict next) k there =
      elim (joined_parts before (x ∷ []) (Item.Byte k) there) [
        | inl earlier ↦ byte_reached before reached k earlier
        | inr one ↦ last (with_items before i) (added_new s i is stated before v x next) one
      ]
    where
      last : (w : Interface) → IsNew s.body w before x → has (x ∷ []) (Item.Byte k) ≡ true
          → byte_in s.body k ≡ Some (Item.Byte k)
      last w new one =
          elim (or_cases (item_number (Item.Byte k) == item_number x) (has [] (Item.Byte k))
          (sym (has_first x [] (Item.Byte k)) ∙ one)) [
            | inl same ↦ byte_told k s.body w new.finding
                (new.is_its ∙ ap Some (byte_of_number x k
                (eqb-true (item_number (Item.Byte k)) (item_number x) same)))
            | inr none ↦ absurd (none_there (Item.Byte k) none)
          ]

  -- items that are added leave places as they are, where the letters of constraints are the interface's
  pub reached_leave : HasLetters i s.body → (items : List Item) → IsReached s i items → LeavesPlaces items i
  reached_leave letters items reached = record {
    each = λ k a o alt byte there.
        let it = byte_reached items reached k byte in
        let told = subst (λ body. byte_in body k ≡ Some (Item.Byte k)) stated.has_parts it in
        let may = if_some (may_lose_high (slice_get (stated.parts.outputs ++ stated.parts.inputs) k)) (Item.Byte k)
        (Item.Byte k) told in
        let found = part_told (slice_get (stated.parts.outputs ++ stated.parts.inputs) k) may.0 in
        letters.each stated.parts k a found.0 o alt stated.has_parts found.1 found.2 there;
  }
