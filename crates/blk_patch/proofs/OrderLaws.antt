-- The edits of a statement go upwards, where its constraints stand in order.
use Rattle.std.proofs.Common.{◌≡◌, ℕ, ◌+◌, ◌≤◌, List, [], ◌∷◌, ◌++◌, Bool, true, false, Result, Ok, Err, refl, sym, ap, subst, ◌∙◌, arith}
use Rattle.std.specs.Result.{IfOk}
use Rattle.std.proofs.lemmas.Bool.{eqb-true}
use Rattle.asm_core.specs.declared.edit.Edit.{Edit}
use Rattle.asm_core.specs.declared.memory.Memory.{Memory}
use Rattle.asm_core.specs.declared.statement.Part.{Part}
use Rattle.asm_core.specs.declared.statement.Parts.{Parts}
use Rattle.asm_core.specs.declared.statement.Body.{Body}
use Rattle.blk_patch.specs.Edits.{change_of, change_at, asks_plus, asks_byte, byte_edits, position_after, edits_from, beginning, constraint_edits, operand_edits, clobber_text, clobber_edits, insertion_of, edits_of, edits_in}
use Rattle.blk_patch.specs.EditOrder.{IsRising, AreRising, AreInOrder, GoUpwards, AreApartIn}
use Rattle.blk_patch.proofs.FormLaws.{asked_plus, asked_byte}
use Rattle.blk_patch.specs.declared.item.Item.{Item}
use Rattle.blk_patch.specs.declared.constraint.Change.{Change}
use Rattle.blk_patch.specs.declared.constraint.Position.{Position}

-- ---- offsets

rising_le : (from : ℕ) (ats : List ℕ) (end : ℕ) → IsRising from ats end → from ≤ end
rising_le from [] end h = h
rising_le from (at ∷ ats) end h = let more = rising_le (at + 1) ats end h.1 in omega (arith, h.0, more)

-- ---- spans

earlier : (from later : ℕ) (es : List Edit) (end : ℕ) → from ≤ later → GoUpwards later es end → GoUpwards from es end
earlier from later [] end le h = omega (arith, le, h)
earlier from later (e ∷ es) end le h = (omega (arith, le, h.0), h.1, h.2)

joined : (from middle end : ℕ) (xs ys : List Edit) → GoUpwards from xs middle → GoUpwards middle ys end
    → GoUpwards from (xs ++ ys) end
joined from middle end [] ys h g = earlier from middle ys end h g
joined from middle end (x ∷ xs) ys h g = (h.0, h.1, joined x.span.to middle end xs ys h.2 g)

-- ---- bytes

-- a byte isn't replaced twice
byte_upwards : (plus early byte : Bool) (from at : ℕ) → from ≤ at → (plus ≡ true → byte ≡ true → ⊥)
    → GoUpwards from (byte_edits (record { plus = plus; early = early; byte = byte }) at) (at + 1)
byte_upwards true early true from at le once = absurd (once refl refl)
byte_upwards true true false from at le once = (le, omega arith, (omega arith, omega arith, omega arith))
byte_upwards true false false from at le once = (le, omega arith, omega arith)
byte_upwards false true true from at le once = (le, omega arith, (omega arith, omega arith, omega arith))
byte_upwards false false true from at le once = (le, omega arith, omega arith)
byte_upwards false true false from at le once = (omega (arith, le), omega arith, omega arith)
byte_upwards false false false from at le once = omega (arith, le)

once : (change : Change) (position : Position) (b : ℕ) → asks_plus change position b ≡ true
    → asks_byte change position b ≡ true → ⊥
once change position b plus byte =
    let equals : b ≡ 61 = eqb-true b 61 (asked_plus change position b plus).1 in
    let letter : b ≡ 114 = eqb-true b 114 (asked_byte change position b byte).1 in
    omega (arith, equals, letter)

bytes_upwards : (change : Change) (bs ats : List ℕ) (position : Position) (from end : ℕ) → IsRising from ats end
    → GoUpwards from (edits_from change position bs ats) end
unfolding edits_from
bytes_upwards change [] ats position from end h = rising_le from ats end h
bytes_upwards change (b ∷ bs) [] position from end h = h
bytes_upwards change (b ∷ bs) (at ∷ ats) position from end h =
    let asked = change_at change position b bs in
    joined from (at + 1) end (byte_edits asked at) (edits_from change (position_after position b) bs ats)
    (byte_upwards asked.plus asked.early asked.byte from at h.0 (once change position b))
    (bytes_upwards change bs ats (position_after position b) (at + 1) end h.1)

-- ---- the whole

operands_upwards : (items : List Item) (ps : List Part) (k from end : ℕ) → AreRising from ps end
    → GoUpwards from (operand_edits items k ps) end
unfolding operand_edits
operands_upwards items [] k from end h = h
operands_upwards items (p ∷ ps) k from end h =
    let change = change_of items k in
    joined from h.0 end (constraint_edits change p.constraint) (operand_edits items (k + 1) ps)
    (bytes_upwards change p.constraint.bytes p.constraint.at beginning from h.0 h.1)
    (operands_upwards items ps (k + 1) h.0 end h.2)

insertion_upwards : (at : ℕ) (text : List ℕ) → GoUpwards at (insertion_of at text) at
insertion_upwards at [] = omega arith
insertion_upwards at (b ∷ bs) = (omega arith, omega arith, omega arith)

edits_upwards : (items : List Item) (parts : Parts) (from : ℕ) → AreInOrder from parts
    → GoUpwards from (edits_of items parts) parts.last
unfolding edits_of
edits_upwards items parts from h =
    joined from parts.last parts.last (operand_edits items 0 (parts.outputs ++ parts.inputs))
    (clobber_edits items parts) (operands_upwards items (parts.outputs ++ parts.inputs) 0 from parts.last h)
    (insertion_upwards parts.last (clobber_text items parts))

pub apart_in : (items : List Item) (body : Body) (r : Result (List Edit) Memory)
    → IfOk r (λ edits. edits ≡ edits_in items body) → IfOk r (AreApartIn body)
apart_in items body (Ok edits) is = record {
  upwards = λ from parts has order.
      subst (λ es. GoUpwards from es parts.last) (sym (is ∙ ap (edits_in items) has))
      (edits_upwards items parts from order);
}
apart_in items body (Err e) is = tt
