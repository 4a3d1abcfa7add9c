-- The places at which statements may be edited go upwards.
use Rattle.std.proofs.Common.{ℕ, ◌+◌, ◌≤◌, List, [], ◌∷◌, ◌++◌, arith, Result, Ok, Err, IfOk}
use Rattle.asm_core.specs.declared.memory.Memory.{Memory}
use Rattle.asm_core.specs.declared.span.Span.{Span}
use Rattle.asm_core.specs.declared.statement.Quoted.{Quoted}
use Rattle.asm_core.specs.declared.statement.Part.{Part}
use Rattle.asm_core.specs.declared.statement.Parts.{Parts}
use Rattle.asm_core.specs.declared.statement.Body.{Body}
use Rattle.asm_core.specs.declared.statement.Body.TheVariants as bodies
use Rattle.asm_core.specs.declared.statement.Statement.{Statement}
use Rattle.asm_statement.specs.Laws.{IsRising, IsPlaced, ArePartsPlaced, AreClobbersPlaced, AreApartParts, IsApart, behind_body, StandApart, constraint_offsets, body_offsets, edit_offsets}
use Rattle.asm_statement.proofs.RisingLaws.{from_lower, to_higher, one_after_other}

rising_le : (a b : ℕ) (os : List ℕ) → IsRising a os b → a ≤ b
rising_le a b [] h = h
rising_le a b (o ∷ os) h = let more = rising_le (o + 1) b os h.1 in omega (arith, h.0, more)

quoted_rise : (a b : ℕ) (q : Quoted) → IsPlaced a q b → IsRising a q.at b
quoted_rise a b q placed = from_lower a q.span.from b q.at placed.behind
    (to_higher q.span.from q.span.to b q.at placed.before placed.rising)

quoted_le : (a b : ℕ) (q : Quoted) → IsPlaced a q b → a ≤ b
quoted_le a b q placed = rising_le a b q.at (quoted_rise a b q placed)

clobbers_le : (a b : ℕ) (qs : List Quoted) → AreClobbersPlaced a qs b → a ≤ b
clobbers_le a b [] h = h
clobbers_le a b (q ∷ qs) h =
    let here = quoted_le a q.span.to q h.0 in
    let more = clobbers_le q.span.to b qs h.1 in
    omega (arith, here, more)

pub constraints_rise : (a b : ℕ) (ps : List Part) → ArePartsPlaced a ps b → IsRising a (constraint_offsets ps) b
constraints_rise a b [] h = h
constraints_rise a b (p ∷ ps) h =
    let placed = h.0 in
    let short = placed.expr in
    let here = to_higher a p.expr.from p.expr.to p.constraint.at (omega (arith, short))
    (quoted_rise a p.expr.from p.constraint placed.constraint) in
    one_after_other a p.expr.to b p.constraint.at (constraint_offsets ps) here (constraints_rise p.expr.to b ps h.1)

-- the constraints stand before where the lists end
pub parts_rise : (a b : ℕ) (parts : Parts) → AreApartParts a parts b
    → IsRising a (constraint_offsets (parts.outputs ++ parts.inputs)) parts.last
parts_rise a b parts h =
    let low = quoted_le a parts.template.span.to parts.template h.template in
    let operands = constraints_rise parts.template.span.to h.between (parts.outputs ++ parts.inputs) h.operands in
    let high = clobbers_le h.between parts.last parts.clobbers h.clobbers in
    from_lower a parts.template.span.to parts.last (constraint_offsets (parts.outputs ++ parts.inputs)) low
    (to_higher parts.template.span.to h.between parts.last (constraint_offsets
    (parts.outputs ++ parts.inputs)) high operands)

body_rises : (a b : ℕ) (parts : Parts) → AreApartParts a parts b → IsRising a (body_offsets (bodies.Parts parts)) b
body_rises a b parts h =
    let last = h.last in
    one_after_other a parts.last b (constraint_offsets (parts.outputs ++ parts.inputs)) (parts.last ∷ [])
    (parts_rise a b parts h)
    (omega arith, omega (arith, last))

with_body : (a b : ℕ) (span : Span) (body : Body) (rest : List ℕ) → IsApart a span body
    → IsRising (behind_body a span body) rest b → IsRising a (body_offsets body ++ rest) b
with_body a b span (bodies.Outside mark) rest apart h = h
with_body a b span (bodies.Parts parts) rest apart h =
    one_after_other a span.to b (body_offsets (bodies.Parts parts)) rest
    (from_lower a span.from span.to (body_offsets (bodies.Parts parts)) apart.0
    (body_rises span.from span.to parts apart.1)) h

pub edits_rise : (a b : ℕ) (ss : List Statement) → StandApart a ss b → IsRising a (edit_offsets ss) b
edits_rise a b [] h = h
edits_rise a b (s ∷ ss) h = with_body a b s.span s.body (edit_offsets ss) h.0 (edits_rise
    (behind_body a s.span s.body) b ss h.1)

pub answer_edits : (n : ℕ) (r : Result (List Statement) Memory) → IfOk r (λ ss. StandApart 0 ss n)
    → IfOk r (λ ss. IsRising 0 (edit_offsets ss) n)
answer_edits n (Ok ss) h = edits_rise 0 n ss h
answer_edits n (Err e) h = h
