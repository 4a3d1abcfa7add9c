use Rattle.std.proofs.Common.{◌&&◌, not, sym, ap, ◌∙◌}
use Rattle.std.specs.List.{list_any}
use Rattle.asm_core.specs.declared.shape.Shape.{Shape}
use Rattle.blk_deps.specs.Operands.{in_memory}
use Rattle.blk_deps.proofs.ground.memory.is_changing.Goals as goal

pub returns-then-is_somewhere_memory : goal.returns-then-is_somewhere_memory
returns-then-is_somewhere_memory c = c.is_somewhere_else.ensures
    ∙ sym (ap (λ b. b && list_any (λ (s : Shape). not (in_memory s c.args.k)) c.args.live.now)
    (sym c.is_somewhere_memory.ensures ∙ c.if-is_somewhere_memory.true))

pub returns-else-is_somewhere_memory : goal.returns-else-is_somewhere_memory
returns-else-is_somewhere_memory c = c.if-is_somewhere_memory.false
    ∙ sym (ap (λ b. b && list_any (λ (s : Shape). not (in_memory s c.args.k)) c.args.live.now)
    (sym c.is_somewhere_memory.ensures ∙ c.if-is_somewhere_memory.false))
