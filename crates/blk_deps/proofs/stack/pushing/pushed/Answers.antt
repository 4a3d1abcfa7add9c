use Rattle.std.proofs.Common.{◌∙◌, ap, sym, false}
use Rattle.blk_deps.specs.Stack.{depths_behind}
use Rattle.blk_deps.specs.StackTable.{depths_in}
use Rattle.blk_deps.proofs.DepthWords.{bits_pushed, bits_popped}
use Rattle.blk_deps.proofs.stack.pushing.pushed.Goals as goal

pub returns-then-effect : goal.returns-then-effect
returns-then-effect c =
    λ depth. bits_pushed c.args.word depth.0
    ∙ sym (ap (λ p. depths_behind p c.args.effect.pops (depths_in c.args.word) depth) c.if-effect.true)

pub returns-then-effect-2 : goal.returns-then-effect-2
returns-then-effect-2 c =
    λ depth. bits_popped c.args.word depth.0
    ∙ sym (ap (λ p. depths_behind false p (depths_in c.args.word) depth) c.if-effect-2.true)
    ∙ sym (ap (λ p. depths_behind p c.args.effect.pops (depths_in c.args.word) depth) c.if-effect.false)
