use Rattle.std.proofs.Common.{◌+◌, ◌∙◌, ap, arith}
use Rattle.asm_core.specs.Flag.{flag_number}
use Rattle.blk_deps.specs.Layout.{shown_value}
use Rattle.blk_deps.specs.declared.fact.Provenance.TheVariants.{EntryOf}
use Rattle.blk_deps.specs.declared.fact.Property.TheVariants.{ComesFrom}
use Rattle.blk_deps.proofs.AnyLaws.{and_then, and_else}
use Rattle.std.proofs.lemmas.Bool.{lt-ltb, le-ltb}
use Rattle.blk_deps.proofs.rules.uses.uses_flag.Goals as goal

pub returns-then-n-lt6 : goal.returns-then-n-lt6
returns-then-n-lt6 c =
    and_then _ _ _ (lt-ltb (flag_number c.args.flag) 6 (omega arith))
    (c.entry_of.ensures ∙ ap (λ n. shown_value c.args.used.now.layout c.args.used.now.words.now (ComesFrom (EntryOf
    (148 + n)))) c.flag_number-n.ensures)

pub returns-else-n-lt6 : goal.returns-else-n-lt6
returns-else-n-lt6 c = and_else _ _ _ (le-ltb (flag_number c.args.flag) 6 (omega arith))
    (le-ltb c.flag_number-n.result 6 c.if-n-lt6.false)
