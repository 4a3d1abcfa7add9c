use Rattle.std.proofs.Common.{◌∙◌, sym}
use Rattle.blk_deps.proofs.SceneLemmas.{mask_few, mask_of_layout, used_pairs, no_used_pairs}
use Rattle.blk_deps.proofs.rules.uses.breaks_u3.Goals as goal

pub pair_of-requires-clause-first : goal.pair_of-requires-clause-first
pair_of-requires-clause-first c = mask_few _ _ _ c.places.ensures

pub pair_of-requires-clause-second : goal.pair_of-requires-clause-second
pair_of-requires-clause-second c = mask_of_layout c.args.scene.now c.args.used.now.layout _ _ c.requires.scene
    c.requires.layout c.places-then-used.ensures

pub returns-then-used : goal.returns-then-used
returns-then-used c = c.pair_of.ensures
    ∙ used_pairs c.args.scene.now c.args.used.now.layout c.args.used.now.words.now c.places.result
    c.places-then-used.result c.args.cell c.args.other
    c.requires.scene c.requires.layout c.args.used.now.size c.places.ensures c.places-then-used.ensures

pub returns-else-used : goal.returns-else-used
returns-else-used c = c.if-used.false ∙ sym
    (no_used_pairs c.args.scene.now.context.now.interface.now c.args.scene.now.context.now.shape.now
    c.args.used.now.layout c.args.used.now.words.now
    c.args.cell c.args.other (sym c.args.used.now.has_pair ∙ c.if-used.false))
