use Rattle.std.proofs.Common.{sym, ◌∙◌}
use Rattle.blk_deps.specs.Layout.{shown}
use Rattle.blk_deps.specs.Walking.{setting_in}
use Rattle.blk_deps.proofs.WalkLemmas.{noted_here}
use Rattle.blk_deps.proofs.NodeLemmas.{line_moves_at, inst_is, used_moved}
use Rattle.blk_deps.proofs.walk.note_node.Goals as goal

pub note_line-requires-clause-at : goal.note_line-requires-clause-at
note_line-requires-clause-at c =
    let w = c.args.walk.now in let is = c.requires.walk in
    let at = inst_is w is c.args.n c.requires.node c.index-flow-n.result c.as_slice.result.now c.index-as_slice-n.result c.as_slice.ensures c.index-as_slice-n.is in
    let line = line_moves_at w is c.args.n c.requires.node c.index-flow-n.result c.index-as_slice-n.result at in
    record { at_line = record { accesses = c.as_slice-2.ensures ∙ line.accesses; addressed = line.addressed.each }; here = c.is_here.ensures w.flow.layout.now }

pub note_line-requires-clause-used : goal.note_line-requires-clause-used
note_line-requires-clause-used c =
    let w = c.args.walk.now in let is = c.requires.walk in
    let at = inst_is w is c.args.n c.requires.node c.index-flow-n.result c.as_slice.result.now c.index-as_slice-n.result c.as_slice.ensures c.index-as_slice-n.is in
    used_moved c.new.ensures.layout c.new.ensures.words (c.requires.uses.each c.index-as_slice-n.result at)

pub returns : goal.returns
returns c =
    let w = c.args.walk.now in let is = c.requires.walk in
    let at = inst_is w is c.args.n c.requires.node c.index-flow-n.result c.as_slice.result.now c.index-as_slice-n.result c.as_slice.ensures c.index-as_slice-n.is in
    noted_here (setting_in w) c.args.n c.index-as_slice-n.result (shown w.flow.layout.now c.args.row.now) w.violations.now _ _ at c.note_line.ensures
