use Rattle.blk_deps.specs.Findings.{facts_after, start_of}
use Rattle.blk_deps.specs.FlowFacts.{setting_of}
use Rattle.blk_deps.specs.FlowLaws.{after_law}
use Rattle.blk_deps.specs.Ways.{size_of, goes}
use Rattle.blk_deps.proofs.BlockPaths.{at_heads}
use Rattle.blk_deps.proofs.flow.solve.Goals as goal

pub returns-clause-shown : goal.returns-clause-shown
returns-clause-shown c =
    let x = c.args.flow.now in
    let setting = setting_of x in
    record {
      each = λ b at test inside single.
          at_heads (size_of x.graph.now) (goes x.graph.now) (start_of setting) (facts_after setting) x.blocks.now
          c.requires.flow.blocks _ c.solve.ensures.found (after_law setting) b at inside test single;
    }
