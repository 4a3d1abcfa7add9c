use Rattle.std.proofs.Common.{◌*◌, ◌∙◌, arith}
use Rattle.blk_deps.specs.Layout.{places_in, shown}
use Rattle.blk_deps.specs.Collecting.{some_of, of_result, of_flag, of_kept}
use Rattle.blk_deps.specs.declared.fact.Property.{Property}
use Rattle.blk_deps.proofs.CollectLemmas.{all_parts, no_pair_outside}
use Rattle.blk_deps.proofs.EndUseLemmas.{end_uses}
use Rattle.blk_deps.proofs.rules.results.collect_end_uses.Goals as goal

pub returns-clause-used : goal.returns-clause-used
returns-clause-used c =
    let l = c.args.layout.now in
    let facts = shown c.args.layout.now c.args.row.now in
    let g = c.args.context.now.ground.now in
    record {
      each = λ property is.
          all_parts l (λ (p : Property). some_of (of_result g.results facts p) (4 * places_in l)) (λ
          (p : Property). some_of (of_flag g.result_flags facts p) 6) (λ (p : Property). some_of
          (of_kept g.kept facts p) (4 * places_in l))
          c.clear.new.words c.read_results.new.to c.read_flags.new.to c.join_all_kept.new.to c.clear.ensures.bits
          c.read_results.ensures.adds c.read_flags.ensures.adds c.join_all_kept.ensures.adds property is
          ∙ end_uses c.args.context.now.interface.now c.args.context.now.shape.now g.results g.result_flags g.kept
          facts (places_in l) property c.requires.interface (omega (arith, c.requires.operands))
          c.requires.context.results c.requires.context.result_flags c.requires.context.kept
          (λ k d u lt past. no_pair_outside l c.args.row.now k d u c.requires.row lt past);
    }
