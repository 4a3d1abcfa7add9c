use Rattle.std.proofs.Common.{sym, subst, arith, IsTrue}
use Rattle.std.proofs.lemmas.Bool.{ltb-true}
use Rattle.blk_deps.specs.Layout.{shown}
use Rattle.blk_deps.specs.Fits.{JoinsFrom, fits_name}
use Rattle.blk_deps.specs.declared.step.Name.TheVariants.{Load, Undefined, Outside}
use Rattle.blk_deps.proofs.SourceLemmas.{joins_source, means_load, means_undefined, means_outside, bytes_asked}
use Rattle.blk_deps.proofs.row.reading.join_from.Goals as goal

pub returns-in-Load-clause-joined : goal.returns-in-Load-clause-joined
returns-in-Load-clause-joined c =
    let l = c.args.layout.now in
    let row = c.args.row.now in
    let facts = shown l row in
    let k = c.in-Load.operand in
    let count = c.in-Load.count in
    let there = ltb-true k l.operands (subst (λ name. IsTrue (fits_name l name)) c.in-Load.is c.requires.fits) in
    let tells = bytes_asked l row k count c.unwritten.result c.below.result there (omega (arith, c.requires.row)) (omega (arith, c.unwritten.type_inv))
    c.unwritten.ensures c.below.ensures in
    subst (λ name. JoinsFrom l facts name c.args.to.now c.join_source.new.to) (sym c.in-Load.is)
    (joins_source l c.requires.layout k (omega (arith, there, c.requires.layout.operands)) facts (Load k count) _ c.args.to.now c.join_source.new.to
    (means_load l facts k count _ c.requires.layout there tells) c.join_source.ensures.bits)

pub returns-in-Undefined-clause-joined : goal.returns-in-Undefined-clause-joined
returns-in-Undefined-clause-joined c =
    let l = c.args.layout.now in
    let facts = shown l c.args.row.now in
    subst (λ name. JoinsFrom l facts name c.args.to.now c.join_source-in-Undefined.new.to) (sym c.in-Undefined.is)
    (joins_source l c.requires.layout 62 (omega arith) facts Undefined c.is_here.result c.args.to.now c.join_source-in-Undefined.new.to
    (means_undefined l facts c.is_here.result c.requires.layout (c.is_here.ensures l)) c.join_source-in-Undefined.ensures.bits)

pub returns-in-Outside-clause-joined : goal.returns-in-Outside-clause-joined
returns-in-Outside-clause-joined c =
    let l = c.args.layout.now in
    let facts = shown l c.args.row.now in
    subst (λ name. JoinsFrom l facts name c.args.to.now c.join_source-in-Outside.new.to) (sym c.in-Outside.is)
    (joins_source l c.requires.layout 63 (omega arith) facts Outside c.is_here-in-Outside.result c.args.to.now c.join_source-in-Outside.new.to
    (means_outside l facts c.is_here-in-Outside.result c.requires.layout (c.is_here-in-Outside.ensures l)) c.join_source-in-Outside.ensures.bits)
