use Rattle.std.proofs.Common.{◌∙◌, sym, ◌<◌, arith, ◌≡◌}
use Rattle.register_search.proofs.FewGroups.{numbers_below}
use Rattle.register_search.specs.Table.{holds, leads_all, leads_numbered}
use Rattle.register_search.specs.declared.class.Group.TheVariants.{Exclusive}
use Rattle.register_search.proofs.Tables.{leads_all-same}
use Rattle.register_search.proofs.Joining.{assignment_leads, leading_assigned}
use Rattle.register_search.proofs.search.has_assignment.Goals as goal

pub returns : goal.returns
returns c =
    let empty : 0 < 128 = omega arith in
    let is : c.holds_empty_set.result ≡ leads_all Exclusive c.args.classes.now (leads_numbered c.args.classes.now) 0 =
    c.holds_empty_set.ensures ∙ c.before_exclusive.ensures 0 empty ∙ leads_all-same Exclusive c.args.classes.now (holds c.before_numbered.result) (leads_numbered c.args.classes.now) c.before_numbered.ensures 0 empty in
    (λ yes. leading_assigned c.args.classes.now (numbers_below c.args.classes.now c.requires) (sym is ∙ yes), λ there. is ∙ assignment_leads c.args.classes.now there)
