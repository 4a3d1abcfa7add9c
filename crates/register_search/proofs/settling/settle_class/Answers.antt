use Rattle.std.proofs.Common.{bit_and, ◌≡◌, slice_set, ap, ◌∙◌, sym, subst, [], ◌+◌, get_or, true, false}
use Rattle.register_search.specs.Assignment.{HasFewGroups}
use Rattle.register_search.specs.Assignment.{HasAssignment}
use Rattle.register_search.specs.Settling.{IsFirstOf}
use Rattle.register_search.specs.declared.class.Class.{Class}
use Rattle.register_search.specs.declared.class.Group.TheVariants.{Absent}
use Rattle.register_search.proofs.Narrowing.{narrowed_few}
use Rattle.register_search.proofs.Trying.{IsTrying, trying_begun, now_narrowed, trying_refuses, trying_ends, trying_succeeds}
use Rattle.register_search.proofs.OneChoice.{trying_taken}
use Rattle.register_search.proofs.settling.settle_class.Goals as goal

abbrev blank : Class
blank = record { group = Absent; choices = [] }

pub loop-choice-init : goal.loop-choice-init
loop-choice-init c = trying_begun c.args.classes.now c.args.k blank c.requires.inside

pub has_assignment-requires : goal.has_assignment-requires
has_assignment-requires c =
    subst HasFewGroups (sym (ap (slice_set c.loop-choice.classes c.args.k) c.with_choice.ensures ∙ now_narrowed c.args.classes.now c.loop-choice.classes c.args.k c.loop-choice.choice _ c.loop-choice.invariant))
    (narrowed_few c.args.classes.now c.args.k _ c.loop-choice.choice c.loop-choice.invariant.is_class c.requires.few)

pub returns-then-has_assignment : goal.returns-then-has_assignment
returns-then-has_assignment c =
    let is = ap (slice_set c.loop-choice.classes c.args.k) c.with_choice.ensures in
    subst (λ new. IsFirstOf c.args.classes.now new c.args.k) (sym is)
    (trying_ends c.args.classes.now c.loop-choice.classes c.args.k c.loop-choice.choice _ c.loop-choice.invariant c.loop-choice-test.true c.if-not-class-choice.false
    (subst HasAssignment is (c.has_assignment.ensures.0 c.if-has_assignment.true)))

pub loop-choice-preserved : goal.loop-choice-preserved
loop-choice-preserved c =
    let is = ap (slice_set c.loop-choice.classes c.args.k) c.with_choice.ensures in
    subst (λ new. IsTrying c.args.classes.now new c.args.k (get_or c.args.classes.now c.args.k blank) (c.loop-choice.choice + 1)) (sym is)
    (trying_refuses c.args.classes.now c.loop-choice.classes c.args.k c.loop-choice.choice _ c.loop-choice.invariant
    (λ there. let yes : c.has_assignment.result ≡ true = c.has_assignment.ensures.1 (subst HasAssignment (sym is) there) in let wrong : true ≡ false = sym yes ∙ c.if-has_assignment.false in cc))

pub returns : goal.returns
returns c = absurd (trying_succeeds c.args.classes.now c.loop-choice.classes c.args.k c.loop-choice.choice _ c.loop-choice.invariant c.loop-choice-test.false
    (c.requires.takes _ c.loop-choice.invariant.is_class) c.requires.some)

pub loop-choice-preserved-then-registers_of-taken-ne0 : goal.loop-choice-preserved-then-registers_of-taken-ne0
loop-choice-preserved-then-registers_of-taken-ne0 c =
    trying_taken c.args.classes.now c.loop-choice.classes c.args.k c.loop-choice.choice c.taken_by_rivals-taken.result _ c.loop-choice.invariant c.loop-choice-test.true
    (c.requires.takes _ c.loop-choice.invariant.is_class) c.taken_by_rivals-taken.ensures
    (λ apart. c.if-registers_of-taken-ne0.true (ap (λ n. bit_and n c.taken_by_rivals-taken.result) c.registers_of.ensures ∙ apart))
