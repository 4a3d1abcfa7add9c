use Rattle.std.proofs.Common.{◌≡◌, ◌+◌, ◌-◌, ◌*◌, length}
use Rattle.c_decls.specs.Progress.{read}
use Rattle.c_decls.specs.Tags.{named_tags}
use Rattle.c_decls.specs.Members.{declarators_from, declarators_read, members_from, members_in}
use Rattle.c_decls.specs.Bodies.{body_declared}
use Rattle.c_decls.proofs.+bodies.Given as goal

-- A body stands one level of nesting deeper; the other calls go down the grammar.

abbrev pub decreases-bodies::declare_body : goal.decreases-bodies::declare_body
decreases-bodies::declare_body l = 20 * l.depth

abbrev pub decreases-tag_names::declare_tag : goal.decreases-tag_names::declare_tag
decreases-tag_names::declare_tag l = 20 * l.depth + 1

abbrev pub decreases-tag_names::tags_step : goal.decreases-tag_names::tags_step
decreases-tag_names::tags_step l = 20 * l.depth + 2

abbrev pub decreases-tag_names::name_tags_within : goal.decreases-tag_names::name_tags_within
decreases-tag_names::name_tags_within l = 20 * l.depth + 3

abbrev pub decreases-member_declarators::member_step : goal.decreases-member_declarators::member_step
decreases-member_declarators::member_step l = 20 * l.depth + 4

abbrev pub decreases-member_declarators::read_declarators : goal.decreases-member_declarators::read_declarators
decreases-member_declarators::read_declarators l = 20 * l.depth + 5

abbrev pub decreases-member_declarations::behind_specifiers : goal.decreases-member_declarations::behind_specifiers
decreases-member_declarations::behind_specifiers l = 20 * l.depth + 6

abbrev pub decreases-member_declarations::read_declaration : goal.decreases-member_declarations::read_declaration
decreases-member_declarations::read_declaration l = 20 * l.depth + 7

abbrev pub decreases-member_declarations::members_step : goal.decreases-member_declarations::members_step
decreases-member_declarations::members_step l = 20 * l.depth + 8

abbrev pub decreases-member_declarations::read_members : goal.decreases-member_declarations::read_members
decreases-member_declarations::read_members l = 20 * l.depth + 9

abbrev pub decreases-bodies::declare_struct : goal.decreases-bodies::declare_struct
decreases-bodies::declare_struct l = 20 * l.depth + 10

-- ---- what is left gives what the whole gives

abbrev pub invariant-tag_names::name_tags_within-loop-i : goal.invariant-tag_names::name_tags_within-loop-i
invariant-tag_names::name_tags_within-loop-i l = named_tags l.source l.to (body_declared l.source l.to l.depth) l.i l.end l.scopes ≡ named_tags l.source l.to (body_declared l.source l.to l.depth) l.first l.end l.fn.scopes

abbrev pub decreases-tag_names::name_tags_within-loop-i : goal.decreases-tag_names::name_tags_within-loop-i
decreases-tag_names::name_tags_within-loop-i l = length l.source.tokens - l.i

abbrev pub invariant-member_declarators::read_declarators-loop-i : goal.invariant-member_declarators::read_declarators-loop-i
invariant-member_declarators::read_declarators-loop-i l = declarators_from l.source l.to l.depth (body_declared l.source l.to l.depth) l.specifiers l.i (read l.scopes l.members) ≡ declarators_read l.source l.to l.depth (body_declared l.source l.to l.depth) l.specifiers (read l.fn.scopes l.fn.already)

abbrev pub decreases-member_declarators::read_declarators-loop-i : goal.decreases-member_declarators::read_declarators-loop-i
decreases-member_declarators::read_declarators-loop-i l = length l.source.tokens - l.i

abbrev pub invariant-member_declarations::read_members-loop-i : goal.invariant-member_declarations::read_members-loop-i
invariant-member_declarations::read_members-loop-i l = members_from l.source l.to l.depth (body_declared l.source l.to l.depth) l.i (read l.scopes l.members) ≡ members_in l.source l.to l.depth (body_declared l.source l.to l.depth) l.brace l.fn.scopes

abbrev pub decreases-member_declarations::read_members-loop-i : goal.decreases-member_declarations::read_members-loop-i
decreases-member_declarations::read_members-loop-i l = length l.source.tokens - l.i
