use Rattle.std.proofs.Common.{◌≡◌, ◌-◌, drop}
use Rattle.c_values.specs.Members.{first_member, member_in}
use Rattle.c_values.proofs.member.+member_in.Given as goal

abbrev pub decreases-member_in : goal.decreases-member_in
decreases-member_in l = l.depth

-- The members from the index on give what all give.
abbrev pub invariant-loop-k : goal.invariant-loop-k
invariant-loop-k l =
    first_member (member_in (l.depth - 1) l.tags l.place l.wanted) l.wanted (drop l.k l.tag.names) (drop l.k l.tag.members)
    ≡ member_in l.depth l.tags l.place l.wanted l.number
