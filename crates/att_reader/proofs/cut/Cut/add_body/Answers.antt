use Rattle.std.proofs.Common.{ap, refl}
use Rattle.att_reader.proofs.CutLemmas.{body_added}
use Rattle.att_reader.proofs.cut.Cut.add_body.Goals as goal

pub returns : goal.returns
returns c = body_added c.args.self.now _ _ c.in_ok-push.ensures.items (ap (λ v. v.items) c.replace-before.ensures.value) c.first_from-from.ensures (rw c.replace-before.ensures.after c.new.ensures.items) c.clear.ensures.items refl
