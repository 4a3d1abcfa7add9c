use Rattle.std.proofs.Common.{◌≡◌, ◌∙◌, ◌≤◌, Ok, Some, arith, ap, drop, length, sym, refl}
use Rattle.std.proofs.lemmas.List.{append-nil, length-map}
use Rattle.c_literals.specs.declared.raw.Raw.{Raw}
use Rattle.c_literals.specs.Escapes.{read_at}
use Rattle.c_literals.specs.Literals.{read_all, read_from}
use Rattle.c_literals.proofs.LiteralLemmas.{after, read-none, read_one}
use Rattle.c_literals.proofs.LengthLemmas.{read_all-few}
use Rattle.c_literals.proofs.literal.read_all.Goals as goal

pub loop-i-preserved : goal.loop-i-preserved
loop-i-preserved c =
    let bytes = c.in_ok-bytes.bytes.items in
    let long : length bytes ≡ length c.args.raws.now = rw c.loop-i.invariant.bytes (length-map c.args.raws.now (λ (r : Raw). r.byte)) in
    let seen : length c.deref.result.now ≡ length bytes = ap length c.deref.ensures.value in
    let within : c.in-Some.read.end ≤ length c.args.raws.now = omega (arith, long, seen, c.in-Some.ensures.within) in
    let read : read_at c.args.plain bytes c.loop-i.i ≡ Some c.in-Some.read = rw c.deref.ensures.value at (sym c.in-Some.ensures.is) in
    record {
      bytes = c.loop-i.invariant.bytes;
      within = within;
      same = read_one c.args.plain bytes c.args.raws.now c.loop-i.i (record { byte = 0; at = 0 }) c.in-Some.read _ c.loop-i.list.items c.push.new.self.items (read_all c.args.plain c.args.raws.now)
          c.loop-i-test.true read c.in-Some.ensures.within.0 within refl c.in_ok-push-in-Some.ensures.items c.loop-i.invariant.same;
    }

pub returns-clause-few : goal.returns-clause-few
returns-clause-few c = let list = c.loop-i.list.items in let bytes = c.in_ok-bytes.bytes.items in
    let done : after list (read_from c.args.plain bytes c.loop-i.i c.loop-i.i (drop c.loop-i.i c.args.raws.now)) ≡ Ok list =
    rw (read-none c.args.plain bytes c.args.raws.now c.loop-i.i c.loop-i-test.false, append-nil list) refl in
    read_all-few c.args.plain c.args.raws.now list (sym c.loop-i.invariant.same ∙ done)
