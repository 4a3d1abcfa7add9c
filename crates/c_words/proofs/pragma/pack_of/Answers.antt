use Rattle.std.proofs.Common.{◌≡◌, ◌∙◌, ◌+◌, sym, ap, drop, true, false, ℕ, List}
use Rattle.c_words.specs.declared.pragma.Sought.{Sought}
use Rattle.c_words.specs.Pragma.{is_at_pack, pack_from, sought_behind}
use Rattle.c_words.proofs.PragmaLemmas.{bytes-from, pack-here, pack-later}
use Rattle.c_words.proofs.pragma.pack_of.Goals as goal

pub returns-then-is_at_pack : goal.returns-then-is_at_pack
returns-then-is_at_pack c =
    let whole = bytes-from c.args.text.now c.loop-i.i in
    let found : is_at_pack c.loop-i.sought (drop c.loop-i.i c.args.text.now) ≡ true =
    ap (λ (bytes : List ℕ). is_at_pack c.loop-i.sought bytes) (sym whole) ∙ sym c.is_at_pack.ensures
    ∙ c.if-is_at_pack.true in
    sym (pack-here c.loop-i.sought c.loop-i.i c.args.text.now c.loop-i-test.true found) ∙ c.loop-i.invariant

pub loop-i-preserved : goal.loop-i-preserved
loop-i-preserved c =
    let whole = bytes-from c.args.text.now c.loop-i.i in
    let other : is_at_pack c.loop-i.sought (drop c.loop-i.i c.args.text.now) ≡ false =
    ap (λ (bytes : List ℕ). is_at_pack c.loop-i.sought bytes) (sym whole) ∙ sym c.is_at_pack.ensures
    ∙ c.if-is_at_pack.false in
    ap (λ (s : Sought). pack_from s (c.loop-i.i + 1) (drop (c.loop-i.i + 1) c.args.text.now))
    (c.behind-sought.ensures ∙ ap (λ (bytes : List ℕ). sought_behind c.loop-i.sought bytes) whole)
    ∙ sym (pack-later c.loop-i.sought c.loop-i.i c.args.text.now c.loop-i-test.true other) ∙ c.loop-i.invariant
