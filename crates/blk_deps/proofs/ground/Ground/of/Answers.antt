use Rattle.std.proofs.Common.{◌<◌, ap, ◌∙◌, arith}
use Rattle.blk_deps.specs.Ground.{has_bit, has_cell_bit}
use Rattle.blk_deps.proofs.GroundLemmas.{lone_is, input_is, kept_is, result_is, output_is, above_is}
use Rattle.blk_deps.proofs.ground.Ground.of.Goals as goal

pub returns : goal.returns
returns c =
    let i = c.args.interface.now in
    let s = c.args.shape.now in
    record {
      places = c.shape_places.ensures;
      lone = λ p lt. lone_is i s p _ _ (c.places_held-held.ensures p lt) (c.lone_places-lone.ensures p lt);
      kept = λ p lt.
          let near : p < 64 = omega arith in
          kept_is i s p _ _ _ _ _ (lone_is i s p _ _ (c.places_held-held.ensures p near)
          (c.lone_places-lone.ensures p near)) (ap (λ n. has_bit n p) (c.from.ensures ∙ c.bits.ensures tt))
          (c.without-undeclared.ensures p near)
          (input_is i s p _ _ _ (c.places_held-held.ensures p near) (c.places_held.ensures p near)
          (c.without-input_places.ensures p near)) (c.either.ensures p);
      input_places = λ p lt.
          let near : p < 64 = omega arith in
          input_is i s p _ _ _ (c.places_held-held.ensures p near) (c.places_held.ensures p near)
          (c.without-input_places.ensures p near);
      names = c.in_ok-names.ensures.each;
      name_count = c.in_ok-names.ensures.length;
      output_bytes = λ n lt. ap (λ ws. has_cell_bit ws n) c.words.ensures
          ∙ output_is i s n _ _ _ (c.bytes_of-results.ensures n lt) (c.bytes_of-inputs.ensures n lt)
          (c.without.ensures n);
      bytes_above = λ n lt. ap (λ ws. has_cell_bit ws n) c.words-2.ensures
          ∙ above_is i s n _ _ _ (c.bytes_of-whole.ensures n lt) (c.bytes_of-covered.ensures n lt)
          (c.without-2.ensures n);
      results = λ n lt. ap (λ ws. has_cell_bit ws n) c.words-3.ensures
          ∙ result_is i s n _ (c.bytes_of-results.ensures n lt);
      unseen = c.unseen_operands.ensures;
      changing = λ k lt. c.changing_operands.ensures k (omega (arith, c.requires.few, lt));
      result_flags = c.result_flags.ensures;
    }
