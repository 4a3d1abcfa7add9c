-- Places that may be in one register.
use Rattle.std.proofs.Common.{◌≡◌, ◌⊎◌, inl, inr, ◌↔◌, ℕ, zero, suc, ◌+◌, ◌-◌, ◌<◌, ◌≤◌, ◌==◌, ◌&&◌, ◌||◌, nat_lt, Bool, true, false, IsTrue, List, [], ◌∷◌, ◌++◌, length, slice_index, Option, None, Some, Result, Ok, Err, IfOk, IfSome, IfNone, is_some, slice_get, refl, sym, ◌∙◌, ap, subst, arith, if◌then◌else◌}
use Rattle.std.proofs.lemmas.Bool.{eqb-true, eq-eqb, lt-ltb, le-ltb, ltb-true, cases_lt}
use Rattle.std.proofs.Math.ListN.{get_or-append}
use Rattle.std.proofs.Math.Seq.{get_or-append_seam}
use Rattle.std.proofs.lemmas.List.{length-append}
use Rattle.std.proofs.lemmas.Option.{slice_get_within}
use Rattle.asm_core.specs.Lists.{IsMember}
use Rattle.asm_core.specs.Placement.{IsAllowed}
use Rattle.asm_core.specs.Reg.{reg_number}
use Rattle.asm_core.specs.Roomy.{IsPlaceOf, place_registers}
use Rattle.asm_places.specs.Sharing.{CanShare}
use Rattle.asm_core.specs.Shape.{IsLive}
use Rattle.asm_core.specs.declared.memory.Memory.{Memory}
use Rattle.asm_core.specs.declared.reg.Reg.{Reg}
use Rattle.asm_core.specs.declared.sym.Place.{Place}
use Rattle.asm_core.specs.declared.shape.Shape.{Shape}
use Rattle.asm_core.specs.declared.placement.Placement.{Placement}
use Rattle.asm_core.specs.declared.interface.OperandIface.{OperandIface}
use Rattle.asm_core.specs.declared.interface.Interface.{Interface}
use Rattle.blk_deps.specs.Cells.{reg_at, place_at}
use Rattle.blk_deps.specs.Operands.{is_place, is_operand_place}
use Rattle.blk_deps.specs.Start.{MayShare, TellsSharing}
use Rattle.blk_deps.specs.Ground.{has_bit}
use Rattle.blk_deps.specs.Sharing.{SharesBelow, TellsBelow, TellWords, shares_by}
use Rattle.blk_deps.proofs.GroundBits.{no_bit}

-- the place of a number below 7 is that register
register_place : (p : ℕ) → p < 7 → place_at p ≡ Place.Reg (reg_at p)
register_place p below = rw (lt-ltb p 7 below) refl

operand_place : (p : ℕ) → 7 ≤ p → place_at p ≡ Place.Operand (p - 7)
operand_place p above = rw (le-ltb p 7 above) refl

numbered : (p : ℕ) → p < 7 → reg_number (reg_at p) ≡ p
numbered zero below = refl
numbered (suc zero) below = refl
numbered (suc (suc zero)) below = refl
numbered (suc (suc (suc zero))) below = refl
numbered (suc (suc (suc (suc zero)))) below = refl
numbered (suc (suc (suc (suc (suc zero))))) below = refl
numbered (suc (suc (suc (suc (suc (suc zero)))))) below = refl
numbered (suc (suc (suc (suc (suc (suc (suc p))))))) below = absurd (omega (arith, below))

only_one : (r q : Reg) → IsMember r (q ∷ []) → r ≡ q
only_one r q (inl same) = same
only_one r q (inr more) = absurd more

module _ (i : Interface) (s : Shape) where
  -- two registers are one only if they are the same, and one is itself wherever a placement is allowed
  pub registers_share : (p q : ℕ) → p < 7 → q < 7 → IsLive i s → IsTrue (is_place i s p) → IsTrue (is_place i s q) → IsTrue (p == q) ↔ MayShare i s p q
  registers_share p q lp lq live first second = (there, back)
    where
      in_itself : (p : ℕ) → p < 7 → (at : Placement) → IsMember (reg_at p) (place_registers at (place_at p))
      in_itself p below at = subst (λ (x : Place). IsMember (reg_at p) (place_registers at x)) (sym (register_place p below)) (inl refl)

      there : IsTrue (p == q) → MayShare i s p q
      there alike =
          let same : p ≡ q = eqb-true p q alike in
          record {
            first = first;
            second = second;
            at = live.0;
            shared = record {
              allowed = live.1;
              register = reg_at p;
              in_first = in_itself p lp live.0;
              in_second = subst (λ n. IsMember (reg_at p) (place_registers live.0 (place_at n))) same (in_itself p lp live.0);
            };
          }

      of_place : (p : ℕ) → p < 7 → (at : Placement) (r : Reg) → IsMember r (place_registers at (place_at p)) → r ≡ reg_at p
      of_place p below at r m = only_one r (reg_at p) (subst (λ (x : Place). IsMember r (place_registers at x)) (register_place p below) m)

      back : MayShare i s p q → IsTrue (p == q)
      back may =
          let one : may.shared.register ≡ reg_at p = of_place p lp may.at may.shared.register may.shared.in_first in
          let other : may.shared.register ≡ reg_at q = of_place q lq may.at may.shared.register may.shared.in_second in
          eq-eqb p q (sym (numbered p lp) ∙ ap reg_number (sym one ∙ other) ∙ numbered q lq)

  -- what `can_share` answers
  pub answered : (p q : ℕ) (x y : Place) (found : Bool) → x ≡ place_at p → y ≡ place_at q → IsTrue (is_place i s p)
      → IsTrue (is_place i s q) → IsTrue found ↔ CanShare i s x y → IsTrue found ↔ MayShare i s p q
  answered p q x y found is_x is_y first second told =
      let here : IsTrue found ↔ CanShare i s (place_at p) (place_at q) =
      subst (λ z. IsTrue found ↔ CanShare i s (place_at p) z) is_y
      (subst (λ z. IsTrue found ↔ CanShare i s z y) is_x told) in (
        (λ yes. let can = here.0 yes in record { first = first; second = second; at = can.at; shared = can.shared }),
        (λ may. here.1 (record { at = may.at; shared = may.shared })),
      )

  some_operand : (o : Option OperandIface) → IsTrue (is_some o) → (q : OperandIface) × (o ≡ Some q)
  some_operand (Some q) there = (q, refl)
  some_operand None there = cc

  both_true : (a b : Bool) → IsTrue (a && b) → IsTrue a × IsTrue b
  both_true true b both = (refl, both)
  both_true false b both = cc

  -- an operand that is a place is one of the interface
  pub operand_there : (p : ℕ) → 7 ≤ p → IsTrue (is_place i s p) → (o : OperandIface) × (slice_get i.operands (p - 7) ≡ Some o)
  operand_there p above place =
      let there : IsTrue (is_operand_place i s (p - 7)) = subst (λ b. IsTrue (b || is_operand_place i s (p - 7))) (le-ltb p 7 above) place in
      some_operand (slice_get i.operands (p - 7)) (both_true (is_some (slice_get i.operands (p - 7))) _ there).0

  pub place_there : (p : ℕ) → IsTrue (is_place i s p) → IsPlaceOf i (place_at p)
  place_there p place = elim (cases_lt p 7) [
    | inl below ↦ record { is_operand = λ k is. let no : Place.Reg (reg_at p) ≡ Place.Operand k = sym (register_place p below) ∙ is in cc }
    | inr above ↦ record {
      is_operand = λ k is. let same : Place.Operand (p - 7) ≡ Place.Operand k = sym (operand_place p above) ∙ is in
          let one : p - 7 ≡ k = cc in subst (λ n. (o : OperandIface) × (slice_get i.operands n ≡ Some o)) one (operand_there p above place);
    }
  ]

  -- ---- words

  pub word_start : (p : ℕ) → TellsBelow i s p 0 0
  word_start p r lr = ((λ set. let none = no_bit r in cc), (λ below. absurd (omega (arith, below.below))))

  -- a turn of the loop
  pub word_more : (p q word next : ℕ) (shared : Bool) → q < 64 → TellsBelow i s p q word → IsTrue shared ↔ MayShare i s p q
      → ((k : ℕ) → k < 64 → has_bit next k ≡ (has_bit word k || (k == q && shared))) → TellsBelow i s p (q + 1) next
  word_more p q word next shared lq so_far answer bits r lr = (there, back)
    where
      either_true : (a b : Bool) → IsTrue (a || b) → IsTrue a ⊎ IsTrue b
      either_true true b both = inl refl
      either_true false b both = inr both

      new_one : IsTrue (r == q && shared) → SharesBelow i s p (q + 1) r
      new_one set =
          let parts = both_true (r == q) shared set in
          let same : r ≡ q = eqb-true r q parts.0 in
          record { below = omega (arith, same); shares = subst (MayShare i s p) (sym same) (answer.0 parts.1) }

      there : IsTrue (has_bit next r) → SharesBelow i s p (q + 1) r
      there set = go (either_true (has_bit word r) (r == q && shared) (subst IsTrue (bits r lr) set))
        where
          go : IsTrue (has_bit word r) ⊎ IsTrue (r == q && shared) → SharesBelow i s p (q + 1) r
          go (inl old) = let low = (so_far r lr).0 old in record { below = let lt = low.below in omega (arith, lt); shares = low.shares }
          go (inr new) = new_one new

      or_left_true : (a b : Bool) → IsTrue a → IsTrue (a || b)
      or_left_true true b a = refl
      or_left_true false b a = cc

      or_right_true : (a b : Bool) → IsTrue b → IsTrue (a || b)
      or_right_true true b c = refl
      or_right_true false b c = c

      all_true : (a b : Bool) → a ≡ true → b ≡ true → IsTrue (a && b)
      all_true true true x y = refl
      all_true true false x y = cc
      all_true false b x y = cc

      back : SharesBelow i s p (q + 1) r → IsTrue (has_bit next r)
      back below = elim (cases_lt r q) [
        | inl less ↦ subst IsTrue (sym (bits r lr)) (or_left_true (has_bit word r) (r == q && shared) ((so_far r lr).1 (record { below = less; shares = below.shares })))
        | inr not_less ↦
            let lt = below.below in
            let same : r ≡ q = omega (arith, lt, not_less) in
            let may : MayShare i s p q = subst (MayShare i s p) same below.shares in
            subst IsTrue (sym (bits r lr)) (or_right_true (has_bit word r) (r == q && shared) (all_true (r == q) shared (eq-eqb r q same) (answer.1 may)))
      ]

  other_way : (p q : ℕ) → MayShare i s p q → MayShare i s q p
  other_way p q may = record {
    first = may.second;
    second = may.first;
    at = may.at;
    shared = record {
      allowed = may.shared.allowed;
      register = may.shared.register;
      in_first = may.shared.in_second;
      in_second = may.shared.in_first;
    };
  }

  -- the word of a place before tells it too
  pub told_before : (count p q : ℕ) (words : List ℕ) → TellWords i s count words → q < length words → p < count
      → count ≤ 37 → IsTrue (has_bit (slice_index words q) p) ↔ MayShare i s p q
  told_before count p q words tell before inside few =
      let told = tell q before p (omega (arith, inside, few)) in (
        (λ set. other_way q p (told.0 set).shares),
        (λ may. told.1 (record { below = inside; shares = other_way p q may })),
      )

  -- what is no place shares nothing
  pub nowhere : (p q : ℕ) → is_place i s q ≡ false → IsTrue false ↔ MayShare i s p q
  nowhere p q none = ((λ set. cc), (λ may. let there : is_place i s q ≡ true = may.second in cc))

  pub no_place : (p count : ℕ) → is_place i s p ≡ false → TellsBelow i s p count 0
  no_place p count none r lr = ((λ set. let no = no_bit r in cc), (λ below. let there : is_place i s p ≡ true = below.shares.first in cc))

  pub words_more : (count word : ℕ) (words : List ℕ) → TellWords i s count words → TellsBelow i s (length words) count word → TellWords i s count (words ++ word ∷ [])
  words_more count word words tell new p below = elim (cases_lt p (length words)) [
    | inl old ↦ subst (TellsBelow i s p count) (sym (get_or-append words (word ∷ []) 0 p old)) (tell p old)
    | inr last ↦
        let size = length-append words (word ∷ []) in
        let same : p ≡ length words = omega (arith, size, below, last) in
        subst (λ n. TellsBelow i s n count (slice_index (words ++ word ∷ []) n)) (sym same) (subst (TellsBelow i s (length words) count) (sym (get_or-append_seam words word [] 0)) new)
  ]

  -- ---- all

  pub place_below : (p : ℕ) → IsTrue (is_place i s p) → p < 7 + length i.operands
  place_below p place = elim (cases_lt p 7) [
    | inl below ↦ omega (arith, below)
    | inr above ↦
        let o = operand_there p above place in
        let lt = slice_get_within i.operands (p - 7) o.0 o.1 in
        omega (arith, lt, above)
  ]

  pub tells_all : (count : ℕ) (words : List ℕ) → length words ≡ count → count ≡ 7 + length i.operands → count ≤ 64 → TellWords i s count words → TellsSharing i s (shares_by words count)
  tells_all count words size is few tell p q = (there, back)
    where
      there : IsTrue (nat_lt p count && (nat_lt q count && has_bit (slice_index words p) q)) → MayShare i s p q
      there both =
          let one = both_true (nat_lt p count) _ both in
          let two = both_true (nat_lt q count) _ one.1 in
          let lp : p < count = ltb-true p count one.0 in
          let lq : q < count = ltb-true q count two.0 in
          ((tell p (omega (arith, lp, size)) q (omega (arith, lq, few))).0 two.1).shares

      all_true : (a b c : Bool) → a ≡ true → b ≡ true → c ≡ true → IsTrue (a && (b && c))
      all_true true true true x y z = refl
      all_true true true false x y z = cc
      all_true true false c x y z = cc
      all_true false b c x y z = cc

      back : MayShare i s p q → IsTrue (nat_lt p count && (nat_lt q count && has_bit (slice_index words p) q))
      back may =
          let lp = place_below p may.first in
          let lq = place_below q may.second in
          let below : p < count = omega (arith, lp, is) in
          let other : q < count = omega (arith, lq, is) in
          all_true (nat_lt p count) (nat_lt q count) (has_bit (slice_index words p) q) (lt-ltb p count below) (lt-ltb q count other)
          ((tell p (omega (arith, below, size)) q (omega (arith, other, few))).1 (record { below = other; shares = may }))

  -- one word more
  pub pushed_words : (count p word : ℕ) (words next : List ℕ) → length words ≡ p → TellWords i s count words → TellsBelow i s p count word → next ≡ words ++ word ∷ []
      → (length next ≡ p + 1) × TellWords i s count next
  pushed_words count p word words next size tell new is =
      let longer = length-append words (word ∷ []) in (
        ap length is ∙ omega (arith, longer, size),
        subst (TellWords i s count) (sym is) (words_more count word words tell (subst (λ n. TellsBelow i s n count word) (sym size) new)),
      )

  -- the answer for all places
  pub told : (r : Result (List ℕ) Memory) → length i.operands ≤ 30 → IfOk r (λ words. length words ≡ 7 + length i.operands) → IfOk r (TellWords i s (7 + length i.operands))
      → IfOk r (λ words. TellsSharing i s (shares_by words (7 + length i.operands)))
  told (Ok words) few size tell = tells_all (7 + length i.operands) words size refl (omega (arith, few)) tell
  told (Err end) few size tell = tt
