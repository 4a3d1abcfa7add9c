-- What has one cause: tests and functions of sets of facts, put together from smaller ones.
use Rattle.std.proofs.Common.{◌≡◌, ◌||◌, ◌&&◌, List, [], ◌∷◌, Bool, true, false, if◌then◌else◌, refl, sym, ap, ◌∙◌}
use Rattle.std.specs.List.{list_any, fold}
use Rattle.std.proofs.Math.Bool.{or-true}
use Rattle.dataflow.specs.Cause.{Cause, IsSingle, HasOneCause}

module _ {F : Type 0} where
  -- one fact
  pub one_fact : (fact : F) → IsSingle (λ (facts : F → Bool). facts fact)
  one_fact fact = record { cause = λ facts is. record { fact = fact; holds = is; enough = λ other has. has } }

  pub never : IsSingle (λ (facts : F → Bool). false)
  never = record { cause = λ facts is. cc }

  either_at : (one two : (F → Bool) → Bool) → IsSingle one → IsSingle two → (facts : F → Bool) (b : Bool)
      → one facts ≡ b
      → (b || two facts) ≡ true → Cause (λ all. one all || two all) facts
  either_at one two s t facts true e is =
      let c = s.cause facts e in
      record { fact = c.fact; holds = c.holds; enough = λ other has. ap (λ b. b || two other) (c.enough other has) }
  either_at one two s t facts false e is =
      let c = t.cause facts is in
      record {
        fact = c.fact;
        holds = c.holds;
        enough = λ other has. ap (λ b. one other || b) (c.enough other has) ∙ or-true (one other);
      }

  -- one test or the other
  pub either : {one two : (F → Bool) → Bool} → IsSingle one → IsSingle two
      → IsSingle (λ facts. one facts || two facts)
  either s t = record { cause = λ facts is. either_at _ _ s t facts _ refl is }

  -- what is tested beside it looks at no facts
  pub where_true : (b : Bool) {test : (F → Bool) → Bool} → IsSingle test → IsSingle (λ facts. b && test facts)
  where_true true s = s
  where_true false s = never

  -- which test it is looks at no facts
  pub chosen : (b : Bool) {one two : (F → Bool) → Bool} → IsSingle one → IsSingle two
      → IsSingle (λ facts. if b then one facts else two facts)
  chosen true s t = s
  chosen false s t = t

  -- the test of some item of a list that looks at no facts
  pub some_of : {X : Type 0} (items : List X) {test : X → (F → Bool) → Bool} → ((x : X) → IsSingle (test x))
      → IsSingle (λ facts. list_any (λ x. test x facts) items)
  some_of [] s = never
  some_of (x ∷ items) s = either (s x) (some_of items s)

  -- whoever holds more facts passes the test too
  pub single_up : {test : (F → Bool) → Bool} → IsSingle test → (one other : F → Bool)
      → ((fact : F) → one fact ≡ true → other fact ≡ true) → test one ≡ true → test other ≡ true
  single_up s one other up is = let c = s.cause one is in c.enough other (up c.fact c.holds)

  -- of no facts the test is false
  pub never_from_nothing : {test : (F → Bool) → Bool} → IsSingle test → (facts : F → Bool)
      → ((fact : F) → facts fact ≡ false)
      → test facts ≡ true → ⊥
  never_from_nothing s facts none is = let c = s.cause facts is in let wrong : true ≡ false = sym c.holds
      ∙ none c.fact in cc

-- a test of what a function gives
pub through : {F G : Type 0} {test : (G → Bool) → Bool} {after : (F → Bool) → G → Bool} → IsSingle test
    → HasOneCause after
    → IsSingle (λ facts. test (after facts))
through {after = after} s h = record {
  cause = λ facts is.
      let c = s.cause (after facts) is in
      let d = (h.each c.fact).cause facts c.holds in
      record { fact = d.fact; holds = d.holds; enough = λ other has. c.enough (after other) (d.enough other has) };
}

-- one function after the other
pub in_turn : {F G H : Type 0} {first : (F → Bool) → G → Bool} {second : (G → Bool) → H → Bool} → HasOneCause first
    → HasOneCause second
    → HasOneCause (λ facts. second (first facts))
in_turn h k = record { each = λ fact. through (k.each fact) h }

-- no function at all
pub unchanged : {F : Type 0} → HasOneCause (λ (facts : F → Bool). facts)
unchanged = record { each = one_fact }

-- the functions of a list, the first one first
pub all_in_turn : {F X : Type 0} {step : (F → Bool) → X → F → Bool}
    → ((x : X) → HasOneCause (λ facts. step facts x)) → (items : List X)
    → HasOneCause (λ facts. fold step facts items)
all_in_turn h [] = unchanged
all_in_turn h (x ∷ items) = in_turn (h x) (all_in_turn h items)
