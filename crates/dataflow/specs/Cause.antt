-- Tests of sets of facts, and functions from sets of facts to sets of facts, for which one fact is enough.
-- A set of facts is the test of what is in it.
use Rattle.std.specs.Prelude.{◌≡◌, Bool, true}

-- a fact of the set, with which the test is true of every set that holds it
pub record Cause {F : Type 0} (test : (F → Bool) → Bool) (facts : F → Bool) : Type 0 where
  pub fact : F
  pub holds : facts fact ≡ true
  pub enough : (other : F → Bool) → other fact ≡ true → test other ≡ true

-- wherever the test is true, one fact alone makes it true
pub record IsSingle {F : Type 0} (test : (F → Bool) → Bool) : Type 0 where
  pub cause : (facts : F → Bool) → test facts ≡ true → Cause test facts

-- each fact of the result comes from one fact alone
pub record HasOneCause {F G : Type 0} (after : (F → Bool) → G → Bool) : Type 0 where
  pub each : (fact : G) → IsSingle (λ facts. after facts fact)
