-- What a map has for each name after a change at one.
use Rattle.std.proofs.Common.{◌≡◌, ℕ, Bool, true, false, cond, nat_eq, List, Some, Vec, refl, sym, ◌∙◌, ap}
use Rattle.std.specs.Prelude.{unwrap_or}
use Rattle.std.specs.declared.alloc.Global.{Global}
use Rattle.std.specs.Map.{KeepsOthers, IsKeyTest, AreApart, lookup}
use Rattle.std.specs.Cmp.Lexicographic.{pointwise, same_text}
use Rattle.c_scopes.specs.Head.{Counts, count_in}

abbrev Key : Type 0
Key = Vec ℕ Global

abbrev key_eq : Key → Key → Bool
key_eq x y = pointwise nat_eq x.items y.items

-- the test of a query by bytes
abbrev is_key : List ℕ → Key → Bool
is_key name key = pointwise nat_eq name key.items

is_test : (name : List ℕ) → IsKeyTest key_eq (is_key name)
is_test name x y e = ap (λ n. pointwise nat_eq n y.items) (same_text name x.items (sym e))

apart : (name other : List ℕ) → pointwise nat_eq other name ≡ false → AreApart (is_key name) (is_key other)
apart name other differs key e = by (is_key other key) refl
  where
    by : (b : Bool) → is_key other key ≡ b → is_key other key ≡ false
    by false f = f
    by true f =
        let here = same_text name key.items (sym e) in
        let there = same_text other key.items (sym f) in
        let both : pointwise nat_eq other key.items ≡ false = ap (pointwise nat_eq other) (sym here) ∙ differs in
        cc

pub count_in-updated : (old new : Counts) (name other : List ℕ) (count : ℕ) → lookup (is_key name) new.entries ≡ Some count
    → KeepsOthers key_eq (is_key name) old.entries new.entries
    → count_in new other ≡ cond (pointwise nat_eq other name) count (count_in old other)
unfolding KeepsOthers
count_in-updated old new name other count here keeps = by (pointwise nat_eq other name) refl
  where
    by : (b : Bool) → pointwise nat_eq other name ≡ b → count_in new other ≡ cond b count (count_in old other)
    by true e = ap (λ n. unwrap_or (lookup (is_key n) new.entries) 0) (same_text other name (sym e)) ∙ ap (λ o. unwrap_or o 0) here
    by false e = ap (λ o. unwrap_or o 0) (keeps (is_key other) (is_test other) (apart name other e))
