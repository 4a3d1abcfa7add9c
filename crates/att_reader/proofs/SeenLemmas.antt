-- Which names have been seen after one more.
use Rattle.std.proofs.Common.{◌≡◌, ℕ, Bool, true, false, List, [], ◌∷◌, map, Vec, refl, sym, ◌∙◌, ap, ◌||◌, not, MatchBool}
use Rattle.std.specs.declared.alloc.Global.{Global}
use Rattle.std.specs.List.{list_any}
use Rattle.std.specs.List.Sorted.{IsPermutation}
use Rattle.std.proofs.lemmas.List.Sorted.{list_any-IsPermutation}
use Rattle.std.specs.Cmp.Lexicographic.{same_text}
use Rattle.asm_core.specs.Reading.Cut.{same_name}
use Rattle.att_reader.specs.declared.seen.Seen.{Seen}
use Rattle.att_reader.specs.Seen.{has_seen}

abbrev Key : Type 0
Key = Vec ℕ Global

any_items : (p : List ℕ → Bool) (ks : List Key) → list_any p (map (λ (n : Key). n.items) ks) ≡ list_any (λ (n : Key). p n.items) ks
any_items p [] = refl
any_items p (k ∷ ks) = ap (λ b. p k.items || b) (any_items p ks)

pub has_seen-keys : (s : Seen) (name : List ℕ) → has_seen s name ≡ list_any (λ (n : Key). same_name name n.items) s.names.keys
has_seen-keys s name = any_items (same_name name) s.names.keys

pub seen_added : (old new : Seen) (key : Key) (added : Bool) (other : List ℕ) → MatchBool added (IsPermutation (key ∷ old.names.keys) new.names.keys) (new.names.keys ≡ old.names.keys)
    → added ≡ not (list_any (λ (n : Key). same_name key.items n.items) old.names.keys) → has_seen new other ≡ (same_name other key.items || has_seen old other)
seen_added old new key true other puts e =
    rw (has_seen-keys new other, has_seen-keys old other) (sym (list_any-IsPermutation (λ (n : Key). same_name other n.items) (key ∷ old.names.keys) new.names.keys puts))
seen_added old new key false other puts e =
    rw (has_seen-keys new other, has_seen-keys old other, puts) (by (same_name other key.items) refl (list_any (λ (n : Key). same_name key.items n.items) old.names.keys) refl e)
  where
    by : (b : Bool) → same_name other key.items ≡ b → (here : Bool) → list_any (λ (n : Key). same_name key.items n.items) old.names.keys ≡ here → false ≡ not here
        → list_any (λ (n : Key). same_name other n.items) old.names.keys ≡ (b || list_any (λ (n : Key). same_name other n.items) old.names.keys)
    by false s here h n = refl
    by true s true h n = ap (λ (name : List ℕ). list_any (λ (k : Key). same_name name k.items) old.names.keys) (same_text other key.items (sym s)) ∙ h
    by true s false h n = cc
