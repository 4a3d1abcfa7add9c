-- The members of a struct or union from an index on.
use Rattle.std.proofs.Common.{◌≡◌, ℕ, zero, suc, ◌+◌, ◌-◌, ◌≤◌, Bool, true, false, List, [], ◌∷◌, length, drop, Option, Some, None, refl, ap, sym, ◌∙◌, inl, inr, arith}
use Rattle.std.specs.Prelude.{slice_get, if◌then◌else◌}
use Rattle.std.specs.Option.{option_and_then}
use Rattle.std.proofs.lemmas.Option.{slice_get_within, slice_get_cases, slice_get_past, get_or_from_slice_get}
use Rattle.std.proofs.lemmas.List.{drop_more, drop_all}
use Rattle.c_types.specs.declared.ctype.CType.{CType}
use Rattle.c_types.specs.declared.tag.Tags.{Tags}
use Rattle.c_types.specs.declared.tag.Tag.{Tag}
use Rattle.c_types.specs.Types.{known_tag}
use Rattle.c_values.specs.Members.{first_member, member_in, is_named, anonymous, or_else}

drop_at : {A : Type 0} (xs : List A) (k : ℕ) (x : A) → slice_get xs k ≡ Some x → drop k xs ≡ x ∷ drop (k + 1) xs
drop_at xs k x e = drop_more xs k x (slice_get_within xs k x e) ∙ ap (λ y. y ∷ drop (k + 1) xs) (get_or_from_slice_get xs k x x e)

past : {A : Type 0} (xs : List A) (k : ℕ) → slice_get xs k ≡ None → length xs ≤ k
past xs k e = elim (slice_get_cases xs k).1 [
  | inl w ↦ cc
  | inr w ↦ w.0
]

drop_past : {A : Type 0} (xs : List A) (k : ℕ) → slice_get xs k ≡ None → drop k xs ≡ []
drop_past xs k e = drop_all k xs (past xs k e)

without_members : (deeper : ℕ → Option CType) (wanted : List ℕ) (names : List (List ℕ)) → first_member deeper wanted names [] ≡ None
unfolding first_member
without_members deeper wanted [] = refl
without_members deeper wanted (name ∷ names) = refl

-- what is found at an element
abbrev here : (ℕ → Option CType) → Bool → Option ℕ → CType → Option CType → Option CType
here deeper named inner t rest = if named then Some t else or_else (option_and_then deeper inner) rest

at_both : (deeper : ℕ → Option CType) (wanted : List ℕ) (names : List (List ℕ)) (members : List CType) (k : ℕ) (name : List ℕ) (t : CType)
    → slice_get names k ≡ Some name → slice_get members k ≡ Some t
    → first_member deeper wanted (drop k names) (drop k members)
    ≡ here deeper (is_named name wanted) (anonymous name t) t (first_member deeper wanted (drop (k + 1) names) (drop (k + 1) members))
unfolding first_member
at_both deeper wanted names members k name t n m =
    ap (λ (ns : List (List ℕ)). first_member deeper wanted ns (drop k members)) (drop_at names k name n)
    ∙ ap (λ (ms : List CType). first_member deeper wanted (name ∷ drop (k + 1) names) ms) (drop_at members k t m)

module _ (depth : ℕ) (tags : Tags) (place : ℕ) (wanted : List ℕ) (names : List (List ℕ)) (members : List CType) (k : ℕ) where
  -- what the members from the index on give
  abbrev from : ℕ → Option CType
  from i = first_member (member_in depth tags place wanted) wanted (drop i names) (drop i members)

  pub named : (name : List ℕ) (t : CType) → slice_get names k ≡ Some name → slice_get members k ≡ Some t → is_named name wanted ≡ true → from k ≡ Some t
  named name t n m e =
      at_both (member_in depth tags place wanted) wanted names members k name t n m
      ∙ ap (λ (b : Bool). here (member_in depth tags place wanted) b (anonymous name t) t (from (k + 1))) e

  other : (name : List ℕ) (t : CType) → slice_get names k ≡ Some name → slice_get members k ≡ Some t → is_named name wanted ≡ false
      → from k ≡ or_else (option_and_then (member_in depth tags place wanted) (anonymous name t)) (from (k + 1))
  other name t n m e =
      at_both (member_in depth tags place wanted) wanted names members k name t n m
      ∙ ap (λ (b : Bool). here (member_in depth tags place wanted) b (anonymous name t) t (from (k + 1))) e

  pub passed : (name : List ℕ) (t : CType) → slice_get names k ≡ Some name → slice_get members k ≡ Some t → is_named name wanted ≡ false
      → anonymous name t ≡ None → from k ≡ from (k + 1)
  passed name t n m e a =
      other name t n m e ∙ ap (λ (i : Option ℕ). or_else (option_and_then (member_in depth tags place wanted) i) (from (k + 1))) a

  inner : (name : List ℕ) (t : CType) (i : ℕ) (o : Option CType) → slice_get names k ≡ Some name → slice_get members k ≡ Some t → is_named name wanted ≡ false
      → anonymous name t ≡ Some i → member_in depth tags place wanted i ≡ o → from k ≡ or_else o (from (k + 1))
  inner name t i o n m e a d =
      other name t n m e ∙ ap (λ (j : Option ℕ). or_else (option_and_then (member_in depth tags place wanted) j) (from (k + 1))) a
      ∙ ap (λ (p : Option CType). or_else p (from (k + 1))) d

  pub found : (name : List ℕ) (t : CType) (i : ℕ) (u : CType) → slice_get names k ≡ Some name → slice_get members k ≡ Some t → is_named name wanted ≡ false
      → anonymous name t ≡ Some i → member_in depth tags place wanted i ≡ Some u → from k ≡ Some u
  found name t i u n m e a d = inner name t i (Some u) n m e a d

  pub missed : (name : List ℕ) (t : CType) (i : ℕ) → slice_get names k ≡ Some name → slice_get members k ≡ Some t → is_named name wanted ≡ false
      → anonymous name t ≡ Some i → member_in depth tags place wanted i ≡ None → from k ≡ from (k + 1)
  missed name t i n m e a d = inner name t i None n m e a d

  pub no_name : slice_get names k ≡ None → from k ≡ None
  unfolding first_member
  no_name e = ap (λ (ns : List (List ℕ)). first_member (member_in depth tags place wanted) wanted ns (drop k members)) (drop_past names k e)

  pub no_member : slice_get members k ≡ None → from k ≡ None
  no_member e =
      ap (first_member (member_in depth tags place wanted) wanted (drop k names)) (drop_past members k e) ∙ without_members (member_in depth tags place wanted) wanted (drop k names)

  pub at_end : length members ≤ k → from k ≡ None
  at_end le = no_member (slice_get_past members k le)

pub opened : (depth : ℕ) (tags : Tags) (place : ℕ) (wanted : List ℕ) (number : ℕ) (tag : Tag) → (depth ≡ 0 → ⊥) → known_tag tags number place ≡ Some tag
    → first_member (member_in (depth - 1) tags place wanted) wanted (drop 0 tag.names) (drop 0 tag.members) ≡ member_in depth tags place wanted number
unfolding member_in
opened zero tags place wanted number tag d e = absurd (d refl)
opened (suc depth) tags place wanted number tag d e =
    let pred : suc depth - 1 ≡ depth = omega arith in
    ap (λ n. first_member (member_in n tags place wanted) wanted tag.names tag.members) pred
    ∙ sym (ap (option_and_then (λ (g : Tag). first_member (member_in depth tags place wanted) wanted g.names g.members)) e)

pub too_deep : (depth : ℕ) (tags : Tags) (place : ℕ) (wanted : List ℕ) (number : ℕ) → depth ≡ 0 → member_in depth tags place wanted number ≡ None
unfolding member_in
too_deep depth tags place wanted number e = ap (λ d. member_in d tags place wanted number) e

pub unknown : (depth : ℕ) (tags : Tags) (place : ℕ) (wanted : List ℕ) (number : ℕ) → known_tag tags number place ≡ None → member_in depth tags place wanted number ≡ None
unfolding member_in
unknown zero tags place wanted number e = refl
unknown (suc depth) tags place wanted number e =
    ap (option_and_then (λ (g : Tag). first_member (member_in depth tags place wanted) wanted g.names g.members)) e

pub ruleset member_steps = (named, passed, found, missed, no_name, no_member, at_end, opened, too_deep, unknown)
