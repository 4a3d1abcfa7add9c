-- The steps of the search, on what is found.
use Rattle.std.proofs.Common.{◌≡◌, ◌≢◌, ◌⊎◌, inl, inr, ℕ, ◌<◌, ◌||◌, List, [], ◌∷◌, length, Bool, true, false, slice_index, slice_index_or, refl, sym, ap, subst, ◌∙◌, arith}
use Rattle.std.proofs.lemmas.Bool.{cases_eq, cases_Bool, or_cases}
use Rattle.std.proofs.Math.Bool.{or-true}
use Rattle.std.proofs.lemmas.List.{get_or-set_other, length-set}
use Rattle.dataflow.specs.declared.rows.Rows.{Rows}
use Rattle.dataflow.specs.declared.work.Work.{Work}
use Rattle.dataflow.specs.Bits.{facts_in, row_of}
use Rattle.dataflow.specs.Cause.{HasOneCause}
use Rattle.dataflow.specs.Solving.{IsSolving}
use Rattle.dataflow.specs.Working.{row_in, found_in, is_pending, IsBlank, Takes, Flows, FlowsAlong}
use Rattle.dataflow.proofs.SolvingLemmas.{IsFlow, begun, visited}

again : (a m : Bool) → (a || m) ≡ ((a || m) || m)
again true m = refl
again false true = refl
again false false = refl

-- what has flowed to a node makes no difference the second time
pub flows_again : (to : ℕ) (old new : Work) → Flows to old new → Flows to new new
flows_again to old new flows = record {
  shape = record { width = refl; words = refl; nodes = refl };
  next = refl;
  each = λ n.
      let joined = flows.each n in
      let same = again (facts_in (row_in old to) n) (facts_in old.next.items n) in
      joined ∙ same ∙ ap (λ a. a || facts_in old.next.items n) (sym joined)
      ∙ ap (λ row. facts_in (row_in new to) n || facts_in row n) (sym flows.next);
  others = λ j differs. refl;
  kept = λ i is. is;
  noted = λ i lt quiet. refl;
  left = omega arith;
}

module _ {F : Type 0} (number : F → ℕ) where
  module _ (size to : ℕ) (next : F → Bool) (old new : Work) (flows : Flows to old new)
      (nodes : length old.pending.items ≡ size)
      (is_next : (fact : F) → facts_in old.next.items (number fact) ≡ next fact) where
    joined : (fact : F) → found_in number new to fact ≡ (found_in number old to fact || next fact)
    joined fact = flows.each (number fact) ∙ ap (λ b. found_in number old to fact || b) (is_next fact)

    beside : (j : ℕ) (fact : F) → j ≢ to → found_in number new j fact ≡ found_in number old j fact
    beside j fact differs = ap (λ row. facts_in row (number fact)) (flows.others j differs)

    flow_only : (j : ℕ) (fact : F) → found_in number new j fact ≡ true
        → (found_in number old j fact ≡ true) ⊎ ((j ≡ to) × (next fact ≡ true))
    flow_only j fact has = elim (cases_eq j to) [
      | inr differs ↦ inl (sym (beside j fact differs) ∙ has)
      | inl same ↦
          let here : found_in number new to fact ≡ true = subst (λ n. found_in number new n fact ≡ true) same has in
          elim (or_cases (found_in number old to fact) (next fact) (sym (joined fact) ∙ here)) [
            | inl before ↦ inl (subst (λ n. found_in number old n fact ≡ true) (sym same) before)
            | inr given ↦ inr (same, given)
          ]
    ]

    flow_kept : (j : ℕ) (fact : F) → found_in number old j fact ≡ true → found_in number new j fact ≡ true
    flow_kept j fact had = elim (cases_eq j to) [
      | inr differs ↦ beside j fact differs ∙ had
      | inl same ↦
          let here : found_in number old to fact ≡ true = subst (λ n. found_in number old n fact ≡ true) same had in
          subst (λ n. found_in number new n fact ≡ true) (sym same) (joined fact ∙ ap (λ b. b || next fact) here)
    ]

    flow_quiet : (i : ℕ) → i < size → is_pending new i ≡ false
        → (is_pending old i ≡ false) × (found_in number new i ≡ found_in number old i)
    flow_quiet i lt quiet =
        let same : found_in number new i ≡ found_in number old i = ap (λ row fact. facts_in row (number fact))
        (flows.noted i (omega arith) quiet) in
        elim (cases_Bool (is_pending old i)) [
          | inl was ↦ let wrong : true ≡ false = sym (flows.kept i was) ∙ quiet in absurd cc
          | inr none ↦ (none, same)
        ]

    pub is_flow : IsFlow size to next (found_in number old) (found_in number new) (is_pending old) (is_pending new)
    is_flow = record {
      only = flow_only;
      kept = flow_kept;
      given = λ fact has. joined fact ∙ ap (λ b. found_in number old to fact || b) has
          ∙ or-true (found_in number old to fact);
      quiet = flow_quiet;
    }

  module _ (size : ℕ) (goes : ℕ → ℕ → ℕ) (start : F → Bool) (after : ℕ → (F → Bool) → F → Bool)
      (one_cause : (i : ℕ) → HasOneCause (after i)) where
    -- the start flows into rows that are blank
    pub begins : (blank filled new : Work) → IsBlank blank → filled.rows ≡ blank.rows
        → filled.pending.items ≡ blank.pending.items
        → length blank.pending.items ≡ size → (row : List ℕ) → filled.next.items ≡ row
        → ((fact : F) → facts_in row (number fact) ≡ start fact) → Flows 0 filled new
        → IsSolving size goes start after (found_in number new) (is_pending new)
    begins blank filled new is_blank rows pending nodes row now is_start flows =
        begun size goes start after one_cause (found_in number filled) (found_in number new) (is_pending filled)
        (is_pending new)
        (λ j fact. ap (λ (all : Rows). facts_in (row_of all.width all.words.items j) (number fact)) rows
        ∙ is_blank.rows j (number fact))
        (is_flow size 0 start filled new flows (ap length pending ∙ nodes)
        (λ fact. ap (λ words. facts_in words (number fact)) now ∙ is_start fact))

    -- a node is visited
    pub visits : (at : ℕ) (old taken made new : Work) → at < size → length old.pending.items ≡ size
        → Takes at old taken
        → made.rows ≡ taken.rows → made.pending.items ≡ taken.pending.items
        → (row before : List ℕ) → made.next.items ≡ row → before ≡ taken.next.items
        → ((fact : F) → facts_in row (number fact) ≡ after at (λ other. facts_in before (number other)) fact)
        → (goals : List ℕ) → goals ≡ goes at 0 ∷ goes at 1 ∷ [] → FlowsAlong goals made new
        → IsSolving size goes start after (found_in number old) (is_pending old)
        → IsSolving size goes start after (found_in number new) (is_pending new)
    visits at old taken made new inside nodes takes rows pending row before now was makes goals are flows solving =
        let one = flows.between in
        let first : Flows (goes at 0) made one = subst (λ l. Flows (slice_index l 0) made one) are flows.first in
        let second : Flows (goes at 1) one new = subst (λ l. Flows (slice_index l 1) one new) are flows.second in
        let same : found_in number made ≡ found_in number old =
        ap {B = ℕ → F → Bool} (λ (all : Rows) j fact. facts_in (row_of all.width all.words.items j) (number fact))
        (rows ∙ takes.rows) in
        let next = after at (found_in number old at) in
        let is_next : (fact : F) → facts_in made.next.items (number fact) ≡ next fact =
        λ fact. ap (λ words. facts_in words (number fact)) now ∙ makes fact
        ∙ ap (λ words. after at (λ other. facts_in words (number other)) fact) (was ∙ takes.next) in
        let is_still : (fact : F) → facts_in one.next.items (number fact) ≡ next fact =
        λ fact. ap (λ row. facts_in row (number fact)) first.next ∙ is_next fact in
        let marks = pending ∙ takes.pending in
        let made_nodes : length made.pending.items ≡ size = ap length marks ∙ length-set old.pending.items at false
        ∙ nodes in
        let flow_one = subst (λ found. IsFlow size (goes at 0) next found (found_in number one) (is_pending made)
        (is_pending one)) same
        (is_flow size (goes at 0) next made one first made_nodes is_next) in
        let flow_two = is_flow size (goes at 1) next one new second (first.shape.nodes ∙ made_nodes) is_still in
        visited size goes start after one_cause at inside (found_in number old) (found_in number one)
        (found_in number new)
        (is_pending old) (is_pending made) (is_pending one) (is_pending new)
        (λ i differs. ap (λ all. slice_index_or all i false) marks
        ∙ get_or-set_other old.pending.items at i false false differs)
        solving flow_one flow_two
