-- The walk over tokens finds each keyword at which a statement may begin, and no other.
use Rattle.std.proofs.Common.{◌≡◌, ℕ, zero, suc, ◌+◌, ◌-◌, ◌<◌, ◌≤◌, ◌⊎◌, inl, inr, Bool, true, false, List, [], ◌∷◌, ◌&&◌, length, drop, refl, sym, ap, ◌∙◌, subst, arith, Option, Some, None, slice_get, get_or, if◌then◌else◌, add-one, length-drop}
use Rattle.std.proofs.lemmas.List.{drop_more}
use Rattle.std.proofs.lemmas.Bool.{and_parts, and_from, cases_lt, both_ways}
use Rattle.std.proofs.lemmas.Option.{slice_get-get_or}
use Rattle.c_tokens.specs.declared.token.Token.{Token}
use Rattle.c_tokens.specs.Closers.{closer_at}
use Rattle.asm_statement.specs.declared.class.Class.{Class}
use Rattle.asm_statement.specs.declared.class.Class.TheVariants.{Keyword, Lead, Extension, Attribute, OpenParen, CloseParen, OpenBracket, CloseBracket, OpenBrace, CloseBrace, Semicolon, Colon}
use Rattle.asm_statement.specs.declared.beginning.Opened.{Opened}
use Rattle.asm_statement.specs.declared.beginning.Ready.{Ready}
use Rattle.asm_statement.specs.declared.beginning.Ready.TheVariants.{Unready, Plain, Attributed}
use Rattle.asm_statement.specs.declared.beginning.Before.{Before}
use Rattle.asm_statement.specs.declared.beginning.Beginning.{Beginning}
use Rattle.asm_statement.specs.Classes.{is_open_paren}
use Rattle.asm_statement.specs.Foreign.{begins_digraph}
use Rattle.asm_statement.specs.Source.{class_of, class_at}
use Rattle.asm_statement.specs.Beginnings.{innermost, in_block, is_head, is_attribute, is_ready, parenthesis, opened_behind, ready_behind_bracket, attributed, ready_behind, nothing_before, behind, begins, beginning_at, with_beginning, beginnings_from, beginnings_of}
use Rattle.asm_statement.specs.Laws.{class_before, leads, is_passed, holds_attributes, is_digraph_at, MayBegin, at_start, behind_lead, behind_head, behind_word, behind_attributes, behind_digraph}
use Rattle.asm_statement.proofs.MarkLaws.{opens_class, closes_class}
use Rattle.asm_statement.proofs.ClosingLaws.{class_known, class_there}
use Rattle.asm_statement.proofs.OpenLaws.{OpenAt, IsEntry, IsStack, stack_other, stack_open, stack_close, closes_innermost, top_closed}

-- ---- whether a statement may begin behind a class

ready_if : (s : Bool) (r : Ready) → is_ready r ≡ true → is_ready (if s then Attributed else r) ≡ true
ready_if true r h = refl
ready_if false r h = h

still_ready : (r : Ready) → is_ready r ≡ true → is_ready (attributed r) ≡ true
still_ready Unready h = h
still_ready Plain h = refl
still_ready Attributed h = refl

was_ready : (r : Ready) → is_ready (attributed r) ≡ true → is_ready r ≡ true
was_ready Unready h = h
was_ready Plain h = refl
was_ready Attributed h = refl

lead_ready : (c : Class) (opened : List Opened) (r : Ready) → leads c ≡ true
    → is_ready (ready_behind opened r c) ≡ true
lead_ready Semicolon opened r h = refl
lead_ready OpenBrace opened r h = refl
lead_ready CloseBrace opened r h = refl
lead_ready Colon opened r h = refl
lead_ready Lead opened r h = refl
lead_ready _ opened r h = absurd (let no : false ≡ true = h in cc)

passed_ready : (c : Class) (opened : List Opened) (r : Ready) → is_passed c ≡ true → is_ready r ≡ true
    → is_ready (ready_behind opened r c) ≡ true
passed_ready Extension opened r h k = still_ready r k
passed_ready Attribute opened r h k = still_ready r k
passed_ready _ opened r h k = absurd (let no : false ≡ true = h in cc)

bracket_ready : (head attributes : Bool) → (head ≡ true) ⊎ (attributes ≡ true)
    → is_ready (if head then Plain else if attributes then Attributed else Unready) ≡ true
bracket_ready true a h = refl
bracket_ready false true h = refl
bracket_ready false false (inl h) = absurd (let no : false ≡ true = h in cc)
bracket_ready false false (inr h) = absurd (let no : false ≡ true = h in cc)

ready_bracket : (head attributes : Bool)
    → is_ready (if head then Plain else if attributes then Attributed else Unready) ≡ true
    → (head ≡ true) ⊎ (attributes ≡ true)
ready_bracket true a h = inl refl
ready_bracket false true h = inr refl
ready_bracket false false h = absurd (let no : false ≡ true = h in cc)

closing_ready : (c : Class) (opened : List Opened) (r : Ready) (o : Opened) → closes_class c ≡ true
    → innermost opened ≡ Some o
    → (o.head ≡ true) ⊎ (o.attributes ≡ true) → is_ready (ready_behind opened r c) ≡ true
closing_ready CloseParen opened r o h top either = rw top (bracket_ready o.head o.attributes either)
closing_ready CloseBracket opened r o h top either = rw top (bracket_ready o.head o.attributes either)
closing_ready CloseBrace opened r o h top either = refl
closing_ready _ opened r o h top either = absurd (let no : false ≡ true = h in cc)

module _ (text : List ℕ) (ts : List Token) where
  -- the token before the index is the first byte of a digraph
  abbrev digraph_before : ℕ → Bool
  digraph_before zero = false
  digraph_before (suc i) = is_digraph_at text ts i

  digraph_in : Option Token → Bool
  digraph_in = elim [ None ↦ false | Some t ↦ begins_digraph text t ]

  digraph_known : (i : ℕ) (t : Token) → slice_get ts i ≡ Some t → is_digraph_at text ts i ≡ begins_digraph text t
  unfolding digraph_in
  digraph_known i t is = ap digraph_in is

  -- the state of the walk before the token k
  pub record IsWalked (k : ℕ) (opened : List Opened) (b : Before) : Type 0 where
    pub stack : IsStack text ts k opened
    pub class : b.class ≡ class_before text ts k
    pub split : b.split ≡ digraph_before k
    pub sound : is_ready b.ready ≡ true → MayBegin text ts k
    pub complete : MayBegin text ts k → is_ready b.ready ≡ true

  walk_start : IsWalked 0 [] nothing_before
  walk_start = record {
    stack = record { stack = []; same = refl; are_open = tt; each = λ o c low high is. absurd (omega (arith, low)) };
    class = refl;
    split = refl;
    sound = λ _. at_start;
    complete = λ _. refl;
  }

  -- ---- one token

  module _ (k : ℕ) (opened : List Opened) (b : Before) (walked : IsWalked k opened b) where
    entry_paren : class_at text ts k ≡ OpenParen → IsEntry text ts (record { at = k; opened = parenthesis opened b })
    entry_paren is =
        let same : is_attribute b.class ≡ is_attribute (class_before text ts k) = ap is_attribute walked.class in
        let held : holds_attributes (class_before text ts k) (class_at text ts k) ≡ is_attribute
        (class_before text ts k) = rw is refl in
        record {
          head = rw is (ap is_head walked.class);
          may_begin = λ a. walked.sound (and_parts (is_attribute b.class) (is_ready b.ready) a).1;
          holds = λ a. held ∙ sym same ∙ (and_parts (is_attribute b.class) (is_ready b.ready) a).0;
          held = λ m h. and_from (is_attribute b.class) (is_ready b.ready) (same ∙ sym held ∙ h) (walked.complete m);
        }

    entry_bracket : class_at text ts k ≡ OpenBracket
        → IsEntry text ts (record {
          at = k;
          opened = record {
            head = false;
            attributes = is_ready b.ready;
            block =
                in_block opened;
          };
        })
    entry_bracket is = record {
      head = rw is refl;
      may_begin = walked.sound;
      holds = λ _. rw is refl;
      held = λ m _. walked.complete m;
    }

    entry_brace : class_at text ts k ≡ OpenBrace
        → IsEntry text ts (record { at = k; opened = record { head = false; attributes = false; block = true } })
    entry_brace is = record {
      head = rw is refl;
      may_begin = λ a. absurd (let no : false ≡ true = a in cc);
      holds = λ a. absurd (let no : false ≡ true = a in cc);
      held = λ m h. rw is at h;
    }

    module _ (lt : k < length ts) where
      stack_step : (c : Class) → class_at text ts k ≡ c → IsStack text ts (k + 1) (opened_behind opened b c)
      stack_step OpenParen is = stack_open text ts k lt opened (parenthesis opened b) (ap opens_class is)
          (entry_paren is) walked.stack
      stack_step OpenBracket is = stack_open text ts k lt opened
          (record { head = false; attributes = is_ready b.ready; block = in_block opened }) (ap opens_class is)
          (entry_bracket is) walked.stack
      stack_step OpenBrace is = stack_open text ts k lt opened
          (record { head = false; attributes = false; block = true }) (ap opens_class is)
          (entry_brace is) walked.stack
      stack_step CloseParen is = stack_close text ts k lt opened (ap opens_class is) (ap closes_class is) walked.stack
      stack_step CloseBracket is = stack_close text ts k lt opened (ap opens_class is)
          (ap closes_class is) walked.stack
      stack_step CloseBrace is = stack_close text ts k lt opened (ap opens_class is) (ap closes_class is) walked.stack
      stack_step _ is = stack_other text ts k lt opened (ap opens_class is) (ap closes_class is) walked.stack

      -- behind what closes the innermost bracket
      behind_top : closes_class (class_at text ts k) ≡ true → (top : Option Opened) → innermost opened ≡ top
          → is_ready (ready_behind_bracket top) ≡ true → MayBegin text ts (k + 1)
      behind_top closes None top h = absurd (let no : false ≡ true = h in cc)
      behind_top closes (Some o) top h =
          let t = top_closed text ts k opened o lt closes walked.stack top in
          let entry = t.is_entry in
          elim (ready_bracket o.head o.attributes h) [
            | inl head ↦
                let both = and_parts (is_open_paren (class_at text ts t.at)) (is_head (class_before text ts t.at))
                (sym entry.head ∙ head) in
                behind_head t.at k both.0 both.1 t.closed
            | inr attributes ↦ behind_attributes t.at k (entry.may_begin attributes) (entry.holds attributes) t.closed
          ]

      ready_sound : (c : Class) → class_at text ts k ≡ c → is_ready (ready_behind opened b.ready c) ≡ true
          → MayBegin text ts (k + 1)
      ready_sound Semicolon is h = behind_lead k (ap leads is)
      ready_sound OpenBrace is h = behind_lead k (ap leads is)
      ready_sound CloseBrace is h = behind_lead k (ap leads is)
      ready_sound Colon is h = behind_lead k (ap leads is)
      ready_sound Lead is h = behind_lead k (ap leads is)
      ready_sound Extension is h = behind_word k (walked.sound (was_ready b.ready h)) (ap is_passed is)
      ready_sound Attribute is h = behind_word k (walked.sound (was_ready b.ready h)) (ap is_passed is)
      ready_sound CloseParen is h = behind_top (ap closes_class is) (innermost opened) refl h
      ready_sound CloseBracket is h = behind_top (ap closes_class is) (innermost opened) refl h
      ready_sound _ is h = absurd (let no : false ≡ true = h in cc)

      digraph_sound : (i : ℕ) → k ≡ i → digraph_before i ≡ true → MayBegin text ts (k + 1)
      digraph_sound zero same h = absurd (let no : false ≡ true = h in cc)
      digraph_sound (suc i) same h =
          let there : i + 2 ≡ k + 1 = omega arith in
          subst (MayBegin text ts) there (behind_digraph i h)

      step_sound : (c : Class) → class_at text ts k ≡ c → (s : Bool) → b.split ≡ s
          → is_ready (if s then Attributed else ready_behind opened b.ready c) ≡ true → MayBegin text ts (k + 1)
      step_sound c is true split h = digraph_sound k refl (sym walked.split ∙ split)
      step_sound c is false split h = ready_sound c is h

      digraph_is : (i : ℕ) → i + 2 ≡ k + 1 → digraph_before k ≡ is_digraph_at text ts i
      digraph_is i same = let there : k ≡ suc i = omega arith in rw there refl

      complete_word : (c : Class) (i : ℕ) → class_at text ts k ≡ c → i ≡ k → MayBegin text ts i
          → is_passed (class_at text ts i) ≡ true → is_ready (ready_behind opened b.ready c) ≡ true
      complete_word c i is same m h =
          let here : is_passed c ≡ true = sym (ap is_passed is)
          ∙ ap (λ (j : ℕ). is_passed (class_at text ts j)) (sym same) ∙ h in
          passed_ready c opened b.ready here (walked.complete (subst (MayBegin text ts) same m))

      complete_closer : (c : Class) (o : ℕ) → class_at text ts k ≡ c → closer_at text ts o ≡ Some k
          → ((entry : OpenAt) → entry.at ≡ o → IsEntry text ts entry → (entry.opened.head ≡ true) ⊎
          (entry.opened.attributes ≡ true))
          → is_ready (ready_behind opened b.ready c) ≡ true
      complete_closer c o is closed which =
          let inner = closes_innermost text ts k o opened walked.stack closed in
          closing_ready c opened b.ready inner.entry.opened (sym (ap closes_class is)
          ∙ inner.closes) inner.top (which inner.entry inner.index inner.is_entry)

      is_head_at : (o : ℕ) → is_open_paren (class_at text ts o) ≡ true → is_head (class_before text ts o) ≡ true
          → (entry : OpenAt) → entry.at ≡ o → IsEntry text ts entry → entry.opened.head ≡ true
      is_head_at o paren head entry same is =
          let P : ℕ → Type 0 = λ j. (is_open_paren (class_at text ts j) && is_head (class_before text ts j)) ≡ true in
          is.head ∙ subst P (sym same) (and_from (is_open_paren (class_at text ts o)) (is_head
          (class_before text ts o)) paren head)

      holds_at : (o : ℕ) → MayBegin text ts o
          → holds_attributes (class_before text ts o) (class_at text ts o) ≡ true → (entry : OpenAt)
          → entry.at ≡ o → IsEntry text ts entry → entry.opened.attributes ≡ true
      holds_at o m h entry same is =
          let P : ℕ → Type 0 = λ j. holds_attributes (class_before text ts j) (class_at text ts j) ≡ true in
          is.held (subst (MayBegin text ts) (sym same) m) (subst P (sym same) h)

      step_complete : (c : Class) → class_at text ts k ≡ c → (m : ℕ) → MayBegin text ts m → m ≡ k + 1
          → is_ready (if b.split then Attributed else ready_behind opened b.ready c) ≡ true
      step_complete c is _ at_start e = absurd (omega arith)
      step_complete c is _ (behind_lead i h) e =
          let same : k ≡ i = omega arith in
          let here : leads c ≡ true = sym (ap leads is) ∙ ap (λ (j : ℕ). leads (class_at text ts j)) same ∙ h in
          ready_if b.split (ready_behind opened b.ready c) (lead_ready c opened b.ready here)
      step_complete c is _ (behind_head o i paren head closed) e =
          let same : i ≡ k = omega arith in
          ready_if b.split (ready_behind opened b.ready c)
          (complete_closer c o is (closed
          ∙ ap (λ (j : ℕ). Some j) same) (λ entry at is_entry. inl (is_head_at o paren head entry at is_entry)))
      step_complete c is _ (behind_word i m h) e =
          let same : i ≡ k = omega arith in
          ready_if b.split (ready_behind opened b.ready c) (complete_word c i is same m h)
      step_complete c is _ (behind_attributes o i m h closed) e =
          let same : i ≡ k = omega arith in
          ready_if b.split (ready_behind opened b.ready c)
          (complete_closer c o is (closed
          ∙ ap (λ (j : ℕ). Some j) same) (λ entry at is_entry. inr (holds_at o m h entry at is_entry)))
      step_complete c is _ (behind_digraph i h) e =
          let split : b.split ≡ true = walked.split ∙ digraph_is i e ∙ h in
          rw split refl

      walk_step : (t : Token) → slice_get ts k ≡ Some t
          → IsWalked (k + 1) (opened_behind opened b (class_of text t)) (behind text opened b t)
      walk_step t there =
          let is : class_at text ts k ≡ class_of text t = class_known text ts k t there in
          record {
            stack = stack_step (class_of text t) is;
            class = rw add-one (sym is);
            split = rw add-one (sym (digraph_known k t there));
            sound = step_sound (class_of text t) is b.split refl;
            complete = λ m. step_complete (class_of text t) is (k + 1) m refl;
          }

  -- ---- all tokens

  -- keywords from the index k on, upwards, at which a statement may begin
  abbrev pub AreKeywords : ℕ → List Beginning → Type 0
  AreKeywords k [] = Unit {0}
  AreKeywords k (b ∷ bs) = (k ≤ b.at) × (b.at < length ts) ×
      (class_at text ts b.at ≡ Keyword) × MayBegin text ts b.at × AreKeywords (b.at + 1) bs

  abbrev pub IsBegun : ℕ → List Beginning → Type 0
  IsBegun i [] = ⊥
  IsBegun i (b ∷ bs) = (b.at ≡ i) ⊎ IsBegun i bs

  -- from the index k on
  pub record IsFound (k : ℕ) (bs : List Beginning) : Type 0 where
    pub keywords : AreKeywords k bs
    pub each : (i : ℕ) → k ≤ i → class_at text ts i ≡ Keyword → IsBegun i bs ⊎ (MayBegin text ts i → ⊥)

  lower : (k l : ℕ) (bs : List Beginning) → k ≤ l → AreKeywords l bs → AreKeywords k bs
  lower k l [] le h = tt
  lower k l (b ∷ bs) le h = (omega (arith, le, h.0), h.1, h.2, h.3, h.4)

  begins_parts : (c : Class) (r : Ready) → begins c r ≡ true → (c ≡ Keyword) × (is_ready r ≡ true)
  begins_parts Keyword r h = (refl, h)
  begins_parts _ r h = absurd (let no : false ≡ true = h in cc)

  abbrev is_keyword_class : Class → Bool
  is_keyword_class Keyword = true
  is_keyword_class _ = false

  keyword_there : (i : ℕ) → class_at text ts i ≡ Keyword → i < length ts
  keyword_there i is = class_there text ts is_keyword_class refl i (ap is_keyword_class is)

  found_end : (k : ℕ) → [] ≡ drop k ts → IsFound k []
  found_end k none = record {
    keywords = tt;
    each = λ i le is.
        let there = keyword_there i is in
        let size = length-drop k ts in
        let empty : 0 ≡ length (drop k ts) = ap length none in
        absurd (omega (arith, le, there, size, empty));
  }

  found_one : (k : ℕ) (opened : List Opened) (b : Before) (c : Class) (bs : List Beginning) → k < length ts
      → class_at text ts k ≡ c → IsWalked k opened b
      → IsFound (k + 1) bs → (s : Bool) → begins c b.ready ≡ s → IsFound k (with_beginning s
      (beginning_at k opened b) bs)
  found_one k opened b c bs lt is walked rest true test =
      let parts = begins_parts c b.ready test in
      record {
        keywords = (omega arith, lt, is ∙ parts.0, walked.sound parts.1, rest.keywords);
        each = λ i le keyword. elim (cases_lt k i) [
          | inl behind_it ↦ elim (rest.each i (omega arith) keyword) [
            | inl begun ↦ inl
                (inr begun)
            | inr none ↦ inr none
          ]
          | inr here ↦ inl (inl (omega (arith, le, here)))
        ];
      }
  found_one k opened b c bs lt is walked rest false test = record {
    keywords = lower k (k + 1) bs (omega arith) rest.keywords;
    each = λ i le keyword. elim (cases_lt k i) [
      | inl behind_it ↦ rest.each i (omega arith) keyword
      | inr here ↦
          let same : i ≡ k = omega (arith, le, here) in
          let is_keyword : c ≡ Keyword = sym is ∙ ap (λ (j : ℕ). class_at text ts j) (sym same) ∙ keyword in
          let not_ready : is_ready b.ready ≡ false = rw is_keyword at test in
          inr (λ m. both_ways (is_ready b.ready) not_ready (walked.complete (subst (MayBegin text ts) same m)))
    ];
  }

  pub next_there : (k : ℕ) (t : Token) (rest : List Token) → t ∷ rest ≡ drop k ts
      → (k < length ts) × (slice_get ts k ≡ Some t) × (rest ≡ drop (k + 1) ts)
  next_there k t rest is =
      let size = length-drop k ts in
      let some : suc (length rest) ≡ length (drop k ts) = ap length is in
      let lt : k < length ts = omega (arith, size, some) in
      let both : t ∷ rest ≡ get_or ts k t ∷ drop (k + 1) ts = is ∙ drop_more ts k t lt in
      let first : t ≡ get_or ts k t = cc in
      let behind_it : rest ≡ drop (k + 1) ts = cc in
      (lt, slice_get-get_or ts k t lt ∙ ap (λ (x : Token). Some x) (sym first), behind_it)

  found_from : (rest : List Token) (k : ℕ) (opened : List Opened) (b : Before) → rest ≡ drop k ts
      → IsWalked k opened b → IsFound k (beginnings_from text opened b k rest)
  unfolding beginnings_from
  found_from [] k opened b is walked = found_end k is
  found_from (t ∷ rest) k opened b is walked =
      let there = next_there k t rest is in
      let class_is : class_at text ts k ≡ class_of text t = class_known text ts k t there.1 in
      found_one k opened b (class_of text t) (beginnings_from text (opened_behind opened b (class_of text t))
      (behind text opened b t) (k + 1) rest) there.0 class_is walked
      (found_from rest (k + 1) (opened_behind opened b (class_of text t)) (behind text opened b t) there.2
      (walk_step k opened b walked there.0 t there.1))
      (begins (class_of text t) b.ready) refl

  pub all_found : IsFound 0 (beginnings_of text ts)
  all_found = found_from ts 0 [] nothing_before refl walk_start
