-- How a look-up goes on along a chain, and how chains grow.
use Rattle.std.proofs.Common.{◌≡◌, ℕ, ◌+◌, ◌-◌, ◌≤◌, ◌<◌, suc, Bool, true, false, cond, ◌&&◌, ◌||◌, nat_le, nat_lt, min, max, List, [], ◌∷◌, ◌++◌, length, take, Some, None, refl, sym, ◌∙◌, ap, subst, arith, get_or}
use Rattle.std.specs.Prelude.{slice_get}
use Rattle.std.proofs.lemmas.Bool.Decides.{nat_tests}
use Rattle.std.proofs.lemmas.List.{take_all, take-append-le, length-append}
use Rattle.std.proofs.lemmas.Option.{slice_get-get_or, slice_get_read, slice_get_within}
use Rattle.c_scopes.specs.declared.declaration.NameSpace.{NameSpace}
use Rattle.c_scopes.specs.declared.declaration.Declaration.{Declaration}
use Rattle.c_scopes.specs.declared.chain.Run.{Run}
use Rattle.c_scopes.specs.declared.chain.Link.{Link}
use Rattle.c_scopes.specs.declared.index.Index.{Index}
use Rattle.c_scopes.specs.Head.{head_of}
use Rattle.c_scopes.specs.Seen.{declares, has_name, is_seen, last_of, space_of}
use Rattle.c_scopes.specs.Chain.{AreHeads, IsIndex, IsLink, IsLinked, LeadsTo, Outside, always, is_outside}
use Rattle.c_scopes.proofs.Places.{slice_get-append, slice_get-last, take-more}
use Rattle.c_scopes.proofs.LastOf.{last_of-push}
use Rattle.c_scopes.proofs.LastSeen.{name_of}

-- ---- tests

unseen_not : (space : NameSpace) (name : List ℕ) (place : ℕ) (d : Declaration) → is_seen place d.seen ≡ false → declares space name place d ≡ false
unseen_not space name place d e = by (has_name space name d)
  where
    by : (b : Bool) → (b && is_seen place d.seen) ≡ false
    by true = e
    by false = refl

declared : (space : NameSpace) (name : List ℕ) (place : ℕ) (d : Declaration) → has_name space name d ≡ true → is_seen place d.seen ≡ true → declares space name place d ≡ true
declared space name place d named seen = rw (named, seen) refl

unnamed_not : (space : NameSpace) (name : List ℕ) (place : ℕ) (d : Declaration) → has_name space name d ≡ false → declares space name place d ≡ false
unnamed_not space name place d e = ap (λ b. b && is_seen place d.seen) e

-- ---- a step back

module _ (space : NameSpace) (name : List ℕ) where
  -- past a declaration that isn't the answer
  passed : (ds : List Declaration) (k : ℕ) (d : Declaration) (place : ℕ) → slice_get ds k ≡ Some d → declares space name place d ≡ false
      → last_of (declares space name place) (take (k + 1) ds) ≡ last_of (declares space name place) (take k ds)
  passed ds k d place at not =
      let e : k + 1 ≡ suc k = omega arith in
      rw (e, take-more ds k d at, last_of-push (declares space name place) (take k ds) d, not) refl

  found : (ds : List Declaration) (k : ℕ) (d : Declaration) (place : ℕ) → slice_get ds k ≡ Some d → declares space name place d ≡ true
      → last_of (declares space name place) (take (k + 1) ds) ≡ Some d
  found ds k d place at seen =
      let e : k + 1 ≡ suc k = omega arith in
      rw (e, take-more ds k d at, last_of-push (declares space name place) (take k ds) d, seen) refl

  pub then_on : (ds : List Declaration) (At Less : ℕ → Type 0) (n m k : ℕ) → LeadsTo ds space name Less n m → LeadsTo ds space name At m k
      → ((place : ℕ) → Less place → At place) → LeadsTo ds space name Less n k
  then_on ds At Less n m k a b within = record {
    back = let p = a.back in let q = b.back in omega arith;
    own = b.own;
    none_between = λ place h. a.none_between place h ∙ b.none_between place (within place h);
  }

  pub step_back : (ds : List Declaration) (At Less : ℕ → Type 0) (k m : ℕ) (d : Declaration) → slice_get ds k ≡ Some d
      → ((place : ℕ) → Less place → declares space name place d ≡ false) → LeadsTo ds space name At k m
      → ((place : ℕ) → Less place → At place) → LeadsTo ds space name Less (k + 1) m
  step_back ds At Less k m d at not b within = record {
    back = let q = b.back in omega arith;
    own = b.own;
    none_between = λ place h. passed ds k d place at (not place h) ∙ b.none_between place (within place h);
  }

  -- one more declaration at the end
  pub still : (ds : List Declaration) (d : Declaration) (At : ℕ → Type 0) (n m : ℕ) → n ≤ length ds → LeadsTo ds space name At n m
      → LeadsTo (ds ++ d ∷ []) space name At n m
  still ds d At n m within a = record {
    back = a.back;
    own = λ e some at. let p = a.back in a.own e some (sym (slice_get-append ds (d ∷ []) (m - 1) (omega arith)) ∙ at);
    none_between = λ place h. let p = a.back in rw (take-append-le n ds (d ∷ []) within, take-append-le m ds (d ∷ []) (omega arith)) (a.none_between place h);
  }

pub less : (ds : List Declaration) (space : NameSpace) (name : List ℕ) (At Less : ℕ → Type 0) (n m : ℕ) → LeadsTo ds space name At n m
    → ((place : ℕ) → Less place → At place) → LeadsTo ds space name Less n m
less ds space name At Less n m a within = record { back = a.back; own = a.own; none_between = λ place h. a.none_between place (within place h) }

-- by the name of a declaration that has it
pub for_name : (ds : List Declaration) (space : NameSpace) (name : List ℕ) (At : ℕ → Type 0) (n m : ℕ) (d : Declaration) → has_name space name d ≡ true
    → LeadsTo ds (space_of d.entity) d.name At n m → LeadsTo ds space name At n m
for_name ds space name At n m d has a =
    let same = name_of space name d has in
    subst (λ (s : NameSpace). LeadsTo ds s name At n m) same.0 (subst (λ (w : List ℕ). LeadsTo ds (space_of d.entity) w At n m) same.1 a)

-- ---- a look-up at one place

abbrev Here : ℕ → ℕ → Type 0
Here place p = p ≡ place

module _ (ds : List Declaration) (ls : List Link) (space : NameSpace) (name : List ℕ) (place at : ℕ) (d : Declaration) (l : Link) where
  -- where a look-up has come so far, and the declaration and the link that it looks at
  pub record IsAt : Type 0 where
    pub linked : IsLinked ds ls
    pub led : LeadsTo ds space name (Here place) (length ds) at
    pub some : 0 < at
    pub read_d : d ≡ get_or ds (at - 1) d
    pub read_l : l ≡ get_or ls (at - 1) l

  is_d : IsAt → slice_get ds (at - 1) ≡ Some d
  is_d a = let p = a.led.back in let q = a.some in slice_get_read ds (length ds) (at - 1) d refl (omega arith) a.read_d

  is_l : IsAt → slice_get ls (at - 1) ≡ Some l
  is_l a = let p = a.led.back in let q = a.some in let r = a.linked.each in slice_get_read ls (length ls) (at - 1) l refl (omega arith) a.read_l

  named : IsAt → has_name space name d ≡ true
  named a = a.led.own d a.some (is_d a)

  link : IsAt → IsLink ds (at - 1) d l
  link a = a.linked.links (at - 1) d l (is_d a) (is_l a)

  again : IsAt → at ≡ at - 1 + 1
  again a = let p = a.some in omega arith

  pub left_out : IsAt → is_outside l.run place ≡ true → LeadsTo ds space name (Here place) (length ds) l.run.before
  left_out a outside =
      let on : LeadsTo ds space name (Outside l.run) (at - 1 + 1) l.run.before = for_name ds space name (Outside l.run) (at - 1 + 1) l.run.before d (named a) (link a).run in
      let from : LeadsTo ds space name (Outside l.run) at l.run.before = subst (λ (n : ℕ). LeadsTo ds space name (Outside l.run) n l.run.before) (sym (again a)) on in
      then_on space name ds (Outside l.run) (Here place) (length ds) at l.run.before a.led from
      (λ p here. subst (λ (q : ℕ). is_outside l.run q ≡ true) (sym here) outside)

  pub gone_on : IsAt → is_seen place d.seen ≡ false → LeadsTo ds space name (Here place) (length ds) l.before
  gone_on a unseen =
      let on : LeadsTo ds space name always (at - 1) l.before = for_name ds space name always (at - 1) l.before d (named a) (link a).before in
      let stepped : LeadsTo ds space name (Here place) (at - 1 + 1) l.before =
      step_back space name ds always (Here place) (at - 1) l.before d (is_d a)
      (λ p here. subst (λ (q : ℕ). declares space name q d ≡ false) (sym here) (unseen_not space name place d unseen)) on (λ p here. tt) in
      let from : LeadsTo ds space name (Here place) at l.before = subst (λ (n : ℕ). LeadsTo ds space name (Here place) n l.before) (sym (again a)) stepped in
      then_on space name ds (Here place) (Here place) (length ds) at l.before a.led from (λ p here. here)

  pub is_found : IsAt → is_seen place d.seen ≡ true → Some d ≡ last_of (declares space name place) ds
  is_found a seen =
      sym (sym (ap (last_of (declares space name place)) (take_all (length ds) ds (omega arith)))
      ∙ a.led.none_between place refl
      ∙ ap (λ n. last_of (declares space name place) (take n ds)) (again a)
      ∙ found space name ds (at - 1) d place (is_d a) (declared space name place d (named a) seen))

  pub goes_back : IsAt → (l.before < at) × (l.run.before < at)
  goes_back a = let p = (link a).before.back in let q = (link a).back in let r = a.some in (omega arith, omega arith)

pub none_left : (ds : List Declaration) (space : NameSpace) (name : List ℕ) (place : ℕ) → LeadsTo ds space name (Here place) (length ds) 0
    → None ≡ last_of (declares space name place) ds
none_left ds space name place led = sym (sym (ap (last_of (declares space name place)) (take_all (length ds) ds (omega arith))) ∙ led.none_between place refl)

-- ---- one more declaration

not_between : (place : ℕ) (run : Run) (d : Declaration) → run.earliest ≡ d.seen.from → run.latest ≡ d.seen.to → is_outside run place ≡ true → is_seen place d.seen ≡ false
not_between place run d e f h =
    let g : (nat_lt place d.seen.from || nat_le d.seen.to place) ≡ true = rw (← e, ← f) h in
    by (nat_lt place d.seen.from) (nat_le d.seen.to place) (nat_le d.seen.from place) (nat_lt place d.seen.to) refl refl refl refl g
  where
    by : (a b x y : Bool) → nat_lt place d.seen.from ≡ a → nat_le d.seen.to place ≡ b → nat_le d.seen.from place ≡ x → nat_lt place d.seen.to ≡ y → (nat_lt place d.seen.from || nat_le d.seen.to place) ≡ true
        → (nat_le d.seen.from place && nat_lt place d.seen.to) ≡ false
    by a b x y ea eb ex ey g = grind (arith, nat_tests)

module _ (ds : List Declaration) (d : Declaration) where
  here : slice_get (ds ++ d ∷ []) (length ds) ≡ Some d
  here = slice_get-last ds d

  -- the run of a declaration by itself
  pub begun : (run : Run) → run.earliest ≡ d.seen.from → run.latest ≡ d.seen.to → LeadsTo ds (space_of d.entity) d.name always (length ds) run.before
      → LeadsTo (ds ++ d ∷ []) (space_of d.entity) d.name (Outside run) (length ds + 1) run.before
  begun run e f led =
      step_back (space_of d.entity) d.name (ds ++ d ∷ []) always (Outside run) (length ds) run.before d here
      (λ place h. unseen_not (space_of d.entity) d.name place d (not_between place run d e f h))
      (still (space_of d.entity) d.name ds d always (length ds) run.before (omega arith) led) (λ place h. tt)

  pub started : (before : ℕ) → LeadsTo ds (space_of d.entity) d.name always (length ds) before
      → LeadsTo (ds ++ d ∷ []) (space_of d.entity) d.name always (length ds) before
  started before led = still (space_of d.entity) d.name ds d always (length ds) before (omega arith) led

  -- joined with the run before it
  module _ (ls : List Link) (run joined : Run) (l : Link) where
    pub record IsJoined : Type 0 where
      pub linked : IsLinked ds ls
      pub leads : LeadsTo (ds ++ d ∷ []) (space_of d.entity) d.name (Outside run) (length ds + 1) run.before
      pub back : run.before ≤ length ds
      pub some : 0 < run.before
      pub read_l : l ≡ get_or ls (run.before - 1) l
      pub earliest : joined.earliest ≡ min run.earliest l.run.earliest
      pub latest : joined.latest ≡ max run.latest l.run.latest
      pub before : joined.before ≡ l.run.before

    link_before : IsJoined → IsLink ds (run.before - 1) (get_or ds (run.before - 1) d) l
    link_before j =
        let p = j.back in let q = j.some in let r = j.linked.each in
        j.linked.links (run.before - 1) (get_or ds (run.before - 1) d) l (slice_get-get_or ds (run.before - 1) d (omega arith))
        (slice_get_read ls (length ls) (run.before - 1) l refl (omega arith) j.read_l)

    pub joined_back : IsJoined → (l.run.before < run.before) × (l.run.length + l.run.before ≤ run.before)
    joined_back j = let p = (link_before j).back in let q = (link_before j).fits in let r = j.some in (omega arith, omega arith)

    outside_both : IsJoined → (place : ℕ) → Outside joined place → Outside run place × Outside l.run place
    outside_both j place h =
        let g : (nat_lt place (min run.earliest l.run.earliest) || nat_le (max run.latest l.run.latest) place) ≡ true = rw (← j.earliest, ← j.latest) h in
        (grind (arith, nat_tests), grind (arith, nat_tests))

    earlier : IsJoined → LeadsTo (ds ++ d ∷ []) (space_of d.entity) d.name (Outside l.run) run.before l.run.before
    earlier j =
        let k = run.before - 1 in
        let e = get_or ds k d in
        let p = j.back in let q = j.some in
        let at : slice_get ds k ≡ Some e = slice_get-get_or ds k d (omega arith) in
        let own : has_name (space_of d.entity) d.name e ≡ true = j.leads.own e j.some (slice_get-append ds (d ∷ []) k (omega arith) ∙ at) in
        let on : LeadsTo ds (space_of d.entity) d.name (Outside l.run) (k + 1) l.run.before = for_name ds (space_of d.entity) d.name (Outside l.run) (k + 1) l.run.before e own (link_before j).run in
        let again : k + 1 ≡ run.before = omega arith in
        still (space_of d.entity) d.name ds d (Outside l.run) run.before l.run.before j.back
        (subst (λ (n : ℕ). LeadsTo ds (space_of d.entity) d.name (Outside l.run) n l.run.before) again on)

    pub joined_leads : IsJoined → LeadsTo (ds ++ d ∷ []) (space_of d.entity) d.name (Outside joined) (length ds + 1) joined.before
    joined_leads j =
        let first : LeadsTo (ds ++ d ∷ []) (space_of d.entity) d.name (Outside joined) (length ds + 1) l.run.before =
        then_on (space_of d.entity) d.name (ds ++ d ∷ []) (Outside l.run) (Outside joined) (length ds + 1) run.before l.run.before
        (less (ds ++ d ∷ []) (space_of d.entity) d.name (Outside run) (Outside joined) (length ds + 1) run.before j.leads (λ place h. (outside_both j place h).0))
        (earlier j) (λ place h. (outside_both j place h).1) in
        subst (λ (n : ℕ). LeadsTo (ds ++ d ∷ []) (space_of d.entity) d.name (Outside joined) (length ds + 1) n) (sym j.before) first

  -- ---- the whole

  link_still : (k : ℕ) (e : Declaration) (l : Link) → k < length ds → IsLink ds k e l → IsLink (ds ++ d ∷ []) k e l
  link_still k e l within h = record {
    before = still (space_of e.entity) e.name ds d always k l.before (omega arith) h.before;
    run = still (space_of e.entity) e.name ds d (Outside l.run) (k + 1) l.run.before (omega arith) h.run;
    back = h.back;
    fits = h.fits;
  }

  pub linked_more : (ls : List Link) (l : Link) → IsLinked ds ls → IsLink (ds ++ d ∷ []) (length ds) d l → IsLinked (ds ++ d ∷ []) (ls ++ l ∷ [])
  linked_more ls l h new = record {
    each = let e = h.each in let p = length-append ls (l ∷ []) in let q = length-append ds (d ∷ []) in p ∙ ap (λ n. n + 1) e ∙ sym q;
    links = λ k e m at_e at_m. by k e m at_e at_m (nat_lt k (length ds)) refl;
  }
    where
      by : (k : ℕ) (e : Declaration) (m : Link) → slice_get (ds ++ d ∷ []) k ≡ Some e → slice_get (ls ++ l ∷ []) k ≡ Some m → (b : Bool) → nat_lt k (length ds) ≡ b
          → IsLink (ds ++ d ∷ []) k e m
      by k e m at_e at_m true t =
          let within : k < length ds = grind (arith, nat_tests) in
          let q = h.each in
          link_still k e m within
          (h.links k e m (sym (slice_get-append ds (d ∷ []) k within) ∙ at_e) (sym (slice_get-append ls (l ∷ []) k (omega arith)) ∙ at_m))
      by k e m at_e at_m false t =
          let past : length ds ≤ k = grind (arith, nat_tests) in
          let within = slice_get_within (ds ++ d ∷ []) k e at_e in
          let long = length-append ds (d ∷ []) in
          let is : k ≡ length ds = omega arith in
          let also : k ≡ length ls = is ∙ sym h.each in
          let same_d : Some d ≡ Some e = sym here ∙ ap (slice_get (ds ++ d ∷ [])) (sym is) ∙ at_e in
          let same_l : Some l ≡ Some m = sym (slice_get-last ls l) ∙ ap (slice_get (ls ++ l ∷ [])) (sym also) ∙ at_m in
          let d_is : d ≡ e = cc in
          let l_is : l ≡ m = cc in
          subst (λ (n : ℕ). IsLink (ds ++ d ∷ []) n e m) (sym is)
          (subst (λ (x : Declaration). IsLink (ds ++ d ∷ []) (length ds) x m) d_is (subst (λ (x : Link). IsLink (ds ++ d ∷ []) (length ds) d x) l_is new))

  own_head : (space : NameSpace) (name : List ℕ) → has_name space name d ≡ true → LeadsTo (ds ++ d ∷ []) space name always (length (ds ++ d ∷ [])) (length ds + 1)
  own_head space name named = record {
    back = let q = length-append ds (d ∷ []) in omega arith;
    own = λ e some at.
        let is : length ds + 1 - 1 ≡ length ds = omega arith in
        let same : Some d ≡ Some e = sym here ∙ ap (slice_get (ds ++ d ∷ [])) (sym is) ∙ at in
        let d_is : d ≡ e = cc in
        subst (λ (x : Declaration). has_name space name x ≡ true) d_is named;
    none_between = λ place h. ap (λ n. last_of (declares space name place) (take n (ds ++ d ∷ []))) (length-append ds (d ∷ []));
  }

  other_head : (space : NameSpace) (name : List ℕ) (n : ℕ) → has_name space name d ≡ false → LeadsTo ds space name always (length ds) n
      → LeadsTo (ds ++ d ∷ []) space name always (length (ds ++ d ∷ [])) n
  other_head space name n named led =
      let stepped : LeadsTo (ds ++ d ∷ []) space name always (length ds + 1) n =
      step_back space name (ds ++ d ∷ []) always always (length ds) n d here (λ place h. unnamed_not space name place d named)
      (still space name ds d always (length ds) n (omega arith) led) (λ place h. tt) in
      subst (λ (m : ℕ). LeadsTo (ds ++ d ∷ []) space name always m n) (sym (length-append ds (d ∷ []))) stepped

  pub heads_more : (old new : NameSpace → List ℕ → ℕ) → AreHeads ds old
      → ((space : NameSpace) (name : List ℕ) → new space name ≡ cond (has_name space name d) (length ds + 1) (old space name)) → AreHeads (ds ++ d ∷ []) new
  heads_more old new h is space name = by (has_name space name d) refl
    where
      by : (b : Bool) → has_name space name d ≡ b → LeadsTo (ds ++ d ∷ []) space name always (length (ds ++ d ∷ [])) (new space name)
      by true e =
          let n : new space name ≡ length ds + 1 = is space name ∙ ap (λ b. cond b (length ds + 1) (old space name)) e in
          subst (λ (m : ℕ). LeadsTo (ds ++ d ∷ []) space name always (length (ds ++ d ∷ [])) m) (sym n) (own_head space name e)
      by false e =
          let n : new space name ≡ old space name = is space name ∙ ap (λ b. cond b (length ds + 1) (old space name)) e in
          subst (λ (m : ℕ). LeadsTo (ds ++ d ∷ []) space name always (length (ds ++ d ∷ [])) m) (sym n) (other_head space name (old space name) e (h space name))

pub indexed : (x : Index) (ds : List Declaration) (ls : List Link) → x.declarations.items ≡ ds → x.links.items ≡ ls → IsLinked ds ls → AreHeads ds (head_of x.heads) → IsIndex x
indexed x ds ls e f linked heads = record {
  linked = subst (λ (es : List Declaration). IsLinked es x.links.items) (sym e) (subst (λ (ms : List Link). IsLinked ds ms) (sym f) linked);
  heads = subst (λ (es : List Declaration). AreHeads es (head_of x.heads)) (sym e) heads;
}
