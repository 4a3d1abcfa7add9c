-- What stays while one file is written.
use Rattle.std.proofs.Common.{◌≡◌, ◌≢◌, ℕ, ◌+◌, ◌-◌, ◌≤◌, List, [], ◌++◌, length, take, drop, unwrap_or, IsTrue, Option, Some, sym, ◌∙◌, ap, subst, arith, length-drop}
use Rattle.std.proofs.Math.Seq.{take-add}
use Rattle.std.proofs.lemmas.List.{take_all}
use Rattle.ck_ports.specs.declared.files.Mode.TheVariants.{Writing}
use Rattle.ck_ports.specs.Faults.{CountsAt}
use Rattle.ck_ports.specs.Outside.{Outside, SameFiles, SameOtherFiles, Appends, AppendsPrefix, HoldsPrefix, content_of}
use Rattle.ck_ports.proofs.Counts.{counts_both, counts_named}

-- the same file is open for writing, and nothing but its bytes and the writing count has changed
pub record Wrote (old new : Outside) : Type 0 where
  pub mode : new.mode ≡ Writing
  pub open_name : new.open_name ≡ old.open_name
  pub others : SameOtherFiles old.open_name old new
  pub writing : CountsAt old.tells old.open_name old.writing new.writing
  pub reading : new.reading ≡ old.reading
  pub tells : new.tells ≡ old.tells

-- after one more write
pub wrote_on : (old mid new : Outside) → Wrote old mid → Wrote mid new → Wrote old new
wrote_on old mid new before then = record {
  mode = then.mode;
  open_name = then.open_name ∙ before.open_name;
  others = λ other apart. then.others other (λ same. apart (same ∙ before.open_name)) ∙ before.others other apart;
  writing = counts_both old.tells old.open_name old.writing mid.writing new.writing before.writing
      (counts_named old.tells mid.tells old.open_name mid.open_name mid.writing new.writing before.tells (λ _. before.open_name) then.writing);
  reading = then.reading ∙ before.reading;
  tells = then.tells ∙ before.tells;
}

-- what is left of the bytes, as a range of them
abbrev rest : List ℕ → ℕ → List ℕ
rest bytes done = take (length bytes - done) (drop done bytes)

whole_rest : (bytes : List ℕ) (done : ℕ) → rest bytes done ≡ drop done bytes
whole_rest bytes done = take_all (length bytes - done) (drop done bytes) (omega (arith, length-drop done bytes))

-- the open file holds the first bytes, and some of the others come behind them
pub holds_on : (bytes : List ℕ) (done n : ℕ) (name : List ℕ) (mid new : Outside) → mid.open_name ≡ name → mid.file name ≡ Some (take done bytes)
    → Appends (take n (rest bytes done)) mid new → new.file name ≡ Some (take (done + n) bytes)
holds_on bytes done n name mid new opened held appends =
    let content : content_of mid ≡ take done bytes = ap (λ o. unwrap_or o []) (ap mid.file opened ∙ held) in
    ap new.file (sym opened) ∙ appends
    ∙ ap (λ l. Some (l ++ take n (rest bytes done))) content
    ∙ ap (λ l. Some (take done bytes ++ take n l)) (whole_rest bytes done)
    ∙ ap Some (sym (take-add done n bytes))

pub prefix_on : (bytes : List ℕ) (done : ℕ) (name : List ℕ) (mid new : Outside) → done ≤ length bytes → mid.open_name ≡ name → mid.file name ≡ Some (take done bytes)
    → AppendsPrefix (rest bytes done) mid new → HoldsPrefix name bytes new
prefix_on bytes done name mid new within opened held appends =
    let fits : length (rest bytes done) ≡ length bytes - done = ap length (whole_rest bytes done) ∙ length-drop done bytes in
    (done + appends.0, omega (arith, appends.1, fits), holds_on bytes done appends.0 name mid new opened held appends.2)

-- the writing count of a file that was opened, written and closed
pub counts_closed : (name : List ℕ) (old opened written new : Outside) → opened.tells ≡ old.tells → (IsTrue old.tells → opened.open_name ≡ name)
    → written.tells ≡ opened.tells → written.open_name ≡ opened.open_name
    → CountsAt old.tells name old.writing opened.writing → CountsAt opened.tells opened.open_name opened.writing written.writing
    → CountsAt written.tells written.open_name written.writing new.writing → CountsAt old.tells name old.writing new.writing
counts_closed name old opened written new told open_name tells same first then last =
    counts_both old.tells name old.writing written.writing new.writing
    (counts_both old.tells name old.writing opened.writing written.writing first
    (counts_named old.tells opened.tells name opened.open_name opened.writing written.writing told open_name then))
    (counts_named old.tells written.tells name written.open_name written.writing new.writing (tells ∙ told) (λ t. same ∙ open_name t) last)

-- no other file than the one that was opened, written and closed has changed
pub others_closed : (name : List ℕ) (old opened written new : Outside) → (IsTrue old.tells → opened.open_name ≡ name)
    → SameOtherFiles name old opened → SameOtherFiles opened.open_name opened written → SameFiles written new
    → IsTrue old.tells → SameOtherFiles name old new
others_closed name old opened written new open_name first then last told other apart =
    last other ∙ then other (λ same. apart (same ∙ open_name told)) ∙ first other apart
