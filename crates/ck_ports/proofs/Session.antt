-- What stays while one file is read.
use Rattle.std.proofs.Common.{◌≡◌, ℕ, List, ◌++◌, take, drop, unwrap_or, [], sym, ◌∙◌, ap, append_assoc, arith, Option, Some, None, IsSome, ◌≤◌, length}
use Rattle.std.proofs.lemmas.List.{append-nil, drop-drop, take-append-drop}
use Rattle.ck_ports.specs.declared.files.Mode.TheVariants.{Reading}
use Rattle.ck_ports.specs.Faults.{CountsAt}
use Rattle.ck_ports.specs.Outside.{Outside, SameFiles, ReadsNext, content_of, rest_of}
use Rattle.ck_ports.proofs.Counts.{counts_both, counts_named}

-- the same file is open for reading, and nothing but its place and the reading count has changed
pub record Reads (old new : Outside) : Type 0 where
  pub mode : new.mode ≡ Reading
  pub open_name : new.open_name ≡ old.open_name
  pub files : SameFiles old new
  pub reading : CountsAt old.tells old.open_name old.reading new.reading
  pub writing : new.writing ≡ old.writing
  pub tells : new.tells ≡ old.tells

-- after one more read
pub reads_on : (old mid new : Outside) → Reads old mid → Reads mid new → Reads old new
reads_on old mid new before then = record {
  mode = then.mode;
  open_name = then.open_name ∙ before.open_name;
  files = λ name. then.files name ∙ before.files name;
  reading = counts_both old.tells old.open_name old.reading mid.reading new.reading before.reading
      (counts_named old.tells mid.tells old.open_name mid.open_name mid.reading new.reading before.tells (λ _. before.open_name) then.reading);
  writing = then.writing ∙ before.writing;
  tells = then.tells ∙ before.tells;
}

-- the open file holds what it held
pub same_content : (old new : Outside) → new.open_name ≡ old.open_name → SameFiles old new → content_of new ≡ content_of old
same_content old new open_name files = ap (λ o. unwrap_or o []) (ap new.file open_name ∙ files old.open_name)

-- the bytes of that read stand between what was read before and what is left
pub bytes_on : (first mid new : Outside) (n : ℕ) (buffer bytes : List ℕ) → Reads mid new → ReadsNext n buffer mid new → rest_of first ≡ bytes ++ rest_of mid → rest_of first ≡ (bytes ++ take n buffer) ++ rest_of new
bytes_on first mid new n buffer bytes then next so_far =
    so_far
    ∙ ap (λ l. bytes ++ l) (sym (take-append-drop n (rest_of mid)) ∙ ap (λ l. l ++ drop n (rest_of mid)) (sym next.bytes) ∙ ap (λ l. take n buffer ++ l) left)
    ∙ sym (append_assoc bytes (take n buffer) (rest_of new))
  where
    left : drop n (rest_of mid) ≡ rest_of new
    left = drop-drop n mid.place (content_of mid) ∙ ap (λ i. drop i (content_of mid)) (sym next.place) ∙ ap (λ l. drop new.place l) (sym (same_content mid new then.open_name then.files))

-- a file that is there and unchanged has a prefix of any piece appended: no byte
pub prefix_none : (piece : List ℕ) (before after : Option (List ℕ)) → IsSome before → after ≡ before → (n : ℕ) × (n ≤ length piece) × (after ≡ Some (unwrap_or before [] ++ take n piece))
prefix_none piece None after there same = (0, omega arith, cc)
prefix_none piece (Some bytes) after there same = (0, omega arith, same ∙ ap (λ l. Some l) (sym (append-nil bytes)))
