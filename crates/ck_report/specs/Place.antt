-- Places as code holds them.
use Rattle.std.specs.Prelude.{◌≡◌, ℕ, List}
use Rattle.ck_report.specs.Report.{place_text}
use Rattle.ck_report.specs.declared.place.Place.{Place}

-- a line and a column of the named file
pub record IsPlaceOf (p : Place) (file : List ℕ) (place : ℕ × ℕ) : Type 0 where
  pub name : p.name.now ≡ file
  pub line : p.line ≡ place.0
  pub column : p.column ≡ place.1

-- with which its lines begin
abbrev pub beginning : Place → List ℕ
beginning p = place_text p.name.now (p.line, p.column)
