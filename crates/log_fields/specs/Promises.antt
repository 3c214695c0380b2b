-- What is promised of the field that is told, as statements.
use Rattle.std.specs.Prelude.{ℕ, ◌≤◌, Bool, true, false, List, [], ◌∷◌, ◌++◌, ◌≡◌, length}
use Rattle.std.proofs.Math.Option.{Option, none, some}
use Rattle.rules.specs.Bytes.{every, is_byte}
use Rattle.rules.specs.Logs.{layout_ok}
use Rattle.log_fields.specs.Fields.{number_at, widest, Field, inside, fields, first_off}
use Rattle.log_fields.specs.Words.{off_text, off_line}

abbrev pub none? : {A : Type 0} → Option A → Bool
none? none = true
none? (some x) = false

-- A log is bytes.
abbrev pub Bytes : List ℕ → Type 0
Bytes l = every is_byte l ≡ true

-- "a log without such a field is not bad"; one with such a field is.
abbrev pub Decides : Type 0
Decides = (l : List ℕ) → Bytes l → layout_ok l ≡ none? (first_off l)

abbrev pub UpTo : ℕ → Option ℕ → Type 0
UpTo n none = Unit {0}
UpTo n (some most) = n ≤ most

-- At most so much, where there is a most.
abbrev pub Under : Option ℕ → Option ℕ → Type 0
Under none most = Unit {0}
Under (some n) most = UpTo n most

-- Numbers that a field could be: there is one, and the least and the most of them can stand where the field stands.
abbrev pub Possible : Field → Type 0
Possible f = UpTo f.least f.most × UpTo f.least (widest f.read) × Under f.most (widest f.read)

abbrev pub Right : Field → Type 0
Right f = (f.least ≤ f.found) × UpTo f.found f.most

-- A field that is told: "proved to be off"; the number told is the one that stands in the log at the index told; no field before it is off; and what it should be
-- are numbers that its bytes can hold.
pub record Told (l : List ℕ) (f : Field) : Type 0 where
  pub off : ¬ Right f
  pub stands : f.found ≡ number_at f.read l f.at
  pub before : List Field
  pub behind : List Field
  pub among : fields l ≡ before ++ f ∷ behind
  pub sound : every inside before ≡ true
  pub possible : Possible f

abbrev pub Tells : Type 0
Tells = (l : List ℕ) (f : Field) → first_off l ≡ some f → Told l f

-- A buffer of so many bytes has room for the line.
abbrev pub Longest : Type 0
Longest = (l : List ℕ) → length (off_line l) ≤ 163

pub record Promises : Type 0 where
  pub decides : Decides
  pub tells : Tells
  pub longest : Longest
