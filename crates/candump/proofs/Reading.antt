-- Reading byte by byte is reading the line: what the rest of a line means in each phase, and that one byte more keeps the meaning.
use Prim.Native.Nat.{ℕ, zero, suc, ◌+◌, ◌-◌, ◌*◌, ◌%◌, ◌≤◌, ◌<◌}
use native.Mathlib.Nat.{add-zero, zero-add}
use native.Mathlib.Numerals.{add-one}
use native.Mathlib.Omega.{arith}
use mathlib.Core.Bool.{Bool, true, false, cond, ◌&&◌, ◌||◌, false≢true, and-false, and-true, or-false}
use mathlib.Core.List.{List, [], ◌∷◌, ◌++◌, append-nil}
use mathlib.Core.Path.{◌≡◌, refl, sym, ◌∙◌, ap, ap₂}
use lib.Dec.{leb, ltb, eqb}
use lib.ListN.{length, take, set, replicate, length-set}
use lib.Seq.{take-suc-set, append_snoc}
use borrow.Author.Tests.{eq-eqb, ne_eqb, eqb-true, eqb-false, le-leb, lt-leb, ltb-true, ltb-false}
use Rattle.candump.specs.Text.{between, Space, Hex, Printable, is, run, past, worth, pairs}
use Rattle.candump.specs.Lines.{Line, blank, unreadable, other, frame, front, rest, none, is_direction, ends, is_data, is_remote, is_fd, classic, content}
use Rattle.candump.specs.Lines.{is_identifier, identifier, identified, unnamed, named, timed, micros, seconds, opened, bare, whole, read}
use Rattle.candump.specs.Reading.{more, microseconds, can_id, classic_found, after, stored, next, ended, line_of, read_on, hopeless, Reads}
use Rattle.candump.specs.Reading.{Hopeless}
use Rattle.candump.specs.declared.Found.{Found}
use Rattle.candump.specs.declared.Found.TheVariants.{Unreadable, Other, Frame}
use Rattle.candump.specs.declared.Phase.{Phase}
use Rattle.candump.specs.declared.Phase.TheVariants.{Start, Blanks, Seconds, Micros, Closed, BeforeName, Name, BeforeIdentifier, Identifier}
use Rattle.candump.specs.declared.Phase.TheVariants.{Data, Half, Remote, Fd, Behind, Spaced, Directed, Bad}
use Rattle.candump.specs.declared.Reader.{Reader}
use Rattle.candump.proofs.Grammar.{and-mid, run-yes, run-no, past-yes, past-no, worth-small, hex-not, ends_spaced, ends-step}
use Rattle.candump.proofs.Grammar.{spaced-step, none-step, whole-step, seconds-step, seconds-over, micros-step, micros-over}
use Rattle.candump.proofs.Grammar.{identified-step, identified-over, timed-step, named_step, unnamed-step}

-- The first digit of a pair stands before the rest.
abbrev paired : ℕ → List ℕ → List ℕ
paired h [] = []
paired h (c ∷ t) = (h % 16 * 16 + worth c) ∷ pairs t

pairs-cons : (c : ℕ) (t : List ℕ) → pairs (c ∷ t) ≡ paired (worth c) t
pairs-cons c [] = refl
pairs-cons c (d ∷ t) = let same : worth c * 16 + worth d ≡ worth c % 16 * 16 + worth d = omega (arith, worth-small c) in ap (λ (b : ℕ). b ∷ pairs t) same

-- Data behind n whole bytes of it, and behind one digit more; a CAN FD frame behind n digits.
data_from : ℕ → ℕ → ℕ → List ℕ → List ℕ → Line
data_from time id n d t =
    cond (eqb (length (run Hex t) % 2) 0 && leb (n * 2 + length (run Hex t)) 16 && ends (past Hex t)) (classic time id (take n d ++ pairs (run Hex t)))
    (cond (eqb n 0 && (is_remote t || is_fd t)) (other time) unreadable)

half_from : ℕ → ℕ → ℕ → ℕ → List ℕ → List ℕ → Line
half_from time id n h d t =
    cond (eqb (length (run Hex t) % 2) 1 && leb (n * 2 + 1 + length (run Hex t)) 16 && ends (past Hex t)) (classic time id (take n d ++ paired h (run Hex t)))
    unreadable

fd_from : ℕ → ℕ → List ℕ → Line
fd_from time n t = cond (eqb ((n + length (run Hex t)) % 2) 1 && leb (n + length (run Hex t)) 129 && ends (past Hex t)) (other time) unreadable

-- What a line is whose rest, without its CR, is t.
abbrev means : Phase → List ℕ → List ℕ → Line
means Start d t = whole t
means Blanks d t = cond (none (past Space t)) blank unreadable
means (Seconds n v) d t = seconds n v t
means (Micros s n v) d t = micros s n v t
means (Closed time) d t = timed time t
means (BeforeName time) d t = named time (past Space t)
means (Name time) d t = unnamed time (past Printable t)
means (BeforeIdentifier time) d t = identified time 0 0 (past Space t)
means (Identifier time n v) d t = identified time n v t
means (Data time id n) d t = data_from time id n d t
means (Half time id n h) d t = half_from time id n h d t
means (Remote time) d t = cond (ends (cond (between 48 56 (front t)) (rest t) t)) (other time) unreadable
means (Fd time n) d t = fd_from time n t
means (Behind f) d t = cond (ends t) (line_of f d) unreadable
means (Spaced f) d t = cond (ends_spaced t) (line_of f d) unreadable
means (Directed f) d t = cond (none (past Space t)) (line_of f d) unreadable
means Bad d t = unreadable

-- Every number of i digits is smaller.
unfoldable pub power : ℕ → ℕ
power zero = 1
power (suc i) = power i * 16

power-up : (n i : ℕ) → power i ≤ power (i + n)
unfolding power
power-up zero i = let same : i + 0 ≡ i = omega arith in rw same (omega arith)
power-up (suc n) i = let same : i + suc n ≡ suc (i + n) = omega arith in rw same (omega (arith, power-up n i))

pub power-ten : (i : ℕ) → i ≤ 10 → power i ≤ 0x10000000000
unfolding power
power-ten i h = let ten : i + (10 - i) ≡ 10 = omega arith in rw ten at (power-up (10 - i) i)

-- What is true of the numbers in every phase that a line leads to.
abbrev Fits : Phase → Type 0
Fits Start = Unit {0}
Fits Blanks = Unit {0}
Fits (Seconds n v) = (n ≤ 10) × (v < power n)
Fits (Micros s n v) = (s < 0x10000000000) × ((n ≤ 6) × (v < power n))
Fits (Closed t) = Unit {0}
Fits (BeforeName t) = Unit {0}
Fits (Name t) = Unit {0}
Fits (BeforeIdentifier t) = Unit {0}
Fits (Identifier t n v) = (n ≤ 8) × (v < power n)
Fits (Data t id n) = n ≤ 8
Fits (Half t id n h) = n < 8
Fits (Remote t) = Unit {0}
Fits (Fd t n) = n ≤ 129
Fits (Behind f) = Unit {0}
Fits (Spaced f) = Unit {0}
Fits (Directed f) = Unit {0}
Fits Bad = Unit {0}

fits-pick : (b : Bool) (p q : Phase) → (b ≡ true → Fits p) → (b ≡ false → Fits q) → Fits (cond b p q)
fits-pick true p q f g = f refl
fits-pick false p q f g = g refl

-- One digit more.
module _ (n v c : ℕ) (small : v < power n) (few : n ≤ 10) where
  pub same_more : (base : ℕ) → more base v c ≡ v * base + worth c
  same_more base = let same : v % 0x100000000000000 ≡ v = omega (arith, power-ten n few) in ap (λ (k : ℕ). k * base + worth c) same

  more-ten : n < 10 → more 10 v c < power (n % 16 + 1)
  unfolding power
  more-ten h = let one : n % 16 + 1 ≡ suc n = omega arith in rw (one, same_more 10) (omega (arith, worth-small c))

  pub more-sixteen : n < 10 → more 16 v c < power (n % 16 + 1)
  unfolding power
  more-sixteen h = let one : n % 16 + 1 ≡ suc n = omega arith in rw (one, same_more 16) (omega (arith, worth-small c))

keeps : (p : Phase) (c : ℕ) → Fits p → Fits (after p c)
unfolding after power
keeps Start c f = fits-pick (eqb c 32) Blanks _ (λ e. tt) (λ e. fits-pick (eqb c 40) (Seconds 0 0) Bad (λ x. (omega arith, omega arith)) (λ x. tt))
keeps Blanks c f = fits-pick (eqb c 32) Blanks Bad (λ e. tt) (λ e. tt)
keeps (Seconds n v) c f =
    fits-pick (between 48 57 c) _ _
    (λ e. fits-pick (ltb n 10) _ Bad (λ h. let few = ltb-true n 10 h in (omega arith, more-ten n v c f.1 f.0 few)) (λ x. tt))
    (λ e. fits-pick (between 1 10 n && eqb c 46) (Micros v 0 0) Bad (λ x. (omega (arith, power-ten n f.0, f.1), (omega arith, omega arith))) (λ x. tt))
keeps (Micros s n v) c f =
    fits-pick (between 48 57 c) _ _
    (λ e. fits-pick (ltb n 6) _ Bad
    (λ h. let few = ltb-true n 6 h in (f.0, (omega arith, more-ten n v c f.1.1 (omega (arith, f.1.0)) (omega arith)))) (λ x. tt))
    (λ e. fits-pick (eqb n 6 && eqb c 41) _ Bad (λ x. tt) (λ x. tt))
keeps (Closed t) c f = fits-pick (eqb c 32) (BeforeName t) Bad (λ e. tt) (λ e. tt)
keeps (BeforeName t) c f = fits-pick (eqb c 32) (BeforeName t) _ (λ e. tt) (λ e. fits-pick (is Printable c) (Name t) Bad (λ x. tt) (λ x. tt))
keeps (Name t) c f = fits-pick (is Printable c) (Name t) _ (λ e. tt) (λ e. fits-pick (eqb c 32) (BeforeIdentifier t) Bad (λ x. tt) (λ x. tt))
keeps (BeforeIdentifier t) c f =
    fits-pick (eqb c 32) (BeforeIdentifier t) _ (λ e. tt)
    (λ e. fits-pick (is Hex c) (Identifier t 1 (worth c)) Bad (λ x. (omega arith, omega (arith, worth-small c))) (λ x. tt))
keeps (Identifier t n v) c f =
    fits-pick (is Hex c) _ _
    (λ e. fits-pick (ltb n 8) _ Bad
    (λ h. let few = ltb-true n 8 h in (omega arith, more-sixteen n v c f.1 (omega (arith, f.0)) (omega arith))) (λ x. tt))
    (λ e. fits-pick (is_identifier n v && eqb c 35) (Data t (can_id n v) 0) Bad (λ x. omega arith) (λ x. tt))
keeps (Data t id n) c f =
    fits-pick (is Hex c) _ _ (λ e. fits-pick (ltb n 8) (Half t id n (worth c)) Bad (λ h. ltb-true n 8 h) (λ x. tt))
    (λ e. fits-pick (eqb c 32) _ _ (λ x. tt)
    (λ x. fits-pick (eqb n 0 && eqb c 82) (Remote t) _ (λ y. tt) (λ y. fits-pick (eqb n 0 && eqb c 35) (Fd t 0) Bad (λ z. omega arith) (λ z. tt))))
keeps (Half t id n h) c f = fits-pick (is Hex c) _ Bad (λ e. omega arith) (λ e. tt)
keeps (Remote t) c f = fits-pick (between 48 56 c) _ _ (λ e. tt) (λ e. fits-pick (eqb c 32) _ Bad (λ x. tt) (λ x. tt))
keeps (Fd t n) c f =
    fits-pick (is Hex c) _ _ (λ e. fits-pick (ltb n 129) _ Bad (λ h. omega arith) (λ x. tt))
    (λ e. fits-pick (eqb (n % 2) 1 && eqb c 32) _ Bad (λ x. tt) (λ x. tt))
keeps (Behind f) c x = fits-pick (eqb c 32) (Spaced f) Bad (λ e. tt) (λ e. tt)
keeps (Spaced f) c x = fits-pick (eqb c 32) (Spaced f) _ (λ e. tt) (λ e. fits-pick (is_direction c) (Directed f) Bad (λ y. tt) (λ y. tt))
keeps (Directed f) c x = fits-pick (eqb c 32) (Directed f) Bad (λ e. tt) (λ e. tt)
keeps Bad c f = tt

means-pick : (b : Bool) (p q : Phase) (d t : List ℕ) → means (cond b p q) d t ≡ cond b (means p d t) (means q d t)
means-pick true p q d t = refl
means-pick false p q d t = refl

found-classic : (time id n : ℕ) (d : List ℕ) → line_of (classic_found time id n) d ≡ classic time id (take n d)
unfolding classic
found-classic time id n d = go (leb id 0x9fffffff)
  where
    go : (b : Bool) → line_of (cond b (Frame time id n) (Other time)) d ≡ cond b (frame time id (take n d)) (other time)
    go true = refl
    go false = refl

odd_even : (k : ℕ) → eqb (suc k % 2) 0 ≡ eqb (k % 2) 1
odd_even k = go (eqb (k % 2) 1) refl
  where
    go : (b : Bool) → eqb (k % 2) 1 ≡ b → eqb (suc k % 2) 0 ≡ b
    go true e = eq-eqb (suc k % 2) 0 (omega (arith, eqb-true (k % 2) 1 e))
    go false e = ne_eqb (suc k % 2) 0 (λ z. eqb-false (k % 2) 1 e (omega arith))

even_odd : (k : ℕ) → eqb (suc k % 2) 1 ≡ eqb (k % 2) 0
even_odd k = go (eqb (k % 2) 0) refl
  where
    go : (b : Bool) → eqb (k % 2) 0 ≡ b → eqb (suc k % 2) 1 ≡ b
    go true e = eq-eqb (suc k % 2) 1 (omega (arith, eqb-true (k % 2) 0 e))
    go false e = ne_eqb (suc k % 2) 1 (λ z. eqb-false (k % 2) 0 e (omega arith))

module _ (c : ℕ) (d t : List ℕ) where
  -- After the content: a space, or nothing.
  behind-step : (x : Line) → cond (ends (c ∷ t)) x unreadable ≡ cond (eqb c 32) (cond (ends_spaced t) x unreadable) unreadable
  unfolding is
  behind-step x = ap (λ (b : Bool). cond b x unreadable) (ends-step c t) ∙ go (eqb c 32)
    where
      go : (b : Bool) → cond (cond b (ends_spaced t) false) x unreadable ≡ cond b (cond (ends_spaced t) x unreadable) unreadable
      go true = refl
      go false = refl

  seconds-more : (n v : ℕ) → Fits (Seconds n v) → means (Seconds n v) d (c ∷ t) ≡ means (after (Seconds n v) c) d t
  unfolding after is
  seconds-more n v f =
      seconds-step c t n v ∙ ap (λ (x : Line). cond (between 48 57 c) x (cond (between 1 10 n && eqb c 46) (micros v 0 0 t) unreadable)) (go (ltb n 10) refl)
      ∙ ap (cond (between 48 57 c) _) (sym (means-pick (between 1 10 n && eqb c 46) (Micros v 0 0) Bad d t))
      ∙ sym (means-pick (between 48 57 c) _ _ d t)
    where
      go : (b : Bool) → ltb n 10 ≡ b → seconds (n + 1) (v * 10 + worth c) t ≡ means (cond b (Seconds (n % 16 + 1) (more 10 v c)) Bad) d t
      go true e =
          let few = ltb-true n 10 e in
          let one : n + 1 ≡ n % 16 + 1 = omega arith in
          ap₂ (λ (k w : ℕ). seconds k w t) one (sym (same_more n v c f.1 f.0 10))
      go false e = seconds-over c t (n + 1) (v * 10 + worth c) (omega (arith, ltb-false n 10 e))

  micros-more : (s n v : ℕ) → Fits (Micros s n v) → means (Micros s n v) d (c ∷ t) ≡ means (after (Micros s n v) c) d t
  unfolding after is
  micros-more s n v f =
      micros-step c t n v s
      ∙ ap₂ (λ (x y : Line). cond (between 48 57 c) x (cond (eqb n 6 && eqb c 41) y unreadable)) (go (ltb n 6) refl) closes
      ∙ ap (cond (between 48 57 c) _) (sym (means-pick (eqb n 6 && eqb c 41) (Closed (microseconds s v)) Bad d t))
      ∙ sym (means-pick (between 48 57 c) _ _ d t)
    where
      closes : timed (s * 1000000 + v) t ≡ timed (microseconds s v) t
      closes =
          let same : s * 1000000 + v ≡ microseconds s v = omega (arith, f.0, f.1.1, power-ten n (omega (arith, f.1.0))) in
          ap (λ (k : ℕ). timed k t) same

      go : (b : Bool) → ltb n 6 ≡ b → micros s (n + 1) (v * 10 + worth c) t ≡ means (cond b (Micros s (n % 16 + 1) (more 10 v c)) Bad) d t
      go true e =
          let few = ltb-true n 6 e in
          let one : n + 1 ≡ n % 16 + 1 = omega arith in
          ap₂ (λ (k w : ℕ). micros s k w t) one (sym (same_more n v c f.1.1 (omega arith) 10))
      go false e = micros-over c t (n + 1) (v * 10 + worth c) s (omega (arith, ltb-false n 6 e))

  identifier-more : (time n v : ℕ) → Fits (Identifier time n v) → means (Identifier time n v) d (c ∷ t) ≡ means (after (Identifier time n v) c) d t
  unfolding after content is_data data_from
  identifier-more time n v f =
      identified-step c t n v time
      ∙ ap₂ (λ (x y : Line). cond (is Hex c) x (cond (is_identifier n v && eqb c 35) y unreadable)) (go (ltb n 8) refl) begins
      ∙ ap (cond (is Hex c) _) (sym (means-pick (is_identifier n v && eqb c 35) (Data time (can_id n v) 0) Bad d t))
      ∙ sym (means-pick (is Hex c) _ _ d t)
    where
      few : n ≤ 10
      few = omega (arith, f.0)

      begins : content time (identifier n v) t ≡ data_from time (can_id n v) 0 d t
      begins =
          let same : v % 0x100000000000000 ≡ v = omega (arith, f.1, power-ten n few) in
          rw (same, zero-add (length (run Hex t)))

      go : (b : Bool) → ltb n 8 ≡ b → identified time (n + 1) (v * 16 + worth c) t ≡ means (cond b (Identifier time (n % 16 + 1) (more 16 v c)) Bad) d t
      go true e =
          let small = ltb-true n 8 e in
          let one : n + 1 ≡ n % 16 + 1 = omega arith in
          ap₂ (λ (k w : ℕ). identified time k w t) one (sym (same_more n v c f.1 few 16))
      go false e = identified-over c t (n + 1) (v * 16 + worth c) time (omega (arith, ltb-false n 8 e))

  spaces-more : (time : ℕ) → means (BeforeName time) d (c ∷ t) ≡ means (after (BeforeName time) c) d t
  unfolding after is
  spaces-more time = go (is Space c) refl ∙ sym (means-pick (eqb c 32) (BeforeName time) (cond (is Printable c) (Name time) Bad) d t)
    where
      go : (b : Bool) → is Space c ≡ b →
          named time (past Space (c ∷ t)) ≡ cond b (named time (past Space t)) (means (cond (is Printable c) (Name time) Bad) d t)
      go true e = rw (past-yes Space c t e)
      go false e = rw (past-no Space c t e) (named_step c t time ∙ sym (means-pick (is Printable c) (Name time) Bad d t))

  name-more : (time : ℕ) → means (Name time) d (c ∷ t) ≡ means (after (Name time) c) d t
  unfolding after is
  name-more time = go (is Printable c) refl ∙ sym (means-pick (is Printable c) (Name time) (cond (eqb c 32) (BeforeIdentifier time) Bad) d t)
    where
      go : (b : Bool) → is Printable c ≡ b →
          unnamed time (past Printable (c ∷ t)) ≡ cond b (unnamed time (past Printable t)) (means (cond (eqb c 32) (BeforeIdentifier time) Bad) d t)
      go true e = rw (past-yes Printable c t e)
      go false e = rw (past-no Printable c t e) (unnamed-step c t time ∙ sym (means-pick (eqb c 32) (BeforeIdentifier time) Bad d t))

  gap_more : (time : ℕ) → means (BeforeIdentifier time) d (c ∷ t) ≡ means (after (BeforeIdentifier time) c) d t
  unfolding after is
  gap_more time = go (is Space c) refl ∙ sym (means-pick (eqb c 32) (BeforeIdentifier time) (cond (is Hex c) (Identifier time 1 (worth c)) Bad) d t)
    where
      go : (b : Bool) → is Space c ≡ b →
          identified time 0 0 (past Space (c ∷ t)) ≡ cond b (identified time 0 0 (past Space t)) (means (cond (is Hex c) (Identifier time 1 (worth c)) Bad) d t)
      go true e = rw (past-yes Space c t e)
      go false e =
          let one : 0 * 16 + worth c ≡ worth c = omega arith in
          rw (past-no Space c t e)
          (identified-step c t 0 0 time ∙ ap (λ (w : ℕ). cond (is Hex c) (identified time 1 w t) unreadable) one ∙ sym (means-pick (is Hex c) (Identifier time 1 (worth c)) Bad d t))

  data-more : (time id n : ℕ) → n ≤ 8 → means (Data time id n) d (c ∷ t) ≡ means (after (Data time id n) c) d t
  unfolding after data_from half_from fd_from is_remote is_fd is
  data-more time id n most = go (is Hex c) refl ∙ sym (means-pick (is Hex c) _ _ d t)
    where
      no_more : (b : Bool) → b ≡ false → cond (eqb n 0 && b) (other time) unreadable ≡ unreadable
      no_more b e = rw (e, and-false (eqb n 0))

      digit : (b : Bool) → ltb n 8 ≡ b → is Hex c ≡ true → means (Data time id n) d (c ∷ t) ≡ means (cond b (Half time id n (worth c)) Bad) d t
      digit true e h =
          let size : n * 2 + suc (length (run Hex t)) ≡ n * 2 + 1 + length (run Hex t) = omega arith in
          rw (
            run-yes Hex c t h,
            past-yes Hex c t h,
            odd_even (length (run Hex t)),
            size,
            pairs-cons c (run Hex t),
            hex-not c 82 h refl,
            hex-not c 35 h refl,
            and-false (eqb n 0),
          )
      digit false e h =
          let full = ltb-false n 8 e in
          let long : leb (n * 2 + suc (length (run Hex t))) 16 ≡ false = lt-leb (n * 2 + suc (length (run Hex t))) 16 (omega arith) in
          rw (
            run-yes Hex c t h,
            past-yes Hex c t h,
            and-mid (eqb (suc (length (run Hex t)) % 2) 0) _ (ends (past Hex t)) long,
            hex-not c 82 h refl,
            hex-not c 35 h refl,
            and-false (eqb n 0),
          )

      opens : (z r f : Bool) → eqb n 0 ≡ z → eqb c 82 ≡ r → eqb c 35 ≡ f →
          cond (z && ((r && ends (cond (between 48 56 (front t)) (rest t) t)) || (f && eqb (length (run Hex t) % 2) 1 && leb (length (run Hex t)) 129 && ends (past Hex t)))) (other time) unreadable
          ≡ means (cond (z && r) (Remote time) (cond (z && f) (Fd time 0) Bad)) d t
      opens false r f ez er ef = refl
      opens true true true ez er ef = absurd (false≢true (sym (ne_eqb c 35 (omega (arith, eqb-true c 82 er))) ∙ ef))
      opens true true false ez er ef = rw (or-false (ends (cond (between 48 56 (front t)) (rest t) t)))
      opens true false true ez er ef = rw (zero-add (length (run Hex t)))
      opens true false false ez er ef = refl

      ending : (b : Bool) → eqb c 32 ≡ b →
          cond (ends (c ∷ t)) (classic time id (take n d)) (cond (eqb n 0 && (is_remote (c ∷ t) || is_fd (c ∷ t))) (other time) unreadable)
          ≡ means (cond b (Spaced (classic_found time id n)) (cond (eqb n 0 && eqb c 82) (Remote time) (cond (eqb n 0 && eqb c 35) (Fd time 0) Bad))) d t
      ending true e =
          rw (ends-step c t, e, found-classic time id n d, ne_eqb c 82 (omega (arith, eqb-true c 32 e)), ne_eqb c 35 (omega (arith, eqb-true c 32 e)), and-false (eqb n 0))
      ending false e = rw (ends-step c t, e) (opens (eqb n 0) (eqb c 82) (eqb c 35) refl refl refl)

      go : (b : Bool) → is Hex c ≡ b → means (Data time id n) d (c ∷ t) ≡
          cond b (means (cond (ltb n 8) (Half time id n (worth c)) Bad) d t)
          (means (cond (eqb c 32) (Spaced (classic_found time id n)) (cond (eqb n 0 && eqb c 82) (Remote time) (cond (eqb n 0 && eqb c 35) (Fd time 0) Bad))) d t)
      go true h = digit (ltb n 8) refl h
      go false h =
          rw (run-no Hex c t h, past-no Hex c t h, add-zero (n * 2), le-leb (n * 2) 16 (omega arith), append-nil (take n d)) (ending (eqb c 32) refl)

  half-more : (time id n h : ℕ) → n < 8 → length d ≡ 8 → means (Half time id n h) d (c ∷ t) ≡ means (after (Half time id n h) c) (stored (Half time id n h) d c) t
  unfolding after stored data_from half_from
  half-more time id n h few long = go (is Hex c) refl ∙ sym (means-pick (is Hex c) (Data time id (n % 8 + 1)) Bad _ t)
    where
      byte : ℕ
      byte = h % 16 * 16 + worth c

      go : (b : Bool) → is Hex c ≡ b → half_from time id n h d (c ∷ t) ≡ cond b (data_from time id (n % 8 + 1) (set d (n % 8) (h % 16 * 16 + worth c)) t) unreadable
      go true e =
          let same : n % 8 ≡ n = omega arith in
          let size : n * 2 + 1 + suc (length (run Hex t)) ≡ suc n * 2 + length (run Hex t) = omega arith in
          rw (
            run-yes Hex c t e,
            past-yes Hex c t e,
            even_odd (length (run Hex t)),
            size,
            same,
            add-one n,
            ne_eqb (suc n) 0 (omega arith),
            take-suc-set d n (h % 16 * 16 + worth c) (omega arith),
            append_snoc (take n d) (h % 16 * 16 + worth c) (pairs (run Hex t)),
          )
      go false e = rw (run-no Hex c t e)

  remote-more : (time : ℕ) → means (Remote time) d (c ∷ t) ≡ means (after (Remote time) c) d t
  unfolding after
  remote-more time = go (between 48 56 c) ∙ sym (means-pick (between 48 56 c) _ _ d t)
    where
      go : (b : Bool) → cond (ends (cond b t (c ∷ t))) (other time) unreadable ≡
          cond b (cond (ends t) (other time) unreadable) (means (cond (eqb c 32) (Spaced (Other time)) Bad) d t)
      go true = refl
      go false = behind-step (other time) ∙ sym (means-pick (eqb c 32) (Spaced (Other time)) Bad d t)

  fd-more : (time n : ℕ) → n ≤ 129 → means (Fd time n) d (c ∷ t) ≡ means (after (Fd time n) c) d t
  unfolding after fd_from
  fd-more time n most = go (is Hex c) refl ∙ sym (means-pick (is Hex c) _ _ d t)
    where
      digit : (b : Bool) → ltb n 129 ≡ b → is Hex c ≡ true → fd_from time n (c ∷ t) ≡ means (cond b (Fd time (n % 129 + 1)) Bad) d t
      digit true e h =
          let few = ltb-true n 129 e in
          let one : n + suc (length (run Hex t)) ≡ n % 129 + 1 + length (run Hex t) = omega arith in
          rw (run-yes Hex c t h, past-yes Hex c t h, one)
      digit false e h =
          let full = ltb-false n 129 e in
          let long : leb (n + suc (length (run Hex t))) 129 ≡ false = lt-leb (n + suc (length (run Hex t))) 129 (omega arith) in
          rw (run-yes Hex c t h, past-yes Hex c t h, and-mid (eqb ((n + suc (length (run Hex t))) % 2) 1) _ (ends (past Hex t)) long)

      ending : (b : Bool) → cond (b && ends (c ∷ t)) (other time) unreadable ≡ means (cond (b && eqb c 32) (Spaced (Other time)) Bad) d t
      ending true = behind-step (other time) ∙ sym (means-pick (eqb c 32) (Spaced (Other time)) Bad d t)
      ending false = refl

      go : (b : Bool) → is Hex c ≡ b → fd_from time n (c ∷ t) ≡
          cond b (means (cond (ltb n 129) (Fd time (n % 129 + 1)) Bad) d t) (means (cond (eqb (n % 2) 1 && eqb c 32) (Spaced (Other time)) Bad) d t)
      go true h = digit (ltb n 129) refl h
      go false h = rw (run-no Hex c t h, past-no Hex c t h, add-zero n, le-leb n 129 most, and-true (eqb (n % 2) 1)) (ending (eqb (n % 2) 1))

  spaced-more : (f : Found) → means (Spaced f) d (c ∷ t) ≡ means (after (Spaced f) c) d t
  unfolding after is
  spaced-more f =
      ap (λ (b : Bool). cond b (line_of f d) unreadable) (spaced-step c t) ∙ go (eqb c 32) (is_direction c) ∙ sym (means-pick (eqb c 32) _ _ d t)
    where
      go : (a b : Bool) → cond (cond a (ends_spaced t) (b && none (past Space t))) (line_of f d) unreadable ≡
          cond a (cond (ends_spaced t) (line_of f d) unreadable) (means (cond b (Directed f) Bad) d t)
      go true b = refl
      go false true = refl
      go false false = refl

  directed-more : (x : Line) → cond (none (past Space (c ∷ t))) x unreadable ≡ cond (eqb c 32) (cond (none (past Space t)) x unreadable) unreadable
  unfolding is
  directed-more x = ap (λ (b : Bool). cond b x unreadable) (none-step c t) ∙ go (eqb c 32)
    where
      go : (b : Bool) → cond (cond b (none (past Space t)) false) x unreadable ≡ cond b (cond (none (past Space t)) x unreadable) unreadable
      go true = refl
      go false = refl

  -- One byte more keeps the meaning.
  steps : (p : Phase) → Fits p → length d ≡ 8 → means p d (c ∷ t) ≡ means (after p c) (stored p d c) t
  unfolding after stored is
  steps Start f long =
      whole-step c t ∙ ap (cond (eqb c 32) _) (sym (means-pick (eqb c 40) (Seconds 0 0) Bad d t)) ∙ sym (means-pick (eqb c 32) Blanks (cond (eqb c 40) (Seconds 0 0) Bad) d t)
  steps Blanks f long = directed-more blank ∙ sym (means-pick (eqb c 32) Blanks Bad d t)
  steps (Seconds n v) f long = seconds-more n v f
  steps (Micros s n v) f long = micros-more s n v f
  steps (Closed time) f long = timed-step c t time ∙ sym (means-pick (eqb c 32) (BeforeName time) Bad d t)
  steps (BeforeName time) f long = spaces-more time
  steps (Name time) f long = name-more time
  steps (BeforeIdentifier time) f long = gap_more time
  steps (Identifier time n v) f long = identifier-more time n v f
  steps (Data time id n) f long = data-more time id n f
  steps (Half time id n h) f long = half-more time id n h f long
  steps (Remote time) f long = remote-more time
  steps (Fd time n) f long = fd-more time n f
  steps (Behind f) x long = behind-step (line_of f d) ∙ sym (means-pick (eqb c 32) (Spaced f) Bad d t)
  steps (Spaced f) x long = spaced-more f
  steps (Directed f) x long = directed-more (line_of f d) ∙ sym (means-pick (eqb c 32) (Directed f) Bad d t)
  steps Bad f long = refl

-- No phase has a place for a CR.
no_return : (p : Phase) → after p 13 ≡ Bad
unfolding after is
no_return Start = refl
no_return Blanks = refl
no_return (Seconds n v) = rw (and-false (between 1 10 n))
no_return (Micros s n v) = rw (and-false (eqb n 6))
no_return (Closed t) = refl
no_return (BeforeName t) = refl
no_return (Name t) = refl
no_return (BeforeIdentifier t) = refl
no_return (Identifier t n v) = rw (and-false (is_identifier n v))
no_return (Data t id n) = rw (and-false (eqb n 0))
no_return (Half t id n h) = refl
no_return (Remote t) = refl
no_return (Fd t n) = rw (and-false (eqb (n % 2) 1))
no_return (Behind f) = refl
no_return (Spaced f) = refl
no_return (Directed f) = refl
no_return Bad = refl

-- Where the line ends.
stops : (p : Phase) (d : List ℕ) → Fits p → means p d [] ≡ line_of (ended p) d
unfolding ended past run opened seconds micros timed named unnamed identified data_from half_from fd_from ends is_remote is_fd
stops Start d f = refl
stops Blanks d f = refl
stops (Seconds n v) d f = rw (and-false (between 1 10 (n + 0)))
stops (Micros s n v) d f = rw (and-false (eqb (n + 0) 6))
stops (Closed t) d f = refl
stops (BeforeName t) d f = refl
stops (Name t) d f = refl
stops (BeforeIdentifier t) d f = refl
stops (Identifier t n v) d f = rw (and-false (is_identifier (n + 0) v))
stops (Data t id n) d f = rw (le-leb (n * 2 + 0) 16 (omega arith), append-nil (take n d)) (sym (found-classic t id n d))
stops (Half t id n h) d f = refl
stops (Remote t) d f = refl
stops (Fd t n) d f = rw (add-zero n, le-leb n 129 f, and-true (eqb (n % 2) 1)) (go (eqb (n % 2) 1))
  where
    go : (b : Bool) → cond (b && true) (other t) unreadable ≡ line_of (cond b (Other t) Unreadable) d
    go true = refl
    go false = refl
stops (Behind f) d x = refl
stops (Spaced f) d x = refl
stops (Directed f) d x = refl
stops Bad d f = refl

-- A byte that is stored leaves as many, and what the line would be if it ended before.
stored-keeps : (p : Phase) (d : List ℕ) (c : ℕ) → (length (stored p d c) ≡ length d) × (line_of (ended p) (stored p d c) ≡ line_of (ended p) d)
unfolding stored ended
stored-keeps Start d c = (refl, refl)
stored-keeps Blanks d c = (refl, refl)
stored-keeps (Seconds n v) d c = (refl, refl)
stored-keeps (Micros s n v) d c = (refl, refl)
stored-keeps (Closed t) d c = (refl, refl)
stored-keeps (BeforeName t) d c = (refl, refl)
stored-keeps (Name t) d c = (refl, refl)
stored-keeps (BeforeIdentifier t) d c = (refl, refl)
stored-keeps (Identifier t n v) d c = (refl, refl)
stored-keeps (Data t id n) d c = (refl, refl)
stored-keeps (Half t id n h) d c = (length-set d (n % 8) (h % 16 * 16 + worth c), refl)
stored-keeps (Remote t) d c = (refl, refl)
stored-keeps (Fd t n) d c = (refl, refl)
stored-keeps (Behind f) d c = (refl, refl)
stored-keeps (Spaced f) d c = (refl, refl)
stored-keeps (Directed f) d c = (refl, refl)
stored-keeps Bad d c = (refl, refl)

pub bad-stays : (r : Reader) (t : List ℕ) → r.phase ≡ Bad → (read_on r t).phase ≡ Bad
unfolding read_on after
bad-stays r [] e = e
bad-stays r (c ∷ t) e = bad-stays (next r c) t (go r.returned (eqb c 13))
  where
    go : (a b : Bool) → cond a Bad (cond b r.phase (after r.phase c)) ≡ Bad
    go true b = refl
    go false true = e
    go false false = rw e

-- The line that the rest t leads to, with its CR.
abbrev led_to : Reader → List ℕ → Line
led_to r t = line_of (ended (read_on r t).phase) (read_on r t).bytes

reads_on : (p : Phase) (d t : List ℕ) → Fits p → length d ≡ 8 → led_to (record { phase = p; returned = false; bytes = d }) t ≡ means p d (bare t)
unfolding read_on bare ended
reads_on p d [] f long = sym (stops p d f)
reads_on p d (c ∷ t) f long =
    go (eqb c 13) refl t (reads_on (after p c) (stored p d c) t (keeps p c f) ((stored-keeps p d c).0 ∙ long))
  where
    unreturned : (u : List ℕ) → eqb c 13 ≡ true → means p d (c ∷ u) ≡ unreadable
    unreturned u e =
        let none-there : after p c ≡ Bad = ap (after p) (eqb-true c 13 e) ∙ no_return p in
        steps c d u p f long ∙ ap (λ (q : Phase). means q (stored p d c) u) none-there

    go : (b : Bool) → eqb c 13 ≡ b → (u : List ℕ) → led_to (record { phase = after p c; returned = false; bytes = stored p d c }) u ≡ means (after p c) (stored p d c) (bare u) →
        led_to (record { phase = cond b p (after p c); returned = b; bytes = stored p d c }) u ≡ means p d (bare (c ∷ u))
    go true e [] more = (stored-keeps p d c).1 ∙ sym (stops p d f) ∙ rw e
    go true e (x ∷ u) more =
        let r : Reader = next (record { phase = p; returned = true; bytes = stored p d c }) x in
        ap (λ (q : Phase). line_of (ended q) (read_on r u).bytes) (bad-stays r u refl) ∙ sym (unreturned (bare (x ∷ u)) e)
    go false e [] more = more ∙ sym (steps c d [] p f long) ∙ rw e
    go false e (x ∷ u) more = more ∙ sym (steps c d (bare (x ∷ u)) p f long)

pub reads : Reads
unfolding read
reads l = reads_on Start (replicate 8 0) l tt refl

-- One phase alone is hopeless.
pub is-bad : (p : Phase) → hopeless p ≡ true → p ≡ Bad
unfolding hopeless
is-bad Start e = absurd (false≢true e)
is-bad Blanks e = absurd (false≢true e)
is-bad (Seconds n v) e = absurd (false≢true e)
is-bad (Micros s n v) e = absurd (false≢true e)
is-bad (Closed t) e = absurd (false≢true e)
is-bad (BeforeName t) e = absurd (false≢true e)
is-bad (Name t) e = absurd (false≢true e)
is-bad (BeforeIdentifier t) e = absurd (false≢true e)
is-bad (Identifier t n v) e = absurd (false≢true e)
is-bad (Data t id n) e = absurd (false≢true e)
is-bad (Half t id n h) e = absurd (false≢true e)
is-bad (Remote t) e = absurd (false≢true e)
is-bad (Fd t n) e = absurd (false≢true e)
is-bad (Behind f) e = absurd (false≢true e)
is-bad (Spaced f) e = absurd (false≢true e)
is-bad (Directed f) e = absurd (false≢true e)
is-bad Bad e = refl

pub hopeless-stays : Hopeless
unfolding ended
hopeless-stays r t h = ap (λ (q : Phase). line_of (ended q) (read_on r t).bytes) (bad-stays r t (is-bad r.phase h))
