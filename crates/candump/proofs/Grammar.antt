-- What one character more in front does to each part of the grammar.
use Prim.Native.Nat.{ℕ, suc, ◌+◌, ◌-◌, ◌*◌, ◌%◌, ◌<◌}
use native.Mathlib.Nat.{add-zero}
use native.Mathlib.Omega.{arith}
use mathlib.Core.Bool.{Bool, true, false, cond, ◌&&◌, ◌||◌, false≢true, and-false}
use mathlib.Core.List.{List, [], ◌∷◌}
use mathlib.Core.Path.{◌≡◌, refl, sym, ◌∙◌, ap}
use lib.Dec.{leb, eqb}
use lib.ListN.{length}
use borrow.Author.Tests.{ne_eqb, eqb-true, leb-true, lt-leb}
use Rattle.candump.specs.Text.{between, Class, Space, Digit, Hex, Printable, is, run, past, worth}
use Rattle.candump.specs.Lines.{blank, unreadable, front, rest, none, some, is_direction, ends, content}
use Rattle.candump.specs.Lines.{is_identifier, identifier, identified, unnamed, named, timed, micros, seconds, opened, whole}

pub and-mid : (a b c : Bool) → b ≡ false → (a && b && c) ≡ false
and-mid true b c e = rw e
and-mid false b c e = refl

module _ (k : Class) (c : ℕ) (t : List ℕ) where
  pub run-yes : is k c ≡ true → run k (c ∷ t) ≡ c ∷ run k t
  unfolding run
  run-yes e = rw e

  pub run-no : is k c ≡ false → run k (c ∷ t) ≡ []
  unfolding run
  run-no e = rw e

  pub past-yes : is k c ≡ true → past k (c ∷ t) ≡ past k t
  unfolding past
  past-yes e = rw e

  pub past-no : is k c ≡ false → past k (c ∷ t) ≡ c ∷ t
  unfolding past
  past-no e = rw e

pub worth-small : (c : ℕ) → worth c < 16
unfolding worth
worth-small c = omega arith

pub digit-small : (c : ℕ) → is Digit c ≡ true → worth c < 10
unfolding worth is
digit-small c e = go (leb 48 c) (leb c 57) refl refl e
  where
    go : (a b : Bool) → leb 48 c ≡ a → leb c 57 ≡ b → (a && b) ≡ true → worth c < 10
    go true true ea eb h =
        let small : worth c ≡ (c - 48) % 16 = rw eb in
        rw small (omega (arith, leb-true c 57 eb))
    go true false ea eb h = absurd (false≢true h)
    go false b ea eb h = absurd (false≢true h)

-- No hex digit opens a remote or a CAN FD frame.
pub hex-not : (c d : ℕ) → is Hex c ≡ true → is Hex d ≡ false → eqb c d ≡ false
hex-not c d e f = ne_eqb c d (λ same. false≢true (sym f ∙ ap (is Hex) (sym same) ∙ e))

-- Of spaces, of a space and a direction: what may follow the content's first space.
abbrev pub ends_spaced : List ℕ → Bool
ends_spaced t = none (past Space t) || (is_direction (front (past Space t)) && none (past Space (rest (past Space t))))

module _ (c : ℕ) (t : List ℕ) where
  pub ends-step : ends (c ∷ t) ≡ cond (is Space c) (ends_spaced t) false
  unfolding ends
  ends-step = go (is Space c) refl
    where
      go : (b : Bool) → is Space c ≡ b →
          none (past Space (c ∷ t)) || (some (run Space (c ∷ t)) && is_direction (front (past Space (c ∷ t))) && none (past Space (rest (past Space (c ∷ t))))) ≡
          cond b (ends_spaced t) false
      go true e = rw (past-yes Space c t e, run-yes Space c t e)
      go false e = rw (past-no Space c t e, run-no Space c t e)

  pub spaced-step : ends_spaced (c ∷ t) ≡ cond (is Space c) (ends_spaced t) (is_direction c && none (past Space t))
  spaced-step = go (is Space c) refl
    where
      go : (b : Bool) → is Space c ≡ b → ends_spaced (c ∷ t) ≡ cond b (ends_spaced t) (is_direction c && none (past Space t))
      go true e = rw (past-yes Space c t e)
      go false e = rw (past-no Space c t e)

  pub none-step : none (past Space (c ∷ t)) ≡ cond (is Space c) (none (past Space t)) false
  none-step = go (is Space c) refl
    where
      go : (b : Bool) → is Space c ≡ b → none (past Space (c ∷ t)) ≡ cond b (none (past Space t)) false
      go true e = rw (past-yes Space c t e)
      go false e = rw (past-no Space c t e)

  pub whole-step : whole (c ∷ t) ≡ cond (is Space c) (cond (none (past Space t)) blank unreadable) (cond (eqb c 40) (seconds 0 0 t) unreadable)
  unfolding opened is
  whole-step = go (is Space c) refl
    where
      go : (b : Bool) → is Space c ≡ b →
          whole (c ∷ t) ≡ cond b (cond (none (past Space t)) blank unreadable) (cond (eqb c 40) (seconds 0 0 t) unreadable)
      go true e = rw (past-yes Space c t e, ne_eqb c 40 (omega (arith, eqb-true c 32 e)))
      go false e = rw (past-no Space c t e)

  module _ (n v : ℕ) where
    pub seconds-step : seconds n v (c ∷ t) ≡
        cond (is Digit c) (seconds (n + 1) (v * 10 + worth c) t) (cond (between 1 10 n && eqb c 46) (micros v 0 0 t) unreadable)
    unfolding seconds
    seconds-step = go (is Digit c) refl
      where
        go : (b : Bool) → is Digit c ≡ b → seconds n v (c ∷ t) ≡
            cond b (seconds (n + 1) (v * 10 + worth c) t) (cond (between 1 10 n && eqb c 46) (micros v 0 0 t) unreadable)
        go true e =
            let one : n + suc (length (run Digit t)) ≡ n + 1 + length (run Digit t) = omega arith in
            rw (run-yes Digit c t e, past-yes Digit c t e, one)
        go false e = rw (run-no Digit c t e, past-no Digit c t e, add-zero n)

    pub seconds-over : 10 < n → seconds n v t ≡ unreadable
    unfolding seconds
    seconds-over h = rw (lt-leb (n + length (run Digit t)) 10 (omega arith), and-false (leb 1 (n + length (run Digit t))))

    module _ (s : ℕ) where
      pub micros-step : micros s n v (c ∷ t) ≡
          cond (is Digit c) (micros s (n + 1) (v * 10 + worth c) t) (cond (eqb n 6 && eqb c 41) (timed (s * 1000000 + v) t) unreadable)
      unfolding micros
      micros-step = go (is Digit c) refl
        where
          go : (b : Bool) → is Digit c ≡ b → micros s n v (c ∷ t) ≡
              cond b (micros s (n + 1) (v * 10 + worth c) t) (cond (eqb n 6 && eqb c 41) (timed (s * 1000000 + v) t) unreadable)
          go true e =
              let one : n + suc (length (run Digit t)) ≡ n + 1 + length (run Digit t) = omega arith in
              rw (run-yes Digit c t e, past-yes Digit c t e, one)
          go false e = rw (run-no Digit c t e, past-no Digit c t e, add-zero n)

      pub micros-over : 6 < n → micros s n v t ≡ unreadable
      unfolding micros
      micros-over h = rw (ne_eqb (n + length (run Digit t)) 6 (omega arith))

    module _ (time : ℕ) where
      pub identified-step : identified time n v (c ∷ t) ≡
          cond (is Hex c) (identified time (n + 1) (v * 16 + worth c) t) (cond (is_identifier n v && eqb c 35) (content time (identifier n v) t) unreadable)
      unfolding identified
      identified-step = go (is Hex c) refl
        where
          go : (b : Bool) → is Hex c ≡ b → identified time n v (c ∷ t) ≡
              cond b (identified time (n + 1) (v * 16 + worth c) t) (cond (is_identifier n v && eqb c 35) (content time (identifier n v) t) unreadable)
          go true e =
              let one : n + suc (length (run Hex t)) ≡ n + 1 + length (run Hex t) = omega arith in
              rw (run-yes Hex c t e, past-yes Hex c t e, one)
          go false e = rw (run-no Hex c t e, past-no Hex c t e, add-zero n)

      pub identified-over : 8 < n → identified time n v t ≡ unreadable
      unfolding identified
      identified-over h =
          rw (ne_eqb (n + length (run Hex t)) 3 (omega arith), ne_eqb (n + length (run Hex t)) 8 (omega arith))

  module _ (time : ℕ) where
    pub timed-step : timed time (c ∷ t) ≡ cond (is Space c) (named time (past Space t)) unreadable
    unfolding timed
    timed-step = go (is Space c) refl
      where
        go : (b : Bool) → is Space c ≡ b → timed time (c ∷ t) ≡ cond b (named time (past Space t)) unreadable
        go true e = rw (run-yes Space c t e, past-yes Space c t e)
        go false e = rw (run-no Space c t e)

    pub named_step : named time (c ∷ t) ≡ cond (is Printable c) (unnamed time (past Printable t)) unreadable
    unfolding named
    named_step = go (is Printable c) refl
      where
        go : (b : Bool) → is Printable c ≡ b → named time (c ∷ t) ≡ cond b (unnamed time (past Printable t)) unreadable
        go true e = rw (run-yes Printable c t e, past-yes Printable c t e)
        go false e = rw (run-no Printable c t e)

    pub unnamed-step : unnamed time (c ∷ t) ≡ cond (is Space c) (identified time 0 0 (past Space t)) unreadable
    unfolding unnamed
    unnamed-step = go (is Space c) refl
      where
        go : (b : Bool) → is Space c ≡ b → unnamed time (c ∷ t) ≡ cond b (identified time 0 0 (past Space t)) unreadable
        go true e = rw (run-yes Space c t e, past-yes Space c t e)
        go false e = rw (run-no Space c t e)
