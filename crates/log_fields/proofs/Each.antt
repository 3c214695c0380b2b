-- What holds of each field of a log: its number stands at its place, its name is short, and what it should be can stand there where the fields before it are right.
use Prim.Native.Nat.{ℕ, zero, suc, ◌+◌, ◌-◌, ◌*◌, ◌/◌, ◌%◌, ◌≤◌, ◌<◌}
use native.Mathlib.Omega.{arith}
use mathlib.Core.Bool.{Bool, true, false, cond, ◌||◌}
use mathlib.Core.List.{List, [], ◌∷◌, ◌++◌}
use mathlib.Core.Option.{none, some}
use mathlib.Core.Path.{◌≡◌, refl, sym, ◌∙◌, ap, ap₂}
use lib.Dec.{leb, ltb, eqb}
use lib.ListN.{length, get_or, take, drop, length-append, length-take, length-drop}
use lib.Seq.{get_or-take, get_or-drop}
use borrow.Author.Tests.{leb-true}
use Rattle.rules.specs.Bytes.{u16_at, every}
use Rattle.rules.specs.Conversations.{Every}
use Rattle.rules.specs.Events.{Form, plain, addressed, event_size, Entry, entry_at, entries_from, entries}
use Rattle.rules.specs.Lines.{ascii, digit, decimal_to, decimal}
use Rattle.rules.specs.Logs.{header_size, Header, form_in, header_of, Uses, nothing, uses_by_call, uses_of, all, most_listens, listens_at9, area, event_bytes}
use Rattle.rules.proofs.Judging.{both, Trues, trues}
use Rattle.log_fields.specs.Fields.{number_at, widest, Field, zero_where, nine, heading, entry_fields, entries_fields, event_fields, fields}
use Rattle.log_fields.specs.Promises.{UpTo, Under, Possible}
use Rattle.log_fields.proofs.Firsts.{all_append, Along, along-append}

abbrev pub Fine : List ℕ → Field → Type 0
Fine l f = (f.found ≡ number_at f.read l f.at) × (length f.name ≤ 34)

nine-stands : (form : Form) (l : List ℕ) → listens_at9 form l ≡ number_at (nine form) l 9
nine-stands plain l = refl
nine-stands addressed l = refl

header-fine : (l : List ℕ) → let h = header_of l in Every (Fine l) (heading h (length l))
header-fine l =
    let h = header_of l in (
      (refl, omega arith),
      (
        (refl, omega arith),
        (
          (refl, omega arith),
          (
            (refl, omega arith),
            (
              (refl, omega arith),
              (
                (refl, omega arith),
                (
                  (refl, omega arith),
                  (
                    (refl, omega arith),
                    (
                      (refl, omega arith),
                      (
                        (nine-stands (form_in h) l, omega arith),
                        (
                          (refl, omega arith),
                          (
                            (refl, omega arith),
                            (
                              (refl, omega arith),
                              (
                                (refl, omega arith),
                                (
                                  (refl, omega arith),
                                  (
                                    (refl, omega arith),
                                    (
                                      (refl, omega arith),
                                      (
                                        (refl, omega arith),
                                        (
                                          (refl, omega arith),
                                          tt,
                                        ),
                                      ),
                                    ),
                                  ),
                                ),
                              ),
                            ),
                          ),
                        ),
                      ),
                    ),
                  ),
                ),
              ),
            ),
          ),
        ),
      ),
    )

-- What a call uses of a header can stand there: where data must be present, it may; no call has a sub-function both always and by flag 16.
abbrev tests : Uses → List Bool
tests u =
    leb u.must u.may ∷
    leb u.may 1 ∷
    leb u.named 1 ∷
    leb u.value 65535 ∷
    leb (u.sub + u.named * 255) 255 ∷
    leb u.lengths 255 ∷ []

fits : (c : ℕ) → Trues (tests (uses_of c))
fits c = trues (tests (uses_of c)) (row uses_by_call refl c)
  where
    row : (us : List Uses) → every (λ u. all (tests u)) us ≡ true → (i : ℕ) → all (tests (get_or us i nothing)) ≡ true
    row [] e i = refl
    row (u ∷ us) e zero = (both (all (tests u)) _ e).0
    row (u ∷ us) e (suc i) = row us (both (all (tests u)) _ e).1 i

nine-possible : (form : Form) → (0 ≤ most_listens form) × UpTo 0 (widest (nine form)) × UpTo (most_listens form) (widest (nine form))
nine-possible plain = (omega arith, omega arith, omega arith)
nine-possible addressed = (omega arith, omega arith, omega arith)

small-header : (form : Form) → header_size form ≤ 37
small-header plain = omega arith
small-header addressed = omega arith

fewer : (form : Form) (n : ℕ) → n / event_size form ≤ n
fewer plain n = omega arith
fewer addressed n = omega arith

at-most : (form : Form) (k n : ℕ) → k ≤ n / event_size form → k * event_size form ≤ n
at-most plain k n h = omega arith
at-most addressed k n h = omega arith

header-possible : (h : Header) (n : ℕ) → Along Possible (heading h n)
header-possible h n =
    let fit = fits h.call in
    let u = uses_of h.call in
    let must = leb-true u.must u.may fit.0 in
    let may = leb-true u.may 1 fit.1.0 in
    let named = leb-true u.named 1 fit.1.1.0 in
    let value = leb-true u.value 65535 fit.1.1.1.0 in
    let sub = leb-true (u.sub + u.named * 255) 255 fit.1.1.1.1.0 in
    let lengths = leb-true u.lengths 255 fit.1.1.1.1.1.0 in
    let small = small-header (form_in h) in (
      (tt, tt, tt),
      λ right-headed. (
        (omega arith, omega arith, omega arith),
        λ right-version. (
          (omega arith, omega arith, omega arith),
          λ right-call. (
            (omega arith, omega arith, omega arith),
            λ right-flags. (
              (omega arith, omega arith, omega arith),
              λ right-flag. (
                (omega arith, omega arith, omega arith),
                λ right-value. (
                  (omega arith, omega arith, omega arith),
                  λ right-sub. (
                    (omega arith, omega arith, omega arith),
                    λ right-address. (
                      (omega arith, omega arith, omega arith),
                      λ right-size. (
                        nine-possible (form_in h),
                        λ right-listens. (
                          (omega (arith, small), omega (arith, small), omega arith),
                          λ right-arguments. (
                            (omega arith, omega (arith, small), omega (arith, small)),
                            λ right-begins. (
                              (omega arith, omega arith, omega (arith, fewer (form_in h) (65535 - (header_size (form_in h) + h.arguments)))),
                              λ right-events.
                                  let these = at-most (form_in h) h.events (65535 - (header_size (form_in h) + h.arguments)) right-events.1 in (
                                    (omega arith, omega (arith, small), omega (arith, small)),
                                    λ right-events_at. (
                                      (omega arith, omega arith, omega arith),
                                      λ right-replies. (
                                        (omega arith, omega (arith, small, these), omega (arith, small, these)),
                                        λ right-replies_at. (
                                          (omega arith, omega (arith, small, these), omega (arith, small, these)),
                                          λ right-total. (
                                            (omega arith, omega arith, omega arith),
                                            λ right-overall. (
                                              (omega arith, tt, tt),
                                              λ right-file. tt,
                                            ),
                                          ),
                                        ),
                                      ),
                                    ),
                                  ),
                            ),
                          ),
                        ),
                      ),
                    ),
                  ),
                ),
              ),
            ),
          ),
        ),
      ),
    )

-- Decimals are of 20 digits at most.
digits : (n v : ℕ) → length (decimal_to n v) ≤ n + 1
unfolding decimal_to
digits zero v = omega arith
digits (suc n) v = go (ltb v 10) (digits n (v / 10))
  where
    go : (t : Bool) → length (decimal_to n (v / 10)) ≤ n + 1 → length (cond t (digit v ∷ []) (decimal_to n (v / 10) ++ (digit (v % 10) ∷ []))) ≤ suc n + 1
    go true h = omega arith
    go false h = simp length-append (omega arith)

pub twenty : (v : ℕ) → length (decimal v) ≤ 20
twenty v = digits 19 v

-- In an area: the byte, and the pair, at index j of it.
byte-in : (l : List ℕ) (at m j : ℕ) → j < length (area l at m) → get_or (area l at m) j 0 ≡ get_or l (at + j) 0
byte-in l at m j h = get_or-take m (drop at l) j 0 (omega (arith, length-take m (drop at l))) ∙ get_or-drop at l j 0

pair-in : (l : List ℕ) (at m j k : ℕ) → j + 2 ≤ length (area l at m) → at + j ≡ k → u16_at (area l at m) j ≡ u16_at l k
pair-in l at m j k h e =
    ap₂ (λ (a b : ℕ). a * 256 + b) (byte-in l at m j (omega arith) ∙ ap (λ (x : ℕ). get_or l x 0) e)
    (byte-in l at m (j + 1) (omega arith) ∙ ap (λ (x : ℕ). get_or l x 0) (omega arith))

pub in_area : (form : Form) (i n : ℕ) → i < n / event_size form → i * event_size form + 10 ≤ n
in_area plain i n h = omega arith
in_area addressed i n h = omega arith

could-be : (t : Bool) → UpTo 0 (zero_where t) × (0 ≤ 65535) × Under (zero_where t) (some 65535)
could-be true = (omega arith, omega arith, omega arith)
could-be false = (tt, omega arith, tt)

entries-possible : (form : Form) (at i : ℕ) (es : List Entry) → Every Possible (entries_fields form at i es)
entries-possible form at i [] = tt
entries-possible form at i (e ∷ es) =
    let silent = eqb e.kind 1 || eqb e.kind 2 in
    (could-be (silent || eqb e.kind 3), (could-be silent, entries-possible form at (suc i) es))

module _ (l : List ℕ) (form : Form) (at m : ℕ) where
  abbrev bs : List ℕ
  bs = area l at m

  events-fine : (k i : ℕ) → i + k ≤ length bs / event_size form → Every (Fine l) (entries_fields form at i (entries_from form bs k i))
  unfolding entries_from
  events-fine zero i h = tt
  events-fine (suc k) i h =
      let inner = in_area form i (length bs) (omega arith) in
      let short = twenty (i + 1) in (
        (pair-in l at m (i * event_size form + 6) (at + i * event_size form + 6) (omega arith) (omega arith), simp length-append (omega arith)),
        (
          (pair-in l at m (i * event_size form + 8) (at + i * event_size form + 8) (omega arith) (omega arith), simp length-append (omega arith)),
          events-fine k (suc i) (omega arith),
        ),
      )

pub all-fine : (l : List ℕ) → Every (Fine l) (fields l)
all-fine l =
    let h = header_of l in
    let bs = event_bytes h l in
    all_append (Fine l) (heading h (length l)) (event_fields h l) (header-fine l)
    (events-fine l (form_in h) h.events_at (h.events * event_size (form_in h)) (length bs / event_size (form_in h)) 0 (omega arith))

pub all-possible : (l : List ℕ) → Along Possible (fields l)
all-possible l =
    let h = header_of l in
    along-append Possible (heading h (length l)) (event_fields h l) (header-possible h (length l))
    (entries-possible (form_in h) h.events_at 0 (entries (form_in h) (event_bytes h l)))
