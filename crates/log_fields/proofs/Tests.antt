-- The tests of the layout, and those of the fields: the same, in another order.
use Prim.Native.Nat.{ℕ, zero, suc, ◌+◌, ◌-◌, ◌*◌, ◌/◌, ◌%◌, ◌≤◌, min}
use native.Mathlib.Omega.{arith}
use mathlib.Core.Bool.{Bool, true, false, cond, ◌&&◌, ◌||◌, and-true}
use mathlib.Core.List.{List, [], ◌∷◌, ◌++◌}
use mathlib.Core.Option.{Option, none, some}
use mathlib.Core.Path.{◌≡◌, refl, sym, ◌∙◌, ap, ap₂}
use lib.Dec.{leb, eqb}
use lib.ListN.{length}
use borrow.Author.Tests.{leb-true, le-leb, eqb-true, eq-eqb, eqb-false, lt-leb, ne_eqb}
use Rattle.rules.specs.Bytes.{u16_at, every}
use Rattle.rules.specs.Conversations.{Every}
use Rattle.rules.specs.Events.{Form, plain, addressed, Entry, event_size, entries}
use Rattle.rules.specs.Logs.{moved, Header, header_size, form_in, header_of, Uses, flag, uses_of, most_listens, all, areas_ok, fields_ok, event_ok, event_bytes, laid_out, layout_ok}
use Rattle.rules.proofs.Judging.{both, Trues, trues, trues-back}
use Rattle.rules.proofs.Opened.{byte_at}
use Rattle.log_fields.specs.Fields.{Field, at_most, zero_where, inside, heading, entry_fields, entries_fields, event_fields, fields, first, first_off}
use Rattle.log_fields.specs.Promises.{none?, Bytes, Right, Decides}
use Rattle.log_fields.proofs.Firsts.{every_append, none-off, rights, insides, alike}

-- Of an event: zero where it is unused.
unused : (t : Bool) (n : ℕ) → (leb 0 n && at_most n (zero_where t)) ≡ cond t (eqb n 0) true
unused false n = rw (le-leb 0 n (omega arith))
unused true zero = refl
unused true (suc n) = rw (le-leb 0 (suc n) (omega arith), lt-leb (suc n) 0 (omega arith), ne_eqb (suc n) 0 (λ e. omega arith)) refl

by_kind : (silent broken offset size : Bool) → (cond (silent || broken) offset true && (cond silent size true && true)) ≡ cond silent (offset && size) (cond broken offset true)
by_kind true broken true true = refl
by_kind true broken true false = refl
by_kind true broken false size = refl
by_kind false true true size = refl
by_kind false true false size = refl
by_kind false false offset size = refl

pub entry-tests : (number at : ℕ) (e : Entry) → every inside (entry_fields number at e) ≡ event_ok e
entry-tests number at e =
    let silent = eqb e.kind 1 || eqb e.kind 2 in
    let broken = eqb e.kind 3 in
    rw (unused (silent || broken) e.offset, unused silent e.size) (by_kind silent broken (eqb e.offset 0) (eqb e.size 0))

event-tests : (form : Form) (at i : ℕ) (es : List Entry) → every inside (entries_fields form at i es) ≡ every event_ok es
event-tests form at i [] = refl
event-tests form at i (e ∷ es) =
    every_append inside (entry_fields (i + 1) (at + i * event_size form) e) (entries_fields form at (suc i) es) ∙
    ap₂ (λ (a b : Bool). a && b) (entry-tests (i + 1) (at + i * event_size form) e) (event-tests form at (suc i) es)

one-or-two : (v : ℕ) → (eqb v 1 || eqb v 2) ≡ true → (1 ≤ v) × (v ≤ 2)
one-or-two v e = go (eqb v 1) refl e
  where
    go : (t : Bool) → eqb v 1 ≡ t → (t || eqb v 2) ≡ true → (1 ≤ v) × (v ≤ 2)
    go true a e = let k = eqb-true v 1 a in (omega arith, omega arith)
    go false a e = let k = eqb-true v 2 e in (omega arith, omega arith)

either : (v : ℕ) → 1 ≤ v → v ≤ 2 → (eqb v 1 || eqb v 2) ≡ true
either zero h l = absurd (omega arith)
either (suc zero) h l = refl
either (suc (suc zero)) h l = refl
either (suc (suc (suc v))) h l = absurd (omega arith)

few-fit : (form : Form) (k at : ℕ) → at + k * event_size form ≤ 65535 → k ≤ (65535 - at) / event_size form
few-fit plain k at h = omega arith
few-fit addressed k at h = omega arith

module _ (h : Header) (n : ℕ) where
  abbrev u : Uses
  u = uses_of h.call

  abbrev both-lengths : ℕ
  both-lengths = h.address_length + h.size_length

  abbrev front : List Bool
  front = leb (header_size (form_in h)) n ∷ (eqb h.version 1 || eqb h.version 2) ∷ leb h.call 15 ∷ []

  abbrev areas : List Bool
  areas =
      eqb h.arguments_at (header_size (form_in h)) ∷
      eqb h.events_at (header_size (form_in h) + h.arguments) ∷
      eqb h.replies_at (h.events_at + h.events * event_size (form_in h)) ∷
      eqb h.total (h.replies_at + h.replies) ∷
      eqb h.total n ∷ []

  abbrev used : List Bool
  used =
      leb (h.flags / 32) u.may ∷
      leb u.must (h.flags / 32) ∷
      leb (flag 16 h) u.named ∷
      leb h.value u.value ∷
      leb h.sub (u.sub + flag 16 h * 255) ∷
      leb h.address_length u.lengths ∷
      leb h.size_length u.lengths ∷
      leb h.listens (most_listens (form_in h)) ∷
      leb h.overall (flag 8 h * 4294967295) ∷
      leb both-lengths h.arguments ∷
      leb h.arguments (both-lengths + flag 32 h * 65535) ∷ []

  -- Two bytes hold where the areas begin, and where the last one ends.
  abbrev Narrow : Type 0
  Narrow = (h.events_at ≤ 65535) × (h.replies_at ≤ 65535) × (h.total ≤ 65535)

  forth : Narrow → Trues front → Trues areas → Trues used → Every Right (heading h n)
  forth w f a t =
      let v = one-or-two h.version f.1.0 in
      let events-at = eqb-true h.events_at (header_size (form_in h) + h.arguments) a.1.0 in
      let replies-at = eqb-true h.replies_at (h.events_at + h.events * event_size (form_in h)) a.1.1.0 in
      let ends = eqb-true h.total (h.replies_at + h.replies) a.1.1.1.0 in
      let most = leb-true h.arguments (both-lengths + flag 32 h * 65535) t.1.1.1.1.1.1.1.1.1.1.0 in
      let at-arguments : h.arguments ≤ min (both-lengths + flag 32 h * 65535) (65535 - header_size (form_in h)) = omega arith in
      let at-events = few-fit (form_in h) h.events (header_size (form_in h) + h.arguments) (omega arith) in
      let at-replies : h.replies ≤ 65535 - (h.events_at + h.events * event_size (form_in h)) = omega arith in (
        (omega (arith, leb-true), tt),
        (
          v,
          (
            (omega arith, omega (arith, leb-true)),
            (
              (omega (arith, leb-true), omega (arith, leb-true)),
              (
                (omega arith, omega (arith, leb-true)),
                (
                  (omega arith, omega (arith, leb-true)),
                  (
                    (omega arith, omega (arith, leb-true)),
                    (
                      (omega arith, omega (arith, leb-true)),
                      (
                        (omega arith, omega (arith, leb-true)),
                        (
                          (omega arith, omega (arith, leb-true)),
                          (
                            (omega (arith, leb-true), at-arguments),
                            (
                              (omega (arith, eqb-true), omega (arith, eqb-true)),
                              (
                                (omega arith, at-events),
                                (
                                  (omega (arith, eqb-true), omega (arith, eqb-true)),
                                  (
                                    (omega arith, at-replies),
                                    (
                                      (omega (arith, eqb-true), omega (arith, eqb-true)),
                                      (
                                        (omega (arith, eqb-true), omega (arith, eqb-true)),
                                        (
                                          (omega arith, omega (arith, leb-true)),
                                          (
                                            (omega (arith, eqb-true), omega (arith, eqb-true)),
                                            tt,
                                          ),
                                        ),
                                      ),
                                    ),
                                  ),
                                ),
                              ),
                            ),
                          ),
                        ),
                      ),
                    ),
                  ),
                ),
              ),
            ),
          ),
        ),
      )

  back : Every Right (heading h n) → Trues front × Trues areas × Trues used
  back r = (
    (le-leb (header_size (form_in h)) n (omega arith), (either h.version (omega arith) (omega arith), (le-leb h.call 15 (omega arith), tt))),
    (
      eq-eqb h.arguments_at (header_size (form_in h)) (omega arith),
      (
        eq-eqb h.events_at (header_size (form_in h) + h.arguments) (omega arith),
        (
          eq-eqb h.replies_at (h.events_at + h.events * event_size (form_in h)) (omega arith),
          (eq-eqb h.total (h.replies_at + h.replies) (omega arith), (eq-eqb h.total n (omega arith), tt)),
        ),
      ),
    ),
    (
      le-leb (h.flags / 32) u.may (omega arith),
      (
        le-leb u.must (h.flags / 32) (omega arith),
        (
          le-leb (flag 16 h) u.named (omega arith),
          (
            le-leb h.value u.value (omega arith),
            (
              le-leb h.sub (u.sub + flag 16 h * 255) (omega arith),
              (
                le-leb h.address_length u.lengths (omega arith),
                (
                  le-leb h.size_length u.lengths (omega arith),
                  (
                    le-leb h.listens (most_listens (form_in h)) (omega arith),
                    (
                      le-leb h.overall (flag 8 h * 4294967295) (omega arith),
                      (
                        le-leb both-lengths h.arguments (omega arith),
                        (
                          le-leb h.arguments (both-lengths + flag 32 h * 65535) (omega arith),
                          tt,
                        ),
                      ),
                    ),
                  ),
                ),
              ),
            ),
          ),
        ),
      ),
    ),
  )

narrow : (l : List ℕ) → Bytes l → Narrow (header_of l) (length l)
narrow l bytes =
    let pair : (i : ℕ) → u16_at l i ≤ 65535 = λ i. omega (arith, byte_at l bytes i, byte_at l bytes (i + 1)) in
    let m = moved (form_in (header_of l)) in
    (pair (16 + m), pair (20 + m), pair (22 + m))

-- Of a log: from one list of tests to the other and back; the events' stand in both.
module _ (l : List ℕ) where
  abbrev h : Header
  h = header_of l

  abbrev events : Bool
  events = every event_ok (entries (form_in h) (event_bytes h l))

  in_order : every inside (fields l) ≡ (every inside (heading h (length l)) && events)
  in_order =
      every_append inside (heading h (length l)) (event_fields h l) ∙
      ap (λ (t : Bool). every inside (heading h (length l)) && t) (event-tests (form_in h) h.events_at 0 (entries (form_in h) (event_bytes h l)))

  passes : Bytes l → layout_ok l ≡ true → every inside (fields l) ≡ true
  unfolding layout_ok
  passes bytes e =
      let b = both (laid_out h l) (fields_ok h (uses_of h.call)) e in
      let t = trues (leb (header_size (form_in h)) (length l) ∷ (eqb h.version 1 || eqb h.version 2) ∷ leb h.call 15 ∷ areas_ok h (length l) ∷ events ∷ []) b.0 in
      let r =
      forth h (length l) (narrow l bytes) (t.0, (t.1.0, (t.1.1.0, tt))) (trues (areas h (length l)) t.1.1.1.0) (trues (used h (length l)) b.1)
      in
      in_order ∙ rw (insides (heading h (length l)) r) t.1.1.1.1.0

  sound : every inside (fields l) ≡ true → layout_ok l ≡ true
  unfolding layout_ok
  sound e =
      let b = both (every inside (heading h (length l))) events (sym in_order ∙ e) in
      let r = back h (length l) (rights (heading h (length l)) b.0) in
      let laid =
      trues-back (leb (header_size (form_in h)) (length l) ∷ (eqb h.version 1 || eqb h.version 2) ∷ leb h.call 15 ∷ areas_ok h (length l) ∷ events ∷ [])
      (r.0.0, (r.0.1.0, (r.0.1.1.0, (trues-back (areas h (length l)) r.1, (b.1, tt)))))
      in
      rw laid (trues-back (used h (length l)) r.2)

pub decides : Decides
unfolding first_off
decides l bytes = alike (layout_ok l) (every inside (fields l)) (passes l bytes) (sound l) ∙ sym (none-off (fields l))
