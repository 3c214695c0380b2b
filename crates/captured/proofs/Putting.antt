-- The parts of a log, put one by one.
use Prim.Native.Nat.{ℕ, zero, suc, ◌+◌, ◌*◌, ◌≤◌}
use native.Mathlib.Nat.{add-zero, zero-add}
use native.Mathlib.Numerals.{add-one}
use native.Mathlib.Omega.{arith}
use mathlib.Core.Bool.{Bool, true, false, cond, false≢true}
use mathlib.Core.List.{List, [], ◌∷◌, ◌++◌, map, append_assoc, append-nil}
use mathlib.Core.Option.{Option, none, some}
use mathlib.Core.Path.{◌≡◌, refl, sym, ◌∙◌, ap, subst⁻¹}
use lib.Dec.{leb}
use lib.ListN.{length}
use lib.Seq.{drop-length}
use borrow.Author.Tests.{le-leb, leb-true}
use Rattle.rules.specs.Events.{Form, plain, event_size, Entry, entry_at}
use Rattle.rules.specs.Events as Events
use Rattle.rules.specs.Logs.{Header, header_size, form_in, header_of, argument_bytes}
use Rattle.rules.specs.Writing.{put_header, put_entry, put_entries}
use Rattle.rules.proofs.Laying.{entries-length}
use Rattle.rules.proofs.Writing.{writing}
use Rattle.wire.specs.Buffers.{Copied, with}
use Rattle.mending.specs.Mend.{corrected}
use Rattle.mend.specs.Recounted.{recounted}
use Rattle.mend.proofs.Copies.{over, copied_more}
use Rattle.captured.specs.Capture.{is_call, from, log_of, capture}
use Rattle.captured.specs.Answered.{Places, Captures}
use Rattle.captured.specs.declared.NoCapture.TheVariants.{TooLong, NoCall}
use Rattle.std.specs.Prelude.{Ok, Err}
use Rattle.captured.proofs.Written.{put-long, length-arguments, length-log}

-- The events, one by one.
module _ (form : Form) (source : ℕ) (bs : List ℕ) where
  abbrev pub first : ℕ → List ℕ
  first n = put_entries form (map (from source) (Events.entries_from plain bs n 0))

  one-behind : (n i : ℕ) → Events.entries_from plain bs (suc n) i ≡ Events.entries_from plain bs n i ++ (entry_at plain bs (i + n) ∷ [])
  unfolding Events.entries_from
  one-behind zero i = ap (λ (k : ℕ). entry_at plain bs k ∷ []) (sym (add-zero i))
  one-behind (suc n) i =
      let next : suc i + n ≡ i + suc n = omega arith in
      ap (λ (es : List Entry). entry_at plain bs i ∷ es)
      (one-behind n (suc i) ∙ ap (λ (k : ℕ). Events.entries_from plain bs n (suc i) ++ (entry_at plain bs k ∷ [])) next)

  put-behind : (es : List Entry) (e : Entry) →
      put_entries form (map (from source) (es ++ (e ∷ []))) ≡ put_entries form (map (from source) es) ++ put_entry form (from source e)
  put-behind [] e = append-nil (put_entry form (from source e))
  put-behind (x ∷ es) e =
      ap (λ (t : List ℕ). put_entry form (from source x) ++ t) (put-behind es e) ∙
      sym (append_assoc (put_entry form (from source x)) (put_entries form (map (from source) es)) (put_entry form (from source e)))

  first_more : (n : ℕ) → first (n + 1) ≡ first n ++ put_entry form (from source (entry_at plain bs n))
  first_more n =
      ap (λ (k : ℕ). first k) (add-one n) ∙
      ap (λ (es : List Entry). put_entries form (map (from source) es)) (one-behind n 0) ∙
      put-behind (Events.entries_from plain bs n 0) (entry_at plain bs (0 + n)) ∙
      ap (λ (k : ℕ). first n ++ put_entry form (from source (entry_at plain bs k))) (zero-add n)

  pub first-long : (n : ℕ) → length (first n) ≡ n * event_size form
  first-long n = put-long form source (Events.entries_from plain bs n 0) ∙ ap (λ (k : ℕ). k * event_size form) (entries-length plain bs n 0)

  pub none-put : first 0 ≡ []
  unfolding Events.entries_from
  none-put = refl

  pub next-put : (out l o : List ℕ) (n : ℕ) {e : Entry} {done : Bool} → (n + 1) * event_size form ≤ length out → e ≡ from source (entry_at plain bs n) →
      l ≡ over (first n) out → Copied l (n * event_size form) (put_entry form e) done o → o ≡ over (first (n + 1)) out
  next-put out l o n {e = e} room here p q =
      let one = writing.entry-long form e in
      let piece : put_entry form e ≡ put_entry form (from source (entry_at plain bs n)) = ap (put_entry form) here in
      copied_more (first n) (put_entry form e) out p (sym (first-long n)) (omega (arith, one)) q
      ∙ ap (λ (x : List ℕ). over x out) (ap (λ (x : List ℕ). first n ++ x) piece ∙ sym (first_more n))

  -- They fill the buffer.
  pub all-first : (out l : List ℕ) (n : ℕ) → length out ≡ n * event_size form → l ≡ over (first n) out → l ≡ first n
  all-first out l n full p =
      let long : length (first n) ≡ length out = first-long n ∙ sym full in
      p ∙ rw (long, drop-length out) (append-nil (first n))

-- What is answered.
module _ (call : List ℕ) (es : List Entry) (rs before : List ℕ) where
  pub no_call : is_call call ≡ false → Captures call es rs before (Err NoCall) before
  unfolding capture
  no_call e = record { answer = rw e; buffer = rw e; inside = rw e tt }

  module _ (ok : is_call call ≡ true) where
    abbrev h : Header
    h = header_of call

    abbrev total : ℕ
    total = header_size (form_in h) + h.arguments + length es * event_size (form_in h) + length rs

    abbrev given : Option Header → Header
    given none = h
    given (some x) = x

    abbrev some-there : Option Header → Bool
    some-there none = false
    some-there (some x) = true

    pub too_long : none ≡ recounted h (length es) (length rs) → Captures call es rs before (Err TooLong) before
    unfolding capture
    too_long e = go (leb total 65535) refl e
      where
        go : (b : Bool) → leb total 65535 ≡ b → none ≡ cond b (some (corrected h (length es) (length rs))) none → Captures call es rs before (Err TooLong) before
        go true eb k = absurd (false≢true (ap some-there k))
        go false eb k =
            let n = ap (λ (k : ℕ). leb k 65535) (length-log call es rs ok) ∙ eb in
            record { answer = rw (ok, n); buffer = rw (ok, n); inside = rw (ok, n) tt }

    -- What a header that was recounted says.
    pub record Recounts (new : Header) : Type 0 where
      pub same : new ≡ corrected h (length es) (length rs)
      pub short : total ≤ 65535

    pub recounts : {new : Header} → some new ≡ recounted h (length es) (length rs) → Recounts new
    recounts {new} e = go (leb total 65535) refl e
      where
        go : (b : Bool) → leb total 65535 ≡ b → some new ≡ cond b (some (corrected h (length es) (length rs))) none → Recounts new
        go true eb k = record { same = ap given k; short = leb-true total 65535 eb }
        go false eb k = absurd (false≢true (sym (ap some-there k)))

    pub places : {new : Header} → Recounts new → Places new (length (argument_bytes h call)) (length es) (length rs)
    places {new} c =
        let n = length-arguments call es rs ok in
        subst⁻¹ (λ (g : Header). Places g (length (argument_bytes h call)) (length es) (length rs)) c.same
        (record { arguments = refl; events = omega arith; replies = omega arith; end = omega (arith, c.short) })

    pub written : {new : Header} {after : List ℕ} {n : ℕ} → Recounts new → n ≡ new.total → length before ≡ 65535 →
        after ≡ with before 0 (put_header new ++ (argument_bytes h call ++ (put_entries (form_in new) (map (from new.listens) es) ++ rs))) →
        Captures call es rs before (Ok n) after
    unfolding capture
    written {new} {after} {n} c en room p =
        let long = length-log call es rs ok in
        let fits = le-leb (length (log_of call es rs)) 65535 (omega (arith, c.short)) in
        let same = p ∙ ap (λ (g : Header). with before 0 (put_header g ++ (argument_bytes h call ++ (put_entries (form_in g) (map (from g.listens) es) ++ rs)))) c.same in
        let end : n ≡ length (log_of call es rs) = en ∙ ap (λ (g : Header). g.total) c.same ∙ sym long in
        record { answer = rw (ok, fits) (ap Ok end); buffer = rw (ok, fits) same; inside = rw (ok, fits) (omega (arith, long, c.short)) }
