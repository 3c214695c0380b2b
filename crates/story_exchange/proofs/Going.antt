-- The loop over the events: what holds at each of them, and what that gives when the story ends.
use Prim.Native.Nat.{ℕ, ◌+◌, ◌-◌, ◌/◌, ◌≤◌, ◌<◌}
use native.Mathlib.Nat.{sub-zero}
use native.Mathlib.Omega.{arith}
use mathlib.Core.Bool.{Bool, true, false, cond, ◌&&◌}
use mathlib.Core.List.{List, [], ◌∷◌, ◌++◌, map, append_assoc}
use mathlib.Core.Option.{Option, none, some}
use mathlib.Core.Path.{◌≡◌, refl, sym, ◌∙◌, ap, subst}
use lib.Dec.{leb}
use lib.ListN.{length}
use Rattle.rules.specs.Events.{Form, event_size, Entry, entry_at, entries_from, entries}
use Rattle.rules.specs.Exchange as rules
use Rattle.rules.specs.Exchange.{Asked, on, ends}
use Rattle.exchange.specs.Meaning.{outcome_of}
use Rattle.exchange.specs.Places.{Turns}
use Rattle.exchange.specs.States.{state_of, start_of}
use Rattle.exchange.specs.declared.types.Settled.{Settled}
use Rattle.exchange.specs.declared.types.State.{State}
use Rattle.exchange.specs.declared.types.Turn.{Turn}
use Rattle.exchange.specs.declared.types.Turn.TheVariants.{On, Ends}
use Rattle.exchange.proofs.Entries.{next-entry, no-entry}
use Rattle.telling.specs.Story.{Line, read, unread, within, silent, cut, tell}
use Rattle.rules.specs.Lines as Lines
use Rattle.telling.specs.Words as Words
use Rattle.telling.specs.Words.{what, timed, judged, on_text, end_text, said, joined}
use Rattle.telling.proofs.Ways.{tell_none, tell-late, tell-on, tell-ends}
use Rattle.text.specs.Written.{Adds}
use Rattle.story_exchange.specs.Ends.{silent_text, cut_text, rest_text}
use Rattle.text.proofs.Adding.{both, saying, nothing}
use Rattle.story_lines.proofs.Wording.{judged-anywhere}
use Rattle.story_exchange.proofs.Turned.{Goes, goes, Stops, stops}

started : (a : Asked) (overall : Option ℕ) → start_of a ≡ state_of overall (rules.start a)
started a none = refl
started a (some overall) = refl

pub joined-append : (listens : ℕ) (r : List ℕ) (a b : List Line) → joined listens r (a ++ b) ≡ joined listens r a ++ joined listens r b
joined-append listens r [] b = refl
joined-append listens r (x ∷ a) b =
    ap (λ (l : List ℕ). said listens r x ++ l) (joined-append listens r a b) ∙ sym (append_assoc (said listens r x) (joined listens r a) (joined listens r b))

-- What T does to a call, and what silence says, hang on neither the replies nor the address.
cut-same : (overall : Option ℕ) (listens : ℕ) (r : List ℕ) (y : rules.Settled) → cut_text overall y.time ≡ joined listens r (cut overall y)
unfolding said
cut-same none listens r y = refl
cut-same (some overall) listens r y = go (leb y.time overall)
  where
    go : (b : Bool) → joined 0 [] (cond b [] (Line.over overall ∷ [])) ≡ joined listens r (cond b [] (Line.over overall ∷ []))
    go true = refl
    go false = refl

silent-same : (overall : Option ℕ) (listens : ℕ) (r : List ℕ) (s : rules.State) → silent_text overall s.deadline s.hush ≡ said listens r (silent overall s)
unfolding said
silent-same none listens r s = refl
silent-same (some overall) listens r s = go (leb s.deadline overall)
  where
    go : (b : Bool) → said 0 [] (cond b (Line.late (rules.state s.hush s.deadline [] [])) (Line.over overall)) ≡ said listens r (cond b (Line.late s) (Line.over overall))
    go true = refl
    go false = refl

module _ (strict : Bool) (a : Asked) (overall : Option ℕ) (form : Form) (listens : ℕ) (events replies : List ℕ) where
  abbrev lines : List Entry → rules.State → List ℕ
  lines es s = joined listens replies (tell strict a overall listens replies es s)

  abbrev whole : List ℕ
  whole = lines (entries form events) (rules.start a)

  -- At event i: a state of `rules` that the code's stands for; what is told from there on, behind what was told, is the whole.
  pub record Going (before : List ℕ) (at count i n : ℕ) (now : State) (text : List ℕ) : Type 0 where
    pub state : rules.State
    pub counted : count ≡ length events / event_size form
    pub stands : now ≡ state_of overall state
    pub passed : length state.read ≡ i
    pub fewer : length state.notices ≤ i
    pub long : length text ≡ length before
    pub rest : {m : List ℕ} {r : ℕ} → Adds (lines (entries_from form events (count - i) i) state) text n r m → Adds whole before at r m

  pub first : {before : List ℕ} {at count : ℕ} {now : State} → count ≡ length events / event_size form → now ≡ start_of a → Going before at count 0 at now before
  first {count = count} c e = record {
    state = rules.start a;
    counted = c;
    stands = e ∙ started a overall;
    passed = refl;
    fewer = omega arith;
    long = refl;
    rest = λ x. saying (ap (λ (k : ℕ). lines (entries_from form events k 0) (rules.start a)) (sub-zero count ∙ c)) x;
  }

  module _ {before text : List ℕ} {at count i n : ℕ} {now : State} (g : Going before at count i n now text) where
    -- Silence, and the events from here on.
    ended : lines (entries_from form events (count - i) i) g.state ≡ said listens replies (silent overall g.state) ++ joined listens replies (map unread (entries_from form events (count - i) i))
        → {m : List ℕ} {r : ℕ} → Adds (silent_text overall now.deadline now.hush ++ rest_text form listens events replies i) text n r m → Adds whole before at r m
    ended e x =
        let now-is : silent_text overall now.deadline now.hush ≡ said listens replies (silent overall g.state) =
        (λ j. silent_text overall (g.stands j).deadline (g.stands j).hush) ∙ silent-same overall listens replies g.state in
        let same : silent_text overall now.deadline now.hush ++ rest_text form listens events replies i ≡ lines (entries_from form events (count - i) i) g.state =
        (λ j. now-is j ++ joined listens replies (map unread (entries_from form events (sym g.counted j - i) i))) ∙ sym e in
        g.rest (saying same x)

    pub no_more : count ≤ i → {m : List ℕ} {r : ℕ} → Adds (silent_text overall now.deadline now.hush ++ rest_text form listens events replies i) text n r m → Adds whole before at r m
    no_more h =
        let none = no-entry form events count i h in
        ended (ap (λ (es : List Entry). lines es g.state) none ∙ ap (joined listens replies) (tell_none strict a overall listens replies g.state) ∙
        ap (λ (es : List Entry). said listens replies (silent overall g.state) ++ joined listens replies (map unread es)) (sym none))

    module _ {e : Entry} (here : e ≡ entry_at form events i) (more : i < count) where
      abbrev behind : List Entry
      behind = entries_from form events (count - (i + 1)) (i + 1)

      next : entries_from form events (count - i) i ≡ e ∷ behind
      next = next-entry form events count i e here more

      abbrev Reads : Bool → Type 0
      Reads b = (leb e.time now.deadline && within overall e.time) ≡ b

      reads : {b : Bool} → Reads b → (leb e.time g.state.deadline && within overall e.time) ≡ b
      reads h = (λ j. leb e.time (sym g.stands j).deadline && within overall e.time) ∙ h

      pub too-late : Reads false → {m : List ℕ} {r : ℕ} → Adds (silent_text overall now.deadline now.hush ++ rest_text form listens events replies i) text n r m → Adds whole before at r m
      too-late h =
          ended (ap (λ (es : List Entry). lines es g.state) next ∙ ap (joined listens replies) (tell-late strict a overall listens replies g.state e behind (reads h)) ∙
          ap (λ (es : List Entry). said listens replies (silent overall g.state) ++ joined listens replies (map unread es)) (sym next))

      module _ (room : count ≤ 18446744073709551615) {x : Turn} (turns : Turns strict a overall listens now e replies x) (h : Reads true) where
        taken : (y : Turn) → x ≡ y → Turns strict a overall listens (state_of overall g.state) e replies y
        taken y p = subst (λ (w : Turn). Turns strict a overall listens (state_of overall g.state) e replies w) p
            (subst (λ (s : State). Turns strict a overall listens s e replies x) g.stands turns)

        few : length g.state.notices ≤ length g.state.read
        few = omega (arith, g.fewer, g.passed)

        enough : length g.state.read < 18446744073709551615
        enough = omega (arith, g.passed)

        pub after_on : {s : State} {k : ℕ} {m : List ℕ} → x ≡ On s
            → Adds (timed e.time (what listens replies e) ++ on_text listens e now.deadline s.read.all s.notices.all s.deadline) text n k m
            → length m ≡ length text → Going before at count (i + 1) k s m
        unfolding said
        after_on {s} {k} {m} p line same = go (goes strict a overall listens replies g.state e few enough (taken (On s) p))
          where
            go : Goes strict a overall listens replies g.state e few enough s → Going before at count (i + 1) k s m
            go t = record {
              state = t.behind;
              counted = g.counted;
              stands = t.stands;
              passed = omega (arith, t.read, g.passed);
              fewer = omega (arith, t.noted, t.read, g.passed);
              long = same ∙ g.long;
              rest = λ y. g.rest (saying
                  ((λ j. timed e.time (what listens replies e) ++ on_text listens e (g.stands j).deadline (t.stands j).read.all (t.stands j).notices.all (t.stands j).deadline ++ lines behind t.behind) ∙
                  sym (ap (λ (es : List Entry). lines es g.state) next ∙ ap (joined listens replies) (tell-on strict a overall listens replies g.state e behind t.behind (reads h) t.turns)))
                  (both line y));
            }

        pub ends_it : {s : Settled} {r : ℕ} {m : List ℕ} → x ≡ Ends s
            → Adds (timed e.time (what listens replies e) ++ end_text e now.deadline (outcome_of [] s.outcome) s.read.all s.time ++ cut_text overall s.time ++ rest_text form listens events replies (i + 1)) text n r m
            → Adds whole before at r m
        unfolding said end_text
        ends_it {s} {r} {m} p line = go (stops strict a overall listens replies g.state e few enough (taken (Ends s) p))
          where
            go : Stops strict a overall listens replies g.state e few enough s → Adds whole before at r m
            go t =
                let y = t.settled in
                let judges : judged (outcome_of [] s.outcome) ≡ judged y.outcome = judged-anywhere replies s.outcome ∙ ap judged t.outcome in
                let front : timed e.time (what listens replies e) ++ end_text e now.deadline (outcome_of [] s.outcome) s.read.all s.time ≡ said listens replies (read e g.state (ends y)) =
                (λ j. timed e.time (what listens replies e) ++ (judges j ++ Words.tail (t.read j) (Words.ending e.time (t.time j)) (t.time j) (Lines.ascii " ms; deadline ") (g.stands j).deadline)) in
                let cuts : cut_text overall s.time ≡ joined listens replies (cut overall y) = ap (cut_text overall) t.time ∙ cut-same overall listens replies y in
                let rests : rest_text form listens events replies (i + 1) ≡ joined listens replies (map unread behind) =
                ap (λ (c : ℕ). joined listens replies (map unread (entries_from form events (c - (i + 1)) (i + 1)))) (sym g.counted) in
                let all = (λ j. front j ++ cuts j ++ rests j) ∙ append_assoc (said listens replies (read e g.state (ends y))) (joined listens replies (cut overall y)) (joined listens replies (map unread behind)) ∙
                ap (λ (l : List ℕ). said listens replies (read e g.state (ends y)) ++ l) (sym (joined-append listens replies (cut overall y) (map unread behind))) in
                g.rest (saying (all ∙ sym (ap (λ (es : List Entry). lines es g.state) next ∙ ap (joined listens replies) (tell-ends strict a overall listens replies g.state e behind y (reads h) t.turns))) line)

-- The events never read, one by one.
module _ (form : Form) (listens : ℕ) (events replies : List ℕ) where
  pub record Resting (before : List ℕ) (at first count i n : ℕ) (text : List ℕ) : Type 0 where
    pub counted : count ≡ length events / event_size form
    pub long : length text ≡ length before
    pub rest : {m : List ℕ} {r : ℕ} → Adds (rest_text form listens events replies i) text n r m → Adds (rest_text form listens events replies first) before at r m

  module _ {before text : List ℕ} {at first count i n : ℕ} (g : Resting before at first count i n text) where
    pub rest-next : {e : Entry} {k : ℕ} {m : List ℕ} → e ≡ entry_at form events i → i < count
        → Adds (timed e.time (what listens replies e) ++ Lines.ascii ": never read.\n") text n k m → length m ≡ length text → Resting before at first count (i + 1) k m
    unfolding said
    rest-next {e} {k} {m} here more line same =
        let c = sym g.counted in
        let next : entries_from form events (length events / event_size form - i) i ≡ e ∷ entries_from form events (length events / event_size form - (i + 1)) (i + 1) =
        next-entry form events (length events / event_size form) i e here (omega (arith, g.counted)) in
        record {
          counted = g.counted;
          long = same ∙ g.long;
          rest = λ y. g.rest (saying (sym (ap (λ (es : List Entry). joined listens replies (map unread es)) next)) (both line y));
        }

    pub rest-done : count ≤ i → Adds (rest_text form listens events replies first) before at n text
    rest-done h =
        g.rest (saying (sym (ap (λ (es : List Entry). joined listens replies (map unread es)) (no-entry form events (length events / event_size form) i (omega (arith, g.counted))))) (nothing text n))
