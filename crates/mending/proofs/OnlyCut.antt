-- A log that `udslog` takes, cut at any place: refused inside the header or the arguments, and mended to a log that `udslog` takes behind them.
use Prim.Native.Nat.{ℕ, ◌+◌, ◌*◌, ◌-◌, ◌/◌, ◌≤◌, ◌<◌}
use native.Mathlib.Omega.{arith}
use mathlib.Core.Bool.{Bool, true, false, ◌||◌}
use mathlib.Core.List.{List, [], ◌∷◌}
use mathlib.Core.Path.{◌≡◌, refl, sym, ◌∙◌, ap, subst, subst⁻¹}
use lib.Dec.{leb, eqb}
use lib.ListN.{length, take, length-take}
use lib.Seq.{take_all, take-take, get_or-take}
use borrow.Author.Tests.{leb-true, leb-false, le-leb, lt-leb}
use Rattle.rules.specs.Bytes.{u16_at, every, is_byte}
use Rattle.rules.specs.Calls.{Call, request_of}
use Rattle.rules.specs.Client.{call}
use Rattle.rules.specs.Conversations.{Every}
use Rattle.rules.specs.Demand3.{Refused}
use Rattle.rules.specs.Events.{Form, plain, addressed, event_size, entries, sound, within_limits}
use Rattle.rules.specs.InOrder.{Check, unless}
use Rattle.rules.specs.Logs.{Header, form_of, header_size, form_in, header_of, flag, Uses, uses_of, most_listens, fields_ok, event_ok, argument_bytes, event_bytes, reply_bytes, layout_ok, setting_of, call_of, lent_of, answer_of, area}
use Rattle.rules.specs.Refusals.{arguments}
use Rattle.rules.proofs.Judging.{trues, trues-back, pass-append, append-pass}
use Rattle.rules.proofs.OfBytes.{bytes-area}
use Rattle.rules.proofs.Writing.{every_take}
use Rattle.mending.specs.Mend.{arguments_in, events_in, left_in, kept, mended_header, mended_log, Report, report, refused, mended, headed, mending, readable, mend}
use Rattle.mending.specs.Promises.{Taken, entries_of, others, Kept, Saved, Cut, OnlyCut}
use Rattle.mending.proofs.Cuts.{take-taken, area-cut, header-cut, call_same, passes, rising-take, sounds-left, within}
use Rattle.mending.proofs.Judged.{all_read, gives-18, gives-19, gives-log}
use Rattle.mending.proofs.Promises.{keeps-the-old, no-longer-than-it, still-bad}
use Rattle.mending.proofs.Runs.{Fits, fits_whole, entries-front, run_fits}
use Rattle.mending.proofs.Taken.{Laid, laid, short, events-there, left_there, accepts, in-limits}
use Rattle.mending.proofs.Written.{length-area, kept-few, kept_whole, length-kept}

-- "Arguments are address, size, data": the two lengths are among them.
lengths-in : (h : Header) (u : Uses) → fields_ok h u ≡ true → h.address_length + h.size_length ≤ h.arguments
lengths-in h u ok =
    let t =
    trues
    (leb (h.flags / 32) u.may ∷
    leb u.must (h.flags / 32) ∷
    leb (flag 16 h) u.named ∷
    leb h.value u.value ∷
    leb h.sub (u.sub + flag 16 h * 255) ∷
    leb h.address_length u.lengths ∷
    leb h.size_length u.lengths ∷
    leb h.listens (most_listens (form_in h)) ∷
    leb h.overall (flag 8 h * 4294967295) ∷
    leb (h.address_length + h.size_length) h.arguments ∷
    leb h.arguments (h.address_length + h.size_length + flag 32 h * 65535) ∷ [])
    ok
    in
    leb-true (h.address_length + h.size_length) h.arguments t.1.1.1.1.1.1.1.1.1.0

least : (form : Form) → 36 ≤ header_size form
least plain = omega arith
least addressed = omega arith

module _ (l : List ℕ) (t : Taken l) (n : ℕ) where
  abbrev h : Header
  h = header_of l

  abbrev form : Form
  form = form_in h

  abbrev start : ℕ
  start = header_size form + h.arguments

  abbrev cut : List ℕ
  cut = take n l

  facts : Laid h l
  facts = laid l t.sound

  in-full : start + h.events * event_size form + h.replies ≡ length l
  in-full = let k = facts in omega (arith, k.total, k.full)

  cut_short : length cut ≤ 65535
  cut_short = omega (arith, length-take n l, short l t.bytes facts)

  cut-bytes : every is_byte cut ≡ true
  cut-bytes = every_take is_byte n l t.bytes

  same-header : header_size form ≤ n → header_of cut ≡ h
  same-header long = header-cut l n t.bytes (omega (arith, in-full)) long

  -- Cut inside the header: its first two bytes say its version, or it has not even these.
  in-header : n < header_size form → mend cut ≡ refused 18
  in-header less =
      let g = header_of cut in
      all_read cut cut_short ∙ gives-18 g cut (rw (lt-leb (header_size (form_in g)) (length cut) (go (leb 2 n) refl)))
    where
      go : (b : Bool) → leb 2 n ≡ b → length cut < header_size (form_in (header_of cut))
      go true two =
          let more = leb-true 2 n two in
          let version : u16_at cut 0 ≡ u16_at l 0 = rw (get_or-take n l 0 0 (omega arith), get_or-take n l 1 0 (omega arith)) in
          let size = ap (λ (v : ℕ). header_size (form_of v)) version in
          omega (arith, length-take n l)
      go false two = omega (arith, least (form_in (header_of cut)), length-take n l, leb-false 2 n two)

  headed-cut : header_size form ≤ n → headed h cut ≡ true
  headed-cut long =
      let z = trues (leb (header_size form) (length l) ∷ (eqb h.version 1 || eqb h.version 2) ∷ leb h.call 15 ∷ []) facts.head in
      let enough = le-leb (header_size form) (length cut) (omega (arith, length-take n l, in-full)) in
      trues-back (leb (header_size form) (length cut) ∷ (eqb h.version 1 || eqb h.version 2) ∷ leb h.call 15 ∷ []) (enough, (z.1.0, (z.1.1.0, tt)))

  in-arguments : header_size form ≤ n → n < start → mend cut ≡ refused 19
  in-arguments long less =
      all_read cut cut_short ∙
      ap (λ (g : Header). mending g cut) (same-header long) ∙
      gives-19 h cut (headed-cut long) (lt-leb start (length cut) (omega (arith, length-take n l)))

  module _ (behind : start ≤ n) where
    abbrev log : List ℕ
    log = mended_log h cut

    abbrev told : Report
    told = report h (mended_header h cut)

    long : header_size form ≤ n
    long = omega arith

    args : start ≤ length cut
    args = omega (arith, length-take n l, in-full)

    is : mend cut ≡ mended log told
    is =
        all_read cut cut_short ∙
        ap (λ (g : Header). mending g cut) (same-header long) ∙
        gives-log h cut (headed-cut long) (le-leb start (length cut) args)

    -- What is left of the areas is the front of each.
    arguments-cut : arguments_in h cut ≡ arguments_in h l
    arguments-cut =
        area-cut l n (header_size form) h.arguments ∙
        take_all (n - header_size form) (arguments_in h l) (omega (arith, length-area l (header_size form) h.arguments))

    events-cut : events_in h cut ≡ take (n - start) (event_bytes h l)
    events-cut = area-cut l n start (h.events * event_size form) ∙ ap (take (n - start)) (events-there h l facts)

    left_cut : left_in h cut ≡ take (n - (start + h.events * event_size form)) (reply_bytes h l)
    left_cut = area-cut l n (start + h.events * event_size form) h.replies ∙ ap (take (n - (start + h.events * event_size form))) (left_there h l facts)

    entries-cut : take (kept h cut) (entries form (events_in h cut)) ≡ take (kept h cut) (entries_of l)
    entries-cut =
        let bs = take (n - start) (event_bytes h l) in
        let q = length bs / event_size form in
        let few : kept h cut ≤ q = fits_whole form (kept h cut) (length bs) (omega (arith, kept_whole h cut, ap (λ (x : List ℕ). length x) events-cut)) in
        ap (λ (x : List ℕ). take (kept h cut) (entries form x)) events-cut ∙
        ap (take (kept h cut)) (entries-front form (event_bytes h l) (n - start)) ∙
        take-take (kept h cut) q (entries_of l) few

    old : Kept cut log told
    old = keeps-the-old cut log told cut-bytes is

    whole-cut : readable cut ≡ cut
    whole-cut = take_all 65535 cut cut_short

    same_entries : entries_of log ≡ take (kept h cut) (entries_of l)
    same_entries = old.entries ∙ ap (λ (x : List ℕ). take (kept h cut) (entries form (events_in h x))) whole-cut ∙ entries-cut

    same-replies : reply_bytes (header_of log) log ≡ left_in h cut
    same-replies = ap (λ (g : Header). reply_bytes g log) (sym old.new) ∙ old.replies ∙ ap (left_in h) whole-cut

    same-arguments : arguments_in (mended_header h cut) log ≡ arguments_in h l
    same-arguments = old.arguments ∙ ap (arguments_in h) whole-cut ∙ arguments-cut

    layout : layout_ok log ≡ true
    layout =
        let k = facts in
        let fields = ap (λ (g : Header). fields_ok g (uses_of g.call)) (sym old.new) ∙ k.fields in
        still-bad cut log told cut-bytes is ∙ rw (same_entries, every_take event_ok (kept h cut) (entries_of l) k.events, fields)

    -- The kept events are within the limits: they were, and their reply bytes are among those left.
    all_fit : Every (Fits (length (left_in h cut))) (take (kept h cut) (entries_of l))
    all_fit =
        let es = entries form (events_in h cut) in
        subst (Every (Fits (length (left_in h cut)))) (take-take (kept h cut) 512 es (kept-few h cut) ∙ entries-cut) (run_fits 0 (length (left_in h cut)) (take 512 es))

    in-the-limits : within_limits form (event_bytes (mended_header h cut) log) (reply_bytes (mended_header h cut) log) ≡ true
    in-the-limits =
        let k = kept h cut in
        let events : event_bytes (mended_header h cut) log ≡ take (k * event_size form) (events_in h cut) =
        old.events ∙ ap (λ (x : List ℕ). take (k * event_size form) (events_in h x)) whole-cut
        in
        let replies : reply_bytes (mended_header h cut) log ≡ left_in h cut = old.replies ∙ ap (left_in h) whole-cut in
        let es : entries form (event_bytes (mended_header h cut) log) ≡ take k (entries_of l) =
        ap (λ (g : Header). entries (form_in g) (event_bytes g log)) old.new ∙ same_entries
        in
        let s = in-limits l t in
        let left-bytes = bytes-area cut (start + h.events * event_size form) h.replies cut-bytes in
        within form k (event_bytes (mended_header h cut) log) (reply_bytes (mended_header h cut) log)
        (ap (λ (x : List ℕ). length x) events ∙ length-kept h cut)
        (kept-few h cut)
        (rw es (rising-take k 0 (entries_of l) s.in_order))
        (rw (es, replies) (sounds-left (reply_bytes h l) (left_in h cut) (take k (entries_of l)) left-bytes (every_take (sound (reply_bytes h l)) k (entries_of l) s.each) all_fit))

    same-call : call_of h log ≡ call_of h l
    same-call = call_same h log l (lengths-in h (uses_of h.call) facts.fields) same-arguments

    answered : ¬ Refused (answer_of log).outcome
    unfolding answer_of
    answered =
        let strict = eqb (flag 1 h) 1 in
        let w = setting_of h in
        let g = mended_header h cut in
        let p = pass-append (arguments (call_of h l)) _ (accepts l t).pass in
        let message = request_of w.quiet (call_of h l) in
        let lent = lent_of g log in
        let last : List (Check ℕ) =
        unless (leb (length message) 4095) 8 ∷ unless (leb (length message) (length lent.buffer)) 9 ∷ unless (within_limits form lent.events lent.replies) 10 ∷ []
        in
        let pass = append-pass (arguments (call_of h l)) last p.0 (p.1.0, (p.1.1.0, (in-the-limits, tt))) in
        subst (λ (x : Header). ¬ Refused (call (eqb (flag 1 x) 1) (setting_of x) (call_of x log) (lent_of x log)).answer.outcome) old.new
        (subst⁻¹ (λ (c : Call). ¬ Refused (call strict w c lent).answer.outcome) same-call (passes strict w (call_of h l) lent pass))

    saved : Saved l cut
    saved = record {
      log = log;
      report = told;
      is = is;
      taken = record { bytes = (no-longer-than-it cut log told cut-bytes is).0; sound = layout; answered = answered };
      same = ap others (sym old.new);
      arguments =
          ap (λ (g : Header). argument_bytes g log) (sym old.new) ∙ same-arguments ∙ ap (λ (i : ℕ). area l i h.arguments) (sym facts.arguments_at);
      events = same_entries;
      replies =
          same-replies ∙
          left_cut ∙
          sym (take-taken (n - (start + h.events * event_size form)) (reply_bytes h l)) ∙
          ap (λ (x : List ℕ). take (length x) (reply_bytes h l)) (sym left_cut);
    }

pub only-cut : OnlyCut
only-cut l t n = record { in-header = in-header l t n; in-arguments = in-arguments l t n; behind = saved l t n }
