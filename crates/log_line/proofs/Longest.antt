-- No log has a longer line than `LONGEST` says, so a buffer of that length has room for every one.
use Rattle.std.specs.Prelude as code
use Rattle.std.specs.Prelude.{Some}
use Prim.Native.Nat.{ℕ, zero, suc, ◌+◌, ◌-◌, ◌*◌, ◌/◌, ◌%◌, ◌≤◌, ◌<◌, max}
use native.Mathlib.Omega.{arith}
use mathlib.Core.Bool.{Bool, true, false, cond, ◌&&◌}
use mathlib.Core.List.{List, [], ◌∷◌, ◌++◌, map}
use mathlib.Core.Option.{Option, none, some}
use mathlib.Core.Path.{◌≡◌, refl, ◌∙◌}
use lib.Dec.{leb, eqb}
use lib.ListN.{length, get_or, take, drop, length-take, length-drop, length-map}
use lib.Seq.{take-append_seam}
use borrow.Author.Tests.{leb-true, leb-false, le-leb}
use Rattle.rules.specs.After.{length_bytes, service_checks, first, only, handed, checked, after}
use Rattle.rules.specs.Answers.{Part, nowhere, behind, deviation, deviation8, bad_length, overflow, Outcome, positive, suppressed, negative, timeout, pending_limit, disconnected, transport, fault, refused, if_positive, Answer, answer, refusal}
use Rattle.rules.specs.Bytes.{u32_at, every, is_byte}
use Rattle.rules.specs.Calls.{Call, request, session, reset, security, tester_present, read_memory, write_memory, read_identifier, write_identifier, fault_count, routine, download, upload, transfer, transfer_exit, fault_list, head, request_of, suppresses}
use Rattle.rules.specs.Client.{Result, asked, events_in, refuse, answered, call}
use Rattle.rules.specs.Conversations.{Every}
use Rattle.rules.specs.Events.{Form, event_size, Entry, entries_from, entries, Event, reply, idle, ended, failed, time_of, named, foreign, event_of, up_to, sound, within_limits}
use Rattle.rules.specs.Counts.{After}
use Rattle.rules.specs.Exchange.{Asked, Step, pending, settles, look, Settled, State, start, silence, waits, allows, notes, hears, turn, settle, counted, under, exchange}
use Rattle.rules.specs.Lines.{ascii, word, detail, line}
use Rattle.rules.specs.Logs as rules
use Rattle.rules.specs.Logs.{moved, form_in, header_of, flag, layout_ok, line_of, answer_of}
use Rattle.rules.specs.Refusals.{arguments, refusals}
use Rattle.rules.specs.Settings.{Setting, Lent}
use Rattle.rules.proofs.Judging.{both, judge-ind, pass-append}
use Rattle.rules.proofs.Turns.{Through, settle-ind}
use Rattle.exchange.proofs.Entries.{all_sound, few-entries}
use Rattle.text.specs.Written.{Wrote, shown}
use Rattle.text.proofs.Lines.{line-text, longest}
use Rattle.text.proofs.Numerals.{shown-fits}
use Rattle.log_line.proofs.Answering.{line-bad, line-sound}

-- 32 bits, and the latest deadline.
abbrev most : ℕ
most = 4294967295

abbrev latest : ℕ
latest = 8589934590

-- An event within the limits.
abbrev Short : Event → Type 0
Short (reply t p) = (t ≤ most) × (length p.bytes ≤ 4095)
Short (idle t) = t ≤ most
Short (ended t) = t ≤ most
Short (failed t n) = t ≤ most

module _ (listens : ℕ) (replies : List ℕ) where
  short : (e : Entry) → sound replies e ≡ true → Short (event_of listens replies e)
  short e h = go (foreign listens e) (eqb e.kind 0) (eqb e.kind 1) (eqb e.kind 2) (both (leb e.time most) _ h).1
    where
      early : e.time ≤ most
      early = leb-true e.time most (both (leb e.time most) _ h).0

      go : (f a b c : Bool)
          → cond a (leb e.size 4095 && leb (e.offset + e.size) (length replies) && every is_byte (named replies e).bytes) (leb e.kind 3 && leb e.size 65535 && eqb e.source 0) ≡ true
          → Short (cond f (idle e.time) (cond a (reply e.time (named replies e)) (cond b (idle e.time) (cond c (ended e.time) (failed e.time e.size)))))
      go true a b c k = early
      go false true b c k =
          let size = both (leb e.size 4095) (leb (e.offset + e.size) (length replies)) (both (leb e.size 4095 && leb (e.offset + e.size) (length replies)) _ k).0 in
          (early, simp (length-take, length-drop) (omega (arith, leb-true e.size 4095 size.0)))
      go false false true c k = early
      go false false false true k = early
      go false false false false k = early

  all_short : (es : List Entry) → every (sound replies) es ≡ true → Every Short (map (event_of listens replies) es)
  all_short [] h = tt
  all_short (e ∷ es) h = let k = both (sound replies e) (every (sound replies) es) h in (short e k.0, all_short es k.1)

count : (form : Form) (bs : List ℕ) (n i : ℕ) → length (entries_from form bs n i) ≡ n
unfolding entries_from
count form bs zero i = refl
count form bs (suc n) i = omega (arith, count form bs n (suc i))

few : (form : Form) (events replies : List ℕ) → within_limits form events replies ≡ true → length (entries form events) ≤ 512
few form events replies h = omega (arith, count form events (length events / event_size form) 0, few-entries form events replies h)

-- What is left to read adds at most so many events and notices.
record Bounded (events notices : ℕ) (s : Settled) : Type 0 where
  time : s.time ≤ latest
  events-most : length s.read ≤ events
  notices-most : length s.notices ≤ notices
  reply-most : length s.reply.bytes ≤ 4095

grown : {i j i' j' : ℕ} {s : Settled} → i ≤ i' → j ≤ j' → Bounded i j s → Bounded i' j' s
grown h k b = record {
  time = b.time;
  events-most = omega (arith, b.events-most);
  notices-most = omega (arith, b.notices-most);
  reply-most = b.reply-most;
}

module _ (strict : Bool) (a : Asked) (p2 : a.timing.p2 ≤ most) (star : a.timing.star ≤ most) where
  finishes : (b : Bool) (t : ℕ) → t ≤ most → cond b (max t a.timing.p2) t ≤ latest
  finishes true t h = omega arith
  finishes false t h = omega arith

  abbrev Stays : State → List Event → Settled → Type 0
  Stays s es x = Every Short es → s.deadline ≤ latest → Bounded (length s.read + length es) (length s.notices + length es) x

  quiet : (s : State) (es : List Event) → After s.deadline es → Stays s es (silence s)
  quiet s es late k h = record { time = h; events-most = omega arith; notices-most = omega arith; reply-most = omega arith }

  through : (s : State) (e : Event) (es : List Event) → time_of e ≤ s.deadline → Through Stays s e es (turn strict a s e)
  through s (reply t p) es early = by-look (look strict a s.hush p)
    where
      noted : (b : Bool) → Through Stays s (reply t p) es (notes a s t p b)
      noted true = λ x on k h. grown (omega arith) (omega arith) (on k.1 (omega (arith, k.0.0)))
      noted false = λ k h. record { time = omega (arith, k.0.0); events-most = omega arith; notices-most = omega arith; reply-most = k.0.1 }

      by-look : (z : Step) → Through Stays s (reply t p) es (hears a s t p z)
      by-look pending = noted (allows a.limit (length s.notices))
      by-look (settles o) = λ k h. record { time = finishes (waits o && suppresses a.sub) t k.0.0; events-most = omega arith; notices-most = omega arith; reply-most = k.0.1 }
  through s (idle t) es early = λ x on k h. grown (omega arith) (omega arith) (on k.1 h)
  through s (ended t) es early = λ k h. record { time = omega (arith, k.0); events-most = omega arith; notices-most = omega arith; reply-most = omega arith }
  through s (failed t n) es early = λ k h. record { time = omega (arith, k.0); events-most = omega arith; notices-most = omega arith; reply-most = omega arith }

  bounded : (es : List Event) (s : State) → Stays s es (settle strict a es s)
  bounded = settle-ind strict a Stays quiet through

up-to : (overall : ℕ) (ts : List ℕ) → up_to overall ts ≤ length ts
up-to overall [] = omega arith
up-to overall (t ∷ ts) = go (leb t overall) (up-to overall ts)
  where
    go : (b : Bool) → up_to overall ts ≤ length ts → cond b 1 0 + up_to overall ts ≤ suc (length ts)
    go true h = omega arith
    go false h = omega arith

-- The same of an answer.
record Small (x : Answer) : Type 0 where
  time : x.time ≤ latest
  events : x.events ≤ 512
  notices : x.notices ≤ 512
  reply : length x.reply.bytes ≤ 4095

under-small : (overall : Option ℕ) (s : Settled) → Bounded 512 512 s → Small (under overall s)
under-small none s b = record { time = b.time; events = b.events-most; notices = b.notices-most; reply = b.reply-most }
under-small (some t) s b = go (leb s.time t) refl
  where
    go : (q : Bool) → leb s.time t ≡ q → Small (cond q (counted s) (answer timeout t (up_to t s.read) (up_to t s.notices) nowhere))
    go true e = record { time = b.time; events = b.events-most; notices = b.notices-most; reply = b.reply-most }
    go false e = record {
      time = omega (arith, leb-false s.time t e, b.time);
      events = omega (arith, up-to t s.read, b.events-most);
      notices = omega (arith, up-to t s.notices, b.notices-most);
      reply = omega arith;
    }

-- Data is handed out of the reply.
module _ (p : Part) where
  behind-short : (k : ℕ) → length (behind k p).bytes ≤ length p.bytes
  behind-short k = simp length-drop (omega arith)

  first_short : (n k : ℕ) → length (first n (behind k p)).bytes ≤ length p.bytes
  first_short n k = simp (length-take, length-drop) (omega arith)

  only-short : (n k : ℕ) → length (only n (behind k p)).bytes ≤ length p.bytes
  only-short n k = first_short (cond (eqb (length (behind k p).bytes) n) n 0) k

  handed-short : (c : Call) → length (handed c p).bytes ≤ length p.bytes
  handed-short (request sid sub x) = behind-short (head sub)
  handed-short (session sub) = only-short 4 2
  handed-short (reset sub) = only-short 1 2
  handed-short (security sub x) = go (eqb (sub % 2) 1)
    where
      go : (b : Bool) → length (cond b (behind 2 p) (first 0 (behind 2 p))).bytes ≤ length p.bytes
      go true = behind-short 2
      go false = first_short 0 2
  handed-short tester_present = first_short 0 2
  handed-short (read_memory a s) = behind-short 1
  handed-short (write_memory a s x) = behind-short 1
  handed-short (read_identifier id) = behind-short 3
  handed-short (write_identifier id x) = first_short 0 3
  handed-short (fault_count mask) = first_short 4 2
  handed-short (routine sub id x) = behind-short 4
  handed-short (download c e a s) = first_short (length_bytes p.bytes) 2
  handed-short (upload c e a s) = first_short (length_bytes p.bytes) 2
  handed-short (transfer counter x) = behind-short 2
  handed-short (transfer_exit x) = behind-short 1
  handed-short (fault_list mask) = first_short ((length (behind 2 p).bytes - 1) / 4 * 4 + 1) 2

abbrev given : Outcome → List ℕ
given o = if_positive o (λ p. p.bytes) []

checked-short : (strict : Bool) (c : Call) (o : Outcome) (p : Part) → length p.bytes ≤ 4095 → length (given (if_positive o (λ d. checked strict c p) o)) ≤ 4095
unfolding checked
checked-short strict c (positive d) p h =
    judge-ind (λ q. length (given q) ≤ 4095) fault (service_checks strict c p.bytes) (positive (handed c p)) (λ f. omega arith) (λ k. omega (arith, handed-short p c))
checked-short strict c suppressed p h = omega arith
checked-short strict c (negative n) p h = omega arith
checked-short strict c timeout p h = omega arith
checked-short strict c disconnected p h = omega arith
checked-short strict c (transport n) p h = omega arith
checked-short strict c (fault f) p h = omega arith
checked-short strict c (refused n) p h = omega arith
checked-short strict c pending_limit p h = omega arith

-- The longest word and detail are a deviation's.
wide : (o : Outcome) (r : List ℕ) → length (given o) ≤ 4095 → length r ≤ 4095 → length (ascii (word o)) + shown (length (detail o r)) ≤ 8201
wide (positive p) r d h = omega (arith, shown-fits (length p.bytes) 8190 (omega arith) (omega arith))
wide suppressed r d h = omega arith
wide (negative c) r d h = omega arith
wide timeout r d h = omega arith
wide disconnected r d h = omega arith
wide (transport n) r d h = omega arith
wide (fault (deviation n)) r d h = omega arith
wide (fault (deviation8 least most)) r d h = omega arith
wide (fault bad_length) r d h = omega arith
wide (fault overflow) r d h = omega (arith, shown-fits (length r) 8190 (omega arith) (omega arith))
wide (refused n) r d h = omega arith
wide pending_limit r d h = omega arith

line-short : (x : Answer) → Small x → length (given x.outcome) ≤ 4095 → length (line x) ≤ 8222
line-short x s d =
    rw (line-text x)
    (longest (ascii (word x.outcome)) (detail x.outcome x.reply.bytes) x.time x.events x.notices
    (wide x.outcome x.reply.bytes d s.reply) (omega (arith, s.time)) (omega (arith, s.events)) (omega (arith, s.notices)))

module _ (strict : Bool) (w : Setting) (c : Call) (l : Lent) (p2 : w.timing.p2 ≤ most) (star : w.timing.star ≤ most) where
  heard : within_limits l.form l.events l.replies ≡ true → Small (exchange strict (asked w c) w.overall (events_in l))
  unfolding exchange
  heard h =
      let n : length (events_in l) ≤ 512 = simp length-map (few l.form l.events l.replies h) in
      let shorts = all_short l.listens l.replies (entries l.form l.events) (all_sound l.form l.events l.replies h) in
      let b = bounded strict (asked w c) p2 star (events_in l) (start (asked w c)) shorts (omega arith) in
      under-small w.overall _ (grown (omega arith) (omega arith) b)

  call-short : length (line (call strict w c l).answer) ≤ 8222
  unfolding call
  call-short =
      judge-ind (λ (x : Result). length (line x.answer) ≤ 8222) (refuse w l) (refusals c sent l.buffer l.form l.events l.replies) (answered w c l sent (after strict c x))
      (λ n. line-short (refusal n) (record { time = omega arith; events = omega arith; notices = omega arith; reply = omega arith }) (omega arith))
      (λ k. let s = heard (pass-append (arguments c) _ k).1.1.1.0 in
      line-short (after strict c x) (record { time = s.time; events = s.events; notices = s.notices; reply = s.reply }) (checked-short strict c x.outcome x.reply s.reply))
    where
      sent : List ℕ
      sent = request_of w.quiet c

      x : Answer
      x = exchange strict (asked w c) w.overall (events_in l)

module _ (l : List ℕ) (bytes : (i : ℕ) → get_or l i 0 < 256) where
  four_bytes : (i : ℕ) → u32_at l i ≤ most
  four_bytes i = omega (arith, bytes i, bytes (i + 1), bytes (i + 2), bytes (i + 2 + 1))

  answer-short : (header_of l).p2 ≤ most → (header_of l).star ≤ most → length (line (answer_of l)) ≤ 8222
  unfolding answer_of
  answer-short p2 star = let h = header_of l in call-short (eqb (flag 1 h) 1) (rules.setting_of h) (rules.call_of h l) (rules.lent_of h l) p2 star

  pub line-fits : length (line_of l) ≤ 8222
  line-fits = go (layout_ok l) refl
    where
      go : (b : Bool) → layout_ok l ≡ b → length (line_of l) ≤ 8222
      go true e = let m = moved (form_in (header_of l)) in rw (line-sound l e) (answer-short (four_bytes (24 + m)) (four_bytes (28 + m)))
      go false e = rw (line-bad l e) (omega arith)

  -- A buffer of that length always has room, and the line stands at its front.
  module _ {before after : List ℕ} {r : code.Option ℕ} (h : 8222 ≤ length before) (w : Wrote (line_of l) before r after) where
    fits : leb (length (line_of l)) (length before) ≡ true
    fits = le-leb (length (line_of l)) (length before) (omega (arith, line-fits))

    pub always-room : r ≡ Some (length (line_of l))
    always-room = w.answer ∙ rw fits

    pub stands : {n : ℕ} → r ≡ Some n → take n after ≡ line_of l
    stands {n = n} e =
        let long : n ≡ length (line_of l) = cc always-room in
        let whole : after ≡ line_of l ++ drop (length (line_of l)) before = w.line ∙ rw fits in
        rw (long, whole) (take-append_seam (line_of l) (drop (length (line_of l)) before))
